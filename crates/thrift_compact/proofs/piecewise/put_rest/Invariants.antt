use Rattle.std.proofs.Common.{take}
use Rattle.bits.specs.Codec.{Appends}
use Rattle.thrift_compact.specs.View.{field_views}
use Rattle.thrift_compact.specs.Piecewise.{AreBegun, size_begun}
use Rattle.thrift_compact.proofs.piecewise.put_rest.Given as goal

-- the fields so far are written, and `last` is the id of the last one
abbrev pub invariant-loop-field : goal.invariant-loop-field
invariant-loop-field l = let front = field_views (take l.field-index l.fields) in Appends (AreBegun 32 front l.previous l.last) (size_begun front l.previous) l.fn.out.items l.out.items
