use Rattle.std.proofs.Common.{◌≡◌, map, take}
use Rattle.std.specs.Prelude.{pos}
use Rattle.pages.specs.Headers.{number_of}
use Rattle.row_group.proofs.chunk_styles.numbers_of.Given as goal

-- the numbers of the encodings so far
abbrev pub invariant-loop-encoding : goal.invariant-loop-encoding
invariant-loop-encoding l = l.numbers.items ≡ map (λ e. pos (number_of e)) (take l.encoding-index l.encodings)
