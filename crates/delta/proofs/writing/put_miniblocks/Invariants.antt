use Rattle.std.proofs.Common.{ℕ, ◌*◌, ◌<◌, ◌≤◌, take}
use Rattle.std.specs.Prelude.{slice_index}
use Rattle.bits.specs.Codec.{Appends}
use Rattle.delta.specs.Delta.{AreMiniblocks}
use Rattle.delta.specs.inner.Put.{Extends}
use Rattle.delta.proofs.writing.put_miniblocks.Given as goal

abbrev pub invariant-loop-m : goal.invariant-loop-m
invariant-loop-m l = record {
  stands : (most : ℕ) → ((k : ℕ) → k < 4 → slice_index l.widths k ≤ 8 * most) → Appends (λ bytes used. AreMiniblocks 32 (take l.m l.widths) bytes (take (32 * l.m) l.numbers) used) (32 * most * l.m) l.fn.out.items l.out.items;
  front : Extends l.fn.out.items l.out.items;
}
