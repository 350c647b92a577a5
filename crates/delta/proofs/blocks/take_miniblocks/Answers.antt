use Rattle.std.proofs.Common.{ℕ, List, ◌+◌, get_or, map, drop, subst, sym}
use Rattle.std.specs.Prelude.{ℤ}
use Rattle.std.specs.Int.{w64, cast_signed, cast_unsigned}
use Rattle.std.proofs.lemmas.Int.{to_z-of_z}
use Rattle.bits.specs.Refusals.{IsFault}
use Rattle.bits.specs.Codec.{NothingStands}
use Rattle.bits.proofs.Passing.{passes}
use Rattle.delta.specs.Delta.{IsMiniblock, AreMiniblocks}
use Rattle.delta.specs.inner.Taken.{AreTaken}
use Rattle.delta.proofs.Taking.{IsReading, reading_begins, reading_goes_on, reading_fails, reading_ends}
use Rattle.delta.proofs.blocks.take_miniblocks.Goals as goal

pub loop-width-init : goal.loop-width-init
loop-width-init g c = record {
  some = c.requires.some;
  reading = reading_begins g.T.Integer.width (cast_signed w64 (cast_unsigned w64 c.args.least)) c.args.size c.args.widths.now c.args.bytes.now c.args.left (map g.T.Integer.seen c.args.values.now.items);
}

pub returns-in_err-at-clause-only : goal.returns-in_err-at-clause-only
returns-in_err-at-clause-only g c =
    let ws = c.args.widths.now in
    let bytes = c.args.bytes.now in
    let size = c.args.size in
    let at = c.loop-width.at in
    let i = c.loop-width.width-index in
    passes (λ e. IsFault e → NothingStands (AreMiniblocks size ws bytes)) c.from_residual.result c.in_err-at.field-0.0 c.from_residual.ensures.1
    (λ fault.
    let none : NothingStands (IsMiniblock size (get_or ws i 0) (drop at bytes)) = subst (λ (t : List ℕ). NothingStands (IsMiniblock size (get_or ws i 0) t)) c.split_at.ensures.back (c.in_err-at.ensures.only fault) in
    reading_fails g.T.Integer.width (cast_signed w64 (cast_unsigned w64 c.args.least)) size c.args.left at c.loop-width.rest i ws bytes (map g.T.Integer.seen c.args.values.now.items) (map g.T.Integer.seen c.loop-width.values.items) c.loop-width-test.true none c.loop-width.invariant.reading)

pub loop-width-preserved : goal.loop-width-preserved
loop-width-preserved g c =
    let seen = g.T.Integer.seen in
    let w = g.T.Integer.width in
    let least = cast_signed w64 (cast_unsigned w64 c.args.least) in
    let ws = c.args.widths.now in
    let bytes = c.args.bytes.now in
    let size = c.args.size in
    let at = c.loop-width.at in
    let i = c.loop-width.width-index in
    let rest = c.loop-width.rest in
    let old = map seen c.args.values.now.items in
    let mid = map seen c.loop-width.values.items in
    let new = map seen c.take_miniblock.new.values.items in
    let used = c.in_ok-at.field-0 in
    let taken : AreTaken (IsMiniblock size (get_or ws i 0) (drop at bytes)) w least rest mid new used =
    subst (λ (t : List ℕ). AreTaken (IsMiniblock size (get_or ws i 0) t) w least rest mid new used) c.split_at.ensures.back c.in_ok-at.ensures.taken in
    record {
      some = c.in_ok-at.ensures.some;
      reading = subst (λ (k : ℕ). IsReading w least size ws bytes c.args.left old new (at + used) k (i + 1)) (sym c.saturating_sub-rest.ensures)
          (reading_goes_on w least size c.args.left at rest i used ws bytes old mid new c.loop-width-test.true taken c.loop-width.invariant.reading);
    }

pub returns-clause-taken : goal.returns-clause-taken
returns-clause-taken g c =
    let seen = g.T.Integer.seen in
    let w = g.T.Integer.width in
    let least = cast_signed w64 (cast_unsigned w64 c.args.least) in
    let old = map seen c.args.values.now.items in
    let new = map seen c.loop-width.values.items in
    let ends = reading_ends w least c.args.size c.args.left c.loop-width.at c.loop-width.rest c.loop-width.width-index c.args.widths.now c.args.bytes.now old new c.loop-width-test.false c.loop-width.invariant.reading in
    subst (λ (z : ℤ). AreTaken (AreMiniblocks c.args.size c.args.widths.now c.args.bytes.now) w z c.args.left old new c.loop-width.at) (to_z-of_z w64 c.args.least c.ranges.least) ends
