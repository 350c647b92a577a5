use Rattle.std.proofs.Common.{◌≡◌, ℕ, List, ◌+◌, ◌≤◌, ◌∙◌, length, map, take, drop, ap, subst, arith, rules, FitsSigned}
use Rattle.std.specs.Prelude.{ℤ}
use Rattle.std.specs.Int.{w64}
use Rattle.std.proofs.lemmas.Int.{to_z-of_z}
use Rattle.std.proofs.lemmas.List.{drop-drop, length-drop}
use Rattle.bits.specs.Refusals.{IsFault}
use Rattle.bits.specs.Codec.{NothingStands}
use Rattle.bits.proofs.Passing.{passes}
use Rattle.delta.specs.Delta.{AreMiniblocks, IsBlock}
use Rattle.delta.specs.inner.Taken.{AreTaken}
use Rattle.delta.proofs.Taking.{block_taken, no_block}
use Rattle.delta.proofs.blocks.take_block.Goals as goal

pub returns-in_err-used-clause-only : goal.returns-in_err-used-clause-only
returns-in_err-used-clause-only g c =
    let bytes = c.args.bytes.now in
    let m = c.args.miniblocks in
    let k = c.args.needed in
    let at = c.in_ok-least.at in
    let widths : c.split_at-3.result.0.now ≡ take k (take m (drop at bytes)) = c.split_at-3.ensures.front ∙ ap (λ (t : List ℕ). take k t) (c.split_at-2.ensures.front ∙ ap (λ (t : List ℕ). take m t) c.split_at.ensures.back) in
    let body : c.split_at-2.result.1.now ≡ drop (at + m) bytes = c.split_at-2.ensures.back ∙ ap (λ (t : List ℕ). drop m t) c.split_at.ensures.back ∙ drop-drop m at bytes in
    passes (λ e. IsFault e → NothingStands (IsBlock m c.args.size k bytes)) c.from_residual-in_err-used.result c.in_err-used.field-0.0 c.from_residual-in_err-used.ensures.1
    (λ fault. no_block m c.args.size k at c.in_ok-least.least bytes c.split_at-3.result.0.now c.split_at-2.result.1.now c.in_ok-least.ensures.stands widths body (c.in_err-used.ensures.only fault))

pub returns-clause-taken : goal.returns-clause-taken
returns-clause-taken g c =
    let seen = g.T.Integer.seen in
    let bytes = c.args.bytes.now in
    let m = c.args.miniblocks in
    let k = c.args.needed in
    let at = c.in_ok-least.at in
    let widths : c.split_at-3.result.0.now ≡ take k (take m (drop at bytes)) = c.split_at-3.ensures.front ∙ ap (λ (t : List ℕ). take k t) (c.split_at-2.ensures.front ∙ ap (λ (t : List ℕ). take m t) c.split_at.ensures.back) in
    let body : c.split_at-2.result.1.now ≡ drop (at + m) bytes = c.split_at-2.ensures.back ∙ ap (λ (t : List ℕ). drop m t) c.split_at.ensures.back ∙ drop-drop m at bytes in
    let within : at ≤ length bytes = c.in_ok-least.ensures.within in
    let room : at + m ≤ length bytes = omega (arith, within, c.if-rest-miniblocks.false, ap length c.split_at.ensures.back, length-drop at bytes) in
    let fits : FitsSigned w64 c.unzigzag.result = search rules in
    block_taken g.T.Integer.width c.unzigzag.result m c.args.size k c.args.left at c.in_ok-least.least c.in_ok-used.used bytes c.split_at-3.result.0.now c.split_at-2.result.1.now
    (map seen c.args.values.now.items) (map seen c.take_miniblocks.new.values.items) c.in_ok-least.ensures.stands c.unzigzag.ensures.undone room widths body
    (subst (λ (z : ℤ). AreTaken (AreMiniblocks c.args.size c.split_at-3.result.0.now c.split_at-2.result.1.now) g.T.Integer.width z c.args.left (map seen c.args.values.now.items) (map seen c.take_miniblocks.new.values.items) c.in_ok-used.used) (to_z-of_z w64 c.unzigzag.result fits) c.in_ok-used.ensures.taken)
