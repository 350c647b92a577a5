use Rattle.std.proofs.Common.{◌≡◌, ◌<◌, ◌^◌, ◌∙◌, ℕ, List, map, drop, sym, ap, subst, arith}
use Rattle.std.specs.Prelude.{All}
use Rattle.std.proofs.lemmas.List.{length-map, drop-map}
use Rattle.std.proofs.lemmas.List.Elements.{All-drop}
use Rattle.bits.specs.Refusals.{IsFault}
use Rattle.bits.proofs.Passing.{passes}
use Rattle.hybrid_rle.specs.inner.Put.{IsPut}
use Rattle.hybrid_rle.proofs.Putting.{writing_begins, writing_more, writing_ends}
use Rattle.hybrid_rle.proofs.writing.put_runs.Goals as goal

pub runs-init : goal.runs-init
runs-init g c = writing_begins c.args.width (map g.T.Number.seen c.args.numbers.now) c.args.out.now.items

pub runs-preserved : goal.runs-preserved
runs-preserved g c =
    let seen = g.T.Number.seen in
    let w = c.args.width in
    let xs = map seen c.args.numbers.now in
    let at = c.runs.at in
    let rest : map seen c.split_at.result.1.now ≡ drop at xs = ap (λ t. map seen t) c.split_at.ensures.back ∙ sym (drop-map seen at c.args.numbers.now) in
    let put : IsPut w (drop at xs) c.runs.out.items c.put_run.new.out.items c.in_ok-at.field-0 = subst (λ (t : List ℕ). IsPut w t c.runs.out.items c.put_run.new.out.items c.in_ok-at.field-0) rest c.in_ok-at.ensures.put in
    writing_more w at c.in_ok-at.field-0 xs c.args.out.now.items c.runs.out.items c.put_run.new.out.items (omega (arith, length-map c.args.numbers.now seen, c.runs-test.true)) put c.runs.invariant

pub returns-in_err-at-clause-unfit : goal.returns-in_err-at-clause-unfit
returns-in_err-at-clause-unfit g c =
    let seen = g.T.Number.seen in
    let w = c.args.width in
    let xs = map seen c.args.numbers.now in
    let at = c.runs.at in
    let rest : map seen c.split_at.result.1.now ≡ drop at xs = ap (λ t. map seen t) c.split_at.ensures.back ∙ sym (drop-map seen at c.args.numbers.now) in
    passes (λ e. IsFault e → All (λ x. x < 2 ^ w) xs → ⊥) c.from_residual.result c.in_err-at.field-0.0 c.from_residual.ensures.1
    (λ fault all. c.in_err-at.ensures.unfit fault (subst (λ (t : List ℕ). All (λ x. x < 2 ^ w) t) (sym rest) (All-drop (λ x. x < 2 ^ w) at xs all)))

pub returns-clause-stands : goal.returns-clause-stands
returns-clause-stands g c =
    let xs = map g.T.Number.seen c.args.numbers.now in
    writing_ends c.args.width c.runs.at xs c.args.out.now.items c.runs.out.items (omega (arith, length-map c.args.numbers.now g.T.Number.seen, c.runs-test.false)) c.runs.invariant
