use Rattle.std.proofs.Common.{◌≡◌, ◌+◌, ◌-◌, ◌<◌, ◌∙◌, ℕ, arith, length, sym}
use Rattle.std.proofs.lemmas.Bool.{false≢true}
use Rattle.schema.proofs.Names.{name_met, met_twice}
use Rattle.schema.proofs.reading.names_differ.Goals as goal

pub returns-then-not-branch-clause-names_differ : goal.returns-then-not-branch-clause-names_differ
returns-then-not-branch-clause-names_differ c = (
  (λ h. absurd (false≢true h)),
  λ all.
      let i : ℕ = c.loop-at.at - 1 in
      let next : c.loop-at.at ≡ i + 1 = omega arith in
      let below : i < length c.args.fields.now = omega arith in
      absurd (met_twice c.args.fields.now i c.loop-at.at c.index-fields-at.result c.name.result c.loop-at.behind next below c.index-fields-at.is c.name.ensures (sym c.if-not-branch.true ∙ c.in_ok-insert.ensures.added) c.loop-at.invariant.met all),
)

pub loop-at-preserved : goal.loop-at-preserved
loop-at-preserved c =
    let i : ℕ = c.loop-at.at - 1 in
    let next : c.loop-at.at ≡ i + 1 = omega arith in
    let below : i < length c.args.fields.now = omega arith in
    record {
      in_range = omega arith;
      met = name_met c.args.fields.now i c.loop-at.at c.index-fields-at.result c.name.result c.loop-at.behind c.insert.new.self next below c.index-fields-at.is c.name.ensures (sym c.if-not-branch.false ∙ c.in_ok-insert.ensures.added) c.in_ok-insert.ensures.updates c.loop-at.invariant.met;
    }
