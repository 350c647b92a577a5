use Rattle.std.proofs.Common.{◌≡◌, get_or, ◌∙◌, rules, to_z, of_z, w32, w64, FitsSigned, subst, sym}
use Rattle.std.specs.Prelude.{pos}
use Rattle.std.proofs.lemmas.Int.{to_z-of_z}
use Rattle.schema.specs.declared.value.Kind.TheVariants.{Int32}
use Rattle.pages.proofs.LookUps.{integer_more, kind_more}
use Rattle.pages.proofs.value_reading.integers_of.Goals as goal

pub loop-number-preserved : goal.loop-number-preserved
loop-number-preserved c =
    let x = get_or c.args.numbers.now c.loop-number.number-index (pos 0) in
    let y = to_z w64 (of_z w64 c.from.result) in
    let fits : FitsSigned w32 x = search rules in
    let wide : y ≡ c.from.result = search rules in
    let is : y ≡ x = wide ∙ c.from.ensures ∙ to_z-of_z w32 x fits in
    let kind : FitsSigned w32 y = subst (FitsSigned w32) (sym is) fits in (
      integer_more c.loop-number.values.items c.push.new.self.items c.args.numbers.now c.loop-number.number-index y c.loop-number-test.true is c.in_ok-push.ensures.items c.loop-number.invariant.0,
      kind_more Int32 c.loop-number.values.items c.push.new.self.items y kind c.in_ok-push.ensures.items c.loop-number.invariant.1,
    )
