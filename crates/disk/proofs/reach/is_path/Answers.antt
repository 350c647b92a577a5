use Rattle.std.proofs.Common.{rules, tests, ◌≡◌, ◌==◌, ⊎_elim, inr, ℕ, List, length, true, false, lit<, sym, ap, ◌∙◌}
use Rattle.std.specs.List.{slice_split}
use Rattle.std.proofs.lemmas.Iterator.Splits.{YieldsList-from_str_split}
use Rattle.std.proofs.lemmas.Iterator.{cases_from_all}
use Rattle.std.proofs.lemmas.Iterator.Search.{true_from_All}
use Rattle.disk.specs.Plain.{IsPlain}
use Rattle.disk.proofs.Texts.{all_where_true}
use Rattle.disk.proofs.reach.is_path.Goals as goal

pub returns-else-is_empty : goal.returns-else-is_empty
returns-else-is_empty c =
    let path = c.args.path.now in
    let all = slice_split (λ b. b == 47) path in
    let parts = YieldsList-from_str_split 47 path (lit< tt) c.split.ensures.text c.split.ensures.has_more c.split.ensures.pattern in
    let cases = cases_from_all _ _ _ IsPlain (λ x. IsPlain x → ⊥) c.all.ensures.ran parts (λ x q k. search (rules, tests)) (λ x q k. search (rules, tests)) in
    let long : (length path == 0) ≡ false = sym c.is_empty.ensures ∙ c.if-is_empty.false in (
      (λ yes. inr (all_where_true IsPlain _ all c.all.result cases yes)),
      λ proper. ⊎_elim
          (λ none. let both : true ≡ false = sym (ap (λ (l : List ℕ). length l == 0) none) ∙ long in absurd (cc))
          (λ plain. true_from_All IsPlain (λ x. IsPlain x → ⊥) c.all.result all (λ x p q. q p) cases plain)
          proper,
    )
