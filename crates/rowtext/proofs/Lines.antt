-- What is read of a line in the form in which rows are printed.
use Rattle.std.proofs.Common.{◌≡◌, ℕ, ◌+◌, ◌-◌, ◌≤◌, true, List, ◌++◌, length, take, drop, get_or, sym, ap, ◌∙◌, arith, get_or-take}
use Rattle.std.specs.Prelude.{slice_range}
use Rattle.std.proofs.lemmas.List.{drop-drop, take-append-drop}
use Rattle.json.specs.Print.{escape}
use Rattle.json.specs.Run.{is_plain}
use Rattle.json.specs.Written.{PlainBetween}
use Rattle.json.proofs.Printed.Plain.{escape_on_plain}

-- what stands at the front was read
pub taken : (text s : List ℕ) (at n new : ℕ) → new ≡ at + n → drop at text ≡ s ++ drop n (drop at text) → drop at text ≡ s ++ drop new text
taken text s at n new is so = so ∙ ap (λ r. s ++ r) (drop-drop n at text ∙ ap (λ k. drop k text) (sym is))

-- plain bytes were read
pub content_taken : (text x : List ℕ) (at count end : ℕ) → x ≡ slice_range text at end → length x + at ≡ end → end ≤ at + count → PlainBetween (drop at text) 0 count → (drop at text ≡ x ++ drop end text) × (escape x ≡ x)
content_taken text x at count end is long short plain =
    let r = drop at text in
    let n = end - at in
    let cut : x ≡ take n r = is in
    let back : end ≡ at + n = omega (arith, long) in (
      taken text x at n end back (sym (take-append-drop n r) ∙ ap (λ y. y ++ drop n r) (sym cut)),
      escape_on_plain true x (λ k p q. ap (λ y. is_plain (get_or y k 0)) cut ∙ ap is_plain (get_or-take n r k 0 (omega (arith, q, long))) ∙ plain k p (omega (arith, q, long, short))),
    )
