-- The style of the first source among the groups from a place on.
use Rattle.std.proofs.Common.{◌≡◌, Bool, true, false, ℕ, suc, ◌+◌, List, ◌∷◌, drop, Some, None, refl, ap, sym, ◌∙◌, add-one}
use Rattle.std.specs.Prelude.{slice_get}
use Rattle.lists.proofs.Slices.{drop_found as drop_at, drop_missing as drop_past}
use Rattle.manifest.specs.Groups.{Group}
use Rattle.answers.specs.Kept.{style_of, first_style}

taken : (is : Group → Bool) (g : Group) (gs : List Group) → is g ≡ true → first_style is (g ∷ gs) ≡ Some (style_of g)
taken is g gs source = rw source refl

passed : (is : Group → Bool) (g : Group) (gs : List Group) → is g ≡ false → first_style is (g ∷ gs) ≡ first_style is gs
passed is g gs other = rw other refl

-- a group that is a source is the first one from its place on
pub first_here : (is : Group → Bool) (gs : List Group) (k : ℕ) (g : Group) → slice_get gs k ≡ Some g → is g ≡ true → first_style is (drop k gs) ≡ Some (style_of g)
first_here is gs k g at source = ap (first_style is) (drop_at gs k g at) ∙ taken is g (drop (suc k) gs) source

-- a group that is no source is passed
pub first_after : (is : Group → Bool) (gs : List Group) (k : ℕ) (g : Group) → slice_get gs k ≡ Some g → is g ≡ false → first_style is (drop (k + 1) gs) ≡ first_style is (drop k gs)
first_after is gs k g at other = ap (λ (n : ℕ). first_style is (drop n gs)) (add-one k) ∙ sym (passed is g (drop (suc k) gs) other) ∙ sym (ap (first_style is) (drop_at gs k g at))

-- past the last group there is no source
pub first_past : (is : Group → Bool) (gs : List Group) (k : ℕ) → slice_get gs k ≡ None → first_style is (drop k gs) ≡ None
first_past is gs k past = ap (first_style is) (drop_past gs k past)
