-- Marks at places.
use Rattle.std.proofs.Common.{ℕ, ◌≡◌, ◌+◌, Bool, List, length, refl, ap, ◌∙◌}
use Rattle.std.specs.Prelude.{◌||◌}
use Rattle.schema.specs.Shape.{Field, leaf, fields, Fields, no_fields, field}
use Rattle.schema.specs.Stripe.{leaves}
use Rattle.schema.specs.Cutting.{group_of, kept, cut, cut_each, cut_to, is_among, is_marked, AreMarks}

-- what is marked, or is to come, is among the places
abbrev pub AreSoFar : List ℕ → List ℕ → List Bool → Type 0
AreSoFar places rest marks = (at : ℕ) → is_marked marks at || is_among rest at ≡ is_among places at

-- what wants the same cuts the same
mutual
  same_cut : (v w : ℕ → Bool) → ((at : ℕ) → v at ≡ w at) → (at : ℕ) (f : Field) → cut v at f ≡ cut w at f
  same_cut v w h at (leaf n r t) = rw (h at) refl
  same_cut v w h at (fields n r a fs) = ap (group_of n r a) (same_cuts v w h at fs)

  pub same_cuts : (v w : ℕ → Bool) → ((at : ℕ) → v at ≡ w at) → (at : ℕ) (fs : Fields) → cut_each v at fs ≡ cut_each w at fs
  same_cuts v w h at no_fields = refl
  same_cuts v w h at (field f fs) =
      ap (λ o. kept o (cut_each v (at + length (leaves f)) fs)) (same_cut v w h at f)
      ∙ ap (kept (cut w at f)) (same_cuts v w h (at + length (leaves f)) fs)

-- what is cut by marks at some places is cut to these places
pub cut_by_marks : (places : List ℕ) (count : ℕ) (marks read : List Bool) (fs whole made : Fields) → AreMarks places count marks → read ≡ marks → fs ≡ whole → made ≡ cut_each (is_marked read) 0 fs → made ≡ cut_to places whole
cut_by_marks places count marks read fs whole made are is_read is_whole is =
    is ∙ ap (cut_each (is_marked read) 0) is_whole ∙ same_cuts (is_marked read) (is_among places) (λ at. ap (λ ms. is_marked ms at) is_read ∙ are.each at) 0 whole
