-- Folders joined to a path.
use Rattle.std.proofs.Common.{◌≡◌, ℕ, List, [], ◌∷◌, ◌++◌, refl, ap, sym, ◌∙◌, append_assoc}
use Rattle.std.proofs.lemmas.List.{append-nil}
use Rattle.std.specs.List.{join_with_byte}
use Rattle.partition.specs.inner.Checks.{joined}

pub join_step : (f : List ℕ) (fs : List (List ℕ)) → join_with_byte 47 (f ∷ fs) ≡ f ++ joined (47 ∷ []) fs
join_step f [] = sym (append-nil f)
join_step f (g ∷ fs) = refl

-- one more folder is written
pub joined_more : (path separator f : List ℕ) (fs : List (List ℕ)) → ((path ++ separator) ++ f) ++ joined (47 ∷ []) fs ≡ path ++ joined separator (f ∷ fs)
joined_more path separator f fs =
    append_assoc (path ++ separator) f _ ∙ append_assoc path separator _ ∙ ap (λ (rest : List ℕ). path ++ (separator ++ rest)) (sym (join_step f fs))
