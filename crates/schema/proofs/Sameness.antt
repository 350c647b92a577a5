-- Lists of values that show the same.
use Rattle.std.proofs.Common.{◌≡◌, ℕ, ◌+◌, ◌<◌, suc, List, [], ◌∷◌, length, get_or, drop, refl, ap, sym, ◌∙◌}
use Rattle.std.proofs.lemmas.List.{drop_more}
use Rattle.schema.specs.declared.value.Value.{Value}
use Rattle.schema.specs.Values.{value, view, views}

pub views-length : (a b : List Value) → views a ≡ views b → length a ≡ length b
views-length [] [] h = refl
views-length [] (y ∷ b) h = cc
views-length (x ∷ a) [] h = cc
views-length (x ∷ a) (y ∷ b) h = let rest : views a ≡ views b = cc in ap suc (views-length a b rest)

pub views-drop : (vs : List Value) (i : ℕ) (d : Value) → i < length vs → views (drop i vs) ≡ value (view (get_or vs i d)) (views (drop (i + 1) vs))
views-drop vs i d h = rw (drop_more vs i d h)

-- the first of what is left is the same
pub same_first : (a b : List Value) (i : ℕ) (d e : Value) → i < length a → i < length b → views (drop i a) ≡ views (drop i b) → view (get_or a i d) ≡ view (get_or b i e)
same_first a b i d e f g h = let k = sym (views-drop a i d f) ∙ h ∙ views-drop b i e g in cc

-- and so is what is left behind it
pub same_rest : (a b : List Value) (i : ℕ) (d e : Value) → i < length a → i < length b → views (drop i a) ≡ views (drop i b) → views (drop (i + 1) a) ≡ views (drop (i + 1) b)
same_rest a b i d e f g h = let k = sym (views-drop a i d f) ∙ h ∙ views-drop b i e g in cc
