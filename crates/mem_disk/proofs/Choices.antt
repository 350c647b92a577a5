-- Tests, and bindings among others.
use Rattle.std.proofs.Common.{◌≡◌, ◌≢◌, ◌⊎◌, inl, inr, ⊎_elim, ℕ, List, [], ◌∷◌, ◌++◌, Bool, true, false, if◌then◌else◌, ◌==◌, bytes_eq, refl, sym, ◌∙◌}
use Rattle.std.proofs.lemmas.Bool.Decides.{Decides-eqb}
use Rattle.std.proofs.lemmas.Slice.Eq.{bytes_eq-Decides}
use Rattle.std.proofs.lemmas.Bool.{false≢true as not_true}
use Rattle.lists.proofs.Booleans.{if_true as then_so, if_false as else_so}
use Rattle.disk.specs.declared.binding.Binding.{Binding}
use Rattle.disk.specs.declared.binding.Binding.TheVariants.{Nothing, Folder, File}
use Rattle.mem_disk.specs.Tables.{Among}

pub true_or_false : (t : Bool) → (t ≡ true) ⊎ (t ≡ false)
true_or_false true = inl refl
true_or_false false = inr refl

pub same_or_not : (q p : List ℕ) → ((q ≡ p) × (bytes_eq q p ≡ true)) ⊎ ((q ≢ p) × (bytes_eq q p ≡ false))
same_or_not q p = ⊎_elim
    (λ yes. inl ((bytes_eq-Decides q p).0 yes, yes))
    (λ no. inr ((λ e. not_true (sym no ∙ (bytes_eq-Decides q p).1 e)), no))
    (true_or_false (bytes_eq q p))

pub equal_or_not : (n m : ℕ) → ((n ≡ m) × ((n == m) ≡ true)) ⊎ ((n ≢ m) × ((n == m) ≡ false))
equal_or_not n m = ⊎_elim
    (λ yes. inl ((Decides-eqb n m).0 yes, yes))
    (λ no. inr ((λ e. not_true (sym no ∙ (Decides-eqb n m).1 e)), no))
    (true_or_false (n == m))

pub at_same : {A : Type 0} (q p : List ℕ) (a b : A) → q ≡ p → (if bytes_eq q p then a else b) ≡ a
at_same q p a b e = then_so (bytes_eq q p) a b ((bytes_eq-Decides q p).1 e)

pub at_other : {A : Type 0} (q p : List ℕ) (a b : A) → q ≢ p → (if bytes_eq q p then a else b) ≡ b
at_other q p a b ne = ⊎_elim (λ yes. absurd (ne yes.0)) (λ no. else_so (bytes_eq q p) a b no.1) (same_or_not q p)

pub at_node : {A : Type 0} (n m : ℕ) (a b : A) → n ≡ m → (if n == m then a else b) ≡ a
at_node n m a b e = then_so (n == m) a b ((Decides-eqb n m).1 e)

pub at_other_node : {A : Type 0} (n m : ℕ) (a b : A) → n ≢ m → (if n == m then a else b) ≡ b
at_other_node n m a b ne = ⊎_elim (λ yes. absurd (ne yes.0)) (λ no. else_so (n == m) a b no.1) (equal_or_not n m)

pub folder_or_not : (b : Binding) → (b ≡ Folder) ⊎ (b ≢ Folder)
folder_or_not Folder = inl refl
folder_or_not Nothing = inr (λ e. let f : Nothing ≡ Folder = e in cc)
folder_or_not (File n) = inr (λ e. let f : File n ≡ Folder = e in cc)

pub nothing_or_not : (b : Binding) → (b ≡ Nothing) ⊎ (b ≢ Nothing)
nothing_or_not Nothing = inl refl
nothing_or_not Folder = inr (λ e. let f : Folder ≡ Nothing = e in cc)
nothing_or_not (File n) = inr (λ e. let f : File n ≡ Nothing = e in cc)

pub folder_is_something : (b : Binding) → b ≡ Folder → b ≢ Nothing
folder_is_something b is none = let f : Folder ≡ Nothing = sym is ∙ none in cc

pub file_is_something : (b : Binding) (n : ℕ) → b ≡ File n → b ≢ Nothing
file_is_something b n is none = let f : File n ≡ Nothing = sym is ∙ none in cc

pub file_is_no_folder : (b : Binding) (n : ℕ) → b ≡ File n → b ≢ Folder
file_is_no_folder b n is none = let f : File n ≡ Folder = sym is ∙ none in cc

pub file_node : (n m : ℕ) → File n ≡ File m → n ≡ m
file_node n m e = cc

pub among_before : (b : Binding) (xs ys : List Binding) → Among b xs → Among b (xs ++ ys)
among_before b (x ∷ xs) ys (inl e) = inl e
among_before b (x ∷ xs) ys (inr a) = inr (among_before b xs ys a)
among_before b [] ys a = absurd a

pub among_last : (b : Binding) (xs : List Binding) (y : Binding) → b ≡ y → Among b (xs ++ y ∷ [])
among_last b [] y e = inl e
among_last b (x ∷ xs) y e = inr (among_last b xs y e)

pub among_split : (b : Binding) (xs : List Binding) (y : Binding) → Among b (xs ++ y ∷ []) → Among b xs ⊎ (b ≡ y)
among_split b [] y (inl e) = inr e
among_split b [] y (inr a) = absurd a
among_split b (x ∷ xs) y (inl e) = inl (inl e)
among_split b (x ∷ xs) y (inr a) = ⊎_elim (λ here. inl (inr here)) (λ e. inr e) (among_split b xs y a)
