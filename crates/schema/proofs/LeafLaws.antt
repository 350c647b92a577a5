-- The leaves of a schema as a relation, and what each entry list begins with.
use Rattle.std.proofs.Common.{ℕ, ◌≡◌, ◌≤◌, Bool, true, List, [], ◌∷◌, ◌++◌, map, ◌⊎◌, inl, inr, refl, ap, subst, sym, ◌∙◌, suc, arith}
use Rattle.std.proofs.lemmas.Bool.{and_parts, false≢true}
use Rattle.schema.specs.declared.value.Repetition.{Repetition}
use Rattle.schema.specs.declared.value.Repetition.TheVariants.{Required, Optional, Repeated}
use Rattle.schema.specs.Values.{ValueTree, null, boolean, integer, bytes, group, list, ValueTrees, no_values, value as item, each}
use Rattle.schema.specs.Shape.{Field, leaf, fields, Fields, no_fields, field, repetition_of}
use Rattle.schema.specs.Fits.{fits_as, is_group}
use Rattle.schema.specs.Stripe.{Step, Leaf, leaf_at, below, Entry, Striping, stripe_as, list_items, leaves, leaves_from}
use Rattle.schema.specs.Law.{IsFilled, IsValid, AreValid}

-- the fields from the root to a leaf
abbrev pub Way : Type 0
Way = List Step

-- the way is to a leaf at or below the field; below some fields, the first of which has this place
abbrev mutual
  pub IsLeaf : Field → Way → Type 0
  IsLeaf (leaf n r k) p = p ≡ []
  IsLeaf (fields n r annotated fs) p = IsLeafFrom fs 0 p

  pub IsLeafFrom : Fields → ℕ → Way → Type 0
  IsLeafFrom no_fields i p = ⊥
  IsLeafFrom (field f fs) i p = ((q : Way) × (IsLeaf f q × (p ≡ record { place = i; repetition = repetition_of f } ∷ q))) ⊎ IsLeafFrom fs (suc i) p

abbrev pub Mem : {A : Type 0} → A → List A → Type 0
Mem x [] = ⊥
Mem x (y ∷ ys) = (x ≡ y) ⊎ Mem x ys

pub Mem-append_left : {A : Type 0} (x : A) (xs ys : List A) → Mem x xs → Mem x (xs ++ ys)
Mem-append_left x [] ys h = absurd h
Mem-append_left x (y ∷ xs) ys (inl e) = inl e
Mem-append_left x (y ∷ xs) ys (inr h) = inr (Mem-append_left x xs ys h)

pub Mem-append_right : {A : Type 0} (x : A) (xs ys : List A) → Mem x ys → Mem x (xs ++ ys)
Mem-append_right x [] ys h = h
Mem-append_right x (y ∷ xs) ys h = inr (Mem-append_right x xs ys h)

pub Mem-map : {A B : Type 0} (f : A → B) (x : A) (xs : List A) → Mem x xs → Mem (f x) (map f xs)
Mem-map f x [] h = absurd h
Mem-map f x (y ∷ xs) (inl e) = inl (ap f e)
Mem-map f x (y ∷ xs) (inr h) = inr (Mem-map f x xs h)

pub map-same_at : {A B : Type 0} (f g : A → B) (xs : List A) (x : A) → map f xs ≡ map g xs → Mem x xs → f x ≡ g x
map-same_at f g [] x e h = absurd h
map-same_at f g (y ∷ xs) x e (inl same) = rw same (cc)
map-same_at f g (y ∷ xs) x e (inr h) = map-same_at f g xs x (cc) h

-- it is the way to a leaf that is listed
mutual
  pub leaf_is_listed : (f : Field) (p : Way) → IsLeaf f p → (l : Leaf) × (Mem l (leaves f) × (l.steps ≡ p))
  leaf_is_listed (leaf n r k) p h = (leaf_at [] [] k, (inl refl, sym h))
  leaf_is_listed (fields n r annotated fs) p h = leaf_is_listed_from fs 0 p h

  pub leaf_is_listed_from : (fs : Fields) (i : ℕ) (p : Way) → IsLeafFrom fs i p → (l : Leaf) × (Mem l (leaves_from i fs) × (l.steps ≡ p))
  leaf_is_listed_from no_fields i p h = absurd h
  leaf_is_listed_from (field f fs) i p (inl (q, h)) =
      let w = leaf_is_listed f q h.0 in (
        below i f w.0,
        (
          Mem-append_left _ (map (below i f) (leaves f)) (leaves_from (suc i) fs) (Mem-map (below i f) w.0 (leaves f) w.1.0),
          ap (λ t. record { place = i; repetition = repetition_of f } ∷ t) w.1.1 ∙ sym h.1,
        ),
      )
  leaf_is_listed_from (field f fs) i p (inr h) =
      let w = leaf_is_listed_from fs (suc i) p h in (w.0, (Mem-append_right w.0 _ _ w.1.0, w.1.1))

-- some leaf
mutual
  pub some_leaf : (f : Field) → IsValid f → (p : Way) × IsLeaf f p
  some_leaf (leaf n r k) h = ([], refl)
  some_leaf (fields n r annotated fs) h = some_leaf_from fs 0 h.0.some h.1

  pub some_leaf_from : (fs : Fields) (i : ℕ) → IsFilled fs → AreValid fs → (p : Way) × IsLeafFrom fs i p
  some_leaf_from no_fields i h g = absurd h
  some_leaf_from (field f fs) i h g =
      let below = some_leaf f g.0 in
      (record { place = i; repetition = repetition_of f } ∷ below.0, inl (below.0, (below.1, refl)))

-- the entries begin with repetition level r and a definition level of at least d
abbrev pub Starts : ℕ → ℕ → List Entry → Type 0
Starts r d [] = ⊥
Starts r d (e ∷ es) = (e.repetition ≡ r) × (d ≤ e.definition)

-- what fits gives entries that start so
abbrev pub AlwaysStarts : (Way → Type 0) → (ValueTree → Bool) → (Way → Striping) → Type 0
AlwaysStarts L P S = (p : Way) → L p → (v : ValueTree) → P v ≡ true → (r d k : ℕ) → Starts r d (S p v r d k)

pub Starts-append : (r d : ℕ) (xs ys : List Entry) → Starts r d xs → Starts r d (xs ++ ys)
Starts-append r d [] ys h = absurd h
Starts-append r d (x ∷ xs) ys h = h

Starts-weaker : (r d : ℕ) (xs : List Entry) → Starts r (suc d) xs → Starts r d xs
Starts-weaker r d [] h = absurd h
Starts-weaker r d (x ∷ xs) h = (h.0, omega (arith, h.1))

pub when_optional : (v : ValueTree) → (v ≡ null) ⊎ (((s : Striping) (r d k : ℕ) → stripe_as Optional s v r d k ≡ s v r (suc d) k) × ((P : ValueTree → Bool) → fits_as Optional P v ≡ P v))
when_optional null = inl refl
when_optional (boolean b) = inr ((λ s r d k. refl), (λ P. refl))
when_optional (integer z) = inr ((λ s r d k. refl), (λ P. refl))
when_optional (bytes x) = inr ((λ s r d k. refl), (λ P. refl))
when_optional (group vs) = inr ((λ s r d k. refl), (λ P. refl))
when_optional (list vs) = inr ((λ s r d k. refl), (λ P. refl))

pub when_repeated : (v : ValueTree) (P : ValueTree → Bool) → fits_as Repeated P v ≡ true → (vs : ValueTrees) × ((v ≡ list vs) × (each P vs ≡ true))
when_repeated null P h = absurd (false≢true h)
when_repeated (boolean b) P h = absurd (false≢true h)
when_repeated (integer z) P h = absurd (false≢true h)
when_repeated (bytes x) P h = absurd (false≢true h)
when_repeated (group vs) P h = absurd (false≢true h)
when_repeated (list vs) P h = (vs, (refl, h))

pub when_group : (v : ValueTree) (P : ValueTrees → Bool) → is_group P v ≡ true → (vs : ValueTrees) × ((v ≡ group vs) × (P vs ≡ true))
when_group null P h = absurd (false≢true h)
when_group (boolean b) P h = absurd (false≢true h)
when_group (integer z) P h = absurd (false≢true h)
when_group (bytes x) P h = absurd (false≢true h)
when_group (group vs) P h = (vs, (refl, h))
when_group (list vs) P h = absurd (false≢true h)

list_starts : (S : Striping) (P : ValueTree → Bool) → ((v : ValueTree) → P v ≡ true → (r d k : ℕ) → Starts r d (S v r d k)) → (vs : ValueTrees) → each P vs ≡ true → (r d k : ℕ) → Starts r d (list_items S vs r d k)
list_starts S P s no_values h r d k = (refl, omega arith)
list_starts S P s (item v vs) h r d k =
    let parts = and_parts (P v) (each P vs) h in
    Starts-append r d _ _ (Starts-weaker r d _ (s v parts.0 r (suc d) (suc k)))

pub starts_as : (x : Repetition) (L : Way → Type 0) (P : ValueTree → Bool) (S : Way → Striping) → AlwaysStarts L P S → AlwaysStarts L (fits_as x P) (λ p. stripe_as x (S p))
starts_as Required L P S s p l v h r d k = s p l v h r d k
starts_as Optional L P S s p l v h r d k =
    elim (when_optional v) [
      | inl e ↦ subst (λ t. Starts r d (stripe_as Optional (S p) t r d k)) (sym e) (refl, omega arith)
      | inr o ↦ subst (Starts r d) (sym (o.0 (S p) r d k)) (Starts-weaker r d _ (s p l v (sym (o.1 P) ∙ h) r (suc d) k))
    ]
starts_as Repeated L P S s p l v h r d k =
    let w = when_repeated v P h in
    subst (λ t. Starts r d (stripe_as Repeated (S p) t r d k)) (sym w.1.0) (list_starts (S p) P (s p l) w.0 w.1.1 r d k)
