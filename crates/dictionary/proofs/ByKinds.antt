-- When the keys of a set are the same values.
use Rattle.std.proofs.Common.{◌≡◌, ℕ, zero, suc, ℤ, pos, ◌<◌, Bool, true, false, List, [], ◌∷◌, ◌++◌, length, map, get_or, Some, inl, inr, refl, sym, ap, subst, ◌∙◌, arith}
use Rattle.std.specs.Prelude.{Contains, slice_get, not, if◌then◌else◌}
use Rattle.std.specs.Option.{option_map}
use Rattle.std.specs.Bool.{Decides}
use Rattle.std.specs.Borrow.{Bor}
use Rattle.std.specs.List.{list_any}
use Rattle.std.specs.Ordering.{int_eq}
use Rattle.std.specs.Str.{bytes_eq}
use mathlib.Core.Bool.{beq}
use Rattle.std.proofs.lemmas.Bool.{false≢true, not-true as not_true}
use Rattle.std.proofs.lemmas.Bool.Decides.{Decides-int_eq}
use Rattle.std.proofs.lemmas.List.{length-map, map-append}
use Rattle.std.proofs.lemmas.List.Folds.{list_any_at}
use Rattle.std.proofs.lemmas.Option.{slice_get-map}
use Rattle.std.proofs.lemmas.Slice.Eq.{bytes_eq-Decides}
use Rattle.schema.specs.Values.{ValueTree, boolean, integer, bytes}
use Rattle.dictionary.specs.declared.key.ValueKey.{ValueKey}
use Rattle.dictionary.specs.declared.key.ValueKey.TheVariants.{Boolean, Number, Bytes}
use Rattle.indexmap.specs.IndexSet.{insert_key}
use Rattle.dictionary.specs.inner.Keys.{key_view}
use Rattle.dictionary.specs.inner.Placing.{IsPlaced}

abbrev is_boolean : ValueTree → Bool
is_boolean (boolean b) = true
is_boolean _ = false

abbrev is_integer : ValueTree → Bool
is_integer (integer z) = true
is_integer _ = false

abbrev as_boolean : ValueTree → Bool
as_boolean (boolean b) = b
as_boolean _ = false

abbrev as_integer : ValueTree → ℤ
as_integer (integer z) = z
as_integer _ = pos 0

abbrev as_bytes : ValueTree → List ℕ
as_bytes (bytes text) = text
as_bytes _ = []

same_boolean : (a b : Bool) → Decides (beq a b) (boolean a ≡ boolean b)
same_boolean true true = (λ _. refl, λ _. refl)
same_boolean true false = (λ h. absurd (false≢true h), λ h. absurd (false≢true (sym (ap as_boolean h))))
same_boolean false true = (λ h. absurd (false≢true h), λ h. absurd (false≢true (ap as_boolean h)))
same_boolean false false = (λ _. refl, λ _. refl)

same_integer : (y z : ℤ) → Decides (int_eq y z) (integer y ≡ integer z)
same_integer y z = (λ h. ap integer ((Decides-int_eq y z).0 h), λ h. (Decides-int_eq y z).1 (ap as_integer h))

same_bytes : (s t : List ℕ) → Decides (bytes_eq s t) (bytes s ≡ bytes t)
same_bytes s t = (λ h. ap bytes ((bytes_eq-Decides s t).0 h), λ h. (bytes_eq-Decides s t).1 (ap as_bytes h))

other_kinds : (v w : ValueTree) → (v ≡ w → ⊥) → Decides false (v ≡ w)
other_kinds v w other = (λ h. absurd (false≢true h), λ h. absurd (other h))

-- an equality of keys that goes by their kinds
pub by_kinds : (eq : ValueKey → ValueKey → Bool)
    → ((a b : Bool) → eq (Boolean a) (Boolean b) ≡ beq a b) → ((a : Bool) (z : ℤ) → eq (Boolean a) (Number z) ≡ false) → ((a : Bool) (t : Bor (List ℕ)) → eq (Boolean a) (Bytes t) ≡ false)
    → ((y : ℤ) (b : Bool) → eq (Number y) (Boolean b) ≡ false) → ((y z : ℤ) → eq (Number y) (Number z) ≡ int_eq y z) → ((y : ℤ) (t : Bor (List ℕ)) → eq (Number y) (Bytes t) ≡ false)
    → ((s : Bor (List ℕ)) (b : Bool) → eq (Bytes s) (Boolean b) ≡ false) → ((s : Bor (List ℕ)) (z : ℤ) → eq (Bytes s) (Number z) ≡ false) → ((s t : Bor (List ℕ)) → eq (Bytes s) (Bytes t) ≡ bytes_eq s.now t.now)
    → (p q : ValueKey) → Decides (eq p q) (key_view p ≡ key_view q)
by_kinds eq bb bn bt nb nn nt tb tn both (Boolean a) (Boolean b) = rw (bb a b) (same_boolean a b)
by_kinds eq bb bn bt nb nn nt tb tn both (Boolean a) (Number z) = rw (bn a z) (other_kinds (boolean a) (integer z) (λ h. false≢true (ap is_integer h)))
by_kinds eq bb bn bt nb nn nt tb tn both (Boolean a) (Bytes t) = rw (bt a t) (other_kinds (boolean a) (bytes t.now) (λ h. false≢true (sym (ap is_boolean h))))
by_kinds eq bb bn bt nb nn nt tb tn both (Number y) (Boolean b) = rw (nb y b) (other_kinds (integer y) (boolean b) (λ h. false≢true (ap is_boolean h)))
by_kinds eq bb bn bt nb nn nt tb tn both (Number y) (Number z) = rw (nn y z) (same_integer y z)
by_kinds eq bb bn bt nb nn nt tb tn both (Number y) (Bytes t) = rw (nt y t) (other_kinds (integer y) (bytes t.now) (λ h. false≢true (sym (ap is_integer h))))
by_kinds eq bb bn bt nb nn nt tb tn both (Bytes s) (Boolean b) = rw (tb s b) (other_kinds (bytes s.now) (boolean b) (λ h. false≢true (ap is_boolean h)))
by_kinds eq bb bn bt nb nn nt tb tn both (Bytes s) (Number z) = rw (tn s z) (other_kinds (bytes s.now) (integer z) (λ h. false≢true (ap is_integer h)))
by_kinds eq bb bn bt nb nn nt tb tn both (Bytes s) (Bytes t) = rw (both s t) (same_bytes s.now t.now)

module _ (eq : ValueKey → ValueKey → Bool) (decides : (p q : ValueKey) → Decides (eq p q) (key_view p ≡ key_view q)) where
  -- a key that a set lacks is the value of none that it has
  pub lacks_value : (keys : List ValueKey) (key : ValueKey) → list_any (eq key) keys ≡ false → Contains (map key_view keys) (key_view key) → ⊥
  lacks_value keys key none c =
      let lt : c.0 < length keys = omega (arith, c.1, length-map keys key_view) in
      let same : key_view key ≡ key_view (get_or keys c.0 key) = sym c.2 ∙ get_or_map keys c.0 key in
      false≢true (sym none ∙ list_any_at (eq key) keys c.0 key lt ((decides key (get_or keys c.0 key)).1 same))
    where
      get_or_map : (ks : List ValueKey) (i : ℕ) (d : ValueKey) → get_or (map key_view ks) i (key_view d) ≡ key_view (get_or ks i d)
      get_or_map [] i d = refl
      get_or_map (k ∷ ks) zero d = refl
      get_or_map (k ∷ ks) (suc i) d = get_or_map ks i d

  -- its value is no entry
  pub value_lacks : (keys : List ValueKey) (key : ValueKey) (es : List ValueTree) (v : ValueTree) → list_any (eq key) keys ≡ false → map key_view keys ≡ es → key_view key ≡ v → Contains es v → ⊥
  value_lacks keys key es v none same value c = lacks_value keys key none (subst (λ (l : List ValueTree). Contains l (key_view key)) (sym same) (subst (Contains es) (sym value) c))

  -- what stands where the set found or put the key
  stored_value : (new : List ValueKey) (key : ValueKey) (at : ℕ) → (k : ValueKey) × (slice_get new at ≡ Some k) × (eq key k ≡ true) → slice_get (map key_view new) at ≡ Some (key_view key)
  stored_value new key at stored =
      slice_get-map key_view new at ∙ ap (option_map key_view) stored.1 ∙ ap (λ v. Some v) (sym ((decides key stored.0).0 stored.2))

  -- a key that the set has
  pub key_there : (keys new : List ValueKey) (key : ValueKey) (at : ℕ) (is_new : Bool) (es fs : List ValueTree) (v : ValueTree) → is_new ≡ not (list_any (eq key) keys) → new ≡ insert_key eq keys key
      → (k : ValueKey) × (slice_get new at ≡ Some k) × (eq key k ≡ true) → map key_view keys ≡ es → key_view key ≡ v → is_new ≡ false → fs ≡ es → IsPlaced es v at fs
  key_there keys new key at is_new es fs v added kept stored same value present grown =
      let has : list_any (eq key) keys ≡ true = not_false (list_any (eq key) keys) (sym added ∙ present) in
      let stays : new ≡ keys = kept ∙ ap (λ b. if b then keys else keys ++ key ∷ []) has in
      let there : slice_get es at ≡ Some v = sym (ap (λ l. slice_get l at) (ap (map key_view) stays ∙ same)) ∙ stored_value new key at stored ∙ ap (λ w. Some w) value in
      record { there = ap (λ l. slice_get l at) grown ∙ there; grown = inl grown }
    where
      not_false : (b : Bool) → not b ≡ false → b ≡ true
      not_false true h = refl
      not_false false h = absurd (false≢true (sym h))

  -- a new key
  pub key_added : (keys new : List ValueKey) (key : ValueKey) (at : ℕ) (is_new : Bool) (es fs : List ValueTree) (v : ValueTree) → is_new ≡ not (list_any (eq key) keys) → new ≡ insert_key eq keys key
      → (k : ValueKey) × (slice_get new at ≡ Some k) × (eq key k ≡ true) → map key_view keys ≡ es → key_view key ≡ v → is_new ≡ true → fs ≡ es ++ v ∷ [] → IsPlaced es v at fs
  key_added keys new key at is_new es fs v added kept stored same value absent grown =
      let lacks : list_any (eq key) keys ≡ false = not_true (list_any (eq key) keys) (sym added ∙ absent) in
      let more : new ≡ keys ++ key ∷ [] = kept ∙ ap (λ b. if b then keys else keys ++ key ∷ []) lacks in
      let entries : map key_view new ≡ es ++ v ∷ [] = ap (map key_view) more ∙ map-append key_view keys (key ∷ []) ∙ (λ i. same i ++ value i ∷ []) in
      let there : slice_get (es ++ v ∷ []) at ≡ Some v = sym (ap (λ l. slice_get l at) entries) ∙ stored_value new key at stored ∙ ap (λ w. Some w) value in
      record { there = ap (λ l. slice_get l at) grown ∙ there; grown = inr (value_lacks keys key es v lacks same value, grown) }
