-- What places hold after the fields of a struct is what the functions of the fields give.
use Rattle.std.proofs.Common.{◌≡◌, List, [], ◌∷◌, refl, sym, ap, subst, ◌∙◌, Option, Some, None}
use Rattle.std.specs.Prelude.{ℤ, Bool, true, false, not, ◌&&◌, option_map, option_and_then, if◌then◌else◌}
use Rattle.std.specs.Ordering.{int_eq}
use Rattle.std.proofs.lemmas.Bool.Decides.{Decides-int_eq}
use Rattle.std.proofs.lemmas.Bool.{and_parts as both_true}
use Rattle.std.proofs.lemmas.Option.{same_Some as some_is}
use Rattle.thrift_compact.specs.Tree.{Node, Fields, no_fields, field}
use Rattle.thrift_compact.specs.Values.{folded}
use Rattle.metadata.specs.FieldValues.{◌>>=◌, later, all_with, last_of, known}
use Rattle.metadata.specs.inner.Slots.{slot_step, other_step, known_row, needed_row, other_row, row_of}
use Rattle.metadata.proofs.Found.{over}

-- ---- ids

-- the id is none of these
abbrev is_fresh : ℤ → List ℤ → Bool
is_fresh id [] = true
is_fresh id (i ∷ is) = not (int_eq id i) && is_fresh id is

-- no id is there twice
abbrev pub are_distinct : List ℤ → Bool
are_distinct [] = true
are_distinct (i ∷ is) = is_fresh i is && are_distinct is

fresh_both : (b c : Bool) → not b && c ≡ true → (b ≡ false) × (c ≡ true)
fresh_both true c e = absurd (cc)
fresh_both false true e = (refl, refl)
fresh_both false false e = absurd (cc)

-- ---- one place

-- what the places give once they have taken the fields, where the first may be empty
abbrev pub known_from : {X S R : Type 0} → (Node → Option X) → (S → Fields → Option R) → (ℤ × Option X) × S → Fields → Option (Option X × R)
known_from read from s fs = option_and_then (λ v. option_map (λ r. (v, r)) (from s.1 fs)) (over s.0.1 (known read s.0.0 fs))

-- the same where the first may not be empty
abbrev pub needed_from : {X S R : Type 0} → (Node → Option X) → (S → Fields → Option R) → (ℤ × Option X) × S → Fields → Option (X × R)
needed_from read from s fs = option_and_then (λ o. option_and_then (λ v. option_map (λ r. (v, r)) (from s.1 fs)) o) (over s.0.1 (known read s.0.0 fs))

-- the same without places
abbrev pub other_from : Unit {0} → Fields → Option (Unit {0})
other_from s fs = Some s

-- what is given is what the steps from field to field hold in the end
pub record Fits {S R : Type 0} (step : S → ℤ → Node → Option S) (row : S → Option R) (ids : S → List ℤ) (from : S → Fields → Option R) : Type 0 where
  pub at_end : (s : S) → from s no_fields ≡ row s
  pub goes : (s : S) (id : ℤ) (x : Node) (fs : Fields) → are_distinct (ids s) ≡ true → from s (field id x fs) ≡ option_and_then (λ n. from n fs) (step s id x)
  pub skips : (s : S) (id : ℤ) (x : Node) (fs : Fields) → is_fresh id (ids s) ≡ true → from s (field id x fs) ≡ from s fs
  pub keeps : (s n : S) (id : ℤ) (x : Node) → step s id x ≡ Some n → ids n ≡ ids s

abbrev pub other_ids : Unit {0} → List ℤ
other_ids s = []

abbrev pub slot_ids : {X S : Type 0} → (S → List ℤ) → (ℤ × Option X) × S → List ℤ
slot_ids ids s = s.0.0 ∷ ids s.1

pub fits_others : Fits other_step other_row other_ids other_from
fits_others = record { at_end = λ s. refl; goes = λ s id x fs d. refl; skips = λ s id x fs f. refl; keeps = λ s n id x e. refl }

known_skips : {X : Type 0} (read : Node → Option X) (i id : ℤ) (x : Node) (fs : Fields) → int_eq id i ≡ false → known read i (field id x fs) ≡ known read i fs
known_skips read i id x fs e = ap (λ (b : Bool). last_of read (if b then x ∷ all_with i fs else all_with i fs)) e

known_takes : {X : Type 0} (read : Node → Option X) (i id : ℤ) (x : Node) (fs : Fields) → int_eq id i ≡ true → known read i (field id x fs) ≡ (read x >>= λ v. known read i fs >>= λ l. Some (later v l))
known_takes read i id x fs e = ap (λ (b : Bool). last_of read (if b then x ∷ all_with i fs else all_with i fs)) e

over_later : {X : Type 0} (found : Option X) (v : X) (K : Option (Option X)) → over found (K >>= λ l. Some (later v l)) ≡ over (Some v) K
over_later found v None = refl
over_later found v (Some None) = refl
over_later found v (Some (Some w)) = refl

-- a value that is read takes the place of what was found
over_read : {X : Type 0} (found : Option X) (o : Option X) (K : Option (Option X)) → over found (o >>= λ v. K >>= λ l. Some (later v l)) ≡ option_and_then (λ v. over (Some v) K) o
over_read found None K = refl
over_read found (Some v) K = over_later found v K

-- ---- the first of several places

pub step_here : {X S : Type 0} (read : Node → Option X) (others : S → ℤ → Node → Option S) (s : (ℤ × Option X) × S) (id : ℤ) (x : Node) → int_eq id s.0.0 ≡ true → slot_step read others s id x ≡ option_map (λ v. ((s.0.0, Some v), s.1)) (read x)
step_here {X} {S} read others s id x e = ap (λ (b : Bool). if b then option_map {U = (ℤ × Option X) × S} (λ v. ((s.0.0, Some v), s.1)) (read x) else option_map {U = (ℤ × Option X) × S} (λ t. (s.0, t)) (others s.1 id x)) e

pub step_other : {X S : Type 0} (read : Node → Option X) (others : S → ℤ → Node → Option S) (s : (ℤ × Option X) × S) (id : ℤ) (x : Node) → int_eq id s.0.0 ≡ false → slot_step read others s id x ≡ option_map (λ t. (s.0, t)) (others s.1 id x)
step_other {X} {S} read others s id x e = ap (λ (b : Bool). if b then option_map {U = (ℤ × Option X) × S} (λ v. ((s.0.0, Some v), s.1)) (read x) else option_map {U = (ℤ × Option X) × S} (λ t. (s.0, t)) (others s.1 id x)) e

-- what is joined of the first place and of the others: the same for a place that may be empty and one that may not
abbrev joined : {X S R Z : Type 0} → (Option X → Option R → Option Z) → (Node → Option X) → (S → Fields → Option R) → (ℤ × Option X) × S → Fields → Option Z
joined join read from s fs = option_and_then (λ v. join v (from s.1 fs)) (over s.0.1 (known read s.0.0 fs))

nothing_joined : {X R Z : Type 0} (join : Option X → Option R → Option Z) → ((v : Option X) → join v None ≡ None) → (K : Option (Option X)) → option_and_then (λ v. join v None) K ≡ None
nothing_joined join none None = refl
nothing_joined join none (Some v) = none v

turned : {X S R Z : Type 0} (join : Option X → Option R → Option Z) → ((v : Option X) → join v None ≡ None) → (read : Node → Option X) (from : S → Fields → Option R) (s : (ℤ × Option X) × S) (fs : Fields) (o : Option S)
    → option_and_then (λ v. join v (option_and_then (λ n. from n fs) o)) (over s.0.1 (known read s.0.0 fs)) ≡ option_and_then (λ n. joined join read from n fs) (option_map (λ t. (s.0, t)) o)
turned join none read from s fs None = nothing_joined join none (over s.0.1 (known read s.0.0 fs))
turned join none read from s fs (Some n) = refl

taken : {X S R Z : Type 0} (join : Option X → Option R → Option Z) (read : Node → Option X) (from : S → Fields → Option R) (s : (ℤ × Option X) × S) (fs : Fields) (o : Option X)
    → option_and_then (λ v. join v (from s.1 fs)) (option_and_then (λ v. over (Some v) (known read s.0.0 fs)) o) ≡ option_and_then (λ n. joined join read from n fs) (option_map (λ v. ((s.0.0, Some v), s.1)) o)
taken join read from s fs None = refl
taken join read from s fs (Some v) = refl

joined_goes : {X S R Z : Type 0} (join : Option X → Option R → Option Z) → ((v : Option X) → join v None ≡ None) → (read : Node → Option X) (step : S → ℤ → Node → Option S) (row : S → Option R) (ids : S → List ℤ) (from : S → Fields → Option R)
    → Fits step row ids from → (s : (ℤ × Option X) × S) (id : ℤ) (x : Node) (fs : Fields) → are_distinct (slot_ids ids s) ≡ true
    → joined join read from s (field id x fs) ≡ option_and_then (λ n. joined join read from n fs) (slot_step read step s id x)
joined_goes {X} {S} {R} {Z} join none read step row ids from fits s id x fs d = go (int_eq id s.0.0) refl
  where
    apart : (is_fresh s.0.0 (ids s.1) ≡ true) × (are_distinct (ids s.1) ≡ true)
    apart = both_true (is_fresh s.0.0 (ids s.1)) (are_distinct (ids s.1)) d

    go : (b : Bool) → int_eq id s.0.0 ≡ b → joined join read from s (field id x fs) ≡ option_and_then (λ n. joined join read from n fs) (slot_step read step s id x)
    go true e =
        let same : id ≡ s.0.0 = (Decides-int_eq id s.0.0).0 e in
        let fresh = subst (λ (z : ℤ). is_fresh z (ids s.1) ≡ true) (sym same) apart.0 in
        let others = fits.skips s.1 id x fs fresh in
        let first = ap (over s.0.1) (known_takes read s.0.0 id x fs e) ∙ over_read s.0.1 (read x) (known read s.0.0 fs) in
        ap (λ (r : Option R). option_and_then (λ v. join v r) (over s.0.1 (known read s.0.0 (field id x fs)))) others
        ∙ ap (λ (k : Option (Option X)). option_and_then (λ v. join v (from s.1 fs)) k) first
        ∙ taken join read from s fs (read x)
        ∙ sym (ap (λ (t : Option ((ℤ × Option X) × S)). option_and_then (λ n. joined join read from n fs) t) (step_here read step s id x e))
    go false e =
        let others = fits.goes s.1 id x fs apart.1 in
        ap (λ (r : Option R). option_and_then (λ v. join v r) (over s.0.1 (known read s.0.0 (field id x fs)))) others
        ∙ ap (λ (k : Option (Option X)). option_and_then (λ v. join v (option_and_then (λ n. from n fs) (step s.1 id x))) (over s.0.1 k)) (known_skips read s.0.0 id x fs e)
        ∙ turned join none read from s fs (step s.1 id x)
        ∙ sym (ap (λ (t : Option ((ℤ × Option X) × S)). option_and_then (λ n. joined join read from n fs) t) (step_other read step s id x e))

joined_skips : {X S R Z : Type 0} (join : Option X → Option R → Option Z) (read : Node → Option X) (step : S → ℤ → Node → Option S) (row : S → Option R) (ids : S → List ℤ) (from : S → Fields → Option R)
    → Fits step row ids from → (s : (ℤ × Option X) × S) (id : ℤ) (x : Node) (fs : Fields) → is_fresh id (slot_ids ids s) ≡ true → joined join read from s (field id x fs) ≡ joined join read from s fs
joined_skips {X} {S} {R} join read step row ids from fits s id x fs f =
    let fresh = fresh_both (int_eq id s.0.0) (is_fresh id (ids s.1)) f in
    ap (λ (r : Option R). option_and_then (λ v. join v r) (over s.0.1 (known read s.0.0 (field id x fs)))) (fits.skips s.1 id x fs fresh.1)
    ∙ ap (λ (k : Option (Option X)). option_and_then (λ v. join v (from s.1 fs)) (over s.0.1 k)) (known_skips read s.0.0 id x fs fresh.0)

slot_keeps : {X S R : Type 0} (read : Node → Option X) (step : S → ℤ → Node → Option S) (row : S → Option R) (ids : S → List ℤ) (from : S → Fields → Option R)
    → Fits step row ids from → (s n : (ℤ × Option X) × S) (id : ℤ) (x : Node) → slot_step read step s id x ≡ Some n → slot_ids ids n ≡ slot_ids ids s
slot_keeps {X} {S} read step row ids from fits s n id x taken = go (int_eq id s.0.0) refl
  where
    here : (o : Option X) → option_map (λ v. ((s.0.0, Some v), s.1)) o ≡ Some n → slot_ids ids n ≡ slot_ids ids s
    here None e = absurd (cc)
    here (Some v) e = sym (ap (slot_ids ids) (some_is ((s.0.0, Some v), s.1) n e))

    there : (o : Option S) → step s.1 id x ≡ o → option_map (λ t. (s.0, t)) o ≡ Some n → slot_ids ids n ≡ slot_ids ids s
    there None e f = absurd (cc)
    there (Some t) e f = sym (ap (slot_ids ids) (some_is (s.0, t) n f)) ∙ ap (λ (is : List ℤ). s.0.0 ∷ is) (fits.keeps s.1 t id x e)

    go : (b : Bool) → int_eq id s.0.0 ≡ b → slot_ids ids n ≡ slot_ids ids s
    go true e = here (read x) (sym (step_here read step s id x e) ∙ taken)
    go false e = there (step s.1 id x) refl (sym (step_other read step s id x e) ∙ taken)

abbrev known_join : {X R : Type 0} → Option X → Option R → Option (Option X × R)
known_join v r = option_map (λ t. (v, t)) r

abbrev needed_join : {X R : Type 0} → Option X → Option R → Option (X × R)
needed_join o r = option_and_then (λ v. option_map (λ t. (v, t)) r) o

needed_none : {X R : Type 0} (o : Option X) → needed_join {X = X} {R = R} o None ≡ None
needed_none None = refl
needed_none (Some v) = refl

pub fits_known : {X S R : Type 0} (read : Node → Option X) (step : S → ℤ → Node → Option S) (row : S → Option R) (ids : S → List ℤ) (from : S → Fields → Option R) → Fits step row ids from
    → Fits (slot_step read step) (known_row row) (slot_ids ids) (known_from read from)
fits_known read step row ids from fits = record {
  at_end = λ s. ap (option_map (λ r. (s.0.1, r))) (fits.at_end s.1);
  goes = joined_goes known_join (λ v. refl) read step row ids from fits;
  skips = joined_skips known_join read step row ids from fits;
  keeps = slot_keeps read step row ids from fits;
}

pub fits_needed : {X S R : Type 0} (read : Node → Option X) (step : S → ℤ → Node → Option S) (row : S → Option R) (ids : S → List ℤ) (from : S → Fields → Option R) → Fits step row ids from
    → Fits (slot_step read step) (needed_row row) (slot_ids ids) (needed_from read from)
fits_needed {X} {S} {R} read step row ids from fits = record {
  at_end = λ s. ap (λ (r : Option R). needed_join s.0.1 r) (fits.at_end s.1);
  goes = joined_goes needed_join needed_none read step row ids from fits;
  skips = joined_skips needed_join read step row ids from fits;
  keeps = slot_keeps read step row ids from fits;
}

-- all fields
pub whole : {S R : Type 0} (step : S → ℤ → Node → Option S) (row : S → Option R) (ids : S → List ℤ) (from : S → Fields → Option R) → Fits step row ids from → (s : S) (fs : Fields) → are_distinct (ids s) ≡ true → row_of step row s fs ≡ from s fs
whole step row ids from fits s no_fields d = sym (fits.at_end s)
whole {S} {R} step row ids from fits s (field id x fs) d = go (λ n distinct. whole step row ids from fits n fs distinct) (step s id x) refl ∙ sym (fits.goes s id x fs d)
  where
    go : ((n : S) → are_distinct (ids n) ≡ true → row_of step row n fs ≡ from n fs) → (o : Option S) → step s id x ≡ o → option_and_then row (option_and_then (λ n. folded step n fs) o) ≡ option_and_then (λ n. from n fs) o
    go rest None e = refl
    go rest (Some n) e = rest n (subst (λ (is : List ℤ). are_distinct is ≡ true) (sym (fits.keeps s n id x e)) d)

-- ---- a record of its fields

mapped : {A B C : Type 0} (f : A → B) (g : B → C) (o : Option A) → option_map (λ a. g (f a)) o ≡ option_map g (option_map f o)
mapped f g None = refl
mapped f g (Some a) = refl

-- the first field of a record, which may be absent
pub split_known : {X R Y : Type 0} (K : Option (Option X)) (G : Option R) (make : Option X × R → Y) (f : Option X → Option Y) → ((v : Option X) → f v ≡ option_map (λ r. make (v, r)) G)
    → (K >>= f) ≡ option_map make (option_and_then (λ v. option_map (λ r. (v, r)) G) (over None K))
split_known None G make f same = refl
split_known (Some None) G make f same = same None ∙ mapped (λ r. (None, r)) make G
split_known (Some (Some x)) G make f same = same (Some x) ∙ mapped (λ r. (Some x, r)) make G

-- the first field of a record, which has to be there
pub split_needed : {X R Y : Type 0} (K : Option (Option X)) (G : Option R) (make : X × R → Y) (f : X → Option Y) → ((v : X) → f v ≡ option_map (λ r. make (v, r)) G)
    → ((K >>= λ found. found) >>= f) ≡ option_map make (option_and_then (λ o. option_and_then (λ v. option_map (λ r. (v, r)) G) o) (over None K))
split_needed None G make f same = refl
split_needed (Some None) G make f same = refl
split_needed (Some (Some x)) G make f same = same x ∙ mapped (λ r. (x, r)) make G
