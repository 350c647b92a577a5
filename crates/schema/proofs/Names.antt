-- The names of fields, met one by one from the last, and kept in a set.
use Rattle.std.proofs.Common.{ℕ, zero, suc, ◌≡◌, ◌∙◌, ◌+◌, ◌<◌, Bool, true, false, cond, not, List, [], ◌∷◌, drop, length, get_or, sym, ap, subst, ⊎_elim, Ordering, nat_cmp, bytes_eq, Bor, BTreeSet}
use Rattle.std.specs.BTreeSet.{contains, Updates}
use Rattle.std.specs.Cmp.Lexicographic.{slice_cmp}
use Rattle.std.specs.List.{AllByRecursion, list_any}
use Rattle.std.proofs.lemmas.Bool.{false≢true, or_parts, or_cases, not-true, not-false}
use Rattle.std.proofs.lemmas.Map.Text.{is_eq-slice_cmp}
use Rattle.std.proofs.lemmas.Slice.Eq.{bytes_eq-Decides}
use Rattle.lists.proofs.Booleans.{cond_is_or as or_else}
use Rattle.schema.specs.declared.field.Field.{Field as CodeField}
use Rattle.schema.specs.Shape.{name_of}
use Rattle.schema.specs.Views.{field_view, field_views}
use Rattle.schema.specs.Law.{AllDiffer, names}
use Rattle.schema.proofs.Forest.{field_place}

-- the order of texts
abbrev pub by_bytes : Bor (List ℕ) → Bor (List ℕ) → Ordering
by_bytes x y = slice_cmp nat_cmp x.now y.now

abbrev pub is_among : List ℕ → List (List ℕ) → Bool
is_among n ns = list_any (λ m. bytes_eq m n) ns

-- the set has just these names
abbrev pub HasJust : BTreeSet (Bor (List ℕ)) → List (List ℕ) → Type 0
HasJust seen ns = (q : Bor (List ℕ)) → contains by_bytes seen q ≡ is_among q.now ns

abbrev pub names_from : List CodeField → ℕ → List (List ℕ)
names_from fs i = names (field_views (drop i fs))

-- a name that is not among some differs from each
apart : (n : List ℕ) (ns : List (List ℕ)) → is_among n ns ≡ false → AllByRecursion (λ m. n ≡ m → ⊥) ns
apart n [] h = tt
apart n (m ∷ ns) h =
    let parts = or_parts (bytes_eq m n) (is_among n ns) h in
    ((λ e. false≢true (sym parts.0 ∙ (bytes_eq-Decides m n).1 (sym e))), apart n ns parts.1)

not_apart : (n : List ℕ) (ns : List (List ℕ)) → is_among n ns ≡ true → AllByRecursion (λ m. n ≡ m → ⊥) ns → ⊥
not_apart n [] h all = false≢true h
not_apart n (m ∷ ns) h all = ⊎_elim (λ e. all.0 (sym ((bytes_eq-Decides m n).0 e))) (λ e. not_apart n ns e all.1) (or_cases (bytes_eq m n) (is_among n ns) h)

-- one name more
add_name : (old new : BTreeSet (Bor (List ℕ))) (k : Bor (List ℕ)) (ns : List (List ℕ)) → Updates by_bytes old new k true → HasJust old ns → HasJust new (k.now ∷ ns)
add_name old new k ns updates has q =
    updates.0 q ∙ ap (λ b. cond b true (contains by_bytes old q)) (is_eq-slice_cmp k.now q.now) ∙ ap (cond (bytes_eq k.now q.now) true) (has q) ∙ or_else (bytes_eq k.now q.now) (is_among q.now ns)

names_place : (fs : List CodeField) (i next : ℕ) (f : CodeField) (name : Bor (List ℕ)) → next ≡ i + 1 → i < length fs → f ≡ get_or fs i f → name.now ≡ name_of (field_view f) → names_from fs i ≡ name.now ∷ names_from fs next
names_place fs i next f name e h is named =
    ap names (field_place fs i f h is) ∙ ap (λ n. n ∷ names_from fs (i + 1)) (sym named) ∙ ap (λ k. name.now ∷ names_from fs k) (sym e)

differ_from : (fs : List CodeField) (i : ℕ) → AllDiffer (names (field_views fs)) → AllDiffer (names_from fs i)
differ_from fs zero d = d
differ_from [] (suc i) d = tt
differ_from (f ∷ fs) (suc i) d = differ_from fs i d.1

-- the names from a place on differ, and the set has just these
abbrev pub AreMet : BTreeSet (Bor (List ℕ)) → List CodeField → ℕ → Type 0
AreMet seen fs i = HasJust seen (names_from fs i) × AllDiffer (names_from fs i)

-- the name before them is met for the first time
pub name_met : (fs : List CodeField) (i next : ℕ) (f : CodeField) (name : Bor (List ℕ)) (old new : BTreeSet (Bor (List ℕ))) → next ≡ i + 1 → i < length fs → f ≡ get_or fs i f → name.now ≡ name_of (field_view f)
    → true ≡ not (contains by_bytes old name) → Updates by_bytes old new name true → AreMet old fs next → AreMet new fs i
name_met fs i next f name old new e h is named first updates met =
    let whole : names_from fs i ≡ name.now ∷ names_from fs next = names_place fs i next f name e h is named in (
      subst (HasJust new) (sym whole) (add_name old new name (names_from fs next) updates met.0),
      subst AllDiffer (sym whole) (apart name.now (names_from fs next) (sym (met.0 name) ∙ not-true (contains by_bytes old name) (sym first)), met.1),
    )

-- it is one of them
pub met_twice : (fs : List CodeField) (i next : ℕ) (f : CodeField) (name : Bor (List ℕ)) (old : BTreeSet (Bor (List ℕ))) → next ≡ i + 1 → i < length fs → f ≡ get_or fs i f → name.now ≡ name_of (field_view f)
    → false ≡ not (contains by_bytes old name) → AreMet old fs next → AllDiffer (names (field_views fs)) → ⊥
met_twice fs i next f name old e h is named again met all =
    let whole : names_from fs i ≡ name.now ∷ names_from fs next = names_place fs i next f name e h is named in
    not_apart name.now (names_from fs next) (sym (met.0 name) ∙ not-false (contains by_bytes old name) (sym again)) (subst AllDiffer whole (differ_from fs i all)).0
