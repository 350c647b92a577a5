-- The rows of a part file fit the table, and there is one list of them.
use Rattle.std.proofs.Common.{◌≡◌, ℕ, zero, suc, ◌+◌, Bool, true, false, ◌&&◌, ◌||◌, nat_eq, List, [], ◌∷◌, map, Some, refl, ap, sym, subst, ◌∙◌, arith, add-zero, eqb-true}
use Rattle.std.specs.Prelude.{cond}
use Rattle.std.specs.List.{AllByRecursion}
use Rattle.std.proofs.lemmas.Bool.{false≢true, and_parts, and_from as true_both}
use Rattle.schema.specs.Values.{ValueTree, ValueTrees, no_values, value as item, member_at}
use Rattle.schema.specs.Shape.{Field, Fields, no_fields, field, count}
use Rattle.schema.specs.Fits.{fits, fits_each, RowsFit}
use Rattle.schema.specs.Cutting.{is_among}
use Rattle.schema.specs.Keys.{KeyColumn, AreKeys, places_of, field_at, key_field, key_type, fields_besides, values_besides, without_keys, key_of_row, width, AreRowsOf, RowsAreOne}
use Rattle.partition.specs.Folders.{is_key, is_key_value, is_filled}
use Rattle.schema.specs.Fits.{fits_leaf}
use Rattle.footer.specs.Laws.{FilesMeanOneList}
use Rattle.schema.specs.Fronts.{first_fields, IsFront, padded}
use Rattle.manifest.specs.Groups.{Group, Root}
use Rattle.manifest.specs.Root.{RootMeans, stored_of}
use Rattle.manifest.specs.Parts.{PartMeans}
use Rattle.manifest.specs.Table.{Rows, Files, IsPartAt, ArePartsAt, IsTableOf}
use Rattle.manifest.specs.Laws.{RootsMeanOneTable, RowsOfPartsFit, TablesAreOne}
use Rattle.manifest.proofs.PartFiles.{parts_mean_their_rows}
use Rattle.schema.proofs.Padding.{padded_rows_fit}
use Rattle.schema.proofs.Grown.{keys_and_others, padded_width, fitting_width}

-- ---- rows fit

-- a row fits where its values besides some fit, and those do too
fits_back : (gone : ℕ → Bool) (i : ℕ) (fs : Fields) (row : ValueTrees) → width row ≡ count fs → fits_each (fields_besides gone i fs) (values_besides gone i row) ≡ true
    → ((p : ℕ) (f : Field) → gone (i + p) ≡ true → field_at p fs ≡ Some f → fits f (member_at p row) ≡ true) → fits_each fs row ≡ true
fits_back gone i no_fields no_values w h k = refl
fits_back gone i no_fields (item v vs) w h k = absurd (omega (arith, w))
fits_back gone i (field f fs) no_values w h k = absurd (omega (arith, w))
fits_back gone i (field f fs) (item v vs) w h k =
    let later = λ (p : ℕ) (x : Field) (g : gone (suc i + p) ≡ true) (there : field_at p fs ≡ Some x). k (suc p) x (let e : suc i + p ≡ i + suc p = omega arith in subst (λ (n : ℕ). gone n ≡ true) e g) there in
    by (gone i) refl h (λ (rest : fits_each (fields_besides gone (suc i) fs) (values_besides gone (suc i) vs) ≡ true). fits_back gone (suc i) fs vs (omega (arith, w)) rest later)
  where
    by : (b : Bool) → gone i ≡ b
        → fits_each (cond b (fields_besides gone (suc i) fs) (field f (fields_besides gone (suc i) fs))) (cond b (values_besides gone (suc i) vs) (item v (values_besides gone (suc i) vs))) ≡ true
        → (fits_each (fields_besides gone (suc i) fs) (values_besides gone (suc i) vs) ≡ true → fits_each fs vs ≡ true) → (fits f v && fits_each fs vs) ≡ true
    by true e both rest = true_both (fits f v) (fits_each fs vs) (k zero f (ap gone (add-zero i) ∙ e) refl) (rest both)
    by false e both rest =
        let parts = and_parts (fits f v) (fits_each (fields_besides gone (suc i) fs) (values_besides gone (suc i) vs)) both in
        true_both (fits f v) (fits_each fs vs) parts.0 (rest parts.1)

-- the values of a key fit their columns
key_fits : (keys : List KeyColumn) (fs : Fields) (key : List ValueTree) (row : ValueTrees) → AllByRecursion (λ (k : KeyColumn). field_at k.at fs ≡ Some (key_field k)) keys → is_key keys key ≡ true → key_of_row keys row ≡ key
    → (p : ℕ) (f : Field) → is_among (places_of keys) p ≡ true → field_at p fs ≡ Some f → fits f (member_at p row) ≡ true
key_fits [] fs key row there is same p f among at = absurd (false≢true among)
key_fits (k ∷ keys) fs [] row there is same p f among at = absurd (false≢true is)
key_fits (k ∷ keys) fs (v ∷ key) row there is same p f among at =
    let parts = and_parts (is_key_value k.kind v) (is_key keys key) is in
    let first : member_at k.at row ≡ v = cc in
    let others : key_of_row keys row ≡ key = cc in
    by (nat_eq k.at p) refl among parts.0 first (λ (m : is_among (places_of keys) p ≡ true). key_fits keys fs key row there.1 parts.1 others p f m at)
  where
    by : (b : Bool) → nat_eq k.at p ≡ b → (b || is_among (places_of keys) p) ≡ true → is_key_value k.kind v ≡ true → member_at k.at row ≡ v
        → (is_among (places_of keys) p ≡ true → fits f (member_at p row) ≡ true) → fits f (member_at p row) ≡ true
    by true e m value first more =
        let here : k.at ≡ p = eqb-true k.at p e in
        let both : Some f ≡ Some (key_field k) = sym at ∙ ap (λ (n : ℕ). field_at n fs) (sym here) ∙ there.0 in
        let same_field : f ≡ key_field k = cc in
        let fit = (and_parts (fits_leaf (key_type k.kind) v) (is_filled v) value).0 in
        ap (λ (x : Field). fits x (member_at p row)) same_field ∙ ap (λ (n : ℕ). fits (key_field k) (member_at n row)) (sym here) ∙ ap (λ (x : ValueTree). fits (key_field k) x) first ∙ fit
    by false e m value first more = more m

rows_fit : (keys : List KeyColumn) (fs : Fields) (n : ℕ) (key : List ValueTree) (stored rows : List ValueTrees) → AreKeys keys fs → IsFront n (without_keys keys fs) → is_key keys key ≡ true
    → RowsFit (first_fields n (without_keys keys fs)) stored → AreRowsOf keys key (map (padded (without_keys keys fs)) stored) rows → RowsFit fs rows
rows_fit keys fs n key [] [] k front is r h = tt
rows_fit keys fs n key [] (row ∷ rows) k front is r h = absurd h
rows_fit keys fs n key (s ∷ stored) [] k front is r h = absurd h
rows_fit keys fs n key (s ∷ stored) (row ∷ rows) k front is r h =
    let own = without_keys keys fs in
    let wide = padded_width own s (fitting_width n own s r.0) in
    let whole : width row ≡ count fs = omega (arith, h.0.whole, wide, keys_and_others keys fs k) in
    let fit = padded_rows_fit n own s front r.0 in
    let besides = ap (fits_each own) h.0.besides ∙ fit in (
      fits_back (is_among (places_of keys)) 0 fs row whole besides (λ p f among at. key_fits keys fs key row k.there is h.0.keyed p f (let e : 0 + p ≡ p = omega arith in subst (λ (m : ℕ). is_among (places_of keys) m ≡ true) e among) at),
      rows_fit keys fs n key stored rows k front is r.1 h.1,
    )

pub rows_of_parts_fit : RowsOfPartsFit
rows_of_parts_fit keys fs g bytes rows k front is p = rows_fit keys fs g.width g.key p.stored rows k front is p.holds.means.fit p.keyed

-- ---- one list of rows

same_member : (keys : List KeyColumn) (one other : ValueTrees) → key_of_row keys one ≡ key_of_row keys other → (p : ℕ) → is_among (places_of keys) p ≡ true → member_at p one ≡ member_at p other
same_member [] one other e p h = absurd (false≢true h)
same_member (k ∷ keys) one other e p h =
    let first : member_at k.at one ≡ member_at k.at other = cc in
    let others : key_of_row keys one ≡ key_of_row keys other = cc in
    by (nat_eq k.at p) refl h (same_member keys one other others p) first
  where
    by : (b : Bool) → nat_eq k.at p ≡ b → (b || is_among (places_of keys) p) ≡ true → (is_among (places_of keys) p ≡ true → member_at p one ≡ member_at p other) → member_at k.at one ≡ member_at k.at other → member_at p one ≡ member_at p other
    by true t h more first = subst (λ (n : ℕ). member_at n one ≡ member_at n other) (eqb-true k.at p t) first
    by false t h more first = more h

one_list : RowsAreOne → (keys : List KeyColumn) (key : List ValueTree) (stored rows others : List ValueTrees) → AreRowsOf keys key stored rows → AreRowsOf keys key stored others → rows ≡ others
one_list law keys key [] [] [] h k = refl
one_list law keys key [] [] (o ∷ others) h k = absurd k
one_list law keys key [] (r ∷ rows) others h k = absurd h
one_list law keys key (s ∷ stored) [] others h k = absurd h
one_list law keys key (s ∷ stored) (r ∷ rows) [] h k = absurd k
one_list law keys key (s ∷ stored) (r ∷ rows) (o ∷ others) h k =
    let first = law (is_among (places_of keys)) 0 r o (h.0.whole ∙ sym k.0.whole) (h.0.besides ∙ sym k.0.besides)
    (λ place gone. same_member keys r o (h.0.keyed ∙ sym k.0.keyed) place (let e : 0 + place ≡ place = omega arith in subst (λ (n : ℕ). is_among (places_of keys) n ≡ true) e gone)) in
    let rest = one_list law keys key stored rows others h.1 k.1 in
    λ i. first i ∷ rest i

module _ (lists : FilesMeanOneList) (law : RowsAreOne) (files : Files) (root : Root) where
  one_part : (g : Group) (t u : Rows) → IsPartAt files root g t → IsPartAt files root g u → t ≡ u
  one_part g t u p q =
      let both : Some p.bytes ≡ Some q.bytes = sym p.there ∙ q.there in
      let bytes : p.bytes ≡ q.bytes = cc in
      let one = parts_mean_their_rows root.keys (stored_of root) g p.bytes t.rows p.means in
      let other = parts_mean_their_rows root.keys (stored_of root) g p.bytes u.rows (subst (λ (b : List ℕ). PartMeans root.keys (stored_of root) g b u.rows) (sym bytes) q.means) in
      let stored = (lists p.bytes (first_fields g.width (stored_of root)) (first_fields g.width (stored_of root)) one.0 other.0 one.1 other.1).1 in
      let rows = one_list law root.keys g.key (map (padded (stored_of root)) one.0) t.rows u.rows one.2 (subst (λ (ss : List ValueTrees). AreRowsOf root.keys g.key (map (padded (stored_of root)) ss) u.rows) (sym stored) other.2) in
      let number = p.number ∙ sym q.number in
      let key = p.key ∙ sym q.key in
      λ i. record { number = number i; key = key i; rows = rows i }

  one_each : (gs : List Group) (ts us : List Rows) → ArePartsAt files root gs ts → ArePartsAt files root gs us → ts ≡ us
  one_each [] [] [] h k = refl
  one_each [] [] (u ∷ us) h k = absurd k
  one_each [] (t ∷ ts) us h k = absurd h
  one_each (g ∷ gs) [] us h k = absurd h
  one_each (g ∷ gs) (t ∷ ts) [] h k = absurd k
  one_each (g ∷ gs) (t ∷ ts) (u ∷ us) h k =
      let first = one_part g t u h.0 k.0 in
      let rest = one_each gs ts us h.1 k.1 in
      λ i. first i ∷ rest i

pub tables_are_one : RootsMeanOneTable → FilesMeanOneList → RowsAreOne → TablesAreOne
tables_are_one roots lists law files t u h k =
    let p = h.1 in
    let q = k.1 in
    let both : Some p.described.bytes ≡ Some q.described.bytes = sym p.described.there ∙ q.described.there in
    let bytes : p.described.bytes ≡ q.described.bytes = cc in
    let same : h.0 ≡ k.0 = roots p.described.bytes h.0 k.0 p.described.means (subst (λ (b : List ℕ). RootMeans b k.0) (sym bytes) q.described.means) in
    let r : IsTableOf files h.0 u = subst (λ (root : Root). IsTableOf files root u) (sym same) q in
    let schema = p.schema ∙ sym r.schema in
    let keys = p.keys ∙ sym r.keys in
    let next = p.next ∙ sym r.next in
    let groups = one_each lists law files h.0 h.0.groups t.groups u.groups p.parts r.parts in
    λ i. record { schema = schema i; keys = keys i; groups = groups i; next = next i }
