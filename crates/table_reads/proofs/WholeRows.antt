-- Rows of a group with all columns of its table.
use Rattle.std.proofs.Common.{◌≡◌, ◌≤◌, ◌<◌, ◌+◌, ℕ, zero, suc, Bool, true, false, not, ◌||◌, nat_eq, List, [], ◌∷◌, map, filter, None, Ok, Err, refl, sym, ◌∙◌, ap, subst, arith, eq-eqb}
use Rattle.std.specs.Prelude.{if◌then◌else◌}
use Rattle.std.proofs.lemmas.Bool.{false≢true, and_parts, or_right as or_true}
use Rattle.schema.specs.Values.{no_values, value as item}
use Rattle.schema.specs.Shape.{Field, Fields, no_fields, field, count}
use Rattle.schema.specs.Fits.{fits_each, RowsFit}
use Rattle.schema.specs.Fronts.{padded, with_field, with_null}
use Rattle.schema.specs.Cutting.{is_among}
use Rattle.schema.specs.Law.{IsSchema}
use Rattle.schema.specs.Keys.{KeyColumn, AreKeys, width, without_keys, values_besides}
use Rattle.schema.proofs.Grown.{padded_grows}
use Rattle.schema.proofs.Padding.{whole_rows_are_padded}
use Rattle.disk.specs.State.{State as DiskState}
use Rattle.bits.specs.declared.refusal.Refusal.{Refusal}
use Rattle.bits.specs.declared.refusal.Refusal.TheVariants.{Memory}
use Rattle.bits.specs.Refusals.{HasCause}
use Rattle.schema.specs.Stripe.{Leaf}
use Rattle.filter.specs.Test.{Test}
use Rattle.filter.specs.Terms.{Term, tests_of}
use Rattle.filter.specs.Deciding.{satisfies as all_satisfied}
use Rattle.manifest.specs.Groups.{Group as FileGroup, Root}
use Rattle.manifest.specs.Records.{IsGroup}
use Rattle.manifest.proofs.PartRows.{rows_of_parts_fit}
use Rattle.scan.specs.Absent.{Lacks, MayLackRows}
use Rattle.scan.specs.Selected.{AreSelected, cut_to}
use Rattle.scan.proofs.SomeChunk.{some_chunk}
use Rattle.table.specs.Table.{Row, Group}
use Rattle.table.specs.Cursors.{wanted_places}
use Rattle.table.proofs.Deciding.{tests_decide}
use Rattle.table_reads.specs.Counting.{IsHeld}
use Rattle.table_state.specs.Stands.{IsStored}

-- ---- they fit the table

pub stored_fit : (disk : DiskState) (keys : List KeyColumn) (schema : Fields) (n : ℕ) (f : FileGroup) (g : Group) → AreKeys keys schema → IsGroup keys (without_keys keys schema) f → IsStored disk keys schema n f g → RowsFit schema g.rows
stored_fit disk keys schema n f g k of is = rows_of_parts_fit keys schema f is.bytes g.rows k of.file of.keyed.values is.means

-- ---- cut to all columns, a row is whole

pub whole_width : (fs : Fields) (row : Row) → fits_each fs row ≡ true → width row ≡ count fs
whole_width no_fields no_values e = refl
whole_width no_fields (item v vs) e = absurd (false≢true e)
whole_width (field f fs) no_values e = absurd (false≢true e)
whole_width (field f fs) (item v vs) e = ap suc (whole_width fs vs (and_parts _ (fits_each fs vs) e).1)

-- each place is a wanted one
all_wanted : (fs : Fields) (i k : ℕ) → k < count fs → is_among (wanted_places None i fs) (i + k) ≡ true
all_wanted no_fields i k low = absurd (omega (arith, low))
all_wanted (field f fs) i zero low = let e : i ≡ i + 0 = omega arith in ap (λ (b : Bool). b || is_among (wanted_places None (suc i) fs) (i + 0)) (eq-eqb i (i + 0) e)
all_wanted (field f fs) i (suc k) low =
    let e : suc i + k ≡ i + suc k = omega arith in
    or_true (nat_eq i (i + suc k)) (is_among (wanted_places None (suc i) fs) (i + suc k)) (ap (λ (m : ℕ). is_among (wanted_places None (suc i) fs) m) (sym e) ∙ all_wanted fs (suc i) k (omega (arith, low)))

none_gone : (gone : ℕ → Bool) (i : ℕ) (row : Row) → ((k : ℕ) → k < width row → gone (i + k) ≡ false) → values_besides gone i row ≡ row
none_gone gone i no_values h = refl
none_gone gone i (item v vs) h =
    let here : gone i ≡ false = (let e : i ≡ i + 0 = omega arith in ap gone e ∙ h 0 (omega arith)) in
    ap (λ (b : Bool). if b then values_besides gone (suc i) vs else item v (values_besides gone (suc i) vs)) here
    ∙ ap (item v) (none_gone gone (suc i) vs (λ k low. let e : suc i + k ≡ i + suc k = omega arith in ap gone e ∙ h (suc k) (omega (arith, low))))

cut_whole : (fs : Fields) (row : Row) → fits_each fs row ≡ true → cut_to (wanted_places None 0 fs) row ≡ row
cut_whole fs row fit = none_gone (λ i. not (is_among (wanted_places None 0 fs) i)) 0 row (λ k low. let w = whole_width fs row fit in ap not (all_wanted fs 0 k (omega (arith, low, w))))

cut_all : (fs : Fields) (rows : List Row) → RowsFit fs rows → map (cut_to (wanted_places None 0 fs)) rows ≡ rows
cut_all fs [] h = refl
cut_all fs (r ∷ rs) h = ap (λ (x : Row). x ∷ map (cut_to (wanted_places None 0 fs)) rs) (cut_whole fs r h.0) ∙ ap (λ (xs : List Row). r ∷ xs) (cut_all fs rs h.1)

pub all_satisfy : (rs : List Row) → filter (all_satisfied []) rs ≡ rs
all_satisfy [] = refl
all_satisfy (r ∷ rs) = ap (λ (xs : List Row). r ∷ xs) (all_satisfy rs)

-- with no filter and all columns, all rows are selected, as they are
pub selected_all : (fs : Fields) (rows out : List Row) → RowsFit fs rows → AreSelected [] (wanted_places None 0 fs) rows out → out ≡ rows
selected_all fs rows out fit are = are (all_satisfied []) (tests_decide []) ∙ ap (map (cut_to (wanted_places None 0 fs))) (all_satisfy rows) ∙ cut_all fs rows fit

-- ---- they are padded

pub padded_same : (fs : Fields) (rows : List Row) → RowsFit fs rows → map (padded fs) rows ≡ rows
padded_same fs [] h = refl
padded_same fs (r ∷ rs) h = ap (λ (x : Row). x ∷ map (padded fs) rs) (whole_rows_are_padded fs r h.0) ∙ ap (λ (xs : List Row). r ∷ xs) (padded_same fs rs h.1)

pub wider : (fs : Fields) (row : Row) → width row ≤ width (padded fs row)
wider no_fields row = omega arith
wider (field f fs) no_values = omega arith
wider (field f fs) (item v vs) = let h = wider fs vs in omega (arith, h)

-- with a field more, they have a null more
pub padded_more : (fs : Fields) (f : Field) (read rows : List Row) → RowsFit fs rows → map (padded fs) read ≡ rows → map (padded (with_field fs f)) read ≡ map with_null rows
padded_more fs f [] [] fit e = refl
padded_more fs f [] (r ∷ rs) fit e = absurd (cc)
padded_more fs f (x ∷ xs) [] fit e = absurd (cc)
padded_more fs f (x ∷ xs) (r ∷ rs) fit e =
    let here : padded fs x ≡ r = cc in
    let later : map (padded fs) xs ≡ rs = cc in
    let long = wider fs x in
    let as_long = ap width here in
    let all = whole_width fs r fit.0 in
    let one : padded (with_field fs f) x ≡ with_null r = padded_grows fs f x (omega (arith, long, as_long, all)) ∙ ap with_null here in
    ap (λ (y : Row). y ∷ map (padded (with_field fs f)) xs) one ∙ ap (λ (ys : List Row). with_null r ∷ ys) (padded_more fs f xs rs fit.1 later)

-- ---- what is read of a group that is held

pub no_tests : (leaves : List Leaf) (terms : List (List Term)) (tests : List (List Test)) → terms ≡ [] → tests_of leaves terms ≡ Ok tests → tests ≡ []
no_tests leaves terms tests none made = let e : Ok [] ≡ Ok tests = ap (tests_of leaves) (sym none) ∙ made in cc

pub filter_poor : (leaves : List Leaf) (terms : List (List Term)) → terms ≡ [] → (e : Refusal) → HasCause (λ f. tests_of leaves terms ≡ Err f) e → e ≡ Memory
filter_poor leaves terms none Memory h = refl
filter_poor leaves terms none e h = let c : Ok [] ≡ Err e = ap (tests_of leaves) (sym none) ∙ h in absurd (cc)

pub whole_so : (disk : DiskState) (root : Root) (f : FileGroup) (held : Group) (tests : List (List Test)) (places : List ℕ) (out : List Row) → tests ≡ [] → places ≡ wanted_places None 0 root.schema → IsHeld disk [] root f held
    → AreSelected tests places held.rows out → out ≡ held.rows
whole_so disk root f held tests places out none all h are =
    selected_all root.schema held.rows out (stored_fit disk root.keys root.schema h.count f held h.keyed h.described.0 h.stored.0)
    (subst (λ (ps : List ℕ). AreSelected [] ps held.rows out) all (subst (λ (ts : List (List Test)). AreSelected ts places held.rows out) none are))

-- ---- where the part file is absent

-- each column is wanted, and there is no filter: some chunk is read
pub whole_never : (disk : DiskState) (root : Root) (f : FileGroup) (tests : List (List Test)) (rows : List Row) → tests ≡ [] → IsSchema root.schema → AreKeys root.keys root.schema → Lacks disk root.keys root.schema f
    → MayLackRows tests root.keys root.schema f (wanted_places None 0 root.schema) rows → ⊥
whole_never disk root f tests [] none schema keyed lacks may = may.filtered none
whole_never disk root f tests (row ∷ rows) none schema keyed lacks may =
    some_chunk tests root.keys root.schema f (wanted_places None 0 root.schema) schema keyed lacks.is
    (λ p low kept. let e : 0 + p ≡ p = omega arith in subst (λ (n : ℕ). is_among (wanted_places None 0 root.schema) n ≡ true) e (all_wanted root.schema 0 p low)) may
