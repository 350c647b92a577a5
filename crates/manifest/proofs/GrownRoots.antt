-- A described table with a further field.
use Rattle.std.proofs.Common.{◌≡◌, ℕ, zero, suc, Bool, true, false, List, [], ◌∷◌, map, Some, refl, ap, sym, subst, ◌∙◌, arith}
use Rattle.std.specs.Prelude.{cond, IsTrue, Contains}
use Rattle.std.specs.Str.{is_utf8}
use Rattle.std.specs.List.{AllByRecursion}
use Rattle.schema.specs.declared.value.Repetition.TheVariants.{Optional}
use Rattle.schema.specs.Values.{ValueTree, ValueTrees}
use Rattle.schema.specs.Shape.{Field, Fields, no_fields, field, name_of, repetition_of}
use Rattle.schema.specs.Stripe.{leaves_of}
use Rattle.schema.specs.Fits.{RowsFit}
use Rattle.schema.specs.Law.{names, AllDiffer, IsFilled, AreValid}
use Rattle.schema.specs.Keys.{KeyColumn, AreKeys, key_field, field_at, fields_besides, places_of, without_keys, IsRowOf, AreRowsOf}
use Rattle.schema.specs.Cutting.{is_among}
use Rattle.schema.specs.Fronts.{first_fields, IsFront, padded, with_field, with_null}
use Rattle.manifest.specs.Groups.{Group, Root}
use Rattle.manifest.specs.Records.{IsGroup, AreChunkRecords}
use Rattle.manifest.specs.Root.{stored_of}
use Rattle.manifest.specs.Parts.{HoldsGroup, PartMeans}
use Rattle.table.specs.Columns.{widened}
use Rattle.manifest.specs.Table.{Rows, Files, path_of_group, IsPartAt, ArePartsAt}
use Rattle.manifest.specs.Laws.{GrownRootsAreDescribed, GrownPartsMeanRows, GrownTablesStand}
use Rattle.schema.proofs.Grown.{first_stay, front_stays, count_grows, padded_grows, padded_width, fitting_width, without_keys_grows, row_grows}

-- ---- fields besides some

all_besides : (P : List ℕ → Type 0) (gone : ℕ → Bool) (i : ℕ) (fs : Fields) → AllByRecursion P (names fs) → AllByRecursion P (names (fields_besides gone i fs))
all_besides P gone i no_fields h = tt
all_besides P gone i (field f fs) h = by (gone i) (all_besides P gone (suc i) fs h.1)
  where
    by : (b : Bool) → AllByRecursion P (names (fields_besides gone (suc i) fs)) → AllByRecursion P (names (cond b (fields_besides gone (suc i) fs) (field f (fields_besides gone (suc i) fs))))
    by true k = k
    by false k = (h.0, k)

differ_besides : (gone : ℕ → Bool) (i : ℕ) (fs : Fields) → AllDiffer (names fs) → AllDiffer (names (fields_besides gone i fs))
differ_besides gone i no_fields h = tt
differ_besides gone i (field f fs) h = by (gone i) (differ_besides gone (suc i) fs h.1) (all_besides (λ m. name_of f ≡ m → ⊥) gone (suc i) fs h.0)
  where
    by : (b : Bool) → AllDiffer (names (fields_besides gone (suc i) fs)) → AllByRecursion (λ m. name_of f ≡ m → ⊥) (names (fields_besides gone (suc i) fs)) → AllDiffer (names (cond b (fields_besides gone (suc i) fs) (field f (fields_besides gone (suc i) fs))))
    by true k a = k
    by false k a = (a, k)

valid_besides : (gone : ℕ → Bool) (i : ℕ) (fs : Fields) → AreValid fs → AreValid (fields_besides gone i fs)
valid_besides gone i no_fields h = tt
valid_besides gone i (field f fs) h = by (gone i) (valid_besides gone (suc i) fs h.1)
  where
    by : (b : Bool) → AreValid (fields_besides gone (suc i) fs) → AreValid (cond b (fields_besides gone (suc i) fs) (field f (fields_besides gone (suc i) fs)))
    by true k = k
    by false k = (h.0, k)

filled_with : (fs : Fields) (f : Field) → IsFilled (with_field fs f)
filled_with no_fields f = tt
filled_with (field g fs) f = tt

-- ---- the description

field_stays : (p : ℕ) (fs : Fields) (f g : Field) → field_at p fs ≡ Some g → field_at p (with_field fs f) ≡ Some g
field_stays zero no_fields f g h = absurd (cc)
field_stays (suc p) no_fields f g h = absurd (cc)
field_stays zero (field x fs) f g h = h
field_stays (suc p) (field x fs) f g h = field_stays p fs f g h

keys_stay : (keys : List KeyColumn) (fs : Fields) (f : Field) → AllByRecursion (λ (k : KeyColumn). field_at k.at fs ≡ Some (key_field k)) keys → AllByRecursion (λ (k : KeyColumn). field_at k.at (with_field fs f) ≡ Some (key_field k)) keys
keys_stay [] fs f h = tt
keys_stay (k ∷ keys) fs f h = (field_stays k.at fs f (key_field k) h.0, keys_stay keys fs f h.1)

are_keys_still : (keys : List KeyColumn) (fs : Fields) (f : Field) → AreKeys keys fs → AreKeys keys (with_field fs f)
are_keys_still keys fs f k = record { few = k.few; rest = omega (arith, k.rest, count_grows fs f); distinct = k.distinct; named = k.named; there = keys_stay keys fs f k.there }

pub group_stays : (keys : List KeyColumn) (stored : Fields) (f : Field) (g : Group) → repetition_of f ≡ Optional → IsGroup keys stored g → IsGroup keys (with_field stored f) g
group_stays keys stored f g o h = record {
  some = h.some;
  within_limits = h.within_limits;
  keyed = h.keyed;
  file = front_stays g.width stored f h.file o;
  chunks = subst (λ (fs : Fields). AreChunkRecords (leaves_of fs) g.chunks g.known.leaves) (sym (first_stay g.width stored f h.file.there)) h.chunks;
}

groups_stay : (keys : List KeyColumn) (stored : Fields) (f : Field) (gs : List Group) → repetition_of f ≡ Optional → AllByRecursion (IsGroup keys stored) gs → AllByRecursion (IsGroup keys (with_field stored f)) gs
groups_stay keys stored f [] o h = tt
groups_stay keys stored f (g ∷ gs) o h = (group_stays keys stored f g o h.0, groups_stay keys stored f gs o h.1)

-- the groups of a table can be in it when it has a further field
pub grown_groups : (keys : List KeyColumn) (fs : Fields) (f : Field) (gs : List Group) → AreKeys keys fs → repetition_of f ≡ Optional → AllByRecursion (IsGroup keys (without_keys keys fs)) gs → AllByRecursion (IsGroup keys (without_keys keys (with_field fs f))) gs
grown_groups keys fs f gs k o h = subst (λ (own : Fields). AllByRecursion (IsGroup keys own) gs) (sym (without_keys_grows keys fs f k)) (groups_stay keys (without_keys keys fs) f gs o h)

pub grown_roots_are_described : GrownRootsAreDescribed
grown_roots_are_described root f d o valid within =
    let gone = is_among (places_of root.keys) in
    let same = without_keys_grows root.keys root.schema f d.keys in
    record {
      schema = valid;
      within = within;
      keys = are_keys_still root.keys root.schema f d.keys;
      stored = (
        record {
          some = subst IsFilled (sym same) (filled_with (stored_of root) f);
          differ = differ_besides gone 0 (with_field root.schema f) valid.0.differ;
          text = all_besides (λ n. IsTrue (is_utf8 n)) gone 0 (with_field root.schema f) valid.0.text;
        },
        valid_besides gone 0 (with_field root.schema f) valid.1,
      );
      fits = d.fits;
      each = grown_groups root.keys root.schema f root.groups d.keys o d.each;
      in_order = d.in_order;
      distinct = d.distinct;
      below = d.below;
    }

-- ---- the rows

rows_stay : (keys : List KeyColumn) (fs : Fields) (f : Field) (n : ℕ) (key : List ValueTree) (stored rows : List ValueTrees) → AreKeys keys fs → RowsFit (first_fields n (without_keys keys fs)) stored
    → AreRowsOf keys key (map (padded (without_keys keys fs)) stored) rows → AreRowsOf keys key (map (padded (with_field (without_keys keys fs) f)) stored) (map with_null rows)
rows_stay keys fs f n key [] [] k r h = tt
rows_stay keys fs f n key [] (row ∷ rows) k r h = absurd h
rows_stay keys fs f n key (s ∷ stored) [] k r h = absurd h
rows_stay keys fs f n key (s ∷ stored) (row ∷ rows) k r h =
    let own = without_keys keys fs in
    let wide = fitting_width n own s r.0 in
    let first = row_grows keys fs key (padded own s) row k (padded_width own s wide) h.0 in
    (subst (λ (x : ValueTrees). IsRowOf keys key x (with_null row)) (sym (padded_grows own f s wide)) first, rows_stay keys fs f n key stored rows k r.1 h.1)

pub grown_parts_mean_rows : GrownPartsMeanRows
grown_parts_mean_rows keys fs f g bytes rows k o front p =
    let own = without_keys keys fs in
    let grown : PartMeans keys (with_field own f) g bytes (map with_null rows) = record {
      stored = p.stored;
      holds = subst (λ (gs : Fields). HoldsGroup gs g bytes p.stored) (sym (first_stay g.width own f front.there)) p.holds;
      keyed = rows_stay keys fs f g.width g.key p.stored rows k p.holds.means.fit p.keyed;
    } in
    subst (λ (gs : Fields). PartMeans keys gs g bytes (map with_null rows)) (sym (without_keys_grows keys fs f k)) grown

-- ---- the table

contains_first : (g : Group) (gs : List Group) → Contains (g ∷ gs) g
contains_first g gs = (0, omega arith, refl)

contains_later : (x g : Group) (gs : List Group) → Contains gs x → Contains (g ∷ gs) x
contains_later x g gs c = (suc c.0, omega (arith, c.1), c.2)

part_stays : (files later : Files) (root : Root) (f : Field) (g : Group) (t : Rows) → AreKeys root.keys root.schema → repetition_of f ≡ Optional → IsFront g.width (stored_of root) → later (path_of_group root g) ≡ files (path_of_group root g)
    → IsPartAt files root g t → IsPartAt later (record root { schema = with_field root.schema f }) g (widened t)
part_stays files later root f g t k o front same p = record {
  number = p.number;
  key = p.key;
  bytes = p.bytes;
  there = same ∙ p.there;
  means = grown_parts_mean_rows root.keys root.schema f g p.bytes t.rows k o front p.means;
}

parts_stay : (files later : Files) (root : Root) (f : Field) (gs : List Group) (ts : List Rows) → AreKeys root.keys root.schema → repetition_of f ≡ Optional → AllByRecursion (IsGroup root.keys (stored_of root)) gs
    → ((g : Group) → Contains gs g → later (path_of_group root g) ≡ files (path_of_group root g)) → ArePartsAt files root gs ts → ArePartsAt later (record root { schema = with_field root.schema f }) gs (map widened ts)
parts_stay files later root f [] [] k o d same h = tt
parts_stay files later root f [] (t ∷ ts) k o d same h = absurd h
parts_stay files later root f (g ∷ gs) [] k o d same h = absurd h
parts_stay files later root f (g ∷ gs) (t ∷ ts) k o d same h =
    (part_stays files later root f g t k o d.0.file (same g (contains_first g gs)) h.0, parts_stay files later root f gs ts k o d.1 (λ x c. same x (contains_later x g gs c)) h.1)

pub grown_tables_stand : GrownTablesStand
grown_tables_stand files later root table f h o root_there same = record {
  described = root_there;
  schema = ap (λ fs. with_field fs f) h.schema;
  keys = h.keys;
  next = h.next;
  parts = parts_stay files later root f root.groups table.groups h.described.means.described.keys o h.described.means.described.each same h.parts;
}
