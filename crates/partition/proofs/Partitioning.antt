-- The tests of columns and keys say which can partition.
use Rattle.std.proofs.Common.{◌≡◌, ◌≢◌, ℕ, zero, suc, ◌<◌, ◌≤◌, Bool, true, false, not, ◌&&◌, List, [], ◌∷◌, length, get_or, map, IsTrue, refl, ap, sym, ◌∙◌, arith}
use Rattle.std.specs.Prelude.{nat_le, nat_eq, ◌↔◌}
use Rattle.std.specs.List.{AllByRecursion, list_any}
use Rattle.std.specs.Str.{bytes_eq}
use Rattle.std.specs.Cmp.Lexicographic.{bytes_decides}
use Rattle.std.proofs.lemmas.Bool.{false≢true, and_parts, leb-true, le-leb, and_from as both, both_ways as not_both, or_parts as or_false, or_from as no_either, false_from_ne_true as is_not, not-true as not_true, not_from_false as from_not}
use Rattle.schema.specs.declared.key.KeyColumn.{KeyColumn as CodeKeyColumn}
use Rattle.schema.specs.declared.key.KeyKind.{KeyKind}
use Rattle.schema.specs.declared.key.KeyKind.TheVariants.{Boolean, Int32, Int64, Utf8}
use Rattle.schema.specs.declared.value.Value.{Value}
use Rattle.schema.specs.Cutting.{is_among}
use Rattle.schema.specs.Law.{AllDiffer}
use Rattle.schema.specs.Values.{ValueTree, null, view, trees_of, member_at}
use Rattle.schema.specs.Keys.{KeyColumn, key_columns_view, places_of, AreDistinct}
use Rattle.partition.specs.Folders.{folder, folders, is_key_value, is_key, AreKeyColumns, CanPartition}
use Rattle.partition.specs.inner.Checks.{clashes, is_named, are_apart, are_key_columns, has_folder, have_folders, can_be}

-- ---- values and folders

pub have_folders-lengths : (columns : List CodeKeyColumn) (values : List Value) → length columns ≢ length values → have_folders (key_columns_view columns) (map view values) ≡ false
have_folders-lengths [] [] h = absurd (h refl)
have_folders-lengths [] (v ∷ vs) h = refl
have_folders-lengths (c ∷ cs) [] h = refl
have_folders-lengths (c ∷ cs) (v ∷ vs) h =
    rw (have_folders-lengths cs vs (λ e. h (ap suc e))) (none _)
  where
    none : (b : Bool) → b && false ≡ false
    none true = refl
    none false = refl

to_folders : (columns : List KeyColumn) (key : List ValueTree) → is_key columns key ≡ true → AllByRecursion (λ f. length f ≤ 255) (folders columns key) → have_folders columns key ≡ true
to_folders [] [] h k = refl
to_folders [] (v ∷ vs) h k = h
to_folders (c ∷ cs) [] h k = h
to_folders (c ∷ cs) (v ∷ vs) h k =
    let parts = and_parts (is_key_value c.kind v) (is_key cs vs) h in
    both _ _ (both _ _ parts.0 (le-leb (length (folder c v)) 255 k.0)) (to_folders cs vs parts.1 k.1)

from_folders : (columns : List KeyColumn) (key : List ValueTree) → have_folders columns key ≡ true → (is_key columns key ≡ true) × AllByRecursion (λ f. length f ≤ 255) (folders columns key)
from_folders [] [] h = (refl, tt)
from_folders [] (v ∷ vs) h = absurd (false≢true h)
from_folders (c ∷ cs) [] h = absurd (false≢true h)
from_folders (c ∷ cs) (v ∷ vs) h =
    let parts = and_parts (has_folder c v) (have_folders cs vs) h in
    let one = and_parts (is_key_value c.kind v) (nat_le (length (folder c v)) 255) parts.0 in
    let more = from_folders cs vs parts.1 in
    (both _ _ one.0 more.0, (leb-true (length (folder c v)) 255 one.1, more.1))

-- ---- columns

names_apart : (c : KeyColumn) (cs : List KeyColumn) → list_any (clashes c) cs ≡ false → AllByRecursion (λ m. c.name ≡ m → ⊥) (map (λ d. d.name) cs) × (is_among (places_of cs) c.at ≡ false)
names_apart c [] h = (tt, refl)
names_apart c (d ∷ cs) h =
    let parts = or_false (clashes c d) (list_any (clashes c) cs) h in
    let one = or_false (bytes_eq c.name d.name) (nat_eq d.at c.at) parts.0 in
    let more = names_apart c cs parts.1 in
    ((λ e. not_both (bytes_eq c.name d.name) one.0 ((bytes_decides c.name d.name).1 e), more.0), no_either _ _ one.1 more.1)

apart_names : (c : KeyColumn) (cs : List KeyColumn) → AllByRecursion (λ m. c.name ≡ m → ⊥) (map (λ d. d.name) cs) → is_among (places_of cs) c.at ≡ false → list_any (clashes c) cs ≡ false
apart_names c [] h k = refl
apart_names c (d ∷ cs) h k =
    let places = or_false (nat_eq d.at c.at) (is_among (places_of cs) c.at) k in
    no_either _ _ (no_either _ _ (is_not _ (λ t. h.0 ((bytes_decides c.name d.name).0 t))) places.0) (apart_names c cs h.1 places.1)

named_is : (n : List ℕ) → is_named n ≡ true → n ≢ []
named_is [] h = absurd (false≢true h)
named_is (b ∷ n) h = λ e. cc

is_named_from : (n : List ℕ) → n ≢ [] → is_named n ≡ true
is_named_from [] h = absurd (h refl)
is_named_from (b ∷ n) h = refl

pub record Apart (columns : List KeyColumn) : Type 0 where
  pub named : AllByRecursion (λ (c : KeyColumn). c.name ≢ []) columns
  pub names : AllDiffer (map (λ c. c.name) columns)
  pub places : AreDistinct (places_of columns)

apart_is : (columns : List KeyColumn) → are_apart columns ≡ true → Apart columns
apart_is [] h = record { named = tt; names = tt; places = tt }
apart_is (c ∷ cs) h =
    let parts = and_parts (is_named c.name && not (list_any (clashes c) cs)) (are_apart cs) h in
    let one = and_parts (is_named c.name) (not (list_any (clashes c) cs)) parts.0 in
    let first = names_apart c cs (not_true _ one.1) in
    let more = apart_is cs parts.1 in
    record { named = (named_is c.name one.0, more.named); names = (first.0, more.names); places = (first.1, more.places) }

is_apart : (columns : List KeyColumn) → Apart columns → are_apart columns ≡ true
is_apart [] h = refl
is_apart (c ∷ cs) h =
    both _ _ (both _ _ (is_named_from c.name h.named.0) (from_not _ (apart_names c cs h.names.0 h.places.0))) (is_apart cs (record { named = h.named.1; names = h.names.1; places = h.places.1 }))

pub columns_are : (columns : List KeyColumn) → are_key_columns columns ≡ true → AreKeyColumns columns
columns_are columns h =
    let parts = and_parts (nat_le (length columns) 8) (are_apart columns) h in
    let apart = apart_is columns parts.1 in
    record { at_most_eight = leb-true (length columns) 8 parts.0; named = apart.named; names_differ = apart.names; places_differ = apart.places }

pub are_columns : (columns : List KeyColumn) → AreKeyColumns columns → are_key_columns columns ≡ true
are_columns columns h = both _ _ (le-leb (length columns) 8 h.at_most_eight) (is_apart columns (record { named = h.named; names = h.names_differ; places = h.places_differ }))

pub can_be_just : (columns : List KeyColumn) (key : List ValueTree) (b : Bool) → b ≡ can_be columns key → IsTrue b ↔ CanPartition columns key
can_be_just columns key b is = (there, back)
  where
    there : IsTrue b → CanPartition columns key
    there h =
        let parts = and_parts (are_key_columns columns) (have_folders columns key) (sym is ∙ h) in
        let each = from_folders columns key parts.1 in
        record { keyed = columns_are columns parts.0; values = each.0; within_limits = each.1 }

    back : CanPartition columns key → IsTrue b
    back h = is ∙ both _ _ (are_columns columns h.keyed) (to_folders columns key h.values h.within_limits)

pub can_then : (columns : List KeyColumn) (key : List ValueTree) (b : Bool) → are_key_columns columns ≡ true → b ≡ have_folders columns key → IsTrue b ↔ CanPartition columns key
can_then columns key b p q = can_be_just columns key b (q ∙ sym (ap (λ (t : Bool). t && have_folders columns key) p))

pub can_else : (columns : List KeyColumn) (key : List ValueTree) (b : Bool) → b ≡ are_key_columns columns → b ≡ false → IsTrue b ↔ CanPartition columns key
can_else columns key b p q = can_be_just columns key b (q ∙ sym (ap (λ (t : Bool). t && have_folders columns key) (sym p ∙ q)))

-- ---- the key of a row

pub member_is : (values : List Value) (i : ℕ) (d : Value) → i < length values → member_at i (trees_of (map view values)) ≡ view (get_or values i d)
member_is [] i d h = absurd (omega (arith, h))
member_is (v ∷ values) zero d h = refl
member_is (v ∷ values) (suc i) d h = member_is values i d (omega (arith, h))

pub no_member : (values : List Value) (i : ℕ) → length values ≤ i → member_at i (trees_of (map view values)) ≡ null
no_member [] zero h = refl
no_member [] (suc i) h = refl
no_member (v ∷ values) zero h = absurd (omega (arith, h))
no_member (v ∷ values) (suc i) h = no_member values i (omega (arith, h))

pub null_is_no_key : (kind : KeyKind) → is_key_value kind null ≡ false
null_is_no_key Boolean = refl
null_is_no_key Int32 = refl
null_is_no_key Int64 = refl
null_is_no_key Utf8 = refl

-- a value that is not there has no folder
pub no_folder : (column : KeyColumn) (values : List Value) → length values ≤ column.at → has_folder column (member_at column.at (trees_of (map view values))) ≡ false
no_folder column values h = rw (no_member values column.at h, null_is_no_key column.kind) refl

-- a key has a value for each column
pub key_length : (columns : List CodeKeyColumn) (values : List Value) → is_key (key_columns_view columns) (map view values) ≡ true → length columns ≡ length values
key_length [] [] h = refl
key_length [] (v ∷ vs) h = absurd (false≢true h)
key_length (c ∷ cs) [] h = absurd (false≢true h)
key_length (c ∷ cs) (v ∷ vs) h = ap suc (key_length cs vs (and_parts _ (is_key (key_columns_view cs) (map view vs)) h).1)
