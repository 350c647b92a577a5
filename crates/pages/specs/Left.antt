-- The entries that a data page still has to give.
use Rattle.std.specs.Prelude.{◌≡◌, ◌==◌, ℕ, Bool, true, false, List, [], ◌∷◌, map, drop, replicate, Option, Some, None, Result, Ok, Err}
use Rattle.bits.specs.declared.fault.Fault.{Fault}
use Rattle.bits.specs.declared.fault.Fault.TheVariants.{Memory}
use Rattle.schema.specs.Values.{ValueTree, bytes}
use Rattle.schema.specs.Stripe.{Entry}
use Rattle.schema.specs.declared.borrowed.ValueRef.{ValueRef}
use Rattle.schema.specs.Borrowed.{value_ref_view}
use Rattle.plain.specs.ValuesLeft.{values_left as plain_values_left, last_taken as last_plain_taken}
use Rattle.plain.specs.SplitLeft.{values_left as split_values_left, last_taken as last_split_taken}
use Rattle.delta.specs.ValuesLeft.{values_left as byte_values_left, last_taken}
use Rattle.pages.specs.declared.level_list.LevelList.{LevelList}
use Rattle.pages.specs.declared.level_list.LevelList.TheVariants.{Zeros, Listed as ListedLevels}
use Rattle.pages.specs.declared.page_values.PageValues.{PageValues}
use Rattle.pages.specs.declared.page_values.PageValues.TheVariants.{Listed, Plain, Shared, Split}
use Rattle.pages.specs.declared.page_values.ListedValues.{ListedValues}
use Rattle.pages.specs.declared.levelled_page.LevelledPage.{LevelledPage}
use Rattle.pages.specs.declared.data_page.DataPage.{DataPage}
use Rattle.pages.specs.declared.data_page.DataPage.TheVariants.{Flat, Levelled}
use Rattle.plain.specs.Flat.{flat_entry, flat_entries}

-- the levels, one for each entry
abbrev pub levels_of : LevelList → List ℕ
levels_of (Zeros count) = replicate count 0
levels_of (ListedLevels levels) = levels.items

-- the values of a list that are not taken yet
abbrev pub listed_left : ListedValues → List ValueTree
listed_left l = map value_ref_view (drop l.index l.values.items)

-- the values that are not taken yet
abbrev pub values_left : PageValues → List ValueTree
values_left (Listed values) = listed_left values
values_left (Plain values) = plain_values_left values
values_left (Shared values) = map bytes (byte_values_left values)
values_left (Split values) = split_values_left values

-- the value that was taken last
abbrev pub value_taken : PageValues → ValueTree
value_taken (Listed values) = value_ref_view values.taken
value_taken (Plain values) = last_plain_taken values
value_taken (Shared values) = bytes (last_taken values)
value_taken (Split values) = last_split_taken values

-- one value of a list is taken, or none at the end
abbrev pub TakesListed : ListedValues → ListedValues → Bool → Type 0
TakesListed old new true = listed_left old ≡ value_ref_view new.taken ∷ listed_left new
TakesListed old new false = (listed_left old ≡ []) × (listed_left new ≡ [])

-- one value is taken, or none at the end; out of memory, none is taken
abbrev pub TakesValue : PageValues → PageValues → Result Bool Fault → Type 0
TakesValue old new (Ok true) = values_left old ≡ value_taken new ∷ values_left new
TakesValue old new (Ok false) = (values_left old ≡ []) × (values_left new ≡ [])
TakesValue old new (Err fault) = (fault ≡ Memory) × (values_left new ≡ values_left old)

-- true, for a full entry: one value is taken, or none at the end; false, for any other entry: no value is taken
abbrev pub TakesWhere : Bool → PageValues → PageValues → Result Bool Fault → Type 0
TakesWhere true old new result = TakesValue old new result
TakesWhere false old new (Ok found) = (found ≡ false) × (values_left new ≡ values_left old)
TakesWhere false old new (Err fault) = ⊥

-- the entry of these levels, with the first of the values where it is full
abbrev pub entry_by : Bool → ℕ → ℕ → List ValueTree → Entry
entry_by true r d (v ∷ vs) = record { repetition = r; definition = d; value = Some v }
entry_by full r d vs = record { repetition = r; definition = d; value = None }

-- the values after the entry's own
abbrev pub values_after : Bool → List ValueTree → List ValueTree
values_after true (v ∷ vs) = vs
values_after full vs = vs

-- the entries of these levels: those at the greatest definition level have the values, in turn
abbrev pub entries_by : ℕ → List ℕ → List ℕ → List ValueTree → List Entry
entries_by greatest (r ∷ rs) (d ∷ ds) vs = entry_by (d == greatest) r d vs ∷ entries_by greatest rs ds (values_after (d == greatest) vs)
entries_by greatest rs ds vs = []

-- the entries with their levels that are not taken yet
abbrev pub levelled_left : LevelledPage → List Entry
levelled_left page = entries_by page.greatest (drop page.index (levels_of page.repetitions)) (drop page.index (levels_of page.definitions)) (values_left page.values)

-- the entries that are not taken yet
abbrev pub entries_left : DataPage → List Entry
entries_left (Flat values) = flat_entries (plain_values_left values)
entries_left (Levelled page) = levelled_left page

-- the value of the entry that was taken last, where it has one
abbrev pub value_where : Bool → ValueTree → Option ValueTree
value_where true v = Some v
value_where false v = None

-- the entry with its levels that was taken last
abbrev pub levelled_taken : LevelledPage → Entry
levelled_taken page = record { repetition = page.repetition; definition = page.definition; value = value_where page.has_value (value_taken page.values) }

-- the entry that was taken last
abbrev pub entry_taken : DataPage → Entry
entry_taken (Flat values) = flat_entry (last_plain_taken values)
entry_taken (Levelled page) = levelled_taken page

-- the first of the entries has these levels
abbrev pub Shows : List Entry → Option (ℕ × ℕ) → Type 0
Shows es None = es ≡ []
Shows [] (Some levels) = ⊥
Shows (e ∷ es) (Some levels) = (e.repetition ≡ levels.0) × (e.definition ≡ levels.1)

-- one entry with its levels is taken, or none at the end; out of memory, none is taken
abbrev pub AdvancesLevelled : LevelledPage → LevelledPage → Result Bool Fault → Type 0
AdvancesLevelled old new (Ok true) = levelled_left old ≡ levelled_taken new ∷ levelled_left new
AdvancesLevelled old new (Ok false) = (levelled_left old ≡ []) × (levelled_left new ≡ [])
AdvancesLevelled old new (Err fault) = (fault ≡ Memory) × (levelled_left new ≡ levelled_left old)

-- one entry is taken, or none at the end; out of memory, none is taken
abbrev pub Advances : DataPage → DataPage → Result Bool Fault → Type 0
Advances old new (Ok true) = entries_left old ≡ entry_taken new ∷ entries_left new
Advances old new (Ok false) = (entries_left old ≡ []) × (entries_left new ≡ [])
Advances old new (Err fault) = (fault ≡ Memory) × (entries_left new ≡ entries_left old)

-- the values are in PLAIN, and all levels are 0
abbrev pub IsFlat : DataPage → Type 0
IsFlat (Flat values) = Unit {0}
IsFlat (Levelled page) = ⊥

-- the first of the entries is taken, which has both levels 0 and this value; or none is, and a flat page has none left
abbrev pub TakesPlain : DataPage → DataPage → Option ValueRef → Type 0
TakesPlain old new (Some v) = entries_left old ≡ flat_entry (value_ref_view v) ∷ entries_left new
TakesPlain old new None = (entries_left new ≡ entries_left old) × (IsFlat old → entries_left old ≡ [])
