-- What columns hold while the values of rows are shown, one after another: parquet-format, "Nested Encoding".
use Rattle.std.specs.Prelude.{ℕ, suc, ◌+◌, Bool, true, false, List, [], ◌∷◌, ◌++◌, map, reverse, length, Option, Some, None}
use Rattle.schema.specs.declared.value.Repetition.{Repetition}
use Rattle.schema.specs.declared.value.Repetition.TheVariants.{Required, Optional}
use Rattle.schema.specs.Values.{ValueTree, null}
use Rattle.schema.specs.Shape.{Field, leaf, fields, Fields, no_fields, field, repetition_of}
use Rattle.schema.specs.Stripe.{Entry, entry}
use Rattle.schema.specs.Views.{field_view, field_views}
use Rattle.assemble.specs.Sinks.{Token, single, group_begins, group_ends, list_begins, list_ends}
use Rattle.shred.specs.declared.field.Levels.{Levels}
use Rattle.shred.specs.declared.level.Level.{Level as CodeLevel}
use Rattle.shred.specs.declared.level.Level.TheVariants.{Group, List as ListOf}
use Rattle.shred.specs.declared.level.Next.{Next as CodeNext}
use Rattle.shred.specs.declared.filling.Filling.{Filling}
use Rattle.shred.specs.Kept.{kept_view, marked_view}
use Rattle.shred.specs.inner.Growing.{Columns, grown, nils, levels_at, absences, absences_each}

-- ---- where values are shown

-- in a group: the fields whose values are still to come, and the levels of these values;
-- in a list: the field whose items these are, its first column, the levels of the list, and whether there was an item
pub data Level : Type 0 where
  in_group : Fields → Levels → Level
  in_list : Field → ℕ → Levels → Bool → Level

-- the columns, the one where the next value begins, the innermost group or list, and those around it, innermost first
pub record State : Type 0 where
  pub columns : Columns
  pub at : ℕ
  pub here : Level
  pub outer : List Level

-- a state by its columns, the one where the next value begins, the innermost level, and those around it
abbrev pub held : Columns → ℕ → Level → List Level → State
held columns at here outer = record { columns = columns; at = at; here = here; outer = outer }

-- ---- what the next value is of

-- what the next value is of: its field, the repetition of the field, which is REQUIRED for an item of a list, and the levels of the value
pub record Next : Type 0 where
  pub field : Field
  pub repetition : Repetition
  pub levels : Levels

-- the next value by its field, its repetition and its levels
abbrev pub of_field : Field → Repetition → Levels → Next
of_field f q x = record { field = f; repetition = q; levels = x }

-- the levels of an item of a list that has these levels: false for the first item, true for a later one
abbrev pub item_levels : Bool → Levels → Levels
item_levels false x = levels_at x.repetition (suc x.definition) (suc x.repeated)
item_levels true x = levels_at (suc x.repeated) (suc x.definition) (suc x.repeated)

-- what the next value is of; none if no value is awaited
abbrev pub next : Level → Option Next
next (in_group no_fields x) = None
next (in_group (field f fs) x) = Some (of_field f (repetition_of f) x)
next (in_list f start x later) = Some (of_field f Required (item_levels later x))

-- a level after its next value
abbrev pub passed : Level → Level
passed (in_group no_fields x) = in_group no_fields x
passed (in_group (field f fs) x) = in_group fs x
passed (in_list f start x later) = in_list f start x true

-- each item of a list begins at the same column
abbrev pub first_column : Level → ℕ → ℕ
first_column (in_group fs x) at = at
first_column (in_list f start x later) at = start

-- a value begins
abbrev pub begun : State → State
begun s = held s.columns (first_column s.here s.at) (passed s.here) s.outer

-- ---- what is shown

-- the columns become these stripes longer, from the one where the next value begins on
abbrev pub given : State → Columns → State
given s ss = held (grown s.columns (nils s.at ++ ss)) (s.at + length ss) s.here s.outer

-- the levels of a value that is there: one definition level deeper if it is OPTIONAL
abbrev pub deeper : Repetition → Levels → Levels
deeper Optional x = levels_at x.repetition (suc x.definition) x.repeated
deeper _ x = x

-- the entry of a value of a leaf; a null of an OPTIONAL leaf gives one without value
abbrev pub leaf_entry : Repetition → Levels → ValueTree → List Entry
leaf_entry Optional x null = entry x.repetition x.definition None
leaf_entry q x v = entry x.repetition (deeper q x).definition (Some v)

-- what a value that is no group and no list gives to each leaf of its field
abbrev pub single_stripes : Field → Repetition → Levels → ValueTree → Columns
single_stripes (leaf n r t) q x v = leaf_entry q x v ∷ []
single_stripes (fields n r a fs) q x v = absences_each 0 fs x

-- a value that is no group and no list is shown; the columns stay as they are if no value is awaited
abbrev pub single_given : Option Next → State → ValueTree → State
single_given None s v = s
single_given (Some n) s v = given s (single_stripes n.field n.repetition n.levels v)

-- a level at which no value is awaited
abbrev pub nothing : Level
nothing = in_group no_fields (levels_at 0 0 0)

-- the level of the values of a group with these levels; at a leaf no value is awaited
abbrev pub inside_of : Field → Levels → Level
inside_of (leaf n r t) x = nothing
inside_of (fields n r a fs) x = in_group fs x

-- the level of the values of a group that begins
abbrev pub inside : Option Next → Level
inside None = nothing
inside (Some n) = inside_of n.field (deeper n.repetition n.levels)

-- the level of the items of a list that begins, the first of whose columns has this index
abbrev pub items : Option Next → ℕ → Level
items None at = nothing
items (Some n) at = in_list n.field at n.levels false

-- a group or a list begins, whose values are at this level
abbrev pub entered : State → Level → State
entered s l = held s.columns s.at l (s.here ∷ s.outer)

-- a group or a list ends, and the first of the levels around it is the innermost one; if there is none, the level stays
abbrev pub left_to : Columns → ℕ → Level → List Level → State
left_to columns at here [] = held columns at here []
left_to columns at here (l ∷ ls) = held columns at l ls

-- the innermost group or list ends, and the level around it is the innermost one
abbrev pub left : State → State
left s = left_to s.columns s.at s.here s.outer

-- a level ends: an empty list gives an entry without value to each leaf, and other levels give none
abbrev pub closed_at : Level → State → State
closed_at (in_list f start x false) s = given s (absences f x)
closed_at _ s = s

-- the state after one more token
abbrev pub step : State → Token → State
step s (single v) = single_given (next s.here) (begun s) v
step s group_begins = entered (begun s) (inside (next s.here))
step s group_ends = left s
step s list_begins = entered (begun s) (items (next s.here) (begun s).at)
step s list_ends = left (closed_at s.here s)

-- the state after tokens, one after another
abbrev pub run : State → List Token → State
run s [] = s
run s (t ∷ ts) = run (step s t) ts

-- nothing of a row is shown yet
abbrev pub root : Fields → Columns → State
root fs columns = held columns 0 (in_group fs (levels_at 0 0 0)) []

-- the columns become these ones longer
abbrev pub taken : State → Columns → State
taken s cs = held (grown s.columns cs) s.at s.here s.outer

-- ---- what the code holds

-- what the program's level says of the values that are to come
abbrev pub level_view : CodeLevel → Level
level_view (Group fs x) = in_group (field_views fs.now) x
level_view (ListOf f start x later) = in_list (field_view f.now) start x later

-- what the program's value says of what the next value is of
abbrev pub next_view : CodeNext → Next
next_view n = of_field (field_view n.field.now) n.repetition n.levels

-- the columns, the index where the next value begins, and the levels that a `Filling` holds
abbrev pub state_of : Filling → State
state_of f = held (map kept_view f.columns.items) f.at (level_view f.here) (reverse (map level_view f.outer.items))

-- what the columns held when they were marked
abbrev pub marked_of : Filling → Columns
marked_of f = map marked_view f.columns.items
