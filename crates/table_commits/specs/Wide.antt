-- Rows of one group that are more than the options say.
use Rattle.std.specs.Prelude.{◌<ℤ◌, pos, List, length}
use Rattle.std.specs.List.{AllByRecursion}
use Rattle.schema.specs.Values.{ValueTrees}
use Rattle.schema.specs.Shape.{Fields}
use Rattle.schema.specs.Stripe.{Entry, columns}
use Rattle.row_group.specs.Greatest.{most_entries}

-- no column has more entries than a chunk may have
abbrev pub AreFew : List (List Entry) → Type 0
AreFew cols = AllByRecursion (λ es. most_entries <ℤ pos (length es) → ⊥) cols

-- no column of these rows has more entries than a chunk may have
abbrev pub HasFewEntries : Fields → List ValueTrees → Type 0
HasFewEntries fs rows = AreFew (columns fs rows)
