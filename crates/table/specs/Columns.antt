-- A field more at the end of a table's schema; the rows that are there are null in it.
use Rattle.std.specs.Prelude.{List, map}
use Rattle.bits.specs.declared.refusal.Refusal.{Refusal}
use Rattle.bits.specs.Refusals.{IsFault}
use Rattle.schema.specs.Elements.{Element}
use Rattle.schema.specs.Shape.{Field, Fields}
use Rattle.table.specs.Table.{Group, Table, IsTable}
pub use Rattle.schema.specs.Fronts.{with_field, with_null}
pub use Rattle.schema.specs.Growing.{with_elements, IsColumnFor, IsNotOptional, IsColumnFault}

-- the group with one more field, which is null in each of its rows
abbrev pub widened : Group → Group
widened g = record { number = g.number; key = g.key; rows = map with_null g.rows }

-- the table with one more field, null in each row; keys, group numbers, order and the next number stay
abbrev pub with_column : Field → Table → Table
with_column f t = record { schema = with_field t.schema f; keys = t.keys; groups = map widened t.groups; next = t.next }

-- why elements cannot be added to the schema as an OPTIONAL field; Limit is not among these faults
abbrev pub HasColumnFault : Fields → List Element → Refusal → Type 0
HasColumnFault schema elements e = IsFault e × IsColumnFault schema elements e

-- a table to which an OPTIONAL field was added is a table
abbrev pub WidenedTablesAreTables : Type 0
WidenedTablesAreTables = (t : Table) (elements : List Element) (f : Field) → IsTable t → IsColumnFor t.schema elements f → IsTable (with_column f t)
