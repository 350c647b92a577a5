-- What the program's values show, apart from where they lie in memory.
use Rattle.std.specs.Prelude.{List, [], ◌∷◌, map, Option, option_map, string_bytes}
use Rattle.std.specs.Rc.{rc_str_bytes}
use Rattle.thrift_compact.specs.View.{tree_view}
use Rattle.schema.specs.declared.annotation.Annotation.{Annotation as CodeAnnotation}
use Rattle.schema.specs.declared.annotation.Annotation.TheVariants.{Plain, Known, OtherConverted, OtherLogical}
use Rattle.schema.specs.declared.annotation.LeafType.{LeafType as CodeLeafType}
use Rattle.schema.specs.declared.field.Field.{Field as CodeField, fold-Field}
use Rattle.schema.specs.declared.field.Field.TheOpen.{Field-F}
use Rattle.schema.specs.declared.field.Step.{Step as CodeStep}
use Rattle.schema.specs.declared.field.Leaf.{Leaf as CodeLeaf}
use Rattle.schema.specs.declared.order.Order.{Order}
use Rattle.schema.specs.declared.row.Row.{Row}
use Rattle.schema.specs.declared.row.Entry.{Entry as CodeEntry}
use Rattle.schema.specs.declared.row.Column.{Column}
use Rattle.schema.specs.declared.key.Key.{Key}
use Rattle.schema.specs.Values.{ValueTree, ValueTrees, view, views}
use Rattle.schema.specs.Annotations.{Annotation, plain, known, other_converted, other_logical, LeafType, order_of}
use Rattle.schema.specs.Shape.{Field, leaf, fields, Fields, no_fields, field}
use Rattle.schema.specs.Stripe.{Step, Leaf, Entry}

-- an `Annotation` of the program, with the fields of the struct that it keeps
abbrev pub annotation_view : CodeAnnotation → Annotation
annotation_view Plain = plain
annotation_view (Known c) = known c
annotation_view (OtherConverted z) = other_converted z
annotation_view (OtherLogical s) = other_logical (tree_view s)

-- a `LeafType` of the program
abbrev pub leaf_type_view : CodeLeafType → LeafType
leaf_type_view t = record { kind = t.kind; annotation = annotation_view t.annotation; scale = t.scale; precision = t.precision }

-- a list of fields as `Fields`, in the same order
abbrev pub fields_of : List Field → Fields
fields_of [] = no_fields
fields_of (f ∷ fs) = field f (fields_of fs)

-- one field, with those below it already seen as trees
abbrev pub field_step : Field-F Field → Field
field_step (Field-F.Leaf n r t) = leaf (string_bytes n) r (leaf_type_view t)
field_step (Field-F.Group n r a fs) = fields (string_bytes n) r a (fields_of fs.items)

-- a `Field` of the program, with all below it
abbrev pub field_view : CodeField → Field
field_view = fold-Field Field field_step

-- the fields of a list of the program, in order, with all below them
abbrev pub field_views : List CodeField → Fields
field_views fs = fields_of (map field_view fs)

-- a `Step` of the program
abbrev pub step_view : CodeStep → Step
step_view s = record { place = s.place; repetition = s.repetition }

-- a `Leaf` of the program, with the bytes of the names on its path
abbrev pub leaf_view : CodeLeaf → Leaf
leaf_view l = record { path = map rc_str_bytes l.path.items; steps = map step_view l.steps.items; leaf_type = leaf_type_view l.leaf_type; greatest_repetition = l.greatest_repetition; greatest_definition = l.greatest_definition }

-- the order of a leaf's values; None if they have none
abbrev pub leaf_order : CodeLeaf → Option Order
leaf_order l = order_of (leaf_type_view l.leaf_type)

-- an `Entry` of the program: its levels, and the tree of its value, if it has one
abbrev pub entry_view : CodeEntry → Entry
entry_view e = record { repetition = e.repetition; definition = e.definition; value = option_map view e.value }

-- the entries of a `Column` of the program, in order
abbrev pub column_view : Column → List Entry
column_view c = map entry_view c.entries.items

-- the entries of each column of a list of the program
abbrev pub columns_view : List Column → List (List Entry)
columns_view cs = map column_view cs

-- the trees of a row's values, one for each top-level field
abbrev pub row_view : Row → ValueTrees
row_view row = views row.values.items

-- the trees of the values of each row, in the order of the rows
abbrev pub rows_view : List Row → List ValueTrees
rows_view rows = map row_view rows

-- the trees of a key's values, one for each key column
abbrev pub key_view : Key → List ValueTree
key_view key = map view key.values.items
