-- The elements of a schema's list: parquet.thrift, SchemaElement, apart from where they lie in memory.
use Rattle.std.specs.Prelude.{ℕ, ℤ, List, map, Option, option_map}
use Rattle.thrift_compact.specs.Tree.{Fields as Struct}
use Rattle.thrift_compact.specs.View.{tree_view}
use Rattle.schema.specs.declared.element.Element.{Element as CodeElement}

-- an element, by its fields; `kind` is its `type`
pub record Element : Type 0 where
  pub kind : Option ℤ
  pub type_length : Option ℤ
  pub repetition_type : Option ℤ
  pub name : List ℕ
  pub num_children : Option ℤ
  pub converted_type : Option ℤ
  pub scale : Option ℤ
  pub precision : Option ℤ
  pub field_id : Option ℤ
  pub logical_type : Option Struct

-- an `Element` of the program, with the bytes of its name and the fields of its logicalType
abbrev pub element_view : CodeElement → Element
element_view e = record { kind = e.kind; type_length = e.type_length; repetition_type = e.repetition_type; name = e.name.items; num_children = e.num_children; converted_type = e.converted_type; scale = e.scale; precision = e.precision; field_id = e.field_id; logical_type = option_map tree_view e.logical_type }

-- the elements of a list of the program, in order
abbrev pub elements_view : List CodeElement → List Element
elements_view es = map element_view es
