-- What the program's trees show, one level.
use Rattle.std.proofs.Common.{◌≡◌, Option, String, Vec, Global, string_bytes, rules}
use Rattle.schema.specs.declared.value.Repetition.{Repetition}
use Rattle.schema.specs.declared.annotation.LeafType.{LeafType as CodeLeafType}
use Rattle.schema.specs.declared.field.Field.{Field as CodeField, Leaf, Group, the_lemmas}
use Rattle.schema.specs.declared.annotation.GroupAnnotation.{GroupAnnotation}
use Rattle.schema.specs.Shape.{leaf, fields}
use Rattle.schema.specs.Views.{field_view, field_views, leaf_type_view}

pub view-Leaf : (n : String Global) (r : Repetition) (t : CodeLeafType) → field_view (Leaf n r t) ≡ leaf (string_bytes n) r (leaf_type_view t)
view-Leaf n r t = search (rules, the_lemmas)

pub view-Group : (n : String Global) (r : Repetition) (a : Option GroupAnnotation) (v : Vec CodeField Global) → field_view (Group n r a v) ≡ fields (string_bytes n) r a (field_views v.items)
view-Group n r a v = search (rules, the_lemmas)
