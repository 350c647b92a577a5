-- The pages of a chunk that are not read yet, as what is left of it.
use Rattle.std.specs.Prelude.{map, None, Some}
use Rattle.schema.specs.Borrowed.{value_ref_view}
use Rattle.schema.specs.Views.{leaf_view}
use Rattle.row_group.specs.declared.pages_left.Dictionary.{Dictionary}
use Rattle.row_group.specs.declared.pages_left.Dictionary.TheVariants.{Open, Absent, Present}
use Rattle.row_group.specs.declared.pages_left.PagesLeft.{PagesLeft}
use Rattle.row_group.specs.Rest.{Known, nothing, known, ChunkLeft}

-- what is known of the dictionary of a chunk
abbrev pub known_view : Dictionary → Known
known_view Open = nothing
known_view Absent = known None
known_view (Present vs) = known (Some (map value_ref_view vs.items))

-- what is left of a chunk's pages
abbrev pub pages_view : PagesLeft → ChunkLeft
pages_view p = record { leaf = leaf_view p.leaf.now; known = known_view p.dictionary; bytes = p.bytes.now; lacking = p.lacking }
