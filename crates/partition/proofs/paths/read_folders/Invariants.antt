use Rattle.std.proofs.Common.{◌≡◌, List, drop, map, IsTrue}
use Rattle.schema.specs.Values.{ValueTree, view}
use Rattle.schema.specs.Keys.{key_columns_view}
use Rattle.partition.specs.Folders.{is_key, path}
use Rattle.partition.specs.inner.Reading.{ReadsOn}
use Rattle.partition.proofs.paths.read_folders.Given as goal

abbrev pub invariant-loop-column : goal.invariant-loop-column
invariant-loop-column l = (key : List ValueTree) → IsTrue (is_key (key_columns_view l.columns) key) → path (key_columns_view l.columns) key ≡ l.text → ReadsOn (key_columns_view (drop l.column-index l.columns)) key (map view l.values.items) l.rest
