-- The rows of a writer that wait for their group.
use Rattle.std.specs.Prelude.{◌≡◌, ◌⊎◌, ◌≤◌, ◌<◌, List, [], ◌++◌, length, map, ℕ}
use Rattle.schema.specs.Values.{ValueTrees}
use Rattle.schema.specs.Shape.{Fields}
use Rattle.metadata.specs.Records.{GroupMeta}
use Rattle.metadata.specs.Views.{group_meta_view}
use Rattle.shred.specs.Buffer.{holds}
use Rattle.footer.specs.declared.options.WriteOptions.{WriteOptions}
use Rattle.footer.specs.declared.file_writer.FileWriter.{FileWriter}
use Rattle.footer.specs.Writing.{IsOutOfRange}
use Rattle.footer.specs.Writer.{schema_of, options_of, has_rows, IsBegun}

-- the rows that wait are the next group of the rows, a full one or the last
pub record IsNextGroupOf (fs : Fields) (o : WriteOptions) (out : List ℕ) (metas : List GroupMeta) (waiting rows later : List ValueTrees) : Type 0 where
  pub in_range : IsOutOfRange o → ⊥
  pub begun : IsBegun fs o rows (waiting ++ later) out metas
  pub few : length waiting ≤ o.group_rows
  pub ends : (length waiting ≡ o.group_rows) ⊎ (later ≡ [])

-- the rows that wait in a writer's buffer are the next group of the rows, a full one or the last
pub record IsNextGroup (writer : FileWriter) (waiting rows later : List ValueTrees) : Type 0 where
  pub held : holds writer.waiting waiting
  pub next : IsNextGroupOf (schema_of writer) (options_of writer) writer.bytes.items (map group_meta_view writer.groups.items) waiting rows later

-- the writer was given these rows, and its next group is not full
pub record HasRoom (writer : FileWriter) (rows : List ValueTrees) : Type 0 where
  pub has : has_rows writer rows
  pub few : length has.waiting < (options_of writer).group_rows

-- a writer holds what it held before
pub record HoldsSame (old new : FileWriter) : Type 0 where
  pub bytes : new.bytes.items ≡ old.bytes.items
  pub groups : new.groups.items ≡ old.groups.items
  pub waiting : (rows : List ValueTrees) → holds old.waiting rows → holds new.waiting rows
  pub written : new.written ≡ old.written
