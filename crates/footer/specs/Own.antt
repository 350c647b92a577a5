-- What the store's own writer puts into a file: its groups, and its record.
use Rattle.std.specs.Prelude.{◌≡◌, ℕ, pos, List, [], ◌∷◌, ◌++◌, length, replicate, Some, None, codes}
use Rattle.schema.specs.Values.{ValueTrees}
use Rattle.schema.specs.Shape.{Fields}
use Rattle.schema.specs.Stripe.{leaves_of}
use Rattle.schema.specs.Listed.{elements_of}
use Rattle.metadata.specs.Records.{FileMeta, GroupMeta, type_order}
use Rattle.thrift_compact.specs.Compact.{IsThrift}
use Rattle.metadata.specs.FromTree.{file_meta}
use Rattle.metadata.specs.ToTree.{file_meta_fields}
use Rattle.metadata.specs.Answers.{StandsFor}
use Rattle.row_group.specs.Writing.{AppendsGroup}
use Rattle.row_group.specs.declared.options.ChunkOptions.{ChunkOptions}
use Rattle.footer.specs.declared.options.WriteOptions.{WriteOptions}
use Rattle.footer.specs.File.{magic, IsFramed}
use Rattle.footer.specs.Writing.{chunk_options, groups_of}

-- the bytes of `new` are those of `old` and the chunks of these groups, each group of its rows, one right after the other
abbrev pub AppendsGroups : Fields → ChunkOptions → List ℕ → List ℕ → List GroupMeta → List (List ValueTrees) → Type 0
AppendsGroups fs o old new [] [] = new ≡ old
AppendsGroups fs o old new (g ∷ gs) (rows ∷ others) = (middle : List ℕ) × AppendsGroup fs o old middle g rows × AppendsGroups fs o middle new gs others
AppendsGroups fs o old new _ _ = ⊥

-- the record of a file with this schema, so many rows, and these groups: the writer is `pqds`, and each column has the order of its type
abbrev pub own_record : Fields → ℕ → List GroupMeta → FileMeta
own_record fs rows groups = record { version = Some (pos 1); schema = elements_of fs; num_rows = Some (pos rows); row_groups = groups; key_value_metadata = None; created_by = Some (codes "pqds"); column_orders = Some (replicate (length (leaves_of fs)) type_order) }

-- the record of the file fills its footer, which has just the record's fields, in the order of their ids
pub record IsFilled (bytes front : List ℕ) (meta : FileMeta) : Type 0 where
  pub footer : List ℕ
  pub framed : IsFramed bytes front footer
  pub fills : StandsFor file_meta footer meta (length footer)
  pub bare : IsThrift footer (file_meta_fields meta) (length footer)

-- the file is `PAR1` and the chunks, the footer with this record, its length, and `PAR1`
abbrev pub EndsWith : List ℕ → FileMeta → List ℕ → Type 0
EndsWith front meta bytes = (chunks : List ℕ) → front ≡ magic ++ chunks → IsFilled bytes front meta

-- The file as the store lays it out: `PAR1`; the chunks of the rows, in groups of as many as the options say, one right after the
-- other up to the footer; the writer's own record of them, which fills the footer; its length, and `PAR1`.
pub record IsLaidOut (o : WriteOptions) (fs : Fields) (rows : List ValueTrees) (bytes : List ℕ) : Type 0 where
  pub front : List ℕ
  pub metas : List GroupMeta
  pub file : IsFilled bytes front (own_record fs (length rows) metas)
  pub chunks : AppendsGroups fs (chunk_options o) magic front metas (groups_of o.group_rows rows)
