-- What holds of the definitions.
use Rattle.std.specs.Prelude.{◌≡◌, ◌<◌, ◌≤◌, ◌^◌, ℕ, List, [], ◌∷◌, map, length, Contains, IsTrue}
use Rattle.std.specs.List.{AllByRecursion}
use Rattle.schema.specs.declared.value.Repetition.TheVariants.{Optional}
use Rattle.schema.specs.Values.{ValueTrees}
use Rattle.schema.specs.Shape.{Field, Fields, count, repetition_of}
use Rattle.schema.specs.Stripe.{Leaf, leaves_of, columns}
use Rattle.schema.specs.Fits.{RowsFit}
use Rattle.schema.specs.Law.{IsSchema, IsWithinLimits}
use Rattle.schema.specs.Keys.{KeyColumn, AreKeys, AreRowsOf, without_keys}
use Rattle.metadata.specs.Records.{ChunkMeta, GroupMeta, FileMeta}
use Rattle.footer.specs.declared.options.WriteOptions.{WriteOptions}
use Rattle.footer.specs.File.{magic, FileMeans, IsFile}
use Rattle.footer.specs.Faults.{IsLong}
use Rattle.footer.specs.Greatest.{most_of_file}
use Rattle.footer.specs.Own.{IsLaidOut}
use Rattle.footer.specs.Writing.{chunk_options}
use Rattle.statistics.specs.Bounds.{Statistics}
use Rattle.row_group.specs.Writing.{AppendsGroup}
use Rattle.row_group.specs.declared.options.ChunkOptions.{ChunkOptions}
use Rattle.partition.specs.Folders.{is_key, CanPartition}
use Rattle.schema.specs.Fronts.{IsFront, first_fields, padded, with_field, with_null}
use Rattle.statistics.specs.Absent.{known_over}
use Rattle.table.specs.Table.{IsTable}
use Rattle.table.specs.Columns.{with_column}
use Rattle.manifest.specs.Groups.{Group, Root}
use Rattle.manifest.specs.Records.{HasStatistics, IsGroup, IsGroupRecord}
use Rattle.manifest.specs.Root.{RootMeans, IsDescription}
use Rattle.manifest.specs.Laid.{IsRootLaidOut}
use Rattle.manifest.specs.Parts.{HoldsGroup, PartMeans, HaveBounds}
use Rattle.manifest.specs.Table.{Files, Table, IsTableOf, TableOf, IsRootAt, path_of_group}

-- a root as it is laid out has the description that it was made of
abbrev pub LaidOutRootsMean : Type 0
LaidOutRootsMean = (bytes : List ℕ) (root : Root) → IsDescription root → IsRootLaidOut bytes root → RootMeans bytes root

-- a group's record describes at most one group
abbrev pub GroupsAreOne : Type 0
GroupsAreOne = (keys : List KeyColumn) (stored : Fields) (m : GroupMeta) (g h : Group) → IsSchema stored → g.number < 2 ^ 64 → h.number < 2 ^ 64 → IsGroupRecord keys stored m g → IsGroupRecord keys stored m h → g ≡ h

-- a part file means, in its own schema, rows that padded are the group's rows without their keys
abbrev pub PartsMeanTheirRows : Type 0
PartsMeanTheirRows = (keys : List KeyColumn) (fs : Fields) (g : Group) (bytes : List ℕ) (rows : List ValueTrees) → PartMeans keys fs g bytes rows
    → (stored : List ValueTrees) × FileMeans bytes (first_fields g.width fs) stored × AreRowsOf keys g.key (map (padded fs) stored) rows

-- the rows of a group with a key of the table fit the table's schema
abbrev pub RowsOfPartsFit : Type 0
RowsOfPartsFit = (keys : List KeyColumn) (fs : Fields) (g : Group) (bytes : List ℕ) (rows : List ValueTrees) → AreKeys keys fs → IsFront g.width (without_keys keys fs) → IsTrue (is_key keys g.key)
    → PartMeans keys (without_keys keys fs) g bytes rows → RowsFit fs rows

-- ---- files that the store writes

-- the records of chunks have these statistics
abbrev pub HaveStatistics : List Leaf → List ChunkMeta → List Statistics → Type 0
HaveStatistics [] [] [] = Unit {0}
HaveStatistics (leaf ∷ leaves) (c ∷ cs) (s ∷ ss) = HasStatistics leaf c.meta_data s × HaveStatistics leaves cs ss
HaveStatistics _ _ _ = ⊥

-- A file as the store writes it, of rows that make one group, by the record of its footer: it has one group, whose chunks stand
-- right after the magic. Every group with these chunks, their statistics and so many rows is the one that it holds.
pub record IsWrittenPart (o : WriteOptions) (fs : Fields) (rows : List ValueTrees) (bytes : List ℕ) (meta : FileMeta) : Type 0 where
  pub own : GroupMeta
  pub alone : meta.row_groups ≡ own ∷ []
  pub front : List ℕ
  pub appended : AppendsGroup fs (chunk_options o) magic front own rows
  pub within_file : length front ≤ most_of_file
  pub holds : (g : Group) → g.chunks ≡ own.columns → g.known.rows ≡ length rows → HaveStatistics (leaves_of fs) g.chunks g.known.leaves → HoldsGroup fs g bytes rows

-- a file laid out for rows that make one group, and not too long, is a written part by the record of its footer (`IsWrittenPart`)
abbrev pub WrittenPartsHoldGroups : Type 0
WrittenPartsHoldGroups = (o : WriteOptions) (fs : Fields) (rows : List ValueTrees) (bytes front : List ℕ) (meta : FileMeta) → IsSchema fs → IsLaidOut o fs rows bytes → 1 ≤ length rows → length rows ≤ o.group_rows
    → (IsLong bytes → ⊥) → IsFile bytes front meta → IsWrittenPart o fs rows bytes meta

-- the names on the path to each leaf are shorter than 2^32 bytes
abbrev pub AreNamesShort : List Leaf → Type 0
AreNamesShort leaves = AllByRecursion (λ (l : Leaf). AllByRecursion (λ name. length name < 2 ^ 32) l.path) leaves

-- A group of rows as it is written at the end of a file's bytes, with the statistics of its record, can be a group of a table.
abbrev pub GroupsAsWrittenAreGroups : Type 0
GroupsAsWrittenAreGroups = (keys : List KeyColumn) (o : ChunkOptions) (fs : Fields) (old new : List ℕ) (own : GroupMeta) (rows : List ValueTrees) (g : Group) → IsSchema fs → IsWithinLimits fs → AreNamesShort (leaves_of fs)
    → AppendsGroup fs o old new own rows → length new ≤ most_of_file → 1 ≤ length rows → g.chunks ≡ own.columns → g.known.rows ≡ length rows → HaveStatistics (leaves_of fs) own.columns g.known.leaves → g.width ≡ count fs → CanPartition keys g.key → IsGroup keys fs g

-- what is known of a group over all leaves holds of its rows, padded
abbrev pub KnownOfPartsHolds : Type 0
KnownOfPartsHolds = (keys : List KeyColumn) (fs : Fields) (g : Group) (bytes : List ℕ) (rows : List ValueTrees) → IsFront g.width fs → (p : PartMeans keys fs g bytes rows)
    → HaveBounds (leaves_of fs) (known_over (length (leaves_of fs)) g.known).leaves (columns fs (map (padded fs) p.stored))

-- the bytes of a root describe at most one table
abbrev pub RootsMeanOneTable : Type 0
RootsMeanOneTable = (bytes : List ℕ) (r q : Root) → RootMeans bytes r → RootMeans bytes q → r ≡ q

-- files are at most one table
abbrev pub TablesAreOne : Type 0
TablesAreOne = (files : Files) (t u : Table) → TableOf files t → TableOf files u → t ≡ u

-- the table that files are has what `table` says of tables
abbrev pub FilesAreTables : Type 0
FilesAreTables = (files : Files) (t : Table) → TableOf files t → IsTable t

-- a table that can be described can be described with a further OPTIONAL field, its groups as they are
abbrev pub GrownRootsAreDescribed : Type 0
GrownRootsAreDescribed = (root : Root) (f : Field) → IsDescription root → repetition_of f ≡ Optional → IsSchema (with_field root.schema f) → IsWithinLimits (with_field root.schema f)
    → IsDescription (record root { schema = with_field root.schema f })

-- a part file of a table to which an OPTIONAL field was added means the same rows, with Null at the end of each
abbrev pub GrownPartsMeanRows : Type 0
GrownPartsMeanRows = (keys : List KeyColumn) (fs : Fields) (f : Field) (g : Group) (bytes : List ℕ) (rows : List ValueTrees) → AreKeys keys fs → repetition_of f ≡ Optional → IsFront g.width (without_keys keys fs)
    → PartMeans keys (without_keys keys fs) g bytes rows → PartMeans keys (without_keys keys (with_field fs f)) g bytes (map with_null rows)

-- files with the root of a further OPTIONAL field, and the part files as they were, are the table with that column added
abbrev pub GrownTablesStand : Type 0
GrownTablesStand = (files later : Files) (root : Root) (table : Table) (f : Field) → IsTableOf files root table → repetition_of f ≡ Optional → IsRootAt later (record root { schema = with_field root.schema f })
    → ((g : Group) → Contains root.groups g → later (path_of_group root g) ≡ files (path_of_group root g)) → IsTableOf later (record root { schema = with_field root.schema f }) (with_column f table)
