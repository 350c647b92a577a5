-- A part file that was read holds its group.
use Rattle.std.proofs.Common.{◌≡◌, ℕ, List, [], ◌∷◌, length, pos, refl, sym, subst, arith}
use Rattle.std.specs.Prelude.{Contains}
use Rattle.schema.specs.Values.{ValueTrees}
use Rattle.schema.specs.Shape.{Fields}
use Rattle.schema.specs.Stripe.{Entry, leaves_of, columns}
use Rattle.schema.specs.Listing.{IsSchemaOf}
use Rattle.metadata.specs.Records.{ChunkMeta, FileMeta, GroupMeta}
use Rattle.row_group.specs.Chunks.{GroupMeans, AreChunks}
use Rattle.row_group.specs.Laws.{FilesHoldOneColumn}
use Rattle.row_group.specs.Limits.{IsGroupOver}
use Rattle.row_group.proofs.OneMeaning.{one_columns}
use Rattle.footer.specs.File.{IsFile, LiesHere, AreGroups, GroupsMean, FileMeans}
use Rattle.footer.specs.Faults.{IsOverLimit, large_group}
use Rattle.manifest.specs.Groups.{Group}
use Rattle.manifest.specs.Parts.{AreFullChunks}
use Rattle.upkeep.specs.inner.Files.{IsRecorded, IsReadAs, IsGroupAs, HoldsAs, FillsColumns}
use Rattle.upkeep.proofs.Longer.{full_are}

pub read_as : (bytes : List ℕ) (meta : FileMeta) (fs : Fields) (rows : List ValueTrees) → IsRecorded bytes meta → FileMeans bytes fs rows → (IsOverLimit bytes → ⊥) → IsReadAs bytes meta fs
read_as bytes meta fs rows recorded means within =
    let same = recorded.alone means.front means.meta means.file in
    record {
      short = recorded.short;
      front = means.front;
      rows = rows;
      file = subst (IsFile bytes means.front) same means.file;
      schema = subst (λ (m : FileMeta). IsSchemaOf m.schema fs) same means.schema;
      held = subst (λ (m : FileMeta). GroupsMean means.front fs m.row_groups rows) same means.held;
      within = within;
    }

-- the one group
record IsOne (front : List ℕ) (fs : Fields) (own : GroupMeta) : Type 0 where
  rows : List ValueTrees
  here : LiesHere own
  means : GroupMeans front fs own rows

one_of : (front : List ℕ) (fs : Fields) (own : GroupMeta) (groups : List (List ValueTrees)) → AreGroups front fs (own ∷ []) groups → IsOne front fs own
one_of front fs own [] are = absurd are
one_of front fs own (rows ∷ groups) are = record { rows = rows; here = are.0; means = are.1 }

first_contained : (own : GroupMeta) → Contains (own ∷ []) own
first_contained own = (0, omega arith, refl)

module _ (bytes : List ℕ) (fs : Fields) (own : GroupMeta) (g : Group) (is : IsGroupAs bytes fs own) where
  abbrev read : IsReadAs bytes is.meta fs
  read = is.read

  one : IsOne read.front fs own
  one =
      let held = subst (λ (gs : List GroupMeta). GroupsMean read.front fs gs read.rows) is.one read.held in
      one_of read.front fs own held.groups held.each

  within : IsGroupOver read.front fs own → ⊥
  within over = read.within (large_group (record {
    front = read.front;
    meta = is.meta;
    fs = fs;
    group = own;
    file = read.file;
    schema = read.schema;
    among = subst (λ (gs : List GroupMeta). Contains gs own) (sym is.one) (first_contained own);
    is = over;
  }))

  pub holds_as : FilesHoldOneColumn → own.num_rows ≡ pos g.known.rows → own.columns ≡ g.chunks → FillsColumns fs g bytes → HoldsAs fs g bytes
  holds_as law counted records fills =
      let o = one in
      let rows = o.rows in
      let full = fills read.front is.meta read.file in
      let chunks : AreChunks read.front own.columns (leaves_of fs) full.0 = subst (λ (cs : List ChunkMeta). AreChunks read.front cs (leaves_of fs) full.0) (sym records) (full_are read.front (leaves_of fs) g.chunks g.known.leaves full.0 full.1) in
      let same : full.0 ≡ columns fs rows = one_columns law read.front own.columns (leaves_of fs) full.0 (columns fs rows) chunks o.means.chunks in
      let a = o.means.count in
      let count : length rows ≡ g.known.rows = cc in (
        rows,
        record {
          front = read.front;
          meta = is.meta;
          own = own;
          file = read.file;
          short = read.short;
          schema = read.schema;
          alone = is.one;
          records = records;
          here = o.here;
          within = within;
          means = o.means;
          count = count;
          chunks = subst (λ (cols : List (List Entry)). AreFullChunks read.front (leaves_of fs) g.chunks g.known.leaves cols) same full.1;
        },
      )
