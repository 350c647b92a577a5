-- The group of a part file that was just written.
use Rattle.std.proofs.Common.{◌≡◌, ℕ, zero, suc, ◌+◌, ◌*◌, ◌<◌, ◌≤◌, ◌^◌, ◌⊎◌, inl, inr, pos, List, [], ◌∷◌, length, map, Some, None, refl, ap, sym, subst, ◌∙◌, arith}
use Rattle.std.specs.Prelude.{◌<ℤ◌, sum_by}
use Rattle.std.specs.List.{AllByRecursion, slice_get}
use Rattle.std.proofs.lemmas.Bool.{cases_lt}
use Rattle.std.proofs.lemmas.List.Sums.{sum_by-cons}
use Rattle.schema.specs.Values.{ValueTrees}
use Rattle.schema.specs.Shape.{Fields, count}
use Rattle.schema.specs.Fits.{RowsFit}
use Rattle.schema.specs.Law.{IsSchema, IsWithinLimits}
use Rattle.schema.specs.Listed.{elements_of}
use Rattle.schema.specs.Stripe.{Leaf, Entry, leaves_of, columns}
use Rattle.schema.specs.Keys.{KeyColumn, AreRowsOf}
use Rattle.metadata.specs.Records.{ChunkMeta, GroupMeta, FileMeta}
use Rattle.metadata.specs.Weight.{element_weight}
use Rattle.row_group.specs.Greatest.{most_rows}
use Rattle.row_group.specs.Spelled.{AreStatisticsOf, written_statistics}
use Rattle.row_group.specs.Writing.{AppendsEach}
use Rattle.row_group.specs.declared.options.ChunkOptions.{ChunkOptions}
use Rattle.footer.specs.declared.options.WriteOptions.{WriteOptions}
use Rattle.footer.specs.File.{IsFile}
use Rattle.footer.specs.Greatest.{most_of_footer}
use Rattle.footer.specs.Own.{own_record}
use Rattle.footer.specs.Writing.{IsTooMuch, heavy_footer, footer_weight, groups_of, chunk_options}
use Rattle.statistics.specs.Bounds.{Statistics, null_count}
use Rattle.partition.specs.Folders.{CanPartition}
use Rattle.schema.specs.Fronts.{first_fields, padded, IsFront, WholeRowsArePadded}
use Rattle.manifest.specs.Groups.{Group}
use Rattle.manifest.specs.Records.{HasStatistics, IsChunkRecord, AreChunkRecords, IsGroup}
use Rattle.manifest.specs.Parts.{HoldsGroup, PartMeans}
use Rattle.manifest.specs.Laws.{HaveStatistics, AreNamesShort, IsWrittenPart, WrittenPartsHoldGroups}
use Rattle.manifest.specs.Written.{HaveRecord, IsPartOf}
use Rattle.manifest.specs.KeptChunks.{unplaced}
use Rattle.manifest.proofs.WrittenParts.{one_group, bound_at}
use Rattle.manifest.proofs.WrittenGroups.{records_each, long_fields, whole_front, none_after, some_fields}

-- ---- names

long_path : (names : List (List ℕ)) → (AllByRecursion (λ name. length name < 2 ^ 32) names → ⊥) → 2 ^ 32 ≤ sum_by (λ n. length n) names
long_path [] h = absurd (h tt)
long_path (n ∷ names) h = by (cases_lt (length n) (2 ^ 32)) (λ lt. long_path names (λ a. h (lt, a)))
  where
    by : (length n < 2 ^ 32) ⊎ (2 ^ 32 ≤ length n) → (length n < 2 ^ 32 → 2 ^ 32 ≤ sum_by (λ m. length m) names) → 2 ^ 32 ≤ sum_by (λ m. length m) (n ∷ names)
    by (inl lt) later = let rest = later lt in omega (arith, rest, sum_by-cons (λ (m : List ℕ). length m) n names)
    by (inr ge) later = omega (arith, ge, sum_by-cons (λ (m : List ℕ). length m) n names)

abbrev leaf_weight : Leaf → ℕ
leaf_weight l = 512 + sum_by (λ n. length n) l.path

abbrev Short : List (List ℕ) → Type 0
Short names = AllByRecursion (λ name. length name < 2 ^ 32) names

long_leaves : (short : (names : List (List ℕ)) → Short names ⊎ (Short names → ⊥)) → (ls : List Leaf) → (AreNamesShort ls → ⊥) → 2 ^ 32 ≤ sum_by leaf_weight ls
long_leaves short [] h = absurd (h tt)
long_leaves short (l ∷ ls) h = by (short l.path) (λ a. long_leaves short ls (λ b. h (a, b)))
  where
    by : Short l.path ⊎ (Short l.path → ⊥) → (Short l.path → 2 ^ 32 ≤ sum_by leaf_weight ls) → 2 ^ 32 ≤ sum_by leaf_weight (l ∷ ls)
    by (inl a) later = let rest = later a in omega (arith, rest, sum_by-cons leaf_weight l ls)
    by (inr never) later = let own = long_path l.path never in omega (arith, own, sum_by-cons leaf_weight l ls)

is_short : (names : List (List ℕ)) → AllByRecursion (λ name. length name < 2 ^ 32) names ⊎ (AllByRecursion (λ name. length name < 2 ^ 32) names → ⊥)
is_short [] = inl tt
is_short (n ∷ names) = by (cases_lt (length n) (2 ^ 32)) (is_short names)
  where
    by : (length n < 2 ^ 32) ⊎ (2 ^ 32 ≤ length n) → AllByRecursion (λ name. length name < 2 ^ 32) names ⊎ (AllByRecursion (λ name. length name < 2 ^ 32) names → ⊥)
        → AllByRecursion (λ name. length name < 2 ^ 32) (n ∷ names) ⊎ (AllByRecursion (λ name. length name < 2 ^ 32) (n ∷ names) → ⊥)
    by (inl lt) (inl a) = inl (lt, a)
    by (inl lt) (inr never) = inr (λ b. never b.1)
    by (inr ge) a = inr (λ b. let lt = b.0 in absurd (omega (arith, lt, ge)))

-- rows of a schema with such a name are too much for a file
pub names_too_long : (o : WriteOptions) (fs : Fields) (rows : List ValueTrees) (bytes : List ℕ) → IsPartOf o fs rows bytes → (AreNamesShort (leaves_of fs) → ⊥) → IsTooMuch fs o rows
names_too_long o fs rows bytes w h =
    let long = long_leaves is_short (leaves_of fs) h in
    let one : length (groups_of o.group_rows rows) ≡ 1 = ap length (one_group o.group_rows rows w.some w.few) in
    let heavy : most_of_footer < 1024 + sum_by element_weight (elements_of fs) + 1 * (64 + sum_by leaf_weight (leaves_of fs)) = omega (arith, long) in
    heavy_footer (subst (λ (n : ℕ). most_of_footer < footer_weight fs n) (sym one) heavy)

-- ---- the chunks

-- the record at a place
pub record_at : (ls : List Leaf) (cs : List ChunkMeta) (ss : List Statistics) (i : ℕ) (c : ChunkMeta) (l : Leaf) → AreChunkRecords ls cs ss → slice_get cs i ≡ Some c → slice_get ls i ≡ Some l → (s : Statistics) × IsChunkRecord l c s
record_at [] cs ss i c l are here leaf = cc
record_at (m ∷ ls) [] ss i c l are here leaf = absurd are
record_at (m ∷ ls) (d ∷ cs) [] i c l are here leaf = absurd are
record_at (m ∷ ls) (d ∷ cs) (s ∷ ss) zero c l are here leaf =
    let same : d ≡ c = cc in
    let same_leaf : m ≡ l = cc in
    (s, subst (λ (x : ChunkMeta). IsChunkRecord l x s) same (subst (λ (x : Leaf). IsChunkRecord x d s) same_leaf are.0))
record_at (m ∷ ls) (d ∷ cs) (s ∷ ss) (suc i) c l are here leaf = record_at ls cs ss i c l are.1 here leaf

pub leaf_there : (ls : List Leaf) (i : ℕ) → i < length ls → (l : Leaf) × (slice_get ls i ≡ Some l)
leaf_there [] i lt = absurd (omega (arith, lt))
leaf_there (l ∷ ls) zero lt = (l, refl)
leaf_there (l ∷ ls) (suc i) lt = leaf_there ls i (omega (arith, lt))

-- a chunk in its own file
pub unplaced_is : (c : ChunkMeta) → c.file_path ≡ None → unplaced c ≡ c
unplaced_is c none = λ i. record { file_path = sym none i; file_offset = c.file_offset; meta_data = c.meta_data }

-- the records of a file's own chunks are kept as they are
pub all_unplaced : (ls : List Leaf) (cs : List ChunkMeta) (ss : List Statistics) → AreChunkRecords ls cs ss → map unplaced cs ≡ cs
all_unplaced [] [] [] h = refl
all_unplaced [] [] (s ∷ ss) h = absurd h
all_unplaced [] (c ∷ cs) ss h = absurd h
all_unplaced (l ∷ ls) [] ss h = absurd h
all_unplaced (l ∷ ls) (c ∷ cs) [] h = absurd h
all_unplaced (l ∷ ls) (c ∷ cs) (s ∷ ss) h =
    let first = unplaced_is c h.0.here in
    let rest = all_unplaced ls cs ss h.1 in
    λ i. first i ∷ rest i

-- ---- the group

pub have_statistics : (ls : List Leaf) (cs : List ChunkMeta) (ss : List Statistics) → AreChunkRecords ls cs ss → HaveStatistics ls cs ss
have_statistics [] [] [] h = tt
have_statistics [] [] (s ∷ ss) h = absurd h
have_statistics [] (c ∷ cs) ss h = absurd h
have_statistics (l ∷ ls) [] ss h = absurd h
have_statistics (l ∷ ls) (c ∷ cs) [] h = absurd h
have_statistics (l ∷ ls) (c ∷ cs) (s ∷ ss) h = (h.0.statistics, have_statistics ls cs ss h.1)

pub group_is : (keys : List KeyColumn) (fs : Fields) (g : Group) → IsSchema fs → 1 ≤ g.known.rows → (most_rows <ℤ pos g.known.rows → ⊥) → g.width ≡ count fs → AreChunkRecords (leaves_of fs) g.chunks g.known.leaves
    → CanPartition keys g.key → IsGroup keys fs g
group_is keys fs g valid some few wide records can = record {
  some = some;
  within_limits = few;
  keyed = can;
  file = subst (λ (n : ℕ). IsFront n fs) (sym wide) (record { some = some_fields fs valid; there = omega arith; optional = none_after fs });
  chunks = subst (λ (n : ℕ). AreChunkRecords (leaves_of (first_fields n fs)) g.chunks g.known.leaves) (sym wide) (subst (λ (gs : Fields). AreChunkRecords (leaves_of gs) g.chunks g.known.leaves) (sym (whole_front fs)) records);
}

-- ---- the file

-- the groups of a file are those of its record
pub groups_are : (bytes : List ℕ) (record_of : FileMeta) (own : GroupMeta) → HaveRecord bytes record_of → record_of.row_groups ≡ own ∷ [] → (front : List ℕ) (meta : FileMeta) → IsFile bytes front meta → meta.row_groups ≡ own ∷ []
groups_are bytes record_of own have alone front meta file = ap (λ (m : FileMeta). m.row_groups) (have front meta file) ∙ alone

module _ (law : WrittenPartsHoldGroups) (o : WriteOptions) (fs : Fields) (rows : List ValueTrees) (bytes : List ℕ) (valid : IsSchema fs) (w : IsPartOf o fs rows bytes) where
  abbrev pub meta_of : FileMeta
  meta_of = own_record fs (length rows) w.laid_out.metas

  pub is_file : IsFile bytes w.laid_out.front meta_of
  is_file = record { footer = w.laid_out.file.footer; used = length w.laid_out.file.footer; framed = w.laid_out.file.framed; stands = w.laid_out.file.fills }

  pub part : IsWrittenPart o fs rows bytes meta_of
  part = law o fs rows bytes w.laid_out.front meta_of valid w.laid_out w.some w.few w.short is_file

  -- the record that was read is its own
  module _ (own : GroupMeta) (stands : (front : List ℕ) (meta : FileMeta) → IsFile bytes front meta → meta.row_groups ≡ own ∷ []) where
    pub own_is : own ≡ part.own
    own_is = same_one (sym (stands w.laid_out.front meta_of is_file) ∙ part.alone)
      where
        same_one : {g h : GroupMeta} → g ∷ [] ≡ h ∷ [] → g ≡ h
        same_one e = cc

    pub own_count : own.num_rows ≡ pos (length rows)
    own_count = ap (λ (g : GroupMeta). g.num_rows) own_is ∙ part.appended.count

    pub holds : (g : Group) → g.chunks ≡ own.columns → own.num_rows ≡ pos g.known.rows → AreChunkRecords (leaves_of fs) g.chunks g.known.leaves → HoldsGroup fs g bytes rows
    holds g chunks counted records =
        let count : g.known.rows ≡ length rows = same_count (sym counted ∙ own_count) in
        part.holds g (chunks ∙ ap (λ (m : GroupMeta). m.columns) own_is) count (have_statistics (leaves_of fs) g.chunks g.known.leaves records)
      where
        same_count : {n m : ℕ} → pos n ≡ pos m → n ≡ m
        same_count e = cc

    -- a chunk of each leaf has a record
    pub some_records : IsWithinLimits fs → AreNamesShort (leaves_of fs) → (ss : List Statistics) × AreChunkRecords (leaves_of fs) own.columns ss
    some_records within short =
        let each = statistics_each (chunk_options o) (leaves_of fs) (columns fs rows) _ part.front part.own.columns part.appended.chunks in (
          each.0,
          subst (λ (m : GroupMeta). AreChunkRecords (leaves_of fs) m.columns each.0) (sym own_is)
              (records_each (chunk_options o) (leaves_of fs) (columns fs rows) _ part.front part.own.columns each.0 part.appended.chunks part.within_file each.1 (long_fields 0 fs) within.depth short),
        )
      where
        statistics_one : (l : Leaf) (es : List Entry) (c : ChunkMeta) → AreStatisticsOf l es c.meta_data.statistics → (s : Statistics) × HasStatistics l c.meta_data s
        statistics_one l es c a = (
          record { min = a.bounds.min; max = a.bounds.max; nulls = null_count es },
          record { given = written_statistics (null_count es) a.min a.max; there = a.spelled; nulls = refl; min = bound_at l.leaf_type.kind a.min a.bounds.min a.min_bytes; max = bound_at l.leaf_type.kind a.max a.bounds.max a.max_bytes },
        )

        statistics_each : (c : ChunkOptions) (ls : List Leaf) (cols : List (List Entry)) (old new : List ℕ) (cs : List ChunkMeta) → AppendsEach c ls cols old new cs → (ss : List Statistics) × HaveStatistics ls cs ss
        statistics_each p [] [] old new [] h = ([], tt)
        statistics_each p [] [] old new (c ∷ cs) h = absurd h
        statistics_each p [] (es ∷ cols) old new cs h = absurd h
        statistics_each p (l ∷ ls) [] old new cs h = absurd h
        statistics_each p (l ∷ ls) (es ∷ cols) old new [] h = absurd h
        statistics_each p (l ∷ ls) (es ∷ cols) old new (c ∷ cs) h =
            let first = statistics_one l es c h.1.statistics in
            let rest = statistics_each p ls cols h.0 new cs h.3 in
            (first.0 ∷ rest.0, (first.1, rest.1))

-- ---- its rows

padded_rows : WholeRowsArePadded → (fs : Fields) (rows : List ValueTrees) → RowsFit fs rows → map (padded fs) rows ≡ rows
padded_rows law fs [] h = refl
padded_rows law fs (row ∷ rows) h = λ i. law fs row h.0 i ∷ padded_rows law fs rows h.1 i

pub part_means : WholeRowsArePadded → (keys : List KeyColumn) (fs : Fields) (g : Group) (bytes : List ℕ) (rows held : List ValueTrees) → RowsFit fs rows → g.width ≡ count fs → HoldsGroup fs g bytes rows → AreRowsOf keys g.key rows held → PartMeans keys fs g bytes held
part_means law keys fs g bytes rows held fit wide holds keyed = record {
  stored = rows;
  holds = subst (λ (n : ℕ). HoldsGroup (first_fields n fs) g bytes rows) (sym wide) (subst (λ (gs : Fields). HoldsGroup gs g bytes rows) (sym (whole_front fs)) holds);
  keyed = subst (λ (rs : List ValueTrees). AreRowsOf keys g.key rs held) (sym (padded_rows law fs rows fit)) keyed;
}
