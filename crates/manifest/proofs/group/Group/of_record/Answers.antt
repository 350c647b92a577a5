use Rattle.std.proofs.Common.{◌≡◌, ℕ, ◌∷◌, [], List, length, map, refl, ap, sym, subst, ◌∙◌}
use Rattle.std.specs.Prelude.{ℤ, ◌<ℤ◌}
use Rattle.std.proofs.lemmas.Bool.{false≢true}
use Rattle.bits.specs.declared.refusal.Refusal.TheVariants.{Limit, Memory}
use Rattle.bits.proofs.Passing.{passes}
use Rattle.schema.specs.Values.{ValueTree, ValueTrees}
use Rattle.schema.specs.Shape.{Fields, count}
use Rattle.schema.specs.Stripe.{Leaf, leaves_of}
use Rattle.schema.specs.Views.{leaf_view}
use Rattle.schema.specs.Keys.{AreRowsOf}
use Rattle.metadata.specs.Records.{ChunkMeta, GroupMeta, FileMeta}
use Rattle.metadata.specs.Views.{chunk_meta_view, group_meta_view, file_meta_view}
use Rattle.metadata.specs.declared.chunk_meta.ChunkMeta.{ChunkMeta as CodeChunkMeta}
use Rattle.row_group.specs.Greatest.{most_rows}
use Rattle.footer.specs.declared.options.WriteOptions.{WriteOptions}
use Rattle.footer.specs.File.{IsFile}
use Rattle.footer.specs.Writing.{IsTooMuch}
use Rattle.statistics.specs.Bounds.{Statistics, statistics_of}
use Rattle.partition.specs.Folders.{CanPartition}
use Rattle.manifest.specs.Handles.{records_of}
use Rattle.manifest.specs.KeptChunks.{unplaced}
use Rattle.manifest.specs.Records.{AreChunkRecords}
use Rattle.manifest.specs.Laws.{AreNamesShort, WrittenPartsHoldGroups}
use Rattle.manifest.specs.Written.{HaveRecord, IsPartOf}
use Rattle.schema.specs.Law.{IsSchema}
use Rattle.schema.proofs.FieldViews.{count_views}
use Rattle.manifest.proofs.OwnParts.{names_too_long, group_is, meta_of, is_file, part, own_count, holds, some_records, part_means, all_unplaced, groups_are}
use Rattle.manifest.proofs.group.Group.of_record.Goals as goal

pub returns-then-not-have_short_names-clause-only : goal.returns-then-not-have_short_names-clause-only
returns-then-not-have_short_names-clause-only c = λ other bytes have o rows w. (
  refl,
  names_too_long o c.args.stored.now rows bytes w
      (λ short. false≢true (sym c.if-not-have_short_names.true ∙ c.have_short_names.ensures.1 (subst AreNamesShort (sym c.leaves-leaves.ensures.leaves_are) short))),
)

-- the file has one group
one_group : (law : WrittenPartsHoldGroups) (o : WriteOptions) (fs : Fields) (rows : List ValueTrees) (bytes : List ℕ) (valid : IsSchema fs) (w : IsPartOf o fs rows bytes) (meta : FileMeta) → HaveRecord bytes meta → (own : GroupMeta) × (meta.row_groups ≡ own ∷ [])
one_group law o fs rows bytes valid w meta have =
    ((part law o fs rows bytes valid w).own, sym (ap (λ (m : FileMeta). m.row_groups) (have w.laid_out.front (meta_of law o fs rows bytes valid w) (is_file law o fs rows bytes valid w))) ∙ (part law o fs rows bytes valid w).alone)

pub returns-in_default-clause-only : goal.returns-in_default-clause-only
returns-in_default-clause-only c = λ other bytes have o rows w.
    let none = rw c.in_default.is at c.own_group.ensures in
    let one = one_group c.written_parts_hold_groups.ensures o c.args.stored.now rows bytes c.leaves-leaves.ensures.valid w (file_meta_view c.args.record.now) have in
    absurd (none one.0 one.1)

pub returns-in_err-rows-clause-only : goal.returns-in_err-rows-clause-only
returns-in_err-rows-clause-only c =
    let fs = c.args.stored.now in
    let meta = file_meta_view c.args.record.now in
    let law = c.written_parts_hold_groups.ensures in
    let valid = c.leaves-leaves.ensures.valid in
    let own = group_meta_view c.in-Some.own.now in
    let alone = rw c.in-Some.is at c.own_group.ensures in
    passes (λ e. (e ≡ Memory → ⊥) → (bytes : List ℕ) → HaveRecord bytes meta → (o : WriteOptions) (rows : List ValueTrees) → IsPartOf o fs rows bytes → (e ≡ Limit) × IsTooMuch fs o rows) c.from_residual.result c.in_err-rows.field-0.0 c.from_residual.ensures.1
    (λ other bytes have o rows w.
    let count = own_count law o fs rows bytes valid w own (groups_are bytes meta own have alone) in
    absurd (c.in_err-rows.ensures.only (length rows) count w.some (λ over. (part law o fs rows bytes valid w).appended.few (subst (λ (z : ℤ). most_rows <ℤ z) count over))))

pub returns-in_err-known-clause-only : goal.returns-in_err-known-clause-only
returns-in_err-known-clause-only c =
    let fs = c.args.stored.now in
    let meta = file_meta_view c.args.record.now in
    let law = c.written_parts_hold_groups.ensures in
    let valid = c.leaves-leaves.ensures.valid in
    let own = group_meta_view c.in-Some.own.now in
    let alone = rw c.in-Some.is at c.own_group.ensures in
    let short = subst AreNamesShort c.leaves-leaves.ensures.leaves_are (c.have_short_names.ensures.0 c.if-not-have_short_names.false) in
    passes (λ e. (e ≡ Memory → ⊥) → (bytes : List ℕ) → HaveRecord bytes meta → (o : WriteOptions) (rows : List ValueTrees) → IsPartOf o fs rows bytes → (e ≡ Limit) × IsTooMuch fs o rows) c.from_residual-in_err-known.result c.in_err-known.field-0.0 c.from_residual-in_err-known.ensures.1
    (λ other bytes have o rows w.
    let records = some_records law o fs rows bytes valid w own (groups_are bytes meta own have alone) c.leaves-leaves.ensures.within short in
    absurd (c.in_err-known.ensures.only other records.0
    (subst (λ (xs : List CodeChunkMeta). AreChunkRecords (map leaf_view c.leaves-leaves.result.now) (map chunk_meta_view xs) records.0) (sym c.as_slice.ensures.value)
    (subst (λ (ls : List Leaf). AreChunkRecords ls own.columns records.0) (sym c.leaves-leaves.ensures.leaves_are) records.1))))

pub returns-clause-width : goal.returns-clause-width
returns-clause-width c = sym (count_views c.fields-width.result.now) ∙ ap count c.fields-width.ensures

-- the records of the file are those that are kept
record Kept (ls : List Leaf) (cs kept : List ChunkMeta) (ss : List Statistics) : Type 0 where
  same : kept ≡ cs
  records : AreChunkRecords ls kept ss

are_kept : (ls seen : List Leaf) (cs taken again : List CodeChunkMeta) (kept : List ChunkMeta) (ss : List Statistics) → seen ≡ ls → taken ≡ cs → again ≡ cs → AreChunkRecords seen (map chunk_meta_view taken) ss → kept ≡ map unplaced (map chunk_meta_view again)
    → Kept ls (map chunk_meta_view cs) kept ss
are_kept ls seen cs taken again kept ss leaves first second records is =
    let own = subst (λ (xs : List Leaf). AreChunkRecords xs (map chunk_meta_view cs) ss) leaves (subst (λ (xs : List CodeChunkMeta). AreChunkRecords seen (map chunk_meta_view xs) ss) first records) in
    let same = is ∙ ap (λ (xs : List CodeChunkMeta). map unplaced (map chunk_meta_view xs)) second ∙ all_unplaced ls (map chunk_meta_view cs) ss own in
    record { same = same; records = subst (λ (xs : List ChunkMeta). AreChunkRecords ls xs ss) (sym same) own }

pub returns-clause-is : goal.returns-clause-is
returns-clause-is c = λ keys can.
    let kept = are_kept (leaves_of c.args.stored.now) (map leaf_view c.leaves-leaves.result.now) c.in-Some.own.now.columns.items c.as_slice.result.now c.as_slice-2.result.now (records_of c.in_ok-chunks.chunks) (map statistics_of c.in_ok-known.known.items)
    c.leaves-leaves.ensures.leaves_are c.as_slice.ensures.value c.as_slice-2.ensures.value c.in_ok-known.ensures.stands c.in_ok-chunks.ensures.are in
    let rows = c.in_ok-rows.ensures.stands in
    group_is keys c.args.stored.now _ c.leaves-leaves.ensures.valid rows.1 (λ over. c.in_ok-rows.ensures.within_limits (subst (λ (z : ℤ). most_rows <ℤ z) (sym rows.0) over))
    (sym (count_views c.fields-width.result.now) ∙ ap count c.fields-width.ensures) kept.records (subst (λ (k : List ValueTree). CanPartition keys k) (sym c.in_ok-key.ensures.copies) can)

pub returns-clause-holds : goal.returns-clause-holds
returns-clause-holds c = λ bytes have o rows w.
    let own = group_meta_view c.in-Some.own.now in
    let alone = rw c.in-Some.is at c.own_group.ensures in
    let kept = are_kept (leaves_of c.args.stored.now) (map leaf_view c.leaves-leaves.result.now) c.in-Some.own.now.columns.items c.as_slice.result.now c.as_slice-2.result.now (records_of c.in_ok-chunks.chunks) (map statistics_of c.in_ok-known.known.items)
    c.leaves-leaves.ensures.leaves_are c.as_slice.ensures.value c.as_slice-2.ensures.value c.in_ok-known.ensures.stands c.in_ok-chunks.ensures.are in
    holds c.written_parts_hold_groups.ensures o c.args.stored.now rows bytes c.leaves-leaves.ensures.valid w own (groups_are bytes (file_meta_view c.args.record.now) own have alone) _ kept.same c.in_ok-rows.ensures.stands.0 kept.records

pub returns-clause-means : goal.returns-clause-means
returns-clause-means c = λ bytes have o rows w keys held are.
    let fs = c.args.stored.now in
    let law = c.written_parts_hold_groups.ensures in
    let valid = c.leaves-leaves.ensures.valid in
    let own = group_meta_view c.in-Some.own.now in
    let alone = rw c.in-Some.is at c.own_group.ensures in
    let kept = are_kept (leaves_of fs) (map leaf_view c.leaves-leaves.result.now) c.in-Some.own.now.columns.items c.as_slice.result.now c.as_slice-2.result.now (records_of c.in_ok-chunks.chunks) (map statistics_of c.in_ok-known.known.items)
    c.leaves-leaves.ensures.leaves_are c.as_slice.ensures.value c.as_slice-2.ensures.value c.in_ok-known.ensures.stands c.in_ok-chunks.ensures.are in
    part_means c.whole_rows_are_padded.ensures keys fs _ bytes rows held (part law o fs rows bytes valid w).appended.fit (sym (count_views c.fields-width.result.now) ∙ ap count c.fields-width.ensures)
    (holds law o fs rows bytes valid w own (groups_are bytes (file_meta_view c.args.record.now) own have alone) _ kept.same c.in_ok-rows.ensures.stands.0 kept.records)
    (subst (λ (k : List ValueTree). AreRowsOf keys k rows held) (sym c.in_ok-key.ensures.copies) are)
