use Rattle.std.proofs.Common.{◌≡◌, ◌<◌, ◌^◌, suc, ◌∙◌, ℕ, List, length, map, sym, ap, subst}
use Rattle.std.specs.Prelude.{ℤ, ◌<ℤ◌, take, option_map}
use Rattle.row_group.specs.Greatest.{most_rows}
use Rattle.schema.specs.Stripe.{Leaf, leaves_of}
use Rattle.statistics.specs.Bounds.{statistics_of}
use Rattle.schema.specs.Fronts.{first_fields}
use Rattle.std.proofs.lemmas.List.{length-map}
use Rattle.bits.specs.declared.refusal.Refusal.TheVariants.{Memory}
use Rattle.bits.proofs.Passing.{passes}
use Rattle.metadata.specs.Records.{ChunkMeta}
use Rattle.metadata.specs.Views.{chunk_meta_view, group_meta_view}
use Rattle.metadata.specs.declared.chunk_meta.ChunkMeta.{ChunkMeta as CodeChunkMeta}
use Rattle.schema.specs.Keys.{key_columns_view}
use Rattle.schema.specs.Views.{leaf_view}
use Rattle.manifest.specs.Groups.{Group}
use Rattle.manifest.specs.Handles.{records_of}
use Rattle.manifest.specs.Records.{AreChunkRecords, IsGroupRecord, placed}
use Rattle.manifest.specs.KeptChunks.{unplaced}
use Rattle.manifest.specs.inner.Reading.{FirstPath}
use Rattle.manifest.proofs.GroupChunks.{no_front, no_path, path_is, chunks_are}
use Rattle.manifest.proofs.group_reading.group_in.Goals as goal

pub returns-in_default-clause-only : goal.returns-in_default-clause-only
returns-in_default-clause-only c = λ stored valid same fronts other g small r.
    no_front (key_columns_view c.args.keys.now) stored (group_meta_view c.args.meta) g c.width_of.result (length c.as_slice-columns.result.now) c.in_default.is
    (ap (λ (xs : List CodeChunkMeta). length xs) c.as_slice-columns.ensures.value ∙ sym (length-map c.args.meta.columns.items chunk_meta_view)) (c.width_of.ensures stored fronts) r

pub returns-in_default-path_in-clause-only : goal.returns-in_default-path_in-clause-only
returns-in_default-path_in-clause-only c = λ stored valid same fronts other g small r.
    no_path (key_columns_view c.args.keys.now) stored (group_meta_view c.args.meta) g (option_map (λ p. p.now) c.path_in.result) valid (ap (option_map (λ p. p.now)) c.in_default-path_in.is)
    (subst (λ (xs : List CodeChunkMeta). FirstPath (map chunk_meta_view xs) (option_map (λ p. p.now) c.path_in.result)) c.as_slice-columns.ensures.value c.path_in.ensures) r

pub returns-in_err-key-clause-only : goal.returns-in_err-key-clause-only
returns-in_err-key-clause-only c = λ stored valid same fronts.
    let keys = key_columns_view c.args.keys.now in
    let m = group_meta_view c.args.meta in
    let first = subst (λ (xs : List CodeChunkMeta). FirstPath (map chunk_meta_view xs) (option_map (λ p. p.now) c.path_in.result)) c.as_slice-columns.ensures.value c.path_in.ensures in
    passes (λ e. (e ≡ Memory → ⊥) → (g : Group) → suc g.number < 2 ^ 64 → IsGroupRecord keys stored m g → ⊥) c.from_residual-in_err-key.result c.in_err-key.field-0.0 c.from_residual-in_err-key.ensures.1
    (λ other g small r. c.in_err-key.ensures.only other g.key g.number r.is.keyed small
    (path_is keys stored m g (option_map (λ p. p.now) c.path_in.result) c.in-Some-path_in.path.now valid (ap (option_map (λ p. p.now)) c.in-Some-path_in.is) first r))

pub returns-in_err-known-clause-only : goal.returns-in_err-known-clause-only
returns-in_err-known-clause-only c = λ stored valid same fronts.
    let keys = key_columns_view c.args.keys.now in
    let m = group_meta_view c.args.meta in
    let first = subst (λ (xs : List CodeChunkMeta). FirstPath (map chunk_meta_view xs) (option_map (λ p. p.now) c.path_in.result)) c.as_slice-columns.ensures.value c.path_in.ensures in
    let size = ap (λ (xs : List CodeChunkMeta). length xs) c.as_slice-columns.ensures.value ∙ sym (length-map c.args.meta.columns.items chunk_meta_view) in
    passes (λ e. (e ≡ Memory → ⊥) → (g : Group) → suc g.number < 2 ^ 64 → IsGroupRecord keys stored m g → ⊥) c.from_residual-in_err-known.result c.in_err-known.field-0.0 c.from_residual-in_err-known.ensures.1
    (λ other g small r.
    let at = path_is keys stored m g (option_map (λ p. p.now) c.path_in.result) c.in-Some-path_in.path.now valid (ap (option_map (λ p. p.now)) c.in-Some-path_in.is) first r in
    let are = chunks_are c.fronts_have_the_first_leaves.ensures keys stored m g (map leaf_view c.args.leaves.now) (length c.as_slice-columns.result.now) c.in-Some-path_in.path.now same size at r in
    c.in_err-known.ensures.only other g.chunks g.known.leaves (ap (λ (xs : List CodeChunkMeta). map chunk_meta_view xs) c.as_slice-columns.ensures.value ∙ are.0) are.1)

pub returns-clause-stands : goal.returns-clause-stands
returns-clause-stands c = λ stored valid same fronts.
    let keys = key_columns_view c.args.keys.now in
    let rows = c.in_ok-rows.ensures.stands in
    let front = rw c.in-Some.is at (c.width_of.ensures stored fronts) in
    let w = c.in-Some.width in
    let n = length c.as_slice-columns.result.now in
    let taken : take n (map leaf_view c.args.leaves.now) ≡ leaves_of (first_fields w stored)
    = ap (take n) same ∙ ap (λ (k : ℕ). take k (leaves_of stored)) (sym front.1) ∙ sym (c.fronts_have_the_first_leaves.ensures w stored) in
    let ms : c.as_slice-columns.result.now ≡ c.args.meta.columns.items = c.as_slice-columns.ensures.value in
    let own : records_of c.in_ok-chunks.chunks ≡ map unplaced (map chunk_meta_view c.as_slice-columns.result.now)
    = c.in_ok-chunks.ensures.are in
    record {
      is = record {
        some = rows.1;
        within_limits = λ over. c.in_ok-rows.ensures.within_limits (subst (λ (z : ℤ). most_rows <ℤ z) (sym rows.0) over);
        keyed = c.in_ok-key.ensures.can;
        file = front.0;
        chunks = subst (λ (cs : List ChunkMeta). AreChunkRecords (leaves_of (first_fields w stored)) cs (map statistics_of c.in_ok-known.known.items)) (sym own)
            (subst (λ (ls : List Leaf). AreChunkRecords ls (map unplaced (map chunk_meta_view c.as_slice-columns.result.now)) (map statistics_of c.in_ok-known.known.items)) taken c.in_ok-known.ensures.stands);
      };
      counted = rows.0;
      placed_chunks = ap (λ (xs : List CodeChunkMeta). map chunk_meta_view xs) (sym ms) ∙ c.in_ok-known.ensures.placed
          ∙ (λ k. map (placed (sym c.in_ok-key.ensures.stands k)) (sym own k));
    }
