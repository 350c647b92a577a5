use Rattle.std.proofs.Common.{◌≡◌, ◌<◌, ◌≤◌, ℕ, List, length, take, map, ap, sym, ◌∙◌, subst, arith, refl}
use Rattle.std.proofs.lemmas.Bool.{false≢true}
use Rattle.std.specs.List.{take-map}
use Rattle.std.proofs.lemmas.List.{length-map, length-take}
use Rattle.schema.specs.Shape.{Fields}
use Rattle.schema.specs.Stripe.{Leaf, leaves_of}
use Rattle.schema.specs.Views.{leaf_view}
use Rattle.schema.specs.Fronts.{IsFront, first_fields, FrontsHaveFirstLeaves}
use Rattle.metadata.specs.Records.{ChunkMeta}
use Rattle.metadata.specs.Views.{chunk_meta_view}
use Rattle.statistics.specs.Bounds.{Statistics, statistics_of}
use Rattle.manifest.specs.Handles.{records_of}
use Rattle.manifest.specs.Records.{AreChunkRecords}
use Rattle.manifest.proofs.GroupChunks.{are_many}
use Rattle.manifest.proofs.OneGroup.{same_known}
use Rattle.manifest.proofs.fitting.has_chunks.Goals as goal

-- the first fields have no more leaves than all
no_more : FrontsHaveFirstLeaves → (n : ℕ) (fs : Fields) → length (leaves_of (first_fields n fs)) ≤ length (leaves_of fs)
no_more firsts n fs =
    let e = ap (λ (ls : List Leaf). length ls) (firsts n fs) in
    let t = length-take (length (leaves_of (first_fields n fs))) (leaves_of fs) in
    omega (arith, e, t)

pub returns-then-count-leaves-clause-has : goal.returns-then-count-leaves-clause-has
returns-then-count-leaves-clause-has c = λ stored valid same fronts. (
  λ t. absurd (false≢true t),
  λ p. absurd (
      let many = are_many _ _ _ p.1 in
      let are = ap length c.in_ok-chunks.ensures.are in
      let sized = length-map c.in_ok-chunks.chunks.items chunk_meta_view in
      let leaves = ap length same in
      let mapped = length-map c.args.leaves.now leaf_view in
      let n = c.len-count.ensures in
      let over = c.if-count-leaves.true in
      let least = no_more c.fronts_have_the_first_leaves.ensures c.args.group.now.width stored in
      omega (arith, many, are, sized, n, leaves, mapped, least, over)),
)

pub returns-in_default-clause-has : goal.returns-in_default-clause-has
returns-in_default-clause-has c = λ stored valid same fronts. (
  λ t. absurd (false≢true t),
  λ p. absurd (
      let many = are_many _ _ _ p.1 in
      let are = ap length c.in_ok-chunks.ensures.are in
      let sized = length-map c.in_ok-chunks.chunks.items chunk_meta_view in
      let n = c.len-count.ensures in
      c.in_default.ensures stored fronts c.args.group.now.width p.0 (omega (arith, many, are, sized, n))),
)

pub returns-then-width-group-clause-has : goal.returns-then-width-group-clause-has
returns-then-width-group-clause-has c = λ stored valid same fronts. (
  λ t. absurd (false≢true t),
  λ p. absurd (
      let found = c.in-Some.ensures stored fronts in
      let many = are_many _ _ _ p.1 in
      let are = ap length c.in_ok-chunks.ensures.are in
      let sized = length-map c.in_ok-chunks.chunks.items chunk_meta_view in
      let n = c.len-count.ensures in
      let there = found.1 in
      c.if-width-group.true (c.leaves_tell_fronts.ensures c.in-Some.width c.args.group.now.width stored valid found.0.there p.0.there (omega (arith, many, are, sized, n, there)))),
)

pub returns-in-Ok-clause-has : goal.returns-in-Ok-clause-has
returns-in-Ok-clause-has c = λ stored valid same fronts.
    let width : ℕ = c.args.group.now.width in
    let found = c.in-Some.ensures stored fronts in
    let at : c.in-Some.width ≡ width = c.if-width-group.false in
    let front : IsFront width stored = subst (λ (n : ℕ). IsFront n stored) at found.0 in
    let sized : length (leaves_of (first_fields width stored)) ≡ c.len-count.result = subst (λ (n : ℕ). length (leaves_of (first_fields n stored)) ≡ c.len-count.result) at found.1 in
    let first : map leaf_view c.split_at.result.0.now ≡ leaves_of (first_fields width stored) =
    ap (map leaf_view) c.split_at.ensures.front ∙ sym (take-map leaf_view c.len-count.result c.args.leaves.now) ∙ ap (take c.len-count.result) same
    ∙ sym (c.fronts_have_the_first_leaves.ensures width stored ∙ ap (λ (n : ℕ). take n (leaves_of stored)) sized) in
    let own : map chunk_meta_view c.as_slice.result.now ≡ records_of c.args.group.now.chunks = ap (map chunk_meta_view) c.as_slice.ensures.value ∙ c.in_ok-chunks.ensures.are in
    let known : AreChunkRecords (leaves_of (first_fields width stored)) (records_of c.args.group.now.chunks) (map statistics_of c.in-Ok.known.items) =
    subst (λ (ls : List Leaf). AreChunkRecords ls (records_of c.args.group.now.chunks) (map statistics_of c.in-Ok.known.items)) first
    (subst (λ (cs : List ChunkMeta). AreChunkRecords (map leaf_view c.split_at.result.0.now) cs (map statistics_of c.in-Ok.known.items)) own c.in-Ok.ensures.stands) in
    let given = ap (map statistics_of) c.as_slice-in-Ok.ensures.value in
    let kept = ap (map statistics_of) c.as_slice-in-Ok-2.ensures.value in (
      λ t. (front, subst (λ (ss : List Statistics). AreChunkRecords (leaves_of (first_fields width stored)) (records_of c.args.group.now.chunks) ss) (sym given ∙ c.are_same.ensures.0 t ∙ kept) known),
      λ p. c.are_same.ensures.1 (given ∙ same_known c.one_bound.ensures _ _ _ _ known p.1 ∙ sym kept),
    )
