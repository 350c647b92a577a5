use Rattle.std.proofs.Common.{◌≡◌, ◌∙◌, ◌+◌, ◌-◌, ◌++◌, ◌∷◌, [], ℕ, List, map, take, drop, slice_index_or, ap, sym, subst, arith, append_assoc}
use Rattle.std.proofs.lemmas.List.{append-nil, drop_all, map_push}
use Rattle.metadata.specs.Begun.{BeginsGroup}
use Rattle.metadata.specs.Records.{ChunkMeta}
use Rattle.manifest.specs.Handles.{records_of}
use Rattle.manifest.specs.KeptChunks.{placed}
use Rattle.manifest.proofs.KeptRecords.{taken_at, none_left, chunk_follows}
use Rattle.manifest.proofs.chunk_records.ChunkRecords.put_chunks.Goals as goal

pub loop-end-preserved : goal.loop-end-preserved
loop-end-preserved c =
    let law = c.footers_are_written_in_pieces.ensures in
    let bytes = c.args.self.now.bytes.items in
    let ends = c.as_slice-end-items.result.now in
    let i = c.loop-end.end-index in
    let at = c.loop-end.at in
    let end = slice_index_or ends i 0 in
    let was = c.loop-end.invariant in
    let n = taken_at bytes at ends i was.1 (omega arith) was.3 in
    let start = c.args.start.now in
    let out = c.loop-end.out.items in
    let mid = c.extend_from_slice.new.self.items in
    let new = c.extend_from_slice-in-loop-end.new.self.items in
    let rest = take (end - at) (drop at bytes) in
    let second : new ≡ mid ++ rest = c.in_ok-extend_from_slice-2.ensures.items ∙ ap (λ (t : List ℕ). mid ++ take (end - at) (drop at t)) c.deref.ensures.value in (
      was.0 ++ n.first ∷ [],
      n.rest,
      append_assoc was.0 (n.first ∷ []) n.rest ∙ ap (λ (xs : List ChunkMeta). was.0 ++ xs) (sym n.are) ∙ was.2,
      n.left,
      λ path k old begun group. subst (λ (cs : List ChunkMeta). BeginsGroup k cs old new) (sym (map_push (placed path) was.0 n.first))
          (chunk_follows law.chunks law.groups k was.0 n.first path start rest old out mid new begun n.here c.in_ok-extend_from_slice.ensures.items second (was.4 path k old begun group)),
    )

pub returns-clause-stands : goal.returns-clause-stands
returns-clause-stands c = λ path n old begun group.
    let ends = c.as_slice-end-items.result.now in
    let i = c.loop-end.end-index in
    let was = c.loop-end.invariant in
    let none = none_left c.args.self.now.bytes.items c.loop-end.at (drop i ends) was.1 (drop_all i ends (omega arith)) was.3 in
    let all : was.0 ≡ records_of c.args.self.now = sym (append-nil was.0) ∙ ap (λ (xs : List ChunkMeta). was.0 ++ xs) (sym none) ∙ was.2 in
    subst (λ (cs : List ChunkMeta). BeginsGroup n (map (placed path) cs) old c.loop-end.out.items) all (was.4 path n old begun group)
