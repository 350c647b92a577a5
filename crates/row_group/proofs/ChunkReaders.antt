-- A reader of a whole chunk.
use Rattle.std.proofs.Common.{◌≡◌, ℕ, List, [], None, refl, sym, subst}
use Rattle.std.specs.Prelude.{◌↔◌}
use Rattle.schema.specs.Stripe.{Leaf, Entry}
use Rattle.metadata.specs.Records.{ColumnMeta}
use Rattle.row_group.specs.Chunks.{ChunkMeans}
use Rattle.row_group.specs.Limits.{IsChunkOver}
use Rattle.row_group.specs.Rest.{ChunkLeft, all_pages, HoldsRest, HasRestOver}
use Rattle.row_group.specs.Left.{ChunkStands}
use Rattle.row_group.proofs.Readers.{reader}
use Rattle.row_group.proofs.WholeChunk.{IsRecord, chunk_of_rest, rest_of_chunk, over_of_rest, rest_of_over}

pub reads_chunk : (m : ColumnMeta) (leaf : Leaf) (bytes : List ℕ) (n : ℕ) (pages : ChunkLeft) → pages ≡ all_pages leaf bytes n → IsRecord m leaf n
    → (es : List Entry) → ChunkStands (reader pages [] None) es ↔ (((used : ℕ) × ChunkMeans m leaf bytes es used) × (IsChunkOver m leaf bytes → ⊥))
reads_chunk m leaf bytes n pages is r es = (
  λ h. (
    (h.used, chunk_of_rest m leaf bytes n r es h.used (subst (λ (x : List Entry). HoldsRest (all_pages leaf bytes n) x h.used) (sym h.joined) (subst (λ (s : ChunkLeft). HoldsRest s h.rest h.used) is h.held))),
    λ over. h.short (subst HasRestOver (sym is) (rest_of_over m leaf bytes n r over)),
  ),
  λ h. record {
    sound = refl;
    rest = es;
    used = h.0.0;
    joined = refl;
    held = subst (λ (s : ChunkLeft). HoldsRest s es h.0.0) (sym is) (rest_of_chunk m leaf bytes n r.count es h.0.0 h.0.1);
    short = λ over. h.1 (over_of_rest m leaf bytes n r (subst HasRestOver is over));
  },
)
