-- Readers of a group that was accepted.
use Rattle.std.proofs.Common.{◌≡◌, ℕ, suc, Some, List, [], ◌∷◌, refl}
use Rattle.std.specs.Prelude.{slice_get, pos}
use Rattle.bits.specs.Refusals.{HasCause, IsFault}
use Rattle.bits.specs.declared.refusal.Refusal.{Refusal}
use Rattle.bits.specs.declared.refusal.Refusal.TheVariants as refusal
use Rattle.schema.specs.Values.{ValueTrees}
use Rattle.schema.specs.Shape.{Fields}
use Rattle.schema.specs.Stripe.{Leaf, Entry, leaves_of, columns}
use Rattle.metadata.specs.Records.{ChunkMeta, GroupMeta}
use Rattle.row_group.specs.Chunks.{AreChunks}
use Rattle.row_group.specs.Limits.{IsChunkOver, BeginsWith, IsReadable, large_chunk}
use Rattle.row_group.specs.inner.Readers.{AreSound, HasRows}
use Rattle.row_group.proofs.GroupRows.{rows_of_group}

-- chunks none of which goes beyond a limit
sound : (front : List ℕ) (cs : List ChunkMeta) (ls : List Leaf) (all : List (List Entry)) → AreChunks front cs ls all
    → ((k : ℕ) (c : ChunkMeta) (leaf : Leaf) → slice_get cs k ≡ Some c → slice_get ls k ≡ Some leaf → BeginsWith front IsChunkOver c.meta_data leaf → ⊥) → AreSound front cs ls all
sound front [] [] [] h none = tt
sound front [] [] (es ∷ all) h none = absurd h
sound front [] (l ∷ ls) all h none = absurd h
sound front (c ∷ cs) [] all h none = absurd h
sound front (c ∷ cs) (l ∷ ls) [] h none = absurd h
sound front (c ∷ cs) (l ∷ ls) (es ∷ all) h none = ((h.0, none 0 c l refl refl), sound front cs ls all h.1 (λ k d m x y. none (suc k) d m x y))

-- a group that is accepted has its rows, within the limits
pub has_rows : (front : List ℕ) (fs : Fields) (g : GroupMeta) (n : ℕ) (rows : List ValueTrees) → g.num_rows ≡ pos n → IsReadable front fs g rows → HasRows front fs g n
has_rows front fs g n rows number r =
    let of = rows_of_group front fs g n number rows r.means in
    record {
      rows = rows;
      count = of.count;
      fit = of.fit;
      sound = sound front g.columns (leaves_of fs) (columns fs rows) of.chunks (λ k c leaf x y over. r.within_limits (large_chunk (record { k = k; chunk = c; leaf = leaf; of_group = x; of_schema = y; is = over })));
    }

-- what is no fault and no limit is Memory
pub memory_only : (e : Refusal) → (IsFault e → ⊥) → (e ≡ refusal.Limit → ⊥) → HasCause (λ _. ⊥) e
memory_only refusal.Memory fault limit = tt
memory_only refusal.Limit fault limit = limit refl
memory_only e fault limit = fault tt
