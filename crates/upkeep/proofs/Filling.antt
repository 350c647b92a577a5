-- The columns of a file, one by one, in the bytes of their chunks.
use Rattle.std.proofs.Common.{false, ◌≡◌, ℕ, List, [], ◌∷◌, length, drop, Option, Some, None, ap, subst, ◌∙◌, arith, length-take-le, length-drop}
use Rattle.std.specs.Prelude.{Result, Ok, Err, IfOk, IfSome, MatchOption, is_some}
use Rattle.std.proofs.lemmas.Bool.{false≢true}
use Rattle.bits.specs.declared.refusal.Refusal.{Refusal}
use Rattle.schema.specs.Stripe.{Leaf, Entry}
use Rattle.schema.specs.Views.{leaf_view}
use Rattle.schema.specs.declared.field.Leaf.{Leaf as CodeLeaf}
use Rattle.metadata.specs.Records.{ColumnMeta}
use Rattle.metadata.specs.Views.{chunk_meta_view}
use Rattle.metadata.specs.declared.chunk_meta.ChunkMeta.{ChunkMeta as CodeChunk}
use Rattle.row_group.specs.Chunks.{ChunkMeans}
use Rattle.statistics.specs.Bounds.{Statistics, statistics_of}
use Rattle.statistics.specs.declared.stats.Stats.{Stats}
use Rattle.upkeep.specs.inner.Columns.{AreColumns, IsColumn, IsColumnIn, IsTextOf}

-- ---- what a call found, seen another way

pub match_map : {X : Type 0} (o : Option X) (P Q : Type 0) → (P → Q) → MatchOption o P (λ _. Unit {0}) → MatchOption o Q (λ _. Unit {0})
match_map None P Q f p = f p
match_map (Some x) P Q f p = tt

pub found_map : {X : Type 0} (r : Result (Option X) Refusal) (P Q : Type 0) → (P → Q) → IfOk r (λ o. MatchOption o P (λ _. Unit {0})) → IfOk r (λ o. MatchOption o Q (λ _. Unit {0}))
found_map (Ok o) P Q f p = match_map o P Q f p
found_map (Err e) P Q f p = tt

pub some_map : {X : Type 0} (o : Option X) (P Q : X → Type 0) → ((x : X) → P x → Q x) → IfSome o P → IfSome o Q
some_map None P Q f p = tt
some_map (Some x) P Q f p = f x p

-- ---- one column

module _ (front : List ℕ) (leaf : Leaf) (m : ColumnMeta) (s : Statistics) (text : List ℕ) (t : IsTextOf front m text) where
  abbrev size : ℕ
  size = t.2.size

  long : length text ≡ size
  long = ap length t.2.here ∙ length-take-le size (drop t.0 front) (omega (arith, t.2.there, length-drop t.0 front))

  pub from_text : (es : List Entry) → IsColumnIn text leaf m s es → IsColumn front leaf m s es
  from_text es col = (
    record {
      start = t.0;
      starts = t.1;
      size = size;
      sized = t.2.sized;
      there = t.2.there;
      fills = subst (λ (b : List ℕ). ChunkMeans m leaf b es size) t.2.here (subst (λ (n : ℕ). ChunkMeans m leaf text es n) long col.0);
    },
    col.1,
  )

-- ---- column after column

pub none_left : (front : List ℕ) → AreColumns front [] [] []
none_left front = ([], tt)

pub one_more_column : (front : List ℕ) (leaf : CodeLeaf) (chunk : CodeChunk) (stats : Stats) (leaves : List CodeLeaf) (chunks : List CodeChunk) (others : List Stats)
    → ((es : List Entry) × IsColumn front (leaf_view leaf) (chunk_meta_view chunk).meta_data (statistics_of stats) es)
    → AreColumns front leaves chunks others → AreColumns front (leaf ∷ leaves) (chunk ∷ chunks) (stats ∷ others)
one_more_column front leaf chunk stats leaves chunks others one rest = (one.0 ∷ rest.0, (one.1.0, one.1.1, rest.1))

pub at_some : {X : Type 0} {o : Option X} (P : X → Type 0) (x : X) → o ≡ Some x → IfSome o P → P x
at_some {X} {o} P x is holds = let Q : Option X → Type 0 = λ y. IfSome y P in subst Q is holds

pub none_holds : {X : Type 0} (P : Type 0) (o : Option X) → false ≡ is_some o → MatchOption o P (λ _. Unit {0}) → P
none_holds P None e p = p
none_holds P (Some x) e p = absurd (false≢true e)
