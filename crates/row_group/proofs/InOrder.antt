-- The chunks of a group, one by one.
use Rattle.std.proofs.Common.{◌≡◌, ℕ, zero, suc, ◌+◌, ◌<◌, ◌≤◌, Some, List, [], ◌∷◌, ◌++◌, map, length, get_or, drop, refl, sym, subst, arith, append_assoc}
use Rattle.std.specs.Prelude.{slice_get}
use Rattle.std.proofs.lemmas.List.{append-nil, at_drop_all}
use Rattle.lists.proofs.Slices.{map_drop_here as reads}
use Rattle.schema.specs.Shape.{Fields}
use Rattle.schema.specs.Stripe.{Leaf, Entry, leaves_of}
use Rattle.metadata.specs.Records.{ColumnMeta, ChunkMeta, GroupMeta}
use Rattle.row_group.specs.Chunks.{ColumnMeans, AreChunks}
use Rattle.row_group.specs.Limits.{IsChunkOver, HasColumn, BeginsWith}
use Rattle.row_group.specs.inner.Readers.{EachChunk, AreSound}

-- `done` is so of the chunks before these and their leaves
abbrev pub UpTo : {X : Type 0} → (ColumnMeta → Leaf → X → Type 0) → List ChunkMeta → List Leaf → List ChunkMeta → List Leaf → List X → Type 0
UpTo {X} P cs leaves left rest done = (others : List X) → EachChunk P left rest others → EachChunk P cs leaves (done ++ others)

pub none_done : {X : Type 0} (P : ColumnMeta → Leaf → X → Type 0) (cs : List ChunkMeta) (leaves : List Leaf) → UpTo P cs leaves cs leaves []
none_done P cs leaves others h = h

pub one_done : {X : Type 0} (P : ColumnMeta → Leaf → X → Type 0) (cs : List ChunkMeta) (leaves : List Leaf) (c : ChunkMeta) (leaf : Leaf) (left : List ChunkMeta) (rest : List Leaf) (done : List X) (x : X)
    → P c.meta_data leaf x → UpTo P cs leaves (c ∷ left) (leaf ∷ rest) done → UpTo P cs leaves left rest (done ++ x ∷ [])
one_done P cs leaves c leaf left rest done x p so_far others h = subst (EachChunk P cs leaves) (sym (append_assoc done (x ∷ []) others)) (so_far (x ∷ others) (p, h))

pub all_done : {X : Type 0} (P : ColumnMeta → Leaf → X → Type 0) (cs : List ChunkMeta) (leaves : List Leaf) (done : List X) → UpTo P cs leaves [] [] done → EachChunk P cs leaves done
all_done P cs leaves done so_far = subst (EachChunk P cs leaves) (append-nil done) (so_far [] tt)

-- ---- the same, at a place of the program's lists

pub at_place : {X A B : Type 0} (P : ColumnMeta → Leaf → X → Type 0) (f : A → ChunkMeta) (g : B → Leaf) (xs : List A) (ys : List B) (i : ℕ) (x : A) (y : B) (done : List X)
    → i < length xs → i < length ys → x ≡ get_or xs i x → y ≡ get_or ys i y → UpTo P (map f xs) (map g ys) (map f (drop i xs)) (map g (drop i ys)) done
    → UpTo P (map f xs) (map g ys) (f x ∷ map f (drop (i + 1) xs)) (g y ∷ map g (drop (i + 1) ys)) done
at_place P f g xs ys i x y done lx ly ex ey so_far =
    subst (λ (t : List Leaf). UpTo P (map f xs) (map g ys) (f x ∷ map f (drop (i + 1) xs)) t done) (reads g ys i y ly ey)
    (subst (λ (t : List ChunkMeta). UpTo P (map f xs) (map g ys) t (map g (drop i ys)) done) (reads f xs i x lx ex) so_far)

pub at_end : {X A B : Type 0} (P : ColumnMeta → Leaf → X → Type 0) (f : A → ChunkMeta) (g : B → Leaf) (xs : List A) (ys : List B) (i : ℕ) (done : List X)
    → length xs ≤ i → length ys ≤ i → UpTo P (map f xs) (map g ys) (map f (drop i xs)) (map g (drop i ys)) done → EachChunk P (map f xs) (map g ys) done
at_end {X} {A} {B} P f g xs ys i done lx ly so_far =
    all_done P (map f xs) (map g ys) done
    (subst (λ (t : List Leaf). UpTo P (map f xs) (map g ys) [] t done) (at_drop_all (λ (t : List B). map g t) ys i ly)
    (subst (λ (t : List ChunkMeta). UpTo P (map f xs) (map g ys) t (map g (drop i ys)) done) (at_drop_all (λ (t : List A). map f t) xs i lx) so_far))

-- what is so of all of them is so of the one at a place
pub each_at : {X A B : Type 0} (P : ColumnMeta → Leaf → X → Type 0) (f : A → ChunkMeta) (g : B → Leaf) (xs : List A) (ys : List B) (i : ℕ) (x : A) (y : B) → i < length xs → i < length ys → x ≡ get_or xs i x → y ≡ get_or ys i y
    → (all : List X) → EachChunk P (map f xs) (map g ys) all → (z : X) × P (f x).meta_data (g y) z
each_at P f g [] ys i x y lx ly ex ey all h = absurd (omega (arith, lx))
each_at P f g (a ∷ xs) [] i x y lx ly ex ey all h = absurd (omega (arith, ly))
each_at P f g (a ∷ xs) (b ∷ ys) i x y lx ly ex ey [] h = absurd h
each_at {X} {A} {B} P f g (a ∷ xs) (b ∷ ys) zero x y lx ly ex ey (z ∷ all) h = (z, subst (λ (t : B). P (f x).meta_data (g t) z) (sym ey) (subst (λ (t : A). P (f t).meta_data (g b) z) (sym ex) h.0))
each_at P f g (a ∷ xs) (b ∷ ys) (suc i) x y lx ly ex ey (z ∷ all) h = each_at P f g xs ys i x y (omega (arith, lx)) (omega (arith, ly)) ex ey all h.1

-- ---- the chunks hold columns

-- the chunk at a place holds one of them
pub column_at : {A B : Type 0} (front : List ℕ) (f : A → ChunkMeta) (g : B → Leaf) (xs : List A) (ys : List B) (i : ℕ) (x : A) (y : B) → i < length xs → i < length ys → x ≡ get_or xs i x → y ≡ get_or ys i y
    → (all : List (List Entry)) → AreChunks front (map f xs) (map g ys) all → (es : List Entry) × ColumnMeans front (f x).meta_data (g y) es
column_at front f g [] ys i x y lx ly ex ey all h = absurd (omega (arith, lx))
column_at front f g (a ∷ xs) [] i x y lx ly ex ey all h = absurd (omega (arith, ly))
column_at front f g (a ∷ xs) (b ∷ ys) i x y lx ly ex ey [] h = absurd h
column_at {A} {B} front f g (a ∷ xs) (b ∷ ys) zero x y lx ly ex ey (es ∷ all) h =
    (es, subst (λ (t : B). ColumnMeans front (f x).meta_data (g t) es) (sym ey) (subst (λ (t : A). ColumnMeans front (f t).meta_data (g b) es) (sym ex) h.0))
column_at front f g (a ∷ xs) (b ∷ ys) (suc i) x y lx ly ex ey (es ∷ all) h = column_at front f g xs ys i x y (omega (arith, lx)) (omega (arith, ly)) ex ey all h.1

-- there are as many chunks as leaves
pub as_many : (front : List ℕ) (cs : List ChunkMeta) (leaves : List Leaf) (all : List (List Entry)) → AreChunks front cs leaves all → length cs ≡ length leaves
as_many front [] [] [] h = refl
as_many front [] [] (es ∷ all) h = absurd h
as_many front [] (l ∷ ls) all h = absurd h
as_many front (c ∷ cs) [] all h = absurd h
as_many front (c ∷ cs) (l ∷ ls) [] h = absurd h
as_many front (c ∷ cs) (l ∷ ls) (es ∷ all) h = let e = as_many front cs ls all h.1 in omega (arith, e)

-- sound chunks hold their columns, and none of them is over a limit
pub sound_chunks : (front : List ℕ) (cs : List ChunkMeta) (leaves : List Leaf) (all : List (List Entry)) → AreSound front cs leaves all → AreChunks front cs leaves all
sound_chunks front [] [] [] h = tt
sound_chunks front [] [] (es ∷ all) h = absurd h
sound_chunks front [] (l ∷ ls) all h = absurd h
sound_chunks front (c ∷ cs) [] all h = absurd h
sound_chunks front (c ∷ cs) (l ∷ ls) [] h = absurd h
sound_chunks front (c ∷ cs) (l ∷ ls) (es ∷ all) h = (h.0.0, sound_chunks front cs ls all h.1)

over_nowhere : (front : List ℕ) (cs : List ChunkMeta) (leaves : List Leaf) (all : List (List Entry)) (k : ℕ) (c : ChunkMeta) (leaf : Leaf) → AreSound front cs leaves all → slice_get cs k ≡ Some c → slice_get leaves k ≡ Some leaf
    → BeginsWith front IsChunkOver c.meta_data leaf → ⊥
over_nowhere front [] leaves all k c leaf sound of_group of_schema over = cc
over_nowhere front (x ∷ cs) [] all k c leaf sound of_group of_schema over = cc
over_nowhere front (x ∷ cs) (y ∷ leaves) [] k c leaf sound of_group of_schema over = absurd sound
over_nowhere front (x ∷ cs) (y ∷ leaves) (es ∷ all) zero c leaf sound of_group of_schema over =
    let chunk : c ≡ x = cc in
    let here : leaf ≡ y = cc in
    sound.0.1 (subst (λ (t : Leaf). BeginsWith front IsChunkOver x.meta_data t) here (subst (λ (t : ChunkMeta). BeginsWith front IsChunkOver t.meta_data leaf) chunk over))
over_nowhere front (x ∷ cs) (y ∷ leaves) (es ∷ all) (suc k) c leaf sound of_group of_schema over = over_nowhere front cs leaves all k c leaf sound.1 of_group of_schema over

pub no_column_over : (front : List ℕ) (fs : Fields) (g : GroupMeta) (all : List (List Entry)) → AreSound front g.columns (leaves_of fs) all → HasColumn fs g (BeginsWith front IsChunkOver) → ⊥
no_column_over front fs g all sound h = over_nowhere front g.columns (leaves_of fs) all h.k h.chunk h.leaf sound h.of_group h.of_schema h.is
