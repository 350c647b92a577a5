-- The chunks of some of a group's leaves, one by one.
use Rattle.std.proofs.Common.{◌≡◌, ℕ, zero, suc, ◌+◌, ◌<◌, ◌≤◌, Bool, true, false, Some, List, [], ◌∷◌, ◌++◌, map, length, get_or, drop, refl, sym, ap, subst, ◌∙◌, arith, add-one}
use Rattle.std.specs.Prelude.{slice_get, if◌then◌else◌}
use Rattle.std.proofs.lemmas.List.{at_drop_all}
use Rattle.lists.proofs.Slices.{map_drop_here as reads}
use Rattle.schema.specs.Stripe.{Leaf, Entry}
use Rattle.schema.specs.Cutting.{wanted_of}
use Rattle.metadata.specs.Records.{ColumnMeta, ChunkMeta}
use Rattle.row_group.specs.Chunks.{ColumnMeans, AreChunks}
use Rattle.row_group.specs.inner.Readers.{EachChunk}
use Rattle.row_group.proofs.InOrder.{UpTo, one_done, all_done}

-- ---- a loop over all of them has come to a place

taken : {A : Type 0} (w : ℕ → Bool) (i : ℕ) (x : A) (xs : List A) → w i ≡ true → wanted_of w i (x ∷ xs) ≡ x ∷ wanted_of w (i + 1) xs
taken w i x xs e = rw (e, add-one)

skipped : {A : Type 0} (w : ℕ → Bool) (i : ℕ) (x : A) (xs : List A) → w i ≡ false → wanted_of w i (x ∷ xs) ≡ wanted_of w (i + 1) xs
skipped w i x xs e = rw (e, add-one)

-- what a loop over the places of the program's lists still has to go through
abbrev pub left_at : {A B : Type 0} → (ℕ → Bool) → (A → B) → List A → ℕ → List B
left_at w f xs i = wanted_of w i (map f (drop i xs))

pub wanted_one : {X A B : Type 0} (P : ColumnMeta → Leaf → X → Type 0) (w : ℕ → Bool) (f : A → ChunkMeta) (g : B → Leaf) (xs : List A) (ys : List B) (i : ℕ) (x : A) (y : B)
    (cs : List ChunkMeta) (ls : List Leaf) (done : List X) (z : X) → i < length xs → i < length ys → x ≡ get_or xs i x → y ≡ get_or ys i y → w i ≡ true → P (f x).meta_data (g y) z
    → UpTo P cs ls (left_at w f xs i) (left_at w g ys i) done → UpTo P cs ls (left_at w f xs (i + 1)) (left_at w g ys (i + 1)) (done ++ z ∷ [])
wanted_one P w f g xs ys i x y cs ls done z lx ly ex ey on p so_far =
    let a : left_at w f xs i ≡ f x ∷ left_at w f xs (i + 1) = ap (wanted_of w i) (reads f xs i x lx ex) ∙ taken w i (f x) (map f (drop (i + 1) xs)) on in
    let b : left_at w g ys i ≡ g y ∷ left_at w g ys (i + 1) = ap (wanted_of w i) (reads g ys i y ly ey) ∙ taken w i (g y) (map g (drop (i + 1) ys)) on in
    one_done P cs ls (f x) (g y) (left_at w f xs (i + 1)) (left_at w g ys (i + 1)) done z p
    (subst (λ (t : List Leaf). UpTo P cs ls (f x ∷ left_at w f xs (i + 1)) t done) b (subst (λ (t : List ChunkMeta). UpTo P cs ls t (left_at w g ys i) done) a so_far))

thing_at : {A : Type 0} (xs : List A) (i : ℕ) → i < length xs → (x : A) × (x ≡ get_or xs i x)
thing_at [] i lt = absurd (omega (arith, lt))
thing_at (x ∷ xs) zero lt = (x, refl)
thing_at (x ∷ xs) (suc i) lt = thing_at xs i (omega (arith, lt))

pub not_wanted : {X A B : Type 0} (P : ColumnMeta → Leaf → X → Type 0) (w : ℕ → Bool) (f : A → ChunkMeta) (g : B → Leaf) (xs : List A) (ys : List B) (i : ℕ)
    (cs : List ChunkMeta) (ls : List Leaf) (done : List X) → i < length xs → i < length ys → w i ≡ false
    → UpTo P cs ls (left_at w f xs i) (left_at w g ys i) done → UpTo P cs ls (left_at w f xs (i + 1)) (left_at w g ys (i + 1)) done
not_wanted P w f g xs ys i cs ls done lx ly off so_far =
    let x = thing_at xs i lx in
    let y = thing_at ys i ly in
    let a : left_at w f xs i ≡ left_at w f xs (i + 1) = ap (wanted_of w i) (reads f xs i x.0 lx x.1) ∙ skipped w i (f x.0) (map f (drop (i + 1) xs)) off in
    let b : left_at w g ys i ≡ left_at w g ys (i + 1) = ap (wanted_of w i) (reads g ys i y.0 ly y.1) ∙ skipped w i (g y.0) (map g (drop (i + 1) ys)) off in
    subst (λ (t : List Leaf). UpTo P cs ls (left_at w f xs (i + 1)) t done) b (subst (λ (t : List ChunkMeta). UpTo P cs ls t (left_at w g ys i) done) a so_far)

pub wanted_all : {X A B : Type 0} (P : ColumnMeta → Leaf → X → Type 0) (w : ℕ → Bool) (f : A → ChunkMeta) (g : B → Leaf) (xs : List A) (ys : List B) (i : ℕ) (cs : List ChunkMeta) (ls : List Leaf) (done : List X)
    → length xs ≤ i → length ys ≤ i → UpTo P cs ls (left_at w f xs i) (left_at w g ys i) done → EachChunk P cs ls done
wanted_all {X} {A} {B} P w f g xs ys i cs ls done lx ly so_far =
    all_done P cs ls done
    (subst (λ (t : List Leaf). UpTo P cs ls [] t done) (at_drop_all (λ (t : List B). wanted_of w i (map g t)) ys i ly)
    (subst (λ (t : List ChunkMeta). UpTo P cs ls t (left_at w g ys i) done) (at_drop_all (λ (t : List A). wanted_of w i (map f t)) xs i lx) so_far))

-- ---- what is so of the wanted chunks is so of each of them

first_wanted : {X : Type 0} (P : ColumnMeta → Leaf → X → Type 0) (c : ChunkMeta) (leaf : Leaf) (cs : List ChunkMeta) (ls : List Leaf) (b : Bool) (all : List X)
    → EachChunk P (if b then c ∷ cs else cs) (if b then leaf ∷ ls else ls) all → b ≡ true → (x : X) × P c.meta_data leaf x
first_wanted P c leaf cs ls true [] h e = absurd h
first_wanted P c leaf cs ls true (x ∷ all) h e = (x, h.0)
first_wanted P c leaf cs ls false all h e = cc

others_wanted : {X : Type 0} (P : ColumnMeta → Leaf → X → Type 0) (c : ChunkMeta) (leaf : Leaf) (cs : List ChunkMeta) (ls : List Leaf) (b : Bool) (all : List X)
    → EachChunk P (if b then c ∷ cs else cs) (if b then leaf ∷ ls else ls) all → (rest : List X) × EachChunk P cs ls rest
others_wanted P c leaf cs ls true [] h = absurd h
others_wanted P c leaf cs ls true (x ∷ all) h = (all, h.1)
others_wanted P c leaf cs ls false all h = (all, h)

pub wanted_at : {X : Type 0} (P : ColumnMeta → Leaf → X → Type 0) (w : ℕ → Bool) (cs : List ChunkMeta) (ls : List Leaf) (at k p : ℕ) (c : ChunkMeta) (leaf : Leaf) (all : List X)
    → EachChunk P (wanted_of w at cs) (wanted_of w at ls) all → slice_get cs k ≡ Some c → slice_get ls k ≡ Some leaf → p ≡ at + k → w p ≡ true → (x : X) × P c.meta_data leaf x
wanted_at P w [] ls at k p c leaf all h of_group of_schema e on = cc
wanted_at P w (a ∷ cs) [] at k p c leaf all h of_group of_schema e on = cc
wanted_at {X} P w (a ∷ cs) (b ∷ ls) at zero p c leaf all h of_group of_schema e on =
    let here : p ≡ at = omega (arith, e) in
    let f = first_wanted P a b (wanted_of w (suc at) cs) (wanted_of w (suc at) ls) (w at) all h (ap w (sym here) ∙ on) in
    let chunk : c ≡ a = cc in
    let of : leaf ≡ b = cc in
    (f.0, subst (λ (t : Leaf). P c.meta_data t f.0) (sym of) (subst (λ (t : ChunkMeta). P t.meta_data b f.0) (sym chunk) f.1))
wanted_at P w (a ∷ cs) (b ∷ ls) at (suc k) p c leaf all h of_group of_schema e on =
    let r = others_wanted P a b (wanted_of w (suc at) cs) (wanted_of w (suc at) ls) (w at) all h in
    wanted_at P w cs ls (suc at) k p c leaf r.0 r.1 of_group of_schema (omega (arith, e)) on

pub each_chunk : (front : List ℕ) (cs : List ChunkMeta) (ls : List Leaf) (all : List (List Entry)) → AreChunks front cs ls all → EachChunk (ColumnMeans front) cs ls all
each_chunk front [] [] [] h = tt
each_chunk front [] [] (es ∷ all) h = absurd h
each_chunk front [] (l ∷ ls) all h = absurd h
each_chunk front (c ∷ cs) [] all h = absurd h
each_chunk front (c ∷ cs) (l ∷ ls) [] h = absurd h
each_chunk front (c ∷ cs) (l ∷ ls) (es ∷ all) h = (h.0, each_chunk front cs ls all h.1)

-- ---- the wanted of all chunks hold the wanted of all columns

kept_or_not : (front : List ℕ) (c : ChunkMeta) (leaf : Leaf) (es : List Entry) (cs : List ChunkMeta) (ls : List Leaf) (all : List (List Entry)) (b : Bool) → ColumnMeans front c.meta_data leaf es → AreChunks front cs ls all
    → AreChunks front (if b then c ∷ cs else cs) (if b then leaf ∷ ls else ls) (if b then es ∷ all else all)
kept_or_not front c leaf es cs ls all true h k = (h, k)
kept_or_not front c leaf es cs ls all false h k = k

pub wanted_chunks : (front : List ℕ) (w : ℕ → Bool) (at : ℕ) (cs : List ChunkMeta) (ls : List Leaf) (all : List (List Entry)) → AreChunks front cs ls all
    → AreChunks front (wanted_of w at cs) (wanted_of w at ls) (wanted_of w at all)
wanted_chunks front w at [] [] [] h = tt
wanted_chunks front w at [] [] (es ∷ all) h = absurd h
wanted_chunks front w at [] (l ∷ ls) all h = absurd h
wanted_chunks front w at (c ∷ cs) [] all h = absurd h
wanted_chunks front w at (c ∷ cs) (l ∷ ls) [] h = absurd h
wanted_chunks front w at (c ∷ cs) (l ∷ ls) (es ∷ all) h =
    kept_or_not front c l es (wanted_of w (suc at) cs) (wanted_of w (suc at) ls) (wanted_of w (suc at) all) (w at) h.0 (wanted_chunks front w (suc at) cs ls all h.1)
