-- What was read and accepted is one list of rows.
use Rattle.std.proofs.Common.{◌≡◌, ◌<◌, ℕ, zero, suc, Bool, true, false, List, [], ◌∷◌, length, map, refl, ap, sym, subst, ◌∙◌, arith}
use Rattle.std.specs.Prelude.{cond}
use Rattle.std.specs.List.{AllByRecursion}
use Rattle.std.proofs.lemmas.List.{length-map}
use Rattle.lists.proofs.Slices.{item_there as some_there}
use Rattle.lists.proofs.Lists.{same_first as head_of, same_rest as tail_of}
use Rattle.schema.specs.Law.{ColumnsDetermineRows}
use Rattle.schema.specs.Stripe.{Leaf, Entry, leaves_of}
use Rattle.schema.specs.Values.{ValueTrees}
use Rattle.schema.specs.Views.{row_view}
use Rattle.metadata.specs.Records.{ChunkMeta}
use Rattle.metadata.specs.Views.{chunk_meta_view}
use Rattle.row_group.specs.Chunks.{ChunkMeans}
use Rattle.row_group.specs.Laws.{ChunksHoldOneColumn}
use Rattle.assemble.specs.Columns.{Columns}
use Rattle.scan.specs.declared.held.Held.{Held}
use Rattle.scan.specs.declared.leaf_uses.LeafUse.{LeafUse}
use Rattle.scan.specs.declared.parts.Part.{Part}
use Rattle.scan.specs.declared.parts.Part.TheVariants.{Given, Read}
use Rattle.scan.specs.declared.parts.Run.{Run}
use Rattle.scan.specs.Left.{followed_by, piece_at, joined, selected_by, RunHolds, part_holds, HeldRowsAreOne}
use Rattle.scan.specs.inner.Texts.{IsHeld, AreHeld, texts_view}
use Rattle.scan.specs.inner.Uses.{is_picked, picked}
use Rattle.scan.proofs.Pieces.{joined_more}
use Rattle.scan.proofs.Ranges.{the_chunk}
use Rattle.scan.proofs.RowsMade.{selected_map}

-- ---- lists

all_alike : {A : Type 0} (x : A) (xs ys : List A) → AllByRecursion (λ z. z ≡ x) xs → AllByRecursion (λ z. z ≡ x) ys → length xs ≡ length ys → xs ≡ ys
all_alike x [] [] h k size = refl
all_alike x [] (y ∷ ys) h k size = absurd (omega (arith, size))
all_alike x (z ∷ xs) [] h k size = absurd (omega (arith, size))
all_alike {A} x (z ∷ xs) (y ∷ ys) h k size = ap (λ (w : A). w ∷ xs) (h.0 ∙ sym k.0) ∙ ap (λ (ws : List A). y ∷ ws) (all_alike x xs ys h.1 k.1 (omega (arith, size)))

-- ---- the columns of chunks

one_held : ChunksHoldOneColumn → (cs : List ChunkMeta) (n : ℕ) (leaf : Leaf) (text : List ℕ) (es fs : List Entry) → IsHeld cs n leaf text es → IsHeld cs n leaf text fs → es ≡ fs
one_held one cs n leaf text es fs h k =
    (one h.chunk.meta_data leaf text es fs h.used k.used h.means (subst (λ (d : ChunkMeta). ChunkMeans d.meta_data leaf text fs k.used) (the_chunk cs n h.chunk k.chunk h.there k.there) k.means)).0

all_held : ChunksHoldOneColumn → (b : Bool) (cs : List ChunkMeta) (ls : List Leaf) (us : List LeafUse) (ts ss : List (List ℕ)) (cols ds : Columns) → AreHeld b cs ls us ts ss cols → AreHeld b cs ls us ts ss ds → picked b us cols ≡ picked b us ds
all_held one b cs [] [] [] [] [] [] h k = refl
all_held one b cs [] [] [] [] [] (d ∷ ds) h k = absurd k
all_held one b cs [] [] [] [] (c ∷ cols) ds h k = absurd h
all_held one b cs [] [] [] (s ∷ ss) cols ds h k = absurd h
all_held one b cs [] [] (t ∷ ts) ss cols ds h k = absurd h
all_held one b cs [] (u ∷ us) ts ss cols ds h k = absurd h
all_held one b cs (l ∷ ls) [] ts ss cols ds h k = absurd h
all_held one b cs (l ∷ ls) (u ∷ us) [] ss cols ds h k = absurd h
all_held one b cs (l ∷ ls) (u ∷ us) (t ∷ ts) [] cols ds h k = absurd h
all_held one b cs (l ∷ ls) (u ∷ us) (t ∷ ts) (s ∷ ss) [] ds h k = absurd h
all_held one b cs (l ∷ ls) (u ∷ us) (t ∷ ts) (s ∷ ss) (c ∷ cols) [] h k = absurd k
all_held one b cs (l ∷ ls) (u ∷ us) (t ∷ ts) (s ∷ ss) (c ∷ cols) (d ∷ ds) h k = by (is_picked b u) refl (all_held one b cs ls us ts ss cols ds h.1 k.1)
  where
    by : (p : Bool) → is_picked b u ≡ p → picked b us cols ≡ picked b us ds → cond p (c ∷ picked b us cols) (picked b us cols) ≡ cond p (d ∷ picked b us ds) (picked b us ds)
    by true is rest = ap (λ (x : List Entry). x ∷ picked b us cols) (one_held one cs u.chunk l _ c d (h.0 is) (k.0 is)) ∙ ap (λ (xs : Columns). d ∷ xs) rest
    by false is rest = rest

-- ---- the pieces of parts

one_run : ChunksHoldOneColumn → ColumnsDetermineRows → (h : Held) (run : Run) (ps qs : List ValueTrees) → RunHolds h run ps → RunHolds h run qs → ps ≡ qs
one_run one determine h run ps qs a b =
    determine run.schema ps qs a.schema a.fit b.fit
    (sym a.same ∙ all_held one false (map chunk_meta_view h.chunks.items) (leaves_of h.schema) run.uses.items (texts_view h.first.items) (texts_view h.later.items) a.cols b.cols a.held b.held ∙ b.same)

one_part : ChunksHoldOneColumn → ColumnsDetermineRows → (h : Held) (p : Part) (ps qs : List ValueTrees) → length ps ≡ length qs → part_holds h p ps → part_holds h p qs → ps ≡ qs
one_part one determine h (Given row) ps qs size a b = all_alike (row_view row) ps qs a b size
one_part one determine h (Read run) ps qs size a b = one_run one determine h run ps qs a b

-- ---- rows

joined_same : (n : ℕ) (x y : List ValueTrees) → ((k : ℕ) → k < n → piece_at k x ≡ piece_at k y) → joined n x ≡ joined n y
joined_same zero x y same = refl
joined_same (suc n) x y same =
    joined_more n x
    ∙ ap (λ (vs : ValueTrees). followed_by vs (piece_at n x)) (joined_same n x y (λ k lt. same k (omega (arith, lt))))
    ∙ ap (followed_by (joined n y)) (same n (omega arith))
    ∙ sym (joined_more n y)

each_joined : (n : ℕ) (ps qs : List (List ValueTrees)) → length ps ≡ length qs → ((k : ℕ) → k < n → map (piece_at k) ps ≡ map (piece_at k) qs) → map (joined n) ps ≡ map (joined n) qs
each_joined n [] [] size same = refl
each_joined n [] (b ∷ qs) size same = absurd (omega (arith, size))
each_joined n (a ∷ ps) [] size same = absurd (omega (arith, size))
each_joined n (a ∷ ps) (b ∷ qs) size same =
    ap (λ (vs : ValueTrees). vs ∷ map (joined n) ps) (joined_same n a b (λ k lt. head_of (piece_at k a) (piece_at k b) (map (piece_at k) ps) (map (piece_at k) qs) (same k lt)))
    ∙ ap (λ (xs : List ValueTrees). joined n b ∷ xs) (each_joined n ps qs (omega (arith, size)) (λ k lt. tail_of (piece_at k a) (piece_at k b) (map (piece_at k) ps) (map (piece_at k) qs) (same k lt)))

pub one_list_held : ChunksHoldOneColumn → ColumnsDetermineRows → HeldRowsAreOne
one_list_held one determine g rows other h k =
    let n = length g.parts.items in
    let sizes : length h.pieces ≡ length k.pieces = h.count ∙ sym k.count in
    h.selected ∙ sym (selected_map (joined n) g.marks.items h.pieces)
    ∙ ap (selected_by g.marks.items) (each_joined n h.pieces k.pieces sizes (λ i lt. let there = some_there g.parts.items i lt in
    one_part one determine g.held there.0 (map (piece_at i) h.pieces) (map (piece_at i) k.pieces) (length-map h.pieces (piece_at i) ∙ sizes ∙ sym (length-map k.pieces (piece_at i))) (h.parts i there.0 there.1) (k.parts i there.0 there.1)))
    ∙ selected_map (joined n) g.marks.items k.pieces ∙ sym k.selected
