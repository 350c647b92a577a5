-- Chunks that are written one after the other.
use Rattle.std.proofs.Common.{◌≡◌, ℕ, zero, suc, ◌+◌, ◌<◌, ◌≤◌, List, [], ◌∷◌, ◌++◌, map, length, get_or, take, Some, refl, sym, ap, subst, ◌∙◌, arith}
use Rattle.std.specs.Prelude.{pos, ◌<ℤ◌}
use Rattle.std.specs.List.{AllByRecursion}
use Rattle.std.proofs.lemmas.List.{take_more, length-append}
use Rattle.lists.proofs.Lists.{all_append as all_joined}
use Rattle.schema.specs.Values.{ValueTrees}
use Rattle.schema.specs.Shape.{Fields}
use Rattle.schema.specs.Fits.{RowsFit}
use Rattle.schema.specs.Stripe.{Leaf, Entry, column, columns, leaves_of}
use Rattle.schema.specs.Law.{IsEntryOf, EntriesAreOfLeaves, RowsBeginOnce}
use Rattle.metadata.specs.Records.{ChunkMeta, GroupMeta}
use Rattle.pages.specs.Writing.{AreShort}
use Rattle.row_group.specs.Greatest.{most_entries, most_rows}
use Rattle.row_group.specs.declared.options.ChunkOptions.{ChunkOptions}
use Rattle.row_group.specs.Paged.{parts_of, chunk_weight, columns_weight}
use Rattle.row_group.specs.Writing as group_limit
use Rattle.row_group.specs.Writing.{IsOwnChunk, AppendsChunk, AppendsGroup, IsChunkTooMuch, IsGroupTooMuch}
use Rattle.row_group.specs.inner.Columns.{AreColumnsOf, HasRows, AppendsChunks, AreTooMuch}
use Rattle.row_group.proofs.Laid.{each_short, each_more, each_joined}
use Rattle.row_group.proofs.PageCounts.{few_pages, columns_have_rows}

-- ---- columns and leaves

pub as_many : (leaves : List Leaf) (cols : List (List Entry)) → AreColumnsOf leaves cols → length leaves ≡ length cols
as_many [] [] h = refl
as_many [] (es ∷ cols) h = absurd h
as_many (leaf ∷ leaves) [] h = absurd h
as_many (leaf ∷ leaves) (es ∷ cols) h = ap suc (as_many leaves cols h.1)

pub column_of_leaf : (leaves : List Leaf) (cols : List (List Entry)) → AreColumnsOf leaves cols → (i : ℕ) (leaf : Leaf) (es : List Entry) → i < length leaves → leaf ≡ get_or leaves i leaf → es ≡ get_or cols i es
    → AllByRecursion (IsEntryOf leaf) es
column_of_leaf [] cols h i leaf es lt e f = absurd (omega (arith, lt))
column_of_leaf (l ∷ leaves) [] h i leaf es lt e f = absurd h
column_of_leaf (l ∷ leaves) (c ∷ cols) h zero leaf es lt e f = subst (λ (x : Leaf). AllByRecursion (IsEntryOf x) es) (sym e) (subst (AllByRecursion (IsEntryOf l)) (sym f) h.0)
column_of_leaf (l ∷ leaves) (c ∷ cols) h (suc i) leaf es lt e f = column_of_leaf leaves cols h.1 i leaf es (omega (arith, lt)) e f

of_leaves : (rows : List ValueTrees) (ls : List Leaf) → AllByRecursion (λ l. AllByRecursion (IsEntryOf l) (column rows l.steps)) ls → AreColumnsOf ls (map (λ (l : Leaf). column rows l.steps) ls)
of_leaves rows [] h = tt
of_leaves rows (l ∷ ls) h = (h.0, of_leaves rows ls h.1)

pub columns_of_leaves : EntriesAreOfLeaves → (fs : Fields) (rows : List ValueTrees) → RowsFit fs rows → AreColumnsOf (leaves_of fs) (columns fs rows)
columns_of_leaves law fs rows fit = of_leaves rows (leaves_of fs) (law fs rows fit)

-- ---- one chunk more

all_more : (P : List Entry → Type 0) (cols : List (List Entry)) (i : ℕ) (es : List Entry) → take (i + 1) cols ≡ take i cols ++ es ∷ [] → AllByRecursion P (take i cols) → P es → AllByRecursion P (take (i + 1) cols)
all_more P cols i es e h p = subst (AllByRecursion P) (sym e) (all_joined P (take i cols) (es ∷ []) h (p, tt))

pub chunk_more : (o : ChunkOptions) (leaves : List Leaf) (cols : List (List Entry)) (i : ℕ) (leaf : Leaf) (es : List Entry) (old mid new : List ℕ) (cs : List ChunkMeta) (c : ChunkMeta)
    → i < length leaves → i < length cols → leaf ≡ get_or leaves i leaf → es ≡ get_or cols i es → IsOwnChunk c → AreShort es → (most_entries <ℤ pos (length es) → ⊥)
    → AppendsChunk leaf o mid new c.meta_data es → AppendsChunks o (take i leaves) (take i cols) old mid cs → AppendsChunks o (take (i + 1) leaves) (take (i + 1) cols) old new (cs ++ c ∷ [])
chunk_more o leaves cols i leaf es old mid new cs c lt lc e f own short few p q =
    let more : take (i + 1) leaves ≡ take i leaves ++ leaf ∷ [] = take_more leaves i leaf lt ∙ ap (λ (l : Leaf). take i leaves ++ l ∷ []) (sym e) in
    let further : take (i + 1) cols ≡ take i cols ++ es ∷ [] = take_more cols i es lc ∙ ap (λ (x : List Entry). take i cols ++ x ∷ []) (sym f) in
    record {
      each = rw more (rw further (each_more o (take i leaves) (take i cols) old mid new cs leaf es c q.each p own));
      few = all_more (λ es. most_entries <ℤ pos (length es) → ⊥) cols i es further q.few few;
      values_short = all_more AreShort cols i es further q.values_short short;
    }

-- ---- why a chunk is too much is why the columns are

all_taken : {A : Type 0} (P : A → Type 0) (xs : List A) (i : ℕ) → AllByRecursion P xs → AllByRecursion P (take i xs)
all_taken P [] zero h = tt
all_taken P [] (suc i) h = tt
all_taken P (x ∷ xs) zero h = tt
all_taken P (x ∷ xs) (suc i) h = (h.0, all_taken P xs i h.1)

at_index : {A : Type 0} (P : A → Type 0) (xs : List A) (i : ℕ) (x : A) → i < length xs → x ≡ get_or xs i x → AllByRecursion P xs → P x
at_index P [] i x lt e h = absurd (omega (arith, lt))
at_index P (y ∷ xs) zero x lt e h = subst P (sym e) h.0
at_index P (y ∷ xs) (suc i) x lt e h = at_index P xs i x (omega (arith, lt)) e h.1

columns_before : (o : ChunkOptions) (n : ℕ) (leaves : List Leaf) (cols : List (List Entry)) (i : ℕ) (leaf : Leaf) (es : List Entry) → i < length leaves → i < length cols → leaf ≡ get_or leaves i leaf → es ≡ get_or cols i es
    → columns_weight o n (take i leaves) (take i cols) + chunk_weight o.style leaf.leaf_type.kind (parts_of n o.page_rows) es ≤ columns_weight o n leaves cols
columns_before o n [] cols i leaf es lt lc e f = absurd (omega (arith, lt))
columns_before o n (l ∷ leaves) [] i leaf es lt lc e f = absurd (omega (arith, lc))
columns_before o n (l ∷ leaves) (c ∷ cols) zero leaf es lt lc e f =
    let weight = λ (x : Leaf) (t : List Entry). chunk_weight o.style x.leaf_type.kind (parts_of n o.page_rows) t in
    let same : chunk_weight o.style leaf.leaf_type.kind (parts_of n o.page_rows) es ≡ chunk_weight o.style l.leaf_type.kind (parts_of n o.page_rows) c
    = ap (λ (x : Leaf). weight x es) e ∙ ap (λ (t : List Entry). weight l t) f in
    omega (arith, same)
columns_before o n (l ∷ leaves) (c ∷ cols) (suc i) leaf es lt lc e f =
    let rest = columns_before o n leaves cols i leaf es (omega (arith, lt)) (omega (arith, lc)) e f in
    omega (arith, rest)

pub too_much : (o : ChunkOptions) (leaves : List Leaf) (cols : List (List Entry)) (i : ℕ) (leaf : Leaf) (es : List Entry) (old mid : List ℕ) (cs : List ChunkMeta) → i < length leaves → i < length cols
    → leaf ≡ get_or leaves i leaf → es ≡ get_or cols i es → AppendsChunks o (take i leaves) (take i cols) old mid cs → IsChunkTooMuch leaf o (length mid) es → AreTooMuch o leaves (length old) cols
too_much o leaves cols i leaf es old mid cs lt lc e f so_far (IsChunkTooMuch.empty_pages h) = AreTooMuch.empty_pages h
too_much o leaves cols i leaf es old mid cs lt lc e f so_far (IsChunkTooMuch.many_entries h) = AreTooMuch.many_entries (i, es, lc, sym f, h)
too_much o leaves cols i leaf es old mid cs lt lc e f so_far (IsChunkTooMuch.long_value h) = AreTooMuch.long_value (i, es, lc, sym f, h)
too_much o leaves cols i leaf es old mid cs lt lc e f so_far (IsChunkTooMuch.heavy parts paged over) =
    AreTooMuch.heavy (λ n h.
    let w = columns_before o n leaves cols i leaf es lt lc e f in
    let s = each_short o n (take i leaves) (take i cols) old mid cs (all_taken (HasRows n) cols i h) so_far.each in
    let pages = few_pages o.page_rows n es parts (at_index (HasRows n) cols i es lc f h) paged in
    omega (arith, w, s, pages, over))

-- ---- the group

pub group_written : RowsBeginOnce → (fs : Fields) (o : ChunkOptions) (rows : List ValueTrees) (old new : List ℕ) (g : GroupMeta) (size : ℕ) → RowsFit fs rows → size + length old ≡ length new
    → g.num_rows ≡ pos (length rows) → (most_rows <ℤ pos (length rows) → ⊥) → g.total_byte_size ≡ Some (pos size) → AppendsChunks o (leaves_of fs) (columns fs rows) old new g.columns → AppendsGroup fs o old new g rows
group_written law fs o rows old new g size fit filled count few says p =
    let whole = each_joined o (leaves_of fs) (columns fs rows) old new g.columns p.each in
    let both : length new ≡ length old + length whole.0 = ap length whole.1 ∙ length-append old whole.0 in
    let same : size ≡ length whole.0 = omega (arith, filled, both) in
    let light = each_short o (length rows) (leaves_of fs) (columns fs rows) old new g.columns (columns_have_rows law fs rows fit) p.each in
    record {
      text = whole.0;
      joined = whole.1;
      count = count;
      few = few;
      fit = fit;
      chunks = p.each;
      size = says ∙ ap (λ (n : ℕ). Some (pos n)) same;
      short = omega (arith, light, both);
    }

pub group_too_much : RowsBeginOnce → (fs : Fields) (o : ChunkOptions) (before : ℕ) (rows : List ValueTrees) → RowsFit fs rows → AreTooMuch o (leaves_of fs) before (columns fs rows) → IsGroupTooMuch fs o before rows
group_too_much law fs o before rows fit (AreTooMuch.empty_pages h) = group_limit.empty_pages h
group_too_much law fs o before rows fit (AreTooMuch.many_entries h) = group_limit.many_entries h
group_too_much law fs o before rows fit (AreTooMuch.long_value h) = group_limit.long_value h
group_too_much law fs o before rows fit (AreTooMuch.heavy h) = group_limit.heavy (h (length rows) (columns_have_rows law fs rows fit))
