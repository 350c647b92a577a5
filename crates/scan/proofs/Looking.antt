-- A filter looks at the values of leaves, one reader after another.
use Rattle.std.proofs.Common.{◌≡◌, ◌≤◌, ◌<◌, ◌+◌, ℕ, zero, suc, Bool, List, [], ◌∷◌, length, get_or, refl, ap, sym, subst, ◌∙◌, arith}
use Rattle.std.specs.List.{AllByRecursion}
use Rattle.std.proofs.Math.ListN.{set}
use Rattle.schema.specs.Values.{ValueTree, ValueTrees, trees_of}
use Rattle.schema.specs.Stripe.{Entry}
use Rattle.assemble.specs.Columns.{Columns}
use Rattle.assemble.specs.Sources.{Precede}
use Rattle.assemble.specs.Standing.{AllStand}
use Rattle.filter.specs.Test.{Test}
use Rattle.filter.specs.Verdicts.{verdicts_of, IsPutAt}
use Rattle.row_group.specs.declared.chunk_reader.ChunkReader.{ChunkReader}
use Rattle.row_group.specs.Left.{chunk_stands}
use Rattle.scan.specs.inner.Cells.{value_in, put_at, put_all, LooksAt}
use Rattle.scan.proofs.CellLaws.{CellLoop, no_cell, cell_more, all_cells}
use Rattle.scan.proofs.LeafCells.{put_elsewhere, put_here, put_size}

within_at : (size : ℕ) (ns : List ℕ) (k n : ℕ) → k < length ns → n ≡ get_or ns k n → AllByRecursion (λ m. m < size) ns → n < size
within_at size [] k n lt is all = absurd (omega (arith, lt))
within_at size (m ∷ ns) zero n lt is all = subst (λ (x : ℕ). x < size) (sym is) all.0
within_at size (m ∷ ns) (suc k) n lt is all = within_at size ns k n (omega (arith, lt)) is all.1

pub put_all_size : (ns : List ℕ) (es : List Entry) (vs : List ValueTree) → length (put_all ns es vs) ≡ length vs
put_all_size [] es vs = refl
put_all_size (n ∷ ns) [] vs = refl
put_all_size (n ∷ ns) (e ∷ es) vs = put_all_size ns es (put_at n (value_in e) vs) ∙ put_size n (value_in e) vs

is_put : (n : ℕ) (v : ValueTree) (vs : List ValueTree) → n < length vs → IsPutAt n v (trees_of vs) (trees_of (put_at n v vs))
is_put n v vs lt = (put_here n v vs lt, λ m ne. put_elsewhere n m v vs ne)

-- the values that the first k readers gave, and what the filter made of them
pub record LookLoop (tests : List (List Test)) (numbers : List ℕ) (k : ℕ) (now : List ChunkReader) (before : List ValueTree) (was verdicts : List (List Bool)) (cs : Columns) : Type 0 where
  pub after : List ValueTree
  pub cells : CellLoop numbers k now before after cs
  pub judged : AllByRecursion (λ n. n < length before) numbers → was ≡ verdicts_of tests (trees_of before) → verdicts ≡ verdicts_of tests (trees_of after)

pub no_look : (tests : List (List Test)) (numbers : List ℕ) (now : List ChunkReader) (before : List ValueTree) (was : List (List Bool)) (cs : Columns) → AllStand chunk_stands now cs → LookLoop tests numbers 0 now before was was cs
no_look tests numbers now before was cs stand = record { after = before; cells = no_cell numbers now before cs stand; judged = λ within same. same }

pub look_more : (tests : List (List Test)) (numbers : List ℕ) (k : ℕ) (now : List ChunkReader) (before : List ValueTree) (was verdicts : List (List Bool)) (cs : Columns) → k < length now → k < length numbers
    → LookLoop tests numbers k now before was verdicts cs → (n : ℕ) → n ≡ get_or numbers k n → (s y : ChunkReader) (e : Entry) → Precede (e ∷ []) (chunk_stands (get_or now k s)) (chunk_stands y)
    → (new : List (List Bool)) → ((b a : ValueTrees) → verdicts ≡ verdicts_of tests b → IsPutAt n (value_in e) b a → new ≡ verdicts_of tests a)
    → LookLoop tests numbers (k + 1) (set now k y) before was new cs
look_more tests numbers k now before was verdicts cs lt few loop n is s y e first new looked =
    let next : List ValueTree = put_at n (value_in e) loop.after in
    record {
      after = next;
      cells = cell_more numbers k now before loop.after cs lt few loop.cells n is s y e first next refl;
      judged = λ within same.
          let size : length loop.after ≡ length before = ap length loop.cells.put ∙ put_all_size _ loop.cells.entries before in
          let here : n < length before = within_at (length before) numbers k n few is within in
          looked (trees_of loop.after) (trees_of next) (loop.judged within same) (is_put n (value_in e) loop.after (omega (arith, size, here)));
    }

pub looked_at : (tests : List (List Test)) (numbers : List ℕ) (k : ℕ) (old now : List ChunkReader) (before : List ValueTree) (was verdicts : List (List Bool)) (cs : Columns) → length cs ≤ k → length numbers ≤ k
    → LookLoop tests numbers k now before was verdicts cs → LooksAt tests numbers old now before was verdicts cs
looked_at tests numbers k old now before was verdicts cs le few loop = record {
  after = loop.after;
  takes = all_cells numbers k old now before loop.after cs le few loop.cells;
  judged = loop.judged;
}
