-- What is known of the rows that were taken.
use Rattle.std.proofs.Common.{◌≡◌, ℕ, ◌+◌, arith, length-append, true, false, List, [], ◌∷◌, ◌++◌, length, refl, ap, sym, subst, ◌∙◌}
use Rattle.std.specs.Prelude.{Option, Some, None, is_some, option_map, MatchOption}
use Rattle.std.specs.Borrow.{Bor}
use Rattle.std.proofs.lemmas.Bool.{false≢true}
use Rattle.std.proofs.lemmas.List.{append_assoc}
use Rattle.schema.specs.Values.{ValueTree, ValueTrees}
use Rattle.schema.specs.Views.{key_view}
use Rattle.schema.specs.Keys.{KeyColumn, key_of_row}
use Rattle.partition.specs.Folders.{CanPartition}
use Rattle.partition.specs.Splitting.{HaveKeys}
use Rattle.gather.specs.declared.key_buffer.KeyFault.{KeyFault}
use Rattle.gather.specs.declared.key_buffers.KeyBuffers.{KeyBuffers}
use Rattle.gather.specs.KeyBuffers.{IsFirstFault, AreSplit, AreSplitOr}

-- the first fault stays the first
pub fault_stays : (columns : List KeyColumn) (rows : List ValueTrees) (number : ℕ) (key : List ValueTree) (row : ValueTrees) → IsFirstFault columns rows number key → IsFirstFault columns (rows ++ row ∷ []) number key
fault_stays columns rows number key row f = record {
  before = f.before;
  row = f.row;
  after = f.after ++ row ∷ [];
  are = ap (λ (rs : List ValueTrees). rs ++ row ∷ []) f.are ∙ append_assoc f.before (f.row ∷ f.after) (row ∷ []);
  place = f.place;
  keyed = f.keyed;
  cannot = f.cannot;
  fine = f.fine;
}

-- the last row is the first fault
pub fault_comes : (columns : List KeyColumn) (rows : List ValueTrees) (number : ℕ) (key : List ValueTree) (row : ValueTrees) → number ≡ length rows → key ≡ key_of_row columns row → (CanPartition columns (key_of_row columns row) → ⊥) → HaveKeys columns rows
    → IsFirstFault columns (rows ++ row ∷ []) number key
fault_comes columns rows number key row place keyed cannot fine = record { before = rows; row = row; after = []; are = refl; place = place; keyed = keyed; cannot = cannot; fine = fine }

have_not : (columns : List KeyColumn) (before after : List ValueTrees) (row : ValueTrees) → (CanPartition columns (key_of_row columns row) → ⊥) → HaveKeys columns (before ++ row ∷ after) → ⊥
have_not columns [] after row cannot have = cannot have.0
have_not columns (r ∷ before) after row cannot have = have_not columns before after row cannot have.1

-- where there is a fault, not each row has a key that can partition
pub fault_is : (columns : List KeyColumn) (rows : List ValueTrees) (number : ℕ) (key : List ValueTree) → IsFirstFault columns rows number key → HaveKeys columns rows → ⊥
fault_is columns rows number key f have = have_not columns f.before f.after f.row f.cannot (subst (HaveKeys columns) f.are have)

-- what is known of the rows rests on what waits and on the full groups alone
pub split_same : (columns : List KeyColumn) (old new : KeyBuffers) (rows : List ValueTrees) (f : Option KeyFault) → new.stored ≡ old.stored → new.size ≡ old.size → new.full ≡ old.full → new.waiting ≡ old.waiting → new.places ≡ old.places
    → AreSplitOr columns old rows f → AreSplitOr columns new rows f
split_same columns old new rows None stored size full waiting places split = record {
  full = rw (stored, size, full) split.full;
  waiting = rw (stored, size, waiting) split.waiting;
  places = rw (places, waiting) split.places;
}
split_same columns old new rows (Some x) stored size full waiting places fault = fault

-- one row more after a fault
pub fault_more : (columns : List KeyColumn) (old new : KeyBuffers) (rows : List ValueTrees) (row : ValueTrees) (f : Option KeyFault) → is_some f ≡ true → AreSplitOr columns old rows f → AreSplitOr columns new (rows ++ row ∷ []) f
fault_more columns old new rows row None e split = absurd (false≢true e)
fault_more columns old new rows row (Some x) e fault = fault_stays columns rows x.row (key_view x.key) row fault

-- whether there is a fault, where it is read
pub fault_read : (columns : List KeyColumn) (k : KeyBuffers) (rows : List ValueTrees) (f : Option KeyFault) (r : Option (Bor KeyFault)) → option_map (λ (x : Bor KeyFault). x.now) r ≡ f → (AreSplit columns k rows → HaveKeys columns rows) → AreSplitOr columns k rows f
    → MatchOption r (HaveKeys columns rows) (λ (x : Bor KeyFault). IsFirstFault columns rows x.now.row (key_view x.now.key))
fault_read columns k rows None None e have split = have split
fault_read columns k rows (Some x) None e have split = cc
fault_read columns k rows None (Some y) e have split = cc
fault_read columns k rows (Some x) (Some y) e have split =
    let same : y.now ≡ x = cc in
    subst (λ (z : KeyFault). IsFirstFault columns rows z.row (key_view z.key)) (sym same) split

-- one row more is counted
pub counted_more : (rows : List ValueTrees) (row : ValueTrees) (count next : ℕ) → count ≡ length rows → next ≡ count + 1 → next ≡ length (rows ++ row ∷ [])
counted_more rows row count next counted more = omega (arith, counted, more, length-append rows (row ∷ []))

-- where there is no fault, all rows are split
pub no_fault : (columns : List KeyColumn) (k : KeyBuffers) (rows : List ValueTrees) (f : Option KeyFault) → f ≡ None → AreSplitOr columns k rows f → AreSplit columns k rows
no_fault columns k rows None e split = split
no_fault columns k rows (Some x) e split = cc

pub split_or : (columns : List KeyColumn) (k : KeyBuffers) (rows : List ValueTrees) (f : Option KeyFault) → f ≡ None → AreSplit columns k rows → AreSplitOr columns k rows f
split_or columns k rows f e split = rw e split

-- where a fault is known, not each row has a key that can partition
pub fault_not : (columns : List KeyColumn) (k : KeyBuffers) (rows : List ValueTrees) (f : Option KeyFault) → is_some f ≡ true → AreSplitOr columns k rows f → HaveKeys columns rows → ⊥
fault_not columns k rows None e split have = false≢true e
fault_not columns k rows (Some x) e fault have = fault_is columns rows x.row (key_view x.key) fault have

-- where none is known, all rows are split
pub split_when : (columns : List KeyColumn) (k : KeyBuffers) (rows : List ValueTrees) (f : Option KeyFault) → is_some f ≡ false → AreSplitOr columns k rows f → AreSplit columns k rows
split_when columns k rows None e split = split
split_when columns k rows (Some x) e fault = absurd (false≢true (sym e))
