-- Buffers that hold rows under their keys.
use Rattle.std.proofs.Common.{◌≡◌, ℕ, zero, suc, ◌<◌, ◌≤◌, Bool, false, List, [], ◌∷◌, ◌++◌, length, get_or, set, refl, ap, sym, subst, ◌∙◌, arith, lit<}
use Rattle.std.specs.Prelude.{Contains, if◌then◌else◌}
use Rattle.std.specs.List.{AllByRecursion}
use Rattle.std.proofs.lemmas.List.{append-nil, map_push}
use Rattle.std.proofs.lemmas.Bool.{lt-ltb, le-ltb}
use Rattle.std.proofs.lemmas.List.Elements.{Contains-append_left}
use Rattle.lists.proofs.Lists.{all_weaker_on as all_map}
use Rattle.schema.specs.Shape.{Fields}
use Rattle.schema.specs.Values.{ValueTree, ValueTrees}
use Rattle.schema.specs.Views.{key_view}
use Rattle.schema.specs.Keys.{KeyColumn, key_of_row, row_without_keys}
use Rattle.partition.specs.Folders.{CanPartition}
use Rattle.partition.specs.Order.{is_same_key}
use Rattle.partition.specs.Splitting.{KeyRows, rows_with, HaveKeys}
use Rattle.partition.specs.inner.Parts.{AreDifferent}
use Rattle.partition.proofs.SameKeys.{key_same, other_way}
use Rattle.partition.proofs.WithKeys.{all_push, among}
use Rattle.gather.specs.declared.key_buffer.KeyBuffer.{KeyBuffer}
use Rattle.gather.specs.Groups.{waiting_after, left_after, waiting_rows, full_groups}
use Rattle.gather.specs.Buffers.{keys_of}
use Rattle.gather.specs.KeyBuffers.{HoldsRows, HoldEach, AreWaiting, HoldsGroup, Hold}
use Rattle.gather.proofs.WaitingRows.{waits_other, waits_one, full_more}

abbrev Key : Type 0
Key = List ValueTree

-- ---- one of the buffers

pub long_keys : (bs : List KeyBuffer) → length (keys_of bs) ≡ length bs
long_keys [] = refl
long_keys (b ∷ bs) = ap suc (long_keys bs)

-- its key
pub key_here : (bs : List KeyBuffer) (at : ℕ) (b : KeyBuffer) (k : Key) → at < length bs → b ≡ get_or bs at b → get_or (keys_of bs) at k ≡ k → key_view b.key ≡ k
key_here [] at b k h is e = absurd (omega (arith, h))
key_here (x ∷ bs) zero b k h is e = ap (λ (y : KeyBuffer). key_view y.key) is ∙ e
key_here (x ∷ bs) (suc at) b k h is e = key_here bs at b k (omega (arith, h)) is e

-- the rows that it holds
pub rows_here : (fs : Fields) (held : Key → List ValueTrees) (bs : List KeyBuffer) (at : ℕ) (b : KeyBuffer) → at < length bs → b ≡ get_or bs at b → HoldEach fs held bs → HoldsRows fs (held (key_view b.key)) b
rows_here fs held [] at b h is each = absurd (omega (arith, h))
rows_here fs held (x ∷ bs) zero b h is each = subst (λ (y : KeyBuffer). HoldsRows fs (held (key_view y.key)) y) (sym is) each.0
rows_here fs held (x ∷ bs) (suc at) b h is each = rows_here fs held bs at b (omega (arith, h)) is each.1

-- another buffer of its key in its place
pub keys_set : (bs : List KeyBuffer) (at : ℕ) (old new : KeyBuffer) → old ≡ get_or bs at old → key_view new.key ≡ key_view old.key → keys_of (set bs at new) ≡ keys_of bs
keys_set [] at old new is same = refl
keys_set (b ∷ bs) zero old new is same = ap (λ (k : Key). k ∷ keys_of bs) (same ∙ ap (λ (y : KeyBuffer). key_view y.key) is)
keys_set (b ∷ bs) (suc at) old new is same = ap (λ (ks : List Key). key_view b.key ∷ ks) (keys_set bs at old new is same)

others_held : (fs : Fields) (held more : Key → List ValueTrees) (k : Key) (bs : List KeyBuffer) → ((l : Key) → is_same_key k l ≡ false → more l ≡ held l) → AllByRecursion (λ l. is_same_key k l ≡ false) (keys_of bs)
    → HoldEach fs held bs → HoldEach fs more bs
others_held fs held more k [] same other each = tt
others_held fs held more k (b ∷ bs) same other each =
    (subst (λ (rows : List ValueTrees). HoldsRows fs rows b) (sym (same (key_view b.key) other.0)) each.0, others_held fs held more k bs same other.1 each.1)

set_held : (fs : Fields) (held more : Key → List ValueTrees) (k : Key) (bs : List KeyBuffer) (at : ℕ) (new : KeyBuffer) → ((l : Key) → is_same_key k l ≡ false → more l ≡ held l) → AreDifferent (keys_of bs)
    → at < length bs → get_or (keys_of bs) at k ≡ k → HoldsRows fs (more (key_view new.key)) new → HoldEach fs held bs → HoldEach fs more (set bs at new)
set_held fs held more k [] at new same different h e now each = absurd (omega (arith, h))
set_held fs held more k (b ∷ bs) zero new same different h e now each =
    (now, others_held fs held more k bs same (subst (λ (m : Key). AllByRecursion (λ l. is_same_key m l ≡ false) (keys_of bs)) e different.0) each.1)
set_held fs held more k (b ∷ bs) (suc at) new same different h e now each =
    let long = long_keys bs in
    let apart : is_same_key (key_view b.key) k ≡ false = among (λ l. is_same_key (key_view b.key) l ≡ false) (keys_of bs) k (at, omega (arith, h, long), e) different.0 in (
      subst (λ (rows : List ValueTrees). HoldsRows fs rows b) (sym (same (key_view b.key) (other_way (key_view b.key) k apart))) each.0,
      set_held fs held more k bs at new same different.1 (omega (arith, h)) e now each.1,
    )

-- ---- one more row

-- what waits of another key stays
waits_so : (columns : List KeyColumn) (size : ℕ) (rows : List ValueTrees) (row : ValueTrees) (l : Key) → is_same_key (key_of_row columns row) l ≡ false
    → waiting_rows columns size l (rows ++ row ∷ []) ≡ waiting_rows columns size l rows
waits_so columns size rows row l other = waits_other columns size l rows row other

pub waits_next : (columns : List KeyColumn) (size : ℕ) (fs : Fields) (rows : List ValueTrees) (row : ValueTrees) (bs : List KeyBuffer) (at : ℕ) (old new : KeyBuffer)
    → at < length bs → old ≡ get_or bs at old → get_or (keys_of bs) at (key_of_row columns row) ≡ key_of_row columns row → key_view new.key ≡ key_view old.key
    → HoldsRows fs (waiting_after size (waiting_rows columns size (key_of_row columns row) rows) (row_without_keys columns row)) new
    → AreWaiting columns size fs rows bs → AreWaiting columns size fs (rows ++ row ∷ []) (set bs at new)
waits_next columns size fs rows row bs at old new h is e same now waits =
    let k = key_of_row columns row in
    let long = long_keys bs in
    let keys = sym (keys_set bs at old new is same) in
    let named : key_view new.key ≡ k = same ∙ key_here bs at old k h is e in
    let there : Contains (keys_of bs) k = (at, omega (arith, h, long), e) in
    let can : CanPartition columns k = among (λ l. CanPartition columns l) (keys_of bs) k there waits.can in
    let more = λ (l : Key). waiting_rows columns size l (rows ++ row ∷ []) in
    let here : HoldsRows fs (more (key_view new.key)) new =
    subst (λ (rs : List ValueTrees). HoldsRows fs rs new) (sym (ap more named ∙ waits_one columns size k rows row (key_same columns k can.values))) now in
    record {
      different = subst AreDifferent keys waits.different;
      can = subst (AllByRecursion (λ l. CanPartition columns l)) keys waits.can;
      each = set_held fs (λ l. waiting_rows columns size l rows) more k bs at new (waits_so columns size rows row) waits.different h e here waits.each;
      every = subst (λ (ks : List Key). AllByRecursion (λ r. Contains ks (key_of_row columns r)) (rows ++ row ∷ [])) keys
          (all_push (λ r. Contains (keys_of bs) (key_of_row columns r)) rows row waits.every there);
    }

-- rows that do not fill a group
pub after_short : (size : ℕ) (held : List ValueTrees) (row : ValueTrees) → suc (length held) < size → waiting_after size held row ≡ held ++ row ∷ []
after_short size held row short = ap (λ (b : Bool). if b then held ++ row ∷ [] else []) (lt-ltb (suc (length held)) size short)

pub after_full : (size : ℕ) (held : List ValueTrees) (row : ValueTrees) → size ≤ suc (length held) → waiting_after size held row ≡ []
after_full size held row full = ap (λ (b : Bool). if b then held ++ row ∷ [] else []) (le-ltb (suc (length held)) size full)

pub filled_short : (columns : List KeyColumn) (size : ℕ) (rows : List ValueTrees) (row : ValueTrees) → suc (length (waiting_rows columns size (key_of_row columns row) rows)) < size
    → full_groups columns size (rows ++ row ∷ []) ≡ full_groups columns size rows
filled_short columns size rows row short =
    let held = waiting_rows columns size (key_of_row columns row) rows in
    full_more columns size rows row
    ∙ ap (λ (b : Bool). full_groups columns size rows ++ (if b then [] else record { key = key_of_row columns row; rows = held ++ row_without_keys columns row ∷ [] } ∷ [])) (lt-ltb (suc (length held)) size short)
    ∙ append-nil (full_groups columns size rows)

abbrev group_of : Key → List ValueTrees → KeyRows
group_of k rows = record { key = k; rows = rows }

filled_full : (columns : List KeyColumn) (size : ℕ) (rows : List ValueTrees) (row : ValueTrees) → size ≤ suc (length (waiting_rows columns size (key_of_row columns row) rows))
    → full_groups columns size (rows ++ row ∷ []) ≡ full_groups columns size rows ++ group_of (key_of_row columns row) (waiting_rows columns size (key_of_row columns row) rows ++ row_without_keys columns row ∷ []) ∷ []
filled_full columns size rows row full =
    let held = waiting_rows columns size (key_of_row columns row) rows in
    full_more columns size rows row
    ∙ ap (λ (b : Bool). full_groups columns size rows ++ (if b then [] else group_of (key_of_row columns row) (held ++ row_without_keys columns row ∷ []) ∷ [])) (le-ltb (suc (length held)) size full)

hold_push : (fs : Fields) (bs : List KeyBuffer) (gs : List KeyRows) (b : KeyBuffer) (g : KeyRows) → Hold fs bs gs → HoldsGroup fs b g → Hold fs (bs ++ b ∷ []) (gs ++ g ∷ [])
hold_push fs [] [] b g h one = (one, tt)
hold_push fs [] (x ∷ gs) b g h one = absurd h
hold_push fs (x ∷ bs) [] b g h one = absurd h
hold_push fs (x ∷ bs) (y ∷ gs) b g h one = (h.0, hold_push fs bs gs b g h.1 one)

-- a full group is put aside
pub full_next : (columns : List KeyColumn) (size : ℕ) (fs : Fields) (rows : List ValueTrees) (row : ValueTrees) (full : List KeyBuffer) (aside : KeyBuffer)
    → size ≤ suc (length (waiting_rows columns size (key_of_row columns row) rows)) → key_view aside.key ≡ key_of_row columns row
    → HoldsRows fs (waiting_rows columns size (key_of_row columns row) rows ++ row_without_keys columns row ∷ []) aside
    → Hold fs full (full_groups columns size rows) → Hold fs (full ++ aside ∷ []) (full_groups columns size (rows ++ row ∷ []))
full_next columns size fs rows row full aside large key now held =
    subst (Hold fs (full ++ aside ∷ [])) (sym (filled_full columns size rows row large))
    (hold_push fs full (full_groups columns size rows) aside (group_of (key_of_row columns row) (waiting_rows columns size (key_of_row columns row) rows ++ row_without_keys columns row ∷ [])) held
    (record { key = key; rows = now }))

-- ---- a new key

none_with : (columns : List KeyColumn) (k : Key) (keys : List Key) (rows : List ValueTrees) → AllByRecursion (λ l. is_same_key k l ≡ false) keys → AllByRecursion (λ row. Contains keys (key_of_row columns row)) rows → rows_with columns k rows ≡ []
none_with columns k keys [] other every = refl
none_with columns k keys (row ∷ rows) other every =
    let differs : is_same_key (key_of_row columns row) k ≡ false = other_way k (key_of_row columns row) (among (λ l. is_same_key k l ≡ false) keys (key_of_row columns row) every.0 other) in
    rw differs (none_with columns k keys rows other every.1)

different_push : (keys : List Key) (k : Key) → AreDifferent keys → AllByRecursion (λ l. is_same_key k l ≡ false) keys → AreDifferent (keys ++ k ∷ [])
different_push [] k d other = (tt, tt)
different_push (l ∷ keys) k d other = (all_push (λ m. is_same_key l m ≡ false) keys k d.0 (other_way k l other.0), different_push keys k d.1 other.1)

pub last_key : (keys : List Key) (k : Key) → (length keys < length (keys ++ k ∷ [])) × (get_or (keys ++ k ∷ []) (length keys) k ≡ k)
last_key [] k = (lit< tt, refl)
last_key (l ∷ keys) k = let more = last_key keys k in (omega (arith, more.0), more.1)

pub waits_new : (columns : List KeyColumn) (size : ℕ) (fs : Fields) (rows : List ValueTrees) (bs : List KeyBuffer) (k : Key) (b : KeyBuffer) → CanPartition columns k → AllByRecursion (λ l. is_same_key k l ≡ false) (keys_of bs)
    → key_view b.key ≡ k → HoldsRows fs [] b → AreWaiting columns size fs rows bs → AreWaiting columns size fs rows (bs ++ b ∷ [])
waits_new columns size fs rows bs k b can other named empty waits =
    let keys : keys_of bs ++ k ∷ [] ≡ keys_of (bs ++ b ∷ []) = ap (λ (l : Key). keys_of bs ++ l ∷ []) (sym named) ∙ sym (map_push (λ (x : KeyBuffer). key_view x.key) bs b) in
    let none : waiting_rows columns size (key_view b.key) rows ≡ [] = ap (λ (l : Key). waiting_rows columns size l rows) named ∙ ap (left_after size []) (none_with columns k (keys_of bs) rows other waits.every) in
    record {
      different = subst AreDifferent keys (different_push (keys_of bs) k waits.different other);
      can = subst (AllByRecursion (λ l. CanPartition columns l)) keys (all_push (λ l. CanPartition columns l) (keys_of bs) k waits.can can);
      each = all_push (λ (x : KeyBuffer). HoldsRows fs (waiting_rows columns size (key_view x.key) rows) x) bs b waits.each (subst (λ (rs : List ValueTrees). HoldsRows fs rs b) (sym none) empty);
      every = subst (λ (ks : List Key). AllByRecursion (λ r. Contains ks (key_of_row columns r)) rows) keys
          (all_map (λ r. Contains (keys_of bs) (key_of_row columns r)) (λ r. Contains (keys_of bs ++ k ∷ []) (key_of_row columns r)) rows (λ r c. Contains-append_left (keys_of bs) (k ∷ []) (key_of_row columns r) c) waits.every);
    }

-- each row has a key that can partition
pub have_keys : (columns : List KeyColumn) (size : ℕ) (fs : Fields) (rows : List ValueTrees) (bs : List KeyBuffer) → AreWaiting columns size fs rows bs → HaveKeys columns rows
have_keys columns size fs rows bs waits =
    all_map (λ r. Contains (keys_of bs) (key_of_row columns r)) (λ r. CanPartition columns (key_of_row columns r)) rows (λ r c. among (λ l. CanPartition columns l) (keys_of bs) (key_of_row columns r) c waits.can) waits.every
