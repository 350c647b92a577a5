-- The full groups of rows, and the rest of each key: which is longer, and where the one ends and the other begins.
use Rattle.std.proofs.Common.{◌≡◌, ◌≤◌, ◌<◌, ℕ, zero, suc, Bool, true, false, List, [], ◌∷◌, ◌++◌, length, take, drop, get_or, refl, sym, ap, subst, arith, ◌⊎◌, inl, inr, ⊎_elim}
use Rattle.std.specs.Prelude.{nat_lt, if◌then◌else◌}
use Rattle.std.specs.List.{AllByRecursion}
use Rattle.std.proofs.lemmas.Bool.{ltb-true, ltb-false}
use Rattle.std.proofs.lemmas.List.{length-append}
use Rattle.lists.proofs.Lists.{all_append}
use Rattle.schema.specs.Shape.{Fields}
use Rattle.schema.specs.Values.{ValueTrees}
use Rattle.schema.specs.Keys.{KeyColumn, key_of_row, row_without_keys}
use Rattle.shred.specs.Buffer.{holds}
use Rattle.partition.specs.Folders.{CanPartition}
use Rattle.partition.specs.Splitting.{KeyRows, rows_with}
use Rattle.gather.specs.declared.key_buffer.KeyBuffer.{KeyBuffer}
use Rattle.gather.specs.Groups.{waiting_after, left_after, waiting_rows, filled, filled_by, filled_after}
use Rattle.gather.specs.KeyBuffers.{Hold}
use Rattle.table_commits.proofs.OneRowMore.{one_longer}
use Rattle.table_jobs.specs.Rests.{IsAsLong, IsShorter}

-- ---- full groups have as many rows as a group

filled_long : (size : ℕ) (key : List _) (held : List ValueTrees) (row : ValueTrees) → AllByRecursion (IsAsLong size) (filled size key held row)
filled_long size key held row = by (nat_lt (suc (length held)) size) refl
  where
    by : (b : Bool) → nat_lt (suc (length held)) size ≡ b → AllByRecursion (IsAsLong size) (if b then [] else record { key = key; rows = held ++ row ∷ [] } ∷ [])
    by true e = tt
    by false e = (let full = ltb-false (suc (length held)) size e in let long = one_longer held row in omega (arith, full, long), tt)

pub full_long : (columns : List KeyColumn) (size : ℕ) (before rows : List ValueTrees) → AllByRecursion (IsAsLong size) (filled_after columns size before rows)
full_long columns size before [] = tt
full_long columns size before (row ∷ rows) =
    all_append (IsAsLong size) (filled_by columns size before row) (filled_after columns size (before ++ row ∷ []) rows)
    (filled_long size (key_of_row columns row) (waiting_rows columns size (key_of_row columns row) before) (row_without_keys columns row)) (full_long columns size (before ++ row ∷ []) rows)

-- ---- and the rest of a key has fewer

left_shorter : (size : ℕ) → 1 ≤ size → (held rows : List ValueTrees) → length held < size → length (left_after size held rows) < size
left_shorter size some held [] less = less
left_shorter size some held (row ∷ rows) less = left_shorter size some (waiting_after size held row) rows (by (nat_lt (suc (length held)) size) refl)
  where
    by : (b : Bool) → nat_lt (suc (length held)) size ≡ b → length (if b then held ++ row ∷ [] else []) < size
    by true e = let few = ltb-true (suc (length held)) size e in let long = one_longer held row in omega (arith, few, long)
    by false e = omega (arith, some)

pub rests_shorter : (columns : List KeyColumn) (size : ℕ) (rows : List ValueTrees) (rests : List KeyRows) → 1 ≤ size
    → AllByRecursion (λ (p : KeyRows). CanPartition columns p.key × (p.rows ≡ waiting_rows columns size p.key rows) × (p.rows ≡ [] → ⊥)) rests → AllByRecursion (IsShorter size) rests
rests_shorter columns size rows [] some each = tt
rests_shorter columns size rows (p ∷ rests) some each =
    (let long = ap (λ (rs : List ValueTrees). length rs) each.0.1 in let less = left_shorter size some [] (rows_with columns p.key rows) (omega (arith, some)) in omega (arith, long, less), rests_shorter columns size rows rests some each.1)

-- ---- where the rest begins

-- a group before the rest has as many rows as a group, and any other has fewer
abbrev pub IsPlaced : ℕ → List KeyRows → ℕ → ℕ → Type 0
IsPlaced size full i n = ((i < length full) × (size ≤ n)) ⊎ ((length full ≤ i) × (n < size))

pub placed : (fs : Fields) (size : ℕ) (bs : List KeyBuffer) (full rests : List KeyRows) → Hold fs bs (full ++ rests) → AllByRecursion (IsAsLong size) full → AllByRecursion (IsShorter size) rests
    → (i : ℕ) (b : KeyBuffer) → i < length bs → b ≡ get_or bs i b → (n : ℕ) → ((rows : List ValueTrees) → holds b.rows rows → n ≡ length rows) → IsPlaced size full i n
placed fs size [] full rests held long short i b h is n counted = absurd (omega (arith, h))
placed fs size (x ∷ bs) [] [] held long short i b h is n counted = absurd held
placed fs size (x ∷ bs) [] (g ∷ rests) held long short zero b h is n counted =
    let many = counted g.rows (subst (λ (y : KeyBuffer). holds y.rows g.rows) (sym is) held.0.rows.held) in
    let less = short.0 in
    inr (omega arith, omega (arith, many, less))
placed fs size (x ∷ bs) [] (g ∷ rests) held long short (suc i) b h is n counted =
    ⊎_elim (λ p. let none = p.0 in absurd (omega (arith, none))) (λ p. inr (omega arith, p.1)) (placed fs size bs [] rests held.1 tt short.1 i b (omega (arith, h)) is n counted)
placed fs size (x ∷ bs) (g ∷ full) rests held long short zero b h is n counted =
    let many = counted g.rows (subst (λ (y : KeyBuffer). holds y.rows g.rows) (sym is) held.0.rows.held) in
    let more = long.0 in
    inl (omega arith, omega (arith, many, more))
placed fs size (x ∷ bs) (g ∷ full) rests held long short (suc i) b h is n counted =
    ⊎_elim (λ p. inl (let below = p.0 in omega (arith, below), p.1)) (λ p. inr (let above = p.0 in omega (arith, above), p.1)) (placed fs size bs full rests held.1 long.1 short i b (omega (arith, h)) is n counted)

-- the buffers of the first groups, and those of the others
pub held_first : (fs : Fields) (bs : List KeyBuffer) (xs ys : List KeyRows) → Hold fs bs (xs ++ ys) → Hold fs (take (length xs) bs) xs
held_first fs bs [] ys held = tt
held_first fs [] (x ∷ xs) ys held = absurd held
held_first fs (b ∷ bs) (x ∷ xs) ys held = (held.0, held_first fs bs xs ys held.1)

pub held_others : (fs : Fields) (bs : List KeyBuffer) (xs ys : List KeyRows) → Hold fs bs (xs ++ ys) → Hold fs (drop (length xs) bs) ys
held_others fs bs [] ys held = held
held_others fs [] (x ∷ xs) ys held = absurd held
held_others fs (b ∷ bs) (x ∷ xs) ys held = held_others fs bs xs ys held.1
