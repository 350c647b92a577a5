-- Rows that wait fill no group, so that rows that come behind them fill no more groups than they are.
use Rattle.std.proofs.Common.{◌≡◌, ◌≤◌, ◌<◌, ◌+◌, ℕ, suc, Bool, true, false, List, [], ◌∷◌, ◌++◌, map, filter, length, refl, sym, ◌∙◌, ap, subst, arith, append_assoc}
use Rattle.std.specs.Prelude.{nat_lt, if◌then◌else◌}
use Rattle.std.specs.List.{AllByRecursion}
use Rattle.std.proofs.lemmas.Bool.{lt-ltb}
use Rattle.std.proofs.lemmas.List.{append-nil, length-append, length-map}
use Rattle.schema.specs.Shape.{Fields}
use Rattle.schema.specs.Keys.{KeyColumn, key_of_row, row_without_keys}
use Rattle.partition.specs.Folders.{CanPartition}
use Rattle.partition.specs.Order.{is_same_key}
use Rattle.partition.specs.Splitting.{KeyRows, rows_with}
use Rattle.partition.proofs.SameKeys.{key_same, same_key}
use Rattle.gather.specs.Groups.{waiting_after, left_after, filled, filled_by, filled_after, full_groups}
use Rattle.table.specs.Table.{Row, Key, IsRowIn}
use Rattle.table_state.specs.Buffers.{keys_in, IsRising}
use Rattle.table_commits.specs.Filling.{AreBuffers, rows_waiting, IsFew}
use Rattle.table_commits.proofs.KeyOrder.{lt, part_of, part_append, part_all, part_none}
use Rattle.table_commits.proofs.WaitingRows.{from_keys, keyed_rows, none_waits, not_high, same_key_lists}

-- ---- the rows of one key that wait

module _ (schema : Fields) (keys : List KeyColumn) (size : ℕ) (some : 1 ≤ size) where
  abbrev row_key : Row → Key
  row_key = key_of_row keys

  -- they are fewer than a group has
  pub part_few : (k : Key) (ws vs : List KeyRows) → AreBuffers schema keys ws vs → AllByRecursion (IsFew size) vs → IsRising (keys_in vs) → length (part_of row_key k (rows_waiting vs)) < size
  part_few k [] [] z few rising = omega (arith, some)
  part_few k (w ∷ ws) (v ∷ vs) z few rising = by (is_same_key v.key k) refl (part_few k ws vs z.1 few.1 rising.1)
    where
      split : part_of row_key k (rows_waiting (v ∷ vs)) ≡ part_of row_key k v.rows ++ part_of row_key k (rows_waiting vs)
      split = part_append row_key k v.rows (rows_waiting vs)

      by : (b : Bool) → is_same_key v.key k ≡ b → length (part_of row_key k (rows_waiting vs)) < size → length (part_of row_key k (rows_waiting (v ∷ vs))) < size
      by true e later =
          let same : v.key ≡ k = same_key v.key k e in
          let others : AllByRecursion (λ (u : KeyRows). is_same_key u.key k ≡ false) vs
          = subst (λ (j : Key). AllByRecursion (λ (u : KeyRows). is_same_key u.key j ≡ false) vs) same (not_high v.key vs (from_keys (λ (j : Key). lt v.key j ≡ true) vs rising.0)) in
          let none = none_waits schema keys k ws vs z.1 others in
          let mine : part_of row_key k v.rows ≡ v.rows
          = part_all row_key k v.rows (ap (λ (j : Key). is_same_key j k) (sym same) ∙ e) (keyed_rows schema keys k v.rows (subst (λ (j : Key). AllByRecursion (IsRowIn schema keys j) v.rows) same z.0.rows_in)) in
          let all = ap length (split ∙ ap (λ (xs : List Row). xs ++ part_of row_key k (rows_waiting vs)) mine ∙ ap (λ (xs : List Row). v.rows ++ xs) none ∙ append-nil v.rows) in
          let less = few.0.1 in
          omega (arith, all, less)
      by false e later =
          let none = part_none row_key k v.key v.rows e (keyed_rows schema keys v.key v.rows z.0.rows_in) in
          let all = ap length (split ∙ ap (λ (xs : List Row). xs ++ part_of row_key k (rows_waiting vs)) none) in
          omega (arith, all, later)
  part_few k [] (v ∷ vs) z few rising = absurd z
  part_few k (w ∷ ws) [] z few rising = absurd z

-- ---- the groups that rows fill

first_of_key : (key : Row → Key) (k : Key) (row : Row) (rows : List Row) → is_same_key (key row) k ≡ true → part_of key k (row ∷ rows) ≡ row ∷ part_of key k rows
first_of_key key k row rows e = ap (λ (b : Bool). if b then row ∷ part_of key k rows else part_of key k rows) e

left_short : (size : ℕ) (held rows : List Row) → length (left_after size held rows) ≤ length held + length rows
left_short size held [] = omega arith
left_short size held (row ∷ rows) =
    let later = left_short size (waiting_after size held row) rows in
    let one = short (nat_lt (suc (length held)) size) in
    omega (arith, later, one)
  where
    short : (b : Bool) → length (if b then held ++ row ∷ [] else []) ≤ suc (length held)
    short true = let l = length-append held (row ∷ []) in omega (arith, l)
    short false = omega arith

module _ (keys : List KeyColumn) (size : ℕ) where
  abbrev of_key : Key → List Row → List Row
  of_key k rows = part_of (key_of_row keys) k rows

  many_with : (k : Key) (rows : List Row) → length (rows_with keys k rows) ≡ length (of_key k rows)
  many_with k rows = length-map (of_key k rows) (row_without_keys keys)

  -- rows of which each key has fewer than a group has fill none
  none_filled : (before later : List Row) → AllByRecursion (λ (row : Row). CanPartition keys (key_of_row keys row)) later → ((k : Key) → length (of_key k (before ++ later)) < size) → filled_after keys size before later ≡ []
  none_filled before [] can few = refl
  none_filled before (row ∷ later) can few =
      ap (λ (gs : List KeyRows). gs ++ filled_after keys size (before ++ row ∷ []) later) none
      ∙ none_filled (before ++ row ∷ []) later can.1 (λ k. subst (λ (rs : List Row). length (of_key k rs) < size) (sym (append_assoc before (row ∷ []) later)) (few k))
    where
      own : Key
      own = key_of_row keys row

      held : List Row
      held = left_after size [] (rows_with keys own before)

      below : suc (length (left_after size [] (rows_with keys own before))) < size
      below =
          let short = left_short size [] (rows_with keys own before) in
          let many = many_with own before in
          let joined = ap length (part_append (key_of_row keys) own before (row ∷ later)) in
          let sum = length-append (of_key own before) (of_key own (row ∷ later)) in
          let first = ap length (first_of_key (key_of_row keys) own row later (key_same keys own can.0.values)) in
          let less = few own in
          omega (arith, short, many, joined, sum, first, less)

      none : filled_by keys size before row ≡ []
      none = ap (λ (b : Bool). if b then [] else record { key = own; rows = left_after size [] (rows_with keys own before) ++ row_without_keys keys row ∷ [] } ∷ []) (lt-ltb (suc (length (left_after size [] (rows_with keys own before)))) size below)

  one_filled : (before : List Row) (row : Row) → length (filled_by keys size before row) ≤ 1
  one_filled before row = by (nat_lt (suc (length (left_after size [] (rows_with keys (key_of_row keys row) before)))) size)
    where
      by : (b : Bool) → length {A = KeyRows} (if b then [] else record { key = key_of_row keys row; rows = left_after size [] (rows_with keys (key_of_row keys row) before) ++ row_without_keys keys row ∷ [] } ∷ []) ≤ 1
      by true = omega arith
      by false = omega arith

  few_filled : (before rows : List Row) → length (filled_after keys size before rows) ≤ length rows
  few_filled before [] = omega arith
  few_filled before (row ∷ rows) =
      let one = one_filled before row in
      let later = few_filled (before ++ row ∷ []) rows in
      let sum = length-append (filled_by keys size before row) (filled_after keys size (before ++ row ∷ []) rows) in
      omega (arith, one, later, sum)

  filled_split : (before xs ys : List Row) → length (filled_after keys size before (xs ++ ys)) ≤ length (filled_after keys size before xs) + length ys
  filled_split before [] ys = let few = few_filled before ys in omega (arith, few)
  filled_split before (x ∷ xs) ys =
      let later = filled_split (before ++ x ∷ []) xs ys in
      let all = length-append (filled_by keys size before x) (filled_after keys size (before ++ x ∷ []) (xs ++ ys)) in
      let first = length-append (filled_by keys size before x) (filled_after keys size (before ++ x ∷ []) xs) in
      omega (arith, later, all, first)

-- rows that come behind those that wait fill no more groups than they are
pub few_full : (schema : Fields) (keys : List KeyColumn) (size : ℕ) → 1 ≤ size → (ws vs : List KeyRows) → AreBuffers schema keys ws vs → AllByRecursion (IsFew size) vs → IsRising (keys_in vs)
    → AllByRecursion (λ (row : Row). CanPartition keys (key_of_row keys row)) (rows_waiting vs) → (given : List Row) → length (full_groups keys size (rows_waiting vs ++ given)) ≤ length given
few_full schema keys size some ws vs z few rising can given =
    let split = filled_split keys size [] (rows_waiting vs) given in
    let none = ap length (none_filled keys size [] (rows_waiting vs) can (λ k. part_few schema keys size some k ws vs z few rising)) in
    omega (arith, split, none)
