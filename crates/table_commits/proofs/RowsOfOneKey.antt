-- The rows of one key among those that wait, and that they are a part of its rows.
use Rattle.std.proofs.Common.{◌≡◌, ◌≢◌, ◌≤◌, ◌+◌, ◌*◌, ℕ, true, List, [], ◌∷◌, ◌++◌, length, take, drop, sym, ◌∙◌, ap, arith}
use Rattle.std.specs.List.{AllByRecursion}
use Rattle.std.proofs.lemmas.List.{append-nil}
use Rattle.lists.proofs.Lists.{all_left as front_of_all, all_right as rest_of_all}
use Rattle.schema.specs.Keys.{key_of_row}
use Rattle.partition.specs.Splitting.{KeyRows}
use Rattle.partition.proofs.SameKeys.{key_same}
use Rattle.table.specs.Table.{Row, Key, Group, rows, IsGroupIn}
use Rattle.table.specs.InOrder.{in_order}
use Rattle.table.specs.State.{State}
use Rattle.table.specs.Limits.{IsNewGroup}
use Rattle.table_state.specs.Buffers.{keys_in, IsRising, AreLow, AreHigh, buffer}
use Rattle.table_commits.specs.Filling.{IsBuffer, AreBuffers, rows_waiting, IsFew, HasSize}
use Rattle.table_commits.proofs.KeyOrder.{lt, part_of, part_append, part_all, sorted_part}
use Rattle.table_commits.proofs.GroupsByKey.{groups_keyed, full_part, no_part, last_part}
use Rattle.table_commits.proofs.WaitingRows.{rows_append, keyed_rows, none_waits, not_low, not_high}

-- ---- the rows of one key among those that wait

-- These rows of a key wait between those of lower and of higher keys, behind the rows that are written.
pub record IsLoaded (s : State) (count : ℕ) (written : List Row) (k : Key) (before : List KeyRows) (held : List Row) (after : List KeyRows) (given : List Row) : Type 0 where
  pub lows : List KeyRows
  pub mine : List Row
  pub highs : List KeyRows
  pub low_are : AreBuffers s.table.schema s.table.keys before lows
  pub mine_are : IsBuffer s.table.schema s.table.keys (buffer k held) (buffer k mine)
  pub high_are : AreBuffers s.table.schema s.table.keys after highs
  pub below : AreLow k lows
  pub above : AreHigh k highs
  pub rising : IsRising (keys_in (lows ++ highs))
  pub few_low : AllByRecursion (IsFew s.options.group_rows) lows
  pub few_high : AllByRecursion (IsFew s.options.group_rows) highs
  pub some : 1 ≤ length mine
  pub most : length mine ≤ s.options.group_rows
  pub all : in_order (key_of_row s.table.keys) (written ++ (rows_waiting lows ++ (mine ++ rows_waiting highs))) ≡ in_order (key_of_row s.table.keys) given
  pub room : count + (length (rows_waiting lows) + (length mine + length (rows_waiting highs))) ≤ s.next_group + length given

pub some_rows : (xs : List Row) → 1 ≤ length xs → xs ≢ []
some_rows [] h e = omega (arith, h)
some_rows (x ∷ xs) h e = cc

-- they are the last part of their key's rows, where what is written of their key is full groups
pub new_group_of : (s : State) (count : ℕ) (fulls rests : List Group) (k : Key) (before : List KeyRows) (held : List Row) (after : List KeyRows) (given : List Row)
    → (l : IsLoaded s count (rows (fulls ++ rests)) k before held after given) → AllByRecursion (IsGroupIn s.table.schema s.table.keys) (fulls ++ rests) → AllByRecursion (HasSize s.options.group_rows) fulls
    → AllByRecursion (λ (g : Group). lt g.key k ≡ true) rests → IsNewGroup s given l.mine
new_group_of s count fulls rests k before held after given l each full others =
    let keys = s.table.keys in
    let size = s.options.group_rows in
    let key = key_of_row keys in
    let each_full = front_of_all (IsGroupIn s.table.schema keys) fulls rests each in
    let each_rest = rest_of_all (IsGroupIn s.table.schema keys) fulls rests each in
    let done = full_part keys size k fulls (groups_keyed keys s.table.schema fulls each_full) full in
    let same = key_same keys k l.mine_are.can.values in
    let here = part_all key k l.mine same (keyed_rows s.table.schema keys k l.mine l.mine_are.rows_in) in
    let low = none_waits s.table.schema keys k before l.lows l.low_are (not_low k l.lows l.below) in
    let high = none_waits s.table.schema keys k after l.highs l.high_are (not_high k l.highs l.above) in
    let none = no_part keys k rests (groups_keyed keys s.table.schema rests each_rest) others in
    let tail : part_of key k (rows_waiting l.lows ++ (l.mine ++ rows_waiting l.highs)) ≡ l.mine
    = part_append key k (rows_waiting l.lows) (l.mine ++ rows_waiting l.highs) ∙ ap (λ ws. ws ++ part_of key k (l.mine ++ rows_waiting l.highs)) low
    ∙ part_append key k l.mine (rows_waiting l.highs) ∙ ap (λ ws. part_of key k l.mine ++ ws) high ∙ append-nil (part_of key k l.mine) ∙ here in
    let front : part_of key k (rows (fulls ++ rests)) ≡ part_of key k (rows fulls)
    = ap (part_of key k) (rows_append fulls rests) ∙ part_append key k (rows fulls) (rows rests) ∙ ap (λ ws. part_of key k (rows fulls) ++ ws) none ∙ append-nil (part_of key k (rows fulls)) in
    let whole : part_of key k given ≡ part_of key k (rows fulls) ++ l.mine
    = sym (sorted_part key k given) ∙ ap (part_of key k) (sym l.all) ∙ sorted_part key k (rows (fulls ++ rests) ++ (rows_waiting l.lows ++ (l.mine ++ rows_waiting l.highs)))
    ∙ part_append key k (rows (fulls ++ rests)) (rows_waiting l.lows ++ (l.mine ++ rows_waiting l.highs)) ∙ ap (λ ws. ws ++ part_of key k (rows_waiting l.lows ++ (l.mine ++ rows_waiting l.highs))) front
    ∙ ap (λ ws. part_of key k (rows fulls) ++ ws) tail in
    (k, (done.0, last_part size (done.0 * size) (part_of key k (rows fulls)) l.mine done.1 l.most ∙ ap (λ (ws : List Row). take size (drop (done.0 * size) ws)) (sym whole), some_rows l.mine l.some))
