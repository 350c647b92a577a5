-- Rows that wait, whole and as they are stored, with keys that rise.
use Rattle.std.proofs.Common.{◌≡◌, suc, Bool, true, false, List, [], ◌∷◌, ◌++◌, length, refl, sym, ◌∙◌, ap, subst, append_assoc}
use Rattle.std.specs.List.{AllByRecursion}
use Rattle.lists.proofs.Lists.{all_append}
use Rattle.schema.specs.Shape.{Fields}
use Rattle.schema.specs.Keys.{KeyColumn, IsRowOf, AreRowsOf, key_of_row}
use Rattle.partition.specs.Folders.{CanPartition}
use Rattle.partition.specs.Splitting.{KeyRows}
use Rattle.partition.specs.Order.{is_same_key}
use Rattle.partition.proofs.SameKeys.{same_key, equal_key}
use Rattle.table.specs.Table.{Row, Key, Group, rows, IsRowIn}
use Rattle.table_state.specs.Buffers.{keys_in, IsRising, AreLow, AreHigh, AreTold}
use Rattle.table_commits.specs.Filling.{AreBuffers, rows_waiting}
use Rattle.table_commits.proofs.KeyOrder.{lt, lt_not_itself, Keyed, part_of, part_append, part_none}

-- ---- lists

pub rows_append : (xs ys : List Group) → rows (xs ++ ys) ≡ rows xs ++ rows ys
rows_append [] ys = refl
rows_append (x ∷ xs) ys = ap (λ ws. x.rows ++ ws) (rows_append xs ys) ∙ sym (append_assoc x.rows (rows xs) (rows ys))

pub waiting_append : (xs ys : List KeyRows) → rows_waiting (xs ++ ys) ≡ rows_waiting xs ++ rows_waiting ys
waiting_append [] ys = refl
waiting_append (x ∷ xs) ys = ap (λ ws. x.rows ++ ws) (waiting_append xs ys) ∙ sym (append_assoc x.rows (rows_waiting xs) (rows_waiting ys))

-- ---- keys that rise

pub to_keys : (P : List _ → Type 0) (vs : List KeyRows) → AllByRecursion (λ (v : KeyRows). P v.key) vs → AllByRecursion P (keys_in vs)
to_keys P [] h = tt
to_keys P (v ∷ vs) h = (h.0, to_keys P vs h.1)

pub from_keys : (P : List _ → Type 0) (vs : List KeyRows) → AllByRecursion P (keys_in vs) → AllByRecursion (λ (v : KeyRows). P v.key) vs
from_keys P [] h = tt
from_keys P (v ∷ vs) h = (h.0, from_keys P vs h.1)

pub keys_with : (P : List _ → Type 0) (lows highs : List KeyRows) (v : KeyRows) → P v.key → AllByRecursion P (keys_in (lows ++ highs)) → AllByRecursion P (keys_in (lows ++ v ∷ highs))
keys_with P [] highs v p h = (p, h)
keys_with P (l ∷ lows) highs v p h = (h.0, keys_with P lows highs v p h.1)

pub keys_without : (P : List _ → Type 0) (lows highs : List KeyRows) (v : KeyRows) → AllByRecursion P (keys_in (lows ++ v ∷ highs)) → AllByRecursion P (keys_in (lows ++ highs))
keys_without P [] highs v h = h.1
keys_without P (l ∷ lows) highs v h = (h.0, keys_without P lows highs v h.1)

pub rising_with : (lows highs : List KeyRows) (v : KeyRows) → AreLow v.key lows → AreHigh v.key highs → IsRising (keys_in (lows ++ highs)) → IsRising (keys_in (lows ++ v ∷ highs))
rising_with [] highs v low high o = (to_keys (λ j. lt v.key j ≡ true) highs high, o)
rising_with (l ∷ lows) highs v low high o = (keys_with (λ j. lt l.key j ≡ true) lows highs v low.0 o.0, rising_with lows highs v low.1 high o.1)

pub rising_without : (lows highs : List KeyRows) (v : KeyRows) → IsRising (keys_in (lows ++ v ∷ highs)) → IsRising (keys_in (lows ++ highs))
rising_without [] highs v o = o.1
rising_without (l ∷ lows) highs v o = (keys_without (λ j. lt l.key j ≡ true) lows highs v o.0, rising_without lows highs v o.1)

-- ---- rows that wait, whole and as they are stored

module _ (schema : Fields) (keys : List KeyColumn) where
  pub record Split (xs ys vs : List KeyRows) : Type 0 where
    pub lows : List KeyRows
    pub highs : List KeyRows
    pub are : vs ≡ lows ++ highs
    pub low_are : AreBuffers schema keys xs lows
    pub high_are : AreBuffers schema keys ys highs

  pub split : (xs ys vs : List KeyRows) → AreBuffers schema keys (xs ++ ys) vs → Split xs ys vs
  split [] ys vs z = record { lows = []; highs = vs; are = refl; low_are = tt; high_are = z }
  split (x ∷ xs) ys (v ∷ vs) z =
      let r = split xs ys vs z.1 in
      record { lows = v ∷ r.lows; highs = r.highs; are = ap (λ ws. v ∷ ws) r.are; low_are = (z.0, r.low_are); high_are = r.high_are }
  split (x ∷ xs) ys [] z = absurd z

  pub joined : (xs ys us vs : List KeyRows) → AreBuffers schema keys xs us → AreBuffers schema keys ys vs → AreBuffers schema keys (xs ++ ys) (us ++ vs)
  joined [] ys [] vs a b = b
  joined (x ∷ xs) ys (u ∷ us) vs a b = (a.0, joined xs ys us vs a.1 b)
  joined [] ys (u ∷ us) vs a b = absurd a
  joined (x ∷ xs) ys [] vs a b = absurd a

  pub same_key_lists : (ws vs : List KeyRows) → AreBuffers schema keys ws vs → keys_in vs ≡ keys_in ws
  same_key_lists [] [] z = refl
  same_key_lists (w ∷ ws) (v ∷ vs) z = λ i. z.0.key_is i ∷ same_key_lists ws vs z.1 i
  same_key_lists [] (v ∷ vs) z = absurd z
  same_key_lists (w ∷ ws) [] z = absurd z

  pub keyed_rows : (k : Key) (rs : List Row) → AllByRecursion (IsRowIn schema keys k) rs → Keyed (key_of_row keys) k rs
  keyed_rows k [] a = tt
  keyed_rows k (r ∷ rs) a = (a.0.keyed, keyed_rows k rs a.1)

  -- none of them is of another key
  pub none_waits : (k : Key) (ws vs : List KeyRows) → AreBuffers schema keys ws vs → AllByRecursion (λ (v : KeyRows). is_same_key v.key k ≡ false) vs → part_of (key_of_row keys) k (rows_waiting vs) ≡ []
  none_waits k ws [] z o = refl
  none_waits k (w ∷ ws) (v ∷ vs) z o =
      part_append (key_of_row keys) k v.rows (rows_waiting vs)
      ∙ ap (λ xs. xs ++ part_of (key_of_row keys) k (rows_waiting vs)) (part_none (key_of_row keys) k v.key v.rows o.0 (keyed_rows v.key v.rows z.0.rows_in))
      ∙ none_waits k ws vs z.1 o.1
  none_waits k [] (v ∷ vs) z o = absurd z

  pub below_waits : (k : Key) (ws vs : List KeyRows) → AreBuffers schema keys ws vs → AreLow k vs → AllByRecursion (λ (r : Row). lt (key_of_row keys r) k ≡ true) (rows_waiting vs)
  below_waits k ws [] z l = tt
  below_waits k (w ∷ ws) (v ∷ vs) z l = all_append (λ (r : Row). lt (key_of_row keys r) k ≡ true) v.rows (rows_waiting vs) (each v.rows z.0.rows_in) (below_waits k ws vs z.1 l.1)
    where
      each : (rs : List Row) → AllByRecursion (IsRowIn schema keys v.key) rs → AllByRecursion (λ (r : Row). lt (key_of_row keys r) k ≡ true) rs
      each [] a = tt
      each (r ∷ rs) a = (subst (λ j. lt j k ≡ true) (sym a.0.keyed) l.0, each rs a.1)
  below_waits k [] (v ∷ vs) z l = absurd z

  pub above_waits : (k : Key) (ws vs : List KeyRows) → AreBuffers schema keys ws vs → AreHigh k vs → AllByRecursion (λ (r : Row). lt k (key_of_row keys r) ≡ true) (rows_waiting vs)
  above_waits k ws [] z l = tt
  above_waits k (w ∷ ws) (v ∷ vs) z l = all_append (λ (r : Row). lt k (key_of_row keys r) ≡ true) v.rows (rows_waiting vs) (each v.rows z.0.rows_in) (above_waits k ws vs z.1 l.1)
    where
      each : (rs : List Row) → AllByRecursion (IsRowIn schema keys v.key) rs → AllByRecursion (λ (r : Row). lt k (key_of_row keys r) ≡ true) rs
      each [] a = tt
      each (r ∷ rs) a = (subst (λ j. lt k j ≡ true) (sym a.0.keyed) l.0, each rs a.1)
  above_waits k [] (v ∷ vs) z l = absurd z

pub not_low : (k : Key) (vs : List KeyRows) → AreLow k vs → AllByRecursion (λ (v : KeyRows). is_same_key v.key k ≡ false) vs
not_low k [] l = tt
not_low k (v ∷ vs) l = (by (is_same_key v.key k) refl, not_low k vs l.1)
  where
    by : (c : Bool) → is_same_key v.key k ≡ c → is_same_key v.key k ≡ false
    by true e = absurd (lt_not_itself k (subst (λ j. lt j k ≡ true) (same_key v.key k e) l.0))
    by false e = e

pub not_high : (k : Key) (vs : List KeyRows) → AreHigh k vs → AllByRecursion (λ (v : KeyRows). is_same_key v.key k ≡ false) vs
not_high k [] l = tt
not_high k (v ∷ vs) l = (by (is_same_key v.key k) refl, not_high k vs l.1)
  where
    by : (c : Bool) → is_same_key v.key k ≡ c → is_same_key v.key k ≡ false
    by true e = absurd (lt_not_itself k (subst (λ j. lt k j ≡ true) (same_key v.key k e) l.0))
    by false e = e

pub rows_of_more : (keys : List KeyColumn) (k : Key) (stored given : List Row) (x r : Row) → AreRowsOf keys k stored given → IsRowOf keys k x r → AreRowsOf keys k (stored ++ x ∷ []) (given ++ r ∷ [])
rows_of_more keys k [] [] x r a h = (h, tt)
rows_of_more keys k (s ∷ stored) (g ∷ given) x r a h = (a.0, rows_of_more keys k stored given x r a.1 h)
rows_of_more keys k [] (g ∷ given) x r a h = absurd a
rows_of_more keys k (s ∷ stored) [] x r a h = absurd a

-- a key that is among those that wait is told from the others
pub told : (schema : Fields) (keys : List KeyColumn) (k : Key) (ws vs : List KeyRows) → CanPartition keys k → AreBuffers schema keys ws vs → AreTold k ws
told schema keys k [] [] can z = tt
told schema keys k (w ∷ ws) (v ∷ vs) can z =
    (λ e. equal_key keys w.key k (subst (λ (j : Key). CanPartition keys j) z.0.key_is z.0.can).values can.values e, told schema keys k ws vs can z.1)
told schema keys k [] (v ∷ vs) can z = absurd z
told schema keys k (w ∷ ws) [] can z = absurd z

-- as many wait as they are whole
pub same_length : (ks : List KeyColumn) (key : Key) (xs ys : List Row) → AreRowsOf ks key xs ys → length xs ≡ length ys
same_length ks key [] [] h = refl
same_length ks key (x ∷ xs) (y ∷ ys) h = ap suc (same_length ks key xs ys h.1)
same_length ks key [] (y ∷ ys) h = absurd h
same_length ks key (x ∷ xs) [] h = absurd h
