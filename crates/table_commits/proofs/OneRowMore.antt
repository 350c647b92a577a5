-- A row more among those that wait.
use Rattle.std.proofs.Common.{◌≡◌, ◌≤◌, ◌<◌, ◌+◌, ℕ, suc, true, List, [], ◌∷◌, ◌++◌, length, refl, sym, ◌∙◌, ap, subst, arith, ⊎_elim, append_assoc}
use Rattle.std.specs.List.{AllByRecursion}
use Rattle.std.proofs.lemmas.List.{append-nil, length-append}
use Rattle.lists.proofs.Lists.{all_append, all_left as front_of_all, all_right as rest_of_all}
use Rattle.schema.specs.Shape.{Fields}
use Rattle.schema.specs.Keys.{KeyColumn, AreKeys, AreRowsOf, key_of_row, row_without_keys}
use Rattle.partition.specs.Splitting.{KeyRows}
use Rattle.table.specs.Table.{Row, Key, IsRowIn}
use Rattle.table.specs.InOrder.{in_order}
use Rattle.table.specs.State.{State}
use Rattle.table_state.specs.Buffers.{keys_in, IsRising, AreLow, AreHigh, buffer, IsAdded}
use Rattle.table_commits.specs.Filling.{AreBuffers, rows_waiting, IsFew, AreFine}
use Rattle.table_commits.proofs.KeyOrder.{lt, past_above, same_behind, same_before}
use Rattle.table_commits.proofs.RowsWithoutKeys.{is_row_of}
use Rattle.table_commits.proofs.WaitingRows.{waiting_append, rising_without, Split, split, same_key_lists, above_waits, rows_of_more}
use Rattle.table_commits.proofs.RowsOfOneKey.{IsLoaded}

-- ---- a row more

-- where it goes among the rows that wait
pub in_place : (keys : List KeyColumn) (xs lows mine highs : List Row) (r : Row) → AllByRecursion (λ (q : Row). lt (key_of_row keys r) (key_of_row keys q) ≡ true) highs
    → in_order (key_of_row keys) (xs ++ (lows ++ ((mine ++ r ∷ []) ++ highs))) ≡ in_order (key_of_row keys) ((xs ++ (lows ++ (mine ++ highs))) ++ r ∷ [])
in_place keys xs lows mine highs r above =
    let key = key_of_row keys in
    let last : in_order key (r ∷ highs) ≡ in_order key (highs ++ r ∷ [])
    = ap (λ (ws : List Row). in_order key (r ∷ ws)) (sym (append-nil highs)) ∙ past_above key r highs [] above in
    let moved : in_order key ((mine ++ r ∷ []) ++ highs) ≡ in_order key ((mine ++ highs) ++ r ∷ [])
    = ap (in_order key) (append_assoc mine (r ∷ []) highs) ∙ same_behind key mine (r ∷ highs) (highs ++ r ∷ []) last ∙ ap (in_order key) (sym (append_assoc mine highs (r ∷ []))) in
    let behind : in_order key (lows ++ ((mine ++ r ∷ []) ++ highs)) ≡ in_order key ((lows ++ (mine ++ highs)) ++ r ∷ [])
    = same_behind key lows ((mine ++ r ∷ []) ++ highs) ((mine ++ highs) ++ r ∷ []) moved ∙ ap (in_order key) (sym (append_assoc lows (mine ++ highs) (r ∷ []))) in
    same_behind key xs (lows ++ ((mine ++ r ∷ []) ++ highs)) ((lows ++ (mine ++ highs)) ++ r ∷ []) behind ∙ ap (in_order key) (sym (append_assoc xs (lows ++ (mine ++ highs)) (r ∷ [])))

pub one_longer : (xs : List Row) (r : Row) → length (xs ++ r ∷ []) ≡ suc (length xs)
one_longer xs r = let l = length-append xs (r ∷ []) in omega (arith, l)

module _ (s : State) (count : ℕ) (written given : List Row) (row : Row) (are_keys : AreKeys s.table.keys s.table.schema) (fine : AreFine s (row ∷ [])) where
  abbrev keys : List KeyColumn
  keys = s.table.keys

  abbrev schema : Fields
  schema = s.table.schema

  abbrev size : ℕ
  size = s.options.group_rows

  abbrev k : Key
  k = key_of_row keys row

  abbrev cut : Row
  cut = row_without_keys keys row

  pub load : (before after : List KeyRows) (held : List Row) (lows highs : List KeyRows) (mine : List Row) → AreBuffers schema keys before lows → AreBuffers schema keys after highs
      → AreRowsOf keys k held mine → AllByRecursion (IsRowIn schema keys k) mine → length mine < size → AreLow k lows → AreHigh k highs → IsRising (keys_in (lows ++ highs))
      → AllByRecursion (IsFew size) lows → AllByRecursion (IsFew size) highs → in_order (key_of_row keys) (written ++ (rows_waiting lows ++ (mine ++ rows_waiting highs))) ≡ in_order (key_of_row keys) given
      → count + (length (rows_waiting lows) + (length mine + length (rows_waiting highs))) ≤ s.next_group + length given
      → IsLoaded s count written k before (held ++ cut ∷ []) after (given ++ row ∷ [])
  load before after held lows highs mine low_are high_are are rows_in few below above rising few_low few_high all room = record {
    lows = lows;
    mine = mine ++ row ∷ [];
    highs = highs;
    low_are = low_are;
    mine_are = record {
      key_is = refl;
      can = fine.0.1;
      are = rows_of_more keys k held mine cut row are (is_row_of keys schema row are_keys fine.0.0);
      rows_in = all_append (IsRowIn schema keys k) mine (row ∷ []) rows_in (record { fits = fine.0.0; keyed = refl }, tt);
    };
    high_are = high_are;
    below = below;
    above = above;
    rising = rising;
    few_low = few_low;
    few_high = few_high;
    some = let l = one_longer mine row in omega (arith, l);
    most = let l = one_longer mine row in omega (arith, l, few);
    all = in_place keys written (rows_waiting lows) mine (rows_waiting highs) row (above_waits schema keys k after highs high_are above)
        ∙ same_before (key_of_row keys) (written ++ (rows_waiting lows ++ (mine ++ rows_waiting highs))) given (row ∷ []) all;
    room = let l = one_longer mine row in let g = one_longer given row in omega (arith, l, g, room);
  }

  pub low_too : (ws vs : List KeyRows) → AreBuffers schema keys ws vs → AreLow k ws → AreLow k vs
  low_too [] [] z l = tt
  low_too (w ∷ ws) (v ∷ vs) z l = (ap (λ j. lt j k) z.0.key_is ∙ l.0, low_too ws vs z.1 l.1)
  low_too [] (v ∷ vs) z l = absurd z
  low_too (w ∷ ws) [] z l = absurd z

  pub high_too : (ws vs : List KeyRows) → AreBuffers schema keys ws vs → AreHigh k ws → AreHigh k vs
  high_too [] [] z l = tt
  high_too (w ∷ ws) (v ∷ vs) z l = (ap (lt k) z.0.key_is ∙ l.0, high_too ws vs z.1 l.1)
  high_too [] (v ∷ vs) z l = absurd z
  high_too (w ∷ ws) [] z l = absurd z

  -- what waited
  module _ (some : 1 ≤ size) (ws ws_new vs : List KeyRows) (at : ℕ) (waits : AreBuffers schema keys ws vs) (few : AllByRecursion (IsFew size) vs) (rising : IsRising (keys_in vs))
      (all : in_order (key_of_row keys) (written ++ rows_waiting vs) ≡ in_order (key_of_row keys) given) (room : count + length (rows_waiting vs) ≤ s.next_group + length given)
      (added : IsAdded k cut ws ws_new at) where
    ws_rise : IsRising (keys_in ws)
    ws_rise = subst (λ ks. IsRising ks) (same_key_lists schema keys ws vs waits) rising

    high : AreHigh k added.after
    high = added.high ws_rise

    flat : (lows highs : List KeyRows) (mine : List Row) → rows_waiting vs ≡ rows_waiting lows ++ (mine ++ rows_waiting highs) → length (rows_waiting vs) ≡ length (rows_waiting lows) + (length mine + length (rows_waiting highs))
    flat lows highs mine e =
        let a = ap length e in
        let b = length-append (rows_waiting lows) (mine ++ rows_waiting highs) in
        let c = length-append mine (rows_waiting highs) in
        omega (arith, a, b, c)

    pub loaded : IsLoaded s count written k added.before (added.held ++ cut ∷ []) added.after (given ++ row ∷ [])
    loaded = ⊎_elim there new added.was
      where
        there : ws ≡ added.before ++ buffer k added.held ∷ added.after → IsLoaded s count written k added.before (added.held ++ cut ∷ []) added.after (given ++ row ∷ [])
        there e = at_mine (split schema keys added.before (buffer k added.held ∷ added.after) vs (subst (λ us. AreBuffers schema keys us vs) e waits))
          where
            at_mine : Split schema keys added.before (buffer k added.held ∷ added.after) vs → IsLoaded s count written k added.before (added.held ++ cut ∷ []) added.after (given ++ row ∷ [])
            at_mine p = by p.highs p.are p.high_are
              where
                by : (us : List KeyRows) → vs ≡ p.lows ++ us → AreBuffers schema keys (buffer k added.held ∷ added.after) us → IsLoaded s count written k added.before (added.held ++ cut ∷ []) added.after (given ++ row ∷ [])
                by [] is z = absurd z
                by (v ∷ us) is z =
                    let rest = waiting_append p.lows (v ∷ us) in
                    let flat_is : rows_waiting vs ≡ rows_waiting p.lows ++ (v.rows ++ rows_waiting us) = ap rows_waiting is ∙ rest in
                    let all_few = subst (λ xs. AllByRecursion (IsFew size) xs) is few in
                    let long = flat p.lows us v.rows flat_is in
                    load added.before added.after added.held p.lows us v.rows p.low_are z.1 z.0.are (subst (λ j. AllByRecursion (IsRowIn schema keys j) v.rows) z.0.key_is z.0.rows_in)
                    (rest_of_all (IsFew size) p.lows (v ∷ us) all_few).0.1 (low_too added.before p.lows p.low_are added.low) (high_too added.after us z.1 high)
                    (rising_without p.lows us v (subst (λ xs. IsRising (keys_in xs)) is rising)) (front_of_all (IsFew size) p.lows (v ∷ us) all_few) (rest_of_all (IsFew size) p.lows (v ∷ us) all_few).1
                    (ap (λ (xs : List Row). in_order (key_of_row keys) (written ++ xs)) (sym flat_is) ∙ all) (omega (arith, long, room))

        new : (ws ≡ added.before ++ added.after) × (added.held ≡ []) → IsLoaded s count written k added.before (added.held ++ cut ∷ []) added.after (given ++ row ∷ [])
        new h = at_none (split schema keys added.before added.after vs (subst (λ us. AreBuffers schema keys us vs) h.0 waits))
          where
            at_none : Split schema keys added.before added.after vs → IsLoaded s count written k added.before (added.held ++ cut ∷ []) added.after (given ++ row ∷ [])
            at_none p =
                let flat_is : rows_waiting vs ≡ rows_waiting p.lows ++ ([] ++ rows_waiting p.highs) = ap rows_waiting p.are ∙ waiting_append p.lows p.highs in
                let all_few = subst (λ xs. AllByRecursion (IsFew size) xs) p.are few in
                let long = flat p.lows p.highs [] flat_is in
                load added.before added.after added.held p.lows p.highs [] p.low_are p.high_are (subst (λ xs. AreRowsOf keys k xs []) (sym h.1) tt) tt
                (omega (arith, some)) (low_too added.before p.lows p.low_are added.low) (high_too added.after p.highs p.high_are high)
                (subst (λ xs. IsRising (keys_in xs)) p.are rising) (front_of_all (IsFew size) p.lows p.highs all_few) (rest_of_all (IsFew size) p.lows p.highs all_few)
                (ap (λ (xs : List Row). in_order (key_of_row keys) (written ++ xs)) (sym flat_is) ∙ all) (omega (arith, long, room))
