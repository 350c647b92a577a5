-- The rows that wait, as those of the gathered rows that fill no group.
use Rattle.std.proofs.Common.{◌≡◌, ◌≢◌, ◌<◌, ◌⊎◌, ℕ, zero, suc, Bool, true, false, List, [], ◌∷◌, ◌++◌, map, filter, length, get_or, refl, sym, ◌∙◌, ap, subst, arith, inl, inr, ⊎_elim}
use Rattle.std.specs.Prelude.{nat_lt, if◌then◌else◌, Contains}
use Rattle.std.specs.List.{AllByRecursion}
use Rattle.std.specs.declared.cmp.Ordering.{Ordering}
use Rattle.std.specs.declared.cmp.Ordering.TheVariants.{Less, Equal, Greater}
use Rattle.std.specs.Ordering.{is_le, is_lt}
use Rattle.std.proofs.lemmas.Bool.{false≢true}
use Rattle.lists.proofs.Lists.{all_append, all_left as front_of_all, all_right as rest_of_all}
use Rattle.schema.specs.Keys.{KeyColumn, key_of_row, row_without_keys}
use Rattle.partition.specs.Folders.{CanPartition}
use Rattle.partition.specs.Order.{key_cmp, is_same_key, AreAscending}
use Rattle.partition.specs.Splitting.{KeyRows, has_key, rows_with}
use Rattle.partition.proofs.SameKeys.{key_total, same_key, other_way}
use Rattle.gather.specs.Groups.{waiting_after, left_after, waiting_rows, filled, filled_by, AreRests}
use Rattle.gather.proofs.WaitingRows.{waits_other, waits_one}
use Rattle.table.specs.Table.{Row, Key}
use Rattle.table_state.specs.Buffers.{keys_in, IsRising, AreTold, buffer, IsAdded}
use Rattle.table_commits.proofs.KeyOrder.{lt, lt_not_itself, not_le_back}
use Rattle.table_commits.proofs.WaitingRows.{from_keys, not_low, not_high}

-- ---- keys that rise

is_less : (o : Ordering) → is_lt o ≡ true → o ≡ Less
is_less Less h = refl
is_less Equal h = absurd (false≢true h)
is_less Greater h = absurd (false≢true h)

lt_trans : (k l m : Key) → lt k l ≡ true → lt l m ≡ true → lt k m ≡ true
lt_trans k l m a b = ap is_lt (key_total.trans k l m (is_less (key_cmp k l) a) (is_less (key_cmp l m) b))

above_all : (j k : Key) (ks : List Key) → lt j k ≡ true → AllByRecursion (λ (l : Key). lt k l ≡ true) ks → AllByRecursion (λ (l : Key). lt j l ≡ true) ks
above_all j k [] low up = tt
above_all j k (l ∷ ks) low up = (lt_trans j k l low up.0, above_all j k ks low up.1)

rise : (ks : List Key) → AreAscending ks → IsRising ks
rise [] up = tt
rise (k ∷ []) up = (tt, tt)
rise (k ∷ l ∷ ks) up = by (rise (l ∷ ks) up.1)
  where
    by : IsRising (l ∷ ks) → IsRising (k ∷ l ∷ ks)
    by later = ((up.0, above_all k l ks up.0 later.0), later)

-- ---- where a row goes

pub record Added (k : Key) (x : Row) (ws : List KeyRows) : Type 0 where
  pub new : List KeyRows
  pub at : ℕ
  pub is : IsAdded k x ws new at

pub add : (k : Key) (x : Row) (ws : List KeyRows) → AreTold k ws → IsRising (keys_in ws) → Added k x ws
add k x [] told rising = record {
  new = buffer k (x ∷ []) ∷ [];
  at = 0;
  is = record { before = []; held = []; after = []; was = inr (refl, refl); becomes = refl; place = refl; low = tt; high = λ o. tt };
}
add k x (w ∷ ws) told rising = by (add k x ws told.1 rising.1) (key_cmp w.key k) refl
  where
    by : Added k x ws → (o : Ordering) → key_cmp w.key k ≡ o → Added k x (w ∷ ws)
    by r Less e = record {
      new = w ∷ r.new;
      at = suc r.at;
      is = record {
        before = w ∷ r.is.before;
        held = r.is.held;
        after = r.is.after;
        was = ⊎_elim (λ a. inl (ap (λ (xs : List KeyRows). w ∷ xs) a)) (λ b. inr (ap (λ (xs : List KeyRows). w ∷ xs) b.0, b.1)) r.is.was;
        becomes = ap (λ (xs : List KeyRows). w ∷ xs) r.is.becomes;
        place = ap suc r.is.place;
        low = (ap is_lt e, r.is.low);
        high = λ o. r.is.high o.1;
      };
    }
    by r Equal e = record {
      new = buffer k (w.rows ++ x ∷ []) ∷ ws;
      at = 0;
      is = record {
        before = [];
        held = w.rows;
        after = ws;
        was = inl (ap (λ (j : Key). buffer j w.rows ∷ ws) (told.0 e));
        becomes = refl;
        place = refl;
        low = tt;
        high = λ o. from_keys (λ (l : Key). lt k l ≡ true) ws (subst (λ (j : Key). AllByRecursion (λ (l : Key). lt j l ≡ true) (keys_in ws)) (told.0 e) o.0);
      };
    }
    by r Greater e =
        let up : lt k w.key ≡ true = not_le_back w.key k (ap is_le e) in
        record {
          new = buffer k (x ∷ []) ∷ w ∷ ws;
          at = 0;
          is = record {
            before = [];
            held = [];
            after = w ∷ ws;
            was = inr (refl, refl);
            becomes = refl;
            place = refl;
            low = tt;
            high = λ o. (up, from_keys (λ (l : Key). lt k l ≡ true) ws (above_all k w.key (keys_in ws) up o.0));
          };
        }

-- ---- what waits under each key

-- these rows wait under another key
abbrev IsOther : Key → KeyRows → Type 0
IsOther k w = is_same_key w.key k ≡ false

-- under each key what fills no group waits, and nothing does under any other key
pub record Follows (columns : List KeyColumn) (size : ℕ) (done : List Row) (ws : List KeyRows) : Type 0 where
  pub each : AllByRecursion (λ (w : KeyRows). w.rows ≡ waiting_rows columns size w.key done) ws
  pub none : (k : Key) → AllByRecursion (IsOther k) ws → waiting_rows columns size k done ≡ []

pub follows_none : (columns : List KeyColumn) (size : ℕ) → Follows columns size [] []
follows_none columns size = record { each = tt; none = λ k h. refl }

module _ (columns : List KeyColumn) (size : ℕ) (done : List Row) (row : Row) (same : is_same_key (key_of_row columns row) (key_of_row columns row) ≡ true) where
  abbrev k : Key
  k = key_of_row columns row

  abbrev x : Row
  x = row_without_keys columns row

  abbrev all : List Row
  all = done ++ row ∷ []

  -- under other keys nothing changes
  stay : (ws : List KeyRows) → AllByRecursion (λ (w : KeyRows). w.rows ≡ waiting_rows columns size w.key done) ws → AllByRecursion (IsOther k) ws
      → AllByRecursion (λ (w : KeyRows). w.rows ≡ waiting_rows columns size w.key all) ws
  stay [] each other = tt
  stay (w ∷ ws) each other = (each.0 ∙ sym (waits_other columns size w.key done row (other_way w.key k other.0)), stay ws each.1 other.1)

  module _ (ws new : List KeyRows) (at : ℕ) (follows : Follows columns size done ws) (rising : IsRising (keys_in ws)) (a : IsAdded k x ws new at) where
    lows : AllByRecursion (IsOther k) a.before
    lows = not_low k a.before a.low

    highs : AllByRecursion (IsOther k) a.after
    highs = not_high k a.after (a.high rising)

    abbrev Waits : KeyRows → Type 0
    Waits w = w.rows ≡ waiting_rows columns size w.key done

    each_low : AllByRecursion Waits a.before
    each_low = ⊎_elim (λ was. front_of_all Waits a.before (buffer k a.held ∷ a.after) (subst (λ (vs : List KeyRows). AllByRecursion Waits vs) was follows.each))
        (λ was. front_of_all Waits a.before a.after (subst (λ (vs : List KeyRows). AllByRecursion Waits vs) was.0 follows.each)) a.was

    each_high : AllByRecursion Waits a.after
    each_high = ⊎_elim (λ was. (rest_of_all Waits a.before (buffer k a.held ∷ a.after) (subst (λ (vs : List KeyRows). AllByRecursion Waits vs) was follows.each)).1)
        (λ was. rest_of_all Waits a.before a.after (subst (λ (vs : List KeyRows). AllByRecursion Waits vs) was.0 follows.each)) a.was

    held_is : a.held ≡ waiting_rows columns size k done
    held_is = ⊎_elim (λ was. (rest_of_all Waits a.before (buffer k a.held ∷ a.after) (subst (λ (vs : List KeyRows). AllByRecursion Waits vs) was follows.each)).0)
        (λ was. was.1 ∙ sym (follows.none k (subst (λ (vs : List KeyRows). AllByRecursion (IsOther k) vs) (sym was.0)
        (all_append (IsOther k) a.before a.after lows highs)))) a.was

    -- under a key of its own that is none of those besides k
    none_before : (l : Key) → is_same_key k l ≡ false → AllByRecursion (IsOther l) (a.before ++ a.after) → waiting_rows columns size l done ≡ []
    none_before l other h =
        follows.none l (⊎_elim
        (λ was. subst (λ (vs : List KeyRows). AllByRecursion (IsOther l) vs) (sym was) (all_append (IsOther l) a.before (buffer k a.held ∷ a.after) (front_of_all (IsOther l) a.before a.after h) (other, rest_of_all (IsOther l) a.before a.after h)))
        (λ was. subst (λ (vs : List KeyRows). AllByRecursion (IsOther l) vs) (sym was.0) h) a.was)

    -- it waits with those of its key
    pub follows_waiting : nat_lt (suc (length a.held)) size ≡ true → Follows columns size all new
    follows_waiting few = record {
      each = subst (λ (vs : List KeyRows). AllByRecursion (λ (w : KeyRows). w.rows ≡ waiting_rows columns size w.key all) vs) (sym a.becomes)
          (all_append (λ (w : KeyRows). w.rows ≡ waiting_rows columns size w.key all) a.before (buffer k (a.held ++ x ∷ []) ∷ a.after) (stay a.before each_low lows) (mine, stay a.after each_high highs));
      none = λ l h. others l (subst (λ (vs : List KeyRows). AllByRecursion (IsOther l) vs) a.becomes h);
    }
      where
        mine : a.held ++ x ∷ [] ≡ waiting_rows columns size k all
        mine = sym (waits_one columns size k done row same ∙ ap (λ (hs : List Row). waiting_after size hs x) (sym held_is) ∙ ap (λ (b : Bool). if b then a.held ++ x ∷ [] else []) few)

        others : (l : Key) → AllByRecursion (IsOther l) (a.before ++ buffer k (a.held ++ x ∷ []) ∷ a.after) → waiting_rows columns size l all ≡ []
        others l h =
            let rest = rest_of_all (IsOther l) a.before (buffer k (a.held ++ x ∷ []) ∷ a.after) h in
            let front = front_of_all (IsOther l) a.before (buffer k (a.held ++ x ∷ []) ∷ a.after) h in
            waits_other columns size l done row rest.0 ∙ none_before l rest.0 (all_append (IsOther l) a.before a.after front rest.1)

    -- it fills a group with those of its key, and none of them waits
    pub follows_filled : nat_lt (suc (length a.held)) size ≡ false → Follows columns size all (a.before ++ a.after)
    follows_filled full = record {
      each = all_append (λ (w : KeyRows). w.rows ≡ waiting_rows columns size w.key all) a.before a.after (stay a.before each_low lows) (stay a.after each_high highs);
      none = λ l h. by l h (is_same_key k l) refl;
    }
      where
        gone : waiting_rows columns size k all ≡ []
        gone = waits_one columns size k done row same ∙ ap (λ (hs : List Row). waiting_after size hs x) (sym held_is) ∙ ap (λ (b : Bool). if b then a.held ++ x ∷ [] else []) full

        by : (l : Key) → AllByRecursion (IsOther l) (a.before ++ a.after) → (b : Bool) → is_same_key k l ≡ b → waiting_rows columns size l all ≡ []
        by l h true e = ap (λ (j : Key). waiting_rows columns size j all) (sym (same_key k l e)) ∙ gone
        by l h false e = waits_other columns size l done row e ∙ none_before l e h

    -- the group that it fills, if it does
    pub fills_none : nat_lt (suc (length a.held)) size ≡ true → filled_by columns size done row ≡ []
    fills_none few = ap (λ (hs : List Row). filled size k hs x) (sym held_is) ∙ ap (λ (b : Bool). if b then [] else buffer k (a.held ++ x ∷ []) ∷ []) few

    pub fills_one : nat_lt (suc (length a.held)) size ≡ false → filled_by columns size done row ≡ buffer k (a.held ++ x ∷ []) ∷ []
    fills_one full = ap (λ (hs : List Row). filled size k hs x) (sym held_is) ∙ ap (λ (b : Bool). if b then [] else buffer k (a.held ++ x ∷ []) ∷ []) full

-- ---- the rest

-- the key is one of these
abbrev Has : Key → List Key → Type 0
Has k [] = ⊥
Has k (j ∷ js) = (k ≡ j) ⊎ Has k js

has_above : (j k : Key) (ks : List Key) → AllByRecursion (λ (l : Key). lt j l ≡ true) ks → Has k ks → lt j k ≡ true
has_above j k [] up h = absurd h
has_above j k (l ∷ ks) up h = ⊎_elim (λ e. subst (λ (m : Key). lt j m ≡ true) (sym e) up.0) (λ later. has_above j k ks up.1 later) h

has_later : (j i : Key) (ms ks : List Key) → j ≡ i → AllByRecursion (λ (l : Key). lt j l ≡ true) ks → AllByRecursion (λ (l : Key). Has l (i ∷ ms)) ks → AllByRecursion (λ (l : Key). Has l ms) ks
has_later j i ms [] same up h = tt
has_later j i ms (k ∷ ks) same up h =
    (⊎_elim (λ e. absurd (lt_not_itself j (subst (λ (l : Key). lt j l ≡ true) (e ∙ sym same) up.0))) (λ later. later) h.0, has_later j i ms ks same up.1 h.1)

first_same : (j k : Key) (js ks : List Key) → AllByRecursion (λ (l : Key). lt j l ≡ true) js → AllByRecursion (λ (l : Key). lt k l ≡ true) ks → Has j (k ∷ ks) → Has k (j ∷ js) → j ≡ k
first_same j k js ks up_j up_k a b =
    ⊎_elim (λ e. e) (λ later. ⊎_elim (λ e. sym e) (λ other. absurd (lt_not_itself j (lt_trans j k j (has_above j k js up_j other) (has_above k j ks up_k later)))) b) a

-- two lists of rising keys, with the same keys and the rows that this says of a key
same_lists : (R : Key → List Row) (ws rs : List KeyRows) → IsRising (keys_in ws) → IsRising (keys_in rs) → AllByRecursion (λ (w : KeyRows). w.rows ≡ R w.key) ws → AllByRecursion (λ (r : KeyRows). r.rows ≡ R r.key) rs
    → AllByRecursion (λ (k : Key). Has k (keys_in rs)) (keys_in ws) → AllByRecursion (λ (k : Key). Has k (keys_in ws)) (keys_in rs) → ws ≡ rs
same_lists R [] [] up_w up_r each_w each_r a b = refl
same_lists R [] (r ∷ rs) up_w up_r each_w each_r a b = absurd b.0
same_lists R (w ∷ ws) [] up_w up_r each_w each_r a b = absurd a.0
same_lists R (w ∷ ws) (r ∷ rs) up_w up_r each_w each_r a b =
    let key : w.key ≡ r.key = first_same w.key r.key (keys_in ws) (keys_in rs) up_w.0 up_r.0 a.0 b.0 in
    let rows : w.rows ≡ r.rows = each_w.0 ∙ ap R key ∙ sym each_r.0 in
    let rest : ws ≡ rs = same_lists R ws rs up_w.1 up_r.1 each_w.1 each_r.1 (has_later w.key r.key (keys_in rs) (keys_in ws) key up_w.0 a.1) (has_later r.key w.key (keys_in ws) (keys_in rs) (sym key) up_r.0 b.1) in
    λ i. buffer (key i) (rows i) ∷ rest i

contained : (k : Key) (ks : List Key) (n : ℕ) → n < length ks → get_or ks n k ≡ k → Has k ks
contained k [] n h e = absurd (omega (arith, h))
contained k (j ∷ ks) zero h e = inl (sym e)
contained k (j ∷ ks) (suc n) h e = inr (contained k ks n (omega (arith, h)) e)

find_key : (k : Key) (ws : List KeyRows) → Has k (keys_in ws) ⊎ AllByRecursion (IsOther k) ws
find_key k [] = inr tt
find_key k (w ∷ ws) = by (find_key k ws) (is_same_key w.key k) refl
  where
    by : Has k (keys_in ws) ⊎ AllByRecursion (IsOther k) ws → (b : Bool) → is_same_key w.key k ≡ b → Has k (keys_in (w ∷ ws)) ⊎ AllByRecursion (IsOther k) (w ∷ ws)
    by later true e = inl (inl (sym (same_key w.key k e)))
    by later false e = ⊎_elim (λ h. inl (inr h)) (λ h. inr (e, h)) later

-- what holds of the keys of rows holds of a key that has rows
of_a_row : (columns : List KeyColumn) (k : Key) (P : Key → Type 0) (rows : List Row) → AllByRecursion (λ (row : Row). P (key_of_row columns row)) rows → (rows_with columns k rows ≡ [] → ⊥) → P k
of_a_row columns k P [] each some = absurd (some refl)
of_a_row columns k P (row ∷ rows) each some = by (of_a_row columns k P rows each.1) (has_key columns k row) refl
  where
    by : ((rows_with columns k rows ≡ [] → ⊥) → P k) → (b : Bool) → has_key columns k row ≡ b → P k
    by later true e = subst P (same_key (key_of_row columns row) k e) each.0
    by later false e = later (λ none. some (ap (λ (b : Bool). map (row_without_keys columns) (if b then row ∷ filter (has_key columns k) rows else filter (has_key columns k) rows)) e ∙ none))

module _ (columns : List KeyColumn) (size : ℕ) (given : List Row) (ws rests : List KeyRows) (follows : Follows columns size given ws) (are : AreRests columns size given rests) where
  abbrev R : Key → List Row
  R key = waiting_rows columns size key given

  among_rests : (k : Key) → R k ≢ [] → Has k (keys_in rests)
  among_rests k some =
      ⊎_elim (λ none. absurd (some none)) (λ (c : Contains (keys_in rests) k). contained k (keys_in rests) c.0 c.1 c.2)
      (of_a_row columns k (λ (j : Key). (R j ≡ []) ⊎ Contains (keys_in rests) j) given are.every (λ none. some (ap (left_after size []) none)))

  each_among : (vs : List KeyRows) → AllByRecursion (λ (w : KeyRows). w.rows ≡ R w.key) vs → AllByRecursion (λ (w : KeyRows). w.rows ≢ []) vs → AllByRecursion (λ (k : Key). Has k (keys_in rests)) (keys_in vs)
  each_among [] each some = tt
  each_among (v ∷ vs) each some = (among_rests v.key (λ none. some.0 (each.0 ∙ none)), each_among vs each.1 some.1)

  rows_are : (rs : List KeyRows) → AllByRecursion (λ (p : KeyRows). CanPartition columns p.key × (p.rows ≡ R p.key) × (p.rows ≢ [])) rs → AllByRecursion (λ (r : KeyRows). r.rows ≡ R r.key) rs
  rows_are [] h = tt
  rows_are (r ∷ rs) h = (h.0.1, rows_are rs h.1)

  each_waits : (rs : List KeyRows) → AllByRecursion (λ (p : KeyRows). CanPartition columns p.key × (p.rows ≡ R p.key) × (p.rows ≢ [])) rs → AllByRecursion (λ (k : Key). Has k (keys_in ws)) (keys_in rs)
  each_waits [] h = tt
  each_waits (r ∷ rs) h = (⊎_elim (λ has. has) (λ none. absurd (h.0.2 (h.0.1 ∙ follows.none r.key none))) (find_key r.key ws), each_waits rs h.1)

  -- where all rows came, what waits is the rest
  pub same_rests : IsRising (keys_in ws) → AllByRecursion (λ (w : KeyRows). w.rows ≢ []) ws → ws ≡ rests
  same_rests rising some =
      same_lists R ws rests rising (rise (keys_in rests) are.ascending) follows.each (rows_are rests are.each) (each_among ws follows.each some) (each_waits rests are.each)
