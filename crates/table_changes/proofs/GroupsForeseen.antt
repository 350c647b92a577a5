-- The groups of an append before any is written: those that the rows fill, and then the rest of each key.
use Rattle.std.proofs.Common.{◌≡◌, ◌≤◌, ◌<◌, ◌+◌, ℕ, suc, Bool, true, false, List, [], ◌∷◌, ◌++◌, length, refl, sym, ◌∙◌, ap, subst, arith, append_assoc}
use Rattle.std.specs.Prelude.{nat_lt, IsTrue}
use Rattle.std.specs.List.{AllByRecursion}
use Rattle.std.proofs.lemmas.Bool.{ltb-true, ltb-false}
use Rattle.std.proofs.lemmas.List.{append-nil, length-append}
use Rattle.lists.proofs.Lists.{all_append}
use Rattle.schema.specs.Keys.{AreKeys, key_of_row, row_without_keys}
use Rattle.partition.specs.Order.{is_same_key}
use Rattle.partition.specs.Splitting.{KeyRows}
use Rattle.partition.proofs.SameKeys.{key_same}
use Rattle.gather.specs.Groups.{filled_by, filled_after, AreGroups}
use Rattle.table.specs.Table.{Row, Key, Group, rows, IsGroupIn}
use Rattle.table.specs.InOrder.{in_order}
use Rattle.table.specs.Commits.{are_full}
use Rattle.table.specs.State.{State}
use Rattle.table_state.specs.Buffers.{keys_in, IsRising, buffer}
use Rattle.table_commits.specs.Filling.{AreBuffers, rows_waiting, IsFew, HasSize, HasUpTo, AreFine, written_group, group_keys}
use Rattle.table_commits.proofs.KeyOrder.{to_front, same_behind}
use Rattle.table_commits.proofs.GroupsByKey.{all_full}
use Rattle.table_commits.proofs.RowsFillGroups.{group_in}
use Rattle.table_commits.proofs.WaitingRows.{rows_append, waiting_append, rising_with, joined, keyed_rows, below_waits, same_key_lists, told, same_length}
use Rattle.table_commits.proofs.RowsOfOneKey.{IsLoaded}
use Rattle.table_commits.proofs.OneRowMore.{loaded, one_longer}
use Rattle.table_commits.proofs.RowsThatFillNoGroup.{Added, add, Follows, follows_none, follows_waiting, follows_filled, fills_none, fills_one, same_rests}
use Rattle.table_commits.proofs.GatheredGroupsWritten.{waits_some}

-- ---- numbers

-- the groups have the numbers from this one on
abbrev pub AreFrom : ℕ → List Group → Type 0
AreFrom n [] = Unit {0}
AreFrom n (g ∷ gs) = (g.number ≡ n) × AreFrom (suc n) gs

from_append : (n m : ℕ) (gs hs : List Group) → AreFrom n gs → m ≡ n + length gs → AreFrom m hs → AreFrom n (gs ++ hs)
from_append n m [] hs a is b = subst (λ (k : ℕ). AreFrom k hs) (let e = is in omega (arith, e)) b
from_append n m (g ∷ gs) hs a is b = (a.0, from_append (suc n) m gs hs a.1 (omega (arith, is)) b)

-- ---- the rest of each key

-- the groups of what waits, under the numbers from this one on
abbrev pub rest_groups : ℕ → List KeyRows → List Group
rest_groups n [] = []
rest_groups n (v ∷ vs) = written_group n v.key v.rows ∷ rest_groups (suc n) vs

rest_rows : (n : ℕ) (vs : List KeyRows) → rows (rest_groups n vs) ≡ rows_waiting vs
rest_rows n [] = refl
rest_rows n (v ∷ vs) = ap (λ (rs : List Row). v.rows ++ rs) (rest_rows (suc n) vs)

rest_keys : (n : ℕ) (vs : List KeyRows) → group_keys (rest_groups n vs) ≡ keys_in vs
rest_keys n [] = refl
rest_keys n (v ∷ vs) = ap (λ (ks : List Key). v.key ∷ ks) (rest_keys (suc n) vs)

rest_from : (n : ℕ) (vs : List KeyRows) → AreFrom n (rest_groups n vs)
rest_from n [] = tt
rest_from n (v ∷ vs) = (refl, rest_from (suc n) vs)

rest_many : (n : ℕ) (vs : List KeyRows) → length (rest_groups n vs) ≡ length vs
rest_many n [] = refl
rest_many n (v ∷ vs) = ap suc (rest_many (suc n) vs)

rest_up_to : (size n : ℕ) (vs : List KeyRows) → AllByRecursion (IsFew size) vs → AllByRecursion (HasUpTo size) (rest_groups n vs)
rest_up_to size n [] few = tt
rest_up_to size n (v ∷ vs) few = ((few.0.0, let less = few.0.1 in omega (arith, less)), rest_up_to size (suc n) vs few.1)

-- each of them has a row at least
rest_short : (size : ℕ) (vs : List KeyRows) → AllByRecursion (IsFew size) vs → length vs ≤ length (rows_waiting vs)
rest_short size [] few = omega arith
rest_short size (v ∷ vs) few = let some = few.0.0 in let later = rest_short size vs few.1 in let long = length-append v.rows (rows_waiting vs) in omega (arith, some, later, long)

rest_in : (s : State) (size n : ℕ) (ws vs : List KeyRows) → AreBuffers s.table.schema s.table.keys ws vs → AllByRecursion (IsFew size) vs → AllByRecursion (IsGroupIn s.table.schema s.table.keys) (rest_groups n vs)
rest_in s size n [] [] z few = tt
rest_in s size n (w ∷ ws) (v ∷ vs) z few = (record { some = few.0.0; keyed = z.0.can; rows_in = z.0.rows_in }, rest_in s size (suc n) ws vs z.1 few.1)
rest_in s size n [] (v ∷ vs) z few = absurd z
rest_in s size n (w ∷ ws) [] z few = absurd z

same_many : (s : State) (ws vs : List KeyRows) → AreBuffers s.table.schema s.table.keys ws vs → length ws ≡ length vs
same_many s [] [] z = refl
same_many s (w ∷ ws) (v ∷ vs) z = ap suc (same_many s ws vs z.1)
same_many s [] (v ∷ vs) z = absurd z
same_many s (w ∷ ws) [] z = absurd z

-- ---- the groups that rows fill

-- Of these rows some fill so many groups, with the numbers from the state's counter on, and the others wait.
pub record Fills (s : State) (count : ℕ) (waiting : List KeyRows) (done : List Row) : Type 0 where
  pub fulls : List Group
  pub whole : List KeyRows
  pub many : length fulls ≡ count
  pub numbered : AreFrom s.next_group fulls
  pub each : AllByRecursion (IsGroupIn s.table.schema s.table.keys) fulls
  pub full : AllByRecursion (HasSize s.options.group_rows) fulls
  pub waits : AreBuffers s.table.schema s.table.keys waiting whole
  pub few : AllByRecursion (IsFew s.options.group_rows) whole
  pub rising : IsRising (keys_in whole)
  pub all : in_order (key_of_row s.table.keys) (rows fulls ++ rows_waiting whole) ≡ in_order (key_of_row s.table.keys) done
  pub room : (s.next_group + count) + length (rows_waiting whole) ≤ s.next_group + length done

-- the groups of all these rows, so many
pub record AreForeseen (s : State) (count : ℕ) (given : List Row) : Type 0 where
  pub groups : List Group
  pub many : length groups ≡ count
  pub numbered : AreFrom s.next_group groups
  pub each : AllByRecursion (IsGroupIn s.table.schema s.table.keys) groups
  pub hold : in_order (key_of_row s.table.keys) (rows groups) ≡ in_order (key_of_row s.table.keys) given
  pub full : IsTrue (are_full s.options.group_rows (in_order (λ (g : Group). g.key) groups))
  pub no_more : s.next_group + count ≤ s.next_group + length given

-- these rows fill so many groups, and the others wait, which fill no group
pub record GoesOn (s : State) (count : ℕ) (done : List Row) : Type 0 where
  pub waiting : List KeyRows
  pub fills : Fills s count waiting done
  pub follows : Follows s.table.keys s.options.group_rows done waiting

flat_length : (lows highs : List KeyRows) (mine : List Row) → length (rows_waiting lows ++ (mine ++ rows_waiting highs)) ≡ length (rows_waiting lows) + (length mine + length (rows_waiting highs))
flat_length lows highs mine =
    let b = length-append (rows_waiting lows) (mine ++ rows_waiting highs) in
    let c = length-append mine (rows_waiting highs) in
    omega (arith, b, c)

-- ---- one row more

module _ (s : State) (count : ℕ) (done : List Row) (k : Key) (before : List KeyRows) (held : List Row) (after : List KeyRows) (waiting : List KeyRows) (earlier : List Row) (f : Fills s count waiting earlier)
    (l : IsLoaded s (s.next_group + count) (rows f.fulls) k before held after done) where
  -- it waits
  waits_more : length held < s.options.group_rows → Fills s count (before ++ buffer k held ∷ after) done
  waits_more few =
      let keys = s.table.keys in
      let schema = s.table.schema in
      let own = buffer k l.mine in
      let flat : rows_waiting (l.lows ++ own ∷ l.highs) ≡ rows_waiting l.lows ++ (l.mine ++ rows_waiting l.highs) = waiting_append l.lows (own ∷ l.highs) in
      let same = same_length keys k held l.mine l.mine_are.are in
      let a = ap length flat in
      let b = flat_length l.lows l.highs l.mine in
      record {
        fulls = f.fulls;
        whole = l.lows ++ own ∷ l.highs;
        many = f.many;
        numbered = f.numbered;
        each = f.each;
        full = f.full;
        waits = joined schema keys before (buffer k held ∷ after) l.lows (own ∷ l.highs) l.low_are (l.mine_are, l.high_are);
        few = all_append (IsFew s.options.group_rows) l.lows (own ∷ l.highs) l.few_low ((l.some, omega (arith, same, few)), l.few_high);
        rising = rising_with l.lows l.highs own l.below l.above l.rising;
        all = ap (λ (ws : List Row). in_order (key_of_row keys) (rows f.fulls ++ ws)) flat ∙ l.all;
        room = let r = l.room in omega (arith, a, b, r);
      }

  -- it fills a group
  fills_more : s.options.group_rows ≤ length held → Fills s (count + 1) (before ++ after) done
  fills_more full =
      let keys = s.table.keys in
      let schema = s.table.schema in
      let key = key_of_row keys in
      let g = written_group (s.next_group + count) k l.mine in
      let same = same_length keys k held l.mine l.mine_are.are in
      let rows_are : rows (f.fulls ++ g ∷ []) ≡ rows f.fulls ++ l.mine = rows_append f.fulls (g ∷ []) ∙ ap (λ (ws : List Row). rows f.fulls ++ ws) (append-nil l.mine) in
      let moved : in_order key (rows f.fulls ++ (l.mine ++ (rows_waiting l.lows ++ rows_waiting l.highs))) ≡ in_order key (rows f.fulls ++ (rows_waiting l.lows ++ (l.mine ++ rows_waiting l.highs)))
      = same_behind key (rows f.fulls) (l.mine ++ (rows_waiting l.lows ++ rows_waiting l.highs)) (rows_waiting l.lows ++ (l.mine ++ rows_waiting l.highs))
      (sym (to_front key k (rows_waiting l.lows) l.mine (rows_waiting l.highs) (below_waits schema keys k before l.lows l.low_are l.below) (keyed_rows schema keys k l.mine l.mine_are.rows_in))) in
      let flat = waiting_append l.lows l.highs in
      let a = ap length flat in
      let b = length-append (rows_waiting l.lows) (rows_waiting l.highs) in
      let longer = length-append f.fulls (g ∷ []) in
      let was = f.many in
      record {
        fulls = f.fulls ++ g ∷ [];
        whole = l.lows ++ l.highs;
        many = omega (arith, longer, was);
        numbered = from_append s.next_group (s.next_group + count) f.fulls (g ∷ []) f.numbered (omega (arith, was)) (refl, tt);
        each = all_append (IsGroupIn schema keys) f.fulls (g ∷ []) f.each (group_in s (s.next_group + count) k held l.mine l.mine_are l.some, tt);
        full = all_append (HasSize s.options.group_rows) f.fulls (g ∷ []) f.full (let m = l.most in omega (arith, same, m, full), tt);
        waits = joined schema keys before after l.lows l.highs l.low_are l.high_are;
        few = all_append (IsFew s.options.group_rows) l.lows l.highs l.few_low l.few_high;
        rising = l.rising;
        all = ap (λ (ws : List Row). in_order key (ws ++ rows_waiting (l.lows ++ l.highs))) rows_are
            ∙ ap (λ (ws : List Row). in_order key ((rows f.fulls ++ l.mine) ++ ws)) flat
            ∙ ap (in_order key) (append_assoc (rows f.fulls) l.mine (rows_waiting l.lows ++ rows_waiting l.highs))
            ∙ moved ∙ l.all;
        room = let r = l.room in let m = l.some in omega (arith, a, b, r, m);
      }

-- ---- all rows

module _ (s : State) (are_keys : AreKeys s.table.keys s.table.schema) (some : 1 ≤ s.options.group_rows) where
  abbrev size : ℕ
  size = s.options.group_rows

  -- nothing came yet
  begins : GoesOn s 0 []
  begins = record {
    waiting = [];
    fills = record { fulls = []; whole = []; many = refl; numbered = tt; each = tt; full = tt; waits = tt; few = tt; rising = tt; all = refl; room = omega arith };
    follows = follows_none s.table.keys size;
  }

  more_with : (count : ℕ) (waiting : List KeyRows) (done : List Row) (row : Row) → AreFine s (row ∷ []) → (f : Fills s count waiting done) → Follows s.table.keys size done waiting → IsRising (keys_in waiting)
      → Added (key_of_row s.table.keys row) (row_without_keys s.table.keys row) waiting → GoesOn s (count + length (filled_by s.table.keys size done row)) (done ++ row ∷ [])
  more_with count waiting done row fine f follows rising a = by (nat_lt (suc (length a.is.held)) size) refl
    where
      load : IsLoaded s (s.next_group + count) (rows f.fulls) (key_of_row s.table.keys row) a.is.before (a.is.held ++ row_without_keys s.table.keys row ∷ []) a.is.after (done ++ row ∷ [])
      load = loaded s (s.next_group + count) (rows f.fulls) done row are_keys fine some waiting a.new f.whole a.at f.waits f.few f.rising f.all f.room a.is

      same : is_same_key (key_of_row s.table.keys row) (key_of_row s.table.keys row) ≡ true
      same = key_same s.table.keys (key_of_row s.table.keys row) fine.0.1.values

      long : length (a.is.held ++ row_without_keys s.table.keys row ∷ []) ≡ suc (length a.is.held)
      long = one_longer a.is.held (row_without_keys s.table.keys row)

      by : (b : Bool) → nat_lt (suc (length a.is.held)) size ≡ b → GoesOn s (count + length (filled_by s.table.keys size done row)) (done ++ row ∷ [])
      by true few =
          let none = ap length (fills_none s.table.keys size done row same waiting a.new a.at follows rising a.is few) in
          subst (λ (n : ℕ). GoesOn s n (done ++ row ∷ [])) (omega (arith, none))
          (record {
            waiting = a.new;
            fills = subst (λ (ws : List KeyRows). Fills s count ws (done ++ row ∷ [])) (sym a.is.becomes)
                (waits_more s count (done ++ row ∷ []) (key_of_row s.table.keys row) a.is.before (a.is.held ++ row_without_keys s.table.keys row ∷ []) a.is.after waiting done f load
                (let below = ltb-true (suc (length a.is.held)) size few in let many = long in omega (arith, below, many)));
            follows = follows_waiting s.table.keys size done row same waiting a.new a.at follows rising a.is few;
          })
      by false full =
          let one = ap length (fills_one s.table.keys size done row same waiting a.new a.at follows rising a.is full) in
          subst (λ (n : ℕ). GoesOn s n (done ++ row ∷ [])) (omega (arith, one))
          (record {
            waiting = a.is.before ++ a.is.after;
            fills = fills_more s count (done ++ row ∷ []) (key_of_row s.table.keys row) a.is.before (a.is.held ++ row_without_keys s.table.keys row ∷ []) a.is.after waiting done f load
                (let above = ltb-false (suc (length a.is.held)) size full in let many = long in omega (arith, above, many));
            follows = follows_filled s.table.keys size done row same waiting a.new a.at follows rising a.is full;
          })

  rises : (count : ℕ) (done : List Row) (g : GoesOn s count done) → IsRising (keys_in g.waiting)
  rises count done g = subst (λ (ks : List Key). IsRising ks) (same_key_lists s.table.schema s.table.keys g.waiting g.fills.whole g.fills.waits) g.fills.rising

  one_more : (count : ℕ) (done : List Row) (row : Row) → AreFine s (row ∷ []) → GoesOn s count done → GoesOn s (count + length (filled_by s.table.keys size done row)) (done ++ row ∷ [])
  one_more count done row fine g =
      let rising = rises count done g in
      more_with count g.waiting done row fine g.fills g.follows rising
      (add (key_of_row s.table.keys row) (row_without_keys s.table.keys row) g.waiting (told s.table.schema s.table.keys (key_of_row s.table.keys row) g.waiting g.fills.whole fine.0.1 g.fills.waits) rising)

  all_come : (later : List Row) → AreFine s later → (count : ℕ) (done : List Row) → GoesOn s count done → GoesOn s (count + length (filled_after s.table.keys size done later)) (done ++ later)
  all_come [] fine count done g = subst (λ (rs : List Row). GoesOn s (count + 0) rs) (sym (append-nil done)) (subst (λ (n : ℕ). GoesOn s n done) (omega arith) g)
  all_come (row ∷ later) fine count done g =
      let here = filled_by s.table.keys size done row in
      let rest = filled_after s.table.keys size (done ++ row ∷ []) later in
      let both = length-append here rest in
      subst (λ (n : ℕ). GoesOn s n (done ++ row ∷ later)) (omega (arith, both))
      (subst (λ (rs : List Row). GoesOn s ((count + length here) + length rest) rs) (append_assoc done (row ∷ []) later)
      (all_come later fine.1 (count + length here) (done ++ row ∷ []) (one_more count done row (fine.0, tt) g)))

  -- what waits in the end are groups too
  ends : (count : ℕ) (given : List Row) (g : GoesOn s count given) → AreForeseen s (count + length g.waiting) given
  ends count given g =
      let f = g.fills in
      let key = key_of_row s.table.keys in
      let rests = rest_groups (s.next_group + count) f.whole in
      let kept = same_many s g.waiting f.whole f.waits in
      let last = rest_many (s.next_group + count) f.whole in
      let long = length-append f.fulls rests in
      let was = f.many in
      record {
        groups = f.fulls ++ rests;
        many = omega (arith, kept, last, long, was);
        numbered = from_append s.next_group (s.next_group + count) f.fulls rests f.numbered (omega (arith, was)) (rest_from (s.next_group + count) f.whole);
        each = all_append (IsGroupIn s.table.schema s.table.keys) f.fulls rests f.each (rest_in s size (s.next_group + count) g.waiting f.whole f.waits f.few);
        hold = ap (in_order key) (rows_append f.fulls rests) ∙ ap (λ (ws : List Row). in_order key (rows f.fulls ++ ws)) (rest_rows (s.next_group + count) f.whole) ∙ f.all;
        full = all_full size some f.fulls rests f.full (subst (λ (ks : List Key). IsRising ks) (sym (rest_keys (s.next_group + count) f.whole)) f.rising) (rest_up_to size (s.next_group + count) f.whole f.few);
        no_more = let r = f.room in let short = rest_short size f.whole f.few in omega (arith, r, short, kept);
      }

  -- the groups of rows, as many as they are gathered in
  pub foreseen : (given : List Row) → AreFine s given → (groups : List KeyRows) → AreGroups s.table.keys size given groups → AreForeseen s (length groups) given
  foreseen given fine groups are =
      let full = filled_after s.table.keys size [] given in
      let g = all_come given fine 0 [] begins in
      let same : g.waiting ≡ are.rests = same_rests s.table.keys size given g.waiting are.rests g.follows are.are (rises (0 + length full) given g) (waits_some size s g.waiting g.fills.whole g.fills.waits g.fills.few) in
      let kept = ap length same in
      let all = ap length are.parts in
      let both = length-append full are.rests in
      subst (λ (n : ℕ). AreForeseen s n given) (omega (arith, kept, all, both)) (ends (0 + length full) given g)
