-- The groups of an append in the order of their keys: their rows, and that they are full.
use Rattle.std.proofs.Common.{◌≡◌, ◌≤◌, ◌+◌, ◌*◌, ℕ, zero, suc, Bool, true, false, ◌==◌, nat_lt, nat_le, List, [], ◌∷◌, ◌++◌, length, take, drop, refl, sym, ◌∙◌, ap, subst, arith, eq-eqb, take_all}
use Rattle.std.specs.Prelude.{if◌then◌else◌}
use Rattle.std.specs.List.{AllByRecursion}
use Rattle.std.proofs.lemmas.Bool.{and_parts, and_from, lt-ltb, le-leb, eqb-true}
use Rattle.std.proofs.lemmas.List.{length-append}
use Rattle.schema.specs.Values.{ValueTree}
use Rattle.schema.specs.Keys.{KeyColumn, key_of_row}
use Rattle.partition.specs.Order.{is_same_key}
use Rattle.partition.proofs.SameKeys.{same_key}
use Rattle.table.specs.Table.{Row, Key, Group, rows, IsGroupIn, IsRowIn}
use Rattle.table.specs.InOrder.{put_in_order, in_order}
use Rattle.table.specs.Commits.{are_full, has_at_most}
use Rattle.planning.proofs.Ordered.{le, StartsAt, IsInOrder, put_front, sorted_stays}
use Rattle.table_state.specs.Buffers.{IsRising}
use Rattle.table_commits.specs.Filling.{HasSize, HasUpTo, group_keys}
use Rattle.table_commits.proofs.KeyOrder.{lt, lt_le, le_itself, lt_not_itself, not_le_back, put_first, put_later, Keyed, part_of, part_append, part_all, part_none}

abbrev pub by_key : Group → List ValueTree
by_key g = g.key

no_times : (size : ℕ) → 0 ≡ 0 * size
no_times size = omega arith

one_time_more : (i size : ℕ) → suc i * size ≡ size + i * size
one_time_more i size = grind arith

-- ---- their rows

module _ (keys : List KeyColumn) where
  abbrev row_key : Row → List ValueTree
  row_key = key_of_row keys

  abbrev pub IsKeyed : Group → Type 0
  IsKeyed g = (1 ≤ length g.rows) × Keyed row_key g.key g.rows

  abbrev puts : List Row → List Row → List Row
  puts [] ts = ts
  puts (r ∷ rs) ts = put_in_order row_key r (puts rs ts)

  puts_are : (rs xs : List Row) → in_order row_key (rs ++ xs) ≡ puts rs (in_order row_key xs)
  puts_are [] xs = refl
  puts_are (r ∷ rs) xs = ap (put_in_order row_key r) (puts_are rs xs)

  starts : (k : List ValueTree) (r : Row) (rs ts : List Row) → row_key r ≡ k → Keyed row_key k rs → StartsAt row_key k ts → StartsAt row_key (row_key r) (rs ++ ts)
  starts k r [] [] e a s = tt
  starts k r [] (t ∷ ts) e a s = ap (λ j. le j (row_key t)) e ∙ s
  starts k r (q ∷ qs) ts e a s = ap (λ j. le j (row_key q)) e ∙ ap (le k) a.0 ∙ le_itself k

  puts_here : (k : List ValueTree) (rs ts : List Row) → Keyed row_key k rs → StartsAt row_key k ts → puts rs ts ≡ rs ++ ts
  puts_here k [] ts a s = refl
  puts_here k (r ∷ rs) ts a s = ap (put_in_order row_key r) (puts_here k rs ts a.1 s) ∙ put_front row_key r (rs ++ ts) (starts k r rs ts a.0 a.1 s)

  put_past : (j : List ValueTree) (r : Row) (hs ts : List Row) → le (row_key r) j ≡ false → Keyed row_key j hs → put_in_order row_key r (hs ++ ts) ≡ hs ++ put_in_order row_key r ts
  put_past j r [] ts n a = refl
  put_past j r (h ∷ hs) ts n a = put_later row_key r h (hs ++ ts) (ap (le (row_key r)) a.0 ∙ n) ∙ ap (λ ws. h ∷ ws) (put_past j r hs ts n a.1)

  puts_past : (k j : List ValueTree) (rs hs ts : List Row) → le k j ≡ false → Keyed row_key k rs → Keyed row_key j hs → puts rs (hs ++ ts) ≡ hs ++ puts rs ts
  puts_past k j [] hs ts n a b = refl
  puts_past k j (r ∷ rs) hs ts n a b = ap (put_in_order row_key r) (puts_past k j rs hs ts n a.1 b) ∙ put_past j r hs (puts rs ts) (ap (λ i. le i j) a.0 ∙ n) b

  first_starts : (k : List ValueTree) (h : Group) (ts : List Row) → IsKeyed h → le k h.key ≡ true → StartsAt row_key k (h.rows ++ ts)
  first_starts k h ts a e = by h.rows a.0 a.1
    where
      by : (hs : List Row) → 1 ≤ length hs → Keyed row_key h.key hs → StartsAt row_key k (hs ++ ts)
      by [] some b = absurd (omega (arith, some))
      by (x ∷ xs) some b = ap (le k) b.0 ∙ e

  rows_put : (g : Group) (hs : List Group) → IsKeyed g → AllByRecursion IsKeyed hs → rows (put_in_order by_key g hs) ≡ puts g.rows (rows hs)
  rows_put g [] a b = sym (puts_here g.key g.rows [] a.1 tt)
  rows_put g (h ∷ hs) a b = by (rows_put g hs a b.1) (le g.key h.key) refl
    where
      by : rows (put_in_order by_key g hs) ≡ puts g.rows (rows hs) → (c : Bool) → le g.key h.key ≡ c → rows (put_in_order by_key g (h ∷ hs)) ≡ puts g.rows (h.rows ++ rows hs)
      by r true e = ap rows (put_first by_key g h hs e) ∙ sym (puts_here g.key g.rows (h.rows ++ rows hs) a.1 (first_starts g.key h (rows hs) b.0 e))
      by r false e = ap rows (put_later by_key g h hs e) ∙ ap (λ ws. h.rows ++ ws) r ∙ sym (puts_past g.key h.key g.rows h.rows (rows hs) e a.1 b.0.1)

  keyed_put : (g : Group) (hs : List Group) → IsKeyed g → AllByRecursion IsKeyed hs → AllByRecursion IsKeyed (put_in_order by_key g hs)
  keyed_put g [] a b = (a, tt)
  keyed_put g (h ∷ hs) a b = by (keyed_put g hs a b.1) (le g.key h.key)
    where
      by : AllByRecursion IsKeyed (put_in_order by_key g hs) → (c : Bool) → AllByRecursion IsKeyed (if c then g ∷ h ∷ hs else h ∷ put_in_order by_key g hs)
      by r true = (a, b)
      by r false = (b.0, r)

  keyed_order : (gs : List Group) → AllByRecursion IsKeyed gs → AllByRecursion IsKeyed (in_order by_key gs)
  keyed_order [] a = tt
  keyed_order (g ∷ gs) a = keyed_put g (in_order by_key gs) a.0 (keyed_order gs a.1)

  -- the rows of groups in order are the rows in order
  pub rows_in_order : (gs : List Group) → AllByRecursion IsKeyed gs → rows (in_order by_key gs) ≡ in_order row_key (rows gs)
  rows_in_order [] a = refl
  rows_in_order (g ∷ gs) a =
      rows_put g (in_order by_key gs) a.0 (keyed_order gs a.1) ∙ ap (puts g.rows) (rows_in_order gs a.1) ∙ sym (puts_are g.rows (rows gs))

  keyed_rows : (schema : _) (k : Key) (rs : List Row) → AllByRecursion (IsRowIn schema keys k) rs → Keyed row_key k rs
  keyed_rows schema k [] a = tt
  keyed_rows schema k (r ∷ rs) a = (a.0.keyed, keyed_rows schema k rs a.1)

  pub groups_keyed : (schema : _) (gs : List Group) → AllByRecursion (IsGroupIn schema keys) gs → AllByRecursion IsKeyed gs
  groups_keyed schema [] a = tt
  groups_keyed schema (g ∷ gs) a = ((a.0.some, keyed_rows schema g.key g.rows a.0.rows_in), groups_keyed schema gs a.1)

  -- ---- the part of a key

  pub full_part : (size : ℕ) (k : List ValueTree) (gs : List Group) → AllByRecursion IsKeyed gs → AllByRecursion (HasSize size) gs → (i : ℕ) × (length (part_of row_key k (rows gs)) ≡ i * size)
  full_part size k [] a f = (0, no_times size)
  full_part size k (g ∷ gs) a f = by (full_part size k gs a.1 f.1) (is_same_key g.key k) refl
    where
      both : part_of row_key k (rows (g ∷ gs)) ≡ part_of row_key k g.rows ++ part_of row_key k (rows gs)
      both = part_append row_key k g.rows (rows gs)

      by : (i : ℕ) × (length (part_of row_key k (rows gs)) ≡ i * size) → (c : Bool) → is_same_key g.key k ≡ c → (i : ℕ) × (length (part_of row_key k (rows (g ∷ gs))) ≡ i * size)
      by r true e =
          let same = same_key g.key k e in
          let mine = part_all row_key k g.rows (ap (λ j. is_same_key j k) (sym same) ∙ e) (subst (λ j. Keyed row_key j g.rows) same a.0.1) in
          let long = ap length (both ∙ ap (λ ws. ws ++ part_of row_key k (rows gs)) mine) ∙ length-append g.rows (part_of row_key k (rows gs)) in
          let one : length g.rows ≡ size = f.0 in
          let others = r.1 in
          (suc r.0, long ∙ ap (λ (n : ℕ). n + length (part_of row_key k (rows gs))) one ∙ ap (λ (n : ℕ). size + n) others ∙ sym (one_time_more r.0 size))
      by r false e =
          let none = part_none row_key k g.key g.rows e a.0.1 in
          (r.0, ap length (both ∙ ap (λ ws. ws ++ part_of row_key k (rows gs)) none) ∙ r.1)

  pub no_part : (k : List ValueTree) (gs : List Group) → AllByRecursion IsKeyed gs → AllByRecursion (λ (g : Group). lt g.key k ≡ true) gs → part_of row_key k (rows gs) ≡ []
  no_part k [] a l = refl
  no_part k (g ∷ gs) a l = part_append row_key k g.rows (rows gs) ∙ ap (λ ws. ws ++ part_of row_key k (rows gs)) (part_none row_key k g.key g.rows (by (is_same_key g.key k) refl) a.0.1) ∙ no_part k gs a.1 l.1
    where
      by : (c : Bool) → is_same_key g.key k ≡ c → is_same_key g.key k ≡ false
      by true e = absurd (lt_not_itself k (subst (λ j. lt j k ≡ true) (same_key g.key k e) l.0))
      by false e = e

-- ---- full groups

module _ (size : ℕ) where
  up_to : (g : Group) → HasUpTo size g → has_at_most size g ≡ true
  up_to g h = and_from (nat_lt 0 (length g.rows)) (nat_le (length g.rows) size) (lt-ltb 0 (length g.rows) (omega (arith, h.0))) (le-leb (length g.rows) size h.1)

  of_size : 1 ≤ size → (g : Group) → HasSize size g → HasUpTo size g
  of_size some g h = (omega (arith, some, h), omega (arith, h))

  -- the first of two
  abbrev is_first : Group → Group → Bool
  is_first g h = if is_same_key g.key h.key then length g.rows == size else has_at_most size g

  first_full : 1 ≤ size → (g h : Group) → HasSize size g → is_first g h ≡ true
  first_full some g h f = by (is_same_key g.key h.key)
    where
      by : (c : Bool) → (if c then length g.rows == size else has_at_most size g) ≡ true
      by true = eq-eqb (length g.rows) size f
      by false = up_to g (of_size some g f)

  first_other : (g h : Group) → is_same_key g.key h.key ≡ false → has_at_most size g ≡ true → is_first g h ≡ true
  first_other g h e m = ap (λ (c : Bool). if c then length g.rows == size else has_at_most size g) e ∙ m

  at_most : 1 ≤ size → (g h : Group) → is_first g h ≡ true → has_at_most size g ≡ true
  at_most some g h e = by (is_same_key g.key h.key) e
    where
      by : (c : Bool) → (if c then length g.rows == size else has_at_most size g) ≡ true → has_at_most size g ≡ true
      by true f = up_to g (of_size some g (eqb-true (length g.rows) size f))
      by false f = f

  head_most : 1 ≤ size → (g : Group) (gs : List Group) → are_full size (g ∷ gs) ≡ true → has_at_most size g ≡ true
  head_most some g [] e = e
  head_most some g (h ∷ hs) e = at_most some g h (and_parts (is_first g h) (are_full size (h ∷ hs)) e).0

  tail_full : (g : Group) (gs : List Group) → are_full size (g ∷ gs) ≡ true → are_full size gs ≡ true
  tail_full g [] e = refl
  tail_full g (h ∷ hs) e = (and_parts (is_first g h) (are_full size (h ∷ hs)) e).1

  other : (g h : Group) → lt g.key h.key ≡ true → is_same_key g.key h.key ≡ false
  other g h l = by (is_same_key g.key h.key) refl
    where
      by : (c : Bool) → is_same_key g.key h.key ≡ c → is_same_key g.key h.key ≡ false
      by true e = absurd (lt_not_itself h.key (subst (λ j. lt j h.key ≡ true) (same_key g.key h.key e) l))
      by false e = e

  -- behind a group that was in front of the others
  after_head : 1 ≤ size → (g h : Group) (hs : List Group) → lt h.key g.key ≡ true → are_full size (h ∷ hs) ≡ true → are_full size (put_in_order by_key g hs) ≡ true → are_full size (h ∷ put_in_order by_key g hs) ≡ true
  after_head some g h [] l e r = and_from (is_first h g) (are_full size (g ∷ [])) (first_other h g (other h g l) e) r
  after_head some g h (t ∷ ts) l e r = by (le g.key t.key) refl
    where
      by : (c : Bool) → le g.key t.key ≡ c → are_full size (h ∷ put_in_order by_key g (t ∷ ts)) ≡ true
      by true f =
          let same = put_first by_key g t ts f in
          subst (λ ws. are_full size (h ∷ ws) ≡ true) (sym same)
          (and_from (is_first h g) (are_full size (g ∷ t ∷ ts)) (first_other h g (other h g l) (head_most some h (t ∷ ts) e)) (subst (λ ws. are_full size ws ≡ true) same r))
      by false f =
          let same = put_later by_key g t ts f in
          subst (λ ws. are_full size (h ∷ ws) ≡ true) (sym same)
          (and_from (is_first h t) (are_full size (t ∷ put_in_order by_key g ts)) (and_parts (is_first h t) (are_full size (t ∷ ts)) e).0 (subst (λ ws. are_full size ws ≡ true) same r))

  put_full : 1 ≤ size → (g : Group) → HasSize size g → (hs : List Group) → are_full size hs ≡ true → are_full size (put_in_order by_key g hs) ≡ true
  put_full some g f [] e = up_to g (of_size some g f)
  put_full some g f (h ∷ hs) e = by (put_full some g f hs (tail_full h hs e)) (le g.key h.key) refl
    where
      by : are_full size (put_in_order by_key g hs) ≡ true → (c : Bool) → le g.key h.key ≡ c → are_full size (put_in_order by_key g (h ∷ hs)) ≡ true
      by r true l = subst (λ ws. are_full size ws ≡ true) (sym (put_first by_key g h hs l)) (and_from (is_first g h) (are_full size (h ∷ hs)) (first_full some g h f) e)
      by r false l = subst (λ ws. are_full size ws ≡ true) (sym (put_later by_key g h hs l)) (after_head some g h hs (not_le_back g.key h.key l) e r)

  rests_full : (rests : List Group) → IsRising (group_keys rests) → AllByRecursion (HasUpTo size) rests → are_full size rests ≡ true
  rests_full [] o u = refl
  rests_full (g ∷ []) o u = up_to g u.0
  rests_full (g ∷ h ∷ hs) o u = and_from (is_first g h) (are_full size (h ∷ hs)) (first_other g h (other g h o.0.0) (up_to g u.0)) (rests_full (h ∷ hs) o.1 u.1)

  rising_order : (rests : List Group) → IsRising (group_keys rests) → IsInOrder by_key rests
  rising_order [] o = tt
  rising_order (g ∷ []) o = (tt, tt)
  rising_order (g ∷ h ∷ hs) o = (lt_le g.key h.key o.0.0, rising_order (h ∷ hs) o.1)

  pub all_full : 1 ≤ size → (fulls rests : List Group) → AllByRecursion (HasSize size) fulls → IsRising (group_keys rests) → AllByRecursion (HasUpTo size) rests → are_full size (in_order by_key (fulls ++ rests)) ≡ true
  all_full some [] rests f o u = ap (are_full size) (sorted_stays by_key rests (rising_order rests o)) ∙ rests_full rests o u
  all_full some (g ∷ gs) rests f o u = put_full some g f.0 (in_order by_key (gs ++ rests)) (all_full some gs rests f.1 o u)

-- ---- parts of some size

drop_front : {A : Type 0} (n : ℕ) (xs ys : List A) → length xs ≡ n → drop n (xs ++ ys) ≡ ys
drop_front zero [] ys h = refl
drop_front (suc n) [] ys h = absurd (omega (arith, h))
drop_front zero (x ∷ xs) ys h = absurd (omega (arith, h))
drop_front (suc n) (x ∷ xs) ys h = drop_front n xs ys (omega (arith, h))

pub last_part : {A : Type 0} (size n : ℕ) (done part : List A) → length done ≡ n → length part ≤ size → part ≡ take size (drop n (done ++ part))
last_part size n done part e h = sym (ap (take size) (drop_front n done part e) ∙ take_all size part h)

take_front : {A : Type 0} (n : ℕ) (xs ys : List A) → length (take n xs) ≡ n → take n (xs ++ ys) ≡ take n xs
take_front zero xs ys e = refl
take_front (suc n) [] ys e = absurd (omega (arith, e))
take_front (suc n) (x ∷ xs) ys e = ap (λ ws. x ∷ ws) (take_front n xs ys (omega (arith, e)))

pub part_stays : {A : Type 0} (n m : ℕ) (xs ys : List A) → length (take n (drop m xs)) ≡ n → take n (drop m (xs ++ ys)) ≡ take n (drop m xs)
part_stays n zero xs ys e = take_front n xs ys e
part_stays n (suc m) (x ∷ xs) ys e = part_stays n m xs ys e
part_stays zero (suc m) [] ys e = refl
part_stays (suc n) (suc m) [] ys e = absurd (omega (arith, e))
