-- An append whose groups are so many that the root is too much: the table that it asks for, and that it is refused for it.
use Rattle.std.proofs.Common.{◌≡◌, ◌≢◌, ◌≤◌, ◌<◌, ◌+◌, ◌*◌, ℕ, suc, Bool, true, false, ◌||◌, nat_eq, List, [], ◌∷◌, ◌++◌, length, None, refl, sym, ◌∙◌, ap, subst, arith}
use Rattle.std.specs.Prelude.{if◌then◌else◌, sum_by}
use Rattle.std.specs.List.{AllByRecursion}
use Rattle.std.proofs.lemmas.Bool.{eqb-true, or_parts}
use Rattle.std.proofs.lemmas.Cmp.{nat_eq_equiv}
use Rattle.std.proofs.lemmas.List.{length-append, nil_from_length}
use Rattle.std.proofs.lemmas.List.Sums.{sum_by-cons}
use Rattle.lists.proofs.Lists.{all_append, all_weaker as all_so}
use Rattle.bits.specs.declared.refusal.Refusal.TheVariants.{Limit}
use Rattle.schema.specs.Values.{ValueTree}
use Rattle.schema.specs.Shape.{Fields}
use Rattle.schema.specs.Stripe.{Leaf, leaves_of}
use Rattle.schema.specs.Listed.{elements_of}
use Rattle.schema.specs.Cutting.{is_among}
use Rattle.schema.specs.Keys.{KeyColumn, AreDistinct, key_of_row, without_keys}
use Rattle.metadata.specs.Weight.{element_weight, key_weight}
use Rattle.footer.specs.declared.options.WriteOptions.{WriteOptions}
use Rattle.disk.specs.State.{State as DiskState}
use Rattle.partition.specs.Folders.{part_path_of}
use Rattle.gather.specs.declared.key_buffer.KeyBuffer.{KeyBuffer}
use Rattle.gather.specs.KeyBuffers.{Hold, HoldGroups}
use Rattle.manifest.specs.Groups.{Group as FileGroup, root_of}
use Rattle.manifest.specs.Root.{stored_of}
use Rattle.planning.proofs.Ordered.{le, in_order_is, to_table_order}
use Rattle.table.specs.Table.{Row, Group, Table, IsTable, IsGroupIn, numbers, rows}
use Rattle.table.specs.InOrder.{put_in_order, in_order}
use Rattle.table.specs.Commits.{appended}
use Rattle.table.specs.State.{State}
use Rattle.table.specs.Checks.{fault}
use Rattle.table.specs.Calls.{append, refused}
use Rattle.table.specs.Leading.{Leads}
use Rattle.table.specs.Limits.{root as over_root}
use Rattle.table.specs.Refusing.{over as refused_over, Stays}
use Rattle.table.specs.Weights.{chunk_weight, group_weight, IsRootTooMuch}
use Rattle.table.proofs.Counters.{counters_cover}
use Rattle.partition.specs.Splitting.{KeyRows}
use Rattle.table_state.specs.declared.standing.Core.{Core}
use Rattle.table_state.specs.Stands.{AreStored, Stands}
use Rattle.table_commits.specs.Writing.{counted}
use Rattle.table_state.specs.Promises.{ActsFrom}
use Rattle.table_changes.specs.RootLimit.{least_of_leaf, IsOverWith}
use Rattle.table_commits.proofs.CommitsFromParts.{refusals_act}
use Rattle.table_changes.proofs.AppendEnds.{all_fine}
use Rattle.table_commits.proofs.AppendCommits.{all_order, all_fresh, length_order}
use Rattle.table_commits.proofs.RowsFillGroups.{some_rows_fit}
use Rattle.table_changes.proofs.GroupsForeseen.{AreFrom, AreForeseen, foreseen}
use Rattle.table_commits.proofs.GroupsByKey.{rows_in_order, groups_keyed}
use Rattle.table_commits.proofs.FilesSoFar.{wrote_nothing}

abbrev by_key : Group → List ValueTree
by_key g = g.key

-- ---- numbers of groups that are put in order

or_turned : (a b c : Bool) → (a || (b || c)) ≡ (b || (a || c))
or_turned true true c = refl
or_turned true false c = refl
or_turned false b c = refl

put_numbers : (x : Group) (xs : List Group) (n : ℕ) → is_among (numbers (put_in_order by_key x xs)) n ≡ is_among (x.number ∷ numbers xs) n
put_numbers x [] n = refl
put_numbers x (y ∷ ys) n = by (le x.key y.key) (put_numbers x ys n)
  where
    by : (b : Bool) → is_among (numbers (put_in_order by_key x ys)) n ≡ is_among (x.number ∷ numbers ys) n
        → is_among (numbers (if b then x ∷ y ∷ ys else y ∷ put_in_order by_key x ys)) n ≡ is_among (x.number ∷ y.number ∷ numbers ys) n
    by true r = refl
    by false r = ap (λ c. nat_eq y.number n || c) r ∙ or_turned (nat_eq y.number n) (nat_eq x.number n) (is_among (numbers ys) n)

put_distinct : (x : Group) (xs : List Group) → is_among (numbers xs) x.number ≡ false → AreDistinct (numbers xs) → AreDistinct (numbers (put_in_order by_key x xs))
put_distinct x [] e d = (refl, tt)
put_distinct x (y ∷ ys) e d =
    let p = or_parts (nat_eq y.number x.number) (is_among (numbers ys) x.number) e in
    by (le x.key y.key) (put_distinct x ys p.1 d.1) p.0
  where
    by : (b : Bool) → AreDistinct (numbers (put_in_order by_key x ys)) → nat_eq y.number x.number ≡ false → AreDistinct (numbers (if b then x ∷ y ∷ ys else y ∷ put_in_order by_key x ys))
    by true r f = (e, d)
    by false r f = (put_numbers x ys y.number ∙ ap (λ c. c || is_among (numbers ys) y.number) (nat_eq_equiv.symm x.number y.number ∙ f) ∙ d.0, r)

order_numbers : (xs : List Group) (n : ℕ) → is_among (numbers (in_order by_key xs)) n ≡ is_among (numbers xs) n
order_numbers [] n = refl
order_numbers (x ∷ xs) n = put_numbers x (in_order by_key xs) n ∙ ap (λ c. nat_eq x.number n || c) (order_numbers xs n)

order_distinct : (xs : List Group) → AreDistinct (numbers xs) → AreDistinct (numbers (in_order by_key xs))
order_distinct [] d = tt
order_distinct (x ∷ xs) d = put_distinct x (in_order by_key xs) (order_numbers xs x.number ∙ d.0) (order_distinct xs d.1)

no_number : (gs : List Group) (n floor : ℕ) → AllByRecursion (λ (g : Group). floor ≤ g.number) gs → n < floor → is_among (numbers gs) n ≡ false
no_number [] n floor h low = refl
no_number (g ∷ gs) n floor h low = by (nat_eq g.number n) refl (no_number gs n floor h.1 low)
  where
    by : (b : Bool) → nat_eq g.number n ≡ b → is_among (numbers gs) n ≡ false → (b || is_among (numbers gs) n) ≡ false
    by true e r = let same = eqb-true g.number n e in let high = h.0 in absurd (omega (arith, same, high, low))
    by false e r = r

among_append : (xs ys : List Group) (n : ℕ) → is_among (numbers xs) n ≡ false → is_among (numbers ys) n ≡ false → is_among (numbers (xs ++ ys)) n ≡ false
among_append [] ys n e f = f
among_append (x ∷ xs) ys n e f = by (nat_eq x.number n) (among_append xs ys n) e
  where
    by : (b : Bool) → (is_among (numbers xs) n ≡ false → is_among (numbers ys) n ≡ false → is_among (numbers (xs ++ ys)) n ≡ false) → (b || is_among (numbers xs) n) ≡ false → (b || is_among (numbers (xs ++ ys)) n) ≡ false
    by true r h = absurd (cc)
    by false r h = r h f

distinct_append : (floor : ℕ) (xs ys : List Group) → AllByRecursion (λ (g : Group). g.number < floor) xs → AllByRecursion (λ (g : Group). floor ≤ g.number) ys → AreDistinct (numbers xs) → AreDistinct (numbers ys) → AreDistinct (numbers (xs ++ ys))
distinct_append floor [] ys low high d e = e
distinct_append floor (x ∷ xs) ys low high d e = (among_append xs ys x.number d.0 (no_number ys x.number floor high low.0), distinct_append floor xs ys low.1 high d.1 e)

-- ---- numbers from one on

from_high : (least n : ℕ) (gs : List Group) → least ≤ n → AreFrom n gs → AllByRecursion (λ (g : Group). least ≤ g.number) gs
from_high least n [] low a = tt
from_high least n (g ∷ gs) low a = (let is = a.0 in omega (arith, is, low), from_high least (suc n) gs (omega (arith, low)) a.1)

from_low : (n most : ℕ) (gs : List Group) → n + length gs ≤ most → AreFrom n gs → AllByRecursion (λ (g : Group). g.number < most) gs
from_low n most [] few a = tt
from_low n most (g ∷ gs) few a = (let is = a.0 in omega (arith, is, few), from_low (suc n) most gs (omega (arith, few)) a.1)

from_distinct : (n : ℕ) (gs : List Group) → AreFrom n gs → AreDistinct (numbers gs)
from_distinct n [] a = tt
from_distinct n (g ∷ gs) a = (no_number gs g.number (suc n) (from_high (suc n) (suc n) gs (omega arith) a.1) (let is = a.0 in omega (arith, is)), from_distinct (suc n) gs a.1)

-- ---- the least weight

one_time_more : (i size : ℕ) → suc i * size ≡ size + i * size
one_time_more i size = grind arith

leaf_weighs : (t : Table) (g : Group) (l : Leaf) → least_of_leaf l ≤ chunk_weight t g l
leaf_weighs t g l = by (sum_by (λ name. length name) l.path) (length (part_path_of t.keys g.key g.number))
  where
    by : (names path : ℕ) → 512 + names ≤ 512 + names + path
    by names path = omega arith

chunks_weigh : (t : Table) (g : Group) (ls : List Leaf) → sum_by least_of_leaf ls ≤ sum_by (chunk_weight t g) ls
chunks_weigh t g [] = omega arith
chunks_weigh t g (l ∷ ls) =
    let one = leaf_weighs t g l in
    let more = chunks_weigh t g ls in
    let least = sum_by-cons least_of_leaf l ls in
    let whole = sum_by-cons (chunk_weight t g) l ls in
    omega (arith, one, more, least, whole)

group_weighs : (t : Table) (least : ℕ) → least ≡ 64 + sum_by least_of_leaf (leaves_of (without_keys t.keys t.schema)) → (g : Group) → least ≤ group_weight t g
group_weighs t least is g = by (sum_by (chunk_weight t g) (leaves_of (without_keys t.keys t.schema))) (chunks_weigh t g (leaves_of (without_keys t.keys t.schema)))
  where
    by : (n : ℕ) → sum_by least_of_leaf (leaves_of (without_keys t.keys t.schema)) ≤ n → least ≤ 64 + n
    by n h = omega (arith, h, is)

groups_weigh : (t : Table) (least : ℕ) → least ≡ 64 + sum_by least_of_leaf (leaves_of (without_keys t.keys t.schema)) → (gs : List Group) → length gs * least ≤ sum_by (group_weight t) gs
groups_weigh t least is [] = omega arith
groups_weigh t least is (g ∷ gs) =
    let one = group_weighs t least is g in
    let more = groups_weigh t least is gs in
    let whole = sum_by-cons (group_weight t) g gs in
    let step = one_time_more (length gs) least in
    omega (arith, one, more, whole, step)

root_weighs : (t : Table) (least : ℕ) → least ≡ 64 + sum_by least_of_leaf (leaves_of (without_keys t.keys t.schema)) → 16777216 < length t.groups * least → IsRootTooMuch t
root_weighs t least is heavy =
    by (sum_by element_weight (elements_of (without_keys t.keys t.schema))) (sum_by (group_weight t) t.groups) (sum_by (λ (k : KeyColumn). key_weight k.name) t.keys) (groups_weigh t least is t.groups)
  where
    by : (elements groups keys : ℕ) → length t.groups * least ≤ groups → 16777216 < 1024 + elements + groups + keys
    by elements groups keys more = omega (arith, more, heavy)

-- ---- what is held

held_many : (fs : Fields) (buffers : List KeyBuffer) (groups : List KeyRows) → Hold fs buffers groups → length buffers ≡ length groups
held_many fs [] [] h = refl
held_many fs (b ∷ bs) (g ∷ gs) h = ap suc (held_many fs bs gs h.1)
held_many fs [] (g ∷ gs) h = absurd h
held_many fs (b ∷ bs) [] h = absurd h

stored_many : (disk : DiskState) (keys : List KeyColumn) (schema : Fields) (count : ℕ) (files : List FileGroup) (groups : List Group) → AreStored disk keys schema count files groups → length files ≡ length groups
stored_many disk keys schema count [] [] z = refl
stored_many disk keys schema count (f ∷ fs) (g ∷ gs) z = ap suc (stored_many disk keys schema count fs gs z.1)
stored_many disk keys schema count [] (g ∷ gs) z = absurd z
stored_many disk keys schema count (f ∷ fs) [] z = absurd z

-- ---- the table that the append asks for

module _ {D : Type 0} (state : D → DiskState) (old : Core D) (s : State) (stands : Stands state old s) (is_open : s.closed ≡ false) (given : List Row) (fine : fault s (append given) ≡ None) (some : given ≢ []) (count : ℕ)
    (seen : AreForeseen s count given) where
  abbrev added : List Group
  added = in_order by_key seen.groups

  abbrev counter : ℕ
  counter = s.next_group + count

  abbrev grown : Table
  grown = record s.table { groups = in_order by_key (s.table.groups ++ added); next = counter }

  some_added : added ≢ []
  some_added none =
      let a = length_order by_key seen.groups in
      let b = ap (λ (gs : List Group). length gs) none in
      let no_groups = nil_from_length seen.groups (sym a ∙ b) in
      let e : in_order (key_of_row s.table.keys) [] ≡ in_order (key_of_row s.table.keys) given = ap (λ (gs : List Group). in_order (key_of_row s.table.keys) (rows gs)) (sym no_groups) ∙ seen.hold in
      some (nil_from_length given (sym (length_order (key_of_row s.table.keys) given) ∙ ap length (sym e)))

  added_many : length added ≡ count
  added_many = length_order by_key seen.groups ∙ seen.many

  added_high : AllByRecursion (λ (g : Group). s.next_group ≤ g.number) added
  added_high = all_order by_key (λ (g : Group). s.next_group ≤ g.number) seen.groups (from_high s.next_group s.next_group seen.groups (omega arith) seen.numbered)

  added_low : AllByRecursion (λ (g : Group). g.number < counter) added
  added_low = all_order by_key (λ (g : Group). g.number < counter) seen.groups (from_low s.next_group counter seen.groups (let n = seen.many in omega (arith, n)) seen.numbered)

  added_each : AllByRecursion (IsGroupIn s.table.schema s.table.keys) added
  added_each = all_order by_key (IsGroupIn s.table.schema s.table.keys) seen.groups seen.each

  next_covers : s.table.next ≤ s.next_group
  next_covers = (counters_cover s stands.reached).next

  not_had : (n : ℕ) → s.next_group ≤ n → s.had n ≡ false
  not_had n high = by (s.had n) refl
    where
      by : (b : Bool) → s.had n ≡ b → s.had n ≡ false
      by true e = let low = (counters_cover s stands.reached).had n e in absurd (omega (arith, low, high))
      by false e = e

  is_table : IsTable grown
  is_table =
      let v = stands.shows.valid in
      let never = next_covers in
      let both = s.table.groups ++ added in
      record {
        schema = v.schema;
        within = v.within;
        keys = v.keys;
        each = all_order by_key (IsGroupIn s.table.schema s.table.keys) both (all_append (IsGroupIn s.table.schema s.table.keys) s.table.groups added v.each added_each);
        in_order = to_table_order by_key (in_order by_key both) (in_order_is by_key both);
        distinct = order_distinct both (distinct_append s.next_group s.table.groups added
            (all_so (λ (g : Group). g.number < s.table.next) (λ (g : Group). g.number < s.next_group) (λ g l. omega (arith, l, never)) s.table.groups v.below) added_high v.distinct
            (order_distinct seen.groups (from_distinct s.next_group seen.groups seen.numbered)));
        below = all_order by_key (λ (g : Group). g.number < counter) both (all_append (λ (g : Group). g.number < counter) s.table.groups added
            (all_so (λ (g : Group). g.number < s.table.next) (λ (g : Group). g.number < counter) (λ g l. omega (arith, l, never)) s.table.groups v.below) added_low);
      }

  -- it brings groups
  more_groups : grown.groups ≡ s.table.groups → ⊥
  more_groups e =
      let a = length_order by_key (s.table.groups ++ added) in
      let b = length-append s.table.groups added in
      let c = ap (λ (gs : List Group). length gs) e in
      none (length added) refl (omega (arith, a, b, c))
    where
      none : (n : ℕ) → length added ≡ n → n ≡ 0 → ⊥
      none n is zero = some_added (nil_from_length added (is ∙ zero))

  leads : Leads s (append given) (length given) grown counter
  leads = record {
    made = appended given;
    asked = refl;
    step = record {
      schema = refl;
      keys = refl;
      change = (
        record {
          added = added;
          placed = refl;
          hold = rows_in_order s.table.keys seen.groups (groups_keyed s.table.keys s.table.schema seen.groups seen.each) ∙ seen.hold;
          full = seen.full;
          fresh = all_fresh s.had added (all_so (λ (g : Group). s.next_group ≤ g.number) (λ (g : Group). s.had g.number ≡ false) (λ g l. not_had g.number l) added added_high);
        },
        refl,
      );
      table = is_table;
      never_falls = let never = next_covers in omega (arith, never);
      same = λ of_groups same. absurd (more_groups same);
    };
    rises = record { most = length given; work = refl; no_less = omega arith; no_more = seen.no_more };
    covers = omega arith;
  }

  -- where it weighs too much the append is refused Limit, and nothing changes
  over_with : IsRootTooMuch grown → ActsFrom state old old (append given) (refused Limit) s
  over_with heavy = refusals_act state old old s (append given) s.next_group Limit stands is_open (wrote_nothing state old s stands.shows is_open) (refused_over refl fine (over_root (length given) grown counter leads (λ same. more_groups (ap (λ (t : Table). t.groups) same)) heavy) stays)
    where
      stays : Stays s (append given) (counted s s.next_group)
      stays = record { counter = s.next_group; rises = record { most = length given; work = refl; no_less = omega arith; no_more = omega arith }; is = refl }

-- ---- the append

module _ {D : Type 0} (state : D → DiskState) (old : Core D) (s : State) (stands : Stands state old s) (is_open : s.closed ≡ false) (given : List Row) (fine : fault s (append given) ≡ None) (some : given ≢ []) where
  size_some : 1 ≤ s.options.group_rows
  size_some = subst (λ (o : WriteOptions). 1 ≤ o.group_rows) stands.shows.options (some_rows_fit old.options stands.shows.in_range)

  same_leaves : leaves_of (stored_of (root_of old.manifest)) ≡ leaves_of (without_keys s.table.keys s.table.schema)
  same_leaves = ap (λ (ks : List KeyColumn). leaves_of (without_keys ks (root_of old.manifest).schema)) stands.shows.keys ∙ ap (λ (fs : Fields). leaves_of (without_keys s.table.keys fs)) stands.shows.schema

  pub is_over : (buffers : List KeyBuffer) → HoldGroups s.table.keys s.options.group_rows (stored_of (root_of old.manifest)) given buffers → IsOverWith (root_of old.manifest) (length buffers)
      → ActsFrom state old old (append given) (refused Limit) s
  is_over buffers holds over =
      let many = held_many (stored_of (root_of old.manifest)) buffers holds.groups holds.held in
      let kept = stored_many (state old.vault.disk) s.table.keys s.table.schema s.next_group (root_of old.manifest).groups s.table.groups (stands.shows.shown is_open).version in
      let seen = foreseen s stands.shows.valid.keys size_some given (all_fine state old s stands is_open given fine) holds.groups holds.are in
      let t = grown state old s stands is_open given fine some (length holds.groups) seen in
      let new = added_many state old s stands is_open given fine some (length holds.groups) seen in
      let all : length t.groups ≡ length s.table.groups + length holds.groups =
      length_order by_key (s.table.groups ++ added state old s stands is_open given fine some (length holds.groups) seen)
      ∙ length-append s.table.groups (added state old s stands is_open given fine some (length holds.groups) seen) ∙ ap (λ (n : ℕ). length s.table.groups + n) new in
      let least = 64 + sum_by least_of_leaf (leaves_of (without_keys s.table.keys s.table.schema)) in
      let count : length (root_of old.manifest).groups + length buffers ≡ length t.groups = omega (arith, many, kept, all) in
      let heavy : 16777216 < length t.groups * least =
      subst (λ (n : ℕ). 16777216 < n * least) count (subst (λ (ls : List Leaf). 16777216 < (length (root_of old.manifest).groups + length buffers) * (64 + sum_by least_of_leaf ls)) same_leaves over) in
      over_with state old s stands is_open given fine some (length holds.groups) seen (root_weighs t least refl heavy)
