-- An append's commit, once its groups are written: their versions, the table that comes, and that it is asked for.
use Rattle.std.proofs.Common.{◌≡◌, ◌≢◌, ◌≤◌, ◌<◌, ◌⊎◌, ℕ, suc, Bool, true, false, not, ◌||◌, nat_eq, List, [], ◌∷◌, ◌++◌, map, length, None, refl, sym, ◌∙◌, ap, subst, arith, inl, inr}
use Rattle.std.specs.Prelude.{if◌then◌else◌}
use Rattle.std.specs.List.{AllByRecursion}
use Rattle.std.specs.Ordering.{is_le}
use Rattle.std.proofs.lemmas.Bool.{and_from, eqb-true}
use Rattle.std.proofs.lemmas.Cmp.{nat_eq_equiv}
use Rattle.std.proofs.lemmas.List.{length-append, nil_from_length}
use Rattle.lists.proofs.Lists.{all_append, all_weaker as all_so}
use Rattle.bits.specs.declared.refusal.Refusal.TheVariants.{Page}
use Rattle.schema.specs.Values.{ValueTree}
use Rattle.schema.specs.Shape.{Fields}
use Rattle.schema.specs.Cutting.{is_among}
use Rattle.schema.specs.Keys.{KeyColumn, AreDistinct, without_keys}
use Rattle.partition.specs.Order.{key_cmp, AreInTableOrder}
use Rattle.disk.specs.State.{State as DiskState}
use Rattle.manifest.specs.Groups.{Group as FileGroup, Root, root_of, keys_of}
use Rattle.manifest.specs.Records.{IsGroup}
use Rattle.manifest.specs.Root.{IsDescription, stored_of}
use Rattle.manifest.specs.Laid.{IsRootTooHeavy}
use Rattle.snapshots.specs.State.{first_of, unless as unless_so}
use Rattle.snapshots.specs.Views.{state_of}
use Rattle.planning.specs.Told.{numbers_of}
use Rattle.table.specs.Table.{Row, Group, Table, IsTable, IsGroupIn, numbers}
use Rattle.table.specs.InOrder.{put_in_order, in_order}
use Rattle.table.specs.Commits.{appended, are_fresh}
use Rattle.table.specs.State.{State}
use Rattle.table.specs.Checks.{fault}
use Rattle.table.specs.Calls.{append}
use Rattle.table.specs.Leading.{Leads}
use Rattle.table.specs.Limits.{IsOver, root as over_root}
use Rattle.table.proofs.Counters.{counters_cover}
use Rattle.table_state.specs.declared.standing.Core.{Core}
use Rattle.table_state.specs.Stands.{IsStored, AreStored, ShowsOpen, Stands}
use Rattle.table_commits.specs.Writing.{counted}
use Rattle.table_commits.specs.Committing.{with_version, IsPlanned}
use Rattle.table_commits.specs.Acting.{WroteTo, AsksCommit}
use Rattle.table_commits.specs.Bringing.{IsBrought, PlacesInOrder, PlacesDistinct, AppendsAreReady}
use Rattle.table_commits.proofs.CommitsFromParts.{appends_ask}
use Rattle.table_commits.proofs.NumbersHad.{had_all}
use Rattle.table_commits.proofs.JobsAfterCommits.{jobs_left_so}
use Rattle.table_commits.proofs.SomeGroups.{distinct_test, order_test, same_numbers}
use Rattle.table_commits.proofs.PlannedWeights.{too_heavy_is_too_much}

-- ---- lists that are put in order

module _ {A : Type 0} (key : A → List ValueTree) where
  all_put : (P : A → Type 0) (x : A) (xs : List A) → P x → AllByRecursion P xs → AllByRecursion P (put_in_order key x xs)
  all_put P x [] p h = (p, tt)
  all_put P x (y ∷ ys) p h = by (is_le (key_cmp (key x) (key y))) (all_put P x ys p h.1)
    where
      by : (b : Bool) → AllByRecursion P (put_in_order key x ys) → AllByRecursion P (if b then x ∷ y ∷ ys else y ∷ put_in_order key x ys)
      by true r = (p, h)
      by false r = (h.0, r)

  pub all_order : (P : A → Type 0) (xs : List A) → AllByRecursion P xs → AllByRecursion P (in_order key xs)
  all_order P [] h = tt
  all_order P (x ∷ xs) h = all_put P x (in_order key xs) h.0 (all_order P xs h.1)

  length_put : (x : A) (xs : List A) → length (put_in_order key x xs) ≡ suc (length xs)
  length_put x [] = refl
  length_put x (y ∷ ys) = by (is_le (key_cmp (key x) (key y))) (length_put x ys)
    where
      by : (b : Bool) → length (put_in_order key x ys) ≡ suc (length ys) → length (if b then x ∷ y ∷ ys else y ∷ put_in_order key x ys) ≡ suc (suc (length ys))
      by true r = refl
      by false r = omega (arith, r)

  pub length_order : (xs : List A) → length (in_order key xs) ≡ length xs
  length_order [] = refl
  length_order (x ∷ xs) = let a = length_put x (in_order key xs) in let b = length_order xs in omega (arith, a, b)

-- ---- numbers

pub no_number : (gs : List FileGroup) (n floor : ℕ) → AllByRecursion (λ (g : FileGroup). floor ≤ g.number) gs → n < floor → is_among (numbers_of gs) n ≡ false
no_number [] n floor h low = refl
no_number (g ∷ gs) n floor h low = by (nat_eq g.number n) refl (no_number gs n floor h.1 low)
  where
    by : (b : Bool) → nat_eq g.number n ≡ b → is_among (numbers_of gs) n ≡ false → (b || is_among (numbers_of gs) n) ≡ false
    by true e r = let same = eqb-true g.number n e in let high = h.0 in absurd (omega (arith, same, high, low))
    by false e r = r

pub among_append : (xs ys : List FileGroup) (n : ℕ) → is_among (numbers_of xs) n ≡ false → is_among (numbers_of ys) n ≡ false → is_among (numbers_of (xs ++ ys)) n ≡ false
among_append [] ys n e f = f
among_append (x ∷ xs) ys n e f = by (nat_eq x.number n) (among_append xs ys n) e
  where
    by : (b : Bool) → (is_among (numbers_of xs) n ≡ false → is_among (numbers_of ys) n ≡ false → is_among (numbers_of (xs ++ ys)) n ≡ false) → (b || is_among (numbers_of xs) n) ≡ false → (b || is_among (numbers_of (xs ++ ys)) n) ≡ false
    by true r h = absurd (cc)
    by false r h = r h f

pub distinct_append : (floor : ℕ) (xs ys : List FileGroup) → AllByRecursion (λ (g : FileGroup). g.number < floor) xs → AllByRecursion (λ (g : FileGroup). floor ≤ g.number) ys
    → AreDistinct (numbers_of xs) → AreDistinct (numbers_of ys) → AreDistinct (numbers_of (xs ++ ys))
distinct_append floor [] ys low high d e = e
distinct_append floor (x ∷ xs) ys low high d e = (among_append xs ys x.number d.0 (no_number ys x.number floor high low.0), distinct_append floor xs ys low.1 high d.1 e)

-- what holds of each number of some groups holds of a number among them
pub at_number : (P : ℕ → Type 0) (gs : List Group) → AllByRecursion (λ (g : Group). P g.number) gs → (n : ℕ) → is_among (numbers gs) n ≡ true → P n
at_number P [] h n c = absurd (cc)
at_number P (g ∷ gs) h n c = by (nat_eq g.number n) (at_number P gs h.1 n) refl c
  where
    by : (b : Bool) → (is_among (numbers gs) n ≡ true → P n) → nat_eq g.number n ≡ b → (b || is_among (numbers gs) n) ≡ true → P n
    by true rest e k = subst P (eqb-true g.number n e) h.0
    by false rest e k = rest k

-- and back
pub each_number : (P : ℕ → Type 0) (gs : List Group) → ((n : ℕ) → is_among (numbers gs) n ≡ true → P n) → AllByRecursion (λ (g : Group). P g.number) gs
each_number P [] h = tt
each_number P (g ∷ gs) h = (h g.number (ap (λ (b : Bool). b || is_among (numbers gs) g.number) (itself g.number)), each_number P gs (λ n e. h n (later (nat_eq g.number n) (is_among (numbers gs) n) e)))
  where
    itself : (n : ℕ) → nat_eq n n ≡ true
    itself n = nat_eq_equiv.refl n

    later : (a b : Bool) → b ≡ true → (a || b) ≡ true
    later true b e = refl
    later false b e = e

-- ---- groups and their files

module _ (disk : DiskState) (keys : List KeyColumn) (schema : Fields) (count : ℕ) where
  pub stored_append : (fs es : List FileGroup) (gs hs : List Group) → AreStored disk keys schema count fs gs → AreStored disk keys schema count es hs → AreStored disk keys schema count (fs ++ es) (gs ++ hs)
  stored_append [] es [] hs z y = y
  stored_append (f ∷ fs) es (g ∷ gs) hs z y = (z.0, stored_append fs es gs hs z.1 y)
  stored_append [] es (g ∷ gs) hs z y = absurd z
  stored_append (f ∷ fs) es [] hs z y = absurd z

  stored_put : (f : FileGroup) (g : Group) (fs : List FileGroup) (gs : List Group) → IsStored disk keys schema count f g → AreStored disk keys schema count fs gs
      → AreStored disk keys schema count (put_in_order (λ (x : FileGroup). x.key) f fs) (put_in_order (λ (x : Group). x.key) g gs)
  stored_put f g [] [] one z = (one, tt)
  stored_put f g (e ∷ es) (h ∷ hs) one z = subst (λ (b : Bool). AreStored disk keys schema count (put_in_order (λ (x : FileGroup). x.key) f (e ∷ es)) (if b then g ∷ h ∷ hs else h ∷ put_in_order (λ (x : Group). x.key) g hs))
      (sym (ap (λ k. is_le (key_cmp k h.key)) one.key ∙ ap (λ k. is_le (key_cmp f.key k)) z.0.key)) (by (is_le (key_cmp f.key e.key)) (stored_put f g es hs one z.1))
    where
      by : (b : Bool) → AreStored disk keys schema count (put_in_order (λ (x : FileGroup). x.key) f es) (put_in_order (λ (x : Group). x.key) g hs)
          → AreStored disk keys schema count (if b then f ∷ e ∷ es else e ∷ put_in_order (λ (x : FileGroup). x.key) f es) (if b then g ∷ h ∷ hs else h ∷ put_in_order (λ (x : Group). x.key) g hs)
      by true r = (one, z)
      by false r = (z.0, r)
  stored_put f g [] (h ∷ hs) one z = absurd z
  stored_put f g (e ∷ es) [] one z = absurd z

  pub stored_order : (fs : List FileGroup) (gs : List Group) → AreStored disk keys schema count fs gs → AreStored disk keys schema count (in_order (λ (x : FileGroup). x.key) fs) (in_order (λ (x : Group). x.key) gs)
  stored_order [] [] z = tt
  stored_order (f ∷ fs) (g ∷ gs) z = stored_put f g (in_order (λ (x : FileGroup). x.key) fs) (in_order (λ (x : Group). x.key) gs) z.0 (stored_order fs gs z.1)
  stored_order [] (g ∷ gs) z = absurd z
  stored_order (f ∷ fs) [] z = absurd z

  pub same_keys : (fs : List FileGroup) (gs : List Group) → AreStored disk keys schema count fs gs → keys_of fs ≡ map (λ (g : Group). g.key) gs
  same_keys [] [] z = refl
  same_keys (f ∷ fs) (g ∷ gs) z = ap (λ k. k ∷ keys_of fs) (sym z.0.key) ∙ ap (λ ks. g.key ∷ ks) (same_keys fs gs z.1)
  same_keys [] (g ∷ gs) z = absurd z
  same_keys (f ∷ fs) [] z = absurd z

  -- what holds of each file's number holds of its group's
  pub numbers_too : (P : ℕ → Type 0) (fs : List FileGroup) (gs : List Group) → AreStored disk keys schema count fs gs → AllByRecursion (λ (f : FileGroup). P f.number) fs → AllByRecursion (λ (g : Group). P g.number) gs
  numbers_too P [] [] z h = tt
  numbers_too P (f ∷ fs) (g ∷ gs) z h = (subst P (sym z.0.number) h.0, numbers_too P fs gs z.1 h.1)
  numbers_too P [] (g ∷ gs) z h = absurd z
  numbers_too P (f ∷ fs) [] z h = absurd z

  pub numbers_back : (P : ℕ → Type 0) (fs : List FileGroup) (gs : List Group) → AreStored disk keys schema count fs gs → AllByRecursion (λ (g : Group). P g.number) gs → AllByRecursion (λ (f : FileGroup). P f.number) fs
  numbers_back P [] [] z h = tt
  numbers_back P (f ∷ fs) (g ∷ gs) z h = (subst P z.0.number h.0, numbers_back P fs gs z.1 h.1)
  numbers_back P [] (g ∷ gs) z h = absurd z
  numbers_back P (f ∷ fs) [] z h = absurd z

pub all_fresh : (had : ℕ → Bool) (gs : List Group) → AllByRecursion (λ (g : Group). had g.number ≡ false) gs → are_fresh had gs ≡ true
all_fresh had [] h = refl
all_fresh had (g ∷ gs) h = and_from (not (had g.number)) (are_fresh had gs) (ap not h.0) (all_fresh had gs h.1)

-- ---- the commit

module _ {D : Type 0} (state : D → DiskState) (old mid : Core D) (s : State) (counter : ℕ) (stands : Stands state old s) (is_open : s.closed ≡ false) (wrote : WroteTo state old mid s counter)
    (given : List Row) (come : List FileGroup) (added : List Group) (next : ℕ) (brought : IsBrought state mid s counter given come added next) (ordered : PlacesInOrder) (parted : PlacesDistinct) where
  abbrev disk : DiskState
  disk = state mid.vault.disk

  abbrev old_root : Root
  old_root = root_of mid.manifest

  abbrev files : List FileGroup
  files = in_order (λ (g : FileGroup). g.key) (old_root.groups ++ come)

  abbrev grown : Table
  grown = record s.table { groups = in_order (λ (g : Group). g.key) (s.table.groups ++ added); next = next }

  here : ShowsOpen disk mid (counted s counter)
  here = wrote.shows.shown is_open

  stored : AreStored disk s.table.keys s.table.schema counter files grown.groups
  stored = stored_order disk s.table.keys s.table.schema counter (old_root.groups ++ come) (s.table.groups ++ added)
      (stored_append disk s.table.keys s.table.schema counter old_root.groups come s.table.groups added here.version brought.stored)

  had_below : (n : ℕ) → s.had n ≡ true → n < s.next_group
  had_below = (counters_cover s stands.reached).had

  low_old : AllByRecursion (λ (g : FileGroup). g.number < s.next_group) old_root.groups
  low_old = numbers_back disk s.table.keys s.table.schema counter (λ n. n < s.next_group) old_root.groups s.table.groups here.version
      (each_number (λ n. n < s.next_group) s.table.groups (λ n e. had_below n (had_all s stands.reached n e)))

  not_had : (n : ℕ) → s.next_group ≤ n → s.had n ≡ false
  not_had n high = by (s.had n) refl
    where
      by : (b : Bool) → s.had n ≡ b → s.had n ≡ false
      by true e = let low = had_below n e in absurd (omega (arith, low, high))
      by false e = e

  files_distinct : AreDistinct (numbers_of files)
  files_distinct = parted (old_root.groups ++ come) (distinct_append s.next_group old_root.groups come low_old brought.above here.means.described.distinct brought.distinct)

  files_ordered : AreInTableOrder (keys_of files)
  files_ordered = ordered (old_root.groups ++ come)

  added_high : AllByRecursion (λ (g : Group). s.next_group ≤ g.number) added
  added_high = numbers_too disk s.table.keys s.table.schema counter (λ n. s.next_group ≤ n) come added brought.stored brought.above

  is_table : IsTable grown
  is_table =
      let v = stands.shows.valid in
      record {
        schema = v.schema;
        within = v.within;
        keys = v.keys;
        each = all_order (λ (g : Group). g.key) (IsGroupIn s.table.schema s.table.keys) (s.table.groups ++ added) (all_append (IsGroupIn s.table.schema s.table.keys) s.table.groups added v.each brought.each);
        in_order = subst (λ ks. AreInTableOrder ks) (same_keys disk s.table.keys s.table.schema counter files grown.groups stored) files_ordered;
        distinct = subst (λ (ns : List ℕ). AreDistinct ns) (same_numbers disk s.table.keys s.table.schema counter files grown.groups stored) files_distinct;
        below = all_order (λ (g : Group). g.key) (λ (g : Group). g.number < next) (s.table.groups ++ added) (all_append (λ (g : Group). g.number < next) s.table.groups added
            (all_so (λ (g : Group). g.number < s.table.next) (λ (g : Group). g.number < next) (λ g l. let m = brought.never_falls in omega (arith, l, m)) s.table.groups v.below)
            (numbers_too disk s.table.keys s.table.schema counter (λ n. n < next) come added brought.stored brought.below));
      }

  described : IsDescription (with_version old_root files next)
  described =
      let d = here.means.described in
      let same : IsGroup s.table.keys (without_keys s.table.keys s.table.schema) ≡ IsGroup old_root.keys (stored_of old_root) =
      ap (λ ks. IsGroup ks (without_keys ks s.table.schema)) (sym wrote.shows.keys) ∙ ap (λ fs. IsGroup old_root.keys (without_keys old_root.keys fs)) (sym wrote.shows.schema) in
      record {
        schema = d.schema;
        within = d.within;
        keys = d.keys;
        stored = d.stored;
        fits = let a = wrote.shows.counted in let b = brought.covered in omega (arith, a, b);
        each = all_order (λ (g : FileGroup). g.key) (IsGroup old_root.keys (stored_of old_root)) (old_root.groups ++ come) (all_append (IsGroup old_root.keys (stored_of old_root)) old_root.groups come d.each (subst (λ P. AllByRecursion P come) same brought.described));
        in_order = files_ordered;
        distinct = files_distinct;
        below = all_order (λ (g : FileGroup). g.key) (λ (g : FileGroup). g.number < next) (old_root.groups ++ come) (all_append (λ (g : FileGroup). g.number < next) old_root.groups come
            (all_so (λ (g : FileGroup). g.number < old_root.next) (λ (g : FileGroup). g.number < next) (λ g l. let m = brought.never_falls in let n = here.next in omega (arith, l, m, n)) old_root.groups d.below)
            brought.below);
      }

  pub planned : IsPlanned disk mid (counted s counter) grown s.jobs None (with_version old_root files next)
  planned = record {
    valid = is_table;
    keys = refl;
    schema_is = wrote.shows.schema;
    keys_are = wrote.shows.keys;
    next_is = refl;
    covers = brought.covered;
    stored = stored;
    described = described;
    unrefused = ap (λ (b : Bool). first_of (unless_so b Page ∷ [])) (and_from _ _ (distinct_test (numbers_of files) files_distinct) (order_test (keys_of files) files_ordered));
    jobs_are = jobs_left_so disk s.table.keys s.table.schema s.next_group counter s.options.group_rows brought.rises.no_less s.had grown
        (at_number (λ n. (s.had n ≡ true) ⊎ (s.next_group ≤ n)) grown.groups
        (all_order (λ (g : Group). g.key) (λ (g : Group). (s.had g.number ≡ true) ⊎ (s.next_group ≤ g.number)) (s.table.groups ++ added) (all_append (λ (g : Group). (s.had g.number ≡ true) ⊎ (s.next_group ≤ g.number)) s.table.groups added
        (each_number (λ n. (s.had n ≡ true) ⊎ (s.next_group ≤ n)) s.table.groups (λ n e. inl (had_all s stands.reached n e)))
        (all_so (λ (g : Group). s.next_group ≤ g.number) (λ (g : Group). (s.had g.number ≡ true) ⊎ (s.next_group ≤ g.number)) (λ g l. inr l) added added_high))))
        (state_of mid.snapshots) mid.jobs.items s.jobs wrote.jobs;
  }

  -- it brings groups
  more_groups : grown.groups ≡ s.table.groups → ⊥
  more_groups e =
      let a = length_order (λ (g : Group). g.key) (s.table.groups ++ added) in
      let b = length-append s.table.groups added in
      let c = ap (λ (gs : List Group). length gs) e in
      none (length added) refl (omega (arith, a, b, c))
    where
      none : (n : ℕ) → length added ≡ n → n ≡ 0 → ⊥
      none n is zero = brought.some (nil_from_length added (is ∙ zero))

  pub leads : Leads s (append given) (length given) grown counter
  leads = record {
    made = appended given;
    asked = refl;
    step = record {
      schema = refl;
      keys = refl;
      change = (
        record { added = added; placed = refl; hold = brought.hold; full = brought.full; fresh = all_fresh s.had added (all_so (λ (g : Group). s.next_group ≤ g.number) (λ (g : Group). s.had g.number ≡ false) (λ g l. not_had g.number l) added added_high) },
        refl,
      );
      table = is_table;
      never_falls = brought.never_falls;
      same = λ of_groups same. absurd (more_groups same);
    };
    rises = brought.rises;
    covers = brought.covered;
  }

  other : grown ≢ s.table
  other same = more_groups (ap (λ (t : Table). t.groups) same)

  pub asks : fault s (append given) ≡ None → AsksCommit s (append given) (length given) grown counter
  asks fine = appends_ask s given (length given) grown counter is_open fine leads other

  pub over : IsRootTooHeavy (with_version old_root files next) → IsOver s (append given)
  over heavy = over_root (length given) grown counter leads other (too_heavy_is_too_much disk counter grown (with_version old_root files next) wrote.shows.schema wrote.shows.keys stored described heavy)

pub appends_are_ready : {D : Type 0} (state : D → DiskState) → AppendsAreReady state
appends_are_ready state old mid s counter given come added next b = record {
  planned = planned state old mid s counter b.stands b.is_open b.wrote given come added next b.brought b.ordered b.parted;
  asks = asks state old mid s counter b.stands b.is_open b.wrote given come added next b.brought b.ordered b.parted;
  over = over state old mid s counter b.stands b.is_open b.wrote given come added next b.brought b.ordered b.parted;
}
