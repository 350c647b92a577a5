-- Some of the groups of a table, as they stand: their numbers, their order, their files and their rows.
use Rattle.std.proofs.Common.{◌≡◌, ◌+◌, ◌≤◌, ℕ, Bool, true, false, not, ◌||◌, nat_eq, List, [], ◌∷◌, ◌++◌, map, filter, length, refl, sym, ◌∙◌, ap, subst, arith}
use Rattle.std.specs.Prelude.{if◌then◌else◌}
use Rattle.std.specs.List.{AllByRecursion}
use Rattle.std.specs.Ordering.{is_le, is_gt}
use Rattle.std.specs.declared.cmp.Ordering.{Ordering}
use Rattle.std.specs.declared.cmp.Ordering.TheVariants.{Less, Equal, Greater}
use Rattle.std.proofs.lemmas.Bool.{and_from, eqb-true}
use Rattle.std.proofs.lemmas.Cmp.{upto}
use Rattle.std.proofs.lemmas.List.{length-append}
use Rattle.std.proofs.lemmas.List.Sums.{sum_by-cons}
use Rattle.schema.specs.Values.{ValueTree, ValueTrees}
use Rattle.schema.specs.Shape.{Fields}
use Rattle.schema.specs.Cutting.{is_among}
use Rattle.schema.specs.Keys.{KeyColumn, AreDistinct, AreRowsOf}
use Rattle.partition.specs.Order.{key_cmp, AreInTableOrder}
use Rattle.partition.proofs.SameKeys.{key_total}
use Rattle.disk.specs.State.{State as DiskState}
use Rattle.manifest.specs.Groups.{Group as FileGroup}
use Rattle.snapshots.specs.State.{are_distinct, are_in_order}
use Rattle.planning.specs.Told.{numbers_of}
use Rattle.planning.specs.Replaced.{without}
use Rattle.table.specs.Table.{Group, numbers, rows}
use Rattle.table.specs.Commits.{with_numbers, without_numbers}
use Rattle.table_state.specs.Stands.{IsStored, AreStored}
use Rattle.table_commits.specs.Dropping.{rows_in}

-- ---- any list

module _ {A : Type 0} (keep : A → Bool) where
  pub all_kept : (P : A → Type 0) (xs : List A) → AllByRecursion P xs → AllByRecursion P (filter keep xs)
  all_kept P [] h = tt
  all_kept P (x ∷ xs) h = by (keep x) (all_kept P xs h.1)
    where
      by : (b : Bool) → AllByRecursion P (filter keep xs) → AllByRecursion P (if b then x ∷ filter keep xs else filter keep xs)
      by true r = (h.0, r)
      by false r = r

  module _ (number : A → ℕ) where
    neither : (a b : Bool) → (a || b) ≡ false → (a ≡ false) × (b ≡ false)
    neither true b e = absurd (cc)
    neither false b e = (refl, e)

    pub among_kept : (xs : List A) (n : ℕ) → is_among (map number xs) n ≡ false → is_among (map number (filter keep xs)) n ≡ false
    among_kept [] n e = refl
    among_kept (x ∷ xs) n e = let p = neither (nat_eq (number x) n) (is_among (map number xs) n) e in by (keep x) (among_kept xs n p.1) p.0
      where
        by : (b : Bool) → is_among (map number (filter keep xs)) n ≡ false → nat_eq (number x) n ≡ false → is_among (map number (if b then x ∷ filter keep xs else filter keep xs)) n ≡ false
        by true r f = ap (λ (c : Bool). c || is_among (map number (filter keep xs)) n) f ∙ r
        by false r f = r

    pub distinct_kept : (xs : List A) → AreDistinct (map number xs) → AreDistinct (map number (filter keep xs))
    distinct_kept [] d = tt
    distinct_kept (x ∷ xs) d = by (keep x) (distinct_kept xs d.1)
      where
        by : (b : Bool) → AreDistinct (map number (filter keep xs)) → AreDistinct (map number (if b then x ∷ filter keep xs else filter keep xs))
        by true r = (among_kept xs (number x) d.0, r)
        by false r = r

  module _ (key : A → List ValueTree) where
    le : List ValueTree → List ValueTree → Bool
    le k l = is_le (key_cmp k l)

    not_gt : (o : Ordering) → is_le o ≡ true → is_gt o ≡ false
    not_gt Less h = refl
    not_gt Equal h = refl
    not_gt Greater h = absurd (cc)

    from_not_gt : (o : Ordering) → is_gt o ≡ false → is_le o ≡ true
    from_not_gt Less h = refl
    from_not_gt Equal h = refl
    from_not_gt Greater h = absurd (cc)

    le_trans : (a b c : List ValueTree) → is_le (key_cmp a b) ≡ true → is_le (key_cmp b c) ≡ true → is_le (key_cmp a c) ≡ true
    le_trans a b c h k = from_not_gt (key_cmp a c) (upto key_total a b c (not_gt (key_cmp a b) h) (not_gt (key_cmp b c) k))

    -- each key is at least this one
    abbrev Above : List ValueTree → List A → Type 0
    Above k xs = AllByRecursion (λ x. is_le (key_cmp k (key x)) ≡ true) xs

    above_later : (j k : List ValueTree) → is_le (key_cmp j k) ≡ true → (xs : List A) → Above k xs → Above j xs
    above_later j k h [] a = tt
    above_later j k h (x ∷ xs) a = (le_trans j k (key x) h a.0, above_later j k h xs a.1)

    all_above : (x : A) (xs : List A) → AreInTableOrder (key x ∷ map key xs) → Above (key x) xs
    all_above x [] h = tt
    all_above x (y ∷ ys) h = (h.0, above_later (key x) (key y) h.0 ys (all_above y ys h.1))

    before_all : (x : A) (xs : List A) → Above (key x) xs → AreInTableOrder (map key xs) → AreInTableOrder (key x ∷ map key xs)
    before_all x [] a o = tt
    before_all x (y ∷ ys) a o = (a.0, o)

    after_first : (x : A) (xs : List A) → AreInTableOrder (key x ∷ map key xs) → AreInTableOrder (map key xs)
    after_first x [] h = tt
    after_first x (y ∷ ys) h = h.1

    pub order_kept : (xs : List A) → AreInTableOrder (map key xs) → AreInTableOrder (map key (filter keep xs))
    order_kept [] h = tt
    order_kept (x ∷ xs) h = by (keep x) (order_kept xs (after_first x xs h)) (all_above x xs h)
      where
        by : (b : Bool) → AreInTableOrder (map key (filter keep xs)) → Above (key x) xs → AreInTableOrder (map key (if b then x ∷ filter keep xs else filter keep xs))
        by true r a = before_all x (filter keep xs) (all_kept (λ y. is_le (key_cmp (key x) (key y)) ≡ true) xs a) r
        by false r a = r

-- the versions' tests say the same
pub distinct_test : (ns : List ℕ) → AreDistinct ns → are_distinct ns ≡ true
distinct_test [] d = refl
distinct_test (n ∷ ns) d = and_from (not (is_among ns n)) (are_distinct ns) (ap not d.0) (distinct_test ns d.1)

pub order_test : (ks : List (List ValueTree)) → AreInTableOrder ks → are_in_order ks ≡ true
order_test [] h = refl
order_test (k ∷ []) h = refl
order_test (k ∷ l ∷ ks) h = and_from (is_le (key_cmp k l)) (are_in_order (l ∷ ks)) h.0 (order_test (l ∷ ks) h.1)

-- ---- groups and their files

module _ (disk : DiskState) (keys : List KeyColumn) (schema : Fields) (count : ℕ) where
  pub same_numbers : (files : List FileGroup) (groups : List Group) → AreStored disk keys schema count files groups → numbers_of files ≡ numbers groups
  same_numbers [] [] z = refl
  same_numbers (f ∷ fs) (g ∷ gs) z = ap (λ (n : ℕ). n ∷ numbers_of fs) (sym z.0.number) ∙ ap (λ (ns : List ℕ). g.number ∷ ns) (same_numbers fs gs z.1)
  same_numbers [] (g ∷ gs) z = absurd z
  same_numbers (f ∷ fs) [] z = absurd z

  pub stored_kept : (ns : List ℕ) (files : List FileGroup) (groups : List Group) → AreStored disk keys schema count files groups → AreStored disk keys schema count (without ns files) (without_numbers ns groups)
  stored_kept ns [] [] z = tt
  stored_kept ns (f ∷ fs) (g ∷ gs) z = subst (λ (b : Bool). AreStored disk keys schema count (without ns (f ∷ fs)) (if b then g ∷ without_numbers ns gs else without_numbers ns gs))
      (sym (ap (λ (n : ℕ). not (is_among ns n)) z.0.number)) (by (not (is_among ns f.number)) (stored_kept ns fs gs z.1))
    where
      by : (b : Bool) → AreStored disk keys schema count (without ns fs) (without_numbers ns gs)
          → AreStored disk keys schema count (if b then f ∷ without ns fs else without ns fs) (if b then g ∷ without_numbers ns gs else without_numbers ns gs)
      by true r = (z.0, r)
      by false r = r
  stored_kept ns [] (g ∷ gs) z = absurd z
  stored_kept ns (f ∷ fs) [] z = absurd z

  -- ---- how many rows

  as_many : (key : List ValueTree) (stored given : List ValueTrees) → AreRowsOf keys key stored given → length stored ≡ length given
  as_many key [] [] h = refl
  as_many key (s ∷ stored) (r ∷ given) h = let e = as_many key stored given h.1 in omega (arith, e)
  as_many key [] (r ∷ given) h = absurd h
  as_many key (s ∷ stored) [] h = absurd h

  length_mapped : {X Y : Type 0} (f : X → Y) (xs : List X) → length (map f xs) ≡ length xs
  length_mapped f [] = refl
  length_mapped f (x ∷ xs) = let e = length_mapped f xs in omega (arith, e)

  pub rows_told : (f : FileGroup) (g : Group) → IsStored disk keys schema count f g → f.known.rows ≡ length g.rows
  rows_told f g z = sym z.means.holds.count ∙ sym (length_mapped _ z.means.stored) ∙ as_many f.key _ g.rows z.means.keyed

  pub rows_counted : (files : List FileGroup) (groups : List Group) → AreStored disk keys schema count files groups → rows_in files ≡ length (rows groups)
  rows_counted [] [] z = refl
  rows_counted (f ∷ fs) (g ∷ gs) z =
      let here = rows_told f g z.0 in
      let rest = rows_counted fs gs z.1 in
      let one = sum_by-cons (λ (x : FileGroup). x.known.rows) f fs in
      let all = length-append g.rows (rows gs) in
      omega (arith, here, rest, one, all)
  rows_counted [] (g ∷ gs) z = absurd z
  rows_counted (f ∷ fs) [] z = absurd z

-- the rows of the one groups, and of the others
pub rows_parted : (ns : List ℕ) (groups : List Group) → length (rows (with_numbers ns groups)) + length (rows (without_numbers ns groups)) ≡ length (rows groups)
rows_parted ns [] = refl
rows_parted ns (g ∷ gs) = by (is_among ns g.number) (rows_parted ns gs)
  where
    by : (b : Bool) → length (rows (with_numbers ns gs)) + length (rows (without_numbers ns gs)) ≡ length (rows gs)
        → length (rows (if b then g ∷ with_numbers ns gs else with_numbers ns gs)) + length (rows (if not b then g ∷ without_numbers ns gs else without_numbers ns gs)) ≡ length (g.rows ++ rows gs)
    by true r = let a = length-append g.rows (rows (with_numbers ns gs)) in let b = length-append g.rows (rows gs) in omega (arith, a, b, r)
    by false r = let a = length-append g.rows (rows (without_numbers ns gs)) in let b = length-append g.rows (rows gs) in omega (arith, a, b, r)

pub kept_are_no_more : (ns : List ℕ) (files : List FileGroup) → rows_in (without ns files) ≤ rows_in files
kept_are_no_more ns [] = omega arith
kept_are_no_more ns (f ∷ fs) = by (not (is_among ns f.number)) (kept_are_no_more ns fs)
  where
    by : (b : Bool) → rows_in (without ns fs) ≤ rows_in fs → rows_in (if b then f ∷ without ns fs else without ns fs) ≤ rows_in (f ∷ fs)
    by true r = let a = sum_by-cons (λ (x : FileGroup). x.known.rows) f (without ns fs) in let b = sum_by-cons (λ (x : FileGroup). x.known.rows) f fs in omega (arith, a, b, r)
    by false r = let b = sum_by-cons (λ (x : FileGroup). x.known.rows) f fs in omega (arith, b, r)

-- without the groups of no numbers all are left; without that of a number that is among them there are others
pub none_leave : (gs : List Group) → without_numbers [] gs ≡ gs
none_leave [] = refl
none_leave (g ∷ gs) = ap (λ (hs : List Group). g ∷ hs) (none_leave gs)

pub none_go : (gs : List Group) → with_numbers [] gs ≡ []
none_go [] = refl
none_go (g ∷ gs) = none_go gs

pub left_out : (ns : List ℕ) (n : ℕ) (gs : List Group) → is_among ns n ≡ true → is_among (numbers (without_numbers ns gs)) n ≡ false
left_out ns n [] e = refl
left_out ns n (g ∷ gs) e = by (is_among ns g.number) refl (nat_eq g.number n) refl (left_out ns n gs e)
  where
    by : (b : Bool) → is_among ns g.number ≡ b → (c : Bool) → nat_eq g.number n ≡ c → is_among (numbers (without_numbers ns gs)) n ≡ false
        → is_among (numbers (if not b then g ∷ without_numbers ns gs else without_numbers ns gs)) n ≡ false
    by true f c h r = r
    by false f true h r = absurd (clash (sym (ap (is_among ns) (number_is g.number n h)) ∙ f) e)
      where
        clash : is_among ns n ≡ false → is_among ns n ≡ true → ⊥
        clash p q = let c : false ≡ true = sym p ∙ q in cc

        number_is : (a b : ℕ) → nat_eq a b ≡ true → a ≡ b
        number_is a b p = eqb-true a b p
    by false f false h r = ap (λ (c : Bool). c || is_among (numbers (without_numbers ns gs)) n) h ∙ r
