-- What comes in the place of each group, and that this is what a removal makes of a table's groups.
use Rattle.std.proofs.Common.{◌≡◌, ◌≤◌, ◌+◌, ℕ, zero, suc, Bool, true, false, not, ◌||◌, nat_eq, List, [], ◌∷◌, ◌++◌, map, filter, drop, length, Option, Some, None, refl, sym, ◌∙◌, ap, subst, arith, append_assoc}
use Rattle.std.specs.Prelude.{if◌then◌else◌, slice_get, nat_lt, Contains}
use Rattle.std.specs.List.{list_any, list_all, AllByRecursion, AllZip}
use Rattle.std.proofs.lemmas.Bool.{and_from, or_parts as neither}
use Rattle.std.proofs.lemmas.Cmp.{nat_eq_equiv}
use Rattle.std.proofs.lemmas.List.{append-nil, length-append}
use Rattle.lists.proofs.Slices.{drop_found_more as drop_more}
use Rattle.schema.specs.Shape.{Fields}
use Rattle.schema.specs.Cutting.{is_among}
use Rattle.schema.specs.Keys.{KeyColumn, AreDistinct}
use Rattle.disk.specs.State.{State as DiskState}
use Rattle.partition.specs.Folders.{CanPartition}
use Rattle.manifest.specs.Groups.{Group as FileGroup}
use Rattle.planning.specs.Told.{numbers_of}
use Rattle.planning.specs.Numbered.{brought}
use Rattle.planning.specs.Replaced.{Change, come_for, or_itself, replaced}
use Rattle.planning.specs.Shown.{HasKeyOf}
use Rattle.table.specs.Table.{Row, Key, Group, IsRowIn, IsGroupIn, rows}
use Rattle.table.specs.Commits.{has_rows, rest_of}
use Rattle.table.specs.Leading.{touched}
use Rattle.table_state.specs.Stands.{AreStored}
use Rattle.table_changes.specs.Removing.{Outcome, stays, goes, comes, IsLeft, not_those, files_at, groups_at, files_come, groups_come, change_for, changes_for}
use Rattle.table_commits.proofs.SomeGroups.{all_kept}

-- ---- any list

-- what is passed, and one more
pub passed_more : {A : Type 0} (all front : List A) (i : ℕ) (x : A) → slice_get all i ≡ Some x → all ≡ front ++ drop i all → all ≡ (front ++ x ∷ []) ++ drop (i + 1) all
passed_more all front i x at e = e ∙ ap (λ (xs : List _). front ++ xs) (drop_more all i x at) ∙ sym (append_assoc front (x ∷ []) (drop (i + 1) all))

module _ (test : Row → Bool) where
  pub filtered_both : (xs ys : List Row) → length (filter test (xs ++ ys)) ≡ length (filter test xs) + length (filter test ys)
  filtered_both [] ys = omega arith
  filtered_both (x ∷ xs) ys = by (test x) (filtered_both xs ys)
    where
      by : (b : Bool) → length (filter test (xs ++ ys)) ≡ length (filter test xs) + length (filter test ys)
          → length (if b then x ∷ filter test (xs ++ ys) else filter test (xs ++ ys)) ≡ length (if b then x ∷ filter test xs else filter test xs) + length (filter test ys)
      by true r = omega (arith, r)
      by false r = r

  -- where one passes, one is picked; where none does, none is
  pub some_picked : (xs : List Row) → list_any test xs ≡ true → 1 ≤ length (filter test xs)
  some_picked [] e = absurd (cc)
  some_picked (x ∷ xs) e = by (test x) (some_picked xs) e
    where
      by : (b : Bool) → (list_any test xs ≡ true → 1 ≤ length (filter test xs)) → (b || list_any test xs) ≡ true → 1 ≤ length (if b then x ∷ filter test xs else filter test xs)
      by true r f = omega arith
      by false r f = r f

  pub none_picked : (xs : List Row) → list_any test xs ≡ false → length (filter test xs) ≡ 0
  none_picked [] e = refl
  none_picked (x ∷ xs) e = by (test x) (none_picked xs) e
    where
      by : (b : Bool) → (list_any test xs ≡ false → length (filter test xs) ≡ 0) → (b || list_any test xs) ≡ false → length (if b then x ∷ filter test xs else filter test xs) ≡ 0
      by true r f = absurd (cc)
      by false r f = r f

  pub any_picked : (xs : List Row) → 1 ≤ length (filter test xs) → list_any test xs ≡ true
  any_picked [] h = absurd (omega (arith, h))
  any_picked (x ∷ xs) h = by (test x) (any_picked xs) h
    where
      by : (b : Bool) → (1 ≤ length (filter test xs) → list_any test xs ≡ true) → 1 ≤ length (if b then x ∷ filter test xs else filter test xs) → (b || list_any test xs) ≡ true
      by true r k = refl
      by false r k = r k

  pub no_picked : (xs : List Row) → length (filter test xs) ≡ 0 → list_any test xs ≡ false
  no_picked [] h = refl
  no_picked (x ∷ xs) h = by (test x) (no_picked xs) h
    where
      by : (b : Bool) → (length (filter test xs) ≡ 0 → list_any test xs ≡ false) → length (if b then x ∷ filter test xs else filter test xs) ≡ 0 → (b || list_any test xs) ≡ false
      by true r k = absurd (omega (arith, k))
      by false r k = r k

  pub picked_less : (xs : List Row) → length (filter test xs) ≤ length xs
  picked_less [] = omega arith
  picked_less (x ∷ xs) = by (test x) (picked_less xs)
    where
      by : (b : Bool) → length (filter test xs) ≤ length xs → length (if b then x ∷ filter test xs else filter test xs) ≤ suc (length xs)
      by true r = omega (arith, r)
      by false r = omega (arith, r)

  -- of those that do not pass none does
  pub rest_passes_not : (xs : List Row) → length (filter test (not_those test xs)) ≡ 0
  rest_passes_not [] = refl
  rest_passes_not (x ∷ xs) = by (test x) refl (rest_passes_not xs)
    where
      by : (b : Bool) → test x ≡ b → length (filter test (not_those test xs)) ≡ 0 → length (filter test (if not b then x ∷ not_those test xs else not_those test xs)) ≡ 0
      by true e r = r
      by false e r = ap (λ (c : Bool). length (if c then x ∷ filter test (not_those test xs) else filter test (not_those test xs))) e ∙ r

  -- ---- the groups that are touched

  pub touched_here : (g : Group) (gs : List Group) → list_any test g.rows ≡ true → length (rows (touched test (g ∷ gs))) ≡ length g.rows + length (rows (touched test gs))
  touched_here g gs e = ap (λ (b : Bool). length (rows (if b then g ∷ touched test gs else touched test gs))) e ∙ length-append g.rows (rows (touched test gs))

  pub untouched_here : (g : Group) (gs : List Group) → list_any test g.rows ≡ false → length (rows (touched test (g ∷ gs))) ≡ length (rows (touched test gs))
  untouched_here g gs e = ap (λ (b : Bool). length (rows (if b then g ∷ touched test gs else touched test gs))) e

-- ---- one outcome more

pub come_files : (os : List Outcome) (o : Outcome) → files_come (os ++ o ∷ []) ≡ files_come os ++ files_come (o ∷ [])
come_files [] o = refl
come_files (stays ∷ os) o = come_files os o
come_files (goes ∷ os) o = come_files os o
come_files (comes e h ∷ os) o = ap (λ (xs : List FileGroup). e ∷ xs) (come_files os o)

pub come_groups : (os : List Outcome) (o : Outcome) → groups_come (os ++ o ∷ []) ≡ groups_come os ++ groups_come (o ∷ [])
come_groups [] o = refl
come_groups (stays ∷ os) o = come_groups os o
come_groups (goes ∷ os) o = come_groups os o
come_groups (comes e h ∷ os) o = ap (λ (xs : List Group). h ∷ xs) (come_groups os o)

pub changes_more : (fs : List FileGroup) (os : List Outcome) (f : FileGroup) (o : Outcome) → length fs ≡ length os → changes_for (fs ++ f ∷ []) (os ++ o ∷ []) ≡ changes_for fs os ++ change_for f.number o
changes_more [] [] f o e = append-nil (change_for f.number o)
changes_more (g ∷ fs) (p ∷ os) f o e = ap (λ (cs : List Change). change_for g.number p ++ cs) (changes_more fs os f o (omega (arith, e))) ∙ sym (append_assoc (change_for g.number p) (changes_for fs os) (change_for f.number o))
changes_more [] (p ∷ os) f o e = absurd (omega (arith, e))
changes_more (g ∷ fs) [] f o e = absurd (omega (arith, e))

pub brought_are : (fs : List FileGroup) (os : List Outcome) → length fs ≡ length os → brought (changes_for fs os) ≡ files_come os
brought_are [] [] e = refl
brought_are (f ∷ fs) (stays ∷ os) e = brought_are fs os (omega (arith, e))
brought_are (f ∷ fs) (goes ∷ os) e = brought_are fs os (omega (arith, e))
brought_are (f ∷ fs) (comes x h ∷ os) e = ap (λ (xs : List FileGroup). x ∷ xs) (brought_are fs os (omega (arith, e)))
brought_are [] (o ∷ os) e = absurd (omega (arith, e))
brought_are (f ∷ fs) [] e = absurd (omega (arith, e))

-- ---- the change of each group

abbrev pub come_of : Outcome → Option (List FileGroup)
come_of stays = None
come_of goes = Some []
come_of (comes e h) = Some (e ∷ [])

abbrev pub HasCome : List Change → ℕ → Outcome → Type 0
HasCome cs n o = come_for cs n ≡ come_of o

abbrev pub HaveCome : List Change → List FileGroup → List Outcome → Type 0
HaveCome cs fs os = AllZip (λ (f : FileGroup) (o : Outcome). HasCome cs f.number o) fs os

come_none : (n : ℕ) (fs : List FileGroup) (os : List Outcome) → is_among (numbers_of fs) n ≡ false → come_for (changes_for fs os) n ≡ None
come_none n [] os e = refl
come_none n (f ∷ fs) [] e = refl
come_none n (f ∷ fs) (stays ∷ os) e = come_none n fs os (neither (nat_eq f.number n) (is_among (numbers_of fs) n) e).1
come_none n (f ∷ fs) (goes ∷ os) e =
    let p = neither (nat_eq f.number n) (is_among (numbers_of fs) n) e in
    ap (λ (b : Bool). if b then Some [] else come_for (changes_for fs os) n) p.0 ∙ come_none n fs os p.1
come_none n (f ∷ fs) (comes x h ∷ os) e =
    let p = neither (nat_eq f.number n) (is_among (numbers_of fs) n) e in
    ap (λ (b : Bool). if b then Some (x ∷ []) else come_for (changes_for fs os) n) p.0 ∙ come_none n fs os p.1

skip : (c : Change) (cs : List Change) (fs : List FileGroup) (os : List Outcome) → is_among (numbers_of fs) c.number ≡ false → HaveCome cs fs os → HaveCome (c ∷ cs) fs os
skip c cs [] [] e z = tt
skip c cs (f ∷ fs) (o ∷ os) e z =
    let p = neither (nat_eq f.number c.number) (is_among (numbers_of fs) c.number) e in
    (ap (λ (b : Bool). if b then Some c.come else come_for cs f.number) (nat_eq_equiv.symm c.number f.number ∙ p.0) ∙ z.0, skip c cs fs os p.1 z.1)
skip c cs [] (o ∷ os) e z = absurd z
skip c cs (f ∷ fs) [] e z = absurd z

pub have_come : (fs : List FileGroup) (os : List Outcome) → AreDistinct (numbers_of fs) → length fs ≡ length os → HaveCome (changes_for fs os) fs os
have_come [] [] d e = tt
have_come (f ∷ fs) (stays ∷ os) d e = (come_none f.number fs os d.0, have_come fs os d.1 (omega (arith, e)))
have_come (f ∷ fs) (goes ∷ os) d e =
    (ap (λ (b : Bool). if b then Some [] else come_for (changes_for fs os) f.number) (nat_eq_equiv.refl f.number), skip (record { number = f.number; come = [] }) (changes_for fs os) fs os d.0 (have_come fs os d.1 (omega (arith, e))))
have_come (f ∷ fs) (comes x h ∷ os) d e =
    (ap (λ (b : Bool). if b then Some (x ∷ []) else come_for (changes_for fs os) f.number) (nat_eq_equiv.refl f.number), skip (record { number = f.number; come = x ∷ [] }) (changes_for fs os) fs os d.0 (have_come fs os d.1 (omega (arith, e))))
have_come [] (o ∷ os) d e = absurd (omega (arith, e))
have_come (f ∷ fs) [] d e = absurd (omega (arith, e))

-- ---- what is there then

abbrev pub files_then : List FileGroup → List Outcome → List FileGroup
files_then (f ∷ fs) (o ∷ os) = files_at f o ++ files_then fs os
files_then _ _ = []

abbrev pub groups_then : List Group → List Outcome → List Group
groups_then (g ∷ gs) (o ∷ os) = groups_at g o ++ groups_then gs os
groups_then _ _ = []

itself_or : (f : FileGroup) (o : Outcome) → or_itself f (come_of o) ≡ files_at f o
itself_or f stays = refl
itself_or f goes = refl
itself_or f (comes e h) = refl

pub replaced_are : (cs : List Change) (fs : List FileGroup) (os : List Outcome) → HaveCome cs fs os → replaced cs fs ≡ files_then fs os
replaced_are cs [] [] z = refl
replaced_are cs (f ∷ fs) (o ∷ os) z = ap (λ c. or_itself f c ++ replaced cs fs) z.0 ∙ ap (λ (xs : List FileGroup). xs ++ replaced cs fs) (itself_or f o) ∙ ap (λ (xs : List FileGroup). files_at f o ++ xs) (replaced_are cs fs os z.1)
replaced_are cs [] (o ∷ os) z = absurd z
replaced_are cs (f ∷ fs) [] z = absurd z

-- what holds of each file that was there and of each that comes
pub all_then : (P : FileGroup → Type 0) (fs : List FileGroup) (os : List Outcome) → AllByRecursion P fs → AllByRecursion P (files_come os) → length fs ≡ length os → AllByRecursion P (files_then fs os)
all_then P [] [] h k e = tt
all_then P (f ∷ fs) (stays ∷ os) h k e = (h.0, all_then P fs os h.1 k (omega (arith, e)))
all_then P (f ∷ fs) (goes ∷ os) h k e = all_then P fs os h.1 k (omega (arith, e))
all_then P (f ∷ fs) (comes x g ∷ os) h k e = (k.0, all_then P fs os h.1 k.1 (omega (arith, e)))
all_then P [] (o ∷ os) h k e = absurd (omega (arith, e))
all_then P (f ∷ fs) [] h k e = absurd (omega (arith, e))

module _ (disk : DiskState) (keys : List KeyColumn) (schema : Fields) (count : ℕ) where
  abbrev Stored : List FileGroup → List Group → Type 0
  Stored fs gs = AreStored disk keys schema count fs gs

  pub stored_then : (fs : List FileGroup) (gs : List Group) (os : List Outcome) → Stored fs gs → Stored (files_come os) (groups_come os) → length fs ≡ length os → Stored (files_then fs os) (groups_then gs os)
  stored_then [] [] [] z w e = tt
  stored_then (f ∷ fs) (g ∷ gs) (stays ∷ os) z w e = (z.0, stored_then fs gs os z.1 w (omega (arith, e)))
  stored_then (f ∷ fs) (g ∷ gs) (goes ∷ os) z w e = stored_then fs gs os z.1 w (omega (arith, e))
  stored_then (f ∷ fs) (g ∷ gs) (comes x h ∷ os) z w e = (w.0, stored_then fs gs os z.1 w.1 (omega (arith, e)))
  stored_then [] (g ∷ gs) os z w e = absurd z
  stored_then (f ∷ fs) [] os z w e = absurd z
  stored_then [] [] (o ∷ os) z w e = absurd (omega (arith, e))
  stored_then (f ∷ fs) (g ∷ gs) [] z w e = absurd (omega (arith, e))

  -- what comes for a group has its key
  pub keyed_then : (test : Row → Bool) (cs : List Change) (fs : List FileGroup) (gs : List Group) (os : List Outcome) → Stored fs gs → Stored (files_come os) (groups_come os) → AllZip (IsLeft test) gs os → HaveCome cs fs os
      → AllByRecursion (λ (f : FileGroup). HasKeyOf f (come_for cs f.number)) fs
  keyed_then test cs [] gs os z w l c = tt
  keyed_then test cs (f ∷ fs) (g ∷ gs) (stays ∷ os) z w l c = (subst (λ o. HasKeyOf f o) (sym c.0) tt, keyed_then test cs fs gs os z.1 w l.1 c.1)
  keyed_then test cs (f ∷ fs) (g ∷ gs) (goes ∷ os) z w l c = (subst (λ o. HasKeyOf f o) (sym c.0) tt, keyed_then test cs fs gs os z.1 w l.1 c.1)
  keyed_then test cs (f ∷ fs) (g ∷ gs) (comes x h ∷ os) z w l c = (subst (λ o. HasKeyOf f o) (sym c.0) (sym w.0.key ∙ l.0.2 ∙ z.0.key, tt), keyed_then test cs fs gs os z.1 w.1 l.1 c.1)
  keyed_then test cs (f ∷ fs) [] os z w l c = absurd z
  keyed_then test cs (f ∷ fs) (g ∷ gs) [] z w l c = absurd l

module _ (schema : Fields) (keys : List KeyColumn) (test : Row → Bool) where
  one_left : (g h : Group) → IsGroupIn schema keys g → h.rows ≡ not_those test g.rows → h.key ≡ g.key → 1 ≤ length h.rows → IsGroupIn schema keys h
  one_left g h i rows_are key some = record {
    some = some;
    keyed = subst (λ (k : Key). CanPartition keys k) (sym key) i.keyed;
    rows_in = subst (λ (k : Key). AllByRecursion (IsRowIn schema keys k) h.rows) (sym key) (subst (λ (rs : List Row). AllByRecursion (IsRowIn schema keys g.key) rs) (sym rows_are)
        (all_kept (λ (row : Row). not (test row)) (IsRowIn schema keys g.key) g.rows i.rows_in));
  }

  pub each_then : (gs : List Group) (os : List Outcome) → AllByRecursion (IsGroupIn schema keys) gs → AllZip (IsLeft test) gs os → AllByRecursion (IsGroupIn schema keys) (groups_then gs os)
  each_then [] [] h l = tt
  each_then (g ∷ gs) (stays ∷ os) h l = (h.0, each_then gs os h.1 l.1)
  each_then (g ∷ gs) (goes ∷ os) h l = each_then gs os h.1 l.1
  each_then (g ∷ gs) (comes e x ∷ os) h l = (one_left g x h.0 l.0.1 l.0.2 l.0.3, each_then gs os h.1 l.1)
  each_then [] (o ∷ os) h l = absurd l
  each_then (g ∷ gs) [] h l = absurd l

module _ (test : Row → Bool) where
  -- no row that is left passes
  pub none_pass : (gs : List Group) (os : List Outcome) → AllZip (IsLeft test) gs os → length (filter test (rows (groups_then gs os))) ≡ 0
  none_pass [] [] l = refl
  none_pass (g ∷ gs) (stays ∷ os) l =
      let a = filtered_both test g.rows (rows (groups_then gs os)) in
      let b = none_picked test g.rows l.0 in
      let r = none_pass gs os l.1 in
      omega (arith, a, b, r)
  none_pass (g ∷ gs) (goes ∷ os) l = none_pass gs os l.1
  none_pass (g ∷ gs) (comes e h ∷ os) l =
      let a = filtered_both test h.rows (rows (groups_then gs os)) in
      let b = ap (λ (rs : List Row). length (filter test rs)) l.0.1 ∙ rest_passes_not test g.rows in
      let r = none_pass gs os l.1 in
      omega (arith, a, b, r)
  none_pass [] (o ∷ os) l = absurd l
  none_pass (g ∷ gs) [] l = absurd l

  -- where none passes, all groups stay
  pub all_stay : (gs : List Group) (os : List Outcome) → AllZip (IsLeft test) gs os → length (filter test (rows gs)) ≡ 0 → (groups_then gs os ≡ gs) × (length (rows (touched test gs)) ≡ 0)
  all_stay [] [] l none = (refl, refl)
  all_stay (g ∷ gs) (o ∷ os) l none = by o l.0 (all_stay gs os l.1 (omega (arith, both, none)))
    where
      both : length (filter test (g.rows ++ rows gs)) ≡ length (filter test g.rows) + length (filter test (rows gs))
      both = filtered_both test g.rows (rows gs)

      by : (p : Outcome) → IsLeft test g p → (groups_then gs os ≡ gs) × (length (rows (touched test gs)) ≡ 0) → (groups_at g p ++ groups_then gs os ≡ g ∷ gs) × (length (rows (touched test (g ∷ gs))) ≡ 0)
      by stays i r = (ap (λ (xs : List Group). g ∷ xs) r.0, untouched_here test g gs i ∙ r.1)
      by goes i r = absurd (let s = some_picked test g.rows i.0 in omega (arith, s, both, none))
      by (comes e h) i r = absurd (let s = some_picked test g.rows i.0 in omega (arith, s, both, none))
  all_stay [] (o ∷ os) l none = absurd l
  all_stay (g ∷ gs) [] l none = absurd l

-- ---- the removal

abbrev number_in : ℕ → Option (List FileGroup) → ℕ
number_in spare (Some (e ∷ es)) = e.number
number_in spare _ = spare

module _ (test : Row → Bool) (cs : List Change) (spare : ℕ) where
  abbrev pub renumbered : ℕ → ℕ
  renumbered n = number_in spare (come_for cs n)

  abbrev the_rest : Group → Group
  the_rest g = record { number = renumbered g.number; key = g.key; rows = not_those test g.rows }

  kept_first : (x : Group) (xs : List Group) → has_rows x ≡ true → filter has_rows (x ∷ xs) ≡ x ∷ filter has_rows xs
  kept_first x xs e = ap (λ (b : Bool). if b then x ∷ filter has_rows xs else filter has_rows xs) e

  gone_first : (x : Group) (xs : List Group) → has_rows x ≡ false → filter has_rows (x ∷ xs) ≡ filter has_rows xs
  gone_first x xs e = ap (λ (b : Bool). if b then x ∷ filter has_rows xs else filter has_rows xs) e

  is_rest : (g : Group) (b : Bool) → list_any test g.rows ≡ b → rest_of test renumbered g ≡ (if b then the_rest g else g)
  is_rest g b e = ap (λ (c : Bool). if c then the_rest g else g) e

  has_some : (g : Group) → 1 ≤ length g.rows → has_rows g ≡ true
  has_some g h = grind (arith, h)

  module _ (disk : DiskState) (keys : List KeyColumn) (schema : Fields) (count : ℕ) where
    pub rests_then : (fs : List FileGroup) (gs : List Group) (os : List Outcome) → AllByRecursion (λ (g : Group). 1 ≤ length g.rows) gs → AreStored disk keys schema count fs gs → AreStored disk keys schema count (files_come os) (groups_come os)
        → AllZip (IsLeft test) gs os → HaveCome cs fs os → groups_then gs os ≡ filter has_rows (map (rest_of test renumbered) gs)
    rests_then [] [] [] s z w l c = refl
    rests_then (f ∷ fs) (g ∷ gs) (stays ∷ os) s z w l c =
        ap (λ (xs : List Group). g ∷ xs) (rests_then fs gs os s.1 z.1 w l.1 c.1)
        ∙ sym (ap (λ (x : Group). filter has_rows (x ∷ map (rest_of test renumbered) gs)) (is_rest g false l.0) ∙ kept_first g (map (rest_of test renumbered) gs) (has_some g s.0))
    rests_then (f ∷ fs) (g ∷ gs) (goes ∷ os) s z w l c =
        rests_then fs gs os s.1 z.1 w l.1 c.1
        ∙ sym (ap (λ (x : Group). filter has_rows (x ∷ map (rest_of test renumbered) gs)) (is_rest g true l.0.0) ∙ gone_first (the_rest g) (map (rest_of test renumbered) gs) (ap (λ (rs : List Row). nat_lt 0 (length rs)) l.0.1))
    rests_then (f ∷ fs) (g ∷ gs) (comes e h ∷ os) s z w l c =
        ap (λ (xs : List Group). h ∷ xs) (rests_then fs gs os s.1 z.1 w.1 l.1 c.1)
        ∙ sym (ap (λ (x : Group). filter has_rows (x ∷ map (rest_of test renumbered) gs)) (is_rest g true l.0.0 ∙ is_it) ∙ kept_first h (map (rest_of test renumbered) gs) (has_some h l.0.3))
      where
        number_is : renumbered g.number ≡ h.number
        number_is = ap (λ (n : ℕ). renumbered n) z.0.number ∙ ap (number_in spare) c.0 ∙ sym w.0.number

        is_it : the_rest g ≡ h
        is_it = ap (λ (n : ℕ). record { number = n; key = g.key; rows = not_those test g.rows }) number_is
            ∙ ap (λ (k : Key). record { number = h.number; key = k; rows = not_those test g.rows }) (sym l.0.2)
            ∙ ap (λ (rs : List Row). record { number = h.number; key = h.key; rows = rs }) (sym l.0.1)
    rests_then [] (g ∷ gs) os s z w l c = absurd z
    rests_then (f ∷ fs) [] os s z w l c = absurd z
    rests_then [] [] (o ∷ os) s z w l c = absurd l
    rests_then (f ∷ fs) (g ∷ gs) [] s z w l c = absurd l

    -- the new numbers are ones that no table had
    module _ (had : ℕ → Bool) (fresh_spare : had spare ≡ false) where
      abbrev IsFresh : Group → Bool
      IsFresh g = not (list_any test g.rows) || not (had (renumbered g.number))

      fresh_now : (b : Bool) (n : ℕ) → had n ≡ false → (not b || not (had n)) ≡ true
      fresh_now true n e = ap not e
      fresh_now false n e = refl

      pub fresh_then : (fs : List FileGroup) (gs : List Group) (os : List Outcome) → AreStored disk keys schema count fs gs → AllByRecursion (λ (f : FileGroup). had f.number ≡ false) (files_come os) → AllZip (IsLeft test) gs os → HaveCome cs fs os
          → list_all IsFresh gs ≡ true
      fresh_then [] [] [] z w l c = refl
      fresh_then (f ∷ fs) (g ∷ gs) (stays ∷ os) z w l c = and_from (IsFresh g) (list_all IsFresh gs) (ap (λ (b : Bool). not b || not (had (renumbered g.number))) l.0) (fresh_then fs gs os z.1 w l.1 c.1)
      fresh_then (f ∷ fs) (g ∷ gs) (goes ∷ os) z w l c =
          let number_is : renumbered g.number ≡ spare = ap (λ (n : ℕ). renumbered n) z.0.number ∙ ap (number_in spare) c.0 in
          and_from (IsFresh g) (list_all IsFresh gs) (fresh_now (list_any test g.rows) (renumbered g.number) (ap had number_is ∙ fresh_spare)) (fresh_then fs gs os z.1 w l.1 c.1)
      fresh_then (f ∷ fs) (g ∷ gs) (comes e h ∷ os) z w l c =
          let number_is : renumbered g.number ≡ e.number = ap (λ (n : ℕ). renumbered n) z.0.number ∙ ap (number_in spare) c.0 in
          and_from (IsFresh g) (list_all IsFresh gs) (fresh_now (list_any test g.rows) (renumbered g.number) (ap had number_is ∙ w.0)) (fresh_then fs gs os z.1 w.1 l.1 c.1)
      fresh_then [] (g ∷ gs) os z w l c = absurd z
      fresh_then (f ∷ fs) [] os z w l c = absurd z
      fresh_then [] [] (o ∷ os) z w l c = absurd l
      fresh_then (f ∷ fs) (g ∷ gs) [] z w l c = absurd l

-- ---- a group at a place

contains_first : {A : Type 0} (x : A) (xs : List A) → Contains (x ∷ xs) x
contains_first x xs = (0, omega arith, refl)

contains_later : {A : Type 0} (x y : A) (xs : List A) → Contains xs x → Contains (y ∷ xs) x
contains_later x y xs c = (suc c.0, (let l = c.1 in omega (arith, l)), c.2)

pub touched_at : (test : Row → Bool) (gs : List Group) (i : ℕ) (g : Group) → slice_get gs i ≡ Some g → list_any test g.rows ≡ true → Contains (touched test gs) g
touched_at test [] i g at any = absurd (cc)
touched_at test (h ∷ gs) zero g at any =
    let same : h ≡ g = cc in
    subst (λ (xs : List Group). Contains xs g) (sym (ap (λ (b : Bool). if b then h ∷ touched test gs else touched test gs) (ap (λ (x : Group). list_any test x.rows) same ∙ any)))
    (subst (λ (x : Group). Contains (x ∷ touched test gs) g) (sym same) (contains_first g (touched test gs)))
touched_at test (h ∷ gs) (suc i) g at any = by (list_any test h.rows) (touched_at test gs i g at any)
  where
    by : (b : Bool) → Contains (touched test gs) g → Contains (if b then h ∷ touched test gs else touched test gs) g
    by true r = contains_later g h (touched test gs) r
    by false r = r
