-- The groups that files show, by the rows of their numbers; and what comes in the place of others.
use Rattle.std.proofs.Common.{◌≡◌, ℕ, Bool, true, false, ◌||◌, nat_eq, List, [], ◌∷◌, ◌++◌, map, flat_map, length, Option, Some, refl, sym, ◌∙◌, ap, subst, arith}
use Rattle.std.specs.Prelude.{if◌then◌else◌}
use Rattle.std.specs.List.{AllByRecursion}
use Rattle.std.proofs.Common.{eq-eqb}
use Rattle.std.proofs.lemmas.Bool.{eqb-true, false_from_ne_true as not_true}
use Rattle.std.proofs.lemmas.List.Elements.{filter-append}
use Rattle.lists.proofs.Lists.{all_append, all_left as front_of_all, all_right as rest_of_all}
use Rattle.schema.specs.Shape.{Fields}
use Rattle.schema.specs.Cutting.{is_among}
use Rattle.schema.specs.Keys.{KeyColumn, AreDistinct}
use Rattle.disk.specs.State.{State as DiskState}
use Rattle.manifest.specs.Groups.{Group as FileGroup, numbers_of}
use Rattle.planning.specs.Replaced.{Change, Run, gone, changes_for, changes_of, come_for, or_itself, replaced}
use Rattle.planning.specs.Numbered.{brought, brought_by}
use Rattle.planning.specs.Shown.{shown, all_shown}
use Rattle.table.specs.Table.{Row, Group, numbers}
use Rattle.table.specs.Commits.{with_numbers}
use Rattle.table.specs.State.{sources}
use Rattle.table.specs.Standing.{StandInRows}
use Rattle.table_state.specs.Stands.{IsStored, AreStored}
use Rattle.table_commits.proofs.DistinctNumbers.{Shares, distinct_back, shared_none, shared_back, among_front, among_back, none_joined}
use Rattle.table_commits.proofs.AppendCommits.{each_number}
use Rattle.table_commits.proofs.NumbersOfJobs.{numbers_joined}

-- ---- rows by number

-- the rows of the first group of this number
abbrev pub rows_at : List Group → ℕ → List Row
rows_at [] n = []
rows_at (g ∷ gs) n = if nat_eq g.number n then g.rows else rows_at gs n

abbrev pub rows_of : List Group → FileGroup → List Row
rows_of all f = rows_at all f.number

-- no later one has the number of the first
later_other : (n : ℕ) (hs : List Group) → is_among (numbers hs) n ≡ false → AllByRecursion (λ (h : Group). nat_eq n h.number ≡ false) hs
later_other n [] e = tt
later_other n (h ∷ hs) e = by (nat_eq n h.number) refl (later_other n hs)
  where
    rest : (b : Bool) → (b || is_among (numbers hs) n) ≡ false → is_among (numbers hs) n ≡ false
    rest false f = f
    rest true f = absurd (cc)

    clash : (b c : Bool) → b ≡ true → (b || c) ≡ false → ⊥
    clash true c f k = cc
    clash false c f k = cc

    by : (b : Bool) → nat_eq n h.number ≡ b → (is_among (numbers hs) n ≡ false → AllByRecursion (λ (x : Group). nat_eq n x.number ≡ false) hs) → AllByRecursion (λ (x : Group). nat_eq n x.number ≡ false) (h ∷ hs)
    by false f others = (f, others (rest (nat_eq h.number n) e))
    by true f others = absurd (clash (nat_eq h.number n) (is_among (numbers hs) n) (eq-eqb h.number n (sym (eqb-true n h.number f))) e)

pub each_at : (all : List Group) → AreDistinct (numbers all) → AllByRecursion (λ (g : Group). rows_at all g.number ≡ g.rows) all
each_at [] d = tt
each_at (g ∷ gs) d = (ap (λ (b : Bool). if b then g.rows else rows_at gs g.number) (eq-eqb g.number g.number refl), behind gs (later_other g.number gs d.0) (each_at gs d.1))
  where
    behind : (hs : List Group) → AllByRecursion (λ (h : Group). nat_eq g.number h.number ≡ false) hs → AllByRecursion (λ (h : Group). rows_at gs h.number ≡ h.rows) hs → AllByRecursion (λ (h : Group). rows_at (g ∷ gs) h.number ≡ h.rows) hs
    behind [] o e = tt
    behind (h ∷ hs) o e = (ap (λ (b : Bool). if b then g.rows else rows_at gs h.number) o.0 ∙ e.0, behind hs o.1 e.1)

module _ (disk : DiskState) (keys : List KeyColumn) (schema : Fields) (count : ℕ) (all : List Group) where
  abbrev Stored : FileGroup → Type 0
  Stored f = IsStored disk keys schema count f (shown (rows_of all) f)

  -- files show the groups that they are stored for
  pub shown_so : (fs : List FileGroup) (gs : List Group) → AreStored disk keys schema count fs gs → AllByRecursion (λ (g : Group). rows_at all g.number ≡ g.rows) gs → all_shown (rows_of all) fs ≡ gs
  shown_so [] [] z e = refl
  shown_so (f ∷ fs) (g ∷ gs) z e = one ∙ ap (λ (hs : List Group). g ∷ hs) (shown_so fs gs z.1 e.1)
    where
      rows_are : rows_at all f.number ≡ g.rows
      rows_are = ap (rows_at all) (sym z.0.number) ∙ e.0

      one : shown (rows_of all) f ∷ all_shown (rows_of all) fs ≡ g ∷ all_shown (rows_of all) fs
      one = λ i. (record { number = sym z.0.number i; key = sym z.0.key i; rows = rows_are i }) ∷ all_shown (rows_of all) fs
  shown_so [] (g ∷ gs) z e = absurd z
  shown_so (f ∷ fs) [] z e = absurd z

  each_stored : (fs : List FileGroup) → AreStored disk keys schema count fs (all_shown (rows_of all) fs) → AllByRecursion Stored fs
  each_stored [] z = tt
  each_stored (f ∷ fs) z = (z.0, each_stored fs z.1)

  pub all_each : (fs : List FileGroup) (gs : List Group) → AreStored disk keys schema count fs gs → all_shown (rows_of all) fs ≡ gs → AllByRecursion Stored fs
  all_each fs gs z e = each_stored fs (subst (λ (hs : List Group). AreStored disk keys schema count fs hs) (sym e) z)

  pub stored_each : (fs : List FileGroup) → AllByRecursion Stored fs → AreStored disk keys schema count fs (all_shown (rows_of all) fs)
  stored_each [] a = tt
  stored_each (f ∷ fs) a = (a.0, stored_each fs a.1)

  -- side by side
  pub shown_parts : (fs es : List FileGroup) (xs ys : List Group) → all_shown (rows_of all) (fs ++ es) ≡ xs ++ ys → length fs ≡ length xs → (all_shown (rows_of all) fs ≡ xs) × (all_shown (rows_of all) es ≡ ys)
  shown_parts [] es [] ys e l = (refl, e)
  shown_parts [] es (x ∷ xs) ys e l = absurd (omega (arith, l))
  shown_parts (f ∷ fs) es [] ys e l = absurd (omega (arith, l))
  shown_parts (f ∷ fs) es (x ∷ xs) ys e l = by (first _ x _ (xs ++ ys) e) (shown_parts fs es xs ys (later _ x _ (xs ++ ys) e) (omega (arith, l)))
    where
      first : (a b : Group) (gs hs : List Group) → a ∷ gs ≡ b ∷ hs → a ≡ b
      first a b gs hs h = cc

      later : (a b : Group) (gs hs : List Group) → a ∷ gs ≡ b ∷ hs → gs ≡ hs
      later a b gs hs h = cc

      by : shown (rows_of all) f ≡ x → (all_shown (rows_of all) fs ≡ xs) × (all_shown (rows_of all) es ≡ ys) → (all_shown (rows_of all) (f ∷ fs) ≡ x ∷ xs) × (all_shown (rows_of all) es ≡ ys)
      by h r = ((λ i. h i ∷ r.0 i), r.1)

-- what holds of each file holds of each group that it shows
pub all_seen : (all : List Group) (P : Group → Type 0) (fs : List FileGroup) → AllByRecursion (λ (f : FileGroup). P (shown (rows_of all) f)) fs → AllByRecursion P (all_shown (rows_of all) fs)
all_seen all P [] h = tt
all_seen all P (f ∷ fs) h = (h.0, all_seen all P fs h.1)

pub all_unseen : (all : List Group) (P : Group → Type 0) (fs : List FileGroup) → AllByRecursion P (all_shown (rows_of all) fs) → AllByRecursion (λ (f : FileGroup). P (shown (rows_of all) f)) fs
all_unseen all P [] h = tt
all_unseen all P (f ∷ fs) h = (h.0, all_unseen all P fs h.1)

-- ---- what comes

module _ (P : FileGroup → Type 0) where
  come_all : (cs : List Change) (g : FileGroup) (n : ℕ) → P g → AllByRecursion P (brought cs) → AllByRecursion P (or_itself g (come_for cs n))
  come_all [] g n h a = (h, tt)
  come_all (c ∷ cs) g n h a = by (nat_eq c.number n) (come_all cs g n h (rest_of_all P c.come (brought cs) a))
    where
      by : (b : Bool) → AllByRecursion P (or_itself g (come_for cs n)) → AllByRecursion P (or_itself g (if b then Some c.come else come_for cs n))
      by true r = front_of_all P c.come (brought cs) a
      by false r = r

  replaced_all : (cs : List Change) (gs : List FileGroup) → AllByRecursion P gs → AllByRecursion P (brought cs) → AllByRecursion P (replaced cs gs)
  replaced_all cs [] a b = tt
  replaced_all cs (g ∷ gs) a b = all_append P (or_itself g (come_for cs g.number)) (replaced cs gs) (come_all cs g g.number a.0 b) (replaced_all cs gs a.1 b)

  none_all : (ns : List ℕ) → AllByRecursion P (brought (map gone ns))
  none_all [] = tt
  none_all (n ∷ ns) = none_all ns

  brought_all : (cs ds : List Change) → AllByRecursion P (brought cs) → AllByRecursion P (brought ds) → AllByRecursion P (brought (cs ++ ds))
  brought_all [] ds a b = b
  brought_all (c ∷ cs) ds a b = all_append P c.come (brought (cs ++ ds)) (front_of_all P c.come (brought cs) a) (brought_all cs ds (rest_of_all P c.come (brought cs) a) b)

  for_all : (ns : List ℕ) (come : List FileGroup) → AllByRecursion P come → AllByRecursion P (brought (changes_for ns come))
  for_all [] come a = tt
  for_all (n ∷ ns) come a = all_append P come (brought (map gone ns)) a (none_all ns)

  runs_all : (rs : List Run) → AllByRecursion P (brought_by rs) → AllByRecursion P (brought (changes_of rs))
  runs_all [] a = tt
  runs_all (r ∷ rs) a = brought_all (changes_for r.sources r.come) (changes_of rs) (for_all r.sources r.come (front_of_all P r.come (brought_by rs) a)) (runs_all rs (rest_of_all P r.come (brought_by rs) a))

  -- what holds of the old groups and of all that come holds of the new ones
  pub rewritten_all : (rs : List Run) (gs : List FileGroup) → AllByRecursion P gs → AllByRecursion P (brought_by rs) → AllByRecursion P (replaced (changes_of rs) gs)
  rewritten_all rs gs a b = replaced_all (changes_of rs) gs a (runs_all rs b)

-- what comes for a number that is there is there
come_there : (cs : List Change) (n : ℕ) (come : List FileGroup) → come_for cs n ≡ Some come → (gs : List FileGroup) → is_among (numbers_of gs) n ≡ true → (m : ℕ) → is_among (numbers_of come) m ≡ true → is_among (numbers_of (replaced cs gs)) m ≡ true
come_there cs n come is [] there m h = absurd (cc)
come_there cs n come is (g ∷ gs) there m h = subst (λ (ns : List ℕ). is_among ns m ≡ true) (sym (numbers_joined (or_itself g (come_for cs g.number)) (replaced cs gs))) (by (nat_eq g.number n) refl there (λ f. come_there cs n come is gs f m h))
  where
    by : (b : Bool) → nat_eq g.number n ≡ b → (b || is_among (numbers_of gs) n) ≡ true → (is_among (numbers_of gs) n ≡ true → is_among (numbers_of (replaced cs gs)) m ≡ true) → is_among (numbers_of (or_itself g (come_for cs g.number)) ++ numbers_of (replaced cs gs)) m ≡ true
    by true e f later = among_front (numbers_of (or_itself g (come_for cs g.number))) (numbers_of (replaced cs gs)) m
        (subst (λ (o : Option (List FileGroup)). is_among (numbers_of (or_itself g o)) m ≡ true) (sym (ap (come_for cs) (eqb-true g.number n e) ∙ is)) h)
    by false e f later = among_back (numbers_of (or_itself g (come_for cs g.number))) (numbers_of (replaced cs gs)) m (later f)

-- so it is of the first run
pub first_there : (r : Run) (rs : List Run) (n : ℕ) (ns : List ℕ) → r.sources ≡ n ∷ ns → (gs : List FileGroup) → is_among (numbers_of gs) n ≡ true → (m : ℕ) → is_among (numbers_of r.come) m ≡ true → is_among (numbers_of (replaced (changes_of (r ∷ rs)) gs)) m ≡ true
first_there r rs n ns is gs there m h = come_there (changes_of (r ∷ rs)) n r.come
    (ap (λ (xs : List ℕ). come_for (changes_for xs r.come ++ changes_of rs) n) is ∙ ap (λ (b : Bool). if b then Some r.come else come_for (map gone ns ++ changes_of rs) n) (eq-eqb n n refl)) gs there m h

-- ---- the sources, picked by their numbers

abbrev pub numbers_in_all : List (List ℕ) → List ℕ
numbers_in_all nss = flat_map (λ ns. ns) nss

numbers_two : (xs ys : List Group) → numbers (xs ++ ys) ≡ numbers xs ++ numbers ys
numbers_two [] ys = refl
numbers_two (x ∷ xs) ys = ap (λ (ns : List ℕ). x.number ∷ ns) (numbers_two xs ys)

none_picked : (ns : List ℕ) (gs : List Group) → AllByRecursion (λ (g : Group). is_among ns g.number ≡ false) gs → with_numbers ns gs ≡ []
none_picked ns [] h = refl
none_picked ns (g ∷ gs) h = ap (λ (b : Bool). if b then g ∷ with_numbers ns gs else with_numbers ns gs) h.0 ∙ none_picked ns gs h.1

all_picked : (ns : List ℕ) (gs : List Group) → AllByRecursion (λ (g : Group). is_among ns g.number ≡ true) gs → with_numbers ns gs ≡ gs
all_picked ns [] h = refl
all_picked ns (g ∷ gs) h = ap (λ (b : Bool). if b then g ∷ with_numbers ns gs else with_numbers ns gs) h.0 ∙ ap (λ (hs : List Group). g ∷ hs) (all_picked ns gs h.1)

same_picked : (ns ms : List ℕ) (gs : List Group) → AllByRecursion (λ (g : Group). is_among ns g.number ≡ is_among ms g.number) gs → with_numbers ns gs ≡ with_numbers ms gs
same_picked ns ms [] h = refl
same_picked ns ms (g ∷ gs) h =
    ap (λ (b : Bool). if b then g ∷ with_numbers ns gs else with_numbers ns gs) h.0
    ∙ ap (λ (hs : List Group). if is_among ms g.number then g ∷ hs else hs) (same_picked ns ms gs h.1)

-- each by its number
-- numbers of runs that stand among groups are the groups' own
pub among_runs : (runs : List (List Group)) (gs : List Group) → StandInRows runs gs → (m : ℕ) → is_among (numbers_in_all (map numbers runs)) m ≡ true → is_among (numbers gs) m ≡ true
among_runs [] gs s m e = absurd (cc)
among_runs (run ∷ runs) gs s m e =
    subst (λ (hs : List Group). is_among (numbers hs) m ≡ true) (sym s.2)
    (subst (λ (ns : List ℕ). is_among ns m ≡ true) (sym (numbers_two s.0 (run ++ s.1) ∙ ap (λ (ns : List ℕ). numbers s.0 ++ ns) (numbers_two run s.1)))
    (among_back (numbers s.0) (numbers run ++ numbers s.1) m (either (is_among (numbers run) m) refl (among_runs runs s.1 s.4 m))))
  where
    other : (ns ms : List ℕ) → is_among (ns ++ ms) m ≡ true → is_among ns m ≡ false → is_among ms m ≡ true
    other ns ms f k = by (is_among ms m) refl
      where
        by : (b : Bool) → is_among ms m ≡ b → is_among ms m ≡ true
        by true g = g
        by false g = let c : true ≡ false = sym f ∙ none_joined ns ms m k g in absurd (cc)

    either : (b : Bool) → is_among (numbers run) m ≡ b → (is_among (numbers_in_all (map numbers runs)) m ≡ true → is_among (numbers s.1) m ≡ true) → is_among (numbers run ++ numbers s.1) m ≡ true
    either true f later = among_front (numbers run) (numbers s.1) m f
    either false f later = among_back (numbers run) (numbers s.1) m (later (other (numbers run) (numbers_in_all (map numbers runs)) e f))

-- the numbers of a run, and of those after it
abbrev numbers_with : List Group → List (List Group) → List ℕ
numbers_with run runs = numbers run ++ numbers_in_all (map numbers runs)

-- a run, and those after it
picked_more : (run : List Group) (runs : List (List Group)) (gs : List Group) (s : StandInRows (run ∷ runs) gs) → AreDistinct (numbers gs) → (AreDistinct (numbers s.1) → with_numbers (numbers_in_all (map numbers runs)) s.1 ≡ sources runs)
    → with_numbers (numbers_in_all (map numbers (run ∷ runs))) gs ≡ sources (run ∷ runs)
picked_more run runs gs s d later =
    ap (with_numbers (numbers_with run runs)) s.2 ∙ filter-append (λ (g : Group). is_among (numbers_with run runs) g.number) s.0 (run ++ s.1) ∙ ap (λ (hs : List Group). hs ++ with_numbers (numbers_with run runs) (run ++ s.1)) front
    ∙ filter-append (λ (g : Group). is_among (numbers_with run runs) g.number) run s.1 ∙ (λ i. own i ++ rest i)
  where
    parts : AreDistinct (numbers s.0 ++ (numbers run ++ numbers s.1))
    parts = subst AreDistinct (numbers_two s.0 (run ++ s.1) ∙ ap (λ (ns : List ℕ). numbers s.0 ++ ns) (numbers_two run s.1)) (subst (λ (hs : List Group). AreDistinct (numbers hs)) s.2 d)

    behind : AreDistinct (numbers run ++ numbers s.1)
    behind = distinct_back (numbers s.0) (numbers run ++ numbers s.1) parts

    -- a number before the run is none of these
    off : Shares (numbers s.0) (numbers run ++ numbers s.1)
    off = shared_none (numbers s.0) (numbers run ++ numbers s.1) parts

    none_after : (m : ℕ) → is_among (numbers s.1) m ≡ false → is_among (numbers_in_all (map numbers runs)) m ≡ false
    none_after m e = not_true (is_among (numbers_in_all (map numbers runs)) m) (λ h. let c : true ≡ false = sym (among_runs runs s.1 s.4 m h) ∙ e in cc)

    front : with_numbers (numbers_with run runs) s.0 ≡ []
    front = none_picked (numbers_with run runs) s.0 (each_number (λ m. is_among (numbers_with run runs) m ≡ false) s.0 (λ m e.
        let f = off m e in
        none_joined (numbers run) (numbers_in_all (map numbers runs)) m (not_true (is_among (numbers run) m) (λ h. let c : true ≡ false = sym (among_front (numbers run) (numbers s.1) m h) ∙ f in cc))
        (none_after m (not_true (is_among (numbers s.1) m) (λ h. let c : true ≡ false = sym (among_back (numbers run) (numbers s.1) m h) ∙ f in cc)))))

    own : with_numbers (numbers_with run runs) run ≡ run
    own = all_picked (numbers_with run runs) run (each_number (λ m. is_among (numbers_with run runs) m ≡ true) run (λ m e. among_front (numbers run) (numbers_in_all (map numbers runs)) m e))

    same : (m : ℕ) → is_among (numbers run) m ≡ false → is_among (numbers_with run runs) m ≡ is_among (numbers_in_all (map numbers runs)) m
    same m e = by (is_among (numbers_in_all (map numbers runs)) m) refl
      where
        by : (b : Bool) → is_among (numbers_in_all (map numbers runs)) m ≡ b → is_among (numbers_with run runs) m ≡ is_among (numbers_in_all (map numbers runs)) m
        by true f = among_back (numbers run) (numbers_in_all (map numbers runs)) m f ∙ sym f
        by false f = none_joined (numbers run) (numbers_in_all (map numbers runs)) m e f ∙ sym f

    rest : with_numbers (numbers_with run runs) s.1 ≡ sources runs
    rest = same_picked (numbers_with run runs) (numbers_in_all (map numbers runs)) s.1 (each_number (λ m. is_among (numbers_with run runs) m ≡ is_among (numbers_in_all (map numbers runs)) m) s.1 (λ m e. same m (shared_back (numbers run) (numbers s.1) (shared_none (numbers run) (numbers s.1) behind) m e)))
        ∙ later (distinct_back (numbers run) (numbers s.1) behind)

pub picked : (runs : List (List Group)) (gs : List Group) → StandInRows runs gs → AreDistinct (numbers gs) → with_numbers (numbers_in_all (map numbers runs)) gs ≡ sources runs
picked [] gs s d = none_picked [] gs (each_number (λ m. is_among [] m ≡ false) gs (λ m e. refl))
picked (run ∷ runs) gs s d = picked_more run runs gs s d (picked runs s.1 s.4)
