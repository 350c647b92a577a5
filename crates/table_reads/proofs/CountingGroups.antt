-- Counting the rows that satisfy, group by group.
use Rattle.std.proofs.Common.{◌≡◌, ◌<◌, ◌+◌, ℕ, zero, suc, Bool, true, false, not, ◌&&◌, List, [], ◌∷◌, ◌++◌, map, filter, drop, length, get_or, add-one, Option, Some, None, inl, inr, Result, Ok, Err, refl, sym, ◌∙◌, ap, subst, arith}
use Rattle.std.specs.Prelude.{if◌then◌else◌}
use Rattle.std.specs.List.{AllByRecursion}
use Rattle.std.proofs.lemmas.List.{length-map, length-append, append-nil}
use Rattle.std.specs.Rc.{rc_value}
use Rattle.std.specs.declared.rc.Rc.{Rc}
use Rattle.std.specs.declared.alloc.Global.{Global}
use Rattle.lists.proofs.Lists.{all_weaker, all_append}
use Rattle.manifest.specs.declared.block.Block.{Block}
use Rattle.bits.specs.declared.refusal.Refusal.{Refusal}
use Rattle.bits.specs.declared.refusal.Refusal.TheVariants.{Memory, Device}
use Rattle.bits.specs.Refusals.{HasCause}
use Rattle.schema.specs.Shape.{Fields}
use Rattle.schema.specs.Stripe.{Leaf, leaves_of}
use Rattle.schema.proofs.LeafPlaces.{one_if}
use Rattle.schema.specs.Keys.{KeyColumn, AreKeys, places_of, without_keys}
use Rattle.disk.specs.State.{State as DiskState}
use Rattle.vault.specs.declared.vault.Vault.{Vault}
use Rattle.vault.specs.Calls.{LeavesAll}
use Rattle.filter.specs.Test.{Test}
use Rattle.filter.specs.Terms.{tests_of}
use Rattle.filter.specs.Deciding.{satisfies as all_satisfied}
use Rattle.manifest.specs.Groups.{Group as FileGroup, Root, root_of, handles_view, groups_of_blocks}
use Rattle.manifest.specs.Records.{IsGroup}
use Rattle.scan.specs.Absent.{MayLack, NeedsNoFile}
use Rattle.scan.specs.Cost.{place_of, is_stored, is_read, count_read}
use Rattle.scan.specs.Faults.{IsDevice}
use Rattle.scan.specs.Selected.{Holds, AreSelected, cut_to}
use Rattle.table.specs.Table.{Row, Group, rows}
use Rattle.table.specs.Deciding.{Filter, passes, refusal_in}
use Rattle.table.specs.Plans.{row_count}
use Rattle.table.specs.State.{State}
use Rattle.table.specs.Faults.{first}
use Rattle.table.specs.Checks.{fault}
use Rattle.table.specs.Calls.{count, counted, refused}
use Rattle.table.specs.Refusing.{no_memory, failed as refused_failed}
use Rattle.table.proofs.Deciding.{tests_decide}
use Rattle.table.proofs.Steady.{stays}
use Rattle.table_state.specs.declared.standing.Core.{Core}
use Rattle.table_state.specs.Stands.{IsStored, AreStored, ShowsOpen, Stands}
use Rattle.table_reads.specs.Reading.{OnlyReads, IsReading}
use Rattle.table_reads.specs.Counting.{AreHeld, IsHeld, AreSpared, CanFilter, LacksIn, matching}
use Rattle.table_state.specs.Promises.{ActsFrom}
use Rattle.table_reads.proofs.AbsentFiles.{lacks_still}
use Rattle.table_reads.proofs.ReadsOfPassedGroups.{reading_here, reading_on, reading_poor}
use Rattle.table_reads.proofs.FetchesGoOn.{stored_left, stays_put}
use Rattle.table_reads.proofs.CountedRows.{fault_is}

-- ---- one group

pub held_there : (disk : DiskState) (tests : List (List Test)) (root : Root) (f : FileGroup) (g : Group) → IsHeld disk tests root f g → Holds disk root.keys root.schema f g.rows
held_there disk tests root f g h = record { bytes = h.stored.0.bytes; is = h.described.0; kept = h.stored.0.kept; means = h.stored.0.means }

-- how many rows were selected
pub selected_count : (tests : List (List Test)) (places : List ℕ) (g : Group) (out : List Row) → AreSelected tests places g.rows out → length out ≡ matching tests (g ∷ [])
selected_count tests places g out are =
    ap (λ (rs : List Row). length rs) (are (all_satisfied tests) (tests_decide tests)) ∙ length-map (filter (all_satisfied tests) g.rows) (cut_to places)
    ∙ ap (λ (rs : List Row). length (filter (all_satisfied tests) rs)) (sym (append-nil g.rows))

-- ---- side by side

module _ (tests : List (List Test)) where
  filter_joined : (xs ys : List Row) → filter (all_satisfied tests) (xs ++ ys) ≡ filter (all_satisfied tests) xs ++ filter (all_satisfied tests) ys
  filter_joined [] ys = refl
  filter_joined (x ∷ xs) ys = by (all_satisfied tests x) (filter_joined xs ys)
    where
      by : (b : Bool) → filter (all_satisfied tests) (xs ++ ys) ≡ filter (all_satisfied tests) xs ++ filter (all_satisfied tests) ys
          → (if b then x ∷ filter (all_satisfied tests) (xs ++ ys) else filter (all_satisfied tests) (xs ++ ys)) ≡ (if b then x ∷ filter (all_satisfied tests) xs else filter (all_satisfied tests) xs) ++ filter (all_satisfied tests) ys
      by true r = ap (λ (zs : List Row). x ∷ zs) r
      by false r = r

  rows_joined : (gs hs : List Group) → rows (gs ++ hs) ≡ rows gs ++ rows hs
  rows_joined [] hs = refl
  rows_joined (g ∷ gs) hs = ap (λ (rs : List Row). g.rows ++ rs) (rows_joined gs hs) ∙ sym (joined_three g.rows (rows gs) (rows hs))
    where
      joined_three : (xs ys zs : List Row) → (xs ++ ys) ++ zs ≡ xs ++ (ys ++ zs)
      joined_three [] ys zs = refl
      joined_three (x ∷ xs) ys zs = ap (λ (ws : List Row). x ∷ ws) (joined_three xs ys zs)

  matching_joined : (gs hs : List Group) → matching tests (gs ++ hs) ≡ matching tests gs + matching tests hs
  matching_joined gs hs =
      ap (λ (rs : List Row). length (filter (all_satisfied tests) rs)) (rows_joined gs hs) ∙ ap (λ (rs : List Row). length rs) (filter_joined (rows gs) (rows hs))
      ∙ length-append (filter (all_satisfied tests) (rows gs)) (filter (all_satisfied tests) (rows hs))

module _ (disk : DiskState) (root : Root) (n : ℕ) where
  abbrev Stored : List FileGroup → List Group → Type 0
  Stored fs gs = AreStored disk root.keys root.schema n fs gs

  abbrev Described : List FileGroup → Type 0
  Described fs = AllByRecursion (IsGroup root.keys (without_keys root.keys root.schema)) fs

  -- the first files and the others, and what they hold
  pub record Parts (fs es : List FileGroup) (all : List Group) : Type 0 where
    pub here : List Group
    pub left : List Group
    pub split : all ≡ here ++ left
    pub stored_here : Stored fs here
    pub described_here : Described fs
    pub stored_then : Stored es left
    pub described_left : Described es

  one_more : (f : FileGroup) (g : Group) (fs es : List FileGroup) (gs : List Group) → IsStored disk root.keys root.schema n f g → IsGroup root.keys (without_keys root.keys root.schema) f → Parts fs es gs → Parts (f ∷ fs) es (g ∷ gs)
  one_more f g fs es gs z d r = record {
    here = g ∷ r.here;
    left = r.left;
    split = ap (λ (hs : List Group). g ∷ hs) r.split;
    stored_here = (z, r.stored_here);
    described_here = (d, r.described_here);
    stored_then = r.stored_then;
    described_left = r.described_left;
  }

  pub parts_of : (fs es : List FileGroup) (all : List Group) → Stored (fs ++ es) all → Described (fs ++ es) → Parts fs es all
  parts_of [] es all z d = record { here = []; left = all; split = refl; stored_here = tt; described_here = tt; stored_then = z; described_left = d }
  parts_of (f ∷ fs) es (g ∷ gs) z d = one_more f g fs es gs z.0 d.0 (parts_of fs es gs z.1 d.1)
  parts_of (f ∷ fs) es [] z d = absurd z

-- ---- where part files are absent

-- what needs no part file after something was read needed none before
spared_before : (old mid : DiskState) → LeavesAll old mid → (tests : List (List Test)) (root : Root) (fs : List FileGroup) → AreSpared mid tests root [] fs → AreSpared old tests root [] fs
spared_before old mid leaves tests root fs spared =
    all_weaker (λ f. LacksIn mid root f → NeedsNoFile tests root.keys root.schema f []) (λ f. LacksIn old root f → NeedsNoFile tests root.keys root.schema f [])
    (λ f needs lacks. needs (lacks_still old mid leaves root.keys root.schema f lacks)) fs spared

-- nothing is read without a filter and without columns
none_counted : (keys : List ℕ) (width n : ℕ) (ls : List Leaf) → count_read [] keys width [] n ls ≡ 0
none_counted keys width n [] = refl
none_counted keys width n (l ∷ ls) =
    let rest = none_counted keys width (suc n) ls in
    let here : one_if (is_read [] keys width [] n l) ≡ 0 = by (is_stored keys width (place_of l.steps)) in
    omega (arith, here, rest)
  where
    by : (b : Bool) → one_if (b && false) ≡ 0
    by true = refl
    by false = refl

pub spared_all : (disk : DiskState) (root : Root) (fs : List FileGroup) → AreSpared disk [] root [] fs
spared_all disk root [] = tt
spared_all disk root (f ∷ fs) = ((λ lacks. inr (none_counted (places_of root.keys) f.width 0 (leaves_of root.schema))), spared_all disk root fs)

-- what was read of one group
pub read_spared : {T : Type 0} (tests : List (List Test)) (keys : List KeyColumn) (fs : Fields) (f : FileGroup) (r : Option T) → MayLack tests keys fs f [] r → NeedsNoFile tests keys fs f []
read_spared tests keys fs f None h = inl h
read_spared tests keys fs f (Some x) h = inr h

-- ---- so far

-- From the one disk to the other it was only read: so many rows satisfy, besides those of the files that are left.
pub record Tally (tests : List (List Test)) (root : Root) (old now : DiskState) (all left : List FileGroup) (found : ℕ) : Type 0 where
  pub read : IsReading old now
  -- no part file is needed of those that were counted
  pub spared : old.honest → CanFilter tests root → AreSpared old tests root [] left → AreSpared old tests root [] all
  pub rest : old.honest → (held : List Group) → AreHeld old tests root all held → (others : List Group) × AreHeld now tests root left others × (found + matching tests others ≡ matching tests held)

module _ (tests : List (List Test)) (root : Root) (old : DiskState) (all : List FileGroup) where
  pub tally_here : Tally tests root old old all all 0
  tally_here = record { read = reading_here old; spared = λ honest can left. left; rest = λ honest held h. (held, h, omega arith) }

  module _ (mid : DiskState) (left : List FileGroup) (found : ℕ) (so_far : Tally tests root old mid all left found) where
    module _ (fs es : List FileGroup) (are : left ≡ fs ++ es) where
      abbrev Split : List Group → Type 0
      Split held = (here : List Group) × (others : List Group) × AreHeld mid tests root fs here × AreHeld mid tests root es others × (found + (matching tests here + matching tests others) ≡ matching tests held)

      pub split_so : old.honest → (held : List Group) → AreHeld old tests root all held → Split held
      split_so honest held h =
          let now = so_far.rest honest held h in
          let stored = subst (λ (xs : List FileGroup). AreStored mid root.keys root.schema now.1.count xs now.0) are now.1.stored in
          let described = subst (λ (xs : List FileGroup). AllByRecursion (IsGroup root.keys (without_keys root.keys root.schema)) xs) are now.1.described in
          let p = parts_of mid root now.1.count fs es now.0 stored described in (
            p.here,
            p.left,
            record { over = h.over; keyed = h.keyed; count = now.1.count; stored = p.stored_here; described = p.described_here },
            record { over = h.over; keyed = h.keyed; count = now.1.count; stored = p.stored_then; described = p.described_left },
            ap (λ (n : ℕ). found + n) (sym (matching_joined tests p.here p.left)) ∙ ap (λ (gs : List Group). found + matching tests gs) (sym p.split) ∙ now.2,
          )

      spares_all : (mid.honest → CanFilter tests root → AreSpared mid tests root [] fs) → old.honest → CanFilter tests root → AreSpared old tests root [] es → AreSpared old tests root [] all
      spares_all spares honest can rest =
          so_far.spared honest can
          (subst (AreSpared old tests root []) (sym are)
          (all_append (λ f. LacksIn old root f → NeedsNoFile tests root.keys root.schema f []) fs es (spared_before old mid (so_far.read.unchanged honest) tests root fs (spares (so_far.read.honest.0 honest) can)) rest))

      -- these files are counted
      pub tally_on : {T : Type 0} (new : DiskState) (here sum : ℕ) (x : T) → OnlyReads mid new (Ok x) → (mid.honest → (g : List Group) → AreHeld mid tests root fs g → here ≡ matching tests g)
          → (mid.honest → CanFilter tests root → AreSpared mid tests root [] fs) → sum ≡ found + here → Tally tests root old new all es sum
      tally_on {T} new here sum x effect counts spares is = record {
        read = reading_on {T = T} old mid new x so_far.read effect;
        spared = spares_all spares;
        rest = λ honest held h.
            let parts = split_so honest held h in
            let n = counts (so_far.read.honest.0 honest) parts.0 parts.2 in
            let leaves = effect.unchanged (so_far.read.honest.0 honest) in
            let e = parts.4 in (
              parts.1,
              record { over = h.over; keyed = h.keyed; count = parts.3.count; stored = stored_left mid new leaves [] root.keys parts.3.count root.schema es parts.1 parts.3.stored; described = parts.3.described },
              omega (arith, is, n, e),
            );
      }

    -- none is left
    nothing_more : (n : ℕ) (held others : List Group) → AreStored mid root.keys root.schema n [] others → found + matching tests others ≡ matching tests held → found ≡ matching tests held
    nothing_more n held [] z e = omega (arith, e)
    nothing_more n held (g ∷ gs) z e = absurd z

    pub tally_done : left ≡ [] → old.honest → (held : List Group) → AreHeld old tests root all held → found ≡ matching tests held
    tally_done is_none honest held h =
        let now = so_far.rest honest held h in
        nothing_more now.1.count held now.0 (subst (λ (xs : List FileGroup). AreStored mid root.keys root.schema now.1.count xs now.0) is_none now.1.stored) now.2

    pub spared_done : left ≡ [] → old.honest → CanFilter tests root → AreSpared old tests root [] all
    spared_done is_none honest can = so_far.spared honest can (subst (AreSpared old tests root []) (sym is_none) tt)

    -- out of memory so far
    pub tally_poor : (T : Type 0) → OnlyReads {T = T} old mid (Err Memory)
    tally_poor T = reading_poor T old mid so_far.read

-- what is held of one file is one group
pub one_held : (disk : DiskState) (tests : List (List Test)) (root : Root) (f : FileGroup) (P : List Group → Type 0) → ((g : Group) → IsHeld disk tests root f g → P (g ∷ [])) → (gs : List Group) → AreHeld disk tests root (f ∷ []) gs → P gs
one_held disk tests root f P each [] h = absurd h.stored
one_held disk tests root f P each (g ∷ []) h = each g h
one_held disk tests root f P each (g ∷ k ∷ gs) h = absurd h.stored.1

-- the elements from one that is there, and after all
pub from_one : {A B : Type 0} (f : A → B) (xs : List A) (i : ℕ) (x : A) → i < length xs → x ≡ get_or xs i x → map f (drop i xs) ≡ (f x ∷ []) ++ map f (drop (i + 1) xs)
from_one {A = A} f xs i x h is = rw (add-one i) (by xs i h is)
  where
    by : (ys : List A) (n : ℕ) → n < length ys → x ≡ get_or ys n x → map f (drop n ys) ≡ (f x ∷ []) ++ map f (drop (suc n) ys)
    by [] n l e = absurd (omega (arith, l))
    by (y ∷ ys) zero l e = ap (λ (z : A). f z ∷ map f ys) (sym e)
    by (y ∷ ys) (suc n) l e = by ys n (omega (arith, l)) e

pub blocks_from : (xs : List (Rc Block Global)) (i : ℕ) (x : Rc Block Global) → i < length xs → x ≡ get_or xs i x → groups_of_blocks (drop i xs) ≡ handles_view (rc_value x).groups.items ++ groups_of_blocks (drop (i + 1) xs)
blocks_from xs i x h is = rw (add-one i) (by xs i h is)
  where
    by : (ys : List (Rc Block Global)) (n : ℕ) → n < length ys → x ≡ get_or ys n x → groups_of_blocks (drop n ys) ≡ handles_view (rc_value x).groups.items ++ groups_of_blocks (drop (suc n) ys)
    by [] n l e = absurd (omega (arith, l))
    by (y ∷ ys) zero l e = ap (λ (z : Rc Block Global). groups_of_blocks (z ∷ ys)) (sym e)
    by (y ∷ ys) (suc n) l e = by ys n (omega (arith, l)) e

-- ---- the call

module _ {D : Type 0} (state : D → DiskState) (store : Core D) (is_open : store.closed ≡ false) (s : State) (stands : Stands state store s) (terms : Filter) (tests : List (List Test))
    (schema : Fields) (schema_is : schema ≡ (root_of store.manifest).schema) (made : tests_of (leaves_of schema) terms ≡ Ok tests) where
  abbrev disk : DiskState
  disk = state store.vault.disk

  abbrev root : Root
  root = root_of store.manifest

  sure : s.closed ≡ false
  sure = sym stands.shows.closed ∙ is_open

  here : ShowsOpen disk store s
  here = stands.shows.shown sure

  made_here : tests_of (leaves_of root.schema) terms ≡ Ok tests
  made_here = ap (λ (fs : Fields). tests_of (leaves_of fs) terms) (sym schema_is) ∙ made

  made_there : tests_of (leaves_of s.table.schema) terms ≡ Ok tests
  made_there = ap (λ (fs : Fields). tests_of (leaves_of fs) terms) (sym stands.shows.schema) ∙ made_here

  pub table_held : AreHeld disk tests root root.groups s.table.groups
  table_held = record {
    over = (terms, made_here);
    keyed = subst (λ (ks : List KeyColumn). AreKeys ks root.schema) (sym stands.shows.keys) (subst (λ (fs : Fields). AreKeys s.table.keys fs) (sym stands.shows.schema) stands.shows.valid.keys);
    count = s.next_group;
    stored = subst (λ (ks : List KeyColumn). AreStored disk ks root.schema s.next_group root.groups s.table.groups) (sym stands.shows.keys)
        (subst (λ (fs : Fields). AreStored disk s.table.keys fs s.next_group root.groups s.table.groups) (sym stands.shows.schema) here.version);
    described = here.means.described.each;
  }

  unfaulted : fault s (count terms) ≡ None
  unfaulted = fault_is state store is_open s stands terms ∙ ap (λ (o : Option Refusal). first (None ∷ o ∷ [])) (ap refusal_in made_there)

  counted_so : matching tests s.table.groups ≡ row_count terms s.table
  counted_so = sym (ap (λ (r : Result (List (List Test)) Refusal). length (filter (passes r) (rows s.table.groups))) made_there)

  module _ (vault : Vault D) (leaves : LeavesAll disk (state vault.disk)) where
    pub counts_so : (n : ℕ) → n ≡ matching tests s.table.groups → ActsFrom state store (record store { vault = vault }) (count terms) (counted n) s
    counts_so n is = stays_put state store s stands sure vault leaves (count terms) (counted n) (unfaulted, (ap counted (is ∙ counted_so), refl))

    poor : ActsFrom state store (record store { vault = vault }) (count terms) (refused Memory) s
    poor = stays_put state store s stands sure vault leaves (count terms) (refused Memory) (no_memory refl (ap not sure) refl (stays s (count terms) refl))

    pub count_stopped : (e : Refusal) → HasCause IsDevice e → ActsFrom state store (record store { vault = vault }) (count terms) (refused e) s
    count_stopped Memory h = poor
    count_stopped e h = subst (λ (x : Refusal). ActsFrom state store (record store { vault = vault }) (count terms) (refused x) s) (sym h)
        (stays_put state store s stands sure vault leaves (count terms) (refused Device) (refused_failed refl (ap not sure) refl (stays s (count terms) refl)))
