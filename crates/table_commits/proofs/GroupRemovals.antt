-- A removal of groups, from its plan to its end.
use Rattle.std.proofs.Common.{◌≡◌, ◌≢◌, ◌≤◌, ◌<◌, ◌+◌, ◌⊎◌, ℕ, Bool, true, false, not, ◌||◌, List, [], ◌∷◌, map, length, None, Ok, Err, refl, sym, ◌∙◌, ap, subst, arith, inl, inr, ⊎_elim}
use Rattle.std.specs.Prelude.{IsTrue}
use Rattle.std.specs.List.{list_all}
use Rattle.std.proofs.lemmas.Bool.{and_parts, and_from}
use Rattle.std.proofs.lemmas.Cmp.{nat_eq_equiv}
use Rattle.bits.specs.declared.refusal.Refusal.{Refusal}
use Rattle.bits.specs.declared.refusal.Refusal.TheVariants.{Limit, Device, Memory, InDoubt, Closed, NoGroup, Page}
use Rattle.bits.specs.Refusals.{HasCause}
use Rattle.schema.specs.Cutting.{is_among}
use Rattle.disk.specs.State.{State as DiskState}
use Rattle.manifest.specs.Groups.{Group as FileGroup, Root, root_of}
use Rattle.manifest.specs.Root.{IsDescription, stored_of}
use Rattle.manifest.specs.Records.{IsGroup}
use Rattle.manifest.specs.Laid.{IsRootTooHeavy}
use Rattle.snapshots.specs.State.{committed, fault_of, first_of, unless as unless_so}
use Rattle.snapshots.specs.Views.{state_of}
use Rattle.planning.specs.Told.{numbers_of}
use Rattle.planning.specs.Replaced.{without}
use Rattle.table.specs.Table.{Group, Table, IsTable, IsGroupIn, numbers, rows}
use Rattle.table.specs.Commits.{dropped, with_numbers, without_numbers}
use Rattle.table.specs.State.{State}
use Rattle.table.specs.Faults.{first, unless}
use Rattle.table.specs.Checks.{fault, numbers_fault}
use Rattle.table.specs.Calls.{Call, remove_groups, done, refused}
use Rattle.table.specs.Leading.{Leads, IsDone}
use Rattle.table.specs.Limits.{IsOver, MayBeOver, root as over_root}
use Rattle.table.specs.Refusing.{is_failure, checked, gets_on, needs_memory}
use Rattle.table.proofs.Counters.{counters_cover}
use Rattle.table.proofs.Steady.{is_other, stays_there, stays}
use Rattle.table_state.specs.declared.standing.Core.{Core}
use Rattle.table_state.specs.Stands.{AreStored, ShowsOpen, Stands}
use Rattle.table_commits.specs.Committing.{with_version, IsPlanned, Turns}
use Rattle.table_commits.specs.Acting.{WroteTo, HasReason, AsksCommit}
use Rattle.table_state.specs.Promises.{ActsFrom, Acts}
use Rattle.table_commits.specs.Causes.{IsCommitRefusal}
use Rattle.table_commits.specs.Dropping.{rows_in}
use Rattle.table_commits.proofs.FilesSoFar.{wrote_nothing}
use Rattle.table_commits.proofs.CommitsFromParts.{commits_act}
use Rattle.table_commits.proofs.UnchangedRefusals.{changes_nothing, acts_poor}
use Rattle.table_commits.proofs.NumbersHad.{had_all, had_same}
use Rattle.table_commits.proofs.JobsAfterCommits.{jobs_left_so}
use Rattle.table_commits.proofs.SomeGroups.{all_kept, among_kept, distinct_kept, order_kept, distinct_test, order_test, same_numbers, stored_kept, rows_counted, rows_parted, none_leave, none_go, left_out}
use Rattle.table_commits.proofs.PlannedWeights.{too_heavy_is_too_much}

-- ---- any commit call

pub has_reason : (T : Type 0) (s : State) (call : Call) (e : Refusal) → HasCause IsCommitRefusal e → MayBeOver s call → (e ≡ Limit → IsOver s call) → HasReason {T = T} s call (Err e)
has_reason T s call Limit cause may over = (may, over refl)
has_reason T s call Device cause may over = tt
has_reason T s call Memory cause may over = tt
has_reason T s call InDoubt cause may over = tt
has_reason T s call e cause may over = absurd (⊎_elim (λ a. cc) (λ b. ⊎_elim (λ x. cc) (λ y. cc) b) cause)

pub memory_only : (e : Refusal) → HasCause (λ _. ⊥) e → e ≡ Memory
memory_only Memory h = refl
memory_only e h = absurd h

-- what is refused for memory alone
pub memory_so : (e : Refusal) → HasCause (λ f. ⊥) e → (P : Refusal → Type 0) → P Memory → P e
memory_so Memory h P p = p
memory_so e h P p = absurd h

pub failure_of : (e : Refusal) → is_failure (refused e) ≡ true → (e ≡ Device) ⊎ (e ≡ InDoubt)
failure_of Device h = inl refl
failure_of InDoubt h = inr refl
failure_of e h = absurd (cc)

clash : (b : Bool) → b ≡ true → b ≡ false → ⊥
clash b e f = let c : true ≡ false = sym e ∙ f in cc

-- a commit that takes away a group that is there leads to another table
other_table : (t : Table) (ns : List ℕ) → list_all (is_among (numbers t.groups)) ns ≡ true → ns ≢ [] → record t { groups = without_numbers ns t.groups } ≢ t
other_table t [] all some same = some refl
other_table t (n ∷ ns) all some same =
    let there = (and_parts (is_among (numbers t.groups) n) (list_all (is_among (numbers t.groups)) ns) all).0 in
    let gone = left_out (n ∷ ns) n t.groups (ap (λ (b : Bool). b || is_among ns n) (nat_eq_equiv.refl n)) in
    clash (is_among (numbers t.groups) n) there (sym (ap (λ (u : Table). is_among (numbers u.groups) n) same) ∙ gone)

pub poor : {D : Type 0} (state : D → DiskState) (store : Core D) (call : Call) → is_other call ≡ true → ((s : State) → s.closed ≡ false → IsTrue (gets_on s call)) → ((s : State) → IsTrue (needs_memory s call))
    → (e : Refusal) → HasCause (λ _. ⊥) e → store.closed ≡ false → Acts state store store call (refused e)
poor state store call other on needs e cause is_open = subst (λ (f : Refusal). Acts state store store call (refused f)) (sym (memory_only e cause)) (acts_poor state store call other on needs is_open)

module _ {D : Type 0} (state : D → DiskState) (store : Core D) (s : State) (stands : Stands state store s) (is_open : s.closed ≡ false) (ns : List ℕ) where
  abbrev disk : DiskState
  disk = state store.vault.disk

  abbrev call : Call
  call = remove_groups ns

  abbrev old_root : Root
  old_root = root_of store.manifest

  abbrev files : List FileGroup
  files = without ns old_root.groups

  abbrev left : Table
  left = record s.table { groups = without_numbers ns s.table.groups }

  here : ShowsOpen disk store s
  here = stands.shows.shown is_open

  numbers_are : numbers_of old_root.groups ≡ numbers s.table.groups
  numbers_are = same_numbers disk s.table.keys s.table.schema s.next_group old_root.groups s.table.groups here.version

  stored : AreStored disk s.table.keys s.table.schema s.next_group files left.groups
  stored = stored_kept disk s.table.keys s.table.schema s.next_group ns old_root.groups s.table.groups here.version

  is_table : IsTable left
  is_table =
      let v = stands.shows.valid in
      let keep = λ (g : Group). not (is_among ns g.number) in
      record {
        schema = v.schema;
        within = v.within;
        keys = v.keys;
        each = all_kept keep (IsGroupIn s.table.schema s.table.keys) s.table.groups v.each;
        in_order = order_kept keep (λ (g : Group). g.key) s.table.groups v.in_order;
        distinct = distinct_kept keep (λ (g : Group). g.number) s.table.groups v.distinct;
        below = all_kept keep (λ (g : Group). g.number < s.table.next) s.table.groups v.below;
      }

  described : IsDescription (with_version old_root files old_root.next)
  described =
      let d = here.means.described in
      let keep = λ (g : FileGroup). not (is_among ns g.number) in
      record {
        schema = d.schema;
        within = d.within;
        keys = d.keys;
        stored = d.stored;
        fits = d.fits;
        each = all_kept keep (IsGroup old_root.keys (stored_of old_root)) old_root.groups d.each;
        in_order = order_kept keep (λ (g : FileGroup). g.key) old_root.groups d.in_order;
        distinct = distinct_kept keep (λ (g : FileGroup). g.number) old_root.groups d.distinct;
        below = all_kept keep (λ (g : FileGroup). g.number < old_root.next) old_root.groups d.below;
      }

  covers : s.table.next ≤ s.next_group
  covers = (counters_cover s stands.reached).next

  unrefused : fault_of (state_of store.snapshots) (committed files None) ≡ None
  unrefused = ap (λ (b : Bool). first_of (unless_so b Page ∷ []))
      (and_from _ _ (distinct_test (numbers_of files) described.distinct) (order_test (map (λ (g : FileGroup). g.key) files) described.in_order))

  among_all : (n : ℕ) → is_among (numbers left.groups) n ≡ true → is_among (numbers s.table.groups) n ≡ true
  among_all n is = by (is_among (numbers s.table.groups) n) refl
    where
      by : (b : Bool) → is_among (numbers s.table.groups) n ≡ b → is_among (numbers s.table.groups) n ≡ true
      by true e = e
      by false e = absurd (clash (is_among (numbers left.groups) n) is (among_kept (λ (g : Group). not (is_among ns g.number)) (λ (g : Group). g.number) s.table.groups n e))

  planned_here : IsPlanned disk store s left s.jobs None (with_version old_root files old_root.next)
  planned_here = record {
    valid = is_table;
    keys = refl;
    schema_is = stands.shows.schema;
    keys_are = stands.shows.keys;
    next_is = here.next;
    covers = covers;
    stored = stored;
    described = described;
    unrefused = unrefused;
    jobs_are = jobs_left_so disk s.table.keys s.table.schema s.next_group s.next_group s.options.group_rows (omega arith) s.had left (λ n is. inl (had_all s stands.reached n (among_all n is)))
        (state_of store.snapshots) store.jobs.items s.jobs here.jobs;
  }

  pub planned : (gs : List FileGroup) (next : ℕ) → gs ≡ files → next ≡ old_root.next → IsPlanned disk store s left s.jobs None (with_version old_root gs next)
  planned gs next e f = subst (λ (n : ℕ). IsPlanned disk store s left s.jobs None (with_version old_root gs n)) (sym f) (subst (λ (hs : List FileGroup). IsPlanned disk store s left s.jobs None (with_version old_root hs old_root.next)) (sym e) planned_here)

  leads : (count : ℕ) → count ≡ length (rows (with_numbers ns s.table.groups)) → Leads s call count left s.next_group
  leads count e = record {
    made = dropped ns;
    asked = refl;
    step = record { schema = refl; keys = refl; change = (refl, e); table = is_table; never_falls = omega arith; same = λ of_groups same. ap (λ (gs : List Group). record s.table { groups = gs }) same };
    rises = stays_there s call;
    covers = covers;
  }

  count_is : (count : ℕ) → count + rows_in files ≡ rows_in old_root.groups → count ≡ length (rows (with_numbers ns s.table.groups))
  count_is count e =
      let a = rows_counted disk s.table.keys s.table.schema s.next_group old_root.groups s.table.groups here.version in
      let b = rows_counted disk s.table.keys s.table.schema s.next_group files left.groups stored in
      let p = rows_parted ns s.table.groups in
      omega (arith, e, a, b, p)

  has_fault : (b : Bool) → list_all (is_among (numbers_of old_root.groups)) ns ≡ b → fault s call ≡ first (None ∷ unless b NoGroup ∷ [])
  has_fault b e = ap (λ (c : Bool). first (unless (not c) Closed ∷ numbers_fault s.table ns ∷ [])) is_open
      ∙ ap (λ (c : Bool). first (None ∷ unless c NoGroup ∷ [])) (sym (ap (λ (ms : List ℕ). list_all (is_among ms) ns) numbers_are) ∙ e)

  -- a number that no group has
  pub no_group : list_all (is_among (numbers_of old_root.groups)) ns ≡ false → ActsFrom state store store call (refused NoGroup) s
  no_group e = changes_nothing state store call (refused NoGroup) s stands (checked (has_fault false e) (λ b. cc) (stays s call refl))

  module _ (there : list_all (is_among (numbers_of old_root.groups)) ns ≡ true) where
    fine : fault s call ≡ None
    fine = has_fault true there

    -- no numbers: nothing goes, and nothing is written
    pub nothing_goes : ns ≡ [] → ActsFrom state store store call (done 0) s
    nothing_goes e =
        let same = ap (λ (ms : List ℕ). without_numbers ms s.table.groups) e ∙ none_leave s.table.groups in
        let gone : 0 ≡ length (rows (with_numbers ns s.table.groups)) = sym (ap (λ (gs : List Group). length (rows gs)) (ap (λ (ms : List ℕ). with_numbers ms s.table.groups) e ∙ none_go s.table.groups)) in
        let is : IsDone s call (done 0) s = record {
          n = 0;
          table = s.table;
          counter = s.next_group;
          leads = subst (λ (gs : List Group). Leads s call 0 (record s.table { groups = gs }) s.next_group) same (leads 0 gone);
          answers = refl;
          becomes = ap (λ (h : ℕ → Bool). record s { had = h }) (sym (had_same s stands.reached));
        } in
        changes_nothing state store call (done 0) s stands (fine, is)

    wrote : WroteTo state store store s s.next_group
    wrote = wrote_nothing state store s stands.shows is_open

    module _ (some : ns ≢ []) (count : ℕ) (counted : count + rows_in files ≡ rows_in old_root.groups) where
      asks : AsksCommit s call count left s.next_group
      asks = record {
        leads = leads count (count_is count counted);
        unrefused = fine;
        other = other_table s.table ns (sym (ap (λ (ms : List ℕ). list_all (is_among ms) ns) numbers_are) ∙ there) some;
        on = ap not is_open;
        memory = refl;
        disk = refl;
        does = λ new is. (fine, is);
        stays = λ more rises. record { counter = more; rises = rises; is = refl };
      }

      pub over : (gs : List FileGroup) (next : ℕ) → gs ≡ files → next ≡ old_root.next → IsRootTooHeavy (with_version old_root gs next) → IsOver s call
      over gs next e f heavy = over_root count left s.next_group (leads count (count_is count counted)) asks.other
          (too_heavy_is_too_much disk s.next_group left (with_version old_root files old_root.next) stands.shows.schema stands.shows.keys stored described
          (subst (λ (n : ℕ). IsRootTooHeavy (with_version old_root files n)) f (subst (λ (hs : List FileGroup). IsRootTooHeavy (with_version old_root hs next)) e heavy)))

      pub done_so : (new : Core D) → Turns {T = Unit {0}} state store new s left s.jobs (Ok tt) → ActsFrom state store new call (done count) s
      done_so new turns = commits_act state store store new s call count left s.next_group (Ok tt) stands is_open asks wrote tt turns

      pub refused_so : (new : Core D) (e : Refusal) → HasCause IsCommitRefusal e → (e ≡ Limit → IsOver s call) → Turns {T = Unit {0}} state store new s left s.jobs (Err e) → ActsFrom state store new call (refused e) s
      refused_so new e cause limit turns = commits_act state store store new s call count left s.next_group (Err e) stands is_open asks wrote (has_reason (Unit {0}) s call e cause fine limit) turns
