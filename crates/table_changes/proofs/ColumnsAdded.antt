-- A column more, from its plan to its end.
use Rattle.std.proofs.Common.{◌≡◌, ◌≤◌, ℕ, Bool, true, false, not, List, [], ◌∷◌, map, None, Ok, Err, refl, sym, ◌∙◌, ap, subst, arith, inl, inr}
use Rattle.std.specs.List.{AllByRecursion}
use Rattle.std.proofs.lemmas.Bool.{and_from}
use Rattle.bits.specs.declared.refusal.Refusal.{Refusal}
use Rattle.bits.specs.declared.refusal.Refusal.TheVariants.{Limit, Device, Memory, InDoubt, Closed, Page}
use Rattle.bits.specs.Refusals.{HasCause}
use Rattle.schema.specs.Shape.{Field, Fields, count}
use Rattle.schema.specs.Elements.{Element}
use Rattle.schema.specs.Keys.{KeyColumn, without_keys}
use Rattle.schema.specs.Cutting.{is_among}
use Rattle.disk.specs.State.{State as DiskState}
use Rattle.manifest.specs.Groups.{Group as FileGroup, Root, root_of}
use Rattle.manifest.specs.Root.{IsDescription}
use Rattle.manifest.specs.Records.{IsGroup}
use Rattle.manifest.specs.Laid.{IsRootTooHeavy}
use Rattle.manifest.proofs.GrownRoots.{grown_roots_are_described}
use Rattle.snapshots.specs.State.{first_of, unless as unless_so}
use Rattle.snapshots.specs.Views.{state_of}
use Rattle.planning.specs.Told.{numbers_of}
use Rattle.table.specs.Table.{Group, Table, IsTable, numbers}
use Rattle.schema.specs.Fronts.{with_field}
use Rattle.schema.specs.Growing.{IsColumnFor, IsColumnFault}
use Rattle.schema.proofs.Grown.{count_grows}
use Rattle.table.specs.Columns.{with_column, widened, HasColumnFault}
use Rattle.table.specs.Commits.{extended}
use Rattle.table.specs.State.{State, widened_jobs}
use Rattle.table.specs.Faults.{unless}
use Rattle.table.specs.Checks.{fault}
use Rattle.table.specs.Calls.{Call, add_column, done, refused}
use Rattle.table.specs.Leading.{Leads}
use Rattle.table.specs.Limits.{IsOver, root as over_root, schema as over_schema}
use Rattle.table.specs.Refusing.{is_failure, unfit, over, no_memory}
use Rattle.table.proofs.Counters.{counters_cover}
use Rattle.table.proofs.Columns.{widened_tables_are_tables}
use Rattle.table.proofs.Steady.{stays_there, stays}
use Rattle.table_state.specs.declared.standing.Core.{Core}
use Rattle.table_state.specs.Stands.{AreStored, ShowsOpen, Stands}
use Rattle.table_commits.specs.Committing.{IsPlanned, Turns}
use Rattle.table_commits.specs.Acting.{WroteTo, AsksCommit}
use Rattle.table_state.specs.Promises.{ActsFrom}
use Rattle.table_commits.specs.Causes.{IsCommitRefusal}
use Rattle.table_changes.specs.Widening.{IsWidened}
use Rattle.table_commits.proofs.FilesSoFar.{wrote_nothing}
use Rattle.table_commits.proofs.CommitsFromParts.{commits_act}
use Rattle.table_commits.proofs.GroupRemovals.{has_reason}
use Rattle.table_commits.proofs.UnchangedRefusals.{changes_nothing}
use Rattle.table_commits.proofs.NumbersHad.{had_all}
use Rattle.table_commits.proofs.JobsAfterCommits.{jobs_left_so}
use Rattle.table_commits.proofs.SomeGroups.{distinct_test, order_test}
use Rattle.table_commits.proofs.PlannedWeights.{too_heavy_is_too_much}
use Rattle.table_changes.proofs.OpenOverMoreColumns.{stored_widened, jobs_widened}

numbers_still : (gs : List Group) → numbers (map widened gs) ≡ numbers gs
numbers_still [] = refl
numbers_still (g ∷ gs) = ap (λ (ns : List ℕ). g.number ∷ ns) (numbers_still gs)

longer : (fs : Fields) (f : Field) → with_field fs f ≡ fs → ⊥
longer fs f e = let a = ap count e in let b = count_grows fs f in absurd (omega (arith, a, b))

-- elements are not refused for a failed disk
pub no_failure : (fs : Fields) (es : List Element) (e : Refusal) → IsColumnFault fs es e → is_failure (refused e) ≡ true → ⊥
no_failure fs es Device (inl h) i = h
no_failure fs es InDoubt (inl h) i = h
no_failure fs es e (inl h) i = cc
no_failure fs es e (inr h) i = let f : is_failure (refused e) ≡ false = ap (λ (x : Refusal). is_failure (refused x)) h.0 in cc

module _ {D : Type 0} (state : D → DiskState) (store : Core D) (s : State) (stands : Stands state store s) (is_open : s.closed ≡ false) (elements : List Element) where
  abbrev disk : DiskState
  disk = state store.vault.disk

  abbrev call : Call
  call = add_column elements

  abbrev old_root : Root
  old_root = root_of store.manifest

  here : ShowsOpen disk store s
  here = stands.shows.shown is_open

  pub fine : fault s call ≡ None
  fine = ap (λ (c : Bool). unless (not c) Closed) is_open

  -- the elements are no such field
  refused_unfit : (e : Refusal) → HasColumnFault s.table.schema elements e → ActsFrom state store store call (refused e) s
  refused_unfit e fault = changes_nothing state store call (refused e) s stands (unfit elements refl fine fault (stays s call refl))

  pub refused_elements : (e : Refusal) → IsColumnFault old_root.schema elements e → ActsFrom state store store call (refused e) s
  refused_elements e has = by e (subst (λ (fs : Fields). IsColumnFault fs elements e) stands.shows.schema has)
    where
      by : (f : Refusal) → IsColumnFault s.table.schema elements f → ActsFrom state store store call (refused f) s
      by Limit (inl h) = changes_nothing state store call (refused Limit) s stands (over refl fine (over_schema elements refl h) (stays s call refl))
      by Limit (inr h) = absurd (cc)
      by Memory h = changes_nothing state store call (refused Memory) s stands (no_memory refl (ap not is_open) refl (stays s call refl))
      by f h = refused_unfit f (tt, h)

  module _ (root : Root) (made : IsWidened old_root elements root) where
    abbrev pub f : Field
    f = made.column

    abbrev pub grown : Table
    grown = with_column f s.table

    column : IsColumnFor s.table.schema elements f
    column = subst (λ (fs : Fields). IsColumnFor fs elements f) stands.shows.schema made.is_column

    is_table : IsTable grown
    is_table = widened_tables_are_tables s.table elements f stands.shows.valid column

    schema_is : root.schema ≡ with_field s.table.schema f
    schema_is = ap (λ (r : Root). r.schema) made.is ∙ ap (λ (fs : Fields). with_field fs f) stands.shows.schema

    described : IsDescription root
    described = subst IsDescription (sym made.is) (grown_roots_are_described old_root f here.means.described made.is_column.optional made.is_column.stands_for.valid made.is_column.within)

    groups_are : root.groups ≡ old_root.groups
    groups_are = ap (λ (r : Root). r.groups) made.is

    each_here : AllByRecursion (IsGroup s.table.keys (without_keys s.table.keys s.table.schema)) old_root.groups
    each_here = subst (λ (ks : List KeyColumn). AllByRecursion (IsGroup ks (without_keys ks s.table.schema)) old_root.groups) stands.shows.keys
        (subst (λ (fs : Fields). AllByRecursion (IsGroup old_root.keys (without_keys old_root.keys fs)) old_root.groups) stands.shows.schema here.means.described.each)

    stored : AreStored disk grown.keys grown.schema s.next_group root.groups grown.groups
    stored = subst (λ (fs : List FileGroup). AreStored disk grown.keys grown.schema s.next_group fs grown.groups) (sym groups_are)
        (stored_widened disk s.table.keys s.table.schema f stands.shows.valid.keys made.is_column.optional s.next_group old_root.groups s.table.groups each_here here.version)

    covers : s.table.next ≤ s.next_group
    covers = (counters_cover s stands.reached).next

    pub planned : IsPlanned disk store s grown (widened_jobs s.jobs) None root
    planned = record {
      valid = is_table;
      keys = refl;
      schema_is = schema_is;
      keys_are = ap (λ (r : Root). r.keys) made.is ∙ stands.shows.keys;
      next_is = ap (λ (r : Root). r.next) made.is ∙ here.next;
      covers = covers;
      stored = stored;
      described = described;
      unrefused = ap (λ (b : Bool). first_of (unless_so b Page ∷ [])) (and_from _ _ (distinct_test (numbers_of root.groups) described.distinct) (order_test (map (λ (g : FileGroup). g.key) root.groups) described.in_order));
      jobs_are = jobs_left_so disk s.table.keys grown.schema s.next_group s.next_group s.options.group_rows (omega arith) s.had grown
          (λ n is. inl (had_all s stands.reached n (ap (λ (ns : List ℕ). is_among ns n) (sym (numbers_still s.table.groups)) ∙ is))) (state_of store.snapshots) store.jobs.items (widened_jobs s.jobs)
          (jobs_widened disk s.table.keys s.table.schema f stands.shows.valid.keys made.is_column.optional s.next_group s.options.group_rows s.had (state_of store.snapshots).jobs store.jobs.items s.jobs here.jobs);
    }

    leads : Leads s call 0 grown s.next_group
    leads = record {
      made = extended f;
      asked = (f, column, refl);
      step = record { schema = refl; keys = refl; change = (refl, refl); table = is_table; never_falls = omega arith; same = λ of_groups same. absurd (cc) };
      rises = stays_there s call;
      covers = covers;
    }

    asks : AsksCommit s call 0 grown s.next_group
    asks = record {
      leads = leads;
      unrefused = fine;
      other = λ e. longer s.table.schema f (ap (λ (t : Table). t.schema) e);
      on = ap not is_open;
      memory = refl;
      disk = refl;
      does = λ new is. (fine, is);
      stays = λ more rises. record { counter = more; rises = rises; is = refl };
    }

    wrote : WroteTo state store store s s.next_group
    wrote = wrote_nothing state store s stands.shows is_open

    pub too_much : IsRootTooHeavy root → IsOver s call
    too_much heavy = over_root 0 grown s.next_group leads asks.other
        (too_heavy_is_too_much disk s.next_group grown root planned.schema_is planned.keys_are stored described heavy)

    pub done_so : (new : Core D) → Turns {T = Unit {0}} state store new s grown (widened_jobs s.jobs) (Ok tt) → ActsFrom state store new call (done 0) s
    done_so new turns = commits_act state store store new s call 0 grown s.next_group (Ok tt) stands is_open asks wrote tt turns

    pub refused_so : (new : Core D) (e : Refusal) → HasCause IsCommitRefusal e → (e ≡ Limit → IsOver s call) → Turns {T = Unit {0}} state store new s grown (widened_jobs s.jobs) (Err e) → ActsFrom state store new call (refused e) s
    refused_so new e cause limit turns = commits_act state store store new s call 0 grown s.next_group (Err e) stands is_open asks wrote (has_reason (Unit {0}) s call e cause fine limit) turns
