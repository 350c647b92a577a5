-- A cursor that is opened.
use Rattle.std.proofs.Common.{◌≡◌, ◌+◌, ℕ, Bool, true, false, not, ◌&&◌, nat_lt, List, [], ◌∷◌, ◌++◌, length, drop, Option, Some, None, Ok, Err, refl, sym, ◌∙◌, ap, subst}
use Rattle.bits.specs.declared.refusal.Refusal.{Refusal}
use Rattle.bits.specs.declared.refusal.Refusal.TheVariants.{Memory, Full, Closed, NoColumn}
use Rattle.bits.specs.Refusals.{HasCause}
use Rattle.schema.specs.Shape.{Fields}
use Rattle.schema.specs.Stripe.{leaves_of}
use Rattle.schema.specs.Keys.{KeyColumn, AreKeys, without_keys}
use Rattle.manifest.specs.Records.{IsGroup}
use Rattle.std.specs.List.{AllByRecursion}
use Rattle.filter.specs.declared.filter.Filter.{Filter as CodeFilter}
use Rattle.filter.specs.Terms.{tests_of}
use Rattle.filter.specs.Test.{tests_in}
use Rattle.filter.specs.Deciding.{satisfies as all_satisfied}
use Rattle.disk.specs.State.{State as DiskState}
use Rattle.manifest.specs.Groups.{Group as FileGroup, Root, root_of}
use Rattle.snapshots.specs.State.{opened, after, fault_of, open_at}
use Rattle.snapshots.specs.Views.{state_of}
use Rattle.table.specs.State.{State}
use Rattle.table.specs.Deciding.{Filter, filter_fault, passes, refusal_in}
use Rattle.table.specs.Cursors.{Columns, columns_fault, wanted_places, batches, batches_of}
use Rattle.table.specs.Faults.{first, unless}
use Rattle.table.specs.Checks.{fault, can_count, new_cursor_fault}
use Rattle.table.specs.Calls.{Call, query, cursor, refused}
use Rattle.table.specs.History.{with_cursor}
use Rattle.table.specs.Refusing.{Happens, checked, no_memory, gets_on, needs_memory}
use Rattle.table.proofs.Steady.{is_other, stays}
use Rattle.table_state.specs.declared.standing.Core.{Core}
use Rattle.table_state.specs.declared.jobs.OpenCursor.{OpenCursor}
use Rattle.table_state.specs.Stands.{AreStored, IsMade, ShowsCursor, ShowsOpen, Stands}
use Rattle.table_state.specs.Promises.{ActsFrom}
use Rattle.table_reads.proofs.SomethingOpens.{cursor_test, cursor_unrefused, cursor_opened, only_memory}
use Rattle.table_reads.proofs.SomethingEnds.{opens, refused_poor}
use Rattle.table_reads.proofs.AppendsOpen.{room_in}
use Rattle.table_reads.proofs.TermFaults.{term_fault, never_stale}
use Rattle.table_commits.proofs.UnchangedRefusals.{changes_nothing}

module _ {D : Type 0} (state : D → DiskState) (store : Core D) (s : State) (stands : Stands state store s) (is_open : s.closed ≡ false) where
  abbrev disk : DiskState
  disk = state store.vault.disk

  here : ShowsOpen disk store s
  here = stands.shows.shown is_open

  -- a cursor is not opened, for memory
  pub cursor_refused : (call : Call) → is_other call ≡ true → gets_on s call ≡ true → needs_memory s call ≡ true → (o : Option Refusal) → o ≡ None → (e : Refusal) → HasCause (λ f. o ≡ Some f) e
      → (new : Core D) → new ≡ record store { cursors = new.cursors } → new.cursors.items ≡ store.cursors.items → ActsFrom state store new call (refused e) s
  cursor_refused call other on needs o none e cause new same items =
      subst (λ (f : Refusal). ActsFrom state store new call (refused f) s) (sym (only_memory o none e cause))
      (subst (λ (x : Core D). ActsFrom state store x call (refused Memory) s) (sym same) (refused_poor state store s stands is_open call other on needs store.snapshots store.jobs new.cursors refl refl items))

  module _ (terms : Filter) (columns : Columns) where
    abbrev call : Call
    call = query terms columns

    abbrev fields : Fields
    fields = s.table.schema

    fault_is : (a b c : Option Refusal) → new_cursor_fault s ≡ a → filter_fault fields terms ≡ b → columns_fault fields columns ≡ c → fault s call ≡ first (None ∷ a ∷ b ∷ c ∷ [])
    fault_is a b c e f g =
        ap (λ (x : Bool). first (unless (not x) Closed ∷ new_cursor_fault s ∷ filter_fault fields terms ∷ columns_fault fields columns ∷ [])) is_open
        ∙ ap (λ (x : Option Refusal). first (None ∷ x ∷ filter_fault fields terms ∷ columns_fault fields columns ∷ [])) e
        ∙ ap (λ (x : Option Refusal). first (None ∷ a ∷ x ∷ columns_fault fields columns ∷ [])) f
        ∙ ap (λ (x : Option Refusal). first (None ∷ a ∷ b ∷ x ∷ [])) g

    pub query_full : (nat_lt (length store.cursors.items) 64 && can_count store.next_cursor) ≡ false → ActsFrom state store store call (refused Full) s
    query_full e = changes_nothing state store call (refused Full) s stands
        (checked (fault_is (Some Full) (filter_fault fields terms) (columns_fault fields columns) (cursor_test state store s stands.shows is_open false e) refl refl) (λ b. cc) (stays s call refl))

    module _ (room : (nat_lt (length store.cursors.items) 64 && can_count store.next_cursor) ≡ true) where
      tested : new_cursor_fault s ≡ None
      tested = cursor_test state store s stands.shows is_open true room

      pub query_poor : ActsFrom state store store call (refused Memory) s
      query_poor = changes_nothing state store call (refused Memory) s stands (no_memory refl (ap not is_open) refl (stays s call refl))

      pub opened_unrefused : fault_of (state_of store.snapshots) (opened store.next_cursor) ≡ None
      opened_unrefused = cursor_unrefused state store s stands.shows is_open (room_in (length store.cursors.items) 64 store.next_cursor room).0

      has_term_fault : (e : Refusal) → tests_of (leaves_of fields) terms ≡ Err e → ActsFrom state store store call (refused e) s
      has_term_fault e h = changes_nothing state store call (refused e) s stands
          (checked (fault_is None (Some e) (columns_fault fields columns) tested (ap refusal_in h) refl) (never_stale e (term_fault (leaves_of fields) terms e h)) (stays s call refl))

      pub filter_refused : (e : Refusal) → HasCause (λ f. tests_of (leaves_of fields) terms ≡ Err f) e → ActsFrom state store store call (refused e) s
      filter_refused Memory cause = query_poor
      filter_refused e cause = has_term_fault e cause

      module _ (filter : CodeFilter) (made : tests_of (leaves_of fields) terms ≡ Ok (tests_in filter)) where
        pub no_column : columns_fault fields columns ≡ Some NoColumn → ActsFrom state store store call (refused NoColumn) s
        no_column e = changes_nothing state store call (refused NoColumn) s stands (checked (fault_is None None (Some NoColumn) tested (ap refusal_in made) e) (λ b. cc) (stays s call refl))

        module _ (x : OpenCursor) (number : x.number ≡ store.next_cursor) (table : root_of x.table ≡ root_of store.manifest) (filter_is : x.filter ≡ filter) (places : x.places.items ≡ wanted_places columns 0 fields)
            (passed : x.passed ≡ 0) (ended : x.ended ≡ false) where
          stored : AreStored disk s.table.keys (root_of x.table).schema s.next_group (root_of x.table).groups s.table.groups
          stored = subst (λ (r : Root). AreStored disk s.table.keys r.schema s.next_group r.groups s.table.groups) (sym table)
              (subst (λ (fs : Fields). AreStored disk s.table.keys fs s.next_group (root_of store.manifest).groups s.table.groups) (sym stands.shows.schema) here.version)

          gives : batches terms columns s.table ≡ batches_of (all_satisfied (tests_in x.filter)) x.places.items (drop x.passed s.table.groups)
          gives = ap (λ r. batches_of (passes r) (wanted_places columns 0 fields) s.table.groups) made
              ∙ ap (λ (f : CodeFilter). batches_of (all_satisfied (tests_in f)) (wanted_places columns 0 fields) s.table.groups) (sym filter_is)
              ∙ ap (λ (ps : List ℕ). batches_of (all_satisfied (tests_in x.filter)) ps s.table.groups) (sym places)
              ∙ ap (λ (n : ℕ). batches_of (all_satisfied (tests_in x.filter)) x.places.items (drop n s.table.groups)) (sym passed)

          schema_is : (root_of x.table).schema ≡ fields
          schema_is = ap (λ (r : Root). r.schema) table ∙ stands.shows.schema

          made_so : IsMade s.table.keys x
          made_so = let d = here.means.described in record {
            can = subst (λ (ks : List KeyColumn). AreKeys ks (root_of x.table).schema) stands.shows.keys (subst (λ (r : Root). AreKeys (root_of store.manifest).keys r.schema) (sym table) d.keys);
            terms = terms;
            filter = ap (λ (fs : Fields). tests_of (leaves_of fs) terms) schema_is ∙ made ∙ ap (λ (f : CodeFilter). Ok (tests_in f)) (sym filter_is);
            columns = columns;
            places = places ∙ ap (λ (fs : Fields). wanted_places columns 0 fs) (sym schema_is);
            groups = subst (λ (ks : List KeyColumn). AllByRecursion (IsGroup ks (without_keys ks (root_of x.table).schema)) (root_of x.table).groups) stands.shows.keys
                (subst (λ (r : Root). AllByRecursion (IsGroup (root_of store.manifest).keys (without_keys (root_of store.manifest).keys r.schema)) r.groups) (sym table) d.each);
          }

          shown : (held : List (ℕ × List FileGroup)) → open_at x.number held ≡ Some (state_of store.snapshots).current
              → ShowsCursor disk held s.table.keys s.next_group x (s.next_cursor, record { batches = batches terms columns s.table; ended = false })
          shown held e = record {
            number = number ∙ stands.shows.next_cursor;
            pinned = e ∙ ap (λ (gs : List FileGroup). Some gs) (here.current ∙ ap (λ (r : Root). r.groups) (sym table));
            keyed = ap (λ (r : Root). r.keys) table ∙ stands.shows.keys;
            made = made_so;
            groups = s.table.groups;
            stored = stored;
            batches = gives;
            ended = sym ended;
            over = λ o. absurd (let c : false ≡ true = sym ended ∙ o in cc);
          }

          pub query_opened : columns_fault fields columns ≡ None → (new : Core D) → state_of new.snapshots ≡ after (state_of store.snapshots) (opened x.number) → new.cursors.items ≡ store.cursors.items ++ x ∷ []
              → new ≡ record store { snapshots = new.snapshots; cursors = new.cursors; next_cursor = store.next_cursor + 1 } → ActsFrom state store new call (cursor store.next_cursor) s
          query_opened fine new steps pushed same =
              let next = with_cursor s (batches terms columns s.table) in
              let happens : Happens s call (cursor store.next_cursor) next = (fault_is None None None tested (ap refusal_in made) fine, (ap (λ (m : ℕ). cursor m) stands.shows.next_cursor, refl)) in
              subst (λ (y : Core D). ActsFrom state store y call (cursor store.next_cursor) s) (sym same)
              (opens state store s stands is_open call (cursor store.next_cursor) next happens new.snapshots store.jobs new.cursors store.next_job (store.next_cursor + 1)
              (cursor_opened state store s stands.shows is_open x number (batches terms columns s.table) shown new.snapshots steps new.cursors pushed))
