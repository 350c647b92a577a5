-- A stage that passed its checks: its job is there, and its rows can be gathered and written.
use Rattle.std.proofs.Common.{◌≡◌, ◌≤◌, ◌+◌, ℕ, Bool, true, false, not, List, [], ◌∷◌, ◌++◌, map, length, Option, Some, None, refl, sym, ◌∙◌, ap, subst, arith}
use Rattle.std.specs.Prelude.{IsTrue}
use Rattle.std.specs.List.{AllByRecursion}
use Rattle.lists.proofs.Lists.{all_append, all_weaker}
use Rattle.bits.specs.declared.refusal.Refusal.{Refusal}
use Rattle.bits.specs.declared.refusal.Refusal.TheVariants.{Closed, Full}
use Rattle.schema.specs.Shape.{Fields}
use Rattle.schema.specs.Fits.{fits_each, RowsFit}
use Rattle.schema.specs.Keys.{KeyColumn, key_of_row, without_keys}
use Rattle.disk.specs.State.{State as DiskState}
use Rattle.footer.specs.declared.options.WriteOptions.{WriteOptions}
use Rattle.partition.specs.Folders.{CanPartition}
use Rattle.partition.specs.Splitting.{KeyRows, HaveKeys, key_rows_view}
use Rattle.partition.proofs.KeyColumns.{keys_can}
use Rattle.gather.specs.declared.key_buffer.KeyBuffer.{KeyBuffer}
use Rattle.gather.specs.Groups.{full_groups}
use Rattle.gather.specs.KeyBuffers.{HoldsGroup, Hold, HoldGroups}
use Rattle.manifest.specs.Groups.{Root, root_of}
use Rattle.manifest.specs.Root.{stored_of}
use Rattle.table.specs.Table.{Row}
use Rattle.table.specs.State.{State, open_at}
use Rattle.table.specs.Faults.{first, unless}
use Rattle.table.specs.Checks.{fault, rows_fault, append_fault, can_count}
use Rattle.table.specs.Calls.{stage}
use Rattle.table_state.specs.declared.standing.Core.{Core}
use Rattle.table_state.specs.Stands.{Stands}
use Rattle.table_commits.specs.Filling.{AreFine, AreBuffers, rows_waiting}
use Rattle.table_jobs.specs.Completing.{completed_buffers, waiting_at}
use Rattle.table_jobs.specs.Rests.{HoldParts}
use Rattle.table_state.specs.Lookups.{job_at}
use Rattle.table_commits.proofs.FineRows.{fine_rows}
use Rattle.table_jobs.proofs.StageGoesOn.{IsThere, append_there, append_in}
use Rattle.table_jobs.proofs.FullGroupsCounted.{few_full}
use Rattle.table_jobs.proofs.RunByRun.{lengths_same}
use Rattle.table_jobs.proofs.StageEnds.{wait, some_size, whole, whole_are, whole_few, whole_rising, whole_rows, whole_fine}

parts : (s : State) (n : ℕ) (given : List Row) → fault s (stage n given) ≡ None → (append_fault (open_at n s.jobs) ≡ None) × (rows_fault s.table given ≡ None)
parts s n given e = by (not s.closed) (append_fault (open_at n s.jobs)) (can_count s.next_group) (rows_fault s.table given) e
  where
    by : (a : Bool) (o : Option Refusal) (b : Bool) (p : Option Refusal) → first (unless a Closed ∷ o ∷ unless b Full ∷ p ∷ []) ≡ None → (o ≡ None) × (p ≡ None)
    by true None true None f = (refl, refl)
    by true None true (Some r) f = absurd (cc)
    by true None false p f = absurd (cc)
    by true (Some r) b p f = absurd (cc)
    by false o b p f = absurd (cc)

keys_rows : (s : State) (rows : List Row) → AreFine s rows → HaveKeys s.table.keys rows
keys_rows s rows fine = all_weaker (λ (row : Row). IsTrue (fits_each s.table.schema row) × CanPartition s.table.keys (key_of_row s.table.keys row)) (λ (row : Row). CanPartition s.table.keys (key_of_row s.table.keys row)) (λ row h. h.1) rows fine

fit_rows : (s : State) (rows : List Row) → AreFine s rows → RowsFit s.table.schema rows
fit_rows s rows fine = all_weaker (λ (row : Row). IsTrue (fits_each s.table.schema row) × CanPartition s.table.keys (key_of_row s.table.keys row)) (λ (row : Row). IsTrue (fits_each s.table.schema row)) (λ row h. h.0) rows fine

module _ {D : Type 0} (state : D → DiskState) (old : Core D) (s : State) (stands : Stands state old s) (is_open : s.closed ≡ false) (n : ℕ) where
  -- the description's stored fields are the table's
  own_so : stored_of (root_of old.manifest) ≡ without_keys s.table.keys s.table.schema
  own_so = ap (λ (ks : List KeyColumn). without_keys ks (root_of old.manifest).schema) stands.shows.keys ∙ ap (λ (fs : Fields). without_keys s.table.keys fs) stands.shows.schema

  -- what is gathered in a table of this description
  module _ (t : IsThere state s n old) (root : Root) (same : root ≡ root_of old.manifest) where
    abbrev pub whole_at : List KeyRows
    whole_at = whole state old s stands is_open n t.x t.a t.there t.is

    abbrev pub wait_at : List Row
    wait_at = wait state old s stands is_open n t.x t.a t.there t.is

    -- what the code copies is what waits
    pub buffers_at : (fs : Fields) (ws : List KeyRows) → fs ≡ stored_of root → ws ≡ completed_buffers fs (waiting_at (job_at n old.jobs.items)) → AreBuffers root.schema root.keys ws whole_at
    buffers_at fs ws stored told =
        let are : ws ≡ completed_buffers (without_keys s.table.keys s.table.schema) (map key_rows_view t.a.waiting.items)
        = told ∙ ap (λ (gs : Fields). completed_buffers gs (waiting_at (job_at n old.jobs.items))) (stored ∙ ap stored_of same ∙ own_so)
        ∙ ap (completed_buffers (without_keys s.table.keys s.table.schema)) (append_in (job_at n old.jobs.items) t.x t.a t.there t.is).0 in
        let here = whole_are state old s stands is_open n t.x t.a t.there t.is in
        subst (λ (gs : Fields). AreBuffers gs root.keys ws whole_at) (sym (ap (λ (r : Root). r.schema) same ∙ stands.shows.schema))
        (subst (λ (ks : List KeyColumn). AreBuffers s.table.schema ks ws whole_at) (sym (ap (λ (r : Root). r.keys) same ∙ stands.shows.keys))
        (subst (λ (us : List KeyRows). AreBuffers s.table.schema s.table.keys us whole_at) (sym are) here))

    -- rows that passed the checks fit the description, and their keys can partition in it
    pub fit_here : (given : List Row) → AreFine s given → RowsFit root.schema given
    fit_here given fine = subst (λ (fs : Fields). RowsFit fs given) (sym (ap (λ (r : Root). r.schema) same ∙ stands.shows.schema)) (fit_rows s given fine)

    pub keyed_here : (given : List Row) → AreFine s given → HaveKeys root.keys given
    keyed_here given fine = subst (λ (ks : List KeyColumn). HaveKeys ks given) (sym (ap (λ (r : Root). r.keys) same ∙ stands.shows.keys)) (keys_rows s given fine)

    -- the groups of what waits and of what is given
    groups_in : (size : ℕ) (given : List Row) (bs : List KeyBuffer) → HoldGroups root.keys size (stored_of root) (rows_waiting whole_at ++ given) bs
        → HoldGroups s.table.keys size (stored_of (root_of old.manifest)) (wait_at ++ given) bs
    groups_in size given bs holds =
        subst (λ (rows : List Row). HoldGroups s.table.keys size (stored_of (root_of old.manifest)) (rows ++ given) bs) (whole_rows state old s stands is_open n t.x t.a t.there t.is)
        (subst (λ (r : Root). HoldGroups s.table.keys size (stored_of r) (rows_waiting whole_at ++ given) bs) same
        (subst (λ (ks : List KeyColumn). HoldGroups ks size (stored_of root) (rows_waiting whole_at ++ given) bs) (ap (λ (r : Root). r.keys) same ∙ stands.shows.keys) holds))

    same_size : (size : ℕ) → size ≡ old.options.group_rows → size ≡ s.options.group_rows
    same_size size is = is ∙ ap (λ (o : WriteOptions). o.group_rows) stands.shows.options

    pub groups_here : (size : ℕ) (given : List Row) (bs : List KeyBuffer) → size ≡ old.options.group_rows → HoldGroups root.keys size (stored_of root) (rows_waiting whole_at ++ given) bs
        → HoldGroups s.table.keys s.options.group_rows (stored_of (root_of old.manifest)) (wait_at ++ given) bs
    groups_here size given bs is holds =
        subst (λ (k : ℕ). HoldGroups s.table.keys k (stored_of (root_of old.manifest)) (wait_at ++ given) bs) (same_size size is) (groups_in size given bs holds)

    -- the full groups of them, and the rest
    pub parts_here : (size : ℕ) (given : List Row) (bs full others : List KeyBuffer) → size ≡ old.options.group_rows → HoldGroups root.keys size (stored_of root) (rows_waiting whole_at ++ given) bs
        → ((columns : List KeyColumn) (fs : Fields) (rows : List Row) → 1 ≤ size → HoldGroups columns size fs rows bs → HoldParts columns size fs rows full others)
        → HoldParts s.table.keys s.options.group_rows (stored_of (root_of old.manifest)) (wait_at ++ given) full others
    parts_here size given bs full others is holds splits =
        let some : 1 ≤ size = subst (λ (k : ℕ). 1 ≤ k) (sym (same_size size is)) (some_size state old s stands is_open n t.x t.a t.there t.is) in
        subst (λ (k : ℕ). HoldParts s.table.keys k (stored_of (root_of old.manifest)) (wait_at ++ given) full others) (same_size size is)
        (splits s.table.keys (stored_of (root_of old.manifest)) (wait_at ++ given) some (groups_in size given bs holds))

    -- all rows fit the table
    pub fine_at : (given : List Row) → AreFine s given → AreFine s (wait_at ++ given)
    fine_at given fine =
        subst (λ (rows : List Row). AreFine s (rows ++ given)) (whole_rows state old s stands is_open n t.x t.a t.there t.is)
        (all_append (λ (row : Row). IsTrue (fits_each s.table.schema row) × CanPartition s.table.keys (key_of_row s.table.keys row)) (rows_waiting whole_at) given (whole_fine state old s stands is_open n t.x t.a t.there t.is) fine)

    -- the counter goes up by no more than the rows given
    pub high_at : (given : List Row) (fs : Fields) (bs : List KeyBuffer) (next : ℕ) → Hold fs bs (full_groups s.table.keys s.options.group_rows (wait_at ++ given)) → next ≤ old.next_group + length bs → next ≤ s.next_group + length given
    high_at given fs bs next held rises =
        let rows = whole_rows state old s stands is_open n t.x t.a t.there t.is in
        let few : length (full_groups s.table.keys s.options.group_rows (wait_at ++ given)) ≤ length given
        = subst (λ (rs : List Row). length (full_groups s.table.keys s.options.group_rows (rs ++ given)) ≤ length given) rows
        (few_full s.table.schema s.table.keys s.options.group_rows (some_size state old s stands is_open n t.x t.a t.there t.is) (completed_buffers (without_keys s.table.keys s.table.schema) (map key_rows_view t.a.waiting.items)) whole_at
        (whole_are state old s stands is_open n t.x t.a t.there t.is) (whole_few state old s stands is_open n t.x t.a t.there t.is) (whole_rising state old s stands is_open n t.x t.a t.there t.is)
        (keys_rows s (rows_waiting whole_at) (whole_fine state old s stands is_open n t.x t.a t.there t.is)) given) in
        let many = lengths_same (HoldsGroup fs) bs (full_groups s.table.keys s.options.group_rows (wait_at ++ given)) held in
        let same_next = stands.shows.next_group in
        omega (arith, few, many, rises, same_next)

  module _ (given : List Row) (fine : fault s (stage n given) ≡ None) where
    pub fine_so : AreFine s given
    fine_so = fine_rows s.table (keys_can s.table.keys s.table.schema stands.shows.valid.schema.0.differ stands.shows.valid.keys) given (parts s n given fine).1

    pub there_so : IsThere state s n old
    there_so = append_there state s n old s.next_group (stands.shows.shown is_open).jobs (parts s n given fine).0
