-- A removal, from group to group: what comes in the place of each.
use Rattle.std.proofs.Common.{◌≡◌, ◌≤◌, ◌<◌, ◌+◌, ℕ, zero, suc, Bool, true, false, not, List, [], ◌∷◌, ◌++◌, map, drop, length, filter, Some, None, Result, Ok, Err, refl, sym, ◌∙◌, ap, subst, arith, ⊎_elim}
use Rattle.std.specs.Prelude.{slice_get}
use Rattle.std.specs.List.{list_any, AllByRecursion}
use Rattle.std.proofs.lemmas.List.{length-append}
use Rattle.lists.proofs.Slices.{drop_past as drop_all, drop_found_more as drop_more}
use Rattle.bits.specs.declared.refusal.Refusal.{Refusal}
use Rattle.bits.specs.declared.refusal.Refusal.TheVariants.{Limit, Device, Memory}
use Rattle.bits.specs.Refusals.{HasCause}
use Rattle.schema.specs.Shape.{Fields}
use Rattle.schema.specs.Keys.{KeyColumn, AreKeys, AreRowsOf, row_without_keys, without_keys}
use Rattle.schema.specs.Stripe.{leaves_of}
use Rattle.schema.specs.Views.{key_view}
use Rattle.disk.specs.State.{State as DiskState}
use Rattle.vault.specs.declared.vault.Vault.{Vault}
use Rattle.vault.specs.Calls.{LeavesAll, HasFailed}
use Rattle.filter.specs.Test.{Test}
use Rattle.filter.specs.Terms.{tests_of}
use Rattle.filter.specs.Deciding.{satisfies as all_satisfied}
use Rattle.partition.specs.Folders.{CanPartition}
use Rattle.manifest.specs.Groups.{Group as FileGroup, Root, root_of}
use Rattle.manifest.specs.Records.{IsGroup}
use Rattle.planning.specs.Replaced.{Change, changes_view}
use Rattle.scan.specs.Faults.{IsDevice, IsPartRefusal}
use Rattle.table.specs.Table.{Row, Key, Group, IsRowIn, IsGroupIn, rows}
use Rattle.table.specs.Deciding.{Filter as Terms}
use Rattle.table.specs.Leading.{touched}
use Rattle.table.specs.State.{State}
use Rattle.table_state.specs.declared.standing.Core.{Core}
use Rattle.table_changes.specs.declared.remaining.Remains.{Remains}
use Rattle.table_changes.specs.declared.removing.Removed.{Removed}
use Rattle.table_state.specs.Buffers.{buffer}
use Rattle.table_reads.specs.Counting.{IsHeld}
use Rattle.table_commits.specs.Filling.{HasWritten, IsBuffer}
use Rattle.table_reads.specs.Reading.{OnlyReads}
use Rattle.table_changes.specs.Removing.{Outcome, stays, goes, comes, IsLeft, not_those, change_for, changes_for, files_come, groups_come, AreRemains, IsOfRest, HasPut, WhyNotPut, Puts, HasReplaced, Replaces, WhyHalted, IsHalted}
use Rattle.table_state.specs.Stands.{IsStored, AreStored, ShowsOpen}
use Rattle.table_commits.specs.Writing.{counted}
use Rattle.table_commits.proofs.OneFileMore.{failed_since as failed_on}
use Rattle.table_commits.proofs.SomeGroups.{all_kept}
use Rattle.table_commits.proofs.RowsWithoutKeys.{is_row_of}
use Rattle.table_changes.proofs.WhatRemains.{passed_more, filtered_both, no_picked, any_picked, touched_here, untouched_here, come_files, come_groups, changes_more, touched_at}
use Rattle.table_changes.proofs.ReplacingOneGroup.{wrote_read, has_read}
use Rattle.table_reads.proofs.AfterEvents.{zip_more}

-- ---- the group at a place

module _ (disk : DiskState) (keys : List KeyColumn) (schema : Fields) (count : ℕ) where
  pub record At (fs : List FileGroup) (gs : List Group) (i : ℕ) : Type 0 where
    pub file : FileGroup
    pub group : Group
    pub file_at : slice_get fs i ≡ Some file
    pub group_at : slice_get gs i ≡ Some group
    pub stored : IsStored disk keys schema count file group
    pub in_table : IsGroupIn schema keys group
    pub described : IsGroup keys (without_keys keys schema) file

  at_place : (fs : List FileGroup) (gs : List Group) (i : ℕ) → AreStored disk keys schema count fs gs → AllByRecursion (IsGroupIn schema keys) gs → AllByRecursion (IsGroup keys (without_keys keys schema)) fs → i < length fs → At fs gs i
  at_place [] gs i z t d l = absurd (omega (arith, l))
  at_place (f ∷ fs) [] i z t d l = absurd z
  at_place (f ∷ fs) (g ∷ gs) zero z t d l = record { file = f; group = g; file_at = refl; group_at = refl; stored = z.0; in_table = t.0; described = d.0 }
  at_place (f ∷ fs) (g ∷ gs) (suc i) z t d l =
      let r = at_place fs gs i z.1 t.1 d.1 (omega (arith, l)) in
      record { file = r.file; group = r.group; file_at = r.file_at; group_at = r.group_at; stored = r.stored; in_table = r.in_table; described = r.described }

  pub as_many : (fs : List FileGroup) (gs : List Group) → AreStored disk keys schema count fs gs → length fs ≡ length gs
  as_many [] [] z = refl
  as_many (f ∷ fs) (g ∷ gs) z = let e = as_many fs gs z.1 in omega (arith, e)
  as_many [] (g ∷ gs) z = absurd z
  as_many (f ∷ fs) [] z = absurd z

-- rows of a key are that key and what is besides it
rows_of : (schema : Fields) (keys : List KeyColumn) (k key : Key) → AreKeys keys schema → k ≡ key → (given : List Row) → AllByRecursion (IsRowIn schema keys key) given → AreRowsOf keys k (map (row_without_keys keys) given) given
rows_of schema keys k key are same [] h = tt
rows_of schema keys k key are same (row ∷ given) h =
    let one = is_row_of keys schema row are h.0.fits in
    (record { besides = one.besides; keyed = one.keyed ∙ h.0.keyed ∙ sym same; whole = one.whole }, rows_of schema keys k key are same given h.1)

module _ {D : Type 0} (state : D → DiskState) (start : Core D) (s : State) where
  -- nothing is judged yet
  pub at_first : HasWritten state start start s None [] [] → start.next_group ≡ s.next_group → (test : Row → Bool) (removed : Removed) → changes_view removed.changes.items ≡ [] → removed.count ≡ 0 → HasReplaced state start start s test 0 removed
  at_first has same test removed none zero_is = record {
    files = [];
    groups = [];
    outcomes = [];
    files_are = refl;
    groups_are = refl;
    as_many = refl;
    left = tt;
    changes_are = none;
    written = has;
    counted = omega (arith, zero_is);
    room = omega (arith, same);
  }

module _ {D : Type 0} (state : D → DiskState) (start now : Core D) (s : State) (is_open : s.closed ≡ false) (tests : List (List Test)) (place : ℕ) (removed : Removed) (r : HasReplaced state start now s (all_satisfied tests) place removed) where
  abbrev disk : DiskState
  disk = state now.vault.disk

  abbrev root : Root
  root = root_of now.manifest

  abbrev pass : Row → Bool
  pass = all_satisfied tests

  here : ShowsOpen disk now (counted s now.next_group)
  here = r.written.wrote.shows.shown is_open

  -- ---- what is left of the group at the place

  module _ (within : place < length root.groups) where
    same_group : IsGroup root.keys (without_keys root.keys root.schema) ≡ IsGroup s.table.keys (without_keys s.table.keys s.table.schema)
    same_group = ap (λ (ks : List KeyColumn). IsGroup ks (without_keys ks root.schema)) r.written.wrote.shows.keys ∙ ap (λ (fs : Fields). IsGroup s.table.keys (without_keys s.table.keys fs)) r.written.wrote.shows.schema

    pub at : At disk s.table.keys s.table.schema now.next_group root.groups s.table.groups place
    at = at_place disk s.table.keys s.table.schema now.next_group root.groups s.table.groups place here.version r.written.wrote.shows.valid.each
        (subst (λ P. AllByRecursion P root.groups) same_group here.means.described.each) within

    pub held : (terms : Terms) → tests_of (leaves_of s.table.schema) terms ≡ Ok tests → IsHeld disk tests root at.file at.group
    held terms made =
        let w = r.written.wrote.shows in
        record {
          over = (terms, ap (λ (fs : Fields). tests_of (leaves_of fs) terms) w.schema ∙ made);
          keyed = subst (λ (ks : List KeyColumn). AreKeys ks root.schema) (sym w.keys) (subst (λ (fs : Fields). AreKeys s.table.keys fs) (sym w.schema) w.valid.keys);
          count = now.next_group;
          stored = subst (λ (ks : List KeyColumn). AreStored disk ks root.schema now.next_group (at.file ∷ []) (at.group ∷ [])) (sym w.keys)
              (subst (λ (fs : Fields). AreStored disk s.table.keys fs now.next_group (at.file ∷ []) (at.group ∷ [])) (sym w.schema) (at.stored, tt));
          described = (subst (λ P. P at.file) (sym same_group) at.described, tt);
        }

    abbrev left_rows : List Row
    left_rows = not_those pass at.group.rows

    left_in : AllByRecursion (IsRowIn s.table.schema s.table.keys at.group.key) left_rows
    left_in = all_kept (λ (row : Row). not (pass row)) (IsRowIn s.table.schema s.table.keys at.group.key) at.group.rows at.in_table.rows_in

    module _ (rest : Remains) (are : AreRemains tests root at.file at.group rest) where
      key_is : key_view rest.rest.key ≡ at.group.key
      key_is = are.key ∙ sym at.stored.key

      pub is_buffer : IsBuffer s.table.schema s.table.keys (buffer (key_view rest.rest.key) (map (row_without_keys root.keys) left_rows)) (buffer (key_view rest.rest.key) left_rows)
      is_buffer = record {
        key_is = refl;
        can = subst (λ (k : Key). CanPartition s.table.keys k) (sym key_is) at.in_table.keyed;
        are = subst (λ (ws : List Row). AreRowsOf s.table.keys (key_view rest.rest.key) ws left_rows) (sym (ap (λ (ks : List KeyColumn). map (row_without_keys ks) left_rows) r.written.wrote.shows.keys))
            (rows_of s.table.schema s.table.keys (key_view rest.rest.key) at.group.key r.written.wrote.shows.valid.keys key_is left_rows left_in);
        rows_in = subst (λ (k : Key). AllByRecursion (IsRowIn s.table.schema s.table.keys k) left_rows) (sym key_is) left_in;
      }

      pub is_touched : 1 ≤ rest.gone → list_any pass at.group.rows ≡ true
      is_touched some = any_picked pass at.group.rows (let g = are.gone in omega (arith, g, some))

      -- ---- one group more

      group_drop : drop place s.table.groups ≡ at.group ∷ drop (place + 1) s.table.groups
      group_drop = drop_more s.table.groups place at.group at.group_at

      counted_on : (count : ℕ) → count ≡ removed.count + rest.gone → count + length (filter pass (rows (drop (place + 1) s.table.groups))) ≡ length (filter pass (rows s.table.groups))
      counted_on count is =
          let a = ap (λ (gs : List Group). length (filter pass (rows gs))) group_drop in
          let b = filtered_both pass at.group.rows (rows (drop (place + 1) s.table.groups)) in
          let c = r.counted in
          let g = are.gone in
          omega (arith, is, a, b, c, g)

      -- no row satisfies
      pub stays_on : rest.gone ≡ 0 → (vault : Vault D) → LeavesAll disk (state vault.disk) → disk.failures ≤ (state vault.disk).failures → HasReplaced state start (record now { vault = vault }) s pass (place + 1) removed
      stays_on none vault leaves later =
          let untouched = no_picked pass at.group.rows (sym are.gone ∙ none) in
          record {
            files = r.files ++ at.file ∷ [];
            groups = r.groups ++ at.group ∷ [];
            outcomes = r.outcomes ++ stays ∷ [];
            files_are = passed_more root.groups r.files place at.file at.file_at r.files_are;
            groups_are = passed_more s.table.groups r.groups place at.group at.group_at r.groups_are;
            as_many = more_many stays;
            left = zip_more (IsLeft pass) r.groups r.outcomes at.group stays r.left untouched;
            changes_are = r.changes_are ∙ sym (changes_more r.files r.outcomes at.file stays r.as_many ∙ nothing_behind (changes_for r.files r.outcomes));
            written = subst (λ (fs : List FileGroup). HasWritten state start (record now { vault = vault }) s None fs (groups_come (r.outcomes ++ stays ∷ []))) (sym (come_files r.outcomes stays ∙ nothing_behind (files_come r.outcomes)))
                (subst (λ (gs : List Group). HasWritten state start (record now { vault = vault }) s None (files_come r.outcomes) gs) (sym (come_groups r.outcomes stays ∙ nothing_behind (groups_come r.outcomes)))
                (has_read state start now s is_open vault leaves later None (files_come r.outcomes) (groups_come r.outcomes) r.written));
            counted = counted_on removed.count (omega (arith, none));
            room =
                let a = ap (λ (gs : List Group). length (rows (touched pass gs))) group_drop in
                let b = untouched_here pass at.group (drop (place + 1) s.table.groups) untouched in
                let m = r.room in
                omega (arith, a, b, m);
          }
        where
          nothing_behind : {A : Type 0} (xs : List A) → xs ++ [] ≡ xs
          nothing_behind [] = refl
          nothing_behind (x ∷ xs) = ap (λ (ys : List _). x ∷ ys) (nothing_behind xs)

          more_many : (o : Outcome) → length (r.files ++ at.file ∷ []) ≡ length (r.outcomes ++ o ∷ [])
          more_many o =
              let a = length-append r.files (at.file ∷ []) in
              let b = length-append r.outcomes (o ∷ []) in
              let c = r.as_many in
              omega (arith, a, b, c)

      -- some row does, and what is left is written
      module _ (mid new : Core D) (after : Removed) (some : 1 ≤ rest.gone) (mid_number : mid.next_group ≡ now.next_group) (same : root_of new.manifest ≡ root)
          (put : HasPut state start mid new s (files_come r.outcomes) (groups_come r.outcomes) left_rows rest removed after) where
        abbrev o : Outcome
        o = put.outcome

        is_left : (p : Outcome) → IsOfRest mid.next_group (key_view rest.rest.key) left_rows p → IsLeft pass at.group p
        is_left stays i = absurd i
        is_left goes i = (is_touched some, i)
        is_left (comes e h) i = (is_touched some, ap (λ (g : Group). g.rows) i.0, ap (λ (g : Group). g.key) i.0 ∙ key_is, subst (λ (g : Group). 1 ≤ length g.rows) (sym i.0) i.1)

        more_many : length (r.files ++ at.file ∷ []) ≡ length (r.outcomes ++ o ∷ [])
        more_many =
            let a = length-append r.files (at.file ∷ []) in
            let b = length-append r.outcomes (o ∷ []) in
            let c = r.as_many in
            omega (arith, a, b, c)

        group_rows_some : 1 ≤ length at.group.rows
        group_rows_some = at.in_table.some

        pub put_on : HasReplaced state start new s pass (place + 1) after
        put_on = record {
          files = r.files ++ at.file ∷ [];
          groups = r.groups ++ at.group ∷ [];
          outcomes = r.outcomes ++ o ∷ [];
          files_are = subst (λ (q : Root). q.groups ≡ (r.files ++ at.file ∷ []) ++ drop (place + 1) q.groups) (sym same) (passed_more root.groups r.files place at.file at.file_at r.files_are);
          groups_are = passed_more s.table.groups r.groups place at.group at.group_at r.groups_are;
          as_many = more_many;
          left = zip_more (IsLeft pass) r.groups r.outcomes at.group o r.left (is_left o put.is);
          changes_are = put.changed ∙ ap (λ (cs : List Change). cs ++ change_for rest.number o) r.changes_are ∙ ap (λ (n : ℕ). changes_for r.files r.outcomes ++ change_for n o) are.number
              ∙ sym (changes_more r.files r.outcomes at.file o r.as_many);
          written = subst (λ (fs : List FileGroup). HasWritten state start new s None fs (groups_come (r.outcomes ++ o ∷ []))) (sym (come_files r.outcomes o))
              (subst (λ (gs : List Group). HasWritten state start new s None (files_come r.outcomes ++ files_come (o ∷ [])) gs) (sym (come_groups r.outcomes o)) put.written);
          counted = counted_on after.count put.counted;
          room =
              let a = ap (λ (gs : List Group). length (rows (touched pass gs))) group_drop in
              let b = touched_here pass at.group (drop (place + 1) s.table.groups) (is_touched some) in
              let m = r.room in
              let u = put.rises in
              let g = group_rows_some in
              omega (arith, a, b, m, u, g, mid_number);
        }

      -- it is not written
      pub put_stops : (mid new : Core D) (e : Refusal) (some : 1 ≤ rest.gone) (mid_number : mid.next_group ≡ now.next_group) (after : Removed)
          → Puts {T = Unit {0}} state start mid new s (files_come r.outcomes) (groups_come r.outcomes) left_rows rest removed after (Err e) → IsHalted state start new s pass e
      put_stops mid new e some mid_number after p = record {
        wrote = p.0;
        no_more =
            let a = ap (λ (gs : List Group). length (rows (touched pass gs))) group_drop in
            let b = touched_here pass at.group (drop (place + 1) s.table.groups) (is_touched some) in
            let m = r.room in
            let u = p.1 in
            let g = at.in_table.some in
            omega (arith, a, b, m, u, g, mid_number);
        why = by e p.2;
      }
        where
          by : (f : Refusal) → WhyNotPut state start new s left_rows f → WhyHalted state start new s pass f
          by Device w = w
          by Limit w = (at.group, touched_at pass s.table.groups place at.group at.group_at (is_touched some), w)
          by Memory w = tt
          by f w = absurd w

      -- either
      pub put_ends : (mid new : Core D) (after : Removed) → 1 ≤ rest.gone → mid.next_group ≡ now.next_group → root_of new.manifest ≡ root → (result : Result (Unit {0}) Refusal)
          → Puts state start mid new s (files_come r.outcomes) (groups_come r.outcomes) left_rows rest removed after result → Replaces state start new s pass (place + 1) after result
      put_ends mid new after some mid_number same (Ok x) put = put_on mid new after some mid_number same put
      put_ends mid new after some mid_number same (Err e) put = put_stops mid new e some mid_number after put

  -- it is not read
  pub read_stops : (vault : Vault D) (T : Type 0) (e : Refusal) → OnlyReads {T = T} disk (state vault.disk) (Err e) → HasCause IsDevice e → disk.honest → IsHalted state start (record now { vault = vault }) s pass e
  read_stops vault T e effect cause honest = record {
    wrote = wrote_read state start now s is_open vault (effect.unchanged honest) effect.counts.later now.next_group r.written.wrote;
    no_more = let m = r.room in omega (arith, m);
    why = by e cause effect.which;
  }
    where
      failed_since : HasFailed disk (state vault.disk) → HasFailed (state start.vault.disk) (state vault.disk)
      failed_since f = failed_on (state start.vault.disk) disk (state vault.disk) r.written.no_less effect.counts.later f

      by : (f : Refusal) → HasCause IsDevice f → HasCause (IsPartRefusal disk (state vault.disk)) f → WhyHalted state start (record now { vault = vault }) s pass f
      by Memory c w = tt
      by Device c w = failed_since (⊎_elim (λ d. d.1) (λ p. absurd p) w)
      by f c w = absurd (let d : f ≡ Device = c in cc)

-- all are judged
pub at_last : {D : Type 0} (state : D → DiskState) (start now : Core D) (s : State) (is_open : s.closed ≡ false) (test : Row → Bool) (place : ℕ) (removed : Removed) → HasReplaced state start now s test place removed
    → length (root_of now.manifest).groups ≤ place → HasReplaced state start now s test (length s.table.groups) removed
at_last state start now s is_open test place removed r past = record {
  files = r.files;
  groups = r.groups;
  outcomes = r.outcomes;
  files_are = r.files_are ∙ ap (λ (fs : List FileGroup). r.files ++ fs) (drop_all fs place past ∙ sym (drop_all fs (length gs) (omega (arith, many))));
  groups_are = r.groups_are ∙ ap (λ (xs : List Group). r.groups ++ xs) same_drop;
  as_many = r.as_many;
  left = r.left;
  changes_are = r.changes_are;
  written = r.written;
  counted = let c = r.counted in let e = ap (λ (xs : List Group). length (filter test (rows xs))) same_drop in omega (arith, c, e);
  room = let c = r.room in let e = ap (λ (xs : List Group). length (rows (touched test xs))) same_drop in omega (arith, c, e);
}
  where
    fs : List FileGroup
    fs = (root_of now.manifest).groups

    gs : List Group
    gs = s.table.groups

    many : length fs ≡ length gs
    many = as_many (state now.vault.disk) s.table.keys s.table.schema now.next_group fs gs (r.written.wrote.shows.shown is_open).version

    same_drop : drop place gs ≡ drop (length gs) gs
    same_drop = drop_all gs place (omega (arith, many, past)) ∙ sym (drop_all gs (length gs) (omega arith))
