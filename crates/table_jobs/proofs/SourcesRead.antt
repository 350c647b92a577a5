-- The sources of a rewrite that are read between writes.
use Rattle.std.proofs.Common.{◌≡◌, ◌≤◌, ℕ, suc, false, List, [], ◌∷◌, Option, Some, None, Err, refl, sym, ◌∙◌, ap, subst, arith, inl, inr}
use Rattle.std.specs.Prelude.{option_map}
use Rattle.std.specs.List.{AllByRecursion}
use Rattle.std.specs.declared.vec.Vec.{Vec}
use Rattle.std.specs.declared.alloc.Global.{Global}
use Rattle.bits.specs.declared.refusal.Refusal.{Refusal}
use Rattle.bits.specs.declared.refusal.Refusal.TheVariants.{Memory, Device}
use Rattle.bits.specs.Refusals.{HasCause}
use Rattle.schema.specs.declared.row.Row.{Row as CodeRow}
use Rattle.schema.specs.Shape.{Fields}
use Rattle.schema.specs.Views.{rows_view}
use Rattle.schema.specs.Keys.{KeyColumn, AreKeys, without_keys}
use Rattle.disk.specs.State.{State as DiskState}
use Rattle.vault.specs.declared.vault.Vault.{Vault}
use Rattle.vault.specs.Calls.{LeavesAll}
use Rattle.manifest.specs.Groups.{Group as FileGroup, Root, root_of}
use Rattle.manifest.specs.Records.{IsGroup}
use Rattle.scan.specs.Faults.{IsDevice, IsPartRefusal}
use Rattle.snapshots.specs.State.{State as Versions}
use Rattle.snapshots.specs.Views.{state_of}
use Rattle.table.specs.Table.{Row, Group}
use Rattle.table.specs.State.{State}
use Rattle.table_state.specs.declared.standing.Core.{Core}
use Rattle.table_state.specs.declared.jobs.OpenJob.{OpenJob}
use Rattle.table_jobs.specs.Completing.{completed_rows}
use Rattle.table_reads.specs.Counting.{IsHeld}
use Rattle.table_state.specs.Paths.{IsOlder}
use Rattle.table_state.specs.Spares.{Spares}
use Rattle.table_state.specs.Stands.{IsStored, AreStored}
use Rattle.table_commits.specs.Writing.{counted}
use Rattle.table_commits.specs.Acting.{WroteTo}
use Rattle.table_commits.specs.Filling.{HasWritten}
use Rattle.table_reads.specs.Reading.{OnlyReads}
use Rattle.table_jobs.specs.Rewritten.{IsSource, AreSources, kept_at, IsHalted}
use Rattle.table_commits.proofs.OneFileMore.{failed_since}
use Rattle.table_commits.proofs.AfterCleanings.{read_still}
use Rattle.table_commits.proofs.SparedDisks.{spares_on, spares_less, read_spares}
use Rattle.table_commits.proofs.StoredStays.{file_older, Any, all_any, stored_on, jobs_on, hold_same}

-- ---- a source

module _ {D : Type 0} (state : D → DiskState) (start mid : Core D) (s : State) (n : ℕ) (files : List FileGroup) (groups : List Group) (is_open : s.closed ≡ false) (has : HasWritten state start mid s (Some n) files groups) where
  abbrev root : Root
  root = root_of mid.manifest

  stored_there : (f : FileGroup) (g : Group) → IsStored (state start.vault.disk) s.table.keys s.table.schema s.next_group f g → AreStored (state mid.vault.disk) s.table.keys s.table.schema s.next_group (f ∷ []) (g ∷ [])
  stored_there f g z = stored_on s.table.keys s.next_group s.next_group (omega arith) Any (IsOlder s.table.keys s.next_group) (λ h low held. file_older s.table.keys has.wrote.shows.apart s.next_group (let l = has.wrote.shows.counted in let r = has.wrote.rises in omega (arith, l, r)) h low) (state start.vault.disk) (state mid.vault.disk) has.wrote.spares s.table.schema
      (f ∷ []) (g ∷ []) (all_any (f ∷ [])) (z, tt)

  abbrev Held : FileGroup → Group → List KeyColumn → Fields → Type 0
  Held f g ks fs = AreKeys ks fs × AreStored (state mid.vault.disk) ks fs s.next_group (f ∷ []) (g ∷ []) × AllByRecursion (IsGroup ks (without_keys ks fs)) (f ∷ [])

  held_made : (f : FileGroup) (g : Group) → Held f g root.keys root.schema → IsHeld (state mid.vault.disk) [] root f g
  held_made f g h = record { over = ([], refl); keyed = h.0; count = s.next_group; stored = h.1; described = h.2 }

  -- it can be read
  pub source_held : (kept : Option (List Row)) (f : FileGroup) (g : Group) → IsSource (state start.vault.disk) s kept f g → IsHeld (state mid.vault.disk) [] root f g
  source_held kept f g z = held_made f g (subst (λ (ks : List KeyColumn). Held f g ks root.schema) (sym has.wrote.shows.keys) (subst (λ (fs : Fields). Held f g s.table.keys fs) (sym has.wrote.shows.schema) (has.wrote.shows.valid.keys, stored_there f g z.stored, (z.described, tt))))

  -- what was read of it before, completed, is its rows
  pub source_kept : (kept : Option (List Row)) (f : FileGroup) (g : Group) → IsSource (state start.vault.disk) s kept f g → (fs : Fields) → fs ≡ s.table.schema → (v : Vec CodeRow Global)
      → option_map (λ (w : Vec CodeRow Global). rows_view w.items) (Some v) ≡ option_map (completed_rows fs) kept → rows_view v.items ≡ g.rows
  source_kept None f g z fs same v told = absurd (cc)
  source_kept (Some given) f g z fs same v told =
      let is : rows_view v.items ≡ completed_rows fs given = one (rows_view v.items) (completed_rows fs given) told in
      is ∙ ap (λ (xs : Fields). completed_rows xs given) same ∙ z.read given refl
    where
      one : (a b : List Row) → Some a ≡ Some b → a ≡ b
      one a b e = cc

  -- ---- the disk is read

  module _ (vault : Vault D) (leaves : LeavesAll (state mid.vault.disk) (state vault.disk)) (later : (state mid.vault.disk).failures ≤ (state vault.disk).failures) where
    abbrev read_store : Core D
    read_store = record mid { vault = vault }

    abbrev versions : Versions
    versions = state_of mid.snapshots

    spared : Spares s.table.keys (λ q. Unit {0}) (state mid.vault.disk) (state vault.disk)
    spared = read_spares s.table.keys has.wrote.shows.apart (λ q. Unit {0}) (state mid.vault.disk) (state vault.disk) leaves

    wrote_so : WroteTo state start read_store s mid.next_group
    wrote_so = record {
      rises = has.wrote.rises;
      keeps = has.wrote.keeps;
      spares = spares_on s.table.keys (IsOlder s.table.keys s.next_group) (state start.vault.disk) (state mid.vault.disk) (state vault.disk) has.wrote.spares
          (spares_less s.table.keys (λ q. Unit {0}) (IsOlder s.table.keys s.next_group) (λ path need. tt) (state mid.vault.disk) (state vault.disk) spared);
      shows = (read_still state mid (counted s mid.next_group) has.wrote.shows is_open vault leaves).shows;
      jobs = jobs_on s.table.keys s.table.schema s.next_group s.next_group s.options.group_rows (omega arith) s.had s.had (λ m low e. e) versions versions (λ q. Unit {0}) (λ f low held. tt) (state mid.vault.disk) (state vault.disk) spared
          (hold_same versions.jobs versions.jobs refl) mid.jobs.items s.jobs has.wrote.jobs;
    }

    pub read_on : HasWritten state start read_store s (Some n) files groups
    read_on = record {
      wrote = wrote_so;
      no_less = let a = has.no_less in omega (arith, a, later);
      job_open = has.job_open;
      stored = stored_on s.table.keys mid.next_group mid.next_group (omega arith) Any (λ q. Unit {0}) (λ f low held. tt) (state mid.vault.disk) (state vault.disk) spared s.table.schema files groups (all_any files) has.stored;
      held = has.held;
      described = has.described;
      above = has.above;
      distinct = has.distinct;
    }

    -- it cannot be read
    pub read_stops : (Part : List Row → Type 0) (most : ℕ) → mid.next_group ≤ most → (T : Type 0) (e : Refusal) → HasCause IsDevice e → OnlyReads {T = T} (state mid.vault.disk) (state vault.disk) (Err e) → IsHalted state start read_store s Part most e
    read_stops Part most low T e only effect = by e only effect.which
      where
        by : (f : Refusal) → HasCause IsDevice f → HasCause (IsPartRefusal (state mid.vault.disk) (state vault.disk)) f → IsHalted state start read_store s Part most f
        by Memory c d = record { wrote = wrote_so; no_more = low; why = tt }
        by Device c (inl d) = record { wrote = wrote_so; no_more = low; why = failed_since (state start.vault.disk) (state mid.vault.disk) (state vault.disk) has.no_less later d.1 }
        by Device c (inr d) = absurd d
        by f c d = absurd (cc)

-- ---- one after another

-- the first of those that are left
pub record NextSource (disk : DiskState) (s : State) (job : Option OpenJob) (place : ℕ) (f : FileGroup) (fs : List FileGroup) (left : List Group) : Type 0 where
  pub g : Group
  pub gs : List Group
  pub is : left ≡ g ∷ gs
  pub source : IsSource disk s (kept_at place job) f g
  pub others : AreSources disk s job (suc place) fs gs

pub next_source : (disk : DiskState) (s : State) (job : Option OpenJob) (place : ℕ) (f : FileGroup) (fs : List FileGroup) (left : List Group) → AreSources disk s job place (f ∷ fs) left → NextSource disk s job place f fs left
next_source disk s job place f fs [] z = absurd z
next_source disk s job place f fs (g ∷ gs) z = record { g = g; gs = gs; is = refl; source = z.0; others = z.1 }
