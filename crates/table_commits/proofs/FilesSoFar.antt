-- What a call wrote so far, from file to file.
use Rattle.std.proofs.Common.{◌≡◌, ◌≤◌, ℕ, false, List, Option, Result, refl, sym, ◌∙◌, ap, subst, arith}
use Rattle.std.specs.declared.rc.Rc.{Rc}
use Rattle.std.specs.declared.alloc.Global.{Global}
use Rattle.bits.specs.declared.refusal.Refusal.{Refusal}
use Rattle.disk.specs.State.{State as DiskState}
use Rattle.manifest.specs.declared.group.Group.{Group as CodeGroup}
use Rattle.manifest.specs.Groups.{Group as FileGroup}
use Rattle.snapshots.specs.Views.{state_of}
use Rattle.table.specs.Table.{Row, Key, Group}
use Rattle.table.specs.State.{State}
use Rattle.table_state.specs.declared.standing.Core.{Core}
use Rattle.table_state.specs.declared.jobs.OpenJob.{OpenJob}
use Rattle.table_state.specs.Paths.{IsOlder}
use Rattle.table_state.specs.Stands.{AreStored, ShowsJobs, Shows}
use Rattle.table_commits.specs.Writing.{Writes, counted}
use Rattle.table_commits.specs.Acting.{WroteTo}
use Rattle.table_commits.proofs.SparedDisks.{spares_here, spares_on, spares_less, older_still}
use Rattle.table_commits.proofs.StoredStays.{Any, all_any, stored_on, jobs_on}
use Rattle.table_commits.proofs.StateCarriedOver.{file_is_older}

module _ {D : Type 0} (state : D → DiskState) where
  pub wrote_nothing : (store : Core D) (s : State) → Shows state store s → s.closed ≡ false → WroteTo state store store s s.next_group
  wrote_nothing store s shows is_open = record {
    rises = omega arith;
    keeps = refl;
    spares = spares_here s.table.keys (IsOlder s.table.keys s.next_group) (state store.vault.disk);
    shows = shows;
    jobs = (shows.shown is_open).jobs;
  }

  -- one file more, or a refusal of it; the groups that were written before stay
  module _ (old mid new : Core D) (s : State) (counter : ℕ) (wrote : WroteTo state old mid s counter) (job : Option ℕ) (key : Key) (rows : List Row) (result : Result (Rc CodeGroup Global) Refusal)
      (writes : Writes state mid new job key rows result (counted s counter)) where
    higher : counter ≤ new.next_group
    higher = let n = wrote.shows.next_group in let l = writes.no_less in omega (arith, n, l)

    pub wrote_more : new.jobs ≡ mid.jobs → WroteTo state old new s new.next_group
    wrote_more same = record {
      rises = let r = wrote.rises in let h = higher in omega (arith, r, h);
      keeps = writes.keeps ∙ wrote.keeps;
      spares = spares_on s.table.keys (IsOlder s.table.keys s.next_group) (state old.vault.disk) (state mid.vault.disk) (state new.vault.disk) wrote.spares
          (spares_less s.table.keys (IsOlder s.table.keys counter) (IsOlder s.table.keys s.next_group) (older_still s.table.keys s.next_group counter wrote.rises) (state mid.vault.disk) (state new.vault.disk) writes.spares);
      shows = writes.shows;
      jobs = subst (λ (js : List OpenJob). ShowsJobs (state new.vault.disk) (state_of new.snapshots) s js s.jobs) (sym (ap (λ js. js.items) same))
          (jobs_on s.table.keys s.table.schema s.next_group s.next_group s.options.group_rows (omega arith) s.had s.had (λ n low e. e) (state_of mid.snapshots) (state_of new.snapshots) (IsOlder s.table.keys counter)
          (λ f low held. file_is_older state mid (counted s counter) wrote.shows f (low.0, let l = low.1 in let r = wrote.rises in omega (arith, l, r))) (state mid.vault.disk) (state new.vault.disk) writes.spares
          writes.in_use.jobs mid.jobs.items s.jobs wrote.jobs);
    }

    pub stored_more : (files : List FileGroup) (groups : List Group) → AreStored (state mid.vault.disk) s.table.keys s.table.schema counter files groups
        → AreStored (state new.vault.disk) s.table.keys s.table.schema new.next_group files groups
    stored_more files groups are = stored_on s.table.keys counter new.next_group higher Any (IsOlder s.table.keys counter) (λ f low held. file_is_older state mid (counted s counter) wrote.shows f low) (state mid.vault.disk) (state new.vault.disk) writes.spares
        s.table.schema files groups (all_any files) are
