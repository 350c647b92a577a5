-- A commit from its plan to its end.
use Rattle.std.proofs.Common.{◌≡◌, ◌≢◌, ◌⊎◌, ℕ, true, false, List, Option, Some, None, Ok, refl, sym, ◌∙◌, ap, subst, arith, inl, inr, ⊎_elim}
use Rattle.std.proofs.lemmas.Bool.{cases_lt}
use Rattle.bits.specs.declared.refusal.Refusal.{Refusal}
use Rattle.bits.specs.declared.refusal.Refusal.TheVariants.{Limit, Device, InDoubt}
use Rattle.bits.specs.Refusals.{HasCause}
use Rattle.disk.specs.State.{State as DiskState}
use Rattle.manifest.specs.Groups.{Group as FileGroup, Root, root_of}
use Rattle.manifest.specs.Root.{RootMeans}
use Rattle.snapshots.specs.State.{State as Versions, committed, after, fault_of}
use Rattle.snapshots.specs.Views.{state_of, prepared_of}
use Rattle.table.specs.Table.{Table}
use Rattle.table.specs.State.{State, Job}
use Rattle.table.specs.Stops.{Survives}
use Rattle.table_state.specs.declared.standing.Core.{Core}
use Rattle.table_commits.specs.declared.turn.Turn.{Turn}
use Rattle.table_state.specs.OnDisk.{HoldsTable}
use Rattle.table_state.specs.Stands.{AreStored, Shows}
use Rattle.table_state.specs.Promises.{IsOlderFile, KeepsFiles}
use Rattle.table_commits.specs.Committing.{IsMade, IsPlanned, IsTurnTo, ShowsJobsLeft, turned, TurnsInto, Turns}
use Rattle.table_commits.specs.Cleaning.{Clears}
use Rattle.table_commits.proofs.PartFilesWritten.{failed}
use Rattle.table_commits.proofs.StateCarriedOver.{past_on}
use Rattle.table_commits.proofs.AfterCleanings.{nothing_cleared}
use Rattle.table_commits.proofs.DisksLeftAlone.{all_here}
use Rattle.table_commits.proofs.OlderFiles.{kept_read}

-- the versions are prepared for what the turn has
pub prepared_so : (versions : Versions) (root : Root) (job : Option ℕ) (turn : Turn) → IsMade versions root job turn → prepared_of turn.prepared ≡ after versions (committed (root_of turn.manifest).groups turn.job)
prepared_so versions root job turn made =
    made.prepared_is ∙ ap (λ (r : Root). after versions (committed r.groups job)) (sym made.manifest_is) ∙ ap (λ (j : Option ℕ). after versions (committed (root_of turn.manifest).groups j)) (sym made.job_is)

module _ {D : Type 0} (state : D → DiskState) (store : Core D) (s : State) (t : Table) (jobs : List (ℕ × Job)) (shows : Shows state store s) (is_open : s.closed ≡ false) (job : Option ℕ) (root : Root)
    (planned : IsPlanned (state store.vault.disk) store s t jobs job root) where
  abbrev disk : DiskState
  disk = state store.vault.disk

  -- what is made of the plan is ready
  pub is_turn : (turn : Turn) → IsMade (state_of store.snapshots) root job turn → IsTurnTo disk store s t jobs turn
  is_turn turn made =
      let is = made.manifest_is in
      let groups = ap (λ (r : Root). r.groups) is in
      record {
        valid = planned.valid;
        keys = planned.keys;
        covers = planned.covers;
        ready = record {
          means = subst (λ (r : Root). RootMeans turn.root.items r) (sym is) made.means;
          schema = ap (λ (r : Root). r.schema) is ∙ planned.schema_is;
          keys = ap (λ (r : Root). r.keys) is ∙ planned.keys_are;
          next = ap (λ (r : Root). r.next) is ∙ planned.next_is;
          stored = subst (λ (gs : List FileGroup). AreStored disk t.keys t.schema s.next_group gs t.groups) (sym groups) planned.stored;
        };
        jobs_are = subst (λ (j : Option ℕ). ShowsJobsLeft disk store s t j jobs) (sym made.job_is) planned.jobs_are;
        prepared = prepared_so (state_of store.snapshots) root job turn made;
      }

  -- it was not made
  is_same : (T : Type 0) (f : Refusal) → f ≢ InDoubt → TurnsInto (failed T f) s t jobs s
  is_same T InDoubt n = absurd (n refl)
  is_same T f n = refl

  no_doubt : (e : Refusal) → HasCause (λ f. (f ≡ Limit) ⊎ (fault_of (state_of store.snapshots) (committed root.groups job) ≡ Some f)) e → e ≢ InDoubt
  no_doubt e cause is = by (subst (λ (f : Refusal). HasCause (λ h. (h ≡ Limit) ⊎ (fault_of (state_of store.snapshots) (committed root.groups job) ≡ Some h)) f) is cause)
    where
      by : (InDoubt ≡ Limit) ⊎ (fault_of (state_of store.snapshots) (committed root.groups job) ≡ Some InDoubt) → ⊥
      by (inl a) = cc
      by (inr b) = let c : None ≡ Some InDoubt = sym planned.unrefused ∙ b in cc

  no_failure : (f e : Refusal) → (HasCause (λ h. (h ≡ Limit) ⊎ (fault_of (state_of store.snapshots) (committed root.groups job) ≡ Some h)) f → ⊥) → HasCause (λ h. (h ≡ Limit) ⊎ (fault_of (state_of store.snapshots) (committed root.groups job) ≡ Some h)) e → e ≡ f → ⊥
  no_failure f e never cause is = never (subst (λ (x : Refusal). HasCause (λ h. (h ≡ Limit) ⊎ (fault_of (state_of store.snapshots) (committed root.groups job) ≡ Some h)) x) is cause)

  no_device : HasCause (λ h. (h ≡ Limit) ⊎ (fault_of (state_of store.snapshots) (committed root.groups job) ≡ Some h)) Device → ⊥
  no_device (inl a) = cc
  no_device (inr b) = let c : None ≡ Some Device = sym planned.unrefused ∙ b in cc

  pub not_made : (T : Type 0) (e : Refusal) → HasCause (λ f. (f ≡ Limit) ⊎ (fault_of (state_of store.snapshots) (committed root.groups job) ≡ Some f)) e → Turns state store store s t jobs (failed T e)
  not_made T e cause = let still = nothing_cleared state store s shows is_open in record {
    after_it = s;
    is = is_same T e (no_doubt e cause);
    shows = shows;
    survives = still.survives;
    past = still.past;
    cause = ⊎_elim (λ is. absurd (no_failure Device e no_device cause is)) (λ is. absurd (no_doubt e cause is));
    doubt = λ is. absurd (no_doubt e cause is);
    kept = λ keeps. kept_read state store store (IsOlderFile s) keeps (all_here disk);
  }

  pub too_heavy : (A : Type 0) → A ⊎ (fault_of (state_of store.snapshots) (committed root.groups job) ≡ Some Limit) → A
  too_heavy A (inl h) = h
  too_heavy A (inr f) = absurd (let c : None ≡ Some Limit = sym planned.unrefused ∙ f in cc)

  -- it was done, and what nothing needs was removed
  pub done_and_cleared : {T U : Type 0} (x : T) (y : U) (mid new : Core D) → Turns state store mid s t jobs (Ok x) → Clears state mid new (turned s t jobs) → (mid.keeps ≡ true → new ≡ mid) → Turns state store new s t jobs (Ok y)
  done_and_cleared x y mid new one two still =
      let survived = subst (λ (a : State). Survives (state mid.vault.disk).images HoldsTable disk.moment (state mid.vault.disk).moment s a) one.is one.survives in
      record {
        after_it = turned s t jobs;
        is = refl;
        shows = two.shows;
        survives = record {
          later = let l = survived.later in let m = two.survives.later in omega (arith, l, m);
          each = λ m c lo hi at. ⊎_elim
              (λ late. let h = two.survives.each m c (omega (arith, late)) hi at in (h.0, h.1, inr (⊎_elim (λ a. a) (λ a. a) h.2)))
              (λ early. survived.each m c lo early (two.past.history m c early at))
              (cases_lt (state mid.vault.disk).moment m);
          ended = two.survives.ended;
        };
        past = past_on disk (state mid.vault.disk) (state new.vault.disk) one.past two.past;
        cause = tt;
        doubt = tt;
        kept = λ keeps. let kept = one.kept keeps in subst (λ (st : Core D). KeepsFiles state store st (IsOlderFile s)) (sym (still kept.keeps)) kept;
      }

  pub shows_turned : {T : Type 0} (x : T) (mid : Core D) → Turns state store mid s t jobs (Ok x) → Shows state mid (turned s t jobs)
  shows_turned x mid one = subst (λ (a : State). Shows state mid a) one.is one.shows
