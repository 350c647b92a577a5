-- A commit call from its parts.
use Rattle.std.proofs.Common.{◌≡◌, ℕ, true, false, not, Result, Ok, Err, refl, sym, ◌∙◌, ap, subst, arith, inl, ⊎_elim}
use Rattle.std.proofs.lemmas.Bool.{cases_lt}
use Rattle.bits.specs.declared.refusal.Refusal.{Refusal}
use Rattle.bits.specs.declared.refusal.Refusal.TheVariants.{Limit, Device, Memory, InDoubt}
use Rattle.disk.specs.State.{State as DiskState}
use Rattle.table.specs.Table.{Table}
use Rattle.table.specs.State.{State}
use Rattle.table.specs.Calls.{Call, Answer, done, refused}
use Rattle.table.specs.Leading.{jobs_after}
use Rattle.table.specs.Refusing.{Happens, Stays, over, no_memory, failed, in_doubt}
use Rattle.table.specs.Stops.{Survives}
use Rattle.table.specs.Views.{answered}
use Rattle.table_state.specs.declared.standing.Core.{Core}
use Rattle.table_state.specs.Paths.{IsOlder}
use Rattle.table_state.specs.OnDisk.{HoldsTable}
use Rattle.table_state.specs.Stands.{Stands}
use Rattle.table_commits.specs.Writing.{counted}
use Rattle.table_commits.specs.Committing.{turned, Turns}
use Rattle.table_state.specs.Promises.{WasNextKept, IsOlderFile, KeepsFiles, ActsFrom}
use Rattle.table_commits.specs.Acting.{WroteTo, HasReason, AsksCommit, CommitsAct, RefusalsAct, AppendsAsk}
use Rattle.table_commits.proofs.OneCallMore.{reached_on}
use Rattle.table_commits.proofs.DoubtCloses.{no_doubt}
use Rattle.table_commits.proofs.NextRootsKept.{next_kept_since}
use Rattle.table_commits.proofs.StateCarriedOver.{root_is_older, file_is_older, past_of, past_on, survives_spared}
use Rattle.table_commits.proofs.OlderFiles.{older_counted, kept_spared, older_kept_on}

module _ {D : Type 0} (state : D → DiskState) where
  module _ (old mid : Core D) (s : State) (counter : ℕ) (stands : Stands state old s) (is_open : s.closed ≡ false) (wrote : WroteTo state old mid s counter) where
    before : (after : State) → after.table ≡ s.table → Survives (state mid.vault.disk).images HoldsTable (state old.vault.disk).moment (state mid.vault.disk).moment s after
    before after same = survives_spared state old s stands.shows is_open (IsOlder s.table.keys s.next_group) (root_is_older state old s stands.shows) (λ f low held. file_is_older state old s stands.shows f low) (state mid.vault.disk) wrote.spares after same

    -- what was written is younger
    kept_so_far : old.keeps ≡ true → KeepsFiles state old mid (IsOlderFile s)
    kept_so_far keeps = kept_spared state old mid s (wrote.keeps ∙ keeps) wrote.spares

    pub refused_after : (call : Call) (e : Refusal) → Happens s call (refused e) (counted s counter) → ActsFrom state old mid call (refused e) s
    refused_after call e happens = record {
      after = counted s counter;
      happens = happens;
      survives = before (counted s counter) refl;
      stands = record { reached = reached_on s stands.reached call (refused e) (counted s counter) happens; shows = wrote.shows };
      past = past_of (state old.vault.disk) (state mid.vault.disk) wrote.spares.moments;
      doubt = no_doubt s call (refused e) (counted s counter) happens refl;
      kept = kept_so_far;
    }

    module _ (new : Core D) (call : Call) (n : ℕ) (t : Table) (asks : AsksCommit s call n t counter) where
      -- where the commit ended
      ended : {T : Type 0} (result : Result T Refusal) (answer : Answer) (turns : Turns state mid new (counted s counter) t (jobs_after s call) result) → Happens s call answer turns.after_it
          → (answer ≡ refused InDoubt → WasNextKept (state mid.vault.disk) (state new.vault.disk)) → ActsFrom state old new call answer s
      ended result answer turns happens doubt = record {
        after = turns.after_it;
        happens = happens;
        survives = record {
          later = let l = wrote.spares.moments.later in let m = turns.survives.later in omega (arith, l, m);
          each = λ m c lo hi at. ⊎_elim
              (λ late. turns.survives.each m c (omega (arith, late)) hi at)
              (λ early.
              let h = (before (counted s counter) refl).each m c lo early (turns.past.history m c early at) in
              (h.0, h.1, inl (⊎_elim (λ a. a) (λ a. a) h.2)))
              (cases_lt (state mid.vault.disk).moment m);
          ended = turns.survives.ended;
        };
        stands = record { reached = reached_on s stands.reached call answer turns.after_it happens; shows = turns.shows };
        past = past_on (state old.vault.disk) (state mid.vault.disk) (state new.vault.disk) (past_of (state old.vault.disk) (state mid.vault.disk) wrote.spares.moments) turns.past;
        doubt = λ is. next_kept_since (state old.vault.disk) (state mid.vault.disk) (state new.vault.disk) wrote.spares.moments.later (doubt is);
        kept = λ keeps. let kept = kept_so_far keeps in older_kept_on state old mid new (IsOlderFile s) (IsOlderFile s) (IsOlderFile (counted s counter)) (λ path older. older) (older_counted s counter wrote.rises) kept (turns.kept kept.keeps);
      }

      stays : Stays s call (counted s counter)
      stays = asks.stays counter asks.leads.rises

      pub acts : (T : Type 0) (result : Result T Refusal) → HasReason s call result → Turns state mid new (counted s counter) t (jobs_after s call) result → ActsFrom state old new call (answered (λ _. done n) result) s
      acts T (Ok x) reason turns = ended (Ok x) (done n) turns (subst (λ (a : State). Happens s call (done n) a) (sym turns.is)
          (asks.does (turned (counted s counter) t (jobs_after s call)) (record {
            n = n;
            table = t;
            counter = counter;
            leads = asks.leads;
            answers = refl;
            becomes = refl;
          })))
          (λ is. absurd (cc))
      acts T (Err InDoubt) reason turns = ended {T = T} (Err InDoubt) (refused InDoubt) turns (subst (λ (a : State). Happens s call (refused InDoubt) a) (sym turns.is)
          (in_doubt refl asks.unrefused (record { n = n; table = t; counter = counter; leads = asks.leads; other = asks.other; becomes = refl })))
          (λ is. turns.doubt refl)
      acts T (Err Limit) reason turns = ended {T = T} (Err Limit) (refused Limit) turns (subst (λ (a : State). Happens s call (refused Limit) a) (sym turns.is) (over refl reason.0 reason.1 stays)) (λ is. absurd (cc))
      acts T (Err Device) reason turns = ended {T = T} (Err Device) (refused Device) turns (subst (λ (a : State). Happens s call (refused Device) a) (sym turns.is) (failed refl asks.on asks.disk stays)) (λ is. absurd (cc))
      acts T (Err Memory) reason turns = ended {T = T} (Err Memory) (refused Memory) turns (subst (λ (a : State). Happens s call (refused Memory) a) (sym turns.is) (no_memory refl asks.on asks.memory stays)) (λ is. absurd (cc))
      acts T (Err e) reason turns = absurd reason

  pub commits_act : CommitsAct state
  commits_act old mid new s call n t counter result stands is_open asks wrote reason turns = acts old mid s counter stands is_open wrote new call n t asks (Unit {0}) result reason turns

  pub refusals_act : RefusalsAct state
  refusals_act old new s call counter e stands is_open wrote happens = refused_after old new s counter stands is_open wrote call e happens

pub appends_ask : AppendsAsk
appends_ask s given n t counter is_open unrefused leads other = record {
  leads = leads;
  unrefused = unrefused;
  other = other;
  on = ap not is_open;
  memory = refl;
  disk = refl;
  does = λ new is. (unrefused, is);
  stays = λ more rises. record { counter = more; rises = rises; is = refl };
}
