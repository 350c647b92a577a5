-- What the vault's calls leave, from what their steps do.
use Rattle.std.proofs.Common.{◌≡◌, ◌≢◌, ◌<◌, ◌≤◌, ◌⊎◌, ◌-◌, ◌^◌, ℕ, List, ⊎_elim, refl, sym, subst, Ok, Err}
use Rattle.disk.specs.State.{State, IsLawful}
use Rattle.disk.specs.Calls.{CountsFailure}
use Rattle.disk.specs.declared.fault.Fault.{Fault}
use Rattle.disk.specs.declared.fault.Fault.TheVariants.{Absent, Exists, Failed, Memory}
use Rattle.bits.specs.Refusals.{HasCause}
use Rattle.bits.specs.declared.refusal.Refusal.{Refusal}
use Rattle.bits.specs.declared.refusal.Refusal.TheVariants.{InDoubt}
use Rattle.vault.specs.Views.{AllBut, Swaps, next_path}
use Rattle.vault.specs.Ways.{IsClearWay}
use Rattle.vault.specs.Calls.{HasFailed, Puts, SwapsRoot, Forgets}
use Rattle.vault.specs.inner.Files.{Cleared, Placed, Turned, FailsOnly, refusal_for}
use Rattle.vault.proofs.Moments.{widens}
use Rattle.vault.proofs.Names.{next_alone}
use Rattle.vault.proofs.Writing.{not_on_its_way}
use Rattle.vault.proofs.Answering.{grown}
use Rattle.vault.proofs.Turning.{beside_swaps, swap_moments, swap_seen, swap_rooted, swap_clear, swap_no_folder, swap_was_kept}

-- a fault that is a failure is counted
counted : (e : Fault) (old new : ℕ) → e ≡ Failed → CountsFailure {T = Unit {0}} (Err e) old new → (old < new) ⊎ (2 ^ 64 - 1 ≤ old)
counted e old new is counts = let more = counts.failed (cc is) in more.grows

-- a refusal of a call that fails only where the disk fails has that cause
cause_for : (e : Fault) (old new : State) → FailsOnly {T = Unit {0}} (Err e) → CountsFailure {T = Unit {0}} (Err e) old.failures new.failures → HasCause (λ _. HasFailed old new) (refusal_for e)
cause_for Absent old new fails counts = ⊎_elim (λ is. absurd (cc is)) (λ is. absurd (cc is)) fails
cause_for Exists old new fails counts = ⊎_elim (λ is. absurd (cc is)) (λ is. absurd (cc is)) fails
cause_for Failed old new fails counts = counted Failed old.failures new.failures refl counts
cause_for Memory old new fails counts = tt

refusal_is_sure : (e : Fault) → refusal_for e ≢ InDoubt
refusal_is_sure Absent is = cc is
refusal_is_sure Exists is = cc is
refusal_is_sure Failed is = cc is
refusal_is_sure Memory is = cc is

module _ (path bytes : List ℕ) (old new : State) (way : IsClearWay old path) where
  pub put_done : Placed {T = Unit {0}} path bytes old new (Ok tt) → Puts {T = Unit {0}} path bytes old new (Ok tt)
  put_done placed = record {
    moments = placed.spares.moments;
    seen = placed.spares.seen;
    kept = placed.kept;
    rooted = placed.spares.rooted;
    own = placed.clear path (record { below = not_on_its_way path; above = not_on_its_way path }) way;
    clear = placed.clear;
    cause = tt;
  }

  pub put_refused : (e : Fault) (f : Refusal) → f ≡ refusal_for e → Placed {T = Unit {0}} path bytes old new (Err e) → IsLawful old → old.honest
      → CountsFailure {T = Unit {0}} (Err e) old.failures new.failures → Puts {T = Unit {0}} path bytes old new (Err f)
  put_refused e f is placed lawful honest counts = let P : Refusal → Type 0 = λ g. Puts {T = Unit {0}} path bytes old new (Err g) in subst P (sym is) (record {
    moments = placed.spares.moments;
    seen = placed.spares.seen;
    kept = tt;
    rooted = placed.spares.rooted;
    own = placed.clear path (record { below = not_on_its_way path; above = not_on_its_way path }) way;
    clear = placed.clear;
    cause = cause_for e old new (placed.fails (way old.seen (lawful.seen_may_stay honest)).no_folder) counts;
  })

-- the next root could not be placed
pub swap_refused : (root : List ℕ) (old new : State) (e : Fault) (f : Refusal) → f ≡ refusal_for e → Placed {T = Unit {0}} next_path root old new (Err e) → IsLawful old → old.honest
    → CountsFailure {T = Unit {0}} (Err e) old.failures new.failures → SwapsRoot {T = Unit {0}} root old new (Err f)
swap_refused root old new e f is placed lawful honest counts = let P : Refusal → Type 0 = λ g. SwapsRoot {T = Unit {0}} root old new (Err g) in subst P (sym is) (record {
  moments = widens (AllBut next_path) (Swaps root) old new (beside_swaps root) placed.spares.moments;
  seen = beside_swaps root _ _ placed.spares.seen;
  done = tt;
  fresh = tt;
  gone = tt;
  unchanged = λ _. placed.spares.moments;
  in_doubt = λ doubt. absurd (refusal_is_sure e doubt);
  rooted = placed.spares.rooted;
  clear = λ q off. placed.clear q (record { below = off.next; above = next_alone q });
  cause = λ roots. cause_for e old new (placed.fails (roots.next old.seen (lawful.seen_may_stay honest)).no_folder) counts;
})

module _ (root : List ℕ) (s0 s1 s2 : State) (placed : Placed {T = Unit {0}} next_path root s0 s1 (Ok tt)) (lawful : IsLawful s1) (honest : s1.honest) where
  pub swap_done : Turned {T = Unit {0}} root s1 s2 (Ok tt) → SwapsRoot {T = Unit {0}} root s0 s2 (Ok tt)
  swap_done turned = record {
    moments = swap_moments root s0 s1 s2 (Ok tt) placed.spares placed.clear turned;
    seen = swap_seen root s0 s1 s2 (Ok tt) placed.spares placed.clear turned;
    done = turned.done.0;
    fresh = turned.done.1;
    gone = turned.gone;
    unchanged = tt;
    in_doubt = tt;
    rooted = swap_rooted root s0 s1 s2 (Ok tt) placed.spares placed.clear turned;
    clear = swap_clear root s0 s1 s2 (Ok tt) placed.spares placed.clear turned;
    cause = λ roots. tt;
  }

  pub swap_doubted : (e : Fault) → Turned {T = Unit {0}} root s1 s2 (Err e) → CountsFailure {T = Unit {0}} (Ok tt) s0.failures s1.failures → CountsFailure {T = Unit {0}} (Err e) s1.failures s2.failures
      → SwapsRoot {T = Unit {0}} root s0 s2 (Err InDoubt)
  swap_doubted e turned first second = record {
    moments = swap_moments root s0 s1 s2 (Err e) placed.spares placed.clear turned;
    seen = swap_seen root s0 s1 s2 (Err e) placed.spares placed.clear turned;
    done = tt;
    fresh = tt;
    gone = tt;
    unchanged = λ ne. absurd (ne refl);
    in_doubt = λ _. swap_was_kept root s0 s1 s2 (Err e) placed.spares placed.clear turned lawful honest placed.kept;
    rooted = swap_rooted root s0 s1 s2 (Err e) placed.spares placed.clear turned;
    clear = swap_clear root s0 s1 s2 (Err e) placed.spares placed.clear turned;
    cause = λ roots. grown tt s0.failures s1.failures s2.failures first e
        (turned.failed (swap_no_folder root s0 s1 s2 (Err e) placed.spares placed.clear turned lawful honest roots.root)) second;
  }

module _ (path : List ℕ) (old new : State) where
  pub forget_done : Cleared {T = Unit {0}} path old new (Ok tt) → Forgets {T = Unit {0}} path old new (Ok tt)
  forget_done cleared = record {
    moments = cleared.spares.moments;
    seen = cleared.spares.seen;
    gone = cleared.gone;
    others = cleared.others;
    rooted = cleared.spares.rooted;
    clear = cleared.clear;
    cause = λ no_folder. tt;
  }

  pub forget_refused : (e : Fault) (f : Refusal) → f ≡ refusal_for e → Cleared {T = Unit {0}} path old new (Err e) → CountsFailure {T = Unit {0}} (Err e) old.failures new.failures → Forgets {T = Unit {0}} path old new (Err f)
  forget_refused e f is cleared counts = let P : Refusal → Type 0 = λ g. Forgets {T = Unit {0}} path old new (Err g) in subst P (sym is) (record {
    moments = cleared.spares.moments;
    seen = cleared.spares.seen;
    gone = tt;
    others = cleared.others;
    rooted = cleared.spares.rooted;
    clear = cleared.clear;
    cause = λ no_folder. cause_for e old new (cleared.fails no_folder) counts;
  })
