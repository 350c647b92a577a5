-- Calls that write nothing, one after another.
use Rattle.std.proofs.Common.{◌≡◌, ◌↔◌, Result, Ok, Err, refl, ◌∙◌, ap}
use Rattle.std.specs.Prelude.{OnOk}
use Rattle.bits.specs.declared.refusal.Refusal.{Refusal}
use Rattle.disk.specs.State.{State as DiskState}
use Rattle.scan.proofs.Passages.{leaves_here, leaves_then}
use Rattle.table_state.specs.declared.standing.Core.{Core}
use Rattle.table_commits.specs.Keeping.{Unwritten}

pub unwritten_yet : {D : Type 0} (state : D → DiskState) (store : Core D) → Unwritten state store store
unwritten_yet state store = record { leaves = λ honest. leaves_here (state store.vault.disk); same = refl }

pub unwritten_then : {D : Type 0} (state : D → DiskState) (old mid new : Core D) → (state old.vault.disk).honest ↔ (state mid.vault.disk).honest
    → Unwritten state old mid → Unwritten state mid new → Unwritten state old new
unwritten_then state old mid new honest first second = record {
  leaves = λ h. leaves_then (state old.vault.disk) (state mid.vault.disk) (state new.vault.disk) (first.leaves h) (second.leaves (honest.0 h));
  same = second.same ∙ ap (λ (x : Core _). record x { vault = new.vault }) first.same;
}

-- what is said after Ok follows from what else is
pub after_ok : {T : Type 0} (r : Result T Refusal) (P Q : Type 0) → (P → Q) → OnOk r P → OnOk r Q
after_ok (Ok x) P Q f p = f p
after_ok (Err e) P Q f p = tt
