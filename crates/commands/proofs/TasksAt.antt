-- What comes of a task, by what comes of its parts.
use Rattle.std.proofs.Common.{◌≡◌, ℕ, List, Option, Result, Ok, true, subst}
use Rattle.std.specs.Prelude.{⊤}
use Rattle.bits.specs.declared.refusal.Refusal.{Refusal}
use Rattle.disk.specs.State.{State as DiskState}
use Rattle.table_state.specs.declared.standing.Core.{Core}
use Rattle.footer.specs.declared.options.WriteOptions.{WriteOptions}
use Rattle.commands.specs.Opening.{OpensToChange, MayCleanUp}
use Rattle.commands.specs.Calls.{ChangesDisk, changed, state_within}
use Rattle.commands.specs.declared.watched.Watched.{Watched}

module _ {D S : Type 0} {state : D → DiskState} {options : WriteOptions} {Comes : Core (Watched D S) → Core (Watched D S) → Result ⊤ Refusal → Type 0} {before after : Option (List ℕ)} {old new : Watched D S} {result : Result ⊤ Refusal} where
  -- a dataset that was opened, and then keeps what is replaced, was changed
  pub changed_from : (opened store done cleaned : Core (Watched D S)) → OpensToChange (state_within {D = D} {S = S} state) old options (Ok opened)
      → store ≡ record opened { keeps = true } → Comes store done result
      → MayCleanUp (state_within {D = D} {S = S} state) done cleaned → new ≡ cleaned.vault.disk → ChangesDisk state options Comes before after old new result
  changed_from opened store done cleaned opens keeps changes cleans back =
      changed opened done cleaned opens (subst (λ (begun : Core (Watched D S)). Comes begun done result) keeps changes) cleans back
