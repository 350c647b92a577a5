-- What is made after a count.
use Rattle.std.proofs.Common.{◌≤◌, ◌<◌, ℕ, Bool, zero, suc, List, Result, Ok, refl, subst, arith}
use Rattle.bits.specs.declared.refusal.Refusal.{Refusal}
use Rattle.disk.specs.State.{State as DiskState}
use Rattle.table.specs.State.{State}
use Rattle.table.specs.Calls.{count, counted}
use Rattle.table_state.specs.declared.standing.Core.{Core}
use Rattle.table_state.specs.Stands.{Stands}
use Rattle.table_state.specs.Promises.{ActsFrom}
use Rattle.answers.specs.Unless.{CountsFrom, counts_them, no_filter, UnlessFrom, none_there, some_there}

module _ {D : Type 0} (state : D → DiskState) (texts : Bool) (old mid : Core D) (text : List ℕ) (s : State) where
  -- there were none
  pub then_made : (new : Core D) (GoesOn : Core D → State → Type 0) (n : ℕ) (result : Result ℕ Refusal) → n ≤ 0 → CountsFrom state texts old mid text (Ok n) s → ((t : State) → Stands state mid t → GoesOn mid t)
      → UnlessFrom state texts old new text GoesOn result s
  then_made new GoesOn n result none (counts_them ands is acts) next =
      let first : ActsFrom state old mid (count ands) (counted 0) s = subst (λ (k : ℕ). ActsFrom state old mid (count ands) (counted k) s) (omega (arith, none)) acts in
      none_there ands mid is first (next first.after first.stands)
  then_made new GoesOn n result none (no_filter e is wrong same) next = absurd (cc)

  -- there were some
  pub none_made : (GoesOn : Core D → State → Type 0) (n : ℕ) → 0 < n → CountsFrom state texts old mid text (Ok n) s → UnlessFrom state texts old mid text GoesOn (Ok 0) s
  none_made GoesOn zero some counts = absurd (omega (arith, some))
  none_made GoesOn (suc n) some counts = some_there n counts refl
