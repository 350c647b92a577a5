-- Calls that a store makes one after another.
use Rattle.std.proofs.Common.{◌≡◌, List, [], ◌∷◌, ◌++◌, refl, sym, subst}
use Rattle.disk.specs.State.{State as DiskState}
use Rattle.table.specs.State.{State}
use Rattle.table.specs.Calls.{Call, Answer}
use Rattle.table.specs.Refusing.{Run, no_calls, first_call}
use Rattle.table_state.specs.declared.standing.Core.{Core}
use Rattle.table_state.specs.Promises.{ActsFrom}
use Rattle.answers.specs.Querying.{ActsOn}

module _ {D : Type 0} (state : D → DiskState) where
  -- one call
  pub one_made : (old new : Core D) (call : Call) (answer : Answer) (s : State) (acts : ActsFrom state old new call answer s) → ActsOn state old (call ∷ []) (answer ∷ []) new s acts.after
  one_made old new call answer s acts = (new, acts, (refl, refl))

  -- a call before the others
  pub one_before : (old mid new : Core D) (call : Call) (answer : Answer) (calls : List Call) (answers : List Answer) (s last : State) (acts : ActsFrom state old mid call answer s)
      → ActsOn state mid calls answers new acts.after last → ActsOn state old (call ∷ calls) (answer ∷ answers) new s last
  one_before old mid new call answer calls answers s last acts made = (mid, acts, made)

  -- a call behind the others
  pub one_behind : (old mid new : Core D) (calls : List Call) (answers : List Answer) (call : Call) (answer : Answer) (s at : State) → ActsOn state old calls answers mid s at → (acts : ActsFrom state mid new call answer at)
      → ActsOn state old (calls ++ call ∷ []) (answers ++ answer ∷ []) new s acts.after
  one_behind old mid new [] [] call answer s at made acts =
      let P : Core D → State → Type 0 = λ from first. (last : Core D) × (acting : ActsFrom state from last call answer first) × ((new ≡ last) × (acts.after ≡ acting.after)) in
      let here : P mid at = (new, acts, (refl, refl)) in
      subst (λ (first : State). P old first) made.1 (subst (λ (from : Core D). P from at) made.0 here)
  one_behind old mid new (c ∷ calls) (a ∷ answers) call answer s at made acts = (made.0, made.1, one_behind made.0 mid new calls answers call answer made.1.after at made.2 acts)
  one_behind old mid new [] (a ∷ answers) call answer s at made acts = absurd made
  one_behind old mid new (c ∷ calls) [] call answer s at made acts = absurd made

  -- they are a history
  pub history : (old new : Core D) (calls : List Call) (answers : List Answer) (s last : State) → ActsOn state old calls answers new s last → Run s calls answers last
  history old new [] [] s last made = subst (λ (t : State). Run s [] [] t) (sym made.1) no_calls
  history old new (call ∷ calls) (answer ∷ answers) s last made = first_call made.1.happens (history made.0 new calls answers made.1.after last made.2)
  history old new [] (answer ∷ answers) s last made = absurd made
  history old new (call ∷ calls) [] s last made = absurd made
