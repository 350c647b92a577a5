-- All groups of a table, written anew.
use Rattle.std.specs.Prelude.{◌≡◌, ℕ, List, map, Result, Err}
use Rattle.bits.specs.declared.refusal.Refusal.{Refusal}
use Rattle.bits.specs.declared.refusal.Refusal.TheVariants.{Memory}
use Rattle.disk.specs.State.{State as DiskState}
use Rattle.table.specs.State.{State}
use Rattle.table.specs.Calls.{groups, refused as refused_answer}
use Rattle.table_state.specs.declared.standing.Core.{Core}
use Rattle.table_state.specs.Stands.{Stands}
use Rattle.table_state.specs.Promises.{ActsFrom}
use Rattle.answers.specs.Making.{RewritesFrom}

-- From the one state: the store rewrites the groups of all numbers that the table has, in its order. Or its groups are not listed, or
-- memory ran out, and it is as it was.
pub data RewritesAllFrom {D : Type 0} (state : D → DiskState) (old new : Core D) (result : Result ℕ Refusal) (s : State) : Type 0 where
  all_named : (numbers : List ℕ) → numbers ≡ map (λ group. group.number) s.table.groups → RewritesFrom state old new numbers result s
      → RewritesAllFrom state old new result s
  not_listed : (e : Refusal) → result ≡ Err e → new ≡ old → ActsFrom state old old groups (refused_answer e) s → RewritesAllFrom state old new result s
  no_memory : result ≡ Err Memory → new ≡ old → RewritesAllFrom state old new result s

-- on an honest disk, from each state that the store stands in: all groups are rewritten, or that is refused
abbrev pub RewritesAllGroups : {D : Type 0} → (D → DiskState) → Core D → Core D → Result ℕ Refusal → Type 0
RewritesAllGroups state old new result = (state old.vault.disk).honest → (s : State) → Stands state old s → RewritesAllFrom state old new result s
