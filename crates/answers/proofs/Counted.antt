-- What a count and a list of groups tell of a table.
use Rattle.std.proofs.Common.{◌≡◌, ℕ, List, [], ◌∷◌, map, refl}
use Rattle.disk.specs.State.{State as DiskState}
use Rattle.table.specs.declared.answer.GroupInfo.{GroupInfo}
use Rattle.table.specs.Deciding.{Filter}
use Rattle.table.specs.Plans.{summary, row_count}
use Rattle.table.specs.State.{State}
use Rattle.table.specs.Views.{info_view}
use Rattle.table.specs.Calls.{count, groups, Answer, counted, listed}
use Rattle.table_state.specs.declared.standing.Core.{Core}
use Rattle.table_state.specs.Promises.{ActsFrom}
use Rattle.answers.specs.Querying.{OnlyReads}
use Rattle.answers.proofs.OneByOne.{one_made}

module _ {D : Type 0} (state : D → DiskState) (old new : Core D) where
  -- a count is a call that only reads
  pub counts : (terms : Filter) (s : State) (answer : Answer) → ActsFrom state old new (count terms) answer s → OnlyReads state old new s
  counts terms s answer acts = record { calls = count terms ∷ []; answers = answer ∷ []; last = acts.after; acts = one_made state old new (count terms) answer s acts; read = refl }

  pub printed_count : (terms : Filter) (s : State) (n : ℕ) → ActsFrom state old new (count terms) (counted n) s → n ≡ row_count terms s.table
  printed_count terms s n acts = let told = acts.happens.1.0 in cc

  pub told_groups : (s : State) (infos : List GroupInfo) → ActsFrom state old new groups (listed (map info_view infos)) s → map info_view infos ≡ map summary s.table.groups
  told_groups s infos acts = let told = acts.happens.1.0 in cc
