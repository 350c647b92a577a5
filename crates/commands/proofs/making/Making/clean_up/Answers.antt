use Rattle.std.proofs.Common.{sym, subst, inl, inr}
use Rattle.table_state.specs.declared.standing.Core.{Core}
use Rattle.commands.specs.Opening.{MayCleanUp}
use Rattle.commands.proofs.making.Making.clean_up.Goals as goal
use Rattle.commands.proofs.making.Making.clean_up.Goals.{in-MayBe, in-NoFile}

pub returns-clause-cleans : goal.returns-clause-cleans
returns-clause-cleans g c = elim c.match-readers.branch [
  | in-MayBe w ↦ inl w.store-is
  | in-NoFile w ↦ subst (λ (new : Core g.row.D.Denot). MayCleanUp g.D.Disk.state c.args.store.now new) (sym w.store-is)
      (inr (record {
        clears = w.clean_up.ensures.clears;
        tidy = w.clean_up.ensures.tidy;
        same = w.clean_up.ensures.same;
        removes = w.clean_up.ensures.removes;
        counts = w.clean_up.ensures.counts;
        honest = w.clean_up.ensures.honest;
      }))
]
