use Rattle.std.proofs.lemmas.Result.{IfOk-weaker, IfErr-weaker, on_ok_weaker}
use Rattle.gather.specs.GatheredRows.{columns_of}
use Rattle.gather.proofs.gathered.Gathered.into_groups.Goals as goal

pub returns-clause-groups : goal.returns-clause-groups
returns-clause-groups c = IfOk-weaker c.into_groups.result _ _ (λ groups are. λ rows held. are (columns_of c.args.self) rows held.gathered.buffers) c.into_groups.ensures.groups

pub returns-clause-fine : goal.returns-clause-fine
returns-clause-fine c = on_ok_weaker c.into_groups.result (λ fine. λ rows held. fine (columns_of c.args.self) rows held.gathered.buffers) c.into_groups.ensures.fine

pub returns-clause-only : goal.returns-clause-only
returns-clause-only c = IfErr-weaker c.into_groups.result _ _ (λ e only fault. λ rows held have. only fault (columns_of c.args.self) rows held.gathered.buffers have) c.into_groups.ensures.only
