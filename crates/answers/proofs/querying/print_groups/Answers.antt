use Rattle.std.proofs.Common.{ℕ, List, OnOk, subst}
use Rattle.std.proofs.lemmas.Result.{on_ok_weaker}
use Rattle.std.specs.Io.KnownBytes.{Appends}
use Rattle.table.specs.declared.answer.GroupInfo.{GroupInfo}
use Rattle.answers.specs.Lines.{AreGroupLines}
use Rattle.answers.proofs.Counted.{told_groups}
use Rattle.answers.proofs.querying.print_groups.Goals as goal

pub returns-clause-prints : goal.returns-clause-prints
returns-clause-prints g c = λ honest s stands.
    let before = g.W.Write.contents c.args.out.now in
    let after = g.W.Write.contents c.print_each_group.new.out in
    let infos = c.in_ok-groups.groups.items in
    let told = told_groups g.D.Disk.state c.args.store.now c.groups.new.self s infos (c.in_ok-groups.ensures.acts honest s stands) in
    on_ok_weaker c.print_each_group.result
    (λ (p : (printed : List ℕ) × AreGroupLines infos printed × Appends before after printed). (infos, p.0, told, c.in_ok-groups.ensures.told, p.1, p.2))
    (subst (λ (gs : List GroupInfo). OnOk c.print_each_group.result ((printed : List ℕ) × AreGroupLines gs printed × Appends before after printed)) c.as_slice.ensures.value c.print_each_group.ensures.printed)
