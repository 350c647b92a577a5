use Rattle.std.proofs.Common.{length, Some, None, lit<}
use Rattle.std.proofs.lemmas.Str.Pattern.{rfind_char}
use Rattle.disk.proofs.Texts.{before_last, before_none}
use Rattle.std.proofs.Common.{sym, ◌∙◌}
use Rattle.disk.proofs.paths.folder_of.Goals as goal

pub returns-in-Some-clause-value : goal.returns-in-Some-clause-value
returns-in-Some-clause-value c =
    let at = rfind_char 47 c.args.path.now (Some c.in-Some.at) c.in-Some.ensures.cases (lit< tt) in
    c.split_at.ensures.front ∙ sym (before_last c.args.path.now (length c.args.path.now) c.in-Some.at at.0 at.1 at.2)

pub returns-in-None-clause-value : goal.returns-in-None-clause-value
returns-in-None-clause-value c =
    sym (before_none c.args.path.now (length c.args.path.now) (rfind_char 47 c.args.path.now None c.in-None.ensures.cases (lit< tt)))
