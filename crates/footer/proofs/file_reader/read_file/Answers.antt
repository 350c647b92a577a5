use Rattle.std.proofs.Common.{sym, ap, ◌∙◌}
use Rattle.footer.specs.Held.{FileGroups}
use Rattle.footer.proofs.file_reader.read_file.Goals as goal

pub returns-clause-alone : goal.returns-clause-alone
returns-clause-alone c = λ fs rows p.
    let same = c.in_ok-file.ensures.alone fs rows p in
    (same.0 ∙ sym (ap (λ (f : FileGroups). f.schema) c.file.view_is), c.in_ok-rows.ensures.rows_are rows (c.rows.ensures rows same.1))
