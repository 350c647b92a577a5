use Rattle.std.proofs.Common.{[], Ok, refl, sym, ap, subst, ◌∙◌}
use Rattle.footer.specs.declared.file_writer.FileWriter.{FileWriter}
use Rattle.footer.specs.Writer.{has_rows, schema_of, options_of}
use Rattle.answers.proofs.OkThen.{ok_of}
use Rattle.answers.proofs.PartsGiven.{file_is, ended}
use Rattle.answers.proofs.part_writer.PartWriter.end_file.Goals as goal

pub returns-clause-goes_on : goal.returns-clause-goes_on
returns-clause-goes_on g c = ok_of c.take.result c.take.ensures.takes (λ taken from rows several has.
    let old = c.args.self.now in
    let whole = c.replace-whole.result in
    let file = c.in_ok-file.file in
    let same = c.replace-whole.ensures.value in
    let held = subst (λ (w : FileWriter). has_rows w has.waiting) (sym same) has.has in
    let one = file_is whole old.options old.schema.now has.waiting (Ok file) held (ap schema_of same ∙ has.schema) (ap options_of same ∙ has.options) c.in_ok-file.ensures.means c.in_ok-file.ensures.laid_out c.in_ok-file.ensures.in_range in
    let next = c.replace-whole.ensures.after in
    let empty = subst (λ (w : FileWriter). has_rows w []) (sym next) c.in_ok-next.ensures.begins in
    ended old _ (refl, refl, refl) from _ _ rows has file.items one taken empty (ap schema_of next ∙ c.in_ok-next.ensures.of.0) (ap options_of next ∙ c.in_ok-next.ensures.of.1) several)
