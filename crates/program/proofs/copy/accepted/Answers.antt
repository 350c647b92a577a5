use Rattle.std.proofs.Common.{ℕ, List, Option, IfOk, sym, subst}
use Rattle.schema.specs.Values.{ValueTrees}
use Rattle.footer.specs.declared.file_reader.FileReader.{FileReader}
use Rattle.footer.specs.Left.{rows_of_file}
use Rattle.program.specs.Program.{MeansUpTo}
use Rattle.program.proofs.copy.accepted.Goals as goal

pub returns-in-None-clause-stands : goal.returns-in-None-clause-stands
returns-in-None-clause-stands c =
    subst (λ (limit : Option ℕ). IfOk c.new.result (λ (file : FileReader). (rows : List ValueTrees) × MeansUpTo limit c.args.bytes.now file.schema rows × rows_of_file file rows)) (sym c.in-None.is) c.new.ensures.stands

pub returns-in-Some-clause-stands : goal.returns-in-Some-clause-stands
returns-in-Some-clause-stands c =
    subst (λ (limit : Option ℕ). IfOk c.of_first_rows.result (λ (file : FileReader). (rows : List ValueTrees) × MeansUpTo limit c.args.bytes.now file.schema rows × rows_of_file file rows)) (sym c.in-Some.is) c.of_first_rows.ensures.stands
