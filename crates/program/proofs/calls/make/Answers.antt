use Rattle.std.proofs.Common.{inl, sym, subst}
use Rattle.std.specs.Prelude.{IfErr, OnOk}
use Rattle.std.proofs.lemmas.Result.{on_ok_weaker}
use Rattle.program.specs.Paths.{IsUnwritten}
use Rattle.program.specs.Program.{IsReportRefusal}
use Rattle.program.specs.Words.{Does, RefusesAsked}
use Rattle.program.specs.declared.arguments.Call.{Call}
use Rattle.program.specs.declared.arguments.Call.TheVariants.{Inspect}
use Rattle.program.proofs.Endings.{err_weaker}
use Rattle.program.proofs.calls.make.Goals as goal

pub returns-in-Inspect-2-clause-done : goal.returns-in-Inspect-2-clause-done
returns-in-Inspect-2-clause-done g c =
    let files = g.P.Paths.files c.args.paths.now in
    let old = g.W.Write.contents c.args.out.now in
    let new = g.W.Write.contents c.inspect_file.new.out in
    let datasets = c.args.datasets.now in
    subst
    (λ (call : Call). OnOk c.inspect_file.result (Does (g.M.Datasets.prints datasets datasets) (g.M.Datasets.gives datasets datasets) files files call old new))
    (sym c.in-Inspect-2.is)
    (on_ok_weaker c.inspect_file.result (λ report. inl report) c.inspect_file.ensures.done)

pub returns-in-Inspect-2-clause-refused : goal.returns-in-Inspect-2-clause-refused
returns-in-Inspect-2-clause-refused g c =
    let files = g.P.Paths.files c.args.paths.now in
    let old = g.W.Write.contents c.args.out.now in
    let new = g.W.Write.contents c.inspect_file.new.out in
    let place = files c.in-Inspect-2.file.now in
    let datasets = c.args.datasets.now in
    let call = Inspect c.in-Inspect-2.file c.in-Inspect-2.as_json c.in-Inspect-2.table in
    subst
    (λ (call : Call). IfErr c.inspect_file.result (RefusesAsked (g.M.Datasets.refuses datasets datasets)
    (g.M.Datasets.withholds datasets datasets) files call old new)) (sym c.in-Inspect-2.is)
    (err_weaker (λ e. IsReportRefusal place e × IsUnwritten old new e)
    (RefusesAsked (g.M.Datasets.refuses datasets datasets) (g.M.Datasets.withholds datasets datasets) files call old new)
    (λ e h. inl h) c.inspect_file.result c.inspect_file.ensures.refused)
