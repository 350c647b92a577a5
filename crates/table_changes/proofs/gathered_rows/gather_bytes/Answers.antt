use Rattle.std.proofs.Common.{[], sym, subst, inr}
use Rattle.bits.proofs.Passing.{passes}
use Rattle.schema.specs.Shape.{Fields}
use Rattle.footer.specs.File.{FileMeans}
use Rattle.manifest.specs.Groups.{root_of}
use Rattle.table_commits.specs.Gathering.{IsNotRead}
use Rattle.table_commits.proofs.RowsGathered.{is_memory, kept_table}
use Rattle.table_changes.proofs.gathered_rows.gather_bytes.Goals as goal

pub returns-in_err-gathered-clause-which : goal.returns-in_err-gathered-clause-which
returns-in_err-gathered-clause-which c =
    let e = c.in_err-gathered.field-0.0 in
    passes (IsNotRead (root_of c.args.table.now).schema c.args.bytes.now) c.from_residual.result e c.from_residual.ensures.1 (inr (inr (is_memory e c.in_err-gathered.ensures.which)))

pub returns-in_err-gather_file-clause-which : goal.returns-in_err-gather_file-clause-which
returns-in_err-gather_file-clause-which c =
    let e = c.in_err-gather_file.field-0.0 in
    let why = subst (λ (fs : Fields). IsNotRead fs c.args.bytes.now e) c.in_ok-gathered.ensures.table.schema c.in_err-gather_file.ensures.which in
    passes (IsNotRead (root_of c.args.table.now).schema c.args.bytes.now) c.from_residual-in_err-gather_file.result e c.from_residual-in_err-gather_file.ensures.1 why

pub returns-clause-read : goal.returns-clause-read
returns-clause-read c =
    let table = c.in_ok-gathered.ensures.table in
    let got = c.in_ok-gather_file.ensures.read [] c.in_ok-gathered.ensures.begins in
    record {
      rows = got.rows;
      means = subst (λ (fs : Fields). FileMeans c.args.bytes.now fs got.rows) table.schema got.means;
      held = got.held;
      table = kept_table table c.in_ok-gather_file.ensures.table;
    }
