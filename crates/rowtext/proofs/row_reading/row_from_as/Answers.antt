use Rattle.serde_json.specs.View.{members_view}
use Rattle.rowtext.proofs.Fitting.{read_fits}
use Rattle.rowtext.proofs.row_reading.row_from_as.Goals as goal

pub returns-in-Some-clause-fits : goal.returns-in-Some-clause-fits
returns-in-Some-clause-fits c = read_fits c.args.texts c.args.schema.now (members_view c.in-Object.members.entries) _ (rw (c.in-Some.is, c.fields.ensures) at c.in_ok-values.ensures)
