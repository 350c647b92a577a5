use Rattle.serde_json.specs.View.{view}
use Rattle.jsonrows.proofs.CallFaults.{call_text_refused}
use Rattle.jsonrows.proofs.call_reading.call_from_as.Goals as goal

pub returns-clause-which : goal.returns-clause-which
returns-clause-which c = call_text_refused c.args.texts c.args.schema.now c.args.text.now (view c.in_ok-json.json) c.call_in.result c.in_ok-json.ensures.stands c.call_in.ensures.which
