use Rattle.json.proofs.Printed.Plain.{escape_on_plain}
use Rattle.rowtext.proofs.line.Line.place_plain.Goals as goal

pub returns-clause-plain : goal.returns-clause-plain
returns-clause-plain c = escape_on_plain c.place_plain-is_plain.result c.args.text.now c.place_plain-is_plain.ensures.plain
