use Rattle.serde_json.specs.Data.{string}
use Rattle.schema.specs.Values.{view as value_view}
use Rattle.jsonrows.specs.Answers.{key_value_json}
use Rattle.jsonrows.proofs.Columns.{key_text, key_no_text, shown_so}
use Rattle.jsonrows.proofs.answer_printing.key_value_json.Goals as goal

pub returns-in-Ok-clause-shown : goal.returns-in-Ok-clause-shown
returns-in-Ok-clause-shown c =
    shown_so c.text_json.result (key_value_json (value_view c.args.value.now)) (string c.in-Ok.text.now)
    (key_text c.args.value.now c.in-Bytes.bytes c.as_slice.result.now c.in-Ok.text.now c.in-Bytes.is c.as_slice.ensures.value c.in-Ok.ensures.cases.1 c.in-Ok.ensures.cases.0) c.text_json.ensures.shown

pub returns-in-Err-clause-which : goal.returns-in-Err-clause-which
returns-in-Err-clause-which c = key_no_text c.args.value.now c.in-Bytes.bytes c.as_slice.result.now c.in-Bytes.is c.as_slice.ensures.value c.in-Err.ensures.cases.0
