use Rattle.std.proofs.Common.{ap, ◌∙◌, w64}
use Rattle.std.specs.Result.{result_ok}
use Rattle.std.proofs.lemmas.Fmt.{parse-signed_decimal, IsAscii-signed}
use Rattle.std.proofs.lemmas.Str.{IsUtf8-from_ascii}
use Rattle.partition.proofs.paths.read_number.Goals as goal

pub returns-in-Ok : goal.returns-in-Ok
returns-in-Ok c = λ z fits e. c.ok.ensures.value ∙ ap result_ok (parse-signed_decimal w64 z c.in-Ok.text.now c.parse.result fits fits.sfits (c.in-Ok.ensures.cases.0 ∙ e) c.parse.ensures.value.0)

pub returns-in-Err : goal.returns-in-Err
returns-in-Err c = λ z fits e. absurd (c.in-Err.ensures.cases.0 (IsUtf8-from_ascii c.args.text.now (rw e (IsAscii-signed z fits.sfits))))
