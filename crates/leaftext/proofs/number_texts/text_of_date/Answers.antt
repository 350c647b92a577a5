use Rattle.std.proofs.Common.{◌∙◌, ap, refl, to_z, of_z, to_z-of_z, FitsSigned, w64}
use Rattle.valuetext.specs.Dates.{IsDateText}
use Rattle.leaftext.specs.Texts.{date_text_of}
use Rattle.leaftext.proofs.Dates.{dates_agree}
use Rattle.leaftext.proofs.FormTexts.{one_text, no_text}
use Rattle.leaftext.proofs.number_texts.text_of_date.Goals as goal

pub returns-in-Some : goal.returns-in-Some
returns-in-Some c =
    let fits : FitsSigned w64 c.args.day = c.ranges.day in
    one_text date_text_of IsDateText dates_agree.0 (to_z w64 (of_z w64 c.args.day)) c.in-Some.text.bytes c.with_room.result.bytes (c.with_room.ensures ∙ c.as_str.ensures.value) c.in-Some.ensures.text
    ∙ ap date_text_of (to_z-of_z fits)

pub returns-in-None : goal.returns-in-None
returns-in-None c =
    let fits : FitsSigned w64 c.args.day = c.ranges.day in
    no_text date_text_of IsDateText dates_agree.0 (to_z w64 (of_z w64 c.args.day)) (c.in-None.ensures.none refl) ∙ ap date_text_of (to_z-of_z fits)
