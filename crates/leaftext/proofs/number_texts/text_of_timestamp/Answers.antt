use Rattle.std.proofs.Common.{◌∙◌, ap, refl, to_z, of_z, to_z-of_z, FitsSigned, w64}
use Rattle.valuetext.specs.Timestamps.{IsTimestampText}
use Rattle.leaftext.specs.Texts.{timestamp_text_of}
use Rattle.leaftext.proofs.Timestamps.{timestamps_agree}
use Rattle.leaftext.proofs.FormTexts.{one_text, no_text}
use Rattle.leaftext.proofs.number_texts.text_of_timestamp.Goals as goal

pub returns-in-Some : goal.returns-in-Some
returns-in-Some c =
    let fits : FitsSigned w64 c.args.number = c.ranges.number in
    one_text (timestamp_text_of c.args.unit) (IsTimestampText c.args.unit) (timestamps_agree c.args.unit).0 (to_z w64 (of_z w64 c.args.number)) c.in-Some.text.bytes c.with_room.result.bytes (c.with_room.ensures ∙ c.as_str.ensures.value) c.in-Some.ensures.text
    ∙ ap (timestamp_text_of c.args.unit) (to_z-of_z fits)

pub returns-in-None : goal.returns-in-None
returns-in-None c =
    let fits : FitsSigned w64 c.args.number = c.ranges.number in
    no_text (timestamp_text_of c.args.unit) (IsTimestampText c.args.unit) (timestamps_agree c.args.unit).0 (to_z w64 (of_z w64 c.args.number)) (c.in-None.ensures.none refl) ∙ ap (timestamp_text_of c.args.unit) (to_z-of_z fits)
