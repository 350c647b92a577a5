use Rattle.std.proofs.Common.{refl, arith}
use Rattle.jiff_core.proofs.SignedLemmas.{signed_arith}
use Rattle.valuetext.specs.Dates.{IsDateText}
use Rattle.leaftext.specs.Reads.{date_read}
use Rattle.leaftext.proofs.Dates.{dates_agree}
use Rattle.leaftext.proofs.FormTexts.{is_read, unread}
use Rattle.leaftext.proofs.number_reading.date_from.Goals as goal

pub returns-in-Some : goal.returns-in-Some
returns-in-Some c =
    is_read date_read IsDateText dates_agree.1 c.args.text.now c.in-Some.day _ (omega (arith, signed_arith, c.in-Some.ensures.bound)) c.in-Some.ensures.day

pub returns-in-None : goal.returns-in-None
returns-in-None c = unread date_read IsDateText dates_agree.1 c.args.text.now (c.in-None.ensures.none refl)
