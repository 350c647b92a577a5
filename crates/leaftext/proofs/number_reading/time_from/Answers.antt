use Rattle.valuetext.specs.Times.{ReadsTime}
use Rattle.leaftext.specs.Reads.{time_read}
use Rattle.leaftext.proofs.Times.{times_agree}
use Rattle.leaftext.proofs.FormTexts.{was_read}
use Rattle.leaftext.proofs.number_reading.time_from.Goals as goal

pub returns : goal.returns
returns c =
    was_read (time_read c.args.unit) (ReadsTime c.args.unit) (times_agree c.args.unit).1 c.args.text.now c.read_time.result c.read_time.ensures.number c.read_time.ensures.none
