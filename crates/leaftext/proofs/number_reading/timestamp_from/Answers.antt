use Rattle.valuetext.specs.Timestamps.{ReadsTimestamp}
use Rattle.leaftext.specs.Reads.{timestamp_read}
use Rattle.leaftext.proofs.Timestamps.{timestamps_agree}
use Rattle.leaftext.proofs.FormTexts.{was_read}
use Rattle.leaftext.proofs.number_reading.timestamp_from.Goals as goal

pub returns : goal.returns
returns c =
    was_read (timestamp_read c.args.unit) (ReadsTimestamp c.args.unit) (timestamps_agree c.args.unit).1 c.args.text.now c.read_timestamp.result c.read_timestamp.ensures.number c.read_timestamp.ensures.none
