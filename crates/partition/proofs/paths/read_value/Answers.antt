use Rattle.std.proofs.Common.{◌≡◌, refl, drop}
use Rattle.percent_encoding.specs.Percent.{percent_decode}
use Rattle.partition.proofs.ReadingBack.{text_of_folder}
use Rattle.partition.proofs.paths.read_value.Goals as goal

pub returns-clause-stands : goal.returns-clause-stands
returns-clause-stands c = λ name v key e.
    let is : c.append_to.new.out.items ≡ percent_decode (drop 1 c.cut_before.result.1.now)
    = rw (c.in_ok-append_to.ensures.ok, c.new-text.ensures.items, c.percent_decode.ensures.bytes, c.after_first.ensures) refl in
    c.value_of.ensures v key (text_of_folder c.args.kind c.args.folder.now _ _ _ name v c.cut_before.ensures is key e)
