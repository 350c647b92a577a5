use Rattle.places.specs.Places.{given_back}
use Rattle.places.proofs.PlacesKept.{but_then, not_had_of}
use Rattle.commands.proofs.making.Making.find_table_in_folder.Goals as goal

pub returns-in_err-disk : goal.returns-in_err-disk
returns-in_err-disk g c =
    let kept = c.in_err-disk.ensures.refused in
    record { finds = not_had_of c.from_residual.result c.in_err-disk.field-0.0 c.from_residual.ensures.1 kept.0 kept.1 tt }

pub returns : goal.returns
returns g c =
    record {
      finds = given_back c.in_ok-disk.disk c.find_table_on-disk.result.0 c.in_ok-disk.ensures.taken c.give.ensures.given
          (but_then c.args.self.now.call.now.folder.now c.take.ensures.others c.give.ensures.others) c.find_table_on-disk.ensures.finds;
    }
