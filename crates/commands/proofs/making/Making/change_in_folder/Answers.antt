use Rattle.std.proofs.Common.{refl}
use Rattle.places.specs.Places.{given_back}
use Rattle.places.proofs.PlacesKept.{but_then, stays_but, not_had_of}
use Rattle.commands.proofs.making.Making.change_in_folder.Goals as goal

pub returns-in_err-disk : goal.returns-in_err-disk
returns-in_err-disk g c =
    let kept = c.in_err-disk.ensures.refused in
    record { comes = not_had_of c.from_residual.result c.in_err-disk.field-0.0 c.from_residual.ensures.1 kept.0 kept.1 refl }

pub returns : goal.returns
returns g c =
    let path = c.args.self.now.call.now.folder.now in
    record {
      comes = given_back c.in_ok-disk.disk c.change_on-disk.result.0 c.in_ok-disk.ensures.taken c.give.ensures.given
          (but_then path c.take.ensures.others (but_then path (stays_but c.change_on-disk.ensures.same path) c.give.ensures.others)) c.change_on-disk.ensures.comes;
    }

pub invariant_of-brought : goal.invariant_of-brought
invariant_of-brought g c = record { alike = c.brought-1.given.0.0.gathered.buffers.alike }
