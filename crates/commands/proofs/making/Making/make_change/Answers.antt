use Rattle.std.proofs.Common.{◌∙◌, refl, ap}
use Rattle.commands.proofs.making.Making.make_change.Goals as goal

pub returns : goal.returns
returns g c = record {
  comes = record {
    changed = c.change_in_style-done.new.store;
    done = c.change_in_style-done.result;
    makes = c.change_in_style-done.ensures.makes;
    unshown = (refl, c.clear.ensures ∙ ap (λ d. d.disk) c.disk_mut.ensures.value);
    told = c.tell_done.ensures.told;
  };
}
