use Rattle.std.proofs.Common.{◌∙◌, refl, sym, ap, subst}
use Rattle.gather.specs.declared.gathered.Gathered.{Gathered}
use Rattle.gather.specs.GatheredRows.{holds}
use Rattle.table_commits.specs.Gathering.{AreGatheredFor}
use Rattle.commands.proofs.making.Making.append_to.Goals as goal

pub returns : goal.returns
returns g c = record {
  comes = λ root given held table.
      let options = c.args.self.now.call.now.options in
      let same = sym c.into_parts-gathered.ensures in
      record {
        changed = c.append_rows-done.new.store;
        done = c.append_rows-done.result;
        makes = c.append_rows-done.ensures.appends root options given (subst (λ (rows : Gathered). holds rows given) same held) (subst (AreGatheredFor root options) same table);
        unshown = (refl, c.clear.ensures ∙ ap (λ d. d.disk) c.disk_mut.ensures.value);
        told = c.tell_done.ensures.told;
      };
}
