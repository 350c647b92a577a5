use Rattle.std.proofs.Common.{sym, subst, List}
use Rattle.disk.specs.declared.fault.Fault.TheVariants.{Absent, Failed}
use Rattle.mem_disk.specs.declared.name.Name.{Name}
use Rattle.mem_disk.specs.Loose.{empty, replayed, image_of}
use Rattle.mem_disk.specs.Listings.{AreListed}
use Rattle.mem_disk.proofs.Listed.{names_in}
use Rattle.mem_disk.proofs.Effects.{reads_still, not_absent, err_is, ok_is_no_err}
use Rattle.mem_disk.proofs.held.Held.list_names.Goals as goal

pub returns-clause-effect : goal.returns-clause-effect
returns-clause-effect c f g r s =
    let self = c.args.self.now in
    let calls = self.calls.items in
    let folder = c.args.folder.now in
    let entries = c.in_ok-entries.entries.items in
    let so = subst (λ (xs : List Name). AreListed folder xs entries) c.deref.ensures.value c.in_ok-entries.ensures in (
      record {
        still = reads_still calls f g r s;
        done = (sym c.in-Folder.ensures, names_in folder (image_of (replayed empty calls)) self.names.list.items entries self.kept.shows.names self.apart so);
        absent = λ x. absurd (ok_is_no_err _ Absent x);
      },
      record {
        still = reads_still calls f g r s;
        done = tt;
        absent = λ x. absurd (not_absent (err_is Failed Absent x));
      },
    )
