use Rattle.std.proofs.Common.{◌≡◌, List, ap, ◌∙◌, map}
use Rattle.std.specs.Prelude.{filter}
use Rattle.std.specs.Rc.{rc_value}
use Rattle.manifest.specs.Groups.{handles_view}
use Rattle.snapshots.specs.State.{File, files_of, is_among}
use Rattle.snapshots.specs.declared.numbered.Numbered.{Numbered}
use Rattle.snapshots.specs.inner.Found.{came, has}
use Rattle.snapshots.specs.inner.Spells.{Other, others_in, is_free}
use Rattle.snapshots.proofs.Needed.{unneeded_is}
use Rattle.snapshots.proofs.state.Snapshots.unpinned.Goals as goal

pub returns-clause-just : goal.returns-clause-just
returns-clause-just c = λ f.
    let free : files_of (handles_view c.in_ok-files.files.items) ≡ map (λ (o : Other). o.file) (filter (λ (o : Other). is_free (came (rc_value c.args.self.now.numbered)) (has c.in_ok-pinned.pinned) o.file) (others_in c.args.self.now.others)) = c.in_ok-files.ensures.all
    ∙ ap (λ (m : Numbered). map (λ (o : Other). o.file) (filter (λ (o : Other). is_free (came m) (has c.in_ok-pinned.pinned) o.file) (others_in c.args.self.now.others))) c.deref.ensures in
    ap (λ (fs : List File). is_among fs f) free ∙ unneeded_is c.args.self.now.kept (has c.in_ok-pinned.pinned) c.in_ok-pinned.ensures.has f
