use Rattle.std.proofs.Common.{◌≡◌, ◌&&◌, not, List, refl, sym, ap, ◌∙◌, subst, Global}
use Rattle.std.specs.Prelude.{filter}
use Rattle.std.specs.Rc.{rc_value}
use Rattle.manifest.specs.Groups.{groups_in, handles_view}
use Rattle.snapshots.specs.State.{File, files_of, is_among}
use Rattle.snapshots.specs.declared.numbered.Numbered.{Numbered}
use Rattle.snapshots.specs.inner.Found.{came, has}
use Rattle.snapshots.specs.inner.Held.{seen_in, work_in}
use Rattle.snapshots.specs.inner.Spells.{Other, others_in, is_free}
use Rattle.snapshots.specs.inner.Kept.{Keeps}
use Rattle.std.specs.declared.rc.Rc.{Rc}
use Rattle.manifest.specs.declared.group.Group.{Group as CodeGroup}
use Rattle.snapshots.proofs.Needed.{keeps_gone, gone_is}
use Rattle.snapshots.proofs.States.{parts_same}
use Rattle.snapshots.proofs.state.Snapshots.gone.Goals as goal

pub with_others-requires : goal.with_others-requires
with_others-requires c =
    let left : others_in c.in_ok-others.others ≡ filter (λ (o : Other). not (has c.in_ok-taken.taken o.file && is_free (came (rc_value c.args.self.now.numbered)) (has c.in_ok-pinned.pinned) o.file)) (others_in c.args.self.now.others) = c.in_ok-others.ensures.remaining
    ∙ ap (λ (m : Numbered). filter (λ (o : Other). not (has c.in_ok-taken.taken o.file && is_free (came m) (has c.in_ok-pinned.pinned) o.file)) (others_in c.args.self.now.others)) c.deref.ensures in
    let taken_is : (f : File) → has c.in_ok-taken.taken f ≡ is_among (files_of (handles_view c.args.files.items)) f = λ f. c.in_ok-taken.ensures.has f
    ∙ ap (λ (gs : List (Rc CodeGroup Global)). is_among (files_of (handles_view gs)) f) c.as_slice.ensures.value in
    subst (λ (os : List Other). Keeps (groups_in c.args.self.now.current) (rc_value c.args.self.now.numbered) c.args.self.now.time (seen_in (rc_value c.args.self.now.cursors).items) (work_in (rc_value c.args.self.now.jobs).items) os) (sym left) (keeps_gone c.args.self.now.kept (has c.in_ok-pinned.pinned) c.in_ok-pinned.ensures.has (has c.in_ok-taken.taken) (files_of (handles_view c.args.files.items)) taken_is)

pub returns-clause-done : goal.returns-clause-done
returns-clause-done c =
    let left : others_in c.in_ok-others.others ≡ filter (λ (o : Other). not (has c.in_ok-taken.taken o.file && is_free (came (rc_value c.args.self.now.numbered)) (has c.in_ok-pinned.pinned) o.file)) (others_in c.args.self.now.others) = c.in_ok-others.ensures.remaining
    ∙ ap (λ (m : Numbered). filter (λ (o : Other). not (has c.in_ok-taken.taken o.file && is_free (came m) (has c.in_ok-pinned.pinned) o.file)) (others_in c.args.self.now.others)) c.deref.ensures in
    let taken_is : (f : File) → has c.in_ok-taken.taken f ≡ is_among (files_of (handles_view c.args.files.items)) f = λ f. c.in_ok-taken.ensures.has f
    ∙ ap (λ (gs : List (Rc CodeGroup Global)). is_among (files_of (handles_view gs)) f) c.as_slice.ensures.value in
    c.in_ok-next.ensures.state ∙ parts_same refl refl refl left
    ∙ gone_is c.args.self.now.kept (has c.in_ok-pinned.pinned) c.in_ok-pinned.ensures.has (has c.in_ok-taken.taken) (files_of (handles_view c.args.files.items)) taken_is
