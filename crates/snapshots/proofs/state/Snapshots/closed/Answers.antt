use Rattle.std.proofs.Common.{◌≡◌, not, List, refl, sym, ap, ◌∙◌, subst}
use Rattle.std.specs.Prelude.{filter}
use Rattle.std.specs.Rc.{rc_value}
use Rattle.manifest.specs.Groups.{groups_in}
use Rattle.snapshots.specs.inner.Held.{Seen, seen_in, work_in}
use Rattle.snapshots.specs.inner.Spells.{others_in}
use Rattle.snapshots.specs.inner.Kept.{Keeps}
use Rattle.std.proofs.Common.{Vec, Global, ◌==◌}
use Rattle.snapshots.specs.declared.held.Cursor.{Cursor}
use Rattle.snapshots.proofs.Times.{keeps_closed}
use Rattle.snapshots.proofs.States.{closed_is, parts_same}
use Rattle.snapshots.proofs.state.Snapshots.closed.Goals as goal

pub with_cursors-requires : goal.with_cursors-requires
with_cursors-requires c =
    let others : seen_in c.in_ok-cursors.cursors.items ≡ filter (λ (x : Seen). not (x.number == c.args.number)) (seen_in (rc_value c.args.self.now.cursors).items) = c.in_ok-cursors.ensures.others
    ∙ ap (λ (cs : List Cursor). filter (λ (x : Seen). not (x.number == c.args.number)) (seen_in cs)) (c.as_slice-2.ensures.value ∙ ap (λ (v : Vec Cursor Global). v.items) c.deref-2.ensures) in
    subst (λ (cs : List Seen). Keeps (groups_in c.args.self.now.current) (rc_value c.args.self.now.numbered) c.args.self.now.time cs (work_in (rc_value c.args.self.now.jobs).items) (others_in c.args.self.now.others)) (sym others) (keeps_closed c.args.self.now.kept c.args.number)

pub returns-clause-done : goal.returns-clause-done
returns-clause-done c =
    let others : seen_in c.in_ok-cursors.cursors.items ≡ filter (λ (x : Seen). not (x.number == c.args.number)) (seen_in (rc_value c.args.self.now.cursors).items) = c.in_ok-cursors.ensures.others
    ∙ ap (λ (cs : List Cursor). filter (λ (x : Seen). not (x.number == c.args.number)) (seen_in cs)) (c.as_slice-2.ensures.value ∙ ap (λ (v : Vec Cursor Global). v.items) c.deref-2.ensures) in
    c.in_ok-next.ensures.state ∙ parts_same refl others refl refl ∙ closed_is (groups_in c.args.self.now.current) (seen_in (rc_value c.args.self.now.cursors).items) (work_in (rc_value c.args.self.now.jobs).items) (others_in c.args.self.now.others) c.args.number
