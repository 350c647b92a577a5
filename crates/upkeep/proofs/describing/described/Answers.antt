use Rattle.std.proofs.Common.{Some, ap, sym, subst, ◌∙◌}
use Rattle.disk.specs.State.{content}
use Rattle.vault.specs.Views.{ReadsRoot, root_path}
use Rattle.vault.specs.Calls.{HasFailed}
use Rattle.upkeep.proofs.Keeping.{described_by, not_described, never_of_bytes}
use Rattle.upkeep.proofs.describing.described.Goals as goal

pub returns-in-Some-clause-stands : goal.returns-in-Some-clause-stands
returns-in-Some-clause-stands g c = λ honest.
    let s0 = g.D.Disk.state c.args.vault.now.disk in
    let read : ReadsRoot s0 (Some c.in-Some.bytes) = subst (ReadsRoot s0) c.in-Some.is (c.in_ok-bytes.ensures.stands honest) in
    described_by c.from_bytes.result (content s0.seen root_path) c.as_slice.result.now (read ∙ ap Some (sym c.as_slice.ensures.value)) c.from_bytes.ensures.stands

pub returns-in-Some-clause-which : goal.returns-in-Some-clause-which
returns-in-Some-clause-which g c = λ honest.
    let s0 = g.D.Disk.state c.args.vault.now.disk in
    let read : ReadsRoot s0 (Some c.in-Some.bytes) = subst (ReadsRoot s0) c.in-Some.is (c.in_ok-bytes.ensures.stands honest) in
    not_described c.from_bytes.result (content s0.seen root_path) c.as_slice.result.now (read ∙ ap Some (sym c.as_slice.ensures.value)) c.from_bytes.ensures.which c.from_bytes.ensures.only

pub returns-in-Some-clause-cause : goal.returns-in-Some-clause-cause
returns-in-Some-clause-cause g c =
    never_of_bytes (HasFailed (g.D.Disk.state c.args.vault.now.disk) (g.D.Disk.state c.root.new.self.disk)) c.as_slice.result.now c.from_bytes.result c.from_bytes.ensures.which
