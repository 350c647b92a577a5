use Rattle.std.proofs.Common.{◌≡◌, List, refl, sym, subst}
use Rattle.std.specs.Rc.{rc_value}
use Rattle.std.specs.declared.rc.Rc.{Rc}
use Rattle.std.specs.declared.alloc.Global.{Global}
use Rattle.std.proofs.lemmas.Result.{IfOk-weaker}
use Rattle.manifest.specs.declared.group.Group.{Group as CodeGroup}
use Rattle.manifest.specs.Groups.{root_of, group_view}
use Rattle.manifest.specs.Root.{stored_of}
use Rattle.manifest.specs.Records.{IsGroup}
use Rattle.schema.specs.Keys.{KeyColumn, AreRowsOf}
use Rattle.schema.specs.Views.{key_view}
use Rattle.vault.proofs.Chained.{refused}
use Rattle.bits.specs.declared.refusal.Refusal.{Refusal}
use Rattle.bits.specs.declared.refusal.Refusal.TheVariants.{Device}
use Rattle.bits.specs.Refusals.{HasCause}
use Rattle.table.specs.Table.{Row, Key}
use Rattle.table_state.specs.declared.standing.Core.{Core}
use Rattle.table_commits.specs.Writing.{Writes, IsUnfitPart}
use Rattle.table_commits.proofs.PartFilesWritten.{nothing_written, part_for}
use Rattle.table_commits.proofs.buffered_part.write_buffered.Goals as goal

no_device : {D : Type 0} (store : Core D) (key : Key) (rows : List Row) (e : Refusal) → HasCause (IsUnfitPart store key rows) e → e ≡ Device → ⊥
no_device store key rows e cause is = subst (λ (x : Refusal). HasCause (IsUnfitPart store key rows) x) is cause

pub returns-in_err-part-clause-writes : goal.returns-in_err-part-clause-writes
returns-in_err-part-clause-writes g c honest s stored held shows is_open there holds are =
    let old = c.args.store.now in
    let key = key_view c.args.buffer.key in
    refused (λ r. Writes g.D.Disk.state old old c.args.job key held r s) c.from_residual.result _ c.from_residual.ensures.1
    (nothing_written g.D.Disk.state old s c.args.job key held shows is_open old.snapshots refl _ (no_device old key stored c.in_err-part.field-0.0 (c.in_err-part.ensures.which stored holds)))

pub returns-clause-writes : goal.returns-clause-writes
returns-clause-writes g c honest s stored held shows is_open there holds are =
    let old = c.args.store.now in
    let part = c.in_ok-part.part in
    let key = key_view c.args.buffer.key in
    let made = c.in_ok-part.ensures.made stored held holds (subst (λ (ks : List KeyColumn). AreRowsOf ks key stored held) (sym shows.keys) are) in
    let ready = part_for (root_of old.manifest).keys s.table.keys (root_of old.manifest).schema s.table.schema old.next_group s.next_group key held part shows.keys shows.schema shows.next_group made in
    c.put_part.ensures.writes honest s key held shows is_open there ready

pub returns-clause-is : goal.returns-clause-is
returns-clause-is g c =
    let root = root_of c.args.store.now.manifest in
    IfOk-weaker c.put_part.result _ (λ (h : Rc CodeGroup Global). IsGroup root.keys (stored_of root) (group_view (rc_value h)))
    (λ h same. subst (λ (x : CodeGroup). IsGroup root.keys (stored_of root) (group_view x)) (sym same) c.in_ok-part.ensures.is) c.put_part.ensures.group
