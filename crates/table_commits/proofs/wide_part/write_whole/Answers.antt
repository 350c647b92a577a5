use Rattle.std.proofs.Common.{◌≡◌, ◌≤◌, ℕ, List, length, None, refl, sym, subst, arith}
use Rattle.bits.specs.declared.refusal.Refusal.{Refusal}
use Rattle.bits.specs.declared.refusal.Refusal.TheVariants.{Device, Memory}
use Rattle.bits.specs.Refusals.{HasCause, RefusedOnly}
use Rattle.schema.specs.Keys.{KeyColumn, AreRowsOf}
use Rattle.schema.specs.Views.{key_view}
use Rattle.vault.proofs.Chained.{refused}
use Rattle.gather.specs.declared.key_buffer.KeyBuffer.{KeyBuffer}
use Rattle.gather.specs.KeyBuffers.{HoldsRows}
use Rattle.std.specs.Rc.{rc_value}
use Rattle.std.specs.declared.rc.Rc.{Rc}
use Rattle.std.specs.declared.alloc.Global.{Global}
use Rattle.std.proofs.lemmas.Result.{IfOk-weaker}
use Rattle.manifest.specs.declared.group.Group.{Group as CodeGroup}
use Rattle.manifest.specs.Groups.{root_of, group_view}
use Rattle.manifest.specs.Root.{stored_of}
use Rattle.manifest.specs.Records.{IsGroup}
use Rattle.table.specs.Table.{Row, Key}
use Rattle.table_state.specs.declared.standing.Core.{Core}
use Rattle.table_commits.specs.Gathering.{HoldsPart}
use Rattle.table_commits.specs.Writing.{Writes, IsUnfitPart, IsPartRefusal}
use Rattle.table_commits.proofs.SmallerGroups.{unwritten}
use Rattle.table_commits.proofs.PartFilesWritten.{nothing_written, part_for}
use Rattle.table_commits.proofs.wide_part.write_whole.Goals as goal

no_device : {D : Type 0} (store : Core D) (key : Key) (rows : List Row) (e : Refusal) → HasCause (IsUnfitPart store key rows) e → e ≡ Device → ⊥
no_device store key rows e cause is = subst (λ (x : Refusal). HasCause (IsUnfitPart store key rows) x) is cause

holds_part : {D : Type 0} (store : Core D) (rest : KeyBuffer) (stored : List Row) (count : ℕ) → HoldsRows (stored_of (root_of store.manifest)) stored rest → count ≡ length stored → 1 ≤ count → count ≤ store.options.group_rows
    → HoldsPart (root_of store.manifest) store.options rest stored
holds_part store rest stored count holds many some few = record { rows = holds; some = omega (arith, many, some); few = omega (arith, many, few) }

pub returns-then-rows-eq0-clause-writes : goal.returns-then-rows-eq0-clause-writes
returns-then-rows-eq0-clause-writes g c honest s stored held shows is_open holds are =
    let old = c.args.store.now in
    nothing_written g.D.Disk.state old s None (key_view c.args.rest.key) held shows is_open old.snapshots refl Memory (λ is. cc)

pub returns-then-store-ge-LAST_NUMBER-clause-writes : goal.returns-then-store-ge-LAST_NUMBER-clause-writes
returns-then-store-ge-LAST_NUMBER-clause-writes g c honest s stored held shows is_open holds are =
    let old = c.args.store.now in
    nothing_written g.D.Disk.state old s None (key_view c.args.rest.key) held shows is_open old.snapshots refl Memory (λ is. cc)

pub returns-then-rows-store-clause-writes : goal.returns-then-rows-store-clause-writes
returns-then-rows-store-clause-writes g c honest s stored held shows is_open holds are =
    let many = c.len-rows.ensures.counted stored holds.held in
    let part = holds_part c.args.store.now c.args.rest stored c.len-rows.result holds many (omega (arith, c.if-rows-eq0.false)) c.if-rows-store.true in
    c.write_buffered.ensures.writes honest s stored held shows is_open refl part are

pub returns-then-rows-store-clause-which : goal.returns-then-rows-store-clause-which
returns-then-rows-store-clause-which g c stored holds =
    let many = c.len-rows.ensures.counted stored holds.held in
    c.write_buffered.ensures.which stored (holds_part c.args.store.now c.args.rest stored c.len-rows.result holds many (omega (arith, c.if-rows-eq0.false)) c.if-rows-store.true)

pub returns-in_err-part-clause-which : goal.returns-in_err-part-clause-which
returns-in_err-part-clause-which g c stored holds =
    let old = c.args.store.now in
    let key = key_view c.args.rest.key in
    let many = c.len-rows.ensures.counted stored holds.held in
    refused (λ r. RefusedOnly (IsPartRefusal old None key stored) r) c.from_residual.result _ c.from_residual.ensures.1
    (unwritten old None key stored c.in_err-part.field-0.0 (c.in_err-part.ensures.which stored holds (omega (arith, many, c.if-rows-eq0.false))))

pub returns-in_err-part-clause-writes : goal.returns-in_err-part-clause-writes
returns-in_err-part-clause-writes g c honest s stored held shows is_open holds are =
    let old = c.args.store.now in
    let key = key_view c.args.rest.key in
    let many = c.len-rows.ensures.counted stored holds.held in
    refused (λ r. Writes g.D.Disk.state old old None key held r s) c.from_residual.result _ c.from_residual.ensures.1
    (nothing_written g.D.Disk.state old s None key held shows is_open old.snapshots refl _
    (no_device old key stored c.in_err-part.field-0.0 (c.in_err-part.ensures.which stored holds (omega (arith, many, c.if-rows-eq0.false)))))

pub returns-clause-writes : goal.returns-clause-writes
returns-clause-writes g c honest s stored held shows is_open holds are =
    let old = c.args.store.now in
    let part = c.in_ok-part.part in
    let key = key_view c.args.rest.key in
    let many = c.len-rows.ensures.counted stored holds.held in
    let some : 1 ≤ length stored = omega (arith, many, c.if-rows-eq0.false) in
    let made = c.in_ok-part.ensures.made stored held holds some (subst (λ (ks : List KeyColumn). AreRowsOf ks key stored held) (sym shows.keys) are) in
    let ready = part_for (root_of old.manifest).keys s.table.keys (root_of old.manifest).schema s.table.schema old.next_group s.next_group key held part shows.keys shows.schema shows.next_group made in
    c.put_part.ensures.writes honest s key held shows is_open refl ready

pub returns-clause-is : goal.returns-clause-is
returns-clause-is g c =
    let root = root_of c.args.store.now.manifest in
    IfOk-weaker c.put_part.result _ (λ (h : Rc CodeGroup Global). IsGroup root.keys (stored_of root) (group_view (rc_value h)))
    (λ h same. subst (λ (x : CodeGroup). IsGroup root.keys (stored_of root) (group_view x)) (sym same) c.in_ok-part.ensures.is) c.put_part.ensures.group
