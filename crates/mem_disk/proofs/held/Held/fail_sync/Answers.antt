use Rattle.std.proofs.Common.{◌∙◌, ◌<◌, List, sym, ap, refl, Err, arith, length}
use Rattle.std.proofs.lemmas.Result.{on_ok_weaker, on_err_weaker}
use Rattle.disk.specs.declared.fault.Fault.TheVariants.{Failed}
use Rattle.mem_disk.specs.declared.call.Call.{Call}
use Rattle.mem_disk.specs.declared.fuse.Done.{Done}
use Rattle.mem_disk.specs.Failing.{doubtful}
use Rattle.mem_disk.specs.Loose.{Loose, empty, replayed, node_synced, node_doubted}
use Rattle.mem_disk.proofs.Effects.{file_within, either, goes_to, sync_nothing, sync_whole, synced_stays, synced_still, stays_at, firm_still, taken_whole, not_absent}
use Rattle.mem_disk.proofs.held.Held.fail_sync.Goals as goal

pub doubt-requires : goal.doubt-requires
doubt-requires c = file_within _ _ c.args.self.now.kept.sound c.args.path.now c.args.node c.requires

pub sync-requires : goal.sync-requires
sync-requires c = file_within _ _ c.args.self.now.kept.sound c.args.path.now c.args.node c.requires

pub doubt-requires-in-Whole : goal.doubt-requires-in-Whole
doubt-requires-in-Whole c = let lt : c.args.node < length c.args.self.now.nodes.items = file_within _ _ c.args.self.now.kept.sound c.args.path.now c.args.node c.requires in let same = c.sync.ensures.nodes in omega (arith, lt, same)

pub returns-in-Nothing-clause-effect : goal.returns-in-Nothing-clause-effect
returns-in-Nothing-clause-effect c f g r s = either c.doubt.result c.doubt.ensures.ok c.doubt.ensures.err
    (λ goes. sync_nothing _ _ f g r s (Err Failed) c.args.path.now c.args.node goes c.requires refl)
    (λ same. synced_stays _ _ f g r s same (Err Failed) Failed refl c.args.path.now (λ e. absurd (not_absent e)))

pub returns-in-Nothing-clause-extent : goal.returns-in-Nothing-clause-extent
returns-in-Nothing-clause-extent c = on_ok_weaker c.doubt.result
    (λ goes. goes_to _ _ _ goes ∙ sym (ap (λ (d : Done). doubtful c.args.node d (replayed empty c.args.self.now.calls.items)) c.in-Nothing.is)) c.doubt.ensures.ok

pub returns-in-Nothing-clause-nothing : goal.returns-in-Nothing-clause-nothing
returns-in-Nothing-clause-nothing c _ = either c.doubt.result c.doubt.ensures.ok c.doubt.ensures.err
    (λ goes. ap (λ (x : Loose). x.synced) (goes_to _ _ _ goes))
    (λ same. ap (λ (x : List Call). (replayed empty x).synced) same)

pub returns-in_ok-sync-in-Whole-clause-effect : goal.returns-in_ok-sync-in-Whole-clause-effect
returns-in_ok-sync-in-Whole-clause-effect c f g r s =
    let sound = c.args.self.now.kept.sound in
    let one = c.in_ok-sync-in-Whole.ensures.ok in
    either c.doubt-in-Whole.result c.doubt-in-Whole.ensures.ok c.doubt-in-Whole.ensures.err
    (λ two. sync_whole _ _ _ f g r s (Err Failed) _ sound c.args.path.now c.args.node one two c.requires refl)
    (λ same. synced_still _ _ f g r s (Err Failed) Failed refl not_absent (firm_still _ _ f g r s _ sound c.args.node (stays_at _ _ _ _ same one)) c.args.path.now)

pub returns-in_ok-sync-in-Whole-clause-extent : goal.returns-in_ok-sync-in-Whole-clause-extent
returns-in_ok-sync-in-Whole-clause-extent c = on_ok_weaker c.doubt-in-Whole.result
    (λ two. goes_to _ _ _ two ∙ ap (λ (x : Loose). node_doubted x c.args.node) (goes_to _ _ _ c.in_ok-sync-in-Whole.ensures.ok ∙ sym (taken_whole (λ x. node_synced x c.args.node) c.args.done (replayed empty c.args.self.now.calls.items) c.in-Whole.is))) c.doubt-in-Whole.ensures.ok

pub returns-in_ok-sync-in-Whole-clause-err : goal.returns-in_ok-sync-in-Whole-clause-err
returns-in_ok-sync-in-Whole-clause-err c = on_err_weaker c.doubt-in-Whole.result
    (λ same f g r s. firm_still _ _ f g r s _ c.args.self.now.kept.sound c.args.node (stays_at _ _ _ _ same c.in_ok-sync-in-Whole.ensures.ok)) c.doubt-in-Whole.ensures.err
