use Rattle.std.proofs.Common.{rules, ◌≡◌, ◌∙◌, ℕ, ap, sym, refl, Ok, Err}
use Rattle.disk.specs.declared.fault.Fault.TheVariants.{Failed, Memory}
use Rattle.mem_disk.specs.Loose.{empty, replayed, node_synced}
use Rattle.mem_disk.proofs.Choices.{file_node}
use Rattle.mem_disk.proofs.Effects.{goes_to, file_within, synced_done, synced_still, memory_absent}
use Rattle.mem_disk.proofs.held.Held.sync_file.Goals as goal

pub is_doubted-requires : goal.is_doubted-requires
is_doubted-requires c = file_within _ _ c.args.self.now.kept.sound c.args.path.now c.in-File.node (sym c.in-File.ensures)

pub sync-requires : goal.sync-requires
sync-requires c = file_within _ _ c.args.self.now.kept.sound c.args.path.now c.in-File.node (sym c.in-File.ensures)

pub returns-in_ok-sync-in-Passes-clause-effect : goal.returns-in_ok-sync-in-Passes-clause-effect
returns-in_ok-sync-in-Passes-clause-effect c f g r s =
    let sound = c.args.self.now.kept.sound in
    let goes = c.in_ok-sync-in-Passes.ensures.ok in (
      synced_done _ _ f g r s (Ok tt) tt _ sound c.args.path.now c.in-File.node goes (sym c.in-File.ensures),
      synced_done _ _ f g r s (Err Failed) refl _ sound c.args.path.now c.in-File.node goes (sym c.in-File.ensures),
    )

pub returns-in_ok-fail_sync-in-Fails-clause-effect : goal.returns-in_ok-fail_sync-in-Fails-clause-effect
returns-in_ok-fail_sync-in-Fails-clause-effect c f g r s = (c.fail_sync.ensures.effect f g r s, c.fail_sync.ensures.effect f g r s)

pub returns-in_err-fail_sync-in-Fails-clause-effect : goal.returns-in_err-fail_sync-in-Fails-clause-effect
returns-in_err-fail_sync-in-Fails-clause-effect c f g r s =
    let is : c.from_residual-in_err-fail_sync-in-Fails.result ≡ Err Memory = (search rules) in
    (synced_still _ _ f g r s c.from_residual-in_err-fail_sync-in-Fails.result Memory is memory_absent (c.in_err-fail_sync-in-Fails.ensures.err f g r s) c.args.path.now, c.fail_sync.ensures.effect f g r s)

pub returns-in_ok-sync-in-Passes-clause-whole : goal.returns-in_ok-sync-in-Passes-clause-whole
returns-in_ok-sync-in-Passes-clause-whole c n file _ =
    let node : c.in-File.node ≡ n = file_node c.in-File.node n (c.in-File.ensures ∙ file) in
    goes_to _ _ _ c.in_ok-sync-in-Passes.ensures.ok ∙ ap (λ (k : ℕ). node_synced (replayed empty c.args.self.now.calls.items) k) node
