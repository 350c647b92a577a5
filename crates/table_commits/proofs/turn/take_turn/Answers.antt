use Rattle.std.proofs.Common.{◌≡◌, ℕ, Bool, true, false, List, Ok, Err, refl, sym, ◌∙◌, subst}
use Rattle.vault.specs.Calls.{SwapsRoot}
use Rattle.table_state.specs.declared.standing.Core.{Core}
use Rattle.snapshots.specs.Views.{state_of}
use Rattle.table_state.specs.Stands.{IsTracked}
use Rattle.table_commits.specs.Committing.{Turns}
use Rattle.table_commits.proofs.StateCarriedOver.{shown}
use Rattle.table_commits.proofs.TrackedFiles.{tracked_committed}
use Rattle.table_commits.proofs.SwappedRoots.{turn_refused, turn_done, turn_doubted}
use Rattle.table_commits.proofs.turn.take_turn.Goals as goal

no_other : {A : Type 0} (b : Bool) → (A → b ≡ true) → b ≡ false → A → ⊥
no_other b h f a = let e : true ≡ false = sym (h a) ∙ f in absurd (cc)

pub returns-in-Ok-clause-turns : goal.returns-in-Ok-clause-turns
returns-in-Ok-clause-turns g c honest s t jobs shows is_open is_turn =
    let old = c.args.store.now in
    let turn = c.args.turn in
    let disk = g.D.Disk.state old.vault.disk in
    let new = g.D.Disk.state c.swap_root.new.self.disk in
    let swaps = subst (λ (b : List ℕ). SwapsRoot {T = Unit {0}} b disk new (Ok tt)) c.as_slice.ensures.value (c.in-Ok.ensures.effect honest) in
    subst (λ (st : Core g.row.D.Denot). Turns {T = Unit {0}} g.D.Disk.state old st s t jobs (Ok tt)) (sym c.end.ensures.same)
    (turn_done g.D.Disk.state old s t jobs shows is_open turn is_turn c.swap_root.new.self (Ok tt) swaps c.publish.new.self c.publish.ensures c.end.new.store.jobs c.end.ensures.left swaps.done tt)

pub returns-then-is_in_doubt-clause-turns : goal.returns-then-is_in_doubt-clause-turns
returns-then-is_in_doubt-clause-turns g c honest s t jobs shows is_open is_turn =
    let old = c.args.store.now in
    let turn = c.args.turn in
    let disk = g.D.Disk.state old.vault.disk in
    let new = g.D.Disk.state c.swap_root.new.self.disk in
    let swaps = subst (λ (b : List ℕ). SwapsRoot {T = Unit {0}} b disk new (Err c.in-Err.refusal)) c.as_slice.ensures.value (c.in-Err.ensures.effect honest) in
    turn_doubted g.D.Disk.state old s t jobs shows is_open turn is_turn c.swap_root.new.self (Err c.in-Err.refusal) swaps c.in-Err.refusal refl (c.is_in_doubt.ensures.0 c.if-is_in_doubt.true)

pub returns-else-is_in_doubt-clause-turns : goal.returns-else-is_in_doubt-clause-turns
returns-else-is_in_doubt-clause-turns g c honest s t jobs shows is_open is_turn =
    let old = c.args.store.now in
    let turn = c.args.turn in
    let disk = g.D.Disk.state old.vault.disk in
    let new = g.D.Disk.state c.swap_root.new.self.disk in
    let swaps = subst (λ (b : List ℕ). SwapsRoot {T = Unit {0}} b disk new (Err c.in-Err.refusal)) c.as_slice.ensures.value (c.in-Err.ensures.effect honest) in
    let other = no_other c.is_in_doubt.result c.is_in_doubt.ensures.1 c.if-is_in_doubt.false in
    turn_refused g.D.Disk.state old s t jobs shows is_open turn is_turn c.swap_root.new.self (Err c.in-Err.refusal) swaps c.in-Err.refusal refl other (swaps.unchanged other)

pub returns-in-Ok-clause-tracks : goal.returns-in-Ok-clause-tracks
returns-in-Ok-clause-tracks g c honest s shows is_open kept prepared =
    let old = c.args.store.now in
    let turn = c.args.turn in
    let disk = g.D.Disk.state old.vault.disk in
    let new = g.D.Disk.state c.swap_root.new.self.disk in
    let swaps = subst (λ (b : List ℕ). SwapsRoot {T = Unit {0}} b disk new (Ok tt)) c.as_slice.ensures.value (c.in-Ok.ensures.effect honest) in
    subst (λ (st : Core g.row.D.Denot). IsTracked (g.D.Disk.state st.vault.disk) st) (sym c.end.ensures.same)
    (λ clean. tracked_committed old turn.manifest (state_of c.publish.new.self) turn.job (c.publish.ensures ∙ prepared) kept shows.apart turn.root.items disk new swaps.seen ((shown g.D.Disk.state old s shows is_open).tracked clean))
