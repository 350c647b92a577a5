use Rattle.std.proofs.Common.{◌∙◌, ap}
use Rattle.vault.proofs.Chained.{refused}
use Rattle.manifest.specs.Groups.{Root, root_of}
use Rattle.snapshots.specs.Views.{state_of}
use Rattle.table_state.specs.declared.standing.Core.{Core}
use Rattle.table_commits.specs.Committing.{Turns}
use Rattle.table_commits.proofs.CommitSteps.{prepared_so, is_turn, not_made, done_and_cleared, shows_turned}
use Rattle.table_commits.proofs.committing.commit_to.Goals as goal

pub returns-in_err-turn-clause-turns : goal.returns-in_err-turn-clause-turns
returns-in_err-turn-clause-turns g c honest s t jobs shows is_open planned =
    let old = c.args.store.now in
    refused (λ r. Turns {T = Unit {0}} g.D.Disk.state old old s t jobs r) c.from_residual.result _ c.from_residual.ensures.1
    (not_made g.D.Disk.state old s t jobs shows is_open c.args.job (root_of c.args.manifest) planned (Unit {0}) c.in_err-turn.field-0.0 c.in_err-turn.ensures.which)

pub returns-in_err-take_turn-clause-turns : goal.returns-in_err-take_turn-clause-turns
returns-in_err-take_turn-clause-turns g c honest s t jobs shows is_open planned =
    let old = c.args.store.now in
    let turn = is_turn g.D.Disk.state old s t jobs shows is_open c.args.job (root_of c.args.manifest) planned c.in_ok-turn.turn c.in_ok-turn.ensures.made in
    refused (λ r. Turns {T = Unit {0}} g.D.Disk.state old c.take_turn.new.store s t jobs r) c.from_residual-in_err-take_turn.result _ c.from_residual-in_err-take_turn.ensures.1
    (c.in_err-take_turn.ensures.turns honest s t jobs shows is_open turn)

pub returns-clause-turns : goal.returns-clause-turns
returns-clause-turns g c honest s t jobs shows is_open planned =
    let old = c.args.store.now in
    let mid = c.take_turn.new.store in
    let root = root_of c.args.manifest in
    let turn = is_turn g.D.Disk.state old s t jobs shows is_open c.args.job root planned c.in_ok-turn.turn c.in_ok-turn.ensures.made in
    let one = c.in_ok-take_turn.ensures.turns honest s t jobs shows is_open turn in
    let shown = shows_turned g.D.Disk.state old s t jobs shows is_open c.args.job root planned _ mid one in
    let two = c.let_go.ensures.clears (c.take_turn.ensures.honest.0 honest) _ shown is_open in
    done_and_cleared g.D.Disk.state old s t jobs shows is_open c.args.job root planned _ tt mid c.let_go.new.store one two c.let_go.ensures.keeps

pub returns-clause-tidy : goal.returns-clause-tidy
returns-clause-tidy g c honest s shows is_open keys keeps =
    let old = c.args.store.now in
    let made = c.in_ok-turn.ensures.made in
    let tracked = c.in_ok-take_turn.ensures.tracks honest s shows is_open (ap (λ (r : Root). r.keys) made.manifest_is ∙ keys) (prepared_so (state_of old.snapshots) _ c.args.job c.in_ok-turn.turn made) in
    c.let_go.ensures.tidy (c.take_turn.ensures.honest.0 honest) tracked (ap (λ (st : Core g.row.D.Denot). st.keeps) c.take_turn.ensures.touches ∙ keeps)
