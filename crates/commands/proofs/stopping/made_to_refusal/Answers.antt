use Rattle.std.proofs.Common.{ℕ, List, Ok, Err, subst}
use Rattle.vault.proofs.Chained.{refused}
use Rattle.commands.specs.Stopping.{RunsToRefusal}
use Rattle.commands.proofs.TasksMade.{stop_on, stop_unprinted}
use Rattle.commands.proofs.stopping.made_to_refusal.Goals as goal

pub returns-in_err-stop : goal.returns-in_err-stop
returns-in_err-stop g c =
    let state = g.D.Disk.state in
    let texts = c.args.texts in
    let old = c.args.store.now in
    let new = c.run_script_to_refusal.new.store in
    let before = g.W.Write.contents c.args.out.now in
    let after = g.W.Write.contents c.run_script_to_refusal.new.out in
    let e = c.in_err-stop.field-0.0 in
    let told = c.in_ok-text.ensures.text in
    record {
      stops = record {
        text = λ is. refused (λ r. RunsToRefusal state texts old new c.args.bytes.now before after r) c.from_residual-in_err-stop.result e c.from_residual-in_err-stop.ensures.1
            (subst (λ (t : List ℕ). RunsToRefusal state texts old new t before after (Err e)) told.0 c.in_err-stop.ensures.runs);
        no_text = λ none. absurd (none told.1);
      };
    }

pub returns-in_err-map_err : goal.returns-in_err-map_err
returns-in_err-map_err g c =
    let state = g.D.Disk.state in
    let texts = c.args.texts in
    let old = c.args.store.now in
    let new = c.run_script_to_refusal.new.store in
    let contents = g.W.Write.contents in
    let before = contents c.args.out.now in
    let mid = contents c.run_script_to_refusal.new.out in
    let after = contents c.flush.new.self in
    let stop = c.in_ok-stop.stop in
    let e = c.in_err-map_err.field-0.0 in
    let told = c.in_ok-text.ensures.text in
    record {
      stops = record {
        text = λ is. refused (λ r. RunsToRefusal state texts old new c.args.bytes.now before after r) c.from_residual-in_err-map_err.result e c.from_residual-in_err-map_err.ensures.1
            (stop_unprinted state texts old new c.args.bytes.now before mid after c.flush.ensures.bytes stop e
            (subst (λ (t : List ℕ). RunsToRefusal state texts old new t before mid (Ok stop)) told.0 c.in_ok-stop.ensures.runs));
        no_text = λ none. absurd (none told.1);
      };
    }

pub returns : goal.returns
returns g c =
    let state = g.D.Disk.state in
    let texts = c.args.texts in
    let old = c.args.store.now in
    let new = c.run_script_to_refusal.new.store in
    let contents = g.W.Write.contents in
    let before = contents c.args.out.now in
    let mid = contents c.run_script_to_refusal.new.out in
    let after = contents c.flush.new.self in
    let stop = c.in_ok-stop.stop in
    let told = c.in_ok-text.ensures.text in
    record {
      stops = record {
        text = λ is. stop_on state texts old new c.args.bytes.now before mid after c.flush.ensures.bytes stop
            (subst (λ (t : List ℕ). RunsToRefusal state texts old new t before mid (Ok stop)) told.0 c.in_ok-stop.ensures.runs);
        no_text = λ none. absurd (none told.1);
      };
    }
