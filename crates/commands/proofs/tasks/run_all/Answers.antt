use Rattle.std.proofs.Common.{Err}
use Rattle.vault.proofs.Chained.{refused}
use Rattle.answers.specs.Making.{RunsScript}
use Rattle.commands.proofs.TasksMade.{run_of, run_on}
use Rattle.commands.proofs.tasks.run_all.Goals as goal

pub returns-in_err-run_script : goal.returns-in_err-run_script
returns-in_err-run_script g c =
    let state = g.D.Disk.state in
    let texts = c.args.texts in
    let old = c.args.store.now in
    let new = c.run_script.new.store in
    let before = g.W.Write.contents c.args.out.now in
    let after = g.W.Write.contents c.run_script.new.out in
    let e = c.in_err-run_script.field-0.0 in
    let told = c.in_ok-text.ensures.text in
    record {
      runs = record {
        text = λ is. refused (λ r. RunsScript state texts old new c.args.bytes.now before after r) c.from_residual-in_err-run_script.result e c.from_residual-in_err-run_script.ensures.1
            (run_of state texts old new c.in_ok-text.text.now c.args.bytes.now before after (Err e) told.0 c.in_err-run_script.ensures.runs);
        no_text = λ none. absurd (none told.1);
      };
    }

pub returns : goal.returns
returns g c =
    let state = g.D.Disk.state in
    let texts = c.args.texts in
    let old = c.args.store.now in
    let new = c.run_script.new.store in
    let contents = g.W.Write.contents in
    let before = contents c.args.out.now in
    let mid = contents c.run_script.new.out in
    let after = contents c.flush.new.self in
    let told = c.in_ok-text.ensures.text in
    record {
      runs = record {
        text = λ is. run_on state texts old new c.args.bytes.now before mid after c.flush.ensures.bytes c.map_err.result c.in_ok-text.text.now told.0 c.in_ok-run_script.ensures.runs;
        no_text = λ none. absurd (none told.1);
      };
    }
