use Rattle.std.proofs.Common.{◌∙◌, ℕ, List, sym, subst}
use Rattle.dataset_words.specs.declared.call.Task.{Task}
use Rattle.answers.specs.Importing.{files_view}
use Rattle.commands.specs.Calls.{ChangesStore, RunsCalls, state_within}
use Rattle.commands.proofs.TasksMade.{first_at}
use Rattle.commands.proofs.making.Making.change_by_files.Goals as goal

pub returns-in-Run : goal.returns-in-Run
returns-in-Run g c =
    let state = g.D.Disk.state in
    let contents = g.W.Write.contents in
    let call = c.args.self.now.call.now in
    let files = files_view c.args.files.now in
    record {
      comes = subst (λ (t : Task). ChangesStore state call t files (contents c.args.out.now) (contents c.run_calls.new.out) c.args.store.now c.run_calls.new.store c.run_calls.result) (sym c.in-Run.is)
          (subst (λ (file : List ℕ). RunsCalls (state_within {S = g.row.S.Denot} state) c.in-Run.stops call.texts c.args.store.now c.run_calls.new.store file (contents c.args.out.now) (contents c.run_calls.new.out) c.run_calls.result)
          (c.bytes_at-bytes.ensures ∙ first_at files) c.run_calls.ensures.runs);
    }
