use Rattle.std.proofs.Common.{◌≡◌, rules, subst}
use Rattle.std.specs.Prelude.{Option, Some, IfSome}
use Rattle.clap.specs.Matches.{found_of}
use Rattle.dataset_words.specs.Asked.{HasTask}
use Rattle.dataset_words.specs.Words.{task_word}
use Rattle.dataset_words.proofs.words.call_in.Goals as goal

holds : {T : Type 0} (P : T → Type 0) (o : Option T) (x : T) → o ≡ Some x → IfSome o P → P x
holds {T} P o x e h = subst (λ (o : Option T). IfSome o P) e h

pub returns-in-Some-Some-clause-asked : goal.returns-in-Some-Some-clause-asked
returns-in-Some-Some-clause-asked c =
    let found = found_of c.args.found.now in
    record {
      command = holds (λ task. task_word task ≡ c.args.word.now) c.in_ok-task.task c.in-Some-Some.task c.in-Some-Some.is-1 c.in_ok-task.ensures.word;
      folder = search rules;
      task = holds (HasTask found) c.in_ok-task.task c.in-Some-Some.task c.in-Some-Some.is-1 c.in_ok-task.ensures.asked;
      waits = c.seconds_in.ensures;
      options = c.options_in.ensures;
      keeps_style = c.keeps_style_in.ensures;
      texts = c.texts_in.ensures;
    }
