use Rattle.std.proofs.Common.{◌≡◌, ◌≢◌, inl, inr, ℕ, List, Some, refl}
use Rattle.clap.specs.Values.{kind_of}
use Rattle.clap.specs.declared.error.kind.ErrorKind.TheVariants.{OutOfMemory}
use Rattle.dataset_words.specs.declared.options.Styles.{Styles}
use Rattle.program.proofs.CommandLines.{asking, asking_for_none}
use Rattle.program.specs.CommandLine.{AreMatchesBy, AreNotTaken}
use Rattle.program.specs.Words.{first_word, word_of}
use Rattle.program.specs.inner.Met.{IsMetRequest, IsUnmet}
use Rattle.program.proofs.arguments.request_of.Goals as goal

pub returns-in-Err-clause-no_call : goal.returns-in-Err-clause-no_call
returns-in-Err-clause-no_call c =
    let refused : (kind_of c.in-Err.error ≢ OutOfMemory → (styles : Styles) × AreNotTaken styles c.args.words.now) =
    rw c.in-Err.is at c.in_ok-matches.ensures.refused in
    let by = refused c.in_ok-error_text-in-Err.ensures.other in
    inl (by.0, inl by.1)

pub returns-in-None-clause-no_call : goal.returns-in-None-clause-no_call
returns-in-None-clause-no_call c =
    let by : (styles : Styles) × AreMatchesBy styles c.args.words.now c.in-Ok.matches = rw c.in-Ok.is at c.in_ok-matches.ensures.finds in
    let unmet : ((word : List ℕ) → first_word c.args.words.now ≡ Some word → IsUnmet c.in-Ok.matches word) = rw c.in-None.is at c.in_ok-request.ensures.none in
    inl (asking_for_none c.args.words.now c.in-Ok.matches by unmet)

pub returns-in-Some-fault_of-clause-no_call : goal.returns-in-Some-fault_of-clause-no_call
returns-in-Some-fault_of-clause-no_call c =
    let by : (styles : Styles) × AreMatchesBy styles c.args.words.now c.in-Ok.matches = rw c.in-Ok.is at c.in_ok-matches.ensures.finds in
    let met : IsMetRequest c.in-Ok.matches c.in-Some.request = rw c.in-Some.is at c.in_ok-request.ensures.asking in
    let first : first_word c.args.words.now ≡ Some (word_of c.in-Some.request.call) = rw c.in-Some.is at c.in_ok-request.ensures.first in
    inr
    (record {
      request = c.in-Some.request;
      asked = asking c.args.words.now c.in-Ok.matches by c.in-Some.request first met;
      wrong = c.in-Some-fault_of.ensures.wrong refl;
    })

pub returns-clause-asking : goal.returns-clause-asking
returns-clause-asking c =
    let by : (styles : Styles) × AreMatchesBy styles c.args.words.now c.in-Ok.matches = rw c.in-Ok.is at c.in_ok-matches.ensures.finds in
    let met : IsMetRequest c.in-Ok.matches c.in-Some.request = rw c.in-Some.is at c.in_ok-request.ensures.asking in
    let first : first_word c.args.words.now ≡ Some (word_of c.in-Some.request.call) = rw c.in-Some.is at c.in_ok-request.ensures.first in
    asking c.args.words.now c.in-Ok.matches by c.in-Some.request first met
