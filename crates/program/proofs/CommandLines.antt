-- The command line that is built, and what its parser finds in words.
use Rattle.std.proofs.Common.{◌≡◌, ◌≢◌, ◌⊎◌, inl, inr, ◌∙◌, ap, ap₂, refl, sym, ℕ, true, false, List, [], ◌∷◌, ◌++◌, length, map, Result, Ok}
use Rattle.std.proofs.Common.{Err, Some, subst, arith}
use Rattle.std.specs.Prelude.{◌||◌, not, String, string_bytes, Option, None, IfErr, IfNone, IfOk, IfSome, codes}
use Rattle.std.specs.Borrow.{Bor}
use Rattle.std.proofs.lemmas.List.{length-append}
use borrow.Author.Tests.{ne_eqb}
use Rattle.std.proofs.lemmas.Bool.{and_right, and_left}
use Rattle.clap.specs.Adds.{AddsConflicts, AddsRequirements}
use Rattle.clap.specs.Built.{AddsArg, AddsSubcommand}
use Rattle.clap.specs.Simple.{App, HasMatchesOf, app_of, is_simple, subcommand_of, with_rule, with_subcommand}
use Rattle.clap.specs.Takes.{takes}
use Rattle.clap.specs.Values.{kind_of}
use Rattle.clap.specs.Walk.{Rule, Text, rule_of, is_free_arg, is_empty}
use Rattle.clap.specs.declared.builder.arg.Arg.{Arg}
use Rattle.clap.specs.declared.builder.arg.ArgPredicate.{ArgPredicate}
use Rattle.clap.specs.declared.builder.command.Command.{Command}
use Rattle.clap.specs.declared.error.Error.{Error}
use Rattle.clap.specs.declared.error.kind.ErrorKind.TheVariants.{OutOfMemory}
use Rattle.clap.specs.declared.parser.matches.ArgMatches.{ArgMatches}
use Rattle.clap.specs.declared.parser.matches.Found.{Found}
use Rattle.bits.specs.declared.refusal.Refusal.{Refusal}
use Rattle.dataset_words.specs.Asked.{HasFlag, HasMet}
use Rattle.dataset_words.specs.CommandLine.{AddsRules, IsArg, IsCommand, bound}
use Rattle.dataset_words.specs.declared.options.Styles.{Styles}
use Rattle.program.specs.Asked.{AreAsking, AskForNone, AsksFor, LacksWord}
use Rattle.program.specs.CommandLine.{AreMatchesBy, AreNotTaken, FindsBy, command_line}
use Rattle.program.specs.declared.arguments.Request.{Request}
use Rattle.program.specs.Words.{first_word, word_of}
use Rattle.program.specs.inner.Met.{IsMetRequest, IsUnmet}

pub with_arg : {old new : Command} {arg : Arg} {app : App} {rule : Rule} → IsCommand app old → IsArg rule arg → AddsArg old arg new → IsCommand (with_rule app rule) new
with_arg command is added = record {
  app_is = added.shape is.local ∙ ap₂ with_rule command.app_is is.rule_is;
  local = added.globals ∙ ap₂ (λ a b. a || b) command.local is.local;
}

pub changed : {old new : Command} {app : App} {change : App → App} → IsCommand app old → AddsRules change old new → IsCommand (change app) new
changed {change = change} command added = record { app_is = added.app_is ∙ ap change command.app_is; local = added.local command.local }

pub with_sub : {old new sub : Command} {app below : App} → IsCommand app old → IsCommand below sub → AddsSubcommand old sub new → IsCommand (with_subcommand app below.top) new
with_sub command is added = record {
  app_is = added.shape is.local ∙ ap₂ (λ (a b : App). with_subcommand a b.top) command.app_is is.app_is;
  local = added.globals ∙ ap₂ (λ a b. a || b) command.local is.local;
}

-- ---- arguments that exclude or need others

not_empty : {X : Type 0} (xs : List X) (y : X) → is_empty (xs ++ y ∷ []) ≡ false
not_empty xs y = ne_eqb (length (xs ++ y ∷ [])) 0 (λ z. omega (arith, z, length-append xs (y ∷ [])))

-- an argument that excludes another one
pub bound_by_conflict : (old new : Arg) (rule : Rule) (id : Bor Text) → IsArg rule old → AddsConflicts old new (id ∷ []) → IsArg (bound rule) new
bound_by_conflict old new rule id is added =
    let some : is_empty new.conflicts.items ≡ false = ap is_empty added.1 ∙ not_empty old.conflicts.items id in
    let free : is_free_arg new ≡ false = and_right (not new.exclusive) _ (and_left (is_empty new.conflicts.items) _ some) in
    record {
      rule_is = ap rule_of added.0 ∙ ap₂ (λ (r : Rule) b. record r { is_free = b }) is.rule_is (ap is_free_arg (sym added.0) ∙ free);
      local = ap (λ (a : Arg). a.global) added.0 ∙ is.local;
    }

-- an argument that needs another one
pub bound_by_need : (old new : Arg) (rule : Rule) (id : ArgPredicate × Bor Text) → IsArg rule old → AddsRequirements old new (id ∷ []) → IsArg (bound rule) new
bound_by_need old new rule id is added =
    let some : is_empty new.needs.items ≡ false = ap is_empty added.1 ∙ not_empty old.needs.items id in
    let free : is_free_arg new ≡ false = and_right (not new.exclusive) _ (and_right (is_empty new.conflicts.items) _ (and_left (is_empty new.needs.items) _ some)) in
    record {
      rule_is = ap rule_of added.0 ∙ ap₂ (λ (r : Rule) b. record r { is_free = b }) is.rule_is (ap is_free_arg (sym added.0) ∙ free);
      local = ap (λ (a : Arg). a.global) added.0 ∙ is.local;
    }

-- ---- what is found

-- for this command line the parser's definition gives the matches
simple : (styles : Styles) → is_simple (command_line styles) ≡ true
simple styles = refl

pub are_matches : {A : Type 0} (words : List (String A)) (styles : Styles) (program : Command) (matches : ArgMatches) → IsCommand (command_line styles) program
    → HasMatchesOf (app_of program) (map string_bytes words) matches
    → (styles : Styles) × AreMatchesBy styles words matches
are_matches words styles program matches is has =
    (styles, (has (ap is_simple is.app_is ∙ simple styles)).1 ∙ ap (λ (a : App). subcommand_of a (map string_bytes words)) is.app_is)

-- words that are refused for another reason than memory are not taken
pub not_taken : {A : Type 0} (words : List (String A)) (styles : Styles) (program : Command) (error : Error) → IsCommand (command_line styles) program
    → (takes (app_of program) (map string_bytes words) ≡ true → kind_of error ≡ OutOfMemory) → kind_of error ≢ OutOfMemory
    → (styles : Styles) × AreNotTaken styles words
not_taken words styles program error is passes other = (styles, λ taken. other (passes (ap (λ (a : App). takes a (map string_bytes words)) is.app_is ∙ taken)))

pub all_not_taken : {A X : Type 0} (words : List (String A)) (styles : Styles) (program : Command) (r : Result X Error) → IsCommand (command_line styles) program
    → IfErr r (λ error. takes (app_of program) (map string_bytes words) ≡ true → kind_of error ≡ OutOfMemory)
    → IfErr r (λ error. kind_of error ≢ OutOfMemory → (styles : Styles) × AreNotTaken styles words)
all_not_taken words styles program (Ok x) is passes = tt
all_not_taken words styles program (Err error) is passes = not_taken words styles program error is passes

none_some : {A : Type 0} {x : A} → None ≡ Some x → ⊥
none_some e = cc

some_same : {A : Type 0} {x y : A} → Some x ≡ Some y → x ≡ y
some_same e = cc

-- what a command asks for, where the words name it
pub by_found : (matches : ArgMatches) (word : List ℕ) (found : Found) (r : Result (Option Request) Refusal) → HasMet matches word found
    → IfOk r (λ known. IfSome known (λ request. word_of request.call ≡ word)) → IfOk r (λ known. IfSome known (λ request. AsksFor word found request.call))
    → IfOk r (λ known. IfSome known (λ request. HasFlag found (codes "quiet") request.quiet)) → IfOk r (λ known. IfSome known (IsMetRequest matches))
by_found matches word found (Err e) met begins asks quiet = tt
by_found matches word found (Ok None) met begins asks quiet = tt
by_found matches word found (Ok (Some request)) met begins asks quiet = record {
  found = found;
  met = subst (λ (w : List ℕ). HasMet matches w found) (sym begins) met;
  asks = subst (λ (w : List ℕ). AsksFor w found request.call) (sym begins) asks;
  quiet = quiet;
}

pub asking : {A : Type 0} (words : List (String A)) (matches : ArgMatches) → (styles : Styles) × AreMatchesBy styles words matches
    → (request : Request) → first_word words ≡ Some (word_of request.call) → IsMetRequest matches request → AreAsking words request
asking words matches by request first met =
    record { found = met.found; finds = (by.0, sym by.1 ∙ met.met); first = first; asks = met.asks; quiet = met.quiet }

-- words in which no call is found
pub asking_for_none : {A : Type 0} (words : List (String A)) (matches : ArgMatches) → (styles : Styles) × AreMatchesBy styles words matches
    → ((word : List ℕ) → first_word words ≡ Some word → IsUnmet matches word) → AskForNone words
asking_for_none words matches by unmet = by_first (first_word words) refl
  where
    same_word : (word other : List ℕ) (found : Found) → first_word words ≡ Some word → first_word words ≡ Some other → FindsBy by.0 words other found
        → HasMet matches word found
    same_word word other found first also finds =
        let same : other ≡ word = some_same (sym also ∙ first) in
        subst (λ (w : List ℕ). HasMet matches w found) same (by.1 ∙ finds)

    by_first : (f : Option (List ℕ)) → first_word words ≡ f → AskForNone words
    by_first None e = (by.0, inr (inl (λ word found first finds. none_some (sym e ∙ first))))
    by_first (Some word) e = elim (unmet word e) [
      | inl none ↦ (by.0, inr (inl (λ other found first finds. none found (same_word word other found e first finds))))
      | inr some ↦ (by.0, inr (inr (record { word = word; found = some.0; first = e; finds = sym by.1 ∙ some.1; lacks = some.2 })))
    ]

-- what was found makes no call
pub unmet_by : (matches : ArgMatches) (word : List ℕ) (found : Found) (r : Result (Option Request) Refusal) → HasMet matches word found
    → IfOk r (λ known. IfNone known (LacksWord word found)) → IfOk r (λ known. IfNone known (IsUnmet matches word))
unmet_by matches word found (Err e) met lacks = tt
unmet_by matches word found (Ok (Some request)) met lacks = tt
unmet_by matches word found (Ok None) met lacks = inr (found, met, lacks)

-- the first of the words
pub unmet_first : {A : Type 0} (words : List (String A)) (matches : ArgMatches) (word : List ℕ) (r : Result (Option Request) Refusal) → first_word words ≡ Some word
    → IfOk r (λ known. IfNone known (IsUnmet matches word))
    → IfOk r (λ known. IfNone known ((other : List ℕ) → first_word words ≡ Some other → IsUnmet matches other))
unmet_first words matches word (Err e) first unmet = tt
unmet_first words matches word (Ok (Some request)) first unmet = tt
unmet_first words matches word (Ok None) first unmet = λ other also. subst (λ (w : List ℕ). IsUnmet matches w) (some_same (sym first ∙ also)) unmet
