-- Arguments and subcommands that are added to a command, one after another, and arguments that exclude or need others.
use Rattle.std.proofs.Common.{◌≡◌, ◌∙◌, ap, ap₂, refl, sym, false, List, [], ◌∷◌, ◌++◌, length, arith}
use Rattle.std.specs.Prelude.{◌||◌, not}
use Rattle.std.specs.Borrow.{Bor}
use Rattle.std.proofs.lemmas.List.{length-append}
use borrow.Author.Tests.{ne_eqb}
use Rattle.std.proofs.lemmas.Bool.{and_right, and_left}
use Rattle.clap.specs.Adds.{AddsConflicts, AddsRequiredUnless}
use Rattle.clap.specs.Built.{AddsArg, AddsSubcommand}
use Rattle.clap.specs.Simple.{App, with_rule, with_subcommand}
use Rattle.clap.specs.Walk.{Rule, Text, rule_of, is_free_arg, is_empty}
use Rattle.clap.specs.declared.builder.arg.Arg.{Arg}
use Rattle.clap.specs.declared.builder.command.Command.{Command}
use Rattle.dataset_words.specs.CommandLine.{AddsRules, IsArg, IsCommand, bound}

pub with_arg : {old new : Command} {arg : Arg} {app : App} {rule : Rule} → IsCommand app old → IsArg rule arg → AddsArg old arg new → IsCommand (with_rule app rule) new
with_arg command is added = record {
  app_is = added.shape is.local ∙ ap₂ with_rule command.app_is is.rule_is;
  local = added.globals ∙ ap₂ (λ a b. a || b) command.local is.local;
}

pub changed : {old new : Command} {app : App} {change : App → App} → IsCommand app old → AddsRules change old new → IsCommand (change app) new
changed {change = change} command added = record { app_is = added.app_is ∙ ap change command.app_is; local = added.local command.local }

pub adds_arg : {old mid new : Command} {arg : Arg} {change : App → App} {rule : Rule} → AddsRules change old mid → IsArg rule arg → AddsArg mid arg new
    → AddsRules (λ app. with_rule (change app) rule) old new
adds_arg so_far is added = record {
  app_is = added.shape is.local ∙ ap₂ with_rule so_far.app_is is.rule_is;
  local = λ local. added.globals ∙ ap₂ (λ a b. a || b) (so_far.local local) is.local;
}

pub adds_none : (command : Command) → AddsRules (λ app. app) command command
adds_none command = record { app_is = refl; local = λ local. local }

pub adds_sub : {old mid new sub : Command} {change : App → App} {below : App} → AddsRules change old mid → IsCommand below sub → AddsSubcommand mid sub new
    → AddsRules (λ app. with_subcommand (change app) below.top) old new
adds_sub so_far is added = record {
  app_is = added.shape is.local ∙ ap₂ (λ (a b : App). with_subcommand a b.top) so_far.app_is is.app_is;
  local = λ local. added.globals ∙ ap₂ (λ a b. a || b) (so_far.local local) is.local;
}

-- ---- arguments that exclude or need others

not_empty : {X : Type 0} (xs : List X) (y : X) → is_empty (xs ++ y ∷ []) ≡ false
not_empty xs y = ne_eqb (length (xs ++ y ∷ [])) 0 (λ z. omega (arith, z, length-append xs (y ∷ [])))

pub bound_by_conflict : (old new : Arg) (rule : Rule) (id : Bor Text) → IsArg rule old → AddsConflicts old new (id ∷ []) → IsArg (bound rule) new
bound_by_conflict old new rule id is added =
    let some : is_empty new.conflicts.items ≡ false = ap is_empty added.1 ∙ not_empty old.conflicts.items id in
    let free : is_free_arg new ≡ false = and_right (not new.exclusive) _ (and_left (is_empty new.conflicts.items) _ some) in
    record {
      rule_is = ap rule_of added.0 ∙ ap₂ (λ (r : Rule) b. record r { is_free = b }) is.rule_is (ap is_free_arg (sym added.0) ∙ free);
      local = ap (λ (a : Arg). a.global) added.0 ∙ is.local;
    }

pub bound_unless : (old new : Arg) (rule : Rule) (id : Bor Text) → IsArg rule old → AddsRequiredUnless old new (id ∷ []) → IsArg (bound rule) new
bound_unless old new rule id is added =
    let some : is_empty new.r_unless.items ≡ false = ap is_empty added.1 ∙ not_empty old.r_unless.items id in
    let last = and_left (is_empty new.r_unless.items) (is_empty new.r_unless_all.items) some in
    let most = and_right (is_empty new.needs.items) _ (and_right (is_empty new.r_ifs.items) _ (and_right (is_empty new.r_ifs_all.items) _ last)) in
    let free : is_free_arg new ≡ false = and_right (not new.exclusive) _ (and_right (is_empty new.conflicts.items) _ most) in
    record {
      rule_is = ap rule_of added.0 ∙ ap₂ (λ (r : Rule) b. record r { is_free = b }) is.rule_is (ap is_free_arg (sym added.0) ∙ free);
      local = ap (λ (a : Arg). a.global) added.0 ∙ is.local;
    }
