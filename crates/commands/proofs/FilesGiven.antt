-- What a call gives a sink, by what comes of its parts.
use Rattle.std.proofs.Common.{◌≡◌, ◌≢◌, inr, ℕ, List, [], ◌∷◌, Option, Some, None, Ok, subst}
use Rattle.std.specs.Prelude.{length}
use Rattle.bits.specs.declared.refusal.Refusal.{Refusal}
use Rattle.bits.specs.declared.refusal.Refusal.TheVariants.{Script}
use Rattle.disk.specs.State.{State as DiskState}
use Rattle.dataset_words.specs.declared.call.Call.{Call}
use Rattle.places.specs.Places.{Known}
use Rattle.commands.specs.Calls.{GivesCall, GivesNoFile}

module _ {D S : Type 0} {state : D → DiskState} {old new : Known D} {call : Call} (was files : List (List ℕ)) (none : was ≡ [])
    (gives : GivesCall S state old new call None (Some was) (Some files) (Ok tt)) where
  -- a sink that had no file
  from_none : GivesCall S state old new call None (Some []) (Some files) (Ok tt)
  from_none = subst (λ (had : List (List ℕ)). GivesCall S state old new call None (Some had) (Some files) (Ok tt)) none gives

  -- then has the one file
  pub one_given : (file : List ℕ) → files ≡ file ∷ [] → (most : Option ℕ) × GivesCall S state old new call most (Some []) (Some (file ∷ [])) (Ok tt)
  one_given file only = (None, subst (λ (has : List (List ℕ)). GivesCall S state old new call None (Some []) (Some has) (Ok tt)) only from_none)

  -- or not one
  pub not_one_given : (e : Refusal) → (length files ≢ 1) × (e ≡ Script) → GivesNoFile S state old new call e
  not_one_given e other = inr (files, from_none, other.0, other.1)
