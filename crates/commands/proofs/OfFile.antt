-- What is printed of a file that is named in place of a folder.
use Rattle.std.proofs.Common.{◌≡◌, ◌++◌, ◌∷◌, [], ℕ, List, Option, Result, OnOk, sym, subst}
use Rattle.std.specs.Prelude.{⊤}
use Rattle.std.specs.Io.KnownBytes.{Appends}
use Rattle.std.proofs.lemmas.Result.{on_ok_weaker}
use Rattle.serde_json.specs.Data.{Items, array}
use Rattle.serde_json.specs.Written.{compact_text}
use Rattle.bits.specs.declared.refusal.Refusal.{Refusal}
use Rattle.schema.specs.Shape.{Fields}
use Rattle.dataset_words.specs.declared.call.Task.{Task}
use Rattle.dataset_words.specs.declared.call.Task.TheVariants.{Ask}
use Rattle.dataset_words.specs.declared.call.Question.{Question}
use Rattle.dataset_words.specs.declared.call.Question.TheVariants.{Query, Count, Groups, Schema}
use Rattle.jsonrows.specs.SchemaPrinted.{PrintsFields}
use Rattle.answers.specs.Querying.{IsSchemaOfFile}
use Rattle.places.specs.Places.{Known, HasEnds}
use Rattle.commands.specs.Calls.{MayBeOfFile, PrintsOfFile}

-- the columns of these bytes are printed
abbrev PrintsColumns : List ℕ → Option (List ℕ) → Option (List ℕ) → Result ⊤ Refusal → Type 0
PrintsColumns bytes before after result =
    OnOk result ((fs : Fields) × IsSchemaOfFile bytes fs × ((ds : Items) × PrintsFields fs ds × Appends before after (compact_text (array ds) ++ 10 ∷ [])))

module _ {D : Type 0} (known : Known D) (path bytes : List ℕ) (before after : Option (List ℕ)) (result : Result ⊤ Refusal) (ends : HasEnds known path bytes) where
  of_question : (question : Question) → MayBeOfFile (Ask question) → PrintsColumns bytes before after result → PrintsOfFile known path (Ask question) before after result
  of_question Schema may prints = on_ok_weaker result (λ h. (bytes, ends, (h.0, h.1, h.2.0, h.2.1, h.2.2))) prints
  of_question (Query filter columns limit) may prints = absurd may
  of_question (Count filter) may prints = absurd may
  of_question (Groups stats) may prints = absurd may

  pub of_ask : (task : Task) (question : Question) (slice : List ℕ) → task ≡ Ask question → MayBeOfFile task → slice ≡ bytes
      → PrintsColumns slice before after result → PrintsOfFile known path task before after result
  of_ask task question slice is may same prints =
      subst (λ (t : Task). PrintsOfFile known path t before after result) (sym is)
      (of_question question (subst MayBeOfFile is may) (subst (λ (b : List ℕ). PrintsColumns b before after result) same prints))
