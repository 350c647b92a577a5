-- Scripts that end at the first call that is refused.
use Rattle.std.specs.Prelude.{◌≡◌, ◌<◌, ◌-◌, ◌⊎◌, ℕ, Bool, true, false, List, [], ◌∷◌, ◌++◌, length, map, take}
use Rattle.std.specs.Prelude.{Option, Some, None, Result, Err, IfOk}
use Rattle.std.specs.List.{AllByRecursion}
use Rattle.std.specs.Str.Lines.{lines}
use Rattle.std.specs.Io.KnownBytes.{Appends}
use Rattle.bits.specs.declared.refusal.Refusal.{Refusal}
use Rattle.bits.specs.declared.refusal.Refusal.TheVariants.{Memory}
use Rattle.schema.specs.Shape.{Fields}
use Rattle.disk.specs.State.{State as DiskState}
use Rattle.table.specs.State.{State}
use Rattle.table.specs.Calls.{Call, Answer, refused}
use Rattle.table.specs.Views.{answer_view}
use Rattle.table.specs.declared.answer.Answer.{Answer as CodeAnswer}
use Rattle.table_state.specs.declared.standing.Core.{Core}
use Rattle.table_state.specs.Stands.{Stands}
use Rattle.store.specs.Running.{RunsFrom}
use Rattle.answers.specs.Lines.{AreCallTexts, AreRefusedCalls, AreAnswerLines}
use Rattle.commands.specs.declared.stopping.Stop.{Stop}

-- whether an answer is not a refusal
abbrev pub is_done : Answer → Bool
is_done (refused e) = false
is_done _ = true

-- none of these answers is a refusal
abbrev pub AreDone : List Answer → Type 0
AreDone answers = AllByRecursion (λ answer. is_done answer ≡ true) answers

-- each of these answers but the last is no refusal
abbrev pub EndAtRefusal : List CodeAnswer → Type 0
EndAtRefusal answers = AreDone (map answer_view (take (length answers - 1) answers))

-- Where a script of so many calls stopped, by the answers of the calls that were made. Nowhere: all were made, and none was refused.
-- Or at the first that was refused, which is the last; or before one for which memory ran out.
abbrev pub StopsAt : ℕ → List Answer → Option Stop → Type 0
StopsAt calls answers None = (length answers ≡ calls) × AreDone answers
StopsAt calls answers (Some stop) = (done : List Answer) × AreDone done × (stop.made ≡ length done) × (stop.calls ≡ calls)
    × ((answers ≡ done ++ refused stop.refusal ∷ []) ⊎ ((answers ≡ done) × (stop.refusal ≡ Memory) × (length done < calls)))

-- From the one state the store makes the first of these calls, up to and with the first that is refused.
pub record MakesToRefusalFrom {D : Type 0} (state : D → DiskState) (old new : Core D) (calls : List Call) (answers : List Answer) (s : State) : Type 0 where
  pub made : List Call
  pub left : List Call
  pub joined : calls ≡ made ++ left
  pub runs : RunsFrom state old new made answers s

-- on an honest disk, from each state that the store stands in
abbrev pub MakesToRefusal : {D : Type 0} → (D → DiskState) → Core D → Core D → List Call → List Answer → Type 0
MakesToRefusal state old new calls answers = (state old.vault.disk).honest → (s : State) → Stands state old s
    → MakesToRefusalFrom state old new calls answers s

-- From the one state: the store makes the first calls of a text, one of each line, with the answers of a history of the table, none
-- after one that is refused. Where the result is Ok it says where they stopped, and a writer got the lines of the answers, over the
-- schema that the table has then. Or the text is refused, and the store and the writer are as they were.
pub data RunsToRefusalFrom {D : Type 0} (state : D → DiskState) (texts : Bool)
    (old new : Core D) (text : List ℕ) (before after : Option (List ℕ)) (result : Result (Option Stop) Refusal) (s : State) : Type 0 where
  ran_to : (made left : List Call) (last : Fields) (answers : List CodeAnswer) → AreCallTexts texts s.table.schema (lines text) (made ++ left) last
      → (runs : RunsFrom state old new made (map answer_view answers) s) → EndAtRefusal answers
      → IfOk result (λ stop. StopsAt (length (made ++ left)) (map answer_view answers) stop × ((printed : List ℕ)
      × AreAnswerLines texts runs.after.table.schema answers printed × Appends before after printed))
      → RunsToRefusalFrom state texts old new text before after result s
  not_ran : (e : Refusal) → AreRefusedCalls texts s.table.schema (lines text) e → result ≡ Err e → new ≡ old → after ≡ before
      → RunsToRefusalFrom state texts old new text before after result s

-- on an honest disk, from each state that the store stands in: the calls of a text are made up to the first that is refused, and their
-- answers printed, or the text is refused
abbrev pub RunsToRefusal : {D : Type 0} → (D → DiskState) → Bool → Core D → Core D → List ℕ → Option (List ℕ) → Option (List ℕ)
    → Result (Option Stop) Refusal → Type 0
RunsToRefusal state texts old new text before after result = (state old.vault.disk).honest → (s : State) → Stands state old s
    → RunsToRefusalFrom state texts old new text before after result s
