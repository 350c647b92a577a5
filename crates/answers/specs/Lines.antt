-- The lines of a text as calls, and the lines that are printed of answers and of groups: with texts of dates, times, timestamps and
-- decimals, or without.
use Rattle.std.specs.Prelude.{◌≡◌, ℕ, Bool, List, [], ◌∷◌, ◌++◌, Result, Ok}
use Rattle.serde_json.specs.Data.{Data}
use Rattle.serde_json.specs.Written.{compact_text}
use Rattle.bits.specs.declared.refusal.Refusal.{Refusal}
use Rattle.bits.specs.Refusals.{HasCause}
use Rattle.schema.specs.Shape.{Fields}
use Rattle.table.specs.Calls.{Call}
use Rattle.table.specs.declared.answer.Answer.{Answer}
use Rattle.table.specs.declared.answer.GroupInfo.{GroupInfo}
use Rattle.jsonrows.specs.Calls.{IsCallTextAs, IsRefusedCallAs}
use Rattle.jsonrows.specs.Scripts.{IsAfter}
use Rattle.jsonrows.specs.Answers.{answer_json_as, group_json}

-- ---- calls

-- each line is a call over the schema that the table has by then, in their order; the schema at last
abbrev pub AreCallTexts : Bool → Fields → List (List ℕ) → List Call → Fields → Type 0
AreCallTexts texts fs [] [] last = fs ≡ last
AreCallTexts texts fs (line ∷ lines) (call ∷ calls) last =
    IsCallTextAs texts fs line call × ((next : Fields) × IsAfter call fs next × AreCallTexts texts next lines calls last)
AreCallTexts texts fs _ _ last = ⊥

-- a line is refused so, and those before it are calls
pub record HasFirstFaultOfCalls (texts : Bool) (fs : Fields) (lines : List (List ℕ)) (e : Refusal) : Type 0 where
  pub before : List (List ℕ)
  pub text : List ℕ
  pub after : List (List ℕ)
  pub calls : List Call
  pub schema : Fields
  pub joined : lines ≡ before ++ text ∷ after
  pub read : AreCallTexts texts fs before calls schema
  pub refused : IsRefusedCallAs texts schema text e

-- lines are refused so: for the first that is no call, or out of memory
abbrev pub AreRefusedCalls : Bool → Fields → List (List ℕ) → Refusal → Type 0
AreRefusedCalls texts fs lines e = HasCause (HasFirstFaultOfCalls texts fs lines) e

-- ---- what is printed

-- these are the lines of some things, each with its line feed: the JSON of what is shown of each
abbrev pub AreShownLines : {A : Type 0} → (A → Result Data Refusal) → List A → List ℕ → Type 0
AreShownLines shown [] text = text ≡ []
AreShownLines shown (x ∷ xs) text = (d : Data) × (rest : List ℕ) × (shown x ≡ Ok d) × (text ≡ (compact_text d ++ 10 ∷ []) ++ rest) × AreShownLines shown xs rest

-- the lines of answers over a schema
abbrev pub AreAnswerLines : Bool → Fields → List Answer → List ℕ → Type 0
AreAnswerLines texts fs answers text = AreShownLines (answer_json_as texts fs) answers text

-- the lines of groups, each what the store tells of it
abbrev pub AreGroupLines : List GroupInfo → List ℕ → Type 0
AreGroupLines groups text = AreShownLines group_json groups text
