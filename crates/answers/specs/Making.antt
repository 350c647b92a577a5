-- What a command makes of a store.
use Rattle.std.specs.Prelude.{◌≡◌, ℕ, Bool, List, [], map, Option, Some, None, option_map, Result, Ok, Err, OnOk}
use Rattle.std.specs.Borrow.{Bor}
use Rattle.std.specs.Str.Lines.{lines}
use Rattle.std.specs.Io.KnownBytes.{Appends}
use Rattle.bits.specs.declared.refusal.Refusal.{Refusal}
use Rattle.schema.specs.Shape.{Fields}
use Rattle.schema.specs.Stripe.{Leaf, leaves_of}
use Rattle.schema.specs.Listed.{listings}
use Rattle.filter.specs.Terms.{Term}
use Rattle.disk.specs.State.{State as DiskState}
use Rattle.table.specs.State.{State}
use Rattle.table.specs.Calls.{Call, remove, begin_rewrite, commit, plan_rewrite, add_column, done, job, planned, refused as refused_answer}
use Rattle.table.specs.Views.{answered, answer_view}
use Rattle.table.specs.declared.answer.Answer.{Answer}
use Rattle.jsonrows.specs.Filters.{IsFilterTextAs, IsRefusedFilterAs}
use Rattle.jsonrows.specs.SchemaJson.{IsSchemaText}
use Rattle.table_state.specs.declared.standing.Core.{Core}
use Rattle.table_state.specs.Stands.{Stands}
use Rattle.table_state.specs.Promises.{ActsFrom}
use Rattle.store.specs.Running.{RunsFrom}
use Rattle.answers.specs.Lines.{AreCallTexts, AreRefusedCalls, AreAnswerLines}

-- ---- filters

-- a text that is lent, if there is one
abbrev pub lent_text : Option (Bor (List ℕ)) → Option (List ℕ)
lent_text text = option_map (λ t. t.now) text

-- the filter that a command is given, with texts of dates, times, timestamps and decimals or without; none is the empty one
abbrev pub IsAskedFilter : Bool → List Leaf → Option (List ℕ) → List (List Term) → Type 0
IsAskedFilter texts leaves (Some text) ands = IsFilterTextAs texts leaves text ands
IsAskedFilter texts leaves None ands = ands ≡ []

-- why the filter that a command is given is refused; where none is given, it is not
abbrev pub IsRefusedFilterOf : Bool → List Leaf → Option (List ℕ) → Refusal → Type 0
IsRefusedFilterOf texts leaves (Some text) e = IsRefusedFilterAs texts leaves text e
IsRefusedFilterOf texts leaves None e = ⊥

-- ---- one call

-- From the one state: the store makes a call that was asked for, and its answer is the result; or what was asked for is
-- refused, and the store is as it was.
pub data MakesFrom {D : Type 0} (state : D → DiskState) (old new : Core D) (IsAsked : Fields → Call → Type 0) (IsRefused : Fields → Refusal → Type 0)
    (result : Result ℕ Refusal) (s : State) : Type 0 where
  made : (call : Call) → IsAsked s.table.schema call → ActsFrom state old new call (answered done result) s → MakesFrom state old new IsAsked IsRefused result s
  not_made : (e : Refusal) → IsRefused s.table.schema e → result ≡ Err e → new ≡ old → MakesFrom state old new IsAsked IsRefused result s

-- on an honest disk, from each state that the store stands in
abbrev pub Makes : {D : Type 0} → (D → DiskState) → Core D → Core D → (Fields → Call → Type 0) → (Fields → Refusal → Type 0) → Result ℕ Refusal → Type 0
Makes state old new IsAsked IsRefused result = (state old.vault.disk).honest → (s : State) → Stands state old s → MakesFrom state old new IsAsked IsRefused result s

-- the rows that satisfy the filter of a text are to be removed
abbrev pub AsksRemove : Bool → List ℕ → Fields → Call → Type 0
AsksRemove texts text fs call = (ands : List (List Term)) × IsFilterTextAs texts (leaves_of fs) text ands × (call ≡ remove ands)

-- the columns of a text are to be added (the store takes one alone)
abbrev pub AsksColumn : List ℕ → Fields → Call → Type 0
AsksColumn text fs call = (columns : Fields) × IsSchemaText text columns × (call ≡ add_column (listings columns))

-- ---- rewrites

-- From the one state: the store opens a rewrite of these groups, and commits it; or is refused one of these; or no groups are
-- named, and nothing is done.
pub data RewritesFrom {D : Type 0} (state : D → DiskState) (old new : Core D) (numbers : List ℕ) (result : Result ℕ Refusal) (s : State) : Type 0 where
  none_named : numbers ≡ [] → result ≡ Ok 0 → new ≡ old → RewritesFrom state old new numbers result s
  not_begun : (e : Refusal) → result ≡ Err e → ActsFrom state old new (begin_rewrite numbers) (refused_answer e) s → RewritesFrom state old new numbers result s
  begun : (mid : Core D) (n : ℕ) (first : ActsFrom state old mid (begin_rewrite numbers) (job n) s)
      → ActsFrom state mid new (commit n) (answered done result) first.after
      → RewritesFrom state old new numbers result s

-- on an honest disk, from each state that the store stands in: the groups of these numbers are rewritten, or the rewrite is refused
abbrev pub Rewrites : {D : Type 0} → (D → DiskState) → Core D → Core D → List ℕ → Result ℕ Refusal → Type 0
Rewrites state old new numbers result = (state old.vault.disk).honest → (s : State) → Stands state old s → RewritesFrom state old new numbers result s

-- From the one state: the store plans which groups to rewrite, and rewrites them; or is refused the plan, and is as it was.
pub data RewritesPlannedFrom {D : Type 0} (state : D → DiskState) (old new : Core D) (min_rows : ℕ) (result : Result ℕ Refusal) (s : State) : Type 0 where
  not_planned : (e : Refusal) → result ≡ Err e → new ≡ old → ActsFrom state old old (plan_rewrite min_rows) (refused_answer e) s
      → RewritesPlannedFrom state old new min_rows result s
  planned_so : (numbers : List ℕ) → ActsFrom state old old (plan_rewrite min_rows) (planned numbers) s → RewritesFrom state old new numbers result s
      → RewritesPlannedFrom state old new min_rows result s

-- on an honest disk, from each state that the store stands in: the groups that the store plans are rewritten, or that is refused
abbrev pub RewritesPlanned : {D : Type 0} → (D → DiskState) → Core D → Core D → ℕ → Result ℕ Refusal → Type 0
RewritesPlanned state old new min_rows result = (state old.vault.disk).honest → (s : State) → Stands state old s
    → RewritesPlannedFrom state old new min_rows result s

-- ---- scripts

-- From the one state: the store makes the calls of a text, one of each line; and where the result is Ok a writer got the lines of
-- their answers, over the schema that the table has then. Or the text is refused, and the store and the writer are as they were.
pub data RunsScriptFrom {D T : Type 0} (state : D → DiskState) (texts : Bool) (old new : Core D) (text : List ℕ) (before after : Option (List ℕ)) (result : Result T Refusal)
    (s : State) : Type 0 where
  ran : (calls : List Call) (last : Fields) (answers : List Answer) → AreCallTexts texts s.table.schema (lines text) calls last
      → (runs : RunsFrom state old new calls (map answer_view answers) s)
      → OnOk result ((printed : List ℕ) × AreAnswerLines texts runs.after.table.schema answers printed × Appends before after printed)
      → RunsScriptFrom state texts old new text before after result s
  not_run : (e : Refusal) → AreRefusedCalls texts s.table.schema (lines text) e → result ≡ Err e → new ≡ old → after ≡ before
      → RunsScriptFrom state texts old new text before after result s

-- on an honest disk, from each state that the store stands in: the calls of a text are made and their answers printed, or it is refused
abbrev pub RunsScript : {D T : Type 0} → (D → DiskState) → Bool → Core D → Core D → List ℕ → Option (List ℕ) → Option (List ℕ) → Result T Refusal → Type 0
RunsScript state texts old new text before after result = (state old.vault.disk).honest → (s : State) → Stands state old s
    → RunsScriptFrom state texts old new text before after result s
