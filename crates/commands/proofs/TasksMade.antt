-- What the tasks on a store need of the clauses of the calls that they make.
use Rattle.std.proofs.Common.{◌≡◌, ◌≤◌, ◌<◌, ◌∙◌, ℕ, Bool, List, [], ◌∷◌, map, length, Option, Some, None, Result, Ok, Err, refl, ap, subst, arith}
use Rattle.std.proofs.lemmas.List.{length-map}
use Rattle.std.specs.Prelude.{String, string_bytes, slice_index_or, Vec}
use Rattle.std.specs.Borrow.{Bor}
use Rattle.std.specs.declared.alloc.Global.{Global}
use Rattle.std.specs.Io.KnownBytes.{Keeps, Appends}
use Rattle.bits.specs.declared.refusal.Refusal.{Refusal}
use Rattle.bits.specs.declared.refusal.Refusal.TheVariants.{Memory}
use Rattle.disk.specs.State.{State as DiskState}
use Rattle.table.specs.Table.{Table}
use Rattle.table.specs.Deciding.{Filter}
use Rattle.table.specs.State.{State}
use Rattle.table.specs.Views.{names_view}
use Rattle.table_state.specs.declared.standing.Core.{Core}
use Rattle.answers.specs.Importing.{files_view}
use Rattle.answers.specs.Making.{RunsScript, RunsScriptFrom, ran, not_run}
use Rattle.answers.specs.Querying.{Reads, read, not_read}
use Rattle.commands.specs.Stopping.{RunsToRefusal, RunsToRefusalFrom, ran_to, not_ran}
use Rattle.commands.specs.Tasks.{columns_named, first_file, MakesAsked, ImportsAsked, ImportsSeveral}
use Rattle.answers.specs.Unless.{AsksImport}
use Rattle.commands.specs.declared.stopping.Stop.{Stop}
use Rattle.answers.proofs.OkThen.{ok_always}

-- ---- questions

-- where memory runs out before anything is read, the store was only read
pub out_of_memory : {D T : Type 0} (state : D → DiskState) (texts : Bool) (old : Core D) (asked : Option (List ℕ)) (Prints : Filter → Table → Type 0) (Unchanged : Type 0)
    → Unchanged → Reads {D = D} {T = T} state texts old old asked Prints Unchanged (Err Memory)
out_of_memory state texts old (Some text) Prints Unchanged same = λ honest s stands. not_read Memory tt refl refl same
out_of_memory state texts old None Prints Unchanged same = λ honest s stands. read [] refl (record { calls = []; answers = []; last = s; acts = (refl, refl); read = refl }) tt

-- the columns that a query is asked for are those of the names
pub named_so : (wanted : Option (Bor (List (String Global)))) (slice items : List (String Global)) (names : List (List ℕ))
    → names_view wanted ≡ columns_named (map string_bytes slice) → slice ≡ items → map string_bytes items ≡ names → names_view wanted ≡ columns_named names
named_so wanted slice items names are same told = are ∙ ap (λ xs. columns_named (map string_bytes xs)) same ∙ ap columns_named told

-- ---- files

-- as many are seen as there are
pub viewed : (files : List (Vec ℕ Global)) → length (files_view files) ≡ length files
viewed files = length-map files (λ (file : Vec ℕ Global). file.items)

-- the bytes at the first place are those of the first file
pub first_at : (files : List (List ℕ)) → slice_index_or files 0 [] ≡ first_file files
first_at [] = refl
first_at (file ∷ files) = refl

module _ {D : Type 0} (state : D → DiskState) (texts : Bool) (old new : Core D) (unless : Option (List ℕ)) (result : Result ℕ Refusal) where
  -- one file, or none
  pub one_imported : (files : List (List ℕ)) → length files ≤ 1 → MakesAsked state texts old new unless (AsksImport (first_file files)) (λ fs e. ⊥) result
      → ImportsAsked state texts old new unless files result
  one_imported [] few made = made
  one_imported (file ∷ []) few made = made
  one_imported (file ∷ other ∷ files) few made = absurd (omega (arith, few))

  -- several
  pub several_imported : (files : List (List ℕ)) → 1 < length files → ImportsSeveral state texts old new unless files result → ImportsAsked state texts old new unless files result
  several_imported [] many made = absurd (omega (arith, many))
  several_imported (file ∷ []) many made = absurd (omega (arith, many))
  several_imported (file ∷ other ∷ files) many made = made

-- ---- scripts

-- what was printed stays when it is passed on
pub appends_kept : (a b c : Option (List ℕ)) (bs : List ℕ) → Appends a b bs → Keeps b c → Appends a c bs
appends_kept None b c bs grown kept = tt
appends_kept (Some x) None c bs grown kept = absurd grown
appends_kept (Some x) (Some y) None bs grown kept = absurd kept
appends_kept (Some x) (Some y) (Some z) bs grown kept = kept ∙ grown

-- the calls of a text are those of the bytes that it is
pub run_of : {D T : Type 0} (state : D → DiskState) (texts : Bool) (old new : Core D) (text bytes : List ℕ) (before after : Option (List ℕ)) (result : Result T Refusal)
    → text ≡ bytes → RunsScript state texts old new text before after result → RunsScript state texts old new bytes before after result
run_of {T = T} state texts old new text bytes before after result same runs =
    subst (λ (t : List ℕ). RunsScript {T = T} state texts old new t before after result) same runs

module _ {D : Type 0} (state : D → DiskState) (texts : Bool) (old new : Core D) (text : List ℕ) (before mid after : Option (List ℕ)) (kept : Keeps mid after) where
  -- a script was run, and all that it printed is passed on, or that is refused
  pub run_on : {S T : Type 0} {x : S} (result : Result T Refusal) (own : List ℕ) → own ≡ text → RunsScript state texts old new own before mid (Ok x)
      → RunsScript state texts old new text before after result
  run_on {S = S} {x = x} result own same runs = λ honest s stands. by s (run_of {T = S} state texts old new own text before mid (Ok x) same runs honest s stands)
    where
      by : (s : State) → RunsScriptFrom {T = S} state texts old new text before mid (Ok x) s → RunsScriptFrom state texts old new text before after result s
      by s (ran calls last answers are made printed) = ran calls last answers are made (ok_always result (printed.0, printed.1, appends_kept before mid after printed.0 printed.2 kept))
      by s (not_run e why is same unchanged) = absurd (cc)

  -- the same of one that may have stopped
  pub stop_on : (x : Option Stop) → RunsToRefusal state texts old new text before mid (Ok x) → RunsToRefusal state texts old new text before after (Ok x)
  stop_on x runs = λ honest s stands. by s (runs honest s stands)
    where
      by : (s : State) → RunsToRefusalFrom state texts old new text before mid (Ok x) s → RunsToRefusalFrom state texts old new text before after (Ok x) s
      by s (ran_to calls left last answers are made ends stops) =
          ran_to calls left last answers are made ends (stops.0, (stops.1.0, stops.1.1, appends_kept before mid after stops.1.0 stops.1.2 kept))
      by s (not_ran e why is same unchanged) = absurd (cc)

  pub stop_unprinted : (x : Option Stop) (e : Refusal) → RunsToRefusal state texts old new text before mid (Ok x) → RunsToRefusal state texts old new text before after (Err e)
  stop_unprinted x e runs = λ honest s stands. by s (runs honest s stands)
    where
      by : (s : State) → RunsToRefusalFrom state texts old new text before mid (Ok x) s → RunsToRefusalFrom state texts old new text before after (Err e) s
      by s (ran_to calls left last answers are made ends stops) = ran_to calls left last answers are made ends tt
      by s (not_ran f why is same unchanged) = absurd (cc)
