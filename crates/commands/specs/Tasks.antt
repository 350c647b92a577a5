-- What comes of a task on a store: what a question prints, what a change makes, and what a script does.
use Rattle.std.specs.Prelude.{◌≡◌, ℕ, Bool, true, false, List, [], ◌∷◌, ◌++◌, codes, decimal, map}
use Rattle.std.specs.Prelude.{Option, Some, None, Result, Ok, Err, OnOk, IsOk, IsUtf8}
use Rattle.std.specs.Borrow.{Bor}
use Rattle.std.specs.Io.KnownBytes.{Appends}
use Rattle.serde_json.specs.Data.{Items, array}
use Rattle.serde_json.specs.Written.{compact_text}
use Rattle.bits.specs.declared.refusal.Refusal.{Refusal}
use Rattle.bits.specs.declared.refusal.Refusal.TheVariants.{Script, Memory}
use Rattle.schema.specs.Shape.{Fields}
use Rattle.schema.specs.Stripe.{leaves_of}
use Rattle.footer.specs.declared.options.WriteOptions.{WriteOptions}
use Rattle.dataset_words.specs.declared.call.Question.{Question}
use Rattle.dataset_words.specs.declared.call.Question.TheVariants.{Query, Count, Groups, Schema}
use Rattle.dataset_words.specs.declared.call.Change.{Change}
use Rattle.dataset_words.specs.declared.call.Change.TheVariants.{Append, Import, AddColumn, Remove, RemoveGroups, Rewrite, RewriteSmall, RewriteAll}
use Rattle.disk.specs.State.{State as DiskState}
use Rattle.table.specs.Table.{Table}
use Rattle.table.specs.Deciding.{Filter}
use Rattle.table.specs.Cursors.{Columns}
use Rattle.table.specs.Plans.{row_count}
use Rattle.table.specs.State.{State}
use Rattle.table.specs.Calls.{Call, remove_groups, done}
use Rattle.table.specs.Views.{answered}
use Rattle.jsonrows.specs.Filters.{IsRefusedFilterAs}
use Rattle.jsonrows.specs.SchemaJson.{IsRefusedSchema}
use Rattle.jsonrows.specs.SchemaPrinted.{PrintsFields}
use Rattle.table_state.specs.declared.standing.Core.{Core}
use Rattle.table_state.specs.Stands.{Stands}
use Rattle.table_state.specs.Promises.{Acts}
use Rattle.answers.specs.Making.{lent_text, Makes, AsksRemove, AsksColumn, Rewrites, RewritesPlanned, RunsScript}
use Rattle.answers.specs.Querying.{Reads, query_lines, ListsGroups}
use Rattle.answers.specs.GroupColumns.{ListsColumns}
use Rattle.answers.specs.First.{first_lines}
use Rattle.answers.specs.QueryFile.{GotQueryFiles}
use Rattle.answers.specs.Kept.{IsRestyled, StaysOpened}
use Rattle.answers.specs.Importing.{ImportsFiles, ImportsUnless}
use Rattle.answers.specs.Renewing.{RewritesAllGroups}
use Rattle.commands.specs.Stopping.{RunsToRefusal}
use Rattle.answers.specs.Unless.{MakesUnless, AsksImport}
use Rattle.commands.specs.declared.stopping.Stop.{Stop}

-- What comes of bytes that are a text. Bytes that are none are refused Script, and all is as it was.
pub record IfText {T : Type 0} (bytes : List ℕ) (Comes Unchanged : Type 0) (result : Result T Refusal) : Type 0 where
  pub text : IsUtf8 bytes → Comes
  pub no_text : (IsUtf8 bytes → ⊥) → (result ≡ Err Script) × Unchanged

-- the texts that are lent, in their order
abbrev pub lent_texts : List (Bor (List ℕ)) → List (List ℕ)
lent_texts texts = map (λ (t : Bor (List ℕ)). t.now) texts

-- ---- questions

-- the columns of these names, in their order; of no names, all
abbrev pub columns_named : List (List ℕ) → Columns
columns_named [] = None
columns_named (name ∷ names) = Some (name ∷ names)

-- the lines of the rows of a table that satisfy, in table order, or of the first so many of them: objects of the wanted columns
abbrev pub asked_lines : Bool → Option ℕ → Filter → Columns → Table → List ℕ
asked_lines texts None terms columns t = query_lines texts terms columns t
asked_lines texts (Some limit) terms columns t = first_lines texts limit terms columns t

-- the lines of a query are printed, and the store is only read
abbrev pub PrintsQuery : {D T : Type 0} → (D → DiskState) → Bool → Core D → Core D → Option (List ℕ) → Columns → Option ℕ → Option (List ℕ) → Option (List ℕ)
    → Result T Refusal → Type 0
PrintsQuery state texts old new asked columns limit before after result =
    Reads state texts old new asked (λ terms table. Appends before after (asked_lines texts limit terms columns table)) (after ≡ before) result

-- it is printed how many rows satisfy, and the store is only read
abbrev pub PrintsCount : {D T : Type 0} → (D → DiskState) → Bool → Core D → Core D → Option (List ℕ) → Option (List ℕ) → Option (List ℕ)
    → Result T Refusal → Type 0
PrintsCount state texts old new asked before after result =
    Reads state texts old new asked (λ terms table. Appends before after (decimal (row_count terms table) ++ codes "\n")) (after ≡ before) result

-- the groups are printed, with what is known of their columns or without, and the store is as it was
abbrev pub PrintsGroups : {D T : Type 0} → (D → DiskState) → Bool → Bool → Core D → Core D → Option (List ℕ) → Option (List ℕ) → Result T Refusal → Type 0
PrintsGroups state texts true old new before after result = ListsColumns state texts old before after result × (new ≡ old)
PrintsGroups state texts false old new before after result = ListsGroups state old before after result × (new ≡ old)

-- the schema is printed, and the store is as it was
abbrev pub PrintsSchema : {D T : Type 0} → (D → DiskState) → Core D → Core D → Option (List ℕ) → Option (List ℕ) → Result T Refusal → Type 0
PrintsSchema state old new before after result = ((s : State) → Stands state old s
    → OnOk result ((ds : Items) × PrintsFields s.table.schema ds × Appends before after (compact_text (array ds) ++ 10 ∷ []))) × (new ≡ old)

-- what a question asks for is printed
abbrev pub PrintsAnswer : {D T : Type 0} → (D → DiskState) → Bool → Core D → Core D → Question → Option (List ℕ) → Option (List ℕ) → Result T Refusal → Type 0
PrintsAnswer state texts old new (Query filter columns limit) before after result =
    PrintsQuery state texts old new (lent_text filter) (columns_named (lent_texts columns.items)) limit before after result
PrintsAnswer state texts old new (Count filter) before after result = PrintsCount state texts old new (lent_text filter) before after result
PrintsAnswer state texts old new (Groups stats) before after result = PrintsGroups state texts stats old new before after result
PrintsAnswer state texts old new Schema before after result = PrintsSchema state old new before after result

-- a sink gets files of the rows that a query asks for, and the store is only read
abbrev pub GivesQuery : {D T : Type 0} → (D → DiskState) → Bool → Core D → Core D → Option (List ℕ) → Columns → Option ℕ → WriteOptions → Option ℕ
    → Option (List (List ℕ)) → Option (List (List ℕ)) → Result T Refusal → Type 0
GivesQuery state texts old new asked columns limit options most was is result =
    Reads state texts old new asked (λ terms table. GotQueryFiles options terms columns limit most table was is) (is ≡ was) result

-- A sink gets files of what a question asks for. Only a query has files; another question is refused Script, and all is as it was.
abbrev pub GivesAnswer : {D T : Type 0} → (D → DiskState) → Bool → Core D → Core D → Question → WriteOptions → Option ℕ
    → Option (List (List ℕ)) → Option (List (List ℕ)) → Result T Refusal → Type 0
GivesAnswer state texts old new (Query filter columns limit) options most was is result =
    GivesQuery state texts old new (lent_text filter) (columns_named (lent_texts columns.items)) limit options most was is result
GivesAnswer state texts old new _ options most was is result = (result ≡ Err Script) × (new ≡ old) × (is ≡ was)

-- ---- changes

-- the bytes of the first of some files; none where there is no file
abbrev pub first_file : List (List ℕ) → List ℕ
first_file [] = []
first_file (file ∷ files) = file

-- a call that is asked for is made, or is refused; where a filter is given, unless some row satisfies it
abbrev pub MakesAsked : {D : Type 0} → (D → DiskState) → Bool → Core D → Core D → Option (List ℕ) → (Fields → Call → Type 0) → (Fields → Refusal → Type 0)
    → Result ℕ Refusal → Type 0
MakesAsked state texts old new None IsAsked IsRefused result = Makes state old new IsAsked IsRefused result
MakesAsked state texts old new (Some text) IsAsked IsRefused result = MakesUnless state texts old new text IsAsked IsRefused result

-- the column of bytes comes in
abbrev pub AddsColumn : {D : Type 0} → (D → DiskState) → Core D → Core D → List ℕ → Result ℕ Refusal → Type 0
AddsColumn state old new bytes result = IfText bytes (Makes state old new (AsksColumn bytes) (λ fs. IsRefusedSchema bytes) result) (new ≡ old) result

-- files come in by one append; where a filter is given, unless some row satisfies it
abbrev pub ImportsSeveral : {D : Type 0} → (D → DiskState) → Bool → Core D → Core D → Option (List ℕ) → List (List ℕ) → Result ℕ Refusal → Type 0
ImportsSeveral state texts old new None files result = ImportsFiles state old new files result
ImportsSeveral state texts old new (Some text) files result = ImportsUnless state texts old new text files result

-- a single file comes in by one call, several by one append
abbrev pub ImportsAsked : {D : Type 0} → (D → DiskState) → Bool → Core D → Core D → Option (List ℕ) → List (List ℕ) → Result ℕ Refusal → Type 0
ImportsAsked state texts old new unless [] result = MakesAsked state texts old new unless (AsksImport []) (λ fs e. ⊥) result
ImportsAsked state texts old new unless (file ∷ []) result = MakesAsked state texts old new unless (AsksImport file) (λ fs e. ⊥) result
ImportsAsked state texts old new unless (file ∷ other ∷ files) result = ImportsSeveral state texts old new unless (file ∷ other ∷ files) result

-- What a change asks for is made, with the bytes of the files that it names. Of an append nothing is: its rows come in by themselves,
-- as `AppendsRows` says.
abbrev pub MakesChange : {D : Type 0} → (D → DiskState) → Bool → Core D → Core D → Change → List (List ℕ) → Result ℕ Refusal → Type 0
MakesChange state texts old new (Append path unless) files result = (result ≡ Ok 0) × (new ≡ old)
MakesChange state texts old new (Import paths unless) files result = ImportsAsked state texts old new (lent_text unless) files result
MakesChange state texts old new (AddColumn path) files result = AddsColumn state old new (first_file files) result
MakesChange state texts old new (Remove filter) files result =
    Makes state old new (AsksRemove texts filter.now) (λ fs. IsRefusedFilterAs texts (leaves_of fs) filter.now) result
MakesChange state texts old new (RemoveGroups numbers) files result = Acts state old new (remove_groups numbers.items) (answered done result)
MakesChange state texts old new (Rewrite numbers) files result = Rewrites state old new numbers.items result
MakesChange state texts old new (RewriteSmall min_rows) files result = RewritesPlanned state old new min_rows result
MakesChange state texts old new RewriteAll files result = RewritesAllGroups state old new result

-- What a change asks for is made of the store as it is; or, where it keeps the style, of the store with another style. Or memory ran
-- out before, and all is as it was.
pub data MakesInStyle {D : Type 0} (state : D → DiskState) (keeps texts : Bool) (old new : Core D)
    (change : Change) (files : List (List ℕ)) (result : Result ℕ Refusal) : Type 0 where
  in_style : (begun : Core D) → IsRestyled old begun → StaysOpened state old begun → (keeps ≡ false → begun ≡ old)
      → MakesChange state texts begun new change files result → MakesInStyle state keeps texts old new change files result
  no_style : result ≡ Err Memory → new ≡ old → MakesInStyle state keeps texts old new change files result

-- ---- scripts

-- the calls of bytes that are a text are made, and their answers are printed
abbrev pub RunsBytes : {D T : Type 0} → (D → DiskState) → Bool → Core D → Core D → List ℕ → Option (List ℕ) → Option (List ℕ) → Result T Refusal → Type 0
RunsBytes state texts old new bytes before after result =
    IfText bytes (RunsScript state texts old new bytes before after result) ((new ≡ old) × (after ≡ before)) result

-- the calls of bytes that are a text are made up to the first that is refused, and their answers are printed
abbrev pub StopsInBytes : {D : Type 0} → (D → DiskState) → Bool → Core D → Core D → List ℕ → Option (List ℕ) → Option (List ℕ)
    → Result (Option Stop) Refusal → Type 0
StopsInBytes state texts old new bytes before after result =
    IfText bytes (RunsToRefusal state texts old new bytes before after result) ((new ≡ old) × (after ≡ before)) result

-- what is returned of a script that may stop: Ok where it did not, and the refusal at which it did
abbrev pub IsEndOf : {T : Type 0} → Result (Option Stop) Refusal → Result T Refusal → Type 0
IsEndOf (Ok None) result = IsOk result
IsEndOf (Ok (Some stop)) result = result ≡ Err stop.refusal
IsEndOf (Err e) result = result ≡ Err e

-- the calls of bytes that are a text are made up to the first that is refused, which is what is returned
abbrev pub RunsBytesToRefusal : {D T : Type 0} → (D → DiskState) → Bool → Core D → Core D → List ℕ → Option (List ℕ) → Option (List ℕ)
    → Result T Refusal → Type 0
RunsBytesToRefusal state texts old new bytes before after result =
    (stopped : Result (Option Stop) Refusal) × StopsInBytes state texts old new bytes before after stopped × IsEndOf stopped result
