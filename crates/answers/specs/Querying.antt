-- What a command prints of a store that it only reads.
use Rattle.std.specs.Prelude.{◌≡◌, ℕ, Bool, true, false, IsTrue, List, [], ◌∷◌, ◌++◌, map, filter, flat_map, Option, Result, Err, OnOk}
use Rattle.std.specs.List.{list_all}
use Rattle.std.specs.Io.KnownBytes.{Appends}
use Rattle.bits.specs.declared.refusal.Refusal.{Refusal}
use Rattle.schema.specs.Shape.{Fields}
use Rattle.schema.specs.Stripe.{leaves_of}
use Rattle.schema.specs.Values.{ValueTrees}
use Rattle.schema.specs.Listing.{IsSchemaOf}
use Rattle.metadata.specs.Records.{FileMeta}
use Rattle.footer.specs.File.{IsFile}
use Rattle.rowtext.specs.Json.{row_text_as}
pub use Rattle.columns.specs.Columns.{fields_at}
use Rattle.disk.specs.State.{State as DiskState}
use Rattle.manifest.specs.Groups.{root_of}
use Rattle.table.specs.Table.{Table, rows}
use Rattle.table.specs.Deciding.{Filter, satisfies}
use Rattle.table.specs.Cursors.{Columns, wanted_places, cut}
use Rattle.table.specs.Plans.{summary}
use Rattle.table.specs.State.{State}
use Rattle.table.specs.Views.{info_view}
use Rattle.table.specs.Calls.{Call, query, fetch, close, groups, count, Answer}
use Rattle.table.specs.declared.answer.GroupInfo.{GroupInfo}
use Rattle.table_state.specs.declared.standing.Core.{Core}
use Rattle.table_state.specs.Stands.{Stands}
use Rattle.table_state.specs.Promises.{ActsFrom}
use Rattle.table_reads.specs.Listing.{told_of, told_by}
use Rattle.answers.specs.Lines.{AreGroupLines}
use Rattle.answers.specs.Making.{IsAskedFilter, IsRefusedFilterOf}

-- ---- rows

-- the line of a row, with its line feed, with texts of dates, times, timestamps and decimals or without
abbrev pub row_line : Bool → Fields → ValueTrees → List ℕ
row_line texts fs row = row_text_as texts fs row ++ 10 ∷ []

-- the lines of rows
abbrev pub row_lines : Bool → Fields → List ValueTrees → List ℕ
row_lines texts fs rows = flat_map (row_line texts fs) rows

-- the lines of the rows of a table that satisfy, in table order: objects of the wanted columns
abbrev pub query_lines : Bool → Filter → Columns → Table → List ℕ
query_lines texts terms columns t =
    row_lines texts (fields_at (wanted_places columns 0 t.schema) 0 t.schema) (map (cut (wanted_places columns 0 t.schema)) (filter (satisfies t.schema terms) (rows t.groups)))

-- ---- schemas

-- the schema of a Parquet file, as its footer lists it
pub record IsSchemaOfFile (bytes : List ℕ) (fs : Fields) : Type 0 where
  pub front : List ℕ
  pub meta : FileMeta
  pub file : IsFile bytes front meta
  pub schema : IsSchemaOf meta.schema fs

-- ---- calls that only read

-- whether a call is one of those that only read: `query`, `fetch`, `close`, `count` or `groups`
abbrev pub only_reads : Call → Bool
only_reads (query terms columns) = true
only_reads (fetch n) = true
only_reads (close n) = true
only_reads (count terms) = true
only_reads groups = true
only_reads _ = false

-- The store makes these calls, one after another, with these answers, each as a single call acts. They lead from the one state to
-- the last.
abbrev pub ActsOn : {D : Type 0} → (D → DiskState) → Core D → List Call → List Answer → Core D → State → State → Type 0
ActsOn state old [] [] new s last = (new ≡ old) × (last ≡ s)
ActsOn {D} state old (call ∷ calls) (answer ∷ answers) new s last = (mid : Core D) × (acts : ActsFrom state old mid call answer s)
    × ActsOn state mid calls answers new acts.after last
ActsOn state old [] (answer ∷ answers) new s last = ⊥
ActsOn state old (call ∷ calls) [] new s last = ⊥

-- From the one state the store makes some calls, each of which only reads.
pub record OnlyReads {D : Type 0} (state : D → DiskState) (old new : Core D) (s : State) : Type 0 where
  pub calls : List Call
  pub answers : List Answer
  pub last : State
  pub acts : ActsOn state old calls answers new s last
  pub read : IsTrue (list_all only_reads calls)

-- From the one state: a filter is asked for, the store makes calls that only read, and where the result is Ok a writer got what is
-- said of that filter. Or the filter is refused, and neither the store nor the writer changed.
pub data ReadsFrom {D T : Type 0} (state : D → DiskState) (texts : Bool) (old new : Core D) (asked : Option (List ℕ)) (Prints : Filter → Type 0) (Unchanged : Type 0)
    (result : Result T Refusal) (s : State) : Type 0 where
  read : (terms : Filter) → IsAskedFilter texts (leaves_of s.table.schema) asked terms → OnlyReads state old new s → OnOk result (Prints terms)
      → ReadsFrom state texts old new asked Prints Unchanged result s
  not_read : (e : Refusal) → IsRefusedFilterOf texts (leaves_of s.table.schema) asked e → result ≡ Err e → new ≡ old → Unchanged
      → ReadsFrom state texts old new asked Prints Unchanged result s

-- on an honest disk, from each state that the store stands in; what is printed is told of that state's table
abbrev pub Reads : {D T : Type 0} → (D → DiskState) → Bool → Core D → Core D → Option (List ℕ) → (Filter → Table → Type 0) → Type 0 → Result T Refusal → Type 0
Reads state texts old new asked Prints Unchanged result = (state old.vault.disk).honest → (s : State) → Stands state old s
    → ReadsFrom state texts old new asked (λ terms. Prints terms s.table) Unchanged result s

-- On an honest disk, from each state that the store stands in: where the result is Ok a writer got the lines of the table's groups, each
-- with the bytes of its chunks as the store's root has them.
abbrev pub ListsGroups : {D T : Type 0} → (D → DiskState) → Core D → Option (List ℕ) → Option (List ℕ) → Result T Refusal → Type 0
ListsGroups state store before after result = (state store.vault.disk).honest → (s : State) → Stands state store s
    → OnOk result ((infos : List GroupInfo) × (printed : List ℕ) × (map info_view infos ≡ map summary s.table.groups)
    × (map told_by infos ≡ map told_of (root_of store.manifest).groups) × AreGroupLines infos printed × Appends before after printed)
