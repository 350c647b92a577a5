-- Several files that are imported in one commit.
use Rattle.std.specs.Prelude.{◌≡◌, ℕ, Bool, List, [], ◌∷◌, ◌++◌, map, flat_map, Vec, Result, Err}
use Rattle.std.specs.declared.alloc.Global.{Global}
use Rattle.bits.specs.declared.refusal.Refusal.{Refusal}
use Rattle.bits.specs.declared.refusal.Refusal.TheVariants.{Key, Memory}
use Rattle.schema.specs.Shape.{Fields}
use Rattle.schema.specs.Keys.{KeyColumn}
use Rattle.schema.specs.Values.{ValueTrees}
use Rattle.partition.specs.Splitting.{HaveKeys}
use Rattle.footer.specs.File.{FileMeans}
use Rattle.disk.specs.State.{State as DiskState}
use Rattle.table.specs.State.{State}
use Rattle.table.specs.Calls.{append, done}
use Rattle.table.specs.Views.{answered}
use Rattle.table_state.specs.declared.standing.Core.{Core}
use Rattle.table_state.specs.Stands.{Stands}
use Rattle.table_state.specs.Promises.{ActsFrom}
use Rattle.table_commits.specs.Gathering.{IsNotRead}
use Rattle.answers.specs.Unless.{UnlessFrom}

-- the bytes of files
abbrev pub files_view : List (Vec ℕ Global) → List (List ℕ)
files_view files = map (λ (file : Vec ℕ Global). file.items) files

-- files of a schema, and the rows that each of them means
abbrev pub MeanRows : Fields → List (List ℕ) → List (List ValueTrees) → Type 0
MeanRows fs [] [] = Unit {0}
MeanRows fs (file ∷ files) (rows ∷ others) = FileMeans file fs rows × MeanRows fs files others
MeanRows fs _ _ = ⊥

-- the rows of files, one file after another
abbrev pub joined : List (List ValueTrees) → List ValueTrees
joined each = flat_map (λ (rows : List ValueTrees). rows) each

-- why a file is refused for a table of these fields and key columns: its bytes are, or memory runs out; or a row has a key that can name
-- no folder
pub data IsRefusedFile (fs : Fields) (keys : List KeyColumn) (file : List ℕ) (e : Refusal) : Type 0 where
  not_read : IsNotRead fs file e → IsRefusedFile fs keys file e
  no_folder : (rows : List ValueTrees) → FileMeans file fs rows → (HaveKeys keys rows → ⊥) → e ≡ Key → IsRefusedFile fs keys file e

-- The first of some files mean rows that each have a key, and the next of them is the first that is refused, so.
pub record StopsAtFile (fs : Fields) (keys : List KeyColumn) (files : List (List ℕ)) (e : Refusal) : Type 0 where
  pub before : List (List ℕ)
  pub file : List ℕ
  pub behind : List (List ℕ)
  pub split : files ≡ before ++ file ∷ behind
  pub rows : List (List ValueTrees)
  pub mean : MeanRows fs before rows
  pub keyed : HaveKeys keys (joined rows)
  pub refuses : IsRefusedFile fs keys file e

-- From the one state the store makes one call, which appends the rows of all files, in the order of the files; or none of them comes in:
-- the first file that cannot be taken is refused so, or memory ran out, and the store is as it was.
pub data ImportsFrom {D : Type 0} (state : D → DiskState) (old new : Core D) (files : List (List ℕ)) (result : Result ℕ Refusal) (s : State) : Type 0 where
  all_in : (rows : List (List ValueTrees)) → MeanRows s.table.schema files rows → ActsFrom state old new (append (joined rows)) (answered done result) s
      → ImportsFrom state old new files result s
  none_in : (e : Refusal) → result ≡ Err e → new ≡ old → StopsAtFile s.table.schema s.table.keys files e → ImportsFrom state old new files result s
  no_memory : result ≡ Err Memory → new ≡ old → ImportsFrom state old new files result s

-- on an honest disk, from each state that the store stands in
abbrev pub ImportsFiles : {D : Type 0} → (D → DiskState) → Core D → Core D → List (List ℕ) → Result ℕ Refusal → Type 0
ImportsFiles state old new files result = (state old.vault.disk).honest → (s : State) → Stands state old s → ImportsFrom state old new files result s

-- on an honest disk, from each state that the store stands in: the files come in unless some row satisfies the filter of a text
abbrev pub ImportsUnless : {D : Type 0} → (D → DiskState) → Bool → Core D → Core D → List ℕ → List (List ℕ) → Result ℕ Refusal → Type 0
ImportsUnless state texts old new text files result = (state old.vault.disk).honest → (s : State) → Stands state old s
    → UnlessFrom state texts old new text (λ mid t. ImportsFrom state mid new files result t) result s
