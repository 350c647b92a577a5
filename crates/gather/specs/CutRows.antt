-- A row that is shown, cut into its key and the rest.
use Rattle.std.specs.Prelude.{◌≡◌, ℕ, zero, suc, List, [], ◌∷◌, ◌++◌, length, if◌then◌else◌}
use Rattle.schema.specs.Cutting.{is_among}
use Rattle.schema.specs.Shape.{Fields}
use Rattle.schema.specs.Values.{ValueTree, ValueTrees}
use Rattle.schema.specs.Keys.{KeyColumn, places_of, key_of_row, row_without_keys}
use Rattle.assemble.specs.Sinks.{Token, single, group_begins, group_ends, list_begins, list_ends}
use Rattle.shred.specs.Buffer.{Holds, holds, schema_of}
use Rattle.gather.specs.declared.cut_row.CutRow.{CutRow}
use Rattle.gather.specs.Parts.{parts_view, kept_value, put_at}

-- where the next value stands in the row, how many groups and lists have begun, what was shown besides the key, and the key
pub record Cut : Type 0 where
  pub place : ℕ
  pub depth : ℕ
  pub rest : List Token
  pub key : List ValueTree

-- a cut by its parts
abbrev pub cut_at : ℕ → ℕ → List Token → List ValueTree → Cut
cut_at place depth rest key = record { place = place; depth = depth; rest = rest; key = key }

-- a value that is no group and no list is shown at this depth: at depth 0 it may be of the key
abbrev pub single_shown : List ℕ → Cut → ValueTree → ℕ → Cut
single_shown places c v zero =
    cut_at (suc c.place) 0 (if is_among places c.place then c.rest else c.rest ++ single v ∷ []) (put_at places c.place (kept_value v) c.key)
single_shown places c v (suc depth) = cut_at c.place (suc depth) (c.rest ++ single v ∷ []) c.key

-- a group or a list begins
abbrev pub begun_by : Cut → Token → Cut
begun_by c t = cut_at c.place (suc c.depth) (c.rest ++ t ∷ []) c.key

-- a group or a list ends at this depth
abbrev pub ended_by : Cut → Token → ℕ → Cut
ended_by c t zero = cut_at c.place 0 (c.rest ++ t ∷ []) c.key
ended_by c t (suc zero) = cut_at (suc c.place) 0 (c.rest ++ t ∷ []) c.key
ended_by c t (suc (suc depth)) = cut_at c.place (suc depth) (c.rest ++ t ∷ []) c.key

-- the cut after one more token
abbrev pub cut_step : List ℕ → Cut → Token → Cut
cut_step places c (single v) = single_shown places c v c.depth
cut_step places c group_begins = begun_by c group_begins
cut_step places c list_begins = begun_by c list_begins
cut_step places c group_ends = ended_by c group_ends c.depth
cut_step places c list_ends = ended_by c list_ends c.depth

-- the cut after tokens, one after another
abbrev pub cut_run : List ℕ → Cut → List Token → Cut
cut_run places c [] = c
cut_run places c (t ∷ ts) = cut_run places (cut_step places c t) ts

-- the schema of the rows besides their keys
abbrev pub rest_schema : CutRow → Fields
rest_schema row = schema_of row.rest

-- for how many columns a row has parts of its key
abbrev pub part_count : CutRow → ℕ
part_count row = length row.key.items

-- these tokens of a row were shown, each cut to where it belongs
pub record CutShown (columns : List KeyColumn) (row : CutRow) (shown : List Token) : Type 0 where
  pub begun : List ValueTree
  pub many : length begun ≡ length columns
  pub rest : List Token
  pub state : cut_at row.place row.depth rest (parts_view row.key.items) ≡ cut_run (places_of columns) (cut_at 0 0 [] begun) shown
  pub held : Holds row.rest [] rest

-- the place and the depth after a group or a list ends
abbrev pub Leaves : ℕ → ℕ → ℕ → ℕ → Type 0
Leaves place zero p d = (p ≡ place) × (d ≡ 0)
Leaves place (suc zero) p d = (p ≡ suc place) × (d ≡ 0)
Leaves place (suc (suc depth)) p d = (p ≡ place) × (d ≡ suc depth)

-- a row, cut: its key, and the rest as a row of its own
pub record IsCut (columns : List KeyColumn) (row : CutRow) (values : ValueTrees) : Type 0 where
  pub key : parts_view row.key.items ≡ key_of_row columns values
  pub rest : holds row.rest (row_without_keys columns values ∷ [])
