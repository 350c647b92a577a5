-- How the entries of a chunk are cut into pages, and what the chunk weighs.
use Rattle.std.specs.Prelude.{◌≡◌, ℕ, ◌+◌, ◌-◌, ◌*◌, ◌/◌, ◌<◌, ◌≤◌, List, [], ◌∷◌, length, flat_map}
use Rattle.schema.specs.declared.value.Kind.{Kind}
use Rattle.schema.specs.declared.value.Kind.TheVariants.{Boolean}
use Rattle.schema.specs.Values.{ValueTree, ValueTrees}
use Rattle.schema.specs.Shape.{Fields}
use Rattle.schema.specs.Stripe.{Leaf, Entry, leaves_of, columns}
use Rattle.plain.specs.Plain.{text_size}
use Rattle.pages.specs.Headers.{rows_in}
use Rattle.pages.specs.Page.{values}
use Rattle.row_group.specs.declared.options.Style.{Style}
use Rattle.row_group.specs.declared.options.Style.TheVariants as style
use Rattle.row_group.specs.declared.options.ChunkOptions.{ChunkOptions}

-- the first of the entries begins a row
abbrev pub BeginsRow : List Entry → Type 0
BeginsRow [] = ⊥
BeginsRow (e ∷ es) = e.repetition ≡ 0

-- Parts of entries, one a page: each has this many rows, the last at most this many. None is empty, and each but the first begins
-- a row.
abbrev pub ArePages : ℕ → List (List Entry) → Type 0
ArePages size [] = Unit {0}
ArePages size (part ∷ []) = (0 < length part) × (rows_in part ≤ size)
ArePages size (part ∷ next ∷ parts) = (0 < length part) × (rows_in part ≡ size) × BeginsRow next × ArePages size (next ∷ parts)

-- the entries are cut into these parts, one a page of this many rows, the last of at most this many
pub record ArePagesOf (size : ℕ) (es : List Entry) (parts : List (List Entry)) : Type 0 where
  pub joined : flat_map (λ part. part) parts ≡ es
  pub each : ArePages size parts

-- how many parts of so many rows each there are, the last with the rest
abbrev pub parts_of : ℕ → ℕ → ℕ
parts_of n size = (n + (size - 1)) / size

-- how many dictionaries a chunk of these values may have: one where its style has them, unless there are no values, or they are BOOLEAN
abbrev pub most_dictionaries : Style → Kind → List ValueTree → ℕ
most_dictionaries s kind [] = 0
most_dictionaries style.Dictionary Boolean (v ∷ vs) = 0
most_dictionaries style.Dictionary kind (v ∷ vs) = 1
most_dictionaries s kind (v ∷ vs) = 0

-- what a chunk weighs: 1,024 bytes for each of its pages and once more for a dictionary, 64 an entry, and the bytes of its byte values
abbrev pub chunk_weight : Style → Kind → ℕ → List Entry → ℕ
chunk_weight s kind pages es = 1024 * (pages + most_dictionaries s kind (values es)) + 64 * length es + text_size (values es)

-- what the chunks of columns weigh together, each column of its leaf and of n rows
abbrev pub columns_weight : ChunkOptions → ℕ → List Leaf → List (List Entry) → ℕ
columns_weight o n (leaf ∷ leaves) (es ∷ cols) = chunk_weight o.style leaf.leaf_type.kind (parts_of n o.page_rows) es + columns_weight o n leaves cols
columns_weight o n _ _ = 0

-- what the chunks of a group of these rows weigh together
abbrev pub group_weight : Fields → ChunkOptions → List ValueTrees → ℕ
group_weight fs o rows = columns_weight o (length rows) (leaves_of fs) (columns fs rows)
