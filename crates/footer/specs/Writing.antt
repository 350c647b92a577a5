-- Which options there are, how rows are grouped, what a written file weighs, and which rows are too much for one.
use Rattle.std.specs.Prelude.{◌≡◌, ◌≢◌, ℕ, zero, suc, ◌+◌, ◌*◌, ◌<◌, ◌<ℤ◌, ◌==◌, pos, ◌≤◌, List, [], ◌∷◌, length, take, drop, sum_by, if◌then◌else◌}
use Rattle.std.specs.List.{Any, AllByRecursion}
use Rattle.schema.specs.Values.{ValueTrees}
use Rattle.schema.specs.Shape.{Fields}
use Rattle.schema.specs.Stripe.{Leaf, leaves_of, columns}
use Rattle.schema.specs.Listed.{elements_of}
use Rattle.schema.specs.Law.{IsWithinLimits}
use Rattle.metadata.specs.Weight.{element_weight}
use Rattle.plain.specs.Plain.{IsTooLong}
use Rattle.pages.specs.Page.{values}
use Rattle.pages.specs.declared.page_version.PageVersion.TheVariants.{V1, V2}
use Rattle.row_group.specs.Greatest.{most_entries}
use Rattle.row_group.specs.Paged.{parts_of, group_weight}
use Rattle.row_group.specs.Writing.{AreTaken}
use Rattle.row_group.specs.declared.options.ChunkOptions.{ChunkOptions}
use Rattle.footer.specs.Greatest.{most_of_file, most_of_footer}
use Rattle.footer.specs.declared.options.WriteOptions.{WriteOptions}
use Rattle.footer.specs.File.{IsFramed}

-- options that are refused for good: no group of 1 to 16,777,216 rows, no page of a row or more, no version 1 or 2
pub data IsOutOfRange (o : WriteOptions) : Type 0 where
  empty_groups : o.group_rows ≡ 0 → IsOutOfRange o
  large_groups : 16777216 < o.group_rows → IsOutOfRange o
  empty_pages : o.page_rows ≡ 0 → IsOutOfRange o
  other_version : o.page_version ≢ 1 → o.page_version ≢ 2 → IsOutOfRange o

-- how the chunks of a file are written
abbrev pub chunk_options : WriteOptions → ChunkOptions
chunk_options o = record { page_rows = o.page_rows; page_version = if o.page_version == 2 then V2 else V1; style = o.style }

-- n groups of this many rows each, from the first row on
abbrev pub groups_from : ℕ → ℕ → List ValueTrees → List (List ValueTrees)
groups_from zero size rows = []
groups_from (suc n) size rows = take size rows ∷ groups_from n size (drop size rows)

-- the rows in groups of this many each, the last with the rest
abbrev pub groups_of : ℕ → List ValueTrees → List (List ValueTrees)
groups_of size rows = groups_from (parts_of (length rows) size) size rows

-- what a footer weighs: 1,024, for each schema element 128, its name and its kept struct, for each group 64, for each chunk 512 and its names
abbrev pub footer_weight : Fields → ℕ → ℕ
footer_weight fs groups = 1024 + sum_by element_weight (elements_of fs) + groups * (64 + sum_by (λ (l : Leaf). 512 + sum_by (λ n. length n) l.path) (leaves_of fs))

-- what a file weighs: 1,024, its footer, and its chunks, each 1,024 a page and once more for a dictionary, 64 an entry,
-- and the bytes of its byte values
abbrev pub file_weight : Fields → WriteOptions → List (List ValueTrees) → ℕ
file_weight fs o groups = 1024 + footer_weight fs (length groups) + sum_by (group_weight fs (chunk_options o)) groups

-- one of the groups has a column of too many entries
abbrev pub HasLargeColumn : Fields → List (List ValueTrees) → Type 0
HasLargeColumn fs groups = Any (λ group. Any (λ es. most_entries <ℤ pos (length es)) (columns fs group)) groups

-- one of the rows has a value that is longer than a value may be
abbrev pub HasLongValue : Fields → List ValueTrees → Type 0
HasLongValue fs rows = Any (λ es. Any IsTooLong (values es)) (columns fs rows)

-- why rows are too much for a file; its footer, or the file itself, weighs more than it may have
pub data IsTooMuch (fs : Fields) (o : WriteOptions) (rows : List ValueTrees) : Type 0 where
  many_entries : HasLargeColumn fs (groups_of o.group_rows rows) → IsTooMuch fs o rows
  long_value : HasLongValue fs rows → IsTooMuch fs o rows
  heavy_footer : most_of_footer < footer_weight fs (length (groups_of o.group_rows rows)) → IsTooMuch fs o rows
  heavy_file : most_of_file < file_weight fs o (groups_of o.group_rows rows) → IsTooMuch fs o rows

-- a reader takes the file, whose groups have this many rows each: it is within the limits, and so are its footer, its schema,
-- the columns of each group and their values
pub record IsTaken (size : ℕ) (fs : Fields) (rows : List ValueTrees) (bytes : List ℕ) : Type 0 where
  pub file_size : length bytes ≤ most_of_file
  pub footer_size : (front footer : List ℕ) → IsFramed bytes front footer → length footer ≤ most_of_footer
  pub schema_taken : IsWithinLimits fs
  pub columns_taken : AllByRecursion (AreTaken fs) (groups_of size rows)
