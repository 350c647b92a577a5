-- That a file means at most one list of rows, also where nobody has read it, and which its first rows are; and that a written file has
-- the dictionaries asked for.
use Rattle.std.specs.Prelude.{◌≡◌, ◌≤◌, ◌⊎◌, ℕ, List, ◌∷◌, length, take, None}
use Rattle.schema.specs.Values.{ValueTrees}
use Rattle.schema.specs.Shape.{Fields}
use Rattle.schema.specs.Stripe.{Leaf, Entry, leaves_of, columns}
use Rattle.metadata.specs.Records.{ChunkMeta, GroupMeta}
use Rattle.row_group.specs.Styles.{SuitsDictionary}
use Rattle.row_group.specs.declared.options.Style.{Style}
use Rattle.footer.specs.declared.options.WriteOptions.{WriteOptions}
use Rattle.footer.specs.File.{FileMeans}
use Rattle.footer.specs.FirstRows.{MeansFirstRows}
use Rattle.footer.specs.Writing.{groups_of}
use Rattle.footer.specs.Own.{IsLaidOut}

-- the bytes of a file mean at most one list of rows, of at most one schema
abbrev pub FilesMeanOneList : Type 0
FilesMeanOneList = (bytes : List ℕ) (fs gs : Fields) (rows others : List ValueTrees) → FileMeans bytes fs rows → FileMeans bytes gs others → (fs ≡ gs) × (rows ≡ others)

-- the first rows of a file are at most one list, of at most one schema
abbrev pub FirstRowsAreOneList : Type 0
FirstRowsAreOneList = (count : ℕ) (bytes : List ℕ) (fs gs : Fields) (rows others : List ValueTrees) → MeansFirstRows count bytes fs rows → MeansFirstRows count bytes gs others → (fs ≡ gs) × (rows ≡ others)

-- in a file that means rows, its first rows begin with the first `count` of them
abbrev pub FirstRowsAreOfTheFile : Type 0
FirstRowsAreOfTheFile = (count : ℕ) (bytes : List ℕ) (fs gs : Fields) (all rows : List ValueTrees) → FileMeans bytes fs all → MeansFirstRows count bytes gs rows → (gs ≡ fs) × (take count rows ≡ take count all)

-- a file that means rows has first rows
abbrev pub FilesHaveFirstRows : Type 0
FilesHaveFirstRows = (count : ℕ) (bytes : List ℕ) (fs : Fields) (all : List ValueTrees) → FileMeans bytes fs all → (rows : List ValueTrees) × MeansFirstRows count bytes fs rows

-- first rows are `count` or more, or all that the file means
abbrev pub FirstRowsAreEnough : Type 0
FirstRowsAreEnough = (count : ℕ) (bytes : List ℕ) (fs : Fields) (rows : List ValueTrees) → MeansFirstRows count bytes fs rows → (count ≤ length rows) ⊎ FileMeans bytes fs rows

-- each chunk whose entries suit a dictionary has one, by its record
abbrev pub HaveDictionaries : Style → List Leaf → List (List Entry) → List ChunkMeta → Type 0
HaveDictionaries s (leaf ∷ leaves) (es ∷ cols) (c ∷ cs) =
    (SuitsDictionary s leaf.leaf_type.kind es → c.meta_data.dictionary_page_offset ≡ None → ⊥) × HaveDictionaries s leaves cols cs
HaveDictionaries s leaves cols cs = Unit {0}

-- each chunk of these groups whose entries suit a dictionary has one, by its record
abbrev pub GroupsHaveDictionaries : Fields → Style → List GroupMeta → List (List ValueTrees) → Type 0
GroupsHaveDictionaries fs s (g ∷ gs) (rows ∷ groups) = HaveDictionaries s (leaves_of fs) (columns fs rows) g.columns × GroupsHaveDictionaries fs s gs groups
GroupsHaveDictionaries fs s gs groups = Unit {0}

-- in a file as the store lays it out, whose chunks begin after `PAR1`, each chunk whose entries suit a dictionary has one
abbrev pub FilesHaveDictionaries : Type 0
FilesHaveDictionaries = (o : WriteOptions) (fs : Fields) (rows : List ValueTrees) (bytes : List ℕ) → (file : IsLaidOut o fs rows bytes) → GroupsHaveDictionaries fs o.style file.metas (groups_of o.group_rows rows)
