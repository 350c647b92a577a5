-- The chunks of a file have the dictionaries that its options ask for.
use Rattle.std.proofs.Common.{◌≡◌, ℕ, ◌<◌, List, [], ◌∷◌, ◌++◌, length, None, Some, ap, arith}
use Rattle.std.specs.Prelude.{pos}
use Rattle.std.proofs.lemmas.List.{length-append}
use Rattle.schema.specs.Values.{ValueTrees}
use Rattle.schema.specs.Shape.{Fields}
use Rattle.schema.specs.Stripe.{Leaf, Entry, leaves_of, columns}
use Rattle.metadata.specs.Records.{ColumnMeta, ChunkMeta, GroupMeta}
use Rattle.row_group.specs.declared.options.ChunkOptions.{ChunkOptions}
use Rattle.row_group.specs.Styles.{SuitsDictionary}
use Rattle.row_group.specs.Spelled.{HasPages, of_values, of_indexes}
use Rattle.row_group.specs.Writing.{AppendsEach}
use Rattle.footer.specs.File.{magic}
use Rattle.footer.specs.Writing.{chunk_options, groups_of}
use Rattle.footer.specs.Own.{AppendsGroups}
use Rattle.footer.specs.Laws.{HaveDictionaries, GroupsHaveDictionaries, FilesHaveDictionaries}

-- a chunk after the first byte of a file
has_one : (leaf : Leaf) (o : ChunkOptions) (es : List Entry) (parts : List (List Entry)) (m : ColumnMeta) (start : ℕ) (bytes : List ℕ) (used : ℕ) → 0 < start → HasPages leaf o es parts m start bytes used
    → SuitsDictionary o.style leaf.leaf_type.kind es → m.dictionary_page_offset ≡ None → ⊥
has_one leaf o es parts m start bytes used begun (of_values none pages) suits without = none (record { suits = suits; begun = begun })
has_one leaf o es parts m start bytes used begun (of_indexes has pages) suits without = let here : m.dictionary_page_offset ≡ Some (pos start) = pages.dictionary_offset in cc

each_has : (o : ChunkOptions) (leaves : List Leaf) (cols : List (List Entry)) (old new : List ℕ) (cs : List ChunkMeta) → 0 < length old → AppendsEach o leaves cols old new cs → HaveDictionaries o.style leaves cols cs
each_has o [] cols old new cs begun p = tt
each_has o (leaf ∷ leaves) [] old new cs begun p = tt
each_has o (leaf ∷ leaves) (es ∷ cols) old new [] begun p = tt
each_has o (leaf ∷ leaves) (es ∷ cols) old new (c ∷ cs) begun p =
    let a = p.1 in (
      has_one leaf o es a.parts c.meta_data (length old) (a.text ++ []) (length a.text) begun (a.pages []),
      each_has o leaves cols p.0 new cs (omega (arith, begun, ap length a.joined, length-append old a.text)) p.3,
    )

groups_have : (fs : Fields) (o : ChunkOptions) (old new : List ℕ) (gs : List GroupMeta) (groups : List (List ValueTrees)) → 0 < length old → AppendsGroups fs o old new gs groups → GroupsHaveDictionaries fs o.style gs groups
groups_have fs o old new [] groups begun p = tt
groups_have fs o old new (g ∷ gs) [] begun p = tt
groups_have fs o old new (g ∷ gs) (rows ∷ groups) begun p =
    let a = p.1 in (
      each_has o (leaves_of fs) (columns fs rows) old p.0 g.columns begun a.chunks,
      groups_have fs o p.0 new gs groups (omega (arith, begun, ap length a.joined, length-append old a.text)) p.2,
    )

pub files_have : FilesHaveDictionaries
files_have o fs rows bytes file = groups_have fs (chunk_options o) magic file.front file.metas (groups_of o.group_rows rows) (omega arith) file.chunks
