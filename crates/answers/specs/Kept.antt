-- Which style the new groups of a call have that keeps the style of what is there.
use Rattle.std.specs.Prelude.{◌≡◌, ◌↔◌, ℕ, ℤ, pos, Bool, false, nat_eq, IsTrue, List, [], ◌∷◌, Option, Some, None, if◌then◌else◌}
use Rattle.std.specs.Ordering.{int_eq}
use Rattle.std.specs.List.{list_any}
use Rattle.row_group.specs.declared.options.Style.{Style}
use Rattle.row_group.specs.declared.options.Style.TheVariants.{Plain, Dictionary, Delta, Lengths, Split}
use Rattle.schema.specs.Keys.{KeyColumn, places_of}
use Rattle.metadata.specs.Records.{ChunkMeta}
use Rattle.filter.specs.Test.{Test}
use Rattle.filter.specs.RuledOut.{RuledOut}
use Rattle.manifest.specs.Groups.{Group}
use Rattle.footer.specs.declared.options.WriteOptions.{WriteOptions}
use Rattle.disk.specs.State.{State as DiskState}
use Rattle.table.specs.Table.{Table}
use Rattle.table.specs.State.{opened}
use Rattle.table_state.specs.declared.standing.Core.{Core}
use Rattle.table_state.specs.Stands.{Stands}

-- whether the encoding of this number is among these, where they are said
abbrev pub is_said : ℤ → Option (List ℤ) → Bool
is_said z None = false
is_said z (Some es) = list_any (int_eq z) es

-- whether a chunk has values in the encoding of this number (parquet.thrift, Encoding)
abbrev pub is_encoded : ℤ → ChunkMeta → Bool
is_encoded z c = is_said z c.meta_data.encodings

-- whether one of the chunks has values in the encoding of this number
abbrev pub has_encoding : ℤ → List ChunkMeta → Bool
has_encoding z cs = list_any (is_encoded z) cs

-- The style of chunks, by their encodings. RLE_DICTIONARY (8) tells a dictionary, then BYTE_STREAM_SPLIT (9) a split,
-- DELTA_BYTE_ARRAY (7) a delta, DELTA_LENGTH_BYTE_ARRAY (6) lengths, and DELTA_BINARY_PACKED (5) a delta; else it is plain.
abbrev pub style_in : List ChunkMeta → Style
style_in cs =
    if has_encoding (pos 8) cs then Dictionary
    else if has_encoding (pos 9) cs then Split
    else if has_encoding (pos 7) cs then Delta
    else if has_encoding (pos 6) cs then Lengths
    else if has_encoding (pos 5) cs then Delta
    else Plain

-- the style of a group, by the encodings of its chunks
abbrev pub style_of : Group → Style
style_of g = style_in g.chunks

-- the style of the first of these groups that is a source
abbrev pub first_style : (Group → Bool) → List Group → Option Style
first_style is [] = None
first_style is (g ∷ gs) = if is g then Some (style_of g) else first_style is gs

-- whether the number of a group is one of these
abbrev pub is_numbered : List ℕ → Group → Bool
is_numbered numbers g = list_any (nat_eq g.number) numbers

-- it tells which groups may have a row that satisfies the filter, by their keys and their statistics
abbrev pub TellsWhichMayHold : List KeyColumn → List (List Test) → (Group → Bool) → Type 0
TellsWhichMayHold keys tests is = (g : Group) → IsTrue (is g) ↔ (RuledOut tests (places_of keys) g.key g.known → ⊥)

-- a store that is as another one, but for the style in which it writes new groups
abbrev pub IsRestyled : {D : Type 0} → Core D → Core D → Type 0
IsRestyled old new = new ≡ record old { options = record old.options { style = new.options.style } }

-- a store that stands as it was opened on a table still does, with the style that it then has
abbrev pub StaysOpened : {D : Type 0} → (D → DiskState) → Core D → Core D → Type 0
StaysOpened state old new = (o : WriteOptions) (t : Table) → Stands state old (opened o t) → Stands state new (opened (record o { style = new.options.style }) t)
