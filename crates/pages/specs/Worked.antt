-- Pages made by hand, byte by byte: parquet.thrift, PageHeader, in Thrift's compact protocol; parquet-format, README.md, "Data Pages"; Encodings.md.
use Rattle.std.specs.Prelude.{ℕ, pos, List, [], ◌∷◌, ◌++◌, codes}
use Rattle.schema.specs.declared.value.Repetition.{Repetition}
use Rattle.schema.specs.declared.value.Repetition.TheVariants.{Required}
use Rattle.schema.specs.declared.value.Kind.TheVariants.{ByteArray, Int32}
use Rattle.schema.specs.Values.{integer}
use Rattle.schema.specs.Stripe.{Leaf, leaf_at, Entry}
use Rattle.schema.specs.Worked.{plain_type, here, none}

-- the leaf of a field `x` of numbers of 32 bits, by its repetition
abbrev pub number_leaf : Repetition → Leaf
number_leaf r = leaf_at (codes "x" ∷ []) (record { place = 0; repetition = r } ∷ []) (plain_type Int32)

-- the leaf of a REQUIRED field `x` of byte values
abbrev pub text_leaf : Leaf
text_leaf = leaf_at (codes "x" ∷ []) (record { place = 0; repetition = Required } ∷ []) (plain_type ByteArray)

-- the rows 5, null and 6
abbrev pub five_null_six : List Entry
five_null_six = here 0 1 (integer (pos 5)) ∷ none 0 0 ∷ here 0 1 (integer (pos 6)) ∷ []

-- Header 15 00 15 1C 15 1C 2C 15 06 15 00 15 06 15 06 00 00: DATA_PAGE, 14 bytes and 14; in field 5 three values, PLAIN, RLE, RLE.
-- Body: 02 00 00 00 says two bytes, 03 05 is one group of eight levels, the bits 1 0 1 first; then 5 and 6, four bytes each.
abbrev pub page_of_version_1 : List ℕ
page_of_version_1 = (21 ∷ 0 ∷ 21 ∷ 28 ∷ 21 ∷ 28 ∷ 44 ∷ 21 ∷ 6 ∷ 21 ∷ 0 ∷ 21 ∷ 6 ∷ 21 ∷ 6 ∷ 0 ∷ 0 ∷ []) ++ 2 ∷ 0 ∷ 0 ∷ 0 ∷ 3 ∷ 5 ∷ 5 ∷ 0 ∷ 0 ∷ 0 ∷ 6 ∷ 0 ∷ 0 ∷ 0 ∷ []

-- Header 15 06 15 14 15 14 5C 15 06 15 02 15 06 15 00 15 04 15 00 12 00 00: DATA_PAGE_V2, 10 bytes and 10; in field 8 three values, one null,
-- three rows, PLAIN, two bytes of definition levels, none of repetition levels, not compressed. Body: the same without the length of the levels.
abbrev pub page_of_version_2 : List ℕ
page_of_version_2 = (21 ∷ 6 ∷ 21 ∷ 20 ∷ 21 ∷ 20 ∷ 92 ∷ 21 ∷ 6 ∷ 21 ∷ 2 ∷ 21 ∷ 6 ∷ 21 ∷ 0 ∷ 21 ∷ 4 ∷ 21 ∷ 0 ∷ 18 ∷ 0 ∷ 0 ∷ []) ++ 3 ∷ 5 ∷ 5 ∷ 0 ∷ 0 ∷ 0 ∷ 6 ∷ 0 ∷ 0 ∷ 0 ∷ []

-- Header 15 04 15 14 15 14 4C 15 04 15 00 00 00: DICTIONARY_PAGE, 10 bytes and 10; in field 7 two values, PLAIN.
-- Body: each text behind the four bytes of its length, a and b.
abbrev pub page_of_texts : List ℕ
page_of_texts = (21 ∷ 4 ∷ 21 ∷ 20 ∷ 21 ∷ 20 ∷ 76 ∷ 21 ∷ 4 ∷ 21 ∷ 0 ∷ 0 ∷ 0 ∷ []) ++ 1 ∷ 0 ∷ 0 ∷ 0 ∷ 97 ∷ 1 ∷ 0 ∷ 0 ∷ 0 ∷ 98 ∷ []

-- the rows [5, 6], [] and [7]
abbrev pub three_lists : List Entry
three_lists = here 0 1 (integer (pos 5)) ∷ here 1 1 (integer (pos 6)) ∷ none 0 0 ∷ here 0 1 (integer (pos 7)) ∷ []

-- The header says 26 bytes and four values. Body: two bytes of repetition levels, 03 02, a group with the bits 0 1 0 0 first; four bytes of
-- definition levels, 04 01, two ones, and 03 02, a group with the bits 0 1 first; then 5, 6 and 7.
abbrev pub page_of_lists : List ℕ
page_of_lists =
    (21 ∷ 0 ∷ 21 ∷ 52 ∷ 21 ∷ 52 ∷ 44 ∷ 21 ∷ 8 ∷ 21 ∷ 0 ∷ 21 ∷ 6 ∷ 21 ∷ 6 ∷ 0 ∷ 0 ∷ [])
    ++ 2 ∷ 0 ∷ 0 ∷ 0 ∷ 3 ∷ 2 ∷ 4 ∷ 0 ∷ 0 ∷ 0 ∷ 4 ∷ 1 ∷ 3 ∷ 2 ∷ 5 ∷ 0 ∷ 0 ∷ 0 ∷ 6 ∷ 0 ∷ 0 ∷ 0 ∷ 7 ∷ 0 ∷ 0 ∷ 0 ∷ []
