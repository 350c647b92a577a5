-- The bytes and values of worked examples: parquet-format, Encodings.md, "Delta Encoding", "Delta-length byte array" and "Delta Strings".
use Rattle.std.specs.Prelude.{ℕ, List, [], ◌∷◌, ◌++◌, map, ℤ, pos}
use Rattle.std.specs.List.{range_with_len}

-- 7, 5, 3, 1, 2, 3, 4, 5
abbrev pub down_and_up_bytes : List ℕ
down_and_up_bytes = 128 ∷ 1 ∷ 4 ∷ 8 ∷ 14 ∷ 3 ∷ 2 ∷ 0 ∷ 0 ∷ 0 ∷ 192 ∷ 63 ∷ 0 ∷ 0 ∷ 0 ∷ 0 ∷ 0 ∷ 0 ∷ []

-- the numbers 7, 5, 3, 1, 2, 3, 4, 5
abbrev pub down_and_up_values : List ℤ
down_and_up_values = pos 7 ∷ pos 5 ∷ pos 3 ∷ pos 1 ∷ pos 2 ∷ pos 3 ∷ pos 4 ∷ pos 5 ∷ []

-- the least and the greatest number of 64 bits
abbrev pub extreme_bytes : List ℕ
extreme_bytes = 128 ∷ 1 ∷ 4 ∷ 2 ∷ 255 ∷ 255 ∷ 255 ∷ 255 ∷ 255 ∷ 255 ∷ 255 ∷ 255 ∷ 255 ∷ 1 ∷ 1 ∷ 0 ∷ 0 ∷ 0 ∷ 0 ∷ []

-- 0 to 128, 131, 130: a block of 128 deltas of 1, whose numbers have no bits, and one of the deltas 3 and -1, whose least is -1
abbrev pub two_blocks_bytes : List ℕ
two_blocks_bytes =
    128 ∷ 1 ∷ 4 ∷ 131 ∷ 1 ∷ 0 ∷ 2 ∷ 0 ∷ 0 ∷ 0 ∷ 0 ∷ 1 ∷ 3 ∷ 0 ∷ 0 ∷ 0 ∷ 4 ∷ 0 ∷ 0 ∷ 0 ∷ 0 ∷ 0 ∷ 0 ∷ 0 ∷ 0 ∷ 0 ∷ 0 ∷ 0 ∷ []

-- the numbers 0 to 128, 131 and 130
abbrev pub two_blocks_values : List ℤ
two_blocks_values = map pos (range_with_len 0 129) ++ pos 131 ∷ pos 130 ∷ []

-- a, bb and the empty value, by their lengths
abbrev pub three_lengths_bytes : List ℕ
three_lengths_bytes = 128 ∷ 1 ∷ 4 ∷ 3 ∷ 2 ∷ 3 ∷ 2 ∷ 0 ∷ 0 ∷ 0 ∷ 3 ∷ 0 ∷ 0 ∷ 0 ∷ 0 ∷ 0 ∷ 0 ∷ 0 ∷ 97 ∷ 98 ∷ 98 ∷ []

-- axis, axle, babble and babyhood, by their prefixes
abbrev pub four_words_bytes : List ℕ
four_words_bytes = 128 ∷ 1 ∷ 4 ∷ 4 ∷ 0 ∷ 3 ∷ 3 ∷ 0 ∷ 0 ∷ 0 ∷ 68 ∷ 1 ∷ 0 ∷ 0 ∷ 0 ∷ 0 ∷ 0 ∷ 0 ∷ 0 ∷ 0 ∷ 0 ∷ 0 ∷ 128 ∷ 1 ∷ 4 ∷ 4 ∷ 8 ∷ 3 ∷ 3 ∷ 0 ∷ 0 ∷ 0 ∷ 112 ∷ 0 ∷ 0 ∷ 0 ∷ 0 ∷ 0 ∷ 0 ∷ 0 ∷ 0 ∷ 0 ∷ 0 ∷ 0 ∷ 97 ∷ 120 ∷ 105 ∷ 115 ∷ 108 ∷ 101 ∷ 98 ∷ 97 ∷ 98 ∷ 98 ∷ 108 ∷ 101 ∷ 121 ∷ 104 ∷ 111 ∷ 111 ∷ 100 ∷ []

-- the values axis, axle, babble and babyhood
abbrev pub four_words : List (List ℕ)
four_words = (97 ∷ 120 ∷ 105 ∷ 115 ∷ []) ∷ (97 ∷ 120 ∷ 108 ∷ 101 ∷ []) ∷ (98 ∷ 97 ∷ 98 ∷ 98 ∷ 108 ∷ 101 ∷ []) ∷ (98 ∷ 97 ∷ 98 ∷ 121 ∷ 104 ∷ 111 ∷ 111 ∷ 100 ∷ []) ∷ []
