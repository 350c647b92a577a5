-- The groups of a file as lists of numbers, by which a proof tells two files' groups apart.
use Rattle.std.specs.Prelude.{ℕ, ℤ, Bool, List, Option, refl}
use Rattle.std.specs.Coded.{Coded, code_by, coded×, coded_ℕ, coded_ℤ, coded_bool, coded_list, coded_option}
use Rattle.schema.specs.Shape.{Fields}
use Rattle.schema.specs.inner.Code.{fields_code}
use Rattle.metadata.specs.Records.{Statistics, ColumnMeta, ChunkMeta, GroupMeta}
use Rattle.footer.specs.Held.{FileGroups}

-- the code of bytes that may be absent
abbrev pub text_code : Coded (Option (List ℕ))
text_code = coded_option (coded_list coded_ℕ)

-- the code of a number that may be absent
abbrev pub number_code : Coded (Option ℤ)
number_code = coded_option coded_ℤ

-- the code of a flag that may be absent
abbrev pub flag_code : Coded (Option Bool)
flag_code = coded_option coded_bool

-- a pair of values of one type
abbrev pub Two : Type 0 → Type 0
Two A = A × A

-- the code of a chunk's statistics
abbrev pub statistics_code : Coded Statistics
statistics_code =
    code_by (Two (Two (Option (List ℕ))) × (Two (Option ℤ) × Two (Option Bool)))
    (coded× (coded× (coded× text_code text_code) (coded× text_code text_code)) (coded× (coded× number_code number_code) (coded× flag_code flag_code)))
    (λ s. (((s.max, s.min), (s.max_value, s.min_value)), ((s.null_count, s.distinct_count), (s.is_max_value_exact, s.is_min_value_exact))))
    (λ p. record { max = p.0.0.0; min = p.0.0.1; null_count = p.1.0.0; distinct_count = p.1.0.1; max_value = p.0.1.0; min_value = p.0.1.1; is_max_value_exact = p.1.1.0; is_min_value_exact = p.1.1.1 })
    (λ _. refl)

-- the code of the metadata of a chunk
abbrev pub column_code : Coded ColumnMeta
column_code =
    code_by ((Two (Two ℤ) × (Two (Option ℤ) × Option ℤ)) × ((Option (List ℤ) × List (List ℕ)) × Option Statistics))
    (coded× (coded× (coded× (coded× coded_ℤ coded_ℤ) (coded× coded_ℤ coded_ℤ)) (coded× (coded× number_code number_code) number_code))
    (coded× (coded× (coded_option (coded_list coded_ℤ)) (coded_list (coded_list coded_ℕ))) (coded_option statistics_code)))
    (λ c. ((((c.kind, c.codec), (c.num_values, c.data_page_offset)), ((c.total_uncompressed_size, c.total_compressed_size), c.dictionary_page_offset)), ((c.encodings, c.path_in_schema), c.statistics)))
    (λ p. record { kind = p.0.0.0.0; encodings = p.1.0.0; path_in_schema = p.1.0.1; codec = p.0.0.0.1; num_values = p.0.0.1.0; total_uncompressed_size = p.0.1.0.0; total_compressed_size = p.0.1.0.1; data_page_offset = p.0.0.1.1; dictionary_page_offset = p.0.1.1; statistics = p.1.1 })
    (λ _. refl)

-- the code of the record of a chunk
abbrev pub chunk_code : Coded ChunkMeta
chunk_code =
    code_by (Option (List ℕ) × (Option ℤ × ColumnMeta)) (coded× text_code (coded× number_code column_code))
    (λ c. (c.file_path, (c.file_offset, c.meta_data))) (λ p. record { file_path = p.0; file_offset = p.1.0; meta_data = p.1.1 }) (λ _. refl)

-- the code of the record of a row group
abbrev pub group_code : Coded GroupMeta
group_code =
    code_by (List ChunkMeta × (Option ℤ × ℤ)) (coded× (coded_list chunk_code) (coded× number_code coded_ℤ))
    (λ g. (g.columns, (g.total_byte_size, g.num_rows))) (λ p. record { columns = p.0; total_byte_size = p.1.0; num_rows = p.1.1 }) (λ _. refl)

-- the code of the groups of a file: of the bytes before the footer, the schema, and the records of the groups
abbrev pub file_groups_code : Coded FileGroups
file_groups_code =
    code_by (List ℕ × (Fields × List GroupMeta)) (coded× (coded_list coded_ℕ) (coded× fields_code (coded_list group_code)))
    (λ f. (f.front, (f.schema, f.groups))) (λ p. record { front = p.0; schema = p.1.0; groups = p.1.1 }) (λ _. refl)
