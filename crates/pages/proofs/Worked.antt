-- The pages made by hand stand for what they should.
use Rattle.std.proofs.Common.{◌≡◌, ◌∙◌, ℕ, zero, suc, ◌+◌, ◌*◌, ◌<◌, ◌≤◌, List, [], ◌∷◌, length, take, drop, refl, sym, ap, subst, arith, inl, inr, pos, Option, Some, None, false}
use Rattle.std.specs.Prelude.{slice_index, slice_range}
use Rattle.std.specs.List.{AllByRecursion, concat}
use Rattle.std.proofs.lemmas.List.Elements.{All-from_recursion}
use Rattle.bits.specs.Bits.{bits, number, IsPacked}
use Rattle.bits.specs.Varint.{IsUleb}
use Rattle.thrift_compact.specs.Tree.{Fields, no_fields, field, no, i32, struct, fields_nest}
use Rattle.thrift_compact.specs.Compact.{IsByte, AreFields, IsThrift}
use Rattle.schema.specs.declared.value.Kind.TheVariants.{ByteArray, Int32}
use Rattle.schema.specs.declared.value.Repetition.TheVariants.{Optional, Repeated}
use Rattle.schema.specs.Values.{ValueTree, integer, bytes}
use Rattle.schema.specs.Law.{IsEntryOf}
use Rattle.plain.specs.Plain.{IsPlain}
use Rattle.hybrid_rle.specs.Hybrid.{IsRun, IsHybrid}
use Rattle.metadata.specs.Records.{PageHeader, DataPageHeaderV2, DictionaryPageHeader}
use Rattle.metadata.specs.FromTree.{page_header}
use Rattle.metadata.specs.Answers.{StandsFor}
use Rattle.pages.specs.declared.encoding.Encoding.TheVariants.{Plain}
use Rattle.pages.specs.declared.page_version.PageVersion.TheVariants.{V1}
use Rattle.pages.specs.Headers.{data_header}
use Rattle.pages.specs.Page.{dictionary, IsPage}
use Rattle.pages.specs.Writing.{StandsAsPage}
use Rattle.pages.specs.Worked.{number_leaf, text_leaf, five_null_six, three_lists, page_of_version_1, page_of_version_2, page_of_texts, page_of_lists}

-- ---- headers

byte : (b : ℕ) (behind : List ℕ) → IsByte (b ∷ behind) b 1
byte b behind = record { some = omega arith; is = refl; one = refl }

one_byte : (n : ℕ) (behind : List ℕ) → n < 128 → IsUleb (n ∷ behind) n 1
one_byte n behind small = record { begins = omega arith; within = omega arith; ten = omega arith; more = λ k below. absurd (omega (arith, below)); last = small; number = omega (arith, small); fits = omega (arith, small) }

-- numbers in the fields behind one, each with the next id
abbrev number_fields : ℕ → List ℕ → Fields → Fields
number_fields before [] fs = fs
number_fields before (n ∷ ns) fs = field (pos (before + 1)) (i32 (pos n)) (number_fields (before + 1) ns fs)

abbrev last_id : ℕ → List ℕ → ℕ
last_id before [] = before
last_id before (n ∷ ns) = last_id (before + 1) ns

abbrev number_bytes : List ℕ → List ℕ → List ℕ
number_bytes [] behind = behind
number_bytes (n ∷ ns) behind = 21 ∷ 2 * n ∷ number_bytes ns behind

abbrev number_size : List ℕ → ℕ → ℕ
number_size [] size = size
number_size (n ∷ ns) size = 2 + number_size ns size

numbers_then : (ns : List ℕ) (before size : ℕ) (fs : Fields) (behind : List ℕ) → AllByRecursion (λ n. n < 64) ns → before + length ns < 100 → AreFields fs (pos (last_id before ns)) behind size
    → AreFields (number_fields before ns fs) (pos before) (number_bytes ns behind) (number_size ns size)
numbers_then [] before size fs behind small few h = h
numbers_then (n ∷ ns) before size fs behind small few h = (
  1,
  1,
  number_size ns size,
  (omega arith, omega arith, omega (arith, few), inl (record { step = 1; low = omega arith; high = omega arith; byte = byte 21 (2 * n ∷ number_bytes ns behind); is = refl })),
  (one_byte (2 * n) (number_bytes ns behind) (omega (arith, small.0)), omega (arith, small.0)),
  numbers_then ns (before + 1) size fs behind small.1 (omega (arith, few)) h,
  refl,
)

-- the type, the size twice, and the struct of this type
abbrev header_fields : ℕ → ℕ → ℕ → Fields → Fields
header_fields kind size step own = number_fields 0 (kind ∷ size ∷ size ∷ []) (field (pos (3 + step)) (struct own) no_fields)

abbrev header_bytes : ℕ → ℕ → ℕ → List ℕ → List ℕ
header_bytes kind size step text = number_bytes (kind ∷ size ∷ size ∷ []) ((16 * step + 12) ∷ text)

header_is : (kind size step used : ℕ) (own : Fields) (text behind : List ℕ) → kind < 64 → size < 64 → 1 ≤ step → step ≤ 15 → AreFields own (pos 0) text used → drop used text ≡ 0 ∷ behind → fields_nest own ≡ 0
    → IsThrift (header_bytes kind size step text) (header_fields kind size step own) (number_size (kind ∷ size ∷ size ∷ []) (2 + used))
header_is kind size step used own text behind small few low high h ends flat =
    let next : 1 + used ≡ suc used = omega arith in
    let past : drop (1 + used) ((16 * step + 12) ∷ text) ≡ 0 ∷ behind = ap (λ (n : ℕ). drop n ((16 * step + 12) ∷ text)) next ∙ ends in
    record {
      spelled = numbers_then (kind ∷ size ∷ size ∷ []) 0 (2 + used) (field (pos (3 + step)) (struct own) no_fields) ((16 * step + 12) ∷ text) (small, (few, (few, tt))) (omega arith) (
        1,
        used,
        1,
        (omega arith, omega arith, omega (arith, high), inl (record { step = step; low = low; high = high; byte = byte (16 * step + 12) text; is = refl })),
        h,
        subst (λ t. IsByte t 0 1) (sym past) (byte 0 behind),
        omega arith,
      );
      shallow = omega (arith, flat);
    }

-- that of a page of version 1
abbrev written_header : ℕ → ℕ → PageHeader
written_header size count = data_header V1 Plain count 0 0 size 0 0

header_v1 : (size count : ℕ) (body : List ℕ) → size < 64 → count < 64 → StandsFor page_header (header_bytes 0 size 2 (number_bytes (count ∷ 0 ∷ 3 ∷ 3 ∷ []) (0 ∷ 0 ∷ body))) (written_header size count) 17
header_v1 size count body small few = record {
  fields = header_fields 0 size 2 (number_fields 0 (count ∷ 0 ∷ 3 ∷ 3 ∷ []) no_fields);
  spelled = header_is 0 size 2 9 (number_fields 0 (count ∷ 0 ∷ 3 ∷ 3 ∷ []) no_fields) (number_bytes (count ∷ 0 ∷ 3 ∷ 3 ∷ []) (0 ∷ 0 ∷ body)) body (omega arith) small (omega arith) (omega arith)
      (numbers_then (count ∷ 0 ∷ 3 ∷ 3 ∷ []) 0 1 no_fields (0 ∷ 0 ∷ body) (few, (omega arith, (omega arith, (omega arith, tt)))) (omega arith) (byte 0 (0 ∷ body))) refl refl;
  record_of = refl;
}

abbrev own_v2 : DataPageHeaderV2
own_v2 = record { num_values = pos 3; num_nulls = Some (pos 1); num_rows = Some (pos 3); encoding = pos 0; definition_levels_byte_length = pos 2; repetition_levels_byte_length = pos 0; is_compressed = Some false; statistics = None }

abbrev counts_v2 : List ℕ
counts_v2 = 3 ∷ 1 ∷ 3 ∷ 0 ∷ 2 ∷ 0 ∷ []

header_v2 : (body : List ℕ)
    → StandsFor page_header (header_bytes 3 10 5 (number_bytes counts_v2 (18 ∷ 0 ∷ 0 ∷ body)))
    (record { kind = pos 3; uncompressed_page_size = Some (pos 10); compressed_page_size = pos 10; crc = None; data_page_header = None; dictionary_page_header = None; data_page_header_v2 = Some own_v2 }) 22
header_v2 body = record {
  fields = header_fields 3 10 5 (number_fields 0 counts_v2 (field (pos 7) no no_fields));
  spelled = header_is 3 10 5 14 (number_fields 0 counts_v2 (field (pos 7) no no_fields)) (number_bytes counts_v2 (18 ∷ 0 ∷ 0 ∷ body)) body (omega arith) (omega arith) (omega arith) (omega arith)
      (numbers_then counts_v2 0 2 (field (pos 7) no no_fields) (18 ∷ 0 ∷ 0 ∷ body) (omega arith, (omega arith, (omega arith, (omega arith, (omega arith, (omega arith, tt)))))) (omega arith)
      (1, 0, 1, (omega arith, omega arith, omega arith, inl (record { step = 1; low = omega arith; high = omega arith; byte = byte 18 (0 ∷ 0 ∷ body); is = refl })), refl, byte 0 (0 ∷ body), refl)) refl refl;
  record_of = refl;
}

abbrev own_of_dictionary : DictionaryPageHeader
own_of_dictionary = record { num_values = pos 2; encoding = pos 0; is_sorted = None }

header_of_dictionary : (body : List ℕ)
    → StandsFor page_header (header_bytes 2 10 4 (number_bytes (2 ∷ 0 ∷ []) (0 ∷ 0 ∷ body)))
    (record { kind = pos 2; uncompressed_page_size = Some (pos 10); compressed_page_size = pos 10; crc = None; data_page_header = None; dictionary_page_header = Some own_of_dictionary; data_page_header_v2 = None }) 13
header_of_dictionary body = record {
  fields = header_fields 2 10 4 (number_fields 0 (2 ∷ 0 ∷ []) no_fields);
  spelled = header_is 2 10 4 5 (number_fields 0 (2 ∷ 0 ∷ []) no_fields) (number_bytes (2 ∷ 0 ∷ []) (0 ∷ 0 ∷ body)) body (omega arith) (omega arith) (omega arith) (omega arith)
      (numbers_then (2 ∷ 0 ∷ []) 0 1 no_fields (0 ∷ 0 ∷ body) (omega arith, (omega arith, tt)) (omega arith) (byte 0 (0 ∷ body))) refl refl;
  record_of = refl;
}

-- ---- levels of one bit

one_group : (b : ℕ) → IsPacked (b ∷ []) 1 (bits (b ∷ []))
one_group b = record { within = omega arith; each = each }
  where
    each : (i : ℕ) → i < 8 → slice_index (bits (b ∷ [])) i ≡ number (slice_range (bits (b ∷ [])) (i * 1) ((i + 1) * 1))
    each zero lt = omega arith
    each (suc zero) lt = omega arith
    each (suc (suc zero)) lt = omega arith
    each (suc (suc (suc zero))) lt = omega arith
    each (suc (suc (suc (suc zero)))) lt = omega arith
    each (suc (suc (suc (suc (suc zero))))) lt = omega arith
    each (suc (suc (suc (suc (suc (suc zero)))))) lt = omega arith
    each (suc (suc (suc (suc (suc (suc (suc zero))))))) lt = omega arith
    each (suc (suc (suc (suc (suc (suc (suc (suc i)))))))) lt = absurd (omega (arith, lt))

packed_run : (b : ℕ) (rest : List ℕ) → IsRun 1 (3 ∷ b ∷ []) rest (bits (b ∷ []))
packed_run b rest = record {
  varint = 3 ∷ [];
  header = 3;
  body = b ∷ [];
  spelled = refl;
  says = one_byte 3 [] (omega arith);
  announced = inr (inl (record { groups = 1; odd = refl; size = refl; count = refl; stands_for = one_group b }));
}

-- the first n of one group
one_packed : (b n : ℕ) → 1 ≤ n → n ≤ 8 → IsHybrid 1 (3 ∷ b ∷ []) n (take n (bits (b ∷ []))) 2
one_packed b n some few = record {
  runs = bits (b ∷ []) ∷ [];
  text = 3 ∷ b ∷ [];
  rest = [];
  front = refl;
  spelled = (3 ∷ b ∷ [], [], refl, packed_run b [], refl);
  enough = omega (arith, few);
  shortest = λ k lt. let z : k ≡ 0 = omega (arith, lt) in rw z (omega (arith, some));
  first = refl;
  ends = refl;
}

two_ones : (rest : List ℕ) → IsRun 1 (4 ∷ 1 ∷ []) rest (1 ∷ 1 ∷ [])
two_ones rest = record {
  varint = 4 ∷ [];
  header = 4;
  body = 1 ∷ [];
  spelled = refl;
  says = one_byte 4 [] (omega arith);
  announced = inl (record { count = 2; even = refl; size = refl; narrow = omega arith; stands_for = refl });
}

-- two ones, and the first two of a group
two_runs : IsHybrid 1 (4 ∷ 1 ∷ 3 ∷ 2 ∷ []) 4 (1 ∷ 1 ∷ 0 ∷ 1 ∷ []) 4
two_runs = record {
  runs = (1 ∷ 1 ∷ []) ∷ bits (2 ∷ []) ∷ [];
  text = 4 ∷ 1 ∷ 3 ∷ 2 ∷ [];
  rest = [];
  front = refl;
  spelled = (4 ∷ 1 ∷ [], 3 ∷ 2 ∷ [], refl, two_ones (3 ∷ 2 ∷ []), (3 ∷ 2 ∷ [], [], refl, packed_run 2 [], refl));
  enough = omega arith;
  shortest = shortest;
  first = refl;
  ends = refl;
}
  where
    shortest : (k : ℕ) → k < 2 → length (concat (take k ((1 ∷ 1 ∷ []) ∷ bits (2 ∷ []) ∷ []))) < 4
    shortest zero lt = omega arith
    shortest (suc zero) lt = omega arith
    shortest (suc (suc k)) lt = absurd (omega (arith, lt))

-- ---- values

five_six : IsPlain Int32 2 (5 ∷ 0 ∷ 0 ∷ 0 ∷ 6 ∷ 0 ∷ 0 ∷ 0 ∷ []) (integer (pos 5) ∷ integer (pos 6) ∷ []) 8
five_six = (
  refl,
  (
    4,
    4,
    record { has = omega arith; rest = 6 ∷ 0 ∷ 0 ∷ 0 ∷ []; front = refl; ends = refl },
    (4, 0, record { has = omega arith; rest = []; front = refl; ends = refl }, refl, refl),
    refl,
  ),
)

five_six_seven : IsPlain Int32 3 (5 ∷ 0 ∷ 0 ∷ 0 ∷ 6 ∷ 0 ∷ 0 ∷ 0 ∷ 7 ∷ 0 ∷ 0 ∷ 0 ∷ []) (integer (pos 5) ∷ integer (pos 6) ∷ integer (pos 7) ∷ []) 12
five_six_seven = (
  refl,
  (
    4,
    8,
    record { has = omega arith; rest = 6 ∷ 0 ∷ 0 ∷ 0 ∷ 7 ∷ 0 ∷ 0 ∷ 0 ∷ []; front = refl; ends = refl },
    (
      4,
      4,
      record { has = omega arith; rest = 7 ∷ 0 ∷ 0 ∷ 0 ∷ []; front = refl; ends = refl },
      (4, 0, record { has = omega arith; rest = []; front = refl; ends = refl }, refl, refl),
      refl,
    ),
    refl,
  ),
)

a_and_b : IsPlain ByteArray 2 (1 ∷ 0 ∷ 0 ∷ 0 ∷ 97 ∷ 1 ∷ 0 ∷ 0 ∷ 0 ∷ 98 ∷ []) (bytes (97 ∷ []) ∷ bytes (98 ∷ []) ∷ []) 10
a_and_b = (
  refl,
  (
    5,
    5,
    record { has = (All-from_recursion (λ b. b < 256) (97 ∷ []) (omega arith, tt), omega arith); rest = 1 ∷ 0 ∷ 0 ∷ 0 ∷ 98 ∷ []; front = refl; ends = refl },
    (5, 0, record { has = (All-from_recursion (λ b. b < 256) (98 ∷ []) (omega arith, tt), omega arith); rest = []; front = refl; ends = refl }, refl, refl),
    refl,
  ),
)

-- ---- entries

five_null_six_fit : AllByRecursion (IsEntryOf (number_leaf Optional)) five_null_six
five_null_six_fit = (
  record { repetition = omega arith; definition = omega arith; value = (refl, refl) },
  (record { repetition = omega arith; definition = omega arith; value = omega arith }, (record { repetition = omega arith; definition = omega arith; value = (refl, refl) }, tt)),
)

three_lists_fit : AllByRecursion (IsEntryOf (number_leaf Repeated)) three_lists
three_lists_fit = (
  record { repetition = omega arith; definition = omega arith; value = (refl, refl) },
  (
    record { repetition = omega arith; definition = omega arith; value = (refl, refl) },
    (record { repetition = omega arith; definition = omega arith; value = omega arith }, (record { repetition = omega arith; definition = omega arith; value = (refl, refl) }, tt)),
  ),
)

-- ---- pages

pub version_1 : StandsAsPage (number_leaf Optional) five_null_six page_of_version_1 31
version_1 d = record {
  header = written_header 14 3;
  body = drop 17 page_of_version_1;
  framed = record { header_end = 17; rest = []; begins = header_v1 14 3 (drop 17 page_of_version_1) (omega arith) (omega arith); follows = refl; size = refl; ends = refl };
  stands_for = inl (
    record { num_values = pos 3; encoding = pos 0; definition_level_encoding = Some (pos 3); repetition_level_encoding = Some (pos 3); statistics = None },
    refl,
    refl,
    record {
      text = drop 23 page_of_version_1;
      levels = record {
        count = refl;
        paired = refl;
        between = drop 17 page_of_version_1;
        first = ((refl, (refl, (refl, tt))), refl);
        second = (inr refl, (3 ∷ 5 ∷ [], record { short = omega arith; joined = refl }, record { width = 1; used = 2; holds = omega arith; least = omega arith; packed = one_packed 5 3 (omega arith) (omega arith) }));
      };
      each = five_null_six_fit;
      spelled = inr (8, five_six);
    },
  );
}

pub version_2 : StandsAsPage (number_leaf Optional) five_null_six page_of_version_2 32
version_2 d = record {
  header = record { kind = pos 3; uncompressed_page_size = Some (pos 10); compressed_page_size = pos 10; crc = None; data_page_header = None; dictionary_page_header = None; data_page_header_v2 = Some own_v2 };
  body = drop 22 page_of_version_2;
  framed = record { header_end = 22; rest = []; begins = header_v2 (drop 22 page_of_version_2); follows = refl; size = refl; ends = refl };
  stands_for = inr (
    own_v2,
    refl,
    refl,
    record {
      text = drop 24 page_of_version_2;
      levels = record {
        count = refl;
        paired = refl;
        between = drop 22 page_of_version_2;
        first = ([], refl, refl, (refl, (refl, (refl, tt))));
        second = (3 ∷ 5 ∷ [], refl, refl, record { width = 1; used = 2; holds = omega arith; least = omega arith; packed = one_packed 5 3 (omega arith) (omega arith) });
      };
      each = five_null_six_fit;
      spelled = inr (8, five_six);
    },
  );
}

pub two_texts : (d : Option (List ValueTree)) → IsPage text_leaf d page_of_texts (dictionary (bytes (97 ∷ []) ∷ bytes (98 ∷ []) ∷ [])) 23
two_texts d = record {
  header = record { kind = pos 2; uncompressed_page_size = Some (pos 10); compressed_page_size = pos 10; crc = None; data_page_header = None; dictionary_page_header = Some own_of_dictionary; data_page_header_v2 = None };
  body = drop 13 page_of_texts;
  framed = record { header_end = 13; rest = []; begins = header_of_dictionary (drop 13 page_of_texts); follows = refl; size = refl; ends = refl };
  stands_for = (own_of_dictionary, refl, refl, record { count = refl; encoding = inl refl; spelled = (10, a_and_b) });
}

pub lists : StandsAsPage (number_leaf Repeated) three_lists page_of_lists 43
lists d = record {
  header = written_header 26 4;
  body = drop 17 page_of_lists;
  framed = record { header_end = 17; rest = []; begins = header_v1 26 4 (drop 17 page_of_lists) (omega arith) (omega arith); follows = refl; size = refl; ends = refl };
  stands_for = inl (
    record { num_values = pos 4; encoding = pos 0; definition_level_encoding = Some (pos 3); repetition_level_encoding = Some (pos 3); statistics = None },
    refl,
    refl,
    record {
      text = drop 31 page_of_lists;
      levels = record {
        count = refl;
        paired = refl;
        between = drop 23 page_of_lists;
        first = (inr refl, (3 ∷ 2 ∷ [], record { short = omega arith; joined = refl }, record { width = 1; used = 2; holds = omega arith; least = omega arith; packed = one_packed 2 4 (omega arith) (omega arith) }));
        second = (inr refl, (4 ∷ 1 ∷ 3 ∷ 2 ∷ [], record { short = omega arith; joined = refl }, record { width = 1; used = 4; holds = omega arith; least = omega arith; packed = two_runs }));
      };
      each = three_lists_fit;
      spelled = inr (12, five_six_seven);
    },
  );
}
