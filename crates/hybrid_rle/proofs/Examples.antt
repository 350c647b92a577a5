-- Worked examples.
use Rattle.std.proofs.Common.{◌≡◌, ℕ, ◌<◌, List, [], ◌∷◌, replicate, refl, arith, inl, inr}
use Rattle.bits.specs.Varint.{IsUleb}
use Rattle.bits.specs.Codec.{NothingStands}
use Rattle.bits.proofs.Facts.{one_uleb, uleb_stays}
use Rattle.hybrid_rle.specs.Hybrid.{IsRun, IsHybrid}
use Rattle.hybrid_rle.proofs.Packed.{unpacked_is}
use Rattle.hybrid_rle.proofs.Taking.{repeated_lacks, run_lacks}
use Rattle.hybrid_rle.proofs.Hybrids.{reading_begins, reading_fails, nothing_after, nothing_in_none}

short_header : (h : ℕ) → h < 128 → IsUleb (h ∷ []) h 1
short_header h lt = record { begins = omega arith; within = omega arith; ten = omega arith; more = λ k below. absurd (omega arith); last = lt; number = omega arith; fits = omega arith }

abbrev eight : List ℕ
eight = 3 ∷ 136 ∷ 198 ∷ 250 ∷ []

abbrev to_seven : List ℕ
to_seven = 0 ∷ 1 ∷ 2 ∷ 3 ∷ 4 ∷ 5 ∷ 6 ∷ 7 ∷ []

eight_run : IsRun 3 eight [] to_seven
eight_run = record {
  varint = 3 ∷ [];
  header = 3;
  body = 136 ∷ 198 ∷ 250 ∷ [];
  spelled = refl;
  says = short_header 3 (omega arith);
  announced = inr (inl (record { groups = 1; odd = refl; size = refl; count = refl; stands_for = unpacked_is 3 8 (136 ∷ 198 ∷ 250 ∷ []) (omega arith) }));
}

-- width 3, 03 88 C6 FA, eight values: 0 to 7
pub eight_values : IsHybrid 3 eight 8 to_seven 4
eight_values = record {
  runs = to_seven ∷ [];
  text = eight;
  rest = [];
  front = refl;
  spelled = (eight, [], refl, eight_run, refl);
  enough = omega arith;
  shortest = λ k lt. let z : k ≡ 0 = omega arith in rw z (omega arith);
  first = refl;
  ends = refl;
}

-- the first five of them: 0 to 4
pub five_values : IsHybrid 3 eight 5 (0 ∷ 1 ∷ 2 ∷ 3 ∷ 4 ∷ []) 4
five_values = record {
  runs = to_seven ∷ [];
  text = eight;
  rest = [];
  front = refl;
  spelled = (eight, [], refl, eight_run, refl);
  enough = omega arith;
  shortest = λ k lt. let z : k ≡ 0 = omega arith in rw z (omega arith);
  first = refl;
  ends = refl;
}

-- nine are not there
pub not_nine : NothingStands (IsHybrid 3 eight 9)
not_nine = nothing_after 3 9 eight [] to_seven (omega arith) eight_run (λ values used p. nothing_in_none 3 1 used values (omega arith) p)

abbrev to_four : List ℕ
to_four = 0 ∷ 1 ∷ 2 ∷ 3 ∷ 4 ∷ []

cut_run : IsRun 3 (3 ∷ 136 ∷ 198 ∷ []) [] to_four
cut_run = record {
  varint = 3 ∷ [];
  header = 3;
  body = 136 ∷ 198 ∷ [];
  spelled = refl;
  says = short_header 3 (omega arith);
  announced = inr (inr (refl, record { groups = 1; odd = refl; short = omega arith; stands_for = unpacked_is 3 5 (136 ∷ 198 ∷ []) (omega arith); every = omega arith }));
}

-- 03 88 C6, cut: five values are there whole
pub cut_values : IsHybrid 3 (3 ∷ 136 ∷ 198 ∷ []) 5 to_four 3
cut_values = record {
  runs = to_four ∷ [];
  text = 3 ∷ 136 ∷ 198 ∷ [];
  rest = [];
  front = refl;
  spelled = (3 ∷ 136 ∷ 198 ∷ [], [], refl, cut_run, refl);
  enough = omega arith;
  shortest = λ k lt. let z : k ≡ 0 = omega arith in rw z (omega arith);
  first = refl;
  ends = refl;
}

-- and not six
pub not_past_the_cut : NothingStands (IsHybrid 3 (3 ∷ 136 ∷ 198 ∷ []) 6)
not_past_the_cut = nothing_after 3 6 (3 ∷ 136 ∷ 198 ∷ []) [] to_four (omega arith) cut_run (λ values used p. nothing_in_none 3 1 used values (omega arith) p)

-- 05 88 C6 FA 07, two groups, cut: all bytes are the run's, whatever it is read for
pub cut_takes_all : IsHybrid 3 (5 ∷ 136 ∷ 198 ∷ 250 ∷ 7 ∷ []) 8 to_seven 5
cut_takes_all = record {
  runs = (0 ∷ 1 ∷ 2 ∷ 3 ∷ 4 ∷ 5 ∷ 6 ∷ 7 ∷ 7 ∷ 0 ∷ []) ∷ [];
  text = 5 ∷ 136 ∷ 198 ∷ 250 ∷ 7 ∷ [];
  rest = [];
  front = refl;
  spelled = (
    5 ∷ 136 ∷ 198 ∷ 250 ∷ 7 ∷ [],
    [],
    refl,
    record {
      varint = 5 ∷ [];
      header = 5;
      body = 136 ∷ 198 ∷ 250 ∷ 7 ∷ [];
      spelled = refl;
      says = short_header 5 (omega arith);
      announced = inr (inr (refl, record { groups = 2; odd = refl; short = omega arith; stands_for = unpacked_is 3 10 (136 ∷ 198 ∷ 250 ∷ 7 ∷ []) (omega arith); every = omega arith }));
    },
    refl,
  );
  enough = omega arith;
  shortest = λ k lt. let z : k ≡ 0 = omega arith in rw z (omega arith);
  first = refl;
  ends = refl;
}

-- 06 2C 01: 300, three times, in two bytes
pub two_bytes : IsHybrid 9 (6 ∷ 44 ∷ 1 ∷ []) 3 (300 ∷ 300 ∷ 300 ∷ []) 3
two_bytes = record {
  runs = (300 ∷ 300 ∷ 300 ∷ []) ∷ [];
  text = 6 ∷ 44 ∷ 1 ∷ [];
  rest = [];
  front = refl;
  spelled = (
    6 ∷ 44 ∷ 1 ∷ [],
    [],
    refl,
    record {
      varint = 6 ∷ [];
      header = 6;
      body = 44 ∷ 1 ∷ [];
      spelled = refl;
      says = short_header 6 (omega arith);
      announced = inl (record { count = 3; even = refl; size = refl; narrow = omega arith; stands_for = refl });
    },
    refl,
  );
  enough = omega arith;
  shortest = λ k lt. let z : k ≡ 0 = omega arith in rw z (omega arith);
  first = refl;
  ends = refl;
}

-- 00 02, a value of two bits no times, before a one: it is too wide all the same
pub too_wide : NothingStands (IsHybrid 1 (0 ∷ 2 ∷ 2 ∷ 1 ∷ []) 1)
too_wide =
    reading_fails 1 1 0 (0 ∷ 2 ∷ 2 ∷ 1 ∷ []) [] (omega arith) (reading_begins 1 (0 ∷ 2 ∷ 2 ∷ 1 ∷ []) 1)
    (run_lacks 1 0 1 1 (0 ∷ 2 ∷ 2 ∷ 1 ∷ []) (λ n used p. one_uleb (0 ∷ 2 ∷ 2 ∷ 1 ∷ []) n 0 used 1 p (uleb_stays (0 ∷ []) (2 ∷ 2 ∷ 1 ∷ []) 0 1 (short_header 0 (omega arith))))
    (repeated_lacks 1 0 1 (2 ∷ 2 ∷ 1 ∷ []) refl (λ within narrow. omega arith)))

abbrev hundred : List ℕ
hundred = 200 ∷ 1 ∷ 1 ∷ []

two_groups : IsUleb (200 ∷ 1 ∷ []) 200 2
two_groups = record { begins = omega arith; within = omega arith; ten = omega arith; more = λ k lt. let z : k ≡ 0 = omega arith in rw z (omega arith); last = omega arith; number = refl; fits = omega arith }

-- width 1, C8 01 01, a hundred values: ones
pub hundred_ones : IsHybrid 1 hundred 100 (replicate 100 1) 3
hundred_ones = record {
  runs = replicate 100 1 ∷ [];
  text = hundred;
  rest = [];
  front = refl;
  spelled = (
    hundred,
    [],
    refl,
    record {
      varint = 200 ∷ 1 ∷ [];
      header = 200;
      body = 1 ∷ [];
      spelled = refl;
      says = two_groups;
      announced = inl (record { count = 100; even = refl; size = refl; narrow = omega arith; stands_for = refl });
    },
    refl,
  );
  enough = omega arith;
  shortest = λ k lt. let z : k ≡ 0 = omega arith in rw z (omega arith);
  first = refl;
  ends = refl;
}
