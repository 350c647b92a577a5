-- Worked examples.
use Rattle.std.proofs.Common.{◌≡◌, ℕ, zero, suc, ◌<◌, List, [], ◌∷◌, refl, ap, arith, inl, inr, get_or}
use Rattle.std.specs.Prelude.{All, Contains}
use Rattle.bits.specs.Varint.{IsUleb}
use Rattle.bits.specs.Codec.{NothingStands}
use Rattle.hybrid_rle.specs.Hybrid.{IsHybrid}
use Rattle.hybrid_rle.proofs.Packed.{unpacked_is}
use Rattle.schema.specs.declared.value.Kind.TheVariants.{ByteArray}
use Rattle.schema.specs.Values.{ValueTree, bytes}
use Rattle.plain.specs.Plain.{IsPlain}
use Rattle.dictionary.specs.Entries.{IsIndexed}
use Rattle.dictionary.specs.IndexPages.{IsIndexPage, AreIndexed}
use Rattle.dictionary.proofs.Pages.{past_the_end}
use Rattle.dictionary.proofs.Growing.{none_indexed, indexed_more}

abbrev a : ValueTree
a = bytes (97 ∷ [])

abbrev b : ValueTree
b = bytes (98 ∷ [])

abbrev page : List ℕ
page = 1 ∷ 0 ∷ 0 ∷ 0 ∷ 97 ∷ 1 ∷ 0 ∷ 0 ∷ 0 ∷ 98 ∷ []

one_byte : (n : ℕ) → n < 256 → All (λ x. x < 256) (n ∷ [])
one_byte n lt zero d k = lt
one_byte n lt (suc i) d k = absurd (omega arith)

-- two byte arrays, a and b
pub page_of_two : IsPlain ByteArray 2 page (a ∷ b ∷ []) 10
page_of_two = (
  refl,
  (
    5,
    5,
    record { has = (one_byte 97 (omega arith), omega arith); rest = 1 ∷ 0 ∷ 0 ∷ 0 ∷ 98 ∷ []; front = refl; ends = refl },
    (5, 0, record { has = (one_byte 98 (omega arith), omega arith); rest = []; front = refl; ends = refl }, refl, refl),
    refl,
  ),
)

short_header : (h : ℕ) → h < 128 → IsUleb (h ∷ []) h 1
short_header h lt = record { begins = omega arith; within = omega arith; ten = omega arith; more = λ k below. absurd (omega arith); last = lt; number = omega arith; fits = omega arith }

-- width 1, 03 02: one group of packed numbers, of which the second is 1
three_indexes : IsHybrid 1 (3 ∷ 2 ∷ []) 3 (0 ∷ 1 ∷ 0 ∷ []) 2
three_indexes = record {
  runs = (0 ∷ 1 ∷ 0 ∷ 0 ∷ 0 ∷ 0 ∷ 0 ∷ 0 ∷ []) ∷ [];
  text = 3 ∷ 2 ∷ [];
  rest = [];
  front = refl;
  spelled = (
    3 ∷ 2 ∷ [],
    [],
    refl,
    record {
      varint = 3 ∷ [];
      header = 3;
      body = 2 ∷ [];
      spelled = refl;
      says = short_header 3 (omega arith);
      announced = inr (inl (record { groups = 1; odd = refl; size = refl; count = refl; stands_for = unpacked_is 1 8 (2 ∷ []) (omega arith) }));
    },
    refl,
  );
  enough = omega arith;
  shortest = λ k lt. let z : k ≡ 0 = omega arith in rw z (omega arith);
  first = refl;
  ends = refl;
}

below_two : All (λ i. i < 2) (0 ∷ 1 ∷ 0 ∷ [])
below_two zero d k = omega arith
below_two (suc zero) d k = omega arith
below_two (suc (suc zero)) d k = omega arith
below_two (suc (suc (suc i))) d k = absurd (omega arith)

-- 01 03 02: a, b, a
pub three_values : AreIndexed (a ∷ b ∷ []) (1 ∷ 3 ∷ 2 ∷ []) 3 (a ∷ b ∷ a ∷ []) 3
three_values = record {
  indexes = 0 ∷ 1 ∷ 0 ∷ [];
  stand = record { width = 1; rest = 3 ∷ 2 ∷ []; taken = 2; begins = refl; narrow = omega arith; are = three_indexes; within = below_two; ends = refl };
  are = refl;
}

-- over a alone, 1 is past the end
pub not_past_the_end : NothingStands (IsIndexPage 1 (1 ∷ 3 ∷ 2 ∷ []) 3)
not_past_the_end = past_the_end 1 3 1 2 (1 ∷ 3 ∷ 2 ∷ []) (3 ∷ 2 ∷ []) (0 ∷ 1 ∷ 0 ∷ []) refl three_indexes (λ all. let bad : 1 < 1 = all 1 0 (omega arith) in omega arith)

below_one : All (λ i. i < 1) (0 ∷ 0 ∷ 0 ∷ [])
below_one zero d k = omega arith
below_one (suc zero) d k = omega arith
below_one (suc (suc zero)) d k = omega arith
below_one (suc (suc (suc i))) d k = absurd (omega arith)

-- width 0: a, a, a
pub same_values : AreIndexed (a ∷ []) (0 ∷ []) 3 (a ∷ a ∷ a ∷ []) 1
same_values = record {
  indexes = 0 ∷ 0 ∷ 0 ∷ [];
  stand = record { width = 0; rest = []; taken = 0; begins = refl; narrow = omega arith; are = (refl, refl); within = below_one; ends = refl };
  are = refl;
}

in_none : (v : ValueTree) → Contains [] v → ⊥
in_none v c = omega (arith, c.1)

text_of : ValueTree → List ℕ
text_of (bytes text) = text
text_of _ = []

a_is_not_b : b ≡ a → ⊥
unfolding text_of
a_is_not_b h = let e : 98 ≡ 97 = ap (λ v. get_or (text_of v) 0 0) h in omega (arith, e)

only_one : (v w : ValueTree) → Contains (v ∷ []) w → v ≡ w
only_one v w (zero, lt, is) = is
only_one v w (suc k, lt, is) = absurd (omega (arith, lt))

-- b, a, b: the entries are b and a
pub indexed_three : IsIndexed (b ∷ a ∷ b ∷ []) (b ∷ a ∷ []) (0 ∷ 1 ∷ 0 ∷ [])
indexed_three =
    let one = indexed_more [] [] [] b 0 (b ∷ []) none_indexed (record { there = refl; grown = inr (in_none b, refl) }) in
    let two = indexed_more (b ∷ []) (b ∷ []) (0 ∷ []) a 1 (b ∷ a ∷ []) one (record { there = refl; grown = inr (λ c. a_is_not_b (only_one b a c), refl) }) in
    indexed_more (b ∷ a ∷ []) (b ∷ a ∷ []) (0 ∷ 1 ∷ []) b 0 (b ∷ a ∷ []) two (record { there = refl; grown = inl refl })
