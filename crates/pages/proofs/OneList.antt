-- The values in a text, and the levels in a section, are one list of so many.
use Rattle.std.proofs.Common.{◌≡◌, ℕ, zero, suc, ◌*◌, ◌^◌, ◌<◌, ◌≤◌, Bool, List, [], ◌∷◌, ◌++◌, map, length, take, drop, Option, Some, refl, sym, ap, subst, ◌∙◌, arith, append_assoc, inl, inr}
use Rattle.std.specs.Prelude.{ℤ}
use Rattle.std.specs.Int.{Width, w32, w64, from_bool}
use Rattle.std.specs.List.{AllByRecursion}
use Rattle.std.proofs.lemmas.List.{length-map, take_at, drop_at}
use Rattle.std.proofs.lemmas.Bool.{cases_lt}
use Rattle.std.proofs.Math.Nat.{pow-le-pow_right}
use Rattle.std.proofs.Common.{pow-suc}
use Rattle.lists.proofs.Lists.{same_by_bits as bits_one}
use Rattle.byteorder.specs.Endian.{little_bytes, little_number}
use Rattle.byteorder.specs.Numbers.{little_number-reads_back}
use Rattle.bits.specs.Codec.{IsFunctional}
use Rattle.hybrid_rle.specs.Hybrid.{IsHybrid}
use Rattle.delta.specs.Delta.{IsDelta}
use Rattle.delta.specs.ByteDeltas.{IsByteLengths, IsPrefixed as IsSharedPrefixes, StandForBytes}
use Rattle.dictionary.specs.IndexPages.{AreIndexed}
use Rattle.schema.specs.declared.value.Kind.{Kind}
use Rattle.schema.specs.declared.value.Kind.TheVariants.{Boolean, Int32, Int64, ByteArray, FixedLenByteArray}
use Rattle.schema.specs.Values.{ValueTree, boolean, integer, bytes as byte_value}
use Rattle.plain.specs.Plain.{IsPlain}
use Rattle.plain.specs.Split.{IsSplit}
use Rattle.pages.specs.declared.encoding.Encoding.{Encoding}
use Rattle.pages.specs.declared.encoding.Encoding.TheVariants.{Plain, PlainDictionary, Rle, DeltaBinaryPacked, DeltaLengthByteArray, DeltaByteArray, RleDictionary, ByteStreamSplit}
use Rattle.pages.specs.Encodings.{IsPrefixed, AreRleBooleans, AreOfDictionary, AreDeltas, AreValues}
use Rattle.pages.specs.Page.{AreLevels, AreLevelsOrZero, IsSectionV1, IsSectionV2, Spell}

-- at most one list of so many PLAIN values, and of so many numbers by the hybrid
abbrev pub PlainsAreOne : Type 0
PlainsAreOne = (kind : Kind) (n : ℕ) → IsFunctional (IsPlain kind n)

abbrev pub HybridsAreOne : Type 0
HybridsAreOne = (width n : ℕ) → IsFunctional (λ bytes. IsHybrid width bytes n)

-- and of so many values of a dictionary, and of so many numbers as deltas
abbrev pub IndexedAreOne : Type 0
IndexedAreOne = (entries : List ValueTree) (n : ℕ) → IsFunctional (λ bytes. AreIndexed entries bytes n)

abbrev pub DeltasAreOne : Type 0
DeltasAreOne = (w : Width) (n : ℕ) → IsFunctional (λ bytes. IsDelta w bytes n)

-- what the crates of the encodings prove
pub record ListsAreOne : Type 0 where
  pub plain : PlainsAreOne
  pub split : (kind : Kind) (n : ℕ) → IsFunctional (IsSplit kind n)
  pub hybrid : HybridsAreOne
  pub indexed : IndexedAreOne
  pub deltas : DeltasAreOne
  pub lengths : (n : ℕ) → IsFunctional (λ bytes. IsByteLengths bytes n)
  pub prefixes : (n : ℕ) → IsFunctional (λ bytes. IsSharedPrefixes bytes n)

-- ---- lists

-- two fronts of one length, of the same bytes
pub one_front : (a b r s : List ℕ) → length a ≡ length b → a ++ r ≡ b ++ s → (a ≡ b) × (r ≡ s)
one_front a b r s size same = (
  sym (take_at a r (length a) refl) ∙ ap (take (length a)) same ∙ take_at b s (length a) (sym size),
  sym (drop_at a r (length a) refl) ∙ ap (drop (length a)) same ∙ drop_at b s (length a) (sym size),
)

pub one_prefix : (text a b r s : List ℕ) → IsPrefixed text a r → IsPrefixed text b s → (a ≡ b) × (r ≡ s)
one_prefix text a b r s p q =
    let x : text ≡ little_bytes 4 (length a) ++ (a ++ r) = p.joined ∙ append_assoc (little_bytes 4 (length a)) a r in
    let y : text ≡ little_bytes 4 (length b) ++ (b ++ s) = q.joined ∙ append_assoc (little_bytes 4 (length b)) b s in
    let small = p.short in
    let little = q.short in
    let m : little_number 4 text ≡ length a = ap (little_number 4) x ∙ little_number-reads_back 4 (length a) (a ++ r) (omega (arith, small)) in
    let n : little_number 4 text ≡ length b = ap (little_number 4) y ∙ little_number-reads_back 4 (length b) (b ++ s) (omega (arith, little)) in
    let left : drop 4 text ≡ a ++ r = ap (drop 4) x ∙ drop_at (little_bytes 4 (length a)) (a ++ r) 4 refl in
    let right : drop 4 text ≡ b ++ s = ap (drop 4) y ∙ drop_at (little_bytes 4 (length b)) (b ++ s) 4 refl in
    one_front a b r s (sym m ∙ n) (sym left ∙ right)

all_zero : (xs ys : List ℕ) → length xs ≡ length ys → AllByRecursion (λ x. x ≡ 0) xs → AllByRecursion (λ x. x ≡ 0) ys → xs ≡ ys
all_zero [] [] size p q = refl
all_zero [] (y ∷ ys) size p q = absurd (omega (arith, size))
all_zero (x ∷ xs) [] size p q = absurd (omega (arith, size))
all_zero (x ∷ xs) (y ∷ ys) size p q = let rest = all_zero xs ys (omega (arith, size)) p.1 q.1 in let a = p.0 in let b = q.0 in cc

-- ---- values

-- the same list by the hybrid, where both have so many
one_hybrid : HybridsAreOne → (width : ℕ) (text xs ys : List ℕ) (m n u v : ℕ) → m ≡ n → IsHybrid width text m xs u → IsHybrid width text n ys v → xs ≡ ys
one_hybrid law width text xs ys m n u v same p q = (law width n text xs ys u v (subst (λ (k : ℕ). IsHybrid width text k xs u) same p) q).0

one_booleans : HybridsAreOne → (text : List ℕ) (vs ws : List ValueTree) → length vs ≡ length ws → AreRleBooleans text vs → AreRleBooleans text ws → vs ≡ ws
one_booleans law text vs ws size p q =
    let inside = (one_prefix text p.inside q.inside p.rest q.rest p.prefixed q.prefixed).0 in
    let count : length p.bools ≡ length q.bools = sym (length-map p.bools boolean) ∙ sym (ap length p.are) ∙ size ∙ ap length q.are ∙ length-map q.bools boolean in
    let same = bits_one p.bools q.bools (one_hybrid law 1 q.inside (map from_bool p.bools) (map from_bool q.bools) (length p.bools) (length q.bools) p.used q.used count
    (subst (λ (t : List ℕ). IsHybrid 1 t (length p.bools) (map from_bool p.bools) p.used) inside p.packed) q.packed) in
    p.are ∙ ap (λ (bs : List Bool). map boolean bs) same ∙ sym q.are

-- where both have as many, a relation of n values has one list
one_of_so_many : {Y : Type 0} (Stands : ℕ → List ℕ → List Y → ℕ → Type 0) (m n : ℕ) (text : List ℕ) (xs ys : List Y) (u v : ℕ) → IsFunctional (Stands n) → m ≡ n → Stands m text xs u → Stands n text ys v → xs ≡ ys
one_of_so_many Stands m n text xs ys u v law same p q = (law text xs ys u v (subst (λ (k : ℕ). Stands k text xs u) same p) q).0

one_indexed : IndexedAreOne → (entries : List ValueTree) (text : List ℕ) (vs ws : List ValueTree) → length vs ≡ length ws → AreOfDictionary entries text vs → AreOfDictionary entries text ws → vs ≡ ws
one_indexed law entries text vs ws size p q = one_of_so_many (λ n bytes. AreIndexed entries bytes n) (length vs) (length ws) text vs ws p.0 q.0 (law entries (length ws)) size p.1 q.1

one_numbers : DeltasAreOne → (w : Width) (text : List ℕ) (vs ws : List ValueTree) → length vs ≡ length ws → AreDeltas w text vs → AreDeltas w text ws → vs ≡ ws
one_numbers law w text vs ws size p q =
    let count : length p.0 ≡ length q.0 = sym (length-map p.0 integer) ∙ sym (ap length p.2) ∙ size ∙ ap length q.2 ∙ length-map q.0 integer in
    let same = one_of_so_many (λ n bytes. IsDelta w bytes n) (length p.0) (length q.0) text p.0 q.0 p.1 q.1 (law w (length q.0)) count p.3 q.3 in
    p.2 ∙ ap (λ (zs : List ℤ). map integer zs) same ∙ sym q.2

pub one_byte_values : (Stands : ℕ → List ℕ → List (List ℕ) → ℕ → Type 0) → ((n : ℕ) → IsFunctional (Stands n)) → (text : List ℕ) (vs ws : List ValueTree) (u v : ℕ) → length vs ≡ length ws
    → StandForBytes (Stands (length vs) text) vs u → StandForBytes (Stands (length ws) text) ws v → vs ≡ ws
one_byte_values Stands law text vs ws u v size p q =
    p.are ∙ ap (λ (ts : List (List ℕ)). map byte_value ts) (one_of_so_many Stands (length vs) (length ws) text p.texts q.texts u v (law (length ws)) size p.stand q.stand) ∙ sym q.are

one_values : ListsAreOne → (d : Option (List ValueTree)) (kind : Kind) (e : Option Encoding) (text : List ℕ) (vs ws : List ValueTree) → length vs ≡ length ws → AreValues d kind e text vs → AreValues d kind e text ws → vs ≡ ws
one_values laws d kind (Some Plain) text vs ws size p q = one_of_so_many (λ n bytes. IsPlain kind n bytes) (length vs) (length ws) text vs ws p.0 q.0 (laws.plain kind (length ws)) size p.1 q.1
one_values laws d Boolean (Some Rle) text vs ws size p q = one_booleans laws.hybrid text vs ws size p q
one_values laws (Some es) kind (Some PlainDictionary) text vs ws size p q = one_indexed laws.indexed es text vs ws size p q
one_values laws (Some es) kind (Some RleDictionary) text vs ws size p q = one_indexed laws.indexed es text vs ws size p q
one_values laws d Int32 (Some DeltaBinaryPacked) text vs ws size p q = one_numbers laws.deltas w32 text vs ws size p q
one_values laws d Int64 (Some DeltaBinaryPacked) text vs ws size p q = one_numbers laws.deltas w64 text vs ws size p q
one_values laws d ByteArray (Some DeltaLengthByteArray) text vs ws size p q = one_byte_values (λ n bytes. IsByteLengths bytes n) laws.lengths text vs ws p.0 q.0 size p.1 q.1
one_values laws d ByteArray (Some DeltaByteArray) text vs ws size p q = one_byte_values (λ n bytes. IsSharedPrefixes bytes n) laws.prefixes text vs ws p.0 q.0 size p.1 q.1
one_values laws d (FixedLenByteArray k) (Some DeltaByteArray) text vs ws size p q = one_byte_values (λ n bytes. IsSharedPrefixes bytes n) laws.prefixes text vs ws p.0 q.0 size p.1 q.1
one_values laws d kind (Some ByteStreamSplit) text vs ws size p q = one_of_so_many (λ n bytes. IsSplit kind n bytes) (length vs) (length ws) text vs ws p.0 q.0 (laws.split kind (length ws)) size p.1 q.1
one_values laws d kind e text vs ws size p q = absurd p

none_left : (vs ws : List ValueTree) → length vs ≡ length ws → vs ≡ [] → vs ≡ ws
none_left vs [] size none = none
none_left vs (w ∷ ws) size none = absurd (omega (arith, size, ap length none))

pub one_spelled : ListsAreOne → (d : Option (List ValueTree)) (kind : Kind) (e : Option Encoding) (text : List ℕ) (vs ws : List ValueTree) → length vs ≡ length ws → Spell (AreValues d kind e) text vs → Spell (AreValues d kind e) text ws → vs ≡ ws
one_spelled laws d kind e text vs ws size (inl none) q = none_left vs ws size none
one_spelled laws d kind e text vs ws size (inr p) (inl none) = sym (none_left ws vs (sym size) none)
one_spelled laws d kind e text vs ws size (inr p) (inr q) = one_values laws d kind e text vs ws size p q

-- ---- levels

-- the width of levels, in one direction
not_wider : (g v w : ℕ) → g < 2 ^ v → 2 ^ w ≤ 2 * g → v < w → ⊥
not_wider g v w holds least wide =
    let more : 2 ^ suc v ≤ 2 ^ w = pow-le-pow_right {n = 2} (omega arith) wide in
    let twice : 2 ^ suc v ≡ 2 ^ v * 2 = pow-suc 2 v in
    omega (arith, holds, least, more, twice)

pub one_width : (g v w : ℕ) → g < 2 ^ v → 2 ^ v ≤ 2 * g → g < 2 ^ w → 2 ^ w ≤ 2 * g → v ≡ w
one_width g v w holds least has few =
    elim (cases_lt v w) [
      | inl lt ↦ absurd (not_wider g v w holds few lt)
      | inr le ↦
          elim (cases_lt w v) [
            | inl lt ↦ absurd (not_wider g w v has least lt)
            | inr ge ↦ omega (arith, le, ge)
          ]
    ]

pub one_levels : HybridsAreOne → (g : ℕ) (text rs us : List ℕ) → length rs ≡ length us → AreLevels g text rs → AreLevels g text us → rs ≡ us
one_levels law g text rs us size p q =
    let same = one_width g p.width q.width p.holds p.least q.holds q.least in
    one_hybrid law q.width text rs us (length rs) (length us) p.used q.used size (subst (λ (w : ℕ). IsHybrid w text (length rs) rs p.used) same p.packed) q.packed

pub one_section_v1 : HybridsAreOne → (g : ℕ) (e : Option ℤ) (text rs us behind after : List ℕ) → length rs ≡ length us → IsSectionV1 g e text rs behind → IsSectionV1 g e text us after → (rs ≡ us) × (behind ≡ after)
one_section_v1 law zero e text rs us behind after size p q = (all_zero rs us size p.0 q.0, p.1 ∙ sym q.1)
one_section_v1 law (suc g) e text rs us behind after size p q =
    let same = one_prefix text p.1.0 q.1.0 behind after p.1.1 q.1.1 in
    (one_levels law (suc g) q.1.0 rs us size (subst (λ (t : List ℕ). AreLevels (suc g) t rs) same.0 p.1.2) q.1.2, same.1)

one_inside : HybridsAreOne → (g : ℕ) (text rs us : List ℕ) → length rs ≡ length us → AreLevelsOrZero g text rs → AreLevelsOrZero g text us → rs ≡ us
one_inside law zero text rs us size p q = all_zero rs us size p q
one_inside law (suc g) text rs us size p q = one_levels law (suc g) text rs us size p q

pub one_section_v2 : HybridsAreOne → (g : ℕ) (z : ℤ) (text rs us behind after : List ℕ) → length rs ≡ length us → IsSectionV2 g z text rs behind → IsSectionV2 g z text us after → (rs ≡ us) × (behind ≡ after)
one_section_v2 law g z text rs us behind after size p q =
    let a = p.1 in
    let b = q.1 in
    let long : length p.0 ≡ length q.0 = cc in
    let same = one_front p.0 q.0 behind after long (sym p.2 ∙ q.2) in
    (one_inside law g q.0 rs us size (subst (λ (t : List ℕ). AreLevelsOrZero g t rs) same.0 p.3) q.3, same.1)
