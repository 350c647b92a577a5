-- Values that are written, in the table of encodings.
use Rattle.std.proofs.Common.{◌≡◌, ℕ, suc, ◌+◌, ◌*◌, ◌^◌, ◌<◌, ◌≤◌, Bool, true, false, List, [], ◌∷◌, ◌++◌, length, map, get_or, Result, Ok, Err, refl, sym, ap, subst, ◌∙◌, arith, append_assoc}
use Rattle.std.specs.Prelude.{ℤ, All}
use Rattle.std.specs.Result.{OnOk}
use Rattle.std.specs.Int.{Width, from_bool}
use Rattle.std.specs.List.{Any, AllByRecursion}
use Rattle.std.proofs.lemmas.List.{append-nil, length-append, length-map, append_cancel_left}
use Rattle.std.proofs.lemmas.List.Elements.{recursion_from_All, All-from_recursion}
use Rattle.std.proofs.Math.Nat.{mul-add}
use Rattle.byteorder.specs.Endian.{little_bytes}
use Rattle.bits.specs.declared.refusal.Refusal.{Refusal}
use Rattle.bits.specs.declared.refusal.Refusal.TheVariants.{Limit, Memory, Value}
use Rattle.bits.specs.Refusals.{IsFault, HasCause, OnFault, RefusedOnly, LimitJustWhere}
use Rattle.bits.specs.Codec.{Appends}
use Rattle.hybrid_rle.specs.Hybrid.{IsHybrid}
use Rattle.delta.specs.Delta.{IsDelta, most_bytes}
use Rattle.delta.specs.Written.{IsWrittenDelta, AppendsWrittenDelta}
use Rattle.delta.specs.ByteDeltas.{IsByteLengths, IsPrefixed as IsSharedPrefixes, StandForBytes}
use Rattle.delta.specs.WrittenBytes.{IsWrittenLengths, IsWrittenPrefixes}
use Rattle.schema.specs.declared.value.Kind.{Kind}
use Rattle.schema.specs.declared.value.Kind.TheVariants.{Boolean, Int32, Int64, ByteArray, FixedLenByteArray}
use Rattle.schema.specs.Values.{ValueTree, boolean, integer, bytes as byte_value}
use Rattle.plain.specs.Plain.{IsPlain, HasZeroPadding, IsOfKind, IsTooLong, plain_size, text_size, bit_of}
use Rattle.plain.proofs.Seen.{none_any}
use Rattle.pages.specs.declared.encoding.Encoding.{Encoding}
use Rattle.pages.specs.declared.encoding.Encoding.TheVariants.{Plain, Rle}
use Rattle.pages.specs.WrittenValues.{AreDeltasIn, AreLengthsIn, ArePrefixesIn, AreWritten}
use Rattle.pages.specs.inner.Put.{most_of_values}
use Rattle.pages.proofs.WrittenLevels.{seen_same}

-- two facts of what is written, with the bound of the first
pub appends_both : (P Q : List ℕ → ℕ → Type 0) (few most : ℕ) (old new : List ℕ) → Appends P few old new → Appends Q most old new → Appends (λ bytes used. P bytes used × Q bytes used) few old new
appends_both P Q few most old new p q =
    let same : q.text ≡ p.text = append_cancel_left old q.text p.text (sym q.joined ∙ p.joined) in
    record {
      text = p.text;
      joined = p.joined;
      stands = λ more. (p.stands more, subst (λ (t : List ℕ). Q (t ++ more) (length t)) same (q.stands more));
      short = p.short;
    }

pub appends_within : (P Q : List ℕ → ℕ → Type 0) (few most : ℕ) (old new : List ℕ) → ((bytes : List ℕ) (used : ℕ) → P bytes used → Q bytes used) → few ≤ most → Appends P few old new → Appends Q most old new
appends_within P Q few most old new turn le p = record { text = p.text; joined = p.joined; stands = λ more. turn (p.text ++ more) (length p.text) (p.stands more); short = omega (arith, p.short, le) }

-- ---- PLAIN

fixed_size : (k : ℕ) (vs : List ValueTree) → AllByRecursion (IsOfKind (FixedLenByteArray k)) vs → k * length vs ≡ text_size vs
fixed_size k [] are = omega arith
fixed_size k (byte_value text ∷ vs) are =
    let next : k * (1 + length vs) ≡ k * 1 + k * length vs = mul-add k 1 (length vs) in
    let one : 1 + length vs ≡ suc (length vs) = omega arith in
    omega (arith, fixed_size k vs are.1, are.0.1, next, ap (λ (n : ℕ). k * n) one)
fixed_size k (_ ∷ vs) are = absurd are.0

-- PLAIN values take no more bytes than they weigh
pub plain_light : (kind : Kind) (vs : List ValueTree) → All (IsOfKind kind) vs → plain_size kind vs ≤ most_of_values vs
plain_light Boolean vs are = omega arith
plain_light Int32 vs are = omega arith
plain_light Int64 vs are = omega arith
plain_light ByteArray vs are = omega arith
plain_light (FixedLenByteArray k) vs are = omega (arith, fixed_size k vs (recursion_from_All (IsOfKind (FixedLenByteArray k)) vs are))

pub plain_put : (kind : Kind) (vs : List ValueTree) (old new : List ℕ) → All (IsOfKind kind) vs → Appends (λ bytes. IsPlain kind (length vs) bytes vs) (plain_size kind vs) old new → Appends (HasZeroPadding kind (length vs)) (plain_size kind vs) old new
    → Appends (AreWritten kind Plain vs) (most_of_values vs) old new
plain_put kind vs old new are p q =
    let both = appends_both (λ bytes used. IsPlain kind (length vs) bytes vs used) (HasZeroPadding kind (length vs)) (plain_size kind vs) (plain_size kind vs) old new p q in
    appends_within (λ bytes used. IsPlain kind (length vs) bytes vs used × HasZeroPadding kind (length vs) bytes used) (AreWritten kind Plain vs) (plain_size kind vs) (most_of_values vs) old new (λ bytes used x. x) (plain_light kind vs are) both

-- ---- DELTA_BINARY_PACKED

no_text : (numbers : List ℤ) → text_size (map integer numbers) ≡ 0
no_text [] = refl
no_text (z ∷ zs) = no_text zs

pub deltas_put : (w : Width) (numbers : List ℤ) (vs : List ValueTree) (most : ℕ) (old new : List ℕ) → map integer numbers ≡ vs → most ≤ 298 + 9 * length numbers → Appends (λ bytes. IsDelta w bytes (length numbers) numbers) most old new
    → AppendsWrittenDelta w numbers old new → Appends (AreDeltasIn w vs) (most_of_values vs) old new
deltas_put w numbers vs most old new are few p q =
    appends_within (λ bytes used. IsDelta w bytes (length numbers) numbers used × IsWrittenDelta w numbers bytes used) (AreDeltasIn w vs) most (most_of_values vs) old new
    (λ bytes used x. record { numbers = numbers; are = sym are; stand = x.0; written = x.1 }) (omega (arith, few, ap length are, length-map numbers integer))
    (appends_both (λ bytes. IsDelta w bytes (length numbers) numbers) (IsWrittenDelta w numbers) most (most_bytes w (length numbers)) old new p q)

-- ---- DELTA_LENGTH_BYTE_ARRAY and DELTA_BYTE_ARRAY

pub lengths_put : (vs : List ValueTree) (old new : List ℕ) → Appends (λ bytes. StandForBytes (IsByteLengths bytes (length vs)) vs) (170 + 5 * length vs + text_size vs) old new
    → Appends (λ bytes. StandForBytes (IsWrittenLengths bytes) vs) (170 + 5 * length vs + text_size vs) old new → Appends (AreLengthsIn vs) (most_of_values vs) old new
lengths_put vs old new p q =
    appends_within (λ bytes used. StandForBytes (IsByteLengths bytes (length vs)) vs used × StandForBytes (IsWrittenLengths bytes) vs used) (AreLengthsIn vs) (170 + 5 * length vs + text_size vs) (most_of_values vs) old new
    (λ bytes used x. record { stand = x.0; written = x.1 }) (omega arith)
    (appends_both (λ bytes. StandForBytes (IsByteLengths bytes (length vs)) vs) (λ bytes. StandForBytes (IsWrittenLengths bytes) vs) (170 + 5 * length vs + text_size vs) (170 + 5 * length vs + text_size vs) old new p q)

pub prefixes_put : (vs : List ValueTree) (old new : List ℕ) → Appends (λ bytes. StandForBytes (IsSharedPrefixes bytes (length vs)) vs) (340 + 10 * length vs + text_size vs) old new
    → Appends (λ bytes. StandForBytes (IsWrittenPrefixes bytes) vs) (340 + 10 * length vs + text_size vs) old new → Appends (ArePrefixesIn vs) (most_of_values vs) old new
prefixes_put vs old new p q =
    appends_within (λ bytes used. StandForBytes (IsSharedPrefixes bytes (length vs)) vs used × StandForBytes (IsWrittenPrefixes bytes) vs used) (ArePrefixesIn vs) (340 + 10 * length vs + text_size vs) (most_of_values vs) old new
    (λ bytes used x. record { stand = x.0; written = x.1 }) (omega arith)
    (appends_both (λ bytes. StandForBytes (IsSharedPrefixes bytes (length vs)) vs) (λ bytes. StandForBytes (IsWrittenPrefixes bytes) vs) (340 + 10 * length vs + text_size vs) (340 + 10 * length vs + text_size vs) old new p q)

-- the same, where the type and the encoding are known to be these
pub as_written : (k l : Kind) (e f : Encoding) (vs : List ValueTree) (old new : List ℕ) → k ≡ l → e ≡ f → Appends (AreWritten l f vs) (most_of_values vs) old new → Appends (AreWritten k e vs) (most_of_values vs) old new
as_written k l e f vs old new kind encoding p = subst (λ (x : Kind). Appends (AreWritten x e vs) (most_of_values vs) old new) (sym kind) (subst (λ (x : Encoding). Appends (AreWritten l x vs) (most_of_values vs) old new) (sym encoding) p)

-- ---- refusals

-- a number that is too wide does not come where none is
pub only_narrow : (Also : Refusal → Type 0) (e : Refusal) → HasCause (λ f. f ≡ Value) e → (IsFault e → ⊥) → HasCause Also e
only_narrow Also Memory cause never = tt
only_narrow Also e cause never = absurd (never (subst IsFault (sym cause) tt))

-- values of numbers and booleans are never too long
never_long : (kind : Kind) (v : ValueTree) → IsOfKind kind v → IsTooLong v → (text : List ℕ) × (v ≡ byte_value text)
never_long kind (byte_value text) is long = (text, refl)
never_long kind _ is long = absurd long

all_short : (kind : Kind) (vs : List ValueTree) → ((text : List ℕ) → IsOfKind kind (byte_value text) → ⊥) → All (IsOfKind kind) vs → All (λ v. IsTooLong v → ⊥) vs
all_short kind vs no_bytes are = λ k d lt long. by (get_or vs k d) (are k d lt) (never_long kind (get_or vs k d) (are k d lt) long)
  where
    by : (v : ValueTree) → IsOfKind kind v → (text : List ℕ) × (v ≡ byte_value text) → ⊥
    by v is (text, same) = no_bytes text (subst (IsOfKind kind) same is)

pub none_long : (kind : Kind) (vs : List ValueTree) → ((text : List ℕ) → IsOfKind kind (byte_value text) → ⊥) → All (IsOfKind kind) vs → Any IsTooLong vs → ⊥
none_long kind vs no_bytes are long = none_any IsTooLong vs (all_short kind vs no_bytes are) long

pub not_over : {X : Type 0} (Over P : Type 0) (r : Result X Refusal) → (P → Over) → LimitJustWhere Over r → OnOk r (P → ⊥)
not_over Over P (Ok x) is p = λ q. p (is q)
not_over Over P (Err e) is p = tt

-- where the values are of the type, nothing comes but Limit
pub values_refused : {X : Type 0} (Also : Refusal → Type 0) (Fit Over : Type 0) (r : Result X Refusal) → Fit → OnFault r (Fit → ⊥) → LimitJustWhere Over r → (Over → Also Limit) → RefusedOnly Also r
values_refused Also Fit Over (Ok x) fit fault over is = tt
values_refused Also Fit Over (Err Memory) fit fault over is = tt
values_refused Also Fit Over (Err Limit) fit fault over is = is over
values_refused Also Fit Over (Err e) fit fault over is = absurd (fault tt fit)

pub only_memory : {X : Type 0} (Also : Refusal → Type 0) (r : Result X Refusal) → RefusedOnly (λ _. ⊥) r → RefusedOnly Also r
only_memory Also (Ok x) p = tt
only_memory Also (Err Memory) p = tt
only_memory Also (Err e) p = absurd p

-- bytes of a fixed length are bytes
pub any_bytes : (k : ℕ) (vs : List ValueTree) → All (IsOfKind (FixedLenByteArray k)) vs → All (IsOfKind ByteArray) vs
any_bytes k vs are = λ i d lt. of (get_or vs i d) (are i d lt)
  where
    of : (v : ValueTree) → IsOfKind (FixedLenByteArray k) v → IsOfKind ByteArray v
    of (byte_value text) is = is.0
    of _ is = absurd is

-- ---- RLE

abbrev AreBits : List ValueTree → Type 0
AreBits vs = (bools : List Bool) × (vs ≡ map boolean bools) × (map bit_of vs ≡ map from_bool bools)

bits_are : (vs : List ValueTree) → AllByRecursion (IsOfKind Boolean) vs → AreBits vs
bits_are [] are = ([], refl, refl)
bits_are (boolean b ∷ vs) (here, are) = more (bits_are vs are)
  where
    more : AreBits vs → AreBits (boolean b ∷ vs)
    more (bools, p, q) = (b ∷ bools, ap (λ (t : List ValueTree). boolean b ∷ t) p, ap (λ (t : List ℕ). from_bool b ∷ t) q)
bits_are (_ ∷ vs) are = absurd are.0

-- bits are narrow
pub narrow_bits : (vs : List ValueTree) → All (λ x. x < 2 ^ 1) (map (λ n. n) (map bit_of vs))
narrow_bits vs = subst (All (λ x. x < 2 ^ 1)) (sym (seen_same (map bit_of vs))) (All-from_recursion (λ x. x < 2 ^ 1) (map bit_of vs) (each vs))
  where
    each : (ws : List ValueTree) → AllByRecursion (λ x. x < 2 ^ 1) (map bit_of ws)
    each [] = tt
    each (boolean true ∷ ws) = (omega arith, each ws)
    each (boolean false ∷ ws) = (omega arith, each ws)
    each (w ∷ ws) = (omega arith, each ws)

pub booleans_put : (vs : List ValueTree) (numbers inside old new : List ℕ) → All (IsOfKind Boolean) vs → numbers ≡ map bit_of vs → length inside < 2 ^ 32
    → Appends (λ bytes. IsHybrid 1 bytes (length numbers) numbers) (80 + 9 * length numbers) [] inside → new ≡ (old ++ little_bytes 4 (length inside)) ++ inside → Appends (AreWritten Boolean Rle vs) (most_of_values vs) old new
booleans_put vs numbers inside old new are bits small p joined = by (bits_are vs (recursion_from_All (IsOfKind Boolean) vs are))
  where
    by : AreBits vs → Appends (AreWritten Boolean Rle vs) (most_of_values vs) old new
    by (bools, is, seen) =
        let packed : IsHybrid 1 p.text (length numbers) numbers (length p.text) = subst (λ (t : List ℕ). IsHybrid 1 t (length numbers) numbers (length p.text)) (append-nil p.text) (p.stands []) in
        let here : IsHybrid 1 inside (length numbers) numbers (length inside) = subst (λ (t : List ℕ). IsHybrid 1 t (length numbers) numbers (length t)) (sym p.joined) packed in
        let same : numbers ≡ map from_bool bools = bits ∙ seen in
        let count : length numbers ≡ length bools = ap length same ∙ length-map bools from_bool in
        let one : IsHybrid 1 inside (length bools) numbers (length inside) = subst (λ (n : ℕ). IsHybrid 1 inside n numbers (length inside)) count here in
        let two : IsHybrid 1 inside (length bools) (map from_bool bools) (length inside) = subst (λ (t : List ℕ). IsHybrid 1 inside (length bools) t (length inside)) same one in
        let four : length (little_bytes 4 (length inside)) ≡ 4 = refl in
        let size : length (little_bytes 4 (length inside) ++ inside) ≡ 4 + length inside = omega (arith, length-append (little_bytes 4 (length inside)) inside, four) in
        record {
          text = little_bytes 4 (length inside) ++ inside;
          joined = joined ∙ append_assoc old (little_bytes 4 (length inside)) inside;
          stands = λ more. record {
            bools = bools;
            inside = inside;
            rest = more;
            are = is;
            prefixed = record { short = small; joined = append_assoc (little_bytes 4 (length inside)) inside more };
            packed = two;
            ends = size;
          };
          short = omega (arith, size, p.short, ap length p.joined, ap length bits, length-map vs bit_of);
        }
