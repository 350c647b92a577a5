-- Numbers of leaves as JSON numbers, and back.
use Rattle.std.proofs.Common.{SFits, ◌≡◌, ◌%◌, ◌<◌, ◌^◌, nat_lt, ℤ, pos, negsuc, true, true≢false, Option, Some, None, refl, sym, ap, ◌∙◌, arith}
use Rattle.std.specs.Int.{w32, w64, cast_signed, cast_unsigned}
use Rattle.std.proofs.Math.Facts.{to_z-of_z, Fits-of_z}
use Rattle.std.proofs.lemmas.Bool.Decides.{Decides-ltb}
use Rattle.serde_json.specs.Find.{as_i64, of_integer}
use Rattle.schema.specs.declared.value.Kind.{Kind}
use Rattle.schema.specs.declared.value.Kind.TheVariants.{Boolean, Int32, Int64, ByteArray, FixedLenByteArray}
use Rattle.schema.specs.declared.order.Order.{Order}
use Rattle.schema.specs.declared.order.Order.TheVariants.{Signed, Unsigned, FalseFirst, Bytewise}
use Rattle.schema.specs.Values.{integer}
use Rattle.schema.specs.Fits.{is_within, fits_kind}
use Rattle.rowtext.specs.Json.{unsigned_bits, number_json}
use Rattle.rowtext.specs.Reading.{signed_of_bits, number_read}
use Rattle.rowtext.proofs.JsonTexts.{IsExact}

-- a number within these bits, by its sign
within_64 : (z : ℤ) → is_within 9223372036854775808 z ≡ true → IsExact (of_integer z)
within_64 (pos n) h = let low : n < 9223372036854775808 = (Decides-ltb n 9223372036854775808).0 h in omega (arith, low)
within_64 (negsuc n) h = let low : n < 9223372036854775808 = (Decides-ltb n 9223372036854775808).0 h in omega (arith, low)

within_32 : (z : ℤ) → is_within 2147483648 z ≡ true → is_within 9223372036854775808 z ≡ true
within_32 (pos n) h = let low : n < 2147483648 = (Decides-ltb n 2147483648).0 h in (Decides-ltb n 9223372036854775808).1 (omega (arith, low))
within_32 (negsuc n) h = let low : n < 2147483648 = (Decides-ltb n 2147483648).0 h in (Decides-ltb n 9223372036854775808).1 (omega (arith, low))

-- an integer that a leaf can have has 64 bits
pub within : (k : Kind) (z : ℤ) → fits_kind k (integer z) ≡ true → is_within 9223372036854775808 z ≡ true
within Boolean z h = absurd (true≢false (sym h))
within Int32 z h = within_32 z h
within Int64 z h = h
within ByteArray z h = absurd (true≢false (sym h))
within (FixedLenByteArray n) z h = absurd (true≢false (sym h))

pub integer_exact : (k : Kind) (z : ℤ) → fits_kind k (integer z) ≡ true → IsExact (of_integer z)
integer_exact k z h = within_64 z (within k z h)

signed_back : (z : ℤ) → is_within 9223372036854775808 z ≡ true → as_i64 (of_integer z) ≡ Some z
signed_back (pos n) h =
    let low : n < 9223372036854775808 = (Decides-ltb n 9223372036854775808).0 h in
    let test : nat_lt n (2 ^ 63) ≡ true = (Decides-ltb n (2 ^ 63)).1 (omega (arith, low)) in
    rw test refl
signed_back (negsuc n) h = refl

-- ---- the unsigned number of the same bits

bits_64 : (z : ℤ) → is_within 9223372036854775808 z ≡ true → (cast_unsigned w64 z < 2 ^ 64) × (cast_signed w64 (cast_unsigned w64 z) ≡ z)
bits_64 (pos n) h = let low : n < 9223372036854775808 = (Decides-ltb n 9223372036854775808).0 h in (omega (arith, low), to_z-of_z {w = w64} {z = pos n} (record { sfits = low }))
bits_64 (negsuc n) h = let low : n < 9223372036854775808 = (Decides-ltb n 9223372036854775808).0 h in (omega (arith, low), to_z-of_z {w = w64} {z = negsuc n} (record { sfits = low }))

low_bits : (z : ℤ) → is_within 2147483648 z ≡ true → cast_unsigned w64 z % 2 ^ 32 ≡ cast_unsigned w32 z
low_bits (pos n) h = let low : n < 2147483648 = (Decides-ltb n 2147483648).0 h in omega (arith, low)
low_bits (negsuc n) h = let low : n < 2147483648 = (Decides-ltb n 2147483648).0 h in omega (arith, low)

half_32 : (z : ℤ) → is_within 2147483648 z ≡ true → SFits w32 z
half_32 (pos n) h = record { sfits = (Decides-ltb n 2147483648).0 h }
half_32 (negsuc n) h = record { sfits = (Decides-ltb n 2147483648).0 h }

bits_32 : (z : ℤ) → is_within 2147483648 z ≡ true → (cast_unsigned w64 z % 2 ^ 32 < 2 ^ 32) × (cast_signed w32 (cast_unsigned w64 z % 2 ^ 32) ≡ z)
bits_32 z h =
    let fits = half_32 z h in
    (rw (low_bits z h) (Fits-of_z {w = w32} {z = z} fits).fits, ap (cast_signed w32) (low_bits z h) ∙ to_z-of_z {w = w32} {z = z} fits)

pub bits_exact : (k : Kind) (z : ℤ) → fits_kind k (integer z) ≡ true → unsigned_bits k z < 2 ^ 64
bits_exact Boolean z h = absurd (true≢false (sym h))
bits_exact Int32 z h = let b = bits_32 z h in omega (arith, b.0)
bits_exact Int64 z h = (bits_64 z h).0
bits_exact ByteArray z h = absurd (true≢false (sym h))
bits_exact (FixedLenByteArray n) z h = absurd (true≢false (sym h))

bits_back : (k : Kind) (z : ℤ) → fits_kind k (integer z) ≡ true → signed_of_bits k (unsigned_bits k z) ≡ Some z
bits_back Boolean z h = absurd (true≢false (sym h))
bits_back Int32 z h =
    let b = bits_32 z h in
    let test : nat_lt (cast_unsigned w64 z % 2 ^ 32) (2 ^ 32) ≡ true = (Decides-ltb (cast_unsigned w64 z % 2 ^ 32) (2 ^ 32)).1 b.0 in
    rw test (ap Some b.1)
bits_back Int64 z h = ap Some (bits_64 z h).1
bits_back ByteArray z h = absurd (true≢false (sym h))
bits_back (FixedLenByteArray n) z h = absurd (true≢false (sym h))

-- a number that is shown is read as it was
pub number_back : (k : Kind) (o : Option Order) (z : ℤ) → fits_kind k (integer z) ≡ true → number_read k o (number_json k o z) ≡ Some z
number_back k None z h = signed_back z (within k z h)
number_back k (Some Signed) z h = signed_back z (within k z h)
number_back k (Some Unsigned) z h = bits_back k z h
number_back k (Some FalseFirst) z h = signed_back z (within k z h)
number_back k (Some Bytewise) z h = signed_back z (within k z h)
