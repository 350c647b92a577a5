-- A number is printed as it is shown, with texts or without.
use Rattle.std.proofs.Common.{◌≡◌, ℕ, ℤ, List, Bool, true, false, true≢false, ◌&&◌, if◌then◌else◌, Option, Some, None, refl, sym, ap, ◌∙◌}
use Rattle.std.specs.Str.{is_utf8}
use Rattle.json.specs.Print.{quoted}
use Rattle.hex.specs.Hex.{encode_lower}
use Rattle.serde_json.specs.Data.{Data}
use Rattle.serde_json.specs.Data as json
use Rattle.serde_json.specs.Find.{of_integer}
use Rattle.serde_json.specs.Written.{compact_text, number_text}
use Rattle.schema.specs.Annotations.{LeafType, Annotation, plain, known, other_converted, other_logical, is_text, order_of, order_over}
use Rattle.schema.specs.declared.annotation.ConvertedType.TheVariants as converted
use Rattle.schema.specs.Values.{ValueTree, null, boolean, integer, bytes, group, list}
use Rattle.schema.specs.Fits.{is_valid_text}
use Rattle.leaftext.specs.declared.leaf_form.Form.{Form}
use Rattle.leaftext.specs.Forms.{form_over, form_of, form_if, form_text}
use Rattle.schema.specs.declared.value.Kind.{Kind}
use Rattle.schema.specs.declared.value.Kind.TheVariants.{Boolean, Int32, Int64, ByteArray, FixedLenByteArray}
use Rattle.schema.specs.declared.order.Order.{Order}
use Rattle.schema.specs.declared.order.Order.TheVariants.{Signed, Unsigned, FalseFirst, Bytewise}
use Rattle.rowtext.specs.Json.{number_json, text_or, leaf_json, bytes_shown, leaf_shown, leaf_json_as}
use Rattle.rowtext.specs.inner.Scalars.{integer_text, numbers_of, numbers_as}
use Rattle.rowtext.specs.inner.LeafTexts.{digits_text, bytes_text}

pub same_number : (k : Kind) (o : Option Order) (z : ℤ) → integer_text (numbers_of k o) z ≡ number_text (number_json k o z)
same_number Boolean None z = refl
same_number Boolean (Some Signed) z = refl
same_number Boolean (Some Unsigned) z = refl
same_number Boolean (Some FalseFirst) z = refl
same_number Boolean (Some Bytewise) z = refl
same_number Int32 None z = refl
same_number Int32 (Some Signed) z = refl
same_number Int32 (Some Unsigned) z = refl
same_number Int32 (Some FalseFirst) z = refl
same_number Int32 (Some Bytewise) z = refl
same_number Int64 None z = refl
same_number Int64 (Some Signed) z = refl
same_number Int64 (Some Unsigned) z = refl
same_number Int64 (Some FalseFirst) z = refl
same_number Int64 (Some Bytewise) z = refl
same_number ByteArray None z = refl
same_number ByteArray (Some Signed) z = refl
same_number ByteArray (Some Unsigned) z = refl
same_number ByteArray (Some FalseFirst) z = refl
same_number ByteArray (Some Bytewise) z = refl
same_number (FixedLenByteArray n) None z = refl
same_number (FixedLenByteArray n) (Some Signed) z = refl
same_number (FixedLenByteArray n) (Some Unsigned) z = refl
same_number (FixedLenByteArray n) (Some FalseFirst) z = refl
same_number (FixedLenByteArray n) (Some Bytewise) z = refl

-- ---- leaves whose numbers have texts

-- their numbers have signs
signed_over : (k : Kind) (a : Annotation) (s : Option ℤ) (form : Form) → form_over k a s ≡ Some form → (z : ℤ) → number_json k (order_over k a) z ≡ of_integer z
signed_over Boolean a s form e z = absurd (cc)
signed_over Int32 plain s form e z = absurd (cc)
signed_over Int32 (known converted.Utf8) s form e z = absurd (cc)
signed_over Int32 (known converted.Enum) s form e z = absurd (cc)
signed_over Int32 (known converted.Decimal) s form e z = refl
signed_over Int32 (known converted.Date) s form e z = refl
signed_over Int32 (known converted.TimeMillis) s form e z = refl
signed_over Int32 (known converted.TimeMicros) s form e z = absurd (cc)
signed_over Int32 (known converted.TimestampMillis) s form e z = absurd (cc)
signed_over Int32 (known converted.TimestampMicros) s form e z = absurd (cc)
signed_over Int32 (known converted.Uint8) s form e z = absurd (cc)
signed_over Int32 (known converted.Uint16) s form e z = absurd (cc)
signed_over Int32 (known converted.Uint32) s form e z = absurd (cc)
signed_over Int32 (known converted.Uint64) s form e z = absurd (cc)
signed_over Int32 (known converted.Int8) s form e z = absurd (cc)
signed_over Int32 (known converted.Int16) s form e z = absurd (cc)
signed_over Int32 (known converted.Int32) s form e z = absurd (cc)
signed_over Int32 (known converted.Int64) s form e z = absurd (cc)
signed_over Int32 (known converted.Json) s form e z = absurd (cc)
signed_over Int32 (known converted.Bson) s form e z = absurd (cc)
signed_over Int32 (known converted.Interval) s form e z = absurd (cc)
signed_over Int32 (other_converted n) s form e z = absurd (cc)
signed_over Int32 (other_logical x) s form e z = absurd (cc)
signed_over Int64 plain s form e z = absurd (cc)
signed_over Int64 (known converted.Utf8) s form e z = absurd (cc)
signed_over Int64 (known converted.Enum) s form e z = absurd (cc)
signed_over Int64 (known converted.Decimal) s form e z = refl
signed_over Int64 (known converted.Date) s form e z = absurd (cc)
signed_over Int64 (known converted.TimeMillis) s form e z = absurd (cc)
signed_over Int64 (known converted.TimeMicros) s form e z = refl
signed_over Int64 (known converted.TimestampMillis) s form e z = refl
signed_over Int64 (known converted.TimestampMicros) s form e z = refl
signed_over Int64 (known converted.Uint8) s form e z = absurd (cc)
signed_over Int64 (known converted.Uint16) s form e z = absurd (cc)
signed_over Int64 (known converted.Uint32) s form e z = absurd (cc)
signed_over Int64 (known converted.Uint64) s form e z = absurd (cc)
signed_over Int64 (known converted.Int8) s form e z = absurd (cc)
signed_over Int64 (known converted.Int16) s form e z = absurd (cc)
signed_over Int64 (known converted.Int32) s form e z = absurd (cc)
signed_over Int64 (known converted.Int64) s form e z = absurd (cc)
signed_over Int64 (known converted.Json) s form e z = absurd (cc)
signed_over Int64 (known converted.Bson) s form e z = absurd (cc)
signed_over Int64 (known converted.Interval) s form e z = absurd (cc)
signed_over Int64 (other_converted n) s form e z = absurd (cc)
signed_over Int64 (other_logical x) s form e z = absurd (cc)
signed_over ByteArray plain s form e z = absurd (cc)
signed_over ByteArray (known converted.Utf8) s form e z = absurd (cc)
signed_over ByteArray (known converted.Enum) s form e z = absurd (cc)
signed_over ByteArray (known converted.Decimal) s form e z = refl
signed_over ByteArray (known converted.Date) s form e z = absurd (cc)
signed_over ByteArray (known converted.TimeMillis) s form e z = absurd (cc)
signed_over ByteArray (known converted.TimeMicros) s form e z = absurd (cc)
signed_over ByteArray (known converted.TimestampMillis) s form e z = absurd (cc)
signed_over ByteArray (known converted.TimestampMicros) s form e z = absurd (cc)
signed_over ByteArray (known converted.Uint8) s form e z = absurd (cc)
signed_over ByteArray (known converted.Uint16) s form e z = absurd (cc)
signed_over ByteArray (known converted.Uint32) s form e z = absurd (cc)
signed_over ByteArray (known converted.Uint64) s form e z = absurd (cc)
signed_over ByteArray (known converted.Int8) s form e z = absurd (cc)
signed_over ByteArray (known converted.Int16) s form e z = absurd (cc)
signed_over ByteArray (known converted.Int32) s form e z = absurd (cc)
signed_over ByteArray (known converted.Int64) s form e z = absurd (cc)
signed_over ByteArray (known converted.Json) s form e z = absurd (cc)
signed_over ByteArray (known converted.Bson) s form e z = absurd (cc)
signed_over ByteArray (known converted.Interval) s form e z = absurd (cc)
signed_over ByteArray (other_converted n) s form e z = absurd (cc)
signed_over ByteArray (other_logical x) s form e z = absurd (cc)
signed_over (FixedLenByteArray m) plain s form e z = absurd (cc)
signed_over (FixedLenByteArray m) (known converted.Utf8) s form e z = absurd (cc)
signed_over (FixedLenByteArray m) (known converted.Enum) s form e z = absurd (cc)
signed_over (FixedLenByteArray m) (known converted.Decimal) s form e z = refl
signed_over (FixedLenByteArray m) (known converted.Date) s form e z = absurd (cc)
signed_over (FixedLenByteArray m) (known converted.TimeMillis) s form e z = absurd (cc)
signed_over (FixedLenByteArray m) (known converted.TimeMicros) s form e z = absurd (cc)
signed_over (FixedLenByteArray m) (known converted.TimestampMillis) s form e z = absurd (cc)
signed_over (FixedLenByteArray m) (known converted.TimestampMicros) s form e z = absurd (cc)
signed_over (FixedLenByteArray m) (known converted.Uint8) s form e z = absurd (cc)
signed_over (FixedLenByteArray m) (known converted.Uint16) s form e z = absurd (cc)
signed_over (FixedLenByteArray m) (known converted.Uint32) s form e z = absurd (cc)
signed_over (FixedLenByteArray m) (known converted.Uint64) s form e z = absurd (cc)
signed_over (FixedLenByteArray m) (known converted.Int8) s form e z = absurd (cc)
signed_over (FixedLenByteArray m) (known converted.Int16) s form e z = absurd (cc)
signed_over (FixedLenByteArray m) (known converted.Int32) s form e z = absurd (cc)
signed_over (FixedLenByteArray m) (known converted.Int64) s form e z = absurd (cc)
signed_over (FixedLenByteArray m) (known converted.Json) s form e z = absurd (cc)
signed_over (FixedLenByteArray m) (known converted.Bson) s form e z = absurd (cc)
signed_over (FixedLenByteArray m) (known converted.Interval) s form e z = absurd (cc)
signed_over (FixedLenByteArray m) (other_converted n) s form e z = absurd (cc)
signed_over (FixedLenByteArray m) (other_logical x) s form e z = absurd (cc)

-- their bytes are no text
not_text : (k : Kind) (a : Annotation) (s : Option ℤ) (form : Form) → form_over k a s ≡ Some form → is_text k a ≡ false
not_text Boolean a s form e = absurd (cc)
not_text Int32 a s form e = refl
not_text Int64 a s form e = refl
not_text (FixedLenByteArray n) a s form e = refl
not_text ByteArray plain s form e = absurd (cc)
not_text ByteArray (known converted.Utf8) s form e = absurd (cc)
not_text ByteArray (known converted.Enum) s form e = absurd (cc)
not_text ByteArray (known converted.Decimal) s form e = refl
not_text ByteArray (known converted.Date) s form e = absurd (cc)
not_text ByteArray (known converted.TimeMillis) s form e = absurd (cc)
not_text ByteArray (known converted.TimeMicros) s form e = absurd (cc)
not_text ByteArray (known converted.TimestampMillis) s form e = absurd (cc)
not_text ByteArray (known converted.TimestampMicros) s form e = absurd (cc)
not_text ByteArray (known converted.Uint8) s form e = absurd (cc)
not_text ByteArray (known converted.Uint16) s form e = absurd (cc)
not_text ByteArray (known converted.Uint32) s form e = absurd (cc)
not_text ByteArray (known converted.Uint64) s form e = absurd (cc)
not_text ByteArray (known converted.Int8) s form e = absurd (cc)
not_text ByteArray (known converted.Int16) s form e = absurd (cc)
not_text ByteArray (known converted.Int32) s form e = absurd (cc)
not_text ByteArray (known converted.Int64) s form e = absurd (cc)
not_text ByteArray (known converted.Json) s form e = absurd (cc)
not_text ByteArray (known converted.Bson) s form e = absurd (cc)
not_text ByteArray (known converted.Interval) s form e = absurd (cc)
not_text ByteArray (other_converted n) s form e = absurd (cc)
not_text ByteArray (other_logical x) s form e = absurd (cc)

pub integer_is : (texts : Bool) (t : LeafType) (z : ℤ) → integer_text (numbers_as (form_if texts t) t.kind (order_of t)) z ≡ compact_text (leaf_json_as texts t (integer z))
integer_is false t z = same_number t.kind (order_of t) z
integer_is true t z = go (form_of t) refl
  where
    go : (o : Option Form) → form_of t ≡ o → integer_text (numbers_as o t.kind (order_of t)) z ≡ compact_text (leaf_shown o t (integer z))
    go None e = same_number t.kind (order_of t) z
    go (Some form) e = ap (λ n. compact_text (text_or (form_text form z) (json.number n))) (sym (signed_over t.kind t.annotation t.scale form e z))

-- ---- bytes

-- without texts, bytes that are no text are printed by their digits
same_digits : (k : Kind) (o : Option Order) (x : List ℕ) → digits_text (numbers_of k o) x ≡ quoted (encode_lower x)
same_digits Boolean None x = refl
same_digits Boolean (Some Signed) x = refl
same_digits Boolean (Some Unsigned) x = refl
same_digits Boolean (Some FalseFirst) x = refl
same_digits Boolean (Some Bytewise) x = refl
same_digits Int32 None x = refl
same_digits Int32 (Some Signed) x = refl
same_digits Int32 (Some Unsigned) x = refl
same_digits Int32 (Some FalseFirst) x = refl
same_digits Int32 (Some Bytewise) x = refl
same_digits Int64 None x = refl
same_digits Int64 (Some Signed) x = refl
same_digits Int64 (Some Unsigned) x = refl
same_digits Int64 (Some FalseFirst) x = refl
same_digits Int64 (Some Bytewise) x = refl
same_digits ByteArray None x = refl
same_digits ByteArray (Some Signed) x = refl
same_digits ByteArray (Some Unsigned) x = refl
same_digits ByteArray (Some FalseFirst) x = refl
same_digits ByteArray (Some Bytewise) x = refl
same_digits (FixedLenByteArray n) None x = refl
same_digits (FixedLenByteArray n) (Some Signed) x = refl
same_digits (FixedLenByteArray n) (Some Unsigned) x = refl
same_digits (FixedLenByteArray n) (Some FalseFirst) x = refl
same_digits (FixedLenByteArray n) (Some Bytewise) x = refl

-- text that fits is UTF-8
text_is : (t u : Bool) (a b : List ℕ) → (if t then u else true) ≡ true → (if t then quoted a else quoted b) ≡ quoted (if t && u then a else b)
text_is true true a b h = refl
text_is true false a b h = absurd (true≢false (sym h))
text_is false u a b h = refl

plain_bytes : (t : LeafType) (x : List ℕ) → (if is_text t.kind t.annotation then is_valid_text (bytes x) else true) ≡ true
    → bytes_text (numbers_of t.kind (order_of t)) (is_text t.kind t.annotation) x ≡ compact_text (leaf_json t (bytes x))
plain_bytes t x h =
    ap (λ (s : List ℕ). if is_text t.kind t.annotation then quoted x else s) (same_digits t.kind (order_of t) x) ∙ text_is (is_text t.kind t.annotation) (is_utf8 x) x (encode_lower x) h

pub bytes_are : (texts : Bool) (t : LeafType) (x : List ℕ) → (if is_text t.kind t.annotation then is_valid_text (bytes x) else true) ≡ true
    → bytes_text (numbers_as (form_if texts t) t.kind (order_of t)) (is_text t.kind t.annotation) x ≡ compact_text (leaf_json_as texts t (bytes x))
bytes_are false t x h = plain_bytes t x h
bytes_are true t x h = go (form_of t) refl
  where
    go : (o : Option Form) → form_of t ≡ o → bytes_text (numbers_as o t.kind (order_of t)) (is_text t.kind t.annotation) x ≡ compact_text (leaf_shown o t (bytes x))
    go None e = plain_bytes t x h
    go (Some form) e = ap (λ (b : Bool). if b then quoted x else compact_text (bytes_shown form x)) (not_text t.kind t.annotation t.scale form e)

-- a value that is neither a number nor bytes
abbrev pub IsOther : ValueTree → Type 0
IsOther (integer z) = ⊥
IsOther (bytes x) = ⊥
IsOther _ = Unit {0}

-- it is shown as without texts
pub other_shown : (o : Option Form) (t : LeafType) (v : ValueTree) → IsOther v → leaf_shown o t v ≡ leaf_json t v
other_shown None t v h = refl
other_shown (Some form) t null h = refl
other_shown (Some form) t (boolean b) h = refl
other_shown (Some form) t (integer z) h = absurd h
other_shown (Some form) t (bytes s) h = absurd h
other_shown (Some form) t (group vs) h = refl
other_shown (Some form) t (list vs) h = refl
