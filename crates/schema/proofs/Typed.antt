-- What an element says of a leaf is what a leaf can say.
use Rattle.std.proofs.Common.{◌≡◌, Bool, true, false, refl, ap, sym, subst, ◌∙◌, Option, Some, None, inl, inr, if◌then◌else◌}
use Rattle.std.specs.Prelude.{ℤ, pos}
use Rattle.std.proofs.lemmas.Bool.{false≢true}
use Rattle.thrift_compact.specs.Tree.{Fields as Struct}
use Rattle.schema.specs.declared.value.Kind.{Kind}
use Rattle.schema.specs.declared.value.Kind.TheVariants.{Boolean, Int32, Int64, ByteArray, FixedLenByteArray}
use Rattle.schema.specs.declared.order.Standing.{Standing}
use Rattle.schema.specs.declared.order.Standing.TheVariants.{Unknown, Unordered, Ordered}
use Rattle.schema.specs.declared.annotation.ConvertedType.{ConvertedType}
use Rattle.schema.specs.declared.annotation.ConvertedType.TheVariants as converted
use Rattle.schema.specs.declared.building.Typed.TheVariants.{Stored}
use Rattle.schema.specs.Annotations.{Annotation, known, other_logical, LeafType, number_of, converted_type, standing, by_standing, named, is_only_member, annotation_of, converted_number, logical_struct, is_half}
use Rattle.schema.specs.Elements.{Element}
use Rattle.schema.specs.Law.{IsWritable, KeepsWritable, IsLeafType, HasLength}
use Rattle.schema.specs.Listing.{typed, leaf_type, IsTyped, is_float16, KeepsSound}
use Rattle.schema.specs.inner.Reading.{KeepsWritten}

pub numbered_back : (c : ConvertedType) → converted_type (pos (number_of c)) ≡ Some c
unfolding converted_type
numbered_back converted.Utf8 = refl
numbered_back converted.Enum = refl
numbered_back converted.Decimal = refl
numbered_back converted.Date = refl
numbered_back converted.TimeMillis = refl
numbered_back converted.TimeMicros = refl
numbered_back converted.TimestampMillis = refl
numbered_back converted.TimestampMicros = refl
numbered_back converted.Uint8 = refl
numbered_back converted.Uint16 = refl
numbered_back converted.Uint32 = refl
numbered_back converted.Uint64 = refl
numbered_back converted.Int8 = refl
numbered_back converted.Int16 = refl
numbered_back converted.Int32 = refl
numbered_back converted.Int64 = refl
numbered_back converted.Json = refl
numbered_back converted.Bson = refl
numbered_back converted.Interval = refl

abbrev Stays : Kind → Annotation → Type 0
Stays k a = annotation_of k (converted_number a) (logical_struct a) ≡ a

known_stays : (k : Kind) (c : ConvertedType) (a : Annotation) → by_standing (standing k c) c (pos (number_of c)) ≡ a → a ≡ known c → Stays k a
known_stays k c a h is = subst (Stays k) (sym is) (ap (named k (pos (number_of c))) (numbered_back c) ∙ h ∙ is)

standing_stays : (k : Kind) (z : ℤ) (c : ConvertedType) (s : Standing) → s ≡ standing k c → converted_type z ≡ Some c → Stays k (by_standing s c z)
standing_stays k z c Unknown h t = ap (named k z) t ∙ ap (λ x. by_standing x c z) (sym h)
standing_stays k z c Unordered h t = known_stays k c (known c) (ap (λ x. by_standing x c (pos (number_of c))) (sym h)) refl
standing_stays k z c (Ordered o) h t = known_stays k c (known c) (ap (λ x. by_standing x c (pos (number_of c))) (sym h)) refl

named_stays : (k : Kind) (z : ℤ) (o : Option ConvertedType) → o ≡ converted_type z → Stays k (named k z o)
named_stays k z (Some c) h = standing_stays k z c (standing k c) refl (sym h)
named_stays k z None h = ap (named k z) (sym h)

string_stays : Stays ByteArray (known converted.Utf8)
string_stays = ap (named ByteArray (pos 0)) (numbered_back converted.Utf8)

if_stays : (s : Struct) (b : Bool) → b ≡ is_only_member 1 s → Stays ByteArray (if b then known converted.Utf8 else other_logical s)
if_stays s true h = string_stays
if_stays s false h = ap (λ t. if t then known converted.Utf8 else other_logical s) (sym h)

pub stays : (k : Kind) (c : Option ℤ) (s : Option Struct) → Stays k (annotation_of k c s)
stays k (Some z) s = named_stays k z (converted_type z) refl
stays ByteArray None (Some s) = if_stays s (is_only_member 1 s) refl
stays Boolean None (Some s) = refl
stays Int32 None (Some s) = refl
stays Int64 None (Some s) = refl
stays (FixedLenByteArray n) None (Some s) = refl
stays k None None = refl

standing_keeps : (z : ℤ) (c : ConvertedType) (s : Standing) → KeepsWritable (by_standing s c z)
standing_keeps z c Unknown = tt
standing_keeps z c Unordered = tt
standing_keeps z c (Ordered o) = tt

named_keeps : (k : Kind) (z : ℤ) (o : Option ConvertedType) → KeepsWritable (named k z o)
named_keeps k z (Some c) = standing_keeps z c (standing k c)
named_keeps k z None = tt

writable : (s : Struct) → KeepsWritten (other_logical s) → IsWritable s
writable s h = record { shallow = h.0; bytes = h.1 }

if_keeps : (s : Struct) (b : Bool) → is_half s ≡ false → KeepsWritten (if b then known converted.Utf8 else other_logical s) → KeepsWritable (if b then known converted.Utf8 else other_logical s)
if_keeps s true h w = tt
if_keeps s false h w = (writable s w, h)

pub keeps : (k : Kind) (c : Option ℤ) (s : Option Struct) → is_float16 c s ≡ false → KeepsWritten (annotation_of k c s) → KeepsWritable (annotation_of k c s)
keeps k (Some z) s h w = named_keeps k z (converted_type z)
keeps ByteArray None (Some s) h w = if_keeps s (is_only_member 1 s) h w
keeps Boolean None (Some s) h w = (writable s w, h)
keeps Int32 None (Some s) h w = (writable s w, h)
keeps Int64 None (Some s) h w = (writable s w, h)
keeps (FixedLenByteArray n) None (Some s) h w = (writable s w, h)
keeps k None None h w = tt

standing_sound : (z : ℤ) (c : ConvertedType) (s : Standing) → KeepsWritten (by_standing s c z)
standing_sound z c Unknown = tt
standing_sound z c Unordered = tt
standing_sound z c (Ordered o) = tt

named_sound : (k : Kind) (z : ℤ) (o : Option ConvertedType) → KeepsWritten (named k z o)
named_sound k z (Some c) = standing_sound z c (standing k c)
named_sound k z None = tt

sound_struct : (s : Struct) → is_half s ≡ false → KeepsSound (other_logical s) → KeepsWritten (other_logical s)
sound_struct s h (inl x) = absurd (false≢true (sym h ∙ x))
sound_struct s h (inr x) = (x.shallow, x.bytes)

if_sound : (s : Struct) (b : Bool) → is_half s ≡ false → KeepsSound (if b then known converted.Utf8 else other_logical s) → KeepsWritten (if b then known converted.Utf8 else other_logical s)
if_sound s true h w = tt
if_sound s false h w = sound_struct s h w

-- what is sound passes the test
pub sound : (k : Kind) (c : Option ℤ) (s : Option Struct) → is_float16 c s ≡ false → KeepsSound (annotation_of k c s) → KeepsWritten (annotation_of k c s)
sound k (Some z) s h w = named_sound k z (converted_type z)
sound ByteArray None (Some s) h w = if_sound s (is_only_member 1 s) h w
sound Boolean None (Some s) h w = sound_struct s h w
sound Int32 None (Some s) h w = sound_struct s h w
sound Int64 None (Some s) h w = sound_struct s h w
sound (FixedLenByteArray n) None (Some s) h w = sound_struct s h w
sound k None None h w = tt

at_kind : (e : Element) (t : LeafType) (k : Kind) (z : ℤ) → e.kind ≡ Some z → typed z e.type_length ≡ Some (Stored k) → HasLength k → t ≡ leaf_type k e → is_float16 e.converted_type e.logical_type ≡ false → KeepsWritten (leaf_type k e).annotation
    → IsTyped e (leaf_type k e) × IsLeafType (leaf_type k e)
at_kind e t k z there stored long is h w = (
  record { number = z; there = there; stored = stored; is = refl },
  record { decided = stays k e.converted_type e.logical_type; length = long; keeps = keeps k e.converted_type e.logical_type h w },
)

pub typed_leaf : (e : Element) (t : LeafType) (k : Kind) (z : ℤ) → e.kind ≡ Some z → typed z e.type_length ≡ Some (Stored k) → HasLength k → t ≡ leaf_type k e → is_float16 e.converted_type e.logical_type ≡ false → KeepsWritten t.annotation
    → IsTyped e t × IsLeafType t
typed_leaf e t k z there stored long is h w =
    subst (λ x. IsTyped e x × IsLeafType x) (sym is) (at_kind e t k z there stored long is h (subst (λ x. KeepsWritten x.annotation) is w))
