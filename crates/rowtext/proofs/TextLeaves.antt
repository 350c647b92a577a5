-- A leaf of texts reads any text.
use Rattle.std.proofs.Common.{◌≡◌, ℕ, List, true, true≢false, Some, refl, sym}
use Rattle.std.specs.Str.{is_utf8}
use Rattle.serde_json.specs.Data.{string}
use Rattle.schema.specs.declared.value.Kind.{Kind}
use Rattle.schema.specs.declared.value.Kind.TheVariants.{Boolean, Int32, Int64, ByteArray, FixedLenByteArray}
use Rattle.schema.specs.Annotations.{Annotation, LeafType, is_text}
use Rattle.schema.specs.Values.{bytes}
use Rattle.schema.specs.Fits.{are_bytes, fits_kind}
use Rattle.rowtext.specs.Reading.{leaf_read}

-- text is of bytes of any length
text_fits : (k : Kind) (a : Annotation) (s : List ℕ) → is_text k a ≡ true → are_bytes s ≡ true → fits_kind k (bytes s) ≡ true
text_fits Boolean a s h are = absurd (true≢false (sym h))
text_fits Int32 a s h are = absurd (true≢false (sym h))
text_fits Int64 a s h are = absurd (true≢false (sym h))
text_fits ByteArray a s h are = are
text_fits (FixedLenByteArray n) a s h are = absurd (true≢false (sym h))

-- text is read as it is
pub text_read : (t : LeafType) (s : List ℕ) → is_text t.kind t.annotation ≡ true → are_bytes s ≡ true → is_utf8 s ≡ true → leaf_read t (string s) ≡ Some (bytes s)
text_read t s h are utf8 = rw (h, text_fits t.kind t.annotation s h are, utf8) refl
