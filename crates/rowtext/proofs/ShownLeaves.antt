-- The values of leaves that were read as they are shown.
use Rattle.std.proofs.Common.{◌≡◌, ℕ, ℤ, pos, negsuc, Bool, true, false, ◌&&◌, List, Option, Some, None, option_map, option_and_then, if◌then◌else◌, refl, sym, ap, ◌∙◌}
use Rattle.std.specs.Fmt.{signed_decimal}
use Rattle.std.specs.Result.{result_ok}
use Rattle.std.specs.Str.{is_utf8, bytes_eq}
use Rattle.std.proofs.lemmas.Slice.Eq.{bytes_eq-Decides}
use Rattle.std.proofs.lemmas.Bool.{and_parts as and_true}
use Rattle.hex.specs.Hex.{encode_lower, decode_of}
use Rattle.serde_json.specs.Data as json
use Rattle.serde_json.specs.Find.{of_integer}
use Rattle.serde_json.specs.Written.{number_text}
use Rattle.schema.specs.Annotations.{LeafType, is_text}
use Rattle.schema.specs.Values.{ValueTree, bytes}
use Rattle.schema.specs.Fits.{fits_kind, is_valid_text, fits_leaf}
use Rattle.rowtext.specs.Json.{leaf_json}
use Rattle.rowtext.specs.Reading.{bytes_of_digits, bytes_read, leaf_read}

pub signed_text : (z : ℤ) → signed_decimal z ≡ number_text (of_integer z)
signed_text (pos n) = refl
signed_text (negsuc n) = refl

-- ---- bytes

module _ {A : Type 0} (p : A → Bool) where
  picked_by : (a b : A) (q : Bool) → p a ≡ q → (if q then Some a else None) ≡ Some b → (p b ≡ true) × (Some a ≡ Some b)
  picked_by a b true is h = let e : a ≡ b = cc in (ap p (sym e) ∙ is, h)
  picked_by a b false is h = absurd (cc)

  picked : (o : Option A) (b : A) → option_and_then (λ (x : A). if p x then Some x else None) o ≡ Some b → (p b ≡ true) × (o ≡ Some b)
  picked None b h = absurd (cc)
  picked (Some a) b h = picked_by a b (p a) refl h

mapped : (o : Option (List ℕ)) (v : ValueTree) → option_map bytes o ≡ Some v → (b : List ℕ) × (o ≡ Some b) × (bytes b ≡ v)
mapped None v h = absurd (cc)
mapped (Some b) v h = let e : bytes b ≡ v = cc in (b, refl, e)

text_said : (x : Bool) (s b : List ℕ) → (if x then is_valid_text (bytes b) else true) ≡ true → (if x then Some s else bytes_of_digits s) ≡ Some b → (if x && is_utf8 b then b else encode_lower b) ≡ s
text_said true s b valid h = let e : b ≡ s = cc in ap (λ (q : Bool). if q then b else encode_lower b) valid ∙ e
text_said false s b valid h = (bytes_eq-Decides (encode_lower b) s).0 (picked (λ x. bytes_eq (encode_lower x) s) (result_ok (decode_of s)) b h).0

-- the bytes that a string is read as are shown as that string
pub string_shown : (t : LeafType) (s : List ℕ) (v : ValueTree) → leaf_read t (json.string s) ≡ Some v → (fits_leaf t v ≡ true) × (leaf_json t v ≡ json.string s)
string_shown t s v h =
    let chosen = picked (fits_leaf t) (option_map bytes (bytes_read t s)) v h in
    let found = mapped (bytes_read t s) v chosen.1 in
    let fit : fits_leaf t (bytes found.0) ≡ true = ap (fits_leaf t) found.2 ∙ chosen.0 in
    let said = text_said (is_text t.kind t.annotation) s found.0 (and_true (fits_kind t.kind (bytes found.0)) _ fit).1 found.1 in
    (chosen.0, sym (ap (leaf_json t) found.2) ∙ ap json.string said)
