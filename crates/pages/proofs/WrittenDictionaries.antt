-- The pages of dictionaries that are written.
use Rattle.std.proofs.Common.{◌≡◌, ℕ, ◌+◌, ◌-◌, ◌^◌, ◌≤◌, ◌<◌, List, length, Some, refl, sym, ap, subst, arith, inl, inr, true, pos}
use Rattle.std.specs.Prelude.{◌⊎◌, All, min}
use Rattle.std.proofs.lemmas.List.{length-append}
use Rattle.bits.specs.Codec.{Appends}
use Rattle.thrift_compact.specs.Compact.{IsThrift}
use Rattle.schema.specs.declared.value.Kind.{Kind}
use Rattle.schema.specs.Values.{ValueTree}
use Rattle.metadata.specs.Records.{PageHeader}
use Rattle.metadata.specs.FromTree.{page_header, has_own_header}
use Rattle.metadata.specs.ToTree.{page_header_fields}
use Rattle.plain.specs.Plain.{IsPlain, HasZeroPadding, IsOfKind, plain_size}
use Rattle.pages.specs.declared.encoding.Encoding.TheVariants.{Plain}
use Rattle.pages.specs.Encodings.{ArePlain}
use Rattle.pages.specs.Greatest.{most_of_page}
use Rattle.pages.specs.Headers.{dictionary_header, IsWrittenDictionary}
use Rattle.pages.specs.Writing.{dictionary_weight, IsDictionaryTooMuch, StandsAsDictionary}
use Rattle.pages.specs.WrittenValues.{AreWritten}
use Rattle.pages.specs.inner.Put.{most_of_values}
use Rattle.pages.proofs.WrittenHeaders.{headed}
use Rattle.pages.proofs.WrittenValues.{plain_put, plain_light}
use Rattle.pages.proofs.WrittenPages.{fills}

-- the header, and the entries after it
pub dictionary_put : (kind : Kind) (vs : List ValueTree) (size count : ℕ) (old mid new : List ℕ) → ((h : PageHeader) → has_own_header h ≡ true → page_header (page_header_fields h) ≡ Some h) → All (IsOfKind kind) vs
    → size ≡ min (plain_size kind vs) (2 ^ 64 - 1) → size ≤ most_of_page → count ≡ length vs → Appends (λ bytes. IsThrift bytes (page_header_fields (dictionary_header size count))) 128 old mid
    → Appends (λ bytes. IsPlain kind (length vs) bytes vs) (plain_size kind vs) mid new → Appends (HasZeroPadding kind (length vs)) (plain_size kind vs) mid new → length new ≡ length mid + plain_size kind vs
    → Appends (IsWrittenDictionary kind vs) (dictionary_weight vs) old new
dictionary_put kind vs size count old mid new again are sized small counted p q z total =
    let values = plain_put kind vs mid new are q z in
    let text = values.text in
    let long : size ≡ length text = omega (arith, sized, small, total, ap length values.joined, length-append mid text) in
    let one = subst (λ (n : ℕ). Appends (λ bytes. IsThrift bytes (page_header_fields (dictionary_header n count))) 128 old mid) long p in
    let put = subst (λ (n : ℕ). Appends (λ bytes. IsThrift bytes (page_header_fields (dictionary_header (length text) n))) 128 old mid) counted one in
    let h = dictionary_header (length text) (length vs) in
    let page = headed h text old mid new (again h refl) refl put values.joined in
    record {
      text = page.text;
      joined = page.joined;
      stands = λ more. record { text = text; spelled = fills (AreWritten kind Plain vs) (most_of_values vs) mid new values; small = omega (arith, long, small); headed = page.stands more };
      short = omega (arith, page.short, values.short);
    }

pub too_much : (kind : Kind) (vs : List ValueTree) (size count : ℕ) → All (IsOfKind kind) vs → size ≡ min (plain_size kind vs) (2 ^ 64 - 1) → count ≡ length vs → (most_of_page < size) ⊎ (most_of_page < count) → IsDictionaryTooMuch vs
too_much kind vs size count are sized counted (inl big) = inr (omega (arith, big, sized, plain_light kind vs are))
too_much kind vs size count are sized counted (inr many) = inr (omega (arith, many, counted))

pub dictionary_stands : (kind : Kind) (vs : List ValueTree) (most : ℕ) (old new : List ℕ) → Appends (IsWrittenDictionary kind vs) most old new → Appends (StandsAsDictionary kind vs) most old new
dictionary_stands kind vs most old new p = record {
  text = p.text;
  joined = p.joined;
  stands = λ more leaf d same.
      let here = p.stands more in
      let plain : ArePlain leaf.leaf_type.kind here.text vs = subst (λ (k : Kind). ArePlain k here.text vs) (sym same) (length here.text, here.spelled.0) in
      record {
        header = dictionary_header (length here.text) (length vs);
        body = here.text;
        framed = here.headed.framed;
        stands_for = (record { num_values = pos (length vs); encoding = pos 0; is_sorted = _ }, refl, refl, record { count = refl; encoding = inl refl; spelled = plain });
      };
  short = p.short;
}
