-- Headers that are written, and the pages of them.
use Rattle.std.proofs.Common.{◌≡◌, ℕ, ◌+◌, ◌≤◌, List, ◌++◌, length, drop, Some, refl, sym, ap, subst, ◌∙◌, arith, append_assoc, pos, true, false, Result, Ok, Err}
use Rattle.std.proofs.lemmas.List.{length-append, drop_at}
use Rattle.bits.specs.declared.refusal.Refusal.{Refusal}
use Rattle.bits.specs.declared.refusal.Refusal.TheVariants.{Thrift, Memory}
use Rattle.bits.specs.Refusals.{RefusedOnly}
use Rattle.bits.specs.Codec.{Appends}
use Rattle.thrift_compact.specs.Compact.{IsThrift}
use Rattle.thrift_compact.specs.Length.{size_struct}
use Rattle.thrift_compact.proofs.Most.{struct_at_most}
use Rattle.metadata.specs.Records.{PageHeader}
use Rattle.metadata.specs.FromTree.{page_header, has_own_header}
use Rattle.metadata.specs.ToTree.{page_header_fields}
use Rattle.pages.specs.declared.encoding.Encoding.{Encoding}
use Rattle.pages.specs.declared.page_version.PageVersion.{PageVersion}
use Rattle.pages.specs.declared.page_version.PageVersion.TheVariants.{V1, V2}
use Rattle.pages.specs.Headers.{data_header, dictionary_header, IsHeaded}

pub data_header_size : (version : PageVersion) (encoding : Encoding) (count nulls rows size r d : ℕ) → size_struct (page_header_fields (data_header version encoding count nulls rows size r d)) ≤ 128
data_header_size V1 encoding count nulls rows size r d = omega (arith, struct_at_most (page_header_fields (data_header V1 encoding count nulls rows size r d)))
data_header_size V2 encoding count nulls rows size r d = omega (arith, struct_at_most (page_header_fields (data_header V2 encoding count nulls rows size r d)))

pub dictionary_header_size : (size count : ℕ) → size_struct (page_header_fields (dictionary_header size count)) ≤ 128
dictionary_header_size size count = omega (arith, struct_at_most (page_header_fields (dictionary_header size count)))

pub has_own_data : (version : PageVersion) (encoding : Encoding) (count nulls rows size r d : ℕ) → has_own_header (data_header version encoding count nulls rows size r d) ≡ true
has_own_data V1 encoding count nulls rows size r d = refl
has_own_data V2 encoding count nulls rows size r d = refl

-- a header, as its record is written
pub header_put : (h w : PageHeader) (old new : List ℕ) → h ≡ w → size_struct (page_header_fields w) ≤ 128 → Appends (λ bytes. IsThrift bytes (page_header_fields h)) (size_struct (page_header_fields h)) old new
    → Appends (λ bytes. IsThrift bytes (page_header_fields w)) 128 old new
header_put h w old new is few p =
    let q : Appends (λ bytes. IsThrift bytes (page_header_fields w)) (size_struct (page_header_fields w)) old new
    = subst (λ (x : PageHeader). Appends (λ bytes. IsThrift bytes (page_header_fields x)) (size_struct (page_header_fields x)) old new) is p in
    record { text = q.text; joined = q.joined; stands = q.stands; short = omega (arith, q.short, few) }

-- the header that its type names is there, so that Thrift does not come
pub never_thrift : {X : Type 0} (Also : Refusal → Type 0) (h w : PageHeader) (r : Result X Refusal) → h ≡ w → has_own_header w ≡ true → RefusedOnly (λ e. (e ≡ Thrift) × (has_own_header h ≡ false)) r → RefusedOnly Also r
never_thrift Also h w (Ok x) is own p = tt
never_thrift Also h w (Err Memory) is own p = tt
never_thrift Also h w (Err e) is own p = absurd (let both : true ≡ false = sym own ∙ sym (ap has_own_header is) ∙ p.1 in cc)

-- a header and the body after it
pub headed : (h : PageHeader) (body old mid new : List ℕ) → page_header (page_header_fields h) ≡ Some h → h.compressed_page_size ≡ pos (length body) → Appends (λ bytes. IsThrift bytes (page_header_fields h)) 128 old mid → new ≡ mid ++ body
    → Appends (IsHeaded h body) (128 + length body) old new
headed h body old mid new again size p joined = record {
  text = p.text ++ body;
  joined = joined ∙ ap (λ (t : List ℕ). t ++ body) p.joined ∙ append_assoc old p.text body;
  stands = λ more.
      let whole : (p.text ++ body) ++ more ≡ p.text ++ (body ++ more) = append_assoc p.text body more in
      let here = subst (λ (t : List ℕ). IsThrift t (page_header_fields h) (length p.text)) (sym whole) (p.stands (body ++ more)) in
      record {
        framed = record {
          header_end = length p.text;
          rest = more;
          begins = record { fields = page_header_fields h; spelled = here; record_of = again };
          follows = ap (λ (t : List ℕ). drop (length p.text) t) whole ∙ drop_at p.text (body ++ more) (length p.text) refl;
          size = size;
          ends = length-append p.text body;
        };
        bare = here;
      };
  short = omega (arith, length-append p.text body, p.short);
}
