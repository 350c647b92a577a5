-- What the parts of a page leave in a buffer.
use Rattle.std.specs.Prelude.{◌≡◌, ◌⊎◌, ◌≤◌, ◌<◌, ℕ, zero, suc, ◌+◌, ◌*◌, List, [], ◌++◌, length}
use Rattle.std.specs.List.{Any}
use Rattle.bits.specs.declared.refusal.Refusal.{Refusal}
use Rattle.bits.specs.declared.refusal.Refusal.TheVariants.{Encoding as EncodingFault, Limit}
use Rattle.schema.specs.declared.value.Kind.{Kind}
use Rattle.schema.specs.Stripe.{Leaf, Entry}
use Rattle.schema.specs.Values.{ValueTree}
use Rattle.plain.specs.Plain.{IsTooLong, text_size}
use Rattle.pages.specs.declared.encoding.Encoding.{Encoding}
use Rattle.pages.specs.declared.encoding.Encoding.TheVariants.{Plain}
use Rattle.pages.specs.declared.page_version.PageVersion.{PageVersion}
use Rattle.pages.specs.declared.page_version.PageVersion.TheVariants.{V1, V2}
use Rattle.pages.specs.Greatest.{most_of_page}
use Rattle.pages.specs.WrittenValues.{AreValuesIn}
use Rattle.pages.specs.Writing.{IsEncodingFor, IsPageTooMuch}
use Rattle.pages.specs.Page.{repetitions, definitions}
use Rattle.bits.specs.Codec.{Appends}
use Rattle.metadata.specs.Records.{PageHeader}
use Rattle.pages.specs.declared.header_writing.DataPageHead.{DataPageHead}
use Rattle.pages.specs.declared.header_writing.SectionSizes.{SectionSizes}
use Rattle.pages.specs.Headers.{AreLevelsIn, data_header, body_of, IsHeaded}

-- only the end is new
abbrev pub Extends : List ℕ → List ℕ → Type 0
Extends old new = (text : List ℕ) × (new ≡ old ++ text)

-- the bytes of `new` are those of `old` and at most `most` more, which are so
pub record Puts (Is : List ℕ → Type 0) (most : ℕ) (old new : List ℕ) : Type 0 where
  pub text : List ℕ
  pub joined : new ≡ old ++ text
  pub is : Is text
  pub short : length text ≤ most

-- both sections of levels, one after the other and without their lengths, and how many bytes each has
pub record AreSections (leaf : Leaf) (es : List Entry) (bytes : List ℕ) (repetition_size definition_size : ℕ) : Type 0 where
  pub repetition_bytes : List ℕ
  pub definition_bytes : List ℕ
  pub joined : bytes ≡ repetition_bytes ++ definition_bytes
  pub first : AreLevelsIn leaf.greatest_repetition (repetitions es) repetition_bytes
  pub second : AreLevelsIn leaf.greatest_definition (definitions es) definition_bytes
  pub first_size : repetition_size ≡ length repetition_bytes
  pub second_size : definition_size ≡ length definition_bytes
  pub first_short : length repetition_bytes ≤ 80 + 9 * length es
  pub second_short : length definition_bytes ≤ 80 + 9 * length es

-- how many bytes come before a section of levels
abbrev pub before : PageVersion → ℕ → ℕ
before V1 zero = 0
before V1 (suc g) = 4
before V2 g = 0

-- how many bytes values take at most
abbrev pub most_of_values : List ValueTree → ℕ
most_of_values vs = 340 + 10 * length vs + text_size vs

-- what values are refused for that should be written in an encoding
abbrev pub IsOfValueWriting : Kind → Encoding → List ValueTree → Refusal → Type 0
IsOfValueWriting kind encoding vs EncodingFault = IsEncodingFor kind encoding → ⊥
IsOfValueWriting kind encoding vs Limit = Any IsTooLong vs ⊎ (most_of_page < 80 + 9 * length vs)
IsOfValueWriting kind encoding vs _ = ⊥

-- the sections of levels, which have these sizes, and the values after them
pub record AreParts (parts : List ℕ) (sizes : SectionSizes) (r d text : List ℕ) : Type 0 where
  pub joined : parts ≡ r ++ (d ++ text)
  pub first : sizes.repetitions ≡ length r
  pub second : sizes.definitions ≡ length d

-- the header of a body that begins with these sections
abbrev pub header_of : Leaf → DataPageHead → List ℕ → List ℕ → List ℕ → PageHeader
header_of leaf head r d text = data_header head.version head.encoding head.entries head.nulls head.rows (length (body_of head.version leaf r d text)) (length r) (length d)

-- a data page of these parts stands at the end
pub record IsDataPage (leaf : Leaf) (head : DataPageHead) (r d text old new : List ℕ) : Type 0 where
  pub stands : Appends (IsHeaded (header_of leaf head r d text) (body_of head.version leaf r d text)) (136 + length r + length d + length text) old new
  pub small : length (body_of head.version leaf r d text) ≤ most_of_page
  pub few : head.entries ≤ most_of_page

-- what entries of a leaf of this type are refused for that should be written in an encoding
abbrev pub IsOfPageWriting : Kind → Encoding → List Entry → Refusal → Type 0
IsOfPageWriting kind encoding es EncodingFault = IsEncodingFor kind encoding → ⊥
IsOfPageWriting kind encoding es Limit = IsPageTooMuch es
IsOfPageWriting kind encoding es _ = ⊥

-- a data page without levels, of these values in PLAIN, stands at the end
pub record IsPlainDataPage (leaf : Leaf) (head : DataPageHead) (vs : List ValueTree) (old new : List ℕ) : Type 0 where
  pub text : List ℕ
  pub spelled : AreValuesIn leaf.leaf_type.kind Plain vs text
  pub short : length text ≤ most_of_values vs
  pub page : IsDataPage leaf head [] [] text old new

-- what PLAIN values are refused for that should make a page of n entries
abbrev pub IsOfPlainWriting : ℕ → List ValueTree → Refusal → Type 0
IsOfPlainWriting n vs Limit = Any IsTooLong vs ⊎ (most_of_page < most_of_values vs) ⊎ (most_of_page < n)
IsOfPlainWriting n vs _ = ⊥
