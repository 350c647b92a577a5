-- What the parts of a page's body stand for, and what they are refused for.
use Rattle.std.specs.Prelude.{◌≡◌, ◌≤◌, ℕ, List, length, All, Option, IsTrue, Some, pos}
use Rattle.std.specs.List.{AllByRecursion}
use Rattle.bits.specs.declared.refusal.Refusal.{Refusal}
use Rattle.bits.specs.declared.refusal.Refusal.TheVariants.{Truncated, Thrift, Encoding as EncodingFault, Page as PageFault, Levels, Value, Utf8}
use Rattle.schema.specs.declared.value.Kind.{Kind}
use Rattle.schema.specs.declared.value.Kind.TheVariants.{ByteArray, FixedLenByteArray}
use Rattle.schema.specs.Annotations.{LeafType}
use Rattle.schema.specs.Fits.{fits_leaf}
use Rattle.schema.specs.Law.{IsEntryOf}
use Rattle.schema.specs.Stripe.{Leaf, Entry}
use Rattle.schema.specs.Values.{ValueTree}
use Rattle.pages.specs.declared.encoding.Encoding.{Encoding}
use Rattle.pages.specs.declared.standing.Standing.{Standing}
use Rattle.pages.specs.declared.standing.Standing.TheVariants.{Unknown, Known}
use Rattle.metadata.specs.Records.{DataPageHeader, DataPageHeaderV2, DictionaryPageHeader}
use Rattle.plain.specs.Plain.{IsReadOver}
use Rattle.pages.specs.Encodings.{encoding_of, AreValues}
use Rattle.pages.specs.Limits.{IsValueOver, full}
use Rattle.pages.specs.Page.{Spell, AreLevelsV1, AreLevelsV2, IsEncodingOfDictionary, repetitions, definitions, values}

-- no level is above the leaf's greatest
pub record AreWithin (leaf : Leaf) (rs ds : List ℕ) : Type 0 where
  pub repetitions : All (λ r. r ≤ leaf.greatest_repetition) rs
  pub definitions : All (λ d. d ≤ leaf.greatest_definition) ds

-- all values are the leaf's
abbrev pub AllFit : LeafType → List ValueTree → Type 0
AllFit t vs = AllByRecursion (λ v. IsTrue (fits_leaf t v)) vs

-- values of this physical type are bytes
abbrev pub HasBytes : Kind → Type 0
HasBytes ByteArray = Unit {0}
HasBytes (FixedLenByteArray size) = Unit {0}
HasBytes _ = ⊥

-- n values of the leaf stand in the text by this encoding, in a chunk that has this dictionary
pub record AreLeafValues (d : Option (List ValueTree)) (t : LeafType) (e : Option Encoding) (text : List ℕ) (n : ℕ) (vs : List ValueTree) : Type 0 where
  pub count : length vs ≡ n
  pub stand : AreValues d t.kind e text vs
  pub fit : AllFit t vs

-- n values of the leaf stand in the text by this encoding, whatever dictionary the chunk has: the encoding needs none
abbrev pub StandInAnyChunk : LeafType → Encoding → List ℕ → ℕ → List ValueTree → Type 0
StandInAnyChunk t e text n vs = (d : Option (List ValueTree)) → AreLeafValues d t (Some e) text n vs

-- no n values of the leaf stand in the text by this encoding, whatever dictionary the chunk has
abbrev pub StandInNoChunk : LeafType → Encoding → List ℕ → ℕ → Type 0
StandInNoChunk t e text n = (d : Option (List ValueTree)) (vs : List ValueTree) → AreLeafValues d t (Some e) text n vs → ⊥

-- n values of the leaf; where there is none, the text is not read
pub record AreSpelled (d : Option (List ValueTree)) (t : LeafType) (e : Option Encoding) (text : List ℕ) (n : ℕ) (vs : List ValueTree) : Type 0 where
  pub count : length vs ≡ n
  pub spelled : Spell (AreValues d t.kind e) text vs
  pub fit : AllFit t vs

-- entries of these levels, with the values that stand in the text
pub record AreEntries (leaf : Leaf) (d : Option (List ValueTree)) (e : Option Encoding) (text rs ds : List ℕ) (es : List Entry) : Type 0 where
  pub repetitions_are : repetitions es ≡ rs
  pub definitions_are : definitions es ≡ ds
  pub each : AllByRecursion (IsEntryOf leaf) es
  pub spelled : Spell (AreValues d leaf.leaf_type.kind e) text (values es)

-- a value of a page of version 1 is announced with more bytes than a value may have
pub record IsDataOver (leaf : Leaf) (own : DataPageHeader) (body : List ℕ) : Type 0 where
  pub repetitions : List ℕ
  pub definitions : List ℕ
  pub text : List ℕ
  pub levels : AreLevelsV1 leaf own body repetitions definitions text
  pub over : IsValueOver leaf.leaf_type.kind (encoding_of own.encoding) text (full leaf definitions)

-- a value of a page of version 2 is announced with more bytes than a value may have
pub record IsDataOverV2 (leaf : Leaf) (own : DataPageHeaderV2) (body : List ℕ) : Type 0 where
  pub repetitions : List ℕ
  pub definitions : List ℕ
  pub text : List ℕ
  pub levels : AreLevelsV2 leaf own body repetitions definitions text
  pub over : IsValueOver leaf.leaf_type.kind (encoding_of own.encoding) text (full leaf definitions)

-- a value of a dictionary page is announced with more bytes than a value may have
pub record IsDictionaryOver (kind : Kind) (own : DictionaryPageHeader) (body : List ℕ) : Type 0 where
  pub count : ℕ
  pub says : own.num_values ≡ pos count
  pub encoding : IsEncodingOfDictionary own.encoding
  pub over : IsReadOver kind body count

-- where it is known that a page stands within the limits, P does not hold
abbrev pub RuledOut : Standing → Type 0 → Type 0
RuledOut Unknown P = Unit {0}
RuledOut Known P = P → ⊥

-- what levels are refused for
abbrev pub IsOfLevels : Refusal → Type 0
IsOfLevels Truncated = Unit {0}
IsOfLevels Thrift = Unit {0}
IsOfLevels EncodingFault = Unit {0}
IsOfLevels PageFault = Unit {0}
IsOfLevels Levels = Unit {0}
IsOfLevels Value = Unit {0}
IsOfLevels _ = ⊥

-- what values by an encoding without a limit are refused for
abbrev pub IsOfValuePages : Refusal → Type 0
IsOfValuePages Truncated = Unit {0}
IsOfValuePages Thrift = Unit {0}
IsOfValuePages EncodingFault = Unit {0}
IsOfValuePages Value = Unit {0}
IsOfValuePages Utf8 = Unit {0}
IsOfValuePages _ = ⊥
