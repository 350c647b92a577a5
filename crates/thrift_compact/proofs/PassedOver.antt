-- What is passed stands there, whatever it is.
use Rattle.std.proofs.Common.{◌≡◌, ◌⊎◌, inl, inr, ℕ, ◌+◌, ◌≤◌, List, length, take, drop, refl, sym, ap, subst, arith}
use Rattle.std.specs.Prelude.{ℤ, pos}
use Rattle.std.proofs.lemmas.List.{length-take-le, length-drop}
use Rattle.bits.specs.Varint.{IsUleb}
use Rattle.thrift_compact.specs.declared.tree.ElementType.{ElementType}
use Rattle.thrift_compact.specs.declared.tree.ElementType.TheVariants.{True, False, List as ListType, Set, Map, Struct}
use Rattle.thrift_compact.specs.View.{code_of}
use Rattle.thrift_compact.specs.inner.Reading.{IsNesting, SomethingStands, ValueOf}
use Rattle.thrift_compact.specs.Tree.{yes, no, Nodes, no_nodes, Pairs, no_pairs, Fields, no_fields}
use Rattle.thrift_compact.specs.Compact.{IsBinary}
use Rattle.thrift_compact.proofs.Elements as elements
use Rattle.thrift_compact.proofs.PairsRead as pairs
use Rattle.thrift_compact.proofs.FieldsRead as fields

-- `done` elements are passed, up to `at`
pub record PastElements (bytes : List ℕ) (code left size done at : ℕ) : Type 0 where
  pub within : at ≤ length bytes
  pub front : Nodes
  pub going : elements.Going bytes code left size done at front

pub elements_begin : (bytes : List ℕ) (code left size : ℕ) → PastElements bytes code left size 0 0
elements_begin bytes code left size = record { within = omega arith; front = no_nodes; going = elements.begins bytes code left size }

-- `done` pairs are passed, up to `at`
pub record PastPairs (bytes : List ℕ) (key value left size done at : ℕ) : Type 0 where
  pub within : at ≤ length bytes
  pub front : Pairs
  pub going : pairs.GoingPairs bytes key value left size done at front

pub pairs_begin : (bytes : List ℕ) (key value left size : ℕ) → PastPairs bytes key value left size 0 0
pairs_begin bytes key value left size = record { within = omega arith; front = no_pairs; going = pairs.begins bytes key value left size }

-- some fields are passed, up to `at`
pub record PastFields (bytes : List ℕ) (left at : ℕ) (previous : ℤ) : Type 0 where
  pub within : at ≤ length bytes
  pub front : Fields
  pub going : fields.GoingFields bytes left at previous front

pub fields_begin : (bytes : List ℕ) (left : ℕ) → PastFields bytes left 0 (pos 0)
fields_begin bytes left = record { within = omega arith; front = no_fields; going = fields.begins bytes left }

-- a length, and that many bytes
pub binary_past : (bytes : List ℕ) (size head : ℕ) → IsUleb bytes size head → head + size ≤ length bytes → (text : List ℕ) × IsBinary bytes text (head + size)
binary_past bytes size head uleb within =
    let text = take size (drop head bytes) in
    let long : length text ≡ size = length-take-le size (drop head bytes) (omega (arith, within, length-drop head bytes)) in (
      text,
      record {
        head = head;
        size = subst (λ n. IsUleb bytes n head) (sym long) uleb;
        within = omega (arith, long, within);
        is = ap (λ (n : ℕ). take n (drop head bytes)) long;
        total = omega (arith, long);
      },
    )

-- of the types whose values nest, the one that is left
pub struct_type : (k : ElementType) → IsNesting k → (k ≡ ListType → ⊥) → (k ≡ Set → ⊥) → (k ≡ Map → ⊥) → code_of k ≡ 12
struct_type ListType nesting l s m = absurd (l refl)
struct_type Set nesting l s m = absurd (s refl)
struct_type Map nesting l s m = absurd (m refl)
struct_type Struct nesting l s m = refl
struct_type k nesting l s m = absurd nesting

-- a boolean of a field stands in the field's head
pub boolean_stands : (k : ElementType) → (k ≡ True) ⊎ (k ≡ False) → (left : ℕ) (bytes : List ℕ) → SomethingStands (ValueOf (code_of k) left) bytes 0
boolean_stands k (inl is) left bytes = (yes, (sym (ap code_of is), omega arith, refl))
boolean_stands k (inr is) left bytes = (no, (sym (ap code_of is), omega arith, refl))

-- the codes of a boolean's types
pub boolean_code : (k : ElementType) → (k ≡ True) ⊎ (k ≡ False) → (code_of k ≡ 1) ⊎ (code_of k ≡ 2)
boolean_code k (inl is) = inl (ap code_of is)
boolean_code k (inr is) = inr (ap code_of is)
