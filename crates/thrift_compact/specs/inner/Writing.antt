-- What each writer writes, in at most `left` more levels.
use Rattle.std.specs.Prelude.{◌≡◌, ℕ, ◌+◌, ◌≤◌, ℤ, pos, ◌+ℤ◌, List, ◌++◌, drop}
use Rattle.bits.specs.declared.refusal.Refusal.{Refusal}
use Rattle.bits.specs.declared.refusal.Refusal.TheVariants.{Thrift}
use Rattle.bits.specs.Varint.{IsShortestUleb, zigzag_of}
use Rattle.bits.specs.Codec.{Appends}
use Rattle.thrift_compact.specs.Tree.{Node, Nodes, Pairs, Fields, nest, nodes_nest, pairs_nest, fields_nest}
use Rattle.thrift_compact.specs.Length.{size_value, size_field_head}
use Rattle.thrift_compact.specs.Compact.{kind, IsElement, IsFieldHead, IsValue, AreElements, ArePairs, AreFields}

-- the refusal is Thrift, and no bytes stand for what was to be written
abbrev pub IsWithoutBytes : (List ℕ → ℕ → Type 0) → Refusal → Type 0
IsWithoutBytes Stands e = (e ≡ Thrift) × ((bytes : List ℕ) (used : ℕ) → Stands bytes used → ⊥)

-- the bytes that were there stay before the others
pub record Keeps (old new : List ℕ) : Type 0 where
  pub text : List ℕ
  pub joined : new ≡ old ++ text

-- the step from the previous field in a short header
pub record IsStep (previous id : ℤ) (step : ℕ) : Type 0 where
  pub low : 1 ≤ step
  pub high : step ≤ 15
  pub is : id ≡ previous +ℤ pos step

-- a zigzag varint, and no longer than it must be
abbrev pub IsShortestSigned : ℤ → List ℕ → ℕ → Type 0
IsShortestSigned z bytes used = IsShortestUleb bytes (zigzag_of z) used

-- the first `used` bytes stand for the value, which is nested at most `left` levels
abbrev pub SpellsValue : ℕ → Node → List ℕ → ℕ → Type 0
SpellsValue left x bytes used = (nest x ≤ left) × IsValue x bytes used

-- the bytes of `new` are those of `old` and at most `size_value` more, which stand for the value
abbrev pub AppendsValue : ℕ → Node → List ℕ → List ℕ → Type 0
AppendsValue left x old new = Appends (SpellsValue left x) (size_value x) old new

-- the first `used` bytes stand for the element, which is of the type of this code and nested at most `left` levels
abbrev pub SpellsElement : ℕ → ℕ → Node → List ℕ → ℕ → Type 0
SpellsElement code left x bytes used = IsElement code x × (nest x ≤ left) × IsValue x bytes used

-- the first `used` bytes stand for the elements, which are of the type of this code and nested at most `left` levels
abbrev pub SpellsElements : ℕ → ℕ → Nodes → List ℕ → ℕ → Type 0
SpellsElements code left xs bytes used = (nodes_nest xs ≤ left) × AreElements xs code bytes used

-- the first `used` bytes stand for the key and the value, which are of the types of these codes and nested at most `left` levels
abbrev pub SpellsPair : ℕ → ℕ → ℕ → Node → Node → List ℕ → ℕ → Type 0
SpellsPair key value left x y bytes used = (s t : ℕ) × SpellsElement key left x bytes s × SpellsElement value left y (drop s bytes) t × (used ≡ s + t)

-- the bytes of `new` are those of `old` and at most `size_value` more for each of the key and the value, which stand for the pair
abbrev pub AppendsPair : ℕ → ℕ → ℕ → Node → Node → List ℕ → List ℕ → Type 0
AppendsPair key value left x y old new = Appends (SpellsPair key value left x y) (size_value x + size_value y) old new

-- the first `used` bytes stand for the pairs, which are of the types of these codes and nested at most `left` levels
abbrev pub SpellsPairs : ℕ → ℕ → ℕ → Pairs → List ℕ → ℕ → Type 0
SpellsPairs key value left ps bytes used = (pairs_nest ps ≤ left) × ArePairs ps key value bytes used

-- the first `used` bytes stand for the field after the previous one: its header, and its value, which is nested at most `left` levels
abbrev pub SpellsField : ℤ → ℕ → ℤ → Node → List ℕ → ℕ → Type 0
SpellsField previous left id x bytes used = (s t : ℕ) × IsFieldHead previous bytes id (kind x) s × SpellsValue left x (drop s bytes) t × (used ≡ s + t)

-- the bytes of `new` are those of `old` and at most as many more as the header and the value take, which stand for the field
abbrev pub AppendsField : ℤ → ℕ → ℤ → Node → List ℕ → List ℕ → Type 0
AppendsField previous left id x old new = Appends (SpellsField previous left id x) (size_field_head previous id + size_value x) old new

-- the first `used` bytes stand for the fields and the byte that ends them, with values nested at most `left` levels
abbrev pub SpellsFields : ℕ → Fields → List ℕ → ℕ → Type 0
SpellsFields left fs bytes used = (fields_nest fs ≤ left) × AreFields fs (pos 0) bytes used
