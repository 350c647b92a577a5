-- What holds of structs and of their bytes: Thrift's compact protocol, "Struct Encoding".
use Rattle.std.specs.Prelude.{◌≡◌, ℕ, ◌<◌, List, ◌++◌, length, drop}
use Rattle.bits.specs.Codec.{NothingStands, Appends}
use Rattle.thrift_compact.specs.Tree.{Node, Fields}
use Rattle.thrift_compact.specs.Compact.{IsThrift}
use Rattle.thrift_compact.specs.Values.{ValueOf}

-- a struct at the start of the bytes stands there whatever follows them
abbrev pub StructsStay : Type 0
StructsStay = (bytes more : List ℕ) (fields : Fields) (used : ℕ) → IsThrift bytes fields used → IsThrift (bytes ++ more) fields used

-- a value of a type at the start of the bytes stands there whatever follows it
abbrev pub ValuesStay : Type 0
ValuesStay = (code left : ℕ) (bytes more : List ℕ) (x : Node) (used : ℕ) → ValueOf code left bytes x used → ValueOf code left (bytes ++ more) x used

-- where the bytes of a struct are cut, no struct stands
abbrev pub CutStructsDoNotStand : Type 0
CutStructsDoNotStand =
    (bytes more : List ℕ) (fields : Fields) (used : ℕ) → IsThrift (bytes ++ more) fields used → length bytes < used → NothingStands (IsThrift bytes)

-- the bytes that the writing of a struct added stand for it, whatever follows them
abbrev pub WrittenStructsStand : Type 0
WrittenStructsStand =
    (fields : Fields) (most : ℕ) (old new more : List ℕ) → Appends (λ bytes used. IsThrift bytes fields used) most old new →
    (let text = drop (length old) new in IsThrift (text ++ more) fields (length text))

-- the bytes that the writing of a struct added stand for no other struct, and for it in no other number of bytes, whatever follows them
abbrev pub WrittenStructsAreNoOthers : Type 0
WrittenStructsAreNoOthers =
    (fields seen : Fields) (most used : ℕ) (old new more : List ℕ) → Appends (λ bytes used. IsThrift bytes fields used) most old new →
    (let text = drop (length old) new in IsThrift (text ++ more) seen used → (seen ≡ fields) × (used ≡ length text))
