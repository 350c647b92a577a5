-- Which structs have bytes: Thrift's compact protocol, "Struct Encoding".
use Rattle.std.specs.Prelude.{ℕ, List}
use Rattle.thrift_compact.specs.Tree.{Fields}
use Rattle.thrift_compact.specs.Compact.{IsThrift}

-- some bytes stand for the struct
abbrev pub HasBytes : Fields → Type 0
HasBytes fields = (bytes : List ℕ) × (used : ℕ) × IsThrift bytes fields used
