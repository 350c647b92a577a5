-- Words of the reader and of the numbers of types.
use Rattle.std.specs.Prelude.{◌≡◌, ◌⊎◌, ◌<◌}
use Rattle.bits.specs.declared.refusal.Refusal.{Refusal}
use Rattle.bits.specs.declared.refusal.Refusal.TheVariants.{Truncated, Thrift}
use Rattle.thrift_compact.specs.declared.tree.ElementType.{ElementType}
use Rattle.thrift_compact.specs.declared.tree.ElementType.TheVariants.{Other}

-- what bytes of a struct are refused for
abbrev pub IsOfBytes : Refusal → Type 0
IsOfBytes Truncated = Unit {0}
IsOfBytes Thrift = Unit {0}
IsOfBytes _ = ⊥

-- a code of four bits, under its name where it has one
abbrev pub IsNamed : ElementType → Type 0
IsNamed (Other code) = (code ≡ 0) ⊎ ((12 < code) × (code < 16))
IsNamed _ = Unit {0}
