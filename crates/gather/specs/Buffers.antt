-- Buffers of rows, each under its key.
use Rattle.std.specs.Prelude.{◌≡◌, List, [], ◌∷◌, map}
use Rattle.std.specs.List.{AllByRecursion}
use Rattle.std.specs.Coded.{Coded-set, ×_prop, Unit-prop}
use Rattle.schema.specs.Values.{ValueTree}
use Rattle.schema.specs.Shape.{Fields}
use Rattle.schema.specs.Views.{key_view}
use Rattle.schema.specs.inner.Code.{fields_code}
use Rattle.shred.specs.Buffer.{schema_of}
use Rattle.gather.specs.declared.key_buffer.KeyBuffer.{KeyBuffer}

-- the keys under which buffers hold rows
abbrev pub keys_of : List KeyBuffer → List (List ValueTree)
keys_of buffers = map (λ (b : KeyBuffer). key_view b.key) buffers

-- the rows of each buffer are of this schema
abbrev pub HaveSchema : Fields → List KeyBuffer → Type 0
HaveSchema fs buffers = AllByRecursion (λ (b : KeyBuffer). schema_of b.rows ≡ fs) buffers

-- there is at most one proof that two schemas are the same
pub Schema-prop : (fs gs : Fields) → IsProp (fs ≡ gs)
Schema-prop fs gs = Coded-set fields_code fs gs

-- there is at most one proof that the rows of each buffer are of a schema
pub HaveSchema-prop : (fs : Fields) (buffers : List KeyBuffer) → IsProp (HaveSchema fs buffers)
HaveSchema-prop fs [] = Unit-prop
HaveSchema-prop fs (b ∷ buffers) = ×_prop (Schema-prop (schema_of b.rows) fs) (HaveSchema-prop fs buffers)
