-- Buffers whose rows are of one schema.
use Rattle.std.proofs.Common.{◌≡◌, ℕ, zero, suc, ◌<◌, List, [], ◌∷◌, ◌++◌, length, get_or, set, ap, ◌∙◌, arith}
use Rattle.schema.specs.Shape.{Fields}
use Rattle.shred.specs.Buffer.{schema_of}
use Rattle.gather.specs.declared.key_buffer.KeyBuffer.{KeyBuffer}
use Rattle.gather.specs.Buffers.{HaveSchema}

pub schema_here : (fs : Fields) (bs : List KeyBuffer) (at : ℕ) (b : KeyBuffer) → at < length bs → b ≡ get_or bs at b → HaveSchema fs bs → schema_of b.rows ≡ fs
schema_here fs [] at b h is all = absurd (omega (arith, h))
schema_here fs (x ∷ bs) zero b h is all = ap (λ (y : KeyBuffer). schema_of y.rows) is ∙ all.0
schema_here fs (x ∷ bs) (suc at) b h is all = schema_here fs bs at b (omega (arith, h)) is all.1

pub schema_set : (fs : Fields) (bs : List KeyBuffer) (at : ℕ) (b : KeyBuffer) → schema_of b.rows ≡ fs → HaveSchema fs bs → HaveSchema fs (set bs at b)
schema_set fs [] at b one all = tt
schema_set fs (x ∷ bs) zero b one all = (one, all.1)
schema_set fs (x ∷ bs) (suc at) b one all = (all.0, schema_set fs bs at b one all.1)

pub schema_push : (fs : Fields) (bs : List KeyBuffer) (b : KeyBuffer) → schema_of b.rows ≡ fs → HaveSchema fs bs → HaveSchema fs (bs ++ b ∷ [])
schema_push fs [] b one all = (one, tt)
schema_push fs (x ∷ bs) b one all = (all.0, schema_push fs bs b one all.1)
