-- What a refusal tells.
use Rattle.bits.specs.declared.refusal.Refusal.{Refusal}
use Rattle.bits.specs.declared.refusal.Refusal.TheVariants as refusal
use Rattle.assemble.specs.Columns.{Tells}

pub tells_more : (L V M W : Type 0) → (L → M) → (V → W) → (e : Refusal) → Tells L V e → Tells M W e
tells_more L V M W l v refusal.Levels h = l h
tells_more L V M W l v refusal.Value h = v h
tells_more L V M W l v refusal.Memory h = tt
tells_more L V M W l v _ h = absurd h

-- where it is Memory, it tells nothing
pub memory_only : (L V : Type 0) (e : Refusal) → Tells ⊥ ⊥ e → Tells L V e
memory_only L V e h = tells_more ⊥ ⊥ L V (λ n. absurd n) (λ n. absurd n) e h
