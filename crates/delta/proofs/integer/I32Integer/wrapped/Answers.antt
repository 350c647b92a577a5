use Rattle.std.proofs.Common.{◌∙◌, ap}
use Rattle.std.specs.Prelude.{ℤ, pos}
use Rattle.std.specs.Int.{w32, w64, int_wrap, cast_unsigned}
use Rattle.std.proofs.lemmas.Int.{to_z-of_z}
use Rattle.delta.proofs.Wrap.{narrowed}
use Rattle.delta.proofs.integer.I32Integer.wrapped.Goals as goal

pub returns : goal.returns
returns c = narrowed c.args.number c.low.result c.ranges.number (c.low.ensures ∙ ap (λ k. int_wrap w32 (pos k)) c.cast_unsigned.ensures ∙ ap (λ (z : ℤ). int_wrap w32 (pos (cast_unsigned w64 z))) (to_z-of_z w64 c.args.number c.ranges.number))
