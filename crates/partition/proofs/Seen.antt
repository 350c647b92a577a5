-- What contracts see of a value of a key.
use Rattle.std.proofs.Common.{◌≡◌, ℕ, sym, ap, ◌∙◌}
use Rattle.std.specs.Prelude.{Bool, ℤ, Vec}
use Rattle.std.specs.declared.alloc.Global.{Global}
use Rattle.schema.specs.declared.value.Value.{Bool as value_bool, Int as value_int, Bytes as value_bytes}
use Rattle.schema.specs.declared.value.Value.TheVariants.{rolls-Bool, rolls-Int, rolls-Bytes}
use Rattle.schema.specs.declared.value.Value.TheOpen.{Value-F}
use Rattle.schema.specs.declared.value.Value.TheFolds.{fold-roll-Value}
use Rattle.schema.specs.Values.{ValueTree, boolean, integer, bytes, view, view_step}

pub view_bool : (b : Bool) → view (value_bool b) ≡ boolean b
view_bool b = ap view (sym (rolls-Bool b)) ∙ fold-roll-Value ValueTree view_step (Value-F.Bool b)

pub view_int : (z : ℤ) → view (value_int z) ≡ integer z
view_int z = ap view (sym (rolls-Int z)) ∙ fold-roll-Value ValueTree view_step (Value-F.Int z)

pub view_bytes : (text : Vec ℕ Global) → view (value_bytes text) ≡ bytes text.items
view_bytes text = ap view (sym (rolls-Bytes text)) ∙ fold-roll-Value ValueTree view_step (Value-F.Bytes text)
