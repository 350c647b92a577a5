-- A list of numbers shows as these numbers.
use Rattle.std.proofs.Common.{◌≡◌, ℤ, ap, map, option_map, refl, Option, Some, None, Vec}
use Rattle.std.specs.declared.alloc.Global.{Global}
use Rattle.std.proofs.lemmas.List.{map-id}

pub numbers_shown : (o : Option (Vec ℤ Global)) → option_map (λ (v : Vec ℤ Global). map (λ (z : ℤ). z) v.items) o ≡ option_map (λ (v : Vec ℤ Global). v.items) o
numbers_shown None = refl
numbers_shown (Some v) = ap Some (map-id v.items)
