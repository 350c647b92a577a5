-- When the parts of keys are the same.
use Rattle.std.proofs.Common.{◌≡◌, Bool, false, ◌&&◌, List, [], ◌∷◌, refl}
use Rattle.std.specs.Prelude.{ℕ, ℤ, Vec}
use Rattle.std.specs.declared.alloc.Global.{Global}
use Rattle.std.specs.Ordering.{int_eq}
use Rattle.std.specs.Str.{bytes_eq}
use Rattle.std.specs.Cmp.Lexicographic.{pointwise}
use mathlib.Core.Bool.{beq}
use Rattle.partition.specs.Order.{is_same_value, is_same_key}
use Rattle.gather.specs.declared.part.Part.{Part}
use Rattle.gather.specs.declared.part.Part.TheVariants.{Boolean, Number, Text}
use Rattle.gather.specs.Parts.{part_view, parts_view}

pub same_parts : (eq : Part → Part → Bool) → ((p q : Part) → eq p q ≡ is_same_value (part_view p) (part_view q)) → (xs ys : List Part) → pointwise eq xs ys ≡ is_same_key (parts_view xs) (parts_view ys)
same_parts eq is [] [] = refl
same_parts eq is [] (y ∷ ys) = refl
same_parts eq is (x ∷ xs) [] = refl
same_parts eq is (x ∷ xs) (y ∷ ys) = λ i. is x y i && same_parts eq is xs ys i

-- an equality of parts that goes by their kinds
pub by_kinds : (eq : Part → Part → Bool)
    → ((a b : Bool) → eq (Boolean a) (Boolean b) ≡ beq a b) → ((a : Bool) (z : ℤ) → eq (Boolean a) (Number z) ≡ false) → ((a : Bool) (t : Vec ℕ Global) → eq (Boolean a) (Text t) ≡ false)
    → ((y : ℤ) (b : Bool) → eq (Number y) (Boolean b) ≡ false) → ((y z : ℤ) → eq (Number y) (Number z) ≡ int_eq y z) → ((y : ℤ) (t : Vec ℕ Global) → eq (Number y) (Text t) ≡ false)
    → ((s : Vec ℕ Global) (b : Bool) → eq (Text s) (Boolean b) ≡ false) → ((s : Vec ℕ Global) (z : ℤ) → eq (Text s) (Number z) ≡ false) → ((s t : Vec ℕ Global) → eq (Text s) (Text t) ≡ bytes_eq s.items t.items)
    → (p q : Part) → eq p q ≡ is_same_value (part_view p) (part_view q)
by_kinds eq bb bn bt nb nn nt tb tn both (Boolean a) (Boolean b) = bb a b
by_kinds eq bb bn bt nb nn nt tb tn both (Boolean a) (Number z) = bn a z
by_kinds eq bb bn bt nb nn nt tb tn both (Boolean a) (Text t) = bt a t
by_kinds eq bb bn bt nb nn nt tb tn both (Number y) (Boolean b) = nb y b
by_kinds eq bb bn bt nb nn nt tb tn both (Number y) (Number z) = nn y z
by_kinds eq bb bn bt nb nn nt tb tn both (Number y) (Text t) = nt y t
by_kinds eq bb bn bt nb nn nt tb tn both (Text s) (Boolean b) = tb s b
by_kinds eq bb bn bt nb nn nt tb tn both (Text s) (Number z) = tn s z
by_kinds eq bb bn bt nb nn nt tb tn both (Text s) (Text t) = both s t
