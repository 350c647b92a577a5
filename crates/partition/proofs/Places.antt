-- The place of a key in the set of keys.
use Rattle.std.proofs.Common.{◌≡◌, ℕ, zero, suc, ◌<◌, Bool, false, ◌&&◌, List, [], ◌∷◌, length, get_or, map, Some, refl, ap, sym, subst, ◌∙◌}
use Rattle.std.specs.Prelude.{position}
use Rattle.std.specs.List.{AllByRecursion, list_any}
use Rattle.std.specs.Cmp.Lexicographic.{pointwise}
use Rattle.std.proofs.lemmas.List.Quantifiers.{position-Some}
use Rattle.schema.specs.Values.{ValueTree}
use Rattle.partition.specs.declared.splitting.Part.{Part}
use Rattle.partition.specs.declared.splitting.Part.TheVariants.{Boolean, Number, Text}
use Rattle.std.specs.Prelude.{ℤ, Vec}
use Rattle.std.specs.declared.alloc.Global.{Global}
use Rattle.std.specs.Ordering.{int_eq}
use Rattle.std.specs.Str.{bytes_eq}
use mathlib.Core.Bool.{beq}
use Rattle.std.proofs.lemmas.Bool.{or_parts as or_false}
use Rattle.partition.specs.Order.{is_same_value, is_same_key}
use Rattle.partition.specs.inner.Parts.{part_view, parts_view}
use Rattle.partition.proofs.SameKeys.{same_key}

pub same_parts : (eq : Part → Part → Bool) → ((p q : Part) → eq p q ≡ is_same_value (part_view p) (part_view q)) → (xs ys : List Part) → pointwise eq xs ys ≡ is_same_key (parts_view xs) (parts_view ys)
same_parts eq is [] [] = refl
same_parts eq is [] (y ∷ ys) = refl
same_parts eq is (x ∷ xs) [] = refl
same_parts eq is (x ∷ xs) (y ∷ ys) = λ i. is x y i && same_parts eq is xs ys i

get_or_map : {X : Type 0} (f : X → List ValueTree) (xs : List X) (i : ℕ) (d : X) → get_or (map f xs) i (f d) ≡ f (get_or xs i d)
get_or_map f [] i d = refl
get_or_map f (x ∷ xs) zero d = refl
get_or_map f (x ∷ xs) (suc i) d = get_or_map f xs i d

long_map : {X : Type 0} (f : X → List ValueTree) (xs : List X) → length (map f xs) ≡ length xs
long_map f [] = refl
long_map f (x ∷ xs) = ap suc (long_map f xs)

pub found_at : {X : Type 0} (f : X → List ValueTree) (k : X) (t : X → Bool) → ((x : X) → t x ≡ is_same_key (f k) (f x)) → (xs : List X) (i : ℕ) → position t xs ≡ Some i
    → (i < length (map f xs)) × (get_or (map f xs) i (f k) ≡ f k)
found_at f k t is xs i e =
    let there = position-Some t xs i k e in
    (subst (λ n. i < n) (sym (long_map f xs)) there.0, get_or_map f xs i k ∙ sym (same_key (f k) (f (get_or xs i k)) (sym (is (get_or xs i k)) ∙ there.1)))

pub absent_from : {X : Type 0} (f : X → List ValueTree) (k : X) (t : X → Bool) → ((x : X) → t x ≡ is_same_key (f k) (f x)) → (xs : List X) → list_any t xs ≡ false
    → AllByRecursion (λ l. is_same_key (f k) l ≡ false) (map f xs)
absent_from f k t is [] h = tt
absent_from f k t is (x ∷ xs) h =
    let parts = or_false (t x) (list_any t xs) h in
    (sym (is x) ∙ parts.0, absent_from f k t is xs parts.1)

-- an equality of parts that goes by their kinds
pub by_kinds : (eq : Part → Part → Bool)
    → ((a b : Bool) → eq (Boolean a) (Boolean b) ≡ beq a b) → ((a : Bool) (z : ℤ) → eq (Boolean a) (Number z) ≡ false) → ((a : Bool) (t : Vec ℕ Global) → eq (Boolean a) (Text t) ≡ false)
    → ((y : ℤ) (b : Bool) → eq (Number y) (Boolean b) ≡ false) → ((y z : ℤ) → eq (Number y) (Number z) ≡ int_eq y z) → ((y : ℤ) (t : Vec ℕ Global) → eq (Number y) (Text t) ≡ false)
    → ((s : Vec ℕ Global) (b : Bool) → eq (Text s) (Boolean b) ≡ false) → ((s : Vec ℕ Global) (z : ℤ) → eq (Text s) (Number z) ≡ false) → ((s t : Vec ℕ Global) → eq (Text s) (Text t) ≡ bytes_eq s.items t.items)
    → (p q : Part) → eq p q ≡ is_same_value (part_view p) (part_view q)
by_kinds eq bb bn bt nb nn nt tb tn both (Boolean a) (Boolean b) = bb a b
by_kinds eq bb bn bt nb nn nt tb tn both (Boolean a) (Number z) = bn a z
by_kinds eq bb bn bt nb nn nt tb tn both (Boolean a) (Text t) = bt a t
by_kinds eq bb bn bt nb nn nt tb tn both (Number y) (Boolean b) = nb y b
by_kinds eq bb bn bt nb nn nt tb tn both (Number y) (Number z) = nn y z
by_kinds eq bb bn bt nb nn nt tb tn both (Number y) (Text t) = nt y t
by_kinds eq bb bn bt nb nn nt tb tn both (Text s) (Boolean b) = tb s b
by_kinds eq bb bn bt nb nn nt tb tn both (Text s) (Number z) = tn s z
by_kinds eq bb bn bt nb nn nt tb tn both (Text s) (Text t) = both s t
