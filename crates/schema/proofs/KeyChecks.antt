-- Tests of key columns.
use Rattle.std.proofs.Common.{◌≡◌, ℕ, zero, suc, ◌<◌, ◌≤◌, true, List, [], ◌∷◌, length, get_or, Some, refl, ap, sym, arith}
use Rattle.std.specs.Prelude.{not}
use Rattle.std.specs.List.{AllByRecursion}
use Rattle.std.proofs.lemmas.Bool.{and_parts, not-true as not_true, not_from_false as not_false, and_from as and_true}
use Rattle.schema.specs.declared.field.Field.{Field as CodeField}
use Rattle.schema.specs.Views.{field_view, field_views}
use Rattle.schema.specs.Shape.{Field, Fields}
use Rattle.schema.specs.Cutting.{is_among}
use Rattle.schema.specs.Keys.{KeyColumn, AreDistinct, field_at, key_field}
use Rattle.schema.specs.inner.Keyed.{IsKeyOf, are_distinct}

pub to_distinct : (ns : List ℕ) → are_distinct ns ≡ true → AreDistinct ns
to_distinct [] h = tt
to_distinct (n ∷ ns) h = let parts = and_parts (not (is_among ns n)) (are_distinct ns) h in (not_true (is_among ns n) parts.0, to_distinct ns parts.1)

pub from_distinct : (ns : List ℕ) → AreDistinct ns → are_distinct ns ≡ true
from_distinct [] h = refl
from_distinct (n ∷ ns) h = and_true (not (is_among ns n)) (are_distinct ns) (not_false (is_among ns n) h.0) (from_distinct ns h.1)

pub to_named : (fs : Fields) (keys : List KeyColumn) → AllByRecursion (IsKeyOf fs) keys → AllByRecursion (λ (k : KeyColumn). k.name ≡ [] → ⊥) keys
to_named fs [] h = tt
to_named fs (k ∷ keys) h = (h.0.named, to_named fs keys h.1)

pub to_there : (fs : Fields) (keys : List KeyColumn) → AllByRecursion (IsKeyOf fs) keys → AllByRecursion (λ (k : KeyColumn). field_at k.at fs ≡ Some (key_field k)) keys
to_there fs [] h = tt
to_there fs (k ∷ keys) h = (h.0.there, to_there fs keys h.1)

pub from_both : (fs : Fields) (keys : List KeyColumn) → AllByRecursion (λ (k : KeyColumn). k.name ≡ [] → ⊥) keys → AllByRecursion (λ (k : KeyColumn). field_at k.at fs ≡ Some (key_field k)) keys → AllByRecursion (IsKeyOf fs) keys
from_both fs [] p q = tt
from_both fs (k ∷ keys) p q = (record { named = p.0; there = q.0 }, from_both fs keys p.1 q.1)

-- ---- fields at places

pub field_here : (fs : List CodeField) (i : ℕ) (f : CodeField) → i < length fs → f ≡ get_or fs i f → field_at i (field_views fs) ≡ Some (field_view f)
field_here [] i f h e = absurd (omega (arith, h))
field_here (g ∷ fs) zero f h e = ap (λ (x : CodeField). Some (field_view x)) (sym e)
field_here (g ∷ fs) (suc i) f h e = field_here fs i f (omega (arith, h)) e

pub none_past : (fs : List CodeField) (i : ℕ) (f : Field) → length fs ≤ i → field_at i (field_views fs) ≡ Some f → ⊥
none_past [] i f h e = cc
none_past (g ∷ fs) zero f h e = absurd (omega (arith, h))
none_past (g ∷ fs) (suc i) f h e = none_past fs i f (omega (arith, h)) e

pub one_field_here : (f g : Field) → Some f ≡ Some g → f ≡ g
one_field_here f g e = cc
