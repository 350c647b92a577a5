-- Members of the union LogicalType.
use Rattle.std.proofs.Common.{◌≡◌, ℕ, ◌≤◌, ℤ, false, List, [], ◌∷◌, length, refl, arith, sym}
use Rattle.thrift_compact.specs.Tree.{Node, struct}
use Rattle.thrift_compact.specs.View.{fields_of, field_views, field_view}
use Rattle.thrift_compact.specs.declared.tree.Field.{Field as CodeField}
use Rattle.schema.specs.Annotations.{is_only_member}

two_members : (id : ℕ) (x y : ℤ × Node) (xs : List (ℤ × Node)) → is_only_member id (fields_of (x ∷ y ∷ xs)) ≡ false
two_members id (z, struct s) y xs = refl
two_members id (z, _) y xs = refl

-- two members are not one
pub many_members : (id : ℕ) (fs : List CodeField) → 2 ≤ length fs → false ≡ is_only_member id (field_views fs)
many_members id [] h = absurd (omega (arith, h))
many_members id (f ∷ []) h = absurd (omega (arith, h))
many_members id (f ∷ g ∷ fs) h = sym (two_members id (field_view f) (field_view g) _)
