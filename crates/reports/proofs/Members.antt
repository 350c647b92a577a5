-- The member that is set in a logical type.
use Rattle.std.proofs.Common.{rules, ◌≡◌, ℕ, ◌≤◌, ℤ, List, [], ◌∷◌, Some, length, get_or, refl, ap, ◌∙◌, arith, to_z, of_z}
use Rattle.std.specs.Prelude.{FitsSigned}
use Rattle.std.specs.Int.{w16, w32}
use Rattle.std.proofs.lemmas.Int.{to_z-of_z}
use Rattle.lists.proofs.Numbers.{fits_wider as wider}
use Rattle.thrift_compact.specs.declared.tree.Field.{Field}
use Rattle.thrift_compact.specs.declared.tree.Node.TheFolds.{the_lemmas}
use Rattle.thrift_compact.specs.View.{view, field_view, field_views}
use Rattle.reports.specs.Names.{logical_name}
use Rattle.reports.specs.Notes.{name_or_number, member_name}

-- the first member is the one that is set
pub first_member : (fs : List Field) (m : Field) → 1 ≤ length fs → m ≡ get_or fs 0 m → member_name (field_views fs) ≡ Some (name_or_number (logical_name m.id) m.id)
first_member [] m h is = absurd (omega (arith, h))
first_member (f ∷ fs) m h is =
    let e : field_view f ≡ (f.id, view f.value) = search (rules, the_lemmas) in
    rw (is, e) refl

-- an id is the same number in 16 bits and in 32
pub widened : (z id : ℤ) → FitsSigned w16 z → id ≡ to_z w16 (of_z w16 z) → to_z w32 (of_z w32 id) ≡ z
widened z id fits e = let same : id ≡ z = e ∙ to_z-of_z w16 z fits in rw same (to_z-of_z w32 z (wider z fits))
