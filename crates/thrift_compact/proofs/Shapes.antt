-- What is refused for its shape, or for that of a part of it.
use Rattle.std.proofs.Common.{◌≡◌, ℕ, zero, suc, ◌<◌, Bool, true, false, List, [], ◌∷◌, length, get_or, refl, arith, Result, Ok, Err}
use Rattle.std.specs.Prelude.{◌&&◌}
use Rattle.std.specs.Result.{IsErrAnd}
use Rattle.std.proofs.lemmas.Bool.{and_left as first_fails}
use Rattle.bits.specs.declared.refusal.Refusal.{Refusal}
use Rattle.bits.specs.declared.refusal.Refusal.TheVariants.{Memory}
use Rattle.bits.specs.Refusals.{HasCause, RefusedOnly}
use Rattle.bits.proofs.Passing.{passes}
use Rattle.thrift_compact.specs.declared.tree.Field.{Field}
use Rattle.thrift_compact.specs.declared.tree.Node.{Node as CodeNode}
use Rattle.thrift_compact.specs.View.{view, views, pair_views, field_view, field_views}
use Rattle.thrift_compact.specs.Shapes.{is_of_type, is_member, has_shape, each_has_shape, pairs_have_shape, pair_has_shape, fields_have_shape, IsShapeless}

pub second_fails : (a b : Bool) → b ≡ false → (a && b) ≡ false
second_fails true b e = e
second_fails false b e = refl

because : (part whole : Bool) (e : Refusal) → (part ≡ false → whole ≡ false) → HasCause (IsShapeless part) e → HasCause (IsShapeless whole) e
because part whole Memory f p = p
because part whole e f p = (p.0, f p.1)

pub shapeless_as : {X : Type 0} (part whole : Bool) (r : Result X Refusal) → (part ≡ false → whole ≡ false) → RefusedOnly (IsShapeless part) r → RefusedOnly (IsShapeless whole) r
shapeless_as part whole (Ok x) f p = p
shapeless_as part whole (Err e) f p = because part whole e f p

pub shapeless_by : {X : Type 0} (part whole : Bool) (r : Result X Refusal) (e : Refusal) → (part ≡ false → whole ≡ false) → IsErrAnd r (λ f. f ≡ e) → HasCause (IsShapeless part) e → RefusedOnly (IsShapeless whole) r
shapeless_by part whole r e f is p = passes (HasCause (IsShapeless whole)) r e is (because part whole e f p)

pub element_fails : (xs : List CodeNode) (i : ℕ) (d : CodeNode) (code left : ℕ) → i < length xs
    → (is_of_type code (view (get_or xs i d)) && has_shape left (view (get_or xs i d))) ≡ false → each_has_shape left code (views xs) ≡ false
element_fails [] i d code left lt e = absurd (omega (arith, lt))
element_fails (x ∷ xs) zero d code left lt e = first_fails (is_of_type code (view x) && has_shape left (view x)) (each_has_shape left code (views xs)) e
element_fails (x ∷ xs) (suc i) d code left lt e =
    second_fails (is_of_type code (view x) && has_shape left (view x)) (each_has_shape left code (views xs)) (element_fails xs i d code left (omega (arith, lt)) e)

pub pair_fails : (ps : List (CodeNode × CodeNode)) (i : ℕ) (d : CodeNode × CodeNode) (k v left : ℕ) → i < length ps
    → pair_has_shape left k v (view (get_or ps i d).0) (view (get_or ps i d).1) ≡ false → pairs_have_shape left k v (pair_views ps) ≡ false
pair_fails [] i d k v left lt e = absurd (omega (arith, lt))
pair_fails (p ∷ ps) zero d k v left lt e = first_fails (pair_has_shape left k v (view p.0) (view p.1)) (pairs_have_shape left k v (pair_views ps)) e
pair_fails (p ∷ ps) (suc i) d k v left lt e =
    second_fails (pair_has_shape left k v (view p.0) (view p.1)) (pairs_have_shape left k v (pair_views ps)) (pair_fails ps i d k v left (omega (arith, lt)) e)

pub field_fails : (fs : List Field) (i : ℕ) (d : Field) (left : ℕ) → i < length fs
    → (is_member ((field_view (get_or fs i d)).1) && has_shape left ((field_view (get_or fs i d)).1)) ≡ false → fields_have_shape left (field_views fs) ≡ false
field_fails [] i d left lt e = absurd (omega (arith, lt))
field_fails (f ∷ fs) zero d left lt e = first_fails (is_member ((field_view f).1) && has_shape left ((field_view f).1)) (fields_have_shape left (field_views fs)) e
field_fails (f ∷ fs) (suc i) d left lt e =
    second_fails (is_member ((field_view f).1) && has_shape left ((field_view f).1)) (fields_have_shape left (field_views fs)) (field_fails fs i d left (omega (arith, lt)) e)
