-- The fields and leaves of a schema, seen from a place on.
use Rattle.std.proofs.Common.{◌≡◌, ℕ, zero, suc, ◌+◌, ◌<◌, List, [], ◌∷◌, length, drop, refl, ap, arith}
use Rattle.schema.specs.declared.field.Field.{Field as CodeField}
use Rattle.schema.specs.Shape.{Field, Fields, no_fields, field, count}
use Rattle.schema.specs.Stripe.{leaves, leaves_of, leaves_from}
use Rattle.schema.specs.Views.{field_view, field_views}
use Rattle.schema.specs.Fronts.{fields_after}
use Rattle.schema.proofs.Few.{sizes}

pub len_from : (i j : ℕ) (fs : Fields) → length (leaves_from i fs) ≡ length (leaves_from j fs)
len_from i j no_fields = refl
len_from i j (field f fs) = let p = sizes i f fs in let q = sizes j f fs in let r = len_from (suc i) (suc j) fs in omega (arith, p, q, r)

-- the leaves of the first field, and all others
pub one_more : (f : Field) (fs : Fields) → length (leaves_of (field f fs)) ≡ length (leaves f) + length (leaves_of fs)
one_more f fs = let p = sizes 0 f fs in let q = len_from 1 0 fs in omega (arith, p, q)

pub after_views : (i : ℕ) (xs : List CodeField) → fields_after i (field_views xs) ≡ field_views (drop i xs)
after_views zero xs = refl
after_views (suc i) [] = refl
after_views (suc i) (x ∷ xs) = after_views i xs

pub count_views : (xs : List CodeField) → count (field_views xs) ≡ length xs
count_views [] = refl
count_views (x ∷ xs) = ap suc (count_views xs)

pub some_after : (xs : List CodeField) (i : ℕ) → i < length xs → (f : Field) × ((rest : Fields) × (field_views (drop i xs) ≡ field f rest))
some_after [] i lt = absurd (omega (arith, lt))
some_after (x ∷ xs) zero lt = (field_view x, (field_views xs, refl))
some_after (x ∷ xs) (suc i) lt = some_after xs i (omega (arith, lt))
