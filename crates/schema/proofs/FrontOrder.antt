-- Fields that are the first of others, and the one that comes after them.
use Rattle.std.proofs.Common.{◌≡◌, ℕ, zero, suc, ◌≤◌, refl, ap, sym, ◌∙◌, arith}
use Rattle.schema.specs.Shape.{Fields, no_fields, field, Field, count}
use Rattle.schema.specs.Fronts.{first_fields, with_field}
use Rattle.schema.specs.Growing.{with_elements, ColumnsAreOne, GrownHaveFronts, FrontsOfFronts}
use Rattle.schema.proofs.Grown.{first_stay}
use Rattle.schema.proofs.OneSchema.{lists_mean_one_schema}

-- the field at the end
last_is : (fs : Fields) (f g : Field) → with_field fs f ≡ with_field fs g → f ≡ g
last_is no_fields f g e = cc
last_is (field h fs) f g e = last_is fs f g (let rest : with_field fs f ≡ with_field fs g = cc in rest)

pub columns_are_one : ColumnsAreOne
columns_are_one fs elements f g p q = last_is fs f g (lists_mean_one_schema (with_elements fs elements) (with_field fs f) (with_field fs g) p.stands_for q.stands_for)

all_first : (fs : Fields) → first_fields (count fs) fs ≡ fs
all_first no_fields = refl
all_first (field f fs) = ap (field f) (all_first fs)

pub grown_schemas_have_fronts : GrownHaveFronts
grown_schemas_have_fronts fs f = sym (first_stay (count fs) fs f (omega arith) ∙ all_first fs)

first_twice : (n m : ℕ) (fs : Fields) → n ≤ m → first_fields n (first_fields m fs) ≡ first_fields n fs
first_twice zero m fs h = refl
first_twice (suc n) zero fs h = absurd (omega (arith, h))
first_twice (suc n) (suc m) no_fields h = refl
first_twice (suc n) (suc m) (field f fs) h = ap (field f) (first_twice n m fs (omega (arith, h)))

no_more : (n : ℕ) (fs : Fields) → count (first_fields n fs) ≤ count fs
no_more zero fs = omega arith
no_more (suc n) no_fields = omega arith
no_more (suc n) (field f fs) = let h = no_more n fs in omega (arith, h)

pub fronts_of_fronts : FrontsOfFronts
fronts_of_fronts fs gs hs p q =
    let few : count fs ≤ count gs = omega (arith, ap count p, no_more (count fs) gs) in
    p ∙ ap (first_fields (count fs)) q ∙ first_twice (count fs) (count gs) hs few
