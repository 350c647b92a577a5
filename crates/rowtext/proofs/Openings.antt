-- A token says one schema.
use Rattle.std.proofs.Common.{◌≡◌, ℤ, Bool, true, false, List, [], ◌∷◌, refl, ap, ap₂, sym, ◌∙◌}
use Rattle.schema.specs.Values.{ValueTree, integer, bytes, group, list, ValueTrees, no_values, value}
use Rattle.schema.specs.Shape.{Fields, no_fields}
use Rattle.schema.specs.inner.Code.{Rose, rose, Roses, no_roses, roses, fields_roses, fields_from, fields_back}
use Rattle.assemble.specs.Sinks.{Token, single}
use Rattle.rowtext.specs.inner.Opening.{integers, rose_value, roses_values, opening_as}

abbrev integers_from : ValueTrees → List ℤ
integers_from (value (integer z) vs) = z ∷ integers_from vs
integers_from _ = []

abbrev mutual
  rose_from : ValueTree → Rose
  rose_from (group (value (bytes a) (value (group b) (value (group rs) no_values)))) = rose a (integers_from b) (roses_from rs)
  rose_from _ = rose [] [] no_roses

  roses_from : ValueTrees → Roses
  roses_from no_values = no_roses
  roses_from (value v vs) = roses (rose_from v) (roses_from vs)

integers_back : (zs : List ℤ) → integers_from (integers zs) ≡ zs
integers_back [] = refl
integers_back (z ∷ zs) = ap (λ (r : List ℤ). z ∷ r) (integers_back zs)

mutual
  rose_back : (r : Rose) → rose_from (rose_value r) ≡ r
  rose_back (rose a b rs) = ap₂ (rose a) (integers_back b) (roses_back rs)

  roses_back : (rs : Roses) → roses_from (roses_values rs) ≡ rs
  roses_back no_roses = refl
  roses_back (roses r rs) = ap₂ roses (rose_back r) (roses_back rs)

abbrev schema_from : Token → Fields
schema_from (single (group vs)) = fields_from (roses_from vs)
schema_from (single (list vs)) = fields_from (roses_from vs)
schema_from _ = no_fields

abbrev texts_from : Token → Bool
texts_from (single (list vs)) = true
texts_from _ = false

said : (texts : Bool) (fs : Fields) → schema_from (opening_as texts fs) ≡ fs
said false fs = ap fields_from (roses_back (fields_roses fs)) ∙ fields_back fs
said true fs = ap fields_from (roses_back (fields_roses fs)) ∙ fields_back fs

texts_said : (texts : Bool) (fs : Fields) → texts_from (opening_as texts fs) ≡ texts
texts_said false fs = refl
texts_said true fs = refl

pub one_schema : (a b : Bool) (fs gs : Fields) → opening_as a fs ≡ opening_as b gs → (a ≡ b) × (fs ≡ gs)
one_schema a b fs gs same = (sym (texts_said a fs) ∙ ap texts_from same ∙ texts_said b gs, sym (said a fs) ∙ ap schema_from same ∙ said b gs)
