-- How large a field and a value are.
use Rattle.std.proofs.Common.{◌≡◌, ℕ, zero, suc, ◌+◌, ◌<◌, ◌≤◌, List, [], ◌∷◌, length, drop, get_or, Option, String, Vec, Global, sym, ap, ◌∙◌, arith}
use Rattle.schema.specs.declared.value.Repetition.{Repetition}
use Rattle.schema.specs.declared.annotation.GroupAnnotation.{GroupAnnotation}
use Rattle.schema.specs.declared.field.Field.{Field as CodeField, Group}
use Rattle.schema.specs.Shape.{Field, leaf, fields, Fields, no_fields, field}
use Rattle.schema.specs.Views.{field_view, field_views}
use Rattle.schema.specs.declared.value.Value.{Value}
use Rattle.schema.specs.declared.value.Value.TheVariants.{Group as GroupOf, List as ListOf}
use Rattle.schema.specs.Values.{ValueTree, group, list, ValueTrees, no_values, value, view, views}
use Rattle.schema.proofs.Seen.{view-Group}
use Rattle.rowtext.proofs.Forms.{view-List, view-ValueGroup}

abbrev mutual
  pub size : Field → ℕ
  size (leaf n r t) = 1
  size (fields n r a fs) = 2 + sizes fs

  pub sizes : Fields → ℕ
  sizes no_fields = 0
  sizes (field f fs) = size f + sizes fs

pub size_there : (fs : List CodeField) (i : ℕ) (f : CodeField) → i < length fs → f ≡ get_or fs i f → size (field_view f) ≤ sizes (field_views fs)
size_there [] i f less is = absurd (omega (arith, less))
size_there (g ∷ fs) zero f less is = let same : size (field_view f) ≡ size (field_view g) = ap (λ x. size (field_view x)) is in omega (arith, same)
size_there (g ∷ fs) (suc i) f less is = let small = size_there fs i f (omega (arith, less)) is in omega (arith, small)

pub size_group : (f : CodeField) (n : String Global) (r : Repetition) (a : Option GroupAnnotation) (fs : Vec CodeField Global) (xs : List CodeField) → f ≡ Group n r a fs → xs ≡ fs.items → size (field_view f) ≡ 2 + sizes (field_views xs)
size_group f n r a fs xs is same = ap size (ap field_view is ∙ view-Group n r a fs) ∙ ap (λ ys. 2 + sizes (field_views ys)) (sym same)

-- ---- values

abbrev mutual
  pub value_size : ValueTree → ℕ
  value_size (group vs) = 2 + value_sizes vs
  value_size (list vs) = 2 + value_sizes vs
  value_size v = 1

  pub value_sizes : ValueTrees → ℕ
  value_sizes no_values = 0
  value_sizes (value v vs) = value_size v + value_sizes vs

pub value_there : (vs : List Value) (i : ℕ) (v : Value) (us : List Value) → drop i vs ≡ v ∷ us → value_size (view v) ≤ value_sizes (views vs)
value_there vs zero v us is = let same = ap (λ xs. value_sizes (views xs)) is in omega (arith, same)
value_there [] (suc i) v us is = absurd (cc)
value_there (w ∷ vs) (suc i) v us is = let small = value_there vs i v us is in omega (arith, small)

pub group_size : (v : Value) (vs : Vec Value Global) (xs : List Value) → v ≡ GroupOf vs → xs ≡ vs.items → value_size (view v) ≡ 2 + value_sizes (views xs)
group_size v vs xs is same = ap value_size (ap view is ∙ view-ValueGroup vs) ∙ ap (λ ys. 2 + value_sizes (views ys)) (sym same)

pub list_size : (v : Value) (vs : Vec Value Global) (xs : List Value) → v ≡ ListOf vs → xs ≡ vs.items → value_size (view v) ≡ 2 + value_sizes (views xs)
list_size v vs xs is same = ap value_size (ap view is ∙ view-List vs) ∙ ap (λ ys. 2 + value_sizes (views ys)) (sym same)
