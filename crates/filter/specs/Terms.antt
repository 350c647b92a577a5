-- What the terms of a filter are over the leaves of a schema, and the first fault of them.
use Rattle.std.specs.Prelude.{ℕ, suc, Bool, true, false, ◌&&◌, List, [], ◌∷◌, map, is_none, if◌then◌else◌, Option, Some, None, Result, Ok, Err, string_bytes, String, Vec}
use Rattle.std.specs.List.{list_all}
use Rattle.std.specs.Str.{bytes_eq}
use Rattle.std.specs.Cmp.Lexicographic.{pointwise}
use Rattle.std.specs.declared.alloc.Global.{Global}
use Rattle.bits.specs.declared.refusal.Refusal.{Refusal}
use Rattle.bits.specs.declared.refusal.Refusal.TheVariants.{NoColumn, Unordered, RowShape}
use Rattle.schema.specs.Annotations.{LeafType, order_of}
use Rattle.schema.specs.Values.{ValueTree, list, each, view}
use Rattle.schema.specs.Fits.{fits_leaf}
use Rattle.schema.specs.Stripe.{Step, Leaf}
use Rattle.filter.specs.declared.term.Op.{Op}
use Rattle.filter.specs.declared.term.Op.TheVariants.{Less, LessOrEqual, Greater, GreaterOrEqual, In, NotIn}
use Rattle.filter.specs.declared.term.Term.{Term as CodeTerm}
use Rattle.filter.specs.Test.{Test, is_single}

-- a column by its names, an operator and a value
pub record Term : Type 0 where
  pub column : List (List ℕ)
  pub op : Op
  pub value : ValueTree

-- the names as bytes
abbrev pub names_of : List (String Global) → List (List ℕ)
names_of names = map string_bytes names

-- the term that a `Term` of the program stands for
abbrev pub term_view : CodeTerm → Term
term_view t = record { column = names_of t.column.items; op = t.op; value = view t.value }

-- the ANDs of terms that the filter of a call stands for
abbrev pub terms_view : List (Vec CodeTerm Global) → List (List Term)
terms_view ands = map (λ terms. map term_view terms.items) ands

-- the leaf with these names on the path to it, and its index among the leaves
abbrev pub named_leaf : ℕ → List Leaf → List (List ℕ) → Option (ℕ × Leaf)
named_leaf n [] names = None
named_leaf n (l ∷ leaves) names = if pointwise bytes_eq l.path names then Some (n, l) else named_leaf (suc n) leaves names

-- the operator needs an order
abbrev pub is_of_order : Op → Bool
is_of_order Less = true
is_of_order LessOrEqual = true
is_of_order Greater = true
is_of_order GreaterOrEqual = true
is_of_order _ = false

-- a leaf of this type can have the value; for `in` and `not in` the value is a list, and the leaf can have each value in it
abbrev pub takes : LeafType → Op → ValueTree → Bool
takes t In (list vs) = each (fits_leaf t) vs
takes t In _ = false
takes t NotIn (list vs) = each (fits_leaf t) vs
takes t NotIn _ = false
takes t _ v = fits_leaf t v

-- a term at its leaf: first the column is looked up, then the order, then the value
abbrev pub test_at : Term → ℕ → Leaf → List Step → Result Test Refusal
test_at t n l [] = Err NoColumn
test_at t n l (s ∷ p) =
    if list_all is_single (s ∷ p) then
    (if is_of_order t.op && is_none (order_of l.leaf_type) then Err Unordered else
    (if takes l.leaf_type t.op t.value
    then Ok (record { leaf = n; first = s; rest = p; order = order_of l.leaf_type; op = t.op; operand = t.value }) else Err RowShape))
    else Err NoColumn

-- the test of a term at the leaf that was found for its column, or the fault: NoColumn if none was found
abbrev pub test_found : Term → Option (ℕ × Leaf) → Result Test Refusal
test_found t None = Err NoColumn
test_found t (Some found) = test_at t found.0 found.1 found.1.steps

-- the test of a term over the leaves of a schema, or its fault: NoColumn, else Unordered, else RowShape
abbrev pub test_of : List Leaf → Term → Result Test Refusal
test_of leaves t = test_found t (named_leaf 0 leaves t.column)

-- an item before the others, or the fault of the others
abbrev pub with_first : {Y E : Type 0} → Y → Result (List Y) E → Result (List Y) E
with_first y (Ok ys) = Ok (y ∷ ys)
with_first y (Err e) = Err e

-- the result for an item and those for the others: all of them, or the first fault
abbrev pub then_rest : {Y E : Type 0} → Result Y E → Result (List Y) E → Result (List Y) E
then_rest (Ok y) rest = with_first y rest
then_rest (Err e) rest = Err e

-- all that a function gives for the elements of a list, or the first fault
abbrev pub each_of : {X Y E : Type 0} → (X → Result Y E) → List X → Result (List Y) E
each_of f [] = Ok []
each_of f (x ∷ xs) = then_rest (f x) (each_of f xs)

-- the tests of a filter's terms, or the first fault of them
abbrev pub tests_of : List Leaf → List (List Term) → Result (List (List Test)) Refusal
tests_of leaves ands = each_of (each_of (test_of leaves)) ands
