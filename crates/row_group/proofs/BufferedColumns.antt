-- The columns of a buffer's rows, one by one.
use Rattle.std.proofs.Common.{◌≡◌, ℕ, zero, suc, ◌<◌, List, [], ◌∷◌, ◌++◌, map, length, get_or, refl, ap, ◌∙◌, arith, append_assoc}
use Rattle.std.specs.List.{AllByRecursion}
use Rattle.std.proofs.lemmas.List.{length-map}
use Rattle.lists.proofs.Slices.{get_or_map_here as shown_here}
use Rattle.schema.specs.declared.field.Leaf.{Leaf as CodeLeaf}
use Rattle.schema.specs.Values.{ValueTrees}
use Rattle.schema.specs.Shape.{Fields}
use Rattle.schema.specs.Fits.{RowsFit}
use Rattle.schema.specs.Views.{leaf_view}
use Rattle.schema.specs.Stripe.{Leaf, Entry, columns, leaves_of}
use Rattle.schema.specs.Law.{IsEntryOf, EntriesAreOfLeaves}
use Rattle.row_group.specs.inner.Columns.{Extends}
use Rattle.row_group.proofs.ColumnsWritten.{as_many, column_of_leaf, columns_of_leaves}

any_default : {A : Type 0} (xs : List A) (i : ℕ) (d e : A) → i < length xs → get_or xs i d ≡ get_or xs i e
any_default [] i d e h = absurd (omega (arith, h))
any_default (x ∷ xs) zero d e h = refl
any_default (x ∷ xs) (suc i) d e h = any_default xs i d e (omega (arith, h))

-- the leaf at a place of a schema, and the column of the rows there
pub record IsPlace (fs : Fields) (all : List ValueTrees) (i : ℕ) (leaf : Leaf) (es : List Entry) : Type 0 where
  pub of_leaves : i < length (leaves_of fs)
  pub of_columns : i < length (columns fs all)
  pub leaf_is : leaf ≡ get_or (leaves_of fs) i leaf
  pub column_is : es ≡ get_or (columns fs all) i es
  pub entries : AllByRecursion (IsEntryOf leaf) es

pub place_here : EntriesAreOfLeaves → (fs : Fields) (all : List ValueTrees) (ls : List CodeLeaf) (i : ℕ) (leaf : CodeLeaf) → RowsFit fs all → map leaf_view ls ≡ leaves_of fs → i < length ls → leaf ≡ get_or ls i leaf
    → IsPlace fs all i (leaf_view leaf) (get_or (columns fs all) i [])
place_here law fs all ls i leaf fit leaves lt is =
    let are = columns_of_leaves law fs all fit in
    let many = as_many (leaves_of fs) (columns fs all) are in
    let ll : i < length (leaves_of fs) = omega (arith, lt, length-map ls leaf_view, ap length leaves) in
    let lc : i < length (columns fs all) = omega (arith, ll, many) in
    let leaf_is : leaf_view leaf ≡ get_or (leaves_of fs) i (leaf_view leaf) = shown_here leaf_view ls i leaf lt is ∙ ap (λ (xs : List Leaf). get_or xs i (leaf_view leaf)) leaves in
    let column_is : get_or (columns fs all) i [] ≡ get_or (columns fs all) i (get_or (columns fs all) i []) = any_default (columns fs all) i [] (get_or (columns fs all) i []) lc in
    record {
      of_leaves = ll;
      of_columns = lc;
      leaf_is = leaf_is;
      column_is = column_is;
      entries = column_of_leaf (leaves_of fs) (columns fs all) are i (leaf_view leaf) (get_or (columns fs all) i []) ll leaf_is column_is;
    }

pub extends_more : (old mid new : List ℕ) → Extends old mid → Extends mid new → Extends old new
extends_more old mid new first then = (first.0 ++ then.0, then.1 ∙ ap (λ (t : List ℕ). t ++ then.0) first.1 ∙ append_assoc old first.0 then.0)
