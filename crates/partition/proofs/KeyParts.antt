-- The key of a row, and the row without it.
use Rattle.std.proofs.Common.{◌≡◌, ℕ, zero, suc, ◌+◌, ◌<◌, ◌≤◌, Bool, true, false, List, [], ◌∷◌, ◌++◌, length, get_or, drop, map, refl, ap, sym, subst, ◌∙◌, arith, add-one, append_assoc}
use Rattle.std.specs.Prelude.{cond}
use Rattle.std.proofs.lemmas.Bool.{false≢true, and_parts}
use Rattle.std.proofs.lemmas.List.{append-nil}
use Rattle.schema.specs.declared.key.KeyColumn.{KeyColumn as CodeKeyColumn}
use Rattle.schema.specs.declared.value.Value.{Value}
use Rattle.schema.specs.Values.{ValueTree, ValueTrees, value as item, view, trees_of, member_at}
use Rattle.schema.specs.Keys.{key_columns_view, key_of_row, values_besides}
use Rattle.partition.specs.Folders.{is_key_value, is_key}
use Rattle.partition.specs.inner.Parts.{IsNoKeyValue, besides}
use Rattle.partition.proofs.Partitioning.{no_member, null_is_no_key}

-- ---- the key

pub key_from : (columns : List CodeKeyColumn) (row : ValueTrees) (i : ℕ) (column : CodeKeyColumn) → i < length columns → column ≡ get_or columns i column
    → key_of_row (key_columns_view (drop i columns)) row ≡ member_at column.at row ∷ key_of_row (key_columns_view (drop (i + 1) columns)) row
key_from columns row i column h is = rw add-one (by columns i h is)
  where
    by : (cs : List CodeKeyColumn) (i : ℕ) → i < length cs → column ≡ get_or cs i column → key_of_row (key_columns_view (drop i cs)) row ≡ member_at column.at row ∷ key_of_row (key_columns_view (drop (suc i) cs)) row
    by [] i h is = absurd (omega (arith, h))
    by (c ∷ cs) zero h is = ap (λ (d : CodeKeyColumn). member_at d.at row ∷ key_of_row (key_columns_view cs) row) (sym is)
    by (c ∷ cs) (suc i) h is = by cs i (omega (arith, h)) is

-- one more value of the key is taken
pub key_more : (taken all : List ValueTree) (v : ValueTree) (columns : List CodeKeyColumn) (row : ValueTrees) (i : ℕ) (column : CodeKeyColumn) → i < length columns → column ≡ get_or columns i column → v ≡ member_at column.at row
    → taken ++ key_of_row (key_columns_view (drop i columns)) row ≡ all → (taken ++ v ∷ []) ++ key_of_row (key_columns_view (drop (i + 1) columns)) row ≡ all
key_more taken all v columns row i column h is e so =
    append_assoc taken (v ∷ []) _ ∙ ap (λ (w : ValueTree). taken ++ w ∷ key_of_row (key_columns_view (drop (i + 1) columns)) row) e ∙ ap (λ (rest : List ValueTree). taken ++ rest) (sym (key_from columns row i column h is)) ∙ so

key_ends : (columns : List CodeKeyColumn) (row : ValueTrees) (i : ℕ) → length columns ≤ i → key_of_row (key_columns_view (drop i columns)) row ≡ []
key_ends [] row zero h = refl
key_ends [] row (suc i) h = refl
key_ends (c ∷ cs) row zero h = absurd (omega (arith, h))
key_ends (c ∷ cs) row (suc i) h = key_ends cs row i (omega (arith, h))

-- a row with a value that no key has
pub no_key_at : (columns : List CodeKeyColumn) (row : ValueTrees) (i : ℕ) (column : CodeKeyColumn) → i < length columns → column ≡ get_or columns i column → IsNoKeyValue (member_at column.at row)
    → is_key (key_columns_view columns) (key_of_row (key_columns_view columns) row) ≡ true → ⊥
no_key_at [] row i column h is none key = omega (arith, h)
no_key_at (c ∷ cs) row zero column h is none key =
    let first = and_parts (is_key_value c.kind (member_at c.at row)) _ key in
    false≢true (sym (subst (λ (d : CodeKeyColumn). is_key_value c.kind (member_at d.at row) ≡ false) is (none c.kind)) ∙ first.0)
no_key_at (c ∷ cs) row (suc i) column h is none key =
    no_key_at cs row i column (omega (arith, h)) is none (and_parts (is_key_value c.kind (member_at c.at row)) (is_key (key_columns_view cs) (key_of_row (key_columns_view cs) row)) key).1

pub no_value : (values : List Value) (i : ℕ) → length values ≤ i → IsNoKeyValue (member_at i (trees_of (map view values)))
no_value values i h kind = rw (no_member values i h) (null_is_no_key kind)

-- ---- the row without it

besides_trees : (gone : ℕ → Bool) (i : ℕ) (vs : List ValueTree) → values_besides gone i (trees_of vs) ≡ trees_of (besides gone i vs)
besides_trees gone i [] = refl
besides_trees gone i (v ∷ vs) = by (gone i) (besides_trees gone (suc i) vs)
  where
    by : (b : Bool) → values_besides gone (suc i) (trees_of vs) ≡ trees_of (besides gone (suc i) vs) → cond b (values_besides gone (suc i) (trees_of vs)) (item v (values_besides gone (suc i) (trees_of vs))) ≡ trees_of (cond b (besides gone (suc i) vs) (v ∷ besides gone (suc i) vs))
    by true h = h
    by false h = ap (item v) h

besides_ends : (gone : ℕ → Bool) (values : List Value) (at i : ℕ) → length values ≤ i → besides gone at (map view (drop i values)) ≡ []
besides_ends gone [] at zero h = refl
besides_ends gone [] at (suc i) h = refl
besides_ends gone (v ∷ values) at zero h = absurd (omega (arith, h))
besides_ends gone (v ∷ values) at (suc i) h = besides_ends gone values at i (omega (arith, h))

pub all_moved : (gone : ℕ → Bool) (values row : List Value) (at : ℕ) (done : List ValueTree) → length values ≤ at → done ++ besides gone at (map view (drop at values)) ≡ besides gone 0 (map view row)
    → trees_of done ≡ values_besides gone 0 (trees_of (map view row))
all_moved gone values row at done h so =
    ap trees_of (sym (append-nil done) ∙ ap (λ (l : List ValueTree). done ++ l) (sym (besides_ends gone values at at h)) ∙ so) ∙ sym (besides_trees gone 0 (map view row))
