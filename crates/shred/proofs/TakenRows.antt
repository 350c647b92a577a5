-- A buffer that takes over the rows of another.
use Rattle.std.proofs.Common.{◌≡◌, ℕ, ◌+◌, ◌≤◌, ◌^◌, List, [], ◌∷◌, ◌++◌, map, length, refl, ap, ap₂, sym, ◌∙◌, arith, length-append, IsTrue}
use Rattle.std.proofs.lemmas.Grind.{flat_map-append}
use Rattle.lists.proofs.Lists.{all_append as all_joined}
use Rattle.schema.specs.Values.{ValueTrees, group}
use Rattle.schema.specs.Shape.{Fields}
use Rattle.schema.specs.Fits.{fits_each}
use Rattle.schema.specs.Stripe.{Entry, Leaf, stripe, column, columns, leaves_of}
use Rattle.shred.specs.declared.row_buffer.RowBuffer.{RowBuffer}
use Rattle.shred.specs.Buffer.{schema_of, holds}
use Rattle.shred.specs.inner.Growing.{Columns, grown}
use Rattle.shred.specs.inner.Filling.{State, state_of, taken, root}

-- the columns of some rows and then of others
columns_joined : (rows others : List ValueTrees) (ls : List Leaf)
    → grown (map (λ (l : Leaf). column rows l.steps) ls) (map (λ (l : Leaf). column others l.steps) ls) ≡ map (λ (l : Leaf). column (rows ++ others) l.steps) ls
columns_joined rows others [] = refl
columns_joined rows others (l ∷ ls) =
    ap₂ (λ (x : List Entry) (xs : Columns). x ∷ xs) (sym (flat_map-append (λ (vs : ValueTrees). stripe l.steps (group vs) 0 0 0) rows others)) (columns_joined rows others ls)

-- the rows of both are held
pub rows_taken : (old other new : RowBuffer) (rows others : List ValueTrees) (s : State) → schema_of old ≡ schema_of other → schema_of new ≡ schema_of old → new.count ≡ old.count + other.count → new.count ≤ 2 ^ 62
    → s ≡ taken (state_of old.filling) (state_of other.filling).columns → state_of new.filling ≡ root (schema_of old) s.columns → holds old rows → holds other others → holds new (rows ++ others)
rows_taken old other new rows others s same schema count few took state held more =
    let fs = schema_of old in
    let theirs : (state_of other.filling).columns ≡ columns fs others = ap (λ (t : State). t.columns) more.state ∙ ap (λ (gs : Fields). columns gs others) (sym same) in
    let ours : (state_of old.filling).columns ≡ columns fs rows = ap (λ (t : State). t.columns) held.state in
    let both : s.columns ≡ columns fs (rows ++ others) = ap (λ (t : State). t.columns) took ∙ ap₂ grown ours theirs ∙ columns_joined rows others (leaves_of fs) in
    let fit = all_joined (λ (row : ValueTrees). IsTrue (fits_each fs row)) rows others held.fit (rw same more.fit) in
    let mine = held.counted in
    let yours = more.counted in
    record {
      fit = rw schema fit;
      counted = omega (arith, count, mine, yours, length-append rows others);
      countable = few;
      state = rw schema (state ∙ ap (root fs) both);
    }
