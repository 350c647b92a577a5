-- Rows that are read back from the columns of a buffer.
use Rattle.std.proofs.Common.{◌≡◌, ◌≤◌, ℕ, zero, suc, List, [], ◌∷◌, ◌++◌, map, length, take, get_or, Option, inl, inr, refl, sym, ◌∙◌, ap, subst, arith}
use Rattle.std.proofs.lemmas.List.{length-map}
use Rattle.bits.specs.declared.refusal.Refusal.{Refusal}
use Rattle.bits.specs.declared.refusal.Refusal.TheVariants.{Limit, Memory}
use Rattle.bits.specs.Refusals.{IsFault, HasCause}
use Rattle.schema.specs.Law.{IsSchema, ColumnsDetermineRows}
use Rattle.schema.specs.Shape.{Fields}
use Rattle.schema.specs.Stripe.{Entry, Leaf, leaves_of, column, columns}
use Rattle.schema.specs.Values.{ValueTrees}
use Rattle.schema.specs.Views.{leaf_view}
use Rattle.schema.specs.declared.field.Leaf.{Leaf as CodeLeaf}
use Rattle.shred.specs.declared.row_buffer.RowBuffer.{RowBuffer}
use Rattle.shred.specs.Buffer.{schema_of, holds}
use Rattle.assemble.specs.declared.cursor.Cursor.{Cursor}
use Rattle.assemble.specs.Cursors.{entries_left, cursor_stands}
use Rattle.assemble.specs.RowsOf.{StandForRows, HasFault}
use Rattle.assemble.specs.Standing.{AllStand, IsRefusedFor}
use Rattle.assemble.proofs.WholeColumns.{cursors_only, cursors_stand}

-- there is a column for each leaf
pub as_many_columns : (fs : Fields) (rows : List ValueTrees) (leaves : List CodeLeaf) → map leaf_view leaves ≡ leaves_of fs → length (columns fs rows) ≡ length leaves
as_many_columns fs rows leaves are =
    length-map (leaves_of fs) (λ (l : Leaf). column rows l.steps) ∙ sym (ap length are) ∙ length-map leaves leaf_view

-- one column more
pub one_column : (all : List (List Entry)) (i : ℕ) (so_far : List (List Entry)) (next : List Entry) → suc i ≤ length all → so_far ≡ take i all → next ≡ get_or all i [] → so_far ++ next ∷ [] ≡ take (suc i) all
one_column all i so_far next h e n = ap (λ (cs : List (List Entry)). cs ++ next ∷ []) e ∙ ap (λ (c : List Entry). take i all ++ c ∷ []) n ∙ sym (take_next all i h)
  where
    take_next : (xs : List (List Entry)) (n : ℕ) → suc n ≤ length xs → take (suc n) xs ≡ take n xs ++ get_or xs n [] ∷ []
    take_next [] n h = absurd (omega (arith, h))
    take_next (x ∷ xs) zero h = refl
    take_next (x ∷ xs) (suc n) h = ap (λ (ys : List (List Entry)). x ∷ ys) (take_next xs n (omega (arith, h)))

-- the rows that stand in cursors over the columns of a buffer are those that it holds
pub rows_back : (buffer : RowBuffer) (held rows : List ValueTrees) (cursors : List Cursor) → ColumnsDetermineRows → IsSchema (schema_of buffer) → holds buffer held → map entries_left cursors ≡ columns (schema_of buffer) held
    → StandForRows cursor_stands cursors (schema_of buffer) rows → rows ≡ held
rows_back buffer held rows cursors law valid holds_held are stand =
    law (schema_of buffer) rows held valid stand.fit holds_held.fit (cursors_only cursors (columns (schema_of buffer) rows) stand.stand ∙ are)

-- columns of rows in memory are refused for memory alone
pub only_poor : (R : Cursor → Option Refusal) (C : Cursor → Refusal → Type 0) (buffer : RowBuffer) (held : List ValueTrees) (cursors old new : List Cursor) (fs : Fields) (e : Refusal)
    → holds buffer held → map entries_left cursors ≡ columns (schema_of buffer) held → old ≡ cursors → fs ≡ schema_of buffer
    → (IsFault e → (rows : List ValueTrees) → StandForRows cursor_stands old fs rows → ⊥) → IsRefusedFor cursor_stands R C old new (HasFault fs) e → HasCause (λ _. ⊥) e
only_poor R C buffer held cursors old new fs e known are same own only which = by e only which
  where
    here : StandForRows cursor_stands cursors (schema_of buffer) held
    here = record { fit = known.fit; stand = subst (AllStand cursor_stands cursors) are (cursors_stand cursors) }

    stand : StandForRows cursor_stands old fs held
    stand = subst (λ (gs : Fields). StandForRows cursor_stands old gs held) (sym own) (subst (λ (cs : List Cursor). StandForRows cursor_stands cs (schema_of buffer) held) (sym same) here)

    by : (f : Refusal) → (IsFault f → (rows : List ValueTrees) → StandForRows cursor_stands old fs rows → ⊥) → IsRefusedFor cursor_stands R C old new (HasFault fs) f → HasCause (λ _. ⊥) f
    by Memory o w = tt
    by Limit o (inl h) = h.1 (columns fs held) stand.stand
    by Limit o (inr h) = h.1.0
    by f o w = o tt held stand
