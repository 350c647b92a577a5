-- What a buffer holds as it is shown rows.
use Rattle.std.proofs.Common.{◌≡◌, ℕ, zero, suc, ◌+◌, ◌≤◌, ◌^◌, true, List, [], ◌∷◌, ◌++◌, map, length, refl, ap, sym, ◌∙◌, arith, length-append, IsTrue}
use Rattle.std.proofs.lemmas.List.{length-map}
use Rattle.lists.proofs.Lists.{all_append as all_joined}
use Rattle.schema.specs.Values.{ValueTrees}
use Rattle.schema.specs.Shape.{Fields}
use Rattle.schema.specs.Fits.{fits_each, RowsFit}
use Rattle.schema.specs.Stripe.{Entry, Leaf, leaves_of, column, columns}
use Rattle.assemble.specs.Sinks.{Token, tokens_each, Adds}
use Rattle.shred.specs.declared.filling.Filling.{Filling}
use Rattle.shred.specs.declared.row_buffer.RowBuffer.{RowBuffer}
use Rattle.shred.specs.Kept.{kept_view, marked_view}
use Rattle.shred.specs.Buffer.{schema_of, holds, buffer_shows}
use Rattle.shred.specs.inner.Growing.{nils}
use Rattle.shred.specs.inner.Opening.{schema_token, rows_said}
use Rattle.shred.specs.inner.Filling.{State, state_of, marked_of, step, run, root}
use Rattle.shred.proofs.Growing.{length_nils}
use Rattle.shred.proofs.ShownSteps.{run_append}
use Rattle.shred.proofs.ShownRuns.{row_given}

-- as many columns
pub as_many : (old new : Filling) → marked_of new ≡ marked_of old → length new.columns.items ≡ length old.columns.items
as_many old new same = sym (length-map new.columns.items marked_view) ∙ ap length same ∙ length-map old.columns.items marked_view

pub as_many_kept : (old new : Filling) → (state_of new).columns ≡ (state_of old).columns → length new.columns.items ≡ length old.columns.items
as_many_kept old new same = sym (length-map new.columns.items kept_view) ∙ ap length same ∙ length-map old.columns.items kept_view

pub as_many_cut : (old new : Filling) → (state_of new).columns ≡ marked_of old → length new.columns.items ≡ length old.columns.items
as_many_cut old new same = sym (length-map new.columns.items kept_view) ∙ ap length same ∙ length-map old.columns.items marked_view

pub as_many_empty : (new : Filling) (n : ℕ) → (state_of new).columns ≡ nils n → length new.columns.items ≡ n
as_many_empty new n empty = sym (length-map new.columns.items kept_view) ∙ ap length empty ∙ length_nils n

-- the columns of no rows
no_columns : (ls : List Leaf) (n : ℕ) → n ≡ length ls → nils n ≡ map (λ (l : Leaf). column [] l.steps) ls
no_columns [] zero e = refl
no_columns [] (suc n) e = absurd (omega (arith, e))
no_columns (l ∷ ls) zero e = absurd (omega (arith, e))
no_columns (l ∷ ls) (suc n) e = ap (λ (t : List (List Entry)). [] ∷ t) (no_columns ls n (omega (arith, e)))

-- no rows are held
pub none_held : (b : RowBuffer) (fs : Fields) (n : ℕ) → schema_of b ≡ fs → n ≡ length (leaves_of fs) → b.count ≡ 0 → state_of b.filling ≡ root fs (nils n) → holds b []
none_held b fs n schema many none state = record {
  fit = tt;
  counted = none;
  countable = omega (arith, none);
  state = rw schema (state ∙ ap (root fs) (no_columns (leaves_of fs) n many));
}

-- one token more of a row
pub shown_more : (old new : RowBuffer) (t : Token) → schema_of new ≡ schema_of old → new.count ≡ old.count → state_of new.filling ≡ step (state_of old.filling) t → Adds (buffer_shows old) (buffer_shows new) (t ∷ [])
shown_more old new t schema count is [] h = absurd h
shown_more old new t schema count is (x ∷ []) h = absurd h
shown_more old new t schema count is (x ∷ y ∷ ts) h =
    let fs = schema_of old in
    let rows = rows_said y in
    let so = h.1 in
    let begun = root fs (columns fs rows) in
    let state : state_of new.filling ≡ run begun (ts ++ t ∷ []) = is ∙ ap (λ (s : State). step s t) so.state ∙ sym (run_append begun ts (t ∷ [])) in (
      h.0 ∙ ap schema_token (sym schema),
      record {
        fit = rw schema so.fit;
        counted = count ∙ so.counted;
        countable = rw count so.countable;
        state = rw schema state;
      },
    )

-- a row that was shown and fits is one more
pub row_held : (old new : RowBuffer) (rows : List ValueTrees) (values : ValueTrees) (s : State) → RowsFit (schema_of old) rows → old.count ≡ length rows → fits_each (schema_of old) values ≡ true → s ≡ run (root (schema_of old) (columns (schema_of old) rows)) (tokens_each values)
    → schema_of new ≡ schema_of old → new.count ≡ old.count + 1 → new.count ≤ 2 ^ 62 → state_of new.filling ≡ root (schema_of old) s.columns → holds new (rows ++ values ∷ [])
row_held old new rows values s fits counted fit shown schema count few state =
    let fs = schema_of old in
    let all : RowsFit fs (rows ++ values ∷ []) = all_joined (λ (row : ValueTrees). IsTrue (fits_each fs row)) rows (values ∷ []) fits (fit, tt) in
    record {
      fit = rw schema all;
      counted = omega (arith, count, counted, length-append rows (values ∷ []));
      countable = few;
      state = rw schema (state ∙ ap (λ (t : State). root fs t.columns) shown ∙ ap (root fs) (row_given fs rows values fit));
    }
