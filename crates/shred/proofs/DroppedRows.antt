-- A buffer whose row is dropped.
use Rattle.std.proofs.Common.{◌≡◌, ℕ, List, [], ◌∷◌, refl, ap, sym, ◌∙◌}
use Rattle.schema.specs.Values.{ValueTrees}
use Rattle.schema.specs.Shape.{Fields}
use Rattle.schema.specs.Stripe.{Entry, columns}
use Rattle.assemble.specs.Sinks.{Token}
use Rattle.shred.specs.declared.row_buffer.RowBuffer.{RowBuffer}
use Rattle.shred.specs.Buffer.{schema_of, holds, buffer_shows, BeginsRow, Base, base_of, HoldsBelow, shows_whole, goes_back}
use Rattle.shred.specs.inner.Opening.{schema_token, rows_token, rows_said}
use Rattle.shred.specs.inner.Filling.{State, state_of, marked_of, root}
use Rattle.shred.proofs.Openings.{rows_back}

abbrev pub base_at : Fields → ℕ → List (List Entry) → Base
base_at fs n marked = record { schema = fs; count = n; marked = marked }

-- what is not changed by showing a value
pub same_base : (fs : Fields) (n : ℕ) (new old : List (List Entry)) → new ≡ old → base_at fs n new ≡ base_at fs n old
same_base fs n new old marked = ap (base_at fs n) marked

-- the same rows are held
pub held_same : (old new : RowBuffer) (rows : List ValueTrees) → schema_of new ≡ schema_of old → new.count ≡ old.count → state_of new.filling ≡ state_of old.filling → holds old rows → holds new rows
held_same old new rows schema count state held = record {
  fit = rw schema held.fit;
  counted = count ∙ held.counted;
  countable = rw count held.countable;
  state = rw schema (state ∙ held.state);
}

-- the columns are marked that are held
pub marked_below : (old new : RowBuffer) (rows : List ValueTrees) → schema_of new ≡ schema_of old → new.count ≡ old.count → marked_of new.filling ≡ (state_of old.filling).columns → holds old rows → HoldsBelow (base_of new) rows
marked_below old new rows schema count marked held = record {
  fit = rw schema held.fit;
  counted = count ∙ held.counted;
  countable = rw count held.countable;
  marked = rw schema (marked ∙ ap (λ (s : State). s.columns) held.state);
}

pub marked_at : (buffer : RowBuffer) (marked : List (List Entry)) (rows : List ValueTrees) → marked ≡ (state_of buffer.filling).columns → holds buffer rows → HoldsBelow (base_at (schema_of buffer) buffer.count marked) rows
marked_at buffer marked rows is held = record { fit = held.fit; counted = held.counted; countable = held.countable; marked = is ∙ ap (λ (s : State). s.columns) held.state }

-- what was put into the columns since they were marked is removed
pub dropped : (old new : RowBuffer) (rows : List ValueTrees) → schema_of new ≡ schema_of old → new.count ≡ old.count → state_of new.filling ≡ root (schema_of old) (marked_of old.filling) → HoldsBelow (base_of old) rows → holds new rows
dropped old new rows schema count state below = record {
  fit = rw schema below.fit;
  counted = count ∙ below.counted;
  countable = rw count below.countable;
  state = rw schema (state ∙ ap (root (schema_of old)) below.marked);
}

-- a row begins
pub begins : (buffer : RowBuffer) (fs : Fields) (rows : List ValueTrees) → schema_of buffer ≡ fs → holds buffer rows → BeginsRow buffer fs rows
begins buffer fs rows schema held = (ap schema_token (sym schema), rw (rows_back rows) held)

pub whole_marked : (old new : RowBuffer) → schema_of new ≡ schema_of old → new.count ≡ old.count → state_of new.filling ≡ state_of old.filling → marked_of new.filling ≡ (state_of old.filling).columns
    → (ts : List Token) → shows_whole old ts → shows_whole new ts × goes_back (base_of new) ts
whole_marked old new schema count state marked [] h = absurd h
whole_marked old new schema count state marked (t ∷ []) h = absurd h
whole_marked old new schema count state marked (t ∷ u ∷ []) h =
    let is = h.0 ∙ ap schema_token (sym schema) in
    ((is, held_same old new (rows_said u) schema count state h.1), (is, marked_below old new (rows_said u) schema count marked h.1))
whole_marked old new schema count state marked (t ∷ u ∷ w ∷ ts) h = absurd h

pub whole_dropped : (old new : RowBuffer) → schema_of new ≡ schema_of old → new.count ≡ old.count → state_of new.filling ≡ root (schema_of old) (marked_of old.filling)
    → (ts : List Token) → goes_back (base_of old) ts → shows_whole new ts × buffer_shows new ts
whole_dropped old new schema count state [] h = absurd h
whole_dropped old new schema count state (t ∷ []) h = absurd h
whole_dropped old new schema count state (t ∷ u ∷ []) h =
    let is = h.0 ∙ ap schema_token (sym schema) in
    let held = dropped old new (rows_said u) schema count state h.1 in
    ((is, held), (is, held))
whole_dropped old new schema count state (t ∷ u ∷ w ∷ ts) h = absurd h

-- what was shown of a row is shown
pub shown_same : (old new : RowBuffer) → schema_of new ≡ schema_of old → new.count ≡ old.count → state_of new.filling ≡ state_of old.filling → (ts : List Token) → buffer_shows old ts → buffer_shows new ts
shown_same old new schema count state [] h = absurd h
shown_same old new schema count state (t ∷ []) h = absurd h
shown_same old new schema count state (t ∷ u ∷ ts) h =
    let held = h.1 in (
      h.0 ∙ ap schema_token (sym schema),
      record {
        fit = rw schema held.fit;
        counted = count ∙ held.counted;
        countable = rw count held.countable;
        state = rw schema (state ∙ held.state);
      },
    )
