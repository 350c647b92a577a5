-- A row that is cut as it is shown.
use Rattle.std.proofs.Common.{◌≡◌, ℕ, zero, suc, ◌<◌, Bool, true, false, arith, List, [], ◌∷◌, ◌++◌, length, refl, ap, sym, subst, ◌∙◌}
use Rattle.std.specs.Prelude.{if◌then◌else◌}
use Rattle.std.proofs.lemmas.List.{length-map}
use Rattle.schema.specs.Cutting.{is_among}
use Rattle.schema.specs.Shape.{Fields}
use Rattle.schema.specs.Fits.{fits_each}
use Rattle.schema.specs.Values.{ValueTree, ValueTrees}
use Rattle.schema.specs.Keys.{KeyColumn, AreKeys, places_of, key_of_row, without_keys, row_without_keys, BesidesFit}
use Rattle.assemble.specs.Sinks.{Token, single, tokens_each, Adds}
use Rattle.shred.specs.declared.row_buffer.RowBuffer.{RowBuffer}
use Rattle.shred.specs.Buffer as buffer
use Rattle.shred.specs.Buffer.{Holds, holds, buffer_shows, ShowsRow}
use Rattle.shred.specs.inner.Opening.{schema_token, rows_token}
use Rattle.gather.specs.declared.cut_row.CutRow.{CutRow}
use Rattle.gather.specs.Parts.{part_view, parts_view, kept_value, put_at}
use Rattle.gather.specs.CutRows.{Cut, cut_at, single_shown, ended_by, cut_step, CutShown, Leaves, IsCut}
use Rattle.gather.proofs.CutTokens.{run_append, row_cut}
use Rattle.gather.proofs.CutKeys.{fits_single, key_put}

-- one token more of the rest
pub rest_more : (old new : RowBuffer) (ts : List Token) (t : Token) → Adds (buffer_shows old) (buffer_shows new) (t ∷ []) → Holds old [] ts → Holds new [] (ts ++ t ∷ [])
rest_more old new ts t adds held = (adds (schema_token (buffer.schema_of old) ∷ rows_token [] ∷ ts) (refl, held)).1

-- one token more
pub cut_more : (columns : List KeyColumn) (old new : CutRow) (before : List Token) (t : Token) (so : CutShown columns old before) (rest : List Token)
    → cut_at new.place new.depth rest (parts_view new.key.items) ≡ cut_step (places_of columns) (cut_at old.place old.depth so.rest (parts_view old.key.items)) t → Holds new.rest [] rest → CutShown columns new (before ++ t ∷ [])
cut_more columns old new before t so rest state held = record {
  begun = so.begun;
  many = so.many;
  rest = rest;
  state = state ∙ ap (λ (c : Cut). cut_step (places_of columns) c t) so.state ∙ sym (run_append (places_of columns) (cut_at 0 0 [] so.begun) before (t ∷ []));
  held = held;
}

-- a group or a list ends
pub left_is : (place depth p d : ℕ) (rest : List Token) (key : List ValueTree) (t : Token) → Leaves place depth p d → cut_at p d (rest ++ t ∷ []) key ≡ ended_by (cut_at place depth rest key) t depth
left_is place zero p d rest key t h = λ i. cut_at (h.0 i) (h.1 i) (rest ++ t ∷ []) key
left_is place (suc zero) p d rest key t h = λ i. cut_at (h.0 i) (h.1 i) (rest ++ t ∷ []) key
left_is place (suc (suc depth)) p d rest key t h = λ i. cut_at (h.0 i) (h.1 i) (rest ++ t ∷ []) key

-- a value is shown within a group or a list
pub deep_single : (places : List ℕ) (place depth : ℕ) (rest : List Token) (key : List ValueTree) (v : ValueTree) → 0 < depth → cut_at place depth (rest ++ single v ∷ []) key ≡ single_shown places (cut_at place depth rest key) v depth
deep_single places place zero rest key v h = absurd (omega (arith, h))
deep_single places place (suc depth) rest key v h = refl

-- a value of the key is shown
pub key_single : (places : List ℕ) (place next depth : ℕ) (rest : List Token) (key more : List ValueTree) (v : ValueTree) → depth ≡ 0 → next ≡ suc place → is_among places place ≡ true → more ≡ put_at places place (kept_value v) key
    → cut_at next depth rest more ≡ single_shown places (cut_at place depth rest key) v depth
key_single places place next zero rest key more v at_top is here put =
    (λ i. cut_at (is i) 0 rest (put i)) ∙ ap (λ (b : Bool). cut_at (suc place) 0 (if b then rest else rest ++ single v ∷ []) (put_at places place (kept_value v) key)) (sym here)
key_single places place next (suc depth) rest key more v at_top is here put = absurd (omega (arith, at_top))

-- a value besides the key is shown
pub rest_single : (places : List ℕ) (place next depth : ℕ) (rest : List Token) (key more : List ValueTree) (v : ValueTree) → depth ≡ 0 → next ≡ suc place → is_among places place ≡ false → more ≡ put_at places place (kept_value v) key
    → cut_at next depth (rest ++ single v ∷ []) more ≡ single_shown places (cut_at place depth rest key) v depth
rest_single places place next zero rest key more v at_top is here put =
    (λ i. cut_at (is i) 0 (rest ++ single v ∷ []) (put i)) ∙ ap (λ (b : Bool). cut_at (suc place) 0 (if b then rest else rest ++ single v ∷ []) (put_at places place (kept_value v) key)) (sym here)
rest_single places place next (suc depth) rest key more v at_top is here put = absurd (omega (arith, at_top))

-- nothing is shown
pub cut_begins : (columns : List KeyColumn) (row : CutRow) → length row.key.items ≡ length columns → row.place ≡ 0 → row.depth ≡ 0 → holds row.rest [] → CutShown columns row []
cut_begins columns row many place depth held = record {
  begun = parts_view row.key.items;
  many = length-map row.key.items part_view ∙ many;
  rest = [];
  state = λ i. cut_at (place i) (depth i) [] (parts_view row.key.items);
  held = held;
}

-- a row that fits was shown: its key is known
pub key_shown : (columns : List KeyColumn) (fs : Fields) (row : CutRow) (values : ValueTrees) → AreKeys columns fs → fits_each fs values ≡ true → CutShown columns row (tokens_each values) → parts_view row.key.items ≡ key_of_row columns values
key_shown columns fs row values keys fit so =
    ap (λ (c : Cut). c.key) (so.state ∙ row_cut (places_of columns) values 0 [] so.begun (fits_single columns fs values keys fit)) ∙ key_put columns fs values so.begun so.many keys fit

-- and the rest was shown
pub rest_shown : (columns : List KeyColumn) (fs : Fields) (row : CutRow) (values : ValueTrees) → AreKeys columns fs → fits_each fs values ≡ true → CutShown columns row (tokens_each values)
    → ShowsRow row.rest (buffer.schema_of row.rest) [] (row_without_keys columns values)
rest_shown columns fs row values keys fit so =
    let rest : so.rest ≡ tokens_each (row_without_keys columns values) = ap (λ (c : Cut). c.rest) (so.state ∙ row_cut (places_of columns) values 0 [] so.begun (fits_single columns fs values keys fit)) in
    (refl, subst (Holds row.rest []) rest so.held)

-- a row that ends is cut
pub row_is_cut : (columns : List KeyColumn) (fs : Fields) (old new : CutRow) (values : ValueTrees) → BesidesFit → AreKeys columns fs → without_keys columns fs ≡ buffer.schema_of old.rest → fits_each fs values ≡ true
    → parts_view new.key.items ≡ parts_view old.key.items
    → ((gs : Fields) (rs : List ValueTrees) (vs : ValueTrees) → ShowsRow old.rest gs rs vs → fits_each gs vs ≡ true → holds new.rest (rs ++ vs ∷ [])) → CutShown columns old (tokens_each values) → IsCut columns new values
row_is_cut columns fs old new values law keyed besides fit same ends so = record {
  key = same ∙ key_shown columns fs old values keyed fit so;
  rest = ends (buffer.schema_of old.rest) [] (row_without_keys columns values) (rest_shown columns fs old values keyed fit so)
      (subst (λ (gs : Fields). fits_each gs (row_without_keys columns values) ≡ true) besides (law (is_among (places_of columns)) 0 fs values fit));
}
