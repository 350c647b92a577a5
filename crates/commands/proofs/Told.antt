-- Lines that are read as rows, one after another.
use Rattle.std.proofs.Common.{Bool, ◌≡◌, ◌<◌, ℕ, suc, List, [], ◌∷◌, ◌++◌, length, map, take, drop, get_or}
use Rattle.std.specs.Borrow.{Bor}
use Rattle.std.proofs.lemmas.List.{map_push}
use Rattle.lists.proofs.Slices.{parts_around as split_there}
use Rattle.bits.specs.declared.refusal.Refusal.{Refusal}
use Rattle.bits.specs.declared.refusal.Refusal.TheVariants.{Memory}
use Rattle.bits.specs.Refusals.{HasCause}
use Rattle.schema.specs.Values.{ValueTrees}
use Rattle.schema.specs.Shape.{Fields}
use Rattle.schema.specs.declared.row.Row.{Row}
use Rattle.schema.specs.Views.{row_view, rows_view}
use Rattle.commands.specs.RowLines.{IsRowText, AreRowTexts, IsRefusedLine, HasFirstFault}

-- the texts of some rows, and that of one more
pub one_more : (texts : Bool) (fs : Fields) (lines : List (List ℕ)) (rows : List ValueTrees) (text : List ℕ) (row : ValueTrees) → AreRowTexts texts fs lines rows
    → IsRowText texts fs text row → AreRowTexts texts fs (lines ++ text ∷ []) (rows ++ row ∷ [])
one_more texts fs [] [] text row so_far last = (last, tt)
one_more texts fs [] (r ∷ rows) text row so_far last = absurd so_far
one_more texts fs (t ∷ lines) [] text row so_far last = absurd so_far
one_more texts fs (t ∷ lines) (r ∷ rows) text row so_far last = (so_far.0, one_more texts fs lines rows text row so_far.1 last)

-- the rows so far, and that of one more line
pub told_line : (texts : Bool) (fs : Fields) (lines : List (Bor (List ℕ))) (rows : List ValueTrees) (text : Bor (List ℕ)) (row : ValueTrees) → IsRowText texts fs text.now row
    → AreRowTexts texts fs (map (λ t. t.now) lines) rows → AreRowTexts texts fs (map (λ t. t.now) (lines ++ text ∷ [])) (rows ++ row ∷ [])
told_line texts fs lines rows text row is so_far =
    rw (map_push (λ (t : Bor (List ℕ)). t.now) lines text) (one_more texts fs (map (λ t. t.now) lines) rows text.now row so_far is)

-- the same of rows that were made
pub told_one_more : (texts : Bool) (fs : Fields) (lines : List (Bor (List ℕ))) (rows : List Row) (text : Bor (List ℕ)) (row : Row) → IsRowText texts fs text.now (row_view row)
    → AreRowTexts texts fs (map (λ t. t.now) lines) (rows_view rows) → AreRowTexts texts fs (map (λ t. t.now) (lines ++ text ∷ [])) (rows_view (rows ++ row ∷ []))
told_one_more texts fs lines rows text row is so_far = rw (map_push row_view rows row) (told_line texts fs lines (rows_view rows) text (row_view row) is so_far)

-- where no line is left
pub told_all : (texts : Bool) (fs : Fields) (lines : List (Bor (List ℕ))) (all : List (List ℕ)) (rows : List ValueTrees) → map (λ t. t.now) lines ≡ all → AreRowTexts texts fs (map (λ t. t.now) lines) rows → AreRowTexts texts fs all rows
told_all texts fs lines all rows e told = rw (← e) told

pub with_cause : (P Q : Refusal → Type 0) → ((e : Refusal) → P e → Q e) → (e : Refusal) → HasCause P e → HasCause Q e
with_cause P Q f Memory h = tt
with_cause P Q f e h = f e h

-- the line that is refused is the first one: those before it are rows
pub refused_first : (texts : Bool) (fs : Fields) (lines : List (Bor (List ℕ))) (text : Bor (List ℕ)) (all : List (List ℕ)) (rows : List ValueTrees)
    → map (λ t. t.now) lines ≡ take (length lines) all → (length lines < length all) × (text.now ≡ get_or all (length lines) text.now)
    → AreRowTexts texts fs (map (λ t. t.now) lines) rows → (e : Refusal) → HasCause (IsRefusedLine texts fs text.now) e → HasCause (HasFirstFault texts fs all) e
refused_first texts fs lines text all rows so_far here told =
    with_cause (IsRefusedLine texts fs text.now) (HasFirstFault texts fs all) (λ e refused.
    record {
      before = map (λ t. t.now) lines;
      text = text.now;
      after = drop (suc (length lines)) all;
      rows = rows;
      joined = rw so_far (split_there all (length lines) text.now here.0 here.1);
      read = told;
      refused = refused;
    })
