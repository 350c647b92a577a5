-- Lines that are gathered one by one, and written now and then.
use Rattle.std.proofs.Common.{Bool, ◌≡◌, ◌≤◌, ℕ, ◌+◌, List, [], ◌∷◌, ◌++◌, length, Option, Some, refl, sym, ap, subst, ◌∙◌, append_assoc}
use Rattle.std.specs.Prelude.{true, false, Ok}
use Rattle.std.specs.Io.KnownBytes.{Appends}
use Rattle.std.proofs.KnownBytes.{Appends-trans, Appends-nil}
use Rattle.std.proofs.lemmas.List.{append-nil}
use Rattle.std.proofs.lemmas.List.Concat.{flat_map-append}
use Rattle.schema.specs.Values.{ValueTrees}
use Rattle.schema.specs.Shape.{Fields}
use Rattle.schema.specs.Fits.{RowsFit}
use Rattle.rowtext.specs.declared.row_text.RowText.{RowText}
use Rattle.rowtext.specs.Rows.{BeginsLineAs, AddsNextLine}
use Rattle.answers.specs.Querying.{row_line, row_lines}
use Rattle.answers.specs.QueryFile.{first_of}
use Rattle.answers.specs.inner.Gathering.{HavePassed, AreGathered}
use Rattle.answers.proofs.FirstOf.{passed_more, all_passed, left_fit}

-- one row more has one line more
pub lines_more : (texts : Bool) (fs : Fields) (rows : List ValueTrees) (row : ValueTrees) → row_lines texts fs (rows ++ row ∷ []) ≡ row_lines texts fs rows ++ row_line texts fs row
lines_more texts fs rows row = flat_map-append (row_line texts fs) rows (row ∷ []) ∙ ap (λ (t : List ℕ). row_lines texts fs rows ++ t) (append-nil (row_line texts fs row))

-- of no rows
pub none_yet : (texts : Bool) (fs : Fields) (text : RowText) (old : Option (List ℕ)) → BeginsLineAs texts text fs [] → AreGathered texts fs [] text old old
none_yet texts fs text old begins = record { printed = []; written = Appends-nil old; gathered = []; gathers = begins; joined = refl }

-- a line that is gathered
pub one_more : (texts : Bool) (fs : Fields) (rows : List ValueTrees) (row : ValueTrees) (from to : RowText) (old new : Option (List ℕ)) (p : AreGathered texts fs rows from old new) → BeginsLineAs texts to fs (p.gathered ++ row_line texts fs row)
    → AreGathered texts fs (rows ++ row ∷ []) to old new
one_more texts fs rows row from to old new p begins = record {
  printed = p.printed;
  written = p.written;
  gathered = p.gathered ++ row_line texts fs row;
  gathers = begins;
  joined = lines_more texts fs rows row ∙ ap (λ (t : List ℕ). t ++ row_line texts fs row) p.joined ∙ append_assoc p.printed p.gathered (row_line texts fs row);
}

-- lines that are written and forgotten
pub all_written : (texts : Bool) (fs : Fields) (rows : List ValueTrees) (from to : RowText) (old mid new : Option (List ℕ)) (lines : List ℕ) (p : AreGathered texts fs rows from old mid) → lines ≡ p.gathered → Appends mid new lines → BeginsLineAs texts to fs []
    → AreGathered texts fs rows to old new
all_written texts fs rows from to old mid new lines p same written begins = record {
  printed = p.printed ++ lines;
  written = Appends-trans old mid new p.printed lines p.written written;
  gathered = [];
  gathers = begins;
  joined = p.joined ∙ ap (λ (t : List ℕ). p.printed ++ t) (sym same) ∙ sym (append-nil (p.printed ++ lines));
}

-- where the last lines are written, all are
pub all_printed : (texts : Bool) (fs : Fields) (rows : List ValueTrees) (text : RowText) (old mid new : Option (List ℕ)) (lines : List ℕ) (p : AreGathered texts fs rows text old mid) → lines ≡ p.gathered → Appends mid new lines → Appends old new (row_lines texts fs rows)
all_printed texts fs rows text old mid new lines p same written =
    subst (Appends old new) (sym (p.joined ∙ ap (λ (t : List ℕ). p.printed ++ t) (sym same))) (Appends-trans old mid new p.printed lines p.written written)

-- lines that are written after others
pub printed_more : (texts : Bool) (fs : Fields) (rows others : List ValueTrees) (old mid new : Option (List ℕ)) → Appends old mid (row_lines texts fs rows) → Appends mid new (row_lines texts fs others) → Appends old new (row_lines texts fs (rows ++ others))
printed_more texts fs rows others old mid new so_far more =
    subst (Appends old new) (sym (flat_map-append (row_line texts fs) rows others)) (Appends-trans old mid new (row_lines texts fs rows) (row_lines texts fs others) so_far more)

-- no line more is gathered
pub same_gathered : (texts : Bool) (fs : Fields) (rows : List ValueTrees) (from to : RowText) (old new : Option (List ℕ)) (p : AreGathered texts fs rows from old new) → BeginsLineAs texts to fs p.gathered → AreGathered texts fs rows to old new
same_gathered texts fs rows from to old new p begins = record { printed = p.printed; written = p.written; gathered = p.gathered; gathers = begins; joined = p.joined }

-- ---- rows one by one

module _ (texts : Bool) (fs : Fields) (S : List ValueTrees → Type 0) (n : ℕ) (all : List ValueTrees) (from : RowText) (old mid : Option (List ℕ)) (p : HavePassed (λ (rows : List ValueTrees). AreGathered texts fs rows from old mid) S n all) where
  -- the line of a row more is gathered, and some are written
  pub line_more : (T : List ValueTrees → Type 0) (to again : RowText) (new : Option (List ℕ)) → RowsFit fs all → AddsNextLine texts fs S T (BeginsLineAs texts to fs) p.has.gathered (Ok true)
      → ((rows : List ValueTrees) → AreGathered texts fs rows to old mid → AreGathered texts fs rows again old new) → HavePassed (λ (rows : List ValueTrees). AreGathered texts fs rows again old new) T (n + 1) all
  line_more T to again new fit one writes =
      let Has = λ (rows : List ValueTrees). AreGathered texts fs rows from old mid in
      let Again = λ (rows : List ValueTrees). AreGathered texts fs rows again old new in
      let g = one p.left p.stands (left_fit Has S n all p fs fit) in
      passed_more Has Again S T n all p g.first g.rest g.split g.stands (writes (p.given ++ g.first ∷ []) (one_more texts fs p.given g.first from to old mid p.has g.gathers))

  -- no row was left
  pub line_none : (T : List ValueTrees → Type 0) (to : RowText) (limit : Option ℕ) → ((most : ℕ) → limit ≡ Some most → n ≤ most) → AddsNextLine texts fs S T (BeginsLineAs texts to fs) p.has.gathered (Ok false)
      → (n ≡ length (first_of limit all)) × AreGathered texts fs (first_of limit all) to old mid
  line_none T to limit within none =
      let Again = λ (rows : List ValueTrees). AreGathered texts fs rows to old mid in
      let g = none p.left p.stands in
      let q : HavePassed Again S n all = record {
        given = p.given;
        left = p.left;
        has = same_gathered texts fs p.given from to old mid p.has g.1.1;
        stands = p.stands;
        joined = p.joined;
        many = p.many;
      } in
      all_passed Again S n all q limit within g.0
