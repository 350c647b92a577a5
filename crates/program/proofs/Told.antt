-- Lines that are read as rows, one after another.
use Rattle.std.proofs.Common.{◌≡◌, ◌⊎◌, inr, Bool, true, Result, Ok, Err, Vec, Global, subst, ◌<◌, ℕ, suc, List, [], ◌∷◌, ◌++◌, length, map, take, drop, get_or, refl, sym, ap, ◌∙◌}
use Rattle.std.specs.Prelude.{IsTrue, IfOk, OnOk, IfErr}
use Rattle.std.specs.Borrow.{Bor}
use Rattle.std.proofs.lemmas.List.{map_push, take-append-drop}
use Rattle.lists.proofs.Slices.{parts_around as split_there}
use Rattle.bits.specs.declared.refusal.Refusal.{Refusal}
use Rattle.bits.specs.declared.refusal.Refusal.TheVariants.{RowShape, Script, Limit, Memory}
use Rattle.bits.specs.Refusals.{HasCause, IsFault, OnFault, RefusedMemoryOnly}
use Rattle.schema.specs.Values.{ValueTrees}
use Rattle.schema.specs.Shape.{Fields}
use Rattle.schema.specs.Fits.{fits_each, RowsFit}
use Rattle.footer.specs.declared.options.WriteOptions.{WriteOptions}
use Rattle.footer.specs.declared.file_writer.FileWriter.{FileWriter}
use Rattle.assemble.specs.Sinks.{Visits, tokens_each}
use Rattle.shred.specs.inner.Opening.{schema_token, rows_token}
use Rattle.footer.specs.Writer.{schema_of, options_of, has_rows, options_token, writer_shows, BeginsRow, ShowsRow}
use Rattle.rowtext.specs.Reader.{IsRowAs}
use Rattle.footer.specs.File.{FileMeans}
use Rattle.footer.specs.Own.{IsLaidOut}
use Rattle.footer.specs.Writing.{IsOutOfRange, IsTooMuch}
use Rattle.program.specs.inner.Lines.{IsFileOfLines, IsLinesRefusal, IsLineRefusal, AreTooMuch, HasLine}
use Rattle.program.specs.Program.{IsRowText, AreRowTexts, IsRefusedLine, HasFirstFault}

one_more : (with_texts : Bool) (fs : Fields) (texts : List (List ℕ)) (rows : List ValueTrees) (text : List ℕ) (row : ValueTrees) → AreRowTexts with_texts fs texts rows → IsRowText with_texts fs text row → AreRowTexts with_texts fs (texts ++ text ∷ []) (rows ++ row ∷ [])
one_more with_texts fs [] [] text row so_far last = (last, tt)
one_more with_texts fs [] (r ∷ rows) text row so_far last = absurd so_far
one_more with_texts fs (t ∷ texts) [] text row so_far last = absurd so_far
one_more with_texts fs (t ∷ texts) (r ∷ rows) text row so_far last = (so_far.0, one_more with_texts fs texts rows text row so_far.1 last)

-- the rows so far, and that of one more line
pub told_one_more : (with_texts : Bool) (fs : Fields) (texts : List (Bor (List ℕ))) (rows : List ValueTrees) (text : Bor (List ℕ)) (row : ValueTrees) → IsRowText with_texts fs text.now row
    → AreRowTexts with_texts fs (map (λ t. t.now) texts) rows → AreRowTexts with_texts fs (map (λ t. t.now) (texts ++ text ∷ [])) (rows ++ row ∷ [])
told_one_more with_texts fs texts rows text row is so_far =
    rw (map_push (λ (t : Bor (List ℕ)). t.now) texts text) (one_more with_texts fs (map (λ t. t.now) texts) rows text.now row so_far is)

-- where no line is left
pub told_all : (with_texts : Bool) (fs : Fields) (texts : List (Bor (List ℕ))) (all : List (List ℕ)) (rows : List ValueTrees) → map (λ t. t.now) texts ≡ all → AreRowTexts with_texts fs (map (λ t. t.now) texts) rows → AreRowTexts with_texts fs all rows
told_all with_texts fs texts all rows e told = rw (← e) told

-- each of them fits
pub fit_one_more : (fs : Fields) (rows : List ValueTrees) (row : ValueTrees) → RowsFit fs rows → IsTrue (fits_each fs row) → RowsFit fs (rows ++ row ∷ [])
fit_one_more fs [] row so_far last = (last, tt)
fit_one_more fs (r ∷ rows) row so_far last = (so_far.0, fit_one_more fs rows row so_far.1 last)

-- a text is at most one row
same_row : (with_texts : Bool) (fs : Fields) (text : List ℕ) (a b : ValueTrees) → IsRowText with_texts fs text a → IsRowText with_texts fs text b → a ≡ b
same_row with_texts fs text a b (d, reads, is) (e, others, also) = cc

-- texts are the rows of at most one list
pub same_rows : (with_texts : Bool) (fs : Fields) (texts : List (List ℕ)) (rows others : List ValueTrees) → AreRowTexts with_texts fs texts rows → AreRowTexts with_texts fs texts others → others ≡ rows
same_rows with_texts fs [] [] [] p q = refl
same_rows with_texts fs [] [] (s ∷ others) p q = absurd q
same_rows with_texts fs [] (r ∷ rows) others p q = absurd p
same_rows with_texts fs (t ∷ texts) [] others p q = absurd p
same_rows with_texts fs (t ∷ texts) (r ∷ rows) [] p q = absurd q
same_rows with_texts fs (t ∷ texts) (r ∷ rows) (s ∷ others) p q = ap (λ x. x ∷ others) (same_row with_texts fs t s r q.0 p.0) ∙ ap (λ xs. r ∷ xs) (same_rows with_texts fs texts rows others p.1 q.1)

-- the rows of texts begin with those of the first texts
begin_so : (with_texts : Bool) (fs : Fields) (texts more : List (List ℕ)) (rows all : List ValueTrees) → AreRowTexts with_texts fs texts rows → AreRowTexts with_texts fs (texts ++ more) all → (later : List ValueTrees) × (all ≡ rows ++ later)
begin_so with_texts fs [] more [] all p q = (all, refl)
begin_so with_texts fs [] more (r ∷ rows) all p q = absurd p
begin_so with_texts fs (t ∷ texts) more [] all p q = absurd p
begin_so with_texts fs (t ∷ texts) more (r ∷ rows) [] p q = absurd q
begin_so with_texts fs (t ∷ texts) more (r ∷ rows) (s ∷ all) p q =
    let rest = begin_so with_texts fs texts more rows all p.1 q.1 in
    (rest.0, ap (λ x. x ∷ all) (same_row with_texts fs t s r q.0 p.0) ∙ ap (λ xs. r ∷ xs) rest.1)

pub begin_with : (with_texts : Bool) (fs : Fields) (texts : List (Bor (List ℕ))) (lines : List (List ℕ)) (rows all : List ValueTrees) → map (λ t. t.now) texts ≡ take (length texts) lines
    → AreRowTexts with_texts fs (map (λ t. t.now) texts) rows → AreRowTexts with_texts fs lines all → (later : List ValueTrees) × (all ≡ rows ++ later)
begin_with with_texts fs texts lines rows all so_far told also =
    begin_so with_texts fs (take (length texts) lines) (drop (length texts) lines) rows all (rw (← so_far) told) (rw (take-append-drop (length texts) lines) also)

-- a writer was given the rows of the texts so far
pub record HasRead (with_texts : Bool) (fs : Fields) (o : WriteOptions) (texts : List (List ℕ)) (reads : Fields) (writer : FileWriter) : Type 0 where
  pub rows : List ValueTrees
  pub told : AreRowTexts with_texts fs texts rows
  pub has : has_rows writer rows
  pub fit : RowsFit fs rows
  pub fields : reads ≡ fs
  pub schema : schema_of writer ≡ fs
  pub options : options_of writer ≡ o

with_cause : (P Q : Refusal → Type 0) → ((e : Refusal) → P e → Q e) → (e : Refusal) → HasCause P e → HasCause Q e
with_cause P Q f Memory h = tt
with_cause P Q f e h = f e h

-- the line that is refused is the first one: those before it are rows
pub refused_first : (with_texts : Bool) (fs : Fields) (texts : List (Bor (List ℕ))) (text : Bor (List ℕ)) (all : List (List ℕ)) (rows : List ValueTrees)
    → map (λ t. t.now) texts ≡ take (length texts) all → (length texts < length all) × (text.now ≡ get_or all (length texts) text.now)
    → AreRowTexts with_texts fs (map (λ t. t.now) texts) rows → (e : Refusal) → HasCause (IsRefusedLine with_texts fs text.now) e → HasCause (HasFirstFault with_texts fs all) e
refused_first with_texts fs texts text all rows so_far here told =
    with_cause (IsRefusedLine with_texts fs text.now) (HasFirstFault with_texts fs all) (λ e refused.
    record {
      before = map (λ t. t.now) texts;
      line = text.now;
      after = drop (suc (length texts)) all;
      rows = rows;
      joined = rw so_far (split_there all (length texts) text.now here.0 here.1);
      read = told;
      refused = refused;
    })

-- ---- what lines are refused for

-- a fault of the rows, which fit, or too many of them
pub stopped_by_rows : (with_texts : Bool) (fs : Fields) (o : WriteOptions) (texts : List (List ℕ)) (e : Refusal) (rows : List ValueTrees) → RowsFit fs rows → (IsFault e → RowsFit fs rows → ⊥)
    → (e ≡ Limit → (all : List ValueTrees) → AreRowTexts with_texts fs texts all → IsOutOfRange o ⊎ IsTooMuch fs o all) → IsLinesRefusal with_texts fs o texts e
stopped_by_rows with_texts fs o texts Limit rows fit only limit = limit refl
stopped_by_rows with_texts fs o texts Memory rows fit only limit = tt
stopped_by_rows with_texts fs o texts e rows fit only limit = absurd (only tt fit)

-- the rows of the lines so far are too much, whatever comes after them
pub too_much_so_far : (with_texts : Bool) (fs : Fields) (o : WriteOptions) (yielded : List (Bor (List ℕ))) (texts : List (List ℕ)) (writer : FileWriter) (reads : Fields) → map (λ t. t.now) yielded ≡ take (length yielded) texts
    → (read : HasRead with_texts fs o (map (λ t. t.now) yielded) reads writer) → AreTooMuch (schema_of writer) (options_of writer) read.rows
    → (all : List ValueTrees) → AreRowTexts with_texts fs texts all → IsOutOfRange o ⊎ IsTooMuch fs o all
too_much_so_far with_texts fs o yielded texts writer reads so_far read much all also =
    let begins = begin_with with_texts fs yielded texts read.rows all so_far read.told also in
    let grown = read.rows ++ begins.0 in
    inr (subst (IsTooMuch fs o) (sym begins.1)
    (subst (λ (k : WriteOptions). IsTooMuch fs k grown) read.options
    (subst (λ (t : Fields). IsTooMuch t (options_of writer) grown) read.schema (much begins.0))))

-- a line that is no row, or rows before it that are too much
pub stopped_at_line : (with_texts : Bool) (fs : Fields) (o : WriteOptions) (yielded : List (Bor (List ℕ))) (text : Bor (List ℕ)) (texts : List (List ℕ)) (writer : FileWriter) (reads : Fields)
    → map (λ t. t.now) yielded ≡ take (length yielded) texts → (length yielded < length texts) × (text.now ≡ get_or texts (length yielded) text.now)
    → (read : HasRead with_texts fs o (map (λ t. t.now) yielded) reads writer) → (e : Refusal) → IsLineRefusal with_texts fs text.now (AreTooMuch (schema_of writer) (options_of writer) read.rows) e → IsLinesRefusal with_texts fs o texts e
stopped_at_line with_texts fs o yielded text texts writer reads so_far here read RowShape h = refused_first with_texts fs yielded text texts read.rows so_far here read.told RowShape h
stopped_at_line with_texts fs o yielded text texts writer reads so_far here read Script h = refused_first with_texts fs yielded text texts read.rows so_far here read.told Script h
stopped_at_line with_texts fs o yielded text texts writer reads so_far here read Limit h = too_much_so_far with_texts fs o yielded texts writer reads so_far read h
stopped_at_line with_texts fs o yielded text texts writer reads so_far here read Memory h = tt
stopped_at_line with_texts fs o yielded text texts writer reads so_far here read e h = absurd h

-- ---- what one line is refused for

pub refused_at_begin : (with_texts : Bool) (fs : Fields) (text : List ℕ) (TooMuch : Type 0) (e : Refusal) → (IsFault e → ⊥) → (e ≡ Limit → TooMuch) → IsLineRefusal with_texts fs text TooMuch e
refused_at_begin with_texts fs text TooMuch Limit only limit = limit refl
refused_at_begin with_texts fs text TooMuch Memory only limit = tt
refused_at_begin with_texts fs text TooMuch e only limit = absurd (only tt)

pub refused_as_line : (with_texts : Bool) (fs : Fields) (text : List ℕ) (TooMuch : Type 0) (e : Refusal) → HasCause (IsRefusedLine with_texts fs text) e → IsLineRefusal with_texts fs text TooMuch e
refused_as_line with_texts fs text TooMuch RowShape h = h
refused_as_line with_texts fs text TooMuch Script h = h
refused_as_line with_texts fs text TooMuch Memory h = tt
refused_as_line with_texts fs text TooMuch e h = absurd h

pub refused_at_end : {X : Type 0} (with_texts : Bool) (fs : Fields) (text : List ℕ) (TooMuch : Type 0) (r : Result X Refusal) → RefusedMemoryOnly r → IfErr r (IsLineRefusal with_texts fs text TooMuch)
refused_at_end with_texts fs text TooMuch (Ok x) h = tt
refused_at_end with_texts fs text TooMuch (Err Memory) h = tt
refused_at_end with_texts fs text TooMuch (Err e) h = absurd h

-- the row of a line that a writer was shown is one that it has
pub line_given : {X : Type 0} (with_texts : Bool) (fs reads : Fields) (o : WriteOptions) (text : List ℕ) (old begun shown new : FileWriter) (r : Result X Refusal) → ((rows : List ValueTrees) → has_rows old rows → BeginsRow begun fs o rows)
    → Visits (writer_shows begun) (writer_shows shown) tokens_each (IsRowAs with_texts reads text)
    → OnOk r ((gs : Fields) (p : WriteOptions) (rs : List ValueTrees) (values : ValueTrees) → ShowsRow shown gs p rs values → fits_each gs values ≡ true → has_rows new (rs ++ values ∷ []))
    → ((gs : Fields) (p : WriteOptions) (rs : List ValueTrees) (values : ValueTrees) → ShowsRow shown gs p rs values → (schema_of new ≡ gs) × (options_of new ≡ p))
    → OnOk r ((rows : List ValueTrees) → has_rows old rows → fs ≡ reads → HasLine with_texts reads o text rows new)
line_given with_texts fs reads o text old begun shown new (Err e) begins visits stands of = tt
line_given with_texts fs reads o text old begun shown new (Ok x) begins visits stands of = λ rows has same.
    let values = visits.0 in
    let is = visits.1.0 in
    let shows : ShowsRow shown fs o rows values = visits.1.1 (schema_token fs ∷ rows_token rows ∷ options_token o ∷ []) (begins rows has) in
    let fits : fits_each fs values ≡ true = subst (λ (t : Fields). fits_each t values ≡ true) (sym same) is.1.1.1 in
    let after = of fs o rows values shows in
    record {
      row = values;
      is = (is.0, is.1.0, is.1.1.0);
      fits = is.1.1.1;
      has = stands fs o rows values shows fits;
      schema = after.0 ∙ same;
      options = after.1;
    }

-- all rows are too much
pub too_much_at_end : (with_texts : Bool) (fs : Fields) (o : WriteOptions) (texts : List (List ℕ)) (writer : FileWriter) (rows : List ValueTrees) → AreRowTexts with_texts fs texts rows → has_rows writer rows → schema_of writer ≡ fs → options_of writer ≡ o
    → ((rows : List ValueTrees) → has_rows writer rows → IsTooMuch (schema_of writer) (options_of writer) rows) → (all : List ValueTrees) → AreRowTexts with_texts fs texts all → IsOutOfRange o ⊎ IsTooMuch fs o all
too_much_at_end with_texts fs o texts writer rows told has schema options much all also = inr (rw (same_rows with_texts fs texts rows all told also, ← schema, ← options) (much rows has))

-- the file has the rows of the lines
pub file_of_lines : (with_texts : Bool) (fs : Fields) (o : WriteOptions) (texts : List (List ℕ)) (writer : FileWriter) (r : Result (Vec ℕ Global) Refusal) (rows : List ValueTrees) → AreRowTexts with_texts fs texts rows → has_rows writer rows
    → schema_of writer ≡ fs → options_of writer ≡ o
    → IfOk r (λ file. (rows : List ValueTrees) → has_rows writer rows → FileMeans file.items (schema_of writer) rows)
    → IfOk r (λ file. (rows : List ValueTrees) → has_rows writer rows → IsLaidOut (options_of writer) (schema_of writer) rows file.items)
    → OnOk r ((rows : List ValueTrees) → has_rows writer rows → IsOutOfRange (options_of writer) → ⊥)
    → IfOk r (λ file. IsFileOfLines with_texts o fs texts file.items)
file_of_lines with_texts fs o texts writer (Err e) rows told has schema options means laid range = tt
file_of_lines with_texts fs o texts writer (Ok file) rows told has schema options means laid range = record {
  rows = rows;
  read = told;
  means = rw (← schema) (means rows has);
  laid_out = rw (← schema, ← options) (laid rows has);
  in_range = subst (λ (k : WriteOptions). IsOutOfRange k → ⊥) options (range rows has);
}

-- what is refused at the end
pub stopped_at_end : (with_texts : Bool) (fs : Fields) (o : WriteOptions) (texts : List (List ℕ)) (writer : FileWriter) (r : Result (Vec ℕ Global) Refusal) (rows : List ValueTrees) → AreRowTexts with_texts fs texts rows → has_rows writer rows
    → schema_of writer ≡ fs → options_of writer ≡ o → RowsFit fs rows
    → OnFault r ((rows : List ValueTrees) → has_rows writer rows → ⊥)
    → (r ≡ Err Limit → (rows : List ValueTrees) → has_rows writer rows → IsTooMuch (schema_of writer) (options_of writer) rows)
    → IfErr r (IsLinesRefusal with_texts fs o texts)
stopped_at_end with_texts fs o texts writer (Ok file) rows told has schema options fit only limit = tt
stopped_at_end with_texts fs o texts writer (Err e) rows told has schema options fit only limit =
    stopped_by_rows with_texts fs o texts e rows fit (λ fault fits. only fault rows has)
    (λ is all also. too_much_at_end with_texts fs o texts writer rows told has schema options (limit (ap Err is)) all also)
