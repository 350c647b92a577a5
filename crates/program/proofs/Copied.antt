-- Rows that go from a reader to a writer, and the first rows of a reader.
use Rattle.std.proofs.Common.{◌≡◌, ◌==◌, ◌≤◌, ◌<◌, ◌+◌, ℕ, zero, suc, Bool, true, false, List, [], ◌∷◌, ◌++◌, map, take, length, Option, Some, None, Vec, Global, IsTrue, Result, Ok, Err, OnOk, refl, sym, ap, subst, ◌∙◌, append_assoc, append-nil, length-append, arith}
use Rattle.std.proofs.lemmas.Bool.{false≢true}
use Rattle.std.specs.Prelude.{IfOk}
use Rattle.std.specs.List.{list_all}
use Rattle.std.proofs.lemmas.List.{map-append, length-map, take_all}
use Rattle.lists.proofs.Slices.{take_front as front_taken}
use Rattle.bits.specs.declared.refusal.Refusal.{Refusal}
use Rattle.schema.specs.Values.{ValueTrees}
use Rattle.schema.specs.Shape.{Fields}
use Rattle.schema.specs.Fits.{RowsFit}
use Rattle.footer.specs.declared.file_writer.FileWriter.{FileWriter}
use Rattle.footer.specs.declared.options.WriteOptions.{WriteOptions}
use Rattle.footer.specs.File.{FileMeans}
use Rattle.footer.specs.Own.{IsLaidOut}
use Rattle.footer.specs.Writing.{IsOutOfRange}
use Rattle.footer.specs.Writer.{has_rows, schema_of, options_of}
use Rattle.columns.specs.Columns.{Columns, wanted_fields, wanted_places, cut, is_field, first_of}
use Rattle.rowtext.specs.Rows.{AddsFirstLine, AddsNextLine}
use Rattle.program.specs.Program.{IsCopyOf, MeansUpTo}
use Rattle.program.specs.Words.{columns_of}
use Rattle.program.specs.inner.Copied.{IsFileOfRows, IsFirstOfRows, IsAskedFile, cut_at, ArePassed, FirstStand}

-- ---- from a reader to a writer

-- one row more
pub passed_more : (Has Again S T : List ValueTrees → Type 0) (cut_so : ValueTrees → ValueTrees) (n : ℕ) (all : List ValueTrees) (row cut_off : ValueTrees) → cut_off ≡ cut_so row → ArePassed Has S cut_so n all
    → ((rows : List ValueTrees) → S rows → (rest : List ValueTrees) × (rows ≡ row ∷ rest) × T rest) → ((rows : List ValueTrees) → Has rows → Again (rows ++ cut_off ∷ [])) → ArePassed Again T cut_so (n + 1) all
passed_more Has Again S T cut_so n all row cut_off is p takes gives =
    let t = takes p.left p.stands in
    let grown : map cut_so p.given ++ cut_off ∷ [] ≡ map cut_so (p.given ++ row ∷ []) = ap (λ (r : ValueTrees). map cut_so p.given ++ r ∷ []) is ∙ sym (map-append cut_so p.given (row ∷ [])) in
    record {
      given = p.given ++ row ∷ [];
      left = t.0;
      has = subst Again grown (gives (map cut_so p.given) p.has);
      stands = t.2;
      joined = p.joined ∙ (ap (λ (rs : List ValueTrees). p.given ++ rs) t.1 ∙ sym (append_assoc p.given (row ∷ []) t.0));
      many = length-append p.given (row ∷ []) ∙ ap (λ (k : ℕ). k + 1) p.many;
    }

module _ (Has S : List ValueTrees → Type 0) (cut_so : ValueTrees → ValueTrees) (n : ℕ) (all : List ValueTrees) (p : ArePassed Has S cut_so n all) where
  -- none is left
  pub all_passed : (limit : Option ℕ) → ((k : ℕ) → limit ≡ Some k → n ≤ k) → p.left ≡ [] → Has (first_of limit (map cut_so all))
  all_passed limit within none = by limit within
    where
      are : all ≡ p.given
      are = p.joined ∙ (ap (λ (rs : List ValueTrees). p.given ++ rs) none ∙ append-nil p.given)

      every : Has (map cut_so all)
      every = subst (λ (rs : List ValueTrees). Has (map cut_so rs)) (sym are) p.has

      by : (limit : Option ℕ) → ((k : ℕ) → limit ≡ Some k → n ≤ k) → Has (first_of limit (map cut_so all))
      by None within = every
      by (Some k) within =
          let most = within k refl in
          let long : length (map cut_so all) ≡ n = length-map all cut_so ∙ (ap length are ∙ p.many) in
          subst Has (sym (take_all k (map cut_so all) (omega (arith, most, long)))) every

  -- as many as are wanted were passed
  pub enough_passed : (limit : Option ℕ) (k : ℕ) → limit ≡ Some k → n ≡ k → Has (first_of limit (map cut_so all))
  enough_passed limit k is e =
      let split : map cut_so all ≡ map cut_so p.given ++ map cut_so p.left = ap (map cut_so) p.joined ∙ map-append cut_so p.given p.left in
      let front : take k (map cut_so all) ≡ map cut_so p.given = ap (take k) split ∙ front_taken k (map cut_so p.given) (map cut_so p.left) (length-map p.given cut_so ∙ (p.many ∙ e)) in
      subst (λ (l : Option ℕ). Has (first_of l (map cut_so all))) (sym is) (subst Has (sym front) p.has)

pub file_is : (writer : FileWriter) (options : WriteOptions) (fs : Fields) (rs : List ValueTrees) (result : Result (Vec ℕ Global) Refusal) → has_rows writer rs → schema_of writer ≡ fs → options_of writer ≡ options
    → IfOk result (λ (file : Vec ℕ Global). (all : List ValueTrees) → has_rows writer all → FileMeans file.items (schema_of writer) all)
    → IfOk result (λ (file : Vec ℕ Global). (all : List ValueTrees) → has_rows writer all → IsLaidOut (options_of writer) (schema_of writer) all file.items)
    → OnOk result ((all : List ValueTrees) → has_rows writer all → IsOutOfRange (options_of writer) → ⊥)
    → IfOk result (λ (file : Vec ℕ Global). IsFileOfRows options fs rs file.items)
file_is writer options fs rs (Err e) has is_fs is_options means laid_out in_range = tt
file_is writer options fs rs (Ok file) has is_fs is_options means laid_out in_range = record {
  means = subst (λ (f : Fields). FileMeans file.items f rs) is_fs (means rs has);
  laid_out = subst (λ (f : Fields). IsLaidOut options f rs file.items) is_fs (subst (λ (o : WriteOptions). IsLaidOut o (schema_of writer) rs file.items) is_options (laid_out rs has));
  in_range = subst (λ (o : WriteOptions). IsOutOfRange o → ⊥) is_options (in_range rs has);
}

-- rows that are not cut
uncut : (rows : List ValueTrees) → map (cut_at None) rows ≡ rows
uncut [] = refl
uncut (r ∷ rows) = ap (λ (rs : List ValueTrees). r ∷ rs) (uncut rows)

pub all_asked : (options : WriteOptions) (limit : Option ℕ) (fs : Fields) (rows : List ValueTrees) (result : Result (Vec ℕ Global) Refusal) → IfOk result (λ (copy : Vec ℕ Global). IsFirstOfRows options fs None limit rows copy.items)
    → IfOk result (λ (copy : Vec ℕ Global). IsAskedFile options None limit fs rows copy.items)
all_asked options limit fs rows (Err e) is = tt
all_asked options limit fs rows (Ok copy) is = record { there = tt; is = subst (λ (rs : List ValueTrees). IsFileOfRows options fs (first_of limit rs) copy.items) (uncut rows) is }

pub some_asked : (options : WriteOptions) (names : List (List ℕ)) (limit : Option ℕ) (fs own : Fields) (places : List ℕ) (rows : List ValueTrees) (result : Result (Vec ℕ Global) Refusal) → IsTrue (list_all (is_field fs) names)
    → own ≡ wanted_fields (Some names) fs → places ≡ wanted_places (Some names) 0 fs → IfOk result (λ (copy : Vec ℕ Global). IsFirstOfRows options own (Some places) limit rows copy.items)
    → IfOk result (λ (copy : Vec ℕ Global). IsAskedFile options (Some names) limit fs rows copy.items)
some_asked options names limit fs own places rows (Err e) there of_fields of_places is = tt
some_asked options names limit fs own places rows (Ok copy) there of_fields of_places is = record {
  there = there;
  is = subst (λ (f : Fields). IsFileOfRows options f (first_of limit (map (cut (wanted_places (Some names) 0 fs)) rows)) copy.items) of_fields
      (subst (λ (ps : List ℕ). IsFileOfRows options own (first_of limit (map (cut ps) rows)) copy.items) of_places is);
}

pub copy_is : (options : WriteOptions) (columns : Columns) (limit : Option ℕ) (bytes : List ℕ) (fs : Fields) (rows : List ValueTrees) (result : Result (Vec ℕ Global) Refusal) → MeansUpTo limit bytes fs rows
    → IfOk result (λ (copy : Vec ℕ Global). IsAskedFile options columns limit fs rows copy.items) → IfOk result (λ (copy : Vec ℕ Global). IsCopyOf options columns limit bytes copy.items)
copy_is options columns limit bytes fs rows (Err e) means asked = tt
copy_is options columns limit bytes fs rows (Ok copy) means asked =
    record { fs = fs; rows = rows; means = means; there = asked.there; copied = asked.is.means; laid_out = asked.is.laid_out; in_range = asked.is.in_range }

-- ---- the first rows

pub fit_first : (fs : Fields) (n : ℕ) (rows : List ValueTrees) → RowsFit fs rows → RowsFit fs (take n rows)
fit_first fs zero rows fit = tt
fit_first fs (suc n) [] fit = tt
fit_first fs (suc n) (r ∷ rs) fit = (fit.0, fit_first fs n rs fit.1)

pub first_stand : (S : List ValueTrees → Type 0) (fs : Fields) (n m : ℕ) (all : List ValueTrees) → n ≡ m → S all → RowsFit fs all → FirstStand S fs m (take n all)
first_stand S fs n m all e stands fit = record { all = all; stands = stands; fit = fit; are = ap (λ (k : ℕ). take k all) e }

take_none : (n : ℕ) (rows : List ValueTrees) → rows ≡ [] → take n rows ≡ []
take_none zero rows e = refl
take_none (suc n) [] e = refl
take_none (suc n) (r ∷ rows) e = absurd (cc)

-- one of them is taken
pub first_taken : (texts : Bool) (fs : Fields) (S T : List ValueTrees → Type 0) (Gathers : List ℕ → Type 0) (n m : ℕ) (lines : List ℕ) (left : List ValueTrees) → n ≡ suc m → FirstStand S fs n left → AddsNextLine texts fs S T Gathers lines (Ok true)
    → AddsFirstLine texts fs (FirstStand T fs m) Gathers lines left
first_taken texts fs S T Gathers n m lines left e f puts =
    let g = puts f.all f.stands f.fit in
    let fits : RowsFit fs (g.first ∷ g.rest) = subst (RowsFit fs) g.split f.fit in
    record {
      first = g.first;
      rest = take m g.rest;
      split = f.are ∙ (ap (λ (k : ℕ). take k f.all) e ∙ ap (take (suc m)) g.split);
      stands = record { all = g.rest; stands = g.stands; fit = fits.1; are = refl };
      gathers = g.gathers;
    }

-- there is none
pub none_taken : (texts : Bool) (fs : Fields) (S T : List ValueTrees → Type 0) (Gathers : List ℕ → Type 0) (n : ℕ) (lines : List ℕ) (left : List ValueTrees) → FirstStand S fs n left → AddsNextLine texts fs S T Gathers lines (Ok false)
    → (left ≡ []) × (FirstStand T fs n [] × Gathers lines)
none_taken texts fs S T Gathers n lines left f puts =
    let g = puts f.all f.stands in
    (f.are ∙ take_none n f.all g.0, (record { all = []; stands = g.1.0; fit = tt; are = sym (take_none n [] refl) }, g.1.1))

-- as many as are wanted were taken
pub first_over : (fs : Fields) (S : List ValueTrees → Type 0) (n : ℕ) (left : List ValueTrees) → n ≡ 0 → FirstStand S fs n left → left ≡ []
first_over fs S n left e f = f.are ∙ ap (λ (k : ℕ). take k f.all) e

-- ---- the columns that are asked for

pub none_named : (names : List (List ℕ)) → length names ≡ 0 → columns_of names ≡ None
none_named [] e = refl
none_named (name ∷ names) e = absurd (omega (arith, e))

pub some_named : (names : List (List ℕ)) → 0 < length names → columns_of names ≡ Some names
some_named [] e = absurd (omega (arith, e))
some_named (name ∷ names) e = refl

pub some_there : (n : ℕ) → (n == 0) ≡ false → 0 < n
some_there zero e = absurd (false≢true (sym e))
some_there (suc n) e = omega arith
