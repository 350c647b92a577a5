-- Rows, one by one.
use Rattle.std.proofs.Common.{ℕ, ◌≡◌, ◌+◌, ◌<◌, Bool, true, false, List, [], ◌∷◌, ◌++◌, map, length, refl, ap, sym, subst, ◌∙◌, arith, None, Option, Result, Ok, Err}
use Rattle.std.specs.List.{AllByRecursion}
use Rattle.std.proofs.lemmas.List.{append-nil, length-append, length-map}
use Rattle.bits.specs.declared.refusal.Refusal.{Refusal}
use Rattle.schema.specs.declared.value.Repetition.TheVariants.{Required}
use Rattle.std.specs.Result.{IsErrAnd}
use Rattle.lists.proofs.Lists.{all_weaker}
use Rattle.schema.specs.declared.row.Row.{Row}
use Rattle.assemble.specs.Sinks.{Token}
use Rattle.assemble.specs.Standing.{IsRefusedFor}
use Rattle.assemble.specs.Columns.{Columns, level, AreAlike, Want, AllSuit, Tells, Fronts}
use Rattle.assemble.specs.inner.Fronts.{Ends, AreEnds, stripes_each, wants_each, FitEach}
use Rattle.assemble.specs.inner.Steps.{first_of, HasItem, Filled}
use Rattle.assemble.specs.inner.ReadValues.{HasLevels, IsRead, IsFaulty}
use Rattle.assemble.specs.RowsOf.{wants_of, HasFault, IsFirstRow, NextRowTo, NextRow}
use Rattle.schema.specs.Values.{ValueTrees, group}
use Rattle.schema.specs.Shape.{fields, Fields}
use Rattle.schema.specs.Fits.{fits_each, RowsFit}
use Rattle.schema.specs.Stripe.{Entry, Leaf, leaves_of, stripe, column, columns, greatest_definition}
use Rattle.schema.specs.Law.{IsSchema, HasGreatestLevels}
use Rattle.schema.proofs.LeafLaws.{IsLeafFrom, Starts, Starts-append}
use Rattle.schema.proofs.Determined.{starts_each, At-whole}
use Rattle.schema.proofs.Kept.{levels_are_of_steps}
use Rattle.assemble.proofs.Fronts.{suit_front, alike_parts}
use Rattle.assemble.proofs.Told.{tells_more}
use Rattle.assemble.proofs.Starting.{listed_from, has_leaf}
use Rattle.assemble.proofs.Readings.{map_same}
use Rattle.assemble.proofs.Groups.{group_stripes, group_wants}

-- the stripes of a row begin with levels 0
abbrev RowStarts : Fields → Leaf → Type 0
RowStarts fs l = (row : ValueTrees) → fits_each fs row ≡ true → Starts 0 0 (stripe l.steps (group row) 0 0 0)

row_starts : (fs : Fields) → AllByRecursion (RowStarts fs) (leaves_of fs)
row_starts fs = all_weaker (λ (l : Leaf). IsLeafFrom fs 0 l.steps) (RowStarts fs) (λ l is row h. starts_each fs 0 l.steps is (group row) row h (At-whole row) 0 0 0) (leaves_of fs) (listed_from fs 0)

ends_column : (fs : Fields) (l : Leaf) → RowStarts fs l → (rows : List ValueTrees) → RowsFit fs rows → Ends 0 (column rows l.steps)
ends_column fs l s [] h = tt
ends_column fs l s (row ∷ rows) h = begin (stripe l.steps (group row) 0 0 0) (s row h.0)
  where
    begin : (xs : List Entry) → Starts 0 0 xs → Ends 0 (xs ++ column rows l.steps)
    begin [] s = absurd s
    begin (x ∷ xs) s = omega (arith, s.0)

ends_columns : (fs : Fields) (ls : List Leaf) → AllByRecursion (RowStarts fs) ls → (rows : List ValueTrees) → RowsFit fs rows → (f : Leaf → List Entry) → AreEnds 0 (map f ls) (map (λ (l : Leaf). column rows l.steps) ls)
ends_columns fs [] s rows h f = tt
ends_columns fs (l ∷ ls) s rows h f = (ends_column fs l s.0 rows h, ends_columns fs ls s.1 rows h f)

fronts_maps : (f g : Leaf → List Entry) (ls : List Leaf) → Fronts (map f ls) (map (λ l. f l ++ g l) ls) (map g ls)
fronts_maps f g [] = refl
fronts_maps f g (l ∷ ls) = (refl, fronts_maps f g ls)

fronts_are : (f g : Leaf → List Entry) (ls : List Leaf) (old : Columns) → Fronts (map f ls) old (map g ls) → old ≡ map (λ l. f l ++ g l) ls
fronts_are f g [] old h = h
fronts_are f g (l ∷ ls) [] h = absurd h
fronts_are f g (l ∷ ls) (o ∷ old) h = ap (λ t. t ∷ old) h.0 ∙ ap (λ t. (f l ++ g l) ∷ t) (fronts_are f g ls old h.1)

row_stripes : (fs : Fields) (row : ValueTrees) → FitEach fs row → map (λ (l : Leaf). stripe l.steps (group row) 0 0 0) (leaves_of fs) ≡ stripes_each fs 0 0 0 row
row_stripes fs row h = group_stripes fs 0 (group row) row h (At-whole row) 0 0 0

-- rows begin with a row
pub first_row : (fs : Fields) (row : ValueTrees) (rows : List ValueTrees) (old : Columns) → RowsFit fs (row ∷ rows) → AreAlike (columns fs (row ∷ rows)) old → HasLevels (FitEach fs) (stripes_each fs 0 0 0) 0 old (columns fs rows)
first_row fs row rows old h alike = record {
  value = row;
  fits = h.0;
  whole = columns fs (row ∷ rows);
  alike = alike;
  front = subst (λ s. Fronts s (columns fs (row ∷ rows)) (columns fs rows)) (row_stripes fs row h.0) (fronts_maps (λ (l : Leaf). stripe l.steps (group row) 0 0 0) (λ (l : Leaf). column rows l.steps) (leaves_of fs));
  ends = subst (λ s. AreEnds 0 s (columns fs rows)) (row_stripes fs row h.0) (ends_columns fs (leaves_of fs) (row_starts fs) rows h.1 (λ (l : Leaf). stripe l.steps (group row) 0 0 0));
}

-- the columns of no rows have no entry, those of rows have one each
first_none : (fs : Fields) → first_of (columns fs []) ≡ []
first_none fs = at (leaves_of fs)
  where
    at : (ls : List Leaf) → first_of (map (λ (l : Leaf). column [] l.steps) ls) ≡ []
    at [] = refl
    at (l ∷ ls) = refl

first_alike : (xs ys : Columns) → AreAlike xs ys → map level (first_of xs) ≡ map level (first_of ys)
first_alike [] [] h = refl
first_alike [] (y ∷ ys) h = cc
first_alike (x ∷ xs) [] h = cc
first_alike (x ∷ xs) (y ∷ ys) h = (alike_parts x y xs ys h).0

none_level : (xs : List Entry) → map level [] ≡ map level xs → xs ≡ []
none_level [] h = refl
none_level (x ∷ xs) h = cc

level_none : (xs : List Entry) → map level xs ≡ map level [] → xs ≡ []
level_none [] h = refl
level_none (x ∷ xs) h = cc

some_start : (fs : Fields) (ls : List Leaf) → AllByRecursion (RowStarts fs) ls → 0 < length ls → (row : ValueTrees) → fits_each fs row ≡ true → Starts 0 0 (first_of (map (λ (l : Leaf). stripe l.steps (group row) 0 0 0) ls))
some_start fs [] s lt row h = absurd (omega (arith, lt))
some_start fs (l ∷ ls) s lt row h = s.0 row h

filled_column : (fs : Fields) (ls : List Leaf) → AllByRecursion (RowStarts fs) ls → 0 < length ls → (row : ValueTrees) (rows : List ValueTrees) → fits_each fs row ≡ true → first_of (map (λ (l : Leaf). column (row ∷ rows) l.steps) ls) ≡ [] → ⊥
filled_column fs [] s lt row rows h e = omega (arith, lt)
filled_column fs (l ∷ ls) s lt row rows h e =
    let t : Starts 0 0 [] = subst (Starts 0 0) e (Starts-append 0 0 (stripe l.steps (group row) 0 0 0) (column rows l.steps) (s.0 row h)) in
    t

-- fitting rows with the levels of `old` are some rows and rows with the levels of `now`
pub record SoFar (fs : Fields) (old now : Columns) : Type 0 where
  pub alone : (all : List ValueTrees) → RowsFit fs all → AreAlike (columns fs all) old → (rest : List ValueTrees) × (RowsFit fs rest × AreAlike (columns fs rest) now)
  pub suit : AllSuit (wants_of fs) old → AllSuit (wants_of fs) now

pub begins : (fs : Fields) (old : Columns) → SoFar fs old old
begins fs old = record { alone = λ all h e. (all, (h, e)); suit = λ s. s }

pub next : (fs : Fields) (old now new : Columns) (row : ValueTrees) → SoFar fs old now → IsFirstRow fs row now new → SoFar fs old new
next fs old now new row so h = record {
  alone = λ all fit alike. let a = so.alone all fit alike in h.alone a.0 a.1.0 a.1.1;
  suit = λ s. suit_front (columns fs (row ∷ [])) now new (wants_of fs) h.front (so.suit s);
}

not_empty : (fs : Fields) (now : Columns) → 0 < length (first_of now) → AreAlike (columns fs []) now → ⊥
not_empty fs now lt h =
    let none : first_of now ≡ [] = none_level (first_of now) (ap (map level) (sym (first_none fs)) ∙ first_alike (columns fs []) now h) in
    let l = ap length none in
    omega (arith, lt, l)

-- the columns of one row
row_columns : (fs : Fields) (row : ValueTrees) → FitEach fs row → columns fs (row ∷ []) ≡ stripes_each fs 0 0 0 row
row_columns fs row h = map_same _ _ (leaves_of fs) (λ (l : Leaf). append-nil (stripe l.steps (group row) 0 0 0)) ∙ row_stripes fs row h

pub row_front : (fs : Fields) (row : ValueTrees) (old new : Columns) → FitEach fs row → Fronts (stripes_each fs 0 0 0 row) old new → Fronts (columns fs (row ∷ [])) old new
row_front fs row old new fit h = subst (λ s. Fronts s old new) (sym (row_columns fs row fit)) h

-- the columns of one row, followed by those of others
first_then : (fs : Fields) (row : ValueTrees) (rest : List ValueTrees) (now : Columns) → Fronts (columns fs (row ∷ [])) now (columns fs rest) → now ≡ columns fs (row ∷ rest)
first_then fs row rest now h =
    fronts_are (λ (l : Leaf). column (row ∷ []) l.steps) (λ (l : Leaf). column rest l.steps) (leaves_of fs) now h
    ∙ map_same _ _ (leaves_of fs) (λ (l : Leaf). ap (λ t. t ++ column rest l.steps) (append-nil (stripe l.steps (group row) 0 0 0)))

-- before the columns of further rows stood those of the rows and of these
abbrev pub Prior : Fields → List ValueTrees → Columns → Columns → Type 0
Prior fs rows old now = (rest : List ValueTrees) → columns fs rest ≡ now → columns fs (rows ++ rest) ≡ old

regroup : (xs : List ValueTrees) (y : ValueTrees) (ys : List ValueTrees) → (xs ++ y ∷ []) ++ ys ≡ xs ++ y ∷ ys
regroup [] y ys = refl
regroup (x ∷ xs) y ys = ap (λ t. x ∷ t) (regroup xs y ys)

pub prior_next : (fs : Fields) (old now new : Columns) (rows : List ValueTrees) (row : ValueTrees) → Prior fs rows old now → Fronts (columns fs (row ∷ [])) now new → Prior fs (rows ++ row ∷ []) old new
prior_next fs old now new rows row prior front rest e =
    ap (columns fs) (regroup rows row rest) ∙ prior (row ∷ rest) (sym (first_then fs row rest now (subst (Fronts (columns fs (row ∷ [])) now) (sym e) front)))

pub no_more : (xs : List ValueTrees) → xs ++ [] ≡ xs
no_more [] = refl
no_more (x ∷ xs) = ap (λ t. x ∷ t) (no_more xs)

pub one_more_fits : (fs : Fields) (rows : List ValueTrees) (row : ValueTrees) → RowsFit fs rows → RowsFit fs (row ∷ []) → RowsFit fs (rows ++ row ∷ [])
one_more_fits fs [] row h g = g
one_more_fits fs (r ∷ rows) row h g = (h.0, one_more_fits fs rows row h.1 g)

wants_same : (ls : List Leaf) → AllByRecursion HasGreatestLevels ls → map (λ (l : Leaf). let w : Want = record { full = l.greatest_definition; leaf_type = l.leaf_type } in w) ls ≡ map (λ (l : Leaf). let w : Want = record { full = 0 + greatest_definition l.steps; leaf_type = l.leaf_type } in w) ls
wants_same [] h = refl
wants_same (l ∷ ls) h =
    let e : l.greatest_definition ≡ 0 + greatest_definition l.steps = let d = h.0.definition in omega (arith, d) in
    ap (λ n. record { full = n; leaf_type = l.leaf_type } ∷ map (λ (l : Leaf). let w : Want = record { full = l.greatest_definition; leaf_type = l.leaf_type } in w) ls) e ∙ ap (λ t. record { full = 0 + greatest_definition l.steps; leaf_type = l.leaf_type } ∷ t) (wants_same ls h.1)

pub wants_are : (fs : Fields) → wants_of fs ≡ wants_each fs 0
wants_are fs = wants_same (leaves_of fs) (levels_are_of_steps fs) ∙ group_wants fs 0 0

-- what is said of the rows that are left is said of all
pub faulty_rest : (fs : Fields) (old now : Columns) (e : Refusal) → SoFar fs old now → HasFault fs now e → HasFault fs old e
faulty_rest fs old now e so h = tells_more _ _ _ _ (λ none all fit alike. let a = so.alone all fit alike in none a.0 a.1.0 a.1.1) (λ none s. none (so.suit s)) e h

-- a row that was read took an entry
taken_at : (ss old new : Columns) (q e : ℕ) → Fronts ss old new → Starts q e (first_of ss) → length (first_of new) < length (first_of old)
taken_at [] old new q e h s = absurd s
taken_at (x ∷ ss) [] new q e h s = absurd h
taken_at (x ∷ ss) (o ∷ old) [] q e h s = absurd h
taken_at ([] ∷ ss) (o ∷ old) (n ∷ new) q e h s = absurd s
taken_at ((y ∷ x) ∷ ss) (o ∷ old) (n ∷ new) q e h s = let l = ap length h.0 in let m = length-append x n in omega (arith, l, m)

module _ (fs : Fields) (some : 0 < length (leaves_of fs)) where
  takes : (now new : Columns) (row : ValueTrees) → IsRead (FitEach fs) (stripes_each fs 0 0 0) 0 now new row → length (first_of new) < length (first_of now)
  takes now new row h =
      taken_at (map (λ (l : Leaf). stripe l.steps (group row) 0 0 0) (leaves_of fs)) now new 0 0 (subst (λ s. Fronts s now new) (sym (row_stripes fs row h.fits)) h.front) (some_start fs (leaves_of fs) (row_starts fs) some row h.fits)

  -- the row that was read is the first row
  pub is_first_row : (now new : Columns) (row : ValueTrees) → IsRead (FitEach fs) (stripes_each fs 0 0 0) 0 now new row → IsFirstRow fs row now new
  is_first_row now new row h = record { front = row_front fs row now new h.fits h.front; alone = rest }
    where
      rest : (rs : List ValueTrees) → RowsFit fs rs → AreAlike (columns fs rs) now → (rest : List ValueTrees) × (RowsFit fs rest × AreAlike (columns fs rest) new)
      rest [] fit alike = absurd (not_empty fs now (let l = takes now new row h in omega (arith, l)) alike)
      rest (r ∷ rs) fit alike = (rs, (fit.1, h.alone (columns fs rs) (first_row fs r rs now fit alike)))

  -- no row is left of the first column, and so of no other
  no_row : (old : Columns) (rows : List ValueTrees) → first_of old ≡ [] → RowsFit fs rows → AreAlike (columns fs rows) old → rows ≡ []
  no_row old [] e fit alike = refl
  no_row old (row ∷ rows) e fit alike =
      absurd (filled_column fs (leaves_of fs) (row_starts fs) some row rows fit.0 (level_none _ (first_alike (columns fs (row ∷ rows)) old alike ∙ ap (map level) e)))

  some_filled : (ls : List Leaf) (old : Columns) → AreAlike (map (λ (l : Leaf). column [] l.steps) ls) old → Filled old → ⊥
  some_filled [] [] h f = f
  some_filled [] (o ∷ old) h f = cc
  some_filled (l ∷ ls) [] h f = f
  some_filled (l ∷ ls) ([] ∷ old) h f = some_filled ls old (alike_parts [] [] (map (λ (l : Leaf). column [] l.steps) ls) old h).1 f
  some_filled (l ∷ ls) ((e ∷ o) ∷ old) h f = let p = (alike_parts [] (e ∷ o) (map (λ (l : Leaf). column [] l.steps) ls) old h).0 in cc

  pub not_ended : (old : Columns) (e : Refusal) → first_of old ≡ [] → Tells (Filled old) ⊥ e → HasFault fs old e
  not_ended old e none h = tells_more _ _ _ _
      (λ f rows fit alike. some_filled (leaves_of fs) old (subst (λ rs. AreAlike (columns fs rs) old) (no_row old rows none fit alike) alike) f) (λ h. absurd h) e h

  -- what the reader of a row is refused for
  pub faulty_row : (old : Columns) (e : Refusal) → HasItem 0 (first_of old) true → IsFaulty (FitEach fs) (stripes_each fs 0 0 0) 0 (wants_each fs 0) old e → HasFault fs old e
  faulty_row old e more h = tells_more _ _ _ _ (λ none rows fit alike. at none rows fit alike) (λ none s. none (subst (λ ws. AllSuit ws old) (wants_are fs) s)) e h
    where
      has_none : (o : List Entry) → o ≡ [] → HasItem 0 o true → ⊥
      has_none [] e i = i
      has_none (x ∷ o) e i = cc

      at : ((rests : Columns) → HasLevels (FitEach fs) (stripes_each fs 0 0 0) 0 old rests → ⊥) → (rows : List ValueTrees) → RowsFit fs rows → AreAlike (columns fs rows) old → ⊥
      at none [] fit alike = has_none (first_of old) (none_level (first_of old) (ap (map level) (sym (first_none fs)) ∙ first_alike (columns fs []) old alike)) more
      at none (row ∷ rows) fit alike = none (columns fs rows) (first_row fs row rows old fit alike)

  -- the columns of rows have an entry
  pub has_entry : (row : ValueTrees) (rows : List ValueTrees) → RowsFit fs (row ∷ rows) → HasItem 0 (first_of (columns fs (row ∷ rows))) true
  has_entry row rows fit = by (first_of (columns fs (row ∷ rows))) (filled_column fs (leaves_of fs) (row_starts fs) some row rows fit.0)
    where
      by : (es : List Entry) → (es ≡ [] → ⊥) → HasItem 0 es true
      by [] filled = filled refl
      by (e ∷ es) filled = omega arith

pub nothing_first : (es : List Entry) → HasItem 0 es false → es ≡ []
nothing_first [] h = refl
nothing_first (e ∷ es) h = absurd (omega (arith, h))

pub has_leaves : (fs : Fields) → IsSchema fs → 0 < length (leaves_of fs)
has_leaves fs h = has_leaf (fields [] Required None fs) h

alike_length : (xs ys : Columns) → AreAlike xs ys → length xs ≡ length ys
alike_length xs ys h = sym (length-map xs (map level)) ∙ ap length h ∙ length-map ys (map level)

-- rows have a column for each leaf
pub other_number : (fs : Fields) (rows : List ValueTrees) (cs : Columns) → AreAlike (columns fs rows) cs → length (leaves_of fs) ≡ length cs
other_number fs rows cs h = sym (length-map (leaves_of fs) (λ (l : Leaf). column rows l.steps)) ∙ alike_length (columns fs rows) cs h

-- results
module _ {A : Type 0} (S : A → List Entry → Type 0) (R : A → Option Refusal) (C : A → Refusal → Type 0) where
  pub next_to_err : {K : Type 0} (shows : K → List Token → Type 0) (fs : Fields) (old new : List A) (from to : K) (r : Result Bool Refusal) (e : Refusal) → IsErrAnd r (λ f. f ≡ e) → IsRefusedFor S R C old new (HasFault fs) e → NextRowTo S R C shows fs old new from to r
  next_to_err shows fs old new from to (Ok x) e is h = absurd is
  next_to_err shows fs old new from to (Err f) e is h = subst (IsRefusedFor S R C old new (HasFault fs)) (sym is) h

  pub next_err : (fs : Fields) (old new : List A) (r : Result (Option Row) Refusal) (e : Refusal) → IsErrAnd r (λ f. f ≡ e) → IsRefusedFor S R C old new (HasFault fs) e → NextRow S R C fs old new r
  next_err fs old new (Ok x) e is h = absurd is
  next_err fs old new (Err f) e is h = subst (IsRefusedFor S R C old new (HasFault fs)) (sym is) h
