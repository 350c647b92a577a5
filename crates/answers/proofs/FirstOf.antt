-- The first of some rows, where there is a limit, and how many more there may be.
use Rattle.std.proofs.Common.{◌≡◌, ◌≤◌, ℕ, zero, suc, ◌+◌, ◌-◌, List, [], ◌∷◌, ◌++◌, take, length, Option, Some, None, refl, sym, ◌∙◌, ap, subst, length-append, append_assoc, arith}
use Rattle.std.proofs.lemmas.List.{append-nil, take_all}
use Rattle.lists.proofs.Slices.{take_front as front_taken}
use Rattle.schema.specs.Shape.{Fields}
use Rattle.schema.specs.Values.{ValueTrees}
use Rattle.schema.specs.Fits.{RowsFit}
use Rattle.table.specs.Cursors.{Batch}
use Rattle.answers.specs.QueryFile.{first_of}
use Rattle.answers.specs.inner.Fetched.{rows_of_each, WhereFitting, fewer, AreEnough, HoldsOfFirst}
use Rattle.answers.specs.inner.Gathering.{HavePassed}
use Rattle.answers.proofs.Selected.{rows_one_more, front_fits, others_fit}

-- ---- the first so many

same_many : {A : Type 0} (j k : ℕ) (ys : List A) → k ≡ j → take j ys ≡ take k ys
same_many j k ys e = ap (λ (n : ℕ). take n ys) (sym e)

take_more : {A : Type 0} (n k : ℕ) (xs ys : List A) → k ≡ n - length xs → take n (xs ++ ys) ≡ take n xs ++ take k ys
take_more zero k [] ys e = same_many 0 k ys (omega (arith, e))
take_more zero k (x ∷ xs) ys e = same_many 0 k ys (omega (arith, e))
take_more (suc n) k [] ys e = same_many (suc n) k ys (omega (arith, e))
take_more (suc n) k (x ∷ xs) ys e = ap (λ (zs : List _). x ∷ zs) (take_more n k xs ys (omega (arith, e)))

first_none : (limit : Option ℕ) → first_of {A = ValueTrees} limit [] ≡ []
first_none None = refl
first_none (Some zero) = refl
first_none (Some (suc n)) = refl

first_more : (limit left : Option ℕ) (xs ys : List ValueTrees) → left ≡ fewer limit (length xs) → first_of limit (xs ++ ys) ≡ first_of limit xs ++ first_of left ys
first_more None left xs ys e = subst (λ (l : Option ℕ). xs ++ ys ≡ xs ++ first_of l ys) (sym e) refl
first_more (Some n) left xs ys e = subst (λ (l : Option ℕ). take n (xs ++ ys) ≡ take n xs ++ first_of l ys) (sym e) (take_more n (n - length xs) xs ys refl)

pub first_enough : (limit : Option ℕ) (rows rest : List ValueTrees) → AreEnough limit rows → first_of limit (rows ++ rest) ≡ first_of limit rows
first_enough None rows rest enough = absurd enough
first_enough (Some n) rows rest enough = take_more n 0 rows rest (omega (arith, enough)) ∙ append-nil (take n rows)

-- ---- how many more there may be

fewer_none : (limit : Option ℕ) → limit ≡ fewer limit 0
fewer_none None = refl
fewer_none (Some n) = ap Some (omega arith)

fewer_more : (limit left next : Option ℕ) (rows more : List ValueTrees) → left ≡ fewer limit (length rows) → next ≡ fewer left (length more) → next ≡ fewer limit (length (rows ++ more))
fewer_more None left next rows more rest is = is ∙ ap (λ (l : Option ℕ). fewer l (length more)) rest
fewer_more (Some n) left next rows more rest is =
    let long : length (rows ++ more) ≡ length rows + length more = length-append rows more in
    let same : (n - length rows) - length more ≡ n - length (rows ++ more) = omega (arith, long) in
    is ∙ (ap (λ (l : Option ℕ). fewer l (length more)) rest ∙ ap Some same)

taken_many : {A : Type 0} (n : ℕ) (xs : List A) → n - length (take n xs) ≡ n - length xs
taken_many zero xs = omega arith
taken_many (suc n) [] = refl
taken_many (suc n) (x ∷ xs) = let rest = taken_many n xs in omega (arith, rest)

pub few_taken : {A : Type 0} (n : ℕ) (xs : List A) → n ≤ length xs → length (take n xs) ≡ n
few_taken zero xs few = refl
few_taken (suc n) [] few = absurd (omega (arith, few))
few_taken (suc n) (x ∷ xs) few = ap suc (few_taken n xs (omega (arith, few)))

taken_again : {A : Type 0} (n : ℕ) (xs : List A) → take (length (take n xs)) xs ≡ take n xs
taken_again zero xs = refl
taken_again (suc n) [] = refl
taken_again (suc n) (x ∷ xs) = ap (λ (zs : List _). x ∷ zs) (taken_again n xs)

-- as many as are taken of some rows are their first ones
pub as_many_first : (limit : Option ℕ) (rows : List ValueTrees) (n : ℕ) → n ≡ length (first_of limit rows) → take n rows ≡ first_of limit rows
as_many_first None rows n e = take_all n rows (omega (arith, e))
as_many_first (Some limit) rows n e = ap (λ (k : ℕ). take k rows) e ∙ taken_again limit rows

fewer_first : (left : Option ℕ) (rows : List ValueTrees) → fewer left (length (first_of left rows)) ≡ fewer left (length rows)
fewer_first None rows = refl
fewer_first (Some n) rows = ap Some (taken_many n rows)

-- how many more there may be, where that is known
abbrev more_of : Option ℕ → ℕ
more_of None = 1
more_of (Some n) = n

-- nothing more may come
pub is_enough : (limit left : Option ℕ) (rows : List ValueTrees) → left ≡ Some 0 → left ≡ fewer limit (length rows) → AreEnough limit rows
is_enough None left rows none rest = let clash : 1 ≡ 0 = ap more_of (sym rest ∙ none) in absurd (omega (arith, clash))
is_enough (Some n) left rows none rest = let over : n - length rows ≡ 0 = ap more_of (sym rest ∙ none) in omega (arith, over)

-- ---- what is so of the first rows of batches

pub holds_none : (limit : Option ℕ) (Has : List ValueTrees → Type 0) → Has [] → HoldsOfFirst limit limit Has []
holds_none limit Has h = (subst Has (sym (first_none limit)) h, fewer_none limit)

-- the first of more rows
pub holds_more : (limit left next : Option ℕ) (Has Again : List ValueTrees → Type 0) (rows more : List ValueTrees) → HoldsOfFirst limit left Has rows → ((xs : List ValueTrees) → Has xs → Again (xs ++ first_of left more))
    → next ≡ fewer left (length (first_of left more)) → HoldsOfFirst limit next Again (rows ++ more)
holds_more limit left next Has Again rows more h so is =
    (subst Again (sym (first_more limit left rows more h.1)) (so (first_of limit rows) h.0), fewer_more limit left next rows more h.1 (is ∙ fewer_first left more))

-- the rows of one batch more
pub fitting_more : (fs : Fields) (Holds Again : List ValueTrees → Type 0) (b : Batch) → ((rows : List ValueTrees) → Holds rows → RowsFit fs b.rows → Again (rows ++ b.rows)) → (bs : List Batch) → WhereFitting fs Holds bs → WhereFitting fs Again (bs ++ b ∷ [])
fitting_more fs Holds Again b so bs h = λ fit.
    let fits = subst (RowsFit fs) (rows_one_more bs b) fit in
    subst Again (sym (rows_one_more bs b)) (so (rows_of_each bs) (h (front_fits fs (rows_of_each bs) b.rows fits)) (others_fit fs (rows_of_each bs) b.rows fits))

-- ---- rows that are taken from a reader one by one

pub none_passed : (Has S : List ValueTrees → Type 0) (all : List ValueTrees) → Has [] → S all → HavePassed Has S 0 all
none_passed Has S all has stands = record { given = []; left = all; has = has; stands = stands; joined = refl; many = refl }

-- one row more
pub passed_more : (Has Again S T : List ValueTrees → Type 0) (n : ℕ) (all : List ValueTrees) (p : HavePassed Has S n all) (first : ValueTrees) (rest : List ValueTrees) → p.left ≡ first ∷ rest → T rest → Again (p.given ++ first ∷ [])
    → HavePassed Again T (n + 1) all
passed_more Has Again S T n all p first rest split stands again = record {
  given = p.given ++ first ∷ [];
  left = rest;
  has = again;
  stands = stands;
  joined = p.joined ∙ (ap (λ (rs : List ValueTrees). p.given ++ rs) split ∙ sym (append_assoc p.given (first ∷ []) rest));
  many = length-append p.given (first ∷ []) ∙ ap (λ (k : ℕ). k + 1) p.many;
}

module _ (Has S : List ValueTrees → Type 0) (n : ℕ) (all : List ValueTrees) (p : HavePassed Has S n all) where
  pub left_fit : (fs : Fields) → RowsFit fs all → RowsFit fs p.left
  left_fit fs fit = others_fit fs p.given p.left (subst (RowsFit fs) p.joined fit)

  -- these are the first rows
  are_first : (limit : Option ℕ) → first_of limit all ≡ p.given → (n ≡ length (first_of limit all)) × Has (first_of limit all)
  are_first limit same = (sym (ap length same ∙ p.many), subst Has (sym same) p.has)

  -- none is left
  pub all_passed : (limit : Option ℕ) → ((most : ℕ) → limit ≡ Some most → n ≤ most) → p.left ≡ [] → (n ≡ length (first_of limit all)) × Has (first_of limit all)
  all_passed limit within none = are_first limit (by limit within)
    where
      are : all ≡ p.given
      are = p.joined ∙ (ap (λ (rs : List ValueTrees). p.given ++ rs) none ∙ append-nil p.given)

      by : (limit : Option ℕ) → ((most : ℕ) → limit ≡ Some most → n ≤ most) → first_of limit all ≡ p.given
      by None within = are
      by (Some most) within = let few = within most refl in let long : length all ≡ n = ap length are ∙ p.many in take_all most all (omega (arith, few, long)) ∙ are

  -- as many as are wanted were passed
  pub enough_passed : (limit : Option ℕ) (most : ℕ) → limit ≡ Some most → n ≡ most → (most ≡ length (first_of limit all)) × Has (first_of limit all)
  enough_passed limit most is e =
      let same : first_of limit all ≡ p.given = ap (λ (l : Option ℕ). first_of l all) is ∙ (ap (take most) p.joined ∙ front_taken most p.given p.left (p.many ∙ e)) in
      let first = are_first limit same in
      (sym e ∙ first.0, first.1)
