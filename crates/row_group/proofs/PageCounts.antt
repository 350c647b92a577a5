-- How many pages a column has, by its rows.
use Rattle.std.proofs.Common.{◌≡◌, ◌==◌, ℕ, suc, ◌+◌, ◌-◌, ◌*◌, ◌/◌, ◌<◌, ◌≤◌, true, false, List, [], ◌∷◌, ◌++◌, map, length, filter, refl, sym, ap, subst, ◌∙◌, arith}
use Rattle.std.specs.Prelude.{flat_map}
use Rattle.std.specs.List.{AllByRecursion}
use Rattle.std.proofs.Math.Nat.{div-eq-sub-div}
use Rattle.std.proofs.lemmas.Nat.{div-mul-add}
use Rattle.std.proofs.lemmas.List.{append-nil, length-append}
use Rattle.std.proofs.lemmas.List.Elements.{filter-append}
use Rattle.schema.specs.Values.{ValueTrees, group}
use Rattle.schema.specs.Shape.{Fields}
use Rattle.schema.specs.Fits.{RowsFit}
use Rattle.schema.specs.Stripe.{Leaf, Entry, Step, stripe, column, columns, leaves_of}
use Rattle.schema.specs.Law.{BeginsOneRow, RowsBeginOnce}
use Rattle.pages.specs.Headers.{rows_in}
use Rattle.row_group.specs.Paged.{BeginsRow, ArePages, ArePagesOf, parts_of}
use Rattle.row_group.specs.inner.Columns.{HasRows}

-- ---- counting rows

pub rows_in_both : (xs ys : List Entry) → rows_in (xs ++ ys) ≡ rows_in xs + rows_in ys
rows_in_both xs ys =
    ap (λ (t : List Entry). length t) (filter-append (λ (e : Entry). e.repetition == 0) xs ys)
    ∙ length-append (filter (λ (e : Entry). e.repetition == 0) xs) (filter (λ (e : Entry). e.repetition == 0) ys)

starts : (e : Entry) → e.repetition ≡ 0 → (e.repetition == 0) ≡ true
starts e is = rw is refl

no_start : (e : Entry) → 0 < e.repetition → (e.repetition == 0) ≡ false
no_start e h = grind (arith, h)

pub begun : (e : Entry) (es : List Entry) → e.repetition ≡ 0 → rows_in (e ∷ es) ≡ suc (rows_in es)
begun e es is = rw (starts e is) refl

not_begun : (e : Entry) (es : List Entry) → 0 < e.repetition → rows_in (e ∷ es) ≡ rows_in es
not_begun e es is = rw (no_start e is) refl

none_begun : (es : List Entry) → AllByRecursion (λ e. 0 < e.repetition) es → rows_in es ≡ 0
none_begun [] h = refl
none_begun (e ∷ es) h = not_begun e es h.0 ∙ none_begun es h.1

some_begun : (es : List Entry) → BeginsRow es → 1 ≤ rows_in es
some_begun [] h = absurd h
some_begun (e ∷ es) h = omega (arith, begun e es h)

one_begun : (es : List Entry) → BeginsOneRow es → rows_in es ≡ 1
one_begun [] h = absurd h
one_begun (e ∷ es) h = omega (arith, begun e es h.0, none_begun es h.1)

-- ---- the columns of rows

first_of_both : (xs ys : List Entry) → BeginsOneRow xs → BeginsRow (xs ++ ys)
first_of_both [] ys h = absurd h
first_of_both (x ∷ xs) ys h = h.0

column_has_rows : (steps : List Step) (rows : List ValueTrees) → AllByRecursion (λ row. BeginsOneRow (stripe steps (group row) 0 0 0)) rows → HasRows (length rows) (column rows steps)
column_has_rows steps [] h = record { count = refl; first = λ some. absurd (omega (arith, some)) }
column_has_rows steps (row ∷ rows) h =
    let rest = column_has_rows steps rows h.1 in
    record {
      count = let more = rest.count in omega (arith, rows_in_both (stripe steps (group row) 0 0 0) (column rows steps), one_begun (stripe steps (group row) 0 0 0) h.0, more);
      first = λ some. first_of_both (stripe steps (group row) 0 0 0) (column rows steps) h.0;
    }

columns_from : (rows : List ValueTrees) (ls : List Leaf) → AllByRecursion (λ (l : Leaf). AllByRecursion (λ row. BeginsOneRow (stripe l.steps (group row) 0 0 0)) rows) ls
    → AllByRecursion (HasRows (length rows)) (map (λ (l : Leaf). column rows l.steps) ls)
columns_from rows [] h = tt
columns_from rows (l ∷ ls) h = (column_has_rows l.steps rows h.0, columns_from rows ls h.1)

-- each column of rows has their number
pub columns_have_rows : RowsBeginOnce → (fs : Fields) (rows : List ValueTrees) → RowsFit fs rows → AllByRecursion (HasRows (length rows)) (columns fs rows)
columns_have_rows law fs rows fit = columns_from rows (leaves_of fs) (law fs rows fit)

-- ---- counting pages

one_part : (n size : ℕ) → 1 ≤ n → n ≤ size → parts_of n size ≡ 1
one_part n size some few =
    let e : n + (size - 1) ≡ 1 * size + (n - 1) = omega (arith, some, few) in
    ap (λ (m : ℕ). m / size) e ∙ div-mul-add 1 size (n - 1) (omega (arith, some, few))

part_more : (n size : ℕ) → 1 ≤ size → parts_of (size + n) size ≡ parts_of n size + 1
part_more n size some =
    let same : (size + n) + (size - 1) - size ≡ n + (size - 1) = omega (arith, some) in
    div-eq-sub-div (omega (arith, some)) (omega (arith, some)) ∙ ap (λ (m : ℕ). m / size + 1) same

first_of_front : (xs ys : List Entry) → 0 < length xs → BeginsRow (xs ++ ys) → BeginsRow xs
first_of_front [] ys some h = absurd (omega (arith, some))
first_of_front (x ∷ xs) ys some h = h

first_of_first : (xs ys : List Entry) → BeginsRow xs → BeginsRow (xs ++ ys)
first_of_first [] ys h = absurd h
first_of_first (x ∷ xs) ys h = h

some_of_front : (xs ys : List Entry) → 0 < length xs → 0 < length (xs ++ ys)
some_of_front xs ys some = omega (arith, some, length-append xs ys)

few : (size n : ℕ) (parts : List (List Entry)) → HasRows n (flat_map (λ part. part) parts) → ArePages size parts → length parts ≤ parts_of n size
few size n [] h p = omega arith
few size n (part ∷ []) h p =
    let whole = append-nil part in
    let begins : BeginsRow part = first_of_front part [] p.0 (h.first (some_of_front part [] p.0)) in
    let count = h.count in
    let same : rows_in (part ++ []) ≡ rows_in part = ap rows_in whole in
    let there = some_begun part begins in
    let within = p.1 in
    omega (arith, one_part n size (omega (arith, count, same, there)) (omega (arith, count, same, within)))
few size n (part ∷ next ∷ parts) h p =
    let rest = flat_map (λ part. part) (next ∷ parts) in
    let begins : BeginsRow part = first_of_front part rest p.0 (h.first (some_of_front part rest p.0)) in
    let there = some_begun part begins in
    let exact = p.1 in
    let count = h.count in
    let both = rows_in_both part rest in
    let left : HasRows (rows_in rest) rest = record { count = refl; first = λ some. first_of_first next (flat_map (λ part. part) parts) p.2 } in
    let more = few size (rows_in rest) (next ∷ parts) left p.3 in
    let sum : n ≡ size + rows_in rest = omega (arith, count, both, exact) in
    let pages = ap (λ (m : ℕ). parts_of m size) sum in
    omega (arith, pages, part_more (rows_in rest) size (omega (arith, there, exact)), more)

-- the pages of a column are at most so many
pub few_pages : (size n : ℕ) (es : List Entry) (parts : List (List Entry)) → HasRows n es → ArePagesOf size es parts → length parts ≤ parts_of n size
few_pages size n es parts h p = few size n parts (subst (HasRows n) (sym p.joined) h) p.each
