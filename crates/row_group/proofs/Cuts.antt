-- How entries are cut into pages.
use Rattle.std.proofs.Common.{◌≡◌, ℕ, zero, suc, ◌+◌, ◌<◌, ◌≤◌, ◌==◌, ◌⊎◌, List, [], ◌∷◌, ◌++◌, length, get_or, take, drop, map, Bool, true, false, refl, sym, ap, subst, ◌∙◌, arith, append_assoc, inl, inr}
use Rattle.std.specs.Prelude.{flat_map, filter}
use Rattle.std.proofs.lemmas.Bool.Decides.{nat_tests}
use Rattle.std.proofs.lemmas.Bool.{cases_lt}
use Rattle.std.proofs.lemmas.List.{append-nil, length-map, take-map, length-append, length-take-le, take-append-drop, drop_all}
use Rattle.std.proofs.lemmas.List.Elements.{filter-append}
use Rattle.lists.proofs.Slices.{map_drop_here as reads}
use Rattle.schema.specs.Stripe.{Entry}
use Rattle.schema.specs.declared.borrowed.EntryRef.{EntryRef}
use Rattle.schema.specs.Borrowed.{entry_ref_view}
use Rattle.pages.specs.Headers.{rows_in}
use Rattle.row_group.specs.Paged.{BeginsRow, ArePages, ArePagesOf}
use Rattle.row_group.specs.inner.Parts.{IsFirstPage}

-- ---- rows

rows_append : (xs ys : List Entry) → rows_in (xs ++ ys) ≡ rows_in xs + rows_in ys
rows_append xs ys = ap length (filter-append (λ (e : Entry). e.repetition == 0) xs ys) ∙ length-append (filter (λ (e : Entry). e.repetition == 0) xs) (filter (λ (e : Entry). e.repetition == 0) ys)

one_row : (e : Entry) → (e.repetition == 0) ≡ true → rows_in (e ∷ []) ≡ 1
one_row e is = rw is refl

no_row : (e : Entry) → (e.repetition == 0) ≡ false → rows_in (e ∷ []) ≡ 0
no_row e is = rw is refl

begins_row : (e : Entry) → (e.repetition == 0) ≡ true → e.repetition ≡ 0
begins_row e is = grind (arith, nat_tests)

begins_front : (xs ys : List Entry) → 0 < length xs → BeginsRow (xs ++ ys) → BeginsRow xs
begins_front [] ys some begins = absurd (omega (arith, some))
begins_front (x ∷ xs) ys some begins = begins

-- ---- a cut

some_of : (size : ℕ) (part : List Entry) (parts : List (List Entry)) → ArePages size (part ∷ parts) → 0 < length part
some_of size part [] p = p.0
some_of size part (next ∷ parts) p = p.0

-- the first page of some entries, and a cut of those after it
pub goes_on : (size : ℕ) (es : List Entry) (n : ℕ) → IsFirstPage size es n → (rest : List (List Entry)) → ArePagesOf size (drop n es) rest → ArePagesOf size es (take n es ∷ rest)
goes_on size es n p [] q =
    let long : length (take n es) ≡ n = length-take-le n es p.within in
    record {
      joined = ap (λ (t : List Entry). take n es ++ t) q.joined ∙ take-append-drop n es;
      each = (omega (arith, long, p.some), p.few);
    }
goes_on size es n p (next ∷ rest) q =
    let long : length (take n es) ≡ n = length-take-le n es p.within in
    let some : 0 < length next = some_of size next rest q.each in
    let more : n < length es = by (cases_lt n (length es)) in
    let full = p.full more in
    record {
      joined = ap (λ (t : List Entry). take n es ++ t) q.joined ∙ take-append-drop n es;
      each = (omega (arith, long, p.some), full.0, begins_front next (flat_map (λ part. part) rest) some (subst BeginsRow (sym q.joined) full.1), q.each);
    }
  where
    by : (n < length es) ⊎ (length es ≤ n) → n < length es
    by (inl lt) = lt
    by (inr past) =
        let none : length (next ++ flat_map (λ part. part) rest) ≡ 0 = ap length (q.joined ∙ drop_all n es past) in
        absurd (omega (arith, none, length-append next (flat_map (λ (part : List Entry). part) rest), some_of size next rest q.each))

-- ---- there is one

-- a cut of the entries that begin with those of a page that is not full
record Cut (size : ℕ) (page es : List Entry) : Type 0 where
  first : List Entry
  later : List (List Entry)
  more : List Entry
  begins : first ≡ page ++ more
  joined : first ++ flat_map (λ part. part) later ≡ page ++ es
  each : ArePages size (first ∷ later)

cut_from : (size : ℕ) (page es : List Entry) → 0 < size → 0 < length page → rows_in page ≤ size → Cut size page es
cut_from size page [] large some few = record { first = page; later = []; more = []; begins = sym (append-nil page); joined = refl; each = (some, few) }
cut_from size page (e ∷ es) large some few = by (λ t filled fits. cut_from size t es large filled fits) (e.repetition == 0) refl (cases_lt (rows_in page) size)
  where
    on : ((t : List Entry) → 0 < length t → rows_in t ≤ size → Cut size t es) → rows_in (page ++ e ∷ []) ≤ size → Cut size page (e ∷ es)
    on rest fits =
        let c = rest (page ++ e ∷ []) (omega (arith, length-append page (e ∷ []))) fits in
        record {
          first = c.first;
          later = c.later;
          more = e ∷ c.more;
          begins = c.begins ∙ append_assoc page (e ∷ []) c.more;
          joined = c.joined ∙ append_assoc page (e ∷ []) es;
          each = c.each;
        }

    by : ((t : List Entry) → 0 < length t → rows_in t ≤ size → Cut size t es) → (b : Bool) → (e.repetition == 0) ≡ b → (rows_in page < size) ⊎ (size ≤ rows_in page) → Cut size page (e ∷ es)
    by rest true is (inl less) = on rest (omega (arith, rows_append page (e ∷ []), one_row e is, less))
    by rest true is (inr full) =
        let c = rest (e ∷ []) (omega arith) (omega (arith, one_row e is, large)) in
        record {
          first = page;
          later = c.first ∷ c.later;
          more = [];
          begins = sym (append-nil page);
          joined = ap (λ (t : List Entry). page ++ t) c.joined;
          each = (some, omega (arith, few, full), subst BeginsRow (sym c.begins) (begins_row e is), c.each);
        }
    by rest false is _ = on rest (omega (arith, rows_append page (e ∷ []), no_row e is, few))

-- entries can be cut into pages of any size
pub some_cut : (size : ℕ) (es : List Entry) → 0 < size → (parts : List (List Entry)) × ArePagesOf size es parts
some_cut size [] large = ([], record { joined = refl; each = tt })
some_cut size (e ∷ es) large =
    let c = cut_from size (e ∷ []) es large (omega arith) (one e) in
    (c.first ∷ c.later, record { joined = c.joined; each = c.each })
  where
    one : (e : Entry) → rows_in (e ∷ []) ≤ size
    one e = by (e.repetition == 0) refl
      where
        by : (b : Bool) → (e.repetition == 0) ≡ b → rows_in (e ∷ []) ≤ size
        by true is = omega (arith, one_row e is, large)
        by false is = omega (arith, no_row e is)

-- ---- the first page of borrowed entries

pub drop_map : (es : List EntryRef) (i : ℕ) → drop i (map entry_ref_view es) ≡ map entry_ref_view (drop i es)
drop_map es zero = refl
drop_map [] (suc i) = refl
drop_map (e ∷ es) (suc i) = drop_map es i

-- the entries before one that begins a row, where they have as many rows as a page
pub first_page : (size : ℕ) (es : List EntryRef) (i : ℕ) (e : EntryRef) → 0 < size → i < length es → e ≡ get_or es i e → e.repetition ≡ 0 → rows_in (map entry_ref_view (take i es)) ≡ size → IsFirstPage size (map entry_ref_view es) i
first_page size es i e large lt is begins rows =
    let front : rows_in (take i (map entry_ref_view es)) ≡ size = ap rows_in (take-map entry_ref_view i es) ∙ rows in
    let back : drop i (map entry_ref_view es) ≡ entry_ref_view e ∷ map entry_ref_view (drop (i + 1) es) = drop_map es i ∙ reads entry_ref_view es i e lt is in
    record {
      some = begun i rows;
      within = omega (arith, lt, length-map es entry_ref_view);
      few = omega (arith, front);
      full = λ more. (front, subst BeginsRow (sym back) begins);
    }
  where
    begun : (k : ℕ) → rows_in (map entry_ref_view (take k es)) ≡ size → 0 < k
    begun zero h = absurd (omega (arith, large, h))
    begun (suc k) h = omega arith

rows_within : (es : List Entry) → rows_in es ≤ length es
rows_within [] = omega arith
rows_within (e ∷ es) = by (e.repetition == 0) refl (rows_within es)
  where
    by : (b : Bool) → (e.repetition == 0) ≡ b → rows_in es ≤ length es → rows_in (e ∷ es) ≤ suc (length es)
    by true is rest = rw is (omega (arith, rest))
    by false is rest = rw is (omega (arith, rest))

-- all of them, where there are no more entries than rows in a page
pub whole_page : (size : ℕ) (es : List EntryRef) → 0 < length es → length es ≤ size → IsFirstPage size (map entry_ref_view es) (length es)
whole_page size es some small =
    let count : length (map entry_ref_view es) ≡ length es = length-map es entry_ref_view in
    let front : length (take (length es) (map entry_ref_view es)) ≡ length es = length-take-le (length es) (map entry_ref_view es) (omega (arith, count)) in
    record {
      some = some;
      within = omega (arith, count);
      few = omega (arith, small, front, rows_within (take (length es) (map entry_ref_view es)));
      full = λ more. absurd (omega (arith, count, more));
    }
