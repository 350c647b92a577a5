-- The rows that marks select.
use Rattle.std.proofs.Common.{ℕ, ◌≡◌, ◌≢◌, ◌≤◌, ◌+◌, Bool, true, false, not, nat_eq, List, [], ◌∷◌, length, map, refl, ap, sym, ◌∙◌, arith}
use Rattle.std.specs.Prelude.{filter, cond, nat_lt, replicate}
use Rattle.std.specs.List.{list_any}
use Rattle.std.proofs.lemmas.Bool.{false≢true, eqb-true}
use Rattle.std.proofs.lemmas.Bool.Decides.{nat_tests}
use Rattle.std.proofs.lemmas.List.{length-map, length-replicate}
use Rattle.std.proofs.lemmas.List.Recursion.{is_count_by}
use Rattle.scan.specs.Left.{selected_by, turned}
use Rattle.scan.specs.inner.Marked.{has_selected, count_selected, HaveSelected}

pub selected_filter : {A : Type 0} (p : A → Bool) (xs : List A) → selected_by (map p xs) xs ≡ filter p xs
selected_filter p [] = refl
selected_filter {A} p (x ∷ xs) = by (p x) (selected_filter p xs)
  where
    by : (b : Bool) → selected_by (map p xs) xs ≡ filter p xs → selected_by (b ∷ map p xs) (x ∷ xs) ≡ cond b (x ∷ filter p xs) (filter p xs)
    by true rest = ap (λ (t : List A). x ∷ t) rest
    by false rest = rest

pub all_pass : {A : Type 0} (p : A → Bool) → ((x : A) → p x ≡ true) → (xs : List A) → xs ≡ filter p xs
all_pass p pass [] = refl
all_pass {A} p pass (x ∷ xs) = ap (λ (t : List A). x ∷ t) (all_pass p pass xs) ∙ ap (λ (b : Bool). cond b (x ∷ filter p xs) (filter p xs)) (sym (pass x))

none_marked : {A : Type 0} (marks : List Bool) (xs : List A) → length xs ≡ length marks → list_any (λ b. b) marks ≡ false → selected_by marks xs ≡ []
none_marked [] [] size h = refl
none_marked [] (x ∷ xs) size h = absurd (omega (arith, size))
none_marked (m ∷ marks) [] size h = refl
none_marked (true ∷ marks) (x ∷ xs) size h = absurd (false≢true (sym h))
none_marked (false ∷ marks) (x ∷ xs) size h = none_marked marks xs (omega (arith, size)) h

one_marked : {A : Type 0} (marks : List Bool) (xs : List A) → length xs ≡ length marks → list_any (λ b. b) marks ≡ true → selected_by marks xs ≡ [] → ⊥
one_marked [] xs size h none = false≢true h
one_marked (m ∷ marks) [] size h none = absurd (omega (arith, size))
one_marked (true ∷ marks) (x ∷ xs) size h none = absurd (cc)
one_marked (false ∷ marks) (x ∷ xs) size h none = one_marked marks xs (omega (arith, size)) h none

-- where none is selected
pub none_chosen : {A : Type 0} (marks : List Bool) (count : ℕ) → ((marks ≡ [] → ⊥) → length marks ≡ count) → has_selected marks count ≡ false → (xs : List A) → length xs ≡ count → selected_by marks xs ≡ []
none_chosen [] count many h [] size = refl
none_chosen [] count many h (x ∷ xs) size = let some : nat_lt 0 count ≡ true = grind (arith, nat_tests) in absurd (false≢true (sym h ∙ some))
none_chosen (m ∷ marks) count many h xs size = none_marked (m ∷ marks) xs (let n = many (λ e. cc) in omega (arith, n, size)) h

-- where some is
pub some_chosen : {A : Type 0} (marks : List Bool) (count : ℕ) → HaveSelected marks count → (xs : List A) → length xs ≡ count → selected_by marks xs ≡ [] → ⊥
some_chosen [] count have [] size none = let away : nat_lt 0 count ≡ false = grind (arith, nat_tests) in false≢true (sym away ∙ have.some)
some_chosen [] count have (x ∷ xs) size none = absurd (cc)
some_chosen (m ∷ marks) count have xs size none = one_marked (m ∷ marks) xs (let n = have.many (λ e. cc) in omega (arith, n, size)) have.some none

-- where there are no marks and some row, some is selected
pub unmarked_chosen : (marks : List Bool) (count : ℕ) → marks ≡ [] → 1 ≤ count → has_selected marks count ≡ true
unmarked_chosen marks count none some = let here : nat_lt 0 count ≡ true = grind (arith, nat_tests) in ap (λ (ms : List Bool). has_selected ms count) none ∙ here

-- ---- how many are selected

-- how many of the marks are set
abbrev set_in : List Bool → ℕ
set_in [] = 0
set_in (m ∷ marks) = cond m (1 + set_in marks) (set_in marks)

set_many : {A : Type 0} (marks : List Bool) (xs : List A) → length xs ≡ length marks → length (selected_by marks xs) ≡ set_in marks
set_many [] [] size = refl
set_many [] (x ∷ xs) size = absurd (omega (arith, size))
set_many (m ∷ marks) [] size = absurd (omega (arith, size))
set_many (true ∷ marks) (x ∷ xs) size = let rest = set_many marks xs (omega (arith, size)) in omega (arith, rest)
set_many (false ∷ marks) (x ∷ xs) size = set_many marks xs (omega (arith, size))

pub chosen_many : {A : Type 0} (marks : List Bool) (count : ℕ) → (marks ≢ [] → length marks ≡ count) → (xs : List A) → length xs ≡ count → length (selected_by marks xs) ≡ count_selected marks count
chosen_many [] count many xs size = size
chosen_many (m ∷ marks) count many xs size = set_many (m ∷ marks) xs (let n = many (λ e. cc) in omega (arith, n, size)) ∙ is_count_by set_in (λ b. b) refl (λ x rest. refl) (m ∷ marks)

-- ---- the others

twice : {A : Type 0} (p : A → Bool) (xs : List A) → map not (map p xs) ≡ map (λ x. not (p x)) xs
twice p [] = refl
twice p (x ∷ xs) = ap (λ (ms : List Bool). not (p x) ∷ ms) (twice p xs)

pub others_filter : {A : Type 0} (p : A → Bool) (xs : List A) → selected_by (turned (length xs) (map p xs)) xs ≡ filter (λ x. not (p x)) xs
others_filter p [] = refl
others_filter p (x ∷ xs) = ap (λ (ms : List Bool). selected_by (not (p x) ∷ ms) (x ∷ xs)) (twice p xs) ∙ selected_filter (λ y. not (p y)) (x ∷ xs)

none_set : {A : Type 0} (xs : List A) → selected_by (replicate (length xs) false) xs ≡ []
none_set [] = refl
none_set (x ∷ xs) = none_set xs

none_fails : {A : Type 0} (p : A → Bool) → ((x : A) → p x ≡ true) → (xs : List A) → filter (λ x. not (p x)) xs ≡ []
none_fails p pass [] = refl
none_fails p pass (x ∷ xs) = ap (λ (b : Bool). cond (not b) (x ∷ filter (λ y. not (p y)) xs) (filter (λ y. not (p y)) xs)) (pass x) ∙ none_fails p pass xs

-- where each passes, there are no others
pub no_others : {A : Type 0} (p : A → Bool) → ((x : A) → p x ≡ true) → (xs : List A) → selected_by (turned (length xs) []) xs ≡ filter (λ x. not (p x)) xs
no_others p pass xs = none_set xs ∙ sym (none_fails p pass xs)

pub turned_many : (count : ℕ) (marks : List Bool) → (marks ≢ [] → length marks ≡ count) → length (turned count marks) ≡ count
turned_many count [] many = length-replicate count false
turned_many count (m ∷ marks) many = length-map (m ∷ marks) not ∙ many (λ e. cc)

-- where there are no marks, none of the others is marked; else each mark is turned round
pub turned_none : (count : ℕ) (marks : List Bool) → nat_eq (length marks) 0 ≡ true → replicate count false ≡ turned count marks
turned_none count [] e = refl
turned_none count (m ∷ marks) e = absurd (let none : length (m ∷ marks) ≡ 0 = eqb-true (length (m ∷ marks)) 0 e in omega (arith, none))

pub turned_each : (count : ℕ) (marks : List Bool) → nat_eq (length marks) 0 ≡ false → map not marks ≡ turned count marks
turned_each count [] e = absurd (false≢true (sym e))
turned_each count (m ∷ marks) e = refl
