-- An answer in doubt closes the store, so a call that leaves it as open as it was gives none.
use Rattle.std.proofs.Common.{◌≡◌, ℕ, Bool, true, false, List, [], ◌∷◌, Option, Some, None, Result, Ok, Err, refl, sym, ◌∙◌, ap, subst, ⊎_elim}
use Rattle.std.specs.Prelude.{if◌then◌else◌, is_none, ◌&&◌}
use Rattle.std.specs.List.{list_all, AllByRecursion}
use Rattle.bits.specs.declared.refusal.Refusal.{Refusal}
use Rattle.bits.specs.declared.refusal.Refusal.TheVariants.{RowShape, Key, NoGroup, Stale, NoColumn, Unordered, Full, Closed, Schema, InDoubt}
use Rattle.schema.specs.Annotations.{order_of}
use Rattle.schema.specs.Cutting.{is_among}
use Rattle.schema.specs.Fits.{fits_each}
use Rattle.schema.specs.Keys.{key_of_row}
use Rattle.schema.specs.Stripe.{Step, Leaf, leaves_of}
use Rattle.filter.specs.Test.{Test, is_single}
use Rattle.filter.specs.Terms.{Term, test_at, test_found, test_of, tests_of, each_of, then_rest, named_leaf, is_of_order, takes}
use Rattle.table.specs.Table.{Row, Table, numbers}
use Rattle.table.specs.Faults.{first, unless}
use Rattle.table.specs.Deciding.{Filter, refusal_in, filter_fault, has_folders}
use Rattle.table.specs.Cursors.{Cursor, Columns, columns_fault, is_field}
use Rattle.table.specs.State.{Job, appending, rewriting, State, sources, open_at}
use Rattle.table.specs.Calls.{Call, append, begin_append, stage, commit, abort, remove, remove_groups, begin_rewrite, step_rewrite, plan_rewrite, query, fetch, close, groups, count, import, add_column, reopen, Answer, refused}
use Rattle.table.specs.Checks.{fault, closed_fault, job_fault, append_fault, rewrite_fault, cursor_fault, counter_fault, new_job_fault, new_cursor_fault, key_fault, rows_fault, numbers_fault, stale_fault}
use Rattle.table.specs.Leading.{IsInDoubt}
use Rattle.table.specs.Refusing.{Happens, IsRefused, checked, stale, foreign, unfit, over, no_memory, failed, in_doubt}
use Rattle.table.proofs.Steady.{is_other, is_shut}

-- ---- no check refuses so

-- the refusal is another than InDoubt
abbrev IsOther : Refusal → Type 0
IsOther InDoubt = ⊥
IsOther _ = Unit {0}

abbrev IsOtherFault : Option Refusal → Type 0
IsOtherFault None = Unit {0}
IsOtherFault (Some e) = IsOther e

abbrev IsOtherResult : {X : Type 0} → Result X Refusal → Type 0
IsOtherResult (Ok x) = Unit {0}
IsOtherResult (Err e) = IsOther e

first_other : (faults : List (Option Refusal)) → AllByRecursion IsOtherFault faults → IsOtherFault (first faults)
first_other [] all = tt
first_other (None ∷ faults) all = first_other faults all.1
first_other (Some e ∷ faults) all = all.0

unless_other : (b : Bool) (e : Refusal) → IsOther e → IsOtherFault (unless b e)
unless_other true e other = tt
unless_other false e other = other

job_other : (o : Option Job) → IsOtherFault (job_fault o)
job_other None = tt
job_other (Some j) = tt

append_other : (o : Option Job) → IsOtherFault (append_fault o)
append_other None = tt
append_other (Some (appending staged)) = tt
append_other (Some (rewriting runs unread)) = tt

rewrite_other : (o : Option Job) → IsOtherFault (rewrite_fault o)
rewrite_other None = tt
rewrite_other (Some (appending staged)) = tt
rewrite_other (Some (rewriting runs unread)) = tt

cursor_other : (o : Option Cursor) → IsOtherFault (cursor_fault o)
cursor_other None = tt
cursor_other (Some c) = tt

stale_other : (t : Table) (o : Option Job) → IsOtherFault (stale_fault t o)
stale_other t None = tt
stale_other t (Some (appending staged)) = tt
stale_other t (Some (rewriting runs unread)) = unless_other (list_all (is_among (numbers t.groups)) (numbers (sources runs))) Stale tt

rows_other : (t : Table) (given : List Row) → IsOtherFault (rows_fault t given)
rows_other t [] = tt
rows_other t (row ∷ given) = first_other (unless (fits_each t.schema row) RowShape ∷ key_fault t row ∷ rows_fault t given ∷ [])
    (unless_other (fits_each t.schema row) RowShape tt, (unless_other (has_folders t.keys (key_of_row t.keys row)) Key tt, (rows_other t given, tt)))

columns_other : (t : Table) (columns : Columns) → IsOtherFault (columns_fault t.schema columns)
columns_other t None = tt
columns_other t (Some names) = unless_other (list_all (is_field t.schema) names) NoColumn tt

-- ---- nor does a term

each_other : {X Y : Type 0} (f : X → Result Y Refusal) → ((x : X) → IsOtherResult (f x)) → (xs : List X) → IsOtherResult (each_of f xs)
each_other f each [] = tt
each_other {X} {Y} f each (x ∷ xs) = by (f x) (each_of f xs) (each x) (each_other f each xs)
  where
    by : (r : Result Y Refusal) (rest : Result (List Y) Refusal) → IsOtherResult r → IsOtherResult rest → IsOtherResult (then_rest r rest)
    by (Ok y) (Ok ys) one more = tt
    by (Ok y) (Err e) one more = more
    by (Err e) rest one more = one

by_tests : (y : Test) (a b c : Bool) → IsOtherResult {X = Test} (if a then (if b then Err Unordered else (if c then Ok y else Err RowShape)) else Err NoColumn)
by_tests y false b c = tt
by_tests y true true c = tt
by_tests y true false true = tt
by_tests y true false false = tt

at_other : (t : Term) (n : ℕ) (l : Leaf) (steps : List Step) → IsOtherResult (test_at t n l steps)
at_other t n l [] = tt
at_other t n l (s ∷ p) =
    let y : Test = record { leaf = n; first = s; rest = p; order = order_of l.leaf_type; op = t.op; operand = t.value } in
    by_tests y (list_all is_single (s ∷ p)) (is_of_order t.op && is_none (order_of l.leaf_type)) (takes l.leaf_type t.op t.value)

found_other : (t : Term) (o : Option (ℕ × Leaf)) → IsOtherResult (test_found t o)
found_other t None = tt
found_other t (Some found) = at_other t found.0 found.1 found.1.steps

terms_other : (leaves : List Leaf) (terms : Filter) → IsOtherResult (tests_of leaves terms)
terms_other leaves terms = each_other (each_of (test_of leaves)) (each_other (test_of leaves) (λ t. found_other t (named_leaf 0 leaves t.column))) terms

filter_other : (t : Table) (terms : Filter) → IsOtherFault (filter_fault t.schema terms)
filter_other t terms = by (tests_of (leaves_of t.schema) terms) (terms_other (leaves_of t.schema) terms)
  where
    by : (r : Result (List (List Test)) Refusal) → IsOtherResult r → IsOtherFault (refusal_in r)
    by (Ok tests) other = tt
    by (Err e) other = other

-- ---- no call is refused so by its checks

module _ (s : State) where
  closed_other : IsOtherFault (closed_fault s)
  closed_other = unless_other _ Closed tt

  counter_other : IsOtherFault (counter_fault s)
  counter_other = unless_other _ Full tt

  job_counter_other : IsOtherFault (new_job_fault s)
  job_counter_other = unless_other _ Full tt

  cursor_counter_other : IsOtherFault (new_cursor_fault s)
  cursor_counter_other = unless_other _ Full tt

  numbers_other : (ns : List ℕ) → IsOtherFault (numbers_fault s.table ns)
  numbers_other ns = unless_other _ NoGroup tt

  fault_other : (call : Call) → IsOtherFault (fault s call)
  fault_other (append given) = first_other (closed_fault s ∷ counter_fault s ∷ rows_fault s.table given ∷ []) (closed_other, (counter_other, (rows_other s.table given, tt)))
  fault_other begin_append = first_other (closed_fault s ∷ new_job_fault s ∷ []) (closed_other, (job_counter_other, tt))
  fault_other (stage n given) = first_other (closed_fault s ∷ append_fault (open_at n s.jobs) ∷ counter_fault s ∷ rows_fault s.table given ∷ []) (closed_other, (append_other (open_at n s.jobs), (counter_other, (rows_other s.table given, tt))))
  fault_other (commit n) = first_other (closed_fault s ∷ job_fault (open_at n s.jobs) ∷ counter_fault s ∷ stale_fault s.table (open_at n s.jobs) ∷ []) (closed_other, (job_other (open_at n s.jobs), (counter_other, (stale_other s.table (open_at n s.jobs), tt))))
  fault_other (abort n) = first_other (closed_fault s ∷ job_fault (open_at n s.jobs) ∷ []) (closed_other, (job_other (open_at n s.jobs), tt))
  fault_other (remove terms) = first_other (closed_fault s ∷ counter_fault s ∷ filter_fault s.table.schema terms ∷ []) (closed_other, (counter_other, (filter_other s.table terms, tt)))
  fault_other (remove_groups ns) = first_other (closed_fault s ∷ numbers_fault s.table ns ∷ []) (closed_other, (numbers_other ns, tt))
  fault_other (begin_rewrite ns) = first_other (closed_fault s ∷ new_job_fault s ∷ numbers_fault s.table ns ∷ []) (closed_other, (job_counter_other, (numbers_other ns, tt)))
  fault_other (step_rewrite n) = first_other (closed_fault s ∷ rewrite_fault (open_at n s.jobs) ∷ counter_fault s ∷ []) (closed_other, (rewrite_other (open_at n s.jobs), (counter_other, tt)))
  fault_other (plan_rewrite least) = closed_other
  fault_other (query terms columns) = first_other (closed_fault s ∷ new_cursor_fault s ∷ filter_fault s.table.schema terms ∷ columns_fault s.table.schema columns ∷ []) (closed_other, (cursor_counter_other, (filter_other s.table terms, (columns_other s.table columns, tt))))
  fault_other (fetch n) = first_other (closed_fault s ∷ cursor_fault (open_at n s.cursors) ∷ []) (closed_other, (cursor_other (open_at n s.cursors), tt))
  fault_other (close n) = first_other (closed_fault s ∷ cursor_fault (open_at n s.cursors) ∷ []) (closed_other, (cursor_other (open_at n s.cursors), tt))
  fault_other groups = closed_other
  fault_other (count terms) = first_other (closed_fault s ∷ filter_fault s.table.schema terms ∷ []) (closed_other, (filter_other s.table terms, tt))
  fault_other (import bytes) = first_other (closed_fault s ∷ counter_fault s ∷ []) (closed_other, (counter_other, tt))
  fault_other (add_column elements) = closed_other
  fault_other reopen = tt

  not_checked : (call : Call) → fault s call ≡ Some InDoubt → ⊥
  not_checked call is = subst IsOtherFault is (fault_other call)

  -- ---- the store was open, and closes

  was_open : (call : Call) → is_other call ≡ true → fault s call ≡ None → s.closed ≡ false
  was_open call other none = by s.closed refl
    where
      by : (b : Bool) → s.closed ≡ b → s.closed ≡ false
      by false is = is
      by true is = absurd (let both : None ≡ Some Closed = sym none ∙ is_shut s call other is in cc)

  pub in_doubt_closes : (call : Call) (after : State) → IsRefused s call InDoubt after → (s.closed ≡ false) × (after.closed ≡ true)
  in_doubt_closes call after (checked is other same) = absurd (not_checked call is)
  in_doubt_closes call after (stale is same gone) = absurd (cc)
  in_doubt_closes call after (foreign bytes is passed why same) = absurd why.0
  in_doubt_closes call after (unfit elements is passed why same) = absurd (⊎_elim (λ none. none) (λ one. let e : InDoubt ≡ Schema = one.0 in cc) why.1)
  in_doubt_closes call after (over is may much same) = absurd (cc)
  in_doubt_closes call after (no_memory is on needs same) = absurd (cc)
  in_doubt_closes call after (failed is on needs same) = absurd (cc)
  in_doubt_closes call after (in_doubt is passed doubt) = (was_open call (by call doubt) passed, ap (λ (t : State). t.closed) doubt.becomes)
    where
      by : (c : Call) → IsInDoubt s c after → is_other c ≡ true
      by reopen d = absurd d.leads.asked
      by c d = refl

  -- a call that leaves the store as open as it was is not answered so
  pub no_doubt : {A : Type 0} (call : Call) (answer : Answer) (after : State) → Happens s call answer after → after.closed ≡ s.closed → answer ≡ refused InDoubt → A
  no_doubt call answer after happens same is =
      let h = in_doubt_closes call after (subst (λ (a : Answer). Happens s call a after) is happens) in
      let both : true ≡ false = sym h.1 ∙ (same ∙ h.0) in
      absurd (cc)
