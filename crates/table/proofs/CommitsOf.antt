-- The table after a run is the one that its last commit leads to.
use Rattle.std.proofs.Common.{◌≡◌, ℕ, ◌⊎◌, List, [], ◌∷◌, ◌++◌, Some, refl, sym, ◌∙◌, ap, inl, inr, ⊎_elim}
use Rattle.table.specs.Table.{Table}
use Rattle.table.specs.State.{State}
use Rattle.table.specs.Calls.{Call, append, begin_append, stage, commit, abort, remove, remove_groups, begin_rewrite, step_rewrite, plan_rewrite, query, fetch, close, groups, count, import, add_column, reopen, Answer, done, job, cursor, batch, ended, more, planned, listed, counted, accepted, refused}
use Rattle.table.specs.Leading.{IsDone}
use Rattle.table.specs.History.{Does}
use Rattle.table.specs.Refusing.{Happens, Run, IsRefused, checked, stale, foreign, unfit, over, no_memory, failed, in_doubt, Stays}
use Rattle.table.specs.Beginnings.{Adds, Commits, last_of, RunsAreOfCommits}

-- ---- one call

-- the table stays; or a commit is done; or the one in doubt is found
abbrev Leaves : State → Answer → State → Type 0
Leaves s answer t = (t.table ≡ s.table) ⊎ (((n : ℕ) × (answer ≡ done n)) ⊎ ((answer ≡ accepted) × (s.doubtful ≡ Some t.table)))

table_of : (t u : State) → t ≡ u → t.table ≡ u.table
table_of t u e = ap (λ (v : State). v.table) e

stays : (s : State) (call : Call) (t : State) → Stays s call t → t.table ≡ s.table
stays s (append given) t h = table_of t _ h.is
stays s begin_append t h = table_of t _ h.is
stays s (stage n given) t h = table_of t _ h.is
stays s (commit n) t h = table_of t _ h.is
stays s (abort n) t h = table_of t _ h.is
stays s (remove terms) t h = table_of t _ h.is
stays s (remove_groups ns) t h = table_of t _ h.is
stays s (begin_rewrite ns) t h = table_of t _ h.is
stays s (step_rewrite n) t h = table_of t _ h.is
stays s (plan_rewrite least) t h = table_of t _ h.is
stays s (query terms columns) t h = table_of t _ h.is
stays s (fetch n) t h = table_of t _ h.is
stays s (close n) t h = table_of t _ h.is
stays s groups t h = table_of t _ h.is
stays s (count terms) t h = table_of t _ h.is
stays s (import bytes) t h = table_of t _ h.is
stays s (add_column elements) t h = table_of t _ h.is
stays s reopen t h = table_of t _ h

is_refused : (s : State) (call : Call) (e : _) (t : State) → IsRefused s call e t → t.table ≡ s.table
is_refused s call e t (checked f g k) = stays s call t k
is_refused s call e t (stale f g k) = table_of t _ k
is_refused s call e t (foreign bytes f g i k) = stays s call t k
is_refused s call e t (unfit elements f g i k) = stays s call t k
is_refused s call e t (over f g i k) = stays s call t k
is_refused s call e t (no_memory f g i k) = stays s call t k
is_refused s call e t (failed f g i k) = stays s call t k
is_refused s call e t (in_doubt f g d) = table_of t _ d.becomes

is_done : (s : State) (call : Call) (answer : Answer) (t : State) → IsDone s call answer t → Leaves s answer t
is_done s call answer t d = inr (inl (d.n, d.answers))

reopened : (s : State) (answer : Answer) (t : State) (u : Table) → answer ≡ accepted → t.table ≡ u → (u ≡ s.table) ⊎ (s.doubtful ≡ Some u) → Leaves s answer t
reopened s answer t u a e from = ⊎_elim
    (λ same. inl (e ∙ same))
    (λ found. inr (inr (a, found ∙ ap (λ (v : Table). Some v) (sym e))))
    from

does : (s : State) (call : Call) (answer : Answer) (t : State) → Does s call answer t → Leaves s answer t
does s begin_append answer t d = inl (table_of t _ d.1)
does s (begin_rewrite ns) answer t d = inl (table_of t _ d.1)
does s (query terms columns) answer t d = inl (table_of t _ d.1)
does s (stage n given) answer t d = inl (table_of t _ d.1.becomes.is)
does s (step_rewrite n) answer t d = inl (table_of t _ d.2.becomes.is)
does s (abort n) answer t d = inl (table_of t _ d.1)
does s (close n) answer t d = inl (table_of t _ d.1)
does s (fetch n) answer t d = inl (table_of t _ d.becomes)
does s (plan_rewrite least) answer t d = inl (table_of t _ d.1)
does s groups answer t d = inl (table_of t _ d.1)
does s (count terms) answer t d = inl (table_of t _ d.1)
does s reopen answer t d = reopened s answer t d.0 d.2 (table_of t _ d.3) d.1
does s (append given) answer t d = is_done s (append given) answer t d
does s (commit n) answer t d = is_done s (commit n) answer t d
does s (remove terms) answer t d = is_done s (remove terms) answer t d
does s (remove_groups ns) answer t d = is_done s (remove_groups ns) answer t d
does s (import bytes) answer t d = is_done s (import bytes) answer t d
does s (add_column elements) answer t d = is_done s (add_column elements) answer t d

-- ---- what it adds

abbrev AddsSome : State → Answer → State → Type 0
AddsSome s answer t = (added : List Table) × Adds s answer t added × (t.table ≡ last_of s.table added)

found : (s t : State) → Leaves s accepted t → AddsSome s accepted t
found s t l = ⊎_elim
    (λ same. ([], inl (refl, same), same))
    (λ other. ⊎_elim (λ is. absurd (no is.0 is.1)) (λ is. (t.table ∷ [], inr (refl, is.1), refl)) other)
    l
  where
    no : (n : ℕ) → accepted ≡ done n → ⊥
    no n e = cc

module _ (s : State) (answer : Answer) (t : State) (not_done : (n : ℕ) → answer ≡ done n → ⊥) (not_found : answer ≡ accepted → ⊥) where
  kept : Leaves s answer t → t.table ≡ s.table
  kept l = ⊎_elim (λ same. same) (λ other. ⊎_elim (λ is. absurd (not_done is.0 is.1)) (λ is. absurd (not_found is.0)) other) l

happens : (s : State) (call : Call) (answer : Answer) (t : State) → Happens s call answer t → AddsSome s answer t
happens s call (refused e) t h = ([], refl, is_refused s call e t h)
happens s call (done n) t h = (t.table ∷ [], refl, refl)
happens s call accepted t h = found s t (does s call accepted t h.1)
happens s call (job n) t h = ([], refl, kept s (job n) t (λ m e. cc) (λ e. cc) (does s call (job n) t h.1))
happens s call (cursor n) t h = ([], refl, kept s (cursor n) t (λ m e. cc) (λ e. cc) (does s call (cursor n) t h.1))
happens s call (batch b) t h = ([], refl, kept s (batch b) t (λ m e. cc) (λ e. cc) (does s call (batch b) t h.1))
happens s call ended t h = ([], refl, kept s ended t (λ m e. cc) (λ e. cc) (does s call ended t h.1))
happens s call (more b) t h = ([], refl, kept s (more b) t (λ m e. cc) (λ e. cc) (does s call (more b) t h.1))
happens s call (planned ns) t h = ([], refl, kept s (planned ns) t (λ m e. cc) (λ e. cc) (does s call (planned ns) t h.1))
happens s call (listed gs) t h = ([], refl, kept s (listed gs) t (λ m e. cc) (λ e. cc) (does s call (listed gs) t h.1))
happens s call (counted n) t h = ([], refl, kept s (counted n) t (λ m e. cc) (λ e. cc) (does s call (counted n) t h.1))

-- ---- a run

last_joined : (t : Table) (xs ys : List Table) → last_of t (xs ++ ys) ≡ last_of (last_of t xs) ys
last_joined t [] ys = refl
last_joined t (x ∷ xs) ys = last_joined x xs ys

pub runs_are_of_commits : RunsAreOfCommits
runs_are_of_commits s calls answers new Run.no_calls = ([], Commits.no_calls, refl)
runs_are_of_commits s calls answers new (Run.first_call {mid = mid} {call = call} {answer = answer} {calls = later} {answers = told} here run) =
    let first = happens s call answer mid here in
    let rest = runs_are_of_commits mid later told new run in (
      first.0 ++ rest.0,
      Commits.first_call first.0 here first.1 rest.1,
      rest.2 ∙ ap (λ (u : Table). last_of u rest.0) first.2 ∙ sym (last_joined s.table first.0 rest.0),
    )
