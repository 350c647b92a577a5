-- What a stop leaves of a run: a beginning of its commits.
use Rattle.std.specs.Prelude.{◌≡◌, ℕ, ◌≤◌, ◌⊎◌, List, [], ◌∷◌, ◌++◌, length, take, Some, Bool, IsTrue}
use Rattle.table.specs.Table.{Table}
use Rattle.table.specs.State.{State}
use Rattle.table.specs.Calls.{Call, Answer, done, accepted}
use Rattle.table.specs.Refusing.{Happens, Run}
use Rattle.table.specs.Stops.{MayHold, RunsOn}

-- The commits that a call adds, by the tables that they lead to: one that is answered done, and one in doubt that a
-- reopening finds.
abbrev pub Adds : State → Answer → State → List Table → Type 0
Adds old (done n) new tables = tables ≡ new.table ∷ []
Adds old accepted new tables = ((tables ≡ []) × (new.table ≡ old.table)) ⊎ ((tables ≡ new.table ∷ []) × (old.doubtful ≡ Some new.table))
Adds old _ new tables = tables ≡ []

-- Calls one after another, and the tables that their commits lead to, in order.
pub data Commits : State → List Call → List Answer → State → List Table → Type 0 where
  no_calls : {s : State} → Commits s [] [] s []
  first_call : {s mid new : State} {call : Call} {answer : Answer} {calls : List Call} {answers : List Answer} {later : List Table} (added : List Table)
      → Happens s call answer mid → Adds s answer mid added → Commits mid calls answers new later
      → Commits s (call ∷ calls) (answer ∷ answers) new (added ++ later)

-- the last of the tables, or `t` if there are none
abbrev pub last_of : Table → List Table → Table
last_of t [] = t
last_of t (u ∷ tables) = last_of u tables

-- a run has the table that the last of its commits leads to
abbrev pub RunsAreOfCommits : Type 0
RunsAreOfCommits = (s : State) (calls : List Call) (answers : List Answer) (new : State) → Run s calls answers new
    → (tables : List Table) × Commits s calls answers new tables × (new.table ≡ last_of s.table tables)

-- The image holds the table after the first so many of the calls, or that table with the commit in doubt.
pub record LeavesAfterSome {Image : Type 0} (holds : Image → Table → Type 0) (old : State) (calls : List Call) (answers : List Answer) (image : Image) : Type 0 where
  pub count : ℕ
  pub state : State
  pub before : Run old (take count calls) (take count answers) state
  pub table : Table
  pub held : holds image table
  pub may : MayHold state table

-- A stop at any moment of a run leaves a beginning of it.
abbrev pub StopsLeaveABeginning : {Image : Type 0} → (ℕ → Image → Type 0) → (Image → Table → Type 0) → Type 0
StopsLeaveABeginning images holds = (start : ℕ) (old : State) (calls : List Call) (answers : List Answer) (finish : ℕ) (new : State)
    → ((image : _) → images start image → (table : Table) × holds image table × MayHold old table)
    → RunsOn images holds start old calls answers finish new
    → (m : ℕ) (image : _) → start ≤ m → m ≤ finish → images m image → LeavesAfterSome holds old calls answers image

-- A run can be split after each of its calls: what a stop leaves from there on has the commits of the calls before.
abbrev pub RunsPart : {Image : Type 0} → (ℕ → Image → Type 0) → (Image → Table → Type 0) → Type 0
RunsPart images holds = (start : ℕ) (old : State) (calls later : List Call) (answers told : List Answer) (finish : ℕ) (new : State)
    → length calls ≡ length answers → RunsOn images holds start old (calls ++ later) (answers ++ told) finish new
    → (next : ℕ) × (mid : State) × RunsOn images holds start old calls answers next mid × RunsOn images holds next mid later told finish new

-- a run over moments is a run: the same calls return the same and lead to the same state
abbrev pub RunsAreHistories : {Image : Type 0} → (ℕ → Image → Type 0) → (Image → Table → Type 0) → Type 0
RunsAreHistories images holds = (start : ℕ) (old : State) (calls : List Call) (answers : List Answer) (finish : ℕ) (new : State)
    → RunsOn images holds start old calls answers finish new → Run old calls answers new

-- If images are numbers, and each holds one table, a stop at any moment of a run leaves a beginning of it. (A store says it of its disk's images.)
abbrev pub NumberedImagesLeaveABeginning : Type 0
NumberedImagesLeaveABeginning = (left : ℕ → ℕ → Bool) (table_of : ℕ → Table) → StopsLeaveABeginning (λ m i. IsTrue (left m i)) (λ i t. t ≡ table_of i)

-- if images are numbers, and each holds one table, a run can be split after each of its calls
abbrev pub NumberedRunsPart : Type 0
NumberedRunsPart = (left : ℕ → ℕ → Bool) (table_of : ℕ → Table) → RunsPart (λ m i. IsTrue (left m i)) (λ i t. t ≡ table_of i)

-- if images are numbers, and each holds one table, a run over moments is a run
abbrev pub NumberedRunsAreHistories : Type 0
NumberedRunsAreHistories = (left : ℕ → ℕ → Bool) (table_of : ℕ → Table) → RunsAreHistories (λ m i. IsTrue (left m i)) (λ i t. t ≡ table_of i)
