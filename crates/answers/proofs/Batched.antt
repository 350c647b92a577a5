-- What is done with the batches that a cursor gives, one after another.
use Rattle.std.proofs.Common.{◌≡◌, ◌⊎◌, ℕ, ◌+◌, Bool, true, List, [], ◌∷◌, ◌++◌, length, Option, Some, None, Result, Ok, OnOk, if◌then◌else◌, refl, sym, ◌∙◌, ap, subst, append_assoc, arith, inl, inr}
use Rattle.std.specs.List.{list_all}
use Rattle.std.proofs.lemmas.List.{append-nil, length-append}
use Rattle.std.proofs.lemmas.Grind.{flat_map-append}
use Rattle.lists.proofs.Numbers.{eq_itself as same_number}
use Rattle.bits.specs.declared.refusal.Refusal.{Refusal}
use Rattle.schema.specs.Shape.{Fields}
use Rattle.schema.specs.Values.{ValueTrees}
use Rattle.schema.specs.Fits.{RowsFit}
use Rattle.disk.specs.State.{State as DiskState}
use Rattle.table.specs.Deciding.{Filter}
use Rattle.table.specs.Cursors.{Batch, Columns, batches}
use Rattle.table.specs.State.{State}
use Rattle.table.specs.Calls.{Call, query, fetch, close, Answer, cursor, batch, ended}
use Rattle.table.specs.Refusing.{Run, first_call}
use Rattle.table.specs.Queries.{given, given_by, leaves_open, QueriesGiveABeginning, FinishedQueriesGiveAll}
use Rattle.table_state.specs.declared.standing.Core.{Core}
use Rattle.table_state.specs.Stands.{Stands}
use Rattle.table_state.specs.Promises.{ActsFrom}
use Rattle.table_reads.specs.Shown.{IsShownAs}
use Rattle.table_reads.specs.declared.passing.FetchedRows.{FetchedRows}
use Rattle.scan.specs.Left.{rows_held}
use Rattle.answers.specs.Querying.{only_reads, ActsOn, OnlyReads}
use Rattle.answers.specs.QueryFile.{query_rows, first_of}
use Rattle.answers.specs.inner.Batches.{AreAllFetches}
use Rattle.answers.specs.inner.Fetched.{HasFetched, FetchesUpTo, FetchesFirst, rows_of_each, WhereFitting, AreEnough}
use Rattle.answers.proofs.OneByOne.{one_made, one_before, one_behind, history}
use Rattle.answers.proofs.Selected.{rows_of_query, front_fits}
use Rattle.answers.proofs.FirstOf.{first_enough}

-- ---- fetches

pub fetches_more : (n : ℕ) (calls : List Call) → AreAllFetches n calls → AreAllFetches n (calls ++ fetch n ∷ [])
fetches_more n [] all = (refl, tt)
fetches_more n (c ∷ calls) all = (all.0, fetches_more n calls all.1)

pub leave_open : (n : ℕ) (calls : List Call) → AreAllFetches n calls → list_all (leaves_open n) calls ≡ true
leave_open n [] all = refl
leave_open n (c ∷ calls) all = rw (all.0, leave_open n calls all.1) refl

-- then the cursor is closed
pub closed_read : (n : ℕ) (calls : List Call) → AreAllFetches n calls → list_all only_reads (calls ++ close n ∷ []) ≡ true
closed_read n [] all = refl
closed_read n (c ∷ calls) all = rw (all.0, closed_read n calls all.1) refl

pub many_more : (calls : List Call) (answers : List Answer) (call : Call) (answer : Answer) → length calls ≡ length answers → length (calls ++ call ∷ []) ≡ length (answers ++ answer ∷ [])
many_more calls answers call answer e = length-append calls (call ∷ []) ∙ (ap (λ n. n + 1) e ∙ sym (length-append answers (answer ∷ [])))

given_more : (n : ℕ) (calls : List Call) (answers : List Answer) (call : Call) (answer : Answer) → length calls ≡ length answers → given n (calls ++ call ∷ []) (answers ++ answer ∷ []) ≡ given n calls answers ++ given_by n call answer
given_more n [] [] call answer e = append-nil (given_by n call answer)
given_more n [] (a ∷ answers) call answer e = absurd (omega (arith, e))
given_more n (c ∷ calls) [] call answer e = absurd (omega (arith, e))
given_more n (c ∷ calls) (a ∷ answers) call answer e =
    ap (λ bs. given_by n c a ++ bs) (given_more n calls answers call answer (omega (arith, e))) ∙ sym (append_assoc (given_by n c a) (given n calls answers) (given_by n call answer))

pub one_given : (n : ℕ) (calls : List Call) (answers : List Answer) (b : Batch) → length calls ≡ length answers → given n (calls ++ fetch n ∷ []) (answers ++ batch b ∷ []) ≡ given n calls answers ++ b ∷ []
one_given n calls answers b e = given_more n calls answers (fetch n) (batch b) e ∙ ap (λ (own : Bool). given n calls answers ++ (if own then b ∷ [] else [])) (same_number n)

-- ---- rows that were fetched and not made

-- they are the rows of the batch that is answered
pub rows_fetched : (fetched : Option FetchedRows) (f : FetchedRows) → fetched ≡ Some f → (answer : Answer) × IsShownAs (Ok fetched) answer
    → (rows : List ValueTrees) × rows_held f.rows rows × IsShownAs (Ok fetched) (batch (record { places = f.places.items; rows = rows }))
rows_fetched fetched f is shown =
    let h = subst (λ (o : Option FetchedRows). IsShownAs (Ok o) shown.0) is shown.1 in
    (h.0, h.1.0, subst (λ (a : Answer). IsShownAs (Ok fetched) a) h.2 shown.1)

-- there are none
pub none_fetched_as : (fetched : Option FetchedRows) → fetched ≡ None → IsShownAs (Ok fetched) ended
none_fetched_as fetched is = subst (λ (o : Option FetchedRows). IsShownAs (Ok o) ended) (sym is) refl

-- ---- of a store

module _ {D : Type 0} (state : D → DiskState) where
  -- no call was made
  pub nothing_read : (store : Core D) (s : State) → OnlyReads state store store s
  nothing_read store s = record { calls = []; answers = []; last = s; acts = (refl, refl); read = refl }

  pub begins : (store : Core D) (n : ℕ) (Done : List Batch → Type 0) (s : State) → Stands state store s → Done [] → HasFetched state store store n Done s
  begins store n Done s stands done = record { calls = []; answers = []; last = s; acts = (refl, refl); as_many = refl; fetches = tt; stands = stands; done = done }

  -- no fetch was made
  pub none_fetched : {T : Type 0} (store : Core D) (n : ℕ) (Done Enough : List Batch → Type 0) (result : Result T Refusal) (s : State) → Stands state store s → OnOk result (FetchesUpTo n Done Enough [] [])
      → FetchesFirst state store store n Done Enough result s
  none_fetched store n Done Enough result s stands all = record { calls = []; answers = []; last = s; acts = (refl, refl); fetches = tt; stands = stands; all = all }

  -- a batch more is there
  pub goes_on : (old mid new : Core D) (n : ℕ) (Done Again : List Batch → Type 0) (s : State) (has : HasFetched state old mid n Done s) (b : Batch) → ActsFrom state mid new (fetch n) (batch b) has.last
      → ((bs : List Batch) → Done bs → Again (bs ++ b ∷ [])) → HasFetched state old new n Again s
  goes_on old mid new n Done Again s has b acts one = record {
    calls = has.calls ++ fetch n ∷ [];
    answers = has.answers ++ batch b ∷ [];
    last = acts.after;
    acts = one_behind state old mid new has.calls has.answers (fetch n) (batch b) s has.last has.acts acts;
    as_many = many_more has.calls has.answers (fetch n) (batch b) has.as_many;
    fetches = fetches_more n has.calls has.fetches;
    stands = acts.stands;
    done = subst (λ (bs : List Batch). Again bs) (sym (one_given n has.calls has.answers b has.as_many)) (one (given n has.calls has.answers) has.done);
  }

  -- the last fetch
  pub ends : {T : Type 0} (old mid new : Core D) (n : ℕ) (Done Again Enough : List Batch → Type 0) (result : Result T Refusal) (s : State) (has : HasFetched state old mid n Done s) (answer : Answer)
      (acts : ActsFrom state mid new (fetch n) answer has.last) → OnOk result (FetchesUpTo n Again Enough (has.calls ++ fetch n ∷ []) (has.answers ++ answer ∷ [])) → FetchesFirst state old new n Again Enough result s
  ends old mid new n Done Again Enough result s has answer acts all = record {
    calls = has.calls ++ fetch n ∷ [];
    answers = has.answers ++ answer ∷ [];
    last = acts.after;
    acts = one_behind state old mid new has.calls has.answers (fetch n) answer s has.last has.acts acts;
    fetches = fetches_more n has.calls has.fetches;
    stands = acts.stands;
    all = all;
  }

  -- no fetch more is made
  pub stops : {T : Type 0} (old new : Core D) (n : ℕ) (Done Again Enough : List Batch → Type 0) (result : Result T Refusal) (s : State) (has : HasFetched state old new n Done s) → OnOk result (FetchesUpTo n Again Enough has.calls has.answers)
      → FetchesFirst state old new n Again Enough result s
  stops old new n Done Again Enough result s has all = record { calls = has.calls; answers = has.answers; last = has.last; acts = has.acts; fetches = has.fetches; stands = has.stands; all = all }

  -- it gave the end
  pub all_fetched : (old mid : Core D) (n : ℕ) (Done Again Enough : List Batch → Type 0) (s : State) (has : HasFetched state old mid n Done s) → ((bs : List Batch) → Done bs → Again bs)
      → FetchesUpTo n Again Enough (has.calls ++ fetch n ∷ []) (has.answers ++ ended ∷ [])
  all_fetched old mid n Done Again Enough s has so = record {
    front = has.calls;
    told = has.answers;
    as_many = has.as_many;
    fetches = has.fetches;
    over = inl (refl, refl);
    done = so (given n has.calls has.answers) has.done;
  }

  -- what it gave is enough
  pub enough : (old new : Core D) (n : ℕ) (Done Again Enough : List Batch → Type 0) (s : State) (has : HasFetched state old new n Done s) → ((bs : List Batch) → Done bs → Again bs) → ((bs : List Batch) → Done bs → Enough bs)
      → FetchesFirst {T = Unit {0}} state old new n Again Enough (Ok tt) s
  enough old new n Done Again Enough s has so is_enough_so = record {
    calls = has.calls;
    answers = has.answers;
    last = has.last;
    acts = has.acts;
    fetches = has.fetches;
    stands = has.stands;
    all = record {
      front = has.calls;
      told = has.answers;
      as_many = has.as_many;
      fetches = has.fetches;
      over = inr (refl, refl, is_enough_so (given n has.calls has.answers) has.done);
      done = so (given n has.calls has.answers) has.done;
    };
  }

  -- ---- a query, its fetches, and the end of its cursor

  module _ (old mid : Core D) (terms : Filter) (columns : Columns) (s : State) where
    pub asked : (answer : Answer) → ActsFrom state old mid (query terms columns) answer s → OnlyReads state old mid s
    asked answer acts = record { calls = query terms columns ∷ []; answers = answer ∷ []; last = acts.after; acts = one_made state old mid (query terms columns) answer s acts; read = refl }

    module _ (n : ℕ) (acts : ActsFrom state old mid (query terms columns) (cursor n) s) where
      pub closed : {T : Type 0} (end new : Core D) (Done Enough : List Batch → Type 0) (result : Result T Refusal) (left : FetchesFirst state mid end n Done Enough result acts.after) (answer : Answer)
          → ActsFrom state end new (close n) answer left.last → OnlyReads state old new s
      closed end new Done Enough result left answer closing = record {
        calls = query terms columns ∷ left.calls ++ close n ∷ [];
        answers = cursor n ∷ left.answers ++ answer ∷ [];
        last = closing.after;
        acts = one_before state old mid new (query terms columns) (cursor n) (left.calls ++ close n ∷ []) (left.answers ++ answer ∷ []) s closing.after acts
            (one_behind state mid end new left.calls left.answers (close n) answer acts.after left.last left.acts closing);
        read = closed_read n left.calls left.fetches;
      }

      -- What is so of the first rows of the batches, where they are rows of the wanted columns, is so of the first of the rows that satisfy.
      pub of_rows : QueriesGiveABeginning → FinishedQueriesGiveAll → Stands state old s → (fs : Fields) (limit : Option ℕ) (Has : List ValueTrees → Type 0) (end : Core D) (calls : List Call) (answers : List Answer) (last : State)
          → ActsOn state mid calls answers end acts.after last → FetchesUpTo n (WhereFitting fs (λ (rows : List ValueTrees). Has (first_of limit rows))) (WhereFitting fs (AreEnough limit)) calls answers → RowsFit fs (query_rows terms columns s.table)
          → Has (first_of limit (query_rows terms columns s.table))
      of_rows beginning finished stands fs limit Has end calls answers last made all fit = subst (λ (rs : List ValueTrees). Has (first_of limit rs)) (rows_of_query terms columns s.table) (by all.over)
        where
          bs : List Batch
          bs = given n all.front all.told

          whole : List Batch
          whole = batches terms columns s.table

          fits : RowsFit fs (rows_of_each whole)
          fits = subst (RowsFit fs) (sym (rows_of_query terms columns s.table)) fit

          opened : list_all (leaves_open n) all.front ≡ true
          opened = leave_open n all.front all.fetches

          later : Run acts.after calls answers last
          later = history state mid end calls answers acts.after last made

          by : ((calls ≡ all.front ++ fetch n ∷ []) × (answers ≡ all.told ++ ended ∷ [])) ⊎ ((calls ≡ all.front) × (answers ≡ all.told) × WhereFitting fs (AreEnough limit) bs) → Has (first_of limit (rows_of_each whole))
          by (inl over) =
              let run = subst (λ (cs : List Call). Run acts.after cs (all.told ++ ended ∷ []) last) over.0 (subst (λ (xs : List Answer). Run acts.after calls xs last) over.1 later) in
              let are : bs ≡ whole = finished s terms columns n all.front all.told last stands.reached all.as_many (first_call acts.happens run) opened in
              subst (λ (xs : List Batch). WhereFitting fs (λ (rows : List ValueTrees). Has (first_of limit rows)) xs) are all.done fits
          by (inr over) =
              let run = subst (λ (cs : List Call). Run acts.after cs all.told last) over.0 (subst (λ (xs : List Answer). Run acts.after calls xs last) over.1 later) in
              let told = beginning s terms columns n all.front all.told last stands.reached (first_call acts.happens run) opened in
              let split : rows_of_each whole ≡ rows_of_each bs ++ rows_of_each told.0 = ap rows_of_each told.1 ∙ flat_map-append (λ (b : Batch). b.rows) bs told.0 in
              let front = front_fits fs (rows_of_each bs) (rows_of_each told.0) (subst (RowsFit fs) split fits) in
              let same : first_of limit (rows_of_each whole) ≡ first_of limit (rows_of_each bs) = ap (first_of limit) split ∙ first_enough limit (rows_of_each bs) (rows_of_each told.0) (over.2 front) in
              subst Has (sym same) (all.done front)
