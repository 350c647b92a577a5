-- How a run goes on by one call: the step of the loop in `run`, from the contract of the single call.
use Rattle.std.proofs.Common.{◌≡◌, ◌≤◌, ◌↔◌, ℕ, ◌+◌, Bool, true, false, if◌then◌else◌, List, [], ◌∷◌, ◌++◌, length, filter, refl, sym, ◌∙◌, ap, subst, arith, inl, inr, ⊎_elim}
use Rattle.std.proofs.lemmas.List.Elements.{filter-append, Contains-push_cases}
use Rattle.std.proofs.lemmas.List.{length-append}
use Rattle.bits.specs.declared.refusal.Refusal.TheVariants.{InDoubt}
use Rattle.vault.specs.Calls.{HasFailed}
use Rattle.disk.specs.State.{State as DiskState}
use Rattle.table.specs.State.{State}
use Rattle.table.specs.Calls.{Call, Answer, refused}
use Rattle.table.specs.Refusing.{Happens, is_failure}
use Rattle.table.specs.Stops.{Survives, RunsOn, no_calls, first_call}
use Rattle.table_state.specs.declared.standing.Core.{Core}
use Rattle.table_state.specs.OnDisk.{HoldsTable}
use Rattle.table_state.specs.Stands.{Stands}
use Rattle.table_state.specs.Promises.{KeepsPast, IsOlderFile, Acts, ActsFrom, HasCause}
use Rattle.store.specs.Running.{IsOlderThroughout, Runs, RunsFrom, HaveCauses, HasFailedTimes}
use Rattle.table_commits.proofs.StateCarriedOver.{past_on}
use Rattle.table_commits.proofs.DisksLeftAlone.{all_here}
use Rattle.table_commits.proofs.OlderFiles.{kept_read, older_kept_on}
use Rattle.table_commits.proofs.NextRootsKept.{next_kept_since, next_kept_on}

-- what a stop left stays what it left
survives_later : (mid new : DiskState) → KeepsPast mid new → (start finish : ℕ) (s t : State) → finish ≤ mid.moment → Survives mid.images HoldsTable start finish s t → Survives new.images HoldsTable start finish s t
survives_later mid new past start finish s t le h = record {
  later = h.later;
  each = λ m image from to left. h.each m image from to (past.history m image (omega (arith, to, le)) left);
  ended = λ image left. h.ended image (past.history finish image le left);
}

ends_by : (disk : DiskState) {start finish : ℕ} {s t : State} {calls : List Call} {answers : List Answer}
    → RunsOn disk.images HoldsTable start s calls answers finish t → start ≤ finish
ends_by disk no_calls = omega arith
ends_by disk (first_call happens survives run) = omega (arith, survives.later, ends_by disk run)

pub goes_on : (mid new : DiskState) → KeepsPast mid new → (call : Call) (answer : Answer) (u : State) {start finish : ℕ} {s t : State} {calls : List Call} {answers : List Answer}
    → finish ≤ mid.moment → RunsOn mid.images HoldsTable start s calls answers finish t → Happens t call answer u → Survives new.images HoldsTable finish new.moment t u
    → RunsOn new.images HoldsTable start s (calls ++ call ∷ []) (answers ++ answer ∷ []) new.moment u
goes_on mid new past call answer u le no_calls happens survives = first_call happens survives no_calls
goes_on mid new past call answer u le (first_call first survived run) happens survives =
    first_call first (survives_later mid new past _ _ _ _ (omega (arith, le, ends_by mid run)) survived) (goes_on mid new past call answer u le run happens survives)

-- ---- what is older throughout

-- than one state more: it was before, and it is older than the state before the last call
older_before : (mid new : DiskState) (past : KeepsPast mid new) (call : Call) (answer : Answer) (u : State) {start finish : ℕ} {s t : State} {calls : List Call} {answers : List Answer}
    (le : finish ≤ mid.moment) (run : RunsOn mid.images HoldsTable start s calls answers finish t) (happens : Happens t call answer u) (survives : Survives new.images HoldsTable finish new.moment t u) (path : List ℕ)
    → IsOlderThroughout s (goes_on mid new past call answer u le run happens survives) path → IsOlderThroughout s run path × IsOlderFile t path
unfolding goes_on
older_before mid new past call answer u le no_calls happens survives path older = (tt, older.0)
older_before mid new past call answer u le (first_call first survived run) happens survives path older =
    let o = older_before mid new past call answer u le run happens survives path older.1 in ((older.0, o.0), o.1)

-- ---- failures are counted

one_by_one : (answers : List Answer) (answer : Answer) → length (filter is_failure (answers ++ answer ∷ [])) ≡ length (filter is_failure answers) + (if is_failure answer then 1 else 0)
one_by_one answers answer = ap length (filter-append is_failure answers (answer ∷ [])) ∙ length-append (filter is_failure answers) (filter is_failure (answer ∷ [])) ∙ ap (λ n. length (filter is_failure answers) + n) (by (is_failure answer))
  where
    by : (b : Bool) → length (if b then answer ∷ [] else []) ≡ (if b then 1 else 0)
    by true = refl
    by false = refl

-- ---- of a store

module _ {D : Type 0} (state : D → DiskState) where
  pub nothing_yet : (store : Core D) (s : State) → Stands state store s → RunsFrom state store store [] [] s
  nothing_yet store s stands = record { after = s; runs = no_calls; stands = stands; past = record { later = omega arith; history = λ m c l left. left; keeps = λ m c l left. left }; doubt = λ there. let none = there.1 in absurd (omega (arith, none)); kept = λ keeps. kept_read state store store _ keeps (all_here (state store.vault.disk)) }

  pub one_more : (old mid new : Core D) (calls : List Call) (answers : List Answer) (s : State) (run : RunsFrom state old mid calls answers s) (call : Call) (answer : Answer)
      → ActsFrom state mid new call answer run.after → RunsFrom state old new (calls ++ call ∷ []) (answers ++ answer ∷ []) s
  one_more old mid new calls answers s run call answer acts =
      let now = state new.vault.disk in
      let here : (state mid.vault.disk).moment ≤ (state mid.vault.disk).moment = omega arith in
      let runs = goes_on (state mid.vault.disk) now acts.past call answer acts.after here run.runs acts.happens acts.survives in
      let before = older_before (state mid.vault.disk) now acts.past call answer acts.after here run.runs acts.happens acts.survives in
      record {
        after = acts.after;
        runs = runs;
        stands = acts.stands;
        past = past_on (state old.vault.disk) (state mid.vault.disk) now run.past acts.past;
        doubt = λ there. ⊎_elim
            (λ early. next_kept_on (state old.vault.disk) (state mid.vault.disk) now acts.past (run.doubt early))
            (λ is. next_kept_since (state old.vault.disk) (state mid.vault.disk) now run.past.later (acts.doubt is))
            (Contains-push_cases answers answer (refused InDoubt) there);
        kept = λ keeps. let kept = run.kept keeps in
            older_kept_on state old mid new (IsOlderThroughout s runs) (IsOlderThroughout s run.runs) (IsOlderFile run.after) (λ path older. (before path older).0) (λ path older. (before path older).1) kept (acts.kept kept.keeps);
      }

  -- each failure that is told has one of its own
  pub causes_on : (old mid new : Core D) (calls : List Call) (answers : List Answer) (call : Call) (answer : Answer)
      → (state old.vault.disk).honest ↔ (state mid.vault.disk).honest → (state mid.vault.disk).failures ≤ (state new.vault.disk).failures
      → Runs state old mid calls answers → HaveCauses state old mid answers → HasCause state mid new answer → HaveCauses state old new (answers ++ answer ∷ [])
  causes_on old mid new calls answers call answer same grows runs causes cause honest s stands =
      subst (λ n. HasFailedTimes n (state old.vault.disk) (state new.vault.disk)) (sym (one_by_one answers answer)) (by (is_failure answer) refl)
    where
      before : HasFailedTimes (length (filter is_failure answers)) (state old.vault.disk) (state mid.vault.disk)
      before = causes honest s stands

      now : is_failure answer ≡ true → HasFailed (state mid.vault.disk) (state new.vault.disk)
      now e = let r = runs honest s stands in cause (same.0 honest) r.after r.stands e

      by : (b : Bool) → is_failure answer ≡ b → HasFailedTimes (length (filter is_failure answers) + (if b then 1 else 0)) (state old.vault.disk) (state new.vault.disk)
      by false e = ⊎_elim (λ l. inl (omega (arith, l, grows))) (λ m. inr (omega (arith, m, grows))) before
      by true e = ⊎_elim
          (λ l. ⊎_elim (λ m. inl (omega (arith, l, m))) (λ m. inr (omega (arith, m, grows))) (now e))
          (λ m. inr (omega (arith, m, grows)))
          before

  pub runs_more : (old mid new : Core D) (calls : List Call) (answers : List Answer) (call : Call) (answer : Answer) → (state old.vault.disk).honest ↔ (state mid.vault.disk).honest
      → Runs state old mid calls answers → Acts state mid new call answer → Runs state old new (calls ++ call ∷ []) (answers ++ answer ∷ [])
  runs_more old mid new calls answers call answer same runs acts honest s stands =
      let r = runs honest s stands in
      one_more old mid new calls answers s r call answer (acts (same.0 honest) r.after r.stands)

  -- the same, of lists that are one longer
  pub goes_on_as : (old mid new : Core D) (calls cs : List Call) (answers told : List Answer) (call : Call) (answer : Answer) → calls ++ call ∷ [] ≡ cs → answers ++ answer ∷ [] ≡ told
      → (state old.vault.disk).honest ↔ (state mid.vault.disk).honest → Runs state old mid calls answers → Acts state mid new call answer → Runs state old new cs told
  goes_on_as old mid new calls cs answers told call answer e f same runs acts =
      subst (λ (xs : List Call). Runs state old new xs told) e (subst (λ (ys : List Answer). Runs state old new (calls ++ call ∷ []) ys) f (runs_more old mid new calls answers call answer same runs acts))

  pub causes_as : (old mid new : Core D) (calls : List Call) (answers told : List Answer) (call : Call) (answer : Answer) → answers ++ answer ∷ [] ≡ told
      → (state old.vault.disk).honest ↔ (state mid.vault.disk).honest → (state mid.vault.disk).failures ≤ (state new.vault.disk).failures
      → Runs state old mid calls answers → HaveCauses state old mid answers → HasCause state mid new answer → HaveCauses state old new told
  causes_as old mid new calls answers told call answer f same grows runs causes cause =
      subst (λ (ys : List Answer). HaveCauses state old new ys) f (causes_on old mid new calls answers call answer same grows runs causes cause)

-- ---- before the first call

-- no list with an item is empty
pub not_empty : {A : Type 0} (before : List A) (x : A) (later : List A) → [] ≡ before ++ x ∷ later → ⊥
not_empty [] x later is = cc
not_empty (b ∷ before) x later is = cc

-- without an answer no call was made
pub none_run : {D : Type 0} (state : D → DiskState) (store : Core D) (s : State) (answers : List Answer) → answers ≡ [] → Stands state store s → RunsFrom state store store [] answers s
none_run state store s answers none stands = subst (λ (told : List Answer). RunsFrom state store store [] told s) (sym none) (nothing_yet state store s stands)

-- and none tells of a failed disk
pub none_failed : (disk : DiskState) (answers : List Answer) → answers ≡ [] → HasFailedTimes (length (filter is_failure answers)) disk disk
none_failed disk answers none = subst (λ (told : List Answer). HasFailedTimes (length (filter is_failure told)) disk disk) (sym none) (inl (omega arith))
