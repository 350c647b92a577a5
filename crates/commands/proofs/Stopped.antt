-- Calls that are made up to the first that is refused.
use Rattle.std.proofs.Common.{◌≡◌, ◌≤◌, ◌<◌, ◌+◌, ◌-◌, ℕ, zero, suc, true, List, [], ◌∷◌, ◌++◌, length, map, take, drop, get_or, Vec, Global, vec_len, Option, Some, None, IfSome, IfNone, refl, sym, ◌∙◌, ap, subst, arith, inl, inr, length-append}
use Rattle.std.proofs.lemmas.List.{map_push, map-append, take_all, take-append-le, take-append-drop, length-map}
use Rattle.lists.proofs.Slices.{map_take_next as taken}
use Rattle.bits.specs.declared.refusal.Refusal.{Refusal}
use Rattle.bits.specs.declared.refusal.Refusal.TheVariants.{Memory}
use Rattle.disk.specs.State.{State as DiskState}
use Rattle.table.specs.Table.{Table}
use Rattle.table.specs.State.{State}
use Rattle.table.specs.Calls.{Call, Answer}
use Rattle.table.specs.Refusing.{Happens}
use Rattle.table.specs.Stops.{Survives, RunsOn, no_calls, first_call}
use Rattle.table.specs.Views.{call_view, answer_view}
use Rattle.table.specs.declared.answer.Answer.{Answer as CodeAnswer}
use Rattle.table.specs.declared.answer.Answer.TheVariants as told
use Rattle.table.specs.declared.call.Call.{Call as CodeCall}
use Rattle.table_state.specs.declared.standing.Core.{Core}
use Rattle.table_state.specs.Stands.{Stands}
use Rattle.table_state.specs.Promises.{IsOlderFile, ActsFrom}
use Rattle.store.specs.Running.{IsOlderThroughout, RunsFrom}
use Rattle.table_commits.proofs.OlderFiles.{kept_less}
use Rattle.store.proofs.RunJoins.{nothing_yet, one_more}
use Rattle.commands.specs.Stopping.{is_done, AreDone, EndAtRefusal, StopsAt, MakesToRefusalFrom}
use Rattle.commands.specs.declared.stopping.Stop.{Stop}

-- ---- answers

-- all but the last of answers
pub but_last : {A : Type 0} (xs : List A) (x : A) → take (length (xs ++ x ∷ []) - 1) (xs ++ x ∷ []) ≡ xs
but_last xs x = ap (λ n. take n (xs ++ x ∷ [])) (omega (arith, length-append xs (x ∷ []))) ∙ (take-append-le (length xs) xs (x ∷ []) (omega arith) ∙ take_all (length xs) xs (omega arith))

pub done_more : (xs : List CodeAnswer) (x : CodeAnswer) → AreDone (map answer_view xs) → is_done (answer_view x) ≡ true → AreDone (map answer_view (xs ++ x ∷ []))
done_more [] x all last = (last, tt)
done_more (y ∷ ys) x all last = (all.0, done_more ys x all.1 last)

done_taken : (n : ℕ) (xs : List CodeAnswer) → AreDone (map answer_view xs) → AreDone (map answer_view (take n xs))
done_taken zero xs all = tt
done_taken (suc n) [] all = tt
done_taken (suc n) (x ∷ xs) all = (all.0, done_taken n xs all.1)

-- where none is refused
pub all_done : (xs : List CodeAnswer) → AreDone (map answer_view xs) → EndAtRefusal xs
all_done xs all = done_taken (length xs - 1) xs all

-- where the last may be refused
pub one_last : (xs : List CodeAnswer) (x : CodeAnswer) → AreDone (map answer_view xs) → EndAtRefusal (xs ++ x ∷ [])
one_last xs x all = subst (λ (ys : List CodeAnswer). AreDone (map answer_view ys)) (sym (but_last xs x)) all

front_done : (all xs : List CodeAnswer) (x : CodeAnswer) → all ≡ xs ++ x ∷ [] → EndAtRefusal all → AreDone (map answer_view xs)
front_done all xs x e ends = subst (λ (ys : List CodeAnswer). AreDone (map answer_view ys)) (but_last xs x) (subst (λ (ys : List CodeAnswer). EndAtRefusal ys) e ends)

pub done_if_other : (x : CodeAnswer) → ((e : Refusal) → x ≡ told.Refused e → ⊥) → is_done (answer_view x) ≡ true
done_if_other (told.Done n) not = refl
done_if_other (told.Job n) not = refl
done_if_other (told.Cursor n) not = refl
done_if_other (told.Batch b) not = refl
done_if_other told.End not = refl
done_if_other (told.More left) not = refl
done_if_other (told.Plan ns) not = refl
done_if_other (told.Groups gs) not = refl
done_if_other (told.Count n) not = refl
done_if_other told.Accepted not = refl
done_if_other (told.Refused e) not = absurd (not e refl)

-- ---- where a script stopped

-- at a refusal
pub stops_refused : (calls : ℕ) (all xs : List CodeAnswer) (e : Refusal) (n : ℕ) → all ≡ xs ++ told.Refused e ∷ [] → EndAtRefusal all → n ≡ length xs → StopsAt calls (map answer_view all) (Some (record { made = n; calls = calls; refusal = e }))
stops_refused calls all xs e n is ends many = (
  map answer_view xs,
  front_done all xs (told.Refused e) is ends,
  many ∙ sym (length-map xs answer_view),
  refl,
  inl (ap (map answer_view) is ∙ map-append answer_view xs (told.Refused e ∷ [])),
)

-- none of them is refused
pub stops_done : (calls : ℕ) (all : List CodeAnswer) (n : ℕ) (stop : Option Stop) → AreDone (map answer_view all) → n ≡ length all → n ≤ calls
    → IfSome stop (λ x. (n < calls) × (x.made ≡ n) × (x.calls ≡ calls) × (x.refusal ≡ Memory)) → IfNone stop (calls ≤ n) → StopsAt calls (map answer_view all) stop
stops_done calls all n None done many le some none = (omega (arith, length-map all answer_view, many, le, none), done)
stops_done calls all n (Some stop) done many le some none = (
  map answer_view all,
  done,
  some.1 ∙ (many ∙ sym (length-map all answer_view)),
  some.2,
  inr (refl, some.3, omega (arith, length-map all answer_view, many, some.0)),
)

-- the last one is none that is refused
pub last_done : (all xs : List CodeAnswer) (x : CodeAnswer) → all ≡ xs ++ x ∷ [] → EndAtRefusal all → is_done (answer_view x) ≡ true → AreDone (map answer_view all)
last_done all xs x e ends last = subst (λ (ys : List CodeAnswer). AreDone (map answer_view ys)) (sym e) (done_more xs x (front_done all xs x e ends) last)

-- ---- calls

pub counted_calls : (calls : Vec CodeCall Global) (made left : List Call) → map call_view calls.items ≡ made ++ left → length (made ++ left) ≡ vec_len calls
counted_calls calls made left joined = sym (calls.ok.0 ∙ (sym (length-map calls.items call_view) ∙ ap length joined))

parted : (calls : List CodeCall) (n : ℕ) → map call_view calls ≡ map call_view (take n calls) ++ map call_view (drop n calls)
parted calls n = ap (map call_view) (sym (take-append-drop n calls)) ∙ map-append call_view (take n calls) (drop n calls)

module _ {Image : Type 0} {images : ℕ → Image → Type 0} {holds : Image → Table → Type 0} {start finish : ℕ} {s t : State} {call : Call} where
  -- a run of one call
  only_call : {answer : Answer} → RunsOn images holds start s (call ∷ []) (answer ∷ []) finish t → Happens s call answer t × Survives images holds start finish s t
  only_call (first_call happens survives no_calls) = (happens, survives)

  -- what is older than its state is older throughout
  older_once : {answer : Answer} (run : RunsOn images holds start s (call ∷ []) (answer ∷ []) finish t) (path : List ℕ) → IsOlderFile s path → IsOlderThroughout s run path
  older_once (first_call happens survives no_calls) path older = (older, tt)

  -- it has one answer
  not_two : {first second : Answer} {answers : List Answer} → RunsOn images holds start s (call ∷ []) (first ∷ second ∷ answers) finish t → ⊥
  not_two (first_call happens survives run) = elim run [ ]

  not_none : RunsOn images holds start s (call ∷ []) [] finish t → ⊥
  not_none run = elim run [ ]

module _ {D : Type 0} (state : D → DiskState) where
  -- a run of one call
  one_of : (old new : Core D) (call : Call) (answer : Answer) (s : State) → RunsFrom state old new (call ∷ []) (answer ∷ []) s → ActsFrom state old new call answer s
  one_of old new call answer s run =
      let one = only_call run.runs in
      record {
        after = run.after;
        happens = one.0;
        survives = one.1;
        stands = run.stands;
        past = run.past;
        doubt = λ is. run.doubt (0, omega arith, is);
        kept = λ keeps. kept_less state old new (IsOlderFile s) (IsOlderThroughout s run.runs) (older_once run.runs) (run.kept keeps);
      }

  -- the last answer of a run of one call
  pub one_call : (old new : Core D) (call : Call) (all xs : List CodeAnswer) (x : CodeAnswer) (s : State) → all ≡ xs ++ x ∷ [] → RunsFrom state old new (call ∷ []) (map answer_view all) s → ActsFrom state old new call (answer_view x) s
  one_call old new call all xs x s e run = by xs (subst (λ (ys : List CodeAnswer). RunsFrom state old new (call ∷ []) (map answer_view ys) s) e run)
    where
      by : (ys : List CodeAnswer) → RunsFrom state old new (call ∷ []) (map answer_view (ys ++ x ∷ [])) s → ActsFrom state old new call (answer_view x) s
      by [] one = one_of old new call (answer_view x) s one
      by (y ∷ []) two = absurd (not_two two.runs)
      by (y ∷ z ∷ ys) many = absurd (not_two many.runs)

  -- it has one
  pub one_answer : {A : Type 0} (old new : Core D) (call : Call) (all : List CodeAnswer) (s : State) → length all ≡ 0 → RunsFrom state old new (call ∷ []) (map answer_view all) s → A
  one_answer old new call [] s none run = absurd (not_none run.runs)
  one_answer old new call (x ∷ xs) s none run = absurd (omega (arith, none))

  -- none was made yet
  pub nothing_made : (store : Core D) (calls : List CodeCall) (answers : List CodeAnswer) (s : State) → answers ≡ [] → Stands state store s → RunsFrom state store store (map call_view (take 0 calls)) (map answer_view answers) s
  nothing_made store calls answers s none stands = subst (λ (xs : List CodeAnswer). RunsFrom state store store (map call_view (take 0 calls)) (map answer_view xs) s) (sym none) (by calls)
    where
      by : (cs : List CodeCall) → RunsFrom state store store (map call_view (take 0 cs)) [] s
      by [] = nothing_yet state store s stands
      by (c ∷ cs) = nothing_yet state store s stands

  -- one more was made
  pub made_more : (old mid new : Core D) (calls : List CodeCall) (i : ℕ) (call : CodeCall) (answers : List CodeAnswer) (answer : CodeAnswer) (s : State) → i < length calls → call ≡ get_or calls i call
      → (run : RunsFrom state old mid (map call_view (take i calls)) (map answer_view answers) s) → ActsFrom state mid new (call_view call) (answer_view answer) run.after
      → RunsFrom state old new (map call_view (take (i + 1) calls)) (map answer_view (answers ++ answer ∷ [])) s
  made_more old mid new calls i call answers answer s lt is run acts =
      subst (λ (cs : List Call). RunsFrom state old new cs (map answer_view (answers ++ answer ∷ [])) s) (sym (taken call_view calls i call lt is))
      (subst (λ (xs : List Answer). RunsFrom state old new (map call_view (take i calls) ++ call_view call ∷ []) xs s) (sym (map_push answer_view answers answer))
      (one_more state old mid new (map call_view (take i calls)) (map answer_view answers) s run (call_view call) (answer_view answer) acts))

  -- the first so many were made
  pub first_made : (old new : Core D) (calls : List CodeCall) (n : ℕ) (answers : List Answer) (s : State) → RunsFrom state old new (map call_view (take n calls)) answers s → MakesToRefusalFrom state old new (map call_view calls) answers s
  first_made old new calls n answers s run = record { made = map call_view (take n calls); left = map call_view (drop n calls); joined = parted calls n; runs = run }

  -- and the store is as it was then
  pub first_made_at : (old mid new : Core D) → new ≡ mid → (calls : List CodeCall) (n : ℕ) (answers : List Answer) (s : State) → RunsFrom state old mid (map call_view (take n calls)) answers s
      → MakesToRefusalFrom state old new (map call_view calls) answers s
  first_made_at old mid new same calls n answers s run = subst (λ (store : Core D). MakesToRefusalFrom state old store (map call_view calls) answers s) (sym same) (first_made old mid calls n answers s run)
