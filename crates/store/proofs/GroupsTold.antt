-- What `groups` tells, in a list of calls: what the root has when its call is made.
use Rattle.std.proofs.Common.{◌≡◌, ◌↔◌, ◌⊎◌, ◌+◌, List, [], ◌∷◌, ◌++◌, length, map, take, refl, sym, ◌∙◌, ap, subst, arith, inl, inr, ⊎_elim}
use Rattle.std.proofs.lemmas.List.{length-append, take-append-le, take_all}
use Rattle.disk.specs.State.{State as DiskState}
use Rattle.table.specs.Calls.{Call, listed}
use Rattle.table.specs.Plans.{GroupSummary}
use Rattle.table.specs.Views.{answer_view, fetched_view, info_view}
use Rattle.table.specs.declared.answer.Fetched.{Fetched}
use Rattle.table.specs.declared.answer.Fetched.TheVariants as fetched
use Rattle.table.specs.declared.answer.Answer.{Answer as CodeAnswer}
use Rattle.table.specs.declared.answer.Answer.TheVariants.{Groups}
use Rattle.table_state.specs.declared.standing.Core.{Core}
use Rattle.table_state.specs.Promises.{KeepsPast, Acts}
use Rattle.store.specs.Running.{Runs, RunsFrom, IsNoListing, TellsGroups, AreOfTheRoot, ListingsAreOfTheRoot}
use Rattle.table_commits.proofs.StateCarriedOver.{past_on}

-- ---- lists

heads : {A : Type 0} (x y : A) (xs ys : List A) → x ∷ xs ≡ y ∷ ys → x ≡ y
heads x y xs ys e = cc

tails : {A : Type 0} (x y : A) (xs ys : List A) → x ∷ xs ≡ y ∷ ys → xs ≡ ys
tails x y xs ys e = cc

not_empty : {A : Type 0} (before later : List A) (y : A) → [] ≡ before ++ y ∷ later → ⊥
not_empty [] later y e = cc
not_empty (b ∷ before) later y e = cc

-- an element of a list that grew by one is the last, or was there
pushed : {A : Type 0} (xs : List A) (x : A) (before later : List A) (y : A) → xs ++ x ∷ [] ≡ before ++ y ∷ later
    → ((xs ≡ before) × (x ≡ y)) ⊎ ((rest : List A) × (xs ≡ before ++ y ∷ rest))
pushed [] x [] later y e = inl (refl, heads x y [] later e)
pushed [] x (b ∷ before) later y e = absurd (not_empty before later y (tails x b [] (before ++ y ∷ later) e))
pushed (z ∷ xs) x [] later y e = inr (xs, ap (λ w. w ∷ xs) (heads z y (xs ++ x ∷ []) later e))
pushed (z ∷ xs) x (b ∷ before) later y e = ⊎_elim
    (λ last. inl (λ i. first i ∷ last.0 i, last.1))
    (λ there. inr (there.0, λ i. first i ∷ there.1 i))
    (pushed xs x before later y (tails z b (xs ++ x ∷ []) (before ++ y ∷ later) e))
  where
    first : z ≡ b
    first = heads z b (xs ++ x ∷ []) (before ++ y ∷ later) e

-- ---- one answer

not_fetched : (f : Fetched) (gs : List GroupSummary) → listed gs ≡ fetched_view f → ⊥
not_fetched (fetched.Batch b) gs e = cc
not_fetched fetched.End gs e = cc

-- a fetch lists no groups
pub none_of_fetch : (f : Fetched) (answer : CodeAnswer) → answer_view answer ≡ fetched_view f → IsNoListing answer
none_of_fetch f answer e infos is = not_fetched f (map info_view infos.items) (sym (ap answer_view is) ∙ e)

-- ---- of a store

module _ {D : Type 0} (state : D → DiskState) where
  -- no call was made
  pub nothing_listed : (old new : Core D) (calls : List Call) → ListingsAreOfTheRoot state old new calls []
  nothing_listed old new calls honest s stands before later infos e = absurd (not_empty before later (Groups infos) e)

  pub listings_on : (old mid new : Core D) (calls : List Call) (answers : List CodeAnswer) (call : Call) (answer : CodeAnswer)
      → length answers ≡ length calls → (state old.vault.disk).honest ↔ (state mid.vault.disk).honest → Runs state old mid calls (map answer_view answers) → Acts state mid new call (answer_view answer) → TellsGroups mid answer
      → ListingsAreOfTheRoot state old mid calls answers → ListingsAreOfTheRoot state old new (calls ++ call ∷ []) (answers ++ answer ∷ [])
  listings_on old mid new calls answers call answer many same runs acts tells told honest s stands before later infos e =
      ⊎_elim
      (λ last. at_last last.0 last.1)
      (λ there. there_already there.0 there.1)
      (pushed answers answer before later (Groups infos) e)
    where
      so_far : RunsFrom state old mid calls (map answer_view answers) s
      so_far = runs honest s stands

      now : KeepsPast (state mid.vault.disk) (state new.vault.disk)
      now = (acts (same.0 honest) so_far.after so_far.stands).past

      at_last : answers ≡ before → answer ≡ Groups infos
          → AreOfTheRoot state old new (take (length before) (calls ++ call ∷ [])) (map answer_view before) s infos.items
      at_last all is =
          let few : length before ≡ length calls = sym (ap length all) ∙ many in
          record {
            store = mid;
            runs = subst (λ (cs : List Call). RunsFrom state old mid cs (map answer_view before) s)
                (sym (take-append-le (length before) calls (call ∷ []) (omega (arith, few)) ∙ take_all (length before) calls (omega (arith, few))))
                (subst (λ (xs : List CodeAnswer). RunsFrom state old mid calls (map answer_view xs) s) all so_far);
            past = now;
            told = tells infos is;
          }

      there_already : (rest : List CodeAnswer) → answers ≡ before ++ Groups infos ∷ rest
          → AreOfTheRoot state old new (take (length before) (calls ++ call ∷ [])) (map answer_view before) s infos.items
      there_already rest are =
          let t = told honest s stands before rest infos are in
          let long : length answers ≡ length before + length (Groups infos ∷ rest) = ap length are ∙ length-append before (Groups infos ∷ rest) in
          record {
            store = t.store;
            runs = subst (λ (cs : List Call). RunsFrom state old t.store cs (map answer_view before) s)
                (sym (take-append-le (length before) calls (call ∷ []) (omega (arith, long, many)))) t.runs;
            past = past_on (state t.store.vault.disk) (state mid.vault.disk) (state new.vault.disk) t.past now;
            told = t.told;
          }

  -- the same, of lists that are one longer
  pub listings_as : (old mid new : Core D) (calls cs : List Call) (answers told : List CodeAnswer) (call : Call) (answer : CodeAnswer)
      → calls ++ call ∷ [] ≡ cs → told ≡ answers ++ answer ∷ [] → length answers ≡ length calls → (state old.vault.disk).honest ↔ (state mid.vault.disk).honest
      → Runs state old mid calls (map answer_view answers) → Acts state mid new call (answer_view answer) → TellsGroups mid answer
      → ListingsAreOfTheRoot state old mid calls answers → ListingsAreOfTheRoot state old new cs told
  listings_as old mid new calls cs answers told call answer e f many same runs acts tells had =
      subst (λ (xs : List Call). ListingsAreOfTheRoot state old new xs told) e
      (subst (λ (ys : List CodeAnswer). ListingsAreOfTheRoot state old new (calls ++ call ∷ []) ys) (sym f)
      (listings_on old mid new calls answers call answer many same runs acts tells had))
