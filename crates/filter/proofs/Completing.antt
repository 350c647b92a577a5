-- What is known of a group, completed to more leaves.
use Rattle.std.proofs.Common.{◌≡◌, ℕ, zero, suc, ◌-◌, List, [], ◌∷◌, ◌++◌, length, refl, sym, subst, inl, inr}
use Rattle.std.specs.Prelude.{replicate, count_by, nat_lt}
use Rattle.std.specs.List.{slice_get, AllByRecursion}
use Rattle.lists.proofs.Lists.{all_weaker as all_map}
use Rattle.statistics.specs.Bounds.{Statistics}
use Rattle.filter.specs.Satisfies.{AnyOf}
use Rattle.filter.specs.Test.{Test}
use Rattle.filter.specs.RuledOut.{given_or_absent, key_at, IsOutBy, IsOut}
use Rattle.statistics.specs.Absent.{absent_statistics, known_over}
use Rattle.filter.specs.Law.{CompletedIsTheSame}

absent_there : (n i rows : ℕ) → given_or_absent rows (slice_get (replicate n (absent_statistics rows)) i) ≡ absent_statistics rows
absent_there zero i rows = refl
absent_there (suc n) zero rows = refl
absent_there (suc n) (suc i) rows = absent_there n i rows

pub same_there : (leaves : List Statistics) (n i rows : ℕ) → given_or_absent rows (slice_get (leaves ++ replicate n (absent_statistics rows)) i) ≡ given_or_absent rows (slice_get leaves i)
same_there [] n i rows = absent_there n i rows
same_there (s ∷ leaves) n zero rows = refl
same_there (s ∷ leaves) n (suc i) rows = same_there leaves n i rows

any_map : {X : Type 0} (P Q : X → Type 0) → ((x : X) → P x → Q x) → (xs : List X) → AnyOf P xs → AnyOf Q xs
any_map P Q f [] h = h
any_map P Q f (x ∷ xs) (inl h) = inl (f x h)
any_map P Q f (x ∷ xs) (inr h) = inr (any_map P Q f xs h)

ruled_map : (P Q : Test → Type 0) → ((t : Test) → P t → Q t) → (ands : List (List Test)) → AllByRecursion (AnyOf P) ands → AllByRecursion (AnyOf Q) ands
ruled_map P Q f ands h = all_map (AnyOf P) (AnyOf Q) (λ terms. any_map P Q f terms) ands h

pub completed_is_the_same : CompletedIsTheSame
completed_is_the_same ands places key known leaves =
    let more = leaves - length known.leaves in
    let place = λ (t : Test). t.leaf - count_by (λ a. nat_lt a t.first.place) places in
    let same = λ (t : Test). same_there known.leaves more (place t) known.rows in (
      (λ h. (
        h.0,
        ruled_map (IsOut places key (known_over leaves known)) (IsOut places key known)
            (λ t out. subst (λ (s : Statistics). IsOutBy (key_at places key t.first.place) s known.rows t) (same t) out) ands h.1,
      )),
      (λ h. (
        h.0,
        ruled_map (IsOut places key known) (IsOut places key (known_over leaves known))
            (λ t out. subst (λ (s : Statistics). IsOutBy (key_at places key t.first.place) s known.rows t) (sym (same t)) out) ands h.1,
      )),
    )
