-- Runs that stand in the table stand in the version that shows it.
use Rattle.std.proofs.Common.{◌≡◌, ◌≢◌, ℕ, Bool, List, [], ◌∷◌, ◌++◌, map, refl, sym, ◌∙◌, ap, subst}
use Rattle.std.specs.List.{AllByRecursion}
use Rattle.table.specs.Table.{Row, Key, rows, numbers, Group as Shown}
use Rattle.table.specs.Commits.{Rewrites}
use Rattle.table.specs.Standing.{IsRun, StandInRows}
use Rattle.manifest.specs.Groups.{Group}
use Rattle.planning.specs.Told.{numbers_of}
use Rattle.planning.specs.Replaced.{Run, changes_of, replaced}
use Rattle.planning.specs.Shown.{shown, all_shown}
use Rattle.planning.specs.Rewritten.{IsNewOf, RunsStand}
use Rattle.planning.specs.Standing.{IsKeyOf, IsMadeOf, AreMadeOf, StandingRunsStand, StandingRunsAreRewritten}
use Rattle.planning.proofs.Rewriting.{rewrites_show}

module _ (rows_of : Group → List Row) where
  -- the groups that show a part of what is shown
  record Parts (old : List Group) (xs ys : List Shown) : Type 0 where
    pub first : List Group
    pub later : List Group
    pub is : old ≡ first ++ later
    pub shows_first : all_shown rows_of first ≡ xs
    pub shows_later : all_shown rows_of later ≡ ys

  parts : (old : List Group) (xs ys : List Shown) → all_shown rows_of old ≡ xs ++ ys → Parts old xs ys
  parts old [] ys e = record { first = []; later = old; is = refl; shows_first = refl; shows_later = e }
  parts [] (x ∷ xs) ys e = absurd (cc)
  parts (g ∷ old) (x ∷ xs) ys e =
      let head : shown rows_of g ≡ x = cc in
      let tail : all_shown rows_of old ≡ xs ++ ys = cc in
      with_first head (parts old xs ys tail)
    where
      with_first : shown rows_of g ≡ x → Parts old xs ys → Parts (g ∷ old) (x ∷ xs) ys
      with_first h p = record {
        first = g ∷ p.first;
        later = p.later;
        is = ap (λ zs. g ∷ zs) p.is;
        shows_first = ap (λ y. y ∷ all_shown rows_of p.first) h ∙ ap (λ zs. x ∷ zs) p.shows_first;
        shows_later = p.shows_later;
      }

  shown_numbers : (gs : List Group) → numbers (all_shown rows_of gs) ≡ numbers_of gs
  shown_numbers [] = refl
  shown_numbers (g ∷ gs) = ap (λ ns. g.number ∷ ns) (shown_numbers gs)

  of_one_key : (key : Key) (gs come : List Group) → AllByRecursion (λ (s : Shown). s.key ≡ key) (all_shown rows_of gs) → AllByRecursion (λ (g : Group). g.key ≡ key) come → AllByRecursion (λ (g : Group). g.key ≡ key) (gs ++ come)
  of_one_key key [] come a b = b
  of_one_key key (g ∷ gs) come a b = (a.0, of_one_key key gs come a.1 b)

  key_is : (key : Key) (run : List Shown) (k : Key) → AllByRecursion (λ (s : Shown). s.key ≡ key) run → IsKeyOf run k → k ≡ key
  key_is key [] k a e = absurd e
  key_is key (s ∷ run) k a e = e ∙ a.0

  keys_are : (key : Key) (run : List Shown) (come : List Group) → AllByRecursion (λ (s : Shown). s.key ≡ key) run → AllByRecursion (λ (g : Group). IsKeyOf run g.key) come → AllByRecursion (λ (g : Group). g.key ≡ key) come
  keys_are key run [] a b = tt
  keys_are key run (g ∷ come) a b = (key_is key run g.key a b.0, keys_are key run come a b.1)

  shows_some : (gs : List Group) (run : List Shown) → all_shown rows_of gs ≡ run → run ≢ [] → gs ≢ []
  shows_some gs run e n r = n (sym e ∙ ap (all_shown rows_of) r)

  is_new : (size : ℕ) (had : ℕ → Bool) (r : Run) (run : List Shown) (sources : List Group) → all_shown rows_of sources ≡ run → IsRun run → IsMadeOf rows_of size had r run → IsNewOf rows_of size had r sources
  is_new size had r run sources e is m = record {
    named = sym (shown_numbers sources) ∙ ap numbers e ∙ sym m.named;
    some = shows_some sources run e is.some;
    same_rows = m.same_rows ∙ ap rows (sym e);
    key = is.key;
    same_key = of_one_key is.key sources r.come (subst (AllByRecursion (λ (s : Shown). s.key ≡ is.key)) (sym e) is.same_key) (keys_are is.key run r.come is.same_key m.same_key);
    full = m.full;
    fresh = m.fresh;
  }

  stand : (size : ℕ) (had : ℕ → Bool) (rs : List Run) (runs : List (List Shown)) (old : List Group) → StandInRows runs (all_shown rows_of old) → AreMadeOf rows_of size had rs runs → RunsStand rows_of size had rs old
  stand size had [] runs old s m = tt
  stand size had (r ∷ rs) [] old s m = absurd m
  stand size had (r ∷ rs) (run ∷ runs) old s m =
      let p : Parts old s.0 (run ++ s.1) = parts old s.0 (run ++ s.1) s.2 in
      let q : Parts p.later run s.1 = parts p.later run s.1 p.shows_later in (
        p.first,
        q.first,
        q.later,
        p.is ∙ ap (λ zs. p.first ++ zs) q.is,
        is_new size had r run q.first q.shows_first s.3 m.0,
        stand size had rs runs q.later (subst (StandInRows runs) (sym q.shows_later) s.4) m.1,
      )

pub standing_runs_stand : StandingRunsStand
standing_runs_stand rows_of size had rs runs old s m = stand rows_of size had rs runs old s m

same_sources : (rows_of : Group → List Row) (size : ℕ) (had : ℕ → Bool) (rs : List Run) (runs : List (List Shown)) → AreMadeOf rows_of size had rs runs → map (λ (r : Run). r.sources) rs ≡ map numbers runs
same_sources rows_of size had [] [] m = refl
same_sources rows_of size had [] (run ∷ runs) m = absurd m
same_sources rows_of size had (r ∷ rs) [] m = absurd m
same_sources rows_of size had (r ∷ rs) (run ∷ runs) m = ap (λ ns. ns ∷ map (λ (q : Run). q.sources) rs) m.0.named ∙ ap (λ ms. numbers run ∷ ms) (same_sources rows_of size had rs runs m.1)

pub standing_runs_are_rewritten : StandingRunsAreRewritten
standing_runs_are_rewritten rows_of size had rs runs old d s m =
    subst (λ ms. Rewrites size had ms (all_shown rows_of old) (all_shown rows_of (replaced (changes_of rs) old))) (same_sources rows_of size had rs runs m)
    (rewrites_show rows_of size had rs old d (standing_runs_stand rows_of size had rs runs old s m))
