-- How a commit turns groups into others: each stays or goes, and among them come some under numbers that no table had,
-- but none between two neighbours of one key that stay. So what stood in a row and is still there stands in a row.
use Rattle.std.proofs.Common.{◌≡◌, ◌⊎◌, inl, inr, ℕ, Bool, true, false, ◌||◌, List, [], ◌∷◌, ◌++◌, Option, Some, None, nat_eq, refl, sym, ◌∙◌, ap, subst, append_assoc}
use Rattle.std.specs.List.{AllByRecursion}
use Rattle.std.proofs.lemmas.Bool.{false≢true, eqb-true, eq-eqb}
use Rattle.schema.specs.Cutting.{is_among}
use Rattle.table.specs.Table.{Key, Group, numbers}
use Rattle.table.specs.State.{sources}
use Rattle.table.specs.Standing.{IsRun, StandInRows}

-- ---- numbers

abbrev pub Has : List Group → ℕ → Type 0
Has gs m = is_among (numbers gs) m ≡ true

pub itself : (g : Group) (gs : List Group) → Has (g ∷ gs) g.number
itself g gs = ap (λ b. b || is_among (numbers gs) g.number) (eq-eqb g.number g.number refl)

pub behind : (g : Group) (gs : List Group) (m : ℕ) → Has gs m → Has (g ∷ gs) m
behind g gs m e = by (nat_eq g.number m)
  where
    by : (b : Bool) → (b || is_among (numbers gs) m) ≡ true
    by true = refl
    by false = e

pub in_later : (xs ys : List Group) (m : ℕ) → Has ys m → Has (xs ++ ys) m
in_later [] ys m e = e
in_later (x ∷ xs) ys m e = behind x (xs ++ ys) m (in_later xs ys m e)

pub in_first : (xs ys : List Group) (m : ℕ) → Has xs m → Has (xs ++ ys) m
in_first [] ys m e = absurd (false≢true e)
in_first (x ∷ xs) ys m e = by (nat_eq x.number m) (in_first xs ys m) e
  where
    by : (b : Bool) → (Has xs m → Has (xs ++ ys) m) → (b || is_among (numbers xs) m) ≡ true → (b || is_among (numbers (xs ++ ys)) m) ≡ true
    by true f r = refl
    by false f r = f r

-- what the later ones have
in_parts : (xs ys zs : List Group) (m : ℕ) → (Has ys m → Has zs m) → Has (xs ++ ys) m → Has (xs ++ zs) m
in_parts [] ys zs m f e = f e
in_parts (x ∷ xs) ys zs m f e = by (nat_eq x.number m) (in_parts xs ys zs m f) e
  where
    by : (b : Bool) → (Has (xs ++ ys) m → Has (xs ++ zs) m) → (b || is_among (numbers (xs ++ ys)) m) ≡ true → (b || is_among (numbers (xs ++ zs)) m) ≡ true
    by true g r = refl
    by false g r = g r

-- sources that stand among the groups are there
pub stood : (runs : List (List Group)) (gs : List Group) (m : ℕ) → StandInRows runs gs → Has (sources runs) m → Has gs m
stood [] gs m h e = absurd (false≢true e)
stood (run ∷ runs) gs m h e = subst (λ xs. Has xs m) (sym h.2) (in_later h.0 (run ++ h.1) m (in_parts run (sources runs) h.1 m (stood runs h.1 m h.4) e))

module _ (had : ℕ → Bool) where
  abbrev pub AllFresh : List Group → Type 0
  AllFresh gs = AllByRecursion (λ (g : Group). had g.number ≡ false) gs

  -- `prev` is the key of the group before, where that stays
  abbrev pub Turned : Option Key → List Group → List Group → Type 0
  Turned prev [] new = AllFresh new
  Turned prev (g ∷ gs) new =
      ((front : List Group) × (rest : List Group) × (new ≡ front ++ g ∷ rest) × AllFresh front × (prev ≡ Some g.key → front ≡ []) × Turned (Some g.key) gs rest)
      ⊎ Turned None gs new

  -- no number that a table had is there twice
  abbrev pub Once : List Group → Type 0
  Once [] = Unit {0}
  Once (g ∷ gs) = (had g.number ≡ true → is_among (numbers gs) g.number ≡ false) × Once gs

  not_fresh : (gs : List Group) (m : ℕ) → AllFresh gs → had m ≡ true → Has gs m → ⊥
  not_fresh [] m f h e = false≢true e
  not_fresh (g ∷ gs) m f h e = by (nat_eq g.number m) refl (not_fresh gs m f.1 h) e
    where
      by : (b : Bool) → nat_eq g.number m ≡ b → (Has gs m → ⊥) → (b || is_among (numbers gs) m) ≡ true → ⊥
      by true t next r = false≢true (sym f.0 ∙ ap had (eqb-true g.number m t) ∙ h)
      by false t next r = next r

  past_front : (front xs : List Group) (m : ℕ) → AllFresh front → had m ≡ true → Has (front ++ xs) m → Has xs m
  past_front [] xs m f h e = e
  past_front (g ∷ front) xs m f h e = by (nat_eq g.number m) refl (past_front front xs m f.1 h) e
    where
      by : (b : Bool) → nat_eq g.number m ≡ b → (Has (front ++ xs) m → Has xs m) → (b || is_among (numbers (front ++ xs)) m) ≡ true → Has xs m
      by true t next r = absurd (false≢true (sym f.0 ∙ ap had (eqb-true g.number m t) ∙ h))
      by false t next r = next r

  -- a number of one of the later groups is not that of the first
  past_one : (g : Group) (gs rest : List Group) (m : ℕ) → Once (g ∷ gs) → had m ≡ true → Has gs m → Has (g ∷ rest) m → Has rest m
  past_one g gs rest m o h a e = by (nat_eq g.number m) refl e
    where
      by : (b : Bool) → nat_eq g.number m ≡ b → (b || is_among (numbers rest) m) ≡ true → Has rest m
      by true t r = let n : g.number ≡ m = eqb-true g.number m t in absurd (false≢true (sym (o.0 (ap had n ∙ h)) ∙ ap (is_among (numbers gs)) n ∙ a))
      by false t r = r

  past_both : (front : List Group) (g : Group) (gs rest new : List Group) (m : ℕ) → new ≡ front ++ g ∷ rest → AllFresh front → Once (g ∷ gs) → had m ≡ true → Has gs m → Has new m → Has rest m
  past_both front g gs rest new m is f o h a e = past_one g gs rest m o h a (past_front front (g ∷ rest) m f h (subst (λ xs. Has xs m) is e))

  -- a number that a table had was there before
  pub was_there : (prev : Option Key) (old new : List Group) (m : ℕ) → Turned prev old new → had m ≡ true → Has new m → Has old m
  was_there prev [] new m t h e = absurd (not_fresh new m t h e)
  was_there prev (g ∷ gs) new m (inr t) h e = behind g gs m (was_there None gs new m t h e)
  was_there prev (g ∷ gs) new m (inl t) h e = by (nat_eq g.number m) (was_there (Some g.key) gs t.1 m t.5 h) (past_front t.0 (g ∷ t.1) m t.3 h (subst (λ xs. Has xs m) t.2 e))
    where
      by : (b : Bool) → (Has t.1 m → Has gs m) → (b || is_among (numbers t.1) m) ≡ true → (b || is_among (numbers gs) m) ≡ true
      by true next r = refl
      by false next r = next r

  once_front : (front xs : List Group) → AllFresh front → Once xs → Once (front ++ xs)
  once_front [] xs f o = o
  once_front (g ∷ front) xs f o = ((λ h. absurd (false≢true (sym f.0 ∙ h))), once_front front xs f.1 o)

  once_fresh : (xs : List Group) → AllFresh xs → Once xs
  once_fresh [] f = tt
  once_fresh (g ∷ xs) f = ((λ h. absurd (false≢true (sym f.0 ∙ h))), once_fresh xs f.1)

  pub once_turned : (prev : Option Key) (old new : List Group) → Turned prev old new → Once old → Once new
  once_turned prev [] new t o = once_fresh new t
  once_turned prev (g ∷ gs) new (inr t) o = once_turned None gs new t o.1
  once_turned prev (g ∷ gs) new (inl t) o = subst Once (sym t.2) (once_front t.0 (g ∷ t.1) t.3 ((λ h. by h (is_among (numbers t.1) g.number) refl), once_turned (Some g.key) gs t.1 t.5 o.1))
    where
      by : had g.number ≡ true → (b : Bool) → is_among (numbers t.1) g.number ≡ b → is_among (numbers t.1) g.number ≡ false
      by h false e = e
      by h true e = absurd (false≢true (sym (o.0 h) ∙ was_there (Some g.key) gs t.1 g.number t.5 h e))

  once_later : (xs ys : List Group) → Once (xs ++ ys) → Once ys
  once_later [] ys o = o
  once_later (x ∷ xs) ys o = once_later xs ys o.1

  -- ---- one run

  -- the run stands among the new groups, and what was after it is turned into what is after it
  pub record Stands (run after new : List Group) : Type 0 where
    pub before : List Group
    pub rest : List Group
    pub is : new ≡ before ++ (run ++ rest)
    pub prev : Option Key
    pub turned : Turned prev after rest
    pub left : (m : ℕ) → had m ≡ true → Has after m → Has new m → Has rest m

  pub record Begins (run after new : List Group) : Type 0 where
    pub rest : List Group
    pub is : new ≡ run ++ rest
    pub prev : Option Key
    pub turned : Turned prev after rest
    pub left : (m : ℕ) → had m ≡ true → Has after m → Has new m → Has rest m

  abbrev pub AllHad : List Group → Type 0
  AllHad run = (m : ℕ) → Has run m → had m ≡ true

  abbrev pub Still : List Group → List Group → Type 0
  Still run new = (m : ℕ) → Has run m → Has new m

  -- one group that stays, in front of what of the run comes next
  module _ (g : Group) (run after new front rest : List Group) (is : new ≡ front ++ g ∷ rest) (fresh : AllFresh front) (o : Once (g ∷ (run ++ after))) where
    later : (m : ℕ) → had m ≡ true → Has after m → Has new m → Has rest m
    later m d b e = past_both front g (run ++ after) rest new m is fresh o d (in_later run after m b) e

    still : AllHad (g ∷ run) → Still (g ∷ run) new → Still run rest
    still h a m e = past_both front g (run ++ after) rest new m is fresh o (h m (behind g run m e)) (in_first run after m e) (a m (behind g run m e))

    pub first_stays : Begins run after rest → Stands (g ∷ run) after new
    first_stays next = record {
      before = front;
      rest = next.rest;
      is = is ∙ ap (λ xs. front ++ g ∷ xs) next.is;
      prev = next.prev;
      turned = next.turned;
      left = λ m d b e. next.left m d b (later m d b e);
    }

    pub next_stays : front ≡ [] → Begins run after rest → Begins (g ∷ run) after new
    next_stays none next = record {
      rest = next.rest;
      is = is ∙ ap (λ xs. xs ++ g ∷ rest) none ∙ ap (λ xs. g ∷ xs) next.is;
      prev = next.prev;
      turned = next.turned;
      left = λ m d b e. next.left m d b (later m d b e);
    }

  gone : (g : Group) (run after new : List Group) → Once (g ∷ (run ++ after)) → Turned None (run ++ after) new → AllHad (g ∷ run) → Still (g ∷ run) new → ⊥
  gone g run after new o t h a = false≢true (sym (o.0 (h g.number (itself g run))) ∙ was_there None (run ++ after) new g.number t (h g.number (itself g run)) (a g.number (itself g run)))

  -- a run that goes on behind a group of its key
  goes_on : (key : Key) (run after new : List Group) → AllByRecursion (λ (g : Group). g.key ≡ key) run → Once (run ++ after) → Turned (Some key) (run ++ after) new → AllHad run → Still run new → Begins run after new
  goes_on key [] after new k o t h a = record { rest = new; is = refl; prev = Some key; turned = t; left = λ m d b e. e }
  goes_on key (g ∷ run) after new k o (inr t) h a = absurd (gone g run after new o t h a)
  goes_on key (g ∷ run) after new k o (inl t) h a =
      next_stays g run after new t.0 t.1 t.2 t.3 o (t.4 (ap (λ j. Some j) (sym k.0)))
      (goes_on key run after t.1 k.1 o.1 (subst (λ j. Turned (Some j) (run ++ after) t.1) k.0 t.5) (λ m e. h m (behind g run m e)) (still g run after new t.0 t.1 t.2 t.3 o h a))

  -- a group that stays, before the run
  one_before : (b : Group) (bs run after new front rest : List Group) → new ≡ front ++ b ∷ rest → AllFresh front → Once (b ∷ (bs ++ (run ++ after))) → Stands run after rest → Stands run after new
  one_before b bs run after new front rest is fresh o next = record {
    before = front ++ b ∷ next.before;
    rest = next.rest;
    is = is ∙ ap (λ xs. front ++ b ∷ xs) next.is ∙ sym (append_assoc front (b ∷ next.before) (run ++ next.rest));
    prev = next.prev;
    turned = next.turned;
    left = λ m d c e. next.left m d c (past_both front b (bs ++ (run ++ after)) rest new m is fresh o d (in_later bs (run ++ after) m (in_later run after m c)) e);
  }

  stands : (key : Key) (prev : Option Key) (before run after new : List Group) → AllByRecursion (λ (g : Group). g.key ≡ key) run → Once (before ++ (run ++ after)) → Turned prev (before ++ (run ++ after)) new → AllHad run → Still run new → Stands run after new
  stands key prev [] [] after new k o t h a = record { before = []; rest = new; is = refl; prev = prev; turned = t; left = λ m d b e. e }
  stands key prev [] (g ∷ run) after new k o (inr t) h a = absurd (gone g run after new o t h a)
  stands key prev [] (g ∷ run) after new k o (inl t) h a =
      first_stays g run after new t.0 t.1 t.2 t.3 o
      (goes_on key run after t.1 k.1 o.1 (subst (λ j. Turned (Some j) (run ++ after) t.1) k.0 t.5) (λ m e. h m (behind g run m e)) (still g run after new t.0 t.1 t.2 t.3 o h a))
  stands key prev (b ∷ bs) run after new k o (inr t) h a = stands key None bs run after new k o.1 t h a
  stands key prev (b ∷ bs) run after new k o (inl t) h a =
      one_before b bs run after new t.0 t.1 t.2 t.3 o
      (stands key (Some b.key) bs run after t.1 k o.1 t.5 h (λ m e. past_both t.0 b (bs ++ (run ++ after)) t.1 new m t.2 t.3 o (h m e) (in_later bs (run ++ after) m (in_first run after m e)) (a m e)))

  -- ---- all runs

  one_run : (run : List Group) (prev : Option Key) (gs new before after : List Group) → gs ≡ before ++ (run ++ after) → IsRun run → Once gs → Turned prev gs new → AllHad run → Still run new → Stands run after new
  one_run run prev gs new before after is r o t h a = stands r.key prev before run after new r.same_key (subst Once is o) (subst (λ xs. Turned prev xs new) is t) h a

  pub stay : (runs : List (List Group)) (prev : Option Key) (gs new : List Group) → StandInRows runs gs → Once gs → Turned prev gs new → AllHad (sources runs) → Still (sources runs) new → StandInRows runs new
  stay [] prev gs new s o t h a = tt
  stay (run ∷ runs) prev gs new s o t h a =
      let one : Stands run s.1 new = one_run run prev gs new s.0 s.1 s.2 s.3 o t (λ m e. h m (in_first run (sources runs) m e)) (λ m e. a m (in_first run (sources runs) m e)) in (
        one.before,
        one.rest,
        one.is,
        s.3,
        stay runs one.prev s.1 one.rest s.4 (once_later run s.1 (once_later s.0 (run ++ s.1) (subst Once s.2 o))) one.turned (λ m e. h m (in_later run (sources runs) m e))
            (λ m e. one.left m (h m (in_later run (sources runs) m e)) (stood runs s.1 m s.4 e) (a m (in_later run (sources runs) m e))),
      )
