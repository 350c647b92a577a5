-- How what a stop may leave goes on from call to call.
use Rattle.std.proofs.Common.{◌≡◌, ◌<◌, ◌≤◌, ◌⊎◌, ℕ, zero, suc, List, ⊎_elim, inl, inr, arith, refl, sym, ◌∙◌, subst}
use Rattle.disk.specs.State.{Image, State, content, may_leave}
use Rattle.disk.specs.Calls.{Passes, Stays, IsStill}
use Rattle.vault.specs.Views.{Same, View, LeavesAfter, IsRooted, IsRootedAt, StaysRooted, IsKept, AllBut, Swaps}
use Rattle.vault.specs.Ways.{IsClearWay, StaysClear}

pub le_or : (n k : ℕ) → (k ≤ n) ⊎ (n < k)
le_or n zero = inl (omega arith)
le_or zero (suc k) = inr (omega arith)
le_or (suc n) (suc k) = ⊎_elim (λ le. inl (omega (arith, le))) (λ lt. inr (omega (arith, lt))) (le_or n k)

-- what a stop leaves at a moment of a call could be left before it, or comes from that by the step
pub came : (Step : Image → Image → Type 0) (old new : State) → Passes Step old new → (m : ℕ) → old.moment ≤ m → m ≤ new.moment → (c : Image) → new.images m c
    → (d : Image) × may_leave old d × ((c ≡ d) ⊎ Step d c)
came Step old new time m lo hi c at = ⊎_elim
    (λ early.
    let is : m ≡ old.moment = omega (arith, early, lo) in
    (c, subst (λ (k : ℕ). old.images k c) is (time.history m c early at), inl refl))
    (λ late. ⊎_elim
    (λ was. (c, was, inl refl))
    (λ is. let from = time.follows c is in (from.0, from.1, inr from.2))
    (time.within m c late hi at))
    (le_or old.moment m)

-- one call of the disk, by what its step does to a view
pub one_call : (S : View → View → Type 0) (Step : Image → Image → Type 0) (old new : State) → ((u : View) → S u u)
    → ((d c : Image) → may_leave old d → Step d c → S (content d) (content c)) → Passes Step old new → LeavesAfter S old new
one_call S Step old new same step time = record {
  later = time.later;
  history = time.history;
  keeps = time.keeps;
  each = λ m c lo hi at.
      let was = came Step old new time m lo hi c at in (
        was.0,
        was.1,
        ⊎_elim (λ is. let P : Image → Type 0 = λ i. S (content was.0) (content i) in subst P (sym is) (same (content was.0))) (step was.0 c was.1) was.2,
      );
}

-- One run after another, where more is known of what a stop may leave between the two.
module _ (S R Q : View → View → Type 0) (Mid : View → Type 0) (old mid new : State) (known : (c : Image) → may_leave mid c → Mid (content c))
    (both : (u v w : View) → Mid v → S u v → R v w → Q u w) (first : LeavesAfter S old mid) (second : LeavesAfter R mid new) where
  from : (c : Image) → (d : Image) × may_leave mid d × R (content d) (content c) → (d : Image) × may_leave old d × Q (content d) (content c)
  from c came =
      let start = first.each mid.moment came.0 first.later (omega arith) came.1 in
      (start.0, start.1, both (content start.0) (content came.0) (content c) (known came.0 came.1) start.2 came.2)

  pub joins_at : ((u v : View) → S u v → Q u v) → LeavesAfter Q old new
  joins_at wider = record {
    later = omega (arith, first.later, second.later);
    history = λ m c le at. first.history m c le (second.history m c (omega (arith, le, first.later)) at);
    keeps = λ m c le at. second.keeps m c (omega (arith, le, first.later)) (first.keeps m c le at);
    each = λ m c lo hi at. ⊎_elim
        (λ early. let was = first.each m c lo early (second.history m c early at) in (was.0, was.1, wider (content was.0) (content c) was.2))
        (λ late. from c (second.each m c (omega (arith, late)) hi at))
        (le_or mid.moment m);
  }

-- one run after another
pub joins : (S R Q : View → View → Type 0) (old mid new : State) → ((u v w : View) → S u v → R v w → Q u w) → ((u v : View) → S u v → Q u v) → LeavesAfter S old mid → LeavesAfter R mid new → LeavesAfter Q old new
joins S R Q old mid new both wider first second = joins_at S R Q (λ v. Unit {0}) old mid new (λ c may. tt) (λ u v w known. both u v w) first second wider

-- a run that leaves no more than another relation allows
pub widens : (S R : View → View → Type 0) (old new : State) → ((u v : View) → S u v → R u v) → LeavesAfter S old new → LeavesAfter R old new
widens S R old new wider run = record {
  later = run.later;
  history = run.history;
  keeps = run.keeps;
  each = λ m c lo hi at. let was = run.each m c lo hi at in (was.0, was.1, wider (content was.0) (content c) was.2);
}

-- a kept path, over any run that leaves its bytes as they were
pub kept_on : (S : View → View → Type 0) (old new : State) → LeavesAfter S old new → (q bytes : List ℕ) → ((u v : View) → S u v → v q ≡ u q) → IsKept old q bytes → IsKept new q bytes
kept_on S old new run q bytes spared kept c may =
    let was = run.each new.moment c run.later (omega arith) may in
    spared (content was.0) (content c) was.2 ∙ kept was.0 was.1

pub all_but_same : (path : List ℕ) (u : View) → AllBut path u u
all_but_same path u q ne = refl

pub all_but_twice : (path : List ℕ) (u v w : View) → AllBut path u v → AllBut path v w → AllBut path u w
all_but_twice path u v w first second q ne = second q ne ∙ first q ne

pub swaps_same : (root : List ℕ) (u : View) → Swaps root u u
swaps_same root u = record { either = inl refl; others = λ q r n. refl }

-- the root's file over one run after another
pub rooted_joins : (S R : View → View → Type 0) (old mid new : State) → LeavesAfter S old mid → LeavesAfter R mid new → StaysRooted old mid → (IsRooted mid → StaysRooted mid new) → StaysRooted old new
rooted_joins S R old mid new first second one two m lo hi = ⊎_elim
    (λ early c d n at_c at_d. one m lo early c d n (second.history m c early at_c) (second.history m d early at_d))
    (λ late. two (one mid.moment first.later (omega arith)) m (omega (arith, late)) hi)
    (le_or mid.moment m)

pub stays_rooted_here : (state : State) → IsRooted state → StaysRooted state state
stays_rooted_here state rooted m lo hi =
    let is : state.moment ≡ m = omega (arith, lo, hi) in
    let P : ℕ → Type 0 = λ k. IsRootedAt state k in
    subst P is rooted

-- a clear way over one run after another
pub clear_joins : (S R : View → View → Type 0) (old mid new : State) (q : List ℕ) → LeavesAfter S old mid → LeavesAfter R mid new → StaysClear old mid q → (IsClearWay mid q → StaysClear mid new q) → StaysClear old new q
clear_joins S R old mid new q first second one two m c lo hi at = ⊎_elim
    (λ early. one m c lo early (second.history m c early at))
    (λ late. two (λ d may. one mid.moment d first.later (omega arith) may) m c (omega (arith, late)) hi at)
    (le_or mid.moment m)

pub stays_clear_here : (state : State) (q : List ℕ) → IsClearWay state q → StaysClear state state q
stays_clear_here state q clear m c lo hi at =
    let is : m ≡ state.moment = omega (arith, lo, hi) in
    clear c (subst (λ (k : ℕ). state.images k c) is at)

-- what is clear at each moment of a run is clear after it
pub clear_after : (S : View → View → Type 0) (old new : State) (q : List ℕ) → LeavesAfter S old new → StaysClear old new q → IsClearWay new q
clear_after S old new q run stays c may = stays new.moment c run.later (omega arith) may

-- before the first call
pub nothing_yet : (S : View → View → Type 0) (state : State) → ((u : View) → S u u) → LeavesAfter S state state
nothing_yet S state same = record {
  later = omega arith;
  history = λ m c le at. at;
  keeps = λ m c le at. at;
  each = λ m c lo hi at.
      let is : m ≡ state.moment = omega (arith, lo, hi) in
      (c, subst (λ (k : ℕ). state.images k c) is at, same (content c));
}

-- where nothing changes
pub stays_leaves : (S : View → View → Type 0) (old new : State) → ((u : View) → S u u) → Passes Stays old new → LeavesAfter S old new
stays_leaves S old new same time = one_call S Stays old new same
    (λ d c may is. let P : Image → Type 0 = λ i. S (content d) (content i) in subst P (sym is) (same (content d)))
    time

-- an image that may be left after nothing changed could be left before
pub stays_may : (old new : State) → Passes Stays old new → (c : Image) → may_leave new c → may_leave old c
stays_may old new time c may = let was = time.follows c may in let P : Image → Type 0 = λ i. may_leave old i in subst P (sym was.2) was.1

pub still_on : (old mid new : State) → IsStill old mid → IsStill mid new → IsStill old new
still_on old mid new first second = record {
  passes = record {
    later = omega (arith, first.passes.later, second.passes.later);
    history = λ m c le at. first.passes.history m c le (second.passes.history m c (omega (arith, le, first.passes.later)) at);
    keeps = λ m c le at. second.passes.keeps m c (omega (arith, le, first.passes.later)) (first.passes.keeps m c le at);
    within = λ m c lo hi at. inl (⊎_elim
        (λ early. ⊎_elim (λ was. was) (λ is. stays_may old mid first.passes c is) (first.passes.within m c lo early (second.passes.history m c early at)))
        (λ late. stays_may old mid first.passes c (⊎_elim (λ was. was) (λ is. stays_may mid new second.passes c is) (second.passes.within m c late hi at)))
        (le_or mid.moment m));
    follows = λ c may. (c, stays_may old mid first.passes c (stays_may mid new second.passes c may), refl);
  };
  seen = second.seen ∙ first.seen;
  sure = λ n is. first.sure n (second.sure n is);
}

pub same_same : (u : View) → Same u u
same_same u q = refl

pub same_twice : (u v w : View) → Same u v → Same v w → Same u w
same_twice u v w first second q = second q ∙ first q
