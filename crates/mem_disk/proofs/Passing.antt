-- Records that go on by a call.
use Rattle.std.proofs.Common.{◌≡◌, ◌<◌, ◌≤◌, ◌⊎◌, inl, inr, ⊎_elim, ℕ, zero, suc, ◌+◌, List, [], ◌∷◌, ◌++◌, length, take, IsTrue, refl, sym, ◌∙◌, ap, subst, arith, length-append}
use Rattle.disk.specs.State.{Image, may_leave}
use Rattle.disk.specs.Calls.{Passes, Stays, IsStill}
use Rattle.mem_disk.specs.declared.call.Call.{Call}
use Rattle.mem_disk.specs.Loose.{Loose, empty, after, replayed, image_of, MayLeave}
use Rattle.mem_disk.specs.States.{state_with}
use Rattle.mem_disk.specs.Laws.{of_all, now_leaves}

pub replayed_more : (l : Loose) (calls : List Call) (call : Call) → replayed l (calls ++ call ∷ []) ≡ after (replayed l calls) call
replayed_more l [] call = refl
replayed_more l (c ∷ calls) call = replayed_more (after l c) calls call

within_take : (calls : List Call) (call : Call) (k : ℕ) → k ≤ length calls → take k (calls ++ call ∷ []) ≡ take k calls
within_take calls call zero le = refl
within_take [] call (suc k) le = absurd (omega (arith, le))
within_take (x ∷ calls) call (suc k) le = ap (λ (l : List Call). x ∷ l) (within_take calls call k (omega (arith, le)))

-- what a stop may leave now
pub leaves_now : (calls : List Call) (f r : ℕ) (c : Image) → may_leave (state_with calls f r) c → MayLeave (replayed empty calls) c
leaves_now calls f r c may = subst (λ (l : Loose). MayLeave l c) (of_all calls) may

-- what a stop may leave after one call more
pub leaves_after : (old new : List Call) (call : Call) → new ≡ old ++ call ∷ [] → (f r : ℕ) (c : Image) → may_leave (state_with new f r) c → MayLeave (after (replayed empty old) call) c
leaves_after old new call is f r c may = subst (λ (l : Loose). MayLeave l c) (ap (replayed empty) is ∙ replayed_more empty old call) (leaves_now new f r c may)

module _ (Step : Image → Image → Type 0) (calls : List Call) (call : Call) (f g r s : ℕ) where
  long : length (calls ++ call ∷ []) ≡ length calls + 1
  long = length-append calls (call ∷ [])

  passes_more : ((c : Image) → MayLeave (after (replayed empty calls) call) c → (d : Image) × MayLeave (replayed empty calls) d × Step d c)
      → Passes Step (state_with calls f r) (state_with (calls ++ call ∷ []) g s)
  passes_more follows = record {
    later = omega (arith, long);
    history = λ m c le at. subst (λ (x : List Call). MayLeave (replayed empty x) c) (within_take calls call m le) at;
    keeps = λ m c le at. subst (λ (x : List Call). MayLeave (replayed empty x) c) (sym (within_take calls call m le)) at;
    within = λ m c lo hi at. inr (let is : m ≡ length (calls ++ call ∷ []) = omega (arith, long, lo, hi) in subst (λ (k : ℕ). MayLeave (replayed empty (take k (calls ++ call ∷ []))) c) is at);
    follows = λ c may.
        let was = follows c (leaves_after calls (calls ++ call ∷ []) call refl g s c may) in
        (was.0, now_leaves calls f r was.0 was.1, was.2);
  }

-- a record that goes on by this call
pub passes_by : (Step : Image → Image → Type 0) (old new : List Call) (f g r s : ℕ) (call : Call) → new ≡ old ++ call ∷ []
    → ((c : Image) → MayLeave (after (replayed empty old) call) c → (d : Image) × MayLeave (replayed empty old) d × Step d c)
    → Passes Step (state_with old f r) (state_with new g s)
passes_by Step old new f g r s call is follows = subst (λ (x : List Call). Passes Step (state_with old f r) (state_with x g s)) (sym is) (passes_more Step old call f g r s follows)

-- one after the other, where between them a stop may leave what it may before or after both
pub passes_on : (First Second Step : Image → Image → Type 0) (old mid new : List Call) (f g r s : ℕ)
    → Passes First (state_with old f r) (state_with mid f r) → Passes Second (state_with mid f r) (state_with new g s)
    → ((c : Image) → may_leave (state_with mid f r) c → may_leave (state_with old f r) c ⊎ may_leave (state_with new g s) c)
    → ((d e c : Image) → First d e → Second e c → Step d c)
    → Passes Step (state_with old f r) (state_with new g s)
passes_on First Second Step old mid new f g r s one two between join = record {
  later = let a = one.later in let b = two.later in omega (arith, a, b);
  history = λ m c le at. one.history m c le (two.history m c (let a = one.later in omega (arith, a, le)) at);
  keeps = λ m c le at. two.keeps m c (let a = one.later in omega (arith, a, le)) (one.keeps m c le at);
  within = λ m c lo hi at. ⊎_elim
      (λ le. ⊎_elim (λ was. inl was) (λ now. between c now) (one.within m c lo le (two.history m c le at)))
      (λ lt. ⊎_elim (λ now. between c now) (λ now. inr now) (two.within m c lt hi at))
      (le_or_lt m (length mid));
  follows = λ c may.
      let e = two.follows c may in
      let d = one.follows e.0 e.1 in
      (d.0, d.1, join d.0 e.0 c d.2 e.2);
}
  where
    le_or_lt : (n m : ℕ) → (n ≤ m) ⊎ (m < n)
    le_or_lt zero m = inl (omega arith)
    le_or_lt (suc n) zero = inr (omega arith)
    le_or_lt (suc n) (suc m) = ⊎_elim (λ le. inl (omega (arith, le))) (λ lt. inr (omega (arith, lt))) (le_or_lt n m)

-- a record that stays
pub passes_still : (Step : Image → Image → Type 0) (old new : List Call) (f g r s : ℕ) → new ≡ old → ((d : Image) → Step d d) → Passes Step (state_with old f r) (state_with new g s)
passes_still Step old new f g r s is still = subst (λ (x : List Call). Passes Step (state_with old f r) (state_with x g s)) (sym is) (record {
  later = omega arith;
  history = λ m c le at. at;
  keeps = λ m c le at. at;
  within = λ m c lo hi at. absurd (omega (arith, lo, hi));
  follows = λ c may. (c, may, still c);
})

pub is_still : (old new : List Call) (f g r s : ℕ) → new ≡ old → IsStill (state_with old f r) (state_with new g s)
is_still old new f g r s is = record {
  passes = passes_still Stays old new f g r s is (λ d. refl);
  seen = ap (λ (x : List Call). image_of (replayed empty x)) is;
  sure = λ n. subst (λ (x : List Call). IsTrue ((replayed empty x).doubted n) → IsTrue ((replayed empty old).doubted n)) (sym is) (λ d. d);
}

-- a record that goes on by a call is as after it
pub now_after : (old new : List Call) (call : Call) → new ≡ old ++ call ∷ [] → replayed empty new ≡ after (replayed empty old) call
now_after old new call is = ap (replayed empty) is ∙ replayed_more empty old call
