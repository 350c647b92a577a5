-- Rising places, and what is kept of a row at them, one run of places after another.
use Rattle.std.proofs.Common.{ℕ, zero, suc, ◌≡◌, ◌+◌, ◌-◌, ◌<◌, ◌≤◌, Bool, true, false, not, ◌||◌, nat_eq, List, [], ◌∷◌, ◌++◌, refl, ap, sym, subst, ◌∙◌, arith, eqb-true, add-one, append_assoc}
use Rattle.std.proofs.lemmas.List.{append-nil}
use Rattle.std.specs.Prelude.{cond}
use Rattle.std.proofs.lemmas.Bool.{false≢true}
use Rattle.std.proofs.lemmas.Bool.Decides.{nat_tests}
use Rattle.lists.proofs.Numbers.{nat_eq_itself as equal_here, nat_eq_above as not_equal}
use Rattle.schema.specs.Cutting.{is_among}
use Rattle.schema.specs.Keys.{values_besides, width}
use Rattle.schema.specs.Values.{ValueTree, ValueTrees, no_values, value as item}
use Rattle.scan.specs.Left.{followed_by}
use Rattle.scan.specs.inner.Parts.{wanted_from}

-- ---- rising places

-- the places rise, from this one on
abbrev pub IsRising : ℕ → List ℕ → Type 0
IsRising i [] = Unit {0}
IsRising i (p ∷ ps) = (i ≤ p) × IsRising (suc p) ps

rising_down : (i j : ℕ) (ps : List ℕ) → i ≤ j → IsRising j ps → IsRising i ps
rising_down i j [] le h = tt
rising_down i j (p ∷ ps) le h = (omega (arith, le, h.0), h.1)

rising_front : (i : ℕ) (ps qs : List ℕ) → IsRising i (ps ++ qs) → IsRising i ps
rising_front i [] qs h = tt
rising_front i (p ∷ ps) qs h = (h.0, rising_front (suc p) ps qs h.1)

pub rising_rest : (i : ℕ) (ps qs : List ℕ) → IsRising i (ps ++ qs) → IsRising i qs
rising_rest i [] qs h = h
rising_rest i (p ∷ ps) qs h = let le = h.0 in rising_down i (suc p) qs (omega (arith, le)) (rising_rest (suc p) ps qs h.1)

not_equal_past : (p i : ℕ) → p < i → nat_eq p i ≡ false
not_equal_past p i lt = grind (arith, nat_tests)

none_below : (i j : ℕ) (ps : List ℕ) → i < j → IsRising j ps → is_among ps i ≡ false
none_below i j [] lt h = refl
none_below i j (p ∷ ps) lt h =
    let le = h.0 in
    ap (λ (b : Bool). b || is_among ps i) (not_equal p i (omega (arith, lt, le))) ∙ none_below i (suc p) ps (omega (arith, lt, le)) h.1

-- ---- what is kept of a row

-- the values at these places, where the first of the row's has the place i
abbrev pub kept_at : List ℕ → ℕ → ValueTrees → ValueTrees
kept_at ps i row = values_besides (λ k. not (is_among ps k)) i row

pub same_kept : (f g : ℕ → Bool) (i : ℕ) (row : ValueTrees) → ((k : ℕ) → i ≤ k → k < i + width row → f k ≡ g k) → values_besides f i row ≡ values_besides g i row
same_kept f g i no_values same = refl
same_kept f g i (item v vs) same =
    let here : f i ≡ g i = same i (omega arith) (omega arith) in
    let rest = same_kept f g (suc i) vs (λ k le lt. same k (omega (arith, le)) (omega (arith, lt))) in
    ap (λ (b : Bool). cond b (values_besides f (suc i) vs) (item v (values_besides f (suc i) vs))) here
    ∙ ap (λ (x : ValueTrees). cond (g i) x (item v x)) rest

pub none_kept : (i : ℕ) (row : ValueTrees) → kept_at [] i row ≡ no_values
none_kept i no_values = refl
none_kept i (item v vs) = none_kept (suc i) vs

-- a place before the row's
kept_past : (p : ℕ) (ps : List ℕ) (i : ℕ) (row : ValueTrees) → p < i → kept_at (p ∷ ps) i row ≡ kept_at ps i row
kept_past p ps i row lt = same_kept (λ k. not (is_among (p ∷ ps) k)) (λ k. not (is_among ps k)) i row
    (λ k le more. ap (λ (b : Bool). not (b || is_among ps k)) (not_equal_past p k (omega (arith, lt, le))))

kept_one : (ps : List ℕ) (i : ℕ) (v : ValueTree) (vs : ValueTrees) (b : Bool) → is_among ps i ≡ b → kept_at ps i (item v vs) ≡ cond (not b) (kept_at ps (suc i) vs) (item v (kept_at ps (suc i) vs))
kept_one ps i v vs b is = ap (λ (c : Bool). cond (not c) (kept_at ps (suc i) vs) (item v (kept_at ps (suc i) vs))) is

-- what is kept at some places, and then at others that come after them
pub kept_then : (ps qs : List ℕ) (i : ℕ) (row : ValueTrees) → IsRising i (ps ++ qs) → kept_at (ps ++ qs) i row ≡ followed_by (kept_at ps i row) (kept_at qs i row)
kept_then ps qs i no_values rise = refl
kept_then [] qs i (item v vs) rise = ap (λ (x : ValueTrees). followed_by x (kept_at qs i (item v vs))) (sym (none_kept i (item v vs)))
kept_then (p ∷ ps) qs i (item v vs) rise = by (nat_eq p i) refl (kept_then ps qs (suc i) vs) (kept_then (p ∷ ps) qs (suc i) vs)
  where
    by : (b : Bool) → nat_eq p i ≡ b → (IsRising (suc i) (ps ++ qs) → kept_at (ps ++ qs) (suc i) vs ≡ followed_by (kept_at ps (suc i) vs) (kept_at qs (suc i) vs))
        → (IsRising (suc i) (p ∷ (ps ++ qs)) → kept_at (p ∷ (ps ++ qs)) (suc i) vs ≡ followed_by (kept_at (p ∷ ps) (suc i) vs) (kept_at qs (suc i) vs))
        → kept_at (p ∷ (ps ++ qs)) i (item v vs) ≡ followed_by (kept_at (p ∷ ps) i (item v vs)) (kept_at qs i (item v vs))
    by true e later same =
        let at : p ≡ i = eqb-true p i e in
        let le : p < suc i = omega (arith, at) in
        let next : IsRising (suc i) (ps ++ qs) = subst (λ (n : ℕ). IsRising (suc n) (ps ++ qs)) at rise.1 in
        let away : is_among qs i ≡ false = none_below i (suc i) qs (omega arith) (rising_rest (suc i) ps qs next) in
        kept_one (p ∷ (ps ++ qs)) i v vs true (ap (λ (b : Bool). b || is_among (ps ++ qs) i) e)
        ∙ ap (item v) (kept_past p (ps ++ qs) (suc i) vs le ∙ later next ∙ ap (λ (x : ValueTrees). followed_by x (kept_at qs (suc i) vs)) (sym (kept_past p ps (suc i) vs le)))
        ∙ ap (λ (x : ValueTrees). followed_by (item v (kept_at (p ∷ ps) (suc i) vs)) x) (sym (kept_one qs i v vs false away))
        ∙ ap (λ (x : ValueTrees). followed_by x (kept_at qs i (item v vs))) (sym (kept_one (p ∷ ps) i v vs true (ap (λ (b : Bool). b || is_among ps i) e)))
    by false e later same =
        let le = rise.0 in
        let ne : p ≡ i → ⊥ = λ q. false≢true (sym e ∙ ap (λ (n : ℕ). nat_eq n i) q ∙ equal_here i) in
        let more : suc i ≤ p = omega (arith, le, ne) in
        let next : IsRising (suc i) (p ∷ (ps ++ qs)) = (more, rise.1) in
        let away : is_among (p ∷ (ps ++ qs)) i ≡ false = none_below i (suc i) (p ∷ (ps ++ qs)) (omega arith) next in
        let front : is_among (p ∷ ps) i ≡ false = none_below i (suc i) (p ∷ ps) (omega arith) (rising_front (suc i) (p ∷ ps) qs next) in
        let rest : is_among qs i ≡ false = none_below i (suc i) qs (omega arith) (rising_rest (suc i) (p ∷ ps) qs next) in
        kept_one (p ∷ (ps ++ qs)) i v vs false away ∙ same next
        ∙ ap (λ (x : ValueTrees). followed_by (kept_at (p ∷ ps) (suc i) vs) x) (sym (kept_one qs i v vs false rest))
        ∙ ap (λ (x : ValueTrees). followed_by x (kept_at qs i (item v vs))) (sym (kept_one (p ∷ ps) i v vs false front))

-- ---- the wanted places

pub wanted_rise : (places : List ℕ) (place n : ℕ) → IsRising place (wanted_from places place n)
wanted_rise places place zero = tt
wanted_rise places place (suc n) = by (is_among places place) (wanted_rise places (suc place) n)
  where
    by : (b : Bool) → IsRising (suc place) (wanted_from places (suc place) n) → IsRising place (cond b (place ∷ wanted_from places (suc place) n) (wanted_from places (suc place) n))
    by true h = (omega arith, h)
    by false h = rising_down place (suc place) (wanted_from places (suc place) n) (omega arith) h

wanted_among : (places : List ℕ) (place n k : ℕ) → place ≤ k → k < place + n → is_among (wanted_from places place n) k ≡ is_among places k
wanted_among places place zero k le lt = absurd (omega (arith, le, lt))
wanted_among places place (suc n) k le lt = at (nat_eq place k) refl (λ past less. wanted_among places (suc place) n k past less)
  where
    here : (b : Bool) → is_among places place ≡ b → is_among (cond b (place ∷ wanted_from places (suc place) n) (wanted_from places (suc place) n)) place ≡ is_among places place
    here true is = ap (λ (x : Bool). x || is_among (wanted_from places (suc place) n) place) (equal_here place) ∙ sym is
    here false is = none_below place (suc place) (wanted_from places (suc place) n) (omega arith) (wanted_rise places (suc place) n) ∙ sym is

    later : nat_eq place k ≡ false → (b : Bool) → is_among (wanted_from places (suc place) n) k ≡ is_among places k → is_among (cond b (place ∷ wanted_from places (suc place) n) (wanted_from places (suc place) n)) k ≡ is_among places k
    later e true rest = ap (λ (x : Bool). x || is_among (wanted_from places (suc place) n) k) e ∙ rest
    later e false rest = rest

    at : (c : Bool) → nat_eq place k ≡ c → (suc place ≤ k → k < suc place + n → is_among (wanted_from places (suc place) n) k ≡ is_among places k) → is_among (wanted_from places place (suc n)) k ≡ is_among places k
    at true e rest = subst (λ (m : ℕ). is_among (wanted_from places place (suc n)) m ≡ is_among places m) (eqb-true place k e) (here (is_among places place) refl)
    at false e rest =
        let ne : place ≡ k → ⊥ = λ q. false≢true (sym e ∙ ap (λ (m : ℕ). nat_eq m k) q ∙ equal_here k) in
        later e (is_among places place) (rest (omega (arith, le, ne)) (omega (arith, lt)))

-- what is wanted is among the places
pub wanted_only : (places : List ℕ) (place n q : ℕ) → is_among (wanted_from places place n) q ≡ true → is_among places q ≡ true
wanted_only places place zero q h = absurd (false≢true h)
wanted_only places place (suc n) q h = by (is_among places place) refl (wanted_only places (suc place) n q) h
  where
    at : (c : Bool) → nat_eq place q ≡ c → is_among places place ≡ true → (is_among (wanted_from places (suc place) n) q ≡ true → is_among places q ≡ true) → (c || is_among (wanted_from places (suc place) n) q) ≡ true → is_among places q ≡ true
    at true e is rest h = subst (λ (m : ℕ). is_among places m ≡ true) (eqb-true place q e) is
    at false e is rest h = rest h

    by : (b : Bool) → is_among places place ≡ b → (is_among (wanted_from places (suc place) n) q ≡ true → is_among places q ≡ true)
        → is_among (cond b (place ∷ wanted_from places (suc place) n) (wanted_from places (suc place) n)) q ≡ true → is_among places q ≡ true
    by true is rest h = at (nat_eq place q) refl is rest h
    by false is rest h = rest h

-- a row of so many values keeps the same at the wanted places
pub kept_wanted : (places : List ℕ) (n : ℕ) (row : ValueTrees) → width row ≡ n → kept_at (wanted_from places 0 n) 0 row ≡ kept_at places 0 row
kept_wanted places n row is =
    same_kept (λ k. not (is_among (wanted_from places 0 n) k)) (λ k. not (is_among places k)) 0 row
    (λ k le lt. ap not (wanted_among places 0 n k le (omega (arith, lt, is))))

-- ---- the wanted places, one after another

module _ (places : List ℕ) (place total : ℕ) (more : place < total) where
  left_here : wanted_from places place (total - place) ≡ wanted_from places place (suc (total - (place + 1)))
  left_here = let e : total - place ≡ suc (total - (place + 1)) = omega (arith, more) in ap (wanted_from places place) e

  pub place_taken : (old new : List ℕ) → is_among places place ≡ true → new ≡ old ++ place ∷ [] → new ++ wanted_from places (place + 1) (total - (place + 1)) ≡ old ++ wanted_from places place (total - place)
  place_taken old new wanted put =
      let left = total - (place + 1) in
      ap (λ (ps : List ℕ). ps ++ wanted_from places (place + 1) left) put
      ∙ append_assoc old (place ∷ []) (wanted_from places (place + 1) left)
      ∙ ap (λ (n : ℕ). old ++ (place ∷ wanted_from places n left)) (add-one place)
      ∙ ap (λ (b : Bool). old ++ cond b (place ∷ wanted_from places (suc place) left) (wanted_from places (suc place) left)) (sym wanted)
      ∙ ap (λ (ps : List ℕ). old ++ ps) (sym left_here)

  pub place_passed : (old : List ℕ) → is_among places place ≡ false → old ++ wanted_from places (place + 1) (total - (place + 1)) ≡ old ++ wanted_from places place (total - place)
  place_passed old not_wanted =
      let left = total - (place + 1) in
      ap (λ (n : ℕ). old ++ wanted_from places n left) (add-one place)
      ∙ ap (λ (b : Bool). old ++ cond b (place ∷ wanted_from places (suc place) left) (wanted_from places (suc place) left)) (sym not_wanted)
      ∙ ap (λ (ps : List ℕ). old ++ ps) (sym left_here)

pub no_place_left : (places : List ℕ) (place total : ℕ) → total ≤ place → (old : List ℕ) → old ++ wanted_from places place (total - place) ≡ old
no_place_left places place total le old =
    let e : total - place ≡ 0 = omega (arith, le) in
    ap (λ (n : ℕ). old ++ wanted_from places place n) e ∙ append-nil old
