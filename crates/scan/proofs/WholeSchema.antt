-- A schema cut to all its leaves is the same.
use Rattle.std.proofs.Common.{ℕ, zero, suc, ◌≡◌, ◌+◌, ◌<◌, Bool, true, false, ◌||◌, nat_eq, List, [], ◌∷◌, ◌++◌, length, Option, Some, None, refl, ap, sym, subst, ◌∙◌, arith, add-zero, add-one, length-append}
use Rattle.std.specs.Prelude.{cond}
use Rattle.std.specs.List.{AllByRecursion}
use Rattle.std.proofs.lemmas.Bool.Decides.{nat_tests}
use Rattle.schema.specs.declared.value.Repetition.{Repetition}
use Rattle.schema.specs.declared.annotation.GroupAnnotation.{GroupAnnotation}
use Rattle.schema.specs.Shape.{Field, leaf, fields, Fields, no_fields, field}
use Rattle.schema.specs.Stripe.{leaves, leaves_from, leaves_of}
use Rattle.schema.specs.Law.{IsFilled, IsValid, AreValid, IsSchema}
use Rattle.schema.specs.Cutting.{is_among, group_of, kept, cut, cut_each, cut_to, ArePlaces}
use Rattle.schema.proofs.Few.{sizes}
use Rattle.assemble.proofs.Starting.{has_leaf}
use Rattle.scan.proofs.WholeFields.{AllAt, first_of, others_of}

group_whole : (n : List ℕ) (r : Repetition) (a : Option GroupAnnotation) (fs : Fields) → IsFilled fs → group_of n r a fs ≡ Some (fields n r a fs)
group_whole n r a no_fields some = absurd some
group_whole n r a (field f fs) some = refl

mutual
  cut_whole : (w : ℕ → Bool) (at : ℕ) (f : Field) → IsValid f → AllAt w true at (length (leaves f)) → cut w at f ≡ Some f
  cut_whole w at (leaf n r t) valid all =
      let e : w at ≡ true = ap w (sym (add-zero at)) ∙ all 0 (omega arith) in
      ap (λ (b : Bool). cond b (Some (leaf n r t)) None) e
  cut_whole w at (fields n r a fs) valid all = ap (group_of n r a) (each_whole w at 0 fs valid.1 all) ∙ group_whole n r a fs valid.0.some

  each_whole : (w : ℕ → Bool) (at i : ℕ) (fs : Fields) → AreValid fs → AllAt w true at (length (leaves_from i fs)) → cut_each w at fs ≡ fs
  each_whole w at i no_fields valid all = refl
  each_whole w at i (field f fs) valid all =
      ap (λ (o : Option Field). kept o (cut_each w (at + length (leaves f)) fs)) (cut_whole w at f valid.0 (first_of w true at i f fs all))
      ∙ ap (field f) (each_whole w (at + length (leaves f)) (suc i) fs valid.1 (others_of w true at i f fs all))

-- ---- all places

-- the numbers below n, rising
abbrev pub counted_to : ℕ → List ℕ
counted_to zero = []
counted_to (suc n) = counted_to n ++ n ∷ []

among_end : (ns : List ℕ) (k : ℕ) → is_among (ns ++ k ∷ []) k ≡ true
among_end [] k = let same : nat_eq k k ≡ true = grind (arith, nat_tests) in ap (λ (b : Bool). b || false) same
among_end (m ∷ ns) k = by (nat_eq m k) (among_end ns k)
  where
    by : (b : Bool) → is_among (ns ++ k ∷ []) k ≡ true → (b || is_among (ns ++ k ∷ []) k) ≡ true
    by true rest = refl
    by false rest = rest

among_more : (ns : List ℕ) (k m : ℕ) → is_among ns k ≡ true → is_among (ns ++ m ∷ []) k ≡ true
among_more [] k m h = absurd (cc)
among_more (n ∷ ns) k m h = by (nat_eq n k) (among_more ns k m) h
  where
    by : (b : Bool) → (is_among ns k ≡ true → is_among (ns ++ m ∷ []) k ≡ true) → (b || is_among ns k) ≡ true → (b || is_among (ns ++ m ∷ []) k) ≡ true
    by true rest h = refl
    by false rest h = rest h

among_counted : (n k : ℕ) → k < n → is_among (counted_to n) k ≡ true
among_counted zero k lt = absurd (omega (arith, lt))
among_counted (suc n) k lt = by (nat_eq n k) refl (among_counted n k)
  where
    by : (b : Bool) → nat_eq n k ≡ b → (k < n → is_among (counted_to n) k ≡ true) → is_among (counted_to n ++ n ∷ []) k ≡ true
    by true e rest = let same : n ≡ k = grind (arith, nat_tests) in subst (λ (m : ℕ). is_among (counted_to n ++ n ∷ []) m ≡ true) same (among_end (counted_to n) n)
    by false e rest = let less : k < n = grind (arith, nat_tests) in among_more (counted_to n) k n (rest less)

below_end : (n : ℕ) (ns : List ℕ) (k : ℕ) → AllByRecursion (λ m. m < n) ns → k < n → AllByRecursion (λ m. m < n) (ns ++ k ∷ [])
below_end n [] k all lt = (lt, tt)
below_end n (m ∷ ns) k all lt = (all.0, below_end n ns k all.1 lt)

counted_below : (n m : ℕ) → n < suc m → AllByRecursion (λ k. k < m) (counted_to n)
counted_below zero m le = tt
counted_below (suc n) m le = below_end m (counted_to n) n (counted_below n m (omega (arith, le))) (omega (arith, le))

counted_length : (n : ℕ) → length (counted_to n) ≡ n
counted_length zero = refl
counted_length (suc n) = let a = length-append (counted_to n) (n ∷ []) in let r = counted_length n in omega (arith, a, r)

pub counted_more : (n : ℕ) (ns after : List ℕ) → ns ≡ counted_to n → after ≡ ns ++ n ∷ [] → after ≡ counted_to (n + 1)
counted_more n ns after is put = put ∙ ap (λ (ms : List ℕ). ms ++ n ∷ []) is ∙ ap counted_to (sym (add-one n))

some_leaves : (fs : Fields) → IsFilled fs → AreValid fs → 0 < length (leaves_of fs)
some_leaves no_fields some valid = absurd some
some_leaves (field f fs) some valid = let one = has_leaf f valid.0 in omega (arith, one, sizes 0 f fs)

pub all_places : (fs : Fields) → IsSchema fs → (ns : List ℕ) → ns ≡ counted_to (length (leaves_of fs)) → ArePlaces fs ns
all_places fs schema ns are =
    let n = length (leaves_of fs) in
    let some = some_leaves fs schema.0.some schema.1 in
    let size = ap length are ∙ counted_length n in
    record {
      some = omega (arith, some, size);
      there = subst (AllByRecursion (λ (k : ℕ). k < n)) (sym are) (counted_below n n (omega arith));
    }

pub whole_schema : (fs : Fields) → IsSchema fs → (ns : List ℕ) → ns ≡ counted_to (length (leaves_of fs)) → cut_to ns fs ≡ fs
whole_schema fs schema ns are =
    ap (λ (ms : List ℕ). cut_to ms fs) are ∙ each_whole (is_among (counted_to (length (leaves_of fs)))) 0 0 fs schema.1 (λ k lt. among_counted (length (leaves_of fs)) (0 + k) (omega (arith, lt)))
