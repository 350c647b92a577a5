-- Entries without value off each of some columns.
use Rattle.std.proofs.Common.{ℕ, zero, suc, ◌≡◌, ◌+◌, ◌<◌, List, [], ◌∷◌, ◌++◌, map, length, get_or, ap, sym, subst, ◌∙◌, arith, add-one, None, Option}
use Rattle.std.specs.List.{AllByRecursion}
use Rattle.bits.specs.declared.refusal.Refusal.{Refusal}
use Rattle.schema.specs.Values.{ValueTree}
use Rattle.schema.specs.Stripe.{Entry, entry}
use Rattle.assemble.specs.Sources.{Begins}
use Rattle.assemble.specs.Columns.{Columns, Fronts, level, AreAlike, Want, Suits, AllSuit}
use Rattle.assemble.specs.inner.Fronts.{nones}
use Rattle.assemble.specs.inner.Steps.{AreAbove, IsAbsentFaulty, IsSkipFaulty}
use Rattle.assemble.proofs.Fronts.{alike_parts}
use Rattle.assemble.proofs.Standing.{At}
use Rattle.assemble.proofs.Told.{tells_more}

-- one more
skip_at : (r d i : ℕ) (old now new : Columns) → Fronts (nones r d i) old now → At i (entry r d None) now new → Fronts (nones r d (suc i)) old new
skip_at r d zero old [] new h a = absurd a
skip_at r d zero old (n ∷ now) [] h a = absurd a
skip_at r d zero old (n ∷ now) (m ∷ new) h a = subst (λ o. Fronts (nones r d 1) o (m ∷ new)) (sym h) (a.0, a.1)
skip_at r d (suc i) [] now new h a = absurd h
skip_at r d (suc i) (o ∷ old) [] new h a = absurd h
skip_at r d (suc i) (o ∷ old) (n ∷ now) [] h a = absurd a
skip_at r d (suc i) (o ∷ old) (n ∷ now) (m ∷ new) h a = (h.0 ∙ ap (λ t. entry r d None ++ t) a.0, skip_at r d i old now new h.1 a.1)

pub skip_step : (r d i : ℕ) (old now new : Columns) → Fronts (nones r d i) old now → At i (entry r d None) now new → Fronts (nones r d (i + 1)) old new
skip_step r d i old now new h a = subst (λ n. Fronts (nones r d n) old new) (sym (add-one i)) (skip_at r d i old now new h a)

-- what has the levels of these
pub begins_alike : (w o rest : List Entry) (r d : ℕ) (v : Option ValueTree) → map level w ≡ map level o → w ≡ entry r d v ++ rest → Begins o r d
begins_alike w [] rest r d v h is = let e : map level (entry r d v ++ rest) ≡ [] = ap (map level) (sym is) ∙ h in absurd (cc)
begins_alike w (e ∷ o) rest r d v h is =
    let all : (r, d) ∷ map level rest ≡ level e ∷ map level o = ap (map level) (sym is) ∙ h in
    let first : (r, d) ≡ level e = cc in
    (sym (ap (λ p. p.0) first), sym (ap (λ p. p.1) first))

levels_there : (r d i n : ℕ) (old now whole rests : Columns) → i < n → i < length now → Fronts (nones r d i) old now → AreAlike whole old → Fronts (nones r d n) whole rests → Begins (get_or now i []) r d
levels_there r d i zero old now whole rests lt size h w g = absurd (omega (arith, lt))
levels_there r d i (suc n) old [] whole rests lt size h w g = absurd (omega (arith, size))
levels_there r d i (suc n) old (z ∷ now) [] rests lt size h w g = absurd g
levels_there r d i (suc n) old (z ∷ now) (v ∷ whole) [] lt size h w g = absurd g
levels_there r d zero (suc n) old (z ∷ now) (v ∷ whole) (t ∷ rests) lt size h w g =
    let p = alike_parts v z whole now (subst (AreAlike (v ∷ whole)) h w) in
    begins_alike v z t r d None p.0 g.0
levels_there r d (suc i) (suc n) [] (z ∷ now) (v ∷ whole) (t ∷ rests) lt size h w g = absurd h
levels_there r d (suc i) (suc n) (o ∷ old) (z ∷ now) (v ∷ whole) (t ∷ rests) lt size h w g =
    let p = alike_parts v o whole old w in
    levels_there r d i n old now whole rests (omega (arith, lt)) (omega (arith, size)) h.1 p.1 g.1

suits_there : (r d i : ℕ) (old now : Columns) (ws : List Want) → i < length ws → i < length now → Fronts (nones r d i) old now → AreAbove d ws → AllSuit ws old → (w : Want) × (d < w.full) × AllByRecursion (Suits w) (get_or now i [])
suits_there r d i old now [] lt size h a s = absurd (omega (arith, lt))
suits_there r d i old [] (w ∷ ws) lt size h a s = absurd (omega (arith, size))
suits_there r d zero old (z ∷ now) (w ∷ ws) lt size h a s =
    let here = subst (AllSuit (w ∷ ws)) h s in
    (w, a.0, here.0)
suits_there r d (suc i) [] (z ∷ now) (w ∷ ws) lt size h a s = absurd h
suits_there r d (suc i) (o ∷ old) (z ∷ now) (w ∷ ws) lt size h a s = suits_there r d i old now ws (omega (arith, lt)) (omega (arith, size)) h.1 a.1 s.1

pub skip_faulty : (r d i n : ℕ) (old now : Columns) (e : Refusal) → i < n → i < length now → Fronts (nones r d i) old now → IsAbsentFaulty r d (get_or now i []) e → IsSkipFaulty r d n old e
skip_faulty r d i n old now e lt size h bad = tells_more _ _ _ _
    (λ none whole rests w g. none (levels_there r d i n old now whole rests lt size h w g))
    (λ none ws count a s. let there = suits_there r d i old now ws (omega (arith, lt, count)) size h a s in none there.0 there.1 there.2) e bad
