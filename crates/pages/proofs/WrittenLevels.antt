-- Sections of levels that are written.
use Rattle.std.proofs.Common.{◌≡◌, ℕ, zero, suc, ◌+◌, ◌*◌, ◌^◌, ◌<◌, ◌≤◌, List, [], ◌∷◌, length, map, refl, ap, subst, arith}
use Rattle.std.specs.List.{AllByRecursion}
use Rattle.std.proofs.lemmas.List.{append-nil}
use Rattle.bits.specs.Codec.{Appends}
use Rattle.hybrid_rle.specs.Hybrid.{IsHybrid}
use Rattle.schema.specs.Stripe.{Leaf, Entry}
use Rattle.schema.specs.Law.{IsEntryOf}
use Rattle.pages.specs.Page.{repetitions, definitions}
use Rattle.pages.specs.Headers.{AreLevelsIn}
use Rattle.pages.specs.inner.Put.{Puts}

-- numbers that are seen as they are
pub seen_same : (xs : List ℕ) → map (λ n. n) xs ≡ xs
seen_same [] = refl
seen_same (x ∷ xs) = ap (λ (t : List ℕ). x ∷ t) (seen_same xs)

pub levels_put : (g w : ℕ) (levels old new : List ℕ) → 0 < g → g < 2 ^ w → 2 ^ w ≤ 2 * g → Appends (λ bytes. IsHybrid w bytes (length levels) levels) (80 + 9 * length levels) old new → Puts (AreLevelsIn g levels) (80 + 9 * length levels) old new
levels_put zero w levels old new some holds least p = absurd (omega (arith, some))
levels_put (suc g) w levels old new some holds least p = record {
  text = p.text;
  joined = p.joined;
  is = (record { width = w; used = length p.text; holds = holds; least = least; packed = subst (λ (t : List ℕ). IsHybrid w t (length levels) levels (length p.text)) (append-nil p.text) (p.stands []) }, refl);
  short = p.short;
}

pub repetitions_within : (leaf : Leaf) (es : List Entry) → AllByRecursion (IsEntryOf leaf) es → AllByRecursion (λ l. l ≤ leaf.greatest_repetition) (repetitions es)
repetitions_within leaf [] all = tt
repetitions_within leaf (e ∷ es) (here, all) = (here.repetition, repetitions_within leaf es all)

pub definitions_within : (leaf : Leaf) (es : List Entry) → AllByRecursion (IsEntryOf leaf) es → AllByRecursion (λ l. l ≤ leaf.greatest_definition) (definitions es)
definitions_within leaf [] all = tt
definitions_within leaf (e ∷ es) (here, all) = (here.definition, definitions_within leaf es all)
