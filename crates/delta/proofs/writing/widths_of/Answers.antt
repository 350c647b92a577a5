use Rattle.std.proofs.Common.{◌≡◌, ℕ, List, ◌^◌, ◌<◌, ◌≤◌, ◌∙◌, take, drop, sym, ap, subst, arith}
use Rattle.std.specs.Prelude.{All}
use Rattle.std.proofs.lemmas.List.{take_all, length-drop}
use Rattle.delta.proofs.Putting.{four_parts}
use Rattle.delta.proofs.writing.widths_of.Goals as goal

pub returns-clause-narrow : goal.returns-clause-narrow
returns-clause-narrow c =
    let xs = c.args.numbers.now in
    let second : c.split_at-3.result.0.now ≡ take 32 (drop 32 xs) = c.split_at-3.ensures.front ∙ ap (λ (t : List ℕ). take 32 t) c.split_at-2.ensures.back in
    let third : c.split_at-5.result.0.now ≡ take 32 (drop 64 xs) = c.split_at-5.ensures.front ∙ ap (λ (t : List ℕ). take 32 t) c.split_at-4.ensures.back in
    let fourth : c.split_at-6.result.1.now ≡ take 32 (drop 96 xs) = c.split_at-6.ensures.back ∙ sym (take_all 32 (drop 96 xs) (omega (arith, length-drop 96 xs, c.requires))) in
    four_parts (λ (w : ℕ) (part : List ℕ). All (λ x. x < 2 ^ w) part) xs c.width_of.result c.width_of-2.result c.width_of-3.result c.width_of-4.result
    (subst (λ (part : List ℕ). All (λ x. x < 2 ^ c.width_of.result) part) c.split_at.ensures.front c.width_of.ensures.narrow)
    (subst (λ (part : List ℕ). All (λ x. x < 2 ^ c.width_of-2.result) part) second c.width_of-2.ensures.narrow)
    (subst (λ (part : List ℕ). All (λ x. x < 2 ^ c.width_of-3.result) part) third c.width_of-3.ensures.narrow)
    (subst (λ (part : List ℕ). All (λ x. x < 2 ^ c.width_of-4.result) part) fourth c.width_of-4.ensures.narrow)

pub returns-clause-wide : goal.returns-clause-wide
returns-clause-wide c = λ b m lt all.
    let xs = c.args.numbers.now in
    let P = λ (x : ℕ). x < 2 ^ b in
    let second : c.split_at-3.result.0.now ≡ take 32 (drop 32 xs) = c.split_at-3.ensures.front ∙ ap (λ (t : List ℕ). take 32 t) c.split_at-2.ensures.back in
    let third : c.split_at-5.result.0.now ≡ take 32 (drop 64 xs) = c.split_at-5.ensures.front ∙ ap (λ (t : List ℕ). take 32 t) c.split_at-4.ensures.back in
    let fourth : c.split_at-6.result.1.now ≡ take 32 (drop 96 xs) = c.split_at-6.ensures.back ∙ sym (take_all 32 (drop 96 xs) (omega (arith, length-drop 96 xs, c.requires))) in
    four_parts (λ (w : ℕ) (part : List ℕ). All P part → w ≤ b) xs c.width_of.result c.width_of-2.result c.width_of-3.result c.width_of-4.result
    (λ held. c.width_of.ensures.wide b (subst (λ (part : List ℕ). All P part) (sym c.split_at.ensures.front) held))
    (λ held. c.width_of-2.ensures.wide b (subst (λ (part : List ℕ). All P part) (sym second) held))
    (λ held. c.width_of-3.ensures.wide b (subst (λ (part : List ℕ). All P part) (sym third) held))
    (λ held. c.width_of-4.ensures.wide b (subst (λ (part : List ℕ). All P part) (sym fourth) held))
    m lt all
