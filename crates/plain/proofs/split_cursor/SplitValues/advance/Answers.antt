use Rattle.std.proofs.Common.{◌≡◌, ◌∙◌, List, ℕ, ap, sym, subst, arith, ◌+◌, ◌<◌, ◌≤◌}
use Rattle.plain.specs.ValuesFrom.{size_at, greatest_end}
use Rattle.plain.proofs.Places.{first_there}
use Rattle.plain.proofs.NextValue.{others_there, value_and_others}
use Rattle.plain.proofs.split_cursor.SplitValues.advance.Goals as goal

pub value_at-size-requires : goal.value_at-size-requires
value_at-size-requires c =
    let s = c.args.self.now in
    subst (λ (t : List ℕ). s.at + size_at s.kind s.at t ≤ greatest_end s.kind t) (sym c.deref.ensures.value) (first_there s.kind s.left s.at (greatest_end s.kind s.text.items) s.text.items (omega (arith, c.if-self-eq0.false)) s.there)

pub invariant_of-self : goal.invariant_of-self
invariant_of-self c =
    let s = c.args.self.now in
    let some : 0 < s.left = omega (arith, c.if-self-eq0.false) in
    let size : c.value_at-size.result.1 ≡ size_at s.kind s.at s.text.items = c.value_at-size.ensures.size ∙ ap (λ (t : List ℕ). size_at s.kind s.at t) c.deref.ensures.value in
    let here = first_there s.kind s.left s.at (greatest_end s.kind s.text.items) s.text.items some s.there in
    record {
      there = others_there s.kind s.left s.at c.value_at-size.result.1 (greatest_end s.kind s.text.items) s.text.items some size s.there;
      taken_there = λ x is. let same : x ≡ s.at = cc in subst (λ (k : ℕ). k + size_at s.kind k s.text.items ≤ greatest_end s.kind s.text.items) (sym same) here;
    }

pub returns : goal.returns
returns c =
    let s = c.args.self.now in
    let size : c.value_at-size.result.1 ≡ size_at s.kind s.at s.text.items = c.value_at-size.ensures.size ∙ ap (λ (t : List ℕ). size_at s.kind s.at t) c.deref.ensures.value in
    value_and_others s.kind s.left s.at c.value_at-size.result.1 s.text.items (omega (arith, c.if-self-eq0.false)) size
