use Rattle.std.proofs.Common.{rules, ◌≡◌, ◌≤◌, ◌∷◌, [], ℕ, length, slice_index_or, ap₂, ◌∙◌, arith}
use Rattle.rowtext.proofs.Sorting.{pair, swapped}
use Rattle.rowtext.proofs.object_text.swap.Goals as goal

pub returns-clause-swapped : goal.returns-clause-swapped
returns-clause-swapped c =
    let order = c.args.order.now in
    let starts = c.args.starts.now in
    let a = slice_index_or starts 0 0 in
    let m = slice_index_or starts 1 0 in
    let two : length order ≡ 2 = search rules in
    let first : slice_index_or order 0 0 ≡ 1 = search rules in
    let second : slice_index_or order 1 0 ≡ 0 = search rules in
    let both : length starts ≡ 2 = search rules in
    let here : a ≡ c.args.from = search rules in
    let forward : a ≤ m = omega (arith, c.if-start-middle.false) in
    let within : m ≤ length c.args.text.now.items = omega (arith, c.if-middle-len.false, c.len.ensures) in
    swapped c.args.text.now.items c.extend_within.new.self.items c.cut_out.new.self.items order starts c.args.from a m (pair order 0 0 two ∙ ap₂ (λ (x y : ℕ). x ∷ y ∷ []) first second) (pair starts 0 0 both) here forward within c.in_ok-extend_within.ensures.items c.cut_out.ensures.items
