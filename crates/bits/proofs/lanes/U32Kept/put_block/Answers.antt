use Rattle.std.proofs.Common.{◌++◌, ℕ, List, ap, sym, ◌∙◌}
use Rattle.std.proofs.lemmas.List.{map-id}
use Rattle.bits.proofs.Loads.{eight-items}
use Rattle.bits.proofs.lanes.U32Kept.put_block.Goals as goal

pub returns-clause-stands : goal.returns-clause-stands
returns-clause-stands c =
    let old = c.args.numbers.now.items in
    let all = c.in_ok-extend_from_slice.ensures.items ∙ ap (λ (t : List ℕ). old ++ t) (eight-items c.args.block.now c.told-block) in
    map-id c.extend_from_slice.new.self.items ∙ all ∙ ap (λ (t : List ℕ). t ++ c.args.block.now) (sym (map-id old))
