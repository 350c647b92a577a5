use Rattle.std.proofs.Common.{◌≡◌, ◌<◌, ◌∙◌, ap, List, ℕ, length, get_or, arith}
use Rattle.std.specs.HashMap.{get_by_text}
use Rattle.mem_disk.specs.declared.name.Name.{Name}
use Rattle.mem_disk.specs.Tables.{placed_at}
use Rattle.mem_disk.proofs.Places.{placed_more}
use Rattle.mem_disk.proofs.names.Names.of.Goals as goal

pub loop-at-preserved : goal.loop-at-preserved
loop-at-preserved c =
    let items = c.args.list.items in
    let is : c.name-item.result ≡ get_or items c.loop-at.at c.name-item.result = c.name-item.is ∙ ap (λ (xs : List Name). get_or xs c.loop-at.at c.name-item.result) c.deref-name-items.ensures.value in
    let lt : c.loop-at.at < length items = let less = c.loop-at-test.true in let long = ap length c.deref-name-items.ensures.value in omega (arith, less, long) in
    placed_more items c.loop-at.at c.name-item.result (get_by_text c.loop-at.places) (get_by_text c.place.new.places) lt is c.loop-at.invariant
    (λ q. c.in_ok-place.ensures q ∙ ap (λ (p : List ℕ). placed_at (get_by_text c.loop-at.places) p c.loop-at.at q) c.deref.ensures)
