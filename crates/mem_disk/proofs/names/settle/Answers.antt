use Rattle.std.proofs.Common.{◌≡◌, ◌≤◌, ◌<◌, arith, sym, ap, subst, drop, add-one, length, List, ℕ, set}
use Rattle.std.proofs.lemmas.List.{take_at}
use Rattle.mem_disk.specs.declared.name.Name.{Name}
use Rattle.mem_disk.specs.Tables.{Settles, AreApart, place_in}
use Rattle.mem_disk.proofs.Keeping.{SettledTo, settled_more, settled_all, apart_settled}
use Rattle.mem_disk.proofs.Places.{place_settled}
use Rattle.mem_disk.proofs.names.settle.Goals as goal

pub loop-name-preserved : goal.loop-name-preserved
loop-name-preserved c =
    let within : c.loop-name.name-index < length c.loop-name.name-items = let lt = c.loop-name-test.true in let long = c.loop-name.auto.name-items in omega (arith, lt, long) in
    subst (λ (k : ℕ). SettledTo c.args.folder.now k c.args.names.now.items (set c.loop-name.name-items c.loop-name.name-index c.settle.new.self)) (sym (add-one c.loop-name.name-index))
    (settled_more c.args.folder.now c.loop-name.name-index c.args.names.now.items c.loop-name.name-items c.name-item.result c.settle.new.self within c.loop-name.invariant c.settle.ensures.settled)

pub returns-clause-settles : goal.returns-clause-settles
returns-clause-settles c =
    let items = c.loop-name.name-items in
    let olds = c.args.names.now.items in
    let all : length olds ≤ c.loop-name.name-index = let same = ap length c.deref_mut-name-items.ensures.value in let le = c.loop-name-test.false in omega (arith, same, le) in
    let long : length items ≡ c.args.names.now.len = let one = c.loop-name.auto.name-items in let two = c.deref_mut-name-items.ensures.len in omega (arith, one, two) in
    subst (λ (xs : List Name). Settles c.args.folder.now olds xs) (sym (take_at items (drop (length items) olds) c.args.names.now.len long))
    (settled_all c.args.folder.now c.loop-name.name-index olds items all c.loop-name.invariant)

pub returns-clause-apart : goal.returns-clause-apart
returns-clause-apart c was =
    let items = c.loop-name.name-items in
    let olds = c.args.names.now.items in
    let long : length items ≡ c.args.names.now.len = let one = c.loop-name.auto.name-items in let two = c.deref_mut-name-items.ensures.len in omega (arith, one, two) in
    subst AreApart (sym (take_at items (drop (length items) olds) c.args.names.now.len long)) (apart_settled c.args.folder.now c.loop-name.name-index olds items c.loop-name.invariant was)

pub returns-clause-places : goal.returns-clause-places
returns-clause-places c q =
    let items = c.loop-name.name-items in
    let olds = c.args.names.now.items in
    let long : length items ≡ c.args.names.now.len = let one = c.loop-name.auto.name-items in let two = c.deref_mut-name-items.ensures.len in omega (arith, one, two) in
    subst (λ (xs : List Name). place_in xs q ≡ place_in olds q) (sym (take_at items (drop (length items) olds) c.args.names.now.len long)) (place_settled c.args.folder.now c.loop-name.name-index olds items c.loop-name.invariant q)
