use Rattle.std.proofs.Common.{◌≡◌, ◌<◌, ◌∙◌, ◌+◌, ◌*◌, ◌/◌, ◌^◌, ℕ, List, length, map, take, drop, sym, ap, subst, arith}
use Rattle.std.specs.Prelude.{All, true}
use Rattle.std.proofs.lemmas.List.{length-map, drop-map}
use Rattle.bits.specs.Codec.{Appends}
use Rattle.bits.specs.Varint.{IsShortestUleb}
use Rattle.hybrid_rle.specs.inner.Put.{with_zeros}
use Rattle.hybrid_rle.proofs.Putting.{gathering_begins, gathering_more, gathering_ends, group_narrow}
use Rattle.hybrid_rle.proofs.writing.put_packed.Goals as goal

pub loop-group-init : goal.loop-group-init
loop-group-init g c =
    let xs = map g.T.Number.seen c.args.numbers.now in
    let groups : c.div_ceil-groups.result ≡ (length xs + 7) / 8 = omega (arith, length-map c.args.numbers.now g.T.Number.seen, c.div_ceil-groups.ensures) in
    gathering_begins c.args.width xs c.args.out.now.items c.write_uleb.new.out.items
    (subst (λ (k : ℕ). Appends (λ bytes used. IsShortestUleb bytes (2 * k + 1) used) 10 c.args.out.now.items c.write_uleb.new.out.items) groups c.in_ok-write_uleb.ensures.stands)

pub returns-then-not-are_narrow-clause-unfit : goal.returns-then-not-are_narrow-clause-unfit
returns-then-not-are_narrow-clause-unfit g c = λ fault all.
    let seen = g.T.Number.seen in
    let w = c.args.width in
    let xs = map seen c.args.numbers.now in
    let at = c.loop-group.group in
    let eight = c.eight_numbers-eight.result in
    let rest : map seen c.split_at.result.1.now ≡ drop (8 * at) xs = ap (λ t. map seen t) c.split_at.ensures.back ∙ sym (drop-map seen (8 * at) c.args.numbers.now) in
    let is : eight ≡ take 8 (with_zeros (drop (8 * at) xs)) = c.eight_numbers-eight.ensures ∙ ap (λ (t : List ℕ). take 8 (with_zeros t)) rest in
    let narrow : All (λ x. x < 2 ^ w) eight = subst (λ (t : List ℕ). All (λ x. x < 2 ^ w) t) (sym is) (group_narrow w (8 * at) xs all) in
    let yes : c.are_narrow.result ≡ true = c.are_narrow.ensures.1 narrow in
    cc (yes, c.if-not-are_narrow.true)

pub loop-group-preserved : goal.loop-group-preserved
loop-group-preserved g c =
    let seen = g.T.Number.seen in
    let xs = map seen c.args.numbers.now in
    let at = c.loop-group.group in
    let eight = c.eight_numbers-eight.result in
    let rest : map seen c.split_at.result.1.now ≡ drop (8 * at) xs = ap (λ t. map seen t) c.split_at.ensures.back ∙ sym (drop-map seen (8 * at) c.args.numbers.now) in
    let is : eight ≡ take 8 (with_zeros (drop (8 * at) xs)) = c.eight_numbers-eight.ensures ∙ ap (λ (t : List ℕ). take 8 (with_zeros t)) rest in
    let lt : at < (length xs + 7) / 8 = omega (arith, length-map c.args.numbers.now seen, c.div_ceil-groups.ensures, c.loop-group-test.true) in
    gathering_more c.args.width at xs c.args.out.now.items c.loop-group.out.items c.pack.new.out.items eight lt is c.in_ok-pack.ensures.stands c.loop-group.invariant

pub returns-clause-put : goal.returns-clause-put
returns-clause-put g c =
    let xs = map g.T.Number.seen c.args.numbers.now in
    let all : c.loop-group.group ≡ (length xs + 7) / 8 = omega (arith, length-map c.args.numbers.now g.T.Number.seen, c.div_ceil-groups.ensures, c.loop-group-test.false) in
    gathering_ends c.args.width c.loop-group.group xs c.args.out.now.items c.loop-group.out.items all c.loop-group.invariant
