use Rattle.std.proofs.Common.{◌≡◌, ◌<◌, ◌^◌, ◌∙◌, ℕ, List, length, get_or, map, take, sym, ap, subst, arith}
use Rattle.std.specs.Prelude.{All}
use Rattle.std.proofs.lemmas.List.{length-map, take-map}
use Rattle.std.proofs.lemmas.List.Elements.{All-take, All-get_or}
use Rattle.bits.specs.Refusals.{IsFault}
use Rattle.bits.proofs.Passing.{passes}
use Rattle.hybrid_rle.specs.inner.Put.{IsPacking}
use Rattle.hybrid_rle.proofs.Putting.{packed_put, seen_at}
use Rattle.hybrid_rle.proofs.writing.put_run.Goals as goal

pub returns-in_err-put_packed-clause-unfit : goal.returns-in_err-put_packed-clause-unfit
returns-in_err-put_packed-clause-unfit g c =
    let seen = g.T.Number.seen in
    let w = c.args.width in
    let xs = map seen c.args.numbers.now in
    let count = c.count_to_pack-count.result in
    let front : map seen c.split_at.result.0.now ≡ take count xs = ap (λ t. map seen t) c.split_at.ensures.front ∙ sym (take-map seen count c.args.numbers.now) in
    passes (λ e. IsFault e → All (λ x. x < 2 ^ w) xs → ⊥) c.from_residual.result c.in_err-put_packed.field-0.0 c.from_residual.ensures.1
    (λ fault all. c.in_err-put_packed.ensures.unfit fault (subst (λ (t : List ℕ). All (λ x. x < 2 ^ w) t) (sym front) (All-take (λ x. x < 2 ^ w) count xs all)))

pub returns-then-equal-lt8-clause-put : goal.returns-then-equal-lt8-clause-put
returns-then-equal-lt8-clause-put g c =
    let seen = g.T.Number.seen in
    let w = c.args.width in
    let xs = map seen c.args.numbers.now in
    let count = c.count_to_pack-count.result in
    let size : length xs ≡ length c.args.numbers.now = length-map c.args.numbers.now seen in
    let front : map seen c.split_at.result.0.now ≡ take count xs = ap (λ t. map seen t) c.split_at.ensures.front ∙ sym (take-map seen count c.args.numbers.now) in
    packed_put w count xs c.args.out.now.items c.put_packed.new.out.items c.requires.wide (c.count_to_pack-count.ensures.progress c.requires.not_empty) (omega (arith, size, c.count_to_pack-count.ensures.within))
    (λ lt. c.count_to_pack-count.ensures.groups (omega (arith, lt, size))) (subst (λ (t : List ℕ). IsPacking w t c.args.out.now.items c.put_packed.new.out.items) front c.in_ok-put_packed.ensures.put)

pub returns-in_err-put_repeated-clause-unfit : goal.returns-in_err-put_repeated-clause-unfit
returns-in_err-put_repeated-clause-unfit g c =
    let seen = g.T.Number.seen in
    let w = c.args.width in
    let xs = map seen c.args.numbers.now in
    let size : length xs ≡ length c.args.numbers.now = length-map c.args.numbers.now seen in
    let first : get_or xs 0 0 ≡ c.number.result = seen_at seen c.args.numbers.now 0 c.index-numbers-0.result c.requires.not_empty c.index-numbers-0.is ∙ sym c.number.ensures in
    passes (λ e. IsFault e → All (λ x. x < 2 ^ w) xs → ⊥) c.from_residual-in_err-put_repeated.result c.in_err-put_repeated.field-0.0 c.from_residual-in_err-put_repeated.ensures.1
    (λ fault all. c.in_err-put_repeated.ensures.unfit fault (let narrow : get_or xs 0 0 < 2 ^ w = All-get_or (λ x. x < 2 ^ w) xs 0 0 (omega (arith, size, c.requires.not_empty)) all in omega (arith, narrow, first)))
