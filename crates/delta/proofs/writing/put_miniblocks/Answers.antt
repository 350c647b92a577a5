use Rattle.std.proofs.Common.{◌≡◌, ℕ, List, ◌*◌, ◌^◌, ◌<◌, ◌++◌, ◌∙◌, length, take, drop, sym, ap, subst, arith, append_assoc}
use Rattle.std.specs.Prelude.{All, slice_index}
use Rattle.bits.specs.Bits.{IsPadded, packed_size}
use Rattle.bits.specs.Codec.{Appends}
use Rattle.delta.specs.Delta.{AreMiniblocks}
use Rattle.delta.proofs.Putting.{miniblocks_more}
use Rattle.delta.proofs.writing.put_miniblocks.Goals as goal

pub pack-requires-clause-fit : goal.pack-requires-clause-fit
pack-requires-clause-fit c =
    let m = c.loop-m.m in
    let xs = c.args.numbers.now in
    let part : c.split_at-in-loop-m.result.0.now ≡ take 32 (drop (32 * m) xs) = c.split_at-in-loop-m.ensures.front ∙ ap (λ (t : List ℕ). take 32 t) c.split_at.ensures.back in
    subst (λ (w : ℕ). All (λ x. x < 2 ^ w) c.split_at-in-loop-m.result.0.now) (sym c.from.ensures)
    (subst (λ (t : List ℕ). All (λ x. x < 2 ^ slice_index c.args.widths.now m) t) (sym part) (c.requires.narrow m (omega (arith, c.loop-m-test.true, c.requires.few))))

pub loop-m-preserved : goal.loop-m-preserved
loop-m-preserved c =
    let m = c.loop-m.m in
    let xs = c.args.numbers.now in
    let ws = c.args.widths.now in
    let lt : m < 4 = omega (arith, c.loop-m-test.true, c.requires.few) in
    let part : c.split_at-in-loop-m.result.0.now ≡ take 32 (drop (32 * m) xs) = c.split_at-in-loop-m.ensures.front ∙ ap (λ (t : List ℕ). take 32 t) c.split_at.ensures.back in
    let old = c.loop-m.out.items in
    let new = c.pack.new.out.items in
    let one : Appends (λ bytes. IsPadded bytes c.from.result (take 32 (drop (32 * m) xs))) (packed_size (length (take 32 (drop (32 * m) xs))) c.from.result) old new =
    subst (λ (t : List ℕ). Appends (λ bytes. IsPadded bytes c.from.result t) (packed_size (length t) c.from.result) old new) part c.in_ok-pack.ensures.stands in
    let packed : Appends (λ bytes. IsPadded bytes (slice_index ws m) (take 32 (drop (32 * m) xs))) (packed_size (length (take 32 (drop (32 * m) xs))) (slice_index ws m)) old new =
    subst (λ (w : ℕ). Appends (λ bytes. IsPadded bytes w (take 32 (drop (32 * m) xs))) (packed_size (length (take 32 (drop (32 * m) xs))) w) old new) c.from.ensures one in
    let front = c.loop-m.invariant.front in
    record {
      stands = λ most few. miniblocks_more ws xs c.args.out.now.items old new m most (omega (arith, lt, c.requires.widths)) (omega (arith, lt, c.requires.count)) (c.requires.held m lt) (few m lt) (c.loop-m.invariant.stands most few) packed;
      front = (front.0 ++ packed.text, packed.joined ∙ ap (λ (t : List ℕ). t ++ packed.text) front.1 ∙ append_assoc c.args.out.now.items front.0 packed.text);
    }

pub returns-clause-stands : goal.returns-clause-stands
returns-clause-stands c = λ most few.
    let all : c.loop-m.m ≡ c.args.needed = omega (arith, c.loop-m-test.false, c.loop-m.auto.m-end) in
    subst (λ (k : ℕ). Appends (λ bytes used. AreMiniblocks 32 (take k c.args.widths.now) bytes (take (32 * k) c.args.numbers.now) used) (32 * most * k) c.args.out.now.items c.loop-m.out.items) all (c.loop-m.invariant.stands most few)
