use Rattle.std.proofs.Common.{◌≡◌, ℕ, ◌+◌, ◌*◌, ◌^◌, ◌≤◌, ◌++◌, List, arith, length, map, subst, sym, ap, ◌∙◌, drop}
use Rattle.std.proofs.Math.Pow.{pow_mono}
use Rattle.std.proofs.lemmas.List.{length-append, length-map}
use Rattle.bits.specs.Bits.{IsPacked}
use Rattle.bits.proofs.Loads.{packed-more, packed-small}
use Rattle.bits.proofs.lanes.unpack_blocks.Goals as goal

pub put_block-requires : goal.put_block-requires
put_block-requires g c = λ k d lt.
    let rest = drop c.loop.at c.args.bytes.now in
    let small = packed-small c.split_at.result.1.now c.args.width c.block-block.result c.block-block.ensures.stands k d lt in
    let top : 2 ^ c.args.width ≤ 2 ^ g.T.Kept.widest = pow_mono {i = c.args.width} {j = g.T.Kept.widest} c.requires.fits in
    omega (arith, small, top)

pub loop-preserved : goal.loop-preserved
loop-preserved g c =
    let seen = g.T.Kept.seen in
    let old = c.loop.numbers.items in
    let new = c.put_block.new.numbers.items in
    let joined : map seen new ≡ map seen old ++ c.block-block.result = c.in_ok-put_block.ensures.stands in
    let size : length new ≡ length old + 8 = sym (length-map new seen) ∙ ap length joined ∙ length-append (map seen old) c.block-block.result ∙ omega (arith, length-map old seen, c.block-block.ensures.count) in
    let used : 8 * c.loop.at ≡ length (map seen old) * c.args.width = c.loop.invariant.used ∙ ap (λ (n : ℕ). n * c.args.width) (sym (length-map old seen)) in
    let block : IsPacked (drop c.loop.at c.args.bytes.now) c.args.width c.block-block.result = subst (λ (t : List ℕ). IsPacked t c.args.width c.block-block.result) c.split_at.ensures.back c.block-block.ensures.stands in
    record {
      packed = rw joined (packed-more c.args.bytes.now c.args.width c.loop.at (map seen old) c.block-block.result c.loop.invariant.within used c.loop.invariant.packed block);
      used = rw size (omega (arith, c.loop.invariant.used));
      count = omega (arith, size, c.loop.invariant.count);
      within = omega (arith, c.loop.invariant.within, c.requires.narrow, c.split_at.ensures.back_len, c.if-rest-lt-BYTES_OF_A_BLOCK.false);
    }
