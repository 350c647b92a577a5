use Rattle.std.proofs.Common.{◌≡◌, ℕ, ◌+◌, ◌*◌, ◌^◌, ◌≤◌, ◌++◌, [], ◌∷◌, arith, length, map, sym, ap, ◌∙◌, add-mul as add-mul-distrib}
use Rattle.std.specs.Prelude.{slice_range}
use Rattle.std.proofs.Math.Pow.{pow_mono}
use Rattle.std.proofs.lemmas.List.{length-append, length-map}
use Rattle.bits.specs.Bits.{bits, number}
use Rattle.bits.proofs.Loads.{packed-next, range-small}
use Rattle.bits.proofs.packing.unpack_rest.Goals as goal

pub put-requires : goal.put-requires
put-requires g c =
    let start = 8 * c.loop.at + c.loop.offset in
    let small = range-small c.args.bytes.now start (start + c.args.width) c.args.width (omega arith) in
    let top : 2 ^ c.args.width ≤ 2 ^ g.T.Kept.widest = pow_mono {i = c.args.width} {j = g.T.Kept.widest} c.requires.fits in
    rw c.number_at.ensures (omega (arith, small, top))

pub loop-preserved : goal.loop-preserved
loop-preserved g c =
    let seen = g.T.Kept.seen in
    let w = c.args.width in
    let old = c.loop.numbers.items in
    let new = c.put.new.numbers.items in
    let x = c.number_at.result in
    let joined : map seen new ≡ map seen old ++ x ∷ [] = c.in_ok-put.ensures.stands in
    let held : length (map seen old) ≡ c.loop.counter = length-map old seen ∙ c.loop.invariant.count in
    let size : length new ≡ c.loop.counter + 1 = sym (length-map new seen) ∙ ap length joined ∙ length-append (map seen old) (x ∷ []) ∙ omega (arith, held) in
    let from : 8 * c.loop.at + c.loop.offset ≡ length (map seen old) * w = c.loop.invariant.place ∙ ap (λ (n : ℕ). n * w) (sym held) in
    let after : length (map seen old) * w + w ≡ (length (map seen old) + 1) * w = omega (arith, add-mul-distrib (length (map seen old)) 1 w) in
    let next : x ≡ number (slice_range (bits c.args.bytes.now) (length (map seen old) * w) ((length (map seen old) + 1) * w)) =
    c.number_at.ensures ∙ ap (λ (n : ℕ). number (slice_range (bits c.args.bytes.now) n (n + w))) from ∙ ap (λ (n : ℕ). number (slice_range (bits c.args.bytes.now) (length (map seen old) * w) n)) after in
    let room : (length (map seen old) + 1) * w ≤ 8 * length c.args.bytes.now = within (length (map seen old) + 1) c.args.n w (8 * length c.args.bytes.now) (omega (arith, held, c.loop-test.true)) c.requires.room in
    let place = c.loop.invariant.place in
    let turn : c.loop.counter * w + w ≡ (c.loop.counter + 1) * w = omega (arith, add-mul-distrib c.loop.counter 1 w) in
    record {
      packed = rw joined (packed-next c.args.bytes.now w x (map seen old) room c.loop.invariant.packed next);
      count = size;
      in_byte = omega arith;
      place = omega (arith, place, turn);
    }
  where
    within : (k n m all : ℕ) → k ≤ n → n * m ≤ all → k * m ≤ all
    within k n m all le room = grind (arith, le, room)
