use Rattle.std.proofs.Common.{◌≡◌, ℕ, List, ◌*◌, ◌/◌, ◌∙◌, min, map, replicate, ap, subst, sym}
use Rattle.std.specs.Prelude.{ℤ}
use Rattle.std.specs.Int.{w64, cast_signed, cast_unsigned}
use Rattle.std.proofs.lemmas.Int.{to_z-of_z}
use Rattle.std.proofs.lemmas.List.{length-replicate}
use Rattle.bits.specs.Refusals.{IsFault}
use Rattle.bits.specs.Bits.{IsPacked}
use Rattle.bits.specs.Codec.{NothingStands}
use Rattle.bits.proofs.Passing.{passes}
use Rattle.delta.specs.Delta.{IsMiniblock}
use Rattle.delta.specs.inner.Taken.{Adds, deltas_of}
use Rattle.delta.proofs.Packed.{unpacked, length-unpacked, unpacked_is}
use Rattle.delta.proofs.Taking.{miniblock_taken, too_short, all_there, zeros_packed}
use Rattle.delta.proofs.blocks.take_miniblock.Goals as goal
use Rattle.delta.proofs.blocks.take_miniblock.Goals.{then-width-eq0+in_ok-add_least, else-width-eq0+in_ok-numbers+in_ok-add_numbers}

pub returns-then-bytes-room-clause-only : goal.returns-then-bytes-room-clause-only
returns-then-bytes-room-clause-only g c = λ fault numbers used p.
    too_short c.args.size c.args.width (c.args.size / 8 * c.from.result) c.args.bytes.now c.requires.whole (ap (λ (k : ℕ). c.args.size / 8 * k) c.from.ensures) c.if-bytes-room.true numbers used p

pub returns-in_err-numbers-clause-only : goal.returns-in_err-numbers-clause-only
returns-in_err-numbers-clause-only g c =
    let size = c.args.size in
    let width = c.args.width in
    let bytes = c.args.bytes.now in
    let count = min c.args.left size in
    passes (λ e. IsFault e → NothingStands (IsMiniblock size width bytes)) c.from_residual-in_err-numbers.result c.in_err-numbers.field-0.0 c.from_residual-in_err-numbers.ensures.1
    (λ fault numbers used p. c.in_err-numbers.ensures.only fault (unpacked width count bytes) (length-unpacked width count bytes ∙ sym c.min-count.ensures)
    (subst (λ (k : ℕ). IsPacked bytes k (unpacked width count bytes)) (sym c.from-else-width-eq0.ensures)
    (unpacked_is width count bytes (all_there size width c.args.left (size / 8 * c.from.result) bytes c.requires.whole (ap (λ (k : ℕ). size / 8 * k) c.from.ensures) c.if-bytes-room.false))))

pub returns-clause-taken : goal.returns-clause-taken
returns-clause-taken g c =
    let seen = g.T.Integer.seen in
    let w = g.T.Integer.width in
    let size = c.args.size in
    let width = c.args.width in
    let bytes = c.args.bytes.now in
    let old = map seen c.args.values.now.items in
    let used = size / 8 * c.from.result in
    let used_is : used ≡ size / 8 * width = ap (λ (k : ℕ). size / 8 * k) c.from.ensures in
    let least_is = to_z-of_z w64 c.args.least c.ranges.least in
    elim c.if-width-eq0.branch [
      | then-width-eq0+in_ok-add_least b ↦
          rw b.values-is (miniblock_taken w c.args.least size width c.args.left used bytes (replicate c.min-count.result 0) old (map seen b.add_least.new.values.items) c.requires.whole c.if-width-gt64.false used_is c.if-bytes-room.false
          (length-replicate c.min-count.result 0 ∙ c.min-count.ensures) (zeros_packed bytes width c.min-count.result b.if-width-eq0.true)
          (subst (λ (z : ℤ). Adds w (deltas_of z (replicate c.min-count.result 0)) old (map seen b.add_least.new.values.items)) least_is b.in_ok-add_least.ensures.added))
      | else-width-eq0+in_ok-numbers+in_ok-add_numbers b ↦
          let numbers = b.in_ok-numbers.numbers.items in
          let stands = b.in_ok-numbers.ensures.stands in
          rw b.values-is (miniblock_taken w c.args.least size width c.args.left used bytes numbers old (map seen b.add_numbers.new.values.items) c.requires.whole c.if-width-gt64.false used_is c.if-bytes-room.false
          (sym b.in_ok-numbers.numbers.ok.0 ∙ stands.0 ∙ c.min-count.ensures) (subst (λ (k : ℕ). IsPacked bytes k numbers) b.from-else-width-eq0.ensures stands.1)
          (subst (λ (z : ℤ). Adds w (deltas_of z numbers) old (map seen b.add_numbers.new.values.items)) least_is (subst (λ (xs : List ℕ). Adds w (deltas_of (cast_signed w64 (cast_unsigned w64 c.args.least)) xs) old (map seen b.add_numbers.new.values.items)) b.deref.ensures.value b.in_ok-add_numbers.ensures.added)))
    ]
