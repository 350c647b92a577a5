use Rattle.std.proofs.Common.{◌≡◌, ◌+◌, ◌-◌, ◌≤◌, ℕ, length, take, drop, decimal, sym, ap, subst, ◌∙◌, arith}
use Rattle.std.proofs.lemmas.Fmt.{length-decimal-le, decimal_digit}
use Rattle.json.specs.Filled.{Placed}
use Rattle.rowtext.proofs.MovedDigits.{digits_moved, digits_written}
use Rattle.rowtext.proofs.place.place_natural.Goals as goal

pub write_digits-from-requires : goal.write_digits-from-requires
write_digits-from-requires c =
    let few = length-decimal-le c.room_of.result c.args.number c.room_of.ensures.0 c.room_of.ensures.1.1 (omega (arith, c.ranges.number.fits)) in
    (omega (arith, few), omega (arith, c.requires, c.room_of.ensures.1.0))

pub copy_at-requires : goal.copy_at-requires
copy_at-requires c =
    let within : c.write_digits-from.result + 32 ≤ length c.write_digits-from.new.buf = omega (arith, c.requires, c.write_digits-from.ensures.start, c.room_of.ensures.1.0, c.write_digits-from.auto.buf) in
    (within, omega (arith, c.requires, c.write_digits-from.auto.buf))

pub returns : goal.returns
returns c =
    let n = c.args.number in
    let few = length-decimal-le c.room_of.result n c.room_of.ensures.0 c.room_of.ensures.1.1 (omega (arith, c.ranges.number.fits)) in
    let short = c.room_of.ensures.1.0 in
    let end : c.args.at + ((c.args.at + c.room_of.result) - c.write_digits-from.result) ≡ c.args.at + length (decimal n) = omega (arith, few, c.write_digits-from.ensures.start) in
    let before : c.args.at ≤ c.write_digits-from.result = omega (arith, few, c.write_digits-from.ensures.start) in
    let within : c.args.at ≤ length c.write_digits-from.new.buf = omega (arith, c.requires, c.write_digits-from.auto.buf) in
    record {
      bytes = ap (λ (m : ℕ). take m c.copy_at.new.buffer) end ∙ digits_moved c.args.buffer.now c.write_digits-from.new.buf c.copy_at.new.buffer (decimal n) (drop (c.args.at + c.room_of.result) c.args.buffer.now) c.args.at c.write_digits-from.result 32
          before (omega (arith, few, short)) within c.write_digits-from.ensures.before c.write_digits-from.ensures.written c.copy_at.ensures;
      moved = end;
      len = c.copy_at.auto.buffer ∙ c.write_digits-from.auto.buf;
    }

pub returns-then-from-at : goal.returns-then-from-at
returns-then-from-at c =
    let n = c.args.number in
    let at = c.args.at in
    let new = c.write_digits-from.new.buf in
    let here = c.if-from-at.true in
    let end : at + c.room_of.result ≡ at + length (decimal n) = omega (arith, here, c.write_digits-from.ensures.start) in
    let within : at ≤ length new = omega (arith, c.requires, c.write_digits-from.auto.buf) in
    record {
      bytes = ap (λ (m : ℕ). take m new) end
          ∙ digits_written c.args.buffer.now new (decimal n) (drop (at + c.room_of.result) c.args.buffer.now) at within
          (ap (λ (m : ℕ). take m new) (sym here) ∙ c.write_digits-from.ensures.before ∙ ap (λ (m : ℕ). take m c.args.buffer.now) here)
          (ap (λ (m : ℕ). drop m new) (sym here) ∙ c.write_digits-from.ensures.written);
      moved = end;
      len = c.write_digits-from.auto.buf;
    }

pub returns-then-number-lt10 : goal.returns-then-number-lt10
returns-then-number-lt10 c = subst (λ s. Placed c.args.buffer.now c.place_byte.new.buffer c.args.at s c.place_byte.result) (sym (decimal_digit c.args.number c.if-number-lt10.true)) c.place_byte.ensures
