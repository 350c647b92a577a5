use Rattle.std.proofs.Common.{◌≡◌, take, drop, refl, sym, ◌∙◌, arith}
use Rattle.std.proofs.lemmas.List.{length-drop}
use Rattle.byteorder.specs.Endian.{little_number}
use Rattle.byteorder.specs.Numbers.{little_from-take}
use Rattle.plain.proofs.Spelled.{byte_array_front}
use Rattle.plain.proofs.measuring.size_of_byte_array.Goals as goal

pub returns-clause-stands : goal.returns-clause-stands
returns-clause-stands c =
    let body = c.args.bytes.now in
    let size = c.read_u32-size.result in
    let says : size ≡ little_number 4 (take 4 body) = c.read_u32-size.ensures ∙ sym (little_from-take 0 4 4 body (omega arith)) in
    rw (sym c.read_u32-size.ensures) (byte_array_front body (take size (drop 4 body)) size c.type_inv.bytes (omega (arith, c.if-bytes-lt4.false)) says (omega (arith, c.if-size-bytes.false, length-drop 4 body)) refl)
