use Rattle.std.proofs.Common.{◌≡◌, sym, ap, ◌∙◌, length, rules, w64}
use Rattle.std.specs.Fmt.{signed_decimal}
use Rattle.std.proofs.lemmas.Int.{to_z-of_z}
use mir.Val.{SFits}
use Rattle.schema.specs.declared.value.Value.{Value}
use Rattle.schema.specs.Values.{view}
use Rattle.partition.proofs.Seen.{view_int}
use Rattle.partition.specs.Folders.{value_text}
use Rattle.partition.proofs.Escapes.{room_is}
use Rattle.partition.proofs.checks.room_after_value.Goals as goal

pub returns-in-Int : goal.returns-in-Int
returns-in-Int c =
    let f : SFits w64 c.in-Int.number = search rules in
    let plain = rw (to_z-of_z w64 c.in-Int.number f) at c.signed_digits.ensures.plain in
    let counted = rw (to_z-of_z w64 c.in-Int.number f) at c.signed_digits.ensures.counted in
    let e : value_text (view c.args.value.now) ≡ signed_decimal c.in-Int.number = ap (λ (v : Value). value_text (view v)) c.in-Int.is ∙ ap value_text (view_int c.in-Int.number) in
    rw e (room_is _ c.signed_digits.result (signed_decimal c.in-Int.number) _ (ap length plain ∙ sym counted) c.checked_sub-in-Int.ensures)
