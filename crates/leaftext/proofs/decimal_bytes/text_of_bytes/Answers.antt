use Rattle.std.proofs.Common.{◌≡◌, ◌≤◌, ◌∙◌, ap, sym, subst, length}
use Rattle.std.specs.Prelude.{IfSome}
use Rattle.std.specs.Option.{is_some}
use Rattle.valuetext.specs.TwosComplement.{signed_of}
use Rattle.leaftext.specs.Texts.{decimal_text_of}
use Rattle.leaftext.proofs.BytesTexts.{few_are, no_text}
use Rattle.leaftext.proofs.decimal_bytes.text_of_bytes.Goals as goal

pub returns-in-Some : goal.returns-in-Some
returns-in-Some c =
    let bytes = c.args.bytes.now in
    let number : c.in-Some.number ≡ signed_of bytes = subst (λ o. IfSome o (λ n. n ≡ signed_of bytes)) c.in-Some.is c.number_of-found.ensures.number in
    let few : (1 ≤ length bytes) × (length bytes ≤ 16) = subst (λ o. IfSome o (λ n. (1 ≤ length bytes) × (length bytes ≤ 16))) c.in-Some.is c.number_of-found.ensures.few in
    c.text_of_number.ensures ∙ ap (decimal_text_of c.args.scale) number ∙ sym (few_are c.args.scale bytes few.0 few.1)

pub returns-in-None : goal.returns-in-None
returns-in-None c = no_text c.args.scale c.args.bytes.now (c.number_of-found.ensures.none (ap is_some c.in-None.is))
