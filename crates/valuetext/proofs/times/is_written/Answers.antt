use Rattle.std.proofs.Common.{inl, inr, sym, ◌∙◌, ap}
use Rattle.jiff_fmt.specs.Text.{time_text}
use Rattle.valuetext.proofs.SameTexts.{not_same}
use Rattle.valuetext.proofs.times.is_written.Goals as goal

pub returns : goal.returns
returns c =
    let text = c.time_text-printed.ensures ∙ ap (λ o. time_text o c.args.time) (ap (λ x. x.2) c.new.ensures) in (
      λ t. inr (c.is_in_some_places.ensures.0 t),
      λ w. elim w [
        | inl e ↦ absurd (not_same c.eq.result _ _ c.eq.ensures c.if-eq.false (c.as_bytes.ensures.value ∙ c.deref.ensures.0 ∙ text ∙ sym e))
        | inr p ↦ c.is_in_some_places.ensures.1 p
      ],
    )
