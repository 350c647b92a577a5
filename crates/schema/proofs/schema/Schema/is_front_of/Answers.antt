use Rattle.std.proofs.Common.{◌++◌, List, ap, sym, ◌∙◌}
use Rattle.schema.specs.Elements.{Element}
use Rattle.schema.proofs.FrontElements.{front_begins, begins_front}
use Rattle.schema.proofs.schema.Schema.is_front_of.Goals as goal

pub returns : goal.returns
returns c =
    let fs = c.args.self.now in
    let gs = c.args.other.now in
    let own = c.listing-2.ensures in
    let others = c.listing.ensures in (
      (λ h.
          let e = c.begins_with.ensures.0 h in
          begins_front fs gs c.leaves.ensures.valid.1 c.leaves-2.ensures.valid.1 (e.0, sym others ∙ e.1 ∙ ap (λ (es : List Element). es ++ e.0) own)),
      (λ h.
          let e = front_begins fs gs h in
          c.begins_with.ensures.1 (e.0, others ∙ e.1 ∙ ap (λ (es : List Element). es ++ e.0) (sym own))),
    )
