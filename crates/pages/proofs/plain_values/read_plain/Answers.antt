use Rattle.schema.specs.Views.{leaf_type_view}
use Rattle.plain.specs.ValuesLeft.{values_left}
use Rattle.pages.specs.declared.encoding.Encoding.TheVariants.{Plain}
use Rattle.pages.specs.inner.Reading.{StandInNoChunk}
use Rattle.pages.proofs.StoodBefore.{where_known, known_plain}
use Rattle.pages.proofs.plain_values.read_plain.Goals as goal
use Rattle.pages.proofs.plain_values.read_plain.Goals.{in-Unknown+in_ok-check_plain, in_default}

pub returns-clause-stands : goal.returns-clause-stands
returns-clause-stands c =
    let t = leaf_type_view c.args.leaf_type.now in
    let stood = elim c.match-standing.branch as (λ _. StandInNoChunk t Plain c.args.bytes.now c.args.count → ⊥) [
      | in-Unknown+in_ok-check_plain w ↦ w.in_ok-check_plain.ensures.stood
      | in_default w ↦ where_known c.args.standing w.in_default.is c.requires.stood
    ] in
    known_plain c.one_list.ensures t c.args.bytes.now c.args.count (values_left c.known-values.result) stood c.known-values.ensures.stands c.known-values.ensures.count
