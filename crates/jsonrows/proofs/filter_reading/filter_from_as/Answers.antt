use Rattle.std.proofs.Common.{subst}
use Rattle.std.specs.Prelude.{IfErr}
use Rattle.serde_json.specs.View.{view}
use Rattle.jsonrows.specs.Filters.{IsRefusedFilterAs}
use Rattle.jsonrows.proofs.FilterFaults.{refused}
use Rattle.jsonrows.proofs.filter_reading.filter_from_as.Goals as goal

pub returns-clause-which : goal.returns-clause-which
returns-clause-which c =
    subst (λ ls. IfErr c.filter_of.result (IsRefusedFilterAs c.args.texts ls c.args.text.now)) c.leaves.ensures.leaves_are (refused c.args.texts _ c.args.text.now (view c.in_ok-json.json) c.filter_of.result c.in_ok-json.ensures.stands c.filter_of.ensures.which)
