use Rattle.std.proofs.Common.{◌≡◌, List, sym, subst}
use Rattle.std.specs.Prelude.{◌↔◌, None}
use Rattle.std.proofs.lemmas.Result.{IfOk-weaker}
use Rattle.reports.specs.Verdict.{IsAccepted}
use Rattle.reports.proofs.Judged.{is_refused, refused_file}
use Rattle.reports.proofs.verdict.refusal_of_file.Goals as goal

pub returns : goal.returns
returns c = record {
  verdict = IfOk-weaker c.unless_memory.result _ _
      (λ found is. subst (λ f. (f ≡ None) ↔ IsAccepted c.args.bytes.now) (sym is.0)
      (is_refused c.in-Err.refusal (refused_file c.args.bytes.now c.in-Err.refusal is.1 c.in-Err.ensures.only c.in-Err.ensures.which)))
      c.unless_memory.ensures;
}
