use Rattle.std.proofs.lemmas.Result.{on_ok_weaker}
use Rattle.std.proofs.Common.{◌≡◌, ◌∙◌, ◌⊎◌, inl, inr, List, refl, sym, subst}
use Rattle.bits.specs.declared.refusal.Refusal.{Refusal}
use Rattle.bits.specs.declared.refusal.Refusal.TheVariants.{Device}
use Rattle.bits.proofs.Passing.{passes}
use Rattle.footer.specs.Faults.{HasFooterFault}
use Rattle.program.specs.Paths.{HasFront, IsLarge, IsUnwritten}
use Rattle.program.specs.Program.{IsPartsRefusal, IsReportRefusal}
use Rattle.program.proofs.Endings.{after_output, err_weaker, of_some, of_same, refused_bytes, unread}
use Rattle.program.proofs.calls.inspect_file.Goals as goal

pub returns-clause-refused : goal.returns-clause-refused
returns-clause-refused g c =
    let place = g.P.Paths.files c.args.paths.now c.args.file.now in
    let old = g.W.Write.contents c.args.out.now in
    let mid = g.W.Write.contents c.inspect-inspected.new.out in
    let bytes = c.as_slice.result.now in
    let e = c.in-Err.refusal in
    let has : HasFront place bytes = subst (HasFront place) (sym c.as_slice.ensures.value) c.in_ok-bytes.ensures.has in
    let why : (e ≡ Device) ⊎ HasFooterFault bytes e = of_same
    (λ e. (e ≡ Device) ⊎ HasFooterFault bytes e) c.with_problem.result c.inspect-inspected.result e c.with_problem.ensures.same c.in-Err.is
    c.inspect-inspected.ensures.which in
    let kept : IsUnwritten old mid e = of_same (IsUnwritten old mid) c.with_problem.result c.inspect-inspected.result e c.with_problem.ensures.same c.in-Err.is
    c.inspect-inspected.ensures.unchanged in
    after_output (IsReportRefusal place) old mid (g.W.Write.contents c.with_output.new.out) e c.with_output.result c.with_output.ensures.same
    (inl (refused_bytes place HasFooterFault bytes e has why)) kept c.with_output.ensures.unwritten

pub returns-in-Some-clause-done : goal.returns-in-Some-clause-done
returns-in-Some-clause-done g c =
    let large = of_some (IsLarge (g.P.Paths.files c.args.paths.now c.args.file.now)) _ c.in-Some.parts c.in-Some.is c.in_ok-parts.ensures.large in
    on_ok_weaker c.inspect_large.result (λ w. inr (large, w)) c.inspect_large.ensures.stands

pub returns-in-Some-clause-refused : goal.returns-in-Some-clause-refused
returns-in-Some-clause-refused g c =
    let place = g.P.Paths.files c.args.paths.now c.args.file.now in
    let old = g.W.Write.contents c.args.out.now in
    let new = g.W.Write.contents c.inspect_large.new.out in
    let large = of_some (IsLarge place) _ c.in-Some.parts c.in-Some.is c.in_ok-parts.ensures.large in
    err_weaker (λ e. IsPartsRefusal e × IsUnwritten old new e) (λ e. IsReportRefusal place e × IsUnwritten old new e)
    (λ e h. (inr (large, h.0), h.1)) c.inspect_large.result c.inspect_large.ensures.which
