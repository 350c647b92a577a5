use Rattle.std.proofs.Common.{◌≡◌, ◌≢◌, ◌∙◌, ◌⊎◌, ℕ, List, Result, Ok, Err, OnOk, refl, sym, subst}
use Rattle.std.specs.Prelude.{IfErr}
use Rattle.bits.specs.declared.refusal.Refusal.{Refusal}
use Rattle.bits.specs.declared.refusal.Refusal.TheVariants.{Memory, Device}
use Rattle.bits.proofs.Passing.{passes}
use Rattle.program.specs.Paths.{HasFront, IsFileRefusal, IsUnwritten}
use Rattle.program.specs.Program.{HasFaultUpTo, WritesRowsUpTo}
use Rattle.program.specs.Words.{RefusesDecoding}
use Rattle.program.proofs.Endings.{after_output, of_same, refused_bytes, unread}
use Rattle.program.proofs.calls.decode_file.Goals as goal

pub returns-in_err-bytes-clause-refused : goal.returns-in_err-bytes-clause-refused
returns-in_err-bytes-clause-refused g c =
    let place = g.P.Paths.files c.args.paths.now c.args.file.now in
    let old = g.W.Write.contents c.args.out.now in
    let e = c.in_err-bytes.field-0.0 in
    passes (RefusesDecoding place c.args.limit old old) c.from_residual.result e c.from_residual.ensures.1
    (unread place (HasFaultUpTo c.args.limit) old e c.in_err-bytes.ensures.which)

pub returns-clause-refused : goal.returns-clause-refused
returns-clause-refused g c =
    let place = g.P.Paths.files c.args.paths.now c.args.file.now in
    let limit = c.args.limit in
    let old = g.W.Write.contents c.args.out.now in
    let mid = g.W.Write.contents c.decode_up_to-decoded.new.out in
    let bytes = c.as_slice.result.now in
    let e = c.in-Err.refusal in
    let has : HasFront place bytes = subst (HasFront place) (sym c.as_slice.ensures.value) c.in_ok-bytes.ensures.has in
    let why : (e ≡ Device) ⊎ HasFaultUpTo limit bytes e = of_same
    (λ e. (e ≡ Device) ⊎ HasFaultUpTo limit bytes e) c.with_problem.result c.decode_up_to-decoded.result e c.with_problem.ensures.same c.in-Err.is
    c.decode_up_to-decoded.ensures.which in
    let kept : IsUnwritten old mid e = of_same (IsUnwritten old mid) c.with_problem.result c.decode_up_to-decoded.result e c.with_problem.ensures.same
    c.in-Err.is c.decode_up_to-decoded.ensures.unchanged in
    after_output (IsFileRefusal place (HasFaultUpTo limit)) old mid (g.W.Write.contents c.with_output.new.out) e c.with_output.result c.with_output.ensures.same
    (refused_bytes place (HasFaultUpTo limit) bytes e has why) kept c.with_output.ensures.unwritten

pub returns-in-Ok-clause-done : goal.returns-in-Ok-clause-done
returns-in-Ok-clause-done g c =
    let place = g.P.Paths.files c.args.paths.now c.args.file.now in
    let bytes = c.as_slice.result.now in
    let has : HasFront place bytes = subst (HasFront place) (sym c.as_slice.ensures.value) c.in_ok-bytes.ensures.has in
    let writes : WritesRowsUpTo c.args.texts c.args.limit bytes (g.W.Write.contents c.args.out.now) (g.W.Write.contents c.decode_up_to-decoded.new.out) =
    subst
    (λ (r : Result Unit Refusal). OnOk r (WritesRowsUpTo c.args.texts c.args.limit bytes (g.W.Write.contents c.args.out.now)
    (g.W.Write.contents c.decode_up_to-decoded.new.out))) (sym c.with_problem.ensures.same ∙ c.in-Ok.is) c.decode_up_to-decoded.ensures.stands in
    (bytes, has, writes)
