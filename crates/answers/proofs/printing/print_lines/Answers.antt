use Rattle.std.proofs.Common.{◌≡◌}
use Rattle.bits.proofs.Passing.{passes}
use Rattle.bits.specs.Refusals.{HasCause}
use Rattle.bits.specs.declared.refusal.Refusal.TheVariants.{Device}
use Rattle.answers.specs.QueryFile.{first_of}
use Rattle.answers.proofs.GatheredLines.{all_printed}
use Rattle.answers.proofs.printing.print_lines.Goals as goal

pub returns-clause-printed : goal.returns-clause-printed
returns-clause-printed g c = λ texts fs all begins s fit.
    let contents = g.W.Write.contents in
    let rows = first_of c.args.limit all in
    let h = c.in_ok-count.ensures.gathers texts fs all begins s fit in
    let p = h.1 in
    record {
      many = h.0;
      written = all_printed texts fs rows c.gather_lines.new.text (contents c.args.out.now) (contents c.gather_lines.new.out) (contents c.write_text.new.out) c.lines.result.now p (c.lines.ensures.lines_as texts fs p.gathered p.gathers)
          c.in_ok-write_text.ensures.written;
      again = c.clear_lines.ensures.again_as texts fs p.gathered p.gathers;
    }

pub returns-in_err-count-clause-which : goal.returns-in_err-count-clause-which
returns-in_err-count-clause-which g c = λ texts fs all begins s fit.
    passes (HasCause (λ e. e ≡ Device)) c.from_residual.result c.in_err-count.field-0.0 c.from_residual.ensures.1 (c.in_err-count.ensures.which texts fs all begins s fit)
