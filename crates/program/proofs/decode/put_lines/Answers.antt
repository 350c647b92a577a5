use Rattle.std.proofs.Common.{◌+◌, Bool, Ok, subst, arith}
use Rattle.footer.specs.Left.{rows_stand}
use Rattle.rowtext.specs.Rows.{BeginsLineAs, AddsNextLine}
use Rattle.program.proofs.Printed.{line_more, line_none, lines_ended, lines_more, lines_fail}
use Rattle.program.proofs.decode.put_lines.Goals as goal

pub loop-count-preserved : goal.loop-count-preserved
loop-count-preserved c = λ texts fs all old new h.
    let S = rows_stand c.loop-count.rows in
    let T = rows_stand c.put_next.new.rows in
    let Gathers = BeginsLineAs texts c.loop-count.text fs in
    let Again = BeginsLineAs texts c.put_next.new.self fs in
    let p = c.loop-count.invariant texts fs all old new h in
    let one = subst (λ (b : Bool). AddsNextLine texts fs S T Again p.gathered (Ok b)) c.if-not-branch.false (c.in_ok-put_next.ensures.puts texts fs p.gathered p.gathers) in
    line_more texts fs S T Gathers Again all old new p (one p.left p.stands p.fit)

pub returns-in_err-put_next : goal.returns-in_err-put_next
returns-in_err-put_next c = record {
  puts = λ texts fs all old new h.
      let p = c.loop-count.invariant texts fs all old new h in
      lines_fail texts fs (rows_stand c.put_next.new.rows) (BeginsLineAs texts c.put_next.new.self fs) all old new c.from_residual.result c.in_err-put_next.field-0.0 c.from_residual.ensures.1 (c.in_err-put_next.ensures.puts texts fs p.gathered p.gathers p.left p.stands);
}

pub returns-then-not-branch : goal.returns-then-not-branch
returns-then-not-branch c = record {
  puts = λ texts fs all old new h.
      let S = rows_stand c.loop-count.rows in
      let T = rows_stand c.put_next.new.rows in
      let Gathers = BeginsLineAs texts c.loop-count.text fs in
      let Again = BeginsLineAs texts c.put_next.new.self fs in
      let p = c.loop-count.invariant texts fs all old new h in
      let none = subst (λ (b : Bool). AddsNextLine texts fs S T Again p.gathered (Ok b)) c.if-not-branch.true (c.in_ok-put_next.ensures.puts texts fs p.gathered p.gathers) in
      lines_ended texts fs T Again all old new c.loop-count.count (line_none texts fs S T Gathers Again all old new p (none p.left p.stands));
}

pub returns-then-lines-ge-OUTPUT_BUFFER_BYTES : goal.returns-then-lines-ge-OUTPUT_BUFFER_BYTES
returns-then-lines-ge-OUTPUT_BUFFER_BYTES c = record {
  puts = λ texts fs all old new h.
      let S = rows_stand c.loop-count.rows in
      let T = rows_stand c.put_next.new.rows in
      let Gathers = BeginsLineAs texts c.loop-count.text fs in
      let Again = BeginsLineAs texts c.put_next.new.self fs in
      let p = c.loop-count.invariant texts fs all old new h in
      let one = subst (λ (b : Bool). AddsNextLine texts fs S T Again p.gathered (Ok b)) c.if-not-branch.false (c.in_ok-put_next.ensures.puts texts fs p.gathered p.gathers) in
      let n = c.loop-count.count + 1 in
      lines_more texts fs T Again all old new n (λ zero. omega (arith, zero)) (line_more texts fs S T Gathers Again all old new p (one p.left p.stands p.fit));
}
