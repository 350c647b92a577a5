use Rattle.std.proofs.Common.{Bool, Some, refl, subst, arith}
use Rattle.scan.specs.Left.{rows_stand}
use Rattle.answers.specs.inner.Parts.{TakesRows, TakesNext}
use Rattle.answers.proofs.FilesOfQuery.{none_taken, row_taken}
use Rattle.answers.proofs.FirstOf.{none_passed, enough_passed}
use Rattle.answers.proofs.PartsGiven.{alike_self, alike_then}
use Rattle.answers.proofs.writing_query.write_rows.Goals as goal

pub loop-count-init : goal.loop-count-init
loop-count-init g c = record {
  passed = λ all s fit.
      let writer = c.args.writer.now in
      let was = g.S.FileSink.taken c.args.sink.now in
      none_passed (TakesRows writer writer was was) (rows_stand c.args.rows.now) all (none_taken writer was) s;
  within = omega arith;
  alike = alike_self c.args.writer.now;
}

pub loop-count-preserved : goal.loop-count-preserved
loop-count-preserved g c = record {
  passed = λ all s fit.
      let at = c.loop-count in
      let taken_of = g.S.FileSink.taken in
      let S = rows_stand at.rows in
      let T = rows_stand c.push_next.new.rows in
      let new = c.push_next.new.self in
      let next = subst (λ (b : Bool). TakesNext S T at.writer new (taken_of at.sink) (taken_of c.push_next.new.sink) b) c.if-not-branch.false c.in_ok-push_next.ensures.takes in
      row_taken S T c.args.writer.now at.writer new (taken_of c.args.sink.now) (taken_of at.sink) (taken_of c.push_next.new.sink) at.count all at.invariant.alike (at.invariant.passed all s fit) fit next;
  within = let more = c.loop-count-test.true in omega (arith, more);
  alike = alike_then c.args.writer.now c.loop-count.writer c.push_next.new.self c.loop-count.invariant.alike c.push_next.ensures.same;
}

pub returns-clause-takes : goal.returns-clause-takes
returns-clause-takes g c = λ all s fit.
    let at = c.loop-count in
    let over = c.loop-count-test.false in
    let within = at.invariant.within in
    (enough_passed (TakesRows c.args.writer.now at.writer (g.S.FileSink.taken c.args.sink.now) (g.S.FileSink.taken at.sink)) (rows_stand at.rows) at.count all (at.invariant.passed all s fit) (Some c.args.most) c.args.most refl
    (omega (arith, over, within))).1
