use Rattle.std.proofs.Common.{◌≤◌, ◌+◌, [], ℕ, Option, Ok, Some, option_map, refl, sym, ap, subst, ◌∙◌, arith}
use Rattle.schema.specs.Views.{row_view}
use Rattle.schema.specs.declared.row.Row.{Row}
use Rattle.columns.specs.Columns.{first_of}
use Rattle.footer.specs.Left.{rows_stand, TakesRow}
use Rattle.footer.specs.Writer.{has_rows}
use Rattle.program.specs.inner.Copied.{cut_at}
use Rattle.program.proofs.Copied.{passed_more, all_passed, enough_passed, file_is}
use Rattle.program.proofs.copy.written.Goals as goal

pub loop-count-init : goal.loop-count-init
loop-count-init g c = record {
  passed = λ all are. record { given = []; left = all; has = c.in_ok-writer.ensures.begins; stands = c.rows-rows.ensures all are; joined = refl; many = refl };
  within = λ k is. omega arith;
  schema = c.in_ok-writer.ensures.of.0;
  options = c.in_ok-writer.ensures.of.1;
  quiet = λ hidden. refl;
  same = refl;
}

pub loop-count-preserved : goal.loop-count-preserved
loop-count-preserved g c = record {
  passed = λ all are.
      let at = c.loop-count in
      passed_more (has_rows at.writer) (has_rows c.push.new.self) (rows_stand at.rows) (rows_stand c.next.new.self) (cut_at (option_map (λ ps. ps.now) c.args.places)) at.count all (row_view c.in-Some.row) (row_view c.in_ok-cut_to-in-Some.field-0)
      c.in_ok-cut_to-in-Some.ensures.cut (at.invariant.passed all are) (subst (λ (o : Option Row). TakesRow (rows_stand at.rows) (rows_stand c.next.new.self) (Ok o)) c.in-Some.is c.in_ok-row.ensures.takes) c.in_ok-push-in-Some.ensures.stands;
  within = λ k is. let most = c.most_of-count-end.ensures k is in let more = c.loop-count-test.true in omega (arith, most, more);
  schema = c.push.ensures.same_schema ∙ c.loop-count.invariant.schema;
  options = c.push.ensures.same_options ∙ c.loop-count.invariant.options;
  quiet = λ hidden. c.count_row.ensures.quiet (c.loop-count.invariant.same ∙ hidden) ∙ c.loop-count.invariant.quiet hidden;
  same = c.count_row.ensures.same ∙ c.loop-count.invariant.same;
}

pub returns-in-None-clause-stands : goal.returns-in-None-clause-stands
returns-in-None-clause-stands g c = λ all are.
    let at = c.loop-count in
    let cut_so = cut_at (option_map (λ ps. ps.now) c.args.places) in
    let p = at.invariant.passed all are in
    let none = subst (λ (o : Option Row). TakesRow (rows_stand at.rows) (rows_stand c.next.new.self) (Ok o)) c.in-None.is c.in_ok-row.ensures.takes p.left p.stands in
    let has = all_passed (has_rows at.writer) (rows_stand at.rows) cut_so at.count all p c.args.limit at.invariant.within none.0 in
    file_is at.writer c.args.options.now c.args.schema.now _ c.finish.result has at.invariant.schema at.invariant.options c.finish.ensures.means c.finish.ensures.laid_out c.finish.ensures.in_range

pub returns-in-Some-limit-clause-stands : goal.returns-in-Some-limit-clause-stands
returns-in-Some-limit-clause-stands g c = λ all are.
    let at = c.loop-count in
    let cut_so = cut_at (option_map (λ ps. ps.now) c.args.places) in
    let p = at.invariant.passed all are in
    let is = c.in-Some-limit.is in
    let over = c.loop-count-test.false in
    let most = c.most_of-count-end.ensures _ is in
    let within = at.invariant.within _ is in
    let has = enough_passed (has_rows at.writer) (rows_stand at.rows) cut_so at.count all p c.args.limit _ is (omega (arith, over, most, within)) in
    file_is at.writer c.args.options.now c.args.schema.now _ c.finish-in-Some-limit.result has at.invariant.schema at.invariant.options c.finish-in-Some-limit.ensures.means c.finish-in-Some-limit.ensures.laid_out c.finish-in-Some-limit.ensures.in_range
