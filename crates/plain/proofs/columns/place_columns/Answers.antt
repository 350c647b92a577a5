use Rattle.std.proofs.Common.{◌∙◌, arith, ℕ, ◌<◌}
use Rattle.plain.proofs.ByColumns.{column_more}
use Rattle.plain.proofs.columns.place_columns.Goals as goal

pub loop-column-preserved : goal.loop-column-preserved
loop-column-preserved c =
    let a = c.args in
    record {
      len = c.place_column.ensures.len ∙ c.loop-column.invariant.len;
      before = λ (p : ℕ) (lt : p < a.start). c.place_column.ensures.before p (omega (arith, lt)) ∙ c.loop-column.invariant.before p lt;
      each = column_more a.rows a.columns c.loop-column.column a.start a.bytes.now c.loop-column.room c.place_column.new.room c.place_column.ensures.before c.place_column.ensures.each c.loop-column.invariant.each;
    }
