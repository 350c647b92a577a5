use Rattle.std.proofs.Common.{◌∙◌, ap, sym, inl, Bool, List, length}
use Rattle.std.proofs.lemmas.Bool.{false≢true}
use Rattle.scan.specs.Left.{selected_by, turned}
use Rattle.scan.proofs.Chosen.{selected_filter, all_pass, others_filter, no_others}
use Rattle.scan.proofs.Passages.{ok_weaker}
use Rattle.scan.proofs.group_rows.marks_for.Goals as goal

pub returns-then-is_empty-clause-stands : goal.returns-then-is_empty-clause-stands
returns-then-is_empty-clause-stands c over rows size held have p decides =
    let none = c.is_empty.ensures.0 c.if-is_empty.true in (
      ap (λ (ms : List Bool). selected_by ms rows) c.new.ensures.items ∙ all_pass p (λ row. (decides row).1 (inl none)) rows,
      ap (λ (ms : List Bool). selected_by (turned (length rows) ms) rows) c.new.ensures.items ∙ no_others p (λ row. (decides row).1 (inl none)) rows,
    )

pub returns-then-is_empty-clause-many : goal.returns-then-is_empty-clause-many
returns-then-is_empty-clause-many c some = absurd (some c.new.ensures.items)

pub returns-then-is_empty-clause-unmarked : goal.returns-then-is_empty-clause-unmarked
returns-then-is_empty-clause-unmarked c empty = c.new.ensures.items

pub returns-clause-unmarked : goal.returns-clause-unmarked
returns-clause-unmarked c empty = absurd (false≢true (sym c.if-is_empty.false ∙ c.is_empty.ensures.1 empty))

pub returns-clause-stands : goal.returns-clause-stands
returns-clause-stands c over rows size held have =
    ok_weaker c.row_marks.result
    (λ marks is p decides. (
      ap (λ (ms : List Bool). selected_by ms rows) (is p decides) ∙ selected_filter p rows,
      ap (λ (ms : List Bool). selected_by (turned (length rows) ms) rows) (is p decides) ∙ others_filter p rows,
    ))
    (c.row_marks.ensures.stands over rows size held have)

pub returns-clause-many : goal.returns-clause-many
returns-clause-many c = ok_weaker c.row_marks.result (λ marks many some. many) c.row_marks.ensures.many
