use Rattle.std.proofs.Common.{◌∙◌, arith}
use Rattle.row_group.proofs.Cuts.{first_page, whole_page}
use Rattle.row_group.proofs.pages_in_turn.first_page_len.Goals as goal

pub returns-then-rows-page_rows : goal.returns-then-rows-page_rows
returns-then-rows-page_rows c =
    first_page c.args.page_rows c.args.entries.now c.loop-i.i c.index-entries-i.result c.requires.rows (omega arith) c.index-entries-i.is (omega arith) (c.loop-i.invariant.counted ∙ c.if-rows-page_rows.true)

pub returns-then-entries-page_rows : goal.returns-then-entries-page_rows
returns-then-entries-page_rows c = whole_page c.args.page_rows c.args.entries.now c.requires.some (omega arith)
