use Rattle.std.proofs.Common.{map}
use Rattle.std.proofs.lemmas.Result.{on_ok_weaker}
use Rattle.schema.specs.Borrowed.{entry_ref_view}
use Rattle.schema.specs.Views.{leaf_view}
use Rattle.pages.proofs.WrittenPages.{page_stands_by_indexes}
use Rattle.pages.proofs.index_page_writing.write_index_page.Goals as goal

pub returns-clause-stands : goal.returns-clause-stands
returns-clause-stands c =
    on_ok_weaker c.put_entries-done.result (page_stands_by_indexes (leaf_view c.args.leaf.now) c.args.version c.args.size c.args.indexes.now (map entry_ref_view c.args.entries.now) c.args.out.now.items c.put_entries-done.new.out.items c.in_ok-check_entries.ensures.are) c.put_entries-done.ensures.written
