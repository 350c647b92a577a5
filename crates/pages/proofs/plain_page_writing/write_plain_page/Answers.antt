use Rattle.std.proofs.lemmas.Result.{on_ok_weaker}
use Rattle.schema.specs.Views.{leaf_view}
use Rattle.pages.proofs.CopiedPages.{copied_page, copied_page_stands, copied_too_much}
use Rattle.pages.proofs.plain_page_writing.write_plain_page.Goals as goal

pub returns-clause-stands : goal.returns-clause-stands
returns-clause-stands c vs fill =
    on_ok_weaker c.put_copied_page.result (copied_page_stands (leaf_view c.args.leaf.now) c.args.version c.args.count vs c.args.text.now c.args.out.now.items c.put_copied_page.new.out.items c.requires.repetition c.requires.definition fill) c.put_copied_page.ensures.stands

pub returns-clause-written : goal.returns-clause-written
returns-clause-written c vs fill =
    on_ok_weaker c.put_copied_page.result (copied_page (leaf_view c.args.leaf.now) c.args.version c.args.count vs c.args.text.now c.args.out.now.items c.put_copied_page.new.out.items c.requires.repetition c.requires.definition fill) c.put_copied_page.ensures.stands

pub returns-clause-limit : goal.returns-clause-limit
returns-clause-limit c refused vs fill = copied_too_much (leaf_view c.args.leaf.now) c.args.count vs c.args.text.now fill (c.put_copied_page.ensures.limit refused)
