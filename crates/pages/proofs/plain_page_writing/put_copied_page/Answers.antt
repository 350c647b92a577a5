use Rattle.std.proofs.Common.{length, refl}
use Rattle.schema.specs.Views.{leaf_view}
use Rattle.pages.proofs.WrittenPlain.{page_of_text}
use Rattle.pages.proofs.plain_page_writing.put_copied_page.Goals as goal

pub returns-in-Ok-clause-stands : goal.returns-in-Ok-clause-stands
returns-in-Ok-clause-stands c =
    let fits = c.in_ok-put_data_header.ensures.fits in
    page_of_text (leaf_view c.args.leaf.now) c.args.head c.args.text.now (length c.args.text.now) c.args.out.now.items c.put_data_header.new.out.items c.extend_from_slice.new.self.items c.requires.repetition c.requires.definition c.page_header_again.ensures refl fits.0 fits.1 c.in_ok-put_data_header.ensures.stands c.in-Ok.ensures.items
