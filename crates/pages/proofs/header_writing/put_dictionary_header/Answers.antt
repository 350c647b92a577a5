use Rattle.std.proofs.lemmas.Result.{on_ok_weaker}
use Rattle.metadata.specs.Views.{page_header_view}
use Rattle.pages.specs.Headers.{dictionary_header}
use Rattle.pages.proofs.WrittenHeaders.{dictionary_header_size, header_put}
use Rattle.pages.proofs.header_writing.put_dictionary_header.Goals as goal

pub returns-clause-stands : goal.returns-clause-stands
returns-clause-stands c =
    on_ok_weaker c.write.result (λ p. header_put (page_header_view c.dictionary_header-header.result) (dictionary_header c.args.size c.args.count) c.args.out.now.items c.write.new.out.items c.dictionary_header-header.ensures (dictionary_header_size c.args.size c.args.count) p) c.write.ensures.stands
