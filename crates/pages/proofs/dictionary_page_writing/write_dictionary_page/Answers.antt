use Rattle.std.proofs.lemmas.Result.{on_ok_weaker}
use Rattle.dictionary.specs.Entries.{entries_of}
use Rattle.pages.specs.Writing.{dictionary_weight}
use Rattle.pages.proofs.WrittenDictionaries.{dictionary_stands}
use Rattle.pages.proofs.dictionary_page_writing.write_dictionary_page.Goals as goal

pub returns-else-is_err-clause-stands : goal.returns-else-is_err-clause-stands
returns-else-is_err-clause-stands c =
    let vs = entries_of c.args.dictionary.now in
    on_ok_weaker c.put_dictionary_page-done.result (dictionary_stands c.args.kind vs (dictionary_weight vs) c.args.out.now.items c.put_dictionary_page-done.new.out.items) c.put_dictionary_page-done.ensures.written
