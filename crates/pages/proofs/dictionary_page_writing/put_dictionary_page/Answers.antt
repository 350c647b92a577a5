use Rattle.std.proofs.Common.{◌≡◌, ◌-◌, ◌^◌, ◌∙◌, List, length, ap, subst, sym, Err}
use Rattle.std.specs.Prelude.{All, min}
use Rattle.std.proofs.lemmas.List.{length-map}
use Rattle.schema.specs.Values.{ValueTree, view}
use Rattle.plain.specs.Plain.{IsOfKind, plain_size}
use Rattle.dictionary.specs.Entries.{entries_of}
use Rattle.pages.specs.Writing.{IsDictionaryTooMuch}
use Rattle.pages.proofs.Passed.{on_ok_all, passes_over}
use Rattle.pages.proofs.WrittenDictionaries.{dictionary_put, too_much}
use Rattle.pages.proofs.dictionary_page_writing.put_dictionary_page.Goals as goal

pub returns-clause-written : goal.returns-clause-written
returns-clause-written c =
    let kind = c.args.kind in
    let vs = entries_of c.args.dictionary.now in
    let size = c.in_ok-size.size in
    let are = subst (All (IsOfKind kind)) c.entries.ensures c.in_ok-size.ensures.of_kind in
    let sized = subst (λ (t : List ValueTree). size ≡ min (plain_size kind t) (2 ^ 64 - 1)) c.entries.ensures c.in_ok-size.ensures.size in
    let count : length c.entries-2.result.now ≡ length vs = sym (length-map c.entries-2.result.now view) ∙ ap length c.entries-2.ensures in
    on_ok_all c.write.result
    (λ p z total. dictionary_put kind vs size (length c.entries-2.result.now) c.args.out.now.items c.put_dictionary_header.new.out.items c.write.new.out.items c.page_header_again.ensures are sized c.in_ok-put_dictionary_header.ensures.fits.0 count c.in_ok-put_dictionary_header.ensures.stands p z total)
    c.write.ensures.stands c.write.ensures.padding c.write.ensures.size

pub returns-in_err-put_dictionary_header-clause-limit :
    goal.returns-in_err-put_dictionary_header-clause-limit
returns-in_err-put_dictionary_header-clause-limit c =
    let kind = c.args.kind in
    let vs = entries_of c.args.dictionary.now in
    let size = c.in_ok-size.size in
    let are = subst (All (IsOfKind kind)) c.entries.ensures c.in_ok-size.ensures.of_kind in
    let sized = subst (λ (t : List ValueTree). size ≡ min (plain_size kind t) (2 ^ 64 - 1)) c.entries.ensures c.in_ok-size.ensures.size in
    let count : length c.entries-2.result.now ≡ length vs = sym (length-map c.entries-2.result.now view) ∙ ap length c.entries-2.ensures in
    passes_over (IsDictionaryTooMuch vs) c.from_residual-in_err-put_dictionary_header.result c.in_err-put_dictionary_header.field-0.0 c.from_residual-in_err-put_dictionary_header.ensures.1
    (λ same. too_much kind vs size (length c.entries-2.result.now) are sized count (c.in_err-put_dictionary_header.ensures.limit (ap Err same)))
