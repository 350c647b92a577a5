use Rattle.std.proofs.Common.{map, ap, Err}
use Rattle.bits.specs.Refusals.{HasCause}
use Rattle.bits.proofs.Passing.{passes}
use Rattle.schema.specs.Views.{leaf_view}
use Rattle.pages.specs.inner.Put.{IsOfPlainWriting}
use Rattle.pages.proofs.Passed.{on_ok_all}
use Rattle.pages.proofs.WrittenPlain.{plain_page, plain_too_much, header_refused}
use Rattle.pages.proofs.plain_page_writing.put_header_and_values.Goals as goal

pub returns-clause-stands : goal.returns-clause-stands
returns-clause-stands g c =
    on_ok_all c.encode_fitting.result
    (plain_page (leaf_view c.args.leaf.now) c.args.head (map g.V.Lends.lent c.args.values.now) c.in_ok-size.size c.args.out.now.items c.put_data_header.new.out.items c.encode_fitting.new.out.items c.requires.repetition c.requires.definition c.page_header_again.ensures c.requires.of_kind c.in_ok-size.ensures.size c.in_ok-put_data_header.ensures.fits.0 c.in_ok-put_data_header.ensures.fits.1 c.in_ok-put_data_header.ensures.stands)
    c.encode_fitting.ensures.stands c.encode_fitting.ensures.padding c.encode_fitting.ensures.size

pub returns-in_err-put_data_header-clause-which : goal.returns-in_err-put_data_header-clause-which
returns-in_err-put_data_header-clause-which g c =
    let vs = map g.V.Lends.lent c.args.values.now in
    let n = c.args.head.entries in
    let e = c.in_err-put_data_header.field-0.0 in
    passes (HasCause (IsOfPlainWriting n vs)) c.from_residual-in_err-put_data_header.result e c.from_residual-in_err-put_data_header.ensures.1
    (header_refused n vs e c.in_err-put_data_header.ensures.which (λ same. plain_too_much (leaf_view c.args.leaf.now).leaf_type.kind vs c.in_ok-size.size n c.requires.of_kind c.in_ok-size.ensures.size (c.in_err-put_data_header.ensures.limit (ap Err same))))
