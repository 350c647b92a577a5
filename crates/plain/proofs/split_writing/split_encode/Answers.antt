use Rattle.std.proofs.Common.{map, length, sym}
use Rattle.std.proofs.lemmas.List.{length-map}
use Rattle.lists.proofs.Options.{on_ok_weaker as when_written}
use Rattle.plain.specs.Split.{AppendsSplit}
use Rattle.plain.specs.inner.ByColumns.{AppendsColumns}
use Rattle.plain.proofs.Streams.{split_after}
use Rattle.plain.proofs.split_writing.split_encode.Goals as goal

pub returns-in_ok-encode_fitting-in-Some-clause-stands : goal.returns-in_ok-encode_fitting-in-Some-clause-stands
returns-in_ok-encode_fitting-in-Some-clause-stands g c =
    let a = c.args in
    let seen = map g.V.Lends.lent a.values.now in
    let body = c.deref.result.now in
    when_written (AppendsColumns (length a.values.now) c.in-Some.k body a.out.now.items c.put_columns.new.out.items) (AppendsSplit a.kind seen a.out.now.items c.put_columns.new.out.items) c.put_columns.result
    (split_after a.kind c.in-Some.k (length a.values.now) seen c.new-text.result.items _ body a.out.now.items c.put_columns.new.out.items c.in-Some.ensures (sym (length-map a.values.now g.V.Lends.lent)) c.new-text.ensures.items c.in_ok-encode_fitting-in-Some.ensures.stands c.deref.ensures.value)
    c.put_columns.ensures.stands
