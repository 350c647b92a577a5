use Rattle.std.proofs.Common.{◌≡◌, ◌∙◌, length, map, refl, sym, ap, subst, arith, to_z, w64}
use Rattle.std.specs.Prelude.{pos}
use Rattle.std.proofs.lemmas.Int.{to_z_pos}
use Rattle.schema.specs.Borrowed.{entry_ref_view}
use Rattle.schema.specs.Views.{leaf_view}
use Rattle.pages.specs.declared.encoding.Encoding.{Encoding}
use Rattle.pages.specs.Writing.{IsEncodingFor}
use Rattle.row_group.specs.declared.pages_in_turn.PageValues.TheVariants.{Encoded}
use Rattle.row_group.specs.Styles.{numbers_with_levels}
use Rattle.row_group.specs.Spelled.{IsValuePage}
use Rattle.row_group.specs.inner.Parts.{IsPart}
use Rattle.row_group.proofs.Passed.{passed}
use Rattle.row_group.proofs.TooMuch.{encoding_fits, values_much}
use Rattle.row_group.proofs.ChunkPut.{value_pages}
use Rattle.row_group.proofs.chunk_pages.put_value_pages.Goals as goal

pub put_pages-requires-clause-kind : goal.put_pages-requires-clause-kind
put_pages-requires-clause-kind c = subst (λ (e : Encoding). IsEncodingFor c.args.leaf.now.leaf_type.kind e) (sym c.encoding_of-encoding.ensures) (encoding_fits c.args.options.style c.args.leaf.now.leaf_type.kind)

pub returns-in_err-put_pages-clause-limit : goal.returns-in_err-put_pages-clause-limit
returns-in_err-put_pages-clause-limit c = λ limit.
    values_much (leaf_view c.args.leaf.now) c.args.options (length c.args.out.now.items) c.encoding_of-encoding.result (map entry_ref_view c.args.entries.now) c.requires.rows
    (c.in_err-put_pages.ensures.limit (passed c.from_residual-in_err-put_pages.result c.in_err-put_pages.field-0.0 _ c.from_residual-in_err-put_pages.ensures.1 limit))

pub returns-clause-stands : goal.returns-clause-stands
returns-clause-stands c =
    let leaf = leaf_view c.args.leaf.now in
    let o = c.args.options in
    let old = c.args.out.now.items in
    let a = c.in_ok-put_pages.ensures.stands in
    let start : to_z w64 c.len-start.result ≡ pos (length old) = to_z_pos w64 c.len-start.result (omega (arith, c.len-start.ensures, c.args.out.now.ok.0, c.args.out.now.small)) ∙ ap pos (omega (arith, c.len-start.ensures, c.args.out.now.ok.0)) in
    value_pages leaf o (map entry_ref_view c.args.entries.now) _ old c.put_pages.new.out.items a.parts (IsPart leaf o.page_version (Encoded c.encoding_of-encoding.result))
    (λ t part u p. subst (λ (e : Encoding). IsValuePage leaf o.page_version e t part u) c.encoding_of-encoding.ensures p.written) (λ t part u p. p.read) (λ has. c.requires.none has.begun has.suits) c.in_ok-put_pages.ensures.within_limits a.paged a.written
    (c.in_ok-encodings.ensures.numbers ∙ ap numbers_with_levels c.encoding_of-encoding.ensures) refl start
