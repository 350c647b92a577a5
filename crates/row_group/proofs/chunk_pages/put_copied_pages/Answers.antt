use Rattle.std.proofs.Common.{◌≡◌, ◌∙◌, length, refl, sym, ap, subst, arith, to_z, w64}
use Rattle.std.specs.Prelude.{pos}
use Rattle.std.proofs.lemmas.Int.{to_z_pos}
use Rattle.schema.specs.Views.{leaf_view}
use Rattle.plain.specs.Flat.{flat_entries}
use Rattle.plain.specs.ValuesLeft.{values_left}
use Rattle.pages.specs.declared.encoding.Encoding.{Encoding}
use Rattle.pages.specs.declared.encoding.Encoding.TheVariants.{Plain}
use Rattle.row_group.specs.declared.pages_in_turn.PageValues.TheVariants.{Encoded}
use Rattle.row_group.specs.Styles.{numbers_with_levels}
use Rattle.row_group.specs.Spelled.{IsValuePage}
use Rattle.row_group.specs.inner.Parts.{IsPart}
use Rattle.row_group.proofs.Passed.{passed}
use Rattle.row_group.proofs.TooMuch.{values_much}
use Rattle.row_group.proofs.ChunkPut.{value_pages}
use Rattle.row_group.proofs.chunk_pages.put_copied_pages.Goals as goal

pub returns-in_err-put_plain_pages-clause-limit : goal.returns-in_err-put_plain_pages-clause-limit
returns-in_err-put_plain_pages-clause-limit c = λ limit all.
    values_much (leaf_view c.args.leaf.now) c.args.options (length c.args.out.now.items) Plain (flat_entries (values_left c.args.values)) c.requires.rows
    (c.in_err-put_plain_pages.ensures.limit (passed c.from_residual-in_err-put_plain_pages.result c.in_err-put_plain_pages.field-0.0 _ c.from_residual-in_err-put_plain_pages.ensures.1 limit) all)

pub returns-clause-stands : goal.returns-clause-stands
returns-clause-stands c = λ all.
    let leaf = leaf_view c.args.leaf.now in
    let o = c.args.options in
    let old = c.args.out.now.items in
    let es = flat_entries (values_left c.args.values) in
    let copied = c.requires.copied in
    let a = c.in_ok-put_plain_pages.ensures.stands all in
    let start : to_z w64 c.len-start.result ≡ pos (length old) = to_z_pos w64 c.len-start.result (omega (arith, c.len-start.ensures, c.args.out.now.ok.0, c.args.out.now.small)) ∙ ap pos (omega (arith, c.len-start.ensures, c.args.out.now.ok.0)) in
    value_pages leaf o es _ old c.put_plain_pages.new.out.items a.parts (IsPart leaf o.page_version (Encoded Plain))
    (λ t part u p. subst (λ (e : Encoding). IsValuePage leaf o.page_version e t part u) (sym copied.encoding) p.written) (λ t part u p. p.read) (λ has. copied.no_dictionary es has.suits) c.in_ok-put_plain_pages.ensures.within_limits a.paged a.written
    (c.in_ok-encodings.ensures.numbers ∙ ap numbers_with_levels (sym copied.encoding)) refl start
