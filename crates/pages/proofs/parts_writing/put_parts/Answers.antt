use Rattle.std.proofs.Common.{◌≡◌, ◌+◌, ◌++◌, length, take, drop, arith}
use Rattle.schema.specs.Views.{leaf_view}
use Rattle.pages.specs.Headers.{section}
use Rattle.pages.specs.inner.Put.{before}
use Rattle.pages.proofs.WrittenParts.{data_page}
use Rattle.pages.proofs.parts_writing.put_parts.Goals as goal

pub returns-clause-stands : goal.returns-clause-stands
returns-clause-stands c =
    let leaf = leaf_view c.args.leaf.now in
    let head = c.args.head in
    let sizes = c.args.sections in
    let parts = c.args.parts.now in
    let first = before head.version leaf.greatest_repetition in
    let second = before head.version leaf.greatest_definition in
    let fits = c.in_ok-put_data_header.ensures.fits in
    let sized : c.saturating_add-size.result ≡ length parts + (first + second) = omega (arith, c.saturating_add-size.ensures, c.size_before.ensures, c.size_before-2.ensures, fits.0) in
    let one = c.in_ok-put_section.ensures.stands in
    let two = c.in_ok-put_section-2.ensures.stands in
    let three = c.in_ok-extend_from_slice.ensures.items in
    let a = c.split_at.ensures.front in
    let b = c.split_at.ensures.back in
    let d = c.split_at-2.ensures.front in
    let e = c.split_at-2.ensures.back in
    let joined : c.extend_from_slice.new.self.items ≡ ((c.put_data_header.new.out.items ++ section head.version leaf.greatest_repetition (take sizes.repetitions parts)) ++ section head.version leaf.greatest_definition (take sizes.definitions (drop sizes.repetitions parts))) ++ drop sizes.definitions (drop sizes.repetitions parts) = cc in
    data_page leaf head parts sizes c.saturating_add-size.result c.args.out.now.items c.put_data_header.new.out.items c.extend_from_slice.new.self.items c.page_header_again.ensures sized fits.0 fits.1 c.in_ok-put_data_header.ensures.stands joined
