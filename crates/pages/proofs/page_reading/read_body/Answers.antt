use Rattle.std.proofs.Common.{ap, inl, inr, rules, Option}
use Rattle.std.specs.Prelude.{Err, option_map}
use Rattle.schema.specs.Views.{leaf_view}
use Rattle.metadata.specs.declared.data_page_header.DataPageHeader.{DataPageHeader as CodeHeader}
use Rattle.metadata.specs.declared.data_page_header_v2.DataPageHeaderV2.{DataPageHeaderV2 as CodeHeaderV2}
use Rattle.metadata.specs.declared.dictionary_page_header.DictionaryPageHeader.{DictionaryPageHeader as CodeDictionaryHeader}
use Rattle.metadata.specs.Views.{page_header_view, data_page_header_view, data_page_header_v2_view, dictionary_page_header_view}
use Rattle.pages.specs.Limits.{IsBodyOver}
use Rattle.pages.specs.Views.{dictionary_view}
use Rattle.pages.proofs.Bodies.{IsVersionOne, IsVersionTwo, IsOfDictionary, body_over_v1, body_over_v2, body_over_dictionary, not_over_v1, not_over_v2, no_page_v1, no_page_v2}
use Rattle.pages.proofs.Passed.{passes_over}
use Rattle.pages.proofs.StoodBefore.{rules_out}
use Rattle.pages.proofs.page_reading.read_body.Goals as goal

pub returns-in_err-page-in-Some-clause-limit : goal.returns-in_err-page-in-Some-clause-limit
returns-in_err-page-in-Some-clause-limit c =
    let leaf = leaf_view c.args.leaf.now in
    let h = page_header_view c.args.header.now in
    let own = data_page_header_view c.in-Some.own in
    let one : IsVersionOne h own = record { kind = search rules; header = ap (λ (o : Option CodeHeader). option_map data_page_header_view o) c.in-Some.is } in
    passes_over (IsBodyOver leaf h c.args.body.now) c.from_residual.result c.in_err-page-in-Some.field-0.0 c.from_residual.ensures.1 (λ is. body_over_v1 leaf h own c.args.body.now one (c.in_err-page-in-Some.ensures.limit (ap Err is)))

pub returns-in_ok-page-in-Some-clause-stands : goal.returns-in_ok-page-in-Some-clause-stands
returns-in_ok-page-in-Some-clause-stands c =
    let leaf = leaf_view c.args.leaf.now in
    let h = page_header_view c.args.header.now in
    let own = data_page_header_view c.in-Some.own in
    let one : IsVersionOne h own = record { kind = search rules; header = ap (λ (o : Option CodeHeader). option_map data_page_header_view o) c.in-Some.is } in
    inl (own, one.kind, one.header, c.in_ok-page-in-Some.ensures.stands)

pub returns-in_ok-page-in-Some-clause-within_limits : goal.returns-in_ok-page-in-Some-clause-within_limits
returns-in_ok-page-in-Some-clause-within_limits c =
    let leaf = leaf_view c.args.leaf.now in
    let h = page_header_view c.args.header.now in
    let own = data_page_header_view c.in-Some.own in
    let one : IsVersionOne h own = record { kind = search rules; header = ap (λ (o : Option CodeHeader). option_map data_page_header_view o) c.in-Some.is } in
    not_over_v1 leaf h own c.args.body.now one c.in_ok-page-in-Some.ensures.within_limits

pub returns-in_err-page-in-Some-data_page_header_v2-clause-limit : goal.returns-in_err-page-in-Some-data_page_header_v2-clause-limit
returns-in_err-page-in-Some-data_page_header_v2-clause-limit c =
    let leaf = leaf_view c.args.leaf.now in
    let h = page_header_view c.args.header.now in
    let own = data_page_header_v2_view c.in-Some-data_page_header_v2.own in
    let one : IsVersionTwo h own = record { kind = search rules; header = ap (λ (o : Option CodeHeaderV2). option_map data_page_header_v2_view o) c.in-Some-data_page_header_v2.is } in
    passes_over (IsBodyOver leaf h c.args.body.now) c.from_residual-in_err-page-in-Some-data_page_header_v2.result c.in_err-page-in-Some-data_page_header_v2.field-0.0 c.from_residual-in_err-page-in-Some-data_page_header_v2.ensures.1 (λ is. body_over_v2 leaf h own c.args.body.now one (c.in_err-page-in-Some-data_page_header_v2.ensures.limit (ap Err is)))

pub returns-in_ok-page-in-Some-data_page_header_v2-clause-stands : goal.returns-in_ok-page-in-Some-data_page_header_v2-clause-stands
returns-in_ok-page-in-Some-data_page_header_v2-clause-stands c =
    let leaf = leaf_view c.args.leaf.now in
    let h = page_header_view c.args.header.now in
    let own = data_page_header_v2_view c.in-Some-data_page_header_v2.own in
    let one : IsVersionTwo h own = record { kind = search rules; header = ap (λ (o : Option CodeHeaderV2). option_map data_page_header_v2_view o) c.in-Some-data_page_header_v2.is } in
    inr (own, one.kind, one.header, c.in_ok-page-in-Some-data_page_header_v2.ensures.stands)

pub returns-in_ok-page-in-Some-data_page_header_v2-clause-within_limits : goal.returns-in_ok-page-in-Some-data_page_header_v2-clause-within_limits
returns-in_ok-page-in-Some-data_page_header_v2-clause-within_limits c =
    let leaf = leaf_view c.args.leaf.now in
    let h = page_header_view c.args.header.now in
    let own = data_page_header_v2_view c.in-Some-data_page_header_v2.own in
    let one : IsVersionTwo h own = record { kind = search rules; header = ap (λ (o : Option CodeHeaderV2). option_map data_page_header_v2_view o) c.in-Some-data_page_header_v2.is } in
    not_over_v2 leaf h own c.args.body.now one c.in_ok-page-in-Some-data_page_header_v2.ensures.within_limits

pub returns-in_err-values-in-Some-dictionary_page_header-clause-limit : goal.returns-in_err-values-in-Some-dictionary_page_header-clause-limit
returns-in_err-values-in-Some-dictionary_page_header-clause-limit c =
    let leaf = leaf_view c.args.leaf.now in
    let h = page_header_view c.args.header.now in
    let own = dictionary_page_header_view c.in-Some-dictionary_page_header.own in
    let one : IsOfDictionary h own = record { kind = search rules; header = ap (λ (o : Option CodeDictionaryHeader). option_map dictionary_page_header_view o) c.in-Some-dictionary_page_header.is } in
    passes_over (IsBodyOver leaf h c.args.body.now) c.from_residual-in_err-values-in-Some-dictionary_page_header.result c.in_err-values-in-Some-dictionary_page_header.field-0.0 c.from_residual-in_err-values-in-Some-dictionary_page_header.ensures.1 (λ is. body_over_dictionary leaf h own c.args.body.now one (c.in_err-values-in-Some-dictionary_page_header.ensures.limit (ap Err is)))

pub read_data_page_v1-requires-clause-stood : goal.read_data_page_v1-requires-clause-stood
read_data_page_v1-requires-clause-stood c =
    let d = dictionary_view c.args.dictionary in
    let leaf = leaf_view c.args.leaf.now in
    let h = page_header_view c.args.header.now in
    let own = data_page_header_view c.in-Some.own in
    let one : IsVersionOne h own = record { kind = search rules; header = ap (λ (o : Option CodeHeader). option_map data_page_header_view o) c.in-Some.is } in
    rules_out c.args.standing (no_page_v1 leaf d h own c.args.body.now c.args.left one) c.requires.stood

pub read_data_page_v1-requires-clause-known_within_limits : goal.read_data_page_v1-requires-clause-known_within_limits
read_data_page_v1-requires-clause-known_within_limits c =
    let leaf = leaf_view c.args.leaf.now in
    let h = page_header_view c.args.header.now in
    let own = data_page_header_view c.in-Some.own in
    let one : IsVersionOne h own = record { kind = search rules; header = ap (λ (o : Option CodeHeader). option_map data_page_header_view o) c.in-Some.is } in
    rules_out c.args.standing (body_over_v1 leaf h own c.args.body.now one) c.requires.known_within_limits

pub read_data_page_v2-requires-clause-stood : goal.read_data_page_v2-requires-clause-stood
read_data_page_v2-requires-clause-stood c =
    let d = dictionary_view c.args.dictionary in
    let leaf = leaf_view c.args.leaf.now in
    let h = page_header_view c.args.header.now in
    let own = data_page_header_v2_view c.in-Some-data_page_header_v2.own in
    let two : IsVersionTwo h own = record { kind = search rules; header = ap (λ (o : Option CodeHeaderV2). option_map data_page_header_v2_view o) c.in-Some-data_page_header_v2.is } in
    rules_out c.args.standing (no_page_v2 leaf d h own c.args.body.now c.args.left two) c.requires.stood

pub read_data_page_v2-requires-clause-known_within_limits : goal.read_data_page_v2-requires-clause-known_within_limits
read_data_page_v2-requires-clause-known_within_limits c =
    let leaf = leaf_view c.args.leaf.now in
    let h = page_header_view c.args.header.now in
    let own = data_page_header_v2_view c.in-Some-data_page_header_v2.own in
    let two : IsVersionTwo h own = record { kind = search rules; header = ap (λ (o : Option CodeHeaderV2). option_map data_page_header_v2_view o) c.in-Some-data_page_header_v2.is } in
    rules_out c.args.standing (body_over_v2 leaf h own c.args.body.now two) c.requires.known_within_limits
