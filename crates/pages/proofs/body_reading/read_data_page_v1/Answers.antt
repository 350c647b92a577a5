use Rattle.std.proofs.Common.{◌≡◌, ◌≤◌, List, length, sym, ap, ◌∙◌, to_z, of_z, w32, rules}
use Rattle.bits.specs.Refusals.{IsFault}
use Rattle.bits.proofs.Passing.{passes}
use Rattle.schema.specs.Stripe.{Entry}
use Rattle.schema.specs.Views.{leaf_view}
use Rattle.metadata.specs.Views.{data_page_header_view}
use Rattle.pages.specs.Encodings.{encoding_of}
use Rattle.pages.specs.Left.{levels_of, entries_left}
use Rattle.pages.specs.Page.{IsBodyV1, repetitions, definitions}
use Rattle.pages.specs.Views.{dictionary_view}
use Rattle.pages.specs.inner.Reading.{AreEntries}
use Rattle.pages.proofs.Sections.{count_is}
use Rattle.pages.proofs.ListedValues.{if_ok, on_fault}
use Rattle.pages.proofs.EntriesOf.{within_of}
use Rattle.pages.proofs.Bodies.{on_ok, count_by_levels, entries_v1, over_v1}
use Rattle.pages.proofs.StoodBefore.{rules_out, data_over_v1}
use Rattle.pages.proofs.body_reading.read_data_page_v1.Goals as goal

pub returns-in_err-repetitions-clause-only : goal.returns-in_err-repetitions-clause-only
returns-in_err-repetitions-clause-only c =
    let leaf = leaf_view c.args.leaf.now in
    let d = dictionary_view c.args.dictionary in
    let own = data_page_header_view c.args.header.now in
    passes (λ e. IsFault e → (es : List Entry) → IsBodyV1 leaf d own c.args.body.now es → length es ≤ c.args.left → ⊥) c.from_residual-in_err-repetitions.result c.in_err-repetitions.field-0.0 c.from_residual-in_err-repetitions.ensures.1
    (λ fault es p few. c.in_err-repetitions.ensures.only fault (repetitions es) (definitions es) p.text p.levels (within_of leaf es p.each))

pub returns-clause-at_most_left : goal.returns-clause-at_most_left
returns-clause-at_most_left c =
    let leaf = leaf_view c.args.leaf.now in
    let d = dictionary_view c.args.dictionary in
    let own = data_page_header_view c.args.header.now in
    let rs = levels_of c.in_ok-repetitions.repetitions in
    let ds = levels_of c.in_ok-repetitions.definitions in
    let text = c.in_ok-repetitions.text.now in
    let e = c.of_number-encoding.result in
    let number_is : to_z w32 (of_z w32 c.args.header.now.encoding) ≡ c.args.header.now.encoding = search rules in
    let is : e ≡ encoding_of own.encoding = c.of_number-encoding.ensures ∙ ap encoding_of number_is in
    let count : to_z w32 (of_z w32 c.args.header.now.num_values) ≡ c.args.header.now.num_values = search rules in
    let size = count_is own.num_values (length ds) c.in_ok-count.count c.in_ok-repetitions.ensures.stands.count (sym count ∙ c.in_ok-count.ensures.stands) in
    if_ok (λ p. AreEntries leaf d e text rs ds (entries_left p)) (λ p. length (entries_left p) ≤ c.args.left) c.read_entries.result
    (λ p are. count_by_levels leaf d e text rs ds (entries_left p) c.in_ok-count.count c.args.left are size c.in_ok-count.ensures.at_most_left) c.read_entries.ensures.stands

pub returns-clause-within_limits : goal.returns-clause-within_limits
returns-clause-within_limits c =
    let leaf = leaf_view c.args.leaf.now in
    let d = dictionary_view c.args.dictionary in
    let own = data_page_header_view c.args.header.now in
    let rs = levels_of c.in_ok-repetitions.repetitions in
    let ds = levels_of c.in_ok-repetitions.definitions in
    let text = c.in_ok-repetitions.text.now in
    let e = c.of_number-encoding.result in
    let number_is : to_z w32 (of_z w32 c.args.header.now.encoding) ≡ c.args.header.now.encoding = search rules in
    let is : e ≡ encoding_of own.encoding = c.of_number-encoding.ensures ∙ ap encoding_of number_is in
    on_ok c.read_entries.result (λ none over. none (over_v1 c.one_list.ensures leaf own e c.args.body.now rs ds text is c.in_ok-repetitions.ensures.stands over)) c.read_entries.ensures.within_limits

pub returns-clause-only : goal.returns-clause-only
returns-clause-only c =
    let leaf = leaf_view c.args.leaf.now in
    let d = dictionary_view c.args.dictionary in
    let own = data_page_header_view c.args.header.now in
    let rs = levels_of c.in_ok-repetitions.repetitions in
    let ds = levels_of c.in_ok-repetitions.definitions in
    let text = c.in_ok-repetitions.text.now in
    let e = c.of_number-encoding.result in
    let number_is : to_z w32 (of_z w32 c.args.header.now.encoding) ≡ c.args.header.now.encoding = search rules in
    let is : e ≡ encoding_of own.encoding = c.of_number-encoding.ensures ∙ ap encoding_of number_is in
    on_fault c.read_entries.result (λ nothing es p few. nothing es (entries_v1 c.one_list.ensures leaf d own e c.args.body.now rs ds text es is c.in_ok-repetitions.ensures.stands p)) c.read_entries.ensures.only

pub read_entries-requires-clause-stood : goal.read_entries-requires-clause-stood
read_entries-requires-clause-stood c =
    let d = dictionary_view c.args.dictionary in
    let leaf = leaf_view c.args.leaf.now in
    let own = data_page_header_view c.args.header.now in
    let rs = levels_of c.in_ok-repetitions.repetitions in
    let ds = levels_of c.in_ok-repetitions.definitions in
    let text = c.in_ok-repetitions.text.now in
    let e = c.of_number-encoding.result in
    let number_is : to_z w32 (of_z w32 c.args.header.now.encoding) ≡ c.args.header.now.encoding = search rules in
    let is : e ≡ encoding_of own.encoding = c.of_number-encoding.ensures ∙ ap encoding_of number_is in
    rules_out c.args.standing
    (λ nothing es p few. nothing es (entries_v1 c.one_list.ensures leaf d own e c.args.body.now rs ds text es is c.in_ok-repetitions.ensures.stands p)) c.requires.stood

pub read_entries-requires-clause-known_within_limits : goal.read_entries-requires-clause-known_within_limits
read_entries-requires-clause-known_within_limits c =
    let leaf = leaf_view c.args.leaf.now in
    let own = data_page_header_view c.args.header.now in
    let rs = levels_of c.in_ok-repetitions.repetitions in
    let ds = levels_of c.in_ok-repetitions.definitions in
    let text = c.in_ok-repetitions.text.now in
    let e = c.of_number-encoding.result in
    let number_is : to_z w32 (of_z w32 c.args.header.now.encoding) ≡ c.args.header.now.encoding = search rules in
    let is : e ≡ encoding_of own.encoding = c.of_number-encoding.ensures ∙ ap encoding_of number_is in
    rules_out c.args.standing (data_over_v1 leaf own e c.args.body.now rs ds text is c.in_ok-repetitions.ensures.stands) c.requires.known_within_limits
