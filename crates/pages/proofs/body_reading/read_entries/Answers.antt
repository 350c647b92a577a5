use Rattle.std.proofs.Common.{List, sym, subst}
use Rattle.bits.specs.Refusals.{IsFault}
use Rattle.bits.proofs.Passing.{passes}
use Rattle.schema.specs.Stripe.{Entry}
use Rattle.schema.specs.Views.{leaf_view}
use Rattle.pages.specs.Left.{levels_of, values_left}
use Rattle.pages.specs.Limits.{full}
use Rattle.pages.specs.Page.{values}
use Rattle.pages.specs.Views.{dictionary_view}
use Rattle.pages.specs.inner.Reading.{AreEntries}
use Rattle.pages.proofs.EntriesOf.{entries_stand, spelled_values}
use Rattle.pages.proofs.StoodBefore.{rules_out, over_by_count}
use Rattle.pages.proofs.body_reading.read_entries.Goals as goal

pub returns-in_err-values-clause-only : goal.returns-in_err-values-clause-only
returns-in_err-values-clause-only c =
    let leaf = leaf_view c.args.leaf.now in
    let d = dictionary_view c.args.dictionary in
    let rs = levels_of c.args.repetitions in
    let ds = levels_of c.args.definitions in
    passes (λ e. IsFault e → (es : List Entry) → AreEntries leaf d c.args.encoding c.args.bytes.now rs ds es → ⊥) c.from_residual.result c.in_err-values.field-0.0 c.from_residual.ensures.1
    (λ fault es p. c.in_err-values.ensures.only fault (values es) (spelled_values leaf d c.args.encoding c.args.bytes.now rs ds c.count_of-count.result es c.count_of-count.ensures p))

pub returns-clause-stands : goal.returns-clause-stands
returns-clause-stands c =
    let leaf = leaf_view c.args.leaf.now in
    let d = dictionary_view c.args.dictionary in
    let rs = levels_of c.args.repetitions in
    let ds = levels_of c.args.definitions in
    subst (λ (es : List Entry). AreEntries leaf d c.args.encoding c.args.bytes.now rs ds es) (sym c.of.ensures)
    (entries_stand leaf d c.args.encoding c.args.bytes.now rs ds c.count_of-count.result (values_left c.in_ok-values.values) c.requires.within c.requires.paired c.count_of-count.ensures c.in_ok-values.ensures.stands)

pub read_values-requires-clause-stood : goal.read_values-requires-clause-stood
read_values-requires-clause-stood c =
    let leaf = leaf_view c.args.leaf.now in
    let d = dictionary_view c.args.dictionary in
    let rs = levels_of c.args.repetitions in
    let ds = levels_of c.args.definitions in
    rules_out c.args.standing
    (λ nothing es p. nothing (values es) (spelled_values leaf d c.args.encoding c.args.bytes.now rs ds c.count_of-count.result es c.count_of-count.ensures p)) c.requires.stood

pub read_values-requires-clause-known_within_limits : goal.read_values-requires-clause-known_within_limits
read_values-requires-clause-known_within_limits c =
    let many = full (leaf_view c.args.leaf.now) (levels_of c.args.definitions) in
    rules_out c.args.standing (over_by_count c.args.leaf.now.leaf_type.kind c.args.encoding c.args.bytes.now c.count_of-count.result many c.count_of-count.ensures) c.requires.known_within_limits
