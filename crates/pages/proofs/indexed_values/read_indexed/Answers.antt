use Rattle.std.proofs.Common.{◌≡◌, ℕ, List, map, Option, Some, ap, subst}
use Rattle.bits.specs.Refusals.{IsFault}
use Rattle.bits.proofs.Passing.{passes}
use Rattle.schema.specs.declared.borrowed.ValueRef.{ValueRef}
use Rattle.schema.specs.Borrowed.{value_ref_view}
use Rattle.schema.specs.Values.{ValueTree}
use Rattle.schema.specs.Views.{leaf_type_view}
use Rattle.std.specs.Borrow.{Bor}
use Rattle.dictionary.specs.Entries.{AreEntriesAt}
use Rattle.pages.specs.declared.encoding.Encoding.TheVariants.{PlainDictionary, RleDictionary}
use Rattle.pages.specs.Views.{dictionary_view}
use Rattle.pages.specs.inner.Reading.{AllFit, AreLeafValues}
use Rattle.pages.proofs.ListedValues.{by_plain_dictionary, by_rle_dictionary, no_indexes, other_indexes, on_fault}
use Rattle.pages.proofs.indexed_values.read_indexed.Goals as goal

pub returns-in_err-indexes-clause-only_plain_dictionary : goal.returns-in_err-indexes-clause-only_plain_dictionary
returns-in_err-indexes-clause-only_plain_dictionary c =
    let t = leaf_type_view c.args.leaf_type.now in
    let d = dictionary_view c.args.dictionary in
    let es = c.in-Some.entries.now in
    let is : d ≡ Some (map value_ref_view es) = ap (λ (o : Option (Bor (List ValueRef))). dictionary_view o) c.in-Some.is in
    passes (λ e. IsFault e → (ws : List ValueTree) → AreLeafValues d t (Some PlainDictionary) c.args.bytes.now c.args.count ws → ⊥) c.from_residual.result c.in_err-indexes.field-0.0 c.from_residual.ensures.1
    (λ fault ws p. no_indexes es t c.args.bytes.now c.args.count ws (c.in_err-indexes.ensures.only fault) (by_plain_dictionary d (map value_ref_view es) t c.args.bytes.now c.args.count ws is p))

pub returns-clause-only_plain_dictionary : goal.returns-clause-only_plain_dictionary
returns-clause-only_plain_dictionary c =
    let t = leaf_type_view c.args.leaf_type.now in
    let d = dictionary_view c.args.dictionary in
    let es = c.in-Some.entries.now in
    let is : d ≡ Some (map value_ref_view es) = ap (λ (o : Option (Bor (List ValueRef))). dictionary_view o) c.in-Some.is in
    on_fault c.look_up.result (λ nothing ws p. other_indexes c.one_list.ensures es t c.args.bytes.now c.args.count c.in_ok-indexes.indexes.items c.in_ok-indexes.field-0-1 ws c.in_ok-indexes.ensures.stands
    (subst (λ (known : List ℕ). (vs : List ValueTree) → AreEntriesAt (map value_ref_view es) known vs → AllFit t vs → ⊥) c.deref.ensures.value nothing)
    (by_plain_dictionary d (map value_ref_view es) t c.args.bytes.now c.args.count ws is p)) c.look_up.ensures.only

pub returns-in_err-indexes-clause-only_rle_dictionary : goal.returns-in_err-indexes-clause-only_rle_dictionary
returns-in_err-indexes-clause-only_rle_dictionary c =
    let t = leaf_type_view c.args.leaf_type.now in
    let d = dictionary_view c.args.dictionary in
    let es = c.in-Some.entries.now in
    let is : d ≡ Some (map value_ref_view es) = ap (λ (o : Option (Bor (List ValueRef))). dictionary_view o) c.in-Some.is in
    passes (λ e. IsFault e → (ws : List ValueTree) → AreLeafValues d t (Some RleDictionary) c.args.bytes.now c.args.count ws → ⊥) c.from_residual.result c.in_err-indexes.field-0.0 c.from_residual.ensures.1
    (λ fault ws p. no_indexes es t c.args.bytes.now c.args.count ws (c.in_err-indexes.ensures.only fault) (by_rle_dictionary d (map value_ref_view es) t c.args.bytes.now c.args.count ws is p))

pub returns-clause-only_rle_dictionary : goal.returns-clause-only_rle_dictionary
returns-clause-only_rle_dictionary c =
    let t = leaf_type_view c.args.leaf_type.now in
    let d = dictionary_view c.args.dictionary in
    let es = c.in-Some.entries.now in
    let is : d ≡ Some (map value_ref_view es) = ap (λ (o : Option (Bor (List ValueRef))). dictionary_view o) c.in-Some.is in
    on_fault c.look_up.result (λ nothing ws p. other_indexes c.one_list.ensures es t c.args.bytes.now c.args.count c.in_ok-indexes.indexes.items c.in_ok-indexes.field-0-1 ws c.in_ok-indexes.ensures.stands
    (subst (λ (known : List ℕ). (vs : List ValueTree) → AreEntriesAt (map value_ref_view es) known vs → AllFit t vs → ⊥) c.deref.ensures.value nothing)
    (by_rle_dictionary d (map value_ref_view es) t c.args.bytes.now c.args.count ws is p)) c.look_up.ensures.only
