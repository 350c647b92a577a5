use Rattle.std.proofs.Common.{◌≡◌, ◌+◌, ◌++◌, ◌∷◌, [], List, map, take, drop, sym, subst, arith, add-one, suc}
use Rattle.std.specs.Prelude.{All}
use Rattle.std.proofs.lemmas.List.{length-map, take_all}
use Rattle.std.proofs.lemmas.List.Elements.{All-push}
use Rattle.bits.specs.Refusals.{IsFault}
use Rattle.bits.proofs.Passing.{passes}
use Rattle.schema.specs.Values.{ValueTree, view}
use Rattle.schema.specs.Borrowed.{value_ref_view}
use Rattle.dictionary.specs.Entries.{IsIndexed, IsLeafValue}
use Rattle.dictionary.specs.inner.Placing.{IsPlaced, IsFull}
use Rattle.dictionary.proofs.Growing.{indexed_more}
use Rattle.dictionary.proofs.Counting.{not_more, too_many}
use Rattle.dictionary.proofs.NextValues.{next_taken, next_between, next_of_all}
use Rattle.dictionary.proofs.dictionary.Dictionary.build.Goals as goal

pub returns-in_err-index-clause-only : goal.returns-in_err-index-clause-only
returns-in_err-index-clause-only g c =
    let lent = g.V.Lends.lent in
    let xs = c.args.values.now in
    passes (λ e. IsFault e → All IsLeafValue (map lent xs) → ⊥) c.from_residual-in_err-index.result c.in_err-index.field-0.0 c.from_residual-in_err-index.ensures.1
    (λ fault all. c.in_err-index.ensures.only fault (subst IsLeafValue (sym c.lend.ensures.stands) (next_of_all lent IsLeafValue xs c.loop-value.value-index c.value-item.result (omega arith) c.value-item.is all)))

pub returns-in_default-clause-none : goal.returns-in_default-clause-none
returns-in_default-clause-none g c =
    let lent = g.V.Lends.lent in
    let xs = c.args.values.now in
    let at = c.loop-value.value-index in
    let es = map view c.loop-value.entries.items in
    let full : IsFull 65536 es (value_ref_view c.lend.result) = rw c.in_default.is at c.in_ok-index.ensures.full in
    too_many 65536 (map lent xs) (take at (map lent xs)) (drop (suc at) (map lent xs)) es c.loop-value.indexes.items (lent c.value-item.result)
    (next_between lent xs at c.value-item.result (omega arith) c.value-item.is) c.loop-value.invariant.indexed (subst (IsFull 65536 es) c.lend.ensures.stands full)

pub loop-value-preserved : goal.loop-value-preserved
loop-value-preserved g c =
    let lent = g.V.Lends.lent in
    let xs = c.args.values.now in
    let at = c.loop-value.value-index in
    let v = lent c.value-item.result in
    let es = map view c.loop-value.entries.items in
    let new = map view c.index_of.new.entries.items in
    let seen : value_ref_view c.lend.result ≡ v = c.lend.ensures.stands in
    let placed : IsPlaced es (value_ref_view c.lend.result) c.in-Some.index new = rw c.in-Some.is at c.in_ok-index.ensures.placed in
    let taken : take (at + 1) (map lent xs) ≡ take at (map lent xs) ++ v ∷ [] = rw add-one (next_taken lent xs at c.value-item.result (omega arith) c.value-item.is) in
    let more = indexed_more (take at (map lent xs)) es c.loop-value.indexes.items v c.in-Some.index new c.loop-value.invariant.indexed (subst (λ (w : ValueTree). IsPlaced es w c.in-Some.index new) seen placed) in
    record {
      same = rw c.in-Some.is at c.in_ok-index.ensures.same;
      few = rw c.in-Some.is at c.in_ok-index.ensures.few;
      indexed = rw (taken, c.in_ok-push.ensures.items) more;
      of_leaf = subst (All IsLeafValue) (sym taken) (All-push IsLeafValue (take at (map lent xs)) v c.loop-value.invariant.of_leaf (subst IsLeafValue seen c.in_ok-index.ensures.of_leaf));
    }

pub returns-clause-few : goal.returns-clause-few
returns-clause-few g c = λ more.
    let lent = g.V.Lends.lent in
    let xs = c.args.values.now in
    let whole : take c.loop-value.value-index (map lent xs) ≡ map lent xs = take_all c.loop-value.value-index (map lent xs) (omega (arith, length-map xs lent)) in
    let es = map view c.loop-value.entries.items in
    not_more 65536 (map lent xs) es c.loop-value.indexes.items (subst (λ (vs : List ValueTree). IsIndexed vs es c.loop-value.indexes.items) whole c.loop-value.invariant.indexed)
    (omega (arith, length-map c.loop-value.entries.items view, c.loop-value.invariant.few)) more
