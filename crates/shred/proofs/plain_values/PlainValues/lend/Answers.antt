use Rattle.std.proofs.Common.{◌++◌, List, length, map, ap, ◌∙◌, arith}
use Rattle.schema.specs.Values.{ValueTree}
use Rattle.schema.specs.declared.borrowed.EntryRef.{EntryRef}
use Rattle.schema.specs.Borrowed.{entry_ref_view}
use Rattle.plain.specs.Flat.{flat_entries}
use Rattle.plain.specs.ValuesLeft.{values_left}
use Rattle.plain.proofs.Places.{count_from}
use Rattle.shred.specs.inner.Roomy.{list_of}
use Rattle.shred.proofs.plain_values.PlainValues.lend.Goals as goal

pub loop-init : goal.loop-init
loop-init c =
    let p = c.args.self.now in
    let stands = c.values-values.ensures.stands in
    record {
      lent = ap (λ (es : List EntryRef). map entry_ref_view es ++ flat_entries (values_left c.values-values.result)) c.in_ok-reserve.ensures.items
          ∙ ap (λ (vs : List ValueTree). map entry_ref_view c.args.entries.now.items ++ flat_entries vs) stands;
      left = omega (arith, ap length stands, count_from p.kind p.count 0 (list_of p.bytes));
    }
