use Rattle.std.proofs.Common.{ℕ, List, subst}
use Rattle.std.specs.Prelude.{IfOk}
use Rattle.bits.specs.Refusals.{OnFault, LimitJustWhere}
use Rattle.bits.specs.Codec.{NothingStands}
use Rattle.plain.specs.Plain.{IsPlain, IsReadOver}
use Rattle.plain.specs.ValuesFrom.{values_from}
use Rattle.plain.proofs.Whole.{start_within, measured}
use Rattle.plain.proofs.cursor.size_of_next.Goals as goal

pub split_at-requires : goal.split_at-requires
split_at-requires c = start_within c.args.kind c.args.left c.args.at c.args.bytes.now c.requires.whole_bytes c.requires.there

pub returns : goal.returns
returns c =
    let body = c.args.bytes.now in
    let m = c.args.count in
    let not = c.requires.whole_bytes in
    let there = c.requires.there in
    let few = c.requires.few in
    let back = c.split_at.ensures.back in
    let r = c.size_of_values.result in
    let p = measured c.args.kind m c.args.left c.args.at body not c.type_inv.bytes few there r
    (subst (λ (t : List ℕ). IfOk r (λ used. IsPlain c.args.kind m t (values_from c.args.kind m 0 t) used)) back c.size_of_values.ensures.stands)
    (subst (λ (t : List ℕ). OnFault r (NothingStands (IsPlain c.args.kind m t))) back c.size_of_values.ensures.only) c.size_of_values.ensures.which
    (subst (λ (t : List ℕ). LimitJustWhere (IsReadOver c.args.kind t m) r) back c.size_of_values.ensures.limit) in
    record { first = p.first; short = p.short; long = p.long; which = p.which }
