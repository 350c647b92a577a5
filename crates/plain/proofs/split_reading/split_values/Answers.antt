use Rattle.std.proofs.Common.{◌≡◌, ℕ, List, ap, subst, ◌∙◌, length, ◌*◌, map, sym}
use Rattle.bits.specs.Refusals.{IsFault}
use Rattle.bits.specs.Codec.{NothingStands}
use Rattle.bits.proofs.Passing.{passes}
use Rattle.schema.specs.Values.{view}
use Rattle.plain.specs.Split.{IsSplit, AreJoined}
use Rattle.plain.specs.ValuesFrom.{values_from}
use Rattle.plain.proofs.Streams.{joined_fits, joined_plain, joined_split}
use Rattle.plain.proofs.split_reading.split_values.Goals as goal

pub returns-in_err-values-in-Some-clause-only : goal.returns-in_err-values-in-Some-clause-only
returns-in_err-values-in-Some-clause-only c =
    let a = c.args in
    let text = c.deref.result.now in
    let size : length text ≡ a.n * c.in-Some.k = ap length c.deref.ensures.value ∙ c.in_ok-text-in-Some.ensures.stands.count in
    let below = joined_fits c.in-Some.k a.n a.bytes.now text c.in_ok-text-in-Some.used (subst (λ (t : List ℕ). AreJoined c.in-Some.k a.n a.bytes.now t c.in_ok-text-in-Some.used) (sym c.deref.ensures.value) c.in_ok-text-in-Some.ensures.stands) c.type_inv.bytes in
    passes (λ e. IsFault e → NothingStands (IsSplit a.kind a.n a.bytes.now)) c.from_residual-in_err-values-in-Some.result c.in_err-values-in-Some.field-0.0 c.from_residual-in_err-values-in-Some.ensures.1
    (λ fault. absurd (c.in_err-values-in-Some.ensures.only fault (values_from a.kind a.n 0 text) (a.n * c.in-Some.k) (joined_plain a.kind c.in-Some.k a.n text c.in-Some.ensures size below)))

pub returns-in_ok-values-in-Some-clause-stands : goal.returns-in_ok-values-in-Some-clause-stands
returns-in_ok-values-in-Some-clause-stands c =
    let a = c.args in
    let joined = subst (λ (t : List ℕ). AreJoined c.in-Some.k a.n a.bytes.now t c.in_ok-text-in-Some.used) (sym c.deref.ensures.value) c.in_ok-text-in-Some.ensures.stands in
    joined_split a.kind c.in-Some.k a.n a.bytes.now c.deref.result.now (map view c.in_ok-values-in-Some.values.items) c.in_ok-text-in-Some.used _ c.in-Some.ensures joined c.in_ok-values-in-Some.ensures.stands
