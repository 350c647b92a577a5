use Rattle.std.proofs.Common.{List, map, subst}
use Rattle.std.specs.Prelude.{ℤ}
use Rattle.bits.specs.Refusals.{IsFault}
use Rattle.bits.specs.Codec.{NothingStands}
use Rattle.bits.proofs.Passing.{passes, passes_limit}
use Rattle.delta.specs.ByteDeltas.{IsByteLengths, IsCutLong, IsLengthsOver}
use Rattle.delta.specs.inner.Cut.{AreCut, NoneAreCut}
use Rattle.delta.proofs.Cutting.{lengths_stand, lengths_none, lengths_over, lengths_not_over, faults_only, turn_limit}
use Rattle.delta.proofs.lengths.decode_lengths.Goals as goal

pub returns-in_err-lengths-clause-only : goal.returns-in_err-lengths-clause-only
returns-in_err-lengths-clause-only g c =
    passes (λ e. IsFault e → NothingStands (IsByteLengths c.args.bytes.now c.args.n)) c.from_residual.result c.in_err-lengths.field-0.0 c.from_residual.ensures.1
    (λ fault values used p. c.in_err-lengths.ensures.only fault _ p.at p.lengths)

pub returns-in_err-lengths-clause-limit : goal.returns-in_err-lengths-clause-limit
returns-in_err-lengths-clause-limit g c =
    passes_limit (IsLengthsOver c.args.bytes.now c.args.n) c.from_residual.result c.in_err-lengths.field-0.0 c.from_residual.ensures.1
    (faults_only (IsLengthsOver c.args.bytes.now c.args.n) c.in_err-lengths.field-0.0 c.in_err-lengths.ensures.which (λ fault p. c.in_err-lengths.ensures.only fault p.lengths p.at p.stand))

pub returns-in_err-values-clause-only : goal.returns-in_err-values-clause-only
returns-in_err-values-clause-only g c =
    let text = c.args.bytes.now in
    let lengths = c.in_ok-lengths.lengths.items in
    let joined = c.split_at.result.1.now in
    passes (λ e. IsFault e → NothingStands (IsByteLengths text c.args.n)) c.from_residual-in_err-values.result c.in_err-values.field-0.0 c.from_residual-in_err-values.ensures.1
    (λ fault. lengths_none text joined c.args.n c.in_ok-lengths.at lengths c.in_ok-lengths.ensures.stands c.split_at.ensures.back
    (subst (λ (zs : List ℤ). NoneAreCut zs joined) c.deref.ensures.value (c.in_err-values.ensures.only fault)))

pub returns-in_err-values-clause-limit : goal.returns-in_err-values-clause-limit
returns-in_err-values-clause-limit g c =
    let text = c.args.bytes.now in
    let lengths = c.in_ok-lengths.lengths.items in
    let joined = c.split_at.result.1.now in
    passes_limit (IsLengthsOver text c.args.n) c.from_residual-in_err-values.result c.in_err-values.field-0.0 c.from_residual-in_err-values.ensures.1
    (turn_limit (IsCutLong c.deref.result.now joined) (IsLengthsOver text c.args.n) c.in_err-values.field-0.0
    (λ over. lengths_over text joined c.args.n c.in_ok-lengths.at lengths c.in_ok-lengths.ensures.stands c.split_at.ensures.back (subst (λ (zs : List ℤ). IsCutLong zs joined) c.deref.ensures.value over))
    (λ fault none over. lengths_not_over text joined c.args.n c.in_ok-lengths.at lengths c.in_ok-lengths.ensures.stands c.split_at.ensures.back (subst (λ (zs : List ℤ). IsCutLong zs joined → ⊥) c.deref.ensures.value none) over)
    c.in_err-values.ensures.limit)

pub returns-clause-limit : goal.returns-clause-limit
returns-clause-limit g c =
    let joined = c.split_at.result.1.now in
    lengths_not_over c.args.bytes.now joined c.args.n c.in_ok-lengths.at c.in_ok-lengths.lengths.items c.in_ok-lengths.ensures.stands c.split_at.ensures.back
    (subst (λ (zs : List ℤ). IsCutLong zs joined → ⊥) c.deref.ensures.value c.in_ok-values.ensures.limit)

pub returns-clause-stands : goal.returns-clause-stands
returns-clause-stands g c =
    let joined = c.split_at.result.1.now in
    let values = map g.T.Holds.held c.in_ok-values.values.items in
    lengths_stand c.args.bytes.now joined c.args.n c.in_ok-lengths.at c.in_ok-values.used c.in_ok-lengths.lengths.items values c.in_ok-lengths.ensures.stands c.split_at.ensures.back
    (subst (λ (zs : List ℤ). AreCut zs joined values c.in_ok-values.used) c.deref.ensures.value c.in_ok-values.ensures.stands)
