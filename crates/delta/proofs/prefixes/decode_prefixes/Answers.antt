use Rattle.std.proofs.Common.{ℕ, List, [], ◌+◌, subst, sym}
use Rattle.std.specs.Prelude.{ℤ}
use Rattle.bits.specs.Refusals.{IsFault, HasCause, IsOfValues}
use Rattle.bits.specs.Codec.{NothingStands}
use Rattle.bits.proofs.Passing.{passes, passes_limit}
use Rattle.delta.specs.ByteDeltas.{IsPrefixed, IsPrefixesOver, completed}
use Rattle.delta.specs.inner.Shared.{AreShared, IsSharedLong}
use Rattle.delta.proofs.Cutting.{faults_only, turn_limit}
use Rattle.delta.proofs.Completing.{AreLengths, prefixes_stand, second_stands, prefixes_none, prefixes_over, second_over, prefixes_not_over, of_values}
use Rattle.delta.proofs.prefixes.decode_prefixes.Goals as goal

pub returns-in_err-prefixes-clause-only : goal.returns-in_err-prefixes-clause-only
returns-in_err-prefixes-clause-only c =
    passes (λ e. IsFault e → NothingStands (IsPrefixed c.args.bytes.now c.args.n)) c.from_residual.result c.in_err-prefixes.field-0.0 c.from_residual.ensures.1
    (λ fault values used p. c.in_err-prefixes.ensures.only fault _ p.at p.shared)

pub returns-in_err-prefixes-clause-limit : goal.returns-in_err-prefixes-clause-limit
returns-in_err-prefixes-clause-limit c =
    passes_limit (IsPrefixesOver c.args.bytes.now c.args.n) c.from_residual.result c.in_err-prefixes.field-0.0 c.from_residual.ensures.1
    (faults_only (IsPrefixesOver c.args.bytes.now c.args.n) c.in_err-prefixes.field-0.0 c.in_err-prefixes.ensures.which (λ fault p. c.in_err-prefixes.ensures.only fault p.prefixes p.at p.shared))

pub returns-in_err-lengths-clause-only : goal.returns-in_err-lengths-clause-only
returns-in_err-lengths-clause-only c =
    let text = c.args.bytes.now in
    let ps = c.in_ok-prefixes.prefixes.items in
    passes (λ e. IsFault e → NothingStands (IsPrefixed text c.args.n)) c.from_residual-in_err-lengths.result c.in_err-lengths.field-0.0 c.from_residual-in_err-lengths.ensures.1
    (λ fault values used p.
    let s = second_stands text c.args.n c.in_ok-prefixes.at ps c.split_at.result.1.now values used c.in_ok-prefixes.ensures.stands c.split_at.ensures.back p in
    c.in_err-lengths.ensures.only fault _ s.1.at s.1.lengths)

pub returns-in_err-lengths-clause-limit : goal.returns-in_err-lengths-clause-limit
returns-in_err-lengths-clause-limit c =
    let text = c.args.bytes.now in
    let ps = c.in_ok-prefixes.prefixes.items in
    passes_limit (IsPrefixesOver text c.args.n) c.from_residual-in_err-lengths.result c.in_err-lengths.field-0.0 c.from_residual-in_err-lengths.ensures.1
    (faults_only (IsPrefixesOver text c.args.n) c.in_err-lengths.field-0.0 c.in_err-lengths.ensures.which
    (λ fault p.
    let s = second_over text c.args.n c.in_ok-prefixes.at ps c.split_at.result.1.now c.in_ok-prefixes.ensures.stands c.split_at.ensures.back p in
    c.in_err-lengths.ensures.only fault p.lengths p.then s.1))

pub returns-in_err-used-clause-only : goal.returns-in_err-used-clause-only
returns-in_err-used-clause-only c =
    let text = c.args.bytes.now in
    let ps = c.in_ok-prefixes.prefixes.items in
    let zs = c.in_ok-lengths.lengths.items in
    let rest = c.split_at-2.result.1.now in
    let l : AreLengths text c.args.n c.in_ok-prefixes.at c.in_ok-lengths.then ps zs c.split_at.result.1.now rest =
    record { prefixes = c.in_ok-prefixes.ensures.stands; moved = c.split_at.ensures.back; lengths = c.in_ok-lengths.ensures.stands; left = c.split_at-2.ensures.back } in
    passes (λ e. IsFault e → NothingStands (IsPrefixed text c.args.n)) c.from_residual-in_err-used.result c.in_err-used.field-0.0 c.from_residual-in_err-used.ensures.1
    (λ fault. prefixes_none text c.args.n c.in_ok-prefixes.at c.in_ok-lengths.then ps zs c.split_at.result.1.now rest l
    (subst (λ (t : List ℤ). (used : ℕ) → AreShared [] t zs rest used → ⊥) c.deref.ensures.value
    (subst (λ (t : List ℤ). (used : ℕ) → AreShared [] c.deref.result.now t rest used → ⊥) c.deref-2.ensures.value (c.in_err-used.ensures.only fault))))

pub returns-in_err-used-clause-which : goal.returns-in_err-used-clause-which
returns-in_err-used-clause-which c =
    passes (HasCause IsOfValues) c.from_residual-in_err-used.result c.in_err-used.field-0.0 c.from_residual-in_err-used.ensures.1 (of_values c.in_err-used.field-0.0 c.in_err-used.ensures.which)

pub returns-in_err-used-clause-limit : goal.returns-in_err-used-clause-limit
returns-in_err-used-clause-limit c =
    let text = c.args.bytes.now in
    let ps = c.in_ok-prefixes.prefixes.items in
    let zs = c.in_ok-lengths.lengths.items in
    let others = c.split_at.result.1.now in
    let rest = c.split_at-2.result.1.now in
    let l : AreLengths text c.args.n c.in_ok-prefixes.at c.in_ok-lengths.then ps zs others rest =
    record { prefixes = c.in_ok-prefixes.ensures.stands; moved = c.split_at.ensures.back; lengths = c.in_ok-lengths.ensures.stands; left = c.split_at-2.ensures.back } in
    passes_limit (IsPrefixesOver text c.args.n) c.from_residual-in_err-used.result c.in_err-used.field-0.0 c.from_residual-in_err-used.ensures.1
    (turn_limit (IsSharedLong [] c.deref.result.now c.deref-2.result.now rest) (IsPrefixesOver text c.args.n) c.in_err-used.field-0.0
    (λ over. prefixes_over text c.args.n c.in_ok-prefixes.at c.in_ok-lengths.then ps zs others rest l
    (subst (λ (t : List ℤ). IsSharedLong [] t zs rest) c.deref.ensures.value (subst (λ (t : List ℤ). IsSharedLong [] c.deref.result.now t rest) c.deref-2.ensures.value over)))
    (λ fault none. prefixes_not_over text c.args.n c.in_ok-prefixes.at c.in_ok-lengths.then ps zs others rest l
    (subst (λ (t : List ℤ). IsSharedLong [] t zs rest → ⊥) c.deref.ensures.value (subst (λ (t : List ℤ). IsSharedLong [] c.deref.result.now t rest → ⊥) c.deref-2.ensures.value none)))
    c.in_err-used.ensures.limit)

pub returns-clause-stands : goal.returns-clause-stands
returns-clause-stands c =
    let ps = c.in_ok-prefixes.prefixes.items in
    let zs = c.in_ok-lengths.lengths.items in
    let others = c.split_at.result.1.now in
    let rest = c.split_at-2.result.1.now in
    let used = c.in_ok-used.used in
    let l : AreLengths c.args.bytes.now c.args.n c.in_ok-prefixes.at c.in_ok-lengths.then ps zs others rest =
    record { prefixes = c.in_ok-prefixes.ensures.stands; moved = c.split_at.ensures.back; lengths = c.in_ok-lengths.ensures.stands; left = c.split_at-2.ensures.back } in
    let shared : AreShared [] ps zs rest used = subst (λ (t : List ℤ). AreShared [] t zs rest used) c.deref.ensures.value
    (subst (λ (t : List ℤ). AreShared [] c.deref.result.now t rest used) c.deref-2.ensures.value c.in_ok-used.ensures.stands) in
    subst (λ (t : List ℕ). IsPrefixed c.args.bytes.now c.args.n (completed t ps zs rest) (c.in_ok-prefixes.at + c.in_ok-lengths.then + used)) (sym c.new.ensures.items)
    (prefixes_stand c.args.bytes.now c.args.n c.in_ok-prefixes.at c.in_ok-lengths.then used ps zs others rest l shared)

pub returns-clause-limit : goal.returns-clause-limit
returns-clause-limit c =
    let zs = c.in_ok-lengths.lengths.items in
    let rest = c.split_at-2.result.1.now in
    prefixes_not_over c.args.bytes.now c.args.n c.in_ok-prefixes.at c.in_ok-lengths.then c.in_ok-prefixes.prefixes.items zs c.split_at.result.1.now rest
    (record { prefixes = c.in_ok-prefixes.ensures.stands; moved = c.split_at.ensures.back; lengths = c.in_ok-lengths.ensures.stands; left = c.split_at-2.ensures.back })
    (subst (λ (t : List ℤ). IsSharedLong [] t zs rest → ⊥) c.deref.ensures.value
    (subst (λ (t : List ℤ). IsSharedLong [] c.deref.result.now t rest → ⊥) c.deref-2.ensures.value c.in_ok-used.ensures.limit))
