use Rattle.std.proofs.Common.{◌≡◌, ◌<◌, ◌≤◌, ◌+◌, List, ℕ, length, arith, drop, sym, ap, subst}
use Rattle.std.proofs.lemmas.List.{length-drop}
use Rattle.std.specs.Prelude.{◌⊎◌}
use Rattle.bits.specs.declared.refusal.Refusal.TheVariants.{Truncated, Limit}
use Rattle.bits.specs.Refusals.{IsFault, IsLimitJustWhere}
use Rattle.bits.specs.Codec.{NothingStands, AreInTurn}
use Rattle.bits.proofs.Passing.{passes, passes_limit}
use Rattle.bits.proofs.Turns.{turn_push}
use Rattle.schema.specs.declared.value.Kind.TheVariants.{ByteArray}
use Rattle.plain.specs.Plain.{IsSpelled, IsReadOver, AnnouncesTooMuch}
use Rattle.plain.specs.ValuesFrom.{value_at, size_at, values_from}
use Rattle.plain.proofs.Places.{count_from, end_more, values_more}
use Rattle.plain.proofs.Turned.{has_cause, turn_fails, over_more, limit_passes}
use Rattle.plain.proofs.measuring.size_of_byte_arrays.Goals as goal

pub returns-in_err-at-clause-only : goal.returns-in_err-at-clause-only
returns-in_err-at-clause-only c =
    let body = c.args.bytes.now in
    let front = values_from ByteArray c.loop.counter 0 body in
    let few : length front < c.args.n = omega (arith, count_from ByteArray c.loop.counter 0 body, c.loop-test.true) in
    passes (λ e. IsFault e → NothingStands (AreInTurn (IsSpelled ByteArray) c.args.n body)) c.from_residual.result c.in_err-at.field-0.0 c.from_residual.ensures.1
    (λ fault. turn_fails ByteArray c.args.n body front c.loop.at few c.loop.invariant.stand (subst (λ (t : List ℕ). NothingStands (IsSpelled ByteArray t)) c.split_at.ensures.back (c.in_err-at.ensures.only fault)))

pub returns-in_err-at-clause-limit : goal.returns-in_err-at-clause-limit
returns-in_err-at-clause-limit c =
    let body = c.args.bytes.now in
    let front = values_from ByteArray c.loop.counter 0 body in
    let size : length front ≡ c.loop.counter = count_from ByteArray c.loop.counter 0 body in
    let only = subst (λ (t : List ℕ). IsFault c.in_err-at.field-0.0 → NothingStands (IsSpelled ByteArray t)) c.split_at.ensures.back c.in_err-at.ensures.only in
    let limit = subst (λ (t : List ℕ). IsLimitJustWhere (AnnouncesTooMuch ByteArray t) c.in_err-at.field-0.0) c.split_at.ensures.back c.in_err-at.ensures.limit in
    passes_limit (IsReadOver ByteArray body c.args.n) c.from_residual.result c.in_err-at.field-0.0 c.from_residual.ensures.1
    (limit_passes ByteArray c.args.n body front c.loop.at (omega (arith, size, c.loop-test.true)) c.loop.invariant.stand (subst (λ (k : ℕ). IsReadOver ByteArray body k → ⊥) (sym size) c.loop.invariant.below) c.in_err-at.field-0.0 (has_cause (λ f. (f ≡ Truncated) ⊎ (f ≡ Limit)) c.in_err-at.field-0.0 c.in_err-at.ensures.which) only limit)

pub loop-preserved : goal.loop-preserved
loop-preserved c =
    let body = c.args.bytes.now in
    let at = c.loop.at in
    let i = c.loop.counter in
    let used = c.in_ok-at.field-0 in
    let front = values_from ByteArray i 0 body in
    let v = value_at ByteArray at body in
    let here : IsSpelled ByteArray (drop at body) v used = subst (λ (t : List ℕ). IsSpelled ByteArray t (value_at ByteArray 0 t) used) c.split_at.ensures.back c.in_ok-at.ensures.stands in
    let size : used ≡ size_at ByteArray at body = subst (λ (t : List ℕ). used ≡ size_at ByteArray 0 t) c.split_at.ensures.back c.in_ok-at.ensures.size in
    let not_here : AnnouncesTooMuch ByteArray (drop at body) → ⊥ = subst (λ (t : List ℕ). AnnouncesTooMuch ByteArray t → ⊥) c.split_at.ensures.back c.in_ok-at.ensures.limit in
    let within : used ≤ length (drop at body) = subst (λ (t : List ℕ). used ≤ length t) c.split_at.ensures.back c.in_ok-at.ensures.within in
    let turn = turn_push (IsSpelled ByteArray) front v body at used c.loop.invariant.stand here in
    record {
      within = omega (arith, within, length-drop at body, c.loop.invariant.within);
      ends = rw (end_more ByteArray i 0 body, c.loop.invariant.ends) (ap (λ (k : ℕ). at + k) (sym size));
      stand = rw (values_more ByteArray i 0 body, c.loop.invariant.ends) turn;
      below = over_more ByteArray i body front at (count_from ByteArray i 0 body) c.loop.invariant.stand c.loop.invariant.below not_here;
    }

pub returns-clause-stands : goal.returns-clause-stands
returns-clause-stands c =
    let body = c.args.bytes.now in
    let all : c.loop.counter ≡ c.args.n = omega (arith, c.loop-test.false, c.loop.auto.counter-end) in
    (count_from ByteArray c.args.n 0 body, rw (sym all) c.loop.invariant.stand)
