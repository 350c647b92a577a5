use Rattle.std.proofs.Common.{◌≡◌, ℕ, List, ◌+◌, ◌≤◌, length, take, drop, subst, sym, arith, ◌∙◌}
use Rattle.std.proofs.lemmas.List.{length-drop, take_more_set, take_all, length-set}
use Rattle.bits.specs.Refusals.{IsFault}
use Rattle.bits.specs.Codec.{NothingStands, InTurn, AreInTurn}
use Rattle.bits.specs.Varint.{IsUleb}
use Rattle.bits.proofs.Facts.{one_uleb}
use Rattle.bits.proofs.Passing.{passes}
use Rattle.bits.proofs.Turns.{Turning, turning_goes_on, turning_none, turning_ends}
use Rattle.delta.proofs.header.read_four.Goals as goal

pub returns-in_err-number-clause-only : goal.returns-in_err-number-clause-only
returns-in_err-number-clause-only c =
    let body = c.args.bytes.now in
    let i = c.loop-i.i in
    passes (λ e. IsFault e → NothingStands (AreInTurn IsUleb 4 body)) c.from_residual.result c.in_err-number.field-0.0 c.from_residual.ensures.1
    (λ fault.
    let none : NothingStands (IsUleb (drop c.loop-i.at body)) = subst (λ (t : List ℕ). NothingStands (IsUleb t)) c.split_at.ensures.back (c.in_err-number.ensures.only fault) in
    turning_none IsUleb 4 body i c.loop-i.at (take i c.loop-i.numbers) c.loop-i-test.true none c.loop-i.invariant.turning)

pub loop-i-preserved : goal.loop-i-preserved
loop-i-preserved c =
    let body = c.args.bytes.now in
    let i = c.loop-i.i in
    let at = c.loop-i.at in
    let number = c.in_ok-number.number in
    let used = c.in_ok-number.used in
    let here : IsUleb (drop at body) number used = subst (λ (t : List ℕ). IsUleb t number used) c.split_at.ensures.back c.in_ok-number.ensures.stands in
    let inside : used ≤ length (drop at body) = subst (λ (t : List ℕ). used ≤ length t) c.split_at.ensures.back c.in_ok-number.ensures.within in
    record {
      count = length-set c.loop-i.numbers i number ∙ c.loop-i.invariant.count;
      within = omega (arith, inside, length-drop at body, c.loop-i.invariant.within);
      turning = subst (λ (t : List ℕ). Turning IsUleb 4 body (i + 1) (at + used) t) (sym (take_more_set c.loop-i.numbers i number (omega (arith, c.loop-i-test.true, c.loop-i.invariant.count))))
          (turning_goes_on IsUleb 4 body i at (take i c.loop-i.numbers) number used one_uleb c.loop-i-test.true here c.loop-i.invariant.turning);
    }

pub returns-clause-stands : goal.returns-clause-stands
returns-clause-stands c =
    let body = c.args.bytes.now in
    let all : c.loop-i.i ≡ 4 = omega (arith, c.loop-i-test.false, c.loop-i.auto.i-end) in
    let turning : Turning IsUleb 4 body 4 c.loop-i.at (take 4 c.loop-i.numbers) = subst (λ (k : ℕ). Turning IsUleb 4 body k c.loop-i.at (take k c.loop-i.numbers)) all c.loop-i.invariant.turning in
    let whole : take 4 c.loop-i.numbers ≡ c.loop-i.numbers = take_all 4 c.loop-i.numbers (omega (arith, c.loop-i.invariant.count)) in
    subst (λ (t : List ℕ). InTurn IsUleb body t c.loop-i.at) whole (turning_ends IsUleb 4 body c.loop-i.at (take 4 c.loop-i.numbers) turning).1
