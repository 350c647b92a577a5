use Rattle.std.proofs.Common.{◌≡◌, ℕ, List, ◌-◌, ◌<◌, ◌≤◌, ◌∙◌, length, map, drop, arith, sym, subst}
use Rattle.std.proofs.lemmas.List.{length-map}
use Rattle.bits.specs.Refusals.{IsFault}
use Rattle.bits.specs.Codec.{NothingStands}
use Rattle.bits.proofs.Passing.{passes}
use Rattle.hybrid_rle.specs.Hybrid.{IsRun, IsHybrid}
use Rattle.hybrid_rle.specs.inner.Taken.{IsTaken, Lacks}
use Rattle.hybrid_rle.proofs.Hybrids.{reading_begins, reading_goes_on, reading_ends, reading_fails}
use Rattle.hybrid_rle.proofs.reading.decode.Goals as goal

pub runs-init : goal.runs-init
runs-init g c = rw c.new-numbers.ensures.items (reading_begins c.args.width c.args.bytes.now c.args.n)

pub returns-in_err-at-clause-only : goal.returns-in_err-at-clause-only
returns-in_err-at-clause-only g c =
    let w = c.args.width in
    let items = map g.T.Number.seen c.runs.numbers.items in
    let size : length items ≡ c.runs.numbers.len = length-map c.runs.numbers.items g.T.Number.seen ∙ sym c.runs.numbers.ok.0 in
    let left : c.args.n - c.len-in-runs.result ≡ c.args.n - length items = omega (arith, size, c.len-in-runs.ensures) in
    let some : length items < c.args.n = omega (arith, size, c.len.ensures, c.runs-test.true) in
    passes (λ e. IsFault e → NothingStands (IsHybrid w c.args.bytes.now c.args.n)) c.from_residual.result c.in_err-at.field-0.0 c.from_residual.ensures.1
    (λ fault.
    let none : Lacks (IsRun w) (drop c.runs.at c.args.bytes.now) (c.args.n - c.len-in-runs.result) = subst (λ (t : List ℕ). Lacks (IsRun w) t (c.args.n - c.len-in-runs.result)) c.split_at.ensures.back (c.in_err-at.ensures.only fault) in
    reading_fails w c.args.n c.runs.at c.args.bytes.now items some c.runs.invariant (subst (λ (k : ℕ). Lacks (IsRun w) (drop c.runs.at c.args.bytes.now) k) left none))

pub runs-preserved : goal.runs-preserved
runs-preserved g c =
    let w = c.args.width in
    let seen = g.T.Number.seen in
    let items = map seen c.runs.numbers.items in
    let new = map seen c.take_run.new.numbers.items in
    let size : length items ≡ c.runs.numbers.len = length-map c.runs.numbers.items seen ∙ sym c.runs.numbers.ok.0 in
    let left : c.args.n - c.len-in-runs.result ≡ c.args.n - length items = omega (arith, size, c.len-in-runs.ensures) in
    let some : length items < c.args.n = omega (arith, size, c.len.ensures, c.runs-test.true) in
    let taken : IsTaken (IsRun w) (drop c.runs.at c.args.bytes.now) (c.args.n - c.len-in-runs.result) items new c.in_ok-at.field-0 =
    subst (λ (t : List ℕ). IsTaken (IsRun w) t (c.args.n - c.len-in-runs.result) items new c.in_ok-at.field-0) c.split_at.ensures.back c.in_ok-at.ensures.numbers in
    reading_goes_on w c.args.n c.runs.at c.in_ok-at.field-0 c.args.bytes.now items new some c.runs.invariant
    (subst (λ (k : ℕ). IsTaken (IsRun w) (drop c.runs.at c.args.bytes.now) k items new c.in_ok-at.field-0) left taken)

pub returns-clause-stands : goal.returns-clause-stands
returns-clause-stands g c =
    let items = map g.T.Number.seen c.runs.numbers.items in
    let size : length items ≡ c.runs.numbers.len = length-map c.runs.numbers.items g.T.Number.seen ∙ sym c.runs.numbers.ok.0 in
    let all : c.args.n ≤ length items = omega (arith, size, c.len.ensures, c.runs-test.false) in
    reading_ends c.args.width c.args.n c.runs.at c.args.bytes.now items all c.runs.invariant

pub returns-clause-count : goal.returns-clause-count
returns-clause-count g c =
    let items = map g.T.Number.seen c.runs.numbers.items in
    let size : length items ≡ c.runs.numbers.len = length-map c.runs.numbers.items g.T.Number.seen ∙ sym c.runs.numbers.ok.0 in
    omega (arith, size, c.len.ensures, c.runs-test.false, c.runs.invariant.few)
