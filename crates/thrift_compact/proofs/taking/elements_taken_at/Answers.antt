use Rattle.std.proofs.Common.{◌≡◌, ◌≤◌, length, subst, arith}
use Rattle.thrift_compact.specs.View.{code_of}
use Rattle.thrift_compact.specs.inner.Reading.{ElementRead, ElementsTaken}
use Rattle.thrift_compact.proofs.ElementsTaken as elements
use Rattle.thrift_compact.proofs.Refused.{refused}
use Rattle.thrift_compact.proofs.Stays.{nothing_after}
use Rattle.thrift_compact.proofs.taking.elements_taken_at.Goals as goal

pub returns-in_err-used-clause-which : goal.returns-in_err-used-clause-which
returns-in_err-used-clause-which g c =
    let T = g.T.TakesElements in
    let bytes = c.args.bytes.now in
    let rest = c.split_at.result.1.now in
    let kind = code_of c.args.kind in
    let left = c.args.left in
    let start = T.shown c.args.taker.now in
    let now = T.shown c.loop.taker in
    refused (ElementRead (T.step now) kind left) rest (ElementsTaken T.step start kind left c.args.size) bytes c.from_residual.result c.in_err-used.field-0.0 c.from_residual.ensures.1 c.in_err-used.ensures.which
    (λ more nothing. elements.none T.step start now bytes kind left c.args.size c.loop.counter c.loop.at more c.loop-test.true
    (nothing_after (ElementRead (T.step now) kind left) c.loop.at bytes rest more c.split_at.ensures.back c.loop.invariant.within nothing) c.loop.invariant)

pub loop-preserved : goal.loop-preserved
loop-preserved g c =
    let T = g.T.TakesElements in
    let kind = code_of c.args.kind in
    let now = T.shown c.loop.taker in
    let next = T.shown c.element_taken.new.taker in
    let s = subst (λ b. ElementRead (T.step now) kind c.args.left b next c.in_ok-used.used) c.split_at.ensures.back c.in_ok-used.ensures.stands in
    let w = subst (λ b. c.in_ok-used.used ≤ length b) c.split_at.ensures.back c.in_ok-used.ensures.within in
    elements.goes_on T.step (T.shown c.args.taker.now) now next c.args.bytes.now kind c.args.left c.args.size c.loop.counter c.loop.at c.in_ok-used.used c.loop-test.true w s c.loop.invariant

pub returns-clause-stands : goal.returns-clause-stands
returns-clause-stands g c =
    let T = g.T.TakesElements in
    let kind = code_of c.args.kind in
    let start = T.shown c.args.taker.now in
    let now = T.shown c.loop.taker in
    let done : c.loop.counter ≡ c.args.size = omega arith in
    elements.ends T.step start now c.args.bytes.now kind c.args.left c.args.size c.loop.at
    (subst (λ n. elements.Walking T.step start now c.args.bytes.now kind c.args.left c.args.size n c.loop.at) done c.loop.invariant)

pub loop-init : goal.loop-init
loop-init g c = let T = g.T.TakesElements in elements.begins T.step (T.shown c.args.taker.now) c.args.bytes.now (code_of c.args.kind) c.args.left c.args.size
