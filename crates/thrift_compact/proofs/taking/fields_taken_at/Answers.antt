use Rattle.std.proofs.Common.{◌≡◌, ◌+◌, ◌≤◌, [], ◌++◌, length, drop, sym, subst, ◌∙◌, ℕ, arith, to_z, of_z}
use Rattle.std.specs.Prelude.{ℤ}
use Rattle.std.specs.Int.{w16}
use Rattle.std.proofs.lemmas.Int.{to_z-of_z}
use Rattle.std.proofs.lemmas.List.{length-append, length-drop}
use Rattle.bits.specs.Codec.{NothingStands}
use Rattle.thrift_compact.specs.Compact.{IsFieldHead, kind}
use Rattle.thrift_compact.specs.View.{code_of}
use Rattle.thrift_compact.specs.Values.{ReadAs}
use Rattle.thrift_compact.specs.inner.Reading.{FieldsTaken}
use Rattle.thrift_compact.proofs.Parts.{field_head_byte}
use Rattle.thrift_compact.proofs.FieldsRead.{byte_later, zero_at}
use Rattle.thrift_compact.proofs.FieldsTaken as fields
use Rattle.thrift_compact.proofs.Refused.{with_nothing_more, refused}
use Rattle.thrift_compact.proofs.Stays.{in_rest, nothing_after}
use Rattle.thrift_compact.proofs.taking.fields_taken_at.Goals as goal

pub returns-then-bytes-at-eq0-clause-stands : goal.returns-then-bytes-at-eq0-clause-stands
returns-then-bytes-at-eq0-clause-stands g c =
    let T = g.T.TakesFields in
    fields.ends T.step (T.shown c.args.taker.now) (T.shown c.loop-at.taker) c.args.bytes.now c.args.left c.loop-at.at (to_z w16 c.loop-at.previous-bits) (zero_at c.args.bytes.now c.loop-at.at c.loop-at-test.true c.if-bytes-at-eq0.true) c.loop-at.invariant

pub returns-in_err-id-clause-which : goal.returns-in_err-id-clause-which
returns-in_err-id-clause-which g c =
    let T = g.T.TakesFields in
    let bytes = c.args.bytes.now in
    let rest = c.split_at.result.1.now in
    let at = c.loop-at.at in
    let previous = to_z w16 c.loop-at.previous-bits in
    refused (λ bytes (h : ℤ × ℕ). IsFieldHead previous bytes h.0 h.1) rest (FieldsTaken T.step (T.shown c.args.taker.now) c.args.left) bytes c.from_residual.result c.in_err-id.field-0.0 c.from_residual.ensures.1 c.in_err-id.ensures.which
    (λ more nothing. fields.none T.step (T.shown c.args.taker.now) (T.shown c.loop-at.taker) bytes c.args.left at previous more
    (λ v p. c.if-bytes-at-eq0.false (sym (byte_later bytes more at c.loop-at-test.true) ∙ p.is))
    (λ id x h u next head n v e. nothing (id, kind x) h (in_rest (λ b. IsFieldHead previous b id (kind x) h) at bytes rest more c.split_at.ensures.back c.loop-at.invariant.within head)) c.loop-at.invariant)

pub returns-in_err-used-clause-which : goal.returns-in_err-used-clause-which
returns-in_err-used-clause-which g c =
    let T = g.T.TakesFields in
    let bytes = c.args.bytes.now in
    let rest = c.split_at-in-loop-at.result.1.now in
    let at = c.loop-at.at in
    let previous = to_z w16 c.loop-at.previous-bits in
    let kind = code_of c.in_ok-id.kind in
    let head = c.in_ok-id.head in
    let left = c.args.left in
    let now = T.shown c.loop-at.taker in
    let mine = subst (λ b. IsFieldHead previous b c.in_ok-id.id kind head) c.split_at.ensures.back c.in_ok-id.ensures.stands in
    let fits : head ≤ length (drop at bytes) = subst (λ b. head ≤ length b) c.split_at.ensures.back c.in_ok-id.ensures.within.1 in
    let within : at + head ≤ length bytes = omega (arith, fits, length-drop at bytes, c.loop-at.invariant.within) in
    let id = c.in_ok-id.id in
    let back : to_z w16 (of_z w16 id) ≡ id = to_z-of_z w16 id c.in_ok-id.ensures.stands.2 in
    refused (ReadAs (T.step now (to_z w16 (of_z w16 id))) kind left) rest (FieldsTaken T.step (T.shown c.args.taker.now) left) bytes c.from_residual-in_err-used.result c.in_err-used.field-0.0 c.from_residual-in_err-used.ensures.1 c.in_err-used.ensures.which
    (λ more nothing. fields.no_value T.step (T.shown c.args.taker.now) now bytes left at previous id kind head more mine
    (nothing_after (ReadAs (T.step now id) kind left) (at + head) bytes rest more c.split_at-in-loop-at.ensures.back within
    (subst (λ z. NothingStands (ReadAs (T.step now z) kind left (rest ++ more))) back nothing)) c.loop-at.invariant)

pub loop-at-preserved : goal.loop-at-preserved
loop-at-preserved g c =
    let T = g.T.TakesFields in
    let bytes = c.args.bytes.now in
    let now = T.shown c.loop-at.taker in
    let next = T.shown c.take.new.self in
    let id = c.in_ok-id.id in
    let kind = code_of c.in_ok-id.kind in
    let back : to_z w16 (of_z w16 id) ≡ id = to_z-of_z w16 id c.in_ok-id.ensures.stands.2 in
    let mine = subst (λ b. IsFieldHead (to_z w16 c.loop-at.previous-bits) b id kind c.in_ok-id.head) c.split_at.ensures.back c.in_ok-id.ensures.stands in
    let fits0 : c.in_ok-id.head ≤ length (drop c.loop-at.at bytes) = subst (λ b. c.in_ok-id.head ≤ length b) c.split_at.ensures.back c.in_ok-id.ensures.within.1 in
    let taken = subst (λ z. ReadAs (T.step now z) kind c.args.left c.split_at-in-loop-at.result.1.now next c.in_ok-used.used) back c.in_ok-used.ensures.stands in
    let s = subst (λ b. ReadAs (T.step now id) kind c.args.left b next c.in_ok-used.used) c.split_at-in-loop-at.ensures.back taken in
    let w = subst (λ b. c.in_ok-used.used ≤ length b) c.split_at-in-loop-at.ensures.back c.in_ok-used.ensures.within in
    rw back (fields.goes_on T.step (T.shown c.args.taker.now) now next bytes c.args.left c.loop-at.at (to_z w16 c.loop-at.previous-bits) id kind c.in_ok-id.head c.in_ok-used.used fits0 w mine s c.loop-at.invariant)

pub returns-clause-which : goal.returns-clause-which
returns-clause-which g c =
    let T = g.T.TakesFields in
    let bytes = c.args.bytes.now in
    let at = c.loop-at.at in
    let previous = to_z w16 c.loop-at.previous-bits in
    let past : length (drop at (bytes ++ [])) ≡ 0 = omega (arith, length-drop at (bytes ++ []), length-append bytes [], c.loop-at-test.false) in
    with_nothing_more (FieldsTaken T.step (T.shown c.args.taker.now) c.args.left) bytes
    (fields.none T.step (T.shown c.args.taker.now) (T.shown c.loop-at.taker) bytes c.args.left at previous []
    (λ v p. omega (arith, p.some, past))
    (λ id x h u next head n v e. let b = field_head_byte previous (drop at (bytes ++ [])) id (kind x) h head in omega (arith, b.1.some, past)) c.loop-at.invariant)

pub loop-at-init : goal.loop-at-init
loop-at-init g c = let T = g.T.TakesFields in fields.begins T.step (T.shown c.args.taker.now) c.args.bytes.now c.args.left
