use Rattle.std.proofs.Common.{ℕ, ◌++◌, length, drop, refl, sym, ap, subst, arith}
use Rattle.std.proofs.lemmas.List.{length-drop}
use Rattle.thrift_compact.specs.Tree.{count}
use Rattle.thrift_compact.specs.Compact.{IsListHead, AreElements}
use Rattle.thrift_compact.specs.View.{code_of}
use Rattle.thrift_compact.specs.inner.Reading.{ListTaken, ElementsTaken}
use Rattle.thrift_compact.proofs.Parts.{one_list_head}
use Rattle.thrift_compact.proofs.Within.{elements_within}
use Rattle.thrift_compact.proofs.Elements.{elements_some}
use Rattle.thrift_compact.proofs.Refused.{refused}
use Rattle.thrift_compact.proofs.Stays.{in_rest, list_head_stays}
use Rattle.thrift_compact.proofs.taking.list_taken_at.Goals as goal

pub returns-in_err-kind-clause-which : goal.returns-in_err-kind-clause-which
returns-in_err-kind-clause-which g c =
    let T = g.T.TakesElements in
    let bytes = c.args.bytes.now in
    refused (λ bytes (h : ℕ × ℕ). IsListHead bytes h.0 h.1) bytes (ListTaken T.step (T.shown c.args.taker.now) c.args.left) bytes c.from_residual.result c.in_err-kind.field-0.0 c.from_residual.ensures.1 c.in_err-kind.ensures.which
    (λ more nothing held used s. nothing (s.0.0, count s.0.1) s.1.1.0 s.1.1.2)

pub returns-then-size-rest-clause-which : goal.returns-then-size-rest-clause-which
returns-then-size-rest-clause-which g c held used (l, s, taken) =
    let bytes = c.args.bytes.now in
    let h = one_list_head bytes l.0 (count l.1) s.1.0 (code_of c.in_ok-kind.kind) c.in_ok-kind.size c.in_ok-kind.head s.1.2 c.in_ok-kind.ensures.stands in
    let e = ap length c.split_at.ensures.back in
    omega (arith, h.size, h.used, e, c.if-size-rest.true, elements_some l.1 l.0 (drop s.1.0 bytes) s.1.1 s.1.3, elements_within l.1 l.0 (drop s.1.0 bytes) s.1.1 s.1.3, length-drop s.1.0 bytes, length-drop c.in_ok-kind.head bytes)

pub returns-in_err-used-clause-which : goal.returns-in_err-used-clause-which
returns-in_err-used-clause-which g c =
    let T = g.T.TakesElements in
    let start = T.shown c.args.taker.now in
    let bytes = c.args.bytes.now in
    let rest = c.split_at.result.1.now in
    let kind = code_of c.in_ok-kind.kind in
    let head = c.in_ok-kind.head in
    refused (ElementsTaken T.step start kind c.args.left c.in_ok-kind.size) rest (ListTaken T.step start c.args.left) bytes c.from_residual-in_err-used.result c.in_err-used.field-0.0 c.from_residual-in_err-used.ensures.1 c.in_err-used.ensures.which
    (λ more nothing held used (l, s, taken).
    let whole = bytes ++ more in
    let h = one_list_head whole l.0 (count l.1) s.1.0 kind c.in_ok-kind.size head s.1.2 (list_head_stays bytes more kind c.in_ok-kind.size head c.in_ok-kind.ensures.stands) in
    let e1 = subst (λ k. AreElements l.1 k (drop s.1.0 whole) s.1.1) h.code s.1.3 in
    let e2 = subst (λ n. AreElements l.1 kind (drop n whole) s.1.1) h.used e1 in
    let e3 = in_rest (λ b. AreElements l.1 kind b s.1.1) head bytes rest more c.split_at.ensures.back c.in_ok-kind.ensures.within e2 in
    nothing held s.1.1 (l.1, (h.size, s.0, e3), taken))

pub returns-clause-stands : goal.returns-clause-stands
returns-clause-stands g c =
    let s = c.in_ok-used.ensures.stands in
    let kind = code_of c.in_ok-kind.kind in
    let first = subst (λ n. IsListHead c.args.bytes.now kind n c.in_ok-kind.head) (sym s.1.0) c.in_ok-kind.ensures.stands in
    let behind = subst (λ b. AreElements s.0 kind b c.in_ok-used.used) c.split_at.ensures.back s.1.2 in
    ((kind, s.0), (s.1.1, (c.in_ok-kind.head, c.in_ok-used.used, first, behind, refl)), s.2)
