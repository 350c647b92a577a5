use Rattle.std.proofs.Common.{rules, ◌≡◌, ◌+◌, ◌++◌, ℕ, List, take, ap, subst, ◌∙◌}
use Rattle.plain.specs.ValuesFrom.{values_from}
use Rattle.shred.specs.InPlain.{AreInPlain}
use Rattle.shred.specs.inner.Roomy.{list_of}
use Rattle.shred.proofs.InPlain.{taken_in_plain}
use Rattle.shred.proofs.plain_values.PlainValues.take_over.Goals as goal

pub invariant_of-self-2 : goal.invariant_of-self-2
invariant_of-self-2 c =
    let p = c.args.self.now in
    let q = c.args.other.now in
    let same : q.kind ≡ p.kind = search rules in
    let more : p.count + q.count ≡ c.in-Some.count = search rules in
    let new = list_of c.append.new.self in
    let joined : new ≡ list_of p.bytes ++ list_of q.bytes = c.in_ok-append.ensures.items ∙ ap (λ (t : List ℕ). list_of p.bytes ++ t) c.as_slice.ensures in
    record {
      spelled = subst (λ (n : ℕ). AreInPlain p.kind new n p.marked p.marked_bytes) more
          (taken_in_plain p.kind q.kind (list_of p.bytes) (list_of q.bytes) new p.count q.count p.marked p.marked_bytes q.marked q.marked_bytes same p.spelled q.spelled joined).0;
    }

pub returns-clause-put : goal.returns-clause-put
returns-clause-put c =
    let p = c.args.self.now in
    let q = c.args.other.now in
    let same : q.kind ≡ p.kind = search rules in
    let more : c.in-Some.count ≡ p.count + q.count = search rules in
    let new = list_of c.append.new.self in
    let joined : new ≡ list_of p.bytes ++ list_of q.bytes = c.in_ok-append.ensures.items ∙ ap (λ (t : List ℕ). list_of p.bytes ++ t) c.as_slice.ensures in
    ap (λ (n : ℕ). values_from p.kind n 0 new) more
    ∙ (taken_in_plain p.kind q.kind (list_of p.bytes) (list_of q.bytes) new p.count q.count p.marked p.marked_bytes q.marked q.marked_bytes same p.spelled q.spelled joined).1

pub returns-clause-marked : goal.returns-clause-marked
returns-clause-marked c =
    let p = c.args.self.now in
    let q = c.args.other.now in
    let same : q.kind ≡ p.kind = search rules in
    let more : c.in-Some.count ≡ p.count + q.count = search rules in
    let new = list_of c.append.new.self in
    let joined : new ≡ list_of p.bytes ++ list_of q.bytes = c.in_ok-append.ensures.items ∙ ap (λ (t : List ℕ). list_of p.bytes ++ t) c.as_slice.ensures in
    ap (λ (n : ℕ). take p.marked (values_from p.kind n 0 new)) more
    ∙ (taken_in_plain p.kind q.kind (list_of p.bytes) (list_of q.bytes) new p.count q.count p.marked p.marked_bytes q.marked q.marked_bytes same p.spelled q.spelled joined).2
