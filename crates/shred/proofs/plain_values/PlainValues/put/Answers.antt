use Rattle.std.proofs.Common.{rules, ◌≡◌, ◌+◌, ℕ, [], ◌∷◌, take, ap, sym, subst, ◌∙◌}
use Rattle.std.specs.Prelude.{Bool, true}
use Rattle.plain.specs.ValuesFrom.{values_from}
use Rattle.shred.specs.InPlain.{AreInPlain}
use Rattle.shred.specs.Waiting.{plain_view}
use Rattle.shred.specs.inner.Put.{AppendsIf}
use Rattle.shred.specs.inner.Roomy.{list_of}
use Rattle.shred.specs.inner.Spelled.{IsSpelledIf}
use Rattle.shred.proofs.InPlain.{put_in_plain}
use Rattle.shred.proofs.plain_values.PlainValues.put.Goals as goal

pub invariant_of-self-then-is_put : goal.invariant_of-self-then-is_put
invariant_of-self-then-is_put g c =
    let p = c.args.self.now in
    let v = g.V.Single.meant c.args.value in
    let new = list_of c.put_plain.new.bytes in
    let is : IsSpelledIf true p.kind v (list_of p.bytes) new = subst (λ (b : Bool). IsSpelledIf b p.kind v (list_of p.bytes) new) c.if-is_put.true c.in_ok-is_put.ensures.put in
    let more : p.count + 1 ≡ c.in-Some.count = search rules in
    record {
      spelled = subst (λ (n : ℕ). AreInPlain p.kind new n p.marked p.marked_bytes) more (put_in_plain p.kind (list_of p.bytes) new p.count p.marked p.marked_bytes v p.spelled is.0 is.1).0;
    }

pub returns-then-is_put-clause-put : goal.returns-then-is_put-clause-put
returns-then-is_put-clause-put g c =
    let p = c.args.self.now in
    let v = g.V.Single.meant c.args.value in
    let new = list_of c.put_plain.new.bytes in
    let is : IsSpelledIf true p.kind v (list_of p.bytes) new = subst (λ (b : Bool). IsSpelledIf b p.kind v (list_of p.bytes) new) c.if-is_put.true c.in_ok-is_put.ensures.put in
    let more : c.in-Some.count ≡ p.count + 1 = search rules in
    let put = ap (λ (n : ℕ). values_from p.kind n 0 new) more ∙ (put_in_plain p.kind (list_of p.bytes) new p.count p.marked p.marked_bytes v p.spelled is.0 is.1).1 in
    subst (λ (b : Bool). AppendsIf b (plain_view p) (v ∷ []) (values_from p.kind c.in-Some.count 0 new)) (sym c.if-is_put.true) put

pub returns-then-is_put-clause-marked : goal.returns-then-is_put-clause-marked
returns-then-is_put-clause-marked g c =
    let p = c.args.self.now in
    let v = g.V.Single.meant c.args.value in
    let new = list_of c.put_plain.new.bytes in
    let is : IsSpelledIf true p.kind v (list_of p.bytes) new = subst (λ (b : Bool). IsSpelledIf b p.kind v (list_of p.bytes) new) c.if-is_put.true c.in_ok-is_put.ensures.put in
    let more : c.in-Some.count ≡ p.count + 1 = search rules in
    ap (λ (n : ℕ). take p.marked (values_from p.kind n 0 new)) more ∙ (put_in_plain p.kind (list_of p.bytes) new p.count p.marked p.marked_bytes v p.spelled is.0 is.1).2
