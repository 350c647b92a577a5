use Rattle.std.proofs.Common.{List, ℕ, ap, sym, subst, ◌∙◌}
use Rattle.plain.specs.ValuesFrom.{values_from}
use Rattle.shred.specs.InPlain.{AreInPlain}
use Rattle.shred.specs.inner.Roomy.{list_of}
use Rattle.shred.proofs.InPlain.{left_in_plain}
use Rattle.shred.proofs.plain_values.PlainValues.cut.Goals as goal

pub invariant_of-self : goal.invariant_of-self
invariant_of-self c =
    let p = c.args.self.now in
    record {
      spelled = subst (λ (t : List ℕ). AreInPlain p.kind t p.marked p.marked p.marked_bytes) (sym c.truncate.ensures.items) (left_in_plain p.kind (list_of p.bytes) p.count p.marked p.marked_bytes p.spelled).0;
    }

pub returns : goal.returns
returns c =
    let p = c.args.self.now in
    record {
      cut = ap (λ (t : List ℕ). values_from p.kind p.marked 0 t) c.truncate.ensures.items ∙ (left_in_plain p.kind (list_of p.bytes) p.count p.marked p.marked_bytes p.spelled).1;
    }
