use Rattle.std.proofs.Common.{List, ℕ, sym, subst}
use Rattle.bits.specs.Codec.{NothingStands}
use Rattle.plain.specs.Plain.{IsPlain}
use Rattle.plain.specs.ValuesLeft.{values_left}
use Rattle.shred.specs.inner.Roomy.{list_of}
use Rattle.shred.proofs.InPlain.{in_plain_stand, in_plain_left}
use Rattle.shred.proofs.plain_values.PlainValues.values.Goals as goal

pub known-requires : goal.known-requires
known-requires c =
    let p = c.args.self.now in
    record {
      stood = subst (λ (t : List ℕ). NothingStands (IsPlain p.kind p.count t) → ⊥) (sym c.as_slice.ensures) (in_plain_stand p.kind (list_of p.bytes) p.count p.marked p.marked_bytes p.spelled);
    }

pub returns-clause-stands : goal.returns-clause-stands
returns-clause-stands c =
    let p = c.args.self.now in
    let stands = c.known.ensures.stands in
    in_plain_left p.kind (list_of p.bytes) p.count p.marked p.marked_bytes stands.0 (values_left c.known.result) p.spelled
    (subst (λ (t : List ℕ). IsPlain p.kind p.count t (values_left c.known.result) stands.0) c.as_slice.ensures stands.1)
