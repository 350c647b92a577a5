use Rattle.std.proofs.Common.{◌≡◌, [], ◌∷◌, Bool, true, false, Option, Ok, refl, sym, ap, subst, ◌∙◌}
use Rattle.std.specs.Prelude.{option_map}
use Rattle.bits.specs.Faults.{refusal_of}
use Rattle.bits.specs.declared.fault.Fault.{Fault}
use Rattle.schema.specs.declared.borrowed.ValueRef.{ValueRef}
use Rattle.schema.specs.Borrowed.{value_ref_view}
use Rattle.schema.specs.Stripe.{Entry}
use Rattle.schema.specs.Views.{leaf_view}
use Rattle.assemble.specs.Sources.{Precede}
use Rattle.row_group.specs.PageLeft.{value_fits}
use Rattle.row_group.specs.Left.{ReaderLeft, reader_view, chunk_stands}
use Rattle.row_group.specs.Causes.{CausesStay}
use Rattle.row_group.specs.inner.Readers.{AdvancesReader, GivesPlain, entry_of_plain, last_taken}
use Rattle.row_group.proofs.Readers.{taken_fits}
use Rattle.row_group.proofs.chunk_reader.ChunkReaderEntrySource.next.Goals as goal

pub returns-in-Some : goal.returns-in-Some
returns-in-Some c =
    let old = c.args.self.now in
    let new = c.next_plain.new.self in
    let v = c.in-Some.value in
    let took : AdvancesReader (reader_view old) (reader_view new) (entry_of_plain v) (Ok true) = subst (λ (o : Option ValueRef). GivesPlain (reader_view old) (reader_view new) o) c.in-Some.is c.next_plain.ensures.gives in
    let sound = ap (λ (o : Option Fault). option_map refusal_of o) took.0 in
    let kept = ap (λ (o : Option Fault). option_map refusal_of o) (took.1 ∙ sym took.0) in
    ((refl, λ _. tt, ((took.2, kept), c.next_plain.ensures.caused)), record { gives = sound; suited = λ t h. h (value_ref_view v) took.3; caused = tt; takes = tt })

pub returns-then-branch : goal.returns-then-branch
returns-then-branch c =
    let old = c.args.self.now in
    let mid = c.next_plain.new.self in
    let new = c.advance.new.self in
    let same : reader_view mid ≡ reader_view old = subst (λ (o : Option ValueRef). GivesPlain (reader_view old) (reader_view mid) o) c.in_default.is c.next_plain.ensures.gives in
    let took = subst (λ (r : ReaderLeft). AdvancesReader r (reader_view new) (last_taken new) (Ok true)) same (subst (λ (b : Bool). AdvancesReader (reader_view mid) (reader_view new) (last_taken new) (Ok b)) c.if-branch.true c.in_ok-advance.ensures.advances) in
    let precede = subst (λ (e : Entry). Precede (e ∷ []) (chunk_stands old) (chunk_stands new)) (sym c.entry.ensures) took.2 in
    let stay : CausesStay (reader_view old) (reader_view new) = subst (λ (r : ReaderLeft). CausesStay r (reader_view new)) same c.in_ok-advance.ensures.caused.0 in
    let sound = ap (λ (o : Option Fault). option_map refusal_of o) took.0 in
    let kept = ap (λ (o : Option Fault). option_map refusal_of o) (took.1 ∙ sym took.0) in
    let own = (leaf_view old.pages.leaf.now).leaf_type in
    let fit = subst (λ (e : Entry). value_fits own e ≡ true) (sym c.entry.ensures) took.3 in
    ((refl, λ _. tt, ((precede, kept), stay)), record { gives = sound; suited = λ t h. taken_fits own t c.entry.result fit h; caused = tt; takes = tt })

pub returns-else-branch : goal.returns-else-branch
returns-else-branch c =
    let old = c.args.self.now in
    let mid = c.next_plain.new.self in
    let new = c.advance.new.self in
    let same : reader_view mid ≡ reader_view old = subst (λ (o : Option ValueRef). GivesPlain (reader_view old) (reader_view mid) o) c.in_default.is c.next_plain.ensures.gives in
    let took = subst (λ (r : ReaderLeft). AdvancesReader r (reader_view new) (last_taken new) (Ok false)) same (subst (λ (b : Bool). AdvancesReader (reader_view mid) (reader_view new) (last_taken new) (Ok b)) c.if-branch.false c.in_ok-advance.ensures.advances) in
    let stay : CausesStay (reader_view old) (reader_view new) = subst (λ (r : ReaderLeft). CausesStay r (reader_view new)) same c.in_ok-advance.ensures.caused.0 in
    let sound = ap (λ (o : Option Fault). option_map refusal_of o) took.0 in
    let kept = ap (λ (o : Option Fault). option_map refusal_of o) (took.1 ∙ sym took.0) in
    ((refl, λ _. tt, ((took.3, kept), stay)), record { gives = (sound, took.2); suited = tt; caused = tt; takes = tt })
