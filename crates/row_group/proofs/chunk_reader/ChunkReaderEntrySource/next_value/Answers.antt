use Rattle.std.proofs.Common.{◌≡◌, true, Option, Some, Ok, refl, sym, ap, subst, ◌∙◌}
use Rattle.std.specs.Prelude.{option_map}
use Rattle.bits.specs.Faults.{refusal_of}
use Rattle.bits.specs.declared.fault.Fault.{Fault}
use Rattle.schema.specs.declared.borrowed.ValueRef.{ValueRef}
use Rattle.schema.specs.Borrowed.{value_ref_view}
use Rattle.schema.specs.Fits.{fits_leaf}
use Rattle.schema.specs.Stripe.{entry}
use Rattle.schema.specs.Values.{ValueTree}
use Rattle.assemble.specs.Sources.{Precede}
use Rattle.row_group.specs.Left.{ReaderLeft, ChunkStands, reader_view, chunk_stands}
use Rattle.row_group.specs.inner.Readers.{AdvancesReader, GivesPlain, entry_of_plain}
use Rattle.row_group.proofs.chunk_reader.ChunkReaderEntrySource.next_value.Goals as goal

pub returns-in-Some : goal.returns-in-Some
returns-in-Some c =
    let old = c.args.self.now in
    let new = c.next_plain.new.self in
    let v = c.in-Some.value in
    let took : AdvancesReader (reader_view old) (reader_view new) (entry_of_plain v) (Ok true) = subst (λ (o : Option ValueRef). GivesPlain (reader_view old) (reader_view new) o) c.in-Some.is c.next_plain.ensures.gives in
    let precede = subst (λ (x : ValueTree). Precede (entry 0 0 (Some x)) (chunk_stands old) (chunk_stands new)) (sym c.lent.ensures) took.2 in
    let sound = ap (λ (o : Option Fault). option_map refusal_of o) took.0 in
    let kept = ap (λ (o : Option Fault). option_map refusal_of o) (took.1 ∙ sym took.0) in
    ((refl, λ _. tt, ((precede, kept), c.next_plain.ensures.caused)), record { gives = sound; suited = λ t h. subst (λ (x : ValueTree). fits_leaf t x ≡ true) (sym c.lent.ensures) (h (value_ref_view v) took.3); takes = tt })

pub returns-in-None : goal.returns-in-None
returns-in-None c =
    let same : reader_view c.next_plain.new.self ≡ reader_view c.args.self.now = subst (λ (o : Option ValueRef). GivesPlain (reader_view c.args.self.now) (reader_view c.next_plain.new.self) o) c.in-None.is c.next_plain.ensures.gives in
    ((refl, λ _. tt, (((λ es h. subst (λ (r : ReaderLeft). ChunkStands r es) (sym same) h, λ es h. subst (λ (r : ReaderLeft). ChunkStands r es) same h), ap (λ (r : ReaderLeft). option_map refusal_of r.fault) same), c.next_plain.ensures.caused)), record { gives = tt; suited = tt; takes = tt })
