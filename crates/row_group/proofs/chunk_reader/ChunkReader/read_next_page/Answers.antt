use Rattle.std.proofs.Common.{◌≡◌, [], Option, Ok, Err, sym, subst}
use Rattle.std.specs.Prelude.{option_map}
use Rattle.bits.specs.declared.fault.Fault.{Fault}
use Rattle.bits.specs.Faults.{refusal_of}
use Rattle.assemble.specs.Sources.{StandsOnly, Same, Keeps}
use Rattle.row_group.specs.PageLeft.{page_left}
use Rattle.row_group.specs.Left.{pages_view, reader_view, ChunkStands}
use Rattle.row_group.proofs.PageSteps.{next_accepted}
use Rattle.row_group.proofs.Readers.{reader, filled, refused}
use Rattle.row_group.specs.Causes.{CausesStay}
use Rattle.row_group.proofs.Causes.{page_causes, fault_causes, fault_cause, kept_cause}
use Rattle.row_group.proofs.chunk_reader.ChunkReader.read_next_page.Goals as goal

pub invariant_of-self-clause-accepted : goal.invariant_of-self-clause-accepted
invariant_of-self-clause-accepted c =
    let old = c.args.self.now in
    next_accepted old.is_accepted (pages_view old.pages) (pages_view c.next_page.new.self) (Ok c.in-Ok.page) old.accepted c.in-Ok.ensures

pub invariant_of-self-in-Err-clause-accepted : goal.invariant_of-self-in-Err-clause-accepted
invariant_of-self-in-Err-clause-accepted c =
    let old = c.args.self.now in
    next_accepted old.is_accepted (pages_view old.pages) (pages_view c.next_page.new.self) (Err c.in-Err.fault) old.accepted c.in-Err.ensures

pub returns-in-Ok-clause-fills : goal.returns-in-Ok-clause-fills
returns-in-Ok-clause-fills c =
    let r = reader_view c.args.self.now in
    let pages = pages_view c.next_page.new.self in
    let o = c.in-Ok.page in
    let none : r.here ≡ [] = c.requires in
    let sound : r.fault ≡ _ = c.in_default.is in
    let f = filled r pages o sound none c.in-Ok.ensures in
    let kept = subst (λ (g : Option Fault). Same (ChunkStands r) (ChunkStands (reader pages (page_left o) g)) × (page_left o ≡ [] → StandsOnly (ChunkStands (reader pages (page_left o) g)) [])) (sym sound) (f.0, f.1) in
    (sound, sound, kept.0, kept.1, f.2)

pub returns-in-Err-clause-fills : goal.returns-in-Err-clause-fills
returns-in-Err-clause-fills c =
    let r = reader_view c.args.self.now in
    let pages = pages_view c.next_page.new.self in
    let none : r.here ≡ [] = c.requires in
    let f = refused r pages c.in-Err.fault c.in_default.is none c.in-Err.ensures in
    let kept = subst (λ (g : Option Fault). Same (ChunkStands r) (ChunkStands (reader pages [] g)) × Keeps (option_map refusal_of r.fault) (option_map refusal_of g) (refusal_of c.in-Err.fault)) (sym c.kept-self.ensures) (f.1, f.2) in
    (f.0, kept.0, kept.1)

pub returns-in-Ok-clause-caused : goal.returns-in-Ok-clause-caused
returns-in-Ok-clause-caused c =
    let r = reader_view c.args.self.now in
    let pages = pages_view c.next_page.new.self in
    let o = c.in-Ok.page in
    let sound : r.fault ≡ _ = c.in_default.is in
    (subst (λ (g : Option Fault). CausesStay r (reader pages (page_left o) g)) (sym sound) (page_causes r pages (page_left o) o sound c.in-Ok.ensures), tt)

pub returns-in-Err-clause-caused : goal.returns-in-Err-clause-caused
returns-in-Err-clause-caused c =
    let r = reader_view c.args.self.now in
    let pages = pages_view c.next_page.new.self in (
      subst (λ (g : Option Fault). CausesStay r (reader pages [] g)) (sym c.kept-self.ensures) (fault_causes r pages [] c.in-Err.fault c.in_default.is c.in-Err.ensures),
      fault_cause r pages c.in-Err.fault c.in_default.is c.in-Err.ensures,
    )

pub returns-in-Some-clause-caused : goal.returns-in-Some-clause-caused
returns-in-Some-clause-caused c = (λ e h. h, kept_cause (reader_view c.args.self.now) c.in-Some.fault c.in-Some.is)
