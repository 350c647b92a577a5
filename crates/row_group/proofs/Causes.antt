-- Why a reader of a chunk is refused.
use Rattle.std.proofs.Common.{◌≡◌, ℕ, Bool, List, [], Option, Some, None, Result, Ok, Err, refl, sym, subst}
use Rattle.std.specs.Prelude.{MatchOption, IfErr}
use Rattle.bits.specs.Faults.{refusal_of}
use Rattle.bits.specs.declared.fault.Fault.{Fault}
use Rattle.bits.specs.declared.fault.Fault.TheVariants as fault
use Rattle.bits.specs.declared.refusal.Refusal.{Refusal}
use Rattle.bits.specs.declared.refusal.Refusal.TheVariants as refusal
use Rattle.schema.specs.Stripe.{Leaf, Entry}
use Rattle.metadata.specs.Records.{ColumnMeta}
use Rattle.pages.specs.declared.data_page.DataPage.{DataPage}
use Rattle.pages.specs.Left.{entries_left, Advances}
use Rattle.row_group.specs.Rest.{ChunkLeft, all_pages, HoldsRest, HasRestOver}
use Rattle.row_group.specs.Left.{ReaderLeft}
use Rattle.row_group.specs.Causes.{IsCauseIn, IsCause, CausesStay, IsChunkCause}
use Rattle.row_group.specs.inner.Pages.{kept_fault, Passes, IsRefusedAt, NextPage}
use Rattle.row_group.proofs.Readers.{reader}
use Rattle.row_group.proofs.WholeChunk.{IsRecord, rest_of_chunk, over_of_rest}

-- pages have passed
passed : (old new : ChunkLeft) (es : List Entry) → Passes old new es → (e : Refusal) → IsCauseIn new e → IsCauseIn old e
passed old new es p refusal.Memory h = tt
passed old new es p refusal.Limit h = p.over_back h
passed old new es p _ h = (h.0, λ all u held. let a = p.onward all u held in h.1 a.0 a.1 a.4)

-- a page was refused
at_page : (old new : ChunkLeft) (e : Refusal) → IsRefusedAt old new e → IsCauseIn old e
at_page old new refusal.Memory h = tt
at_page old new refusal.Limit h = h
at_page old new _ h = h

-- the causes of a reader that was not refused are those of what is left
open_cause : (r : ReaderLeft) (e : Refusal) → r.fault ≡ None → IsCauseIn r.pages e → IsCause r e
open_cause r e sound h = subst (λ (o : Option Fault). MatchOption o (IsCauseIn r.pages e) (λ f. refusal_of f ≡ e)) (sym sound) h

-- the next page was read
pub page_causes : (r : ReaderLeft) (pages : ChunkLeft) (here : List Entry) (o : Option DataPage) → r.fault ≡ None → NextPage r.pages pages (Ok o) → CausesStay r (reader pages here None)
page_causes r pages here (Some page) sound n e h = open_cause r e sound (passed r.pages pages (entries_left page) n.0 e h)
page_causes r pages here None sound n e h = open_cause r e sound (passed r.pages pages [] n.0 e h)

-- it was refused
pub fault_causes : (r : ReaderLeft) (pages : ChunkLeft) (here : List Entry) (f : Fault) → r.fault ≡ None → IsRefusedAt r.pages pages (refusal_of f) → CausesStay r (reader pages here (kept_fault f))
fault_causes r pages here fault.Memory sound p e h = open_cause r e sound (passed r.pages pages [] p e h)
fault_causes r pages here f sound p e h = open_cause r e sound (subst (IsCauseIn r.pages) h (at_page r.pages pages (refusal_of f) p))

pub fault_cause : (r : ReaderLeft) (pages : ChunkLeft) (f : Fault) → r.fault ≡ None → IsRefusedAt r.pages pages (refusal_of f) → IsCause r (refusal_of f)
fault_cause r pages f sound p = open_cause r (refusal_of f) sound (at_page r.pages pages (refusal_of f) p)

-- a fault that is kept
pub kept_cause : (r : ReaderLeft) (f : Fault) → r.fault ≡ Some f → IsCause r (refusal_of f)
kept_cause r f is = subst (λ (o : Option Fault). MatchOption o (IsCauseIn r.pages (refusal_of f)) (λ g. refusal_of g ≡ refusal_of f)) (sym is) refl

-- the page gives no entry only out of memory
pub advance_cause : (old : ReaderLeft) (page new : DataPage) (b : Result Bool Fault) → old.fault ≡ None → Advances page new b → IfErr b (λ f. IsCause old (refusal_of f))
advance_cause old page new (Ok b) sound h = tt
advance_cause old page new (Err g) sound h = subst (λ (f : Fault). IsCause old (refusal_of f)) (sym h.0) (open_cause old refusal.Memory sound tt)

-- the causes of a reader of a whole chunk are the chunk's
pub chunk_causes : (m : ColumnMeta) (leaf : Leaf) (bytes : List ℕ) (n : ℕ) (pages : ChunkLeft) → pages ≡ all_pages leaf bytes n → IsRecord m leaf n → (e : Refusal) → IsCauseIn pages e → IsChunkCause m leaf bytes e
chunk_causes m leaf bytes n pages is r refusal.Memory h = tt
chunk_causes m leaf bytes n pages is r refusal.Limit h = over_of_rest m leaf bytes n r (subst HasRestOver is h)
chunk_causes m leaf bytes n pages is r _ h = (h.0, λ es used means. subst (λ (s : ChunkLeft). (all : List Entry) (u : ℕ) → HoldsRest s all u → ⊥) is h.1 es used (rest_of_chunk m leaf bytes n r.count es used means))
