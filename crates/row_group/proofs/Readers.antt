-- A reader of a chunk, entry by entry.
use Rattle.std.proofs.Common.{◌≡◌, ℕ, ◌+◌, Bool, true, false, ◌&&◌, List, [], ◌∷◌, ◌++◌, length, Option, Some, None, Result, Ok, Err, option_map, refl, sym, ap, subst, ◌∙◌, arith}
use Rattle.bits.specs.Faults.{refusal_of}
use Rattle.bits.specs.declared.fault.Fault.{Fault}
use Rattle.bits.specs.declared.fault.Fault.TheVariants as fault
use Rattle.bits.specs.declared.refusal.Refusal.{Refusal}
use Rattle.bits.specs.declared.refusal.Refusal.TheVariants as refusal
use Rattle.std.specs.Prelude.{MatchOption, is_some}
use Rattle.std.proofs.lemmas.Bool.{false≢true}
use Rattle.std.proofs.lemmas.List.{nil_from_length as empty}
use Rattle.schema.specs.declared.borrowed.ValueRef.{ValueRef}
use Rattle.schema.specs.declared.borrowed.EntryRef.{EntryRef}
use Rattle.schema.specs.Annotations.{LeafType}
use Rattle.schema.specs.Values.{ValueTree}
use Rattle.schema.specs.Fits.{fits_leaf}
use Rattle.schema.specs.Borrowed.{value_ref_view, entry_ref_view}
use Rattle.schema.specs.Stripe.{Leaf, Entry}
use Rattle.pages.specs.declared.data_page.DataPage.{DataPage}
use Rattle.pages.specs.Left.{entries_left, entry_taken, Shows as PageShows, Advances, TakesPlain}
use Rattle.assemble.specs.Sources.{NothingStands, StandsOnly, Same, Precede, Refuses, Begins, Shows}
use Rattle.row_group.specs.Rest.{ChunkLeft, HoldsRest, HasRestOver}
use Rattle.row_group.specs.PageLeft.{page_left, value_fits, values_fit}
use Rattle.row_group.specs.Left.{ReaderLeft, ChunkStands}
use Rattle.row_group.specs.inner.Pages.{kept_fault, Passes, IsRefusedAt, NextPage}
use Rattle.row_group.specs.inner.Readers.{KeepsFault, Fills, AdvancesReader, entry_of_plain, GivesPlain, PeeksPage}
use Rattle.row_group.proofs.NextPages.{holds_nothing}

abbrev pub reader : ChunkLeft → List Entry → Option Fault → ReaderLeft
reader pages here f = record { pages = pages; here = here; fault = f }

-- ---- pages are read until an entry is there

-- pages without entries have passed
moved : (r : ReaderLeft) (pages : ChunkLeft) (here : List Entry) (g : Option Fault) → g ≡ None → r.here ≡ [] → Passes r.pages pages here → r.fault ≡ None → Same (ChunkStands r) (ChunkStands (reader pages here g))
moved r pages here g sound none p old = (
  λ es h.
      let a = p.onward h.rest h.used h.held in
      record { sound = sound; rest = a.0; used = a.1; joined = h.joined ∙ ap (λ (t : List Entry). t ++ h.rest) none ∙ a.2; held = a.4; short = λ over. h.short (p.over_back over) },
  λ es h. record {
    sound = old;
    rest = here ++ h.rest;
    used = p.used + h.used;
    joined = h.joined ∙ sym (ap (λ (t : List Entry). t ++ (here ++ h.rest)) none);
    held = p.back h.rest h.used h.held;
    short = λ over. h.short (p.over_onward over);
  },
)

-- nothing is left
ended : (pages : ChunkLeft) (here : List Entry) → pages.lacking ≡ 0 → here ≡ [] → StandsOnly (ChunkStands (reader pages here None)) []
ended pages here zero none = (
  record {
    sound = refl;
    rest = [];
    used = 0;
    joined = sym (ap (λ (t : List Entry). t ++ []) none);
    held = holds_nothing pages zero;
    short = λ over. let f = over.fewer in omega (arith, f, zero);
  },
  λ es h. h.joined ∙ ap (λ (t : List Entry). t ++ h.rest) none ∙ empty h.rest (h.held.count ∙ zero),
)

pub filled : (r : ReaderLeft) (pages : ChunkLeft) (o : Option DataPage) → r.fault ≡ None → r.here ≡ [] → NextPage r.pages pages (Ok o)
    → Same (ChunkStands r) (ChunkStands (reader pages (page_left o) None)) × (page_left o ≡ [] → StandsOnly (ChunkStands (reader pages (page_left o) None)) []) × (pages.leaf ≡ r.pages.leaf)
filled r pages (Some page) sound none n = (
  moved r pages (entries_left page) None refl none n.0 sound,
  λ e. absurd (let some = n.1 in let size = ap (λ (t : List Entry). length t) e in omega (arith, some, size)),
  n.0.leaf,
)
filled r pages None sound none n = (moved r pages [] None refl none n.0 sound, λ e. ended pages [] n.1 e, n.0.leaf)

-- ---- a page is refused

same_nothing : (r : ReaderLeft) (pages : ChunkLeft) (f : Fault) → NothingStands (ChunkStands r) → Same (ChunkStands r) (ChunkStands (reader pages [] (Some f)))
same_nothing r pages f none = (λ es h. absurd (none es h), λ es h. absurd (let e = h.sound in cc))

nothing_stands : (r : ReaderLeft) → ((es : List Entry) (used : ℕ) → HoldsRest r.pages es used → ⊥) → NothingStands (ChunkStands r)
nothing_stands r none es h = none h.rest h.used h.held

nothing_short : (r : ReaderLeft) → HasRestOver r.pages → NothingStands (ChunkStands r)
nothing_short r over es h = h.short over

abbrev Refused : ReaderLeft → ChunkLeft → Fault → Type 0
Refused r pages f = KeepsFault r (reader pages [] (kept_fault f)) f

again : (r : ReaderLeft) (f : Fault) → r.fault ≡ None → NothingStands (ChunkStands r) → (refusal_of f ≡ refusal.Memory → ⊥) → Refuses (ChunkStands r) (option_map refusal_of r.fault) (refusal_of f)
again r f sound none not = subst (λ (o : Option Fault). Refuses (ChunkStands r) (option_map refusal_of o) (refusal_of f)) (sym sound) (by (refusal_of f) not)
  where
    by : (e : Refusal) → (e ≡ refusal.Memory → ⊥) → Refuses (ChunkStands r) None e
    by refusal.Memory not = absurd (not refl)
    by _ not = (none, tt)

pub refused : (r : ReaderLeft) (pages : ChunkLeft) (f : Fault) → r.fault ≡ None → r.here ≡ [] → IsRefusedAt r.pages pages (refusal_of f) → Refused r pages f
refused r pages fault.Memory sound none p = (tt, memory r pages sound none p, sym (ap (λ (o : Option Fault). option_map refusal_of o) sound))
  where
    memory : (r : ReaderLeft) (pages : ChunkLeft) → r.fault ≡ None → r.here ≡ [] → Passes r.pages pages [] → Same (ChunkStands r) (ChunkStands (reader pages [] None))
    memory r pages sound none p = moved r pages [] None refl none p sound
refused r pages fault.Limit sound none p = let n = nothing_short r p in (again r fault.Limit sound n (λ e. cc), same_nothing r pages fault.Limit n, refl)
refused r pages f sound none p = let n = nothing_stands r p.1 in (again r f sound n (λ e. cc), same_nothing r pages f n, refl)

-- ---- an entry is taken

-- where a page is held, none was refused
pub no_fault : (fault : Option Fault) (page : Option DataPage) (held : DataPage) → page ≡ Some held → (is_some fault && is_some page) ≡ false → fault ≡ None
no_fault None page held is none = refl
no_fault (Some f) None held is none = cc
no_fault (Some f) (Some page) held is none = cc

abbrev Filled : ReaderLeft → ReaderLeft → Type 0
Filled old new = Fills old new (Ok tt)

-- nothing was taken
still : (old r : ReaderLeft) (here : List Entry) → Filled old r → r.here ≡ here → Same (ChunkStands old) (ChunkStands (reader r.pages here r.fault))
still old r here f is = (
  λ es s. let t = f.2.0 es s in record { sound = f.1; rest = t.rest; used = t.used; joined = t.joined ∙ ap (λ (x : List Entry). x ++ t.rest) is; held = t.held; short = t.short },
  λ es s. f.2.1 es (record { sound = f.1; rest = s.rest; used = s.used; joined = s.joined ∙ sym (ap (λ (x : List Entry). x ++ s.rest) is); held = s.held; short = s.short }),
)

-- the value of the first entry fits
first_fits : (t : LeafType) (e : Entry) (es : List Entry) → values_fit t (e ∷ es) ≡ true → value_fits t e ≡ true
first_fits t e es h = both_true (value_fits t e) (values_fit t es) h
  where
    both_true : (a b : Bool) → (a && b) ≡ true → a ≡ true
    both_true true b h = refl
    both_true false b h = absurd (false≢true h)

-- the first entry of the page is taken
pub first_taken : (old : ReaderLeft) (e : Entry) (rest : List Entry) → old.fault ≡ None → old.here ≡ e ∷ rest → values_fit old.pages.leaf.leaf_type old.here ≡ true → AdvancesReader old (reader old.pages rest old.fault) e (Ok true)
first_taken old e rest sound here fit = (sound, sound, takes, first_fits old.pages.leaf.leaf_type e rest (sym (ap (values_fit old.pages.leaf.leaf_type) here) ∙ fit))
  where
    takes : Precede (e ∷ []) (ChunkStands old) (ChunkStands (reader old.pages rest old.fault))
    takes = (
      λ after s. record {
        sound = sound;
        rest = s.rest;
        used = s.used;
        joined = ap (λ (t : List Entry). e ∷ t) s.joined ∙ sym (ap (λ (t : List Entry). t ++ s.rest) here);
        held = s.held;
        short = s.short;
      },
      λ es t. (
        rest ++ t.rest,
        (
          t.joined ∙ ap (λ (x : List Entry). x ++ t.rest) here,
          record { sound = sound; rest = t.rest; used = t.used; joined = refl; held = t.held; short = t.short },
        ),
      ),
    )

pub page_advanced : (old r : ReaderLeft) (page new : DataPage) (b : Result Bool Fault) → Filled old r → r.here ≡ entries_left page → values_fit r.pages.leaf.leaf_type r.here ≡ true → Advances page new b
    → AdvancesReader old (reader r.pages (entries_left new) r.fault) (entry_taken new) b
page_advanced old r page new (Ok true) f is fit h = (f.0, f.1, takes, subst (λ (l : Leaf). value_fits l.leaf_type (entry_taken new) ≡ true) f.4 (first_fits r.pages.leaf.leaf_type (entry_taken new) (entries_left new) (sym (ap (values_fit r.pages.leaf.leaf_type) here) ∙ fit)))
  where
    here : r.here ≡ entry_taken new ∷ entries_left new
    here = is ∙ h

    takes : Precede (entry_taken new ∷ []) (ChunkStands old) (ChunkStands (reader r.pages (entries_left new) r.fault))
    takes = (
      λ rest s. f.2.1 (entry_taken new ∷ rest) (record {
        sound = f.1;
        rest = s.rest;
        used = s.used;
        joined = ap (λ (t : List Entry). entry_taken new ∷ t) s.joined ∙ sym (ap (λ (t : List Entry). t ++ s.rest) here);
        held = s.held;
        short = s.short;
      }),
      λ es s.
          let t = f.2.0 es s in (
            entries_left new ++ t.rest,
            (
              t.joined ∙ ap (λ (x : List Entry). x ++ t.rest) here,
              record { sound = f.1; rest = t.rest; used = t.used; joined = refl; held = t.held; short = t.short },
            ),
          ),
    )
page_advanced old r page new (Ok false) f is fit h = (
  f.0,
  f.1,
  (let s = f.3 (is ∙ h.0) in (f.2.1 [] s.0, λ es t. s.1 es (f.2.0 es t))),
  still old r (entries_left new) f (is ∙ h.0 ∙ sym h.1),
)
page_advanced old r page new (Err g) f is fit h =
    subst (λ (x : Fault). AdvancesReader old (reader r.pages (entries_left new) r.fault) (entry_taken new) (Err x)) (sym h.0)
    (tt, still old r (entries_left new) f (is ∙ sym h.1), ap (λ (o : Option Fault). option_map refusal_of o) (f.1 ∙ sym f.0))

-- the value of an entry in PLAIN is taken, or nothing is
pub given_plain : (old : ReaderLeft) (page new : DataPage) (o : Option ValueRef) → old.fault ≡ None → old.here ≡ entries_left page → values_fit old.pages.leaf.leaf_type old.here ≡ true → TakesPlain page new o
    → GivesPlain old (reader old.pages (entries_left new) old.fault) o
given_plain old page new (Some v) sound is fit h = first_taken old (entry_of_plain v) (entries_left new) sound (is ∙ h) fit
given_plain old page new None sound is fit h = ap (λ (here : List Entry). reader old.pages here old.fault) (h.0 ∙ sym is)

-- the value of an entry that was taken fits each type that its leaf's values fit
pub taken_fits : (own t : LeafType) (e : EntryRef) → value_fits own (entry_ref_view e) ≡ true → ((v : ValueTree) → fits_leaf own v ≡ true → fits_leaf t v ≡ true)
    → MatchOption e.value (Unit {0}) (λ v. fits_leaf t (value_ref_view v) ≡ true)
taken_fits own t e fit more = by e.value fit
  where
    by : (o : Option ValueRef) → value_fits own (record { repetition = e.repetition; definition = e.definition; value = option_map value_ref_view o }) ≡ true → MatchOption o (Unit {0}) (λ v. fits_leaf t (value_ref_view v) ≡ true)
    by None fit = tt
    by (Some v) fit = more (value_ref_view v) fit

-- ---- a look at the next entry

-- entries begin with the first of the page
begins : (levels : ℕ × ℕ) (xs es rest : List Entry) → es ≡ xs ++ rest → PageShows xs (Some levels) → Begins es levels.0 levels.1
begins levels [] es rest e h = absurd h
begins levels (x ∷ xs) es rest e h = subst (λ (t : List Entry). Begins t levels.0 levels.1) (sym e) h

pub page_shows : (old r : ReaderLeft) (page : DataPage) (o : Option (ℕ × ℕ)) → Filled old r → r.here ≡ entries_left page → PageShows (entries_left page) o → Shows (ChunkStands old) (option_map refusal_of old.fault) (Ok o)
page_shows old r page None f is h =
    let s = f.3 (is ∙ h) in
    (ap (λ (x : Option Fault). option_map refusal_of x) f.0, (f.2.1 [] s.0, λ es t. s.1 es (f.2.0 es t)))
page_shows old r page (Some levels) f is h = (ap (λ (x : Option Fault). option_map refusal_of x) f.0, λ es s. let t = f.2.0 es s in begins levels (entries_left page) es t.rest (t.joined ∙ ap (λ (x : List Entry). x ++ t.rest) is) h)

-- the page that was read last has the next entry
pub page_peeks : (r : ReaderLeft) (page : DataPage) (o : Option (ℕ × ℕ)) → r.fault ≡ None → r.here ≡ entries_left page → PageShows (entries_left page) o → PeeksPage r o
page_peeks r page None sound is h = tt
page_peeks r page (Some levels) sound is h = (sound, subst (λ (xs : List Entry). PageShows xs (Some levels)) (sym is) h)

pub peeked : (r : ReaderLeft) (levels : ℕ × ℕ) → PeeksPage r (Some levels) → Shows (ChunkStands r) (option_map refusal_of r.fault) (Ok (Some levels))
peeked r levels h = (ap (λ (x : Option Fault). option_map refusal_of x) h.0, λ es s. begins levels r.here es s.rest s.joined h.1)

-- ---- no entry is left

pub none_taken : (old r : ReaderLeft) (e : Entry) → Filled old r → r.here ≡ [] → AdvancesReader old r e (Ok false)
none_taken old r e f is = let s = f.3 is in (f.0, f.1, (f.2.1 [] s.0, λ es t. s.1 es (f.2.0 es t)), f.2)

pub none_shows : (old r : ReaderLeft) → Filled old r → r.here ≡ [] → Shows (ChunkStands old) (option_map refusal_of old.fault) (Ok None)
none_shows old r f is = let s = f.3 is in (ap (λ (x : Option Fault). option_map refusal_of x) f.0, (f.2.1 [] s.0, λ es t. s.1 es (f.2.0 es t)))
