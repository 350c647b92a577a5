-- Entries whose bytes lie one after the other.
use Rattle.std.specs.Prelude.{replicate, Bool as Truth, true, false}
use Rattle.std.proofs.Common.{ℕ, zero, suc, ◌≡◌, ◌+◌, ◌<◌, ◌≤◌, List, [], ◌∷◌, ◌++◌, length, get_or, take, drop, Option, Some, None, refl, ap, sym, subst, ◌∙◌, arith, append_assoc, take-append-drop}
use Rattle.std.proofs.lemmas.List.{append-nil, flat_map_more, take-append-le, drop-append-le, length-drop, length-take-le, take-take, length-append, drop_more, take_all, map-append}
use Rattle.std.proofs.lemmas.Grind.{flat_map-append}
use Rattle.schema.specs.Values.{ValueTree, bytes}
use Rattle.schema.specs.Stripe.{Entry, entry}
use Rattle.plain.specs.Flat.{flat_entry, flat_entries}
use Rattle.shred.specs.declared.slot.Slot.{Slot}
use Rattle.shred.specs.declared.slot.Slot.TheVariants.{Missing, Null, Bool, Int, Bytes}
use Rattle.shred.specs.declared.run.Run.{Run}
use Rattle.shred.specs.declared.slot.KeptEntry.{KeptEntry}
use Rattle.shred.specs.Slots.{slot_size, slot_value, total_size, entries_in, AreKept}
use Rattle.shred.specs.declared.slot.PackedEntry.{PackedEntry}
use Rattle.shred.specs.declared.slot.PackedEntry.TheVariants.{Missing as MissingOf, Null as NullOf, Bool as BoolOf, Int as IntOf, Bytes as BytesOf}
use Rattle.shred.specs.inner.Packed.{Gains, entry_at, entry_of, many, unpacked, unpacked_each, run_entries, absent}
use Rattle.shred.specs.inner.Put.{IsPut, AppendsIf}

-- a value does not change as bytes come after its own
value_before : (s : Slot) (bs more : List ℕ) → slot_size s ≤ length bs → slot_value s (bs ++ more) ≡ slot_value s bs
value_before Missing bs more h = refl
value_before Null bs more h = refl
value_before (Bool b) bs more h = refl
value_before (Int z) bs more h = refl
value_before (Bytes n) bs more h = ap (λ (t : List ℕ). Some (bytes t)) (take-append-le n bs more h)

same_entries : (r d : ℕ) (s : Slot) (bs cs : List ℕ) (xs ys : List Entry) → slot_value s bs ≡ slot_value s cs → xs ≡ ys
    → entries_in bs (record { repetition = r; definition = d; slot = s } ∷ []) ++ xs ≡ entries_in cs (record { repetition = r; definition = d; slot = s } ∷ []) ++ ys
same_entries r d s bs cs xs ys h k = ap (λ v. record { repetition = r; definition = d; value = v } ∷ xs) h ∙ ap (λ (t : List Entry). record { repetition = r; definition = d; value = slot_value s cs } ∷ t) k

pub total_after : (es fs : List KeptEntry) → total_size (es ++ fs) ≡ total_size es + total_size fs
total_after [] fs = omega arith
total_after (e ∷ es) fs = let more = total_after es fs in omega (arith, more)

-- entries after others, and their bytes after those of the others
pub entries_after : (bs own : List ℕ) (es fs : List KeptEntry) → total_size es ≡ length bs → entries_in (bs ++ own) (es ++ fs) ≡ entries_in bs es ++ entries_in own fs
entries_after [] own [] fs h = refl
entries_after (b ∷ bs) own [] fs h = absurd (omega (arith, h))
entries_after bs own (e ∷ es) fs h =
    let n = slot_size e.slot in
    let room : n ≤ length bs = omega (arith, h) in
    let rest : total_size es ≡ length (drop n bs) = omega (arith, h, length-drop n bs) in
    same_entries e.repetition e.definition e.slot (bs ++ own) bs _ _ (value_before e.slot bs own room)
    (ap (λ t. entries_in t (es ++ fs)) (drop-append-le n bs own room) ∙ entries_after (drop n bs) own es fs rest)

-- ---- entries in 16 bytes

-- entries without value have no bytes
absent_size : (r d n : ℕ) → total_size (replicate n (entry_at r d Missing)) ≡ 0
absent_size r d zero = refl
absent_size r d (suc n) = let more = absent_size r d n in omega (arith, more)

packed_size : (p : PackedEntry) → total_size (unpacked p) ≡ slot_size (entry_of p).slot
packed_size (MissingOf r d n) = absent_size r d n
packed_size (NullOf r d) = refl
packed_size (BoolOf r d b) = refl
packed_size (IntOf r d z) = refl
packed_size (BytesOf r d n) = omega arith

absent_shown : (r d n : ℕ) (bs : List ℕ) (es : List KeptEntry)
    → entries_in bs (replicate n (entry_at r d Missing) ++ es) ≡ replicate n (record { repetition = r; definition = d; value = None }) ++ entries_in bs es
absent_shown r d zero bs es = refl
absent_shown r d (suc n) bs es = ap (λ (t : List Entry). record { repetition = r; definition = d; value = None } ∷ t) (absent_shown r d n bs es)

-- a value, as often as its entry is packed
abbrev copies : PackedEntry → Option ValueTree → List Entry
copies p v = replicate (many p) (record { repetition = (entry_of p).repetition; definition = (entry_of p).definition; value = v })

-- what is packed first, and the entries after it
packed_shown : (p : PackedEntry) (bs : List ℕ) (es : List KeptEntry)
    → entries_in bs (unpacked p ++ es) ≡ copies p (slot_value (entry_of p).slot bs) ++ entries_in (drop (slot_size (entry_of p).slot) bs) es
packed_shown (MissingOf r d n) bs es = absent_shown r d n bs es
packed_shown (NullOf r d) bs es = refl
packed_shown (BoolOf r d b) bs es = refl
packed_shown (IntOf r d z) bs es = refl
packed_shown (BytesOf r d n) bs es = refl

pub unpacked_more : (ps : List PackedEntry) (p : PackedEntry) → unpacked_each (ps ++ p ∷ []) ≡ unpacked_each ps ++ unpacked p
unpacked_more ps p = sym (flat_map_more unpacked [] ps p)

-- the entries of a run
pub run_size : (run : Run) → total_size (run_entries run) ≡ 0
run_size run = absent_size run.repetition run.definition run.count

pub run_shown : (run : Run) → entries_in [] (run_entries run) ≡ absent run
run_shown run =
    ap (entries_in []) (sym (append-nil (run_entries run))) ∙ absent_shown run.repetition run.definition run.count [] [] ∙ append-nil (absent run)

-- ---- entries that are left

first_left : (ps : List PackedEntry) (i : ℕ) (d : PackedEntry) → i < length ps → unpacked_each (drop i ps) ≡ unpacked (get_or ps i d) ++ unpacked_each (drop (i + 1) ps)
first_left ps i d lt = ap unpacked_each (drop_more ps i d lt)

pub total_left : (ps xs : List PackedEntry) (i : ℕ) (d : PackedEntry) (e : KeptEntry) → xs ≡ ps → i < length xs → e ≡ entry_of (get_or xs i d)
    → total_size (unpacked_each (drop i ps)) ≡ slot_size e.slot + total_size (unpacked_each (drop (i + 1) ps))
total_left ps xs i d e same lt is =
    let within : i < length ps = omega (arith, lt, ap length same) in
    let p = get_or ps i d in
    let here = ap (λ (x : KeptEntry). slot_size x.slot) (is ∙ ap (λ (t : List PackedEntry). entry_of (get_or t i d)) same) in
    let split = ap total_size (first_left ps i d within) in
    let both = total_after (unpacked p) (unpacked_each (drop (i + 1) ps)) in
    let own = packed_size p in
    omega (arith, split, both, own, here)

-- what is packed next comes after what was shown
next_shown : (shown : List Entry) (ps : List PackedEntry) (i : ℕ) (d : PackedEntry) (bs : List ℕ) → i < length ps → let p = get_or ps i d in
    (shown ++ copies p (slot_value (entry_of p).slot bs)) ++ entries_in (drop (slot_size (entry_of p).slot) bs) (unpacked_each (drop (i + 1) ps)) ≡ shown ++ entries_in bs (unpacked_each (drop i ps))
next_shown shown ps i d bs lt =
    let p = get_or ps i d in
    append_assoc shown (copies p (slot_value (entry_of p).slot bs)) _
    ∙ ap (λ (t : List Entry). shown ++ t) (sym (packed_shown p bs (unpacked_each (drop (i + 1) ps))) ∙ ap (entries_in bs) (sym (first_left ps i d lt)))

pub next_lent : (shown : List Entry) (ps xs : List PackedEntry) (i : ℕ) (d : PackedEntry) (e : KeptEntry) (n : ℕ) (v : Option ValueTree) (bs rest : List ℕ) → xs ≡ ps → i < length xs
    → e ≡ entry_of (get_or xs i d) → n ≡ many (get_or xs i d) → v ≡ slot_value e.slot bs → rest ≡ drop (slot_size e.slot) bs
    → (shown ++ replicate n (record { repetition = e.repetition; definition = e.definition; value = v })) ++ entries_in rest (unpacked_each (drop (i + 1) ps)) ≡ shown ++ entries_in bs (unpacked_each (drop i ps))
next_lent shown ps xs i d e n v bs rest same lt is count value after =
    let p = get_or ps i d in
    let left = unpacked_each (drop (i + 1) ps) in
    let all : KeptEntry → ℕ → Option ValueTree → List ℕ → List Entry = λ x k w r. (shown ++ replicate k (record { repetition = x.repetition; definition = x.definition; value = w })) ++ entries_in r left in
    ap (all e n v) after
    ∙ ap (λ (w : Option ValueTree). all e n w (drop (slot_size e.slot) bs)) value
    ∙ ap (λ (k : ℕ). all e k (slot_value e.slot bs) (drop (slot_size e.slot) bs)) (count ∙ ap (λ (t : List PackedEntry). many (get_or t i d)) same)
    ∙ ap (λ (x : KeptEntry). all x (many p) (slot_value x.slot bs) (drop (slot_size x.slot) bs)) (is ∙ ap (λ (t : List PackedEntry). entry_of (get_or t i d)) same)
    ∙ next_shown shown ps i d bs (omega (arith, lt, ap length same))

-- ---- entries that are marked

unpacked_after : (ps qs : List PackedEntry) → unpacked_each (ps ++ qs) ≡ unpacked_each ps ++ unpacked_each qs
unpacked_after ps qs = flat_map-append unpacked ps qs

-- their bytes are among all
marked_within : (ps : List PackedEntry) (bs : List ℕ) (m n : ℕ) → AreKept ps bs m n → n ≤ length bs
marked_within ps bs m n k =
    let first = k.first in
    let filled = k.filled in
    let split = ap (λ (t : List PackedEntry). total_size (unpacked_each t)) (sym (take-append-drop m ps)) ∙ ap total_size (unpacked_after (take m ps) (drop m ps)) in
    let both = total_after (unpacked_each (take m ps)) (unpacked_each (drop m ps)) in
    omega (arith, first, filled, split, both)

-- some more is packed, which is not marked
pub record StillKept (ps qs : List PackedEntry) (bs new own : List ℕ) (es : List KeptEntry) (m n : ℕ) : Type 0 where
  pub kept : AreKept qs new m n
  pub put : entries_in new (unpacked_each qs) ≡ entries_in bs (unpacked_each ps) ++ entries_in own es
  pub marked : entries_in (take n new) (unpacked_each (take m qs)) ≡ entries_in (take n bs) (unpacked_each (take m ps))

pub still_kept : (ps qs : List PackedEntry) (bs new own : List ℕ) (es : List KeptEntry) (m n : ℕ) → Gains ps qs es → new ≡ bs ++ own → total_size es ≡ length own → AreKept ps bs m n
    → StillKept ps qs bs new own es m n
still_kept ps qs bs new own es m n gains joined size k =
    let within = k.within in
    let filled = k.filled in
    let p = gains.last in
    let all : unpacked_each qs ≡ unpacked_each ps ++ es = ap unpacked_each gains.joined ∙ unpacked_more ps p ∙ ap (λ (t : List KeptEntry). unpacked_each ps ++ t) gains.are in
    let same : take m qs ≡ take m ps = ap (take m) gains.joined ∙ take-append-le m ps (p ∷ []) within in
    let total = ap total_size all ∙ total_after (unpacked_each ps) es in
    let long = ap length joined ∙ length-append bs own in
    let many_more = ap length gains.joined ∙ length-append ps (p ∷ []) in
    record {
      kept = record {
        filled = omega (arith, total, long, filled, size);
        within = omega (arith, within, many_more);
        first = ap (λ (t : List PackedEntry). total_size (unpacked_each t)) same ∙ k.first;
      };
      put = ap (entries_in new) all ∙ ap (λ (t : List ℕ). entries_in t (unpacked_each ps ++ es)) joined ∙ entries_after bs own (unpacked_each ps) es filled;
      marked = ap (λ (t : List PackedEntry). entries_in (take n new) (unpacked_each t)) same
          ∙ ap (λ (t : List ℕ). entries_in (take n t) (unpacked_each (take m ps))) joined
          ∙ ap (λ (t : List ℕ). entries_in t (unpacked_each (take m ps))) (take-append-le n bs own (marked_within ps bs m n k));
    }

-- all are marked
pub all_marked : (ps : List PackedEntry) (bs : List ℕ) (m n i j : ℕ) → AreKept ps bs m n → i ≡ length ps → j ≡ length bs → AreKept ps bs i j
all_marked ps bs m n i j k all both =
    let filled = k.filled in
    record {
      filled = filled;
      within = omega (arith, all);
      first = ap (λ (t : List PackedEntry). total_size (unpacked_each t)) (take_all i ps (omega (arith, all))) ∙ filled ∙ sym both;
    }

-- the others are cut off
pub still_cut : (ps : List PackedEntry) (bs : List ℕ) (m n : ℕ) → AreKept ps bs m n → AreKept (take m ps) (take n bs) m n
still_cut ps bs m n k =
    let within = k.within in
    let some : length (take m ps) ≡ m = length-take-le m ps within in
    record {
      filled = k.first ∙ sym (length-take-le n bs (marked_within ps bs m n k));
      within = omega (arith, some);
      first = ap (λ (t : List PackedEntry). total_size (unpacked_each t)) (take-take m m ps (omega arith)) ∙ k.first;
    }

-- an entry is put
pub put_kept : (ps qs : List PackedEntry) (bs new : List ℕ) (r d : ℕ) (s : Slot) (v : Option ValueTree) (m n : ℕ) (put : IsPut s v bs new) → Gains ps qs (entry_at r d s ∷ []) → AreKept ps bs m n
    → StillKept ps qs bs new put.own (entry_at r d s ∷ []) m n
put_kept ps qs bs new r d s v m n put gains k =
    let size = put.size in
    still_kept ps qs bs new put.own (entry_at r d s ∷ []) m n gains put.joined (omega (arith, size)) k

pub put_shown : (bs new : List ℕ) (r d : ℕ) (s : Slot) (v : Option ValueTree) (put : IsPut s v bs new) → entries_in put.own (entry_at r d s ∷ []) ≡ entry r d v
put_shown bs new r d s v put = ap (λ (o : Option ValueTree). entry r d o) put.shows

-- a run is kept
pub run_kept : (ps qs : List PackedEntry) (bs : List ℕ) (run : Run) (m n : ℕ) → Gains ps qs (run_entries run) → AreKept ps bs m n → StillKept ps qs bs bs [] (run_entries run) m n
run_kept ps qs bs run m n gains k = still_kept ps qs bs bs [] (run_entries run) m n gains (sym (append-nil bs)) (run_size run) k

-- ---- what a column shows: values in PLAIN, others, and a run

pub no_run : (run : Run) → run.count ≡ 0 → absent run ≡ []
no_run run none = ap (λ n. replicate n (record { repetition = run.repetition; definition = run.definition; value = None })) none

pub put_last : (plain others more run own : List Entry) → run ≡ [] → more ≡ others ++ own → plain ++ (more ++ run) ≡ (plain ++ (others ++ run)) ++ own
put_last plain others more run own none is =
    ap (λ (t : List Entry). plain ++ (more ++ t)) none ∙ ap (λ (t : List Entry). plain ++ t) (append-nil more ∙ is) ∙ sym (append_assoc plain others own)
    ∙ ap (λ (t : List Entry). (plain ++ t) ++ own) (sym (append-nil others) ∙ ap (λ (t : List Entry). others ++ t) (sym none))

pub put_in_run : (plain others run more own : List Entry) → more ≡ run ++ own → plain ++ (others ++ more) ≡ (plain ++ (others ++ run)) ++ own
put_in_run plain others run more own is =
    ap (λ (t : List Entry). plain ++ (others ++ t)) is ∙ ap (λ (t : List Entry). plain ++ t) (sym (append_assoc others run own)) ∙ sym (append_assoc plain (others ++ run) own)

pub run_ended : (plain others more run none : List Entry) → none ≡ [] → more ≡ others ++ run → plain ++ (more ++ none) ≡ plain ++ (others ++ run)
run_ended plain others more run none empty is = ap (λ (t : List Entry). plain ++ (more ++ t)) empty ∙ ap (λ (t : List Entry). plain ++ t) (append-nil more ∙ is)

pub only_plain : (plain others run : List Entry) → others ≡ [] → run ≡ [] → plain ++ (others ++ run) ≡ plain
only_plain plain others run none empty = ap (λ (t : List Entry). plain ++ (t ++ run)) none ∙ ap (λ (t : List Entry). plain ++ t) empty ∙ append-nil plain

-- values in PLAIN come after others, where nothing else waits
pub appends_plain : (put : Truth) (old new more : List ValueTree) (rest : List Entry) → rest ≡ [] → AppendsIf put old more new
    → AppendsIf put (flat_entries old ++ rest) (flat_entries more) (flat_entries new ++ rest)
appends_plain true old new more rest none is =
    ap (λ (vs : List ValueTree). flat_entries vs ++ rest) is ∙ ap (λ (t : List Entry). t ++ rest) (map-append flat_entry old more)
    ∙ ap (λ (t : List Entry). (flat_entries old ++ flat_entries more) ++ t) none ∙ append-nil (flat_entries old ++ flat_entries more)
    ∙ ap (λ (t : List Entry). t ++ flat_entries more) (sym (append-nil (flat_entries old)) ∙ ap (λ (t : List Entry). flat_entries old ++ t) (sym none))
appends_plain false old new more rest none is = ap (λ (vs : List ValueTree). flat_entries vs ++ rest) is

-- one of them
pub appends_flat : (put : Truth) (old new : List ValueTree) (r d : ℕ) (v : ValueTree) (rest : List Entry) → r ≡ 0 → d ≡ 0 → rest ≡ [] → AppendsIf put old (v ∷ []) new
    → AppendsIf put (flat_entries old ++ rest) (entry r d (Some v)) (flat_entries new ++ rest)
appends_flat put old new r d v rest flat there none is =
    let now : List Entry → Type 0 = λ es. AppendsIf put (flat_entries old ++ rest) es (flat_entries new ++ rest) in
    subst now (ap (λ (k : ℕ). entry k 0 (Some v)) (sym flat) ∙ ap (λ (k : ℕ). entry r k (Some v)) (sym there)) (appends_plain put old new (v ∷ []) rest none is)
