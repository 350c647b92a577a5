-- The leaves that are no key columns are those of the fields without the keys.
use Rattle.std.proofs.Common.{◌≡◌, ℕ, zero, suc, ◌+◌, ◌<◌, ◌≤◌, Bool, true, false, ◌||◌, nat_eq, List, [], ◌∷◌, ◌++◌, length, map, Option, Some, None, refl, ap, sym, subst, ◌∙◌, arith, add-zero, eqb-true, length-append}
use Rattle.std.specs.Prelude.{cond, if◌then◌else◌}
use Rattle.std.specs.List.{AllByRecursion}
use Rattle.std.specs.Prelude.{Result, Ok, Err, IfOk, IfErr}
use Rattle.bits.specs.Refusals.{RefusedMemoryOnly}
use Rattle.bits.specs.declared.refusal.Refusal.{Refusal}
use Rattle.bits.specs.declared.refusal.Refusal.TheVariants.{Truncated, Magic, Thrift, Schema, Codec, Float, Int96, Encoding, Page, Levels, Value, Utf8, Limit, RowShape, NoColumn, Unordered, Key, NoGroup, Stale, NoJob, NoCursor, Full, NoTable, Exists, Device, InDoubt, Closed, Memory, Script}
use Rattle.lists.proofs.Numbers.{or_nat_eq_below as not_this, nat_eq_itself as this_one}
use Rattle.lists.proofs.Lists.{length_map as length_mapped}
use Rattle.schema.specs.declared.value.Repetition.{Repetition}
use Rattle.schema.specs.declared.annotation.GroupAnnotation.{GroupAnnotation}
use Rattle.schema.specs.Shape.{Field, leaf, fields, Fields, no_fields, field, count}
use Rattle.schema.specs.Stripe.{Leaf, leaves, leaves_from, leaves_of, below}
use Rattle.schema.specs.Law.{IsGroupOf, IsValid, AreValid, IsSchema}
use Rattle.schema.specs.Cutting.{group_of, kept, cut, cut_each, is_among, cut_to, ArePlaces, IsCutTo, IsCutFault}
use Rattle.schema.specs.Keys.{KeyColumn, AreKeys, places_of, fields_besides, without_keys}
use Rattle.manifest.specs.inner.Stored.{top_place, stored_places}
use Rattle.schema.proofs.Grown.{keys_and_others}

-- ---- cuts that take all, or nothing

abbrev AreAll : (ℕ → Bool) → Bool → ℕ → ℕ → Type 0
AreAll wanted b at zero = Unit {0}
AreAll wanted b at (suc n) = (wanted at ≡ b) × AreAll wanted b (suc at) n

all_of_both : (wanted : ℕ → Bool) (b : Bool) (at n m : ℕ) → AreAll wanted b at (n + m) → AreAll wanted b at n × AreAll wanted b (at + n) m
all_of_both wanted b at zero m h = (tt, subst (λ (k : ℕ). AreAll wanted b k m) (sym (add-zero at)) (let e : 0 + m ≡ m = omega arith in subst (λ (k : ℕ). AreAll wanted b at k) e h))
all_of_both wanted b at (suc n) m h =
    let e : suc n + m ≡ suc (n + m) = omega arith in
    let k = subst (λ (i : ℕ). AreAll wanted b at i) e h in
    let rest = all_of_both wanted b (suc at) n m k.1 in
    let f : suc at + n ≡ at + suc n = omega arith in
    ((k.0, rest.0), subst (λ (i : ℕ). AreAll wanted b i m) f rest.1)

kept_group : (n : List ℕ) (r : Repetition) (a : Option GroupAnnotation) (fs : Fields) → IsGroupOf fs → group_of n r a fs ≡ Some (fields n r a fs)
kept_group n r a no_fields g = absurd g.some
kept_group n r a (field f fs) g = refl

mutual
  takes_all : (wanted : ℕ → Bool) (at : ℕ) (f : Field) → IsValid f → AreAll wanted true at (length (leaves f)) → cut wanted at f ≡ Some f
  takes_all wanted at (leaf n r t) v h = ap (λ (b : Bool). cond b (Some (leaf n r t)) None) h.0
  takes_all wanted at (fields n r a fs) v h = ap (group_of n r a) (takes_each wanted at 0 fs v.1 h) ∙ kept_group n r a fs v.0

  takes_each : (wanted : ℕ → Bool) (at i : ℕ) (fs : Fields) → AreValid fs → AreAll wanted true at (length (leaves_from i fs)) → cut_each wanted at fs ≡ fs
  takes_each wanted at i no_fields v h = refl
  takes_each wanted at i (field f fs) v h =
      let long : length (map (below i f) (leaves f) ++ leaves_from (suc i) fs) ≡ length (leaves f) + length (leaves_from (suc i) fs)
      = length-append (map (below i f) (leaves f)) (leaves_from (suc i) fs) ∙ ap (λ k. k + length (leaves_from (suc i) fs)) (length_mapped (below i f) (leaves f)) in
      let parts = all_of_both wanted true at (length (leaves f)) (length (leaves_from (suc i) fs)) (subst (λ (k : ℕ). AreAll wanted true at k) long h) in
      ap (λ o. kept o (cut_each wanted (at + length (leaves f)) fs)) (takes_all wanted at f v.0 parts.0) ∙ ap (field f) (takes_each wanted (at + length (leaves f)) (suc i) fs v.1 parts.1)

mutual
  takes_none : (wanted : ℕ → Bool) (at : ℕ) (f : Field) → AreAll wanted false at (length (leaves f)) → cut wanted at f ≡ None
  takes_none wanted at (leaf n r t) h = ap (λ (b : Bool). cond b (Some (leaf n r t)) None) h.0
  takes_none wanted at (fields n r a fs) h = ap (group_of n r a) (takes_nothing wanted at 0 fs h)

  takes_nothing : (wanted : ℕ → Bool) (at i : ℕ) (fs : Fields) → AreAll wanted false at (length (leaves_from i fs)) → cut_each wanted at fs ≡ no_fields
  takes_nothing wanted at i no_fields h = refl
  takes_nothing wanted at i (field f fs) h =
      let long : length (map (below i f) (leaves f) ++ leaves_from (suc i) fs) ≡ length (leaves f) + length (leaves_from (suc i) fs)
      = length-append (map (below i f) (leaves f)) (leaves_from (suc i) fs) ∙ ap (λ k. k + length (leaves_from (suc i) fs)) (length_mapped (below i f) (leaves f)) in
      let parts = all_of_both wanted false at (length (leaves f)) (length (leaves_from (suc i) fs)) (subst (λ (k : ℕ). AreAll wanted false at k) long h) in
      ap (λ o. kept o (cut_each wanted (at + length (leaves f)) fs)) (takes_none wanted at f parts.0) ∙ takes_nothing wanted (at + length (leaves f)) (suc i) fs parts.1

-- ---- leaves are wanted as their top-level fields stay

abbrev Agree : (ℕ → Bool) → (ℕ → Bool) → ℕ → List Leaf → Type 0
Agree wanted gone at [] = Unit {0}
Agree wanted gone at (l ∷ ls) = (wanted at ≡ (if gone (top_place l.steps) then false else true)) × Agree wanted gone (suc at) ls

agree_both : (wanted gone : ℕ → Bool) (at : ℕ) (xs ys : List Leaf) → Agree wanted gone at (xs ++ ys) → Agree wanted gone at xs × Agree wanted gone (at + length xs) ys
agree_both wanted gone at [] ys h = (tt, subst (λ (k : ℕ). Agree wanted gone k ys) (sym (add-zero at)) h)
agree_both wanted gone at (x ∷ xs) ys h =
    let rest = agree_both wanted gone (suc at) xs ys h.1 in
    let f : suc at + length xs ≡ at + suc (length xs) = omega arith in
    ((h.0, rest.0), subst (λ (i : ℕ). Agree wanted gone i ys) f rest.1)

-- the leaves of one field
of_field : (wanted gone : ℕ → Bool) (at i : ℕ) (f : Field) (b : Bool) (ls : List Leaf) → gone i ≡ b → Agree wanted gone at (map (below i f) ls) → AreAll wanted (if b then false else true) at (length ls)
of_field wanted gone at i f b [] e h = tt
of_field wanted gone at i f b (l ∷ ls) e h = (h.0 ∙ ap (λ (t : Bool). cond t false true) e, of_field wanted gone (suc at) i f b ls e h.1)

cut_besides : (wanted gone : ℕ → Bool) (at i : ℕ) (fs : Fields) → AreValid fs → Agree wanted gone at (leaves_from i fs) → cut_each wanted at fs ≡ fields_besides gone i fs
cut_besides wanted gone at i no_fields v h = refl
cut_besides wanted gone at i (field f fs) v h =
    let own = map (below i f) (leaves f) in
    let parts = agree_both wanted gone at own (leaves_from (suc i) fs) h in
    let later = subst (λ (k : ℕ). Agree wanted gone (at + k) (leaves_from (suc i) fs)) (length_mapped (below i f) (leaves f)) parts.1 in
    by (gone i) refl parts.0 (cut_besides wanted gone (at + length (leaves f)) (suc i) fs v.1 later)
  where
    by : (b : Bool) → gone i ≡ b → Agree wanted gone at (map (below i f) (leaves f)) → cut_each wanted (at + length (leaves f)) fs ≡ fields_besides gone (suc i) fs
        → kept (cut wanted at f) (cut_each wanted (at + length (leaves f)) fs) ≡ cond b (fields_besides gone (suc i) fs) (field f (fields_besides gone (suc i) fs))
    by true e a rest = ap (λ o. kept o (cut_each wanted (at + length (leaves f)) fs)) (takes_none wanted at f (of_field wanted gone at i f true (leaves f) e a)) ∙ rest
    by false e a rest = ap (λ o. kept o (cut_each wanted (at + length (leaves f)) fs)) (takes_all wanted at f v.0 (of_field wanted gone at i f false (leaves f) e a)) ∙ ap (field f) rest

-- ---- the places

agree_still : (wanted other gone : ℕ → Bool) (at : ℕ) (ls : List Leaf) → ((n : ℕ) → at ≤ n → other n ≡ wanted n) → Agree wanted gone at ls → Agree other gone at ls
agree_still wanted other gone at [] same h = tt
agree_still wanted other gone at (l ∷ ls) same h = (same at (omega arith) ∙ h.0, agree_still wanted other gone (suc at) ls (λ n past. same n (omega (arith, past))) h.1)

none_earlier : (gone : ℕ → Bool) (at n : ℕ) (ls : List Leaf) → n < at → is_among (stored_places gone at ls) n ≡ false
none_earlier gone at n [] h = refl
none_earlier gone at n (l ∷ ls) h = by (gone (top_place l.steps)) (none_earlier gone (suc at) n ls (omega (arith, h)))
  where
    other : (b : Bool) → nat_eq at n ≡ b → is_among (stored_places gone (suc at) ls) n ≡ false → (b || is_among (stored_places gone (suc at) ls) n) ≡ false
    other true e rest = absurd (omega (arith, h, eqb-true at n e))
    other false e rest = rest

    by : (b : Bool) → is_among (stored_places gone (suc at) ls) n ≡ false → is_among (cond b (stored_places gone (suc at) ls) (at ∷ stored_places gone (suc at) ls)) n ≡ false
    by true rest = rest
    by false rest = other (nat_eq at n) refl rest

places_agree : (gone : ℕ → Bool) (at : ℕ) (ls : List Leaf) → Agree (is_among (stored_places gone at ls)) gone at ls
places_agree gone at [] = tt
places_agree gone at (l ∷ ls) = by (gone (top_place l.steps)) (places_agree gone (suc at) ls)
  where
    by : (b : Bool) → Agree (is_among (stored_places gone (suc at) ls)) gone (suc at) ls
        → (is_among (cond b (stored_places gone (suc at) ls) (at ∷ stored_places gone (suc at) ls)) at ≡ cond b false true) × Agree (is_among (cond b (stored_places gone (suc at) ls) (at ∷ stored_places gone (suc at) ls))) gone (suc at) ls
    by true rest = (none_earlier gone (suc at) at ls (omega arith), rest)
    by false rest = (ap (λ (t : Bool). t || is_among (stored_places gone (suc at) ls) at) (this_one at), agree_still (is_among (stored_places gone (suc at) ls)) (is_among (at ∷ stored_places gone (suc at) ls)) gone (suc at) ls (λ n past. not_this at n (is_among (stored_places gone (suc at) ls) n) past) rest)

-- the cut to these leaves
pub stored_cut : (keys : List KeyColumn) (fs : Fields) → IsSchema fs → cut_to (stored_places (is_among (places_of keys)) 0 (leaves_of fs)) fs ≡ without_keys keys fs
stored_cut keys fs v =
    let gone = is_among (places_of keys) in
    cut_besides (is_among (stored_places gone 0 (leaves_of fs))) gone 0 0 fs v.1 (places_agree gone 0 (leaves_of fs))

all_within : (gone : ℕ → Bool) (at count : ℕ) (ls : List Leaf) → at + length ls ≤ count → AllByRecursion (λ place. place < count) (stored_places gone at ls)
all_within gone at count [] h = tt
all_within gone at count (l ∷ ls) h = by (gone (top_place l.steps)) (all_within gone (suc at) count ls (omega (arith, h)))
  where
    by : (b : Bool) → AllByRecursion (λ place. place < count) (stored_places gone (suc at) ls) → AllByRecursion (λ place. place < count) (cond b (stored_places gone (suc at) ls) (at ∷ stored_places gone (suc at) ls))
    by true rest = rest
    by false rest = (omega (arith, h), rest)

nothing_wanted : (at n : ℕ) → AreAll (is_among []) false at n
nothing_wanted at zero = tt
nothing_wanted at (suc n) = (refl, nothing_wanted (suc at) n)

-- some leaf stays, since some column is no key
pub stored_are_places : (keys : List KeyColumn) (fs : Fields) → IsSchema fs → AreKeys keys fs → ArePlaces fs (stored_places (is_among (places_of keys)) 0 (leaves_of fs))
stored_are_places keys fs v k = record { some = by (stored_places (is_among (places_of keys)) 0 (leaves_of fs)) refl; there = all_within (is_among (places_of keys)) 0 (length (leaves_of fs)) (leaves_of fs) (omega arith) }
  where
    by : (ps : List ℕ) → stored_places (is_among (places_of keys)) 0 (leaves_of fs) ≡ ps → 0 < length (stored_places (is_among (places_of keys)) 0 (leaves_of fs))
    by [] e =
        let nothing : without_keys keys fs ≡ no_fields = sym (stored_cut keys fs v) ∙ ap (λ (ps : List ℕ). cut_to ps fs) e ∙ takes_nothing (is_among []) 0 0 fs (nothing_wanted 0 (length (leaves_of fs))) in
        absurd (omega (arith, ap count nothing, keys_and_others keys fs k, k.rest))
    by (p ∷ ps) e = omega (arith, ap length e)

-- what a cut at these places is, and is refused for
pub cut_is : (places : List ℕ) (fs gs : Fields) (r : Result Fields Refusal) → cut_to places fs ≡ gs → IfOk r (IsCutTo places fs) → IfOk r (λ s. s ≡ gs)
cut_is places fs gs (Ok s) e h = h.is ∙ e
cut_is places fs gs (Err x) e h = tt

pub only_memory : (places : List ℕ) (fs : Fields) (r : Result Fields Refusal) → ArePlaces fs places → IfErr r (IsCutFault places fs) → RefusedMemoryOnly r
only_memory places fs (Ok s) p h = tt
only_memory places fs (Err Truncated) p h = absurd h
only_memory places fs (Err Magic) p h = absurd h
only_memory places fs (Err Thrift) p h = absurd h
only_memory places fs (Err Schema) p h = absurd (h p)
only_memory places fs (Err Codec) p h = absurd h
only_memory places fs (Err (Float path)) p h = absurd h
only_memory places fs (Err (Int96 path)) p h = absurd h
only_memory places fs (Err Encoding) p h = absurd h
only_memory places fs (Err Page) p h = absurd h
only_memory places fs (Err Levels) p h = absurd h
only_memory places fs (Err Value) p h = absurd h
only_memory places fs (Err Utf8) p h = absurd h
only_memory places fs (Err Limit) p h = absurd h
only_memory places fs (Err RowShape) p h = absurd h
only_memory places fs (Err NoColumn) p h = absurd h
only_memory places fs (Err Unordered) p h = absurd h
only_memory places fs (Err Key) p h = absurd h
only_memory places fs (Err NoGroup) p h = absurd h
only_memory places fs (Err Stale) p h = absurd h
only_memory places fs (Err NoJob) p h = absurd h
only_memory places fs (Err NoCursor) p h = absurd h
only_memory places fs (Err Full) p h = absurd h
only_memory places fs (Err NoTable) p h = absurd h
only_memory places fs (Err Exists) p h = absurd h
only_memory places fs (Err Device) p h = absurd h
only_memory places fs (Err InDoubt) p h = absurd h
only_memory places fs (Err Closed) p h = absurd h
only_memory places fs (Err Memory) p h = tt
only_memory places fs (Err Script) p h = absurd h
