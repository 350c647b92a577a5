-- A schema cut to the leaves of its columns at some places has the columns there.
use Rattle.std.proofs.Common.{◌≡◌, ℕ, zero, suc, ◌+◌, ◌<◌, ◌≤◌, Bool, true, false, ◌||◌, List, [], ◌∷◌, ◌++◌, length, map, Option, Some, None, refl, ap, sym, subst, ◌∙◌, arith, add-zero, length-append}
use Rattle.std.specs.Prelude.{cond}
use Rattle.std.specs.List.{AllByRecursion}
use Rattle.bits.specs.Refusals.{HasCause}
use Rattle.bits.specs.declared.refusal.Refusal.{Refusal}
use Rattle.bits.specs.declared.refusal.Refusal.TheVariants.{Truncated, Magic, Thrift, Schema, Codec, Float, Int96, Encoding, Page, Levels, Value, Utf8, Limit, RowShape, NoColumn, Unordered, Key, NoGroup, Stale, NoJob, NoCursor, Full, NoTable, Exists, Device, InDoubt, Closed, Memory, Script}
use Rattle.std.proofs.lemmas.List.{length-map}
use Rattle.lists.proofs.Numbers.{or_nat_eq_below as not_this, nat_eq_itself as this_one}
use Rattle.schema.specs.declared.value.Repetition.{Repetition}
use Rattle.schema.specs.declared.annotation.GroupAnnotation.{GroupAnnotation}
use Rattle.schema.specs.Shape.{Field, leaf, fields, Fields, no_fields, field}
use Rattle.schema.specs.Stripe.{Leaf, leaves, leaves_from, leaves_of, below}
use Rattle.schema.specs.Law.{IsGroupOf, IsValid, AreValid, IsSchema}
use Rattle.schema.specs.Cutting.{group_of, kept, cut, cut_each, is_among, cut_to, ArePlaces, IsCutFault}
use Rattle.columns.specs.Columns.{fields_at}
use Rattle.columns.specs.inner.Among.{is_at, leaves_among}
use Rattle.columns.proofs.Among.{not_before}

-- ---- cuts that take all, or nothing

-- the wish is the same at this many places
abbrev AreAll : (ℕ → Bool) → Bool → ℕ → ℕ → Type 0
AreAll wanted b at zero = Unit {0}
AreAll wanted b at (suc n) = (wanted at ≡ b) × AreAll wanted b (suc at) n

all_of_both : (wanted : ℕ → Bool) (b : Bool) (at n m : ℕ) → AreAll wanted b at (n + m) → AreAll wanted b at n × AreAll wanted b (at + n) m
all_of_both wanted b at zero m h = (tt, subst (λ (k : ℕ). AreAll wanted b k m) (sym (add-zero at)) (let e : 0 + m ≡ m = omega arith in subst (λ (k : ℕ). AreAll wanted b at k) e h))
all_of_both wanted b at (suc n) m h =
    let e : suc n + m ≡ suc (n + m) = omega arith in
    let k = subst (λ (i : ℕ). AreAll wanted b at i) e h in
    let rest = all_of_both wanted b (suc at) n m k.1 in
    let f : suc at + n ≡ at + suc n = omega arith in
    ((k.0, rest.0), subst (λ (i : ℕ). AreAll wanted b i m) f rest.1)

-- the leaves of a field and of those behind it are counted together
leaves_counted : (i : ℕ) (f : Field) (fs : Fields) → length (map (below i f) (leaves f) ++ leaves_from (suc i) fs) ≡ length (leaves f) + length (leaves_from (suc i) fs)
leaves_counted i f fs =
    length-append (map (below i f) (leaves f)) (leaves_from (suc i) fs) ∙ ap (λ k. k + length (leaves_from (suc i) fs)) (length-map (leaves f) (below i f))

kept_group : (n : List ℕ) (r : Repetition) (a : Option GroupAnnotation) (fs : Fields) → IsGroupOf fs → group_of n r a fs ≡ Some (fields n r a fs)
kept_group n r a no_fields g = absurd g.some
kept_group n r a (field f fs) g = refl

mutual
  takes_all : (wanted : ℕ → Bool) (at : ℕ) (f : Field) → IsValid f → AreAll wanted true at (length (leaves f)) → cut wanted at f ≡ Some f
  takes_all wanted at (leaf n r t) v h = ap (λ (b : Bool). cond b (Some (leaf n r t)) None) h.0
  takes_all wanted at (fields n r a fs) v h = ap (group_of n r a) (takes_each wanted at 0 fs v.1 h) ∙ kept_group n r a fs v.0

  takes_each : (wanted : ℕ → Bool) (at i : ℕ) (fs : Fields) → AreValid fs → AreAll wanted true at (length (leaves_from i fs)) → cut_each wanted at fs ≡ fs
  takes_each wanted at i no_fields v h = refl
  takes_each wanted at i (field f fs) v h =
      let parts = all_of_both wanted true at (length (leaves f)) (length (leaves_from (suc i) fs)) (subst (λ (k : ℕ). AreAll wanted true at k) (leaves_counted i f fs) h) in
      ap (λ o. kept o (cut_each wanted (at + length (leaves f)) fs)) (takes_all wanted at f v.0 parts.0) ∙ ap (field f) (takes_each wanted (at + length (leaves f)) (suc i) fs v.1 parts.1)

mutual
  takes_none : (wanted : ℕ → Bool) (at : ℕ) (f : Field) → AreAll wanted false at (length (leaves f)) → cut wanted at f ≡ None
  takes_none wanted at (leaf n r t) h = ap (λ (b : Bool). cond b (Some (leaf n r t)) None) h.0
  takes_none wanted at (fields n r a fs) h = ap (group_of n r a) (takes_nothing wanted at 0 fs h)

  takes_nothing : (wanted : ℕ → Bool) (at i : ℕ) (fs : Fields) → AreAll wanted false at (length (leaves_from i fs)) → cut_each wanted at fs ≡ no_fields
  takes_nothing wanted at i no_fields h = refl
  takes_nothing wanted at i (field f fs) h =
      let parts = all_of_both wanted false at (length (leaves f)) (length (leaves_from (suc i) fs)) (subst (λ (k : ℕ). AreAll wanted false at k) (leaves_counted i f fs) h) in
      ap (λ o. kept o (cut_each wanted (at + length (leaves f)) fs)) (takes_none wanted at f parts.0) ∙ takes_nothing wanted (at + length (leaves f)) (suc i) fs parts.1

-- ---- leaves are wanted as their columns are

abbrev Agree : (ℕ → Bool) → List ℕ → ℕ → List Leaf → Type 0
Agree wanted places at [] = Unit {0}
Agree wanted places at (l ∷ ls) = (wanted at ≡ is_at places l) × Agree wanted places (suc at) ls

agree_both : (wanted : ℕ → Bool) (places : List ℕ) (at : ℕ) (xs ys : List Leaf) → Agree wanted places at (xs ++ ys) → Agree wanted places at xs × Agree wanted places (at + length xs) ys
agree_both wanted places at [] ys h = (tt, subst (λ (k : ℕ). Agree wanted places k ys) (sym (add-zero at)) h)
agree_both wanted places at (x ∷ xs) ys h =
    let rest = agree_both wanted places (suc at) xs ys h.1 in
    let f : suc at + length xs ≡ at + suc (length xs) = omega arith in
    ((h.0, rest.0), subst (λ (i : ℕ). Agree wanted places i ys) f rest.1)

-- the leaves of one field
of_field : (wanted : ℕ → Bool) (places : List ℕ) (at i : ℕ) (f : Field) (b : Bool) (ls : List Leaf) → is_among places i ≡ b → Agree wanted places at (map (below i f) ls) → AreAll wanted b at (length ls)
of_field wanted places at i f b [] e h = tt
of_field wanted places at i f b (l ∷ ls) e h = (h.0 ∙ e, of_field wanted places (suc at) i f b ls e h.1)

cut_at : (wanted : ℕ → Bool) (places : List ℕ) (at i : ℕ) (fs : Fields) → AreValid fs → Agree wanted places at (leaves_from i fs) → cut_each wanted at fs ≡ fields_at places i fs
cut_at wanted places at i no_fields v h = refl
cut_at wanted places at i (field f fs) v h =
    let own = map (below i f) (leaves f) in
    let parts = agree_both wanted places at own (leaves_from (suc i) fs) h in
    let later = subst (λ (k : ℕ). Agree wanted places (at + k) (leaves_from (suc i) fs)) (length-map (leaves f) (below i f)) parts.1 in
    by (is_among places i) refl parts.0 (cut_at wanted places (at + length (leaves f)) (suc i) fs v.1 later)
  where
    by : (b : Bool) → is_among places i ≡ b → Agree wanted places at (map (below i f) (leaves f)) → cut_each wanted (at + length (leaves f)) fs ≡ fields_at places (suc i) fs
        → kept (cut wanted at f) (cut_each wanted (at + length (leaves f)) fs) ≡ cond b (field f (fields_at places (suc i) fs)) (fields_at places (suc i) fs)
    by true e a rest = ap (λ o. kept o (cut_each wanted (at + length (leaves f)) fs)) (takes_all wanted at f v.0 (of_field wanted places at i f true (leaves f) e a)) ∙ ap (field f) rest
    by false e a rest = ap (λ o. kept o (cut_each wanted (at + length (leaves f)) fs)) (takes_none wanted at f (of_field wanted places at i f false (leaves f) e a)) ∙ rest

-- ---- the leaves

agree_still : (wanted other : ℕ → Bool) (places : List ℕ) (at : ℕ) (ls : List Leaf) → ((n : ℕ) → at ≤ n → other n ≡ wanted n) → Agree wanted places at ls → Agree other places at ls
agree_still wanted other places at [] same h = tt
agree_still wanted other places at (l ∷ ls) same h = (same at (omega arith) ∙ h.0, agree_still wanted other places (suc at) ls (λ n past. same n (omega (arith, past))) h.1)

none_earlier : (places : List ℕ) (at n : ℕ) (ls : List Leaf) → n < at → is_among (leaves_among places at ls) n ≡ false
none_earlier places at n [] h = refl
none_earlier places at n (l ∷ ls) h = by (is_at places l) (none_earlier places (suc at) n ls (omega (arith, h)))
  where
    by : (b : Bool) → is_among (leaves_among places (suc at) ls) n ≡ false → is_among (cond b (at ∷ leaves_among places (suc at) ls) (leaves_among places (suc at) ls)) n ≡ false
    by true rest = not_before at n (is_among (leaves_among places (suc at) ls) n) h rest
    by false rest = rest

leaves_agree : (places : List ℕ) (at : ℕ) (ls : List Leaf) → Agree (is_among (leaves_among places at ls)) places at ls
leaves_agree places at [] = tt
leaves_agree places at (l ∷ ls) = by (is_at places l) (leaves_agree places (suc at) ls)
  where
    by : (b : Bool) → Agree (is_among (leaves_among places (suc at) ls)) places (suc at) ls
        → (is_among (cond b (at ∷ leaves_among places (suc at) ls) (leaves_among places (suc at) ls)) at ≡ b) × Agree (is_among (cond b (at ∷ leaves_among places (suc at) ls) (leaves_among places (suc at) ls))) places (suc at) ls
    by true rest = (ap (λ (t : Bool). t || is_among (leaves_among places (suc at) ls) at) (this_one at), agree_still (is_among (leaves_among places (suc at) ls)) (is_among (at ∷ leaves_among places (suc at) ls)) places (suc at) ls (λ n past. not_this at n (is_among (leaves_among places (suc at) ls) n) past) rest)
    by false rest = (none_earlier places (suc at) at ls (omega arith), rest)

-- the cut to these leaves
pub columns_cut : (places : List ℕ) (fs : Fields) → IsSchema fs → cut_to (leaves_among places 0 (leaves_of fs)) fs ≡ fields_at places 0 fs
columns_cut places fs v = cut_at (is_among (leaves_among places 0 (leaves_of fs))) places 0 0 fs v.1 (leaves_agree places 0 (leaves_of fs))

nothing_wanted : (at n : ℕ) → AreAll (is_among []) false at n
nothing_wanted at zero = tt
nothing_wanted at (suc n) = (refl, nothing_wanted (suc at) n)

-- where there are no such leaves, there are no such columns
pub no_columns : (places : List ℕ) (fs : Fields) (among : List ℕ) → IsSchema fs → among ≡ leaves_among places 0 (leaves_of fs) → length among ≡ 0 → no_fields ≡ fields_at places 0 fs
no_columns places fs [] v is none =
    sym (takes_nothing (is_among []) 0 0 fs (nothing_wanted 0 (length (leaves_of fs)))) ∙ ap (λ (ns : List ℕ). cut_to ns fs) is ∙ columns_cut places fs v
no_columns places fs (n ∷ ns) v is none = absurd (omega (arith, none))

-- ---- what a cut to them is, and is refused for

all_within : (places : List ℕ) (at count : ℕ) (ls : List Leaf) → at + length ls ≤ count → AllByRecursion (λ place. place < count) (leaves_among places at ls)
all_within places at count [] h = tt
all_within places at count (l ∷ ls) h = by (is_at places l) (all_within places (suc at) count ls (omega (arith, h)))
  where
    by : (b : Bool) → AllByRecursion (λ place. place < count) (leaves_among places (suc at) ls) → AllByRecursion (λ place. place < count) (cond b (at ∷ leaves_among places (suc at) ls) (leaves_among places (suc at) ls))
    by true rest = (omega (arith, h), rest)
    by false rest = rest

-- they are places of leaves
pub are_places : (places : List ℕ) (fs : Fields) (among : List ℕ) → among ≡ leaves_among places 0 (leaves_of fs) → 0 < length among → ArePlaces fs among
are_places places fs among is some = record {
  some = some;
  there = subst (AllByRecursion (λ place. place < length (leaves_of fs))) (sym is) (all_within places 0 (length (leaves_of fs)) (leaves_of fs) (omega arith));
}

-- it fails only when out of memory
pub cut_remembers : (places : List ℕ) (fs : Fields) (e : Refusal) → ArePlaces fs places → IsCutFault places fs e → HasCause (λ _. ⊥) e
cut_remembers places fs Truncated p h = absurd h
cut_remembers places fs Magic p h = absurd h
cut_remembers places fs Thrift p h = absurd h
cut_remembers places fs Schema p h = absurd (h p)
cut_remembers places fs Codec p h = absurd h
cut_remembers places fs (Float path) p h = absurd h
cut_remembers places fs (Int96 path) p h = absurd h
cut_remembers places fs Encoding p h = absurd h
cut_remembers places fs Page p h = absurd h
cut_remembers places fs Levels p h = absurd h
cut_remembers places fs Value p h = absurd h
cut_remembers places fs Utf8 p h = absurd h
cut_remembers places fs Limit p h = absurd h
cut_remembers places fs RowShape p h = absurd h
cut_remembers places fs NoColumn p h = absurd h
cut_remembers places fs Unordered p h = absurd h
cut_remembers places fs Key p h = absurd h
cut_remembers places fs NoGroup p h = absurd h
cut_remembers places fs Stale p h = absurd h
cut_remembers places fs NoJob p h = absurd h
cut_remembers places fs NoCursor p h = absurd h
cut_remembers places fs Full p h = absurd h
cut_remembers places fs NoTable p h = absurd h
cut_remembers places fs Exists p h = absurd h
cut_remembers places fs Device p h = absurd h
cut_remembers places fs InDoubt p h = absurd h
cut_remembers places fs Closed p h = absurd h
cut_remembers places fs Memory p h = tt
cut_remembers places fs Script p h = absurd h
