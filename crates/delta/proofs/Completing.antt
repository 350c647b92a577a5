-- Values that are completed one by one.
use Rattle.std.proofs.Common.{◌≡◌, ℕ, ◌+◌, ◌<◌, ◌≤◌, List, [], ◌∷◌, ◌++◌, length, get_or, take, drop, map, refl, sym, ap, subst, ◌∙◌, arith, append_assoc, ◌⊎◌, inl, inr}
use Rattle.std.specs.Prelude.{ℤ, pos, negsuc, min}
use Rattle.std.specs.List.{concat}
use Rattle.std.proofs.lemmas.List.{length-append, length-take-le, take-append-drop, take_at, drop_at, drop_more, drop_all, drop-drop, take_min}
use Rattle.std.proofs.lemmas.Bool.{cases_lt}
use Rattle.std.specs.Int.{w32}
use Rattle.bits.specs.declared.refusal.Refusal.{Refusal}
use Rattle.bits.specs.declared.refusal.Refusal.TheVariants.{Truncated, Thrift, Value, Limit, Memory}
use Rattle.bits.specs.Refusals.{HasCause, IsOfValues}
use Rattle.delta.specs.Delta.{IsDelta}
use Rattle.delta.specs.ByteDeltas.{sizes, natural, completed, AreCompleted, last_value, IsLongCompletion, IsByteLengths, IsPrefixed, IsPrefixesOver}
use Rattle.delta.specs.inner.Shared.{AreShared, IsSharedLong, IsLongPair}
use Rattle.delta.proofs.One.{one_delta}

-- as many values as there are lengths of both kinds
pub completed_count : (before : List ℕ) (ps zs : List ℤ) (text : List ℕ) → length (completed before ps zs text) ≡ min (length ps) (length zs)
completed_count before [] [] text = refl
completed_count before [] (z ∷ zs) text = omega arith
completed_count before (p ∷ ps) [] text = omega arith
completed_count before (p ∷ ps) (z ∷ zs) text =
    omega (arith, completed_count (take (natural p) before ++ take (natural z) text) ps zs (drop (natural z) text))

completed_no_lengths : (before : List ℕ) (ps : List ℤ) (text : List ℕ) → completed before ps [] text ≡ []
completed_no_lengths before [] text = refl
completed_no_lengths before (p ∷ ps) text = refl

drop_min : (n : ℕ) (xs : List ℕ) → drop (min n (length xs)) xs ≡ drop n xs
drop_min n xs = elim (cases_lt n (length xs)) [
  | inl lt ↦ ap (λ (k : ℕ). drop k xs) (omega (arith, lt))
  | inr le ↦ drop_all (min n (length xs)) xs (omega (arith, le)) ∙ sym (drop_all n xs le)
]

-- one value more
pub completed_more : (before : List ℕ) (ps zs : List ℤ) (text : List ℕ) (i shared size : ℕ) (value rest : List ℕ) → i < length ps → i < length zs
    → shared ≡ natural (get_or ps i (pos 0)) → size ≡ natural (get_or zs i (pos 0))
    → value ≡ take shared before ++ take (min size (length text)) text → rest ≡ drop (min size (length text)) text
    → completed before (drop i ps) (drop i zs) text ≡ value ∷ completed value (drop (i + 1) ps) (drop (i + 1) zs) rest
completed_more before ps zs text i shared size value rest more_p more_z shared_is size_is value_is rest_is =
    let p = get_or ps i (pos 0) in
    let z = get_or zs i (pos 0) in
    let value_at : take (natural p) before ++ take (natural z) text ≡ value =
    ap (λ (k : ℕ). take k before ++ take (natural z) text) (sym shared_is) ∙ ap (λ (k : ℕ). take shared before ++ take k text) (sym size_is)
    ∙ ap (λ (t : List ℕ). take shared before ++ t) (sym (take_min size text)) ∙ sym value_is in
    let rest_at : drop (natural z) text ≡ rest = ap (λ (k : ℕ). drop k text) (sym size_is) ∙ sym (drop_min size text) ∙ sym rest_is in
    ap (λ (t : List ℤ). completed before t (drop i zs) text) (drop_more ps i (pos 0) more_p) ∙ ap (λ (t : List ℤ). completed before (p ∷ drop (i + 1) ps) t text) (drop_more zs i (pos 0) more_z)
    ∙ ap (λ (v : List ℕ). v ∷ completed v (drop (i + 1) ps) (drop (i + 1) zs) (drop (natural z) text)) value_at ∙ ap (λ (t : List ℕ). value ∷ completed value (drop (i + 1) ps) (drop (i + 1) zs) t) rest_at

-- at the end
pub completed_none : (before : List ℕ) (ps zs : List ℤ) (text : List ℕ) (i : ℕ) → (length ps ≤ i) ⊎ (length zs ≤ i) → completed before (drop i ps) (drop i zs) text ≡ []
completed_none before ps zs text i (inl end) = ap (λ (t : List ℤ). completed before t (drop i zs) text) (drop_all i ps end)
completed_none before ps zs text i (inr end) = ap (λ (t : List ℤ). completed before (drop i ps) t text) (drop_all i zs end) ∙ completed_no_lengths before (drop i ps) text

-- the lengths as natural numbers, and the suffixes
pub record AreSplit (before : List ℕ) (ps zs : List ℤ) (text : List ℕ) (used : ℕ) : Type 0 where
  pub prefixes : List ℕ
  pub suffixes : List (List ℕ)
  pub rest : List ℕ
  pub prefixes_are : ps ≡ map pos prefixes
  pub lengths_are : zs ≡ sizes suffixes
  pub joined : text ≡ concat suffixes ++ rest
  pub complete : AreCompleted before prefixes suffixes (completed before ps zs text)
  pub ends : used ≡ length (concat suffixes)

pub shared_split : (before : List ℕ) (ps zs : List ℤ) (text : List ℕ) (used : ℕ) → AreShared before ps zs text used → AreSplit before ps zs text used
shared_split before [] [] text used p = record { prefixes = []; suffixes = []; rest = text; prefixes_are = refl; lengths_are = refl; joined = refl; complete = tt; ends = p }
shared_split before [] (z ∷ zs) text used p = absurd p
shared_split before (pos k ∷ ps) [] text used p = absurd p
shared_split before (negsuc k ∷ ps) [] text used p = absurd p
shared_split before (pos k ∷ ps) (negsuc z ∷ zs) text used p = absurd p
shared_split before (negsuc k ∷ ps) (z ∷ zs) text used p = absurd p
shared_split before (pos k ∷ ps) (pos z ∷ zs) text used p =
    let later = shared_split (take k before ++ take z text) ps zs (drop z text) p.2 p.3 in
    let here = take z text in
    let count : length here ≡ z = length-take-le z text p.1 in
    record {
      prefixes = k ∷ later.prefixes;
      suffixes = here ∷ later.suffixes;
      rest = later.rest;
      prefixes_are = ap (λ (t : List ℤ). pos k ∷ t) later.prefixes_are;
      lengths_are = ap (λ (t : List ℤ). pos z ∷ t) later.lengths_are ∙ ap (λ (n : ℕ). pos n ∷ sizes later.suffixes) (sym count);
      joined = sym (take-append-drop z text) ∙ ap (λ (t : List ℕ). here ++ t) later.joined ∙ sym (append_assoc here (concat later.suffixes) later.rest);
      complete = (p.0, refl, later.complete);
      ends = omega (arith, p.4, later.ends, count, length-append here (concat later.suffixes));
    }

-- a suffix at the front
front_take : (s ss rest : List ℕ) → take (length s) ((s ++ ss) ++ rest) ≡ s
front_take s ss rest = ap (λ (t : List ℕ). take (length s) t) (append_assoc s ss rest) ∙ take_at s (ss ++ rest) (length s) refl

front_drop : (s ss rest : List ℕ) → drop (length s) ((s ++ ss) ++ rest) ≡ ss ++ rest
front_drop s ss rest = ap (λ (t : List ℕ). drop (length s) t) (append_assoc s ss rest) ∙ drop_at s (ss ++ rest) (length s) refl

front_fits : (s ss rest : List ℕ) → length s ≤ length ((s ++ ss) ++ rest)
front_fits s ss rest = omega (arith, length-append (s ++ ss) rest, length-append s ss)

pub split_shared : (before : List ℕ) (prefixes : List ℕ) (suffixes values : List (List ℕ)) (rest : List ℕ) → AreCompleted before prefixes suffixes values
    → AreShared before (map pos prefixes) (sizes suffixes) (concat suffixes ++ rest) (length (concat suffixes))
split_shared before [] [] [] rest p = refl
split_shared before [] [] (v ∷ vs) rest p = absurd p
split_shared before [] (s ∷ ss) vs rest p = absurd p
split_shared before (k ∷ ks) [] vs rest p = absurd p
split_shared before (k ∷ ks) (s ∷ ss) [] rest p = absurd p
split_shared before (k ∷ ks) (s ∷ ss) (v ∷ vs) rest p =
    let value : v ≡ take k before ++ take (length s) ((s ++ concat ss) ++ rest) = p.1 ∙ ap (λ (t : List ℕ). take k before ++ t) (sym (front_take s (concat ss) rest)) in
    let later = split_shared v ks ss vs rest p.2 in
    let moved = subst (λ (t : List ℕ). AreShared v (map pos ks) (sizes ss) t (length (concat ss))) (sym (front_drop s (concat ss) rest)) later in (
      p.0,
      front_fits s (concat ss) rest,
      length (concat ss),
      subst (λ (t : List ℕ). AreShared t (map pos ks) (sizes ss) (drop (length s) ((s ++ concat ss) ++ rest)) (length (concat ss))) value moved,
      length-append s (concat ss),
    )

-- ---- a value that is announced too long

pub long_completion : (before : List ℕ) (ps zs : List ℤ) (text : List ℕ) → IsSharedLong before ps zs text → IsLongCompletion before ps zs text
long_completion before [] zs text p = absurd p
long_completion before (pos k ∷ ps) [] text p = absurd p
long_completion before (negsuc k ∷ ps) [] text p = absurd p
long_completion before (pos k ∷ ps) (negsuc z ∷ zs) text p = absurd p
long_completion before (negsuc k ∷ ps) (z ∷ zs) text p = absurd p
long_completion before (pos k ∷ ps) (pos z ∷ zs) text (fits, inl much) = record {
  before = [];
  suffixes = [];
  values = [];
  prefix = k;
  announced = z;
  later_prefixes = ps;
  later_lengths = zs;
  rest = text;
  prefixes_are = refl;
  lengths_are = refl;
  joined = refl;
  completed = tt;
  shared = fits;
  much = much;
}
long_completion before (pos k ∷ ps) (pos z ∷ zs) text (fits, inr (room, further)) =
    let here = take z text in
    let later = long_completion (take k before ++ here) ps zs (drop z text) further in
    let count : length here ≡ z = length-take-le z text room in
    record {
      before = k ∷ later.before;
      suffixes = here ∷ later.suffixes;
      values = (take k before ++ here) ∷ later.values;
      prefix = later.prefix;
      announced = later.announced;
      later_prefixes = later.later_prefixes;
      later_lengths = later.later_lengths;
      rest = later.rest;
      prefixes_are = ap (λ (t : List ℤ). pos k ∷ t) later.prefixes_are;
      lengths_are = ap (λ (t : List ℤ). pos z ∷ t) later.lengths_are ∙ ap (λ (n : ℕ). pos n ∷ (sizes later.suffixes ++ pos later.announced ∷ later.later_lengths)) (sym count);
      joined = sym (take-append-drop z text) ∙ ap (λ (t : List ℕ). here ++ t) later.joined ∙ sym (append_assoc here (concat later.suffixes) later.rest);
      completed = (fits, refl, later.completed);
      shared = later.shared;
      much = later.much;
    }

pub completion_long : (start : List ℕ) (before : List ℕ) (suffixes values : List (List ℕ)) (prefix announced : ℕ) (ps zs : List ℤ) (rest : List ℕ) → AreCompleted start before suffixes values
    → prefix ≤ length (last_value start values) → 16777216 < prefix + announced
    → IsSharedLong start (map pos before ++ pos prefix ∷ ps) (sizes suffixes ++ pos announced ∷ zs) (concat suffixes ++ rest)
completion_long start [] [] [] prefix announced ps zs rest p shared much = (shared, inl much)
completion_long start [] [] (v ∷ vs) prefix announced ps zs rest p shared much = absurd p
completion_long start [] (s ∷ ss) vs prefix announced ps zs rest p shared much = absurd p
completion_long start (k ∷ ks) [] vs prefix announced ps zs rest p shared much = absurd p
completion_long start (k ∷ ks) (s ∷ ss) [] prefix announced ps zs rest p shared much = absurd p
completion_long start (k ∷ ks) (s ∷ ss) (v ∷ vs) prefix announced ps zs rest p shared much =
    let Ps = map pos ks ++ pos prefix ∷ ps in
    let Zs = sizes ss ++ pos announced ∷ zs in
    let value : v ≡ take k start ++ take (length s) ((s ++ concat ss) ++ rest) = p.1 ∙ ap (λ (t : List ℕ). take k start ++ t) (sym (front_take s (concat ss) rest)) in
    let later = completion_long v ks ss vs prefix announced ps zs rest p.2 shared much in
    let moved = subst (λ (t : List ℕ). IsSharedLong v Ps Zs t) (sym (front_drop s (concat ss) rest)) later in
    (p.0, inr (front_fits s (concat ss) rest, subst (λ (t : List ℕ). IsSharedLong t Ps Zs (drop (length s) ((s ++ concat ss) ++ rest))) value moved))

-- ---- going through the lengths

-- the first i values are there and end at `at`, and the last of them has `count` bytes
pub record IsSharing (ps zs : List ℤ) (text : List ℕ) (at count i : ℕ) : Type 0 where
  pub value : List ℕ
  pub size : length value ≡ count
  pub front : (used : ℕ) → AreShared value (drop i ps) (drop i zs) (drop at text) used → AreShared [] ps zs text (at + used)
  pub back : (used : ℕ) → AreShared [] ps zs text used → (u : ℕ) × AreShared value (drop i ps) (drop i zs) (drop at text) u
  pub long_front : IsSharedLong value (drop i ps) (drop i zs) (drop at text) → IsSharedLong [] ps zs text
  pub long_back : IsSharedLong [] ps zs text → IsSharedLong value (drop i ps) (drop i zs) (drop at text)

pub sharing_begins : (ps zs : List ℤ) (text : List ℕ) → IsSharing ps zs text 0 0 0
sharing_begins ps zs text = record { value = []; size = refl; front = λ used p. subst (λ (n : ℕ). AreShared [] ps zs text n) (omega arith) p; back = λ used p. (used, p); long_front = λ p. p; long_back = λ p. p }

at_head : (ps : List ℤ) (i : ℕ) (z : ℤ) → i < length ps → z ≡ get_or ps i (pos 0) → drop i ps ≡ z ∷ drop (i + 1) ps
at_head ps i z more is = drop_more ps i (pos 0) more ∙ ap (λ (y : ℤ). y ∷ drop (i + 1) ps) (sym is)

pub sharing_goes_on : (ps zs : List ℤ) (text : List ℕ) (at count i p z : ℕ) (prefix announced : ℤ) → i < length ps → i < length zs → prefix ≡ get_or ps i (pos 0) → announced ≡ get_or zs i (pos 0)
    → prefix ≡ pos p → announced ≡ pos z → p ≤ count → z ≤ length (drop at text) → (IsLongPair prefix announced count → ⊥)
    → IsSharing ps zs text at count i → IsSharing ps zs text (at + z) (p + z) (i + 1)
sharing_goes_on ps zs text at count i p z prefix announced more_p more_z prefix_at announced_at prefix_is announced_is fits room short q =
    let here = take z (drop at text) in
    let next = take p q.value ++ here in
    let fit : p ≤ length q.value = omega (arith, fits, q.size) in
    let further : drop z (drop at text) ≡ drop (at + z) text = drop-drop z at text in
    let head_p : drop i ps ≡ pos p ∷ drop (i + 1) ps = at_head ps i (pos p) more_p (sym prefix_is ∙ prefix_at) in
    let head_z : drop i zs ≡ pos z ∷ drop (i + 1) zs = at_head zs i (pos z) more_z (sym announced_is ∙ announced_at) in
    record {
      value = next;
      size = omega (arith, length-append (take p q.value) here, length-take-le p q.value fit, length-take-le z (drop at text) room);
      front = λ used r.
          let moved = subst (λ (t : List ℕ). AreShared next (drop (i + 1) ps) (drop (i + 1) zs) t used) (sym further) r in
          let whole : AreShared q.value (pos p ∷ drop (i + 1) ps) (pos z ∷ drop (i + 1) zs) (drop at text) (z + used) = (fit, room, used, moved, refl) in
          let one = subst (λ (t : List ℤ). AreShared q.value t (pos z ∷ drop (i + 1) zs) (drop at text) (z + used)) (sym head_p) whole in
          let two = subst (λ (t : List ℤ). AreShared q.value (drop i ps) t (drop at text) (z + used)) (sym head_z) one in
          subst (λ (n : ℕ). AreShared [] ps zs text n) (omega arith) (q.front (z + used) two);
      back = λ used r.
          let u = q.back used r in
          let one = subst (λ (t : List ℤ). AreShared q.value t (drop i zs) (drop at text) u.0) head_p u.1 in
          let two : AreShared q.value (pos p ∷ drop (i + 1) ps) (pos z ∷ drop (i + 1) zs) (drop at text) u.0 = subst (λ (t : List ℤ). AreShared q.value (pos p ∷ drop (i + 1) ps) t (drop at text) u.0) head_z one in
          (two.2, subst (λ (t : List ℕ). AreShared next (drop (i + 1) ps) (drop (i + 1) zs) t two.2) further two.3);
      long_front = λ r.
          let moved = subst (λ (t : List ℕ). IsSharedLong next (drop (i + 1) ps) (drop (i + 1) zs) t) (sym further) r in
          let whole : IsSharedLong q.value (pos p ∷ drop (i + 1) ps) (pos z ∷ drop (i + 1) zs) (drop at text) = (fit, inr (room, moved)) in
          let one = subst (λ (t : List ℤ). IsSharedLong q.value t (pos z ∷ drop (i + 1) zs) (drop at text)) (sym head_p) whole in
          q.long_front (subst (λ (t : List ℤ). IsSharedLong q.value (drop i ps) t (drop at text)) (sym head_z) one);
      long_back = λ r.
          let one = subst (λ (t : List ℤ). IsSharedLong q.value t (drop i zs) (drop at text)) head_p (q.long_back r) in
          let two : IsSharedLong q.value (pos p ∷ drop (i + 1) ps) (pos z ∷ drop (i + 1) zs) (drop at text) = subst (λ (t : List ℤ). IsSharedLong q.value (pos p ∷ drop (i + 1) ps) t (drop at text)) head_z one in
          elim two.1 [
            | inl much ↦ absurd (short (p, z, prefix_is, announced_is, fits, much))
            | inr r ↦ subst (λ (t : List ℕ). IsSharedLong next (drop (i + 1) ps) (drop (i + 1) zs) t) further r.1
          ];
    }

-- what stands first, where the first prefix and suffix are not there
none_first : (value : List ℕ) (prefix announced : ℤ) (ps zs : List ℤ) (text : List ℕ) (used : ℕ)
    → ((p z : ℕ) → prefix ≡ pos p → announced ≡ pos z → p ≤ length value → z ≤ length text → ⊥) → AreShared value (prefix ∷ ps) (announced ∷ zs) text used → ⊥
none_first value (pos p) (pos z) ps zs text used none r = none p z refl refl r.0 r.1
none_first value (pos p) (negsuc z) ps zs text used none r = r
none_first value (negsuc p) z ps zs text used none r = r

none_long_first : (value : List ℕ) (prefix announced : ℤ) (ps zs : List ℤ) (text : List ℕ) → (IsLongPair prefix announced (length value) → ⊥)
    → ((p z : ℕ) → prefix ≡ pos p → announced ≡ pos z → p ≤ length value → z ≤ length text → ⊥) → IsSharedLong value (prefix ∷ ps) (announced ∷ zs) text → ⊥
none_long_first value (pos p) (pos z) ps zs text short none (fits, inl much) = short (p, z, refl, refl, fits, much)
none_long_first value (pos p) (pos z) ps zs text short none (fits, inr r) = none p z refl refl fits r.0
none_long_first value (pos p) (negsuc z) ps zs text short none r = r
none_long_first value (negsuc p) z ps zs text short none r = r

long_first : (value : List ℕ) (prefix announced : ℤ) (ps zs : List ℤ) (text : List ℕ) → IsLongPair prefix announced (length value) → IsSharedLong value (prefix ∷ ps) (announced ∷ zs) text
long_first value prefix announced ps zs text r =
    let whole : IsSharedLong value (pos r.0 ∷ ps) (pos r.1 ∷ zs) text = (r.4, inl r.5) in
    subst (λ (y : ℤ). IsSharedLong value (y ∷ ps) (announced ∷ zs) text) (sym r.2) (subst (λ (y : ℤ). IsSharedLong value (pos r.0 ∷ ps) (y ∷ zs) text) (sym r.3) whole)

-- the next value is not there
pub sharing_fails : (ps zs : List ℤ) (text : List ℕ) (at count i : ℕ) (prefix announced : ℤ) → i < length ps → i < length zs → prefix ≡ get_or ps i (pos 0) → announced ≡ get_or zs i (pos 0)
    → ((p z : ℕ) → prefix ≡ pos p → announced ≡ pos z → p ≤ count → z ≤ length (drop at text) → ⊥)
    → IsSharing ps zs text at count i → (used : ℕ) → AreShared [] ps zs text used → ⊥
sharing_fails ps zs text at count i prefix announced more_p more_z prefix_at announced_at none q used r =
    let u = q.back used r in
    let one = subst (λ (t : List ℤ). AreShared q.value t (drop i zs) (drop at text) u.0) (at_head ps i prefix more_p prefix_at) u.1 in
    let two = subst (λ (t : List ℤ). AreShared q.value (prefix ∷ drop (i + 1) ps) t (drop at text) u.0) (at_head zs i announced more_z announced_at) one in
    none_first q.value prefix announced (drop (i + 1) ps) (drop (i + 1) zs) (drop at text) u.0 (λ p z a b fits room. none p z a b (omega (arith, fits, q.size)) room) two

-- the next value is too long
pub sharing_long : (ps zs : List ℤ) (text : List ℕ) (at count i : ℕ) (prefix announced : ℤ) → i < length ps → i < length zs → prefix ≡ get_or ps i (pos 0) → announced ≡ get_or zs i (pos 0)
    → IsLongPair prefix announced count → IsSharing ps zs text at count i → IsSharedLong [] ps zs text
sharing_long ps zs text at count i prefix announced more_p more_z prefix_at announced_at long q =
    let fit = subst (λ (n : ℕ). IsLongPair prefix announced n) (sym q.size) long in
    let whole = long_first q.value prefix announced (drop (i + 1) ps) (drop (i + 1) zs) (drop at text) fit in
    let one = subst (λ (t : List ℤ). IsSharedLong q.value t (announced ∷ drop (i + 1) zs) (drop at text)) (sym (at_head ps i prefix more_p prefix_at)) whole in
    q.long_front (subst (λ (t : List ℤ). IsSharedLong q.value (drop i ps) t (drop at text)) (sym (at_head zs i announced more_z announced_at)) one)

-- the next value is not there, and not too long
pub sharing_not_long : (ps zs : List ℤ) (text : List ℕ) (at count i : ℕ) (prefix announced : ℤ) → i < length ps → i < length zs → prefix ≡ get_or ps i (pos 0) → announced ≡ get_or zs i (pos 0)
    → (IsLongPair prefix announced count → ⊥) → ((p z : ℕ) → prefix ≡ pos p → announced ≡ pos z → p ≤ count → z ≤ length (drop at text) → ⊥)
    → IsSharing ps zs text at count i → IsSharedLong [] ps zs text → ⊥
sharing_not_long ps zs text at count i prefix announced more_p more_z prefix_at announced_at short none q r =
    let one = subst (λ (t : List ℤ). IsSharedLong q.value t (drop i zs) (drop at text)) (at_head ps i prefix more_p prefix_at) (q.long_back r) in
    let two = subst (λ (t : List ℤ). IsSharedLong q.value (prefix ∷ drop (i + 1) ps) t (drop at text)) (at_head zs i announced more_z announced_at) one in
    none_long_first q.value prefix announced (drop (i + 1) ps) (drop (i + 1) zs) (drop at text) (λ long. short (subst (λ (n : ℕ). IsLongPair prefix announced n) q.size long))
    (λ p z a b fits room. none p z a b (omega (arith, fits, q.size)) room) two

-- all are there
pub sharing_ends : (ps zs : List ℤ) (text : List ℕ) (at count i : ℕ) → length ps ≤ i → length zs ≤ i → IsSharing ps zs text at count i → AreShared [] ps zs text at
sharing_ends ps zs text at count i all_p all_z q =
    let none : AreShared q.value [] [] (drop at text) 0 = refl in
    let one = subst (λ (t : List ℤ). AreShared q.value t [] (drop at text) 0) (sym (drop_all i ps all_p)) none in
    subst (λ (n : ℕ). AreShared [] ps zs text n) (omega arith) (q.front 0 (subst (λ (t : List ℤ). AreShared q.value (drop i ps) t (drop at text) 0) (sym (drop_all i zs all_z)) one))

pub sharing_ends_short : (ps zs : List ℤ) (text : List ℕ) (at count i : ℕ) → length ps ≤ i → IsSharing ps zs text at count i → IsSharedLong [] ps zs text → ⊥
sharing_ends_short ps zs text at count i all_p q r = subst (λ (t : List ℤ). IsSharedLong q.value t (drop i zs) (drop at text)) (drop_all i ps all_p) (q.long_back r)

-- ---- after both lists of lengths

-- both lists stand at the front of the text, and the suffixes after them
pub record AreLengths (text : List ℕ) (n at then : ℕ) (ps zs : List ℤ) (others rest : List ℕ) : Type 0 where
  pub prefixes : IsDelta w32 text n ps at
  pub moved : others ≡ drop at text
  pub lengths : IsDelta w32 others n zs then
  pub left : rest ≡ drop then others

pub prefixes_stand : (text : List ℕ) (n at then used : ℕ) (ps zs : List ℤ) (others rest : List ℕ) → AreLengths text n at then ps zs others rest → AreShared [] ps zs rest used
    → IsPrefixed text n (completed [] ps zs rest) (at + then + used)
prefixes_stand text n at then used ps zs others rest l shared =
    let s = shared_split [] ps zs rest used shared in
    let second : IsDelta w32 (drop at text) n (sizes s.suffixes) then =
    subst (λ (t : List ℕ). IsDelta w32 t n (sizes s.suffixes) then) l.moved (subst (λ (t : List ℤ). IsDelta w32 others n t then) s.lengths_are l.lengths) in
    record {
      at = at;
      rest = then + used;
      prefixes = s.prefixes;
      suffixes = s.suffixes;
      shared = subst (λ (t : List ℤ). IsDelta w32 text n t at) s.prefixes_are l.prefixes;
      others = record { at = then; rest = s.rest; lengths = second; joined = ap (λ (t : List ℕ). drop then t) (sym l.moved) ∙ sym l.left ∙ s.joined; ends = ap (λ (k : ℕ). then + k) s.ends };
      completed = s.complete;
      ends = omega arith;
    }

-- values by their prefixes have suffixes by their lengths
pub second_stands : (text : List ℕ) (n at : ℕ) (ps : List ℤ) (others : List ℕ) (values : List (List ℕ)) (used : ℕ) → IsDelta w32 text n ps at → others ≡ drop at text
    → (p : IsPrefixed text n values used) → (ps ≡ map pos p.prefixes) × IsByteLengths others n p.suffixes p.rest
second_stands text n at ps others values used stand is p =
    let o = one_delta w32 n text ps (map pos p.prefixes) at p.at stand p.shared in
    (o.0, subst (λ (t : List ℕ). IsByteLengths t n p.suffixes p.rest) (ap (λ (k : ℕ). drop k text) (sym o.1) ∙ sym is) p.others)

pub prefixes_none : (text : List ℕ) (n at then : ℕ) (ps zs : List ℤ) (others rest : List ℕ) → AreLengths text n at then ps zs others rest
    → ((used : ℕ) → AreShared [] ps zs rest used → ⊥) → (values : List (List ℕ)) (used : ℕ) → IsPrefixed text n values used → ⊥
prefixes_none text n at then ps zs others rest l none values used p =
    let s = second_stands text n at ps others values used l.prefixes l.moved p in
    let o = one_delta w32 n others zs (sizes p.suffixes) then s.1.at l.lengths s.1.lengths in
    let same : rest ≡ concat p.suffixes ++ s.1.rest = l.left ∙ ap (λ (k : ℕ). drop k others) o.1 ∙ s.1.joined in
    let whole = split_shared [] p.prefixes p.suffixes values s.1.rest p.completed in
    let one = subst (λ (t : List ℤ). AreShared [] t (sizes p.suffixes) (concat p.suffixes ++ s.1.rest) (length (concat p.suffixes))) (sym s.0) whole in
    let two = subst (λ (t : List ℤ). AreShared [] ps t (concat p.suffixes ++ s.1.rest) (length (concat p.suffixes))) (sym o.0) one in
    none (length (concat p.suffixes)) (subst (λ (t : List ℕ). AreShared [] ps zs t (length (concat p.suffixes))) (sym same) two)

pub prefixes_over : (text : List ℕ) (n at then : ℕ) (ps zs : List ℤ) (others rest : List ℕ) → AreLengths text n at then ps zs others rest → IsSharedLong [] ps zs rest → IsPrefixesOver text n
prefixes_over text n at then ps zs others rest l long = record {
  prefixes = ps;
  at = at;
  lengths = zs;
  then = then;
  shared = l.prefixes;
  others = subst (λ (t : List ℕ). IsDelta w32 t n zs then) l.moved l.lengths;
  over = subst (λ (t : List ℕ). IsLongCompletion [] ps zs t) (l.left ∙ ap (λ (t : List ℕ). drop then t) l.moved) (long_completion [] ps zs rest long);
}

-- where values are too long, the lengths of suffixes stand
pub second_over : (text : List ℕ) (n at : ℕ) (ps : List ℤ) (others : List ℕ) → IsDelta w32 text n ps at → others ≡ drop at text
    → (p : IsPrefixesOver text n) → (ps ≡ p.prefixes) × IsDelta w32 others n p.lengths p.then × IsLongCompletion [] p.prefixes p.lengths (drop p.then others)
second_over text n at ps others stand is p =
    let o = one_delta w32 n text ps p.prefixes at p.at stand p.shared in
    let same : drop p.at text ≡ others = ap (λ (k : ℕ). drop k text) (sym o.1) ∙ sym is in
    (o.0, subst (λ (t : List ℕ). IsDelta w32 t n p.lengths p.then) same p.others, subst (λ (t : List ℕ). IsLongCompletion [] p.prefixes p.lengths (drop p.then t)) same p.over)

pub prefixes_not_over : (text : List ℕ) (n at then : ℕ) (ps zs : List ℤ) (others rest : List ℕ) → AreLengths text n at then ps zs others rest → (IsSharedLong [] ps zs rest → ⊥) → IsPrefixesOver text n → ⊥
prefixes_not_over text n at then ps zs others rest l none p =
    let s = second_over text n at ps others l.prefixes l.moved p in
    let o = one_delta w32 n others zs p.lengths then p.then l.lengths s.1 in
    let c = s.2 in
    let same : rest ≡ concat c.suffixes ++ c.rest = l.left ∙ ap (λ (k : ℕ). drop k others) o.1 ∙ c.joined in
    let whole = completion_long [] c.before c.suffixes c.values c.prefix c.announced c.later_prefixes c.later_lengths c.rest c.completed c.shared c.much in
    let Zs = sizes c.suffixes ++ pos c.announced ∷ c.later_lengths in
    let one = subst (λ (t : List ℤ). IsSharedLong [] t Zs (concat c.suffixes ++ c.rest)) (sym (s.0 ∙ c.prefixes_are)) whole in
    let two = subst (λ (t : List ℤ). IsSharedLong [] ps t (concat c.suffixes ++ c.rest)) (sym (o.0 ∙ c.lengths_are)) one in
    none (subst (λ (t : List ℕ). IsSharedLong [] ps zs t) (sym same) two)

-- a refusal of the suffixes is one of values
pub of_values : (e : Refusal) → HasCause (λ e. (e ≡ Truncated) ⊎ ((e ≡ Value) ⊎ (e ≡ Limit))) e → HasCause IsOfValues e
of_values Memory cause = tt
of_values Truncated cause = tt
of_values Thrift cause = tt
of_values Value cause = tt
of_values Limit cause = tt
of_values e (inl is) = cc
of_values e (inr (inl is)) = cc
of_values e (inr (inr is)) = cc
