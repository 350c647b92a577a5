-- Values that are cut from the front of joined bytes.
use Rattle.std.proofs.Common.{◌≡◌, ℕ, ◌+◌, ◌<◌, ◌≤◌, List, [], ◌∷◌, ◌++◌, length, get_or, take, drop, map, refl, sym, ap, subst, ◌∙◌, arith, append_assoc, ◌⊎◌, inl, inr}
use Rattle.std.specs.Prelude.{ℤ, pos}
use Rattle.std.specs.List.{concat}
use Rattle.std.specs.Int.{w32}
use Rattle.std.proofs.lemmas.List.{append-nil, length-append, length-take-le, map-append, take_more, take_all, drop_more, take-append-drop, drop_at, drop-drop}
use Rattle.bits.specs.declared.refusal.Refusal.{Refusal}
use Rattle.bits.specs.declared.refusal.Refusal.TheVariants.{Truncated, Thrift, Value, Limit, Memory}
use Rattle.bits.specs.Refusals.{IsFault, HasCause, IsLimitJustWhere}
use Rattle.schema.specs.Values.{ValueTree, bytes}
use Rattle.delta.specs.Delta.{IsDelta}
use Rattle.delta.specs.ByteDeltas.{sizes, IsByteLengths, IsCutLong, IsLengthsOver, StandForBytes}
use Rattle.delta.specs.inner.Cut.{AreCut, NoneAreCut, IsLong}
use Rattle.delta.proofs.One.{one_delta}

-- none has more than 16 MiB
abbrev pub NoneLong : List (List ℕ) → Type 0
NoneLong [] = Unit {0}
NoneLong (t ∷ ts) = (16777216 < length t → ⊥) × NoneLong ts

none_long_push : (ts : List (List ℕ)) (t : List ℕ) → NoneLong ts → (16777216 < length t → ⊥) → NoneLong (ts ++ t ∷ [])
none_long_push [] t p q = (q, tt)
none_long_push (x ∷ ts) t p q = (p.0, none_long_push ts t p.1 q)

pub concat_push : (ts : List (List ℕ)) (t : List ℕ) → concat (ts ++ t ∷ []) ≡ concat ts ++ t
concat_push [] t = append-nil t
concat_push (x ∷ ts) t = ap (λ (u : List ℕ). x ++ u) (concat_push ts t) ∙ sym (append_assoc x (concat ts) t)

-- behind values of one length stands the same
rest_same : (x y xs ys r s : List ℕ) → length x ≡ length y → (x ++ xs) ++ r ≡ (y ++ ys) ++ s → xs ++ r ≡ ys ++ s
rest_same x y xs ys r s size joined =
    let left : x ++ (xs ++ r) ≡ y ++ (ys ++ s) = sym (append_assoc x xs r) ∙ joined ∙ append_assoc y ys s in
    sym (drop_at x (xs ++ r) (length x) refl) ∙ ap (λ (t : List ℕ). drop (length x) t) left ∙ drop_at y (ys ++ s) (length x) (sym size)

-- a value at the front is there
front_there : (r v vs rest : List ℕ) → r ≡ (v ++ vs) ++ rest → length v ≤ length r
front_there r v vs rest same = omega (arith, ap length same, length-append (v ++ vs) rest, length-append v vs)

-- the next value is not there
pub none_cut : (ts : List (List ℕ)) (z : ℤ) (more : List ℤ) (r : List ℕ) (vs : List (List ℕ)) (rest : List ℕ) → ((size : ℕ) → z ≡ pos size → size ≤ length r → ⊥)
    → sizes ts ++ z ∷ more ≡ sizes vs → concat ts ++ r ≡ concat vs ++ rest → ⊥
none_cut [] z more r [] rest none are joined = cc
none_cut [] z more r (v ∷ vs) rest none are joined = let e : z ≡ pos (length v) = cc in none (length v) e (front_there r v (concat vs) rest joined)
none_cut (t ∷ ts) z more r [] rest none are joined = cc
none_cut (t ∷ ts) z more r (v ∷ vs) rest none are joined =
    let size : length t ≡ length v = cc in
    let others : sizes ts ++ z ∷ more ≡ sizes vs = cc in
    none_cut ts z more r vs rest none others (rest_same t v (concat ts) (concat vs) r rest size joined)

-- the next value is not there, and not long: so no later one is announced too long after values that are
pub none_over : (ts : List (List ℕ)) (z : ℤ) (more : List ℤ) (r : List ℕ) (vs : List (List ℕ)) (announced : ℕ) (later : List ℤ) (rest : List ℕ) → NoneLong ts → (IsLong z → ⊥)
    → ((size : ℕ) → z ≡ pos size → size ≤ length r → ⊥) → sizes ts ++ z ∷ more ≡ sizes vs ++ pos announced ∷ later → concat ts ++ r ≡ concat vs ++ rest → 16777216 < announced → ⊥
none_over [] z more r [] announced later rest short not_long none are joined much = not_long (announced, cc, much)
none_over [] z more r (v ∷ vs) announced later rest short not_long none are joined much = let e : z ≡ pos (length v) = cc in none (length v) e (front_there r v (concat vs) rest joined)
none_over (t ∷ ts) z more r [] announced later rest short not_long none are joined much = let size : length t ≡ announced = cc in short.0 (omega (arith, size, much))
none_over (t ∷ ts) z more r (v ∷ vs) announced later rest short not_long none are joined much =
    let size : length t ≡ length v = cc in
    let others : sizes ts ++ z ∷ more ≡ sizes vs ++ pos announced ∷ later = cc in
    none_over ts z more r vs announced later rest short.1 not_long none others (rest_same t v (concat ts) (concat vs) r rest size joined) much

-- all are there, and none is long
pub none_long_over : (ts vs : List (List ℕ)) (announced : ℕ) (later : List ℤ) → NoneLong ts → sizes ts ≡ sizes vs ++ pos announced ∷ later → 16777216 < announced → ⊥
none_long_over [] [] announced later short are much = cc
none_long_over [] (v ∷ vs) announced later short are much = cc
none_long_over (t ∷ ts) [] announced later short are much = let size : length t ≡ announced = cc in short.0 (omega (arith, size, much))
none_long_over (t ∷ ts) (v ∷ vs) announced later short are much = let others : sizes ts ≡ sizes vs ++ pos announced ∷ later = cc in none_long_over ts vs announced later short.1 others much

-- the values of the first i lengths are cut, up to `at`
pub record IsCutting (lengths : List ℤ) (text : List ℕ) (values : List ValueTree) (at i : ℕ) : Type 0 where
  pub texts : List (List ℕ)
  pub done : take i lengths ≡ sizes texts
  pub joined : text ≡ concat texts ++ drop at text
  pub are : values ≡ map bytes texts
  pub ends : at ≡ length (concat texts)
  pub short : NoneLong texts

pub cutting_begins : (lengths : List ℤ) (text : List ℕ) → IsCutting lengths text [] 0 0
cutting_begins lengths text = record { texts = []; done = refl; joined = refl; are = refl; ends = refl; short = tt }

pub cutting_goes_on : (lengths : List ℤ) (text here : List ℕ) (values new : List ValueTree) (at i size : ℕ) (z : ℤ) → i < length lengths → z ≡ get_or lengths i (pos 0) → z ≡ pos size → size ≤ length (drop at text)
    → (IsLong z → ⊥) → here ≡ take size (drop at text) → new ≡ values ++ bytes here ∷ [] → IsCutting lengths text values at i → IsCutting lengths text new (at + size) (i + 1)
cutting_goes_on lengths text here values new at i size z more announced is room not_long cut put p =
    let count : length here ≡ size = ap length cut ∙ length-take-le size (drop at text) room in
    let size_is : get_or lengths i (pos 0) ≡ pos (length here) = sym announced ∙ is ∙ ap pos (sym count) in
    let split : drop at text ≡ here ++ drop (at + size) text = sym (take-append-drop size (drop at text)) ∙ ap (λ (t : List ℕ). t ++ drop size (drop at text)) (sym cut) ∙ ap (λ (t : List ℕ). here ++ t) (drop-drop size at text) in
    record {
      texts = p.texts ++ here ∷ [];
      done = take_more lengths i (pos 0) more ∙ ap (λ (t : List ℤ). t ++ get_or lengths i (pos 0) ∷ []) p.done ∙ ap (λ (y : ℤ). sizes p.texts ++ y ∷ []) size_is ∙ sym (map-append (λ value. pos (length value)) p.texts (here ∷ []));
      joined = p.joined ∙ ap (λ (t : List ℕ). concat p.texts ++ t) split ∙ sym (append_assoc (concat p.texts) here (drop (at + size) text)) ∙ ap (λ (t : List ℕ). t ++ drop (at + size) text) (sym (concat_push p.texts here));
      are = put ∙ ap (λ (t : List ValueTree). t ++ bytes here ∷ []) p.are ∙ sym (map-append bytes p.texts (here ∷ []));
      ends = omega (arith, p.ends, count, ap length (concat_push p.texts here), length-append (concat p.texts) here);
      short = none_long_push p.texts here p.short (λ much. not_long (size, is, omega (arith, count, much)));
    }

parts : (lengths : List ℤ) (i : ℕ) → i < length lengths → lengths ≡ take i lengths ++ get_or lengths i (pos 0) ∷ drop (i + 1) lengths
parts lengths i more = sym (take-append-drop i lengths) ∙ ap (λ (t : List ℤ). take i lengths ++ t) (drop_more lengths i (pos 0) more)

-- the next value is not there
pub cutting_fails : (lengths : List ℤ) (text : List ℕ) (values : List ValueTree) (at i : ℕ) (z : ℤ) → i < length lengths → z ≡ get_or lengths i (pos 0)
    → ((size : ℕ) → z ≡ pos size → size ≤ length (drop at text) → ⊥) → IsCutting lengths text values at i → NoneAreCut lengths text
cutting_fails lengths text values at i z more announced none p = λ vs rest are joined.
    let whole : sizes p.texts ++ z ∷ drop (i + 1) lengths ≡ sizes vs = ap (λ (t : List ℤ). t ++ z ∷ drop (i + 1) lengths) (sym p.done) ∙ ap (λ (y : ℤ). take i lengths ++ y ∷ drop (i + 1) lengths) announced ∙ sym (parts lengths i more) ∙ are in
    none_cut p.texts z (drop (i + 1) lengths) (drop at text) vs rest none whole (sym p.joined ∙ joined)

-- the next value is too long
pub cutting_long : (lengths : List ℤ) (text : List ℕ) (values : List ValueTree) (at i : ℕ) (z : ℤ) → i < length lengths → z ≡ get_or lengths i (pos 0) → IsLong z → IsCutting lengths text values at i → IsCutLong lengths text
cutting_long lengths text values at i z more announced long p = record {
  before = p.texts;
  announced = long.0;
  later = drop (i + 1) lengths;
  rest = drop at text;
  are = parts lengths i more ∙ ap (λ (t : List ℤ). t ++ get_or lengths i (pos 0) ∷ drop (i + 1) lengths) p.done ∙ ap (λ (y : ℤ). sizes p.texts ++ y ∷ drop (i + 1) lengths) (sym announced ∙ long.1);
  joined = p.joined;
  much = long.2;
}

pub cutting_not_over : (lengths : List ℤ) (text : List ℕ) (values : List ValueTree) (at i : ℕ) (z : ℤ) → i < length lengths → z ≡ get_or lengths i (pos 0) → (IsLong z → ⊥)
    → ((size : ℕ) → z ≡ pos size → size ≤ length (drop at text) → ⊥) → IsCutting lengths text values at i → IsCutLong lengths text → ⊥
cutting_not_over lengths text values at i z more announced not_long none p q =
    let whole : sizes p.texts ++ z ∷ drop (i + 1) lengths ≡ sizes q.before ++ pos q.announced ∷ q.later = ap (λ (t : List ℤ). t ++ z ∷ drop (i + 1) lengths) (sym p.done) ∙ ap (λ (y : ℤ). take i lengths ++ y ∷ drop (i + 1) lengths) announced ∙ sym (parts lengths i more) ∙ q.are in
    none_over p.texts z (drop (i + 1) lengths) (drop at text) q.before q.announced q.later q.rest p.short not_long none whole (sym p.joined ∙ q.joined) q.much

pub cutting_ends : (lengths : List ℤ) (text : List ℕ) (values : List ValueTree) (at i : ℕ) → length lengths ≤ i → IsCutting lengths text values at i → AreCut lengths text values at
cutting_ends lengths text values at i all p = record { texts = p.texts; rest = drop at text; lengths_are = sym (take_all i lengths all) ∙ p.done; joined = p.joined; are = p.are; ends = p.ends }

pub cutting_ends_short : (lengths : List ℤ) (text : List ℕ) (values : List ValueTree) (at i : ℕ) → length lengths ≤ i → IsCutting lengths text values at i → IsCutLong lengths text → ⊥
cutting_ends_short lengths text values at i all p q = none_long_over p.texts q.before q.announced q.later p.short (sym p.done ∙ take_all i lengths all ∙ q.are) q.much

-- what Limit says of a part, it says of the whole
pub turn_limit : (Part Whole : Type 0) (e : Refusal) → (Part → Whole) → (IsFault e → (Part → ⊥) → Whole → ⊥) → IsLimitJustWhere Part e → IsLimitJustWhere Whole e
turn_limit Part Whole Limit over none p = over p
turn_limit Part Whole Memory over none p = tt
turn_limit Part Whole e over none p = none tt p

-- ---- after the lengths

pub lengths_stand : (text joined : List ℕ) (n at used : ℕ) (lengths : List ℤ) (values : List ValueTree) → IsDelta w32 text n lengths at → joined ≡ drop at text → AreCut lengths joined values used → StandForBytes (IsByteLengths text n) values (at + used)
lengths_stand text joined n at used lengths values stand is cut = record {
  texts = cut.texts;
  stand = record { at = at; rest = cut.rest; lengths = subst (λ (zs : List ℤ). IsDelta w32 text n zs at) cut.lengths_are stand; joined = sym is ∙ cut.joined; ends = ap (λ (k : ℕ). at + k) cut.ends };
  are = cut.are;
}

pub lengths_none : (text joined : List ℕ) (n at : ℕ) (lengths : List ℤ) → IsDelta w32 text n lengths at → joined ≡ drop at text → NoneAreCut lengths joined → (values : List (List ℕ)) (used : ℕ) → IsByteLengths text n values used → ⊥
lengths_none text joined n at lengths stand is none values used p =
    let o = one_delta w32 n text lengths (sizes values) at p.at stand p.lengths in
    none values p.rest o.0 (is ∙ ap (λ (k : ℕ). drop k text) o.1 ∙ p.joined)

pub lengths_over : (text joined : List ℕ) (n at : ℕ) (lengths : List ℤ) → IsDelta w32 text n lengths at → joined ≡ drop at text → IsCutLong lengths joined → IsLengthsOver text n
lengths_over text joined n at lengths stand is over = record { lengths = lengths; at = at; stand = stand; over = subst (λ (t : List ℕ). IsCutLong lengths t) is over }

pub lengths_not_over : (text joined : List ℕ) (n at : ℕ) (lengths : List ℤ) → IsDelta w32 text n lengths at → joined ≡ drop at text → (IsCutLong lengths joined → ⊥) → IsLengthsOver text n → ⊥
lengths_not_over text joined n at lengths stand is none p =
    let o = one_delta w32 n text lengths p.lengths at p.at stand p.stand in
    none (subst (λ (zs : List ℤ). IsCutLong zs joined) (sym o.0) (subst (λ (t : List ℕ). IsCutLong p.lengths t) (ap (λ (k : ℕ). drop k text) (sym o.1) ∙ sym is) p.over))

-- a refusal that is no limit
not_limit : (Limit ≡ Truncated) ⊎ ((Limit ≡ Thrift) ⊎ (Limit ≡ Value)) → ⊥
not_limit (inl e) = cc
not_limit (inr (inl e)) = cc
not_limit (inr (inr e)) = cc

pub faults_only : (Over : Type 0) (e : Refusal) → HasCause (λ e. (e ≡ Truncated) ⊎ ((e ≡ Thrift) ⊎ (e ≡ Value))) e → (IsFault e → Over → ⊥) → IsLimitJustWhere Over e
faults_only Over Limit cause none = absurd (not_limit cause)
faults_only Over Memory cause none = tt
faults_only Over e cause none = none tt
