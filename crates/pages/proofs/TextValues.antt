-- Texts in PLAIN, each checked as its length is read.
use Rattle.std.proofs.Common.{◌≡◌, ℕ, ◌+◌, ◌-◌, ◌<◌, List, [], ◌∷◌, ◌++◌, length, drop, take, refl, sym, ap, subst, ◌∙◌, arith}
use Rattle.std.specs.Prelude.{true, false, ◌↔◌, All, IsTrue, None}
use Rattle.std.specs.List.{AllByRecursion}
use Rattle.std.proofs.lemmas.List.Elements.{recursion_from_All}
use Rattle.std.proofs.lemmas.List.{length-append}
use Rattle.bits.specs.Codec.{IsFunctional, NothingStands, InTurn, AreInTurn}
use Rattle.bits.proofs.Turns.{Turning, turning_goes_on, turning_none, turning_ends, turn_push}
use Rattle.std.specs.Str.{is_utf8}
use Rattle.schema.specs.Annotations.{LeafType, Annotation, is_text}
use Rattle.schema.specs.Fits.{fits_kind, fits_leaf}
use Rattle.schema.specs.Values.{ValueTree, bytes}
use Rattle.byteorder.specs.Endian.{little_number}
use Rattle.plain.specs.ValuesFrom.{value_at, size_at}
use Rattle.schema.specs.declared.value.Kind.{Kind}
use Rattle.schema.specs.declared.value.Kind.TheVariants.{Boolean, Int32, Int64, ByteArray, FixedLenByteArray}
use Rattle.plain.specs.Plain.{IsSpelled, AnnouncesTooMuch, IsReadOver, IsOfKind, IsPlain}
use Rattle.plain.proofs.Spelled.{one_spelled}
use Rattle.plain.proofs.Turned.{over_more}
use Rattle.pages.specs.declared.encoding.Encoding.TheVariants.{Plain}
use Rattle.pages.specs.inner.Reading.{AllFit, StandInNoChunk}

-- a byte array that is a value of the type
abbrev pub IsText : LeafType → List ℕ → ValueTree → ℕ → Type 0
IsText t body v used = IsSpelled ByteArray body v used × IsTrue (fits_leaf t v)

one_text : (t : LeafType) → IsFunctional (IsText t)
one_text t = λ body v w used taken p q. one_spelled ByteArray body v w used taken p.0 q.0

-- only byte arrays are texts
pub text_kind : (k : Kind) (a : Annotation) → is_text k a ≡ true → k ≡ ByteArray
text_kind ByteArray a is = refl
text_kind Boolean a is = cc
text_kind Int32 a is = cc
text_kind Int64 a is = cc
text_kind (FixedLenByteArray n) a is = cc

-- `done` of n texts are checked up to `at`
pub record IsCheckedTo (t : LeafType) (n : ℕ) (body : List ℕ) (done at : ℕ) : Type 0 where
  pub front : List ValueTree
  pub size : length front ≡ done
  pub so_far : Turning (IsText t) n body done at front
  pub stand : InTurn (IsSpelled ByteArray) body front at
  pub below : IsReadOver ByteArray body done → ⊥

pub begins : (t : LeafType) (n : ℕ) (body : List ℕ) → IsCheckedTo t n body 0 0
begins t n body = record {
  front = [];
  size = refl;
  so_far = record {
    forward = λ tail v p. subst (λ (k : ℕ). AreInTurn (IsText t) n body tail k) (let e : v ≡ 0 + v = omega arith in e) (let few = p.0 in (omega (arith, few), p.1));
    backward = λ whole v p. (whole, (v, ((let few = p.0 in omega (arith, few)), p.1), refl, omega arith));
  };
  stand = refl;
  below = λ over. let few = over.few in omega (arith, few);
}

pub goes_on : (t : LeafType) (n : ℕ) (body : List ℕ) (done at : ℕ) (v : ValueTree) (used : ℕ) → done < n → IsSpelled ByteArray (drop at body) v used → IsTrue (fits_leaf t v) → (AnnouncesTooMuch ByteArray (drop at body) → ⊥)
    → IsCheckedTo t n body done at → IsCheckedTo t n body (done + 1) (at + used)
goes_on t n body done at v used more here fit short so = record {
  front = so.front ++ v ∷ [];
  size = let size = so.size in omega (arith, size, length-append so.front (v ∷ []));
  so_far = turning_goes_on (IsText t) n body done at so.front v used (one_text t) more (here, fit) so.so_far;
  stand = turn_push (IsSpelled ByteArray) so.front v body at used so.stand here;
  below = over_more ByteArray done body so.front at so.size so.stand so.below short;
}

-- ---- values in turn that fit

turn_of : (t : LeafType) (vs : List ValueTree) (body : List ℕ) (used : ℕ) → InTurn (IsSpelled ByteArray) body vs used → AllFit t vs → InTurn (IsText t) body vs used
turn_of t [] body used p fit = p
turn_of t (v ∷ vs) body used p fit = (p.0, p.1, (p.2, fit.0), turn_of t vs (drop p.0 body) p.1 p.3 fit.1, p.4)

fit_turn : (t : LeafType) (vs : List ValueTree) (body : List ℕ) (used : ℕ) → InTurn (IsText t) body vs used → AllFit t vs
fit_turn t [] body used p = tt
fit_turn t (v ∷ vs) body used p = (p.2.1, fit_turn t vs (drop p.0 body) p.1 p.3)

spelled_turn : (t : LeafType) (vs : List ValueTree) (body : List ℕ) (used : ℕ) → InTurn (IsText t) body vs used → InTurn (IsSpelled ByteArray) body vs used
spelled_turn t [] body used p = p
spelled_turn t (v ∷ vs) body used p = (p.0, p.1, p.2.0, spelled_turn t vs (drop p.0 body) p.1 p.3, p.4)

-- the leaf's values of such a text stand in turn
turn_of_values : (t : LeafType) (n : ℕ) (body : List ℕ) → t.kind ≡ ByteArray → NothingStands (AreInTurn (IsText t) n body) → StandInNoChunk t Plain body n
turn_of_values t n body kind nothing d ws p =
    let stand : IsPlain ByteArray (length ws) body ws p.stand.0 = subst (λ (k : Kind). IsPlain k (length ws) body ws p.stand.0) kind p.stand.1 in
    nothing ws p.stand.0 (p.count, turn_of t ws body p.stand.0 stand.1 p.fit)

-- ---- the end of the loop

pub nothing_stands : (t : LeafType) (n : ℕ) (body : List ℕ) (done at : ℕ) → t.kind ≡ ByteArray → done < n → IsCheckedTo t n body done at → NothingStands (IsText t (drop at body)) → StandInNoChunk t Plain body n
nothing_stands t n body done at kind more so nothing = turn_of_values t n body kind (turning_none (IsText t) n body done at so.front more nothing so.so_far)

-- no byte array stands there
pub no_array : (t : LeafType) (body : List ℕ) → NothingStands (IsSpelled ByteArray body) → NothingStands (IsText t body)
no_array t body nothing = λ v used p. nothing v used p.0

-- the one that stands there is no value of the type
pub no_text : (t : LeafType) (body : List ℕ) (v : ValueTree) (used : ℕ) → IsSpelled ByteArray body v used → (IsTrue (fits_leaf t v) → ⊥) → NothingStands (IsText t body)
no_text t body v used here unfit = λ w taken p. unfit (subst (λ (x : ValueTree). IsTrue (fits_leaf t x)) (one_spelled ByteArray body w v taken used p.0 here).0 p.1)

pub over_here : (t : LeafType) (n : ℕ) (body : List ℕ) (done at : ℕ) → done < n → IsCheckedTo t n body done at → AnnouncesTooMuch ByteArray (drop at body) → IsReadOver ByteArray body n
over_here t n body done at more so much = let size = so.size in record { before = so.front; at = at; few = omega (arith, size, more); stand = so.stand; much = much }

pub all_stand : (t : LeafType) (n : ℕ) (body : List ℕ) (at : ℕ) → t.kind ≡ ByteArray → IsCheckedTo t n body n at → StandInNoChunk t Plain body n → ⊥
all_stand t n body at kind so nothing =
    let all = turning_ends (IsText t) n body at so.front so.so_far in
    let stand : IsPlain ByteArray (length so.front) body so.front at = (refl, spelled_turn t so.front body at all.1) in
    nothing None so.front (record { count = all.0; stand = (at, subst (λ (k : Kind). IsPlain k (length so.front) body so.front at) (sym kind) stand); fit = fit_turn t so.front body at all.1 })

-- the text whose length was read
pub the_text : (rest text : List ℕ) (used : ℕ) → used ≡ size_at ByteArray 0 rest → (body : List ℕ) → text ≡ take (used - 4) body → body ≡ drop 4 rest → IsSpelled ByteArray rest (value_at ByteArray 0 rest) used → IsSpelled ByteArray rest (bytes text) used
the_text rest text used size body front back here =
    let count : used - 4 ≡ little_number 4 rest = omega (arith, size) in
    let same : text ≡ take (little_number 4 rest) (drop 4 rest) = front ∙ ap (λ (k : ℕ). take k body) count ∙ ap (λ (b : List ℕ). take (little_number 4 rest) b) back in
    subst (λ (s : List ℕ). IsSpelled ByteArray rest (bytes s) used) (sym same) here

-- it is a value of a type of texts exactly when it is UTF-8
kind_of_text : (t : LeafType) (body text : List ℕ) (used : ℕ) → t.kind ≡ ByteArray → ((kind : Kind) (v : ValueTree) → IsOfKind kind v ↔ IsTrue (fits_kind kind v)) → IsSpelled ByteArray body (bytes text) used → fits_kind t.kind (bytes text) ≡ true
kind_of_text t body text used kind law here = subst (λ (k : Kind). fits_kind k (bytes text) ≡ true) (sym kind) ((law ByteArray (bytes text)).0 here.has.0)

pub text_fits : (t : LeafType) (body text : List ℕ) (used : ℕ) → is_text t.kind t.annotation ≡ true → ((kind : Kind) (v : ValueTree) → IsOfKind kind v ↔ IsTrue (fits_kind kind v)) → IsSpelled ByteArray body (bytes text) used → is_utf8 text ≡ true
    → IsTrue (fits_leaf t (bytes text))
text_fits t body text used of_text law here utf8 =
    let kind = kind_of_text t body text used (text_kind t.kind t.annotation of_text) law here in
    rw (kind, of_text) utf8

pub text_unfit : (t : LeafType) (body text : List ℕ) (used : ℕ) → is_text t.kind t.annotation ≡ true → ((kind : Kind) (v : ValueTree) → IsOfKind kind v ↔ IsTrue (fits_kind kind v)) → IsSpelled ByteArray body (bytes text) used → is_utf8 text ≡ false
    → IsTrue (fits_leaf t (bytes text)) → ⊥
text_unfit t body text used of_text law here utf8 fit =
    let kind = kind_of_text t body text used (text_kind t.kind t.annotation of_text) law here in
    let both : is_utf8 text ≡ true = rw (kind, of_text) at fit in
    cc

-- ---- values that are no texts

no_text_fits : (t : LeafType) (v : ValueTree) → is_text t.kind t.annotation ≡ false → IsTrue (fits_kind t.kind v) → IsTrue (fits_leaf t v)
no_text_fits t v other fit = let h : fits_kind t.kind v ≡ true = fit in rw (h, other) refl

all_of_kind : (t : LeafType) → is_text t.kind t.annotation ≡ false → ((kind : Kind) (v : ValueTree) → IsOfKind kind v ↔ IsTrue (fits_kind kind v)) → (vs : List ValueTree) → AllByRecursion (IsOfKind t.kind) vs → AllFit t vs
all_of_kind t other law [] all = tt
all_of_kind t other law (v ∷ vs) all = (no_text_fits t v other ((law t.kind v).0 all.0), all_of_kind t other law vs all.1)

pub plain_stands : (t : LeafType) (n : ℕ) (body : List ℕ) (vs : List ValueTree) (used : ℕ) → is_text t.kind t.annotation ≡ false → ((kind : Kind) (v : ValueTree) → IsOfKind kind v ↔ IsTrue (fits_kind kind v))
    → All (IsOfKind t.kind) vs → length vs ≡ n → IsPlain t.kind n body vs used → StandInNoChunk t Plain body n → ⊥
plain_stands t n body vs used other law all size stand nothing =
    nothing None vs (record { count = size; stand = (used, subst (λ (k : ℕ). IsPlain t.kind k body vs used) (sym size) stand); fit = all_of_kind t other law vs (recursion_from_All (IsOfKind t.kind) vs all) })
