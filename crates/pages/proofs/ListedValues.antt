-- Values by each encoding, as values of a leaf.
use Rattle.std.proofs.Common.{◌≡◌, ℕ, zero, suc, cond, ◌<◌, Bool, true, false, List, [], ◌∷◌, length, map, Option, Some, refl, sym, ap, subst, ◌∙◌, arith, inl, inr}
use Rattle.std.specs.Prelude.{ℤ, All, IsTrue, ◌↔◌, ◌&&◌, ◌==◌}
use Rattle.std.specs.Int.{Width, w32, w64, from_bool}
use Rattle.std.specs.List.{AllByRecursion}
use Rattle.std.proofs.lemmas.List.{length-map}
use Rattle.std.proofs.lemmas.List.Elements.{recursion_from_All}
use Rattle.bits.specs.Codec.{IsFunctional, NothingStands}
use Rattle.hybrid_rle.specs.Hybrid.{IsHybrid}
use Rattle.hybrid_rle.proofs.Hybrids.{hybrid_narrow}
use Rattle.delta.specs.Delta.{IsDelta}
use Rattle.delta.specs.ByteDeltas.{IsByteLengths, IsPrefixed as IsSharedPrefixes, StandForBytes}
use Rattle.dictionary.specs.IndexPages.{IsIndexPage, AreIndexed}
use Rattle.schema.specs.declared.value.Kind.{Kind}
use Rattle.schema.specs.declared.value.Kind.TheVariants.{Boolean, Int32, Int64, ByteArray, FixedLenByteArray}
use Rattle.schema.specs.Annotations.{LeafType, is_text, Annotation}
use Rattle.schema.specs.Fits.{fits_kind}
use Rattle.schema.specs.Values.{ValueTree, boolean, integer, bytes as byte_value}
use Rattle.plain.specs.Plain.{IsOfKind}
use Rattle.pages.specs.declared.encoding.Encoding.{Encoding}
use Rattle.pages.specs.declared.encoding.Encoding.TheVariants.{PlainDictionary, Rle, DeltaBinaryPacked, DeltaLengthByteArray, DeltaByteArray, RleDictionary}
use Rattle.pages.specs.Encodings.{IsPrefixed, AreRleBooleans, AreOfDictionary, AreDeltas, AreByLengths, AreByPrefixes, AreValues}
use Rattle.pages.specs.inner.Reading.{AllFit, HasBytes, AreLeafValues, AreSpelled, StandInAnyChunk, StandInNoChunk}
use Rattle.bits.specs.declared.refusal.Refusal.{Refusal}
use Rattle.bits.specs.Refusals.{OnFault}
use Rattle.std.specs.Prelude.{Result, Ok, Err, IfOk, ◌⊎◌}
use Rattle.std.proofs.lemmas.Bool.{and_from as both}
use Rattle.schema.specs.declared.borrowed.ValueRef.{ValueRef}
use Rattle.schema.specs.Borrowed.{value_ref_view}
use Rattle.dictionary.specs.Entries.{AreEntriesAt}
use Rattle.delta.specs.ByteDeltas.{IsPrefixesOver}
use Rattle.pages.specs.Limits.{IsValueOver}
use Rattle.pages.proofs.OneList.{one_prefix, one_byte_values}

-- the values of a leaf of this kind, by this relation of the encoding
of_kind : (d : Option (List ValueTree)) (k l : Kind) (e : Encoding) (text : List ℕ) (vs : List ValueTree) → k ≡ l → AreValues d l (Some e) text vs → AreValues d k (Some e) text vs
of_kind d k l e text vs is p = subst (λ (j : Kind). AreValues d j (Some e) text vs) (sym is) p

-- ---- byte values by their lengths

pub lengths_stand : (t : LeafType) (text : List ℕ) (n : ℕ) (vs : List ValueTree) (used : ℕ) → t.kind ≡ ByteArray → length vs ≡ n → StandForBytes (IsByteLengths text n) vs used → AllFit t vs → StandInAnyChunk t DeltaLengthByteArray text n vs
lengths_stand t text n vs used is size p fit d = record {
  count = size;
  stand = of_kind d t.kind ByteArray DeltaLengthByteArray text vs is (used, subst (λ (m : ℕ). StandForBytes (IsByteLengths text m) vs used) (sym size) p);
  fit = fit;
}

lengths_of : (d : Option (List ValueTree)) (t : LeafType) (text : List ℕ) (n : ℕ) (ws : List ValueTree) → t.kind ≡ ByteArray → AreLeafValues d t (Some DeltaLengthByteArray) text n ws → AreByLengths text ws
lengths_of d t text n ws is p = of_kind d ByteArray t.kind DeltaLengthByteArray text ws (sym is) p.stand

pub no_lengths : (t : LeafType) (text : List ℕ) (n : ℕ) → t.kind ≡ ByteArray → NothingStands (IsByteLengths text n) → StandInNoChunk t DeltaLengthByteArray text n
no_lengths t text n is nothing d ws p =
    let here = lengths_of d t text n ws is p in
    nothing here.1.texts here.0 (subst (λ (m : ℕ). IsByteLengths text m here.1.texts here.0) p.count here.1.stand)

pub other_lengths : ((m : ℕ) → IsFunctional (λ bytes. IsByteLengths bytes m)) → (t : LeafType) (text : List ℕ) (n : ℕ) (known : List ValueTree) (used : ℕ) → t.kind ≡ ByteArray → length known ≡ n → StandForBytes (IsByteLengths text n) known used
    → (AllFit t known → ⊥) → StandInNoChunk t DeltaLengthByteArray text n
other_lengths law t text n known used is size stands unfit d ws p =
    let here = lengths_of d t text n ws is p in
    let same = one_byte_values (λ m bytes. IsByteLengths bytes m) law text ws known here.0 used (p.count ∙ sym size) here.1 (subst (λ (m : ℕ). StandForBytes (IsByteLengths text m) known used) (sym size) stands) in
    unfit (subst (AllFit t) same p.fit)

-- ---- byte values by their prefixes

-- the two kinds of byte values
pub record IsOfBytes (t : LeafType) : Type 0 where
  pub from : (d : Option (List ValueTree)) (text : List ℕ) (vs : List ValueTree) → AreByPrefixes text vs → AreValues d t.kind (Some DeltaByteArray) text vs
  pub back : (d : Option (List ValueTree)) (text : List ℕ) (vs : List ValueTree) → AreValues d t.kind (Some DeltaByteArray) text vs → AreByPrefixes text vs

pub of_bytes : (t : LeafType) → HasBytes t.kind → IsOfBytes t
of_bytes t has = by t.kind refl has
  where
    by : (k : Kind) → t.kind ≡ k → HasBytes k → IsOfBytes t
    by ByteArray is has = record { from = λ d text vs p. of_kind d t.kind ByteArray DeltaByteArray text vs is p; back = λ d text vs p. of_kind d ByteArray t.kind DeltaByteArray text vs (sym is) p }
    by (FixedLenByteArray size) is has = record { from = λ d text vs p. of_kind d t.kind (FixedLenByteArray size) DeltaByteArray text vs is p; back = λ d text vs p. of_kind d (FixedLenByteArray size) t.kind DeltaByteArray text vs (sym is) p }
    by k is has = absurd has

pub over_of_bytes : (k : Kind) (text : List ℕ) (n : ℕ) → HasBytes k → IsPrefixesOver text n ↔ IsValueOver k (Some DeltaByteArray) text n
over_of_bytes ByteArray text n has = (λ p. p, λ p. p)
over_of_bytes (FixedLenByteArray size) text n has = (λ p. p, λ p. p)
over_of_bytes k text n has = absurd has

prefixed_count : (n : ℕ) (text : List ℕ) (vs : List ValueTree) (used : ℕ) → StandForBytes (IsSharedPrefixes text n) vs used → length vs ≡ n → AreByPrefixes text vs
prefixed_count n text vs used p size = (used, subst (λ (m : ℕ). StandForBytes (IsSharedPrefixes text m) vs used) (sym size) p)

pub prefixes_stand : (t : LeafType) (text : List ℕ) (n : ℕ) (texts : List (List ℕ)) (used : ℕ) → IsOfBytes t → length texts ≡ n → IsSharedPrefixes text n texts used → AllFit t (map byte_value texts) → StandInAnyChunk t DeltaByteArray text n (map byte_value texts)
prefixes_stand t text n texts used kind size p fit d =
    let many : length (map byte_value texts) ≡ n = length-map texts byte_value ∙ size in
    record { count = many; stand = kind.from d text (map byte_value texts) (prefixed_count n text (map byte_value texts) used (record { texts = texts; stand = p; are = refl }) many); fit = fit }

pub no_prefixes : (t : LeafType) (text : List ℕ) (n : ℕ) → IsOfBytes t → NothingStands (IsSharedPrefixes text n) → StandInNoChunk t DeltaByteArray text n
no_prefixes t text n kind nothing d ws p =
    let here = kind.back d text ws p.stand in
    nothing here.1.texts here.0 (subst (λ (m : ℕ). IsSharedPrefixes text m here.1.texts here.0) p.count here.1.stand)

pub other_prefixes : ((m : ℕ) → IsFunctional (λ bytes. IsSharedPrefixes bytes m)) → (t : LeafType) (text : List ℕ) (n : ℕ) (known : List (List ℕ)) (used : ℕ) → IsOfBytes t → IsSharedPrefixes text n known used
    → (AllFit t (map byte_value known) → ⊥) → StandInNoChunk t DeltaByteArray text n
other_prefixes law t text n known used kind stands unfit d ws p =
    let here = kind.back d text ws p.stand in
    let same = law n text here.1.texts known here.0 used (subst (λ (m : ℕ). IsSharedPrefixes text m here.1.texts here.0) p.count here.1.stand) stands in
    unfit (subst (AllFit t) (here.1.are ∙ ap (λ (ts : List (List ℕ)). map byte_value ts) same.0) p.fit)

-- ---- numbers

-- values of a kind that is no text's fit a leaf of it
kind_fits : (t : LeafType) (k : Kind) (vs : List ValueTree) → ((kind : Kind) (v : ValueTree) → IsOfKind kind v ↔ IsTrue (fits_kind kind v)) → t.kind ≡ k → ((a : Annotation) → is_text k a ≡ false) → AllByRecursion (IsOfKind k) vs → AllFit t vs
kind_fits t k [] law is plain all = tt
kind_fits t k (v ∷ vs) law is plain (here, all) =
    let no_text : is_text t.kind t.annotation ≡ false = ap (λ (j : Kind). is_text j t.annotation) is ∙ plain t.annotation in
    (rw no_text (both (fits_kind t.kind v) true ((law t.kind v).0 (subst (λ (j : Kind). IsOfKind j v) (sym is) here)) refl), kind_fits t k vs law is plain all)

pub deltas_stand : (t : LeafType) (k : Kind) (w : Width) (text : List ℕ) (n : ℕ) (vs : List ValueTree) (numbers : List ℤ) (used : ℕ) → ((kind : Kind) (v : ValueTree) → IsOfKind kind v ↔ IsTrue (fits_kind kind v)) → t.kind ≡ k
    → ((a : Annotation) → is_text k a ≡ false) → ((d : Option (List ValueTree)) → AreDeltas w text vs → AreValues d k (Some DeltaBinaryPacked) text vs) → vs ≡ map integer numbers → All (IsOfKind k) vs → length numbers ≡ n → IsDelta w text n numbers used
    → StandInAnyChunk t DeltaBinaryPacked text n vs
deltas_stand t k w text n vs numbers used law is plain from are kinds size p d = record {
  count = ap length are ∙ length-map numbers integer ∙ size;
  stand = of_kind d t.kind k DeltaBinaryPacked text vs is (from d (numbers, used, are, subst (λ (m : ℕ). IsDelta w text m numbers used) (sym size) p));
  fit = kind_fits t k vs law is plain (recursion_from_All (IsOfKind k) vs kinds);
}

no_deltas : (w : Width) (text : List ℕ) (n : ℕ) (ws : List ValueTree) → NothingStands (IsDelta w text n) → length ws ≡ n → AreDeltas w text ws → ⊥
no_deltas w text n ws nothing size p =
    let count : length p.0 ≡ n = sym (length-map p.0 integer) ∙ sym (ap length p.2) ∙ size in
    nothing p.0 p.1 (subst (λ (m : ℕ). IsDelta w text m p.0 p.1) count p.3)

pub no_numbers : (t : LeafType) (text : List ℕ) (n : ℕ) → t.kind ≡ Int32 → NothingStands (IsDelta w32 text n) → StandInNoChunk t DeltaBinaryPacked text n
no_numbers t text n is nothing d ws p = no_deltas w32 text n ws nothing p.count (of_kind d Int32 t.kind DeltaBinaryPacked text ws (sym is) p.stand)

pub no_long_numbers : (t : LeafType) (text : List ℕ) (n : ℕ) → t.kind ≡ Int64 → NothingStands (IsDelta w64 text n) → StandInNoChunk t DeltaBinaryPacked text n
no_long_numbers t text n is nothing d ws p = no_deltas w64 text n ws nothing p.count (of_kind d Int64 t.kind DeltaBinaryPacked text ws (sym is) p.stand)

-- ---- booleans

bits_of_bools : (xs : List ℕ) → AllByRecursion (λ x. x < 2) xs → map from_bool (map (λ x. x == 1) xs) ≡ xs
bits_of_bools [] all = refl
bits_of_bools (x ∷ xs) (here, all) = ap (λ (b : ℕ). b ∷ map from_bool (map (λ y. y == 1) xs)) (bit x here) ∙ ap (λ (ys : List ℕ). x ∷ ys) (bits_of_bools xs all)
  where
    bit : (y : ℕ) → y < 2 → from_bool (y == 1) ≡ y
    bit zero lt = refl
    bit (suc zero) lt = refl
    bit (suc (suc y)) lt = absurd (omega (arith, lt))

booleans_fit : (t : LeafType) (bs : List Bool) → t.kind ≡ Boolean → AllFit t (map boolean bs)
booleans_fit t [] is = tt
booleans_fit t (b ∷ bs) is = (subst (λ (k : Kind). (fits_kind k (boolean b) && cond (is_text k t.annotation) false true) ≡ true) (sym is) refl, booleans_fit t bs is)

map_both : (xs : List ℕ) → map (λ x. boolean (x == 1)) xs ≡ map boolean (map (λ x. x == 1) xs)
map_both [] = refl
map_both (x ∷ xs) = ap (λ (vs : List ValueTree). boolean (x == 1) ∷ vs) (map_both xs)

pub booleans_stand : (t : LeafType) (text inside rest numbers : List ℕ) (n used : ℕ) (vs : List ValueTree) → t.kind ≡ Boolean → IsPrefixed text inside rest → IsHybrid 1 inside n numbers used → length numbers ≡ n
    → vs ≡ map (λ x. boolean (x == 1)) numbers → StandInAnyChunk t Rle text n vs
booleans_stand t text inside rest numbers n used vs is prefixed packed size are d =
    let bools = map (λ x. x == 1) numbers in
    let many : length bools ≡ n = length-map numbers (λ x. x == 1) ∙ size in
    let whole : vs ≡ map boolean bools = are ∙ map_both numbers in
    let bits : map from_bool bools ≡ numbers = bits_of_bools numbers (recursion_from_All (λ x. x < 2) numbers (hybrid_narrow 1 n used inside numbers packed)) in
    let stand : AreRleBooleans text vs = record {
      bools = bools;
      inside = inside;
      rest = rest;
      used = used;
      are = whole;
      prefixed = prefixed;
      packed = subst (λ (m : ℕ). IsHybrid 1 inside m (map from_bool bools) used) (sym many) (subst (λ (xs : List ℕ). IsHybrid 1 inside n xs used) (sym bits) packed);
    } in
    record { count = ap length whole ∙ length-map bools boolean ∙ many; stand = of_kind d t.kind Boolean Rle text vs is stand; fit = subst (AllFit t) (sym whole) (booleans_fit t bools is) }

pub no_booleans : (t : LeafType) (text inside rest : List ℕ) (n : ℕ) → t.kind ≡ Boolean → IsPrefixed text inside rest → NothingStands (IsHybrid 1 inside n) → StandInNoChunk t Rle text n
no_booleans t text inside rest n is known nothing d ws p =
    let here : AreRleBooleans text ws = of_kind d Boolean t.kind Rle text ws (sym is) p.stand in
    let same = (one_prefix text here.inside inside here.rest rest here.prefixed known).0 in
    let many : length here.bools ≡ n = sym (length-map here.bools boolean) ∙ sym (ap length here.are) ∙ p.count in
    nothing (map from_bool here.bools) here.used (subst (λ (m : ℕ). IsHybrid 1 inside m (map from_bool here.bools) here.used) many (subst (λ (b : List ℕ). IsHybrid 1 b (length here.bools) (map from_bool here.bools) here.used) same here.packed))

-- ---- indexes

-- n values of a dictionary that fit the leaf
pub record AreLeafIndexed (entries : List ValueTree) (t : LeafType) (text : List ℕ) (n : ℕ) (ws : List ValueTree) : Type 0 where
  pub used : ℕ
  pub stand : AreIndexed entries text n ws used
  pub fit : AllFit t ws

pub by_plain_dictionary : (d : Option (List ValueTree)) (entries : List ValueTree) (t : LeafType) (text : List ℕ) (n : ℕ) (ws : List ValueTree) → d ≡ Some entries → AreLeafValues d t (Some PlainDictionary) text n ws → AreLeafIndexed entries t text n ws
by_plain_dictionary d entries t text n ws is p =
    let here : AreOfDictionary entries text ws = subst (λ (o : Option (List ValueTree)). AreValues o t.kind (Some PlainDictionary) text ws) is p.stand in
    record { used = here.0; stand = subst (λ (m : ℕ). AreIndexed entries text m ws here.0) p.count here.1; fit = p.fit }

pub by_rle_dictionary : (d : Option (List ValueTree)) (entries : List ValueTree) (t : LeafType) (text : List ℕ) (n : ℕ) (ws : List ValueTree) → d ≡ Some entries → AreLeafValues d t (Some RleDictionary) text n ws → AreLeafIndexed entries t text n ws
by_rle_dictionary d entries t text n ws is p =
    let here : AreOfDictionary entries text ws = subst (λ (o : Option (List ValueTree)). AreValues o t.kind (Some RleDictionary) text ws) is p.stand in
    record { used = here.0; stand = subst (λ (m : ℕ). AreIndexed entries text m ws here.0) p.count here.1; fit = p.fit }

pub no_indexes : (es : List ValueRef) (t : LeafType) (text : List ℕ) (n : ℕ) (ws : List ValueTree) → NothingStands (IsIndexPage (length es) text n) → AreLeafIndexed (map value_ref_view es) t text n ws → ⊥
no_indexes es t text n ws nothing p = nothing p.stand.indexes p.used (subst (λ (m : ℕ). IsIndexPage m text n p.stand.indexes p.used) (length-map es value_ref_view) p.stand.stand)

pub other_indexes : ((size n : ℕ) → IsFunctional (λ bytes. IsIndexPage size bytes n)) → (es : List ValueRef) (t : LeafType) (text : List ℕ) (n : ℕ) (known : List ℕ) (used : ℕ) (ws : List ValueTree) → IsIndexPage (length es) text n known used
    → ((vs : List ValueTree) → AreEntriesAt (map value_ref_view es) known vs → AllFit t vs → ⊥) → AreLeafIndexed (map value_ref_view es) t text n ws → ⊥
other_indexes law es t text n known used ws stands nothing p =
    let here : IsIndexPage (length es) text n p.stand.indexes p.used = subst (λ (m : ℕ). IsIndexPage m text n p.stand.indexes p.used) (length-map es value_ref_view) p.stand.stand in
    let same = (law (length es) n text p.stand.indexes known p.used used here stands).0 in
    nothing ws (subst (λ (is : List ℕ). AreEntriesAt (map value_ref_view es) is ws) same p.stand.are) p.fit

-- ---- results

pub on_fault : {X P Q : Type 0} (r : Result X Refusal) → (P → Q) → OnFault r P → OnFault r Q
on_fault (Ok x) f p = tt
on_fault (Err e) f p = λ fault. f (p fault)

pub if_ok : {X : Type 0} (P Q : X → Type 0) (r : Result X Refusal) → ((x : X) → P x → Q x) → IfOk r P → IfOk r Q
if_ok P Q (Ok x) f p = f x p
if_ok P Q (Err e) f p = tt

pub if_ok_both : {X : Type 0} (P Q R : X → Type 0) (r : Result X Refusal) → ((x : X) → P x → Q x → R x) → IfOk r P → IfOk r Q → IfOk r R
if_ok_both P Q R (Ok x) f p q = f x p q
if_ok_both P Q R (Err e) f p q = tt

pub in_any_chunk : {X : Type 0} (r : Result X Refusal) (view : X → List ValueTree) (d : Option (List ValueTree)) (t : LeafType) (e f : Encoding) (text : List ℕ) (n : ℕ) → e ≡ f
    → IfOk r (λ x. StandInAnyChunk t f text n (view x)) → IfOk r (λ x. AreLeafValues d t (Some e) text n (view x))
in_any_chunk r view d t e f text n is = if_ok (λ x. StandInAnyChunk t f text n (view x)) (λ x. AreLeafValues d t (Some e) text n (view x)) r (λ x p. subst (λ (g : Encoding). AreLeafValues d t (Some g) text n (view x)) (sym is) (p d))

pub in_no_chunk : {X : Type 0} (r : Result X Refusal) (d : Option (List ValueTree)) (t : LeafType) (e f : Encoding) (text : List ℕ) (n : ℕ) → e ≡ f → OnFault r (StandInNoChunk t f text n)
    → OnFault r ((ws : List ValueTree) → AreLeafValues d t (Some e) text n ws → ⊥)
in_no_chunk r d t e f text n is = on_fault r (λ nothing ws p. nothing d ws (subst (λ (g : Encoding). AreLeafValues d t (Some g) text n ws) is p))

-- ---- where a value is there, the text is read

pub some_spelled : (d : Option (List ValueTree)) (t : LeafType) (e : Option Encoding) (f : Encoding) (text : List ℕ) (n : ℕ) (ws : List ValueTree) → e ≡ Some f → AreLeafValues d t (Some f) text n ws → AreSpelled d t e text n ws
some_spelled d t e f text n ws is p = record { count = p.count; spelled = inr (subst (λ (o : Option Encoding). AreValues d t.kind o text ws) (sym is) p.stand); fit = p.fit }

pub spelled_some : (d : Option (List ValueTree)) (t : LeafType) (e : Option Encoding) (f : Encoding) (text : List ℕ) (n : ℕ) (ws : List ValueTree) → e ≡ Some f → 0 < n → AreSpelled d t e text n ws → AreLeafValues d t (Some f) text n ws
spelled_some d t e f text n ws is some p = record { count = p.count; stand = by p.spelled; fit = p.fit }
  where
    by : (ws ≡ []) ⊎ AreValues d t.kind e text ws → AreValues d t.kind (Some f) text ws
    by (inl none) = absurd (let size = p.count in omega (arith, some, size, ap length none))
    by (inr stand) = subst (λ (o : Option Encoding). AreValues d t.kind o text ws) is stand

pub shared_spelled : {X : Type 0} (r : Result X Refusal) (view : X → List ValueTree) (d : Option (List ValueTree)) (t : LeafType) (e : Option Encoding) (f : Encoding) (text : List ℕ) (n : ℕ) → e ≡ Some f
    → IfOk r (λ x. StandInAnyChunk t f text n (view x)) → IfOk r (λ x. AreSpelled d t e text n (view x))
shared_spelled r view d t e f text n is = if_ok (λ x. StandInAnyChunk t f text n (view x)) (λ x. AreSpelled d t e text n (view x)) r (λ x p. some_spelled d t e f text n (view x) is (p d))

pub none_spelled : {X : Type 0} (r : Result X Refusal) (d : Option (List ValueTree)) (t : LeafType) (e : Option Encoding) (f : Encoding) (text : List ℕ) (n : ℕ) → e ≡ Some f → 0 < n → OnFault r (StandInNoChunk t f text n)
    → OnFault r ((ws : List ValueTree) → AreSpelled d t e text n ws → ⊥)
none_spelled r d t e f text n is some = on_fault r (λ nothing ws p. nothing d ws (spelled_some d t e f text n ws is some p))
