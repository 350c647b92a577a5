-- Values that are split: each is in PLAIN in the text that their bytes are joined to.
use Rattle.std.proofs.Common.{Fits, w8, ◌≡◌, ℕ, zero, suc, ◌+◌, ◌*◌, ◌/◌, ◌%◌, ◌<◌, List, [], ◌∷◌, ◌++◌, length, get_or, drop, refl, sym, ap, subst, ◌∙◌, arith, slice_index, inl, inr}
use Rattle.std.specs.Prelude.{All}
use Rattle.std.proofs.Math.Facts.{Fits-of_lt}
use Rattle.std.proofs.Math.Nat.{div-add-mod, mod-lt, div-lt_iff_lt-mul}
use Rattle.std.proofs.lemmas.Bool.{cases_lt}
use Rattle.std.proofs.lemmas.List.{length-append, append-nil, get_or_past, get_or-drop, get_or_append_left, ext_get_or}
use Rattle.std.proofs.lemmas.List.Elements.{All-get_or}
use Rattle.std.proofs.lemmas.Nat.{mul-add-lt}
use Rattle.bits.specs.declared.refusal.Refusal.{Refusal}
use Rattle.bits.specs.declared.refusal.Refusal.TheVariants.{Limit, Memory}
use Rattle.bits.specs.Refusals.{IsLimitJustWhere}
use Rattle.bits.specs.Codec.{NothingStands, IsFunctional, InTurn, AreInTurn, Appends}
use Rattle.schema.specs.declared.value.Kind.{Kind}
use Rattle.schema.specs.declared.value.Kind.TheVariants.{Boolean, Int32, Int64, ByteArray, FixedLenByteArray}
use Rattle.schema.specs.Values.{ValueTree, null}
use Rattle.plain.specs.Plain.{IsOfKind, HasSpelling, spelling, IsSpelled, IsPlain, IsReadOver, plain_size}
use Rattle.plain.specs.Split.{AreJoined, AreStreams, CanBeSplit, IsSplit, IsSizeOver, IsSplitReadOver}
use Rattle.plain.specs.inner.ByColumns.{AppendsColumns}
use Rattle.plain.specs.inner.Sized.{HasSize}
use Rattle.plain.specs.ValuesFrom.{values_from}
use Rattle.plain.proofs.Spelled.{spelling_size, prefix_free, are_bytes}
use Rattle.plain.proofs.Places.{count_from, sized_in_turn}
use Rattle.plain.proofs.Lists.{plain_of_kind}

-- ---- the types

pub split_of : (kind : Kind) (k n : ℕ) (body : List ℕ) (values : List ValueTree) (used : ℕ) → HasSize kind k → AreStreams kind k n body values used → IsSplit kind n body values used
split_of Boolean k n body values used is p = absurd is
split_of Int32 k n body values used is p = subst (λ (m : ℕ). AreStreams Int32 m n body values used) is p
split_of Int64 k n body values used is p = subst (λ (m : ℕ). AreStreams Int64 m n body values used) is p
split_of ByteArray k n body values used is p = absurd is
split_of (FixedLenByteArray size) k n body values used is p = subst (λ (m : ℕ). AreStreams (FixedLenByteArray size) m n body values used) is p

-- the size of a type that is split
pub streams_of : (kind : Kind) (n : ℕ) (body : List ℕ) (values : List ValueTree) (used : ℕ) → IsSplit kind n body values used → (k : ℕ) × HasSize kind k × AreStreams kind k n body values used
streams_of Boolean n body values used p = absurd p
streams_of Int32 n body values used p = (4, refl, p)
streams_of Int64 n body values used p = (8, refl, p)
streams_of ByteArray n body values used p = absurd p
streams_of (FixedLenByteArray size) n body values used p = (size, refl, p)

pub same_size : (kind : Kind) (k m : ℕ) → HasSize kind k → HasSize kind m → k ≡ m
same_size Boolean k m p q = absurd p
same_size Int32 k m p q = p ∙ sym q
same_size Int64 k m p q = p ∙ sym q
same_size ByteArray k m p q = absurd p
same_size (FixedLenByteArray size) k m p q = p ∙ sym q

pub has_spelling_of : (kind : Kind) (k : ℕ) (v : ValueTree) → HasSize kind k → IsOfKind kind v → HasSpelling kind v
has_spelling_of Boolean k v is p = absurd is
has_spelling_of Int32 k v is p = p
has_spelling_of Int64 k v is p = p
has_spelling_of ByteArray k v is p = absurd is
has_spelling_of (FixedLenByteArray size) k v is p = p

pub in_turn_of : (kind : Kind) (k n : ℕ) (body : List ℕ) (values : List ValueTree) (used : ℕ) → HasSize kind k → IsPlain kind n body values used → AreInTurn (IsSpelled kind) n body values used
in_turn_of Boolean k n body values used is p = absurd is
in_turn_of Int32 k n body values used is p = p
in_turn_of Int64 k n body values used is p = p
in_turn_of ByteArray k n body values used is p = absurd is
in_turn_of (FixedLenByteArray size) k n body values used is p = p

-- values that are split are of their type
pub split_of_kind : (kind : Kind) (n : ℕ) (body : List ℕ) (values : List ValueTree) (used : ℕ) → IsSplit kind n body values used → All (IsOfKind kind) values
split_of_kind kind n body values used p = (streams_of kind n body values used p).2.of_kind

pub split_count : (kind : Kind) (n : ℕ) (body : List ℕ) (values : List ValueTree) (used : ℕ) → IsSplit kind n body values used → length values ≡ n
split_count kind n body values used p = (streams_of kind n body values used p).2.count

-- ---- in the joined text

-- byte i of value j, of values one after the other
byte_in_turn : (kind : Kind) (k : ℕ) (values : List ValueTree) (text : List ℕ) (used i j : ℕ) → HasSize kind k → InTurn (IsSpelled kind) text values used → i < k → j < length values
    → slice_index (spelling kind (get_or values j null)) i ≡ slice_index text (j * k + i)
byte_in_turn kind k [] text used i j is p lt few = absurd (omega (arith, few))
byte_in_turn kind k (v ∷ values) text used i zero is p lt few =
    let front = p.2.front in
    let size : length (spelling kind v) ≡ k = spelling_size kind k v is p.2.has in
    let place : i ≡ 0 * k + i = omega arith in
    sym (get_or_append_left (spelling kind v) p.2.rest 0 i (omega (arith, size, lt))) ∙ ap (λ (t : List ℕ). get_or t i 0) (sym front) ∙ ap (λ (m : ℕ). get_or text m 0) place
byte_in_turn kind k (v ∷ values) text used i (suc j) is p lt few =
    let size : p.0 ≡ k = p.2.ends ∙ spelling_size kind k v is p.2.has in
    let product : suc j * k ≡ j * k + k = omega arith in
    let place : p.0 + (j * k + i) ≡ suc j * k + i = omega (arith, size, product) in
    byte_in_turn kind k values (drop p.0 text) p.1 i j is p.3 lt (omega (arith, few)) ∙ get_or-drop p.0 text (j * k + i) 0 ∙ ap (λ (m : ℕ). get_or text m 0) place

-- what the joined text stands for in PLAIN, stands split
pub joined_split : (kind : Kind) (k n : ℕ) (body text : List ℕ) (values : List ValueTree) (used end : ℕ) → HasSize kind k → AreJoined k n body text used → IsPlain kind n text values end → IsSplit kind n body values used
joined_split kind k n body text values used end is joined plain =
    let turn = in_turn_of kind k n text values end is plain in
    split_of kind k n body values used is (record {
      count = turn.0;
      of_kind = plain_of_kind kind n text values end plain;
      each = λ i j lt few. byte_in_turn kind k values text end i j is turn.1 lt (omega (arith, few, turn.0)) ∙ joined.each i j lt few;
      within = joined.within;
      ends = joined.ends;
    })

-- ---- at most one list

same_value : (kind : Kind) (k : ℕ) (v w : ValueTree) → HasSize kind k → IsOfKind kind v → IsOfKind kind w → ((i : ℕ) → i < k → slice_index (spelling kind v) i ≡ slice_index (spelling kind w) i) → v ≡ w
same_value kind k v w is p q bytes =
    let has = has_spelling_of kind k v is p in
    let had = has_spelling_of kind k w is q in
    let size : length (spelling kind v) ≡ k = spelling_size kind k v is has in
    let other : length (spelling kind w) ≡ k = spelling_size kind k w is had in
    let same : spelling kind v ≡ spelling kind w = ext_get_or 0 (spelling kind v) (spelling kind w) (size ∙ sym other) (λ i lt. bytes i (omega (arith, lt, size))) in
    prefix_free kind v w [] [] has had (ap (λ (t : List ℕ). t ++ []) same)

same_streams : (kind : Kind) (k n : ℕ) (body : List ℕ) (values others : List ValueTree) (used taken : ℕ) → HasSize kind k → AreStreams kind k n body values used → AreStreams kind k n body others taken → values ≡ others
same_streams kind k n body values others used taken is p q =
    ext_get_or null values others (p.count ∙ sym q.count) (λ j lt.
    let few : j < n = omega (arith, lt, p.count) in
    same_value kind k (get_or values j null) (get_or others j null) is (All-get_or (IsOfKind kind) values j null lt p.of_kind) (All-get_or (IsOfKind kind) others j null (omega (arith, few, q.count)) q.of_kind)
    (λ i less. p.each i j less few ∙ sym (q.each i j less few)))

pub one_split : (kind : Kind) (n : ℕ) → IsFunctional (IsSplit kind n)
one_split kind n = λ body values others used taken p q.
    let x = streams_of kind n body values used p in
    let y = streams_of kind n body others taken q in
    let same = same_size kind y.0 x.0 y.1 x.1 in
    let z = subst (λ (m : ℕ). AreStreams kind m n body others taken) same y.2 in
    (same_streams kind x.0 n body values others used taken x.1 x.2 z, x.2.ends ∙ sym z.ends)

-- ---- refusals

-- too few bytes
pub short_split : (kind : Kind) (k n : ℕ) (body : List ℕ) → HasSize kind k → length body < n * k → NothingStands (IsSplit kind n body)
short_split kind k n body is few values used p =
    let x = streams_of kind n body values used p in
    let same : n * x.0 ≡ n * k = ap (λ (m : ℕ). n * m) (same_size kind x.0 k x.1 is) in
    let within = x.2.within in
    absurd (omega (arith, few, same, within))

pub none_split : (kind : Kind) (n : ℕ) (body : List ℕ) → (CanBeSplit kind → ⊥) → NothingStands (IsSplit kind n body)
none_split Boolean n body none values used p = p
none_split Int32 n body none values used p = none tt
none_split Int64 n body none values used p = none tt
none_split ByteArray n body none values used p = p
none_split (FixedLenByteArray k) n body none values used p = none tt

pub none_over : (kind : Kind) (body : List ℕ) (n : ℕ) → (CanBeSplit kind → ⊥) → IsSplitReadOver kind body n → ⊥
none_over Boolean body n none p = p
none_over Int32 body n none p = p
none_over Int64 body n none p = p
none_over ByteArray body n none p = p
none_over (FixedLenByteArray k) body n none p = none tt

pub size_over : (kind : Kind) (k : ℕ) (body : List ℕ) (n : ℕ) → HasSize kind k → IsSizeOver k n → IsSplitReadOver kind body n
size_over Boolean k body n is p = absurd is
size_over Int32 k body n is p = let much = p.1 in omega (arith, is, much)
size_over Int64 k body n is p = let much = p.1 in omega (arith, is, much)
size_over ByteArray k body n is p = absurd is
size_over (FixedLenByteArray size) k body n is p = subst (λ (m : ℕ). IsSizeOver m n) is p

pub over_size : (kind : Kind) (k : ℕ) (body : List ℕ) (n : ℕ) → HasSize kind k → IsSplitReadOver kind body n → IsSizeOver k n
over_size Boolean k body n is p = absurd p
over_size Int32 k body n is p = absurd p
over_size Int64 k body n is p = absurd p
over_size ByteArray k body n is p = absurd p
over_size (FixedLenByteArray size) k body n is p = subst (λ (m : ℕ). IsSizeOver m n) (sym is) p

pub limit_of_size : (kind : Kind) (k : ℕ) (body : List ℕ) (n : ℕ) (e : Refusal) → HasSize kind k → IsLimitJustWhere (IsSizeOver k n) e → IsLimitJustWhere (IsSplitReadOver kind body n) e
limit_of_size kind k body n Limit is p = size_over kind k body n is p
limit_of_size kind k body n Memory is p = tt
limit_of_size kind k body n e is p = λ over. p (over_size kind k body n is over)

-- no value in PLAIN is too long where the size is not
pub not_read_over : (kind : Kind) (k : ℕ) (text : List ℕ) (n : ℕ) → HasSize kind k → (IsSizeOver k n → ⊥) → IsReadOver kind text n → ⊥
not_read_over Boolean k text n is none p = is
not_read_over Int32 k text n is none p = p.much
not_read_over Int64 k text n is none p = p.much
not_read_over ByteArray k text n is none p = is
not_read_over (FixedLenByteArray size) k text n is none p =
    let few = p.few in
    let much = p.much in
    none (omega (arith, few), omega (arith, is, much))

-- ---- reading

-- a byte of the joined text is byte i of value j
byte_here : (k n p : ℕ) → p < n * k → (i : ℕ) × (j : ℕ) × (i < k) × (j < n) × (p ≡ j * k + i)
byte_here k n p lt =
    elim (cases_lt 0 k) [
      | inl some ↦
          let whole : k * (p / k) + p % k ≡ p = div-add-mod p k in
          let turned : k * (p / k) ≡ p / k * k = omega arith in
          (p % k, p / k, mod-lt p some, (div-lt_iff_lt-mul {k = k} {x = p} {y = n} some).1 lt, omega (arith, whole, turned))
      | inr none ↦
          let zero_k : k ≡ 0 = omega (arith, none) in
          let product : n * k ≡ n * 0 = ap (λ (m : ℕ). n * m) zero_k in
          absurd (omega (arith, lt, product))
    ]

pub joined_fits : (k n : ℕ) (body text : List ℕ) (used : ℕ) → AreJoined k n body text used → ((i : ℕ) → Fits w8 (get_or body i 0)) → (i : ℕ) → Fits w8 (get_or text i 0)
joined_fits k n body text used joined below p =
    elim (cases_lt p (n * k)) [
      | inl lt ↦
          let b = byte_here k n p lt in
          let same : get_or text p 0 ≡ get_or body (b.0 * n + b.1) 0 = ap (λ (m : ℕ). get_or text m 0) b.4 ∙ joined.each b.0 b.1 b.2 b.3 in
          subst (λ (m : ℕ). Fits w8 m) (sym same) (below (b.0 * n + b.1))
      | inr past ↦
          let none : get_or text p 0 ≡ 0 = get_or_past text p 0 (omega (arith, past, joined.count)) in
          subst (λ (m : ℕ). Fits w8 m) (sym none) (Fits-of_lt {w = w8} {n = 0} (omega arith))
    ]

-- the joined text is values in PLAIN
pub joined_plain : (kind : Kind) (k n : ℕ) (text : List ℕ) → HasSize kind k → length text ≡ n * k → ((i : ℕ) → Fits w8 (get_or text i 0)) → IsPlain kind n text (values_from kind n 0 text) (n * k)
joined_plain Boolean k n text is size below = absurd is
joined_plain Int32 k n text is size below = (count_from Int32 n 0 text, sized_in_turn Int32 k n 0 text is (are_bytes text below) (omega (arith, size)))
joined_plain Int64 k n text is size below = (count_from Int64 n 0 text, sized_in_turn Int64 k n 0 text is (are_bytes text below) (omega (arith, size)))
joined_plain ByteArray k n text is size below = absurd is
joined_plain (FixedLenByteArray m) k n text is size below = (count_from (FixedLenByteArray m) n 0 text, sized_in_turn (FixedLenByteArray m) k n 0 text is (are_bytes text below) (omega (arith, size)))

-- ---- writing

pub sized_plain : (kind : Kind) (k : ℕ) (values : List ValueTree) → HasSize kind k → plain_size kind values ≡ k * length values
sized_plain Boolean k values is = absurd is
sized_plain Int32 k values is = ap (λ (m : ℕ). m * length values) (sym is)
sized_plain Int64 k values is = ap (λ (m : ℕ). m * length values) (sym is)
sized_plain ByteArray k values is = absurd is
sized_plain (FixedLenByteArray m) k values is = ap (λ (m : ℕ). m * length values) (sym is)

-- the columns of values in PLAIN are their streams
pub split_written : (kind : Kind) (k : ℕ) (values : List ValueTree) (body old new : List ℕ) (used : ℕ) → HasSize kind k → IsPlain kind (length values) body values used → AppendsColumns (length values) k body old new
    → Appends (λ text. IsSplit kind (length values) text values) (plain_size kind values) old new
split_written kind k values body old new used is plain p =
    let n = length values in
    let turn = in_turn_of kind k n body values used is plain in
    let count : length p.text ≡ k * n = p.columns_are.count in
    let turned : n * k ≡ k * n = omega arith in
    record {
      text = p.text;
      joined = p.joined;
      stands = λ more. split_of kind k n (p.text ++ more) values (length p.text) is (record {
        count = refl;
        of_kind = plain_of_kind kind n body values used plain;
        each = λ i j lt few.
            let place : i * n + j < n * k = mul-add-lt i n j k lt few in
            byte_in_turn kind k values body used i j is turn.1 lt few ∙ sym (p.columns_are.each j i few lt) ∙ sym (get_or_append_left p.text more 0 (i * n + j) (omega (arith, place, count, turned)));
        within = omega (arith, length-append p.text more, count, turned);
        ends = omega (arith, count, turned);
      });
      short = omega (arith, count, sized_plain kind k values is);
    }

-- what encoding in PLAIN says, and then writing by columns
pub split_after : (kind : Kind) (k n : ℕ) (values : List ValueTree) (empty items body old new : List ℕ) → HasSize kind k → n ≡ length values → empty ≡ [] → Appends (λ text. IsPlain kind (length values) text values) (plain_size kind values) empty items → body ≡ items
    → AppendsColumns n k body old new → Appends (λ text. IsSplit kind (length values) text values) (plain_size kind values) old new
split_after kind k n values empty items body old new is count none plain same p =
    let all : body ≡ plain.text ++ [] = same ∙ plain.joined ∙ ap (λ (t : List ℕ). t ++ plain.text) none ∙ sym (append-nil plain.text) in
    let here : IsPlain kind (length values) body values (length plain.text) = subst (λ (t : List ℕ). IsPlain kind (length values) t values (length plain.text)) (sym all) (plain.stands []) in
    split_written kind k values body old new (length plain.text) is here (subst (λ (m : ℕ). AppendsColumns m k body old new) count p)
