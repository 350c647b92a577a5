-- What bytes stand for is byte values.
use Rattle.std.proofs.Common.{ℕ, ◌+◌, ◌*◌, ◌<◌, ◌∙◌, Result, Ok, Err, ap, List, [], ◌∷◌, ◌++◌, length, get_or, take, drop, map, refl, sym, subst, append_assoc}
use Rattle.std.specs.Prelude.{All}
use Rattle.std.specs.List.{concat}
use Rattle.std.proofs.lemmas.List.{take_at, drop_at}
use Rattle.std.proofs.lemmas.List.Elements.{All-nil, All-cons, All-from_get_or, All-append, All-head, All-tail, All-take, All-drop, All-map}
use Rattle.std.specs.Result.{IfOk, OnOk}
use Rattle.bits.specs.declared.refusal.Refusal.{Refusal}
use Rattle.bits.specs.Refusals.{OnFault}
use Rattle.bits.specs.Codec.{IsFunctional, Appends}
use Rattle.schema.specs.Values.{ValueTree, bytes}
use Rattle.schema.specs.declared.value.Kind.TheVariants.{ByteArray}
use Rattle.plain.specs.Plain.{AreBytes, IsOfKind, text_size}
use Rattle.delta.specs.ByteDeltas.{IsByteLengths, IsPrefixed, AreCompleted, StandForBytes, AreByLengths, AppendsByLengths}
use Rattle.delta.proofs.OneByBytes.{one_lengths}

-- the values that are joined
joined_bytes : (ts : List (List ℕ)) (rest : List ℕ) → AreBytes (concat ts ++ rest) → All AreBytes ts
joined_bytes [] rest all = All-nil AreBytes
joined_bytes (t ∷ ts) rest all =
    let whole : AreBytes (t ++ (concat ts ++ rest)) = subst AreBytes (append_assoc t (concat ts) rest) all in
    let here : AreBytes t = subst AreBytes (take_at t (concat ts ++ rest) (length t) refl) (All-take (λ b. b < 256) (length t) (t ++ (concat ts ++ rest)) whole) in
    let others : AreBytes (concat ts ++ rest) = subst AreBytes (drop_at t (concat ts ++ rest) (length t) refl) (All-drop (λ b. b < 256) (length t) (t ++ (concat ts ++ rest)) whole) in
    All-cons AreBytes t ts here (joined_bytes ts rest others)

of_kind : (ts : List (List ℕ)) → All AreBytes ts → All (IsOfKind ByteArray) (map bytes ts)
of_kind ts all = All-map (IsOfKind ByteArray) bytes ts all

lengths_bytes : (text : List ℕ) (n : ℕ) (ts : List (List ℕ)) (used : ℕ) → AreBytes text → IsByteLengths text n ts used → All AreBytes ts
lengths_bytes text n ts used all p = joined_bytes ts p.rest (subst AreBytes p.joined (All-drop (λ b. b < 256) p.at text all))

completed_bytes : (before : List ℕ) (ks : List ℕ) (ss vs : List (List ℕ)) → AreBytes before → All AreBytes ss → AreCompleted before ks ss vs → All AreBytes vs
completed_bytes before [] [] [] first all p = All-nil AreBytes
completed_bytes before [] [] (v ∷ vs) first all p = absurd p
completed_bytes before [] (s ∷ ss) vs first all p = absurd p
completed_bytes before (k ∷ ks) [] vs first all p = absurd p
completed_bytes before (k ∷ ks) (s ∷ ss) [] first all p = absurd p
completed_bytes before (k ∷ ks) (s ∷ ss) (v ∷ vs) first all p =
    let prefix : AreBytes (take k before) = All-take (λ b. b < 256) k before first in
    let whole : AreBytes (take k before ++ s) = All-append (λ b. b < 256) (take k before) s prefix (All-head AreBytes s ss all) in
    let here : AreBytes v = subst AreBytes (sym p.1) whole in
    All-cons AreBytes v vs here (completed_bytes v ks ss vs here (All-tail AreBytes s ss all) p.2)

-- values that bytes stand for, by their lengths or by their prefixes, are byte values
pub lengths_fit : (vs : List ValueTree) (text : List ℕ) (used : ℕ) → AreBytes text → StandForBytes (IsByteLengths text (length vs)) vs used → All (IsOfKind ByteArray) vs
lengths_fit vs text used all p = subst (All (IsOfKind ByteArray)) (sym p.are) (of_kind p.texts (lengths_bytes text (length vs) p.texts used all p.stand))

pub prefixes_fit : (vs : List ValueTree) (text : List ℕ) (used : ℕ) → AreBytes text → StandForBytes (IsPrefixed text (length vs)) vs used → All (IsOfKind ByteArray) vs
prefixes_fit vs text used all p =
    let q = p.stand in
    let suffixes : All AreBytes q.suffixes = lengths_bytes (drop q.at text) (length vs) q.suffixes q.rest (All-drop (λ b. b < 256) q.at text all) q.others in
    subst (All (IsOfKind ByteArray)) (sym p.are) (of_kind p.texts (completed_bytes [] q.prefixes q.suffixes p.texts (All-nil (λ b. b < 256)) suffixes q.completed))

-- ---- values by their lengths, as an encoding

pub one_by_lengths : (n : ℕ) → IsFunctional (AreByLengths n)
one_by_lengths n = λ text xs ys used taken p q.
    let one = one_lengths n text p.stand.texts q.stand.texts used taken p.stand.stand q.stand.stand in
    (p.stand.are ∙ ap (λ (ts : List (List ℕ)). map bytes ts) one.0 ∙ sym q.stand.are, one.1)

pub are_bytes : (text : List ℕ) → ((i : ℕ) → get_or text i 0 < 256) → AreBytes text
are_bytes text all = All-from_get_or (λ b. b < 256) text 0 (λ i lt. all i)

pub by_lengths : (n : ℕ) (text : List ℕ) (values : List ValueTree) (used : ℕ) → AreBytes text → StandForBytes (IsByteLengths text n) values used → AreByLengths n text values used
by_lengths n text values used all p =
    record { fit = subst (All (IsOfKind ByteArray)) (sym p.are) (of_kind p.texts (lengths_bytes text n p.texts used all p.stand)); stand = p }

pub read_so : {X : Type 0} (r : Result X Refusal) (P Q : X → Type 0) → ((x : X) → P x → Q x) → IfOk r P → IfOk r Q
read_so (Ok x) P Q f p = f x p
read_so (Err e) P Q f p = p

pub none_so : {X : Type 0} (r : Result X Refusal) (P Q : Type 0) → (P → Q) → OnFault r P → OnFault r Q
none_so (Ok x) P Q f p = p
none_so (Err e) P Q f p = λ fault. f (p fault)

pub appends_so : {X : Type 0} (r : Result X Refusal) (values : List ValueTree) (old new : List ℕ) → OnOk r (All (IsOfKind ByteArray) values) → OnOk r (AppendsByLengths values old new)
    → OnOk r (Appends (λ text. AreByLengths (length values) text values) (170 + 5 * length values + text_size values) old new)
appends_so (Ok x) values old new fit p = record { text = p.text; joined = p.joined; stands = λ more. record { fit = fit; stand = p.stands more }; short = p.short }
appends_so (Err e) values old new fit p = p
