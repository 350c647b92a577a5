-- Some bytes are one bound.
use Rattle.std.proofs.Common.{◌≡◌, ℕ, zero, suc, List, [], ◌∷◌, ◌++◌, length, Result, Ok, Err, All, arith, refl, ◌∙◌, sym, ap, subst}
use Rattle.std.specs.Prelude.{IfOk}
use Rattle.std.specs.List.{Any}
use Rattle.std.proofs.lemmas.List.Elements.{All-from_recursion}
use Rattle.bits.specs.declared.refusal.Refusal.{Refusal}
use Rattle.bits.specs.Refusals.{OnFault}
use Rattle.bits.specs.Codec.{IsFunctional, Appends}
use Rattle.std.proofs.lemmas.List.{append-nil}
use Rattle.schema.specs.declared.value.Kind.{Kind}
use Rattle.schema.specs.declared.value.Kind.TheVariants.{Boolean, Int32, Int64, ByteArray, FixedLenByteArray}
use Rattle.schema.specs.Values.{ValueTree, bytes}
use Rattle.plain.specs.Plain.{IsOfKind, IsPlain, IsReadOver}
use Rattle.statistics.specs.Bytes.{IsBound, IsLengthOverLimit, BoundsAreOne}

abbrev OneList : Type 0
OneList = (kind : Kind) (n : ℕ) → IsFunctional (IsPlain kind n)

only : OneList → (kind : Kind) (text : List ℕ) (v w : ValueTree) → IsPlain kind 1 text (v ∷ []) (length text) → IsPlain kind 1 text (w ∷ []) (length text) → v ≡ w
only one kind text v w h k = let e : v ∷ [] ≡ w ∷ [] = (one kind 1 text (v ∷ []) (w ∷ []) (length text) (length text) h k).0 in cc

pub bounds_are_one : OneList → BoundsAreOne
bounds_are_one one ByteArray text (bytes s) (bytes t) h k = ap bytes (sym h.1 ∙ k.1)
bounds_are_one one ByteArray text (bytes s) _ h k = absurd k
bounds_are_one one ByteArray text _ w h k = absurd h
bounds_are_one one Boolean text v w h k = only one Boolean text v w h k
bounds_are_one one Int32 text v w h k = only one Int32 text v w h k
bounds_are_one one Int64 text v w h k = only one Int64 text v w h k
bounds_are_one one (FixedLenByteArray n) text v w h k = only one (FixedLenByteArray n) text v w h k

-- of another type than BYTE_ARRAY a bound has its PLAIN bytes
pub plain_is_bound : (kind : Kind) (text : List ℕ) (v : ValueTree) → (kind ≡ ByteArray → ⊥) → IsPlain kind 1 text (v ∷ []) (length text) → IsBound kind text v
plain_is_bound ByteArray text v other h = absurd (other refl)
plain_is_bound Boolean text v other h = h
plain_is_bound Int32 text v other h = h
plain_is_bound Int64 text v other h = h
plain_is_bound (FixedLenByteArray n) text v other h = h

pub bound_is_plain : (kind : Kind) (text : List ℕ) (v : ValueTree) → (kind ≡ ByteArray → ⊥) → IsBound kind text v → IsPlain kind 1 text (v ∷ []) (length text)
bound_is_plain ByteArray text v other h = absurd (other refl)
bound_is_plain Boolean text v other h = h
bound_is_plain Int32 text v other h = h
bound_is_plain Int64 text v other h = h
bound_is_plain (FixedLenByteArray n) text v other h = h

-- only values of a fixed length announce too much there
pub over_length : (kind : Kind) (text : List ℕ) → (kind ≡ ByteArray → ⊥) → IsReadOver kind text 1 → IsLengthOverLimit kind
over_length ByteArray text other h = absurd (other refl)
over_length Boolean text other h = h.much
over_length Int32 text other h = h.much
over_length Int64 text other h = h.much
over_length (FixedLenByteArray k) text other h = h.much

-- what is appended to nothing is all there is
pub all_of_it : (P : List ℕ → ℕ → Type 0) (most : ℕ) (new : List ℕ) → Appends P most [] new → P new (length new)
all_of_it P most new a = let is : a.text ++ [] ≡ new = append-nil a.text ∙ sym a.joined in
    let count : length a.text ≡ length new = ap length (sym a.joined) in
    subst (λ (n : ℕ). P new n) count (subst (λ (s : List ℕ). P s (length a.text)) is (a.stands []))

-- ---- answers

pub ok_map : {X : Type 0} (P Q : X → Type 0) (r : Result X Refusal) → ((x : X) → P x → Q x) → IfOk r P → IfOk r Q
ok_map P Q (Ok x) f h = f x h
ok_map P Q (Err e) f h = tt

pub ok_both : {X : Type 0} (P Q : X → Type 0) (r : Result X Refusal) → IfOk r P → IfOk r Q → IfOk r (λ x. P x × Q x)
ok_both P Q (Ok x) h k = (h, k)
ok_both P Q (Err e) h k = tt

pub fault_map : {X : Type 0} (P Q : Type 0) (r : Result X Refusal) → (P → Q) → OnFault r P → OnFault r Q
fault_map P Q (Ok x) f h = h
fault_map P Q (Err e) f h = λ is. f (h is)

pub one_of_kind : (kind : Kind) (v : ValueTree) → IsOfKind kind v → All (IsOfKind kind) (v ∷ [])
one_of_kind kind v h = All-from_recursion (IsOfKind kind) (v ∷ []) (h, tt)

pub any_one : (P : ValueTree → Type 0) (v : ValueTree) → Any P (v ∷ []) → P v
any_one P v (zero, x, lt, e, p) = subst P (sym e) p
any_one P v (suc i, x, lt, e, p) = absurd (omega (arith, lt))
