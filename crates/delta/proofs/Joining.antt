-- Byte values written after their lengths.
use Rattle.std.proofs.Common.{◌≡◌, ℕ, ◌+◌, ◌*◌, ◌<◌, List, [], ◌∷◌, ◌++◌, length, get_or, take, drop, map, refl, sym, ap, subst, ◌∙◌, arith, append_assoc, ◌^◌, inl, inr}
use Rattle.std.specs.Prelude.{ℤ, pos, All}
use Rattle.std.specs.List.{concat}
use Rattle.std.specs.Int.{w32}
use Rattle.std.proofs.lemmas.List.{length-append, length-map, drop_at, take_more, map-append}
use Rattle.std.proofs.lemmas.List.Elements.{All-drop}
use Rattle.std.proofs.lemmas.Bool.{cases_lt}
use Rattle.bits.specs.Codec.{Appends}
use Rattle.schema.specs.declared.value.Kind.TheVariants.{ByteArray}
use Rattle.schema.specs.Values.{ValueTree, null, boolean, integer, bytes, group, list}
use Rattle.plain.specs.Plain.{IsOfKind, IsTooLong, text_size}
use Rattle.delta.specs.Delta.{IsDelta}
use Rattle.delta.specs.ByteDeltas.{sizes, IsByteLengths, StandForBytes}
use Rattle.delta.specs.inner.Put.{text_of}
use Rattle.delta.proofs.Cutting.{concat_push}

-- a byte value is its bytes
is_bytes : (v : ValueTree) → IsOfKind ByteArray v → v ≡ bytes (text_of v)
is_bytes null is = absurd is
is_bytes (boolean b) is = absurd is
is_bytes (integer z) is = absurd is
is_bytes (bytes t) is = refl
is_bytes (group vs) is = absurd is
is_bytes (list vs) is = absurd is

pub are_bytes : (vs : List ValueTree) → All (IsOfKind ByteArray) vs → vs ≡ map bytes (map text_of vs)
are_bytes [] all = refl
are_bytes (v ∷ vs) all =
    let here : v ≡ bytes (text_of v) = is_bytes v (all 0 v (omega arith)) in
    let rest : vs ≡ map bytes (map text_of vs) = are_bytes vs (All-drop (IsOfKind ByteArray) 1 (v ∷ vs) all) in
    cc (here, rest)

pub short_text : (v : ValueTree) → (IsTooLong v → ⊥) → length (text_of v) < 2 ^ 31
short_text null short = omega arith
short_text (boolean b) short = omega arith
short_text (integer z) short = omega arith
short_text (bytes t) short = elim (cases_lt 16777216 (length t)) [
  | inl much ↦ absurd (short much)
  | inr le ↦ omega (arith, le)
]
short_text (group vs) short = omega arith
short_text (list vs) short = omega arith

pub size_of : (vs : List ValueTree) → length (concat (map text_of vs)) ≡ text_size vs
size_of [] = refl
size_of (null ∷ vs) = size_of vs
size_of (boolean b ∷ vs) = size_of vs
size_of (integer z ∷ vs) = size_of vs
size_of (bytes t ∷ vs) = length-append t (concat (map text_of vs)) ∙ ap (λ (k : ℕ). length t + k) (size_of vs)
size_of (group ws ∷ vs) = size_of vs
size_of (list ws ∷ vs) = size_of vs

-- one more
pub sizes_more : {V : Type 0} (lent : V → ValueTree) (values : List V) (i : ℕ) (item : V) → i < length values → item ≡ get_or values i item
    → sizes (map text_of (map lent (take (i + 1) values))) ≡ sizes (map text_of (map lent (take i values))) ++ pos (length (text_of (lent item))) ∷ []
sizes_more lent values i item lt is =
    let front : take (i + 1) values ≡ take i values ++ item ∷ [] = take_more values i item lt ∙ ap (λ v. take i values ++ v ∷ []) (sym is) in
    ap (λ t. sizes (map text_of (map lent t))) front ∙ ap (λ t. sizes (map text_of t)) (map-append lent (take i values) (item ∷ []))
    ∙ ap sizes (map-append text_of (map lent (take i values)) (lent item ∷ [])) ∙ map-append (λ t. pos (length t)) (map text_of (map lent (take i values))) (text_of (lent item) ∷ [])

pub joined_more : {V : Type 0} (lent : V → ValueTree) (values : List V) (i : ℕ) (item : V) → i < length values → item ≡ get_or values i item
    → concat (map text_of (map lent (take (i + 1) values))) ≡ concat (map text_of (map lent (take i values))) ++ text_of (lent item)
joined_more lent values i item lt is =
    let front : take (i + 1) values ≡ take i values ++ item ∷ [] = take_more values i item lt ∙ ap (λ v. take i values ++ v ∷ []) (sym is) in
    ap (λ t. concat (map text_of (map lent t))) front ∙ ap (λ t. concat (map text_of t)) (map-append lent (take i values) (item ∷ []))
    ∙ ap concat (map-append text_of (map lent (take i values)) (lent item ∷ [])) ∙ concat_push (map text_of (map lent (take i values))) (text_of (lent item))

-- the lengths and the values
pub lengths_written : (vs : List ValueTree) (lengths : List ℤ) (old mid new : List ℕ) → All (IsOfKind ByteArray) vs → lengths ≡ sizes (map text_of vs)
    → Appends (λ bytes. IsDelta w32 bytes (length lengths) lengths) (170 + 5 * length lengths) old mid → new ≡ mid ++ concat (map text_of vs)
    → Appends (λ bytes. StandForBytes (IsByteLengths bytes (length vs)) vs) (170 + 5 * length vs + text_size vs) old new
lengths_written vs lengths old mid new all are p put =
    let texts = map text_of vs in
    let joined = concat texts in
    let count : length lengths ≡ length vs = ap length are ∙ length-map texts (λ t. pos (length t)) ∙ length-map vs text_of in
    let size = length-append p.text joined in
    record {
      text = p.text ++ joined;
      joined = put ∙ ap (λ (t : List ℕ). t ++ joined) p.joined ∙ append_assoc old p.text joined;
      stands = λ more.
          let whole : (p.text ++ joined) ++ more ≡ p.text ++ (joined ++ more) = append_assoc p.text joined more in
          let first : IsDelta w32 ((p.text ++ joined) ++ more) (length vs) (sizes texts) (length p.text) =
          subst (λ (t : List ℕ). IsDelta w32 t (length vs) (sizes texts) (length p.text)) (sym whole) (subst (λ (zs : List ℤ). IsDelta w32 (p.text ++ (joined ++ more)) (length vs) zs (length p.text)) are
          (subst (λ (k : ℕ). IsDelta w32 (p.text ++ (joined ++ more)) k lengths (length p.text)) count (p.stands (joined ++ more)))) in
          record {
            texts = texts;
            stand = record { at = length p.text; rest = more; lengths = first; joined = ap (λ (t : List ℕ). drop (length p.text) t) whole ∙ drop_at p.text (joined ++ more) (length p.text) refl; ends = size };
            are = are_bytes vs all;
          };
      short = omega (arith, p.short, size, count, size_of vs);
    }
