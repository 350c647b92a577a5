-- Members of an object that are appended in another order to the text that they stand in.
use Rattle.std.proofs.Common.{◌≡◌, ℕ, ◌+◌, ◌-◌, ◌≤◌, List, [], ◌∷◌, ◌++◌, length, slice_index_or, take, drop, flat_map, refl, sym, ap, ap₂, ◌∙◌, arith, append_assoc, append-nil}
use Rattle.std.proofs.lemmas.List.{length-take, length-drop, drop-take, take-take, take_all, take-append-le, drop-append-le}
use Rattle.rowtext.specs.inner.Levels.{between, piece}

-- a text that begins with another
abbrev pub BeginsWith : List ℕ → List ℕ → Type 0
BeginsWith old new = (take (length old) new ≡ old) × (length old ≤ length new)

-- bytes of the text that another begins with
pub same_between : (old new : List ℕ) (from to : ℕ) → BeginsWith old new → from ≤ to → to ≤ length old → take (to - from) (drop from new) ≡ between old from to
same_between old new from to begins forward within =
    let n = length old in
    let split : from + (n - from) ≡ n = omega (arith, forward, within) in
    let rest : drop from old ≡ take (n - from) (drop from new) = ap (drop from) (sym begins.0) ∙ ap (λ (m : ℕ). drop from (take m new)) (sym split) ∙ drop-take from (n - from) new in
    sym (ap (take (to - from)) rest ∙ take-take (to - from) (n - from) (drop from new) (omega (arith, forward, within)))

-- it still begins with it where more is appended
pub still_begins : (old now new x : List ℕ) → BeginsWith old now → new ≡ now ++ x → BeginsWith old new
still_begins old now new x begins put =
    let front : take (length old) new ≡ old = ap (take (length old)) put ∙ take-append-le (length old) now x begins.1 ∙ begins.0 in
    (front, let long = ap length front in omega (arith, long, length-take (length old) new))

-- one member more
pub member_added : (P : ℕ → List ℕ) (now new x all : List ℕ) (i : ℕ) (rest left : List ℕ) → rest ≡ i ∷ left → x ≡ P i → new ≡ now ++ x → now ++ flat_map P rest ≡ all → new ++ flat_map P left ≡ all
member_added P now new x all i rest left first member put so =
    ap (λ (r : List ℕ). r ++ flat_map P left) (put ∙ ap (λ (r : List ℕ). now ++ r) member) ∙ append_assoc now (P i) (flat_map P left) ∙ ap (λ (r : List ℕ). now ++ flat_map P r) (sym first) ∙ so

-- ---- two members in the other order

-- a list of two
pub pair : {X : Type 0} (xs : List X) (d e : X) → length xs ≡ 2 → xs ≡ slice_index_or xs 0 d ∷ slice_index_or xs 1 e ∷ []
pair [] d e len = absurd (omega (arith, len))
pair (x ∷ []) d e len = absurd (omega (arith, len))
pair (x ∷ y ∷ []) d e len = refl
pair (x ∷ y ∷ z ∷ xs) d e len = absurd (omega (arith, len))

-- the first is appended once more, and then removed
pub swapped : (t mid new order starts : List ℕ) (from a m : ℕ) → order ≡ 1 ∷ 0 ∷ [] → starts ≡ a ∷ m ∷ [] → a ≡ from → a ≤ m → m ≤ length t
    → mid ≡ t ++ take (m - a) (drop a t) → new ≡ take a mid ++ drop m mid → new ≡ take from t ++ flat_map (piece t starts) order
swapped t mid new order starts from a m is begin here forward within put cut =
    let x = take (m - a) (drop a t) in
    let front : take a mid ≡ take a t = ap (take a) put ∙ take-append-le a t x (omega (arith, forward, within)) in
    let rest : drop m mid ≡ drop m t ++ x = ap (drop m) put ∙ drop-append-le m t x within in
    let last : take (length t - m) (drop m t) ≡ drop m t = take_all (length t - m) (drop m t) (omega (arith, length-drop m t)) in
    let pieces : flat_map (piece t (a ∷ m ∷ [])) (1 ∷ 0 ∷ []) ≡ drop m t ++ x = ap (λ (r : List ℕ). r ++ (x ++ [])) last ∙ ap (λ (r : List ℕ). drop m t ++ r) (append-nil x) in
    cut ∙ ap₂ (λ (r s : List ℕ). r ++ s) (front ∙ ap (λ (n : ℕ). take n t) here) (rest ∙ sym pieces) ∙ sym (ap₂ (λ (o ss : List ℕ). take from t ++ flat_map (piece t ss) o) is begin)
