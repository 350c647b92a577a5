-- Where the last slash of a path is.
use Rattle.std.proofs.Common.{◌≡◌, ◌≢◌, ◌<◌, ◌⊎◌, ⊎_elim, inl, inr, ℕ, zero, suc, ◌+◌, ◌-◌, List, [], ◌∷◌, ◌++◌, length, take, get_or, slice_index, Bool, true, false, ◌==◌, refl, sym, ◌∙◌, ap, subst, arith, length-append, All, IsTrue, MatchBool}
use Rattle.std.proofs.lemmas.Bool.Decides.{eqb_tells}
use Rattle.std.proofs.lemmas.List.{get_or-take, length-take-le, get_or-append_right}
use Rattle.std.specs.List.{AllWithin}
use Rattle.std.proofs.lemmas.List.Elements.{All-from_all_within}
use Rattle.std.proofs.Math.Seq.{get_or-append_seam, take-append_seam}
use Rattle.lists.proofs.Slices.{take_twice}
use Rattle.lists.proofs.Booleans.{if_true as pick_one, if_false as pick_other}
use Rattle.disk.specs.Paths.{slash, before_slash, folder_of, path_in, IsName, IsOnTheWay}

same_or_less : (n k : ℕ) → k < suc n → (k ≡ n) ⊎ (k < n)
same_or_less zero zero lt = inl refl
same_or_less zero (suc k) lt = absurd (omega (arith, lt))
same_or_less (suc n) zero lt = inr (omega arith)
same_or_less (suc n) (suc k) lt = ⊎_elim (λ e. inl (ap suc e)) (λ less. inr (omega (arith, less))) (same_or_less n k (omega (arith, lt)))

-- the last slash among the first n bytes
pub before_last : (path : List ℕ) (n k : ℕ) → k < n → slice_index path k ≡ slash → ((i : ℕ) → k < i → i < n → slice_index path i ≢ slash) → before_slash path n ≡ take k path
before_last path zero k lt is none = absurd (omega (arith, lt))
before_last path (suc n) k lt is none = ⊎_elim
    (λ at. pick_one (slice_index path n == slash) (take n path) (before_slash path n) at.0
    ∙ ⊎_elim (λ e. ap (λ (i : ℕ). take i path) (sym e)) (λ less. absurd (none n less (omega arith) at.1)) (same_or_less n k lt))
    (λ off. pick_other (slice_index path n == slash) (take n path) (before_slash path n) off.0
    ∙ ⊎_elim
    (λ e. absurd (off.1 (ap (slice_index path) (sym e) ∙ is)))
    (λ less. before_last path n k less is (λ i a b. none i a (omega (arith, b))))
    (same_or_less n k lt))
    (eqb_tells (slice_index path n) slash)

pub before_none : (path : List ℕ) (n : ℕ) → ((i : ℕ) → i < n → slice_index path i ≢ slash) → before_slash path n ≡ []
before_none path zero none = refl
before_none path (suc n) none = ⊎_elim
    (λ at. absurd (none n (omega arith) at.1))
    (λ off. pick_other (slice_index path n == slash) (take n path) (before_slash path n) off.0 ∙ before_none path n (λ i lt. none i (omega (arith, lt))))
    (eqb_tells (slice_index path n) slash)

-- a folder is the empty text or ends before a slash
pub ends_before : (path : List ℕ) (n : ℕ) → (before_slash path n ≡ []) ⊎ ((k : ℕ) × (k < n) × (slice_index path k ≡ slash) × (before_slash path n ≡ take k path))
ends_before path zero = inl refl
ends_before path (suc n) = ⊎_elim
    (λ at. inr (n, omega arith, at.1, pick_one (slice_index path n == slash) (take n path) (before_slash path n) at.0))
    (λ off.
    let same = pick_other (slice_index path n == slash) (take n path) (before_slash path n) off.0 in
    ⊎_elim
    (λ none. inl (same ∙ none))
    (λ some. inr (some.0, omega (arith, some.1), some.2, same ∙ some.3))
    (ends_before path n))
    (eqb_tells (slice_index path n) slash)

-- a path in a folder lies in that folder
pub folder_of-path_in : (folder name : List ℕ) → IsName name → folder_of (path_in folder name) ≡ folder
folder_of-path_in [] name is = before_none name (length name) is.plain
folder_of-path_in (b ∷ rest) name is =
    let folder = b ∷ rest in
    let path = folder ++ slash ∷ name in
    let long : length path ≡ length folder + length (slash ∷ name) = length-append folder (slash ∷ name) in
    before_last path (length path) (length folder) (omega (arith, long)) (get_or-append_seam folder slash name 0)
    (λ i more less e.
    let n : ℕ = length folder in
    let far : get_or path i 0 ≡ get_or (slash ∷ name) (i - n) 0 = get_or-append_right folder (slash ∷ name) n i 0 refl (omega (arith, more)) in
    let k : ℕ = i - n - 1 in
    let next : i - n ≡ suc k = omega (arith, more) in
    is.plain k (omega (arith, long, less, more)) (ap (λ (j : ℕ). get_or (slash ∷ name) j 0) (sym next) ∙ sym far ∙ e))
    ∙ take-append_seam folder (slash ∷ name)

pub folder-on_the_way : (path : List ℕ) → folder_of path ≢ [] → IsOnTheWay (folder_of path) path
folder-on_the_way path some = ⊎_elim (λ none. absurd (some none)) (λ at. at) (ends_before path (length path))

pub further-on_the_way : (folder path : List ℕ) → IsOnTheWay folder (folder_of path) → IsOnTheWay folder path
further-on_the_way folder path on = ⊎_elim
    (λ none. let short : length (folder_of path) ≡ 0 = ap length none in absurd (omega (arith, short, on.1)))
    (λ at.
    let above = folder_of path in
    let long : length above ≡ at.0 = ap length at.3 ∙ length-take-le at.0 path (omega (arith, at.1)) in
    let less : on.0 < at.0 = omega (arith, on.1, long) in (
      on.0,
      omega (arith, less, at.1),
      sym (get_or-take at.0 path on.0 0 less) ∙ ap (λ (l : List ℕ). slice_index l on.0) (sym at.3) ∙ on.2,
      on.3 ∙ ap (take on.0) at.3 ∙ take_twice on.0 at.0 path (omega (arith, less)),
    ))
    (ends_before path (length path))

-- `all` that answered true has seen each part
pub all_where_true : {X : Type 0} (P : X → Type 0) (Q : Type 0) (xs : List X) (r : Bool) → MatchBool r (AllWithin P xs 0 (length xs)) Q → IsTrue r → All P xs
all_where_true P Q xs true within is = All-from_all_within P xs within
all_where_true P Q xs false other is = absurd (let P : Bool → Type 0 = elim [ false ↦ Unit {0} | true ↦ ⊥ ] in subst P is tt)
