-- Rows in pieces, shown one piece after another.
use Rattle.std.proofs.Common.{ℕ, zero, suc, ◌≡◌, ◌+◌, ◌<◌, ◌≤◌, Bool, true, false, List, [], ◌∷◌, ◌++◌, length, drop, get_or, map, Some, inl, inr, refl, ap, sym, subst, ◌∙◌, arith, add-one, append_assoc}
use Rattle.std.specs.Prelude.{◌⊎◌}
use Rattle.std.specs.List.{slice_get}
use Rattle.std.proofs.Math.ListN.{set}
use Rattle.std.proofs.lemmas.Bool.{false≢true}
use Rattle.std.proofs.lemmas.Option.{slice_get-get_or as get_there}
use Rattle.bits.specs.declared.fault.Fault.{Fault}
use Rattle.bits.specs.declared.fault.Fault.TheVariants.{Memory}
use Rattle.schema.specs.Values.{ValueTrees, no_values, value as item}
use Rattle.assemble.specs.Sinks.{Token, Adds, tokens, tokens_each}
use Rattle.scan.specs.declared.part_reader.PartReader.{PartReader}
use Rattle.scan.specs.Left.{followed_by, piece_at, joined, selected_by, part_stands, PartsStand}
use Rattle.scan.specs.inner.Left.{next_marked}
use Rattle.scan.specs.inner.Parts.{ShowsNext, IsMemoryWhere}

-- ---- values after values

followed_none : (vs : ValueTrees) → followed_by vs no_values ≡ vs
followed_none no_values = refl
followed_none (item v vs) = ap (item v) (followed_none vs)

followed_twice : (a b c : ValueTrees) → followed_by (followed_by a b) c ≡ followed_by a (followed_by b c)
followed_twice no_values b c = refl
followed_twice (item v vs) b c = ap (item v) (followed_twice vs b c)

tokens_followed : (a b : ValueTrees) → tokens_each (followed_by a b) ≡ tokens_each a ++ tokens_each b
tokens_followed no_values b = refl
tokens_followed (item v vs) b = ap (λ (ts : List Token). tokens v ++ ts) (tokens_followed vs b) ∙ sym (append_assoc (tokens v) (tokens_each vs) (tokens_each b))

pub joined_more : (i : ℕ) (x : List ValueTrees) → joined (suc i) x ≡ followed_by (joined i x) (piece_at i x)
joined_more zero [] = refl
joined_more zero (p ∷ ps) = followed_none p
joined_more (suc i) [] = refl
joined_more (suc i) (p ∷ ps) = ap (followed_by p) (joined_more i ps) ∙ sym (followed_twice p (joined i ps) (piece_at i ps))

-- ---- an element that is put in the place of another

pub set_cases : {A : Type 0} (xs : List A) (k : ℕ) (y : A) (j : ℕ) (p : A) → slice_get (set xs k y) j ≡ Some p → ((j ≡ k) × (p ≡ y)) ⊎ ((j ≡ k → ⊥) × (slice_get xs j ≡ Some p))
set_cases [] k y j p h = absurd (cc)
set_cases {A} (x ∷ xs) zero y zero p h = let e : y ≡ p = cc in inl (refl, sym e)
set_cases (x ∷ xs) zero y (suc j) p h = inr ((λ e. omega (arith, e)), h)
set_cases (x ∷ xs) (suc k) y zero p h = inr ((λ e. omega (arith, e)), h)
set_cases (x ∷ xs) (suc k) y (suc j) p h = elim (set_cases xs k y j p h) [
  | inl both ↦ inl (ap suc both.0, both.1)
  | inr other ↦ inr ((λ e. other.0 (omega (arith, e))), other.1)
]

-- ---- the parts of a row, one after another

-- the first k parts of the row were shown
pub record ShowLoop (now : List PartReader) (k : ℕ) (x : List ValueTrees) (rest : List (List ValueTrees)) (from to : List Token → Type 0) : Type 0 where
  pub done : (j : ℕ) (p : PartReader) → j < k → slice_get now j ≡ Some p → part_stands p (map (piece_at j) rest)
  pub left : (j : ℕ) (p : PartReader) → k ≤ j → slice_get now j ≡ Some p → part_stands p (piece_at j x ∷ map (piece_at j) rest)
  pub shown : Adds from to (tokens_each (joined k x))

pub none_shown : (now : List PartReader) (x : List ValueTrees) (rest : List (List ValueTrees)) (from : List Token → Type 0) → PartsStand now (x ∷ rest) → ShowLoop now 0 x rest from from
none_shown now x rest from stand = record {
  done = λ j p lt there. absurd (omega (arith, lt));
  left = λ j p le there. stand j p there;
  shown = λ before h. subst from (nothing_after before) h;
}
  where
    nothing_after : (ts : List Token) → ts ≡ ts ++ []
    nothing_after [] = refl
    nothing_after (t ∷ ts) = ap (λ (us : List Token). t ∷ us) (nothing_after ts)

module _ (now : List PartReader) (k : ℕ) (x : List ValueTrees) (rest : List (List ValueTrees)) (from mid to : List Token → Type 0) (s y : PartReader) (lt : k < length now) (loop : ShowLoop now k x rest from mid) where
  here : part_stands (get_or now k s) (piece_at k x ∷ map (piece_at k) rest)
  here = loop.left k (get_or now k s) (omega arith) (get_there now k s lt)

  pub part_memory : (f : Fault) → IsMemoryWhere (part_stands (get_or now k s)) f → f ≡ Memory
  part_memory f only = only (piece_at k x) (map (piece_at k) rest) here

  pub show_more : ShowsNext (part_stands (get_or now k s)) (part_stands y) (λ piece. piece) mid to → ShowLoop (set now k y) (k + 1) x rest from to
  show_more shows =
      let took = shows (piece_at k x) (map (piece_at k) rest) here in
      record {
        done = λ j p less there. elim (set_cases now k y j p there) [
          | inl both ↦ subst (λ (q : PartReader). part_stands q (map (piece_at j) rest)) (sym both.1) (subst (λ (i : ℕ). part_stands y (map (piece_at i) rest)) (sym both.0) took.0)
          | inr other ↦ (let ne = other.0 in loop.done j p (omega (arith, less, ne)) other.1)
        ];
        left = λ j p more there. elim (set_cases now k y j p there) [
          | inl both ↦ (let e = both.0 in absurd (omega (arith, more, e)))
          | inr other ↦ loop.left j p (omega (arith, more)) other.1
        ];
        shown = λ before h.
            subst to
            (append_assoc before (tokens_each (joined k x)) (tokens_each (piece_at k x))
            ∙ ap (λ (ts : List Token). before ++ ts) (sym (tokens_followed (joined k x) (piece_at k x)))
            ∙ ap (λ (vs : ValueTrees). before ++ tokens_each vs) (sym (joined_more k x))
            ∙ ap (λ (n : ℕ). before ++ tokens_each (joined n x)) (sym (add-one k)))
            (took.1 (before ++ tokens_each (joined k x)) (loop.shown before h));
      }

within : {A : Type 0} (xs : List A) (j : ℕ) (p : A) → slice_get xs j ≡ Some p → j < length xs
within [] j p h = absurd (cc)
within (x ∷ xs) zero p h = omega arith
within (x ∷ xs) (suc j) p h = let rest = within xs j p h in omega (arith, rest)

pub all_shown : (now : List PartReader) (n k : ℕ) (x : List ValueTrees) (rest : List (List ValueTrees)) (from to : List Token → Type 0) → length now ≡ n → k ≡ n → ShowLoop now k x rest from to
    → PartsStand now rest × Adds from to (tokens_each (joined n x))
all_shown now n k x rest from to size end loop = (
  (λ j p there. let lt = within now j p there in loop.done j p (omega (arith, lt, size, end)) there),
  subst (λ (m : ℕ). Adds from to (tokens_each (joined m x))) end loop.shown,
)

-- ---- the next row, selected or not

-- the first of the rows is selected
pub selected_first : {A : Type 0} (marks : List Bool) (x : A) (rest : List A) → next_marked marks ≡ true → selected_by marks (x ∷ rest) ≡ x ∷ selected_by (drop 1 marks) rest
selected_first [] x rest is = refl
selected_first {A} (true ∷ marks) x rest is = refl
selected_first (false ∷ marks) x rest is = absurd (false≢true is)

-- or it is passed over
pub passed_first : {A : Type 0} (marks : List Bool) (x : A) (rest : List A) → next_marked marks ≡ false → selected_by marks (x ∷ rest) ≡ selected_by (drop 1 marks) rest
passed_first [] x rest is = absurd (false≢true (sym is))
passed_first (true ∷ marks) x rest is = absurd (false≢true (sym is))
passed_first (false ∷ marks) x rest is = refl

pub none_selected_by : {A : Type 0} (marks : List Bool) → selected_by {A = A} marks [] ≡ []
none_selected_by [] = refl
none_selected_by (m ∷ marks) = refl

-- ---- readers of parts, one after another

-- an element that was read is the one there
pub there_is : {A : Type 0} (xs : List A) (i : ℕ) (x : A) → i < length xs → x ≡ get_or xs i x → slice_get xs i ≡ Some x
there_is xs i x lt is = get_there xs i x lt ∙ ap Some (sym is)

snoc_cases : {A : Type 0} (xs : List A) (y : A) (k : ℕ) (p : A) → slice_get (xs ++ y ∷ []) k ≡ Some p → (slice_get xs k ≡ Some p) ⊎ ((k ≡ length xs) × (p ≡ y))
snoc_cases [] y zero p h = let e : y ≡ p = cc in inr (refl, sym e)
snoc_cases [] y (suc k) p h = absurd (cc)
snoc_cases (x ∷ xs) y zero p h = inl h
snoc_cases (x ∷ xs) y (suc k) p h = elim (snoc_cases xs y k p h) [
  | inl there ↦ inl there
  | inr last ↦ inr (ap suc last.0, last.1)
]

pub one_reader_more : (rs : List PartReader) (y : PartReader) (after : List PartReader) (i : ℕ) (rows : List (List ValueTrees)) → after ≡ rs ++ y ∷ [] → length rs ≡ i → PartsStand rs rows → part_stands y (map (piece_at i) rows)
    → PartsStand after rows
one_reader_more rs y after i rows put size stand here k p there =
    elim (snoc_cases rs y k p (ap (λ (xs : List PartReader). slice_get xs k) (sym put) ∙ there)) [
      | inl before ↦ stand k p before
      | inr last ↦ subst (λ (q : PartReader). part_stands q (map (piece_at k) rows)) (sym last.1) (subst (λ (n : ℕ). part_stands y (map (piece_at n) rows)) (sym (last.0 ∙ size)) here)
    ]

pub no_readers : (rows : List (List ValueTrees)) (rs : List PartReader) → rs ≡ [] → PartsStand rs rows
no_readers rows rs none k p there = let e = ap (λ (xs : List PartReader). slice_get xs k) (sym none) ∙ there in absurd (cc)
