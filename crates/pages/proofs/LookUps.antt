-- Entries of a dictionary that are looked up, and numbers that become values, one by one.
use Rattle.std.proofs.Common.{◌≡◌, ℕ, zero, suc, ◌+◌, ◌<◌, Bool, true, List, [], ◌∷◌, ◌++◌, length, get_or, map, take, Some, sym, ap, subst, ◌∙◌, arith, inl, inr}
use Rattle.std.specs.Prelude.{◌⊎◌, ℤ, pos, All, IsTrue, slice_get}
use Rattle.std.proofs.lemmas.List.{take_more, map-append}
use Rattle.std.proofs.lemmas.List.Elements.{All-push}
use Rattle.schema.specs.declared.value.Kind.{Kind}
use Rattle.schema.specs.declared.borrowed.ValueRef.{ValueRef}
use Rattle.schema.specs.declared.borrowed.ValueRef.TheVariants.{Int}
use Rattle.schema.specs.Annotations.{LeafType}
use Rattle.schema.specs.Borrowed.{value_ref_view}
use Rattle.schema.specs.Fits.{fits_leaf}
use Rattle.schema.specs.Values.{ValueTree, integer}
use Rattle.plain.specs.Plain.{IsOfKind}
use Rattle.dictionary.specs.Entries.{AreEntriesAt}
use Rattle.pages.specs.inner.Reading.{AllFit}

abbrev pub Fits : LeafType → ValueRef → Type 0
Fits t v = IsTrue (fits_leaf t (value_ref_view v))

-- ---- what is marked was checked

-- at most one more place is marked, whose entry fits
pub marks_more : (t : LeafType) (es : List ValueRef) (old new : List Bool) (at : ℕ) (known : ValueRef) → Fits t known → slice_get es at ≡ Some known
    → ((k : ℕ) (v : ValueRef) → slice_get es k ≡ Some v → slice_get old k ≡ Some true → Fits t v)
    → ((k : ℕ) → slice_get new k ≡ Some true → (slice_get old k ≡ Some true) ⊎ (k ≡ at))
    → (k : ℕ) (v : ValueRef) → slice_get es k ≡ Some v → slice_get new k ≡ Some true → Fits t v
marks_more t es old new at known fits here before more k v there marked = elim (more k marked) [
  | inl was ↦ before k v there was
  | inr same ↦ (let one : known ≡ v = cc in subst (Fits t) one fits)
]

-- ---- one more value

view_at : (es : List ValueRef) (k : ℕ) (v : ValueRef) → slice_get es k ≡ Some v → slice_get (map value_ref_view es) k ≡ Some (value_ref_view v)
view_at [] k v is = cc
view_at (e ∷ es) zero v is = let same : e ≡ v = cc in ap (λ (x : ValueRef). Some (value_ref_view x)) same
view_at (e ∷ es) (suc k) v is = view_at es k v is

fit_push : (t : LeafType) (vs : List ValueTree) (v : ValueTree) → AllFit t vs → IsTrue (fits_leaf t v) → AllFit t (vs ++ v ∷ [])
fit_push t [] v fit here = (here, tt)
fit_push t (w ∷ vs) v fit here = (fit.0, fit_push t vs v fit.1 here)

pub record AreLookedUp (t : LeafType) (es : List ValueRef) (is : List ℕ) (vs : List ValueRef) : Type 0 where
  pub stand : AreEntriesAt (map value_ref_view es) is (map value_ref_view vs)
  pub fit : AllFit t (map value_ref_view vs)

pub look_up_more : (t : LeafType) (es : List ValueRef) (is : List ℕ) (i : ℕ) (vs new : List ValueRef) (v : ValueRef) → i < length is → slice_get es (get_or is i 0) ≡ Some v → Fits t v → new ≡ vs ++ v ∷ []
    → AreEntriesAt (map value_ref_view es) (take i is) (map value_ref_view vs) → AllFit t (map value_ref_view vs) → AreLookedUp t es (take (i + 1) is) new
look_up_more t es is i vs new v lt here fits joined stand fit =
    let ts = map value_ref_view es in
    let views : map value_ref_view new ≡ map value_ref_view vs ++ value_ref_view v ∷ [] = ap (λ (xs : List ValueRef). map value_ref_view xs) joined ∙ map-append value_ref_view vs (v ∷ []) in
    let left : map (slice_get ts) (take (i + 1) is) ≡ map (slice_get ts) (take i is) ++ slice_get ts (get_or is i 0) ∷ [] = ap (λ (xs : List ℕ). map (slice_get ts) xs) (take_more is i 0 lt) ∙ map-append (slice_get ts) (take i is) (get_or is i 0 ∷ []) in
    let right : map (λ (x : ValueTree). Some x) (map value_ref_view vs ++ value_ref_view v ∷ []) ≡ map (λ (x : ValueTree). Some x) (map value_ref_view vs) ++ Some (value_ref_view v) ∷ [] = map-append (λ (x : ValueTree). Some x) (map value_ref_view vs) (value_ref_view v ∷ []) in
    let last = view_at es (get_or is i 0) v here in
    let whole : map (slice_get ts) (take (i + 1) is) ≡ map (λ (x : ValueTree). Some x) (map value_ref_view vs ++ value_ref_view v ∷ []) = cc in
    record {
      stand = subst (λ (ws : List ValueTree). AreEntriesAt ts (take (i + 1) is) ws) (sym views) whole;
      fit = subst (AllFit t) (sym views) (fit_push t (map value_ref_view vs) (value_ref_view v) fit fits);
    }

-- where all are the leaf's, the one at a place is
pub fits_at : (t : LeafType) (es : List ValueRef) (is : List ℕ) (ws : List ValueTree) (i : ℕ) (v : ValueRef) → AreEntriesAt (map value_ref_view es) is ws → AllFit t ws → i < length is → slice_get es (get_or is i 0) ≡ Some v → Fits t v
fits_at t es [] ws i v stand fit lt here = absurd (omega (arith, lt))
fits_at t es (x ∷ is) [] i v stand fit lt here = cc
fits_at t es (x ∷ is) (w ∷ ws) zero v stand fit lt here =
    let found = view_at es x v here in
    let same : value_ref_view v ≡ w = cc in
    subst (λ (u : ValueTree). IsTrue (fits_leaf t u)) (sym same) fit.0
fits_at t es (x ∷ is) (w ∷ ws) (suc i) v stand fit lt here =
    let rest : map (slice_get (map value_ref_view es)) is ≡ map (λ (u : ValueTree). Some u) ws = cc in
    fits_at t es is ws i v rest fit.1 (omega (arith, lt)) here

-- ---- numbers

pub integer_more : (vs new : List ValueRef) (zs : List ℤ) (i : ℕ) (y : ℤ) → i < length zs → y ≡ get_or zs i (pos 0) → new ≡ vs ++ Int y ∷ [] → map value_ref_view vs ≡ map integer (take i zs) → map value_ref_view new ≡ map integer (take (i + 1) zs)
integer_more vs new zs i y lt is joined so_far =
    let views : map value_ref_view new ≡ map value_ref_view vs ++ integer y ∷ [] = ap (λ (xs : List ValueRef). map value_ref_view xs) joined ∙ map-append value_ref_view vs (Int y ∷ []) in
    let left : map integer (take (i + 1) zs) ≡ map integer (take i zs) ++ integer (get_or zs i (pos 0)) ∷ [] = ap (λ (xs : List ℤ). map integer xs) (take_more zs i (pos 0) lt) ∙ map-append integer (take i zs) (get_or zs i (pos 0) ∷ []) in
    cc

pub kind_more : (kind : Kind) (vs new : List ValueRef) (y : ℤ) → IsOfKind kind (integer y) → new ≡ vs ++ Int y ∷ [] → All (IsOfKind kind) (map value_ref_view vs) → All (IsOfKind kind) (map value_ref_view new)
kind_more kind vs new y here joined all =
    let views : map value_ref_view new ≡ map value_ref_view vs ++ integer y ∷ [] = ap (λ (xs : List ValueRef). map value_ref_view xs) joined ∙ map-append value_ref_view vs (Int y ∷ []) in
    subst (All (IsOfKind kind)) (sym views) (All-push (IsOfKind kind) (map value_ref_view vs) (integer y) all here)
