-- How many leaves the first fields have.
use Rattle.std.proofs.Common.{◌≡◌, ℕ, zero, suc, ◌+◌, ◌<◌, ◌≤◌, List, length, get_or, refl, ap, sym, ◌∙◌, subst, arith}
use Rattle.schema.specs.declared.value.Repetition.TheVariants.{Optional}
use Rattle.schema.specs.Shape.{Field, Fields, no_fields, field, count, repetition_of}
use Rattle.schema.specs.Stripe.{leaves, leaves_of}
use Rattle.schema.proofs.FieldViews.{one_more}
use Rattle.schema.specs.Fronts.{first_fields, fields_after, AreOptional, IsFront}
use Rattle.manifest.specs.inner.Reading.{ends_from}

pub end_at : (before n : ℕ) (fs : Fields) (d : ℕ) → n < count fs → get_or (ends_from before fs) n d ≡ before + length (leaves_of (first_fields (suc n) fs))
end_at before n no_fields d h = absurd (omega (arith, h))
end_at before zero (field f fs) d h = let p = one_more f no_fields in omega (arith, p)
end_at before (suc n) (field f fs) d h =
    let p = end_at (before + length (leaves f)) n fs d (omega (arith, h)) in
    let q = one_more f (first_fields (suc n) fs) in
    p ∙ (let r : before + length (leaves f) + length (leaves_of (first_fields (suc n) fs)) ≡ before + length (leaves_of (field f (first_fields (suc n) fs))) = omega (arith, q) in r)

pub ends_length : (before : ℕ) (fs : Fields) → length (ends_from before fs) ≡ count fs
ends_length before no_fields = refl
ends_length before (field f fs) = ap suc (ends_length (before + length (leaves f)) fs)

all_later : (m : ℕ) (fs : Fields) → AreOptional fs → AreOptional (fields_after m fs)
all_later zero fs h = h
all_later (suc m) no_fields h = tt
all_later (suc m) (field f fs) h = all_later m fs h.1

pub optional_later : (n m : ℕ) (fs : Fields) → n ≤ m → AreOptional (fields_after n fs) → AreOptional (fields_after m fs)
optional_later zero m fs le h = all_later m fs h
optional_later (suc n) zero fs le h = absurd (omega (arith, le))
optional_later (suc n) (suc m) no_fields le h = tt
optional_later (suc n) (suc m) (field f fs) le h = optional_later n m fs (omega (arith, le)) h

-- a field from a place on where all are OPTIONAL is
pub optional_at : (n at : ℕ) (fs rest : Fields) (f : Field) → n ≤ at → fields_after at fs ≡ field f rest → AreOptional (fields_after n fs) → repetition_of f ≡ Optional
optional_at n at fs rest f le here h = (subst AreOptional here (optional_later n at fs le h)).0

-- ---- looking one up

pub is_front : (n : ℕ) (fs : Fields) (least : ℕ) → 1 ≤ least → least ≤ n → n ≤ count fs → AreOptional (fields_after least fs) → IsFront n fs
is_front n fs least some le there optional = record { some = omega (arith, some, le); there = there; optional = optional_later least n fs le optional }

-- the number at a place, of the fields up to there
pub end_here : (ends : List ℕ) (fs : Fields) (i d leaves : ℕ) → ends ≡ ends_from 0 fs → i < length ends → get_or ends i d ≡ leaves → length (leaves_of (first_fields (i + 1) fs)) ≡ leaves
end_here ends fs i d leaves e lt is =
    let within : i < count fs = (let n = ends_length 0 fs in omega (arith, n, ap length e, lt)) in
    let at = end_at 0 i fs d within in
    let next : i + 1 ≡ suc i = omega arith in
    let same : get_or ends i d ≡ get_or (ends_from 0 fs) i d = ap (λ (xs : List ℕ). get_or xs i d) e in
    ap (λ (m : ℕ). length (leaves_of (first_fields m fs))) next ∙ (let r : length (leaves_of (first_fields (suc i) fs)) ≡ leaves = omega (arith, at, same, is) in r)

pub not_here : (ends : List ℕ) (fs : Fields) (i d n leaves : ℕ) → ends ≡ ends_from 0 fs → i < length ends → n ≡ i + 1 → length (leaves_of (first_fields n fs)) ≡ leaves → get_or ends i d ≡ leaves
not_here ends fs i d n leaves e lt next is =
    let within : i < count fs = (let m = ends_length 0 fs in omega (arith, m, ap length e, lt)) in
    let at = end_at 0 i fs d within in
    let same : get_or ends i d ≡ get_or (ends_from 0 fs) i d = ap (λ (xs : List ℕ). get_or xs i d) e in
    let number : n ≡ suc i = omega (arith, next) in
    let there : length (leaves_of (first_fields (suc i) fs)) ≡ leaves = ap (λ (m : ℕ). length (leaves_of (first_fields m fs))) (sym number) ∙ is in
    omega (arith, at, same, there)
