-- One value is taken of those that stand from an index on.
use Rattle.std.proofs.Common.{◌≡◌, ℕ, zero, suc, ◌+◌, ◌-◌, ◌*◌, ◌<◌, ◌≤◌, List, ◌∷◌, length, sym, ap, subst, arith}
use Rattle.schema.specs.declared.value.Kind.{Kind}
use Rattle.schema.specs.declared.value.Kind.TheVariants.{Boolean, Int32, Int64, ByteArray, FixedLenByteArray}
use Rattle.plain.specs.ValuesFrom.{value_at, size_at, values_from, end_from, greatest_end}
use Rattle.plain.specs.inner.Sized.{HasSize}
use Rattle.plain.proofs.Places.{sized_end}

-- the others are there
pub others_there : (kind : Kind) (n at step top : ℕ) (body : List ℕ) → 0 < n → step ≡ size_at kind at body → end_from kind n at body ≤ top → end_from kind (n - 1) (at + step) body ≤ top
others_there kind zero at step top body some is there = absurd (omega (arith, some))
others_there kind (suc n) at step top body some is there = let less : suc n - 1 ≡ n = omega arith in rw less (subst (λ (k : ℕ). end_from kind n (at + k) body ≤ top) (sym is) there)

-- the value, and the others
pub value_and_others : (kind : Kind) (n at step : ℕ) (body : List ℕ) → 0 < n → step ≡ size_at kind at body → values_from kind n at body ≡ value_at kind at body ∷ values_from kind (n - 1) (at + step) body
value_and_others kind zero at step body some is = absurd (omega (arith, some))
value_and_others kind (suc n) at step body some is = let less : suc n - 1 ≡ n = omega arith in rw less (ap (λ (k : ℕ). value_at kind at body ∷ values_from kind n (at + k) body) (sym is))

-- all values of one size are there
pub sized_there : (kind : Kind) (k n : ℕ) (body : List ℕ) → HasSize kind k → length body ≡ n * k → end_from kind n 0 body ≤ greatest_end kind body
sized_there Boolean k n body is size = absurd is
sized_there Int32 k n body is size = omega (arith, size, sized_end Int32 k n 0 body is)
sized_there Int64 k n body is size = omega (arith, size, sized_end Int64 k n 0 body is)
sized_there ByteArray k n body is size = absurd is
sized_there (FixedLenByteArray m) k n body is size = omega (arith, size, sized_end (FixedLenByteArray m) k n 0 body is)
