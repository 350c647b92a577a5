-- Varints of one and two bytes.
use Rattle.std.proofs.Common.{◌≡◌, ℕ, ◌+◌, ◌*◌, ◌%◌, ◌<◌, ◌≤◌, List, ◌∷◌, arith}
use Rattle.bits.specs.Varint.{IsUleb}

pub short : (n : ℕ) (rest : List ℕ) → n < 128 → IsUleb (n ∷ rest) n 1
short n rest lt = record { begins = omega arith; within = omega arith; ten = omega arith; more = λ k below. absurd (omega arith); last = lt; number = omega arith; fits = omega arith }

pub two : (a b n : ℕ) (rest : List ℕ) → 128 ≤ a → b < 128 → a < 256 → n ≡ a % 128 + 128 * b → IsUleb (a ∷ b ∷ rest) n 2
two a b n rest high low byte is = record { begins = omega arith; within = omega arith; ten = omega arith; more = λ k below. let z : k ≡ 0 = omega arith in rw z high; last = low; number = omega arith; fits = omega arith }
