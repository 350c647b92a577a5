-- The bytes of a file before its footer.
use Rattle.std.proofs.Common.{◌≡◌, ℕ, ◌-◌, ◌≤◌, List, length, take, drop, ap, ◌∙◌, arith}
use Rattle.std.proofs.lemmas.List.{take_at}
use Rattle.byteorder.specs.Endian.{little_number}
use Rattle.footer.specs.File.{IsFramed}
use Rattle.footer.proofs.Frames.{parts, announced}

-- the front is what stands before a footer of the announced size
pub front_is : (bytes front footer : List ℕ) → IsFramed bytes front footer → (size : ℕ) → size ≡ little_number 4 (drop (length bytes - 8) bytes)
    → take (length bytes - 8 - size) (take (length bytes - 8) bytes) ≡ front
front_is bytes front footer p size is =
    let q = parts bytes front footer p in
    let a = announced bytes front footer p in
    let b = q.sized in
    let at : length front ≡ length bytes - 8 - size = omega (arith, a, b, is) in
    ap (take (length bytes - 8 - size)) q.head ∙ take_at front footer (length bytes - 8 - size) at

pub fits : (bytes front footer : List ℕ) → IsFramed bytes front footer → (size : ℕ) → size ≡ little_number 4 (drop (length bytes - 8) bytes) → (12 ≤ length bytes) × (size ≤ length bytes - 8)
fits bytes front footer p size is =
    let q = parts bytes front footer p in
    let a = announced bytes front footer p in
    let b = q.sized in
    (q.enough, omega (arith, a, b, is))
