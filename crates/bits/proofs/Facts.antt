-- What holds of varints, zigzag and packed numbers, for the crates above too.
use Rattle.std.proofs.Common.{◌≡◌, ℕ, ◌-◌, ◌≤◌, List, ◌++◌, length, take, sym, ap, ◌∙◌, arith, inl, inr}
use Rattle.std.specs.Prelude.{ℤ, pos, negsuc}
use Rattle.std.proofs.lemmas.List.{length-append, get_or_append_left, take-append-le, ext_get_or}
use Rattle.std.proofs.lemmas.Bool.{cases_lt}
use Rattle.bits.specs.Varint.{groups, IsUleb, zigzag_of}
use Rattle.bits.specs.Bits.{IsPacked}

ends_first : (bytes : List ℕ) (m n u v : ℕ) → IsUleb bytes m u → IsUleb bytes n v → u ≤ v
ends_first bytes m n u v p q =
    elim (cases_lt v u) [
      | inl lt ↦ absurd (let high = p.more (v - 1) (omega (arith, q.begins)) in let low = q.last in omega (arith, high, low))
      | inr le ↦ le
    ]

-- a front of the bytes is at most one varint
pub one_uleb : (bytes : List ℕ) (m n u v : ℕ) → IsUleb bytes m u → IsUleb bytes n v → (m ≡ n) × (u ≡ v)
one_uleb bytes m n u v p q =
    let le = ends_first bytes m n u v p q in
    let ge = ends_first bytes n m v u q p in
    let same : u ≡ v = omega (arith, le, ge) in
    (p.number ∙ ap (λ (k : ℕ). groups (take k bytes)) same ∙ sym q.number, same)

-- a varint stays one, whatever follows
pub uleb_stays : (bytes more : List ℕ) (n u : ℕ) → IsUleb bytes n u → IsUleb (bytes ++ more) n u
uleb_stays bytes more n u p = record {
  begins = p.begins;
  within = omega (arith, p.within, length-append bytes more);
  ten = p.ten;
  more = λ k lt. rw (get_or_append_left bytes more 0 k (omega (arith, p.within))) (p.more k lt);
  last = rw (get_or_append_left bytes more 0 (u - 1) (omega (arith, p.within, p.begins))) p.last;
  number = rw (take-append-le u bytes more p.within) p.number;
  fits = p.fits;
}

-- a place in zigzag is that of one number
pub one_zigzag : (a b : ℤ) → zigzag_of a ≡ zigzag_of b → a ≡ b
one_zigzag (pos m) (pos n) e = ap pos (omega arith)
one_zigzag (pos m) (negsuc n) e = absurd (omega arith)
one_zigzag (negsuc m) (pos n) e = absurd (omega arith)
one_zigzag (negsuc m) (negsuc n) e = ap negsuc (omega arith)

-- bytes hold at most one list of n numbers of some width
pub one_packing : (bytes xs ys : List ℕ) (w : ℕ) → length xs ≡ length ys → IsPacked bytes w xs → IsPacked bytes w ys → xs ≡ ys
one_packing bytes xs ys w same p q = ext_get_or 0 xs ys same (λ i lt. p.each i lt ∙ sym (q.each i (omega (arith, same))))
