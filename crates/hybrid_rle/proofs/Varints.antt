-- A varint before other bytes.
use Rattle.std.proofs.Common.{◌≡◌, ℕ, ◌-◌, ◌<◌, List, ◌++◌, length, take, drop, refl, sym, ap, ◌∙◌, arith}
use Rattle.std.proofs.lemmas.List.{length-take-le, get_or-take, take_at, drop_at, take-take}
use Rattle.bits.specs.Varint.{IsUleb}
use Rattle.bits.proofs.Facts.{one_uleb, uleb_stays}

pub uleb_text : (bytes : List ℕ) (n u : ℕ) → IsUleb bytes n u → IsUleb (take u bytes) n (length (take u bytes))
uleb_text bytes n u p =
    let some = p.begins in
    let size : length (take u bytes) ≡ u = length-take-le u bytes p.within in
    rw size (record {
      begins = p.begins;
      within = omega (arith, size);
      ten = p.ten;
      more = λ k lt. let below : k < u = omega arith in rw (get_or-take u bytes k 0 below) (p.more k lt);
      last = let below : u - 1 < u = omega arith in rw (get_or-take u bytes (u - 1) 0 below) p.last;
      number = rw (take-take u u bytes (omega arith)) p.number;
      fits = p.fits;
    })

-- what two readings of a varint and the bytes after it share
pub record SameParts (n m : ℕ) (a r b s : List ℕ) : Type 0 where
  pub number : n ≡ m
  pub text : a ≡ b
  pub rest : r ≡ s

pub one_varint : (a r b s : List ℕ) (n m : ℕ) → IsUleb a n (length a) → IsUleb b m (length b) → a ++ r ≡ b ++ s → SameParts n m a r b s
one_varint a r b s n m p q same =
    let left = uleb_stays a r n (length a) p in
    let right : IsUleb (a ++ r) m (length b) = rw same (uleb_stays b s m (length b) q) in
    let one = one_uleb (a ++ r) n m (length a) (length b) left right in
    record {
      number = one.0;
      text = sym (take_at a r (length a) refl) ∙ ap (λ (x : List ℕ). take (length a) x) same ∙ take_at b s (length a) (sym one.1);
      rest = sym (drop_at a r (length a) refl) ∙ ap (λ (x : List ℕ). drop (length a) x) same ∙ drop_at b s (length a) (sym one.1);
    }
