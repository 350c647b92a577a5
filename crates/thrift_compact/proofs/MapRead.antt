-- What stands at the front of a map whose size is read.
use Rattle.std.proofs.Common.{◌≡◌, ℕ, suc, ◌≤◌, List, drop, refl, subst, arith, inl, inr}
use Rattle.bits.specs.Varint.{IsUleb}
use Rattle.bits.proofs.Facts.{one_uleb}
use Rattle.thrift_compact.specs.Tree.{Node, Pairs, nest, pairs_nest, count_pairs}
use Rattle.thrift_compact.specs.Compact.{IsMapHead, IsValue, ArePairs}
use Rattle.thrift_compact.specs.inner.Reading.{ValueOf}
use Rattle.thrift_compact.proofs.NodeTypes.{is_map}

pub record HasPairs (bytes : List ℕ) (size left : ℕ) : Type 0 where
  pub key : ℕ
  pub value : ℕ
  pub pairs : Pairs
  pub front : ℕ
  pub rest : ℕ
  pub head : IsMapHead bytes key value size front
  pub many : count_pairs pairs ≡ size
  pub shallow : suc (pairs_nest pairs) ≤ left
  pub stand : ArePairs pairs key value (drop front bytes) rest

pub has_pairs : (x : Node) (bytes : List ℕ) (used size head left : ℕ) → IsUleb bytes size head → (size ≡ 0 → ⊥) → ValueOf 11 left bytes x used → HasPairs bytes size left
has_pairs x bytes used size head left uleb some s = elim (is_map x s.0) [
  | inl i ↦ absurd (some ((one_uleb bytes size 0 head used uleb (subst (λ z. IsValue z bytes used) i s.2)).0))
  | inr i ↦
      let r = subst (λ z. IsValue z bytes used) i.1.1.1 s.2 in
      let n : nest x ≡ suc (pairs_nest i.1.1.0) = subst (λ z. nest x ≡ nest z) i.1.1.1 refl in
      let o = one_uleb bytes (count_pairs i.1.1.0) size r.2.head head r.2.size uleb in
      record {
        key = i.0;
        value = i.1.0;
        pairs = i.1.1.0;
        front = r.0;
        rest = r.1;
        head = subst (λ (m : ℕ). IsMapHead bytes i.0 i.1.0 m r.0) o.0 r.2;
        many = o.0;
        shallow = omega (arith, n, s.1);
        stand = r.3;
      }
]

-- a map begins with a size
pub map_size : (x : Node) (bytes : List ℕ) (used left : ℕ) → ValueOf 11 left bytes x used → (n u : ℕ) × IsUleb bytes n u
map_size x bytes used left s = elim (is_map x s.0) [
  | inl i ↦ (0, used, subst (λ z. IsValue z bytes used) i s.2)
  | inr i ↦
      let r = subst (λ z. IsValue z bytes used) i.1.1.1 s.2 in
      (count_pairs i.1.1.0, r.2.head, r.2.size)
]
