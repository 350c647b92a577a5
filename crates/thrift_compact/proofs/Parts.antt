-- There is one of each value that holds no others, and one header of each kind; and headers begin with a byte.
use Rattle.std.proofs.Common.{◌≡◌, ◌⊎◌, ℕ, ◌+◌, ◌*◌, ◌<◌, ◌≤◌, List, length, take, drop, refl, sym, ap, subst, ◌∙◌, arith, inl, inr}
use Rattle.std.specs.Prelude.{ℤ, pos, negsuc, ◌+ℤ◌, ◌^◌, FitsSigned}
use Rattle.std.specs.Int.{w8, w64, cast_signed}
use Rattle.std.proofs.lemmas.List.{length-drop}
use Rattle.bits.specs.Varint.{zigzag_of}
use Rattle.bits.proofs.Facts.{one_uleb, one_zigzag}
use Rattle.thrift_compact.specs.Compact.{IsByte, IsSignedByte, IsDouble, IsBinary, IsSigned, IsShort, IsLong, IsFieldHead, IsLongList, IsListHead, IsMapHead}

pub one_byte : (bytes : List ℕ) (a b u v : ℕ) → IsByte bytes a u → IsByte bytes b v → (a ≡ b) × (u ≡ v)
one_byte bytes a b u v p q = (sym p.is ∙ q.is, p.one ∙ sym q.one)

pub one_signed_byte : (bytes : List ℕ) (a b : ℤ) (u v : ℕ) → IsSignedByte bytes a u → IsSignedByte bytes b v → (a ≡ b) × (u ≡ v)
one_signed_byte bytes a b u v p q =
    let o = one_byte bytes p.number q.number u v p.byte q.byte in
    (p.is ∙ ap (λ (n : ℕ). cast_signed w8 n) o.0 ∙ sym q.is, o.1)

pub one_double : (bytes a b : List ℕ) (u v : ℕ) → IsDouble bytes a u → IsDouble bytes b v → (a ≡ b) × (u ≡ v)
one_double bytes a b u v p q = (sym p.is ∙ q.is, p.total ∙ sym q.total)

pub one_signed : (bytes : List ℕ) (a b : ℤ) (u v : ℕ) → IsSigned bytes a u → IsSigned bytes b v → (a ≡ b) × (u ≡ v)
one_signed bytes a b u v p q = let o = one_uleb bytes (zigzag_of a) (zigzag_of b) u v p q in (one_zigzag a b o.0, o.1)

-- a number that a varint has takes 64 bits
pub signed_fits : (z : ℤ) → zigzag_of z < 2 ^ 64 → FitsSigned w64 z
signed_fits (pos n) h = record { sfits = omega (arith, h) }
signed_fits (negsuc n) h = record { sfits = omega (arith, h) }

pub one_binary : (bytes a b : List ℕ) (u v : ℕ) → IsBinary bytes a u → IsBinary bytes b v → (a ≡ b) × (u ≡ v)
one_binary bytes a b u v p q =
    let o = one_uleb bytes (length a) (length b) p.head q.head p.size q.size in
    let same : take (length a) (drop p.head bytes) ≡ take (length b) (drop q.head bytes) = rw (o.0, o.1) refl in
    (sym p.is ∙ same ∙ q.is, omega (arith, p.total, q.total, o.0, o.1))

-- ---- lists and sets

pub record SameHead (k n u l m v : ℕ) : Type 0 where
  pub code : k ≡ l
  pub size : n ≡ m
  pub used : u ≡ v

pub one_list_head : (bytes : List ℕ) (k n u l m v : ℕ) → IsListHead bytes k n u → IsListHead bytes l m v → SameHead k n u l m v
one_list_head bytes k n u l m v p q = go p.1 q.1
  where
    go : ((n ≤ 14) × IsByte bytes (16 * n + k) u) ⊎ IsLongList bytes k n u → ((m ≤ 14) × IsByte bytes (16 * m + l) v) ⊎ IsLongList bytes l m v → SameHead k n u l m v
    go (inl a) (inl b) = let o = one_byte bytes (16 * n + k) (16 * m + l) u v a.1 b.1 in record { code = omega (arith, o.0, p.0, q.0); size = omega (arith, o.0, p.0, q.0); used = o.1 }
    go (inl a) (inr b) = absurd (let o = one_byte bytes (16 * n + k) (240 + l) u 1 a.1 b.byte in omega (arith, o.0, p.0, q.0, a.0))
    go (inr a) (inl b) = absurd (let o = one_byte bytes (240 + k) (16 * m + l) 1 v a.byte b.1 in omega (arith, o.0, p.0, q.0, b.0))
    go (inr a) (inr b) =
        let o = one_byte bytes (240 + k) (240 + l) 1 1 a.byte b.byte in
        let r = one_uleb (drop 1 bytes) n m a.rest b.rest a.is b.is in
        record { code = omega (arith, o.0); size = r.0; used = omega (arith, a.total, b.total, r.1) }

pub list_head_within : (bytes : List ℕ) (k n u : ℕ) → IsListHead bytes k n u → (1 ≤ u) × (u ≤ length bytes)
list_head_within bytes k n u p = go p.1
  where
    go : ((n ≤ 14) × IsByte bytes (16 * n + k) u) ⊎ IsLongList bytes k n u → (1 ≤ u) × (u ≤ length bytes)
    go (inl a) = (omega (arith, a.1.one), omega (arith, a.1.some, a.1.one))
    go (inr a) = (omega (arith, a.total), omega (arith, a.total, a.byte.some, a.is.within, length-drop 1 bytes))

pub list_head_byte : (bytes : List ℕ) (k n used : ℕ) → IsListHead bytes k n used → (b : ℕ) × IsByte bytes b 1
list_head_byte bytes k n used h = go h.1
  where
    go : ((n ≤ 14) × IsByte bytes (16 * n + k) used) ⊎ IsLongList bytes k n used → (b : ℕ) × IsByte bytes b 1
    go (inl a) = (16 * n + k, record { some = a.1.some; is = a.1.is; one = refl })
    go (inr a) = (240 + k, a.byte)

pub long_list : (bytes : List ℕ) (k n used b : ℕ) → IsByte bytes b 1 → 240 ≤ b → IsListHead bytes k n used → IsLongList bytes k n used
long_list bytes k n used b byte big h = go h.1
  where
    go : ((n ≤ 14) × IsByte bytes (16 * n + k) used) ⊎ IsLongList bytes k n used → IsLongList bytes k n used
    go (inl a) = absurd (let o = one_byte bytes b (16 * n + k) 1 used byte a.1 in omega (arith, o.0, a.0, h.0))
    go (inr a) = a

-- ---- maps

pub record SameMapHead (k l n u i j m v : ℕ) : Type 0 where
  pub key : k ≡ i
  pub value : l ≡ j
  pub size : n ≡ m
  pub used : u ≡ v

pub one_map_head : (bytes : List ℕ) (k l n u i j m v : ℕ) → IsMapHead bytes k l n u → IsMapHead bytes i j m v → SameMapHead k l n u i j m v
one_map_head bytes k l n u i j m v p q =
    let r = one_uleb bytes n m p.head q.head p.size q.size in
    let b = subst (λ (h : ℕ). IsByte (drop h bytes) (16 * i + j) 1) (sym r.1) q.byte in
    let o = one_byte (drop p.head bytes) (16 * k + l) (16 * i + j) 1 1 p.byte b in
    record { key = omega (arith, o.0, p.value, q.value); value = omega (arith, o.0, p.value, q.value); size = r.0; used = omega (arith, p.total, q.total, r.1) }

-- ---- fields

pub record SameField (id jd : ℤ) (k u l v : ℕ) : Type 0 where
  pub name : id ≡ jd
  pub code : k ≡ l
  pub used : u ≡ v

pub one_field_head : (previous : ℤ) (bytes : List ℕ) (id jd : ℤ) (k u l v : ℕ) → IsFieldHead previous bytes id k u → IsFieldHead previous bytes jd l v → SameField id jd k u l v
one_field_head previous bytes id jd k u l v p q = go p.3 q.3
  where
    go : IsShort previous bytes id k u ⊎ IsLong bytes id k u → IsShort previous bytes jd l v ⊎ IsLong bytes jd l v → SameField id jd k u l v
    go (inl a) (inl b) =
        let o = one_byte bytes (16 * a.step + k) (16 * b.step + l) u v a.byte b.byte in
        let s : a.step ≡ b.step = omega (arith, o.0, p.1, q.1) in
        record { name = a.is ∙ ap (λ (n : ℕ). previous +ℤ pos n) s ∙ sym b.is; code = omega (arith, o.0, p.1, q.1); used = o.1 }
    go (inl a) (inr b) = absurd (let o = one_byte bytes (16 * a.step + k) l u 1 a.byte b.byte in omega (arith, o.0, p.1, q.1, a.low))
    go (inr a) (inl b) = absurd (let o = one_byte bytes k (16 * b.step + l) 1 v a.byte b.byte in omega (arith, o.0, p.1, q.1, b.low))
    go (inr a) (inr b) =
        let o = one_byte bytes k l 1 1 a.byte b.byte in
        let r = one_signed (drop 1 bytes) id jd a.rest b.rest a.is b.is in
        record { name = r.0; code = o.0; used = omega (arith, a.total, b.total, r.1) }

-- no field begins with the byte 0
pub not_end : (previous : ℤ) (bytes : List ℕ) (id : ℤ) (k u v : ℕ) → IsFieldHead previous bytes id k u → IsByte bytes 0 v → ⊥
not_end previous bytes id k u v p q = go p.3
  where
    go : IsShort previous bytes id k u ⊎ IsLong bytes id k u → ⊥
    go (inl a) = omega (arith, a.byte.is, q.is, a.low)
    go (inr a) = omega (arith, a.byte.is, q.is, p.0)

pub field_head_within : (previous : ℤ) (bytes : List ℕ) (id : ℤ) (k u : ℕ) → IsFieldHead previous bytes id k u → (1 ≤ u) × (u ≤ length bytes)
field_head_within previous bytes id k u p = go p.3
  where
    go : IsShort previous bytes id k u ⊎ IsLong bytes id k u → (1 ≤ u) × (u ≤ length bytes)
    go (inl a) = (omega (arith, a.byte.one), omega (arith, a.byte.some, a.byte.one))
    go (inr a) = (omega (arith, a.total), omega (arith, a.total, a.byte.some, a.is.within, length-drop 1 bytes))

pub field_head_byte : (previous : ℤ) (bytes : List ℕ) (id : ℤ) (k used : ℕ) → IsFieldHead previous bytes id k used → (b : ℕ) × IsByte bytes b 1
field_head_byte previous bytes id k used h = go h.3
  where
    go : IsShort previous bytes id k used ⊎ IsLong bytes id k used → (b : ℕ) × IsByte bytes b 1
    go (inl a) = (16 * a.step + k, record { some = a.byte.some; is = a.byte.is; one = refl })
    go (inr a) = (k, a.byte)

pub long_field : (previous : ℤ) (bytes : List ℕ) (id : ℤ) (k used b : ℕ) → IsByte bytes b 1 → b < 16 → IsFieldHead previous bytes id k used → IsLong bytes id k used
long_field previous bytes id k used b byte small h = go h.3
  where
    go : IsShort previous bytes id k used ⊎ IsLong bytes id k used → IsLong bytes id k used
    go (inl a) = absurd (omega (arith, byte.is, a.byte.is, a.low))
    go (inr a) = a
