-- Which values have a type, and what elements of a type are.
use Rattle.std.proofs.Common.{◌≡◌, ◌⊎◌, ℕ, ◌≤◌, List, refl, sym, ◌∙◌, arith, inl, inr}
use Rattle.std.specs.Prelude.{ℤ}
use Rattle.thrift_compact.specs.Tree.{Node, yes, no, flag, i8, i16, i32, i64, double, binary, list, set, empty_map, map, struct, Nodes, Pairs, Fields}
use Rattle.thrift_compact.specs.Compact.{IsElement, kind}

pub is_yes : (y : Node) → kind y ≡ 1 → y ≡ yes
is_yes yes e = refl
is_yes y e = absurd (omega arith)

pub is_no : (y : Node) → kind y ≡ 2 → y ≡ no
is_no no e = refl
is_no y e = absurd (omega arith)

pub is_flag : (y : Node) → kind y ≡ 16 → (b : ℕ) × (y ≡ flag b)
is_flag (flag b) e = (b, refl)
is_flag y e = absurd (omega arith)

pub is_i8 : (y : Node) → kind y ≡ 3 → (z : ℤ) × (y ≡ i8 z)
is_i8 (i8 z) e = (z, refl)
is_i8 y e = absurd (omega arith)

pub is_i16 : (y : Node) → kind y ≡ 4 → (z : ℤ) × (y ≡ i16 z)
is_i16 (i16 z) e = (z, refl)
is_i16 y e = absurd (omega arith)

pub is_i32 : (y : Node) → kind y ≡ 5 → (z : ℤ) × (y ≡ i32 z)
is_i32 (i32 z) e = (z, refl)
is_i32 y e = absurd (omega arith)

pub is_i64 : (y : Node) → kind y ≡ 6 → (z : ℤ) × (y ≡ i64 z)
is_i64 (i64 z) e = (z, refl)
is_i64 y e = absurd (omega arith)

pub is_double : (y : Node) → kind y ≡ 7 → (text : List ℕ) × (y ≡ double text)
is_double (double text) e = (text, refl)
is_double y e = absurd (omega arith)

pub is_binary : (y : Node) → kind y ≡ 8 → (text : List ℕ) × (y ≡ binary text)
is_binary (binary text) e = (text, refl)
is_binary y e = absurd (omega arith)

pub is_list : (y : Node) → kind y ≡ 9 → (k : ℕ) × ((xs : Nodes) × (y ≡ list k xs))
is_list (list k xs) e = (k, (xs, refl))
is_list y e = absurd (omega arith)

pub is_set : (y : Node) → kind y ≡ 10 → (k : ℕ) × ((xs : Nodes) × (y ≡ set k xs))
is_set (set k xs) e = (k, (xs, refl))
is_set y e = absurd (omega arith)

-- a map without pairs, or one with pairs
pub is_map : (y : Node) → kind y ≡ 11 → (y ≡ empty_map) ⊎ ((k : ℕ) × ((v : ℕ) × ((ps : Pairs) × (y ≡ map k v ps))))
is_map empty_map e = inl refl
is_map (map k v ps) e = inr (k, (v, (ps, refl)))
is_map y e = absurd (omega arith)

pub is_struct : (y : Node) → kind y ≡ 12 → (fs : Fields) × (y ≡ struct fs)
is_struct (struct fs) e = (fs, refl)
is_struct y e = absurd (omega arith)

element_code : (k : ℕ) (x : Node) → IsElement k x → ((kind x ≡ 16) × (k ≤ 2)) ⊎ ((kind x ≡ k) × (3 ≤ k))
element_code k yes e = absurd e
element_code k no e = absurd e
element_code k (flag b) (inl e) = inl (refl, omega arith)
element_code k (flag b) (inr e) = inl (refl, omega arith)
element_code k x e = inr (sym e, omega arith)

-- two elements of a list have one type
pub alike : (k : ℕ) (x y : Node) → IsElement k x → IsElement k y → kind x ≡ kind y
alike k x y p q = go (element_code k x p) (element_code k y q)
  where
    go : ((kind x ≡ 16) × (k ≤ 2)) ⊎ ((kind x ≡ k) × (3 ≤ k)) → ((kind y ≡ 16) × (k ≤ 2)) ⊎ ((kind y ≡ k) × (3 ≤ k)) → kind x ≡ kind y
    go (inl a) (inl b) = a.0 ∙ sym b.0
    go (inl a) (inr b) = absurd (omega arith)
    go (inr a) (inl b) = absurd (omega arith)
    go (inr a) (inr b) = a.0 ∙ sym b.0
