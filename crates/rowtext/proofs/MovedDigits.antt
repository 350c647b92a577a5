-- Digits that are written in room, and moved to where it begins.
use Rattle.std.proofs.Common.{◌≡◌, ℕ, ◌+◌, ◌-◌, ◌≤◌, List, ◌++◌, length, take, drop, sym, ap, ap₂, ◌∙◌, arith, length-take-le}
use Rattle.std.proofs.Math.Seq.{take-add, take-append_seam, take-append-add}
use Rattle.std.proofs.lemmas.List.{drop-take, take-take}
use Rattle.json.specs.Filled.{Placed}

pub digits_moved : (old mid new digits rest : List ℕ) (at from n : ℕ) → at ≤ from → length digits ≤ n → at ≤ length mid → take from mid ≡ take from old → drop from mid ≡ digits ++ rest
    → take (at + n) new ≡ take at mid ++ take n (drop from mid) → take (at + length digits) new ≡ take at old ++ digits
digits_moved old mid new digits rest at from n before few within same written moved =
    let k = length digits in
    let front : length (take at mid) ≡ at = length-take-le at mid within in
    let cut : take (at + k) new ≡ take (at + k) (take (at + n) new) = sym (take-take (at + k) (at + n) new (omega arith)) in
    let seam : take (at + k) (take at mid ++ take n (drop from mid)) ≡ take at mid ++ take k (take n (drop from mid)) =
    ap (λ (m : ℕ). take (m + k) (take at mid ++ take n (drop from mid))) (sym front) ∙ take-append-add (take at mid) (take n (drop from mid)) k in
    let first : take at mid ≡ take at old = sym (take-take at from mid before) ∙ ap (take at) same ∙ take-take at from old before in
    let last : take k (take n (drop from mid)) ≡ digits = take-take k n (drop from mid) few ∙ ap (take k) written ∙ take-append_seam digits rest in
    cut ∙ ap (take (at + k)) moved ∙ seam ∙ ap₂ (λ (a b : List ℕ). a ++ b) first last

-- digits that were written where they stand
pub digits_written : (old new digits rest : List ℕ) (at : ℕ) → at ≤ length new → take at new ≡ take at old → drop at new ≡ digits ++ rest → take (at + length digits) new ≡ take at old ++ digits
digits_written old new digits rest at within same written =
    take-add at (length digits) new ∙ ap₂ (λ (a b : List ℕ). a ++ b) same (ap (take (length digits)) written ∙ take-append_seam digits rest)

-- the front of a text of which more is placed
pub front_placed : (old new text : List ℕ) (at len n end : ℕ) → at ≤ length old → len ≤ n → n ≤ length text → Placed old new at (take n text) end → Placed old new at (take len text) (at + len)
front_placed old new text at len n end within few long placed =
    let front : length (take at old) ≡ at = length-take-le at old within in
    let ends : end ≡ at + n = placed.moved ∙ ap (λ (m : ℕ). at + m) (length-take-le n text long) in
    let cut : take (at + len) new ≡ take (at + len) (take (at + n) new) = sym (take-take (at + len) (at + n) new (omega (arith, few))) in
    let whole : take (at + n) new ≡ take at old ++ take n text = ap (λ (m : ℕ). take m new) (sym ends) ∙ placed.bytes in
    let seam : take (at + len) (take at old ++ take n text) ≡ take at old ++ take len (take n text) =
    ap (λ (m : ℕ). take (m + len) (take at old ++ take n text)) (sym front) ∙ take-append-add (take at old) (take n text) len in
    record {
      bytes = cut ∙ ap (take (at + len)) whole ∙ seam ∙ ap (λ (x : List ℕ). take at old ++ x) (take-take len n text few);
      moved = ap (λ (m : ℕ). at + m) (sym (length-take-le len text (omega (arith, few, long))));
      len = placed.len;
    }

-- bytes that are moved to the place of those before them
pub cut_placed : (bytes new : List ℕ) (from to len end : ℕ) → from ≤ to → to ≤ len → Placed bytes new from (take (len - to) (drop to bytes)) end → take end new ≡ take from (take len bytes) ++ drop to (take len bytes)
cut_placed bytes new from to len end forward within placed =
    let split : to + (len - to) ≡ len = omega (arith, within) in
    let last : drop to (take len bytes) ≡ take (len - to) (drop to bytes) = ap (λ (m : ℕ). drop to (take m bytes)) (sym split) ∙ drop-take to (len - to) bytes in
    placed.bytes ∙ ap₂ (λ (a b : List ℕ). a ++ b) (sym (take-take from len bytes (omega (arith, forward, within)))) (sym last)
