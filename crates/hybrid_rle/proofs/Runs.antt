-- A run at the front of bytes is the only one there.
use Rattle.std.proofs.Common.{◌≡◌, ℕ, ◌+◌, ◌*◌, ◌<◌, ◌≤◌, List, [], ◌++◌, length, take, drop, replicate, refl, sym, ap, subst, ◌∙◌, arith, inl, inr, append_assoc}
use Rattle.std.proofs.lemmas.List.{take_at, drop_at, length-append, append-nil}
use Rattle.std.proofs.Math.Nat.{mul-le-mul_right}
use Rattle.std.proofs.lemmas.Bool.{cases_lt}
use Rattle.bits.specs.Bits.{IsPacked}
use Rattle.hybrid_rle.proofs.Varints.{one_varint}
use Rattle.bits.proofs.Facts.{one_packing}
use Rattle.hybrid_rle.specs.Hybrid.{little_endian, IsRepeated, IsPackedWhole, IsPackedCut, IsBody, IsRun}

-- what two runs at one place share
pub record SameRun (a r xs b s ys : List ℕ) : Type 0 where
  pub text : a ≡ b
  pub rest : r ≡ s
  pub run : xs ≡ ys

same_parts : (a r xs b s ys : List ℕ) → length a ≡ length b → a ++ r ≡ b ++ s → (a ≡ b → xs ≡ ys) → SameRun a r xs b s ys
same_parts a r xs b s ys size same then =
    let text : a ≡ b = sym (take_at a r (length a) refl) ∙ ap (λ (x : List ℕ). take (length a) x) same ∙ take_at b s (length a) (sym size) in
    record {
      text = text;
      rest = sym (drop_at a r (length a) refl) ∙ ap (λ (x : List ℕ). drop (length a) x) same ∙ drop_at b s (length a) (sym size);
      run = then text;
    }

repeated_one : (w h : ℕ) (a r xs b s ys : List ℕ) → IsRepeated w h a xs → IsRepeated w h b ys → a ++ r ≡ b ++ s → SameRun a r xs b s ys
repeated_one w h a r xs b s ys p q same =
    let count : p.count ≡ q.count = omega (arith, p.even, q.even) in
    same_parts a r xs b s ys (p.size ∙ sym q.size) same
    (λ e. p.stands_for ∙ ap (λ (n : ℕ). replicate n (little_endian a)) count ∙ ap (λ (t : List ℕ). replicate q.count (little_endian t)) e ∙ sym q.stands_for)

whole_one : (w h : ℕ) (a r xs b s ys : List ℕ) → IsPackedWhole w h a xs → IsPackedWhole w h b ys → a ++ r ≡ b ++ s → SameRun a r xs b s ys
whole_one w h a r xs b s ys p q same =
    let groups : p.groups ≡ q.groups = omega (arith, p.odd, q.odd) in
    same_parts a r xs b s ys (p.size ∙ ap (λ (g : ℕ). g * w) groups ∙ sym q.size) same
    (λ e. one_packing b xs ys w (p.count ∙ ap (λ (g : ℕ). 8 * g) groups ∙ sym q.count) (subst (λ (t : List ℕ). IsPacked t w xs) e p.stands_for) q.stands_for)

-- fewer of a width than more of it
pub fewer : (w m n total : ℕ) → m * w ≤ total → total < (n + 1) * w → m ≤ n
fewer w m n total le lt =
    elim (cases_lt n m) [
      | inl less ↦ let more : (n + 1) * w ≤ m * w = mul-le-mul_right w (omega arith) in absurd (omega arith)
      | inr le ↦ le
    ]

cut_one : (w h : ℕ) (a xs b ys : List ℕ) → IsPackedCut w h a xs → IsPackedCut w h b ys → a ++ [] ≡ b ++ [] → SameRun a [] xs b [] ys
cut_one w h a xs b ys p q same =
    let text : a ≡ b = sym (append-nil a) ∙ same ∙ append-nil b in
    let size : length a ≡ length b = ap length text in
    let le : length xs ≤ length ys = fewer w (length xs) (length ys) (8 * length b) (omega (arith, p.stands_for.within, size)) q.every in
    let ge : length ys ≤ length xs = fewer w (length ys) (length xs) (8 * length a) (omega (arith, q.stands_for.within, size)) p.every in
    record { text = text; rest = refl; run = one_packing b xs ys w (omega arith) (subst (λ (t : List ℕ). IsPacked t w xs) text p.stands_for) q.stands_for }

-- what is whole is not cut
not_both : (w h : ℕ) (a r xs b ys : List ℕ) → IsPackedWhole w h a xs → IsPackedCut w h b ys → a ++ r ≡ b ++ [] → ⊥
not_both w h a r xs b ys p q same =
    let groups : p.groups ≡ q.groups = omega (arith, p.odd, q.odd) in
    let size : length a ≡ q.groups * w = p.size ∙ ap (λ (g : ℕ). g * w) groups in
    let less = q.short in
    let sum : length a + length r ≡ length b + 0 = sym (length-append a r) ∙ ap length same ∙ length-append b [] in
    omega arith

pub body_one : (w h : ℕ) (a r xs b s ys : List ℕ) → IsBody w h a r xs → IsBody w h b s ys → a ++ r ≡ b ++ s → SameRun a r xs b s ys
body_one w h a r xs b s ys (inl p) (inl q) same = repeated_one w h a r xs b s ys p q same
body_one w h a r xs b s ys (inl p) (inr (inl q)) same = absurd (omega (arith, p.even, q.odd))
body_one w h a r xs b s ys (inl p) (inr (inr q)) same = absurd (omega (arith, p.even, q.1.odd))
body_one w h a r xs b s ys (inr (inl p)) (inl q) same = absurd (omega (arith, p.odd, q.even))
body_one w h a r xs b s ys (inr (inl p)) (inr (inl q)) same = whole_one w h a r xs b s ys p q same
body_one w h a r xs b s ys (inr (inl p)) (inr (inr q)) same = absurd (not_both w h a r xs b ys p q.1 (same ∙ ap (λ (t : List ℕ). b ++ t) q.0))
body_one w h a r xs b s ys (inr (inr p)) (inl q) same = absurd (omega (arith, p.1.odd, q.even))
body_one w h a r xs b s ys (inr (inr p)) (inr (inl q)) same = absurd (not_both w h b s ys a xs q p.1 (sym same ∙ ap (λ (t : List ℕ). a ++ t) p.0))
body_one w h a r xs b s ys (inr (inr p)) (inr (inr q)) same =
    let one = cut_one w h a xs b ys p.1 q.1 (ap (λ (t : List ℕ). a ++ t) (sym p.0) ∙ same ∙ ap (λ (t : List ℕ). b ++ t) q.0) in
    record { text = one.text; rest = p.0 ∙ sym q.0; run = one.run }

pub run_one : (w : ℕ) (a r xs b s ys : List ℕ) → IsRun w a r xs → IsRun w b s ys → a ++ r ≡ b ++ s → SameRun a r xs b s ys
run_one w a r xs b s ys p q same =
    let left : a ++ r ≡ p.varint ++ (p.body ++ r) = ap (λ (t : List ℕ). t ++ r) p.spelled ∙ append_assoc p.varint p.body r in
    let right : b ++ s ≡ q.varint ++ (q.body ++ s) = ap (λ (t : List ℕ). t ++ s) q.spelled ∙ append_assoc q.varint q.body s in
    let header = one_varint p.varint (p.body ++ r) q.varint (q.body ++ s) p.header q.header p.says q.says (sym left ∙ same ∙ right) in
    let body = body_one w q.header p.body r xs q.body s ys (subst (λ (h : ℕ). IsBody w h p.body r xs) header.number p.announced) q.announced header.rest in
    record {
      text = p.spelled ∙ ap (λ (t : List ℕ). t ++ p.body) header.text ∙ ap (λ (t : List ℕ). q.varint ++ t) body.text ∙ sym q.spelled;
      rest = body.rest;
      run = body.run;
    }
