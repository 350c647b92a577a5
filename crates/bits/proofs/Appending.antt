-- What is written piece by piece.
use Rattle.std.proofs.Common.{◌≡◌, ℕ, ◌+◌, List, [], ◌∷◌, ◌++◌, length, drop, refl, sym, ap, subst, ◌∙◌, arith, append_assoc}
use Rattle.std.proofs.lemmas.List.{length-append, drop_at}
use Rattle.bits.specs.Codec.{Appends, InTurn}
use Rattle.bits.proofs.Turns.{turn_push}

-- one piece behind the other
pub appends_both : (First Second Both : List ℕ → ℕ → Type 0) (most more : ℕ) (old mid new : List ℕ)
    → ((bytes : List ℕ) (u v : ℕ) → First bytes u → Second (drop u bytes) v → Both bytes (u + v))
    → Appends First most old mid → Appends Second more mid new → Appends Both (most + more) old new
appends_both First Second Both most more old mid new joins p q =
    let text = p.text ++ q.text in
    let size : length text ≡ length p.text + length q.text = length-append p.text q.text in
    record {
      text = text;
      joined = q.joined ∙ ap (λ (t : List ℕ). t ++ q.text) p.joined ∙ append_assoc old p.text q.text;
      stands = λ rest.
          let whole : text ++ rest ≡ p.text ++ (q.text ++ rest) = append_assoc p.text q.text rest in
          let back : drop (length p.text) (text ++ rest) ≡ q.text ++ rest = ap (λ (t : List ℕ). drop (length p.text) t) whole ∙ drop_at p.text (q.text ++ rest) (length p.text) refl in
          let first = subst (λ (t : List ℕ). First t (length p.text)) (sym whole) (p.stands (q.text ++ rest)) in
          let second = subst (λ (t : List ℕ). Second t (length q.text)) (sym back) (q.stands rest) in
          subst (λ (n : ℕ). Both (text ++ rest) n) (sym size) (joins (text ++ rest) (length p.text) (length q.text) first second);
      short = omega (arith, size, p.short, q.short);
    }

-- one more value behind those that stand in turn
pub appends_turn : {Y : Type 0} (Each : List ℕ → Y → ℕ → Type 0) (ys : List Y) (y : Y) (most more : ℕ) (old mid new : List ℕ)
    → Appends (λ bytes used. InTurn Each bytes ys used) most old mid → Appends (λ bytes used. Each bytes y used) more mid new → Appends (λ bytes used. InTurn Each bytes (ys ++ y ∷ []) used) (most + more) old new
appends_turn {Y} Each ys y most more old mid new p q =
    appends_both (λ bytes used. InTurn Each bytes ys used) (λ bytes used. Each bytes y used) (λ bytes used. InTurn Each bytes (ys ++ y ∷ []) used) most more old mid new (λ bytes u v. turn_push Each ys y bytes u v) p q
