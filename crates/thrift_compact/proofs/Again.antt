-- What was written stands, and nothing else does.
use Rattle.std.proofs.Common.{◌≡◌, ℕ, ◌+◌, List, ◌++◌, length, drop, refl, sym, ap, subst, ◌∙◌, arith, append_assoc}
use Rattle.std.proofs.lemmas.List.{length-append, drop_at}
use Rattle.bits.specs.Codec.{Appends}
use Rattle.thrift_compact.specs.Tree.{Fields}
use Rattle.thrift_compact.specs.Compact.{IsThrift}
use Rattle.thrift_compact.proofs.One.{one_thrift}

-- what stands behind the old bytes is what was written
text_is : (Stands : List ℕ → ℕ → Type 0) (most : ℕ) (old new : List ℕ) (a : Appends Stands most old new) → drop (length old) new ≡ a.text
text_is Stands most old new a = ap (drop (length old)) a.joined ∙ drop_at old a.text (length old) refl

pub stands_again : (fields : Fields) (most : ℕ) (old new more : List ℕ) → Appends (λ bytes used. IsThrift bytes fields used) most old new → IsThrift (drop (length old) new ++ more) fields (length (drop (length old) new))
stands_again fields most old new more a = subst (λ (t : List ℕ). IsThrift (t ++ more) fields (length t)) (sym (text_is (λ bytes used. IsThrift bytes fields used) most old new a)) (a.stands more)

pub is_again : (fields seen : Fields) (most used : ℕ) (old new more : List ℕ) → Appends (λ bytes used. IsThrift bytes fields used) most old new → IsThrift (drop (length old) new ++ more) seen used → (seen ≡ fields) × (used ≡ length (drop (length old) new))
is_again fields seen most used old new more a s =
    let text = drop (length old) new in
    one_thrift (text ++ more) seen fields used (length text) s (stands_again fields most old new more a)

-- the same where more was put behind it
pub is_same : (fields seen : Fields) (most used : ℕ) (old new more : List ℕ) → Appends (λ bytes used. IsThrift bytes fields used) most old new → IsThrift (drop (length old) (new ++ more)) seen used → (seen ≡ fields) × (length (new ++ more) ≡ length old + used + length more)
is_same fields seen most used old new more a s =
    let whole : new ++ more ≡ old ++ (a.text ++ more) = ap (λ (t : List ℕ). t ++ more) a.joined ∙ append_assoc old a.text more in
    let behind : drop (length old) (new ++ more) ≡ a.text ++ more = ap (λ (t : List ℕ). drop (length old) t) whole ∙ drop_at old (a.text ++ more) (length old) refl in
    let one = one_thrift (a.text ++ more) seen fields used (length a.text) (subst (λ (t : List ℕ). IsThrift t seen used) behind s) (a.stands more) in
    (one.0, omega (arith, ap length whole, length-append old (a.text ++ more), length-append a.text more, one.1))
