-- The text of an object with the digits of bytes.
use Rattle.std.proofs.Common.{◌≡◌, ℕ, List, [], ◌∷◌, ◌++◌, refl, sym, ap, ◌∙◌, append_assoc}
use Rattle.json.specs.Print.{escape_byte, quoted}
use Rattle.serde_json.specs.Written.{compact_text}
use Rattle.hex.specs.Hex.{encode_lower}
use Rattle.rowtext.specs.Json.{hex_json}

-- {"hex":
abbrev pub opened : List ℕ
opened = 123 ∷ 34 ∷ 104 ∷ 101 ∷ 120 ∷ 34 ∷ 58 ∷ []

hex_text : (s : List ℕ) → compact_text (hex_json s) ≡ opened ++ (quoted (encode_lower s) ++ 125 ∷ [])
unfolding escape_byte
hex_text s = refl

pub hex_put : (old a b new s : List ℕ) → a ≡ old ++ opened → b ≡ a ++ quoted (encode_lower s) → new ≡ b ++ 125 ∷ [] → new ≡ old ++ compact_text (hex_json s)
hex_put old a b new s p q r =
    let digits = quoted (encode_lower s) in
    r ∙ ap (λ (x : List ℕ). x ++ 125 ∷ []) (q ∙ ap (λ (x : List ℕ). x ++ digits) p) ∙ append_assoc (old ++ opened) digits (125 ∷ []) ∙ append_assoc old opened (digits ++ 125 ∷ [])
    ∙ ap (λ (x : List ℕ). old ++ x) (sym (hex_text s))
