-- What the contracts see of a text in a buffer.
use Rattle.std.specs.Prelude.{ℕ, List, refl}
use Rattle.std.specs.Coded.{Coded, code_by, coded×, coded_list, coded_ℕ}

-- the text, and for how many more bytes there is room
pub record Room : Type 0 where
  pub items : List ℕ
  pub ready : ℕ

-- the code of a text and its room
abbrev pub room_code : Coded Room
room_code = code_by (List ℕ × ℕ) (coded× (coded_list coded_ℕ) coded_ℕ) (λ r. (r.items, r.ready)) (λ p. record { items = p.0; ready = p.1 }) (λ _. refl)
