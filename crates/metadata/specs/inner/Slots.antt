-- What the known fields of a record hold while the fields of a struct are taken one after the other.
use Rattle.std.proofs.Common.{ap}
use Rattle.std.specs.Prelude.{◌≡◌, ℕ, ℤ, Option, Some, None, List, [], ◌∷◌, ◌++◌, option_map, option_and_then, if◌then◌else◌}
use Rattle.std.specs.Ordering.{int_eq}
use Rattle.thrift_compact.specs.Tree.{Node, flag, Fields}
use Rattle.thrift_compact.specs.Values.{folded}

-- a field of the first place's id is kept there, if it is read; any other is taken by the places after it
abbrev pub slot_step : {X S : Type 0} → (Node → Option X) → (S → ℤ → Node → Option S) → (ℤ × Option X) × S → ℤ → Node → Option ((ℤ × Option X) × S)
slot_step read others s id x = if int_eq id s.0.0 then option_map (λ v. ((s.0.0, Some v), s.1)) (read x) else option_map (λ t. (s.0, t)) (others s.1 id x)

-- any field is skipped
abbrev pub other_step : Unit {0} → ℤ → Node → Option (Unit {0})
other_step s id x = Some s

-- what a place holds, and then what the places after it do
abbrev pub known_row : {X S R : Type 0} → (S → Option R) → (ℤ × Option X) × S → Option (Option X × R)
known_row others s = option_map (λ r. (s.0.1, r)) (others s.1)

-- the value that a place holds, and then what the places after it do; None if it holds none
abbrev pub needed_row : {X S R : Type 0} → (S → Option R) → (ℤ × Option X) × S → Option (X × R)
needed_row others s = option_and_then (λ v. option_map (λ r. (v, r)) (others s.1)) s.0.1

-- nothing
abbrev pub other_row : Unit {0} → Option (Unit {0})
other_row s = Some s

-- what all places hold after the fields of a struct; None if a field cannot be read, or a needed one is absent
abbrev pub row_of : {S R : Type 0} → (S → ℤ → Node → Option S) → (S → Option R) → S → Fields → Option R
row_of step row start fs = option_and_then row (folded step start fs)

-- one more element of a list, if it is read
abbrev pub item_step : {X : Type 0} → (Node → Option X) → List X → Node → Option (List X)
item_step read xs x = option_map (λ v. xs ++ v ∷ []) (read x)

-- a boolean element that is not read is not taken
pub no_item : {X : Type 0} (read : Node → Option X) (xs : List X) (b : ℕ) → read (flag b) ≡ None → item_step read xs (flag b) ≡ None
no_item read xs b e = ap (option_map (λ v. xs ++ v ∷ [])) e
