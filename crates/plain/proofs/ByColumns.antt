-- Rows of bytes, written column by column.
use Rattle.std.proofs.Common.{◌≡◌, ℕ, ◌+◌, ◌*◌, ◌<◌, List, ◌++◌, length, get_or, take, drop, sym, ap, ◌∙◌, arith, inl, inr, slice_index}
use Rattle.std.proofs.lemmas.Bool.{cases_lt}
use Rattle.std.proofs.lemmas.Nat.{mul-add-lt}
use Rattle.std.proofs.lemmas.List.{length-drop, length-take-le, get_or-drop, take-append-drop, ext_get_or, get_or_append_left}
use Rattle.plain.specs.inner.ByColumns.{AppendsColumns}

-- one more column is written
pub column_more : (rows columns column start : ℕ) (body room new : List ℕ) → ((p : ℕ) → p < start + column * rows → slice_index new p ≡ slice_index room p)
    → ((r : ℕ) → r < rows → slice_index new (start + column * rows + r) ≡ slice_index body (r * columns + column))
    → ((r c : ℕ) → r < rows → c < column → slice_index room (start + (c * rows + r)) ≡ slice_index body (r * columns + c))
    → (r c : ℕ) → r < rows → c < column + 1 → slice_index new (start + (c * rows + r)) ≡ slice_index body (r * columns + c)
column_more rows columns column start body room new before here so_far r c lt few =
    elim (cases_lt c column) [
      | inl less ↦
          let place : c * rows + r < rows * column = mul-add-lt c rows r column less lt in
          let same : rows * column ≡ column * rows = omega arith in
          before (start + (c * rows + r)) (omega (arith, place, same)) ∙ so_far r c lt less
      | inr past ↦
          let is : c ≡ column = omega (arith, few, past) in
          let product : c * rows ≡ column * rows = ap (λ (k : ℕ). k * rows) is in
          let place : start + (c * rows + r) ≡ start + column * rows + r = omega (arith, product) in
          ap (λ (p : ℕ). slice_index new p) place ∙ here r lt ∙ ap (λ (k : ℕ). slice_index body (r * columns + k)) (sym is)
    ]

-- what is written comes after what the buffer held
pub columns_put : (rows columns start : ℕ) (body old room new : List ℕ) → length new ≡ length room → length room ≡ start + columns * rows → start ≡ length old → take start room ≡ old
    → ((p : ℕ) → p < start → slice_index new p ≡ slice_index room p)
    → ((r c : ℕ) → r < rows → c < columns → slice_index new (start + (c * rows + r)) ≡ slice_index body (r * columns + c))
    → AppendsColumns rows columns body old new
columns_put rows columns start body old room new len size kept front before each =
    let count : length (take start new) ≡ start = length-take-le start new (omega (arith, len, size)) in
    let stays : take start new ≡ old = ext_get_or 0 (take start new) old (count ∙ kept) stay in
    record {
      text = drop start new;
      joined = sym (take-append-drop start new) ∙ ap (λ (t : List ℕ). t ++ drop start new) stays;
      columns_are = record {
        count = omega (arith, length-drop start new, len, size);
        each = λ r c lt few. get_or-drop start new (c * rows + r) 0 ∙ each r c lt few;
      };
    }
  where
    count_of : length (take start new) ≡ start
    count_of = length-take-le start new (omega (arith, len, size))

    of_new : (i : ℕ) → i < start → get_or (take start new) i 0 ≡ get_or new i 0
    of_new i lt = sym (get_or_append_left (take start new) (drop start new) 0 i (omega (arith, lt, count_of))) ∙ ap (λ (t : List ℕ). get_or t i 0) (take-append-drop start new)

    of_room : (i : ℕ) → i < start → get_or (take start room) i 0 ≡ get_or room i 0
    of_room i lt = sym (get_or_append_left (take start room) (drop start room) 0 i (omega (arith, lt, length-take-le start room (omega (arith, size))))) ∙ ap (λ (t : List ℕ). get_or t i 0) (take-append-drop start room)

    stay : (i : ℕ) → i < length (take start new) → get_or (take start new) i 0 ≡ get_or old i 0
    stay i lt =
        let few : i < start = omega (arith, lt, count_of) in
        of_new i few ∙ before i few ∙ sym (of_room i few) ∙ ap (λ (t : List ℕ). get_or t i 0) front
