use Rattle.std.proofs.Common.{◌≡◌, ℕ, Some, None, Option, ap, sym, ◌∙◌}
use Rattle.std.specs.Fmt.{decimal}
use Rattle.std.specs.Cmp.Lexicographic.{bytes_decides}
use Rattle.std.proofs.lemmas.Bool.{false≢true}
use Rattle.partition.specs.Folders.{part_name_of}
use Rattle.partition.proofs.parts.part_number.Goals as goal

none_some : (r : Option ℕ) (n : ℕ) → r ≡ None → r ≡ Some n → ⊥
none_some r n h k = cc

same_some : (m n : ℕ) → Some m ≡ Some n → m ≡ n
same_some m n h = cc

pub returns-in_default-read_unsigned-clause-stands : goal.returns-in_default-read_unsigned-clause-stands
returns-in_default-read_unsigned-clause-stands c = λ n small e.
    let m = c.in-Some.ensures (decimal n) (c.as_bytes.ensures.value ∙ sym e) in
    none_some c.read_unsigned.result n c.in_default-read_unsigned.is (c.read_unsigned.ensures n small m)

pub returns-clause-stands : goal.returns-clause-stands
returns-clause-stands c = λ n small e.
    let m = c.in-Some.ensures (decimal n) (c.as_bytes.ensures.value ∙ sym e) in
    let number = same_some c.in-Some-read_unsigned.number n (sym c.in-Some-read_unsigned.is ∙ c.read_unsigned.ensures n small m) in
    let same : c.as_bytes-2.result.now ≡ c.as_bytes-3.result.now = c.as_bytes-2.ensures.value ∙ c.in_ok-written.ensures.stands ∙ ap part_name_of number ∙ e ∙ sym c.as_bytes-3.ensures.value in
    false≢true (sym c.if-eq.false ∙ c.eq.ensures ∙ (bytes_decides _ _).1 same)
