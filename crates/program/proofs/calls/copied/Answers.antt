use Rattle.std.proofs.Common.{◌≡◌, ◌==◌, ℕ, ◌<◌, false, List, Some, map, string_bytes, Bor, vec_len, length, arith, sym, ap, subst, ◌∙◌}
use Rattle.std.proofs.lemmas.List.{length-map}
use Rattle.columns.specs.Columns.{Columns}
use Rattle.program.specs.Program.{IsCopyOf}
use Rattle.program.proofs.Copied.{some_named, some_there}
use Rattle.program.proofs.calls.copied.Goals as goal

pub returns-in-Ok-clause-stands : goal.returns-in-Ok-clause-stands
returns-in-Ok-clause-stands g c =
    let asked = c.args.copying.now in
    let word : Bor (List ℕ) → List ℕ = λ (name : Bor (List ℕ)). name.now in
    let words : List (List ℕ) = map word asked.columns.items in
    let empty : (vec_len asked.columns == 0) ≡ false = sym c.is_empty.ensures ∙ c.if-is_empty.false in
    let full : 0 < vec_len asked.columns = some_there (vec_len asked.columns) empty in
    let some : 0 < length asked.columns.items = omega (arith, full, asked.columns.ok) in
    let long : 0 < length words = subst (λ (n : ℕ). 0 < n) (sym (length-map asked.columns.items word)) some in
    let same : map string_bytes c.as_slice-2.result.now ≡ words = ap (map string_bytes) c.as_slice-2.ensures.value ∙ (c.in_ok-names.ensures.same ∙ ap (map word) c.as_slice.ensures.value) in
    subst (λ (columns : Columns). IsCopyOf asked.options columns asked.limit c.args.bytes.now c.in-Ok.copy.items) (ap Some same ∙ sym (some_named words long)) c.in-Ok.ensures.stands
