use Rattle.std.proofs.Common.{◌∙◌, ℕ, Bool, List, map, length, refl, ap, sym, subst}
use Rattle.scan.specs.declared.parts.Part.{Part}
use Rattle.scan.specs.Left.{joined, selected_by, PartsHold}
use Rattle.scan.proofs.Passages.{only_on}
use Rattle.scan.proofs.group_rows.GroupRows.rows.Goals as goal

pub returns-in_err-parts-clause-only : goal.returns-in_err-parts-clause-only
returns-in_err-parts-clause-only c rows s =
    only_on (λ _. ⊥) c.from_residual.result c.in_err-parts.field-0.0 c.from_residual.ensures.1
    (c.in_err-parts.ensures.only s.pieces (subst (λ (ps : List Part). PartsHold c.args.self.now.held ps s.pieces) (sym c.as_slice.ensures.value) s.parts))

pub returns-clause-stands : goal.returns-clause-stands
returns-clause-stands c rows s =
    let many = c.in_ok-parts.ensures.as_many ∙ ap length c.as_slice.ensures.value in
    record {
      whole = refl;
      pieces = s.pieces;
      count = s.count;
      parts = c.in_ok-parts.ensures.stands s.pieces (subst (λ (ps : List Part). PartsHold c.args.self.now.held ps s.pieces) (sym c.as_slice.ensures.value) s.parts);
      selected =
          s.selected ∙ ap (λ (n : ℕ). map (joined n) (selected_by c.args.self.now.marks.items s.pieces)) (sym many)
          ∙ ap (λ (ms : List Bool). map (joined (length c.in_ok-parts.parts.items)) (selected_by ms s.pieces)) (sym c.as_slice-2.ensures.value);
    }
