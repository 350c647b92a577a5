use Rattle.std.proofs.Common.{false, ◌++◌, List, ℕ, drop, sym, ap, ap₂, subst, ◌∙◌}
use Rattle.std.specs.Prelude.{IsTrue}
use Rattle.std.proofs.Math.Seq.{drop-append_seam}
use Rattle.schema.specs.Fits.{fits_each}
use Rattle.rowtext.specs.Json.{row_text_as}
use Rattle.rowtext.specs.Rows.{plan_schema}
use Rattle.rowtext.specs.inner.Levels.{from_of, state_of}
use Rattle.rowtext.proofs.RowRuns.{row_closed}
use Rattle.rowtext.proofs.Openings.{one_schema}
use Rattle.rowtext.proofs.row_text.RowText.put_row.Goals as goal

pub returns-clause-stands_as : goal.returns-clause-stands_as
returns-clause-stands_as c = λ texts fs values shown h.
    let own = plan_schema c.args.self.now.plan.now in
    let one = one_schema texts shown.1.0 fs own shown.1.1.0 in
    let same = one.1 in
    let lines = shown.0 in
    let ends = c.in_ok-close.ensures.closed ∙ row_closed shown.1.0 own values (subst (λ gs. IsTrue (fits_each gs values)) same h) lines (state_of c.args.self.now) shown.1.1.1.1 in
    let row = c.rest.ensures ∙ ap₂ (λ (n : ℕ) (s : List ℕ). drop n s) (c.from-from.ensures ∙ ap (λ s. from_of s.here) ends) (c.as_slice.ensures.value ∙ ap (λ s. s.text) ends)
    ∙ drop-append_seam lines (row_text_as shown.1.0 own values) ∙ ap (λ gs. row_text_as shown.1.0 gs values) (sym same) ∙ ap (λ b. row_text_as b fs values) (sym one.0) in
    c.in_ok-extend_from_slice.ensures.items ∙ ap (λ (s : List ℕ). c.args.out.now.items ++ s) row

pub returns-clause-stands : goal.returns-clause-stands
returns-clause-stands c = returns-clause-stands_as c false
