use Rattle.std.proofs.Common.{◌++◌, ◌∷◌, [], reverse, map, sym, ap, subst, ◌∙◌, append_assoc}
use Rattle.std.specs.Prelude.{IsTrue}
use Rattle.schema.specs.Fits.{fits_each}
use Rattle.rowtext.specs.Json.{row_text_as}
use Rattle.rowtext.specs.Rows.{plan_schema, IsReadyAs}
use Rattle.rowtext.specs.inner.Opening.{opening_as}
use Rattle.rowtext.specs.inner.Levels.{level_at, outer_view, state_of}
use Rattle.rowtext.proofs.RowRuns.{row_closed}
use Rattle.rowtext.proofs.RowSteps.{next_begun}
use Rattle.rowtext.proofs.Openings.{one_schema}
use Rattle.rowtext.proofs.row_text.RowText.end_sorted_row.Goals as goal

pub returns : goal.returns
returns c = record {
  stands_as = λ texts fs lines values shown h.
      let own = plan_schema c.args.self.now.plan.now in
      let one = one_schema texts shown.0 fs own shown.1.0 in
      let same = one.1 in
      let ends = c.in_ok-close.ensures.closed ∙ row_closed shown.0 own values (subst (λ gs. IsTrue (fits_each gs values)) same h) lines (state_of c.args.self.now) shown.1.1.1 in
      let text = c.in_ok-push.ensures.items ∙ ap (λ s. s.text ++ 10 ∷ []) ends ∙ append_assoc lines (row_text_as shown.0 own values) (10 ∷ []) ∙ ap (λ gs. lines ++ (row_text_as shown.0 gs values ++ 10 ∷ [])) (sym same) ∙ ap (λ b. lines ++ (row_text_as b fs values ++ 10 ∷ [])) (sym one.0) in
      let ready = subst (IsReadyAs shown.0) (sym c.close.ensures.same) shown.1.1.0 in (
        shown.0,
        (
          shown.1.0 ∙ ap (λ p. opening_as shown.0 (plan_schema p)) (sym c.close.ensures.same),
          (
            ready,
            next_begun shown.0 c.close.new.self.plan.now c.push.new.self.items c.close.new.self.starts.items (lines ++ (row_text_as texts fs values ++ 10 ∷ [])) (level_at c.close.new.self.plan.now c.top-self.result 0) (reverse (map (outer_view c.close.new.self.plan.now) c.close.new.self.outer.items)) c.len.result
                ready c.top-self.ensures c.len.ensures text (ap (λ s. s.starts) ends) (ap (λ s. s.outer) ends),
          ),
        ),
      );
}
