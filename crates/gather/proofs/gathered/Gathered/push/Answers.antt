use Rattle.std.proofs.Common.{[], ◌∷◌, sym, ◌∙◌}
use Rattle.std.proofs.lemmas.Result.{on_ok_weaker}
use Rattle.schema.specs.Views.{row_view}
use Rattle.shred.specs.inner.Opening.{schema_token, rows_token}
use Rattle.gather.specs.GatheredRows.{schema_of}
use Rattle.gather.proofs.Gathering.{begins}
use Rattle.gather.proofs.gathered.Gathered.push.Goals as goal

pub returns-clause-stands : goal.returns-clause-stands
returns-clause-stands c =
    let g = c.args.self.now in
    on_ok_weaker c.end_row.result (λ ended. λ rows held. ended (schema_of g) rows (row_view c.args.row.now) (c.in_ok-show_row.ensures.shown (schema_token (schema_of g) ∷ rows_token rows ∷ []) (begins g rows held)) (sym c.fits.ensures ∙ c.if-not-fits.false)) c.end_row.ensures.stands
