-- A line that is the text of a row is read as that row.
use Rattle.std.proofs.Common.{◌≡◌, List, ℕ, [], ◌++◌, true, sym, ap, ◌∙◌, append-nil}
use Rattle.serde_json.specs.Read.{read}
use Rattle.schema.specs.Values.{ValueTrees}
use Rattle.schema.specs.Shape.{Fields}
use Rattle.schema.specs.Fits.{fits_each}
use Rattle.schema.specs.Law.{IsSchema, IsWithinLimits}
use Rattle.rowtext.specs.Json.{row_text}
use Rattle.rowtext.specs.Reader.{IsRowOf}
use Rattle.assemble.specs.Sinks.{tokens_each}
use Rattle.rowtext.specs.declared.pieces.Piece.{Piece}
use Rattle.rowtext.specs.inner.Pieces.{Grows, AreRead}
use Rattle.rowtext.proofs.RowsBack.{rows_read_back}

pub printed_row : (fs : Fields) (vs : ValueTrees) (text : List ℕ) → IsSchema fs → IsWithinLimits fs → fits_each fs vs ≡ true → text ≡ row_text fs vs → IsRowOf fs text vs
printed_row fs vs text valid within fit is =
    let back = rows_read_back fs vs valid within fit in
    (back.0, (ap read is ∙ back.1, (back.2, fit)))

-- a whole line was read
pub line_read : (fs gs : Fields) (text rest new : List ℕ) (ks ls : List Piece) → fs ≡ gs → AreRead (fits_each fs) (row_text fs) rest new ks ls → rest ≡ text → new ≡ [] → (vs : ValueTrees) × ((fits_each gs vs ≡ true) × ((text ≡ row_text gs vs) × Grows ks ls (tokens_each vs)))
line_read fs gs text rest new ks ls same h is none =
    let vs = h.0 in
    let said : text ≡ row_text gs vs = sym is ∙ h.1.1.0 ∙ ap (λ x. row_text fs vs ++ x) none ∙ append-nil (row_text fs vs) ∙ ap (λ x. row_text x vs) same in
    (vs, (ap (λ x. fits_each x vs) (sym same) ∙ h.1.0, (said, h.1.1.1)))
