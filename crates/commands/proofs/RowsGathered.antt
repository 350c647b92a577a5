-- Rows of lines that are gathered, one after another.
use Rattle.std.proofs.Common.{Bool, true, ◌≡◌, ℕ, List, [], ◌∷◌, ◌++◌, sym, subst}
use Rattle.schema.specs.Values.{ValueTrees}
use Rattle.schema.specs.Shape.{Fields}
use Rattle.schema.specs.Fits.{fits_each}
use Rattle.assemble.specs.Sinks.{Visits, tokens_each}
use Rattle.shred.specs.inner.Opening.{schema_token, rows_token}
use Rattle.rowtext.specs.Reader.{IsRowAs}
use Rattle.gather.specs.declared.gathered.Gathered.{Gathered}
use Rattle.gather.specs.GatheredRows.{holds, gathered_shows, schema_of, BeginsRow, ShowsRow}
use Rattle.commands.specs.inner.GatheredRows.{AddsLine}

-- the row that is shown of a line is one that is gathered, once it is ended
pub line_gathered : (texts : Bool) (fs : Fields) (line : List ℕ) (old begun shown new : Gathered) → ((rows : List ValueTrees) → holds old rows → BeginsRow begun (schema_of old) rows)
    → Visits (gathered_shows begun) (gathered_shows shown) tokens_each (IsRowAs texts fs line)
    → ((gs : Fields) (rows : List ValueTrees) (values : ValueTrees) → ShowsRow shown gs rows values → fits_each gs values ≡ true → holds new (rows ++ values ∷ []))
    → AddsLine texts fs line old new
line_gathered texts fs line old begun shown new begins visits ends = λ rows held same.
    let values = visits.0 in
    let is = visits.1.0 in
    let shows : ShowsRow shown (schema_of old) rows values = visits.1.1 (schema_token (schema_of old) ∷ rows_token rows ∷ []) (begins rows held) in
    let fits : fits_each (schema_of old) values ≡ true = subst (λ (t : Fields). fits_each t values ≡ true) (sym same) is.1.1.1 in
    (values, ((is.0, is.1.0, is.1.1.0), ends (schema_of old) rows values shows fits))
