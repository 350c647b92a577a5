-- What a fetch answers whose rows are not made.
use Rattle.std.specs.Prelude.{◌≡◌, ℕ, List, Option, Some, None, Result, Ok, Err}
use Rattle.bits.specs.declared.refusal.Refusal.{Refusal}
use Rattle.scan.specs.declared.group_rows.GroupRows.{GroupRows}
use Rattle.table.specs.Table.{Row}
use Rattle.table.specs.Calls.{Answer, batch, ended, refused}
use Rattle.table_reads.specs.declared.passing.FetchedRows.{FetchedRows}
use Rattle.table_reads.specs.Passing.{AreReached}

-- these rows with the places of their columns, or nothing where there are none
abbrev pub AreShown : List ℕ → Option GroupRows → Option FetchedRows → Type 0
AreShown places None None = Unit {0}
AreShown places (Some g) (Some f) = (f.places.items ≡ places) × (f.rows ≡ g)
AreShown places _ _ = ⊥

-- What `fetch_rows` returned, as an answer: the end, or a batch of the rows that were read and accepted.
abbrev pub IsShownAs : Result (Option FetchedRows) Refusal → Answer → Type 0
IsShownAs (Ok None) answer = answer ≡ ended
IsShownAs (Ok (Some f)) answer = (rows : List Row) × AreReached (Some f.rows) rows × (answer ≡ batch (record { places = f.places.items; rows = rows }))
IsShownAs (Err e) answer = answer ≡ refused e
