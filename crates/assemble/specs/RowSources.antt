-- What a source of rows gives.
use Rattle.std.specs.Prelude.{◌≡◌, List, [], Bool, true, false, Result, Ok, Err}
use Rattle.bits.specs.declared.refusal.Refusal.{Refusal}
use Rattle.bits.specs.declared.refusal.Refusal.TheVariants.{Memory}
use Rattle.schema.specs.Values.{ValueTrees}
use Rattle.assemble.specs.Sinks.{Token}
use Rattle.assemble.specs.Flat.{ShowsFirst}

-- the first of the rows that stood is shown, or there is none; out of memory aside, nothing is refused where rows stood
abbrev pub TakesRowTo : (List ValueTrees → Type 0) → (List ValueTrees → Type 0) → (List Token → Type 0) → (List Token → Type 0) → Result Bool Refusal → Type 0
TakesRowTo S T from to (Ok true) = (rows : List ValueTrees) → S rows → ShowsFirst T from to rows
TakesRowTo S T from to (Ok false) = (rows : List ValueTrees) → S rows → (rows ≡ []) × T []
TakesRowTo S T from to (Err e) = (rows : List ValueTrees) → S rows → e ≡ Memory
