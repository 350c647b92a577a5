-- What was found so far, and what stands behind it.
use Rattle.std.specs.Prelude.{List, ◌++◌, Option, Some, None}

abbrev pub or_before : {X : Type 0} → Option X → Option X → Option X
or_before found (Some x) = Some x
or_before found None = found

-- what was found so far and what the fields behind it give
abbrev pub over : {X : Type 0} → Option X → Option (Option X) → Option (Option X)
over found None = None
over found (Some l) = Some (or_before found l)

-- the values so far and those behind them
abbrev pub before : {X : Type 0} → List X → Option (List X) → Option (List X)
before xs None = None
before xs (Some ys) = Some (xs ++ ys)
