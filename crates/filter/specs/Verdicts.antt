-- Whether the terms of a filter are true, as the leaves of a row are looked at one by one.
use Rattle.std.specs.Prelude.{◌≡◌, ℕ, Bool, List, map, Vec}
use Rattle.std.specs.declared.alloc.Global.{Global}
use Rattle.schema.specs.Values.{ValueTree, ValueTrees, member_at}
use Rattle.filter.specs.declared.judging.Verdicts.{Verdicts}
use Rattle.filter.specs.Deciding.{holds}
use Rattle.filter.specs.Test.{Test}

-- whether each term of each AND is true, from the lists of the program
abbrev pub verdicts_view : List (Vec Bool Global) → List (List Bool)
verdicts_view ands = map (λ (terms : Vec Bool Global). terms.items) ands

-- whether each term of each AND is true, as a `Verdicts` of the program has it
abbrev pub verdicts_in : Verdicts → List (List Bool)
verdicts_in v = verdicts_view v.ands.items

-- whether each term is true of the value at its leaf
abbrev pub verdicts_of : List (List Test) → ValueTrees → List (List Bool)
verdicts_of tests leaves = map (λ terms. map (λ (t : Test). holds t (member_at t.leaf leaves)) terms) tests

-- the value at this index is v, and each other one stays
abbrev pub IsPutAt : ℕ → ValueTree → ValueTrees → ValueTrees → Type 0
IsPutAt n v before after = (member_at n after ≡ v) × ((m : ℕ) → (n ≡ m → ⊥) → member_at m after ≡ member_at m before)
