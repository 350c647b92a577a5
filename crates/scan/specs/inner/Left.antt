-- One row more of a group is shown, for the clauses of private functions.
use Rattle.std.specs.Prelude.{◌≡◌, ◌-◌, Bool, true, List, [], ◌∷◌, drop, length}
use Rattle.assemble.specs.Sinks.{Token}
use Rattle.scan.specs.declared.rows_left.Rows.{Rows}
use Rattle.scan.specs.Left.{PartsStand, joined}
use Rattle.scan.specs.inner.Parts.{ShowsNext}

-- whether the first of the rows that have these marks is selected
abbrev pub next_marked : List Bool → Bool
next_marked [] = true
next_marked (m ∷ marks) = m

-- what stays, and what is left after the first row
pub record IsAfterFirst (old new : Rows) : Type 0 where
  pub whole : new.is_broken ≡ old.is_broken
  pub left : new.left ≡ old.left - 1
  pub marks : new.marks.now ≡ drop 1 old.marks.now
  pub as_many : length new.parts.items ≡ length old.parts.items

-- the first of the rows that are left is shown
abbrev pub NextShown : Rows → Rows → (List Token → Type 0) → (List Token → Type 0) → Type 0
NextShown old new from to = IsAfterFirst old new × ShowsNext (PartsStand old.parts.items) (PartsStand new.parts.items) (joined (length old.parts.items)) from to
