use Rattle.std.proofs.Common.{◌≡◌, Bool, drop}
use Rattle.filter.specs.Test.{tests_in}
use Rattle.manifest.specs.Groups.{Group, root_of}
use Rattle.answers.specs.Kept.{first_style, TellsWhichMayHold}
use Rattle.answers.proofs.kept_style.style_left_by.Given as goal

abbrev pub invariant-loop-place : goal.invariant-loop-place
invariant-loop-place l = (is : Group → Bool) → TellsWhichMayHold (root_of l.table).keys (tests_in l.filter) is → first_style is (drop l.place (root_of l.table).groups) ≡ first_style is (root_of l.table).groups
