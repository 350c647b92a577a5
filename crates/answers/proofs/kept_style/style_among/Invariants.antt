use Rattle.std.proofs.Common.{◌≡◌, drop}
use Rattle.manifest.specs.Groups.{root_of}
use Rattle.answers.specs.Kept.{first_style, is_numbered}
use Rattle.answers.proofs.kept_style.style_among.Given as goal

abbrev pub invariant-loop-place : goal.invariant-loop-place
invariant-loop-place l = first_style (is_numbered l.numbers) (drop l.place (root_of l.table).groups) ≡ first_style (is_numbered l.numbers) (root_of l.table).groups
