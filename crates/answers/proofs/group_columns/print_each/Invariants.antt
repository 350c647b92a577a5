use Rattle.std.proofs.Common.{take}
use Rattle.schema.specs.Stripe.{leaves_of}
use Rattle.manifest.specs.Groups.{root_of}
use Rattle.manifest.specs.Root.{stored_of}
use Rattle.answers.proofs.ToldColumns.{ArePaired}
use Rattle.answers.proofs.group_columns.print_each.Given as goal

-- the groups so far are printed
abbrev pub invariant-loop-place : goal.invariant-loop-place
invariant-loop-place g l = ArePaired l.texts (leaves_of (stored_of (root_of l.table))) (take l.place l.groups) (take l.place (root_of l.table).groups) (g.W.Write.contents l.fn.out) (g.W.Write.contents l.out)
