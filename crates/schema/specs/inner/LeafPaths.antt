-- How leaves are listed.
use Rattle.std.specs.Prelude.{ℕ, List, ◌++◌, map}
use Rattle.std.specs.declared.alloc.Global.{Global}
use Rattle.std.specs.Rc.{rc_str_bytes}
use Rattle.std.specs.declared.rc.RcStr.{RcStr}
use Rattle.schema.specs.declared.field.Step.{Step as CodeStep}
use Rattle.schema.specs.Views.{step_view}
use Rattle.schema.specs.Stripe.{Leaf, Step, leaf_at}

-- the leaf, seen from the root: these names and these steps lead to it
abbrev pub along : List (List ℕ) → List Step → Leaf → Leaf
along path steps l = leaf_at (path ++ l.path) (steps ++ l.steps) l.leaf_type

-- the leaves, seen from the root, with these names and these steps of the program on the path to each
abbrev pub leaves_along : List (RcStr Global) → List CodeStep → List Leaf → List Leaf
leaves_along path steps ls = map (along (map rc_str_bytes path) (map step_view steps)) ls
