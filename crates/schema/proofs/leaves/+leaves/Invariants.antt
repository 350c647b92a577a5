use Rattle.std.proofs.Common.{◌≡◌, ◌≤◌, ◌+◌, ◌++◌, drop, map, length}
use Rattle.std.specs.Rc.{rc_str_bytes}
use Rattle.schema.specs.Stripe.{leaves_from}
use Rattle.schema.specs.Reading.{tallest}
use Rattle.schema.specs.inner.LeafPaths.{along}
use Rattle.schema.specs.Views.{field_views, leaf_view, step_view}
use Rattle.schema.proofs.leaves.+leaves.Given as goal

-- the leaves so far, and those that are left, are all
abbrev pub invariant-push_each-loop-place : goal.invariant-push_each-loop-place
invariant-push_each-loop-place l = record {
  all : map leaf_view l.out.items ++ map (along (map rc_str_bytes l.path) (map step_view l.steps)) (leaves_from l.place (field_views (drop l.place l.fields)))
      ≡ map leaf_view l.fn.out.items ++ map (along (map rc_str_bytes l.path) (map step_view l.steps)) (leaves_from 0 (field_views l.fields));
  deep : length l.steps + tallest (field_views (drop l.place l.fields)) ≤ 32;
}
