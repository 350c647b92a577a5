use Rattle.std.proofs.Common.{◌≡◌, drop}
use Rattle.schema.specs.Keys.{key_columns_view}
use Rattle.schema.specs.inner.Keyed.{key_at}
use Rattle.schema.proofs.keyed.key_at.Given as goal

abbrev pub invariant-loop-key : goal.invariant-loop-key
invariant-loop-key l = key_at l.place (key_columns_view (drop l.key-index l.keys)) ≡ key_at l.place (key_columns_view l.keys)
