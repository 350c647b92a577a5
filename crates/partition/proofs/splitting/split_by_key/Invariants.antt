use Rattle.std.proofs.Common.{◌≡◌, map, take}
use Rattle.schema.specs.Views.{rows_view}
use Rattle.schema.specs.Keys.{key_columns_view}
use Rattle.partition.specs.Splitting.{key_rows_view}
use Rattle.partition.specs.inner.Parts.{parts_view, AreWithKeys}
use Rattle.partition.proofs.splitting.split_by_key.Given as goal

abbrev pub invariant-loop-row : goal.invariant-loop-row
invariant-loop-row l = record {
  same : map (λ k. parts_view k.items) l.keys.keys ≡ map (λ p. p.key) (map key_rows_view l.split.items);
  held : AreWithKeys (key_columns_view l.columns) (rows_view (take l.row-index l.rows)) (map key_rows_view l.split.items);
}
