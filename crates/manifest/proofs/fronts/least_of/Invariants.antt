use Rattle.std.proofs.Common.{◌≤◌, ℕ}
use Rattle.schema.specs.Shape.{count}
use Rattle.schema.specs.Views.{field_views}
use Rattle.schema.specs.Fronts.{fields_after, AreOptional}
use Rattle.manifest.proofs.fronts.least_of.Given as goal

abbrev pub invariant-loop-at : goal.invariant-loop-at
invariant-loop-at l = record {
  some : 1 ≤ l.least;
  optional : AreOptional (fields_after l.at (field_views l.fields)) → AreOptional (fields_after l.least (field_views l.fields));
  needed : (n : ℕ) → 1 ≤ n → n ≤ count (field_views l.fields) → AreOptional (fields_after n (field_views l.fields)) → l.least ≤ n;
}
