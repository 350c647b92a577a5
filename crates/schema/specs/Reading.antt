-- How high fields are, and how many leaves they have.
use Rattle.std.specs.Prelude.{ℕ, suc, ◌+◌, max}
use Rattle.schema.specs.Shape.{Field, leaf, fields, Fields, no_fields, field}

-- how many fields are on the longest path down that begins with a field, and with one of some fields
abbrev mutual
  pub tall : Field → ℕ
  tall (leaf n r t) = 1
  tall (fields n r a fs) = suc (tallest fs)

  pub tallest : Fields → ℕ
  tallest no_fields = 0
  tallest (field f fs) = max (tall f) (tallest fs)

-- how many leaves are at and below a field, and at and below some fields
abbrev mutual
  pub count_leaves : Field → ℕ
  count_leaves (leaf n r t) = 1
  count_leaves (fields n r a fs) = count_leaves_each fs

  pub count_leaves_each : Fields → ℕ
  count_leaves_each no_fields = 0
  count_leaves_each (field f fs) = count_leaves f + count_leaves_each fs
