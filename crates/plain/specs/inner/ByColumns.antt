-- Rows of bytes, column by column.
use Rattle.std.specs.Prelude.{◌≡◌, ℕ, ◌+◌, ◌*◌, ◌<◌, List, ◌++◌, length, slice_index}

-- the text has the rows at the start of the body column by column
pub record AreByColumns (rows columns : ℕ) (body text : List ℕ) : Type 0 where
  pub count : length text ≡ columns * rows
  pub each : (r c : ℕ) → r < rows → c < columns → slice_index text (c * rows + r) ≡ slice_index body (r * columns + c)

-- the bytes that new has after old are the rows at the start of the body, column by column
pub record AppendsColumns (rows columns : ℕ) (body old new : List ℕ) : Type 0 where
  pub text : List ℕ
  pub joined : new ≡ old ++ text
  pub columns_are : AreByColumns rows columns body text
