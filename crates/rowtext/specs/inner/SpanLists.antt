-- Where the pieces of the members of an object are.
use Rattle.std.specs.Prelude.{List, Option}
use Rattle.rowtext.specs.declared.spans.Span.{Span}

-- where the pieces of each member of an object are; none for a member that was not read
pub record SpanList : Type 0 where
  pub items : List (Option Span)
