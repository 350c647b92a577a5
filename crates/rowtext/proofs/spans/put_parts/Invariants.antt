use Rattle.std.proofs.Common.{◌≡◌, ◌++◌, drop}
use Rattle.schema.specs.Views.{field_views}
use Rattle.rowtext.specs.inner.Pieces.{tokens_of}
use Rattle.rowtext.specs.inner.Spans.{parts_tokens, are_there}
use Rattle.rowtext.proofs.spans.put_parts.Given as goal

-- the answers for the fields that are left are those for all
abbrev pub invariant-loop-i : goal.invariant-loop-i
invariant-loop-i l =
    (are_there (field_views (drop l.i l.fields)) (drop l.i l.spans) ≡ are_there (field_views l.fields) l.spans)
    × (tokens_of l.pieces.items ++ parts_tokens (field_views (drop l.i l.fields)) l.read (drop l.i l.spans) ≡ tokens_of l.initial.pieces.items ++ parts_tokens (field_views l.fields) l.read l.spans)
