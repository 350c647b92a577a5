use Rattle.std.proofs.Common.{refl}
use Rattle.schema.specs.Views.{field_views}
use Rattle.rowtext.proofs.Lexing.{name_then}
use Rattle.rowtext.proofs.row_lines.index_by_name.Goals as goal

pub returns-then-skip_mark : goal.returns-then-skip_mark
returns-then-skip_mark c =
    name_then (field_views c.args.fields.now) c.in_ok-index.index c.args.line.now c.index_named.new.line c.skip_blanks.new.self c.skip_mark.new.self c.in_ok-index.ensures c.skip_blanks.ensures (c.if-skip_mark.ensures.taken refl)
