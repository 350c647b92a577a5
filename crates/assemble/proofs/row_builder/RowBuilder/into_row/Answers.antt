use Rattle.std.proofs.Common.{reverse}
use Rattle.schema.specs.Values.{views}
use Rattle.assemble.proofs.BuiltRows.{row_shown}
use Rattle.assemble.proofs.row_builder.RowBuilder.into_row.Goals as goal

pub returns : goal.returns
returns c = record { row = λ values shown. row_shown (views c.args.self.values.items) c.args.self.inner.items (reverse c.args.self.begun.items) values shown.1 }
