use Rattle.std.proofs.Common.{◌≡◌, length, reverse, arith}
use Rattle.schema.specs.Values.{views}
use Rattle.assemble.proofs.BuiltRows.{gained_row, gained_inner, none_reversed, some_reversed}
use Rattle.assemble.proofs.row_builder.RowBuilder.push.Goals as goal

pub returns-in_ok-push : goal.returns-in_ok-push
returns-in_ok-push c =
    let none : length c.args.self.now.begun.items ≡ 0 = grind arith in
    record { gains = λ order. (order, gained_row c.args.self.now.values.items c.push.new.self.items c.args.value c.args.self.now.inner.items (reverse c.args.self.now.begun.items) (none_reversed c.args.self.now.begun.items none) c.in_ok-push.ensures.items) }

pub returns-in_ok-push-2 : goal.returns-in_ok-push-2
returns-in_ok-push-2 c =
    let some : length c.args.self.now.begun.items ≡ 0 → ⊥ = λ none. grind arith in
    record { gains = gained_inner (views c.args.self.now.values.items) c.args.self.now.inner.items c.push-else-is_empty.new.self.items c.args.value (reverse c.args.self.now.begun.items) (some_reversed c.args.self.now.begun.items some) c.in_ok-push-2.ensures.items }
