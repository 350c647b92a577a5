use Rattle.std.proofs.Common.{rules, ◌≡◌, ◌^◌, ◌<◌, ◌∙◌, ap, sym, arith, length}
use Rattle.std.specs.Prelude.{FitsSigned}
use Rattle.std.specs.Int.{w8, w16, w32, w64}
use Rattle.thrift_compact.specs.declared.tree.Node.TheFolds.{the_lemmas}
use Rattle.thrift_compact.specs.Tree.{i8, i16, i32, i64, binary}
use Rattle.thrift_compact.specs.View.{view}
use Rattle.thrift_compact.specs.inner.Writable.{can_write}
use Rattle.thrift_compact.proofs.Passed.{byte_bits, short_bits, int_bits, long_bits, of_size}
use Rattle.thrift_compact.proofs.writable.+can_write.Goals as goal

pub can_write-returns-in-I8 : goal.can_write-returns-in-I8
can_write-returns-in-I8 t c =
    let z = c.in-I8.number in
    let e : view c.args.node.now ≡ i8 z = search (rules, the_lemmas) in
    let fits : FitsSigned w8 z = grind (arith, the_lemmas) in
    sym (ap (can_write c.args.deep) e ∙ byte_bits z fits)

pub can_write-returns-in-I16 : goal.can_write-returns-in-I16
can_write-returns-in-I16 t c =
    let z = c.in-I16.number in
    let e : view c.args.node.now ≡ i16 z = search (rules, the_lemmas) in
    let fits : FitsSigned w16 z = grind (arith, the_lemmas) in
    sym (ap (can_write c.args.deep) e ∙ short_bits z fits)

pub can_write-returns-in-I32 : goal.can_write-returns-in-I32
can_write-returns-in-I32 t c =
    let z = c.in-I32.number in
    let e : view c.args.node.now ≡ i32 z = search (rules, the_lemmas) in
    let fits : FitsSigned w32 z = grind (arith, the_lemmas) in
    sym (ap (can_write c.args.deep) e ∙ int_bits z fits)

pub can_write-returns-in-I64 : goal.can_write-returns-in-I64
can_write-returns-in-I64 t c =
    let z = c.in-I64.number in
    let e : view c.args.node.now ≡ i64 z = search (rules, the_lemmas) in
    let fits : FitsSigned w64 z = grind (arith, the_lemmas) in
    sym (ap (can_write c.args.deep) e ∙ long_bits z fits)

pub can_write-returns-in-Binary : goal.can_write-returns-in-Binary
can_write-returns-in-Binary t c =
    let text = c.in-Binary.text.items in
    let e : view c.args.node.now ≡ binary text = search (rules, the_lemmas) in
    let small : length text < 2 ^ 64 = search rules in
    sym (ap (can_write c.args.deep) e ∙ of_size (length text) small)
