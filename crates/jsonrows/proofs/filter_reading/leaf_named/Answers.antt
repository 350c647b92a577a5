use Rattle.std.proofs.Common.{◌≡◌, map, sym, ap, ◌∙◌}
use Rattle.std.specs.Rc.{rc_str_bytes}
use Rattle.schema.specs.Views.{leaf_view}
use Rattle.filter.specs.Terms.{names_of}
use Rattle.jsonrows.proofs.Operands.{found_here, passed_over}
use Rattle.jsonrows.proofs.filter_reading.leaf_named.Goals as goal

pub returns-then-is_path : goal.returns-then-is_path
returns-then-is_path c =
    let path : (leaf_view c.leaf-item.result).path ≡ names_of c.args.names.now = ap (map rc_str_bytes) (sym c.as_slice.ensures.value) ∙ c.is_path.ensures.0 c.if-is_path.true in
    sym (found_here c.args.leaves.now c.loop-leaf.leaf-index c.leaf-item.result (names_of c.args.names.now) c.loop-leaf-test.true c.leaf-item.is path) ∙ c.loop-leaf.invariant

pub loop-leaf-preserved : goal.loop-leaf-preserved
loop-leaf-preserved c =
    sym (passed_over c.args.leaves.now c.loop-leaf.leaf-index c.leaf-item.result (names_of c.args.names.now) c.loop-leaf-test.true c.leaf-item.is
    (λ path. let result = c.is_path.ensures.1 (ap (map rc_str_bytes) c.as_slice.ensures.value ∙ path) in let no = c.if-is_path.false in cc))
    ∙ c.loop-leaf.invariant
