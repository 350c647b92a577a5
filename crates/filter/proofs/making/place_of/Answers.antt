use Rattle.std.proofs.Common.{◌≡◌, map, true, Some, sym, ap, ◌∙◌}
use Rattle.std.specs.Rc.{rc_str_bytes}
use Rattle.lists.proofs.Slices.{slice_get_map as gets_here}
use Rattle.schema.specs.Stripe.{Leaf}
use Rattle.schema.specs.Views.{leaf_view}
use Rattle.filter.specs.Terms.{names_of}
use Rattle.filter.proofs.Made.{passed_over, found_here}
use Rattle.filter.proofs.making.place_of.Goals as goal

pub returns-then-is_path : goal.returns-then-is_path
returns-then-is_path c =
    let path : (leaf_view c.index-leaves-i.result).path ≡ names_of c.args.names.now = ap (map rc_str_bytes) (sym c.as_slice.ensures.value) ∙ c.is_path.ensures.0 c.if-is_path.true in
    let found = found_here c.args.leaves.now c.loop-i.i c.index-leaves-i.result (names_of c.args.names.now) c.loop-i-test.true c.index-leaves-i.is path in (
      c.loop-i-test.true,
      λ l e.
          let both : Some (leaf_view c.index-leaves-i.result) ≡ Some l = sym (gets_here leaf_view c.args.leaves.now c.loop-i.i c.index-leaves-i.result c.loop-i-test.true c.index-leaves-i.is) ∙ e in
          let same : leaf_view c.index-leaves-i.result ≡ l = cc in
          sym c.loop-i.invariant ∙ found ∙ ap (λ (x : Leaf). Some (c.loop-i.i, x)) same,
    )

pub loop-i-preserved : goal.loop-i-preserved
loop-i-preserved c =
    sym (passed_over c.args.leaves.now c.loop-i.i c.index-leaves-i.result (names_of c.args.names.now) c.loop-i-test.true c.index-leaves-i.is
    (λ path. let result : c.is_path.result ≡ true = c.is_path.ensures.1 (ap (map rc_str_bytes) c.as_slice.ensures.value ∙ path) in let no = c.if-is_path.false in cc))
    ∙ c.loop-i.invariant
