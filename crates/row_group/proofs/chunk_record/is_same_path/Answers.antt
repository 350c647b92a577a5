use Rattle.std.proofs.Common.{◌≡◌, ◌<◌, ◌∙◌, true, false, ℕ, length, Vec, Global, sym, arith}
use Rattle.std.specs.Rc.{rc_str_bytes}
use Rattle.std.proofs.lemmas.Slice.Eq.{bytes_eq-Decides}
use Rattle.lists.proofs.Slices.{alike_here as same_here, alike_from_here as same_from_here}
use Rattle.lists.proofs.Booleans.{true_by_false_not as not_false, false_by_true_not as not_true}
use Rattle.row_group.proofs.chunk_record.is_same_path.Goals as goal

pub returns-then-ne : goal.returns-then-ne
returns-then-ne c =
    let path = c.args.path.now in
    let names = c.args.names.now in
    let i = c.loop-i.i in
    let x = c.index-path-i.result in
    let y = c.index-names-i.result in
    let size = c.if-path-names.false in
    let test = c.loop-i-test.true in
    let lx : i < length path = omega arith in
    let ly : i < length names = omega arith in (
      (λ h. cc),
      (λ h.
          let here = same_here (λ (s : Vec ℕ Global). s.items) (rc_str_bytes {Z = Global}) path names i x y lx ly c.index-path-i.is c.index-names-i.is (c.loop-i.invariant.left h) in
          let eq = (bytes_eq-Decides c.as_slice.result.now c.as_bytes.result.now).1 (c.as_slice.ensures.value ∙ here.0 ∙ sym (c.as_bytes.ensures.value ∙ c.as_str.ensures.value)) in
          let ne = not_true _ c.if-ne.ensures in
          cc),
    )

pub loop-i-preserved : goal.loop-i-preserved
loop-i-preserved c =
    let path = c.args.path.now in
    let names = c.args.names.now in
    let i = c.loop-i.i in
    let x = c.index-path-i.result in
    let y = c.index-names-i.result in
    let size = c.if-path-names.false in
    let test = c.loop-i-test.true in
    let lx : i < length path = omega arith in
    let ly : i < length names = omega arith in
    let same : x.items ≡ rc_str_bytes y = sym c.as_slice.ensures.value ∙ (bytes_eq-Decides c.as_slice.result.now c.as_bytes.result.now).0 (not_false _ c.if-ne.ensures) ∙ c.as_bytes.ensures.value ∙ c.as_str.ensures.value in
    record {
      whole = λ h. c.loop-i.invariant.whole (same_from_here (λ (s : Vec ℕ Global). s.items) (rc_str_bytes {Z = Global}) path names i x y lx ly c.index-path-i.is c.index-names-i.is same h);
      left = λ h. (same_here (λ (s : Vec ℕ Global). s.items) (rc_str_bytes {Z = Global}) path names i x y lx ly c.index-path-i.is c.index-names-i.is (c.loop-i.invariant.left h)).1;
    }
