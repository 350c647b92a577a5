use Rattle.std.proofs.Common.{◌≡◌, ◌+◌, ◌-◌, ◌≤◌, ℕ, length, take, drop, sym, ap, ◌∙◌, arith, length-take-le, length-drop}
use Rattle.std.proofs.Math.Seq.{paste}
use Rattle.std.proofs.lemmas.List.Edits.{take-paste}
use Rattle.rowtext.proofs.place.place_slowly.Goals as goal

pub returns : goal.returns
returns c =
    let old = c.args.buffer.now in
    let rest = drop c.args.from old in
    let long : c.args.count ≤ length rest = rw length-drop (omega (arith, c.requires.0)) in
    let size : (c.args.from + c.args.count) - c.args.from ≡ c.args.count = omega arith in
    record {
      bytes = ap (take (c.args.at + c.args.count)) (c.copy_within.ensures.after ∙ ap (paste old c.args.at rest) size) ∙ take-paste old c.args.at rest c.args.count (omega (arith, c.requires.1)) long;
      moved = ap (λ (m : ℕ). c.args.at + m) (sym (length-take-le c.args.count rest long));
      len = c.copy_within.ensures.len;
    }
