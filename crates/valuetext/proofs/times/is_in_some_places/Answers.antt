use Rattle.std.proofs.Common.{◌≡◌, ◌-◌, length, subst, arith}
use Rattle.valuetext.specs.Times.{IsInPlaces}
use Rattle.valuetext.proofs.SameTexts.{never}
use Rattle.valuetext.proofs.TimeTexts.{written-length}
use Rattle.valuetext.proofs.times.is_in_some_places.Goals as goal

pub returns-then-text-lt10 : goal.returns-then-text-lt10
returns-then-text-lt10 c = never (λ w. let len = written-length c.args.unit c.args.time w.0 c.args.text.now w.1 w.2 in omega arith)

pub returns-then-places : goal.returns-then-places
returns-then-places c = never (λ w. let len = written-length c.args.unit c.args.time w.0 c.args.text.now w.1 w.2 in omega arith)

pub returns : goal.returns
returns c =
    let p = length c.args.text.now - 9 in (
      λ t. (p, omega arith, c.is_in_places.ensures.0 t),
      λ w.
          let len = written-length c.args.unit c.args.time w.0 c.args.text.now w.1 w.2 in
          let same : w.0 ≡ p = omega arith in
          c.is_in_places.ensures.1 (subst (λ k. IsInPlaces c.args.time k c.args.text.now) same w.2),
    )
