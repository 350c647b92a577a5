use Rattle.std.proofs.Common.{◌≡◌, drop}
use Rattle.valuetext.specs.inner.Scan.{places_in}
use Rattle.valuetext.proofs.decimals.places_in.Given as goal

abbrev pub invariant-loop-i : goal.invariant-loop-i
invariant-loop-i l = places_in (drop l.i l.text) ≡ places_in l.text
