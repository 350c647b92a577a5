use Rattle.std.proofs.Common.{◌≡◌, drop}
use Rattle.valuetext.specs.inner.Scan.{digits_after}
use Rattle.valuetext.proofs.decimals.digits_in.Given as goal

abbrev pub invariant-loop-byte : goal.invariant-loop-byte
invariant-loop-byte l = digits_after l.number (drop l.byte-index l.text) ≡ digits_after 0 l.text
