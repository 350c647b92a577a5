use Rattle.std.proofs.Common.{◌-◌, length}
use Rattle.rowtext.proofs.Unescaping.{IsBegun}
use Rattle.rowtext.proofs.escapes.printed_end.Given as goal

abbrev pub invariant-bytes : goal.invariant-bytes
invariant-bytes l = IsBegun l.text l.at

abbrev pub decreases-bytes : goal.decreases-bytes
decreases-bytes l = length l.bytes - l.at
