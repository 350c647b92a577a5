use Rattle.std.proofs.Common.{◌≡◌, ◌-◌, drop, length}
use Rattle.json.specs.Lex.{in_string, lex}
use Rattle.rowtext.proofs.quoted_strings.string_front.Given as goal

-- the lexer is in the string before each byte that is looked at
abbrev pub invariant-loop-at : goal.invariant-loop-at
invariant-loop-at l = lex in_string (drop 1 l.bytes) ≡ lex in_string (drop l.at l.bytes)

abbrev pub decreases-loop-at : goal.decreases-loop-at
decreases-loop-at l = length l.bytes - l.at
