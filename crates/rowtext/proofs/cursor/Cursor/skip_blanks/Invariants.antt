use Rattle.std.proofs.Common.{◌≡◌, ◌-◌, ◌≤◌, length, drop}
use Rattle.json.specs.Lex.{lex, between}
use Rattle.rowtext.proofs.cursor.Cursor.skip_blanks.Given as goal

-- the lexemes of what is left stay
abbrev pub invariant-blanks : goal.invariant-blanks
invariant-blanks l = (l.at ≤ length l.bytes) × (lex between (drop l.at l.bytes) ≡ lex between (drop l.initial.at l.bytes))

abbrev pub decreases-blanks : goal.decreases-blanks
decreases-blanks l = length l.bytes - l.at
