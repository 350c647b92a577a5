use Rattle.std.proofs.Common.{◌≡◌, List, map}
use Rattle.schema.specs.Values.{ValueTrees}
use Rattle.rowtext.specs.Reader.{schema_of as fields_of}
use Rattle.program.specs.Program.{AreRowTexts}
use Rattle.program.proofs.encode.check_lines.Given as goal

-- the lines so far are rows
abbrev pub invariant-loop-line : goal.invariant-loop-line
invariant-loop-line l = ((rows : List ValueTrees) × AreRowTexts l.texts l.schema (map (λ text. text.now) l.yielded) rows) × (fields_of l.reader ≡ l.schema)
