use Rattle.std.proofs.Common.{◌≡◌, ℕ, List, ◌++◌, length, false, map}
use denote.Shadow.{shadow}
use denote.Text.{Utf8}
use Rattle.std.specs.Borrow.{Bor}
use Rattle.std.specs.Str.Lines.{lines}
use Rattle.rowtext.specs.Reader.{schema_of as fields_of}
use Rattle.program.proofs.Told.{HasRead}
use Rattle.program.proofs.encode.written.Given as goal

-- the lines so far and those of the rest are all lines, and the writer has the rows of the first, which fit; where no progress is shown, none is written
abbrev pub invariant-loop-line : goal.invariant-loop-line
invariant-loop-line g l = shadow (Utf8 l.rest) × (cut : List (Bor (List ℕ))) × record {
  joined : lines l.fn.text ≡ map (λ text. text.now) cut ++ lines l.rest;
  read : HasRead l.texts l.schema l.options (map (λ text. text.now) cut) (fields_of l.reader) l.writer;
  quiet : l.fn.progress.is_shown ≡ false → g.E.Write.contents l.err ≡ g.E.Write.contents l.fn.err;
  same : l.progress.is_shown ≡ l.fn.progress.is_shown;
}

-- the rest gets shorter
abbrev pub decreases-loop-line : goal.decreases-loop-line
decreases-loop-line g l = length l.rest
