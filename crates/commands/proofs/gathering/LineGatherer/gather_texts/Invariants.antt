use Rattle.std.proofs.Common.{◌≡◌, ◌≤◌, ◌-◌, ◌⊎◌, Bool, false, List, ℕ, ◌++◌, take, length}
use Rattle.std.specs.Prelude.{IsUtf8}
use Rattle.std.specs.Str.Lines.{lines}
use Rattle.footer.specs.declared.options.WriteOptions.{WriteOptions}
use Rattle.manifest.specs.Groups.{Root}
use Rattle.commands.specs.FileLines.{AreWholeLines}
use Rattle.commands.specs.inner.GatheredRows.{HoldsLines}
use Rattle.commands.proofs.gathering.LineGatherer.gather_texts.Given as goal

-- the rows of the lines so far are gathered, which are texts and whole, but for the last of all
abbrev pub invariant-loop-place : goal.invariant-loop-place
invariant-loop-place g l = record {
  within : l.place ≤ length l.bytes;
  whole : AreWholeLines (take l.place l.bytes) ⊎ (l.place ≡ length l.bytes);
  held : (texts : Bool) (root : Root) (options : WriteOptions) (all : List (List ℕ)) → HoldsLines texts root options all l.fn.self
      → IsUtf8 (take l.place l.bytes) × HoldsLines texts root options (all ++ lines (take l.place l.bytes)) l.self;
  quiet : l.fn.self.progress.is_shown ≡ false → g.E.Write.contents l.err ≡ g.E.Write.contents l.fn.err;
  hidden : l.self.progress.is_shown ≡ l.fn.self.progress.is_shown;
}

abbrev pub decreases-loop-place : goal.decreases-loop-place
decreases-loop-place g l = length l.bytes - l.place
