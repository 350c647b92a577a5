use Rattle.std.proofs.Common.{◌≡◌, Bool, false, List, ℕ, ◌++◌, map}
use Rattle.footer.specs.declared.options.WriteOptions.{WriteOptions}
use Rattle.manifest.specs.Groups.{Root}
use Rattle.commands.specs.inner.GatheredRows.{HoldsLines}
use Rattle.commands.proofs.gathering.LineGatherer.gather_lines.Given as goal

-- the rows of the lines so far are gathered; where no progress is shown, none is written
abbrev pub invariant-loop-line : goal.invariant-loop-line
invariant-loop-line g l = record {
  held : (texts : Bool) (root : Root) (options : WriteOptions) (all : List (List ℕ)) → HoldsLines texts root options all l.fn.self
      → HoldsLines texts root options (all ++ map (λ text. text.now) l.yielded) l.self;
  quiet : l.fn.self.progress.is_shown ≡ false → g.E.Write.contents l.err ≡ g.E.Write.contents l.fn.err;
  hidden : l.self.progress.is_shown ≡ l.fn.self.progress.is_shown;
}
