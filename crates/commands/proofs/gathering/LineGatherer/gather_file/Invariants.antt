use Rattle.std.proofs.Common.{◌≡◌, Bool, false, []}
use Rattle.footer.specs.declared.options.WriteOptions.{WriteOptions}
use Rattle.manifest.specs.Groups.{Root}
use Rattle.commands.specs.inner.GatheredRows.{HoldsLines, HasRead}
use Rattle.commands.proofs.gathering.LineGatherer.gather_file.Given as goal

-- the rows of the whole lines that were read are gathered
abbrev pub invariant-reads : goal.invariant-reads
invariant-reads g l = record {
  read : (texts : Bool) (root : Root) (options : WriteOptions) → HoldsLines texts root options [] l.fn.self
      → HasRead texts root options (g.B.BlockReader.left l.fn.file) (g.B.BlockReader.left l.file) l.waiting.items l.self;
  shut : g.B.BlockReader.is_shut l.file → g.B.BlockReader.is_shut l.fn.file;
  quiet : l.fn.self.progress.is_shown ≡ false → g.E.Write.contents l.err ≡ g.E.Write.contents l.fn.err;
  hidden : l.self.progress.is_shown ≡ l.fn.self.progress.is_shown;
}
