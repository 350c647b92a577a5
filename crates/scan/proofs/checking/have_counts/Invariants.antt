use Rattle.std.proofs.Common.{map, drop}
use Rattle.metadata.specs.Views.{chunk_meta_view}
use Rattle.scan.specs.inner.Texts.{AreCounted}
use Rattle.scan.proofs.checking.have_counts.Given as goal

-- all are counted where those that are left are
abbrev pub invariant-loop-usage : goal.invariant-loop-usage
invariant-loop-usage l = AreCounted (map chunk_meta_view l.chunks) l.count (drop l.usage-index l.uses) → AreCounted (map chunk_meta_view l.chunks) l.count l.uses
