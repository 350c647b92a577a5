use Rattle.std.proofs.Common.{◌≤◌, take}
use Rattle.dictionary.specs.IndexPages.{IsLeastWidth}
use Rattle.dictionary.proofs.writing.least_width.Given as goal

abbrev pub invariant-loop-index : goal.invariant-loop-index
invariant-loop-index l = record { within : l.width ≤ 32; least : IsLeastWidth l.width (take l.index-index l.indexes) }
