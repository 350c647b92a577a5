use Rattle.std.proofs.Common.{List, drop, ◌++◌}
use Rattle.disk.specs.declared.binding.Entry.{Entry}
use Rattle.mem_disk.specs.Listings.{AreListed}
use Rattle.mem_disk.proofs.listing.entries_of.Given as goal

abbrev pub invariant-loop-name : goal.invariant-loop-name
invariant-loop-name l = (rest : List Entry) → AreListed l.folder (drop l.name-index l.names) rest → AreListed l.folder l.names (l.entries.items ++ rest)
