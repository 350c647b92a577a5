use Rattle.std.proofs.Common.{◌≡◌, length, take}
use Rattle.mem_disk.specs.Picks.{words_left}
use Rattle.mem_disk.proofs.Picking.{Sectors}
use Rattle.mem_disk.proofs.crash.torn.Given as goal

abbrev pub invariant-loop-at : goal.invariant-loop-at
invariant-loop-at l = record {
  long : length l.bytes.items ≡ l.at;
  front : take l.firm l.bytes.items ≡ take l.firm l.node.bytes.items;
  sectors : Sectors l.node (words_left l.fn.picks) l.at l.word (words_left l.picks) l.bytes.items;
}
