use Rattle.std.proofs.Common.{take}
use Rattle.mem_disk.specs.Left.{EachOf, IsPicked}
use Rattle.mem_disk.specs.Picks.{words_left, PicksBinding, after_name}
use Rattle.mem_disk.proofs.Picking.{Turns}
use Rattle.mem_disk.proofs.crash.picked_names.Given as goal

abbrev pub invariant-loop-name : goal.invariant-loop-name
invariant-loop-name l = record {
  each : EachOf IsPicked (take l.name-index l.names) l.picked.items;
  turns : Turns PicksBinding after_name l.names l.name-index (words_left l.fn.picks) (words_left l.picks) l.picked.items;
}
