use Rattle.std.proofs.Common.{arith}
use Rattle.bits.proofs.Loads.{packed-eight}
use Rattle.bits.proofs.lanes.block.Goals as goal

pub returns-clause-stands : goal.returns-clause-stands
returns-clause-stands c = packed-eight c.args.bytes.now c.args.width _ _ _ _ _ _ _ _ (omega (arith, c.requires.narrow, c.requires.within)) c.lane.ensures c.lane-2.ensures c.lane-3.ensures c.lane-4.ensures c.lane-5.ensures c.lane-6.ensures c.lane-7.ensures c.lane-8.ensures
