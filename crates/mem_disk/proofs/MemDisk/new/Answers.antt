use Rattle.std.proofs.Common.{refl, ap, sym, subst, List, []}
use Rattle.disk.specs.State.{IsAtRest}
use Rattle.mem_disk.specs.declared.call.Call.{Call}
use Rattle.mem_disk.specs.Loose.{empty, replayed, image_of}
use Rattle.mem_disk.specs.States.{state_with}
use Rattle.mem_disk.proofs.Resting.{at_rest, empty_whole}
use Rattle.mem_disk.proofs.MemDisk.new.Goals as goal

pub returns-clause-rest : goal.returns-clause-rest
returns-clause-rest c = subst (λ (calls : List Call). IsAtRest (state_with calls 0 0)) (sym c.new.ensures) (at_rest [] 0 0 (λ q. refl) (λ n. refl) (λ n. refl) empty_whole)

pub returns-clause-seen : goal.returns-clause-seen
returns-clause-seen c = ap (λ (calls : List Call). image_of (replayed empty calls)) c.new.ensures
