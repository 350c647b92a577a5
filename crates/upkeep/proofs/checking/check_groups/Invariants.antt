use Rattle.std.proofs.Common.{◌≡◌, ◌<◌, [], Some, ℕ}
use Rattle.std.specs.List.{slice_get}
use Rattle.manifest.specs.Groups.{Group, root_of}
use Rattle.upkeep.specs.Intact.{IsHeldIn}
use Rattle.upkeep.specs.Reading.{Looks}
use Rattle.upkeep.proofs.checking.check_groups.Given as goal

abbrev pub invariant-loop-i : goal.invariant-loop-i
invariant-loop-i g l = record {
  looks : Looks l.i (g.D.Disk.state l.fn.vault.disk) (g.D.Disk.state l.vault.disk);
  held : (g.D.Disk.state l.fn.vault.disk).honest → l.findings.items ≡ [] → (k : ℕ) (h : Group) → k < l.i → slice_get (root_of l.manifest).groups k ≡ Some h → IsHeldIn (g.D.Disk.state l.fn.vault.disk).seen (root_of l.manifest) h;
}
