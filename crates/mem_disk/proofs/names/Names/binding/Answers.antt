use Rattle.std.proofs.Common.{ap, sym, ◌∙◌}
use Rattle.mem_disk.specs.Tables.{at_first}
use Rattle.mem_disk.specs.declared.name.Name.{Name}
use Rattle.mem_disk.proofs.Tables.{found_of, none_of}
use Rattle.mem_disk.proofs.names.Names.binding.Goals as goal

pub returns-in-Some : goal.returns-in-Some
returns-in-Some c = ap (λ (e : Name). e.now) c.index.ensures ∙ sym (found_of (λ (e : Name). e.now) at_first c.args.self.now.list.items c.args.path.now c.in-Some.i c.index.result.now c.in-Some.ensures.place)

pub returns-in-None : goal.returns-in-None
returns-in-None c = c.first_of.ensures ∙ sym (none_of (λ (e : Name). e.now) at_first c.args.self.now.list.items c.args.path.now c.in-None.ensures.place)
