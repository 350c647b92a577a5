use Rattle.std.proofs.Common.{◌∙◌}
use Rattle.mem_disk.proofs.Places.{place_found, place_within}
use Rattle.mem_disk.proofs.names.Names.find.Goals as goal

pub returns-clause-place : goal.returns-clause-place
returns-clause-place c = place_found c.args.self.now.list.items c.args.path.now c.copied.result (c.copied.ensures ∙ c.get.ensures.value ∙ c.args.self.now.placed c.args.path.now)

pub returns-clause-within : goal.returns-clause-within
returns-clause-within c = place_within c.args.self.now.list.items c.args.path.now c.copied.result (c.copied.ensures ∙ c.get.ensures.value ∙ c.args.self.now.placed c.args.path.now)
