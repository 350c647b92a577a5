use Rattle.std.proofs.Common.{List, ℕ, map, string_bytes, ap, sym, subst, Vec, String, Global}
use Rattle.manifest.specs.Groups.{root_of}
use Rattle.upkeep.specs.Intact.{AreLeftovers}
use Rattle.upkeep.specs.inner.Walk.{paths_of}
use Rattle.upkeep.proofs.Looking.{if_ok_map}
use Rattle.upkeep.proofs.surveying.survey_of.Goals as goal

pub returns-clause-leftovers : goal.returns-clause-leftovers
returns-clause-leftovers g c = λ honest.
    let image = (g.D.Disk.state c.args.vault.now.disk).seen in
    let root = root_of c.args.manifest.now in
    if_ok_map _ _ c.with_files.result (λ s same. subst (λ (v : Vec (String Global) Global). AreLeftovers image root (paths_of v)) (sym same) (c.in_ok-files.ensures.leftovers honest)) c.with_files.ensures.leftovers
