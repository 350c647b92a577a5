use Rattle.std.proofs.Common.{ap, ◌∙◌}
use Rattle.schema.specs.Views.{key_view}
use Rattle.partition.specs.Folders.{part_path_of}
use Rattle.std.proofs.lemmas.Result.{IfOk-weaker}
use Rattle.folders.proofs.naming.part_of_group.Goals as goal

pub returns-clause-stands : goal.returns-clause-stands
returns-clause-stands c = IfOk-weaker c.part_path.result _ _ (λ path is. is ∙ ap (λ keys. part_path_of keys (key_view c.args.group.now.key) c.args.group.now.number) c.keys.ensures.are) c.part_path.ensures.stands
