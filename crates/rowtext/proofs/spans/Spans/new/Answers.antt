use Rattle.std.proofs.Common.{None, ◌∙◌, arith}
use Rattle.std.proofs.lemmas.List.{take-replicate}
use Rattle.rowtext.proofs.PieceLists.{held_few}
use Rattle.rowtext.proofs.spans.Spans.new.Goals as goal

pub returns : goal.returns
returns c = held_few c.args.count _ _ (omega arith) ∙ take-replicate c.args.count 8 None (omega arith)
