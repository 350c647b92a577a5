use Rattle.std.proofs.Common.{length, filter, ap, sym, ◌∙◌, arith}
use Rattle.std.specs.Prelude.{◌==◌}
use Rattle.pages.specs.declared.level_list.LevelList.{LevelList}
use Rattle.pages.specs.Left.{levels_of}
use Rattle.pages.proofs.LevelLists.{zeros_count, zeros_without}
use Rattle.pages.proofs.level_list.LevelList.count_of.Goals as goal

pub returns-then-level-eq0 : goal.returns-then-level-eq0
returns-then-level-eq0 c = zeros_count c.args.level c.in-Zeros.count (omega arith) ∙ ap (λ (l : LevelList). length (filter (λ n. n == c.args.level) (levels_of l))) (sym c.in-Zeros.is)

pub returns-else-level-eq0 : goal.returns-else-level-eq0
returns-else-level-eq0 c = zeros_without c.args.level c.in-Zeros.count (omega arith) ∙ ap (λ (l : LevelList). length (filter (λ n. n == c.args.level) (levels_of l))) (sym c.in-Zeros.is)
