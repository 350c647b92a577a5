use Rattle.std.proofs.Common.{List, ℕ, [], map, string_bytes, ap, subst}
use Rattle.schema.specs.Keys.{key_columns_view}
use Rattle.folders.specs.Named.{IsIn}
use Rattle.upkeep.specs.inner.Walk.{Finds, paths_of}
use Rattle.upkeep.proofs.Walking.{all_strays}
use Rattle.upkeep.proofs.walk.strays.Goals as goal

pub returns-clause-stands : goal.returns-clause-stands
returns-clause-stands g c = λ honest.
    let keys = key_columns_view c.args.keys.now in
    let Named = IsIn c.args.named.now in
    let image = (g.D.Disk.state c.args.vault.now.disk).seen in
    let found = paths_of c.find.new.found in
    all_strays keys Named image found (subst (λ (old : List (List ℕ)). Finds keys Named 0 [] image old found) (ap (map string_bytes) c.new-found.ensures.items) (c.in_ok-find.ensures.finds honest))
