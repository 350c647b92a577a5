use Rattle.std.proofs.Common.{false, ◌<◌, ◌^◌, List, refl, sym, ◌∙◌, ap, subst, arith, inl, inr}
use Rattle.std.proofs.lemmas.Bool.{false≢true}
use Rattle.schema.specs.Keys.{KeyColumn, key_columns_view}
use Rattle.schema.specs.Views.{key_view}
use Rattle.vault.specs.Views.{root_path, next_path}
use Rattle.partition.specs.Folders.{CanPartition, part_path_of}
use Rattle.manifest.specs.Groups.{group_view, root_of}
use Rattle.table_commits.proofs.AfterCleanings.{spoilt, forgotten, path_gone, one_forgotten}
use Rattle.table_commits.proofs.cleaning.forget_part.Goals as goal

pub forget-requires : goal.forget-requires
forget-requires g c =
    let keys = key_columns_view c.keys.result.now in
    let key = key_view c.args.group.now.key in
    let number = c.args.group.now.number in
    let is = c.as_str.ensures.value ∙ c.in-Ok.ensures.stands in
    let fits : number < 2 ^ 64 = omega arith in
    ((λ e. (c.part_paths_are_not_roots.ensures keys key number root_path fits (inl refl)).0 (sym is ∙ e)), (λ e. (c.part_paths_are_not_roots.ensures keys key number next_path fits (inr refl)).0 (sym is ∙ e)))

pub returns-clause-clears : goal.returns-clause-clears
returns-clause-clears g c honest s shows is_open unneeded low = spoilt g.D.Disk.state c.args.store.now s shows is_open

pub returns-then-is_err-clause-clears : goal.returns-then-is_err-clause-clears
returns-then-is_err-clause-clears g c honest s shows is_open unneeded low =
    let f = group_view c.args.group.now in
    let keys = c.keys.ensures.are ∙ shows.keys in
    let can = subst (λ (ks : List KeyColumn). CanPartition ks f.key) keys c.in-Ok.ensures.can in
    let is = c.as_str.ensures.value ∙ c.in-Ok.ensures.stands ∙ ap (λ (ks : List KeyColumn). part_path_of ks f.key f.number) keys in
    forgotten g.D.Disk.state c.args.store.now s shows is_open f can low unneeded c.as_str.result.now is c.forget.new.self c.forget.result false (c.forget.ensures.effect honest) (λ e. absurd (false≢true e))

pub returns-in-Ok-clause-clears : goal.returns-in-Ok-clause-clears
returns-in-Ok-clause-clears g c honest s shows is_open unneeded low =
    let f = group_view c.args.group.now in
    let old = c.args.store.now in
    let keys = c.keys.ensures.are ∙ shows.keys in
    let can = subst (λ (ks : List KeyColumn). CanPartition ks f.key) keys c.in-Ok.ensures.can in
    let is = c.as_str.ensures.value ∙ c.in-Ok.ensures.stands ∙ ap (λ (ks : List KeyColumn). part_path_of ks f.key f.number) keys in
    let forgets = c.forget.ensures.effect honest in
    forgotten g.D.Disk.state old s shows is_open f can low unneeded c.as_str.result.now is c.forget.new.self c.forget.result old.clean forgets
    (λ clean. (clean, path_gone c.as_str.result.now (g.D.Disk.state old.vault.disk) (g.D.Disk.state c.forget.new.self.disk) c.forget.result forgets (sym c.is_err.ensures.value ∙ c.if-is_err.false)))

pub returns-in-Ok-clause-forgets : goal.returns-in-Ok-clause-forgets
returns-in-Ok-clause-forgets g c honest clean =
    let f = group_view c.args.group.now in
    let old = c.args.store.now in
    let before = g.D.Disk.state old.vault.disk in
    let after = g.D.Disk.state c.forget.new.self.disk in
    let path = c.as_str.result.now in
    let keys = c.keys.ensures.are in
    let can = subst (λ (ks : List KeyColumn). CanPartition ks f.key) keys c.in-Ok.ensures.can in
    let is = c.as_str.ensures.value ∙ c.in-Ok.ensures.stands ∙ ap (λ (ks : List KeyColumn). part_path_of ks f.key f.number) keys in
    let forgets = c.forget.ensures.effect honest in
    (clean, one_forgotten (root_of old.manifest).keys f can path is before after forgets.seen (path_gone path before after c.forget.result forgets (sym c.is_err.ensures.value ∙ c.if-is_err.false)))
