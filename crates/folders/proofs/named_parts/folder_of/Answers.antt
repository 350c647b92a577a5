use Rattle.std.proofs.Common.{string_bytes, sym, ◌∙◌, ap, subst, Option}
use Rattle.schema.specs.Keys.{key_columns_view}
use Rattle.schema.specs.Views.{key_view}
use Rattle.partition.specs.Folders.{path}
use Rattle.partition.proofs.SameKeys.{same_key}
use Rattle.manifest.specs.declared.group.Group.{Group}
use Rattle.folders.specs.declared.named_parts.InFolder.{InFolder}
use Rattle.folders.specs.inner.Names.{IsFolderOf}
use Rattle.folders.proofs.named_parts.folder_of.Goals as goal

pub returns-in_ok-clone-in-Some-clause-is : goal.returns-in_ok-clone-in-Some-clause-is
returns-in_ok-clone-in-Some-clause-is c =
    let keys = key_columns_view c.args.columns.now in
    let held = subst (λ (o : Option InFolder). IsFolderOf keys o) c.in-Some.is c.requires in
    let same = same_key (key_view c.deref.result.now.key) (key_view c.args.group.now.key) (sym c.if-same_keys.ensures) in
    ap string_bytes c.in_ok-clone-in-Some.ensures.cases
    ∙ held
    ∙ ap (λ (g : Group). path keys (key_view g.key)) (sym c.deref.ensures)
    ∙ ap (path keys) same
