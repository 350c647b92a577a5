use Rattle.std.proofs.Common.{rules, ◌≡◌, sym, refl, ◌∙◌, Ok, Err}
use Rattle.disk.specs.declared.fault.Fault.TheVariants.{Failed}
use Rattle.mem_disk.specs.declared.fuse.Done.TheVariants as extent
use Rattle.mem_disk.specs.declared.fuse.Trip.TheVariants.{Fails}
use Rattle.mem_disk.specs.Loose.{Loose, folder_synced}
use Rattle.mem_disk.proofs.Effects.{folder_done, goes_whole, goes_to, ok_of_not}
use Rattle.mem_disk.proofs.held.Held.sync_names.Goals as goal

pub returns-clause-effect : goal.returns-clause-effect
returns-clause-effect c f g r s =
    let goes = ok_of_not c.sync_folder.result (sym c.is_err.ensures.value ∙ c.if-is_err.false) c.sync_folder.ensures.ok in
    (folder_done _ _ f g r s (Ok tt) tt c.args.folder.now goes (sym c.in-Folder.ensures), folder_done _ _ f g r s (Err Failed) refl c.args.folder.now goes (sym c.in-Folder.ensures))

pub returns-clause-extent : goal.returns-clause-extent
returns-clause-extent c _ =
    let none : c.args.trip ≡ Fails extent.Nothing → ⊥ = λ e. (search rules) in
    goes_whole (λ (l : Loose). folder_synced l c.args.folder.now) c.args.trip _ _ none
    (ok_of_not c.sync_folder.result (sym c.is_err.ensures.value ∙ c.if-is_err.false) c.sync_folder.ensures.ok)

pub returns-clause-whole : goal.returns-clause-whole
returns-clause-whole c = goes_to _ _ _ (ok_of_not c.sync_folder.result (sym c.is_err.ensures.value ∙ c.if-is_err.false) c.sync_folder.ensures.ok)
