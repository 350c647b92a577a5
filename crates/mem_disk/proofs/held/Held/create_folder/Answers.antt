use Rattle.std.proofs.Common.{rules, ◌≡◌, ◌∙◌, ap, List, ℕ, sym, refl, Ok, Err}
use Rattle.disk.specs.declared.binding.Binding.TheVariants.{Folder}
use Rattle.mem_disk.specs.declared.fuse.Done.TheVariants as extent
use Rattle.mem_disk.specs.declared.fuse.Trip.TheVariants.{Fails}
use Rattle.mem_disk.specs.Loose.{Loose, empty, replayed, bound}
use Rattle.disk.specs.declared.fault.Fault.TheVariants.{Failed}
use Rattle.mem_disk.proofs.Effects.{folder_made_bound, goes_whole, goes_to}
use Rattle.mem_disk.proofs.held.Held.create_folder.Goals as goal

pub returns-clause-effect : goal.returns-clause-effect
returns-clause-effect c f g r s =
    let sound = c.args.self.now.kept.sound in
    let goes = c.in_ok-bind.ensures.ok in
    let gone = sym c.in-Nothing.ensures in
    let home = ap (λ (p : List ℕ). (replayed empty c.args.self.now.calls.items).names p) (sym c.folder_of.ensures.value) ∙ sym c.in-Folder-binding.ensures in
    (folder_made_bound _ _ f g r s (Ok tt) tt _ sound c.args.path.now goes gone home, folder_made_bound _ _ f g r s (Err Failed) refl _ sound c.args.path.now goes gone home)

pub returns-clause-extent : goal.returns-clause-extent
returns-clause-extent c _ =
    let none : c.args.trip ≡ Fails extent.Nothing → ⊥ = λ e. (search rules) in
    goes_whole (λ (l : Loose). bound l c.args.path.now Folder) c.args.trip _ _ none c.in_ok-bind.ensures.ok

pub returns-clause-whole : goal.returns-clause-whole
returns-clause-whole c _ = goes_to _ _ _ c.in_ok-bind.ensures.ok
