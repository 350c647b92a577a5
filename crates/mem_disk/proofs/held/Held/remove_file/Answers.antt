use Rattle.std.proofs.Common.{rules, ◌≡◌, sym, refl, Ok, Err}
use Rattle.disk.specs.declared.fault.Fault.TheVariants.{Failed}
use Rattle.disk.specs.declared.binding.Binding.TheVariants.{Nothing}
use Rattle.mem_disk.specs.declared.fuse.Done.TheVariants as extent
use Rattle.mem_disk.specs.declared.fuse.Trip.TheVariants.{Fails}
use Rattle.mem_disk.specs.Loose.{Loose, bound}
use Rattle.mem_disk.proofs.Effects.{removed_bound, goes_whole, goes_to}
use Rattle.mem_disk.proofs.held.Held.remove_file.Goals as goal

pub returns-clause-effect : goal.returns-clause-effect
returns-clause-effect c f g r s =
    let sound = c.args.self.now.kept.sound in
    let goes = c.in_ok-bind.ensures.ok in
    let file = sym c.in-File.ensures in
    (removed_bound _ _ f g r s (Ok tt) tt _ sound c.args.path.now c.in-File.field-0 goes file, removed_bound _ _ f g r s (Err Failed) refl _ sound c.args.path.now c.in-File.field-0 goes file)

pub returns-clause-extent : goal.returns-clause-extent
returns-clause-extent c _ =
    let none : c.args.trip ≡ Fails extent.Nothing → ⊥ = λ e. (search rules) in
    goes_whole (λ (l : Loose). bound l c.args.path.now Nothing) c.args.trip _ _ none c.in_ok-bind.ensures.ok

pub returns-clause-whole : goal.returns-clause-whole
returns-clause-whole c = goes_to _ _ _ c.in_ok-bind.ensures.ok
