use Rattle.std.proofs.Common.{rules, ◌≡◌, ◌≤◌, sym, ◌∙◌, ap, subst, refl, Ok, Err, arith, length, List, ℕ}
use Rattle.disk.specs.declared.fault.Fault.TheVariants.{Failed, Exists, Absent, Memory}
use Rattle.disk.specs.declared.binding.Binding.TheVariants.{File}
use Rattle.mem_disk.specs.declared.fuse.Done.TheVariants as extent
use Rattle.mem_disk.specs.declared.fuse.Trip.TheVariants.{Fails}
use Rattle.mem_disk.specs.Loose.{Loose, empty, replayed, bound, GoesOn}
use Rattle.mem_disk.proofs.Effects.{created_stays, created_bound, goes_from, goes_whole, goes_to, err_of, ok_of_not, not_exists, not_absent, memory_absent}
use Rattle.mem_disk.proofs.held.Held.create_file.Goals as goal

memory_exists : Memory ≡ Exists → ⊥
memory_exists e = cc

exists_absent : Exists ≡ Absent → ⊥
exists_absent e = cc

absent_exists : Absent ≡ Exists → ⊥
absent_exists e = cc

pub returns-then-eq-clause-effect : goal.returns-then-eq-clause-effect
returns-then-eq-clause-effect c f g r s =
    let x = created_stays _ _ f g r s refl (Err Failed) Failed refl _ c.args.self.now.kept.sound c.args.path.now (λ e. absurd (not_exists e)) (λ e. absurd (not_absent e)) in
    (x, x)

pub returns-in_default-clause-effect : goal.returns-in_default-clause-effect
returns-in_default-clause-effect c f g r s =
    let sound = c.args.self.now.kept.sound in (
      created_stays _ _ f g r s refl (Err Exists) Exists refl _ sound c.args.path.now (λ _ none. c.in_default.not-Nothing (c.binding.ensures ∙ none)) (λ e. absurd (exists_absent e)),
      created_stays _ _ f g r s refl (Err Failed) Failed refl _ sound c.args.path.now (λ e. absurd (not_exists e)) (λ e. absurd (not_absent e)),
    )

pub returns-in_default-binding-clause-effect : goal.returns-in_default-binding-clause-effect
returns-in_default-binding-clause-effect c f g r s =
    let sound = c.args.self.now.kept.sound in (
      created_stays _ _ f g r s refl (Err Absent) Absent refl _ sound c.args.path.now (λ e. absurd (absent_exists e)) (λ _ there. c.in_default-binding.not-Folder (c.binding-2.ensures ∙ ap (λ (p : List ℕ). (replayed empty c.args.self.now.calls.items).names p) c.folder_of.ensures.value ∙ there)),
      created_stays _ _ f g r s refl (Err Failed) Failed refl _ sound c.args.path.now (λ e. absurd (not_exists e)) (λ e. absurd (not_absent e)),
    )

pub returns-in_default-add_node-clause-effect : goal.returns-in_default-add_node-clause-effect
returns-in_default-add_node-clause-effect c f g r s =
    let sound = c.args.self.now.kept.sound in
    let same = c.add_node.ensures.calls in (
      created_stays _ _ f g r s same (Err Memory) Memory refl _ sound c.args.path.now (λ e. absurd (memory_exists e)) (λ e. absurd (memory_absent e)),
      created_stays _ _ f g r s same (Err Failed) Failed refl _ sound c.args.path.now (λ e. absurd (not_exists e)) (λ e. absurd (not_absent e)),
    )

pub returns-then-is_err-clause-effect : goal.returns-then-is_err-clause-effect
returns-then-is_err-clause-effect c f g r s =
    let sound = c.args.self.now.kept.sound in
    let same = err_of c.bind.result (sym c.is_err.ensures.value ∙ c.if-is_err.true) c.bind.ensures.err ∙ c.add_node.ensures.calls in (
      created_stays _ _ f g r s same (Err Memory) Memory refl _ sound c.args.path.now (λ e. absurd (memory_exists e)) (λ e. absurd (memory_absent e)),
      created_stays _ _ f g r s same (Err Failed) Failed refl _ sound c.args.path.now (λ e. absurd (not_exists e)) (λ e. absurd (not_absent e)),
    )

pub returns-clause-effect : goal.returns-clause-effect
returns-clause-effect c f g r s =
    let self = c.args.self.now in
    let path = c.args.path.now in
    let node = c.in-Ok.node in
    let goes = goes_from (λ (l : Loose). bound l path (File node)) self.calls.items c.add_node.new.self.calls.items c.bind.new.self.calls.items c.add_node.ensures.calls
    (ok_of_not c.bind.result (sym c.is_err.ensures.value ∙ c.if-is_err.false) c.bind.ensures.ok) in
    let is : node ≡ length self.nodes.items = c.in-Ok.ensures.node.0 in
    let ge : length self.nodes.items ≤ node = omega arith in
    let gone = sym c.in-Nothing.ensures in
    let home = ap (λ (p : List ℕ). (replayed empty c.args.self.now.calls.items).names p) (sym c.folder_of.ensures.value) ∙ sym c.in-Folder.ensures in
    (created_bound _ _ f g r s (Ok tt) tt _ self.kept.sound path node ge goes gone home, created_bound _ _ f g r s (Err Failed) refl _ self.kept.sound path node ge goes gone home)

pub returns-clause-extent : goal.returns-clause-extent
returns-clause-extent c _ =
    let none : c.args.trip ≡ Fails extent.Nothing → ⊥ = λ e. (search rules) in
    let self = c.args.self.now in
    let path = c.args.path.now in
    let goes = goes_from (λ (l : Loose). bound l path (File c.in-Ok.node)) self.calls.items c.add_node.new.self.calls.items c.bind.new.self.calls.items c.add_node.ensures.calls
    (ok_of_not c.bind.result (sym c.is_err.ensures.value ∙ c.if-is_err.false) c.bind.ensures.ok) in
    let is : c.in-Ok.node ≡ length self.nodes.items = c.in-Ok.ensures.node.0 in
    goes_whole (λ (l : Loose). bound l path (File (length self.nodes.items))) c.args.trip _ _ none
    (subst (λ (k : ℕ). GoesOn self.calls.items c.bind.new.self.calls.items (bound (replayed empty self.calls.items) path (File k))) is goes)

pub returns-clause-whole : goal.returns-clause-whole
returns-clause-whole c =
    let self = c.args.self.now in
    let path = c.args.path.now in
    let goes = goes_from (λ (l : Loose). bound l path (File c.in-Ok.node)) self.calls.items c.add_node.new.self.calls.items c.bind.new.self.calls.items c.add_node.ensures.calls
    (ok_of_not c.bind.result (sym c.is_err.ensures.value ∙ c.if-is_err.false) c.bind.ensures.ok) in
    let is : c.in-Ok.node ≡ length self.nodes.items = c.in-Ok.ensures.node.0 in
    goes_to _ _ _ goes ∙ ap (λ (k : ℕ). bound (replayed empty self.calls.items) path (File k)) is
