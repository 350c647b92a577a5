use Rattle.std.proofs.Common.{◌≡◌, ◌≢◌, sym, ◌∙◌, ap, subst, refl, Ok, Err, arith, List, ℕ, rules}
use Rattle.disk.specs.declared.fault.Fault.TheVariants.{Failed}
use Rattle.disk.specs.declared.binding.Binding.{Binding}
use Rattle.disk.specs.declared.binding.Binding.TheVariants.{Nothing, Folder, File}
use Rattle.disk.specs.Calls.{IsMovable}
use Rattle.disk.specs.Paths.{folder_of}
use Rattle.mem_disk.specs.declared.call.Call.{Call}
use Rattle.mem_disk.specs.declared.fuse.Done.TheVariants as extent
use Rattle.mem_disk.specs.declared.fuse.Trip.TheVariants.{Fails}
use Rattle.mem_disk.specs.Loose.{Loose, empty, replayed, image_of, bound, GoesOn}
use Rattle.mem_disk.specs.Failing.{moved}
use Rattle.mem_disk.proofs.Choices.{file_is_no_folder, file_is_something}
use Rattle.mem_disk.proofs.Effects.{goes_to, goes_in_all, goes_in_part, file_within, renamed_stays, renamed_part, renamed_whole, err_of, ok_of_not, not_absent, not_exists, later_name}
use Rattle.mem_disk.proofs.held.Held.rename_file.Goals as goal

abbrev movable : (calls : List Call) (source target : List ℕ) (n : ℕ) (over : Binding) → File n ≡ (replayed empty calls).names source → over ≡ (replayed empty calls).names target → (over ≡ Folder → ⊥) → (folder_of target ≡ folder_of source) × (target ≢ source) → IsMovable (image_of (replayed empty calls)) source target
movable calls source target n over file is onto beside = record {
  node = n;
  file = sym file;
  onto = λ e. onto (is ∙ e);
  beside = beside.0;
  apart = beside.1;
}

still_file : (old mid : List Call) (source target : List ℕ) (n : ℕ) → GoesOn old mid (bound (replayed empty old) target (File n)) → (target ≢ source) → File n ≡ (replayed empty old).names source → (replayed empty mid).names source ≡ File n
still_file old mid source target n goes apart file = later_name old mid target (File n) goes source (λ e. apart (sym e)) ∙ sym file

pub bind-requires-clause-node : goal.bind-requires-clause-node
bind-requires-clause-node c n e =
    let within = file_within _ _ c.args.self.now.kept.sound c.args.source.now c.in-File.node (sym c.in-File.ensures) in
    let same : c.in-File.node ≡ n = cc in
    omega (arith, within, same)

pub returns-then-is_err-clause-effect : goal.returns-then-is_err-clause-effect
returns-then-is_err-clause-effect c f g r s =
    let same = err_of c.bind.result (sym c.is_err.ensures.value ∙ c.if-is_err.true) c.bind.ensures.err in
    let x = renamed_stays _ _ f g r s same (Err Failed) Failed refl c.args.source.now c.args.target.now (λ e. absurd (not_absent e)) (λ e. absurd (not_exists e)) in
    (x, x)

pub returns-then-eq-2-clause-effect : goal.returns-then-eq-2-clause-effect
returns-then-eq-2-clause-effect c f g r s =
    let beside : (folder_of c.args.target.now ≡ folder_of c.args.source.now) × (c.args.target.now ≢ c.args.source.now) = c.are_beside.ensures.0 (search rules) in
    let moves = movable c.args.self.now.calls.items c.args.source.now c.args.target.now c.in-File.node c.binding-2.result c.in-File.ensures c.binding-2.ensures c.in_default.not-Folder beside in
    let goes = ok_of_not c.bind.result (sym c.is_err.ensures.value ∙ c.if-is_err.false) c.bind.ensures.ok in
    let x = renamed_part _ f g r s (Err Failed) refl _ c.args.self.now.kept.sound c.args.source.now c.args.target.now moves c.bind.new.self.calls.items goes refl in
    (x, x)

pub bind-requires-2-clause-no_folder : goal.bind-requires-2-clause-no_folder
bind-requires-2-clause-no_folder c =
    let beside : (folder_of c.args.target.now ≡ folder_of c.args.source.now) × (c.args.target.now ≢ c.args.source.now) = c.are_beside.ensures.0 (search rules) in
    let goes = ok_of_not c.bind.result (sym c.is_err.ensures.value ∙ c.if-is_err.false) c.bind.ensures.ok in
    file_is_no_folder _ c.in-File.node (still_file _ _ c.args.source.now c.args.target.now c.in-File.node goes beside.1 c.in-File.ensures)

pub bind-requires-2-clause-home : goal.bind-requires-2-clause-home
bind-requires-2-clause-home c =
    let beside : (folder_of c.args.target.now ≡ folder_of c.args.source.now) × (c.args.target.now ≢ c.args.source.now) = c.are_beside.ensures.0 (search rules) in
    let goes = ok_of_not c.bind.result (sym c.is_err.ensures.value ∙ c.if-is_err.false) c.bind.ensures.ok in
    c.bind.new.self.kept.sound.whole.below c.args.source.now (file_is_something _ c.in-File.node (still_file _ _ c.args.source.now c.args.target.now c.in-File.node goes beside.1 c.in-File.ensures))

pub returns-then-is_err-2-clause-effect : goal.returns-then-is_err-2-clause-effect
returns-then-is_err-2-clause-effect c f g r s =
    let beside : (folder_of c.args.target.now ≡ folder_of c.args.source.now) × (c.args.target.now ≢ c.args.source.now) = c.are_beside.ensures.0 (search rules) in
    let moves = movable c.args.self.now.calls.items c.args.source.now c.args.target.now c.in-File.node c.binding-2.result c.in-File.ensures c.binding-2.ensures c.in_default.not-Folder beside in
    let goes = ok_of_not c.bind.result (sym c.is_err.ensures.value ∙ c.if-is_err.false) c.bind.ensures.ok in
    let same = err_of c.bind-2.result (sym c.is_err-2.ensures.value ∙ c.if-is_err-2.true) c.bind-2.ensures.err in
    let both = subst (λ (x : List Call). GoesOn c.args.self.now.calls.items x (bound (replayed empty c.args.self.now.calls.items) c.args.target.now (File c.in-File.node))) (sym same) goes in
    let x = renamed_part _ f g r s (Err Failed) refl _ c.args.self.now.kept.sound c.args.source.now c.args.target.now moves c.bind-2.new.self.calls.items both refl in
    (x, x)

pub returns-clause-effect : goal.returns-clause-effect
returns-clause-effect c f g r s =
    let beside : (folder_of c.args.target.now ≡ folder_of c.args.source.now) × (c.args.target.now ≢ c.args.source.now) = c.are_beside.ensures.0 (search rules) in
    let moves = movable c.args.self.now.calls.items c.args.source.now c.args.target.now c.in-File.node c.binding-2.result c.in-File.ensures c.binding-2.ensures c.in_default.not-Folder beside in
    let goes = ok_of_not c.bind.result (sym c.is_err.ensures.value ∙ c.if-is_err.false) c.bind.ensures.ok in
    let then = ok_of_not c.bind-2.result (sym c.is_err-2.ensures.value ∙ c.if-is_err-2.false) c.bind-2.ensures.ok in
    let sound = c.args.self.now.kept.sound in (
      renamed_whole _ f g r s (Ok tt) tt _ sound c.args.source.now c.args.target.now moves c.bind.new.self.calls.items c.bind-2.new.self.calls.items goes then,
      renamed_whole _ f g r s (Err Failed) refl _ sound c.args.source.now c.args.target.now moves c.bind.new.self.calls.items c.bind-2.new.self.calls.items goes then,
    )

pub returns-then-is_err-clause-out_of_memory : goal.returns-then-is_err-clause-out_of_memory
returns-then-is_err-clause-out_of_memory c _ =
    let none : c.args.trip ≡ Fails extent.Nothing → ⊥ = λ e. (search rules) in
    let beside : (folder_of c.args.target.now ≡ folder_of c.args.source.now) × (c.args.target.now ≢ c.args.source.now) = c.are_beside.ensures.0 (search rules) in
    (movable c.args.self.now.calls.items c.args.source.now c.args.target.now c.in-File.node c.binding-2.result c.in-File.ensures c.binding-2.ensures c.in_default.not-Folder beside, none)

pub returns-then-is_err-2-clause-out_of_memory : goal.returns-then-is_err-2-clause-out_of_memory
returns-then-is_err-2-clause-out_of_memory c _ =
    let none : c.args.trip ≡ Fails extent.Nothing → ⊥ = λ e. (search rules) in
    let beside : (folder_of c.args.target.now ≡ folder_of c.args.source.now) × (c.args.target.now ≢ c.args.source.now) = c.are_beside.ensures.0 (search rules) in
    (movable c.args.self.now.calls.items c.args.source.now c.args.target.now c.in-File.node c.binding-2.result c.in-File.ensures c.binding-2.ensures c.in_default.not-Folder beside, none)

-- the target's name, and then the source's gone
named : (old mid : List Call) (source target : List ℕ) (n : ℕ) → GoesOn old mid (bound (replayed empty old) target (File n)) → File n ≡ (replayed empty old).names source → replayed empty mid ≡ bound (replayed empty old) target ((replayed empty old).names source)
named old mid source target n goes file = goes_to old mid _ goes ∙ ap (λ (b : Binding). bound (replayed empty old) target b) file

pub returns-then-eq-2-clause-extent : goal.returns-then-eq-2-clause-extent
returns-then-eq-2-clause-extent c _ =
    let part : c.args.trip ≡ Fails extent.Part = (search rules) in
    let goes = ok_of_not c.bind.result (sym c.is_err.ensures.value ∙ c.if-is_err.false) c.bind.ensures.ok in
    goes_in_part (moved c.args.source.now c.args.target.now) c.args.trip c.args.self.now.calls.items c.bind.new.self.calls.items part (named _ _ c.args.source.now c.args.target.now c.in-File.node goes c.in-File.ensures)

pub returns-clause-extent : goal.returns-clause-extent
returns-clause-extent c _ =
    let none : c.args.trip ≡ Fails extent.Nothing → ⊥ = λ e. (search rules) in
    let part : c.args.trip ≡ Fails extent.Part → ⊥ = λ e. (search rules) in
    let goes = ok_of_not c.bind.result (sym c.is_err.ensures.value ∙ c.if-is_err.false) c.bind.ensures.ok in
    let then = ok_of_not c.bind-2.result (sym c.is_err-2.ensures.value ∙ c.if-is_err-2.false) c.bind-2.ensures.ok in
    goes_in_all (moved c.args.source.now c.args.target.now) c.args.trip c.args.self.now.calls.items c.bind-2.new.self.calls.items none part
    (goes_to _ _ _ then ∙ ap (λ (l : Loose). bound l c.args.source.now Nothing) (named _ _ c.args.source.now c.args.target.now c.in-File.node goes c.in-File.ensures))

pub returns-clause-whole : goal.returns-clause-whole
returns-clause-whole c =
    let goes = ok_of_not c.bind.result (sym c.is_err.ensures.value ∙ c.if-is_err.false) c.bind.ensures.ok in
    let then = ok_of_not c.bind-2.result (sym c.is_err-2.ensures.value ∙ c.if-is_err-2.false) c.bind-2.ensures.ok in
    goes_to _ _ _ then ∙ ap (λ (l : Loose). bound l c.args.source.now Nothing) (named _ _ c.args.source.now c.args.target.now c.in-File.node goes c.in-File.ensures)
