use Rattle.std.proofs.Common.{◌≡◌, ◌≢◌, ◌==◌, List, ℕ, [], length, false, sym, ◌∙◌, ap}
use Rattle.std.proofs.lemmas.Bool.{false≢true as not_true}
use Rattle.disk.specs.declared.binding.Binding.TheVariants.{Folder}
use Rattle.mem_disk.specs.Left.{left_in}
use Rattle.mem_disk.proofs.Leaving.{left_there_of, left_gone_of}
use Rattle.mem_disk.proofs.left.+left_at.Goals as goal

some_of : (xs : List ℕ) → (length xs == 0) ≡ false → xs ≢ []
some_of xs is e = not_true (sym is ∙ ap (λ (ys : List ℕ). length ys == 0) e)

pub returns-in-Folder : goal.returns-in-Folder
returns-in-Folder t c =
    let names = c.args.picked.now.list.items in
    let some = some_of c.args.path.now (sym c.is_empty.ensures ∙ c.if-is_empty.false) in
    let there : left_in names c.folder_of.result.now ≡ Folder = sym c.in-Folder.ensures in
    c.binding.ensures ∙ sym (left_there_of names c.args.path.now some (ap (left_in names) (sym c.folder_of.ensures.value) ∙ there))

pub returns-in_default : goal.returns-in_default
returns-in_default t c =
    let names = c.args.picked.now.list.items in
    let some = some_of c.args.path.now (sym c.is_empty.ensures ∙ c.if-is_empty.false) in
    sym (left_gone_of names c.args.path.now some (λ there. c.in_default.not-Folder (c.left_at.ensures ∙ ap (left_in names) c.folder_of.ensures.value ∙ there)))
