use Rattle.std.proofs.Common.{◌≡◌, ◌≢◌, ◌==◌, ◌++◌, sym, ◌∙◌, ap, arith, List, ℕ, [], length, false}
use Rattle.std.proofs.lemmas.Str.Pattern.{strip_prefix_char}
use Rattle.std.proofs.lemmas.Bool.{false≢true as not_true}
use Rattle.mem_disk.proofs.Listed.{other_front, behind_slash}
use Rattle.mem_disk.proofs.listing.behind.Goals as goal

some_of : (xs : List ℕ) → (length xs == 0) ≡ false → xs ≢ []
some_of xs is e = not_true (sym is ∙ ap (λ (ys : List ℕ). length ys == 0) e)

pub returns-in_err-strip_prefix : goal.returns-in_err-strip_prefix
returns-in_err-strip_prefix c =
    let some = some_of c.args.folder.now (sym c.is_empty.ensures ∙ c.if-is_empty.false) in
    other_front c.args.folder.now c.args.path.now c.from_residual.result c.from_residual.ensures some c.in_err-strip_prefix.ensures.cases

pub returns : goal.returns
returns c =
    let some = some_of c.args.folder.now (sym c.is_empty.ensures ∙ c.if-is_empty.false) in
    let cut = c.in_ok-strip_prefix.ensures.cases in
    let local = c.in_ok-strip_prefix.field-0.now in
    behind_slash c.args.folder.now c.args.path.now local c.strip_prefix-2.result some (cut.1.1 ∙ ap (λ (xs : List ℕ). c.args.folder.now ++ xs) (sym cut.2))
    (strip_prefix_char 47 local c.strip_prefix-2.result c.strip_prefix-2.ensures.cases (omega arith))
