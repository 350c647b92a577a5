use Rattle.std.proofs.Common.{◌≡◌, inl, inr, List, ℕ, ◌∷◌, [], Some, refl, sym, subst}
use Rattle.std.proofs.lemmas.Result.{on_ok_weaker}
use Rattle.bits.proofs.Passing.{passes}
use Rattle.program.specs.Paths.{IsPlaceRefusal, IsUnwritten}
use Rattle.program.specs.Words.{RefusesSaving}
use Rattle.program.proofs.Endings.{both_err}
use Rattle.program.proofs.calls.save_file.Goals as goal

pub returns-in_err-check_free-clause-refused : goal.returns-in_err-check_free-clause-refused
returns-in_err-check_free-clause-refused g c =
    let old = g.W.Write.contents c.args.out.now in
    passes (RefusesSaving (g.M.Datasets.withholds c.args.datasets.now c.args.datasets.now)
    (g.P.Paths.files c.args.paths.now) c.args.call.now c.args.path.now old old) c.from_residual.result c.in_err-check_free.field-0.0
    c.from_residual.ensures.1 (inl c.in_err-check_free.ensures.which, λ _ _. refl)

pub returns-in_err-check_outside-clause-refused : goal.returns-in_err-check_outside-clause-refused
returns-in_err-check_outside-clause-refused g c =
    let old = g.W.Write.contents c.args.out.now in
    passes (RefusesSaving (g.M.Datasets.withholds c.args.datasets.now c.args.datasets.now)
    (g.P.Paths.files c.args.paths.now) c.args.call.now c.args.path.now old old) c.from_residual-in_err-check_outside.result
    c.in_err-check_outside.field-0.0 c.from_residual-in_err-check_outside.ensures.1 (inl (inl (inr c.in_err-check_outside.ensures.which)), λ _ _. refl)

pub returns-in_err-file-clause-refused : goal.returns-in_err-file-clause-refused
returns-in_err-file-clause-refused g c =
    let old = g.W.Write.contents c.args.out.now in
    passes (RefusesSaving (g.M.Datasets.withholds c.args.datasets.now c.file_of.new.self)
    (g.P.Paths.files c.args.paths.now) c.args.call.now c.args.path.now old old) c.from_residual-in_err-file.result c.in_err-file.field-0.0
    c.from_residual-in_err-file.ensures.1 (inr (inl c.in_err-file.ensures.withheld), λ _ _. refl)

pub returns-clause-refused : goal.returns-clause-refused
returns-clause-refused g c =
    let old = g.W.Write.contents c.args.out.now in
    let new = g.W.Write.contents c.put.new.out in
    let files = g.P.Paths.files c.args.paths.now in
    both_err (IsPlaceRefusal (files c.args.path.now)) (IsUnwritten old new)
    (RefusesSaving (g.M.Datasets.withholds c.args.datasets.now c.file_of.new.self) files c.args.call.now c.args.path.now old new) (λ e p u. (inl p, u)) c.put.result
    c.put.ensures.which c.put.ensures.unwritten

pub returns-clause-done : goal.returns-clause-done
returns-clause-done g c =
    let gives = subst (λ (bytes : List ℕ). g.M.Datasets.gives c.args.datasets.now c.file_of.new.self c.args.call.now (Some []) (Some (bytes ∷ [])))
    (sym c.as_slice.ensures.value) c.in_ok-file.ensures.gives in
    on_ok_weaker c.put.result (λ puts. inl (c.as_slice.result.now, gives, puts)) c.put.ensures.puts
