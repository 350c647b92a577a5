use Rattle.std.proofs.Common.{◌≡◌, ◌⊎◌, inl, inr, ℕ, List, Vec, Global, Result, Ok, Err, IfOk, OnOk, refl, sym, subst, ◌∙◌}
use Rattle.std.proofs.lemmas.Result.{on_ok_weaker}
use Rattle.bits.specs.declared.refusal.Refusal.{Refusal}
use Rattle.bits.specs.declared.refusal.Refusal.TheVariants.{Memory}
use Rattle.bits.proofs.Passing.{passes}
use Rattle.program.specs.Paths.{HasFront, IsPlaceRefusal, IsUnwritten}
use Rattle.program.specs.Program.{IsCopyRefusal}
use Rattle.program.specs.Words.{IsCopyAsked, RefusesCopying}
use Rattle.program.proofs.Endings.{both_err, of_same, unread}
use Rattle.program.proofs.calls.copy_file.Goals as goal

pub returns-in_err-check_free-clause-refused : goal.returns-in_err-check_free-clause-refused
returns-in_err-check_free-clause-refused g c =
    let old = g.W.Write.contents c.args.out.now in
    passes (RefusesCopying (g.P.Paths.files c.args.paths.now) c.args.copying.now old old) c.from_residual.result c.in_err-check_free.field-0.0
    c.from_residual.ensures.1 (inl c.in_err-check_free.ensures.which, λ _ _. refl)

pub returns-in_err-bytes-clause-refused : goal.returns-in_err-bytes-clause-refused
returns-in_err-bytes-clause-refused g c =
    let old = g.W.Write.contents c.args.out.now in
    let e = c.in_err-bytes.field-0.0 in
    let h = unread (g.P.Paths.files c.args.paths.now c.args.copying.now.file.now) (IsCopyRefusal c.args.copying.now.limit) old e c.in_err-bytes.ensures.which in
    passes (RefusesCopying (g.P.Paths.files c.args.paths.now) c.args.copying.now old old) c.from_residual-in_err-bytes.result e
    c.from_residual-in_err-bytes.ensures.1 (inr h.0, h.1)

pub returns-in_err-copy-clause-refused : goal.returns-in_err-copy-clause-refused
returns-in_err-copy-clause-refused g c =
    let old = g.W.Write.contents c.args.out.now in
    let copying = c.args.copying.now in
    let place = g.P.Paths.files c.args.paths.now copying.file.now in
    let bytes = c.as_slice.result.now in
    let e = c.in_err-copy.field-0.0 in
    let has : HasFront place bytes = subst (HasFront place) (sym c.as_slice.ensures.value) c.in_ok-bytes.ensures.has in
    let why : (e ≡ Memory) ⊎ IsCopyRefusal copying.limit bytes e =
    of_same (λ e. (e ≡ Memory) ⊎ IsCopyRefusal copying.limit bytes e) c.with_problem.result c.copied-copy.result e (c.with_problem.ensures.same ∙ c.with_option-copy.ensures.same) c.in_err-copy.was
    c.copied-copy.ensures.which in
    passes (RefusesCopying (g.P.Paths.files c.args.paths.now) copying old old) c.from_residual-in_err-copy.result e c.from_residual-in_err-copy.ensures.1
    (elim why [ inl m ↦ inr (inl (inl m)) | inr w ↦ inr (inr (bytes, has, w)) ], λ _ _. refl)

pub returns-clause-refused : goal.returns-clause-refused
returns-clause-refused g c =
    let old = g.W.Write.contents c.args.out.now in
    let new = g.W.Write.contents c.put.new.out in
    let files = g.P.Paths.files c.args.paths.now in
    both_err (IsPlaceRefusal (files c.args.copying.now.path.now)) (IsUnwritten old new) (RefusesCopying files c.args.copying.now old new)
    (λ e p u. (inl p, u)) c.put.result c.put.ensures.which c.put.ensures.unwritten

pub returns-clause-done : goal.returns-clause-done
returns-clause-done g c =
    let copying = c.args.copying.now in
    let place = g.P.Paths.files c.args.paths.now copying.file.now in
    let bytes = c.as_slice.result.now in
    let file = c.as_slice-3.result.now in
    let has : HasFront place bytes = subst (HasFront place) (sym c.as_slice.ensures.value) c.in_ok-bytes.ensures.has in
    let made : c.copied-copy.result ≡ Ok c.in_ok-copy.copy = sym (c.with_problem.ensures.same ∙ c.with_option-copy.ensures.same) ∙ c.in_ok-copy.was in
    let asked : IsCopyAsked copying bytes c.in_ok-copy.copy.items = subst (λ (r : Result (Vec ℕ Global) Refusal). IfOk r (λ (copy : Vec ℕ Global). IsCopyAsked copying bytes copy.items)) made c.copied-copy.ensures.stands in
    let copy : IsCopyAsked copying bytes file = subst (IsCopyAsked copying bytes) (sym c.as_slice-3.ensures.value) asked in
    on_ok_weaker c.put.result (λ puts. (bytes, file, has, copy, puts)) c.put.ensures.puts
