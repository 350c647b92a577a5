use Rattle.std.proofs.Common.{◌∙◌, map, length, ap, sym}
use Rattle.std.proofs.lemmas.Result.{on_ok_weaker}
use Rattle.schema.specs.Stripe.{leaves_of}
use Rattle.metadata.specs.Views.{chunk_meta_view}
use Rattle.scan.specs.inner.Texts.{texts_view}
use Rattle.scan.proofs.RunTaken.{held_as, sized_by}
use Rattle.scan.proofs.run_reader.check_held.Goals as goal

pub returns-then-not-is_sized-clause-only : goal.returns-then-not-is_sized-clause-only
returns-then-not-is_sized-clause-only c pieces h = absurd (c.is_sized.ensures.not_sized c.if-not-is_sized.true (sized_by c.args.held.now c.args.run.now pieces h))

pub check_wanted-requires-clause-uses : goal.check_wanted-requires-clause-uses
check_wanted-requires-clause-uses c = ap length c.as_slice-2.ensures.value ∙ (c.is_sized.ensures.sized c.if-not-is_sized.false).0

pub check_wanted-requires-clause-first : goal.check_wanted-requires-clause-first
check_wanted-requires-clause-first c = ap length c.as_slice-3.ensures.value ∙ (c.is_sized.ensures.sized c.if-not-is_sized.false).1

pub check_wanted-requires-clause-later : goal.check_wanted-requires-clause-later
check_wanted-requires-clause-later c = ap length c.as_slice-4.ensures.value ∙ (c.is_sized.ensures.sized c.if-not-is_sized.false).2

pub returns-clause-only : goal.returns-clause-only
returns-clause-only c pieces h =
    c.check_wanted.ensures.only h.cols
    (held_as (leaves_of c.args.held.now.schema) h.cols (ap (map chunk_meta_view) (sym c.as_slice.ensures.value)) (sym c.as_slice-2.ensures.value) (ap texts_view (sym c.as_slice-3.ensures.value))
    (ap texts_view (sym c.as_slice-4.ensures.value)) h.held)

pub returns-clause-accepts : goal.returns-clause-accepts
returns-clause-accepts c =
    on_ok_weaker c.check_wanted.result
    (λ own. (own.0, held_as (leaves_of c.args.held.now.schema) own.0 (ap (map chunk_meta_view) c.as_slice.ensures.value) c.as_slice-2.ensures.value (ap texts_view c.as_slice-3.ensures.value) (ap texts_view c.as_slice-4.ensures.value) own.1))
    c.check_wanted.ensures.accepts
