use Rattle.std.proofs.Common.{◌∙◌, List, false, map, length, ap, sym, subst}
use Rattle.schema.specs.Stripe.{leaves_of, columns}
use Rattle.metadata.specs.Views.{chunk_meta_view}
use Rattle.assemble.specs.Standing.{AllStand}
use Rattle.row_group.specs.Left.{chunk_stands}
use Rattle.scan.specs.declared.leaf_uses.LeafUse.{LeafUse}
use Rattle.scan.specs.inner.Texts.{texts_view}
use Rattle.scan.specs.inner.Uses.{picked}
use Rattle.scan.proofs.Passages.{only_on}
use Rattle.scan.proofs.RunTaken.{held_as, sized_by}
use Rattle.scan.proofs.run_reader.RunReader.new.Goals as goal

pub returns-then-not-is_sized-clause-only : goal.returns-then-not-is_sized-clause-only
returns-then-not-is_sized-clause-only c pieces h = absurd (c.is_sized.ensures.not_sized c.if-not-is_sized.true (sized_by c.args.held.now c.args.run.now pieces h))

pub sources_of-requires-clause-uses : goal.sources_of-requires-clause-uses
sources_of-requires-clause-uses c = ap length c.as_slice-2.ensures.value ∙ (c.is_sized.ensures.sized c.if-not-is_sized.false).0

pub sources_of-requires-clause-first : goal.sources_of-requires-clause-first
sources_of-requires-clause-first c = ap length c.as_slice-3.ensures.value ∙ (c.is_sized.ensures.sized c.if-not-is_sized.false).1

pub sources_of-requires-clause-later : goal.sources_of-requires-clause-later
sources_of-requires-clause-later c = ap length c.as_slice-4.ensures.value ∙ (c.is_sized.ensures.sized c.if-not-is_sized.false).2

pub returns-in_err-readers-clause-only : goal.returns-in_err-readers-clause-only
returns-in_err-readers-clause-only c pieces h =
    let held =
    held_as (leaves_of c.args.held.now.schema) h.cols (ap (map chunk_meta_view) (sym c.as_slice.ensures.value)) (sym c.as_slice-2.ensures.value) (ap texts_view (sym c.as_slice-3.ensures.value))
    (ap texts_view (sym c.as_slice-4.ensures.value)) h.held in
    only_on (λ _. ⊥) c.from_residual.result c.in_err-readers.field-0.0 c.from_residual.ensures.1 (c.in_err-readers.ensures.only h.cols held)

pub returns-clause-stands : goal.returns-clause-stands
returns-clause-stands c pieces h =
    let held =
    held_as (leaves_of c.args.held.now.schema) h.cols (ap (map chunk_meta_view) (sym c.as_slice.ensures.value)) (sym c.as_slice-2.ensures.value) (ap texts_view (sym c.as_slice-3.ensures.value))
    (ap texts_view (sym c.as_slice-4.ensures.value)) h.held in
    record {
      schema = c.leaves.ensures.valid;
      flat = c.is_flat.ensures;
      columns = record {
        fit = h.fit;
        stand = subst (AllStand chunk_stands c.in_ok-readers.readers.items) (ap (λ (us : List LeafUse). picked false us h.cols) c.as_slice-2.ensures.value ∙ h.same) (c.in_ok-readers.ensures.stands h.cols held);
      };
    }

pub returns-clause-holds : goal.returns-clause-holds
returns-clause-holds c pieces s =
    let uses = c.as_slice-2.ensures.value in
    let own = c.in_ok-readers.ensures.holds (columns c.args.run.now.schema pieces) s.stand in
    record {
      schema = c.leaves.ensures.valid;
      fit = s.fit;
      cols = own.0;
      held =
          held_as (leaves_of c.args.held.now.schema) own.0 (ap (map chunk_meta_view) c.as_slice.ensures.value) uses (ap texts_view c.as_slice-3.ensures.value)
          (ap texts_view c.as_slice-4.ensures.value) own.1;
      same = ap (λ (us : List LeafUse). picked false us own.0) (sym uses) ∙ own.2;
    }
