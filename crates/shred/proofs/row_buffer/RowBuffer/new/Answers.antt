use Rattle.std.proofs.Common.{◌≡◌, length, refl, ap, sym, ◌∙◌}
use Rattle.std.proofs.lemmas.List.{length-map}
use Rattle.schema.specs.Stripe.{leaves_of}
use Rattle.schema.specs.Views.{leaf_view}
use Rattle.shred.specs.inner.Growing.{nils}
use Rattle.shred.specs.inner.Filling.{State, root}
use Rattle.shred.proofs.ShownRows.{as_many_empty, none_held}
use Rattle.shred.proofs.row_buffer.RowBuffer.new.Goals as goal

pub invariant_of-result : goal.invariant_of-result
invariant_of-result c =
    let ls = c.leaves.result.now in
    let many : length ls ≡ length (leaves_of c.args.schema.now) = sym (length-map ls leaf_view) ∙ ap length c.leaves.ensures.leaves_are in
    record { sized = as_many_empty c.in_ok-filling.filling (length ls) (ap (λ (s : State). s.columns) c.in_ok-filling.ensures.empty) ∙ many }

pub returns-clause-begins : goal.returns-clause-begins
returns-clause-begins c =
    let ls = c.leaves.result.now in
    let many : length ls ≡ length (leaves_of c.args.schema.now) = sym (length-map ls leaf_view) ∙ ap length c.leaves.ensures.leaves_are in
    none_held _ c.args.schema.now (length ls) refl many refl (c.in_ok-filling.ensures.empty ∙ ap (λ gs. root gs (nils (length ls))) c.fields.ensures)
