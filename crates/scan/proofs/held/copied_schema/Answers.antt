use Rattle.std.proofs.Common.{◌≡◌, ◌∙◌, length, ap, sym, arith}
use Rattle.std.proofs.lemmas.List.{length-map}
use Rattle.schema.specs.Stripe.{leaves_of}
use Rattle.schema.specs.Views.{leaf_view}
use Rattle.scan.proofs.Passages.{ok_weaker}
use Rattle.scan.proofs.RunTaken.{err_map}
use Rattle.scan.proofs.Selecting.{cut_cause}
use Rattle.scan.proofs.WholeSchema.{counted_to, counted_more, all_places, whole_schema}
use Rattle.scan.proofs.held.copied_schema.Goals as goal

pub loop-number-init : goal.loop-number-init
loop-number-init c = c.in_ok-numbers.ensures.items

pub loop-number-preserved : goal.loop-number-preserved
loop-number-preserved c = counted_more c.loop-number.number c.loop-number.numbers.items c.push.new.self.items c.loop-number.invariant c.in_ok-push.ensures.items

pub returns-clause-same : goal.returns-clause-same
returns-clause-same c =
    let fs = c.args.schema.now in
    let numbers = c.as_slice.ensures.value ∙ c.loop-number.invariant in
    let size = sym (length-map c.leaves-count.result.now leaf_view) ∙ ap length c.leaves-count.ensures.leaves_are in
    let all : c.loop-number.number ≡ length (leaves_of fs) = omega (arith, size) in
    ok_weaker c.cut.result (λ copy is. is.is ∙ whole_schema fs c.leaves-count.ensures.valid c.as_slice.result.now (numbers ∙ ap counted_to all)) c.cut.ensures.stands

pub returns-clause-which : goal.returns-clause-which
returns-clause-which c =
    let fs = c.args.schema.now in
    let numbers = c.as_slice.ensures.value ∙ c.loop-number.invariant in
    let size = sym (length-map c.leaves-count.result.now leaf_view) ∙ ap length c.leaves-count.ensures.leaves_are in
    let all : c.loop-number.number ≡ length (leaves_of fs) = omega (arith, size) in
    let places = all_places fs c.leaves-count.ensures.valid c.as_slice.result.now (numbers ∙ ap counted_to all) in
    err_map c.cut.result (λ e fault. cut_cause c.as_slice.result.now fs e places fault) c.cut.ensures.which
