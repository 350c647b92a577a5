use Rattle.std.proofs.Common.{rules, ◌≡◌, ◌≤◌, ◌++◌, List, [], drop, length, refl, sym, subst, ◌∙◌, arith, None, drop_of_length-le}
use Rattle.schema.specs.Views.{field_views}
use Rattle.schema.specs.Stripe.{Entry, entry, Leaf}
use Rattle.schema.proofs.CutSteps.{next_count}
use Rattle.shred.specs.Columns.{column_refs_view}
use Rattle.shred.specs.inner.Growing.{grown, nils, absences_each}
use Rattle.shred.proofs.Growing.{grown_whole}
use Rattle.shred.proofs.Turns.{field_given}
use Rattle.shred.proofs.field.+absent.Goals as goal

pub push_absent_each-loop-field-preserved : goal.push_absent_each-loop-field-preserved
push_absent_each-loop-field-preserved t c =
    let fs = c.args.fields.now in
    let i = c.loop-field.field-index in
    let f = c.field-item.result in
    let xs = c.loop-field.columns in
    let u = c.loop-field.used in
    let r = c.args.levels.repetition in
    let d = c.args.levels.definition in
    let g : Leaf → List Entry = λ (l : Leaf). entry r d None in
    let next = next_count fs i f (omega arith) c.field-item.is in
    let counts = c.loop-field.invariant.counts in
    let used = c.in_ok-used.ensures.used in
    let room : u ≤ length xs = omega arith in
    record {
      grown = field_given g g fs i f u c.in_ok-used.field-0 xs c.push_absent.new.columns _ (omega arith) c.field-item.is room c.loop-field.invariant.grown refl c.in_ok-used.ensures.grown used;
      counts = omega (arith, next, counts, used);
      size = search rules;
    }

pub push_absent_each-returns-clause-grown : goal.push_absent_each-returns-clause-grown
push_absent_each-returns-clause-grown t c =
    let fs = c.args.fields.now in
    let i = c.loop-field.field-index in
    let cs = column_refs_view c.loop-field.columns in
    let u = c.loop-field.used in
    let none : drop i fs ≡ [] = drop_of_length-le fs {i = i} (omega arith) in
    sym (grown_whole u cs) ∙ subst (λ gs. grown cs (nils u ++ absences_each i (field_views gs) c.args.levels) ≡ grown (column_refs_view c.args.columns.now) (absences_each 0 (field_views fs) c.args.levels)) none c.loop-field.invariant.grown
