use Rattle.std.proofs.Common.{◌≡◌, ℕ, ◌<◌, true, List, length, get_or, Some, refl, sym, ap, subst}
use Rattle.std.specs.Prelude.{slice_get, Bool}
use Rattle.std.proofs.lemmas.Option.{slice_get_read}
use Rattle.bits.specs.Refusals.{IsFault}
use Rattle.bits.proofs.Passing.{passes}
use Rattle.schema.specs.declared.borrowed.ValueRef.{ValueRef}
use Rattle.schema.specs.Borrowed.{value_ref_view}
use Rattle.schema.specs.Values.{ValueTree}
use Rattle.schema.specs.Views.{leaf_type_view}
use Rattle.dictionary.specs.Entries.{AreEntriesAt}
use Rattle.pages.specs.inner.Reading.{AllFit}
use Rattle.std.specs.Prelude.{map}
use Rattle.pages.proofs.LookUps.{Fits, marks_more, look_up_more, fits_at}
use Rattle.pages.proofs.indexed_values.look_up.Goals as goal
use Rattle.pages.proofs.indexed_values.look_up.Goals.{then-not-is_marked+in_ok-check_value, else-not-is_marked}

pub returns-in_err-check_value-clause-only : goal.returns-in_err-check_value-clause-only
returns-in_err-check_value-clause-only c =
    let t = leaf_type_view c.args.leaf_type.now in
    let es = c.args.entries.now in
    let is = c.args.indexes.now in
    let i = c.loop-index.index-index in
    let v = c.index-entries-at.result in
    let room : get_or is i 0 < length es = c.requires i 0 c.loop-index-test.true in
    let here : slice_get es (get_or is i 0) ≡ Some v = slice_get_read es (length es) (get_or is i 0) v refl room c.index-entries-at.is in
    passes (λ e. IsFault e → (ws : List ValueTree) → AreEntriesAt (map value_ref_view es) is ws → AllFit t ws → ⊥) c.from_residual-in_err-check_value.result c.in_err-check_value.field-0.0 c.from_residual-in_err-check_value.ensures.1
    (λ fault ws stand fit. c.in_err-check_value.ensures.only fault (fits_at t es is ws i v stand fit c.loop-index-test.true here))

pub loop-index-preserved : goal.loop-index-preserved
loop-index-preserved c =
    let t = leaf_type_view c.args.leaf_type.now in
    let es = c.args.entries.now in
    let is = c.args.indexes.now in
    let i = c.loop-index.index-index in
    let v = c.index-entries-at.result in
    let old = c.loop-index.checked.items in
    let inv = c.loop-index.invariant in
    let room : get_or is i 0 < length es = c.requires i 0 c.loop-index-test.true in
    let here : slice_get es (get_or is i 0) ≡ Some v = slice_get_read es (length es) (get_or is i 0) v refl room c.index-entries-at.is in
    elim c.if-not-is_marked.branch [
      | then-not-is_marked+in_ok-check_value w ↦
          (let fits = w.in_ok-check_value.ensures.fit in
          let more = look_up_more t es is i c.loop-index.values.items c.push.new.self.items v c.loop-index-test.true here fits c.in_ok-push.ensures.items inv.0 inv.1 in
          let new : w.mark.new.marks.items ≡ c.if-not-is_marked.checked.items = sym (ap (λ x. x.items) w.checked-is) in
          (more.stand, more.fit, subst (λ (ns : List Bool). (k : ℕ) (u : ValueRef) → slice_get es k ≡ Some u → slice_get ns k ≡ Some true → Fits t u) new (marks_more t es old w.mark.new.marks.items (get_or is i 0) v fits here inv.2 w.mark.ensures)))
      | else-not-is_marked w ↦
          (let same : c.if-not-is_marked.checked.items ≡ old = ap (λ x. x.items) w.checked-is in
          let fits = inv.2 (get_or is i 0) v here (subst (λ (os : List Bool). slice_get os (get_or is i 0) ≡ Some true) c.deref.ensures.value (c.is_marked.ensures w.if-not-is_marked.false)) in
          let more = look_up_more t es is i c.loop-index.values.items c.push.new.self.items v c.loop-index-test.true here fits c.in_ok-push.ensures.items inv.0 inv.1 in
          (more.stand, more.fit, λ k u there mark. inv.2 k u there (subst (λ (cs : List Bool). slice_get cs k ≡ Some true) same mark)))
    ]
