use Rattle.std.proofs.Common.{◌≡◌, ◌<◌, ◌+◌, ℕ, Bool, List, ◌++◌, ◌∷◌, [], map, ap, sym, ◌∙◌, subst, arith, add-one}
use Rattle.std.proofs.lemmas.List.{length-map, map_push}
use Rattle.schema.specs.Values.{ValueTree, view}
use Rattle.schema.specs.Views.{key_view, row_view}
use Rattle.schema.specs.declared.value.Value.{Value}
use Rattle.schema.specs.Keys.{key_column_view, key_columns_view, width, places_of}
use Rattle.schema.specs.Cutting.{is_among}
use Rattle.table_jobs.proofs.WholeRows.{IsMade, none_made, one_made, all_made, as_many, step}
use Rattle.table_jobs.proofs.regathering.whole_row.Goals as goal
use Rattle.table_jobs.proofs.regathering.whole_row.Goals.{then-not-has_place, else-not-has_place}

pub loop-place-init : goal.loop-place-init
loop-place-init c = record {
  short = omega arith;
  made = λ whole is. subst (λ (xs : List Value). IsMade (key_columns_view c.args.columns.now) (key_view c.args.key.now) (row_view c.args.stored.now) whole is 0 0 (map view xs)) (sym c.in_ok-values.ensures.items)
      (none_made (key_columns_view c.args.columns.now) (key_view c.args.key.now) (row_view c.args.stored.now) whole is);
}

pub loop-place-preserved : goal.loop-place-preserved
loop-place-preserved c = record {
  short = let s = c.loop-place.invariant.short in elim c.if-not-has_place.branch [ then-not-has_place w ↦ omega (arith, s, w.next-is) | else-not-has_place w ↦ omega (arith, s, w.next-is) ];
  made = λ whole is.
      let columns = key_columns_view c.args.columns.now in
      let key = key_view c.args.key.now in
      let stored = row_view c.args.stored.now in
      let at = c.loop-place in
      let wide = as_many columns key (map view c.args.stored.now.values.items) whole is in
      let many = length-map c.args.columns.now key_column_view in
      let some = length-map c.args.stored.now.values.items view in
      let within : at.place < width whole = omega (arith, wide, many, some, c.len.ensures, c.loop-place-test.true) in
      let one = one_made columns key stored whole is at.place at.next (map view at.values.items) (view c.in_ok-value.value) within c.in_ok-value.ensures.is (at.invariant.made whole is) in
      let next_is : step columns key stored whole is at.next c.has_place.result ≡ c.if-not-has_place.next
      = elim c.if-not-has_place.branch [
        | then-not-has_place w ↦ ap (λ (b : Bool). step columns key stored whole is at.next b) w.if-not-has_place.true ∙ sym (add-one at.next) ∙ sym w.next-is
        | else-not-has_place w ↦ ap (λ (b : Bool). step columns key stored whole is at.next b) w.if-not-has_place.false ∙ sym w.next-is
      ] in
      let later = step columns key stored whole is at.next (is_among (places_of columns) at.place) in
      subst (λ (n : ℕ). IsMade columns key stored whole is (at.place + 1) n (map view c.push.new.self.items)) (ap (λ (b : Bool). step columns key stored whole is at.next b) (sym c.has_place.ensures) ∙ next_is)
      (subst (λ (xs : List ValueTree). IsMade columns key stored whole is (at.place + 1) later xs) (sym (ap (map view) c.in_ok-push.ensures.items ∙ map_push view at.values.items c.in_ok-value.value))
      (subst (λ (p : ℕ). IsMade columns key stored whole is p later (map view at.values.items ++ view c.in_ok-value.value ∷ [])) (sym (add-one at.place)) one));
}

pub returns-clause-is : goal.returns-clause-is
returns-clause-is c whole is =
    let columns = key_columns_view c.args.columns.now in
    let key = key_view c.args.key.now in
    let stored = row_view c.args.stored.now in
    let at = c.loop-place in
    let wide = as_many columns key (map view c.args.stored.now.values.items) whole is in
    let many = length-map c.args.columns.now key_column_view in
    let some = length-map c.args.stored.now.values.items view in
    all_made columns key stored whole is at.place at.next (map view at.values.items) (omega (arith, wide, many, some, c.len.ensures, c.loop-place-test.false)) (at.invariant.made whole is)
