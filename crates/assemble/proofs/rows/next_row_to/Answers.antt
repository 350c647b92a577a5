use Rattle.std.proofs.Common.{eqb-true, ◌≡◌, ◌∙◌, length, true, false, arith, sym, ap, subst, inr, refl}
use Rattle.std.proofs.lemmas.List.{length-map}
use Rattle.schema.specs.Stripe.{leaves_of}
use Rattle.schema.specs.Views.{field_views, leaf_view}
use Rattle.schema.specs.Reading.{count_leaves_each, tallest}
use Rattle.schema.proofs.CutSteps.{counts_are}
use Rattle.assemble.specs.Sinks.{Visits, tokens_each}
use Rattle.assemble.specs.Columns.{Columns, Tells}
use Rattle.assemble.specs.Standing.{AllStand, IsRefusedFor}
use Rattle.assemble.specs.RowsOf.{HasFault}
use Rattle.assemble.specs.inner.Fronts.{FitEach, stripes_each, wants_each}
use Rattle.assemble.specs.inner.ReadValues.{IsFaulty, Reads}
use Rattle.assemble.specs.inner.Steps.{first_of, HasItem, Filled}
use Rattle.assemble.proofs.RowByRow.{has_leaves, other_number, next_to_err, not_ended, nothing_first, faulty_row, is_first_row, row_front}
use Rattle.assemble.proofs.Ending.{no_rows}
use Rattle.assemble.proofs.Standing.{same_then, same_length, stand_on, stand_back, stand_length, refused_same}
use Rattle.assemble.proofs.rows.next_row_to.Goals as goal
use Rattle.assemble.proofs.rows.next_row_to.Goals.{then-sources-leaves-via-then-sources-leaves, then-sources-leaves-via-else-sources-leaves+then-is_empty}

pub returns-then-sources-leaves : goal.returns-then-sources-leaves
returns-then-sources-leaves g c =
    let fs = c.args.schema.now in
    let xs = c.args.sources.now in
    let count : length c.leaves-leaves.result.now ≡ length (leaves_of fs) = sym (length-map c.leaves-leaves.result.now leaf_view) ∙ ap length c.leaves-leaves.ensures.leaves_are in
    let some = has_leaves fs c.leaves-leaves.ensures.valid in
    record {
      row = inr (
        refl,
        (
          tt,
          λ cs s rows fit alike.
              let same = other_number fs rows cs alike in
              let size = stand_length g.S.EntrySource.stands xs cs s in
              elim c.then-sources-leaves.branch [
                | then-sources-leaves-via-then-sources-leaves w ↦ let ne = w.if-sources-leaves.true in ne (omega (arith, same, size, count))
                | then-sources-leaves-via-else-sources-leaves+then-is_empty w ↦ let z : length xs ≡ 0 = eqb-true (length xs) 0 (sym w.if-is_empty.ensures) in omega (arith, z, same, size, some)
              ],
        ),
      );
      causes_stay = λ _ h. h;
      base_stays = refl;
    }

pub returns-in_err-check_ended : goal.returns-in_err-check_ended
returns-in_err-check_ended g c =
    let S = g.S.EntrySource.stands in
    let R = g.S.EntrySource.refused in
    let fs = c.args.schema.now in
    let old = c.args.sources.now in
    let mid = c.has_item.new.sources in
    let new = c.check_ended.new.sources in
    let e = c.in_err-check_ended.field-0.0 in
    let none : (cs : Columns) → AllStand S old cs → HasItem 0 (first_of cs) false = λ cs s. subst (HasItem 0 (first_of cs)) c.if-not-branch.true (c.in_ok-has_item.ensures.item cs s) in
    record {
      row = next_to_err S R g.S.EntrySource.cause g.K.RowSink.shows fs old new c.args.sink.now c.args.sink.now c.from_residual-in_err-check_ended.result e c.from_residual-in_err-check_ended.ensures.1
          (refused_same S R g.S.EntrySource.cause old mid new (λ cs. Tells (Filled cs) ⊥) (HasFault fs) e c.has_item.ensures.same c.in_ok-has_item.ensures.kept c.has_item.ensures.causes_stay (λ cs s. not_ended fs (has_leaves fs c.leaves-leaves.ensures.valid) cs e (nothing_first (first_of cs) (none cs s))) c.in_err-check_ended.ensures.refused);
      causes_stay = λ e h. c.has_item.ensures.causes_stay e (c.check_ended.ensures.causes_stay e h);
      base_stays = refl;
    }

pub returns-then-not-branch : goal.returns-then-not-branch
returns-then-not-branch g c =
    let S = g.S.EntrySource.stands in
    let fs = c.args.schema.now in
    let xs = c.args.sources.now in
    let mid = c.has_item.new.sources in
    let count : length c.leaves-leaves.result.now ≡ length (leaves_of fs) = sym (length-map c.leaves-leaves.result.now leaf_view) ∙ ap length c.leaves-leaves.ensures.leaves_are in
    let kept = same_length S xs mid c.has_item.ensures.same in
    let same = c.if-sources-leaves.false in
    let ended = no_rows S (leaves_of fs) mid (omega (arith, count, kept, same)) c.in_ok-check_ended.ensures.ended in
    record {
      row = (c.in_ok-check_ended.ensures.kept ∙ c.in_ok-has_item.ensures.kept, (stand_back S xs mid _ c.has_item.ensures.same ended, (same_then S xs mid c.check_ended.new.sources c.has_item.ensures.same c.check_ended.ensures.same, refl)));
      causes_stay = λ e h. c.has_item.ensures.causes_stay e (c.check_ended.ensures.causes_stay e h);
      base_stays = refl;
    }

pub read_fields-requires-clause-room : goal.read_fields-requires-clause-room
read_fields-requires-clause-room g c =
    let fs = c.args.schema.now in
    let S = g.S.EntrySource.stands in
    let count : length c.leaves-leaves.result.now ≡ length (leaves_of fs) = sym (length-map c.leaves-leaves.result.now leaf_view) ∙ ap length c.leaves-leaves.ensures.leaves_are in
    let kept = same_length S c.args.sources.now c.has_item.new.sources c.has_item.ensures.same in
    let all : count_leaves_each (field_views c.fields.result.now) ≡ length (leaves_of fs) = ap count_leaves_each c.fields.ensures ∙ counts_are 0 fs in
    let same = c.if-sources-leaves.false in
    omega (arith, count, kept, all, same)

pub read_fields-requires-clause-deep : goal.read_fields-requires-clause-deep
read_fields-requires-clause-deep g c =
    let fs = c.args.schema.now in
    let is : tallest (field_views c.fields.result.now) ≡ tallest fs = ap tallest c.fields.ensures in
    let deep = c.leaves-leaves.ensures.shallow in
    omega (arith, is, deep)

pub returns-in_err-read_fields : goal.returns-in_err-read_fields
returns-in_err-read_fields g c =
    let S = g.S.EntrySource.stands in
    let R = g.S.EntrySource.refused in
    let fs = c.args.schema.now in
    let old = c.args.sources.now in
    let mid = c.has_item.new.sources in
    let new = c.read_fields.new.sources in
    let e = c.in_err-read_fields.field-0.0 in
    let more : (cs : Columns) → AllStand S old cs → HasItem 0 (first_of cs) true = λ cs s. subst (HasItem 0 (first_of cs)) c.if-not-branch.false (c.in_ok-has_item.ensures.item cs s) in
    let told = subst (λ gs. IsRefusedFor S R g.S.EntrySource.cause mid new (IsFaulty (FitEach gs) (stripes_each gs 0 0 0) 0 (wants_each gs 0)) e) c.fields.ensures c.in_err-read_fields.ensures.refused in
    record {
      row = next_to_err S R g.S.EntrySource.cause g.K.RowSink.shows fs old new c.args.sink.now c.read_fields.new.sink c.from_residual-in_err-read_fields.result e c.from_residual-in_err-read_fields.ensures.1
          (refused_same S R g.S.EntrySource.cause old mid new (IsFaulty (FitEach fs) (stripes_each fs 0 0 0) 0 (wants_each fs 0)) (HasFault fs) e c.has_item.ensures.same c.in_ok-has_item.ensures.kept c.has_item.ensures.causes_stay (λ cs s. faulty_row fs (has_leaves fs c.leaves-leaves.ensures.valid) cs e (more cs s)) told);
      causes_stay = λ e h. c.has_item.ensures.causes_stay e (c.read_fields.ensures.causes_stay e h);
      base_stays = c.read_fields.ensures.base_stays;
    }

pub returns : goal.returns
returns g c =
    let S = g.S.EntrySource.stands in
    let fs = c.args.schema.now in
    let old = c.args.sources.now in
    let mid = c.has_item.new.sources in
    let new = c.read_fields.new.sources in
    let found = subst (λ gs. Visits (g.K.RowSink.shows c.args.sink.now) (g.K.RowSink.shows c.read_fields.new.sink) tokens_each (Reads S (FitEach gs) (stripes_each gs 0 0 0) 0 mid new)) c.fields.ensures c.in_ok-read_fields.ensures.reads in
    let row = found.0 in
    let read = found.1.0 in
    record {
      row = (
        c.in_ok-read_fields.ensures.kept ∙ c.in_ok-has_item.ensures.kept,
        (
          row,
          (
            (
              (read.fits, tt),
              (
                λ cs s. let w = read.onward cs (stand_on S old mid cs c.has_item.ensures.same s) in (w.0, (w.1.0, is_first_row fs (has_leaves fs c.leaves-leaves.ensures.valid) cs w.0 row w.1.1)),
                λ ds s. let w = read.backward ds s in (w.0, (stand_back S old mid w.0 c.has_item.ensures.same w.1.0, row_front fs row w.0 ds read.fits w.1.1)),
              ),
            ),
            found.1.1,
          ),
        ),
      );
      causes_stay = λ e h. c.has_item.ensures.causes_stay e (c.read_fields.ensures.causes_stay e h);
      base_stays = c.read_fields.ensures.base_stays;
    }
