use Rattle.std.proofs.Common.{List, rules, suc, add-one, drop, ◌-◌, ◌≡◌, ℕ, ◌+◌, ◌<◌, ◌≤◌, ◌^◌, [], length, true, false, string_bytes, ap, sym, subst, ◌∙◌, arith, drop_of_length-le, refl}
use Rattle.std.proofs.lemmas.List.{append-nil}
use Rattle.std.proofs.Math.ListN.{set}
use Rattle.std.proofs.lemmas.Result.{IfOk-weaker, IfErr-weaker, on_ok_weaker}
use borrow.Rule.Slice.PartMut.{put_mid, mid_of}
use Rattle.bits.specs.Faults.{refusal_of}
use Rattle.schema.specs.declared.value.Repetition.TheVariants.{Required, Optional, Repeated}
use Rattle.schema.specs.Stripe.{Entry}
use Rattle.schema.specs.Values.{ValueTree, ValueTrees, no_values, value as item}
use Rattle.schema.specs.Views.{field_view, field_views, leaf_type_view}
use Rattle.schema.specs.Shape.{Field, leaf, fields, Fields, field as one}
use Rattle.schema.specs.Law.{IsValid, AreValid}
use Rattle.schema.specs.Reading.{tallest, count_leaves, count_leaves_each}
use Rattle.schema.proofs.Forest.{field_place}
use Rattle.assemble.specs.Sinks.{Token, Adds, Visits, tokens, tokens_each}
use Rattle.assemble.specs.Columns.{Columns}
use Rattle.assemble.specs.Standing.{AllStand, Onward, Backward, IsRefusedFor}
use Rattle.assemble.specs.inner.Building.{snoc}
use Rattle.assemble.specs.inner.Fronts.{stripes, stripes_inside, stripes_items, stripes_each, wants, wants_inside, wants_each, Fit, FitInside, FitItems, FitEach}
use Rattle.assemble.specs.inner.ReadValues.{Reads, IsFaulty}
use Rattle.assemble.specs.inner.Steps.{is_single, missing_value, IsSkipFaulty, IsMissing, HasItem, NoneLeft, first_of}
use Rattle.assemble.proofs.Starting.{has_leaf}
use Rattle.schema.proofs.CutSteps.{count_is}
use Rattle.assemble.proofs.Readings.{faulty_required, faulty_present, faulty_list, faulty_missing, faulty_nothing, optional_is}
use Rattle.assemble.proofs.Standing.{same_self, stand_on, part_stands, among_put, causes_part, causes_put, refused_up, refused_same, refused_ok, none_ok}
use Rattle.assemble.proofs.Groups.{faulty_group}
use Rattle.assemble.proofs.Items as items
use Rattle.assemble.proofs.Items.{one_more}
use Rattle.assemble.proofs.Each as each
use Rattle.assemble.proofs.Taking.{reads_required, reads_present, reads_list, reads_group, reads_missing, reads_leaf, each_onward, each_backward, first_onward, first_backward, next_onward, next_backward, reads_items}
use Rattle.schema.proofs.Slices.{map_kept}
use Rattle.schema.proofs.OneLevel.{view_leaf, view_fields}
use Rattle.assemble.proofs.Showing.{adds_then, adds_none, tokens_snoc, visits_up, visits_group, visits_list}
use Rattle.assemble.proofs.reading.+read.Goals as goal

some_source : (f : Field) (n : ℕ) → IsValid f → count_leaves f ≤ n → 0 < n
some_source f n valid room = let some = has_leaf f valid in let same = count_is f in omega (arith, some, same, room)

pub read_field-returns-in-Required-clause-reads : goal.read_field-returns-in-Required-clause-reads
read_field-returns-in-Required-clause-reads g t c =
    let S = g.S.EntrySource.stands in
    let f = field_view c.args.field.now in
    let old = c.args.sources.now in
    let r = c.args.place.repetition in
    let d = c.args.place.definition in
    let k = c.args.place.own in
    let new = c.read_inside.new.sources in
    on_ok_weaker c.read_inside.result
    (visits_up (g.K.RowSink.shows c.args.sink.now) (g.K.RowSink.shows c.read_inside.new.sink) tokens (Reads S (FitInside f) (stripes_inside f r d k) k old new) (Reads S (Fit f) (stripes f r d k) k old new) (λ v h. reads_required S f (sym c.repetition-repetition.ensures ∙ c.in-Required.is) r d k old new v (same_self S old) h)) c.read_inside.ensures.reads

pub read_field-returns-in-Required-clause-refused : goal.read_field-returns-in-Required-clause-refused
read_field-returns-in-Required-clause-refused g t c =
    let S = g.S.EntrySource.stands in
    let f = field_view c.args.field.now in
    let old = c.args.sources.now in
    let r = c.args.place.repetition in
    let d = c.args.place.definition in
    let k = c.args.place.own in
    IfErr-weaker c.read_inside.result _ _
    (λ e h. refused_same S g.S.EntrySource.refused g.S.EntrySource.cause old old c.read_inside.new.sources (IsFaulty (FitInside f) (stripes_inside f r d k) k (wants_inside f d)) (IsFaulty (Fit f) (stripes f r d k) k (wants f d)) e (same_self S old) refl (λ _ h. h) (λ cs s. faulty_required f (sym c.repetition-repetition.ensures ∙ c.in-Required.is) r d k cs e) h) c.read_inside.ensures.refused

pub read_field-is_missing-requires : goal.read_field-is_missing-requires
read_field-is_missing-requires g t c = some_source (field_view c.args.field.now) (length c.args.sources.now) c.requires.valid c.requires.room

pub read_field-returns-in_err-is_missing : goal.read_field-returns-in_err-is_missing
read_field-returns-in_err-is_missing g t c =
    let S = g.S.EntrySource.stands in
    let f = field_view c.args.field.now in
    let old = c.args.sources.now in
    let r = c.args.place.repetition in
    let d = c.args.place.definition in
    let k = c.args.place.own in
    let e = c.in_err-is_missing.field-0.0 in
    record {
      reads = none_ok _ c.from_residual.result e c.from_residual.ensures.1;
      refused = refused_ok _ c.from_residual.result e c.from_residual.ensures.1 (refused_same S g.S.EntrySource.refused g.S.EntrySource.cause old old c.is_missing.new.sources (λ cs. NoneLeft (first_of cs)) (IsFaulty (Fit f) (stripes f r d k) k (wants f d)) e (same_self S old) refl (λ _ h. h) (λ cs s. faulty_nothing f c.requires.valid r d k cs e) c.in_err-is_missing.ensures.refused);
      used = none_ok _ c.from_residual.result e c.from_residual.ensures.1;
      kept = none_ok _ c.from_residual.result e c.from_residual.ensures.1;
      causes_stay = c.is_missing.ensures.causes_stay;
      base_stays = refl;
    }

pub read_field-returns-in_err-skip : goal.read_field-returns-in_err-skip
read_field-returns-in_err-skip g t c =
    let S = g.S.EntrySource.stands in
    let f = field_view c.args.field.now in
    let old = c.args.sources.now in
    let r = c.args.place.repetition in
    let d = c.args.place.definition in
    let k = c.args.place.own in
    let e = c.in_err-skip.field-0.0 in
    let x = c.repetition-repetition.result in
    let missing : (cs : Columns) → AllStand S old cs → IsMissing d (first_of cs) true = λ cs s. subst (IsMissing d (first_of cs)) c.if-branch.true (c.in_ok-is_missing.ensures.missing cs s) in
    record {
      reads = none_ok _ c.from_residual-in_err-skip.result e c.from_residual-in_err-skip.ensures.1;
      refused = refused_ok _ c.from_residual-in_err-skip.result e c.from_residual-in_err-skip.ensures.1
          (refused_same S g.S.EntrySource.refused g.S.EntrySource.cause old c.is_missing.new.sources c.skip.new.sources (IsSkipFaulty r d c.count_leaves-count.result) (IsFaulty (Fit f) (stripes f r d k) k (wants f d)) e c.is_missing.ensures.same c.in_ok-is_missing.ensures.kept c.is_missing.ensures.causes_stay
          (λ cs s h. faulty_missing f x (sym c.repetition-repetition.ensures) c.in_default.not-Required c.requires.valid r d k cs e (missing cs s) (subst (λ n. IsSkipFaulty r d n cs e) c.count_leaves-count.ensures h)) c.in_err-skip.ensures.refused);
      used = none_ok _ c.from_residual-in_err-skip.result e c.from_residual-in_err-skip.ensures.1;
      kept = none_ok _ c.from_residual-in_err-skip.result e c.from_residual-in_err-skip.ensures.1;
      causes_stay = λ e h. c.is_missing.ensures.causes_stay e (c.skip.ensures.causes_stay e h);
      base_stays = refl;
    }

pub read_field-returns-then-branch : goal.read_field-returns-then-branch
read_field-returns-then-branch g t c =
    let S = g.S.EntrySource.stands in
    let f = field_view c.args.field.now in
    let old = c.args.sources.now in
    let r = c.args.place.repetition in
    let d = c.args.place.definition in
    let k = c.args.place.own in
    let x = c.repetition-repetition.result in
    let missing : (cs : Columns) → AllStand S old cs → IsMissing d (first_of cs) true = λ cs s. subst (IsMissing d (first_of cs)) c.if-branch.true (c.in_ok-is_missing.ensures.missing cs s) in
    let v = missing_value x in
    record {
      reads = (
        v,
        (
          reads_missing S f x (sym c.repetition-repetition.ensures) c.in_default.not-Required c.requires.valid r d k c.count_leaves-count.result old c.is_missing.new.sources c.skip.new.sources c.count_leaves-count.ensures c.is_missing.ensures.same missing c.in_ok-skip.ensures.onward c.in_ok-skip.ensures.backward,
          c.in_ok-show_missing.ensures.shown,
        ),
      );
      refused = tt;
      used = c.count_leaves-count.ensures;
      kept = c.in_ok-skip.ensures.kept ∙ c.in_ok-is_missing.ensures.kept;
      causes_stay = λ e h. c.is_missing.ensures.causes_stay e (c.skip.ensures.causes_stay e h);
      base_stays = c.show_missing.ensures.base_stays;
    }

pub read_field-returns-in_err-used : goal.read_field-returns-in_err-used
read_field-returns-in_err-used g t c =
    let S = g.S.EntrySource.stands in
    let f = field_view c.args.field.now in
    let old = c.args.sources.now in
    let r = c.args.place.repetition in
    let d = c.args.place.definition in
    let k = c.args.place.own in
    let e = c.in_err-used.field-0.0 in
    let there : (cs : Columns) → AllStand S old cs → IsMissing d (first_of cs) false = λ cs s. subst (IsMissing d (first_of cs)) c.if-branch.false (c.in_ok-is_missing.ensures.missing cs s) in
    record {
      reads = none_ok _ c.from_residual-in_err-used.result e c.from_residual-in_err-used.ensures.1;
      refused = refused_ok _ c.from_residual-in_err-used.result e c.from_residual-in_err-used.ensures.1
          (refused_same S g.S.EntrySource.refused g.S.EntrySource.cause old c.is_missing.new.sources c.read_items.new.sources (IsFaulty (FitItems f) (stripes_items f r d k) k (wants_inside f (d + 1))) (IsFaulty (Fit f) (stripes f r d k) k (wants f d)) e c.is_missing.ensures.same c.in_ok-is_missing.ensures.kept c.is_missing.ensures.causes_stay
          (λ cs s h. faulty_list f (sym c.repetition-repetition.ensures ∙ c.in-Repeated.is) c.requires.valid r d k cs e (there cs s) h) c.in_err-used.ensures.refused);
      used = none_ok _ c.from_residual-in_err-used.result e c.from_residual-in_err-used.ensures.1;
      kept = none_ok _ c.from_residual-in_err-used.result e c.from_residual-in_err-used.ensures.1;
      causes_stay = λ e h. c.is_missing.ensures.causes_stay e (c.read_items.ensures.causes_stay e h);
      base_stays = c.read_items.ensures.base_stays ∙ c.begin_list.ensures.base_stays;
    }

pub read_field-returns-in-Repeated : goal.read_field-returns-in-Repeated
read_field-returns-in-Repeated g t c =
    let S = g.S.EntrySource.stands in
    let f = field_view c.args.field.now in
    let old = c.args.sources.now in
    let r = c.args.place.repetition in
    let d = c.args.place.definition in
    let k = c.args.place.own in
    let there : (cs : Columns) → AllStand S old cs → IsMissing d (first_of cs) false = λ cs s. subst (IsMissing d (first_of cs)) c.if-branch.false (c.in_ok-is_missing.ensures.missing cs s) in
    record {
      reads = visits_list (g.K.RowSink.shows c.args.sink.now) (g.K.RowSink.shows c.begin_list.new.self) (g.K.RowSink.shows c.read_items.new.sink) (g.K.RowSink.shows c.end_list.new.self) (Reads S (FitItems f) (stripes_items f r d k) k c.is_missing.new.sources c.read_items.new.sources) (Reads S (Fit f) (stripes f r d k) k old c.read_items.new.sources)
          (λ vs h. reads_list S f (sym c.repetition-repetition.ensures ∙ c.in-Repeated.is) c.requires.valid r d k old c.is_missing.new.sources c.read_items.new.sources vs c.is_missing.ensures.same there h) c.in_ok-begin_list.ensures.shown c.in_ok-used.ensures.reads c.in_ok-end_list.ensures.shown;
      refused = tt;
      used = c.in_ok-used.ensures.used;
      kept = c.in_ok-used.ensures.kept ∙ c.in_ok-is_missing.ensures.kept;
      causes_stay = λ e h. c.is_missing.ensures.causes_stay e (c.read_items.ensures.causes_stay e h);
      base_stays = c.end_list.ensures.base_stays ∙ c.read_items.ensures.base_stays ∙ c.begin_list.ensures.base_stays;
    }

pub read_field-returns : goal.read_field-returns
read_field-returns g t c =
    let S = g.S.EntrySource.stands in
    let f = field_view c.args.field.now in
    let old = c.args.sources.now in
    let mid = c.is_missing.new.sources in
    let new = c.read_inside-2.new.sources in
    let r = c.args.place.repetition in
    let d = c.args.place.definition in
    let k = c.args.place.own in
    let res = c.read_inside-2.result in
    let is = sym c.repetition-repetition.ensures ∙ optional_is c.repetition-repetition.result c.in_default.not-Required c.in_default-repetition.not-Repeated in
    let there : (cs : Columns) → AllStand S old cs → IsMissing d (first_of cs) false = λ cs s. subst (IsMissing d (first_of cs)) c.if-branch.false (c.in_ok-is_missing.ensures.missing cs s) in
    record {
      reads = on_ok_weaker res
          (visits_up (g.K.RowSink.shows c.args.sink.now) (g.K.RowSink.shows c.read_inside-2.new.sink) tokens (Reads S (FitInside f) (stripes_inside f r (d + 1) k) k mid new) (Reads S (Fit f) (stripes f r d k) k old new) (λ v h. reads_present S f is c.requires.valid r d k old mid new v c.is_missing.ensures.same there h)) c.read_inside-2.ensures.reads;
      refused = IfErr-weaker res _ _
          (λ e h. refused_same S g.S.EntrySource.refused g.S.EntrySource.cause old mid new (IsFaulty (FitInside f) (stripes_inside f r (d + 1) k) k (wants_inside f (d + 1))) (IsFaulty (Fit f) (stripes f r d k) k (wants f d)) e c.is_missing.ensures.same c.in_ok-is_missing.ensures.kept c.is_missing.ensures.causes_stay (λ cs s i. faulty_present f is c.requires.valid r d k cs e (there cs s) i) h) c.read_inside-2.ensures.refused;
      used = c.read_inside-2.ensures.used;
      kept = IfOk-weaker res _ _ (λ x h. h ∙ c.in_ok-is_missing.ensures.kept) c.read_inside-2.ensures.kept;
      causes_stay = λ e h. c.is_missing.ensures.causes_stay e (c.read_inside-2.ensures.causes_stay e h);
      base_stays = c.read_inside-2.ensures.base_stays;
    }

pub read_fields-loop-field-init : goal.read_fields-loop-field-init
read_fields-loop-field-init g t c =
    let fs = field_views c.args.fields.now in
    let r = c.args.place.repetition in
    let d = c.args.place.definition in
    let k = c.args.place.own in
    record {
      seen = (no_values, (each.fit_begins fs, (λ cs s. (cs, (s, each.begins fs r d k cs)), (λ cs s. (cs, (s, each.whole_begins fs r d k cs)), adds_none (g.K.RowSink.shows c.args.sink.now)))));
      counts = omega arith;
      valid = c.requires.valid;
      deep = c.requires.deep;
      kept = refl;
      stay = λ _ h. h;
      size = refl;
      base = refl;
    }

pub read_fields-returns-in_err-read_single-clause-refused : goal.read_fields-returns-in_err-read_single-clause-refused
read_fields-returns-in_err-read_single-clause-refused g t c =
    let S = g.S.EntrySource.stands in
    let R = g.S.EntrySource.refused in
    let fs = c.args.fields.now in
    let i = c.loop-field.field-index in
    let f = c.field-item.result in
    let r = c.args.place.repetition in
    let d = c.args.place.definition in
    let k = c.args.place.own in
    let old = c.args.sources.now in
    let xs = c.loop-field.sources in
    let ys = c.read_single.new.sources in
    let used = c.loop-field.used in
    let seen = c.loop-field.invariant.seen in
    let vs = seen.0 in
    let e = refusal_of c.in_err-read_single.field-0.0 in
    let counts = c.loop-field.invariant.counts in
    let fits = c.requires.room in
    let size = c.loop-field.invariant.size in
    let room : used ≤ length xs = omega (arith, counts, fits, size) in
    let place = field_place fs i f (omega arith) c.field-item.is in
    refused_ok _ c.from_residual.result e c.from_residual.ensures.1
    (refused_up S R g.S.EntrySource.cause old (put_mid used (length xs - used) xs ys) (mid_of used (length xs - used) xs) ys (IsFaulty (Fit (field_view f)) (stripes (field_view f) r d k) k (wants (field_view f) d)) (IsFaulty (FitEach (field_views fs)) (stripes_each (field_views fs) r d k) k (wants_each (field_views fs) d)) e
    (among_put R used xs ys e room) (λ k. map_kept R used xs ys room k ∙ c.loop-field.invariant.kept) (λ e h. c.loop-field.invariant.stay e (causes_part g.S.EntrySource.cause used xs room e h))
    (λ cs s.
    let w = seen.1.1.0 cs s in
    let so = subst (λ gs. each.SoFar (field_views fs) gs r d k cs w.0 used vs) place w.1.1 in
    (drop used w.0, (part_stands S used xs w.0 room w.1.0, each.faulty (field_views fs) (field_view f) (field_views (drop (i + 1) fs)) r d k cs w.0 used vs e so)))
    c.in_err-read_single.ensures.refused)

pub read_fields-returns-in_err-used-clause-refused : goal.read_fields-returns-in_err-used-clause-refused
read_fields-returns-in_err-used-clause-refused g t c =
    let S = g.S.EntrySource.stands in
    let R = g.S.EntrySource.refused in
    let fs = c.args.fields.now in
    let i = c.loop-field.field-index in
    let f = c.field-item.result in
    let r = c.args.place.repetition in
    let d = c.args.place.definition in
    let k = c.args.place.own in
    let old = c.args.sources.now in
    let xs = c.loop-field.sources in
    let ys = c.read_field.new.sources in
    let used = c.loop-field.used in
    let seen = c.loop-field.invariant.seen in
    let vs = seen.0 in
    let e = c.in_err-used.field-0.0 in
    let counts = c.loop-field.invariant.counts in
    let fits = c.requires.room in
    let size = c.loop-field.invariant.size in
    let room : used ≤ length xs = omega (arith, counts, fits, size) in
    let place = field_place fs i f (omega arith) c.field-item.is in
    refused_ok _ c.from_residual-in_err-used.result e c.from_residual-in_err-used.ensures.1
    (refused_up S R g.S.EntrySource.cause old (put_mid used (length xs - used) xs ys) (mid_of used (length xs - used) xs) ys (IsFaulty (Fit (field_view f)) (stripes (field_view f) r d k) k (wants (field_view f) d)) (IsFaulty (FitEach (field_views fs)) (stripes_each (field_views fs) r d k) k (wants_each (field_views fs) d)) e
    (among_put R used xs ys e room) (λ k. map_kept R used xs ys room k ∙ c.loop-field.invariant.kept) (λ e h. c.loop-field.invariant.stay e (causes_part g.S.EntrySource.cause used xs room e h))
    (λ cs s.
    let w = seen.1.1.0 cs s in
    let so = subst (λ gs. each.SoFar (field_views fs) gs r d k cs w.0 used vs) place w.1.1 in
    (drop used w.0, (part_stands S used xs w.0 room w.1.0, each.faulty (field_views fs) (field_view f) (field_views (drop (i + 1) fs)) r d k cs w.0 used vs e so)))
    c.in_err-used.ensures.refused)

pub read_fields-returns-in_err-read_single-clause-causes_stay : goal.read_fields-returns-in_err-read_single-clause-causes_stay
read_fields-returns-in_err-read_single-clause-causes_stay g t c =
    let xs = c.loop-field.sources in
    let used = c.loop-field.used in
    let counts = c.loop-field.invariant.counts in
    let fits = c.requires.room in
    let size = c.loop-field.invariant.size in
    let room : used ≤ length xs = omega (arith, counts, fits, size) in
    λ e h. c.loop-field.invariant.stay e (causes_put g.S.EntrySource.cause used xs c.read_single.new.sources room c.read_single.ensures.causes_stay e h)

pub read_fields-returns-in_err-used-clause-causes_stay : goal.read_fields-returns-in_err-used-clause-causes_stay
read_fields-returns-in_err-used-clause-causes_stay g t c =
    let xs = c.loop-field.sources in
    let used = c.loop-field.used in
    let counts = c.loop-field.invariant.counts in
    let fits = c.requires.room in
    let size = c.loop-field.invariant.size in
    let room : used ≤ length xs = omega (arith, counts, fits, size) in
    λ e h. c.loop-field.invariant.stay e (causes_put g.S.EntrySource.cause used xs c.read_field.new.sources room c.read_field.ensures.causes_stay e h)

-- the values so far, and those of the fields that are left
abbrev SeenTo : {A : Type 0} → (A → List Entry → Type 0) → Fields → Fields → ℕ → ℕ → ℕ → List A → List A → ℕ → ValueTrees → (List Token → Type 0) → (List Token → Type 0) → Type 0
SeenTo S all gs r d k old now used vs from to =
    each.WholeFit all gs vs × (Onward S old now (λ b a. each.SoFar all gs r d k b a used vs) × (Backward S old now (each.Whole all gs r d k used vs) × Adds from to (tokens_each vs)))

seen_more : {A : Type 0} (S : A → List Entry → Type 0) (all : Fields) (fv : Field) (rest : Fields) (r d k : ℕ) (old xs ys : List A) (used count : ℕ) (vs : ValueTrees) (v : ValueTree) (from mid to : List Token → Type 0)
    → used ≤ length xs → count ≡ count_leaves fv → SeenTo S all (one fv rest) r d k old xs used vs from mid → Reads S (Fit fv) (stripes fv r d k) k (mid_of used (length xs - used) xs) ys v → Adds mid to (tokens v)
    → SeenTo S all rest r d k old (put_mid used (length xs - used) xs ys) (used + count) (snoc vs v) from to
seen_more S all fv rest r d k old xs ys used count vs v from mid to room more seen read shown =
    let now = put_mid used (length xs - used) xs ys in (
      each.fit_step all fv rest vs v seen.0 read.fits,
      (
        subst (λ n. Onward S old now (λ b a. each.SoFar all rest r d k b a (used + n) (snoc vs v))) (sym more) (each_onward S all fv rest r d k old xs ys used vs v room seen.1.0 read),
        (
          subst (λ n. Backward S old now (each.Whole all rest r d k (used + n) (snoc vs v))) (sym more) (each_backward S all fv rest r d k old xs ys used vs v room seen.1.1.0 read),
          subst (Adds from to) (sym (tokens_snoc vs v)) (adds_then from mid to (tokens_each vs) (tokens v) seen.1.1.1 shown),
        ),
      ),
    )

-- a REQUIRED or OPTIONAL leaf is one leaf
single_count : (f : Field) → is_single f ≡ true → 1 ≡ count_leaves f
single_count (leaf n Repeated t) single = cc
single_count (leaf n Required t) single = refl
single_count (leaf n Optional t) single = refl
single_count (fields n x a fs) single = cc

pub read_fields-loop-field-preserved-then-is_single : goal.read_fields-loop-field-preserved-then-is_single
read_fields-loop-field-preserved-then-is_single g t c =
    let S = g.S.EntrySource.stands in
    let K = g.K.RowSink.shows in
    let fs = c.args.fields.now in
    let all = field_views fs in
    let i = c.loop-field.field-index in
    let fv = field_view c.field-item.result in
    let r = c.args.place.repetition in
    let d = c.args.place.definition in
    let k = c.args.place.own in
    let old = c.args.sources.now in
    let xs = c.loop-field.sources in
    let ys = c.read_single.new.sources in
    let used = c.loop-field.used in
    let seen = c.loop-field.invariant.seen in
    let vs = seen.0 in
    let rest = field_views (drop (i + 1) fs) in
    let counts = c.loop-field.invariant.counts in
    let fits = c.requires.room in
    let size = c.loop-field.invariant.size in
    let room : used ≤ length xs = omega (arith, counts, fits, size) in
    let place = field_place fs i c.field-item.result (omega arith) c.field-item.is in
    let found = c.in_ok-read_single.ensures.reads in
    let v = found.0 in
    let more : 1 ≡ count_leaves fv = single_count fv (sym c.is_single.ensures ∙ c.if-is_single.true) in
    let from = K c.args.sink.now in
    let mid = K c.loop-field.sink in
    let here = subst (λ gs. SeenTo S all gs r d k old xs used vs from mid) place seen.1 in
    let deep = subst (λ gs. d + tallest gs < 2 ^ 32) place c.loop-field.invariant.deep in
    let count = subst (λ gs. used + count_leaves_each gs ≡ count_leaves_each all) place c.loop-field.invariant.counts in
    record {
      seen = (snoc vs v, seen_more S all fv rest r d k old xs ys used (1) vs v from mid (K c.read_single.new.sink) room more here found.1.0 found.1.1);
      counts = omega (arith, count, more);
      valid = (subst AreValid place c.loop-field.invariant.valid).1;
      deep = omega (arith, deep);
      kept = map_kept g.S.EntrySource.refused used xs ys room c.in_ok-read_single.ensures.kept ∙ c.loop-field.invariant.kept;
      stay = λ e h. c.loop-field.invariant.stay e (causes_put g.S.EntrySource.cause used xs ys room c.read_single.ensures.causes_stay e h);
      size = search rules;
      base = c.read_single.ensures.base_stays ∙ c.loop-field.invariant.base;
    }

pub read_fields-loop-field-preserved : goal.read_fields-loop-field-preserved
read_fields-loop-field-preserved g t c =
    let S = g.S.EntrySource.stands in
    let K = g.K.RowSink.shows in
    let fs = c.args.fields.now in
    let all = field_views fs in
    let i = c.loop-field.field-index in
    let fv = field_view c.field-item.result in
    let r = c.args.place.repetition in
    let d = c.args.place.definition in
    let k = c.args.place.own in
    let old = c.args.sources.now in
    let xs = c.loop-field.sources in
    let ys = c.read_field.new.sources in
    let used = c.loop-field.used in
    let seen = c.loop-field.invariant.seen in
    let vs = seen.0 in
    let rest = field_views (drop (i + 1) fs) in
    let counts = c.loop-field.invariant.counts in
    let fits = c.requires.room in
    let size = c.loop-field.invariant.size in
    let room : used ≤ length xs = omega (arith, counts, fits, size) in
    let place = field_place fs i c.field-item.result (omega arith) c.field-item.is in
    let found = c.in_ok-used.ensures.reads in
    let v = found.0 in
    let more : c.in_ok-used.field-0 ≡ count_leaves fv = c.in_ok-used.ensures.used in
    let from = K c.args.sink.now in
    let mid = K c.loop-field.sink in
    let here = subst (λ gs. SeenTo S all gs r d k old xs used vs from mid) place seen.1 in
    let deep = subst (λ gs. d + tallest gs < 2 ^ 32) place c.loop-field.invariant.deep in
    let count = subst (λ gs. used + count_leaves_each gs ≡ count_leaves_each all) place c.loop-field.invariant.counts in
    record {
      seen = (snoc vs v, seen_more S all fv rest r d k old xs ys used (c.in_ok-used.field-0) vs v from mid (K c.read_field.new.sink) room more here found.1.0 found.1.1);
      counts = omega (arith, count, more);
      valid = (subst AreValid place c.loop-field.invariant.valid).1;
      deep = omega (arith, deep);
      kept = map_kept g.S.EntrySource.refused used xs ys room c.in_ok-used.ensures.kept ∙ c.loop-field.invariant.kept;
      stay = λ e h. c.loop-field.invariant.stay e (causes_put g.S.EntrySource.cause used xs ys room c.read_field.ensures.causes_stay e h);
      size = search rules;
      base = c.read_field.ensures.base_stays ∙ c.loop-field.invariant.base;
    }

pub read_fields-returns-clause-reads : goal.read_fields-returns-clause-reads
read_fields-returns-clause-reads g t c =
    let S = g.S.EntrySource.stands in
    let fs = c.args.fields.now in
    let all = field_views fs in
    let r = c.args.place.repetition in
    let d = c.args.place.definition in
    let k = c.args.place.own in
    let old = c.args.sources.now in
    let xs = c.loop-field.sources in
    let used = c.loop-field.used in
    let seen = c.loop-field.invariant.seen in
    let vs = seen.0 in
    let none : drop c.loop-field.field-index fs ≡ [] = drop_of_length-le fs {i = c.loop-field.field-index} (omega arith) in
    let onward = subst (λ gs. Onward S old xs (λ b a. each.SoFar all (field_views gs) r d k b a used vs)) none seen.1.1.0 in
    let backward = subst (λ gs. Backward S old xs (each.Whole all (field_views gs) r d k used vs)) none seen.1.1.1.0 in (
      vs,
      (
        record {
          fits = each.fit_finished all vs (subst (λ gs. each.WholeFit all (field_views gs) vs) none seen.1.0);
          onward = λ cs s. let w = onward cs s in (w.0, (w.1.0, each.finished all r d k cs w.0 used vs w.1.1));
          backward = λ ds s. let w = backward ds s in (w.0, (w.1.0, each.whole_finished all r d k w.0 ds used vs w.1.1));
        },
        seen.1.1.1.1,
      ),
    )

pub read_inside-returns-in_err-used-in-Group-clause-refused : goal.read_inside-returns-in_err-used-in-Group-clause-refused
read_inside-returns-in_err-used-in-Group-clause-refused g t c =
    let S = g.S.EntrySource.stands in
    let R = g.S.EntrySource.refused in
    let xs = c.args.sources.now in
    let ys = c.read_fields.new.sources in
    let r = c.args.place.repetition in
    let d = c.args.place.definition in
    let k = c.args.place.own in
    let e = c.in_err-used-in-Group.field-0.0 in
    let fs = field_views c.in-Group.fields.items in
    let is = ap field_view c.in-Group.is ∙ view_fields c.in-Group.name c.in-Group.repetition c.in-Group.annotation c.in-Group.fields in
    let told = subst (λ gs. IsRefusedFor S R g.S.EntrySource.cause xs ys (IsFaulty (FitEach (field_views gs)) (stripes_each (field_views gs) r d k) k (wants_each (field_views gs) d)) e) c.as_slice.ensures.value c.in_err-used-in-Group.ensures.refused in
    refused_ok _ c.from_residual-in_err-used-in-Group.result e c.from_residual-in_err-used-in-Group.ensures.1
    (refused_same S R g.S.EntrySource.cause xs xs ys (IsFaulty (FitEach fs) (stripes_each fs r d k) k (wants_each fs d)) (IsFaulty (FitInside (field_view c.args.field.now)) (stripes_inside (field_view c.args.field.now) r d k) k (wants_inside (field_view c.args.field.now) d)) e (same_self S xs) refl (λ _ h. h)
    (λ cs s h. subst (λ f. IsFaulty (FitInside f) (stripes_inside f r d k) k (wants_inside f d) cs e) (sym is) (faulty_group (string_bytes c.in-Group.name) c.in-Group.repetition c.in-Group.annotation fs r d k cs e h)) told)

pub read_inside-returns-in_ok-read_leaf-in-Leaf-clause-reads : goal.read_inside-returns-in_ok-read_leaf-in-Leaf-clause-reads
read_inside-returns-in_ok-read_leaf-in-Leaf-clause-reads g t c =
    let S = g.S.EntrySource.stands in
    let xs = c.args.sources.now in
    let y = c.read_leaf.new.source in
    let r = c.args.place.repetition in
    let d = c.args.place.definition in
    let k = c.args.place.own in
    let found = c.in_ok-read_leaf-in-Leaf.ensures.reads in
    let v = found.0 in
    let is = ap field_view c.in-Leaf.is ∙ view_leaf c.in-Leaf.name c.in-Leaf.repetition c.in-Leaf.leaf_type in
    let some : 0 < length xs = some_source (field_view c.args.field.now) (length xs) c.requires.valid c.requires.room in (
      v,
      (
        subst (λ f. Reads S (FitInside f) (stripes_inside f r d k) k xs (set xs 0 y) v) (sym is)
            (reads_leaf S (string_bytes c.in-Leaf.name) c.in-Leaf.repetition (leaf_type_view c.in-Leaf.leaf_type) r d k xs c.index-sources-0.result y v some found.1.0.fits found.1.0.first),
        found.1.1,
      ),
    )

pub read_inside-returns-in_ok-end_group-in-Group-clause-reads : goal.read_inside-returns-in_ok-end_group-in-Group-clause-reads
read_inside-returns-in_ok-end_group-in-Group-clause-reads g t c =
    let S = g.S.EntrySource.stands in
    let xs = c.args.sources.now in
    let ys = c.read_fields.new.sources in
    let r = c.args.place.repetition in
    let d = c.args.place.definition in
    let k = c.args.place.own in
    let fs = field_views c.in-Group.fields.items in
    let name = string_bytes c.in-Group.name in
    let is = ap field_view c.in-Group.is ∙ view_fields c.in-Group.name c.in-Group.repetition c.in-Group.annotation c.in-Group.fields in
    let here = fields name c.in-Group.repetition c.in-Group.annotation fs in
    let read = subst (λ gs. Visits (g.K.RowSink.shows c.begin_group.new.self) (g.K.RowSink.shows c.read_fields.new.sink) tokens_each (Reads S (FitEach (field_views gs)) (stripes_each (field_views gs) r d k) k xs ys)) c.as_slice.ensures.value c.in_ok-used-in-Group.ensures.reads in
    subst (λ f. Visits (g.K.RowSink.shows c.args.sink.now) (g.K.RowSink.shows c.end_group.new.self) tokens (Reads S (FitInside f) (stripes_inside f r d k) k xs ys)) (sym is)
    (visits_group (g.K.RowSink.shows c.args.sink.now) (g.K.RowSink.shows c.begin_group.new.self) (g.K.RowSink.shows c.read_fields.new.sink) (g.K.RowSink.shows c.end_group.new.self) (Reads S (FitEach fs) (stripes_each fs r d k) k xs ys) (Reads S (FitInside here) (stripes_inside here r d k) k xs ys)
    (λ vs h. reads_group S name c.in-Group.repetition c.in-Group.annotation fs r d k xs ys vs (same_self S xs) h) c.in_ok-begin_group-in-Group.ensures.shown read c.in_ok-end_group-in-Group.ensures.shown)

pub read_items-returns-in_err-used-clause-refused : goal.read_items-returns-in_err-used-clause-refused
read_items-returns-in_err-used-clause-refused g t c =
    let S = g.S.EntrySource.stands in
    let f = field_view c.args.field.now in
    let old = c.args.sources.now in
    let r = c.args.place.repetition in
    let d = c.args.place.definition in
    let k = c.args.place.own in
    let e = c.in_err-used.field-0.0 in
    refused_ok _ c.from_residual.result e c.from_residual.ensures.1
    (refused_same S g.S.EntrySource.refused g.S.EntrySource.cause old old c.read_inside.new.sources (IsFaulty (FitInside f) (stripes_inside f r (d + 1) (k + 1)) (k + 1) (wants_inside f (d + 1))) (IsFaulty (FitItems f) (stripes_items f r d k) k (wants_inside f (d + 1))) e (same_self S old) refl (λ _ h. h)
    (λ cs s h. subst (λ n. IsFaulty (FitItems f) (stripes_items f r d k) k (wants_inside f n) cs e) (sym (add-one d)) (items.first_faulty f c.requires.valid r d k cs e (one_more (λ m n. IsFaulty (FitInside f) (stripes_inside f r m n) n (wants_inside f m) cs e) d k h)))
    c.in_err-used.ensures.refused)

pub read_items-more-init : goal.read_items-more-init
read_items-more-init g t c =
    let S = g.S.EntrySource.stands in
    let f = field_view c.args.field.now in
    let old = c.args.sources.now in
    let now = c.read_inside.new.sources in
    let r = c.args.place.repetition in
    let d = c.args.place.definition in
    let k = c.args.place.own in
    let found = c.in_ok-used.ensures.reads in
    let v = found.0 in
    let read = one_more (λ m n. Reads S (FitInside f) (stripes_inside f r m n) n old now v) d k found.1.0 in
    record {
      seen = (
        item v no_values,
        (
          items.fit_one f v read.fits,
          (
            first_onward S f c.requires.valid r d k old now v read,
            (first_backward S f c.requires.valid r d k old now v read, subst (Adds (g.K.RowSink.shows c.args.sink.now) (g.K.RowSink.shows c.read_inside.new.sink)) (sym (append-nil (tokens v))) found.1.1),
          ),
        ),
      );
      kept = c.in_ok-used.ensures.kept;
      stay = c.read_inside.ensures.causes_stay;
      size = search rules;
      base = c.read_inside.ensures.base_stays;
    }

pub read_items-has_item-requires : goal.read_items-has_item-requires
read_items-has_item-requires g t c =
    let some : 0 < length c.args.sources.now = some_source (field_view c.args.field.now) (length c.args.sources.now) c.requires.valid c.requires.room in
    let size = c.more.invariant.size in
    omega (arith, some, size)

pub read_items-returns-then-not-branch-clause-reads : goal.read_items-returns-then-not-branch-clause-reads
read_items-returns-then-not-branch-clause-reads g t c =
    let S = g.S.EntrySource.stands in
    let f = field_view c.args.field.now in
    let old = c.args.sources.now in
    let xs = c.more.sources in
    let k = c.args.place.own in
    let none : (cs : Columns) → AllStand S xs cs → HasItem (suc k) (first_of cs) false = λ cs s. subst (λ n. HasItem n (first_of cs) false) (add-one k) (subst (HasItem (k + 1) (first_of cs)) c.if-not-branch.true (c.in_ok-has_item.ensures.item cs s)) in
    let seen = c.more.invariant.seen in
    (seen.0, (reads_items S f c.requires.valid c.args.place.repetition c.args.place.definition k old xs c.has_item.new.sources seen.0 c.has_item.ensures.same seen.1.0 none seen.1.1.0 seen.1.1.1.0, seen.1.1.1.1))

pub read_items-returns-in_err-read_inside-clause-refused : goal.read_items-returns-in_err-read_inside-clause-refused
read_items-returns-in_err-read_inside-clause-refused g t c =
    let S = g.S.EntrySource.stands in
    let f = field_view c.args.field.now in
    let old = c.args.sources.now in
    let xs = c.more.sources in
    let mid = c.has_item.new.sources in
    let new = c.read_inside-in-more.new.sources in
    let r = c.args.place.repetition in
    let d = c.args.place.definition in
    let k = c.args.place.own in
    let e = c.in_err-read_inside.field-0.0 in
    let more : (cs : Columns) → AllStand S xs cs → HasItem (suc k) (first_of cs) true = λ cs s. subst (λ n. HasItem n (first_of cs) true) (add-one k) (subst (HasItem (k + 1) (first_of cs)) c.if-not-branch.false (c.in_ok-has_item.ensures.item cs s)) in
    refused_ok _ c.from_residual-in_err-read_inside.result e c.from_residual-in_err-read_inside.ensures.1
    (refused_up S g.S.EntrySource.refused g.S.EntrySource.cause old new mid new (IsFaulty (FitInside f) (stripes_inside f (k + 1) (d + 1) (k + 1)) (k + 1) (wants_inside f (d + 1))) (IsFaulty (FitItems f) (stripes_items f r d k) k (wants_inside f (d + 1))) e (λ h. h) (λ k. k ∙ c.in_ok-has_item.ensures.kept ∙ c.more.invariant.kept) (λ e h. c.more.invariant.stay e (c.has_item.ensures.causes_stay e h))
    (λ cs s.
    let seen = c.more.invariant.seen in
    let w = seen.1.1.0 cs s in (
      w.0,
      (
        stand_on S xs mid w.0 c.has_item.ensures.same w.1.0,
        λ h. subst (λ n. IsFaulty (FitItems f) (stripes_items f r d k) k (wants_inside f n) cs e) (sym (add-one d))
            (items.next_faulty f c.requires.valid r d k cs w.0 seen.0 e (more w.0 w.1.0) w.1.1 (one_more (λ m n. IsFaulty (FitInside f) (stripes_inside f n m n) n (wants_inside f m) w.0 e) d k h)),
      ),
    ))
    c.in_err-read_inside.ensures.refused)

pub read_items-more-preserved : goal.read_items-more-preserved
read_items-more-preserved g t c =
    let S = g.S.EntrySource.stands in
    let f = field_view c.args.field.now in
    let old = c.args.sources.now in
    let xs = c.more.sources in
    let mid = c.has_item.new.sources in
    let new = c.read_inside-in-more.new.sources in
    let r = c.args.place.repetition in
    let d = c.args.place.definition in
    let k = c.args.place.own in
    let seen = c.more.invariant.seen in
    let vs = seen.0 in
    let found = c.in_ok-read_inside.ensures.reads in
    let v = found.0 in
    let K = g.K.RowSink.shows in
    let more : (cs : Columns) → AllStand S xs cs → HasItem (suc k) (first_of cs) true = λ cs s. subst (λ n. HasItem n (first_of cs) true) (add-one k) (subst (HasItem (k + 1) (first_of cs)) c.if-not-branch.false (c.in_ok-has_item.ensures.item cs s)) in
    let read = one_more (λ m n. Reads S (FitInside f) (stripes_inside f n m n) n mid new v) d k found.1.0 in
    record {
      seen = (
        snoc vs v,
        (
          items.fit_snoc f vs v seen.1.0 read.fits,
          (
            next_onward S f c.requires.valid r d k old xs mid new vs v c.has_item.ensures.same more seen.1.1.0 read,
            (
              next_backward S f c.requires.valid r d k old xs mid new vs v c.has_item.ensures.same seen.1.0 seen.1.1.1.0 read,
              subst (Adds (K c.args.sink.now) (K c.read_inside-in-more.new.sink)) (sym (tokens_snoc vs v)) (adds_then (K c.args.sink.now) (K c.more.sink) (K c.read_inside-in-more.new.sink) (tokens_each vs) (tokens v) seen.1.1.1.1 found.1.1),
            ),
          ),
        ),
      );
      kept = c.in_ok-read_inside.ensures.kept ∙ c.in_ok-has_item.ensures.kept ∙ c.more.invariant.kept;
      stay = λ e h. c.more.invariant.stay e (c.has_item.ensures.causes_stay e (c.read_inside-in-more.ensures.causes_stay e h));
      size = search rules;
      base = c.read_inside-in-more.ensures.base_stays ∙ c.more.invariant.base;
    }
