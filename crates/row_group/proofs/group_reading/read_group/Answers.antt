use Rattle.std.proofs.Common.{◌≡◌, ◌∙◌, List, Result, Err, length, refl, sym, ap, subst, inl, inr, arith}
use Rattle.std.specs.Prelude.{pos}
use Rattle.std.proofs.lemmas.Int.{ints}
use Rattle.std.proofs.lemmas.List.{length-map}
use Rattle.bits.specs.declared.refusal.Refusal.{Refusal}
use Rattle.bits.specs.Refusals.{IsFault, HasCause}
use Rattle.bits.proofs.Passing.{passes}
use Rattle.schema.specs.Values.{ValueTrees}
use Rattle.schema.specs.Stripe.{leaves_of}
use Rattle.schema.specs.Law.{IsSchema}
use Rattle.schema.specs.Cutting.{at_places, cut_to, cut_rows, IsCutFault}
use Rattle.schema.specs.Views.{row_view, rows_view}
use Rattle.metadata.specs.Views.{group_meta_view}
use Rattle.row_group.specs.Limits.{IsOfChunks}
use Rattle.row_group.specs.Wanted.{CutGroupMeans}
use Rattle.row_group.proofs.Passed.{passed, passed_is}
use Rattle.row_group.proofs.GroupRows.{tells, tells_which, tells_no_limit, tells_no_codec}
use Rattle.row_group.proofs.WantedRows.{AreWantedReaders, rows_sound, rows_are, no_others, cut_not_over, no_cut_rows, stand_at, refused_at, cut_which}
use Rattle.row_group.proofs.group_reading.read_group.Goals as goal

err_is : {Y : Type 0} (e f : Refusal) → ◌≡◌ {A = Result Y Refusal} (Err e) (Err f) → e ≡ f
err_is e f h = cc

pub returns-in_err-count-clause-only : goal.returns-in_err-count-clause-only
returns-in_err-count-clause-only c =
    passes (λ e. IsFault e → (rows : List ValueTrees) → CutGroupMeans c.args.front.now c.args.wanted.now c.args.schema.now (group_meta_view c.args.meta.now) rows → ⊥) c.from_residual.result c.in_err-count.field-0.0 c.from_residual.ensures.1
    (λ fault rows h. let m = h.count in c.in_err-count.ensures.only fault (length rows) (omega (arith, ints, m)))

pub returns-in_err-count-clause-limit : goal.returns-in_err-count-clause-limit
returns-in_err-count-clause-limit c = λ limit.
    let over = c.in_err-count.ensures.limit (passed c.from_residual.result c.in_err-count.field-0.0 _ c.from_residual.ensures.1 limit) in
    inl (omega (arith, ints, over))

pub returns-in_err-cut-clause-only : goal.returns-in_err-cut-clause-only
returns-in_err-cut-clause-only c =
    passes (λ e. IsFault e → (rows : List ValueTrees) → CutGroupMeans c.args.front.now c.args.wanted.now c.args.schema.now (group_meta_view c.args.meta.now) rows → ⊥) c.from_residual-in_err-cut.result c.in_err-cut.field-0.0 c.from_residual-in_err-cut.ensures.1
    (λ fault rows h. c.in_err-cut.ensures.only fault (cut_to c.args.wanted.now c.args.schema.now) (record { places_are = h.places_are; is = refl }))

pub returns-in_err-cut-clause-limit : goal.returns-in_err-cut-clause-limit
returns-in_err-cut-clause-limit c = λ limit.
    absurd (subst (IsCutFault c.args.wanted.now c.args.schema.now) (passed_is c.from_residual-in_err-cut.result c.in_err-cut.field-0.0 _ c.from_residual-in_err-cut.ensures.1 limit) c.in_err-cut.ensures.which)

pub returns-in_err-cut-clause-codec : goal.returns-in_err-cut-clause-codec
returns-in_err-cut-clause-codec c = λ codec.
    absurd (subst (IsCutFault c.args.wanted.now c.args.schema.now) (passed_is c.from_residual-in_err-cut.result c.in_err-cut.field-0.0 _ c.from_residual-in_err-cut.ensures.1 codec) c.in_err-cut.ensures.which)

pub returns-in_err-cut-clause-which : goal.returns-in_err-cut-clause-which
returns-in_err-cut-clause-which c =
    passes (HasCause IsOfChunks) c.from_residual-in_err-cut.result c.in_err-cut.field-0.0 c.from_residual-in_err-cut.ensures.1 (cut_which c.args.wanted.now c.args.schema.now c.in_err-cut.field-0.0 c.in_err-cut.ensures.which)

pub returns-in_err-readers-clause-only : goal.returns-in_err-readers-clause-only
returns-in_err-readers-clause-only c =
    passes (λ e. IsFault e → (rows : List ValueTrees) → CutGroupMeans c.args.front.now c.args.wanted.now c.args.schema.now (group_meta_view c.args.meta.now) rows → ⊥) c.from_residual-in_err-readers.result c.in_err-readers.field-0.0 c.from_residual-in_err-readers.ensures.1
    (λ fault rows h. c.in_err-readers.ensures.only fault _ h.chunks)

pub returns-in_err-readers-clause-limit : goal.returns-in_err-readers-clause-limit
returns-in_err-readers-clause-limit c = λ limit. inr (c.in_err-readers.ensures.limit (passed c.from_residual-in_err-readers.result c.in_err-readers.field-0.0 _ c.from_residual-in_err-readers.ensures.1 limit))

pub returns-in-Ok-clause-stands : goal.returns-in-Ok-clause-stands
returns-in-Ok-clause-stands c =
    let fs = c.args.schema.now in
    let g = group_meta_view c.args.meta.now in
    let w = c.args.wanted.now in
    let rs = c.in_ok-readers.readers.items in
    let rows = rows_view c.in-Ok.rows.items in
    let is = c.in_ok-cut.ensures.stands in
    let r : AreWantedReaders c.args.front.now w fs g rs = record { places_are = is.places_are; as_many = c.in_ok-readers.ensures.as_many; readers = c.in_ok-readers.ensures.stands } in
    let s = stand_at rows c.as_mut_slice.ensures.value is.is c.in-Ok.ensures.stands in
    let e = c.in_ok-count.ensures.count_is in
    let number : g.num_rows ≡ pos c.in_ok-count.count = omega (arith, ints) in
    let size : length c.in-Ok.rows.items ≡ c.in_ok-count.count = omega arith in
    rows_are c.args.front.now w fs g c.in_ok-count.count rs rows r s number (length-map c.in-Ok.rows.items row_view ∙ size)

pub returns-in-Ok-clause-alone : goal.returns-in-Ok-clause-alone
returns-in-Ok-clause-alone c = λ others h.
    let fs = c.args.schema.now in
    let g = group_meta_view c.args.meta.now in
    let w = c.args.wanted.now in
    let rs = c.in_ok-readers.readers.items in
    let rows = rows_view c.in-Ok.rows.items in
    let is = c.in_ok-cut.ensures.stands in
    let r : AreWantedReaders c.args.front.now w fs g rs = record { places_are = is.places_are; as_many = c.in_ok-readers.ensures.as_many; readers = c.in_ok-readers.ensures.stands } in
    let s = stand_at rows c.as_mut_slice.ensures.value is.is c.in-Ok.ensures.stands in
    no_others c.one_meaning.ensures.column c.columns_determine_rows.ensures c.args.front.now w fs g rs rows others (subst IsSchema is.is c.leaves.ensures.valid) r s h

pub returns-in-Ok-clause-cut : goal.returns-in-Ok-clause-cut
returns-in-Ok-clause-cut c = λ all m.
    let fs = c.args.schema.now in
    let g = group_meta_view c.args.meta.now in
    let w = c.args.wanted.now in
    let rs = c.in_ok-readers.readers.items in
    let rows = rows_view c.in-Ok.rows.items in
    let is = c.in_ok-cut.ensures.stands in
    let r : AreWantedReaders c.args.front.now w fs g rs = record { places_are = is.places_are; as_many = c.in_ok-readers.ensures.as_many; readers = c.in_ok-readers.ensures.stands } in
    let s = stand_at rows c.as_mut_slice.ensures.value is.is c.in-Ok.ensures.stands in
    sym (no_others c.one_meaning.ensures.column c.columns_determine_rows.ensures c.args.front.now w fs g rs rows (cut_rows w fs all) (subst IsSchema is.is c.leaves.ensures.valid) r s
    (c.cut_groups_have_cut_rows.ensures c.args.front.now w fs g all is.places_are m))

pub returns-in-Ok-clause-within_limits : goal.returns-in-Ok-clause-within_limits
returns-in-Ok-clause-within_limits c =
    let fs = c.args.schema.now in
    let g = group_meta_view c.args.meta.now in
    let w = c.args.wanted.now in
    let rs = c.in_ok-readers.readers.items in
    let rows = rows_view c.in-Ok.rows.items in
    let is = c.in_ok-cut.ensures.stands in
    let r : AreWantedReaders c.args.front.now w fs g rs = record { places_are = is.places_are; as_many = c.in_ok-readers.ensures.as_many; readers = c.in_ok-readers.ensures.stands } in
    let s = stand_at rows c.as_mut_slice.ensures.value is.is c.in-Ok.ensures.stands in
    cut_not_over c.args.front.now w fs g _ (λ many. c.in_ok-count.ensures.within_limits (omega (arith, ints, many))) (rows_sound c.args.front.now w fs g rs rows r s)

pub returns-in-Ok-2-clause-only : goal.returns-in-Ok-2-clause-only
returns-in-Ok-2-clause-only c = λ fault others h.
    let fs = c.args.schema.now in
    let g = group_meta_view c.args.meta.now in
    let w = c.args.wanted.now in
    let rs = c.in_ok-readers.readers.items in
    let rows = rows_view c.in-Ok.rows.items in
    let is = c.in_ok-cut.ensures.stands in
    let r : AreWantedReaders c.args.front.now w fs g rs = record { places_are = is.places_are; as_many = c.in_ok-readers.ensures.as_many; readers = c.in_ok-readers.ensures.stands } in
    let s = stand_at rows c.as_mut_slice.ensures.value is.is c.in-Ok.ensures.stands in
    let same = no_others c.one_meaning.ensures.column c.columns_determine_rows.ensures c.args.front.now w fs g rs rows others (subst IsSchema is.is c.leaves.ensures.valid) r s h in
    let size = ap (λ (t : List ValueTrees). length t) same ∙ length-map c.in-Ok.rows.items row_view in
    let e = c.in_ok-count.ensures.count_is in
    let m = h.count in
    let counted : length others ≡ c.in_ok-count.count = omega (arith, ints, e, m) in
    c.if-len-count.false (omega (arith, size, counted))

pub returns-clause-only : goal.returns-clause-only
returns-clause-only c = λ fault rows h.
    let fs = c.args.schema.now in
    let g = group_meta_view c.args.meta.now in
    let w = c.args.wanted.now in
    let rs = c.in_ok-readers.readers.items in
    let is = c.in_ok-cut.ensures.stands in
    let r : AreWantedReaders c.args.front.now w fs g rs = record { places_are = is.places_are; as_many = c.in_ok-readers.ensures.as_many; readers = c.in_ok-readers.ensures.stands } in
    let refused = refused_at c.assemble_from.new.sources c.in-Err.refusal c.as_mut_slice.ensures.value is.is c.in-Err.ensures.which in
    let sound = c.in_ok-check_wanted-in-Err.ensures.stands in
    no_cut_rows c.args.front.now w fs g rs c.assemble_from.new.sources sound.0 c.in-Err.refusal r sound.1 refused fault rows h

pub returns-clause-limit : goal.returns-clause-limit
returns-clause-limit c = λ limit.
    let fs = c.args.schema.now in
    let g = group_meta_view c.args.meta.now in
    let w = c.args.wanted.now in
    let rs = c.in_ok-readers.readers.items in
    let is = c.in_ok-cut.ensures.stands in
    let refused = refused_at c.assemble_from.new.sources c.in-Err.refusal c.as_mut_slice.ensures.value is.is c.in-Err.ensures.which in
    let sound = c.in_ok-check_wanted-in-Err.ensures.stands in
    absurd (tells_no_limit c.in-Err.refusal (tells c.args.front.now (cut_to w fs) (at_places w g.columns) (at_places w (leaves_of fs)) rs c.assemble_from.new.sources sound.0 c.in-Err.refusal c.in_ok-readers.ensures.stands sound.1 refused) (err_is _ _ limit))

pub returns-clause-codec : goal.returns-clause-codec
returns-clause-codec c = λ codec.
    let fs = c.args.schema.now in
    let g = group_meta_view c.args.meta.now in
    let w = c.args.wanted.now in
    let rs = c.in_ok-readers.readers.items in
    let is = c.in_ok-cut.ensures.stands in
    let refused = refused_at c.assemble_from.new.sources c.in-Err.refusal c.as_mut_slice.ensures.value is.is c.in-Err.ensures.which in
    let sound = c.in_ok-check_wanted-in-Err.ensures.stands in
    absurd (tells_no_codec c.in-Err.refusal (tells c.args.front.now (cut_to w fs) (at_places w g.columns) (at_places w (leaves_of fs)) rs c.assemble_from.new.sources sound.0 c.in-Err.refusal c.in_ok-readers.ensures.stands sound.1 refused) (err_is _ _ codec))

pub returns-clause-which : goal.returns-clause-which
returns-clause-which c =
    let fs = c.args.schema.now in
    let g = group_meta_view c.args.meta.now in
    let w = c.args.wanted.now in
    let rs = c.in_ok-readers.readers.items in
    let is = c.in_ok-cut.ensures.stands in
    let refused = refused_at c.assemble_from.new.sources c.in-Err.refusal c.as_mut_slice.ensures.value is.is c.in-Err.ensures.which in
    let sound = c.in_ok-check_wanted-in-Err.ensures.stands in
    tells_which c.in-Err.refusal (tells c.args.front.now (cut_to w fs) (at_places w g.columns) (at_places w (leaves_of fs)) rs c.assemble_from.new.sources sound.0 c.in-Err.refusal c.in_ok-readers.ensures.stands sound.1 refused)

pub returns-in_err-check_wanted-in-Err-clause-only : goal.returns-in_err-check_wanted-in-Err-clause-only
returns-in_err-check_wanted-in-Err-clause-only c =
    passes (λ e. IsFault e → (rows : List ValueTrees) → CutGroupMeans c.args.front.now c.args.wanted.now c.args.schema.now (group_meta_view c.args.meta.now) rows → ⊥)
    c.from_residual-in_err-check_wanted-in-Err.result c.in_err-check_wanted-in-Err.field-0.0 c.from_residual-in_err-check_wanted-in-Err.ensures.1 (λ fault rows h. c.in_err-check_wanted-in-Err.ensures.only fault _ h.chunks)

pub returns-in_err-check_wanted-in-Err-clause-limit : goal.returns-in_err-check_wanted-in-Err-clause-limit
returns-in_err-check_wanted-in-Err-clause-limit c = λ limit.
    inr (c.in_err-check_wanted-in-Err.ensures.limit (passed c.from_residual-in_err-check_wanted-in-Err.result c.in_err-check_wanted-in-Err.field-0.0 _ c.from_residual-in_err-check_wanted-in-Err.ensures.1 limit))

pub returns-in_err-check_wanted-in-Err-clause-codec : goal.returns-in_err-check_wanted-in-Err-clause-codec
returns-in_err-check_wanted-in-Err-clause-codec c = λ codec.
    c.in_err-check_wanted-in-Err.ensures.codec (passed c.from_residual-in_err-check_wanted-in-Err.result c.in_err-check_wanted-in-Err.field-0.0 _ c.from_residual-in_err-check_wanted-in-Err.ensures.1 codec)

pub returns-in_err-readers-clause-codec : goal.returns-in_err-readers-clause-codec
returns-in_err-readers-clause-codec c = λ codec. c.in_err-readers.ensures.codec (passed c.from_residual-in_err-readers.result c.in_err-readers.field-0.0 _ c.from_residual-in_err-readers.ensures.1 codec)
