use Rattle.std.proofs.Common.{◌≡◌, ◌+◌, [], ◌∷◌, ◌++◌, true, take, drop, length, refl, ap, sym, subst, ◌∙◌, arith, drop_of_length-le}
use Rattle.std.proofs.lemmas.List.{length-map, drop_more}
use Rattle.schema.specs.Views.{field_views, row_view, rows_view, leaf_view}
use Rattle.schema.specs.Values.{views}
use Rattle.schema.specs.Fits.{RowsFit, fits_each}
use Rattle.schema.specs.Stripe.{Leaf, leaves_of, column, columns}
use Rattle.schema.specs.Reading.{tallest}
use Rattle.schema.proofs.CutSteps.{counts_are}
use Rattle.shred.specs.Columns.{column_ref_view, column_refs_view}
use Rattle.shred.specs.inner.Growing.{grown, levels_at, stripes_each}
use Rattle.shred.proofs.Growing.{grown_from_nils, grown_same, length_nils}
use Rattle.shred.proofs.Turns.{row_given}
use Rattle.schema.proofs.Slices.{written_back}
use Rattle.shred.proofs.rows.shred.Goals as goal

pub loop-row-init : goal.loop-row-init
loop-row-init c =
    let fs = c.args.schema.now in
    let rows = rows_view c.args.rows.now in
    let ls = c.leaves-leaves.result.now in
    let cs = c.in_ok-columns.columns.items in
    let n = length ls in
    let many : length (leaves_of fs) ≡ n = sym (ap length c.leaves-leaves.ensures.leaves_are) ∙ length-map ls leaf_view in
    record {
      grown = ap (λ t. grown t (columns fs rows)) c.in_ok-columns.ensures.empty ∙ grown_from_nils (columns fs rows) n (length-map (leaves_of fs) (λ (l : Leaf). column rows l.steps) ∙ many);
      fit = (λ h. h, λ h. h);
      size = sym (length-map cs column_ref_view) ∙ ap length c.in_ok-columns.ensures.empty ∙ length_nils n ∙ sym many;
    }

pub push_fields-requires-clause-room : goal.push_fields-requires-clause-room
push_fields-requires-clause-room c =
    let size = c.loop-row.invariant.size in
    let count = counts_are 0 (field_views c.fields.result.now) in
    let fs = ap (λ gs. length (leaves_of gs)) c.fields.ensures in
    let len = ap length c.as_mut_slice.ensures.value in
    omega (arith, size, count, fs, len)

pub push_fields-requires-clause-deep : goal.push_fields-requires-clause-deep
push_fields-requires-clause-deep c =
    let is = ap tallest c.fields.ensures in
    let deep = c.leaves-leaves.ensures.shallow in
    let none = c.of_row.ensures.definition in
    omega (arith, is, deep, none)

pub loop-row-preserved : goal.loop-row-preserved
loop-row-preserved c =
    let fs = c.args.schema.now in
    let rows = c.args.rows.now in
    let i = c.loop-row.row-index in
    let row = c.row-item.result in
    let xs = c.loop-row.columns.items in
    let ys = c.push_fields.new.columns in
    let old = column_refs_view xs in
    let x = c.of_row.result in
    let rest = rows_view (drop (i + 1) rows) in
    let next : rows_view (drop i rows) ≡ row_view row ∷ rest = ap rows_view (drop_more rows i row (omega arith)) ∙ ap (λ t. row_view t ∷ rest) (sym c.row-item.is) in
    let size : length ys ≡ length xs = omega (arith, c.push_fields.auto.columns, ap length c.as_mut_slice.ensures.value) in
    let same : take c.loop-row.columns.len (ys ++ drop (length ys) xs) ≡ ys = written_back c.loop-row.columns.len xs ys (omega (arith, c.loop-row.columns.ok.0)) size in
    let given : column_refs_view ys ≡ grown old (stripes_each 0 fs (row_view row) (levels_at 0 0 0)) =
    c.in_ok-push_fields.ensures.grown
    ∙ ap (λ t. grown (column_refs_view t) (stripes_each 0 (field_views c.fields.result.now) (views c.as_slice.result.now) x)) c.as_mut_slice.ensures.value
    ∙ ap (λ gs. grown old (stripes_each 0 gs (views c.as_slice.result.now) x)) c.fields.ensures
    ∙ ap (λ vs. grown old (stripes_each 0 fs (views vs) x)) c.as_slice.ensures.value
    ∙ ap (λ n. grown old (stripes_each 0 fs (row_view row) (levels_at n x.definition x.repeated))) c.of_row.ensures.repetition
    ∙ ap (λ n. grown old (stripes_each 0 fs (row_view row) (levels_at 0 n x.repeated))) c.of_row.ensures.definition
    ∙ ap (λ n. grown old (stripes_each 0 fs (row_view row) (levels_at 0 0 n))) c.of_row.ensures.repeated in
    let fit : fits_each fs (row_view row) ≡ true =
    sym (ap (λ gs. fits_each gs (views c.as_slice.result.now)) c.fields.ensures ∙ ap (λ vs. fits_each fs (views vs)) c.as_slice.ensures.value) ∙ c.in_ok-push_fields.ensures.fit in
    record {
      grown = ap (λ t. grown (column_refs_view t) (columns fs rest)) same
          ∙ row_given fs (row_view row) rest old (column_refs_view ys) (columns fs (rows_view rows)) (subst (λ t. grown old (columns fs t) ≡ columns fs (rows_view rows)) next c.loop-row.invariant.grown) given;
      fit = (λ h. c.loop-row.invariant.fit.0 (subst (RowsFit fs) (sym next) (fit, h)), λ h. (subst (RowsFit fs) next (c.loop-row.invariant.fit.1 h)).1);
      size = ap length same ∙ size ∙ c.loop-row.invariant.size;
    }

pub returns-clause-stands : goal.returns-clause-stands
returns-clause-stands c =
    let fs = c.args.schema.now in
    let rows = c.args.rows.now in
    let cs = column_refs_view c.loop-row.columns.items in
    let none : drop c.loop-row.row-index rows ≡ [] = drop_of_length-le rows {i = c.loop-row.row-index} (omega arith) in
    sym (grown_same (λ (l : Leaf). column [] l.steps) (leaves_of fs) cs (λ l. refl))
    ∙ subst (λ rest. grown cs (columns fs (rows_view rest)) ≡ columns fs (rows_view rows)) none c.loop-row.invariant.grown
