use Rattle.std.proofs.Common.{◌≡◌, ◌<◌, ℕ, List, [], ◌∷◌, ◌++◌, length, map, take, drop, min, sym, ap, subst, ◌∙◌, arith, Err}
use Rattle.std.proofs.lemmas.Bool.Decides.{nat_tests}
use Rattle.std.proofs.lemmas.List.{length-map, map-append, take_min, drop_min, take-map, drop-map}
use Rattle.bits.specs.Refusals.{IsFault}
use Rattle.bits.proofs.Passing.{passes}
use Rattle.schema.specs.declared.row.Row.{Row}
use Rattle.schema.specs.Values.{ValueTrees}
use Rattle.schema.specs.Fits.{RowsFit}
use Rattle.schema.specs.Views.{row_view, rows_view}
use Rattle.metadata.specs.Records.{GroupMeta}
use Rattle.metadata.specs.Views.{group_meta_view}
use Rattle.row_group.specs.declared.options.ChunkOptions.{ChunkOptions}
use Rattle.row_group.specs.Writing.{AppendsGroup, AreTaken, IsGroupTooMuch}
use Rattle.footer.specs.Writing.{chunk_options, IsTooMuch}
use Rattle.footer.specs.Writer.{IsBegun}
use Rattle.footer.proofs.InGroups.{in_range, goes_on, too_much, fit, all_written}
use Rattle.footer.proofs.Whole.{passes_limit}
use Rattle.footer.proofs.file_writing.write_groups.Goals as goal

-- the rows of a group, and those after it
first_rows : (size n : ℕ) (rows part : List Row) → n ≡ min size (length rows) → part ≡ take n rows → rows_view part ≡ take size (rows_view rows)
first_rows size n rows part is e = ap rows_view (e ∙ ap (λ (k : ℕ). take k rows) is ∙ take_min size rows) ∙ sym (take-map row_view size rows)

other_rows : (size n : ℕ) (rows part : List Row) → n ≡ min size (length rows) → part ≡ drop n rows → rows_view part ≡ drop size (rows_view rows)
other_rows size n rows part is e = ap rows_view (e ∙ ap (λ (k : ℕ). drop k rows) is ∙ drop_min size rows) ∙ sym (drop-map row_view size rows)

pub returns-in_err-meta-clause-only : goal.returns-in_err-meta-clause-only
returns-in_err-meta-clause-only c =
    let fs = c.args.schema.now in
    let o = c.args.options.now in
    let rows = rows_view c.args.rows.now in
    let rest = c.loop-rest.rest.now in
    let parted : c.min.result ≡ min o.group_rows (length rest) = omega (arith, c.min.ensures) in
    let part = first_rows o.group_rows c.min.result rest c.split_at.result.0.now parted c.split_at.ensures.front in
    passes (λ e. IsFault e → RowsFit fs rows → ⊥) c.from_residual.result c.in_err-meta.field-0.0 c.from_residual.ensures.1
    (λ fault fits. c.in_err-meta.ensures.only fault
    (subst (RowsFit fs) (sym part) (fit fs o rows (rows_view rest) c.loop-rest.out.items (map group_meta_view c.loop-rest.groups.items) c.loop-rest.invariant fits)))

pub returns-in_err-meta-clause-limit : goal.returns-in_err-meta-clause-limit
returns-in_err-meta-clause-limit c =
    let fs = c.args.schema.now in
    let o = c.args.options.now in
    let rows = rows_view c.args.rows.now in
    let rest = c.loop-rest.rest.now in
    let out = c.loop-rest.out.items in
    let there : 0 < length rest = grind (arith, nat_tests) in
    let parted : c.min.result ≡ min o.group_rows (length rest) = omega (arith, c.min.ensures) in
    let part = first_rows o.group_rows c.min.result rest c.split_at.result.0.now parted c.split_at.ensures.front in
    passes_limit (IsTooMuch fs o rows) c.from_residual.result c.in_err-meta.field-0.0 c.from_residual.ensures.1
    (λ is. too_much fs o rows (rows_view rest) out (map group_meta_view c.loop-rest.groups.items) (in_range o c.requires.in_range) (omega (arith, there, length-map rest row_view)) c.loop-rest.invariant
    (subst (IsGroupTooMuch fs (chunk_options o) (length out)) part
    (subst (λ (k : ChunkOptions). IsGroupTooMuch fs k (length out) (rows_view c.split_at.result.0.now)) c.of_chunks-chunk_options.ensures (c.in_err-meta.ensures.limit (ap Err is)))))

pub loop-rest-preserved : goal.loop-rest-preserved
loop-rest-preserved c =
    let fs = c.args.schema.now in
    let o = c.args.options.now in
    let rows = rows_view c.args.rows.now in
    let rest = c.loop-rest.rest.now in
    let out = c.loop-rest.out.items in
    let new = c.write_group.new.out.items in
    let metas = map group_meta_view c.loop-rest.groups.items in
    let g = group_meta_view c.in_ok-meta.meta in
    let there : 0 < length rest = grind (arith, nat_tests) in
    let parted : c.min.result ≡ min o.group_rows (length rest) = omega (arith, c.min.ensures) in
    let part = first_rows o.group_rows c.min.result rest c.split_at.result.0.now parted c.split_at.ensures.front in
    let others = other_rows o.group_rows c.min.result rest c.split_at.result.1.now parted c.split_at.ensures.back in
    let pushed : map group_meta_view c.push.new.self.items ≡ metas ++ g ∷ [] = ap (map group_meta_view) c.in_ok-push.ensures.items ∙ map-append group_meta_view c.loop-rest.groups.items (c.in_ok-meta.meta ∷ []) in
    let written : AppendsGroup fs (chunk_options o) out new g (take o.group_rows (rows_view rest)) =
    subst (AppendsGroup fs (chunk_options o) out new g) part
    (subst (λ (k : ChunkOptions). AppendsGroup fs k out new g (rows_view c.split_at.result.0.now)) c.of_chunks-chunk_options.ensures c.in_ok-meta.ensures.stands) in
    let range = in_range o c.requires.in_range in
    let next = goes_on fs o rows (rows_view rest) out new metas g range.some (omega (arith, there, length-map rest row_view)) c.loop-rest.invariant written (subst (AreTaken fs) part c.in_ok-meta.ensures.readable) in
    subst (λ (xs : List ValueTrees). IsBegun fs o rows xs new (map group_meta_view c.push.new.self.items)) (sym others)
    (subst (λ (ms : List GroupMeta). IsBegun fs o rows (drop o.group_rows (rows_view rest)) new ms) (sym pushed) next)

pub returns-clause-stands : goal.returns-clause-stands
returns-clause-stands c =
    let o = c.args.options.now in
    let rest = c.loop-rest.rest.now in
    let none : length rest ≡ 0 = grind (arith, nat_tests) in
    let range = in_range o c.requires.in_range in
    (all_written c.args.schema.now o (rows_view c.args.rows.now) (rows_view rest) c.loop-rest.out.items (map group_meta_view c.loop-rest.groups.items) range.some (length-map rest row_view ∙ none) c.loop-rest.invariant).0

pub returns-clause-readable : goal.returns-clause-readable
returns-clause-readable c =
    let o = c.args.options.now in
    let rest = c.loop-rest.rest.now in
    let none : length rest ≡ 0 = grind (arith, nat_tests) in
    let range = in_range o c.requires.in_range in
    (all_written c.args.schema.now o (rows_view c.args.rows.now) (rows_view rest) c.loop-rest.out.items (map group_meta_view c.loop-rest.groups.items) range.some (length-map rest row_view ∙ none) c.loop-rest.invariant).1
