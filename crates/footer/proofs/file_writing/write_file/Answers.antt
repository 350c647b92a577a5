use Rattle.std.proofs.Common.{◌≡◌, ◌⊎◌, ◌≤◌, inr, ℕ, List, [], length, map, sym, ap, ◌∙◌, Result, Ok, Err}
use Rattle.std.specs.Prelude.{IfOk, OnOk}
use Rattle.bits.specs.declared.refusal.Refusal.{Refusal}
use Rattle.metadata.specs.Records.{FileMeta}
use Rattle.std.proofs.lemmas.List.{length-map}
use Rattle.std.proofs.Common.{Vec, Global}
use Rattle.schema.specs.Views.{rows_view, row_view}
use Rattle.metadata.specs.Views.{group_meta_view, file_meta_view}
use Rattle.footer.specs.Faults.{IsOverLimit}
use Rattle.footer.specs.Greatest.{most_of_file, most_of_footer}
use Rattle.footer.specs.File.{IsFramed, FileMeans}
use Rattle.footer.specs.Writing.{IsOutOfRange, IsTooMuch}
use Rattle.footer.specs.Own.{own_record, EndsWith, IsLaidOut}
use Rattle.footer.proofs.Single.{ok_map}
use Rattle.footer.proofs.InGroups.{in_range}
use Rattle.footer.proofs.Whole.{taken_file, means, laid_out, is_heavy, passes_limit}
use Rattle.footer.proofs.WrittenWithin.{file_within}
use Rattle.footer.proofs.file_writing.write_file.Goals as goal

-- what holds in any case does at Ok
at_ok : {X : Type 0} (r : Result X Refusal) {P : Type 0} → P → OnOk r P
at_ok (Ok x) p = p
at_ok (Err e) p = tt

-- a file that ends so, and is short, is within the limits
within_file : (r : Result (Vec ℕ Global) Refusal) (front : List ℕ) (meta : FileMeta)
    → ((bytes : List ℕ) → EndsWith front meta bytes → length bytes ≤ most_of_file → ((before footer : List ℕ) → IsFramed bytes before footer → length footer ≤ most_of_footer) → IsOverLimit bytes → ⊥)
    → IfOk r (λ file. EndsWith front meta file.items) → IfOk r (λ file. length file.items ≤ most_of_file) → IfOk r (λ file. (before footer : List ℕ) → IsFramed file.items before footer → length footer ≤ most_of_footer)
    → IfOk r (λ file. IsOverLimit file.items → ⊥)
within_file (Ok file) front meta within ends short few = within file.items ends short few
within_file (Err e) front meta within ends short few = tt

pub returns-in_err-groups-clause-limit : goal.returns-in_err-groups-clause-limit
returns-in_err-groups-clause-limit c =
    let fs = c.args.schema.now in
    let o = c.args.options.now in
    let rows = rows_view c.args.rows.now in
    passes_limit (IsOutOfRange o ⊎ IsTooMuch fs o rows) c.from_residual-in_err-groups.result c.in_err-groups.field-0.0 c.from_residual-in_err-groups.ensures.1
    (λ is. inr (c.in_err-groups.ensures.limit (ap Err is)))

pub returns-clause-means : goal.returns-clause-means
returns-clause-means c =
    let fs = c.args.schema.now in
    let o = c.args.options.now in
    let rows = rows_view c.args.rows.now in
    let front = c.write_groups.new.out.items in
    let gs = map group_meta_view c.in_ok-groups.groups.items in
    let meta = file_meta_view c.in_ok-record.record in
    let range = in_range o (c.is_out_of_range.ensures.within c.if-is_out_of_range.false) in
    ok_map (λ (file : Vec ℕ Global). EndsWith front meta file.items) (λ (file : Vec ℕ Global). FileMeans file.items fs rows) c.with_footer.result
    (λ file ends. means (length c.args.rows.now) fs o rows front file.items gs meta c.an_appended_group_has_its_rows.ensures range.some c.in_ok-record.ensures.meta_is c.in_ok-groups.ensures.stands ends c.in_ok-record.ensures.listed) c.with_footer.ensures.stands

pub returns-clause-laid_out : goal.returns-clause-laid_out
returns-clause-laid_out c =
    let fs = c.args.schema.now in
    let o = c.args.options.now in
    let rows = rows_view c.args.rows.now in
    let front = c.write_groups.new.out.items in
    let gs = map group_meta_view c.in_ok-groups.groups.items in
    let meta = file_meta_view c.in_ok-record.record in
    let size : length rows ≡ length c.args.rows.now = length-map c.args.rows.now row_view in
    ok_map (λ (file : Vec ℕ Global). EndsWith front meta file.items) (λ (file : Vec ℕ Global). IsLaidOut o fs rows file.items) c.with_footer.result
    (λ file ends. laid_out fs o rows front file.items gs meta (c.in_ok-record.ensures.meta_is ∙ ap (λ (n : ℕ). own_record fs n gs) (sym size)) c.in_ok-groups.ensures.stands ends) c.with_footer.ensures.stands

pub returns-clause-readable : goal.returns-clause-readable
returns-clause-readable c =
    taken_file c.args.options.now.group_rows c.args.schema.now (rows_view c.args.rows.now) c.with_footer.result c.in_ok-record.ensures.within c.in_ok-groups.ensures.readable c.with_footer.ensures.size c.with_footer.ensures.footer_size

pub returns-clause-within_limits : goal.returns-clause-within_limits
returns-clause-within_limits c =
    let fs = c.args.schema.now in
    let o = c.args.options.now in
    let rows = rows_view c.args.rows.now in
    let front = c.write_groups.new.out.items in
    let gs = map group_meta_view c.in_ok-groups.groups.items in
    let meta = file_meta_view c.in_ok-record.record in
    within_file c.with_footer.result front meta
    (λ bytes ends. file_within c.an_appended_group_is_within_limits.ensures c.one_footer.ensures c.a_list_means_one_schema.ensures (length c.args.rows.now) fs o rows front bytes gs meta
    c.in_ok-record.ensures.meta_is c.in_ok-groups.ensures.stands ends c.in_ok-record.ensures.listed c.in_ok-record.ensures.within_limits)
    c.with_footer.ensures.stands c.with_footer.ensures.size c.with_footer.ensures.footer_size

pub returns-clause-options : goal.returns-clause-options
returns-clause-options c = at_ok c.with_footer.result (c.is_out_of_range.ensures.within c.if-is_out_of_range.false)

pub returns-clause-limit : goal.returns-clause-limit
returns-clause-limit c = λ is.
    let fs = c.args.schema.now in
    let o = c.args.options.now in
    let rows = rows_view c.args.rows.now in
    let gs = map group_meta_view c.in_ok-groups.groups.items in
    let meta = file_meta_view c.in_ok-record.record in
    inr (is_heavy fs o (length c.args.rows.now) rows c.write_groups.new.out.items gs meta c.in_ok-record.ensures.meta_is c.in_ok-groups.ensures.stands c.in_ok-record.ensures.within (c.with_footer.ensures.limit is []))
