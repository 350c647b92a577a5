use Rattle.std.proofs.Common.{◌≡◌, ℕ, List, [], map, ap, subst, ◌∙◌, Err}
use Rattle.bits.specs.Refusals.{IsFault}
use Rattle.bits.proofs.Passing.{passes}
use Rattle.schema.specs.Values.{ValueTrees}
use Rattle.schema.specs.Shape.{Fields}
use Rattle.schema.specs.Listed.{elements_of}
use Rattle.schema.specs.Listing.{IsSchemaOf, IsTooLarge}
use Rattle.schema.specs.Law.{IsWithinLimits}
use Rattle.metadata.specs.Views.{group_meta_view, file_meta_view}
use Rattle.footer.specs.Own.{own_record}
use Rattle.footer.specs.Writing.{IsTooMuch}
use Rattle.footer.specs.Writer.{schema_of, options_of, has_rows}
use Rattle.footer.proofs.InGroups.{in_range}
use Rattle.footer.proofs.Whole.{means, laid_out, is_heavy, passes_limit}
use Rattle.footer.proofs.WrittenWithin.{file_within, same_record}
use Rattle.footer.proofs.Written.{last_next, last_written, last_counted}
use Rattle.footer.proofs.file_writer.FileWriter.finish_with_record.Goals as goal

pub returns-in_err-write_waiting-clause-only : goal.returns-in_err-write_waiting-clause-only
returns-in_err-write_waiting-clause-only c =
    let w = c.args.self in
    passes (λ e. IsFault e → (rows : List ValueTrees) → has_rows w rows → ⊥) c.from_residual.result c.in_err-write_waiting.field-0.0 c.from_residual.ensures.1
    (λ fault rows so. c.in_err-write_waiting.ensures.only fault so.waiting so.held)

pub returns-in_err-write_waiting-clause-limit : goal.returns-in_err-write_waiting-clause-limit
returns-in_err-write_waiting-clause-limit c =
    let w = c.args.self in
    let fs = schema_of w in
    let o = options_of w in
    passes_limit ((rows : List ValueTrees) → has_rows w rows → IsTooMuch fs o rows) c.from_residual.result c.in_err-write_waiting.field-0.0 c.from_residual.ensures.1
    (λ is rows so. c.in_err-write_waiting.ensures.limit (ap Err is) so.waiting rows [] (last_next w rows so))

pub returns-clause-means : goal.returns-clause-means
returns-clause-means c = λ rows so.
    let old = c.args.self in
    let new = c.write_waiting.new.self in
    let fs = schema_of old in
    let o = options_of old in
    let gs = map group_meta_view new.groups.items in
    let meta = file_meta_view c.in_ok-record.record in
    let same = c.in_ok-write_waiting.ensures.same_schema in
    let shown = c.schema.ensures ∙ same in
    let is : meta ≡ own_record fs new.written gs = subst (λ (t : Fields). meta ≡ own_record t new.written gs) shown c.in_ok-record.ensures.meta_is in
    let listed : IsSchemaOf (elements_of fs) fs = subst (λ (t : Fields). IsSchemaOf (elements_of t) t) shown c.in_ok-record.ensures.listed in
    let range = in_range o so.given.in_range in
    let all = last_written old new c.in_ok-write_waiting.ensures.stands same c.in_ok-write_waiting.ensures.same_options rows so in
    means new.written fs o rows new.bytes.items c.in_ok-file.file.items gs meta c.an_appended_group_has_its_rows.ensures range.some is all.0 c.in_ok-file.ensures.stands listed

pub returns-clause-laid_out : goal.returns-clause-laid_out
returns-clause-laid_out c = λ rows so.
    let old = c.args.self in
    let new = c.write_waiting.new.self in
    let fs = schema_of old in
    let o = options_of old in
    let gs = map group_meta_view new.groups.items in
    let meta = file_meta_view c.in_ok-record.record in
    let same = c.in_ok-write_waiting.ensures.same_schema in
    let shown = c.schema.ensures ∙ same in
    let is : meta ≡ own_record fs new.written gs = subst (λ (t : Fields). meta ≡ own_record t new.written gs) shown c.in_ok-record.ensures.meta_is in
    let all = last_written old new c.in_ok-write_waiting.ensures.stands same c.in_ok-write_waiting.ensures.same_options rows so in
    let count = last_counted old new c.in_ok-write_waiting.ensures.counted rows so in
    laid_out fs o rows new.bytes.items c.in_ok-file.file.items gs meta (is ∙ ap (λ (n : ℕ). own_record fs n gs) count) all.0 c.in_ok-file.ensures.stands

pub returns-clause-readable : goal.returns-clause-readable
returns-clause-readable c = λ rows so.
    let old = c.args.self in
    let new = c.write_waiting.new.self in
    let fs = schema_of old in
    let o = options_of old in
    let same = c.in_ok-write_waiting.ensures.same_schema in
    let shown = c.schema.ensures ∙ same in
    let within : IsWithinLimits fs = subst IsWithinLimits shown c.in_ok-record.ensures.within in
    let all = last_written old new c.in_ok-write_waiting.ensures.stands same c.in_ok-write_waiting.ensures.same_options rows so in
    record { file_size = c.in_ok-file.ensures.size; footer_size = c.in_ok-file.ensures.footer_size; schema_taken = within; columns_taken = all.1 }

pub returns-clause-record_is : goal.returns-clause-record_is
returns-clause-record_is c = λ rows so front m file.
    let old = c.args.self in
    let new = c.write_waiting.new.self in
    let fs = schema_of old in
    let o = options_of old in
    let same = c.in_ok-write_waiting.ensures.same_schema in
    let all = last_written old new c.in_ok-write_waiting.ensures.stands same c.in_ok-write_waiting.ensures.same_options rows so in
    same_record c.one_footer.ensures fs o rows new.bytes.items c.in_ok-file.file.items (map group_meta_view new.groups.items) (file_meta_view c.in_ok-record.record) all.0 c.in_ok-file.ensures.stands front m file

pub returns-clause-within_limits : goal.returns-clause-within_limits
returns-clause-within_limits c = λ rows so.
    let old = c.args.self in
    let new = c.write_waiting.new.self in
    let fs = schema_of old in
    let o = options_of old in
    let gs = map group_meta_view new.groups.items in
    let meta = file_meta_view c.in_ok-record.record in
    let same = c.in_ok-write_waiting.ensures.same_schema in
    let shown = c.schema.ensures ∙ same in
    let is : meta ≡ own_record fs new.written gs = subst (λ (t : Fields). meta ≡ own_record t new.written gs) shown c.in_ok-record.ensures.meta_is in
    let listed : IsSchemaOf (elements_of fs) fs = subst (λ (t : Fields). IsSchemaOf (elements_of t) t) shown c.in_ok-record.ensures.listed in
    let small : IsTooLarge (elements_of fs) → ⊥ = subst (λ (t : Fields). IsTooLarge (elements_of t) → ⊥) shown c.in_ok-record.ensures.within_limits in
    let all = last_written old new c.in_ok-write_waiting.ensures.stands same c.in_ok-write_waiting.ensures.same_options rows so in
    file_within c.an_appended_group_is_within_limits.ensures c.one_footer.ensures c.a_list_means_one_schema.ensures new.written fs o rows new.bytes.items c.in_ok-file.file.items gs meta is all.0 c.in_ok-file.ensures.stands listed small
    c.in_ok-file.ensures.size c.in_ok-file.ensures.footer_size

pub returns-in_err-file-clause-limit : goal.returns-in_err-file-clause-limit
returns-in_err-file-clause-limit c =
    let old = c.args.self in
    let fs = schema_of old in
    let o = options_of old in
    let new = c.write_waiting.new.self in
    let gs = map group_meta_view new.groups.items in
    let meta = file_meta_view c.in_ok-record.record in
    let same = c.in_ok-write_waiting.ensures.same_schema in
    let shown = c.schema.ensures ∙ same in
    let is : meta ≡ own_record fs new.written gs = subst (λ (t : Fields). meta ≡ own_record t new.written gs) shown c.in_ok-record.ensures.meta_is in
    let within : IsWithinLimits fs = subst IsWithinLimits shown c.in_ok-record.ensures.within in
    passes_limit ((rows : List ValueTrees) → has_rows old rows → IsTooMuch fs o rows) c.from_residual-in_err-file.result c.in_err-file.field-0.0 c.from_residual-in_err-file.ensures.1
    (λ limit rows so.
    let all = last_written old new c.in_ok-write_waiting.ensures.stands same c.in_ok-write_waiting.ensures.same_options rows so in
    is_heavy fs o new.written rows new.bytes.items gs meta is all.0 within (c.in_err-file.ensures.limit (ap Err limit) []))

pub returns-clause-in_range : goal.returns-clause-in_range
returns-clause-in_range c = λ rows so. so.given.in_range
