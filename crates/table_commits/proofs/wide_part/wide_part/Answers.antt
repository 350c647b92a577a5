use Rattle.std.proofs.Common.{◌≡◌, ◌≤◌, ℕ, List, length, Result, Ok, Err, ◌∙◌, subst, arith}
use Rattle.std.specs.Prelude.{IfOk}
use Rattle.bits.specs.declared.refusal.Refusal.{Refusal}
use Rattle.bits.specs.Refusals.{RefusedOnly}
use Rattle.schema.specs.Keys.{AreRowsOf}
use Rattle.schema.specs.Shape.{Fields}
use Rattle.schema.specs.Views.{key_view}
use Rattle.vault.proofs.Chained.{refused}
use Rattle.footer.specs.declared.options.WriteOptions.{WriteOptions}
use Rattle.gather.specs.declared.key_buffer.KeyBuffer.{KeyBuffer}
use Rattle.gather.specs.KeyBuffers.{HoldsRows}
use Rattle.manifest.specs.Groups.{Root, root_of}
use Rattle.manifest.specs.Root.{stored_of}
use Rattle.table.specs.Table.{Row}
use Rattle.table_commits.specs.declared.part.Part.{Part}
use Rattle.table_commits.specs.Gathering.{HoldsPart}
use Rattle.table_commits.specs.Wide.{HasFewEntries}
use Rattle.table_commits.specs.Writing.{IsPartFor, IsUnfit}
use Rattle.table_commits.proofs.SmallerGroups.{narrow, unfit_either, unfit_memory}
use Rattle.table_commits.proofs.wide_part.wide_part.Goals as goal

-- with groups of as many rows as the buffer has, they are one group
one_part : (root : Root) (wide : WriteOptions) (buffer : KeyBuffer) (stored : List Row) (count : ℕ) → wide.group_rows ≡ count → count ≡ length stored → HoldsRows (stored_of root) stored buffer → 1 ≤ length stored → HoldsPart root wide buffer stored
one_part root wide buffer stored count size many holds some = record { rows = holds; some = some; few = omega (arith, size, many) }

made_whole : (root : Root) (wide : WriteOptions) (buffer : KeyBuffer) (number : ℕ) (result : Result Part Refusal)
    → ((stored : List Row) → HoldsRows (stored_of root) stored buffer → 1 ≤ length stored → HoldsPart root wide buffer stored)
    → IfOk result (λ part. (stored held : List Row) → HoldsPart root wide buffer stored → AreRowsOf root.keys (key_view buffer.key) stored held → IsPartFor root.keys root.schema number (key_view buffer.key) held part)
    → IfOk result (λ part. (stored held : List Row) → HoldsRows (stored_of root) stored buffer → 1 ≤ length stored → AreRowsOf root.keys (key_view buffer.key) stored held → IsPartFor root.keys root.schema number (key_view buffer.key) held part)
made_whole root wide buffer number (Ok part) whole made = λ stored held holds some are. made stored held (whole stored holds some) are
made_whole root wide buffer number (Err e) whole made = tt

pub returns-clause-made : goal.returns-clause-made
returns-clause-made c =
    let root = root_of c.args.table.now in
    let wide = c.in-Some.wide in
    made_whole root wide c.args.buffer c.args.number c.buffered_part.result
    (λ stored holds some. one_part root wide c.args.buffer stored c.len.result c.in-Some.ensures.rows (c.len.ensures.counted stored holds.held) holds some) c.buffered_part.ensures.made

pub returns-in_err-has_few_entries-clause-which : goal.returns-in_err-has_few_entries-clause-which
returns-in_err-has_few_entries-clause-which c stored holds some =
    let root = root_of c.args.table.now in
    let key = key_view c.args.buffer.key in
    refused (λ r. RefusedOnly (IsUnfit root c.args.options.now key stored) r) c.from_residual.result _ c.from_residual.ensures.1
    (unfit_memory root c.args.options.now key stored c.in_err-has_few_entries.field-0.0 c.in_err-has_few_entries.ensures.which)

pub returns-clause-which : goal.returns-clause-which
returns-clause-which c stored holds some =
    let root = root_of c.args.table.now in
    let o = c.args.options.now in
    let wide = c.in-Some.wide in
    let is = c.in-Some.ensures in
    let many = c.len.ensures.counted stored holds.held in
    let few = subst (λ (fs : Fields). HasFewEntries fs stored) holds.schema (c.in_ok-has_few_entries.ensures.few c.if-not-branch.false stored holds.held) in
    unfit_either Part root o wide (key_view c.args.buffer.key) stored
    (narrow (stored_of root) o wide stored (is.rows ∙ many) (let f = is.few in omega (arith, f, many)) is.pages is.version is.style some few)
    c.buffered_part.result (c.buffered_part.ensures.which stored (one_part root wide c.args.buffer stored c.len.result is.rows many holds some))
