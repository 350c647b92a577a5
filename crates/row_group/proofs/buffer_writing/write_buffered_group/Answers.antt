use Rattle.std.proofs.Common.{◌≡◌, ◌+◌, ◌-◌, ◌∙◌, length, map, Some, ap, arith, to_z, w64, Err}
use Rattle.std.specs.Prelude.{ℤ, pos}
use Rattle.std.proofs.lemmas.Int.{ints, to_z_pos}
use Rattle.std.proofs.lemmas.List.{length-append}
use Rattle.bits.specs.declared.refusal.Refusal.TheVariants.{Limit}
use Rattle.metadata.specs.Records.{GroupMeta}
use Rattle.metadata.specs.Views.{chunk_meta_view}
use Rattle.shred.specs.Buffer.{schema_of}
use Rattle.row_group.proofs.ColumnsWritten.{group_written, group_too_much}
use Rattle.row_group.proofs.buffer_writing.write_buffered_group.Goals as goal

pub returns-in-Ok-clause-stands : goal.returns-in-Ok-clause-stands
returns-in-Ok-clause-stands c = λ all held.
    let b = c.args.rows.now in
    let old = c.args.out.now in
    let new = c.write_columns.new.out in
    let extends = c.in-Ok.ensures.extends in
    let size = c.len.result - c.len-kept.result in
    let filled : size + length old.items ≡ length new.items = omega (arith, ap length extends.1, length-append old.items extends.0, c.len.ensures, c.len-kept.ensures, old.ok.0, new.ok.0) in
    let counted : c.len-count.result ≡ length all = c.len-count.ensures.counted all held in
    let few = c.if-count.false in
    let count : to_z w64 c.len-count.result ≡ pos (length all) = to_z_pos w64 c.len-count.result (omega (arith, few)) ∙ ap pos counted in
    let says : to_z w64 size ≡ pos size = to_z_pos w64 size (omega (arith, new.small, c.len.ensures, new.ok.0)) in
    let g : GroupMeta = record { columns = map chunk_meta_view c.in-Ok.columns.items; total_byte_size = Some (to_z w64 size); num_rows = to_z w64 c.len-count.result } in
    group_written c.rows_begin_once.ensures (schema_of b) c.args.options all old.items new.items g size held.fit filled count (λ many. omega (arith, ints, many, few, counted)) (ap (λ (z : ℤ). Some z) says) (c.in-Ok.ensures.stands all held)

pub returns-in-Err-clause-limit : goal.returns-in-Err-clause-limit
returns-in-Err-clause-limit c = λ limit all held.
    let b = c.args.rows.now in
    let is : c.in-Err.refusal ≡ Limit = cc in
    group_too_much c.rows_begin_once.ensures (schema_of b) c.args.options (length c.args.out.now.items) all held.fit (c.in-Err.ensures.limit (ap Err is) all held)
