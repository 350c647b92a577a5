use Rattle.std.proofs.Common.{◌≡◌, ◌≢◌, ◌∙◌, length, sym, ap, arith}
use Rattle.std.specs.Prelude.{min}
use Rattle.std.proofs.lemmas.List.{length-append}
use Rattle.schema.specs.declared.value.Kind.TheVariants.{Boolean}
use Rattle.schema.specs.Views.{leaf_view}
use Rattle.plain.specs.ValuesLeft.{values_left, kind_of}
use Rattle.row_group.proofs.Passed.{passed}
use Rattle.row_group.proofs.CopiedPages.{one_copied, all_copied, copied_short, copied_too_heavy, copied_too_long, copied_page_too_much, fills, copied_part, taken_few}
use Rattle.row_group.proofs.pages_in_turn.put_plain_pages.Goals as goal

pub take_bytes-requires : goal.take_bytes-requires
take_bytes-requires c = record { whole_bytes = λ is. c.requires.copied.whole_bytes (sym c.loop-left.invariant.kind ∙ is) }

pub returns-then-len-gt-MOST_BYTES_BEFORE_CHUNK-clause-limit : goal.returns-then-len-gt-MOST_BYTES_BEFORE_CHUNK-clause-limit
returns-then-len-gt-MOST_BYTES_BEFORE_CHUNK-clause-limit c = λ limit all.
    let full = c.if-len-gt-MOST_BYTES_BEFORE_CHUNK.true in
    copied_too_heavy (leaf_view c.args.leaf.now) c.args.options (values_left c.args.values) (values_left c.loop-left.left) c.args.out.now.items c.loop-left.out.items c.requires.rows (omega (arith, full, c.len.ensures, c.loop-left.out.ok.0)) c.loop-left.invariant.copied all

pub returns-in_err-text-clause-limit : goal.returns-in_err-text-clause-limit
returns-in_err-text-clause-limit c = λ limit all.
    copied_too_long (leaf_view c.args.leaf.now) c.args.options (values_left c.args.values) (values_left c.loop-left.left) c.args.out.now.items c.loop-left.out.items (length c.args.out.now.items)
    c.min-count.result c.in_err-text.ensures.limit c.loop-left.invariant.copied

pub returns-in_err-write_plain_page-clause-limit : goal.returns-in_err-write_plain_page-clause-limit
returns-in_err-write_plain_page-clause-limit c = λ limit all.
    let leaf = leaf_view c.args.leaf.now in
    let t = c.in_ok-text.ensures.takes in
    let same = c.loop-left.invariant.kind ∙ c.requires.copied.same_kind in
    let whole : kind_of c.loop-left.left ≢ Boolean = λ is. c.requires.copied.whole_bytes (sym c.loop-left.invariant.kind ∙ is) in
    let count : c.min-count.result ≡ min (length (values_left c.loop-left.left)) c.args.options.page_rows = omega (arith, c.min-count.ensures, c.len-in-loop-left-2.ensures) in
    let few = taken_few c.min-count.result c.args.options.page_rows (length (values_left c.loop-left.left)) (length t.taken) count t.count in
    copied_page_too_much leaf c.args.options (values_left c.args.values) (values_left c.loop-left.left) t.taken (values_left c.take_bytes.new.self) c.args.out.now.items c.loop-left.out.items (length c.args.out.now.items) t.joined c.loop-left.invariant.copied
    (λ each. c.in_err-write_plain_page.ensures.limit (passed c.from_residual-in_err-write_plain_page.result c.in_err-write_plain_page.field-0.0 _ c.from_residual-in_err-write_plain_page.ensures.1 limit) t.taken (fills leaf (kind_of c.loop-left.left) c.min-count.result t.taken c.in_ok-text.text.now same whole (sym few.0) t.spelled each)) all

pub loop-left-preserved : goal.loop-left-preserved
loop-left-preserved c =
    let leaf = leaf_view c.args.leaf.now in
    let o = c.args.options in
    let left = values_left c.loop-left.left in
    let rest = values_left c.take_bytes.new.self in
    let mid = c.loop-left.out.items in
    let new = c.write_plain_page.new.out.items in
    let t = c.in_ok-text.ensures.takes in
    let same = c.loop-left.invariant.kind ∙ c.requires.copied.same_kind in
    let whole : kind_of c.loop-left.left ≢ Boolean = λ is. c.requires.copied.whole_bytes (sym c.loop-left.invariant.kind ∙ is) in
    let count : c.min-count.result ≡ min (length left) o.page_rows = omega (arith, c.min-count.ensures, c.len-in-loop-left-2.ensures) in
    let few = taken_few c.min-count.result o.page_rows (length left) (length t.taken) count t.count in
    let both = ap length t.joined ∙ length-append t.taken rest in
    record {
      kind = t.same_kind ∙ c.loop-left.invariant.kind;
      copied = one_copied leaf o (values_left c.args.values) left t.taken rest c.args.out.now.items mid new t.joined (omega (arith, few.0, count, c.loop-left-test.true, c.len.ensures, c.requires.rows)) few.1 (λ more. omega (arith, few.0, count, both, more)) t.short c.in_ok-write_plain_page.ensures.front
          (λ each.
          let fill = fills leaf (kind_of c.loop-left.left) c.min-count.result t.taken c.in_ok-text.text.now same whole (sym few.0) t.spelled each in
          copied_part leaf o.page_version t.taken mid new (c.in_ok-write_plain_page.ensures.written t.taken fill) (c.in_ok-write_plain_page.ensures.stands t.taken fill)) c.loop-left.invariant.copied;
    }

pub returns-clause-stands : goal.returns-clause-stands
returns-clause-stands c = λ all. all_copied (leaf_view c.args.leaf.now) c.args.options (values_left c.args.values) (values_left c.loop-left.left) c.args.out.now.items c.loop-left.out.items (omega (arith, c.loop-left-test.false, c.len.ensures)) c.loop-left.invariant.copied all

pub returns-clause-within_limits : goal.returns-clause-within_limits
returns-clause-within_limits c = copied_short (leaf_view c.args.leaf.now) c.args.options (values_left c.args.values) (values_left c.loop-left.left) c.args.out.now.items c.loop-left.out.items (omega (arith, c.loop-left-test.false, c.len.ensures)) c.loop-left.invariant.copied
