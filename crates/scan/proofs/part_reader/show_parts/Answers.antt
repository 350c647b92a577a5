use Rattle.std.proofs.Common.{◌≡◌, ◌<◌, length, refl, ◌∙◌, arith}
use Rattle.scan.specs.Left.{PartsStand}
use Rattle.scan.specs.inner.Parts.{IsMemoryWhere}
use Rattle.scan.proofs.Pieces.{none_shown, part_memory, show_more, all_shown}
use Rattle.scan.proofs.Taken.{err_only}
use Rattle.scan.proofs.part_reader.show_parts.Goals as goal

pub loop-k-init : goal.loop-k-init
loop-k-init g c = record { base = refl; shown = λ x rest stand. none_shown c.args.parts.now x rest (g.K.RowSink.shows c.args.sink.now) stand }

pub loop-k-preserved : goal.loop-k-preserved
loop-k-preserved g c =
    let shows = g.K.RowSink.shows in
    let now = c.loop-k.parts in
    let k = c.loop-k.k in
    let lt : k < length now = (let t = c.loop-k-test.true in let e = c.loop-k.auto.k-end in let a = c.loop-k.auto.parts in omega (arith, t, e, a)) in
    record {
      base = c.show_part.ensures.base_stays ∙ c.loop-k.invariant.base;
      shown = λ x rest stand.
          show_more now k x rest (shows c.args.sink.now) (shows c.loop-k.sink) (shows c.show_part.new.sink) c.index-parts-k.result c.show_part.new.part lt (c.loop-k.invariant.shown x rest stand) c.in_ok-show_part.ensures.shows;
    }

pub returns-in_err-show_part-clause-only : goal.returns-in_err-show_part-clause-only
returns-in_err-show_part-clause-only g c =
    let shows = g.K.RowSink.shows in
    let now = c.loop-k.parts in
    let k = c.loop-k.k in
    let f = c.in_err-show_part.field-0.0 in
    let lt : k < length now = (let t = c.loop-k-test.true in let e = c.loop-k.auto.k-end in let a = c.loop-k.auto.parts in omega (arith, t, e, a)) in
    err_only (IsMemoryWhere (PartsStand c.args.parts.now)) c.from_residual.result f c.from_residual.ensures.1
    (λ x rest stand. part_memory now k x rest (shows c.args.sink.now) (shows c.loop-k.sink) (shows c.show_part.new.sink) c.index-parts-k.result c.show_part.new.part lt (c.loop-k.invariant.shown x rest stand) f c.in_err-show_part.ensures.only)

pub returns-clause-shows : goal.returns-clause-shows
returns-clause-shows g c x rest stand =
    let shows = g.K.RowSink.shows in
    let size : length c.loop-k.parts ≡ length c.args.parts.now = c.loop-k.auto.parts in
    let end : c.loop-k.k ≡ length c.args.parts.now = omega arith in
    all_shown c.loop-k.parts (length c.args.parts.now) c.loop-k.k x rest (shows c.args.sink.now) (shows c.loop-k.sink) size end (c.loop-k.invariant.shown x rest stand)
