use Rattle.std.proofs.Common.{refl, ◌∙◌, rules, ◌≡◌, ◌<◌, length, arith}
use Rattle.bits.specs.declared.fault.Fault.TheVariants.{Memory}
use Rattle.assemble.specs.Flat.{OfFlatRows}
use Rattle.assemble.proofs.FlatShown.{shown_none, shown_more, shows_row, only_memory}
use Rattle.assemble.proofs.Standing.{causes_set}
use Rattle.assemble.proofs.flat.next_flat_row_to.Goals as goal

pub loop-i-init : goal.loop-i-init
loop-i-init g c = record { size = search rules; stay = λ _ h. h; shown = shown_none g.S.EntrySource.stands c.args.sources.now (g.K.RowSink.shows c.args.sink.now); base = refl }

pub loop-i-preserved : goal.loop-i-preserved
loop-i-preserved g c =
    let S = g.S.EntrySource.stands in
    let shows = g.K.RowSink.shows in
    let xs = c.loop-i.sources in
    let i = c.loop-i.i in
    let here : i < length xs = omega arith in
    record {
      size = search rules;
      stay = λ e h. c.loop-i.invariant.stay e (causes_set g.S.EntrySource.cause xs i c.index-sources-i.result c.show_first.new.source here c.show_first.ensures.causes_stay e h);
      shown = shown_more S i c.args.sources.now xs c.index-sources-i.result c.show_first.new.source (shows c.args.sink.now) (shows c.loop-i.sink) (shows c.show_first.new.sink) here c.loop-i.invariant.shown c.in_ok-show_first.ensures.shows;
      base = c.show_first.ensures.base_stays ∙ c.loop-i.invariant.base;
    }

pub returns-in_err-show_first-clause-known : goal.returns-in_err-show_first-clause-known
returns-in_err-show_first-clause-known g c =
    let S = g.S.EntrySource.stands in
    let shows = g.K.RowSink.shows in
    let old = c.args.sources.now in
    let i = c.loop-i.i in
    let f = c.in_err-show_first.field-0.0 in
    let here : i < length old = omega arith in
    let known : OfFlatRows S old (λ _ _. f ≡ Memory) = only_memory S i old c.loop-i.sources c.index-sources-i.result (shows c.args.sink.now) (shows c.loop-i.sink) f here c.loop-i.invariant.size c.loop-i.invariant.shown c.in_err-show_first.ensures.known in
    search (rules, known)

pub returns-clause-row : goal.returns-clause-row
returns-clause-row g c =
    let old = c.args.sources.now in
    let all : c.loop-i.i ≡ length old = omega arith in
    shows_row g.S.EntrySource.stands old c.loop-i.sources (g.K.RowSink.shows c.args.sink.now) (g.K.RowSink.shows c.loop-i.sink) c.loop-i.i all c.loop-i.invariant.shown

pub returns-in_err-show_first-clause-causes_stay : goal.returns-in_err-show_first-clause-causes_stay
returns-in_err-show_first-clause-causes_stay g c =
    let xs = c.loop-i.sources in
    let i = c.loop-i.i in
    let here : i < length xs = omega arith in
    λ e h. c.loop-i.invariant.stay e (causes_set g.S.EntrySource.cause xs i c.index-sources-i.result c.show_first.new.source here c.show_first.ensures.causes_stay e h)
