use Rattle.std.proofs.Common.{◌∙◌, List, Ok, Err, refl, ap}
use Rattle.std.specs.Io.KnownBytes.{Appends}
use Rattle.std.proofs.KnownBytes.{Appends-nil}
use Rattle.bits.specs.declared.refusal.Refusal.TheVariants.{Limit}
use Rattle.schema.specs.Values.{ValueTrees}
use Rattle.table.specs.Cursors.{Batch}
use Rattle.table.specs.Calls.{ended, batch, refused}
use Rattle.answers.specs.Querying.{row_lines}
use Rattle.answers.specs.QueryFile.{first_of}
use Rattle.answers.specs.inner.Fetched.{rows_of_each, WhereFitting, AreEnough, HoldsOfFirst, HasPrinted, fewer}
use Rattle.answers.proofs.Batched.{rows_fetched, none_fetched_as, begins, goes_on, ends, stops, all_fetched, enough}
use Rattle.answers.proofs.FirstOf.{holds_none, holds_more, fitting_more, is_enough}
use Rattle.answers.proofs.GatheredLines.{printed_more}
use Rattle.answers.proofs.OkThen.{err_then}
use Rattle.answers.proofs.querying.print_batches.Goals as goal

pub batches-init : goal.batches-init
batches-init g c = record {
  prints = λ texts fs begun honest s stands.
      let old = g.W.Write.contents c.args.out.now in
      let limit = c.args.limit in
      let Has = HasPrinted texts fs c.args.text.now old old in
      begins g.D.Disk.state c.args.store.now c.args.cursor (WhereFitting fs (HoldsOfFirst limit limit Has)) s stands (λ fit. holds_none limit Has (Appends-nil old, begun));
  honest = λ honest. honest;
  quiet = λ hidden. refl;
  same = refl;
}

pub returns-then-is_used_up-clause-prints : goal.returns-then-is_used_up-clause-prints
returns-then-is_used_up-clause-prints g c = λ texts fs begun honest s stands.
    let at = c.batches in
    let limit = c.args.limit in
    let old = g.W.Write.contents c.args.out.now in
    let mid = g.W.Write.contents at.out in
    let Done = WhereFitting fs (HoldsOfFirst limit at.left (HasPrinted texts fs at.text old mid)) in
    let Again = WhereFitting fs (λ (rows : List ValueTrees). Appends old mid (row_lines texts fs (first_of limit rows))) in
    enough g.D.Disk.state c.args.store.now at.store c.args.cursor Done Again (WhereFitting fs (AreEnough limit)) s (at.invariant.prints texts fs begun honest s stands) (λ (bs : List Batch) done fit. (done fit).0.0)
    (λ (bs : List Batch) done fit. is_enough limit at.left (rows_of_each bs) (c.is_used_up.ensures c.if-is_used_up.true) (done fit).1)

pub returns-in-None-clause-prints : goal.returns-in-None-clause-prints
returns-in-None-clause-prints g c = λ texts fs begun honest s stands.
    let state = g.D.Disk.state in
    let at = c.batches in
    let limit = c.args.limit in
    let old = g.W.Write.contents c.args.out.now in
    let mid = g.W.Write.contents at.out in
    let Done = WhereFitting fs (HoldsOfFirst limit at.left (HasPrinted texts fs at.text old mid)) in
    let Again = WhereFitting fs (λ (rows : List ValueTrees). Appends old mid (row_lines texts fs (first_of limit rows))) in
    let Enough = WhereFitting fs (AreEnough limit) in
    let has = at.invariant.prints texts fs begun honest s stands in
    let over = c.in_ok-batch.ensures.acts ended (none_fetched_as c.in_ok-batch.field-0 c.in-None.is) (at.invariant.honest honest) has.last has.stands in
    ends state c.args.store.now at.store c.fetch_rows.new.self c.args.cursor Done Again Enough (Ok tt) s has ended over
    (all_fetched state c.args.store.now at.store c.args.cursor Done Again Enough s has (λ (bs : List Batch) done fit. (done fit).0.0))

pub batches-preserved : goal.batches-preserved
batches-preserved g c = record {
  prints = λ texts fs begun honest s stands.
      let state = g.D.Disk.state in
      let contents = g.W.Write.contents in
      let at = c.batches in
      let limit = c.args.limit in
      let old = contents c.args.out.now in
      let mid = contents at.out in
      let new = contents c.print_shown.new.out in
      let Has = HasPrinted texts fs at.text old mid in
      let Again = HasPrinted texts fs c.print_shown.new.text old new in
      let has = at.invariant.prints texts fs begun honest s stands in
      let f = c.in-Some.batch in
      let shown = rows_fetched c.in_ok-batch.field-0 f c.in-Some.is c.in_ok-batch.ensures.shown in
      let b : Batch = record { places = f.places.items; rows = shown.0 } in
      let given = c.in_ok-batch.ensures.acts (batch b) shown.2 (at.invariant.honest honest) has.last has.stands in
      let stood = c.in_ok-rows-in-Some.ensures.stands b.rows shown.1 in
      goes_on state c.args.store.now at.store c.fetch_rows.new.self c.args.cursor (WhereFitting fs (HoldsOfFirst limit at.left Has)) (WhereFitting fs (HoldsOfFirst limit c.fewer-left.result Again)) s has b given
      (fitting_more fs (HoldsOfFirst limit at.left Has) (HoldsOfFirst limit c.fewer-left.result Again) b (λ rows done fit.
      let one = c.in_ok-count-in-Some.ensures.printed texts fs b.rows done.0.1 stood fit in
      holds_more limit at.left c.fewer-left.result Has Again rows b.rows done (λ xs so_far. (printed_more texts fs xs (first_of at.left b.rows) old mid new so_far.0 one.written, one.again))
      (c.fewer-left.ensures ∙ ap (fewer at.left) one.many)));
  honest = λ honest. c.in_ok-batch.ensures.honest.0 (c.batches.invariant.honest honest);
  quiet = λ hidden. c.count_rows.ensures.quiet (c.batches.invariant.same ∙ hidden) ∙ c.batches.invariant.quiet hidden;
  same = c.count_rows.ensures.same ∙ c.batches.invariant.same;
}

pub returns-in_err-batch-clause-prints : goal.returns-in_err-batch-clause-prints
returns-in_err-batch-clause-prints g c = λ texts fs begun honest s stands.
    let at = c.batches in
    let limit = c.args.limit in
    let old = g.W.Write.contents c.args.out.now in
    let mid = g.W.Write.contents at.out in
    let has = at.invariant.prints texts fs begun honest s stands in
    let e = c.in_err-batch.field-0.0 in
    ends g.D.Disk.state c.args.store.now at.store c.fetch_rows.new.self c.args.cursor (WhereFitting fs (HoldsOfFirst limit at.left (HasPrinted texts fs at.text old mid)))
    (WhereFitting fs (λ (rows : List ValueTrees). Appends old mid (row_lines texts fs (first_of limit rows)))) (WhereFitting fs (AreEnough limit)) c.from_residual.result s has (refused e)
    (c.in_err-batch.ensures.acts (refused e) refl (at.invariant.honest honest) has.last has.stands) (err_then _ c.from_residual.result e c.from_residual.ensures.1)

pub returns-in_err-rows-in-Some-clause-prints : goal.returns-in_err-rows-in-Some-clause-prints
returns-in_err-rows-in-Some-clause-prints g c = λ texts fs begun honest s stands.
    let at = c.batches in
    let limit = c.args.limit in
    let old = g.W.Write.contents c.args.out.now in
    let mid = g.W.Write.contents at.out in
    let has = at.invariant.prints texts fs begun honest s stands in
    let f = c.in-Some.batch in
    let shown = rows_fetched c.in_ok-batch.field-0 f c.in-Some.is c.in_ok-batch.ensures.shown in
    let b : Batch = record { places = f.places.items; rows = shown.0 } in
    let given = c.in_ok-batch.ensures.acts (batch b) shown.2 (at.invariant.honest honest) has.last has.stands in
    ends g.D.Disk.state c.args.store.now at.store c.fetch_rows.new.self c.args.cursor (WhereFitting fs (HoldsOfFirst limit at.left (HasPrinted texts fs at.text old mid)))
    (WhereFitting fs (λ (rows : List ValueTrees). Appends old mid (row_lines texts fs (first_of limit rows)))) (WhereFitting fs (AreEnough limit)) c.from_residual-in_err-rows-in-Some.result s has (batch b) given
    (err_then _ c.from_residual-in_err-rows-in-Some.result c.in_err-rows-in-Some.field-0.0 c.from_residual-in_err-rows-in-Some.ensures.1)

pub returns-in_err-count-in-Some-clause-prints : goal.returns-in_err-count-in-Some-clause-prints
returns-in_err-count-in-Some-clause-prints g c = λ texts fs begun honest s stands.
    let at = c.batches in
    let limit = c.args.limit in
    let old = g.W.Write.contents c.args.out.now in
    let mid = g.W.Write.contents at.out in
    let new = g.W.Write.contents c.print_shown.new.out in
    let has = at.invariant.prints texts fs begun honest s stands in
    let f = c.in-Some.batch in
    let shown = rows_fetched c.in_ok-batch.field-0 f c.in-Some.is c.in_ok-batch.ensures.shown in
    let b : Batch = record { places = f.places.items; rows = shown.0 } in
    let given = c.in_ok-batch.ensures.acts (batch b) shown.2 (at.invariant.honest honest) has.last has.stands in
    ends g.D.Disk.state c.args.store.now at.store c.fetch_rows.new.self c.args.cursor (WhereFitting fs (HoldsOfFirst limit at.left (HasPrinted texts fs at.text old mid)))
    (WhereFitting fs (λ (rows : List ValueTrees). Appends old new (row_lines texts fs (first_of limit rows)))) (WhereFitting fs (AreEnough limit)) c.from_residual-in_err-count-in-Some.result s has (batch b) given
    (err_then _ c.from_residual-in_err-count-in-Some.result c.in_err-count-in-Some.field-0.0 c.from_residual-in_err-count-in-Some.ensures.1)

pub returns-clause-prints : goal.returns-clause-prints
returns-clause-prints g c = λ texts fs begun honest s stands.
    let at = c.batches in
    let old = g.W.Write.contents c.args.out.now in
    stops g.D.Disk.state c.args.store.now at.store c.args.cursor (WhereFitting fs (HoldsOfFirst c.args.limit at.left (HasPrinted texts fs at.text old (g.W.Write.contents at.out)))) _ _ (Err Limit) s (at.invariant.prints texts fs begun honest s stands) tt
