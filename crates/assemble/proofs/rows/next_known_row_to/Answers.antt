use Rattle.std.proofs.Common.{◌≡◌, length, ap, sym, subst, ◌∙◌, arith}
use Rattle.std.proofs.lemmas.List.{length-map}
use Rattle.schema.specs.Stripe.{leaves_of}
use Rattle.schema.specs.Views.{field_views, leaf_view}
use Rattle.schema.specs.Reading.{count_leaves_each, tallest}
use Rattle.schema.proofs.CutSteps.{counts_are}
use Rattle.assemble.specs.Sinks.{Visits, tokens_each}
use Rattle.assemble.specs.Standing.{IsRefusedFor}
use Rattle.assemble.specs.inner.Fronts.{FitEach, stripes_each, wants_each}
use Rattle.assemble.specs.inner.ReadValues.{IsFaulty, Reads}
use Rattle.assemble.proofs.KnownRow.{only_memory, one_each}
use Rattle.assemble.proofs.RowByRow.{has_leaves, is_first_row, row_front}
use Rattle.assemble.proofs.rows.next_known_row_to.Goals as goal

pub read_fields-requires-clause-room : goal.read_fields-requires-clause-room
read_fields-requires-clause-room g c =
    let fs = c.args.schema.now in
    let count : length c.leaves.result.now ≡ length (leaves_of fs) = sym (length-map c.leaves.result.now leaf_view) ∙ ap length c.leaves.ensures.leaves_are in
    let all : count_leaves_each (field_views c.fields.result.now) ≡ length (leaves_of fs) = ap count_leaves_each c.fields.ensures ∙ counts_are 0 fs in
    omega (arith, count, all)

pub read_fields-requires-clause-deep : goal.read_fields-requires-clause-deep
read_fields-requires-clause-deep g c =
    let fs = c.args.schema.now in
    let is : tallest (field_views c.fields.result.now) ≡ tallest fs = ap tallest c.fields.ensures in
    let deep = c.leaves.ensures.shallow in
    omega (arith, is, deep)

pub returns-then-sources-leaves-clause-known : goal.returns-then-sources-leaves-clause-known
returns-then-sources-leaves-clause-known g c = λ rows stand more.
    let fs = c.args.schema.now in
    let count : length c.leaves.result.now ≡ length (leaves_of fs) = sym (length-map c.leaves.result.now leaf_view) ∙ ap length c.leaves.ensures.leaves_are in
    let each = one_each g.S.EntrySource.stands g.S.EntrySource.refused g.S.EntrySource.cause fs c.args.sources.now rows stand in
    let other = c.if-sources-leaves.true in
    absurd (other (omega (arith, count, each)))

pub returns-in-Err-clause-known : goal.returns-in-Err-clause-known
returns-in-Err-clause-known g c = λ rows stand more.
    let S = g.S.EntrySource.stands in
    let R = g.S.EntrySource.refused in
    let fs = c.args.schema.now in
    let old = c.args.sources.now in
    let new = c.read_fields.new.sources in
    let e = c.in-Err.refusal in
    let told = subst (λ gs. IsRefusedFor S R g.S.EntrySource.cause old new (IsFaulty (FitEach gs) (stripes_each gs 0 0 0) 0 (wants_each gs 0)) e) c.fields.ensures c.in-Err.ensures.refused in
    c.fault_for.ensures (only_memory S R g.S.EntrySource.cause fs (has_leaves fs c.leaves.ensures.valid) old new e told rows stand more)

pub returns-in-Ok-clause-row : goal.returns-in-Ok-clause-row
returns-in-Ok-clause-row g c =
    let S = g.S.EntrySource.stands in
    let fs = c.args.schema.now in
    let old = c.args.sources.now in
    let new = c.read_fields.new.sources in
    let found = subst (λ gs. Visits (g.K.RowSink.shows c.args.sink.now) (g.K.RowSink.shows c.read_fields.new.sink) tokens_each (Reads S (FitEach gs) (stripes_each gs 0 0 0) 0 old new)) c.fields.ensures c.in-Ok.ensures.reads in
    let row = found.0 in
    let read = found.1.0 in (
      row,
      (
        (
          (read.fits, tt),
          (
            λ cs s. let w = read.onward cs s in (w.0, (w.1.0, is_first_row fs (has_leaves fs c.leaves.ensures.valid) cs w.0 row w.1.1)),
            λ ds s. let w = read.backward ds s in (w.0, (w.1.0, row_front fs row w.0 ds read.fits w.1.1)),
          ),
        ),
        found.1.1,
      ),
    )
