use Rattle.std.proofs.Common.{rules, ◌∙◌, ◌<◌, [], length, get_or, arith, refl, None}
use Rattle.schema.specs.Stripe.{entry}
use Rattle.assemble.specs.inner.Steps.{IsAbsentFaulty, IsSkipFaulty}
use Rattle.assemble.proofs.Skipping.{skip_step, skip_faulty}
use Rattle.assemble.proofs.Standing.{set_on, set_back, kept_at, causes_set, stand_get, stand_length, refused_at, refused_ok}
use Rattle.assemble.proofs.missing.skip.Goals as goal

pub returns-in_err-read_absent-clause-refused : goal.returns-in_err-read_absent-clause-refused
returns-in_err-read_absent-clause-refused g c =
    let S = g.S.EntrySource.stands in
    let R = g.S.EntrySource.refused in
    let old = c.args.sources.now in
    let xs = c.loop-i.sources in
    let i = c.loop-i.i in
    let r = c.args.place.repetition in
    let d = c.args.place.definition in
    let n = c.args.count in
    let x = c.index-sources-i.result in
    let y = c.read_absent.new.source in
    let e = c.in_err-read_absent.field-0.0 in
    let here : i < length xs = omega arith in
    refused_ok _ c.from_residual.result e c.from_residual.ensures.1
    (refused_at S R g.S.EntrySource.cause old xs i x y (IsAbsentFaulty r d) (IsSkipFaulty r d n) e here c.loop-i.invariant.kept c.loop-i.invariant.stay
    (λ cs s.
    let w = c.loop-i.invariant.onward cs s in
    let size = stand_length S xs w.0 w.1.0 in
    (get_or w.0 i [], (stand_get S xs w.0 i x here w.1.0, skip_faulty r d i n cs w.0 e (omega arith) (omega (arith, size, here)) w.1.1)))
    c.in_err-read_absent.ensures.refused)

pub returns-in_err-read_absent-clause-causes_stay : goal.returns-in_err-read_absent-clause-causes_stay
returns-in_err-read_absent-clause-causes_stay g c =
    let xs = c.loop-i.sources in
    let i = c.loop-i.i in
    let here : i < length xs = omega arith in
    λ e h. c.loop-i.invariant.stay e (causes_set g.S.EntrySource.cause xs i c.index-sources-i.result c.read_absent.new.source here c.read_absent.ensures.causes_stay e h)

pub loop-i-preserved : goal.loop-i-preserved
loop-i-preserved g c =
    let S = g.S.EntrySource.stands in
    let xs = c.loop-i.sources in
    let i = c.loop-i.i in
    let x = c.index-sources-i.result in
    let y = c.read_absent.new.source in
    let r = c.args.place.repetition in
    let d = c.args.place.definition in
    let here : i < length xs = omega arith in
    let taken = c.in_ok-read_absent.ensures.first in
    record {
      kept = kept_at g.S.EntrySource.refused xs i x y here c.in_ok-read_absent.ensures.kept ∙ c.loop-i.invariant.kept;
      stay = λ e h. c.loop-i.invariant.stay e (causes_set g.S.EntrySource.cause xs i x y here c.read_absent.ensures.causes_stay e h);
      size = search rules;
      onward = λ cs s.
          let w = c.loop-i.invariant.onward cs s in
          let v = set_on S (entry r d None) xs i x y here taken w.0 w.1.0 in
          (v.0, (v.1.0, skip_step r d i cs w.0 v.0 w.1.1 v.1.1));
      backward = λ ds s.
          let v = set_back S (entry r d None) xs i x y here taken ds s in
          let w = c.loop-i.invariant.backward v.0 v.1.0 in
          (w.0, (w.1.0, skip_step r d i w.0 v.0 ds w.1.1 v.1.1));
    }

pub loop-i-init : goal.loop-i-init
loop-i-init g c = record { kept = refl; stay = λ _ h. h; size = search rules; onward = λ cs s. (cs, (s, refl)); backward = λ cs s. (cs, (s, refl)) }
