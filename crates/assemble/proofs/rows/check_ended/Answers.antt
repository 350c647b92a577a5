use Rattle.std.proofs.Common.{rules, ◌∙◌, ◌<◌, length, get_or, arith, [], inr, refl}
use Rattle.std.proofs.Math.ListN.{set}
use Rattle.assemble.specs.Columns.{Tells}
use Rattle.assemble.specs.inner.Steps.{Filled}
use Rattle.assemble.proofs.Standing.{same_self, same_then, same_set, same_at, kept_at, causes_set, stand_on, stand_get, stand_length, refused_ok, peek_refused}
use Rattle.assemble.proofs.Told.{memory_only}
use Rattle.assemble.proofs.Ending.{ended_step, filled_at, shows_some, shows_none}
use Rattle.assemble.proofs.rows.check_ended.Goals as goal

pub returns-in_err-peek-clause-refused : goal.returns-in_err-peek-clause-refused
returns-in_err-peek-clause-refused g c =
    let S = g.S.EntrySource.stands in
    let R = g.S.EntrySource.refused in
    let old = c.args.sources.now in
    let xs = c.loop-i.sources in
    let i = c.loop-i.i in
    let x = c.index-sources-i.result in
    let y = c.peek.new.self in
    let e = c.in_err-peek.field-0.0 in
    let here : i < length xs = omega arith in
    refused_ok _ c.from_residual.result e c.from_residual.ensures.1
    (peek_refused S R g.S.EntrySource.cause old xs i x y (λ cs. Tells (Filled cs) ⊥) e here c.loop-i.invariant.kept c.loop-i.invariant.stay (λ cs s. stand_on S old xs cs c.loop-i.invariant.same s) (λ cs. memory_only (Filled cs) ⊥ e) c.in_err-peek.ensures.shows c.in_err-peek.ensures.stays.1 c.in_err-peek.ensures.caused)

pub returns-in_err-peek-clause-same : goal.returns-in_err-peek-clause-same
returns-in_err-peek-clause-same g c =
    let S = g.S.EntrySource.stands in
    let xs = c.loop-i.sources in
    let here : c.loop-i.i < length xs = omega arith in
    same_then S c.args.sources.now xs (set xs c.loop-i.i c.peek.new.self) c.loop-i.invariant.same (same_set S xs c.loop-i.i c.index-sources-i.result c.peek.new.self here c.in_err-peek.ensures.stays.0)

pub returns-then-is_some-clause-refused : goal.returns-then-is_some-clause-refused
returns-then-is_some-clause-refused g c =
    let S = g.S.EntrySource.stands in
    let old = c.args.sources.now in
    let xs = c.loop-i.sources in
    let i = c.loop-i.i in
    let here : i < length xs = omega arith in
    let at = shows_some (S (get_or xs i c.index-sources-i.result)) _ c.in_ok-peek.field-0 c.if-is_some.ensures c.in_ok-peek.ensures.shows in
    inr (
      kept_at g.S.EntrySource.refused xs i c.index-sources-i.result c.peek.new.self here c.in_ok-peek.ensures.stays.1 ∙ c.loop-i.invariant.kept,
      (
        tt,
        λ cs s.
            let now = stand_on S old xs cs c.loop-i.invariant.same s in
            let size = stand_length S xs cs now in
            filled_at cs i at.0 at.1.0 (omega (arith, here, size)) (at.1.1 (get_or cs i []) (stand_get S xs cs i c.index-sources-i.result here now)),
      ),
    )

pub returns-then-is_some-clause-same : goal.returns-then-is_some-clause-same
returns-then-is_some-clause-same g c =
    let S = g.S.EntrySource.stands in
    let xs = c.loop-i.sources in
    let here : c.loop-i.i < length xs = omega arith in
    same_then S c.args.sources.now xs (set xs c.loop-i.i c.peek.new.self) c.loop-i.invariant.same (same_set S xs c.loop-i.i c.index-sources-i.result c.peek.new.self here c.in_ok-peek.ensures.stays.0)

pub loop-i-preserved : goal.loop-i-preserved
loop-i-preserved g c =
    let S = g.S.EntrySource.stands in
    let old = c.args.sources.now in
    let xs = c.loop-i.sources in
    let i = c.loop-i.i in
    let x = c.index-sources-i.result in
    let y = c.peek.new.self in
    let size = c.loop-i.invariant.size in
    let here : i < length xs = omega arith in
    let before : i < length old = omega (arith, size, here) in
    let none = shows_none (S (get_or xs i x)) _ c.in_ok-peek.field-0 c.if-is_some.ensures c.in_ok-peek.ensures.shows in
    record {
      same = same_then S old xs (set xs i y) c.loop-i.invariant.same (same_set S xs i x y here c.in_ok-peek.ensures.stays.0);
      done = ended_step S old x i before ((same_at S old xs i x x before c.loop-i.invariant.same).1 [] none) c.loop-i.invariant.done;
      kept = kept_at g.S.EntrySource.refused xs i x y here c.in_ok-peek.ensures.stays.1 ∙ c.loop-i.invariant.kept;
      stay = λ e h. c.loop-i.invariant.stay e (causes_set g.S.EntrySource.cause xs i x y here c.peek.ensures.causes_stay e h);
      size = search rules;
    }

pub loop-i-init : goal.loop-i-init
loop-i-init g c = record { same = same_self g.S.EntrySource.stands c.args.sources.now; done = tt; kept = refl; stay = λ _ h. h; size = refl }

pub returns-in_err-peek-clause-causes_stay : goal.returns-in_err-peek-clause-causes_stay
returns-in_err-peek-clause-causes_stay g c =
    let xs = c.loop-i.sources in
    let here : c.loop-i.i < length xs = omega arith in
    λ e h. c.loop-i.invariant.stay e (causes_set g.S.EntrySource.cause xs c.loop-i.i c.index-sources-i.result c.peek.new.self here c.peek.ensures.causes_stay e h)

pub returns-then-is_some-clause-causes_stay : goal.returns-then-is_some-clause-causes_stay
returns-then-is_some-clause-causes_stay g c =
    let xs = c.loop-i.sources in
    let here : c.loop-i.i < length xs = omega arith in
    λ e h. c.loop-i.invariant.stay e (causes_set g.S.EntrySource.cause xs c.loop-i.i c.index-sources-i.result c.peek.new.self here c.peek.ensures.causes_stay e h)
