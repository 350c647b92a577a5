use Rattle.std.proofs.Common.{sym, ◌∙◌, arith}
use Rattle.valuetext.proofs.DecimalTexts.{place_on, place_at, no_place}
use Rattle.valuetext.proofs.decimals.places_in.Goals as goal

pub returns-then-byte-eq46 : goal.returns-then-byte-eq46
returns-then-byte-eq46 c =
    sym (place_at c.loop-i.i c.args.text.now (omega arith) c.if-byte-eq46.true) ∙ c.loop-i.invariant

pub loop-i-preserved : goal.loop-i-preserved
loop-i-preserved c =
    sym (place_on c.loop-i.i c.args.text.now (omega arith) c.if-byte-eq46.false) ∙ c.loop-i.invariant

pub returns : goal.returns
returns c =
    sym (no_place c.loop-i.i c.args.text.now (omega arith)) ∙ c.loop-i.invariant
