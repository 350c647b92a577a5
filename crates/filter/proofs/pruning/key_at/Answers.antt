use Rattle.std.proofs.Common.{sym, ◌∙◌}
use Rattle.schema.specs.declared.value.Value.{Value}
use Rattle.schema.specs.declared.value.Value as value
use Rattle.filter.proofs.Keys.{key_at-drop}
use Rattle.filter.proofs.pruning.key_at.Goals as goal

pub loop-i-preserved : goal.loop-i-preserved
loop-i-preserved c = sym (key_at-drop c.args.keys.now c.args.key.now c.loop-i.i c.args.place c.index-keys-i.result value.Null c.loop-i-test.true c.if-i-key.false c.index-keys-i.is c.if-column-place.false) ∙ c.loop-i.invariant
