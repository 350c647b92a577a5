use Rattle.std.proofs.Common.{◌++◌, ◌∷◌, [], refl, sym, ◌∙◌}
use Rattle.schema.specs.Keys.{key_columns_view}
use Rattle.gather.proofs.FirstFaults.{counted_more, split_same, fault_more}
use Rattle.gather.proofs.key_buffers.KeyBuffers.take.Goals as goal

pub returns-then-is_some-clause-taken : goal.returns-then-is_some-clause-taken
returns-then-is_some-clause-taken c = λ rows values taken cut. record {
  counted = counted_more rows values c.args.self.now.count c.in-Some.next taken.counted c.in-Some.ensures.1;
  split = fault_more (key_columns_view c.args.columns.now) c.args.self.now _ rows values c.args.self.now.fault (sym c.is_some.ensures ∙ c.if-is_some.true) taken.split;
}

pub returns-clause-taken : goal.returns-clause-taken
returns-clause-taken c = λ rows values taken cut. record {
  counted = counted_more rows values c.args.self.now.count c.in-Some.next taken.counted c.in-Some.ensures.1;
  split = split_same (key_columns_view c.args.columns.now) c.put.new.self _ (rows ++ values ∷ []) c.put.new.self.fault refl refl refl refl refl (c.in_ok-put.ensures.put rows values taken cut);
}
