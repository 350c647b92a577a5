use Rattle.std.proofs.Common.{map}
use Rattle.std.proofs.lemmas.Result.{on_ok_weaker}
use Rattle.plain.proofs.Written.{values_total, values_written, values_padding, values_size, booleans_written, booleans_padding, booleans_size}
use Rattle.plain.proofs.writing.encode_fitting.Goals as goal

pub put_values-requires-clause-size : goal.put_values-requires-clause-size
put_values-requires-clause-size g c =
    rw (values_total c.args.kind (map g.V.Lends.lent c.args.values.now) c.in_default.not-Boolean c.requires.of_kind c.requires.within_limits) c.requires.size

pub returns-in-Boolean-clause-stands : goal.returns-in-Boolean-clause-stands
returns-in-Boolean-clause-stands g c =
    rw c.in-Boolean.is (on_ok_weaker c.put_booleans.result (booleans_written (map g.V.Lends.lent c.args.values.now) c.args.out.now.items c.put_booleans.new.out.items (rw c.in-Boolean.is at c.requires.of_kind)) c.put_booleans.ensures.stands)

pub returns-in-Boolean-clause-padding : goal.returns-in-Boolean-clause-padding
returns-in-Boolean-clause-padding g c =
    rw c.in-Boolean.is (on_ok_weaker c.put_booleans.result (booleans_padding (map g.V.Lends.lent c.args.values.now) c.args.out.now.items c.put_booleans.new.out.items) c.put_booleans.ensures.stands)

pub returns-in-Boolean-clause-size : goal.returns-in-Boolean-clause-size
returns-in-Boolean-clause-size g c =
    rw c.in-Boolean.is (on_ok_weaker c.put_booleans.result (booleans_size (map g.V.Lends.lent c.args.values.now) c.args.out.now.items c.put_booleans.new.out.items) c.put_booleans.ensures.stands)

pub returns-in_default-clause-stands : goal.returns-in_default-clause-stands
returns-in_default-clause-stands g c =
    on_ok_weaker c.put_values.result (values_written c.args.kind (map g.V.Lends.lent c.args.values.now) c.args.out.now.items c.put_values.new.out.items c.in_default.not-Boolean c.requires.of_kind c.requires.within_limits) c.put_values.ensures.stands

pub returns-in_default-clause-padding : goal.returns-in_default-clause-padding
returns-in_default-clause-padding g c =
    on_ok_weaker c.put_values.result (values_padding c.args.kind (map g.V.Lends.lent c.args.values.now) c.args.out.now.items c.put_values.new.out.items c.in_default.not-Boolean c.requires.of_kind c.requires.within_limits) c.put_values.ensures.stands

pub returns-in_default-clause-size : goal.returns-in_default-clause-size
returns-in_default-clause-size g c =
    on_ok_weaker c.put_values.result (values_size c.args.kind (map g.V.Lends.lent c.args.values.now) c.args.out.now.items c.put_values.new.out.items c.in_default.not-Boolean c.requires.of_kind c.requires.within_limits) c.put_values.ensures.stands
