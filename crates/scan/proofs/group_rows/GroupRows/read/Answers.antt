use Rattle.schema.specs.Keys.{key_columns_view}
use Rattle.filter.specs.Test.{tests_in}
use Rattle.manifest.specs.Groups.{group_view}
use Rattle.scan.proofs.Reading.{ruled_out}
use Rattle.scan.proofs.group_rows.GroupRows.read.Goals as goal

pub returns-then-ruled_out-clause-stands : goal.returns-then-ruled_out-clause-stands
returns-then-ruled_out-clause-stands g c honest over are rows h p decides =
    let tests = tests_in c.args.filter.now in
    let out = c.ruled_out.ensures.0 c.if-ruled_out.true in
    ruled_out tests c.args.places.now rows (c.ruled_out_groups_hold_none.ensures (key_columns_view c.args.keys.now) c.args.schema.now (group_view c.args.group.now) h.bytes rows tests are over h.is h.means out) p decides

pub returns-then-ruled_out-clause-absent : goal.returns-then-ruled_out-clause-absent
returns-then-ruled_out-clause-absent g c honest over are lacks =
    let out = c.ruled_out.ensures.0 c.if-ruled_out.true in record {
      filtered = out.0;
      none = λ bytes rows means. c.ruled_out_groups_hold_none.ensures (key_columns_view c.args.keys.now) c.args.schema.now (group_view c.args.group.now) bytes rows (tests_in c.args.filter.now) are over lacks.is means out;
    }
