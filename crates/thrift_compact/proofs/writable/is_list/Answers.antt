use Rattle.std.proofs.Common.{rules, ◌^◌, ◌<◌, length}
use Rattle.thrift_compact.proofs.Passed.{list_told}
use Rattle.thrift_compact.proofs.writable.is_list.Goals as goal

pub returns : goal.returns
returns c =
    let small : length c.args.nodes.now < 2 ^ 64 = search rules in
    list_told c.args.code c.args.nodes.now small
