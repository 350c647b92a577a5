use Rattle.std.proofs.Common.{sym, nat_eq, length}
use Rattle.lists.proofs.Booleans.{and_true}
use Rattle.schema.proofs.Texts.{all_bytes}
use Rattle.schema.proofs.value_checks.has_length.Goals as goal

pub returns-in-None : goal.returns-in-None
returns-in-None c = rw (c.in-None.is, all_bytes _ c.type_inv.bytes)

pub returns-in-Some : goal.returns-in-Some
returns-in-Some c = rw (c.from.ensures, c.in-Some.is, all_bytes _ c.type_inv.bytes) (sym (and_true (nat_eq (length c.args.bytes.now) c.in-Some.wanted)))
