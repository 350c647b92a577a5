use Rattle.std.proofs.lemmas.Bool.{eqb-true}
use Rattle.rowtext.proofs.LaneTests.{all_between}
use Rattle.rowtext.proofs.hex_digits.are_lower_digits.Goals as goal

pub returns : goal.returns
returns c = λ held. all_between c.args.digits.now c.digits_front.result (eqb-true _ _ held) c.digits_front.ensures.digits
