use Rattle.std.proofs.Common.{arith}
use Rattle.valuetext.proofs.DecimalTexts.{put_one, put_none}
use Rattle.valuetext.proofs.decimals.+put_places.Goals as goal

pub returns-then-places-eq0 : goal.returns-then-places-eq0
returns-then-places-eq0 t c = put_none c.args.places c.args.rest _ c.if-places-eq0.true

pub returns : goal.returns
returns t c =
    put_one c.args.places c.args.rest c.split_digit-digit.result.0 c.split_digit-digit.result.1 _ _ _ (omega arith) c.split_digit-digit.ensures.digit.0 c.split_digit-digit.ensures.left.0 c.push_byte.ensures.text c.put_places.ensures
