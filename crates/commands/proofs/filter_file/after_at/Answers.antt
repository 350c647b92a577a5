use Rattle.std.proofs.Common.{arith}
use Rattle.std.proofs.lemmas.Str.Pattern.{strip_prefix_char}
use Rattle.commands.proofs.FilterNamed.{after_at-from}
use Rattle.commands.proofs.filter_file.after_at.Goals as goal

pub returns : goal.returns
returns c = after_at-from c.args.text.now c.strip_prefix.result (strip_prefix_char 64 c.args.text.now c.strip_prefix.result c.strip_prefix.ensures.cases (omega arith))
