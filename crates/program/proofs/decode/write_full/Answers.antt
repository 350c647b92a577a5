use Rattle.std.proofs.Common.{[], sym, ◌∙◌}
use Rattle.std.proofs.lemmas.List.{append-nil}
use Rattle.program.proofs.decode.write_full.Goals as goal

pub returns-clause-stands : goal.returns-clause-stands
returns-clause-stands g c = λ texts fs lines begun. record {
  part = c.lines-2.result.now;
  kept = [];
  split = sym (c.lines-2.ensures.lines_as texts fs lines begun) ∙ sym (append-nil c.lines-2.result.now);
  written = c.in_ok-write_text.ensures.stands;
  gathers = c.clear_lines.ensures.again_as texts fs lines begun;
}
