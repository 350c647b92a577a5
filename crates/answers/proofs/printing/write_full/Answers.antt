use Rattle.answers.proofs.GatheredLines.{all_written}
use Rattle.answers.proofs.printing.write_full.Goals as goal

pub returns-clause-gathered : goal.returns-clause-gathered
returns-clause-gathered g c = λ texts fs rows old p.
    let contents = g.W.Write.contents in
    all_written texts fs rows c.args.text.now c.clear_lines.new.self old (contents c.args.out.now) (contents c.write_text.new.out) c.lines-2.result.now p
    (c.lines-2.ensures.lines_as texts fs p.gathered p.gathers) c.in_ok-write_text.ensures.written (c.clear_lines.ensures.again_as texts fs p.gathered p.gathers)
