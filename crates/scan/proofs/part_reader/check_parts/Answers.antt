use Rattle.std.proofs.Common.{map, ◌∙◌, arith}
use Rattle.std.proofs.lemmas.List.{length-map}
use Rattle.scan.specs.Left.{piece_at}
use Rattle.scan.proofs.Passages.{only_on}
use Rattle.scan.proofs.Pieces.{there_is}
use Rattle.scan.proofs.SideBySide.{no_part, one_part_more, all_parts}
use Rattle.scan.proofs.part_reader.check_parts.Goals as goal

pub returns-in_err-check_part-clause-only : goal.returns-in_err-check_part-clause-only
returns-in_err-check_part-clause-only c rows hold size =
    let i = c.loop-part.part-index in
    let there = there_is c.args.parts.now i c.part-item.result c.loop-part-test.true c.part-item.is in
    only_on (λ _. ⊥) c.from_residual.result c.in_err-check_part.field-0.0 c.from_residual.ensures.1
    (c.in_err-check_part.ensures.only (map (piece_at i) rows) (hold i c.part-item.result there) (length-map rows (piece_at i) ∙ size))

pub loop-part-init : goal.loop-part-init
loop-part-init c = no_part c.args.held.now c.args.parts.now c.args.count

pub loop-part-preserved : goal.loop-part-preserved
loop-part-preserved c =
    let i = c.loop-part.part-index in
    let there = there_is c.args.parts.now i c.part-item.result c.loop-part-test.true c.part-item.is in
    let held = c.in_ok-check_part.ensures.accepts in
    one_part_more c.args.held.now c.args.parts.now c.args.count i c.loop-part.invariant c.part-item.result there held.0 held.1 held.2

pub returns-clause-accepts : goal.returns-clause-accepts
returns-clause-accepts c =
    let end = c.loop-part-test.false in
    all_parts c.args.held.now c.args.parts.now c.args.count c.loop-part.part-index (omega (arith, end)) c.loop-part.invariant

pub check_part-requires : goal.check_part-requires
check_part-requires c = record { cut = c.requires.cut c.loop-part.part-index c.part-item.result (there_is c.args.parts.now c.loop-part.part-index c.part-item.result c.loop-part-test.true c.part-item.is) }
