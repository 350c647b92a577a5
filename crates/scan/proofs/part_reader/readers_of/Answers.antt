use Rattle.std.proofs.Common.{[], ◌∷◌, map, length, ap, ◌∙◌, arith}
use Rattle.std.proofs.lemmas.List.{length-append}
use Rattle.scan.specs.Left.{piece_at}
use Rattle.scan.proofs.Passages.{only_on}
use Rattle.scan.proofs.Pieces.{there_is, one_reader_more, no_readers}
use Rattle.scan.proofs.part_reader.readers_of.Goals as goal

pub loop-part-init : goal.loop-part-init
loop-part-init c = record { many = ap length c.in_ok-readers.ensures.items; stand = λ rows hold. no_readers rows c.in_ok-readers.readers.items c.in_ok-readers.ensures.items }

pub returns-in_err-reader_of-clause-only : goal.returns-in_err-reader_of-clause-only
returns-in_err-reader_of-clause-only c rows hold =
    let i = c.loop-part.part-index in
    let there = there_is c.args.parts.now i c.part-item.result c.loop-part-test.true c.part-item.is in
    only_on (λ _. ⊥) c.from_residual-in_err-reader_of.result c.in_err-reader_of.field-0.0 c.from_residual-in_err-reader_of.ensures.1
    (c.in_err-reader_of.ensures.only (map (piece_at i) rows) (hold i c.part-item.result there))

pub loop-part-preserved : goal.loop-part-preserved
loop-part-preserved c =
    let i = c.loop-part.part-index in
    let there = there_is c.args.parts.now i c.part-item.result c.loop-part-test.true c.part-item.is in
    let put = c.in_ok-push.ensures.items in
    let many = c.loop-part.invariant.many in
    record {
      many = ap length put ∙ (let l = length-append c.loop-part.readers.items (c.in_ok-reader_of.field-0 ∷ []) in omega (arith, l, many));
      stand = λ rows hold.
          one_reader_more c.loop-part.readers.items c.in_ok-reader_of.field-0 c.push.new.self.items i rows put many (c.loop-part.invariant.stand rows hold)
          (c.in_ok-reader_of.ensures.stands (map (piece_at i) rows) (hold i c.part-item.result there));
    }

pub returns-clause-stands : goal.returns-clause-stands
returns-clause-stands c rows hold = c.loop-part.invariant.stand rows hold

pub returns-clause-as_many : goal.returns-clause-as_many
returns-clause-as_many c =
    let many = c.loop-part.invariant.many in
    let end = c.loop-part-test.false in
    let few = c.loop-part.auto.part-index-end in
    omega (arith, many, end, few)
