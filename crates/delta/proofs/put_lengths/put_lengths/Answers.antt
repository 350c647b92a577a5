use Rattle.std.proofs.Common.{◌≡◌, ℕ, List, ◌++◌, ◌∙◌, map, take, ap, sym, append_assoc}
use Rattle.std.specs.List.{concat}
use Rattle.std.proofs.lemmas.List.{take_all}
use Rattle.delta.specs.inner.Put.{text_of}
use Rattle.delta.proofs.Joining.{joined_more, lengths_written}
use Rattle.delta.proofs.WrittenBytes.{written_lengths}
use Rattle.delta.proofs.put_lengths.put_lengths.Goals as goal

pub loop-value-preserved : goal.loop-value-preserved
loop-value-preserved g c =
    let lent = g.V.Lends.lent in
    let mid = c.encode_i32.new.out.items in
    let i = c.loop-value.value-index in
    let done = concat (map text_of (map lent (take i c.args.values.now))) in
    let item = lent c.value-item.result in
    let text = c.bytes_of.result.now in
    let put = c.in_ok-extend_from_slice.ensures.items in
    let front = c.loop-value.invariant.front in
    record {
      joined = put ∙ ap (λ (t : List ℕ). t ++ text) c.loop-value.invariant.joined ∙ append_assoc mid done text ∙ ap (λ (t : List ℕ). mid ++ (done ++ t)) c.bytes_of.ensures
          ∙ ap (λ (t : List ℕ). mid ++ t) (sym (joined_more lent c.args.values.now i c.value-item.result c.loop-value-test.true c.value-item.is));
      front = (front.0 ++ text, put ∙ ap (λ (t : List ℕ). t ++ text) front.1 ∙ append_assoc c.args.out.now.items front.0 text);
    }

pub returns-clause-stands : goal.returns-clause-stands
returns-clause-stands g c =
    let lent = g.V.Lends.lent in
    let values = c.args.values.now in
    let whole : take c.loop-value.value-index values ≡ values = take_all c.loop-value.value-index values c.loop-value-test.false in
    lengths_written (map lent values) c.args.lengths.now c.args.out.now.items c.encode_i32.new.out.items c.loop-value.out.items c.requires.kind c.requires.lengths c.in_ok-encode_i32.ensures.stands
    (c.loop-value.invariant.joined ∙ ap (λ t. c.encode_i32.new.out.items ++ concat (map text_of (map lent t))) whole)

pub returns-clause-written : goal.returns-clause-written
returns-clause-written g c =
    let lent = g.V.Lends.lent in
    let values = c.args.values.now in
    let whole : take c.loop-value.value-index values ≡ values = take_all c.loop-value.value-index values c.loop-value-test.false in
    written_lengths (map lent values) c.args.lengths.now c.args.out.now.items c.encode_i32.new.out.items c.loop-value.out.items c.requires.kind c.requires.lengths c.in_ok-encode_i32.ensures.written
    (c.loop-value.invariant.joined ∙ ap (λ t. c.encode_i32.new.out.items ++ concat (map text_of (map lent t))) whole)
