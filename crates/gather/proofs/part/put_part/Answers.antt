use Rattle.std.proofs.Common.{rules, ◌≡◌, ◌<◌, ◌≤◌, false, nat_eq, List, length, set, ap, sym, subst, ◌∙◌, arith}
use Rattle.std.specs.List.{All}
use Rattle.std.proofs.lemmas.List.{length-map, take_all}
use Rattle.std.proofs.lemmas.List.Elements.{All-more}
use Rattle.schema.specs.Borrowed.{value_ref_view}
use Rattle.schema.specs.Values.{ValueTree}
use Rattle.gather.specs.Parts.{part_view, parts_view, kept_value, put_at}
use Rattle.gather.proofs.CutTokens.{put_none}
use Rattle.gather.proofs.PutParts.{IsElsewhere, places, among_found, put_found, put_short, among_none, set_part}
use Rattle.gather.proofs.part.put_part.Goals as goal

pub returns-in_ok-set-clause-is : goal.returns-in_ok-set-clause-is
returns-in_ok-set-clause-is c = sym (among_found c.args.columns.now c.args.place c.loop-i.i c.index-columns-i.result (omega (arith, c.loop-i-test.true)) c.index-columns-i.is (omega (arith, c.if-column-place.true)))

pub returns-in_ok-set-clause-put : goal.returns-in_ok-set-clause-put
returns-in_ok-set-clause-put c =
    let columns = c.args.columns.now in
    let items = c.loop-i.parts.items in
    let key = parts_view items in
    let v = kept_value (value_ref_view c.args.value) in
    let size = length-map items part_view in
    let long : c.loop-i.i < length key = omega (arith, c.if-i-len.true, c.len.ensures, size) in
    set_part items c.loop-i.i c.set.new.self
    ∙ ap (λ (w : ValueTree). set key c.loop-i.i w) c.in_ok-set.ensures.set
    ∙ sym (put_found columns c.args.place v c.loop-i.i c.index-columns-i.result key (omega (arith, c.loop-i-test.true)) c.index-columns-i.is (omega (arith, c.if-column-place.true)) c.loop-i.invariant.other long)
    ∙ ap (λ (k : List ValueTree). put_at (places columns) c.args.place v k) c.loop-i.invariant.same

pub returns-else-i-len-clause-is : goal.returns-else-i-len-clause-is
returns-else-i-len-clause-is c = sym (among_found c.args.columns.now c.args.place c.loop-i.i c.index-columns-i.result (omega (arith, c.loop-i-test.true)) c.index-columns-i.is (omega (arith, c.if-column-place.true)))

pub returns-else-i-len-clause-put : goal.returns-else-i-len-clause-put
returns-else-i-len-clause-put c =
    let columns = c.args.columns.now in
    let items = c.loop-i.parts.items in
    let key = parts_view items in
    let v = kept_value (value_ref_view c.args.value) in
    let size = length-map items part_view in
    let short : length key ≤ c.loop-i.i = omega (arith, c.if-i-len.false, c.len.ensures, size) in
    sym (put_short columns c.args.place v c.loop-i.i key c.loop-i.invariant.other short)
    ∙ ap (λ (k : List ValueTree). put_at (places columns) c.args.place v k) c.loop-i.invariant.same

pub loop-i-preserved : goal.loop-i-preserved
loop-i-preserved c =
    let columns = c.args.columns.now in
    let column = c.index-columns-i.result in
    let elsewhere : nat_eq column.at c.args.place ≡ false = search rules in
    record {
      other = All-more (IsElsewhere c.args.place) columns c.loop-i.i column (omega (arith, c.loop-i-test.true)) c.loop-i.invariant.other (subst (IsElsewhere c.args.place) c.index-columns-i.is elsewhere);
      same = c.loop-i.invariant.same;
    }

pub returns-clause-is : goal.returns-clause-is
returns-clause-is c =
    let columns = c.args.columns.now in
    sym (among_none columns c.args.place (subst (All (IsElsewhere c.args.place)) (take_all c.loop-i.i columns (omega (arith, c.loop-i-test.false))) c.loop-i.invariant.other))

pub returns-clause-put : goal.returns-clause-put
returns-clause-put c =
    let columns = c.args.columns.now in
    let v = kept_value (value_ref_view c.args.value) in
    let none = among_none columns c.args.place (subst (All (IsElsewhere c.args.place)) (take_all c.loop-i.i columns (omega (arith, c.loop-i-test.false))) c.loop-i.invariant.other) in
    sym (put_none (places columns) c.args.place v (parts_view c.loop-i.parts.items) none)
    ∙ ap (λ (k : List ValueTree). put_at (places columns) c.args.place v k) c.loop-i.invariant.same
