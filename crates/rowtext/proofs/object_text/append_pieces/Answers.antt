use Rattle.std.proofs.Common.{◌+◌, ◌-◌, ◌≤◌, ◌++◌, take, drop, flat_map, sym, subst, ◌∙◌}
use Rattle.std.proofs.lemmas.List.{drop_more}
use Rattle.rowtext.specs.inner.Levels.{piece}
use Rattle.rowtext.proofs.Sorting.{same_between, still_begins, member_added}
use Rattle.rowtext.proofs.object_text.append_pieces.Goals as goal

pub loop-index-preserved : goal.loop-index-preserved
loop-index-preserved c =
    let old = c.args.text.now.items in
    let now = c.loop-index.text.items in
    let new = c.extend_within.new.self.items in
    let order = c.args.order.now in
    let i = c.loop-index.index-index in
    let begins = c.loop-index.invariant.begins in
    let within = c.in-Some.ensures.within in
    let member = same_between old now c.in-Some.start c.in-Some.end begins within.0 (subst (λ n. c.in-Some.end ≤ n) c.len-len.ensures within.1) in
    record {
      pieces = member_added (piece old c.args.starts.now) now new (take (c.in-Some.end - c.in-Some.start) (drop c.in-Some.start now)) (old ++ flat_map (piece old c.args.starts.now) order) _ (drop i order) (drop (i + 1) order)
          (drop_more order i 0 c.loop-index-test.true) (member ∙ sym (c.in-Some.ensures.piece old c.len-len.ensures)) c.in_ok-extend_within.ensures.items c.loop-index.invariant.pieces;
      begins = still_begins old now new _ begins c.in_ok-extend_within.ensures.items;
    }
