use Rattle.std.proofs.Common.{◌≡◌, ◌+◌, List, [], ◌∷◌, ◌++◌, map, drop, sym, ap, ◌∙◌}
use Rattle.std.proofs.lemmas.List.{map-append}
use Rattle.lists.proofs.Slices.{map_drop_here as reads}
use Rattle.schema.specs.Views.{leaf_view}
use Rattle.filter.specs.Test.{Test, test_view}
use Rattle.filter.specs.Terms.{Term, term_view, test_of, each_of}
use Rattle.filter.proofs.Made.{before, made_more}
use Rattle.filter.proofs.making.tests_of.Goals as goal

pub loop-term-preserved : goal.loop-term-preserved
loop-term-preserved c =
    let read = reads term_view c.args.terms.now c.loop-term.term-index c.term-item.result c.loop-term-test.true c.term-item.is in
    let more = made_more (test_of (map leaf_view c.args.leaves.now)) (term_view c.term-item.result) (test_view c.in_ok-test.test) (map term_view (drop (c.loop-term.term-index + 1) c.args.terms.now)) (map test_view c.loop-term.made.items) c.in_ok-test.ensures.made in
    let made : map test_view c.push.new.self.items ≡ map test_view c.loop-term.made.items ++ test_view c.in_ok-test.test ∷ [] = ap (map test_view) c.in_ok-push.ensures.items ∙ map-append test_view c.loop-term.made.items (c.in_ok-test.test ∷ []) in
    ap (λ (ys : List Test). before ys (each_of (test_of (map leaf_view c.args.leaves.now)) (map term_view (drop (c.loop-term.term-index + 1) c.args.terms.now)))) made
    ∙ sym more
    ∙ ap (λ (ts : List Term). before (map test_view c.loop-term.made.items) (each_of (test_of (map leaf_view c.args.leaves.now)) ts)) (sym read)
    ∙ c.loop-term.invariant
