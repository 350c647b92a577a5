use Rattle.std.proofs.Common.{◌≡◌, ◌≤◌, ℕ, zero, suc, List, [], ◌∷◌, get_or, drop, length, sym, ◌∙◌, ap, subst, arith, add-one}
use Rattle.std.specs.Prelude.{◌<ℤ◌, pos}
use Rattle.std.proofs.lemmas.Int.{ints}
use Rattle.std.proofs.lemmas.List.{length-map}
use Rattle.lists.proofs.Slices.{drop_past as drop_all}
use Rattle.schema.specs.Stripe.{Entry, columns, column, leaves_of, Leaf}
use Rattle.schema.specs.Views.{leaf_view}
use Rattle.schema.specs.Borrowed.{entry_ref_view}
use Rattle.row_group.specs.Greatest.{most_entries}
use Rattle.shred.specs.Buffer.{schema_of}
use Rattle.table_commits.specs.Wide.{AreFew}
use Rattle.table_commits.proofs.wide_part.has_few_entries.Goals as goal

-- a column that has few entries, in front of others
few_from : (cols : List (List Entry)) (i : ℕ) → (most_entries <ℤ pos (length (get_or cols i [])) → ⊥) → AreFew (drop (suc i) cols) → AreFew (drop i cols)
few_from [] zero few rest = tt
few_from [] (suc i) few rest = tt
few_from (es ∷ cols) zero few rest = (few, rest)
few_from (es ∷ cols) (suc i) few rest = few_from cols i few rest

few_here : (es : List Entry) (n : ℕ) → n ≡ length es → n ≤ 16777216 → most_entries <ℤ pos (length es) → ⊥
few_here es n is small more = omega (arith, ints, is, small, more)

pub loop-leaf-preserved : goal.loop-leaf-preserved
loop-leaf-preserved c = λ held h rest.
    let cols = columns (schema_of c.args.rows.now) held in
    let leaf = c.loop-leaf.leaf in
    let entries = c.entries.new.entries.items in
    let many : length entries ≡ length (get_or cols leaf []) = sym (length-map entries entry_ref_view) ∙ ap length (c.in_ok-entries.ensures.stands held h) in
    let small : length entries ≤ 16777216 = omega arith in
    c.loop-leaf.invariant held h (few_from cols leaf (few_here (get_or cols leaf []) (length entries) many small) (subst (λ (n : ℕ). AreFew (drop n cols)) (add-one leaf) rest))

pub returns-clause-few : goal.returns-clause-few
returns-clause-few c = λ few held h.
    let fs = schema_of c.args.rows.now in
    let cols = columns fs held in
    let leaves = c.leaves-leaves.result.now in
    let all : length leaves ≡ length (leaves_of fs)
    = sym (length-map leaves leaf_view) ∙ ap length (c.leaves-leaves.ensures.leaves_are ∙ ap leaves_of c.schema.ensures) in
    let many : length cols ≡ length (leaves_of fs) = length-map (leaves_of fs) (λ (l : Leaf). column held l.steps) in
    let past : length cols ≤ c.loop-leaf.leaf = omega (arith, all, many) in
    c.loop-leaf.invariant held h (subst AreFew (sym (drop_all cols c.loop-leaf.leaf past)) tt)
