use Rattle.std.proofs.Common.{◌≡◌, ◌++◌, [], ℕ, List, length, sym, ap, subst, ◌∙◌, append-nil}
use Rattle.thrift_compact.specs.Compact.{IsThrift}
use Rattle.thrift_compact.specs.View.{tree_view}
use Rattle.jsonrows.proofs.schema_printing.written.Goals as goal

pub returns-clause-stands : goal.returns-clause-stands
returns-clause-stands c =
    let w = c.in_ok-write_struct.ensures.stands in
    let whole : c.write_struct.new.out.items ≡ w.text = w.joined ∙ ap (λ (s : List ℕ). s ++ w.text) c.new-bytes.ensures.items in
    subst (λ (s : List ℕ). IsThrift s (tree_view c.args.tree.now) (length s)) (sym whole) (subst (λ (s : List ℕ). IsThrift s (tree_view c.args.tree.now) (length w.text)) (append-nil w.text) (w.stands []))
