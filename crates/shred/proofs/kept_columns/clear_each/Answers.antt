use Rattle.std.proofs.Common.{◌≡◌, List, [], ◌∷◌, map, length, refl, ap, ◌∙◌, arith}
use Rattle.schema.specs.Stripe.{Entry}
use Rattle.shred.specs.inner.Growing.{nils}
use Rattle.shred.specs.declared.kept_column.KeptColumn.{KeptColumn}
use Rattle.shred.specs.Kept.{kept_view}
use Rattle.shred.proofs.OneByOne.{one_changed, all_changed}
use Rattle.shred.proofs.kept_columns.clear_each.Goals as goal

pub loop-i-preserved : goal.loop-i-preserved
loop-i-preserved c = one_changed kept_view (λ (x : KeptColumn). []) c.args.columns.now c.loop-i.columns c.loop-i.i c.index-columns-i.result c.clear.new.self (omega arith) c.clear.ensures.empty c.loop-i.invariant

-- none of them has entries
none : (cs : List KeptColumn) → map (λ (x : KeptColumn). []) cs ≡ nils (length cs)
none [] = refl
none (x ∷ cs) = ap (λ (t : List (List Entry)). [] ∷ t) (none cs)

pub returns : goal.returns
returns c = record { empty = all_changed kept_view (λ (x : KeptColumn). []) c.args.columns.now c.loop-i.columns c.loop-i.i (omega arith) c.loop-i.invariant ∙ none c.args.columns.now }
