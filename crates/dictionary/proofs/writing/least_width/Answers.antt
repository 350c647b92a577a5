use Rattle.std.proofs.Common.{◌≡◌, ◌+◌, List, ℕ, [], ◌∷◌, ◌++◌, take, get_or, sym, subst, arith, add-one, max}
use Rattle.std.proofs.Math.Seq.{take-suc}
use Rattle.dictionary.specs.IndexPages.{IsLeastWidth}
use Rattle.dictionary.proofs.Widths.{width_more}
use Rattle.dictionary.proofs.writing.least_width.Goals as goal

pub loop-index-preserved : goal.loop-index-preserved
loop-index-preserved c =
    let at = c.loop-index.index-index in
    let xs = c.args.indexes.now in
    let x = get_or xs at 0 in
    let taken : take (at + 1) xs ≡ take at xs ++ x ∷ [] = rw add-one (take-suc xs at 0 (omega arith)) in
    let greatest : c.max-width.result ≡ max c.loop-index.width c.bits_of.result = grind (arith, c.max-width.ensures) in
    record {
      within = omega (arith, greatest, c.loop-index.invariant.within, c.bits_of.ensures.within);
      least = subst (λ (l : List ℕ). IsLeastWidth c.max-width.result l) (sym taken)
          (width_more (take at xs) x c.loop-index.width c.bits_of.result c.max-width.result greatest (record { holds = c.bits_of.ensures.holds; least = c.bits_of.ensures.least }) c.loop-index.invariant.least);
    }
