use Rattle.std.proofs.Common.{List, ℕ, ◌+◌, ◌*◌, length, subst}
use Rattle.std.proofs.lemmas.Result.{on_ok_weaker}
use Rattle.bits.specs.Codec.{Appends}
use Rattle.hybrid_rle.specs.Hybrid.{IsHybrid}
use Rattle.pages.proofs.WrittenLevels.{levels_put, seen_same}
use Rattle.pages.proofs.level_writing.put_levels.Goals as goal

pub returns-clause-stands : goal.returns-clause-stands
returns-clause-stands c =
    let width = c.width_of.result in
    let levels = c.args.levels.now in
    let old = c.args.out.now.items in
    let new = c.encode.new.out.items in
    on_ok_weaker c.encode.result (λ p. levels_put c.args.greatest width levels old new c.requires.some c.width_of.ensures.holds c.width_of.ensures.least
    (subst (λ (l : List ℕ). Appends (λ bytes. IsHybrid width bytes (length l) l) (80 + 9 * length l) old new) (seen_same levels) p)) c.encode.ensures.stands
