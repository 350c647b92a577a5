-- A file that is made.
use Rattle.std.proofs.Common.{◌≡◌, ℕ, List, sym, subst}
use Rattle.program.specs.Paths.{Place, Free, Holds, BecomesFile}

-- where nothing was, and this file is, one was made
pub becomes : (old new : Place) (bytes : List ℕ) → old ≡ Free → new ≡ Holds bytes → BecomesFile old new bytes
becomes old new bytes was is = subst (λ place. BecomesFile place new bytes) (sym was) is
