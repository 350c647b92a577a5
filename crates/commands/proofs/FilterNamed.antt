-- What names the file of a filter.
use Rattle.std.proofs.Common.{◌≡◌, ◌≢◌, ◌==◌, ℕ, Bool, true, false, List, [], ◌∷◌, Option, Some, None, refl, sym, ap, arith}
use Rattle.std.specs.Prelude.{MatchOption}
use Rattle.std.proofs.lemmas.Bool.Decides.{nat_tests}
use Rattle.std.specs.Borrow.{Bor}
use Rattle.answers.specs.Making.{lent_text}
use Rattle.commands.specs.Calls.{after_at}

-- the clause of `strip_prefix` at a `@`
pub after_at-from : (text : List ℕ) (rest : Option (Bor (List ℕ))) → MatchOption rest ((more : List ℕ) → text ≢ 64 ∷ more) (λ x. text ≡ 64 ∷ x.now) → lent_text rest ≡ after_at text
after_at-from [] None h = refl
after_at-from [] (Some x) h = cc
after_at-from (c ∷ text) None h = go (c == 64) refl
  where
    go : (t : Bool) → (c == 64) ≡ t → None ≡ after_at (c ∷ text)
    go true e = absurd (h text (ap (λ n. n ∷ text) (grind (arith, nat_tests))))
    go false e = rw e
after_at-from (c ∷ text) (Some x) h = sym (ap after_at h)
