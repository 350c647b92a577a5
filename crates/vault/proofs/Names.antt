-- What the root's two names are as texts.
use Rattle.std.proofs.Common.{◌≡◌, ◌≢◌, ℕ, zero, suc, List, [], ◌∷◌, length, slice_index, Bool, true, false, if◌then◌else◌, ◌==◌, refl, sym, ◌∙◌, ap, arith, ⊎_elim}
use Rattle.std.proofs.lemmas.Bool.Decides.{eqb_tells}
use Rattle.std.proofs.lemmas.Bool.{false≢true as false_is_not_true}
use Rattle.disk.specs.Paths.{slash, folder_of, IsOnTheWay}
use Rattle.disk.specs.State.{State}
use Rattle.vault.specs.Views.{root_path, next_path}
use Rattle.vault.specs.Ways.{IsOpenWay}

abbrev has_no_slash : List ℕ → Bool
has_no_slash [] = true
has_no_slash (b ∷ rest) = if b == slash then false else has_no_slash rest

if_false : (t u : Bool) → (if t then false else u) ≡ true → (t ≡ false) × (u ≡ true)
if_false true u e = absurd (false_is_not_true e)
if_false false u e = (refl, e)

no_slash_at : (path : List ℕ) → has_no_slash path ≡ true → (i : ℕ) → slice_index path i ≢ slash
no_slash_at [] none i is = omega (arith, is)
no_slash_at (b ∷ rest) none zero is =
    let parts = if_false (b == slash) (has_no_slash rest) none in
    ⊎_elim (λ at. false_is_not_true (sym parts.0 ∙ at.0)) (λ off. off.1 is) (eqb_tells b slash)
no_slash_at (b ∷ rest) none (suc i) is = no_slash_at rest (if_false (b == slash) (has_no_slash rest) none).1 i is

pub nothing_on_the_way : (path folder : List ℕ) → has_no_slash path ≡ true → IsOnTheWay folder path → ⊥
nothing_on_the_way path folder none on = no_slash_at path none on.0 on.2

pub next_open : (state : State) → IsOpenWay state next_path
next_open state c may folder on node is = nothing_on_the_way next_path folder refl on

pub root_in_top : folder_of root_path ≡ []
root_in_top = refl

pub root_not_next : root_path ≢ next_path
root_not_next e = let lengths : length root_path ≡ length next_path = ap length e in omega (arith, lengths)

pub next_alone : (path : List ℕ) → IsOnTheWay path next_path → ⊥
next_alone path on = nothing_on_the_way next_path path refl on

pub root_alone : (path : List ℕ) → IsOnTheWay path root_path → ⊥
root_alone path on = nothing_on_the_way root_path path refl on
