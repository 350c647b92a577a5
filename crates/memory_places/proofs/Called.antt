-- What a call does where the same is at paths.
use Rattle.std.proofs.Common.{◌≡◌, ℕ, Bool, List, Option, String, sym, subst}
use mathlib.Core.Path.{fun_ext}
use Rattle.program.specs.Paths.{Places}
use Rattle.program.specs.Words.{Printing, Refusing, Giving, Withholding}
use Rattle.program.specs.Asked.{IsDone, EndsRefused}

pub done_there : {A : Type 0} (P : Printing) (G : Giving) (files places after : Places)
    (words : List (String A)) (old new err_old err_new : Option (List ℕ)) → ((path : List ℕ) → files path ≡ places path)
    → IsDone P G files after words old new err_old err_new → IsDone P G places after words old new err_old err_new
done_there P G files places after words old new err_old err_new same =
    subst (λ (f : Places). IsDone P G f after words old new err_old err_new) (fun_ext same)

pub refused_there : {A Writer : Type 0} (F : Refusing) (H : Withholding) (files places after : Places)
    (words : List (String A)) (old new : Option (List ℕ)) (contents : Writer → Option (List ℕ)) (err : Writer) → ((path : List ℕ) → files path ≡ places path)
    → ((is_told : Bool) × EndsRefused F H files after words old new is_told contents err)
    → ((is_told : Bool) × EndsRefused F H places after words old new is_told contents err)
refused_there F H files places after words old new contents err same =
    subst (λ (f : Places). (is_told : Bool) × EndsRefused F H f after words old new is_told contents err) (fun_ext same)

-- what is at a path after a call that left the files as they were
pub same_there : (files places after : Places) → after ≡ files → ((path : List ℕ) → files path ≡ places path) → (path : List ℕ) → after path ≡ places path
same_there files places after kept same path = subst (λ (f : Places). f path ≡ places path) (sym kept) (same path)
