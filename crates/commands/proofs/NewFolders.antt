-- What comes of a folder that is made, over the steps of making a table in it.
use Rattle.std.proofs.Common.{◌≡◌, ℕ, Bool, true, false, List, Result, Ok, Err, OnOk, IsErrAnd, IsTrue, refl, ap}
use Rattle.std.specs.Prelude.{⊤}
use Rattle.bits.specs.declared.refusal.Refusal.{Refusal}
use Rattle.places.specs.Places.{Known, StaysKnown, StaysBut, IsKeptFrom, InFolder, given_back, not_had}
use Rattle.footer.specs.declared.options.WriteOptions.{WriteOptions}
use Rattle.disk.specs.State.{State as DiskState}
use Rattle.commands.specs.Creating.{InNewFolder, handed_back, not_made, not_taken, taken_away, Creates, not_begun}
use Rattle.places.proofs.PlacesKept.{stays_then, stays_but, but_then}

module _ {D W T : Type 0} {disk_in : W → D} {old new : Known D} {path : List ℕ} {Comes : W → W → Result T Refusal → Type 0} where
  others_of : (result : Result T Refusal) → InNewFolder disk_in old new path Comes result → StaysBut path old new
  others_of result (handed_back begun ended was is others comes) = others
  others_of result (not_made e kept stays is) = stays_but stays path
  others_of result (not_taken e has others is) = others
  others_of result (taken_away e none others is) = others

module _ {D W T : Type 0} {disk_in : W → D} {old mid new : Known D} {path : List ℕ} {Comes : W → W → Result T Refusal → Type 0} where
  -- what comes of a folder stays so, where all stays as it is
  pub then_still : {Unchanged : Type 0} (result : Result T Refusal) → InFolder disk_in old mid path Comes Unchanged result → StaysKnown mid new
      → InFolder disk_in old new path Comes Unchanged result
  then_still result (given_back begun ended was is others comes) still =
      given_back begun ended was ((still.folders path (disk_in ended)).0 is) (but_then path others (stays_but still path)) comes
  then_still result (not_had e kept stays unchanged is) still = not_had e kept (stays_then stays still) unchanged is

  -- what comes of the folder once it is made
  pub of_made : {Unchanged : Type 0} (result : Result T Refusal) → ((disk : D) → mid.folder path disk → old.made path disk) → StaysBut path old mid
      → InFolder disk_in mid new path Comes Unchanged result → InNewFolder disk_in old new path Comes result
  of_made result made others (given_back begun ended was is more comes) = handed_back begun ended (made (disk_in begun) was) is (but_then path others more) comes
  of_made result made others (not_had e kept still unchanged is) =
      not_taken e (λ disk there. made disk ((still.folders path disk).1 there)) (but_then path others (stays_but still path)) is

  still_made : (result : Result T Refusal) → InNewFolder disk_in old mid path Comes result → StaysKnown mid new → InNewFolder disk_in old new path Comes result
  still_made result (handed_back begun ended was is others comes) still =
      handed_back begun ended was ((still.folders path (disk_in ended)).0 is) (but_then path others (stays_but still path)) comes
  still_made result (not_made e kept stays is) still = not_made e kept (stays_then stays still) is
  still_made result (not_taken e has others is) still =
      not_taken e (λ disk there. has disk ((still.folders path disk).1 there)) (but_then path others (stays_but still path)) is
  still_made result (taken_away e none others is) still = taken_away e none (but_then path others (stays_but still path)) is

  -- what comes of it, where it is then taken away if it is new and nothing was made in it
  pub unmade : (is_new : Bool) (result : Result T Refusal) → (IsTrue is_new → old.is_folder path false) → OnOk result (StaysKnown mid new)
      → (is_new ≡ false → StaysKnown mid new) → StaysBut path mid new → InNewFolder disk_in old mid path Comes result → InNewFolder disk_in old new path Comes result
  unmade false result was kept still others comes = still_made result comes (still refl)
  unmade true (Ok x) was kept still others comes = still_made (Ok x) comes kept
  unmade true (Err e) was kept still others comes = taken_away e (was refl) (but_then path (others_of (Err e) comes) others) refl

-- a folder that is not made
pub not_made_of : {D W T : Type 0} {disk_in : W → D} {old new : Known D} {path : List ℕ} {Comes : W → W → Result T Refusal → Type 0}
    (result : Result T Refusal) (e : Refusal) → IsErrAnd result (λ f. f ≡ e) → IsKeptFrom old path e → StaysKnown old new → InNewFolder disk_in old new path Comes result
not_made_of (Ok x) e is kept still = absurd is
not_made_of (Err f) e is kept still = not_made e kept still (ap Err is)

-- a dataset that is not begun
pub not_begun_of : {D W : Type 0} {state : W → DiskState} {disk_in : W → D} {old new : Known D} {path : List ℕ} {o : WriteOptions} {bytes : List ℕ} {names : List (List ℕ)}
    (result : Result ⊤ Refusal) (e : Refusal) → IsErrAnd result (λ f. f ≡ e) → StaysKnown old new → Creates state disk_in old new path o bytes names result
not_begun_of (Ok x) e is still = absurd is
not_begun_of (Err f) e is still = not_begun e still (ap Err is)
