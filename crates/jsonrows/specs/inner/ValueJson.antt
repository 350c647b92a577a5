-- What each of the functions that show values as JSON values finds.
use Rattle.std.specs.Prelude.{◌≡◌, Bool, true, false}
use Rattle.bits.specs.declared.refusal.Refusal.{Refusal}
use Rattle.bits.specs.declared.refusal.Refusal.TheVariants.{RowShape}

-- what fits is shown so
abbrev pub IsShownSo : {A : Type 0} → Bool → A → A → Type 0
IsShownSo fits wanted shown = (fits ≡ true) × (shown ≡ wanted)

-- what does not fit is refused
abbrev pub IsMisfit : Bool → Refusal → Type 0
IsMisfit fits e = (e ≡ RowShape) × (fits ≡ false)
