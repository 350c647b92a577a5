-- Columns that sources stand for, each source for its own.
use Rattle.std.specs.Prelude.{◌≡◌, List, [], ◌∷◌, map, ◌⊎◌, Option}
use Rattle.bits.specs.declared.refusal.Refusal.{Refusal}
use Rattle.schema.specs.Stripe.{Entry}
use Rattle.assemble.specs.Sources.{Same}
use Rattle.assemble.specs.Columns.{Columns, Tells, IsAmong}

-- the sources stand for these columns
abbrev pub AllStand : {A : Type 0} → (A → List Entry → Type 0) → List A → Columns → Type 0
AllStand S [] [] = Unit {0}
AllStand S (x ∷ xs) (c ∷ cs) = S x c × AllStand S xs cs
AllStand S _ _ = ⊥

-- the sources stand for the same columns as before
abbrev pub AllSame : {A : Type 0} → (A → List Entry → Type 0) → List A → List A → Type 0
AllSame S [] [] = Unit {0}
AllSame S (x ∷ xs) (y ∷ ys) = Same (S x) (S y) × AllSame S xs ys
AllSame S _ _ = ⊥

-- the sources stand for no columns, since one of them will be refused
abbrev pub NoneStand : {A : Type 0} → (A → List Entry → Type 0) → List A → Type 0
NoneStand S xs = (cs : Columns) → AllStand S xs cs → ⊥

-- for the columns that stood there are columns that stand now
abbrev pub Onward : {A : Type 0} → (A → List Entry → Type 0) → List A → List A → (Columns → Columns → Type 0) → Type 0
Onward S old new R = (before : Columns) → AllStand S old before → (after : Columns) × (AllStand S new after × R before after)

-- for the columns that stand now there are columns that stood
abbrev pub Backward : {A : Type 0} → (A → List Entry → Type 0) → List A → List A → (Columns → Columns → Type 0) → Type 0
Backward S old new R = (after : Columns) → AllStand S new after → (before : Columns) × (AllStand S old before × R before after)

-- one of the sources has a cause for this refusal
abbrev pub HaveCause : {A : Type 0} → (A → Refusal → Type 0) → List A → Refusal → Type 0
HaveCause cause [] e = ⊥
HaveCause cause (x ∷ xs) e = cause x e ⊎ HaveCause cause xs e

-- a refusal is a source's own, where no columns stood and a source had a cause for it;
-- or no source was refused, it is Levels, Value or Memory, and P holds of the columns that stood
abbrev pub IsRefusedFor : {A : Type 0} → (A → List Entry → Type 0) → (A → Option Refusal) → (A → Refusal → Type 0) → List A → List A → (Columns → Refusal → Type 0) → Refusal → Type 0
IsRefusedFor S refused cause old new P e =
    (IsAmong e (map refused new) × NoneStand S old × HaveCause cause old e)
    ⊎ ((map refused new ≡ map refused old) × (Tells (Unit {0}) (Unit {0}) e × ((cs : Columns) → AllStand S old cs → P cs e)))
