-- The parts of the wanted columns, for the clauses of private functions.
use Rattle.std.specs.Prelude.{◌≡◌, ◌⊎◌, ℕ, zero, suc, true, false, List, [], ◌∷◌, ◌++◌, length, Some, if◌then◌else◌}
use Rattle.std.specs.List.{AllByRecursion, slice_get}
use Rattle.bits.specs.declared.fault.Fault.{Fault}
use Rattle.bits.specs.declared.fault.Fault.TheVariants.{Memory}
use Rattle.schema.specs.Cutting.{is_among, cut_to, IsCutTo}
use Rattle.schema.specs.Law.{IsSchema}
use Rattle.schema.specs.Shape.{Fields, count}
use Rattle.schema.specs.Stripe.{leaves_of}
use Rattle.schema.specs.Values.{ValueTree, ValueTrees, no_values}
use Rattle.schema.specs.Views.{row_view}
use Rattle.assemble.specs.Sinks.{Token, Adds, tokens_each}
use Rattle.filter.specs.Test.{Test}
use Rattle.scan.specs.declared.held.Held.{Held}
use Rattle.scan.specs.declared.parts.Part.{Part}
use Rattle.scan.specs.declared.parts.Part.TheVariants.{Given, Read}
use Rattle.scan.specs.declared.parts.Run.{Run}
use Rattle.scan.specs.Cost.{is_stored}
use Rattle.scan.specs.inner.Fills.{filled, fills_of}
use Rattle.scan.specs.inner.Uses.{uses_of, numbers_of}

-- the wanted of `n` places, the first of which is `place`, rising
abbrev pub wanted_from : List ℕ → ℕ → ℕ → List ℕ
wanted_from places place zero = []
wanted_from places place (suc n) = if is_among places place then place ∷ wanted_from places (suc place) n else wanted_from places (suc place) n

-- a file with this many top-level fields has each of these columns, or none of them
abbrev pub AreAlike : List ℕ → ℕ → List ℕ → Type 0
AreAlike keys width places = AllByRecursion (λ p. is_stored keys width p ≡ true) places ⊎ AllByRecursion (λ p. is_stored keys width p ≡ false) places

-- what is known where parts are made: the filter, the key columns, the fields, and a group's key and how many fields its file has
pub record Making : Type 0 where
  pub tests : List (List Test)
  pub keys : List ℕ
  pub fields : Fields
  pub key : List ValueTree
  pub width : ℕ

-- The part of the columns at these places: what is asked of the leaves, and the schema of those that are read; or, where none is read, the
-- values that each row has.
abbrev pub IsPartOf : Making → List ℕ → Part → Type 0
IsPartOf m places (Given row) =
    (numbers_of false 0 (uses_of m.tests m.keys m.width places 0 (leaves_of m.fields)) ≡ [])
    × (row_view row ≡ filled (fills_of m.keys m.key m.width places 0 0 (count m.fields)) no_values)
IsPartOf m places (Read run) =
    (run.uses.items ≡ uses_of m.tests m.keys m.width places 0 (leaves_of m.fields))
    × IsCutTo (numbers_of false 0 run.uses.items) m.fields run.schema × IsSchema run.schema

-- the parts are those of these columns, each of some that are alike
abbrev pub ArePartsOf : Making → List ℕ → List Part → Type 0
ArePartsOf m places [] = places ≡ []
ArePartsOf m places (p ∷ parts) =
    (here : List ℕ) × (rest : List ℕ) × (places ≡ here ++ rest) × AreAlike m.keys m.width here × IsPartOf m here p × ArePartsOf m rest parts

-- the first of what stood is shown, spelled as values, and T holds of the rest
abbrev pub ShowsNext : {X : Type 0} → (List X → Type 0) → (List X → Type 0) → (X → ValueTrees) → (List Token → Type 0) → (List Token → Type 0) → Type 0
ShowsNext {X} S T spelled from to = (x : X) (rest : List X) → S (x ∷ rest) → T rest × Adds from to (tokens_each (spelled x))

-- a fault is Memory where something stood
abbrev pub IsMemoryWhere : {X : Type 0} → (List X → Type 0) → Fault → Type 0
IsMemoryWhere {X} S f = (x : X) (rest : List X) → S (x ∷ rest) → f ≡ Memory

-- there is something for each leaf of the table
abbrev pub AreSized : Held → Run → Type 0
AreSized h run = (length run.uses.items ≡ length (leaves_of h.schema)) × (length h.first.items ≡ length (leaves_of h.schema)) × (length h.later.items ≡ length (leaves_of h.schema))

-- the schema of the columns that are read is the table's, cut to their leaves
abbrev pub IsCutPart : Fields → Part → Type 0
IsCutPart fs (Given row) = Unit {0}
IsCutPart fs (Read run) = run.schema ≡ cut_to (numbers_of false 0 run.uses.items) fs

-- so of each part
abbrev pub AreCutParts : Fields → List Part → Type 0
AreCutParts fs parts = (k : ℕ) (p : Part) → slice_get parts k ≡ Some p → IsCutPart fs p
