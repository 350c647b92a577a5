-- Which rows of a group are returned.
use Rattle.std.specs.Prelude.{◌≡◌, ◌↔◌, ℕ, Bool, not, List, map, filter, Ok, IsTrue}
use Rattle.std.specs.List.{AllByRecursion}
use Rattle.schema.specs.Values.{ValueTrees}
use Rattle.schema.specs.Shape.{Fields}
use Rattle.schema.specs.Stripe.{leaves_of}
use Rattle.schema.specs.Cutting.{is_among}
use Rattle.schema.specs.Keys.{KeyColumn, AreKeys, places_of, without_keys, values_besides}
use Rattle.disk.specs.State.{State}
use Rattle.vault.specs.Views.{IsKept}
use Rattle.partition.specs.Folders.{part_path_of}
use Rattle.filter.specs.Test.{Test}
use Rattle.filter.specs.Satisfies.{Satisfies}
use Rattle.filter.specs.Terms.{Term, tests_of}
use Rattle.filter.specs.RuledOut.{RuledOut}
use Rattle.manifest.specs.Groups.{Group}
use Rattle.manifest.specs.Parts.{PartMeans}
use Rattle.manifest.specs.Records.{IsGroup}

-- the filter was made over these fields
abbrev pub IsOver : List (List Test) → Fields → Type 0
IsOver tests fs = (terms : List (List Term)) × (tests_of (leaves_of fs) terms ≡ Ok tests)

-- a table with these fields and keys can have the group; the group's file is kept, and holds these rows
pub record Holds (state : State) (keys : List KeyColumn) (fs : Fields) (g : Group) (rows : List ValueTrees) : Type 0 where
  pub bytes : List ℕ
  pub is : IsGroup keys (without_keys keys fs) g
  pub kept : IsKept state (part_path_of keys g.key g.number) bytes
  pub means : PartMeans keys (without_keys keys fs) g bytes rows

-- a row cut to the top-level columns at these places
abbrev pub cut_to : List ℕ → ValueTrees → ValueTrees
cut_to places row = values_besides (λ i. not (is_among places i)) 0 row

-- the test says of each row whether it satisfies
abbrev pub Decides : (ValueTrees → Bool) → List (List Test) → Type 0
Decides p tests = (row : ValueTrees) → IsTrue (p row) ↔ Satisfies tests row

-- the rows that satisfy, in their order, cut
abbrev pub AreSelected : List (List Test) → List ℕ → List ValueTrees → List ValueTrees → Type 0
AreSelected tests places rows out = (p : ValueTrees → Bool) → Decides p tests → out ≡ map (cut_to places) (filter p rows)

-- the filter rules the group out, by its key and what the root knows of it; each value of a leaf that its file lacks is null
abbrev pub IsRuledOut : List (List Test) → List KeyColumn → Group → Type 0
IsRuledOut tests keys g = RuledOut tests (places_of keys) g.key g.known

-- a group that is ruled out holds no row that satisfies
abbrev pub RuledOutGroupsHoldNone : Type 0
RuledOutGroupsHoldNone = (keys : List KeyColumn) (fs : Fields) (g : Group) (bytes : List ℕ) (rows : List ValueTrees) (tests : List (List Test))
    → AreKeys keys fs → IsOver tests fs
    → IsGroup keys (without_keys keys fs) g → PartMeans keys (without_keys keys fs) g bytes rows
    → IsRuledOut tests keys g → AllByRecursion (λ row. Satisfies tests row → ⊥) rows
