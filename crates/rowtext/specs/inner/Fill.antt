-- What the functions that read a row from tokens find.
use Rattle.std.specs.Prelude.{◌≡◌, ℕ, zero, suc, List, length, Option, Some, None, option_map}
use Rattle.json.specs.Token.{Token}
use Rattle.json.specs.Json.{value, items, members}
use Rattle.serde_json.specs.Data.{Data, Items, Members, no_members}
use Rattle.serde_json.specs.Data as json
use Rattle.serde_json.specs.Read.{number_of, of_items, of_members, converted}
use Rattle.schema.specs.Shape.{Fields, no_fields, field, name_of}

-- the field of this index is there, and has this name
abbrev pub IsCalled : Fields → ℕ → List ℕ → Type 0
IsCalled no_fields i name = ⊥
IsCalled (field f fs) zero name = name_of f ≡ name
IsCalled (field f fs) (suc i) name = IsCalled fs i name

-- the JSON value of one token
abbrev pub scalar_of : Token → Option Data
scalar_of (Token.boolean b) = Some (json.boolean b)
scalar_of (Token.number s) = option_map json.number (number_of s)
scalar_of (Token.string s) = Some (json.string s)
scalar_of _ = None

-- the tokens begin with the items of an array and its closing bracket, the items are read as v, and others follow
abbrev pub HoldsItems : {A : Type 0} → (Items → Option A) → ℕ → List Token → A → List Token → Type 0
HoldsItems read deep old v new = (ds : Items) × (converted of_items (items (value deep) (length old) old) ≡ Some (ds, new)) × (read ds ≡ Some v)

-- the tokens begin with the members of an object and its closing brace, the members are read as v, and others follow
abbrev pub HoldsMembers : {A : Type 0} → (Members → Option A) → ℕ → List Token → A → List Token → Type 0
HoldsMembers read deep old v new = (ms : Members) × (converted (λ js. of_members js no_members) (members (value deep) (length old) old) ≡ Some (ms, new)) × (read ms ≡ Some v)
