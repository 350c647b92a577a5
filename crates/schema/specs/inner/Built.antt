-- What a schema keeps: its fields, and the leaves and the elements that follow from them.
use Rattle.std.specs.Prelude.{◌≡◌, ◌≤◌, List}
use Rattle.schema.specs.Shape.{Fields}
use Rattle.schema.specs.Stripe.{Leaf, leaves_of}
use Rattle.schema.specs.Elements.{Element}
use Rattle.schema.specs.Law.{IsSchema, IsWithinLimits}
use Rattle.schema.specs.Listed.{elements_of}
use Rattle.schema.specs.Reading.{tallest}

-- what a schema keeps: fields of a schema within the limits and at most 32 deep, and the leaves and elements of these fields
abbrev pub IsBuilt : Fields → List Leaf → List Element → Type 0
IsBuilt fs leaves elements = IsSchema fs × IsWithinLimits fs × (leaves ≡ leaves_of fs) × (elements ≡ elements_of fs) × (tallest fs ≤ 32)
