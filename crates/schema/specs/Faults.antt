-- Which refusal of a schema's list comes when.
use Rattle.std.specs.Prelude.{List, string_bytes}
use Rattle.bits.specs.declared.refusal.Refusal.{Refusal}
use Rattle.bits.specs.declared.refusal.Refusal.TheVariants.{Schema, Float, Int96, Limit, Memory}
use Rattle.schema.specs.Elements.{Element}
use Rattle.schema.specs.Listing.{IsSoundList, ListHasLeaf, is_floating, is_int96, IsTooLarge}

-- what a list of elements may be refused for: a fault that is in it, or Memory; other refusals are not returned
abbrev pub HasFault : List Element → Refusal → Type 0
HasFault es Schema = IsSoundList es → ⊥
HasFault es (Float path) = ListHasLeaf is_floating es (string_bytes path)
HasFault es (Int96 path) = ListHasLeaf is_int96 es (string_bytes path)
HasFault es Limit = IsTooLarge es
HasFault es Memory = Unit {0}
HasFault es _ = ⊥
