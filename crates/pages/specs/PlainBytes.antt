-- Pages of leaves without levels, of values that are PLAIN bytes already.
use Rattle.std.specs.Prelude.{◌≡◌, ◌≢◌, ℕ, List, length}
use Rattle.std.specs.List.{AllByRecursion}
use Rattle.schema.specs.declared.value.Kind.TheVariants.{Boolean}
use Rattle.schema.specs.Values.{ValueTree}
use Rattle.schema.specs.Stripe.{Leaf}
use Rattle.schema.specs.Law.{IsEntryOf}
use Rattle.plain.specs.Plain.{IsPlain}
use Rattle.plain.specs.Flat.{flat_entries}

-- so many values, each that of an entry of the leaf, fill the bytes in PLAIN; they are no BOOLEANs
pub record FillPlain (leaf : Leaf) (count : ℕ) (vs : List ValueTree) (text : List ℕ) : Type 0 where
  pub counted : count ≡ length vs
  pub of_leaf : AllByRecursion (IsEntryOf leaf) (flat_entries vs)
  pub whole_bytes : leaf.leaf_type.kind ≢ Boolean
  pub spelled : IsPlain leaf.leaf_type.kind count text vs (length text)
