-- Values beside what the program makes.
use Rattle.std.proofs.Common.{◌≡◌, ℕ, rules, Vec, Global}
use Rattle.schema.specs.declared.value.Value.{Value, the_lemmas as of_schema}
use Rattle.schema.specs.declared.value.Value.TheVariants.{Bytes, Group, List as ListOf}
use Rattle.schema.specs.Values.{bytes, group, list, view as value_view, views}

pub view-Bytes : (s : Vec ℕ Global) → value_view (Bytes s) ≡ bytes s.items
view-Bytes s = search (rules, of_schema)

pub view-List : (vs : Vec Value Global) → value_view (ListOf vs) ≡ list (views vs.items)
view-List vs = search (rules, of_schema)

pub view-ValueGroup : (vs : Vec Value Global) → value_view (Group vs) ≡ group (views vs.items)
view-ValueGroup vs = search (rules, of_schema)
