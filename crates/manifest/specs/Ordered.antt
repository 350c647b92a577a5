-- Facts of a description: order of keys, key columns, and numbers that are distinct and below the next. There is at most
-- one proof of each.
use Rattle.std.specs.Prelude.{◌≡◌, ◌≢◌, ℕ, ◌<◌, ◌≤◌, List, [], ◌∷◌, length, Some, refl}
use Rattle.std.specs.List.{AllByRecursion}
use Rattle.std.specs.Coded.{Coded, code_by, coded_option, Coded-set, ×_prop, Unit-prop}
use Rattle.std.proofs.Props.{props}
use Rattle.schema.specs.declared.value.Repetition.TheVariants.{Required}
use Rattle.schema.specs.declared.key.KeyKind.TheVariants.{Boolean}
use Rattle.schema.specs.Values.{ValueTree}
use Rattle.schema.specs.Shape.{Field, leaf, Fields, no_fields, field, count}
use Rattle.schema.specs.Keys.{KeyColumn, AreKeys, AreDistinct, field_at, key_field, key_type, places_of}
use Rattle.schema.specs.inner.Code.{fields_code}
use Rattle.partition.specs.Order.{AreInTableOrder}
use Rattle.manifest.specs.Handles.{Group}

-- there is at most one proof that keys stand in table order
pub InTableOrder-prop : (ks : List (List ValueTree)) → IsProp (AreInTableOrder ks)
InTableOrder-prop [] = hlevel props
InTableOrder-prop (k ∷ []) = hlevel props
InTableOrder-prop (k ∷ l ∷ ks) = hlevel (props, InTableOrder-prop (l ∷ ks))

-- there is at most one proof that no number comes twice
pub Distinct-prop : (ns : List ℕ) → IsProp (AreDistinct ns)
Distinct-prop [] = hlevel props
Distinct-prop (n ∷ ns) = hlevel (props, Distinct-prop ns)

-- there is at most one proof that the numbers of the groups are below the next one
pub Below-prop : (next : ℕ) (gs : List Group) → IsProp (AllByRecursion (λ (g : Group). g.number < next) gs)
Below-prop next gs = hlevel props

-- ---- key columns

first_field : Fields → Field
first_field no_fields = leaf [] Required (key_type Boolean)
first_field (field f fs) = f

field_back : (f : Field) → first_field (field f no_fields) ≡ f
unfolding first_field
field_back f = refl

-- a field is stored as the only one of some fields
field_code : Coded Field
field_code = code_by Fields fields_code (λ f. field f no_fields) first_field field_back

There-prop : (keys : List KeyColumn) (fs : Fields) → IsProp (AllByRecursion (λ (k : KeyColumn). field_at k.at fs ≡ Some (key_field k)) keys)
There-prop [] fs = Unit-prop
There-prop (k ∷ keys) fs = ×_prop (Coded-set (coded_option field_code) (field_at k.at fs) (Some (key_field k))) (There-prop keys fs)

Named-prop : (keys : List KeyColumn) → IsProp (AllByRecursion (λ (k : KeyColumn). k.name ≢ []) keys)
Named-prop [] = Unit-prop
Named-prop (k ∷ keys) = ×_prop (hlevel props) (Named-prop keys)

-- there is at most one proof that the key columns can partition a table with these fields
pub Keys-prop : (keys : List KeyColumn) (fs : Fields) → IsProp (AreKeys keys fs)
Keys-prop keys fs = λ a b i. record {
  few = few-prop a.few b.few i;
  rest = rest-prop a.rest b.rest i;
  distinct = Distinct-prop (places_of keys) a.distinct b.distinct i;
  named = Named-prop keys a.named b.named i;
  there = There-prop keys fs a.there b.there i;
}
  where
    few-prop : IsProp (length keys ≤ 8)
    few-prop = hlevel props

    rest-prop : IsProp (length keys < count fs)
    rest-prop = hlevel props
