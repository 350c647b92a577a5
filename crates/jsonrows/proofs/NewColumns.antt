-- The elements of one field, as they are found in a JSON value.
use Rattle.std.proofs.Common.{◌≡◌, ◌≤◌, Bool, true, false, true≢false, List, [], ◌++◌, Option, Some, None, is_some, option_map, Result, Ok, Err, sym, ap, subst, ◌∙◌, arith}
use Rattle.std.specs.Prelude.{IfOk}
use Rattle.std.proofs.lemmas.Option.{same_Some as same_value}
use Rattle.bits.specs.declared.refusal.Refusal.{Refusal}
use Rattle.bits.specs.Refusals.{OnFault}
use Rattle.serde_json.specs.Data.{Data, depth}
use Rattle.schema.specs.Elements.{Element}
use Rattle.jsonrows.specs.SchemaJson.{SaysColumn}
use Rattle.jsonrows.specs.inner.SchemaReading.{Said, field_said, said_below, AreElementsOf}
use Rattle.jsonrows.specs.inner.SchemaViews.{Says}
use Rattle.jsonrows.proofs.SchemaMembers.{none_is}
use Rattle.jsonrows.proofs.SchemaFields.{field_found, below_found, field_there, FieldThere}

-- the elements of what is found are those that the value says
pub column_found : (d : Data) (said : List Said) (es : List Element) → field_said (said_below 64) d ≡ Some said → AreElementsOf said es → SaysColumn d es
column_found d said es h are = field_found (said_below 64) (below_found 64) d said es h are

-- what a value says is found in it, where it nests no deeper than the reader goes
pub column_there : (d : Data) (es : List Element) → SaysColumn d es → depth d ≤ 127 → (said : List Said) × (field_said (said_below 64) d ≡ Some said) × AreElementsOf said es
column_there d es h low = subst (λ x. FieldThere (said_below 64) d x) (sym h.2) (field_there 64 h.0 d h.1 (omega arith))

-- ---- what was appended to nothing

pub says_column : (d : Data) (old new : List Said) (formed : Bool) → old ≡ [] → formed ≡ true → Says old new formed (field_said (said_below 64) d) → field_said (said_below 64) d ≡ Some new
says_column d old new formed none is h = by (field_said (said_below 64) d) (subst (λ xs. Says xs new true (field_said (said_below 64) d)) none (subst (λ b. Says old new b (field_said (said_below 64) d)) is h))
  where
    by : (o : Option (List Said)) → Some new ≡ option_map (λ more. [] ++ more) o → o ≡ Some new
    by None e = absurd (true≢false (ap is_some e))
    by (Some more) e = sym e

pub says_none : (d : Data) (old new : List Said) (formed : Bool) → formed ≡ false → Says old new formed (field_said (said_below 64) d) → None ≡ field_said (said_below 64) d
says_none d old new formed is h = subst (λ b. Says old new b (field_said (said_below 64) d)) is h

-- where nothing is found, or what is found has no elements, the value says none
pub no_column_found : (d : Data) → depth d ≤ 127 → None ≡ field_said (said_below 64) d → (es : List Element) → SaysColumn d es → ⊥
no_column_found d low none es h = let p = column_there d es h low in none_is p.0 (none ∙ p.1)

pub no_column_elements : (d : Data) (said : List Said) → depth d ≤ 127 → field_said (said_below 64) d ≡ Some said → ((es : List Element) → AreElementsOf said es → ⊥) → (es : List Element) → SaysColumn d es → ⊥
no_column_elements d said low is none es h =
    let p = column_there d es h low in
    none es (subst (λ x. AreElementsOf x es) (same_value p.0 said (sym p.1 ∙ is)) p.2)

pub columns_found : {X : Type 0} (seen : X → List Element) (d : Data) (said : List Said) (r : Result X Refusal) → field_said (said_below 64) d ≡ Some said → IfOk r (λ x. AreElementsOf said (seen x)) → IfOk r (λ x. SaysColumn d (seen x))
columns_found seen d said (Ok x) is h = column_found d said (seen x) is h
columns_found seen d said (Err e) is h = tt

pub no_columns_found : {X : Type 0} (d : Data) (said : List Said) (r : Result X Refusal) → depth d ≤ 127 → field_said (said_below 64) d ≡ Some said → OnFault r ((es : List Element) → AreElementsOf said es → ⊥) → OnFault r ((es : List Element) → SaysColumn d es → ⊥)
no_columns_found d said (Ok x) low is h = tt
no_columns_found d said (Err e) low is h = λ fault. no_column_elements d said low is (h fault)
