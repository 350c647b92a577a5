-- Filters as JSON values (RFC 8259): the ANDs of terms that an array is, over the leaves of a schema, or the refusal of its first fault.
use Rattle.std.specs.Prelude.{◌≡◌, ℕ, Bool, true, false, List, [], ◌∷◌, Option, Some, None, option_map, bytes_eq, codes, if◌then◌else◌, Result, Ok, Err}
use Rattle.std.specs.Cmp.Lexicographic.{pointwise}
use Rattle.serde_json.specs.Data.{Data, null, boolean, number, string, array, object, Items, no_items, item}
use Rattle.serde_json.specs.Find.{as_i64}
use Rattle.serde_json.specs.Read.{read}
use Rattle.bits.specs.declared.refusal.Refusal.{Refusal}
use Rattle.bits.specs.declared.refusal.Refusal.TheVariants.{RowShape, Script, Memory}
use Rattle.schema.specs.declared.value.Kind.{Kind}
use Rattle.schema.specs.declared.value.Kind.TheVariants.{Boolean, Int32, Int64, ByteArray, FixedLenByteArray}
use Rattle.schema.specs.Annotations.{LeafType}
use Rattle.schema.specs.Values.{ValueTree, trees_of}
use Rattle.schema.specs.Values as value
use Rattle.schema.specs.Stripe.{Leaf}
use Rattle.filter.specs.declared.term.Op.{Op}
use Rattle.filter.specs.declared.term.Op.TheVariants as op
use Rattle.filter.specs.Terms.{Term, then_rest, each_of}
use Rattle.leaftext.specs.declared.leaf_form.Form.{Form}
use Rattle.leaftext.specs.Forms.{form_if}
use Rattle.rowtext.specs.Reading.{leaf_read_as}

-- the items of an array
abbrev pub listed : Items → List Data
listed no_items = []
listed (item d ds) = d ∷ listed ds

infixl 10 ◌>>=◌
-- the second step with the value of the first, or the refusal of the first
abbrev pub ◌>>=◌ : {A B : Type 0} → Result A Refusal → (A → Result B Refusal) → Result B Refusal
Ok a >>= f = f a
Err e >>= f = Err e

-- the value, or this refusal if there is none
abbrev pub or_fault : {A : Type 0} → Refusal → Option A → Result A Refusal
or_fault e (Some a) = Ok a
or_fault e None = Err e

-- ---- columns and operators

-- a name is a string; Script for all else
abbrev pub name_of : Data → Result (List ℕ) Refusal
name_of (string s) = Ok s
name_of _ = Err Script

-- a column is a top-level name, or an array of the names on the path to it
abbrev pub column_of : Data → Result (List (List ℕ)) Refusal
column_of (string s) = Ok (s ∷ [])
column_of (array ds) = each_of name_of (listed ds)
column_of _ = Err Script

-- the operator of this word in a list of operators; none if no operator has it
abbrev pub operator_named : List (List ℕ × Op) → List ℕ → Option Op
operator_named [] s = None
operator_named (w ∷ ws) s = if bytes_eq w.0 s then Some w.1 else operator_named ws s

-- the operators of terms by their words; `=` means what `==` means
abbrev pub operators : List (List ℕ × Op)
operators =
    (codes "==", op.Equal) ∷ (codes "=", op.Equal) ∷ (codes "!=", op.NotEqual) ∷ (codes "<", op.Less) ∷ (codes "<=", op.LessOrEqual) ∷ (codes ">", op.Greater)
    ∷ (codes ">=", op.GreaterOrEqual) ∷ (codes "in", op.In) ∷ (codes "not in", op.NotIn) ∷ []

-- the operator whose word a JSON value is; Script for all else
abbrev pub operator_of : Data → Result Op Refusal
operator_of (string s) = or_fault Script (operator_named operators s)
operator_of _ = Err Script

-- ---- values

-- the type of the leaf with these names on the path to it
abbrev pub leaf_named : List Leaf → List (List ℕ) → Option LeafType
leaf_named [] names = None
leaf_named (l ∷ leaves) names = if pointwise bytes_eq l.path names then Some l.leaf_type else leaf_named leaves names

-- the JSON value is of the kind in which a row has the values of this physical type
abbrev pub is_of_kind : Kind → Data → Bool
is_of_kind Boolean (boolean b) = true
is_of_kind Int32 (number n) = true
is_of_kind Int64 (number n) = true
is_of_kind ByteArray (string s) = true
is_of_kind (FixedLenByteArray n) (string s) = true
is_of_kind _ _ = false

-- values of this physical type are bytes
abbrev pub is_kind_of_bytes : Kind → Bool
is_kind_of_bytes ByteArray = true
is_kind_of_bytes (FixedLenByteArray n) = true
is_kind_of_bytes _ = false

-- the same where the values have texts: a string too, and an object where they are bytes
abbrev pub is_of_formed_kind : Kind → Data → Bool
is_of_formed_kind k (string s) = true
is_of_formed_kind k (object ms) = is_kind_of_bytes k
is_of_formed_kind k d = is_of_kind k d

-- the same where the values have texts of a form, or none
abbrev pub is_of_kind_as : Option Form → Kind → Data → Bool
is_of_kind_as None k d = is_of_kind k d
is_of_kind_as (Some form) k d = is_of_formed_kind k d

-- a value by its JSON kind: text as its bytes, a number of 64 bits with its sign
abbrev pub by_kind : Data → Result ValueTree Refusal
by_kind null = Ok value.null
by_kind (boolean b) = Ok (value.boolean b)
by_kind (number n) = or_fault Script (option_map value.integer (as_i64 n))
by_kind (string s) = Ok (value.bytes s)
by_kind (array ds) = Err Script
by_kind (object ms) = Err Script

-- a value as in the rows of its leaf, and by its kind where that is another one or there is no leaf
abbrev pub single_value_as : Bool → Option LeafType → Data → Result ValueTree Refusal
single_value_as texts (Some t) d = if is_of_kind_as (form_if texts t) t.kind d then or_fault RowShape (leaf_read_as texts t d) else by_kind d
single_value_as texts None d = by_kind d

-- the list of some values, or their refusal
abbrev pub list_value : Result (List ValueTree) Refusal → Result ValueTree Refusal
list_value (Ok vs) = Ok (value.list (trees_of vs))
list_value (Err e) = Err e

abbrev mutual
  pub value_of_as : Bool → Option LeafType → Data → Result ValueTree Refusal
  value_of_as texts t null = single_value_as texts t null
  value_of_as texts t (boolean b) = single_value_as texts t (boolean b)
  value_of_as texts t (number n) = single_value_as texts t (number n)
  value_of_as texts t (string s) = single_value_as texts t (string s)
  value_of_as texts t (array ds) = list_value (values_of_as texts t ds)
  value_of_as texts t (object ms) = single_value_as texts t (object ms)

  pub values_of_as : Bool → Option LeafType → Items → Result (List ValueTree) Refusal
  values_of_as texts t no_items = Ok []
  values_of_as texts t (item d ds) = then_rest (value_of_as texts t d) (values_of_as texts t ds)

-- ---- terms

-- a term by its three members
abbrev pub term_by_as : Bool → List Leaf → Data → Data → Data → Result Term Refusal
term_by_as texts leaves c o v = do
  names ← column_of c
  operator ← operator_of o
  operand ← value_of_as texts (leaf_named leaves names) v
  Ok (record { column = names; op = operator; value = operand })

-- the term of three values: a column, an operator and an operand; Script for any other number of them
abbrev pub term_in_as : Bool → List Leaf → List Data → Result Term Refusal
term_in_as texts leaves (c ∷ o ∷ v ∷ []) = term_by_as texts leaves c o v
term_in_as texts leaves _ = Err Script

-- a term is an array of a column, an operator and a value
abbrev pub term_of_as : Bool → List Leaf → Data → Result Term Refusal
term_of_as texts leaves (array ds) = term_in_as texts leaves (listed ds)
term_of_as texts leaves _ = Err Script

-- an AND is an array of terms
abbrev pub and_of_as : Bool → List Leaf → Data → Result (List Term) Refusal
and_of_as texts leaves (array ds) = each_of (term_of_as texts leaves) (listed ds)
and_of_as texts leaves _ = Err Script

-- there are three values, the second a string
abbrev pub are_triple : List Data → Bool
are_triple (c ∷ string s ∷ v ∷ []) = true
are_triple _ = false

-- a JSON value is a triple: an array of three members, the second a string
abbrev pub is_triple : Data → Bool
is_triple (array ds) = are_triple (listed ds)
is_triple _ = false

-- the filter of one AND, or its refusal
abbrev pub only_and : Result (List Term) Refusal → Result (List (List Term)) Refusal
only_and (Ok terms) = Ok (terms ∷ [])
only_and (Err e) = Err e

-- an array of ANDs, or of triples, which are one AND
abbrev pub filter_in_as : Bool → List Leaf → List Data → Result (List (List Term)) Refusal
filter_in_as texts leaves [] = Ok []
filter_in_as texts leaves (d ∷ ds) = if is_triple d then only_and (each_of (term_of_as texts leaves) (d ∷ ds)) else each_of (and_of_as texts leaves) (d ∷ ds)

-- the ANDs of terms that a JSON value is: an array of ANDs, or of the triples of one AND; Script if it is no array
abbrev pub filter_of_as : Bool → List Leaf → Data → Result (List (List Term)) Refusal
filter_of_as texts leaves (array ds) = filter_in_as texts leaves (listed ds)
filter_of_as texts leaves _ = Err Script

-- a text is JSON, and these ANDs of terms
abbrev pub IsFilterTextAs : Bool → List Leaf → List ℕ → List (List Term) → Type 0
IsFilterTextAs texts leaves text ands = (d : Data) × (read text ≡ Some d) × (filter_of_as texts leaves d ≡ Ok ands)

-- a text is refused so: it is no JSON, or its first fault is this one
abbrev pub IsRefusedFilterAs : Bool → List Leaf → List ℕ → Refusal → Type 0
IsRefusedFilterAs texts leaves text Script = (d : Data) → read text ≡ Some d → filter_of_as texts leaves d ≡ Err Script
IsRefusedFilterAs texts leaves text RowShape = (d : Data) × (read text ≡ Some d) × (filter_of_as texts leaves d ≡ Err RowShape)
IsRefusedFilterAs texts leaves text Memory = Unit {0}
IsRefusedFilterAs texts leaves text _ = ⊥

-- ---- without texts

-- the ANDs of terms that a JSON value is, without texts of dates, times and decimals
abbrev pub filter_of : List Leaf → Data → Result (List (List Term)) Refusal
filter_of = filter_of_as false

-- a text is JSON, and these ANDs of terms, without texts of dates, times and decimals
abbrev pub IsFilterText : List Leaf → List ℕ → List (List Term) → Type 0
IsFilterText = IsFilterTextAs false

-- a text is refused so, without texts of dates, times and decimals
abbrev pub IsRefusedFilter : List Leaf → List ℕ → Refusal → Type 0
IsRefusedFilter = IsRefusedFilterAs false
