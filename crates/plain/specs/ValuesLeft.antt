-- The values that a cursor still gives.
use Rattle.std.specs.Prelude.{◌≡◌, ℕ, Bool, true, false, List, [], ◌∷◌, ◌++◌, length, min, Option, None, Some}
use Rattle.std.specs.List.{Any}
use Rattle.schema.specs.declared.value.Kind.{Kind}
use Rattle.schema.specs.Values.{ValueTree}
use Rattle.schema.specs.declared.borrowed.ValueRef.{ValueRef}
use Rattle.schema.specs.Borrowed.{value_ref_view}
use Rattle.plain.specs.Plain.{IsPlain, IsTooLong}
use Rattle.plain.specs.ValuesFrom.{values_from}
use Rattle.plain.specs.declared.cursor.Values.{Values}

-- the values that are not taken yet
abbrev pub values_left : Values → List ValueTree
values_left c = values_from c.kind c.left c.at c.bytes.now

-- the value that was taken last
abbrev pub last_taken : Values → ValueTree
last_taken c = value_ref_view c.taken

-- one value is taken and returned, or none at the end; the one that was taken last stays
abbrev pub Gives : Values → Values → Option ValueRef → Type 0
Gives old new (Some v) = (values_left old ≡ value_ref_view v ∷ values_left new) × (last_taken new ≡ last_taken old)
Gives old new None = (values_left old ≡ []) × (new ≡ old)

-- one value is taken, or none at the end
abbrev pub Advances : Values → Values → Bool → Type 0
Advances old new true = values_left old ≡ last_taken new ∷ values_left new
Advances old new false = (values_left old ≡ []) × (values_left new ≡ []) × (last_taken new ≡ last_taken old)

-- the physical type of the values
abbrev pub kind_of : Values → Kind
kind_of c = c.kind

-- the next values, `n` or all where there are fewer, are taken; the bytes are theirs in PLAIN, no more, and none of them is too long
pub record TakesBytes (n : ℕ) (old new : Values) (text : List ℕ) : Type 0 where
  pub taken : List ValueTree
  pub joined : values_left old ≡ taken ++ values_left new
  pub count : length taken ≡ min n (length (values_left old))
  pub spelled : IsPlain (kind_of old) (length taken) text taken (length text)
  pub short : Any IsTooLong taken → ⊥
  pub same_kind : kind_of new ≡ kind_of old
