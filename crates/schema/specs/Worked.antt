-- Two worked examples: the document of the Dremel paper (Melnik and others, 2010, figures 2 and 3), and the three-level list of LogicalTypes.md.
use Rattle.std.specs.Prelude.{◌≡◌, ℕ, pos, List, [], ◌∷◌, map, Some, None, codes}
use Rattle.schema.specs.declared.value.Repetition.TheVariants.{Required, Optional, Repeated}
use Rattle.schema.specs.declared.value.Kind.{Kind}
use Rattle.schema.specs.declared.value.Kind.TheVariants.{ByteArray, Int32, Int64}
use Rattle.schema.specs.Annotations.{LeafType, plain}
use Rattle.schema.specs.Values.{ValueTree, null, bytes, integer, group, list, ValueTrees, no_values, value as item}
use Rattle.schema.specs.Shape.{Field, leaf, fields, Fields, no_fields, field}
use Rattle.schema.specs.Fits.{RowsFit}
use Rattle.schema.specs.Stripe.{Entry, Leaf, leaves_of, columns}

-- a leaf type without annotation, scale and precision
abbrev pub plain_type : Kind → LeafType
plain_type k = record { kind = k; annotation = plain; scale = None; precision = None }

-- an entry with the repetition level r, the definition level d and a value
abbrev pub here : ℕ → ℕ → ValueTree → Entry
here r d v = record { repetition = r; definition = d; value = Some v }

-- an entry with the repetition level r and the definition level d, and without a value
abbrev pub none : ℕ → ℕ → Entry
none r d = record { repetition = r; definition = d; value = None }

-- the fields of a group with two of them
abbrev pub two : Field → Field → Fields
two f g = field f (field g no_fields)

-- a group of two values
abbrev pub pair : ValueTree → ValueTree → ValueTree
pair v w = group (item v (item w no_values))

-- the paper's field Links: an OPTIONAL group with the REPEATED numbers Backward and Forward
abbrev pub links : Field
links = fields (codes "Links") Optional None (two (leaf (codes "Backward") Repeated (plain_type Int64)) (leaf (codes "Forward") Repeated (plain_type Int64)))

-- the paper's field Language: a REPEATED group with a REQUIRED Code and an OPTIONAL Country
abbrev pub language : Field
language = fields (codes "Language") Repeated None (two (leaf (codes "Code") Required (plain_type ByteArray)) (leaf (codes "Country") Optional (plain_type ByteArray)))

-- the fields of the paper's schema Document: DocId, Links, and a REPEATED group Name with Language and an OPTIONAL Url
abbrev pub document : Fields
document = field (leaf (codes "DocId") Required (plain_type Int64)) (two links (fields (codes "Name") Repeated None (two language (leaf (codes "Url") Optional (plain_type ByteArray)))))

-- a list of numbers as values
abbrev pub numbers : List ℕ → ValueTrees
numbers [] = no_values
numbers (n ∷ ns) = item (integer (pos n)) (numbers ns)

-- the paper's record r1
abbrev pub first_record : ValueTrees
first_record =
    item (integer (pos 10))
    (item (pair (list no_values) (list (numbers (20 ∷ 40 ∷ 60 ∷ []))))
    (item (list
    (item (pair (list (item (pair (bytes (codes "en-us")) (bytes (codes "us"))) (item (pair (bytes (codes "en")) null) no_values))) (bytes (codes "http://A")))
    (item (pair (list no_values) (bytes (codes "http://B")))
    (item (pair (list (item (pair (bytes (codes "en-gb")) (bytes (codes "gb"))) no_values)) null) no_values)))) no_values))

-- the paper's record r2
abbrev pub second_record : ValueTrees
second_record =
    item (integer (pos 20))
    (item (pair (list (numbers (10 ∷ 30 ∷ []))) (list (numbers (80 ∷ []))))
    (item (list (item (pair (list no_values) (bytes (codes "http://C"))) no_values)) no_values))

-- both records of the paper, in order
abbrev pub records : List ValueTrees
records = first_record ∷ second_record ∷ []

-- the greatest levels of the leaves of the paper's schema, and the columns of its two records, as the paper shows them
pub record DocumentExample : Type 0 where
  pub fits : RowsFit document records
  pub repetitions : map (λ (l : Leaf). l.greatest_repetition) (leaves_of document) ≡ 0 ∷ 1 ∷ 1 ∷ 2 ∷ 2 ∷ 1 ∷ []
  pub definitions : map (λ (l : Leaf). l.greatest_definition) (leaves_of document) ≡ 0 ∷ 2 ∷ 2 ∷ 2 ∷ 3 ∷ 2 ∷ []
  pub columns : columns document records ≡
      (here 0 0 (integer (pos 10)) ∷ here 0 0 (integer (pos 20)) ∷ [])
      ∷ (none 0 1 ∷ here 0 2 (integer (pos 10)) ∷ here 1 2 (integer (pos 30)) ∷ [])
      ∷ (here 0 2 (integer (pos 20)) ∷ here 1 2 (integer (pos 40)) ∷ here 1 2 (integer (pos 60)) ∷ here 0 2 (integer (pos 80)) ∷ [])
      ∷ (here 0 2 (bytes (codes "en-us")) ∷ here 2 2 (bytes (codes "en")) ∷ none 1 1 ∷ here 1 2 (bytes (codes "en-gb")) ∷ none 0 1 ∷ [])
      ∷ (here 0 3 (bytes (codes "us")) ∷ none 2 2 ∷ none 1 1 ∷ here 1 3 (bytes (codes "gb")) ∷ none 0 1 ∷ [])
      ∷ (here 0 2 (bytes (codes "http://A")) ∷ here 1 2 (bytes (codes "http://B")) ∷ none 1 1 ∷ here 0 2 (bytes (codes "http://C")) ∷ [])
      ∷ []

-- the three-level list: optional group xs { repeated group list { optional int32 element } }
abbrev pub nested_list : Fields
nested_list = field (fields (codes "xs") Optional None (field (fields (codes "list") Repeated None (field (leaf (codes "element") Optional (plain_type Int32)) no_fields)) no_fields)) no_fields

-- one row of the nested list, in which xs is not null and has these items
abbrev pub xs_of : ValueTrees → List ValueTrees
xs_of items = item (group (item (list items) no_values)) no_values ∷ []

-- the items of a list of one element, which has this value
abbrev pub element : ValueTree → ValueTrees
element v = item (group (item v no_values)) no_values

-- the columns of one leaf, with one entry
abbrev pub one : Entry → List (List Entry)
one e = (e ∷ []) ∷ []

-- the entry of a null list, of an empty list, of a list of a null, and of a list of 7
pub record ListExample : Type 0 where
  pub null_list : columns nested_list (item null no_values ∷ []) ≡ one (none 0 0)
  pub empty_list : columns nested_list (xs_of no_values) ≡ one (none 0 1)
  pub null_element : columns nested_list (xs_of (element null)) ≡ one (none 0 2)
  pub seven : columns nested_list (xs_of (element (integer (pos 7)))) ≡ one (here 0 3 (integer (pos 7)))
