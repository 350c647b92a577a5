-- A schema's fields as a list of cells, by which a proof tells two schemas apart.
use Rattle.std.specs.Prelude.{◌≡◌, ℕ, zero, suc, ◌==◌, ℤ, pos, List, [], ◌∷◌, ◌++◌, Option, Some, None, if◌then◌else◌, refl}
use Rattle.std.proofs.Common.{ap, ◌∙◌, append_assoc, sym}
use Rattle.std.specs.Coded.{Coded, code_by, coded×, coded_ℕ, coded_ℤ, coded_list}
use Rattle.thrift_compact.specs.Tree as thrift
use Rattle.schema.specs.declared.value.Repetition.{Repetition}
use Rattle.schema.specs.declared.value.Repetition.TheVariants.{Required, Optional, Repeated}
use Rattle.schema.specs.declared.value.Kind.{Kind}
use Rattle.schema.specs.declared.value.Kind.TheVariants.{Boolean, Int32, Int64, ByteArray, FixedLenByteArray}
use Rattle.schema.specs.declared.annotation.ConvertedType.{ConvertedType}
use Rattle.schema.specs.declared.annotation.ConvertedType.TheVariants as converted
use Rattle.schema.specs.declared.annotation.GroupAnnotation.{GroupAnnotation}
use Rattle.schema.specs.declared.annotation.GroupAnnotation.TheVariants.{Map, MapKeyValue, List as ListOfItems}
use Rattle.schema.specs.Annotations.{Annotation, plain, known, other_converted, other_logical, LeafType, number_of, converted_types, numbered}
use Rattle.schema.specs.Shape.{Field, leaf, fields, Fields, no_fields, field}

-- a tree with two labels at each node, some natural numbers and some integers; and a list of such trees
mutual
  pub data Rose : Type 0 where
    rose : List ℕ → List ℤ → Roses → Rose

  pub data Roses : Type 0 where
    no_roses : Roses
    roses : Rose → Roses → Roses

-- a node of a tree in a list: its two labels, and the number of its children
abbrev pub Cell : Type 0
Cell = List ℕ × (List ℤ × ℕ)

-- the number of trees in a list of trees
abbrev pub size : Roses → ℕ
size no_roses = 0
size (roses r rs) = suc (size rs)

-- the cells of a tree, and of some trees, depth first
abbrev mutual
  pub cells : Rose → List Cell
  cells (rose a b rs) = (a, (b, size rs)) ∷ cells_each rs

  pub cells_each : Roses → List Cell
  cells_each no_roses = []
  cells_each (roses r rs) = cells r ++ cells_each rs

-- the first n of some trees; all of them if there are fewer
abbrev pub take_roses : ℕ → Roses → Roses
take_roses zero rs = no_roses
take_roses (suc n) no_roses = no_roses
take_roses (suc n) (roses r rs) = roses r (take_roses n rs)

-- the trees after the first n; none if there are no more than n
abbrev pub drop_roses : ℕ → Roses → Roses
drop_roses zero rs = rs
drop_roses (suc n) no_roses = no_roses
drop_roses (suc n) (roses r rs) = drop_roses n rs

-- the trees of one list, and then those of another
abbrev pub join_roses : Roses → Roses → Roses
join_roses no_roses qs = qs
join_roses (roses r rs) qs = roses r (join_roses rs qs)

-- the first trees of two joined lists are those of the first list
pub take_all : (rs qs : Roses) → take_roses (size rs) (join_roses rs qs) ≡ rs
take_all no_roses qs = refl
take_all (roses r rs) qs = ap (roses r) (take_all rs qs)

-- after the trees of the first list, two joined lists have those of the second
pub drop_all : (rs qs : Roses) → drop_roses (size rs) (join_roses rs qs) ≡ qs
drop_all no_roses qs = refl
drop_all (roses r rs) qs = drop_all rs qs

-- the tree of a cell, which takes as many of some trees for its children as it says, and the others after it
abbrev pub put : Cell → Roses → Roses
put (a, (b, n)) rs = roses (rose a b (take_roses n rs)) (drop_roses n rs)

-- the trees that a list of cells stands for
abbrev pub roses_from : List Cell → Roses
roses_from [] = no_roses
roses_from (x ∷ xs) = put x (roses_from xs)

join_none : (rs : Roses) → join_roses rs no_roses ≡ rs
join_none no_roses = refl
join_none (roses r rs) = ap (roses r) (join_none rs)

append_none : {A : Type 0} (xs : List A) → xs ++ [] ≡ xs
append_none [] = refl
append_none (x ∷ xs) = ap (λ t. x ∷ t) (append_none xs)

-- the cells of a tree, or of some trees, followed by other cells stand for these trees, followed by those of the other cells
mutual
  pub back_at : (r : Rose) (rest : List Cell) → roses_from (cells r ++ rest) ≡ roses r (roses_from rest)
  back_at (rose a b rs) rest =
      ap (λ t. put (a, (b, size rs)) t) (back_each rs rest)
      ∙ ap (λ t. roses (rose a b t) (drop_roses (size rs) (join_roses rs (roses_from rest)))) (take_all rs (roses_from rest))
      ∙ ap (roses (rose a b rs)) (drop_all rs (roses_from rest))

  pub back_each : (rs : Roses) (rest : List Cell) → roses_from (cells_each rs ++ rest) ≡ join_roses rs (roses_from rest)
  back_each no_roses rest = refl
  back_each (roses r rs) rest = ap roses_from (append_assoc (cells r) (cells_each rs) rest) ∙ back_at r (cells_each rs ++ rest) ∙ ap (roses r) (back_each rs rest)

-- the cells of some trees stand for these trees
pub roses_back : (rs : Roses) → roses_from (cells_each rs) ≡ rs
roses_back rs = ap roses_from (sym (append_none (cells_each rs))) ∙ back_each rs [] ∙ join_none rs

-- a code for lists of trees: their cells
abbrev pub roses_code : Coded Roses
roses_code = code_by (List Cell) (coded_list (coded× (coded_list coded_ℕ) (coded× (coded_list coded_ℤ) coded_ℕ))) cells_each roses_from roses_back

-- a value of the compact protocol as a tree, whose first number says its type; and values, pairs and fields as trees
abbrev mutual
  pub node_rose : thrift.Node → Rose
  node_rose thrift.yes = rose (0 ∷ []) [] no_roses
  node_rose thrift.no = rose (1 ∷ []) [] no_roses
  node_rose (thrift.flag b) = rose (2 ∷ b ∷ []) [] no_roses
  node_rose (thrift.i8 z) = rose (3 ∷ []) (z ∷ []) no_roses
  node_rose (thrift.i16 z) = rose (4 ∷ []) (z ∷ []) no_roses
  node_rose (thrift.i32 z) = rose (5 ∷ []) (z ∷ []) no_roses
  node_rose (thrift.i64 z) = rose (6 ∷ []) (z ∷ []) no_roses
  node_rose (thrift.double t) = rose (7 ∷ t) [] no_roses
  node_rose (thrift.binary t) = rose (8 ∷ t) [] no_roses
  node_rose (thrift.list k xs) = rose (9 ∷ k ∷ []) [] (nodes_roses xs)
  node_rose (thrift.set k xs) = rose (10 ∷ k ∷ []) [] (nodes_roses xs)
  node_rose thrift.empty_map = rose (11 ∷ []) [] no_roses
  node_rose (thrift.map k v ps) = rose (12 ∷ k ∷ v ∷ []) [] (pairs_roses ps)
  node_rose (thrift.struct fs) = rose (13 ∷ []) [] (members_roses fs)

  pub nodes_roses : thrift.Nodes → Roses
  nodes_roses thrift.no_nodes = no_roses
  nodes_roses (thrift.node x xs) = roses (node_rose x) (nodes_roses xs)

  pub pairs_roses : thrift.Pairs → Roses
  pairs_roses thrift.no_pairs = no_roses
  pairs_roses (thrift.pair x y ps) = roses (rose [] [] (roses (node_rose x) (roses (node_rose y) no_roses))) (pairs_roses ps)

  pub members_roses : thrift.Fields → Roses
  members_roses thrift.no_fields = no_roses
  members_roses (thrift.field id x fs) = roses (rose [] (id ∷ []) (roses (node_rose x) no_roses)) (members_roses fs)

-- the first of some numbers; 0 if there is none
abbrev pub first_of : List ℕ → ℕ
first_of [] = 0
first_of (n ∷ ns) = n

-- the numbers after the first
abbrev pub rest_of : List ℕ → List ℕ
rest_of [] = []
rest_of (n ∷ ns) = ns

-- the first of some integers; 0 if there is none
abbrev pub integer_of : List ℤ → ℤ
integer_of [] = pos 0
integer_of (z ∷ zs) = z

-- the value of the compact protocol with the type t: from the other labels of its tree, and from its children as values, as pairs and as fields
abbrev pub pick : ℕ → List ℕ → List ℤ → thrift.Nodes → thrift.Pairs → thrift.Fields → thrift.Node
pick t a b xs ps fs =
    if t == 0 then thrift.yes
    else if t == 1 then thrift.no
    else if t == 2 then thrift.flag (first_of a)
    else if t == 3 then thrift.i8 (integer_of b)
    else if t == 4 then thrift.i16 (integer_of b)
    else if t == 5 then thrift.i32 (integer_of b)
    else if t == 6 then thrift.i64 (integer_of b)
    else if t == 7 then thrift.double a
    else if t == 8 then thrift.binary a
    else if t == 9 then thrift.list (first_of a) xs
    else if t == 10 then thrift.set (first_of a) xs
    else if t == 11 then thrift.empty_map
    else if t == 12 then thrift.map (first_of a) (first_of (rest_of a)) ps
    else thrift.struct fs

-- the value of the compact protocol that a tree stands for; and the values, pairs and fields that some trees stand for
abbrev mutual
  pub node_from : Rose → thrift.Node
  node_from (rose a b rs) = pick (first_of a) (rest_of a) b (nodes_from rs) (pairs_from rs) (members_from rs)

  pub nodes_from : Roses → thrift.Nodes
  nodes_from no_roses = thrift.no_nodes
  nodes_from (roses r rs) = thrift.node (node_from r) (nodes_from rs)

  pub pairs_from : Roses → thrift.Pairs
  pairs_from no_roses = thrift.no_pairs
  pairs_from (roses (rose a b (roses x (roses y more))) rs) = thrift.pair (node_from x) (node_from y) (pairs_from rs)
  pairs_from (roses _ rs) = pairs_from rs

  pub members_from : Roses → thrift.Fields
  members_from no_roses = thrift.no_fields
  members_from (roses (rose a b (roses x more)) rs) = thrift.field (integer_of b) (node_from x) (members_from rs)
  members_from (roses _ rs) = members_from rs

-- the tree of a value of the compact protocol stands for that value, and the trees of values, pairs and fields for these
mutual
  pub node_back : (x : thrift.Node) → node_from (node_rose x) ≡ x
  node_back thrift.yes = refl
  node_back thrift.no = refl
  node_back (thrift.flag b) = refl
  node_back (thrift.i8 z) = refl
  node_back (thrift.i16 z) = refl
  node_back (thrift.i32 z) = refl
  node_back (thrift.i64 z) = refl
  node_back (thrift.double t) = refl
  node_back (thrift.binary t) = refl
  node_back (thrift.list k xs) = ap (thrift.list k) (nodes_back xs)
  node_back (thrift.set k xs) = ap (thrift.set k) (nodes_back xs)
  node_back thrift.empty_map = refl
  node_back (thrift.map k v ps) = ap (thrift.map k v) (pairs_back ps)
  node_back (thrift.struct fs) = ap thrift.struct (members_back fs)

  pub nodes_back : (xs : thrift.Nodes) → nodes_from (nodes_roses xs) ≡ xs
  nodes_back thrift.no_nodes = refl
  nodes_back (thrift.node x xs) = ap (λ t. thrift.node t (nodes_from (nodes_roses xs))) (node_back x) ∙ ap (thrift.node x) (nodes_back xs)

  pub pairs_back : (ps : thrift.Pairs) → pairs_from (pairs_roses ps) ≡ ps
  pairs_back thrift.no_pairs = refl
  pairs_back (thrift.pair x y ps) = ap (λ t. thrift.pair t (node_from (node_rose y)) (pairs_from (pairs_roses ps))) (node_back x) ∙ ap (λ t. thrift.pair x t (pairs_from (pairs_roses ps))) (node_back y) ∙ ap (thrift.pair x y) (pairs_back ps)

  pub members_back : (fs : thrift.Fields) → members_from (members_roses fs) ≡ fs
  members_back thrift.no_fields = refl
  members_back (thrift.field id x fs) = ap (λ t. thrift.field id t (members_from (members_roses fs))) (node_back x) ∙ ap (thrift.field id x) (members_back fs)

-- a number for a repetition, in a label
abbrev pub repetition_number : Repetition → ℕ
repetition_number Required = 0
repetition_number Optional = 1
repetition_number Repeated = 2

-- the repetition that a number in a label stands for
abbrev pub repetition_from : ℕ → Repetition
repetition_from n = if n == 0 then Required else if n == 1 then Optional else Repeated

repetition_back : (r : Repetition) → repetition_from (repetition_number r) ≡ r
repetition_back Required = refl
repetition_back Optional = refl
repetition_back Repeated = refl

-- a number for a physical type, in a label; that of fixed values is 4 more than their length
abbrev pub kind_number : Kind → ℕ
kind_number Boolean = 0
kind_number Int32 = 1
kind_number Int64 = 2
kind_number ByteArray = 3
kind_number (FixedLenByteArray n) = suc (suc (suc (suc n)))

-- the physical type that a number in a label stands for
abbrev pub kind_from : ℕ → Kind
kind_from zero = Boolean
kind_from (suc zero) = Int32
kind_from (suc (suc zero)) = Int64
kind_from (suc (suc (suc zero))) = ByteArray
kind_from (suc (suc (suc (suc n)))) = FixedLenByteArray n

kind_back : (k : Kind) → kind_from (kind_number k) ≡ k
kind_back Boolean = refl
kind_back Int32 = refl
kind_back Int64 = refl
kind_back ByteArray = refl
kind_back (FixedLenByteArray n) = refl

-- the converted type, or UTF8 if there is none
abbrev pub or_utf8 : Option ConvertedType → ConvertedType
or_utf8 (Some c) = c
or_utf8 None = converted.Utf8

-- the converted type of a leaf with this number, or UTF8 if none has it
abbrev pub converted_from : ℕ → ConvertedType
converted_from n = or_utf8 (numbered number_of (pos n) converted_types)

converted_back : (c : ConvertedType) → converted_from (number_of c) ≡ c
converted_back converted.Utf8 = refl
converted_back converted.Enum = refl
converted_back converted.Decimal = refl
converted_back converted.Date = refl
converted_back converted.TimeMillis = refl
converted_back converted.TimeMicros = refl
converted_back converted.TimestampMillis = refl
converted_back converted.TimestampMicros = refl
converted_back converted.Uint8 = refl
converted_back converted.Uint16 = refl
converted_back converted.Uint32 = refl
converted_back converted.Uint64 = refl
converted_back converted.Int8 = refl
converted_back converted.Int16 = refl
converted_back converted.Int32 = refl
converted_back converted.Int64 = refl
converted_back converted.Json = refl
converted_back converted.Bson = refl
converted_back converted.Interval = refl

-- the annotation of a leaf as a tree
abbrev pub annotation_rose : Annotation → Rose
annotation_rose plain = rose (0 ∷ []) [] no_roses
annotation_rose (known c) = rose (1 ∷ number_of c ∷ []) [] no_roses
annotation_rose (other_converted z) = rose (2 ∷ []) (z ∷ []) no_roses
annotation_rose (other_logical s) = rose (3 ∷ []) [] (members_roses s)

-- the annotation of a leaf that a tree stands for
abbrev pub annotation_from : Rose → Annotation
annotation_from (rose a b rs) =
    if first_of a == 0 then plain
    else if first_of a == 1 then known (converted_from (first_of (rest_of a)))
    else if first_of a == 2 then other_converted (integer_of b)
    else other_logical (members_from rs)

annotation_back : (a : Annotation) → annotation_from (annotation_rose a) ≡ a
annotation_back plain = refl
annotation_back (known c) = ap known (converted_back c)
annotation_back (other_converted z) = refl
annotation_back (other_logical s) = ap other_logical (members_back s)

-- an integer that may be absent, as a tree
abbrev pub option_rose : Option ℤ → Rose
option_rose None = rose (0 ∷ []) [] no_roses
option_rose (Some z) = rose (1 ∷ []) (z ∷ []) no_roses

-- the integer that a tree stands for; None if it is absent
abbrev pub option_from : Rose → Option ℤ
option_from (rose a b rs) = if first_of a == 0 then None else Some (integer_of b)

option_back : (o : Option ℤ) → option_from (option_rose o) ≡ o
option_back None = refl
option_back (Some z) = refl

-- a number for a group's annotation, in a label; 0 if there is none
abbrev pub group_number : Option GroupAnnotation → ℕ
group_number None = 0
group_number (Some Map) = 1
group_number (Some MapKeyValue) = 2
group_number (Some ListOfItems) = 3

-- the annotation of a group that a number in a label stands for; None if there is none
abbrev pub group_from : ℕ → Option GroupAnnotation
group_from n = if n == 0 then None else if n == 1 then Some Map else if n == 2 then Some MapKeyValue else Some ListOfItems

group_back : (a : Option GroupAnnotation) → group_from (group_number a) ≡ a
group_back None = refl
group_back (Some Map) = refl
group_back (Some MapKeyValue) = refl
group_back (Some ListOfItems) = refl

-- a field as a tree, and some fields as trees
abbrev mutual
  pub field_rose : Field → Rose
  field_rose (leaf n r t) = rose (0 ∷ repetition_number r ∷ kind_number t.kind ∷ n) [] (roses (annotation_rose t.annotation) (roses (option_rose t.scale) (roses (option_rose t.precision) no_roses)))
  field_rose (fields n r a fs) = rose (1 ∷ repetition_number r ∷ group_number a ∷ n) [] (fields_roses fs)

  pub fields_roses : Fields → Roses
  fields_roses no_fields = no_roses
  fields_roses (field f fs) = roses (field_rose f) (fields_roses fs)

-- the leaf type by the number of its physical type and by the trees of its annotation, its scale and its precision
abbrev pub type_from : ℕ → Roses → LeafType
type_from k (roses a (roses s (roses p more))) = record { kind = kind_from k; annotation = annotation_from a; scale = option_from s; precision = option_from p }
type_from k _ = record { kind = kind_from k; annotation = plain; scale = None; precision = None }

-- a leaf of this type if t is 0, else a group of these fields; `a` is the number of its repetition, that of its type or annotation, and its name
abbrev pub pick_field : ℕ → List ℕ → LeafType → Fields → Field
pick_field t a l fs = if t == 0 then leaf (rest_of (rest_of a)) (repetition_from (first_of a)) l else fields (rest_of (rest_of a)) (repetition_from (first_of a)) (group_from (first_of (rest_of a))) fs

-- the field that a tree stands for, and the fields that some trees stand for
abbrev mutual
  pub field_from : Rose → Field
  field_from (rose a b rs) = pick_field (first_of a) (rest_of a) (type_from (first_of (rest_of (rest_of a))) rs) (fields_from rs)

  pub fields_from : Roses → Fields
  fields_from no_roses = no_fields
  fields_from (roses r rs) = field (field_from r) (fields_from rs)

type_back : (t : LeafType) → type_from (kind_number t.kind) (roses (annotation_rose t.annotation) (roses (option_rose t.scale) (roses (option_rose t.precision) no_roses))) ≡ t
type_back t =
    ap (λ k. record { kind = k; annotation = annotation_from (annotation_rose t.annotation); scale = option_from (option_rose t.scale); precision = option_from (option_rose t.precision) }) (kind_back t.kind)
    ∙ ap (λ a. record { kind = t.kind; annotation = a; scale = option_from (option_rose t.scale); precision = option_from (option_rose t.precision) }) (annotation_back t.annotation)
    ∙ ap (λ o. record { kind = t.kind; annotation = t.annotation; scale = o; precision = option_from (option_rose t.precision) }) (option_back t.scale)
    ∙ ap (λ o. record { kind = t.kind; annotation = t.annotation; scale = t.scale; precision = o }) (option_back t.precision)

-- the tree of a field stands for that field, and the trees of some fields for these
mutual
  pub field_back : (f : Field) → field_from (field_rose f) ≡ f
  field_back (leaf n r t) = ap (λ x. leaf n x (type_from (kind_number t.kind) (roses (annotation_rose t.annotation) (roses (option_rose t.scale) (roses (option_rose t.precision) no_roses))))) (repetition_back r) ∙ ap (leaf n r) (type_back t)
  field_back (fields n r a fs) = ap (λ x. fields n x (group_from (group_number a)) (fields_from (fields_roses fs))) (repetition_back r) ∙ ap (λ x. fields n r x (fields_from (fields_roses fs))) (group_back a) ∙ ap (fields n r a) (fields_back fs)

  pub fields_back : (fs : Fields) → fields_from (fields_roses fs) ≡ fs
  fields_back no_fields = refl
  fields_back (field f fs) = ap (λ t. field t (fields_from (fields_roses fs))) (field_back f) ∙ ap (field f) (fields_back fs)

-- a code for the fields of a schema: their trees
abbrev pub fields_code : Coded Fields
fields_code = code_by Roses roses_code fields_roses fields_from fields_back
