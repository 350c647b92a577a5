-- That a group can be in a table (`IsGroup`) has at most one proof, so a description can keep it as a fact.
use Rattle.std.proofs.Common.{◌≡◌, ◌≢◌, ℕ, ◌+◌, ◌≤◌, Bool, true, false, List, [], ◌∷◌, ◌++◌, length, map, drop, refl, sym, ap, subst, ◌∙◌, Option, Some, None}
use Rattle.std.specs.Prelude.{ℤ, pos, negsuc, All, IsTrue, slice_index, FitsSigned}
use Rattle.std.specs.Option.{MatchOption-prop}
use Rattle.std.specs.Int.{w32, w64, from_bool}
use Rattle.std.specs.List.{AllByRecursion, AllByRecursion-prop}
use Rattle.std.specs.Coded.{Coded, Coded-set, code_by, coded_ℕ, coded_ℤ, coded_bool, coded_list, coded_option, ×_prop, Unit-prop, le_prop}
use Rattle.std.proofs.Props.{props}
use Rattle.std.proofs.Math.Seq.{drop-append_seam}
use mathlib.Core.HLevel.{⊥_prop, Π_prop, →_prop, is_prop→PathP}
use Rattle.thrift_compact.specs.Tree as thrift
use Rattle.bits.specs.Bits.{IsPacked}
use Rattle.schema.specs.declared.value.Kind.{Kind}
use Rattle.schema.specs.declared.value.Kind.TheVariants.{Boolean, Int32, Int64, ByteArray, FixedLenByteArray}
use Rattle.schema.specs.Values.{ValueTree, null, boolean, integer, bytes, group, list, ValueTrees, no_values, value}
use Rattle.schema.specs.Shape.{Fields, no_fields, field, repetition_of}
use Rattle.schema.specs.declared.value.Repetition.{Repetition}
use Rattle.schema.specs.declared.value.Repetition.TheVariants.{Required, Optional, Repeated}
use Rattle.schema.specs.Stripe.{Leaf, leaves_of}
use Rattle.schema.specs.Law.{AllDiffer}
use Rattle.schema.specs.Keys.{KeyColumn, places_of}
use Rattle.schema.specs.Fronts.{first_fields, fields_after, AreOptional, IsFront}
use Rattle.schema.specs.inner.Code.{roses_code, nodes_roses, nodes_from, nodes_back, repetition_number, repetition_from}
use Rattle.plain.specs.Plain.{AreBytes, HasSpelling, spelling, IsSpelled, AreBooleans, IsPlain}
use Rattle.metadata.specs.Records.{ColumnMeta, ChunkMeta, Statistics as StatisticsRecord}
use Rattle.metadata.specs.Weight.{AreOwnStatistics, IsOwnColumn}
use Rattle.row_group.specs.Chunks.{IsChunkOf, first_page, StartsAt}
use Rattle.footer.specs.Greatest.{most_of_file}
use Rattle.footer.specs.inner.Code.{statistics_code}
use Rattle.statistics.specs.Bounds.{Statistics}
use Rattle.statistics.specs.Bytes.{IsBound, IsBoundAt}
use Rattle.partition.specs.Folders.{is_key, AreKeyColumns, CanPartition, folders}
use Rattle.manifest.specs.Handles.{Group}
use Rattle.manifest.specs.Ordered.{Distinct-prop}
use Rattle.manifest.specs.OneSpelling.{two}
use Rattle.manifest.specs.Records.{HasStatistics, IsChunkRecord, AreChunkRecords, IsGroup}

-- ---- values

-- a value as one of the compact protocol, by which a proof tells two values apart; and some values
abbrev mutual
  value_node : ValueTree → thrift.Node
  value_node null = thrift.empty_map
  value_node (boolean true) = thrift.yes
  value_node (boolean false) = thrift.no
  value_node (integer z) = thrift.i64 z
  value_node (bytes s) = thrift.binary s
  value_node (group vs) = thrift.list 0 (value_nodes vs)
  value_node (list vs) = thrift.set 0 (value_nodes vs)

  value_nodes : ValueTrees → thrift.Nodes
  value_nodes no_values = thrift.no_nodes
  value_nodes (value v vs) = thrift.node (value_node v) (value_nodes vs)

-- the value that one of the compact protocol stands for, and the values
abbrev mutual
  node_value : thrift.Node → ValueTree
  node_value thrift.yes = boolean true
  node_value thrift.no = boolean false
  node_value (thrift.i64 z) = integer z
  node_value (thrift.binary s) = bytes s
  node_value (thrift.list k xs) = group (node_values xs)
  node_value (thrift.set k xs) = list (node_values xs)
  node_value _ = null

  node_values : thrift.Nodes → ValueTrees
  node_values thrift.no_nodes = no_values
  node_values (thrift.node x xs) = value (node_value x) (node_values xs)

mutual
  value_back : (v : ValueTree) → node_value (value_node v) ≡ v
  value_back null = refl
  value_back (boolean true) = refl
  value_back (boolean false) = refl
  value_back (integer z) = refl
  value_back (bytes s) = refl
  value_back (group vs) = ap group (values_back vs)
  value_back (list vs) = ap list (values_back vs)

  values_back : (vs : ValueTrees) → node_values (value_nodes vs) ≡ vs
  values_back no_values = refl
  values_back (value v vs) = ap (λ t. value t (node_values (value_nodes vs))) (value_back v) ∙ ap (value v) (values_back vs)

abbrev nodes_code : Coded thrift.Nodes
nodes_code = code_by _ roses_code nodes_roses nodes_from nodes_back

abbrev first_value : ValueTrees → ValueTree
first_value no_values = null
first_value (value v vs) = v

abbrev values_code : Coded ValueTrees
values_code = code_by thrift.Nodes nodes_code value_nodes node_values values_back

first_back : (v : ValueTree) → first_value (value v no_values) ≡ v
first_back v = refl

abbrev value_code : Coded ValueTree
value_code = code_by ValueTrees values_code (λ v. value v no_values) first_value first_back

-- values are equal in at most one way
values-set : (vs ws : List ValueTree) → IsProp (vs ≡ ws)
values-set vs ws = Coded-set (coded_list value_code) vs ws

-- ---- bounds

nat : (m n : ℕ) → IsProp (m ≡ n)
nat m n = Coded-set coded_ℕ m n

texts : (s t : List ℕ) → IsProp (s ≡ t)
texts s t = Coded-set (coded_list coded_ℕ) s t

Bytes-prop : (s : List ℕ) → IsProp (AreBytes s)
Bytes-prop s = Π_prop (λ k. Π_prop (λ d. →_prop le_prop))

Fits-prop : (w : _) (z : ℤ) → IsProp (FitsSigned w z)
Fits-prop w z = hlevel props

HasSpelling-prop : (kind : Kind) (v : ValueTree) → IsProp (HasSpelling kind v)
HasSpelling-prop Boolean v = ⊥_prop
HasSpelling-prop Int32 null = ⊥_prop
HasSpelling-prop Int32 (boolean b) = ⊥_prop
HasSpelling-prop Int32 (integer z) = Fits-prop w32 z
HasSpelling-prop Int32 (bytes s) = ⊥_prop
HasSpelling-prop Int32 (group vs) = ⊥_prop
HasSpelling-prop Int32 (list vs) = ⊥_prop
HasSpelling-prop Int64 null = ⊥_prop
HasSpelling-prop Int64 (boolean b) = ⊥_prop
HasSpelling-prop Int64 (integer z) = Fits-prop w64 z
HasSpelling-prop Int64 (bytes s) = ⊥_prop
HasSpelling-prop Int64 (group vs) = ⊥_prop
HasSpelling-prop Int64 (list vs) = ⊥_prop
HasSpelling-prop ByteArray null = ⊥_prop
HasSpelling-prop ByteArray (boolean b) = ⊥_prop
HasSpelling-prop ByteArray (integer z) = ⊥_prop
HasSpelling-prop ByteArray (bytes s) = ×_prop (Bytes-prop s) le_prop
HasSpelling-prop ByteArray (group vs) = ⊥_prop
HasSpelling-prop ByteArray (list vs) = ⊥_prop
HasSpelling-prop (FixedLenByteArray k) null = ⊥_prop
HasSpelling-prop (FixedLenByteArray k) (boolean b) = ⊥_prop
HasSpelling-prop (FixedLenByteArray k) (integer z) = ⊥_prop
HasSpelling-prop (FixedLenByteArray k) (bytes s) = ×_prop (Bytes-prop s) (nat (length s) k)
HasSpelling-prop (FixedLenByteArray k) (group vs) = ⊥_prop
HasSpelling-prop (FixedLenByteArray k) (list vs) = ⊥_prop

Spelled-prop : (kind : Kind) (text : List ℕ) (v : ValueTree) (used : ℕ) → IsProp (IsSpelled kind text v used)
Spelled-prop kind text v used p q =
    let same : p.rest ≡ q.rest = sym (drop-append_seam (spelling kind v) p.rest) ∙ ap (drop (length (spelling kind v))) (sym p.front ∙ q.front)
    ∙ drop-append_seam (spelling kind v) q.rest in
    λ i. record {
      has = HasSpelling-prop kind v p.has q.has i;
      rest = same i;
      front = is_prop→PathP (λ j. text ≡ spelling kind v ++ same j) (λ j. texts text (spelling kind v ++ same j)) p.front q.front i;
      ends = nat used (length (spelling kind v)) p.ends q.ends i;
    }

-- one value stands in the whole text in at most one way
InTurn-prop : (kind : Kind) (text : List ℕ) (v : ValueTree) (used : ℕ) → IsProp ((first rest : ℕ) × IsSpelled kind text v first × (rest ≡ 0) × (used ≡ first + rest))
InTurn-prop kind text v used =
    two (λ u. IsSpelled kind text v u) (λ u w. w ≡ 0) (λ u w. used ≡ u + w) (λ u. Spelled-prop kind text v u) (λ u w. nat w 0) (λ u w. nat used (u + w))
    (λ u w p q. p.ends ∙ sym q.ends) (λ t u w p q. p ∙ sym q)

abbrev is_true : ValueTree → Bool
is_true (boolean b) = b
is_true _ = false

bools_back : (bs : List Bool) → map is_true (map boolean bs) ≡ bs
bools_back [] = refl
bools_back (b ∷ bs) = ap (λ ts. b ∷ ts) (bools_back bs)

Packed-prop : (text : List ℕ) (w : ℕ) (numbers : List ℕ) → IsProp (IsPacked text w numbers)
Packed-prop text w numbers p q = λ i. record {
  within = le_prop p.within q.within i;
  each = Π_prop (λ k. →_prop (nat (slice_index numbers k) _)) p.each q.each i;
}

Booleans-prop : (n : ℕ) (text : List ℕ) (vs : List ValueTree) (used : ℕ) → IsProp (AreBooleans n text vs used)
Booleans-prop n text vs used p q =
    let same : p.bools ≡ q.bools = sym (bools_back p.bools) ∙ ap (map is_true) (sym p.are ∙ q.are) ∙ bools_back q.bools in
    λ i. record {
      bools = same i;
      are = is_prop→PathP (λ j. vs ≡ map boolean (same j)) (λ j. values-set vs (map boolean (same j))) p.are q.are i;
      count = is_prop→PathP (λ j. length (same j) ≡ n) (λ j. nat (length (same j)) n) p.count q.count i;
      packed = is_prop→PathP (λ j. IsPacked text 1 (map from_bool (same j))) (λ j. Packed-prop text 1 (map from_bool (same j))) p.packed q.packed i;
      ends = nat used _ p.ends q.ends i;
    }

Bound-prop : (kind : Kind) (text : List ℕ) (v : ValueTree) → IsProp (IsBound kind text v)
Bound-prop Boolean text v = Booleans-prop 1 text (v ∷ []) (length text)
Bound-prop Int32 text v = ×_prop (nat 1 1) (InTurn-prop Int32 text v (length text))
Bound-prop Int64 text v = ×_prop (nat 1 1) (InTurn-prop Int64 text v (length text))
Bound-prop (FixedLenByteArray k) text v = ×_prop (nat 1 1) (InTurn-prop (FixedLenByteArray k) text v (length text))
Bound-prop ByteArray text null = ⊥_prop
Bound-prop ByteArray text (boolean b) = ⊥_prop
Bound-prop ByteArray text (integer z) = ⊥_prop
Bound-prop ByteArray text (bytes s) = ×_prop (Bytes-prop s) (texts text s)
Bound-prop ByteArray text (group vs) = ⊥_prop
Bound-prop ByteArray text (list vs) = ⊥_prop

BoundAt-prop : (kind : Kind) (text : Option (List ℕ)) (v : Option ValueTree) → IsProp (IsBoundAt kind text v)
BoundAt-prop kind None None = Unit-prop
BoundAt-prop kind (Some text) (Some v) = Bound-prop kind text v
BoundAt-prop kind None (Some v) = ⊥_prop
BoundAt-prop kind (Some text) None = ⊥_prop

-- ---- records of chunks

-- what is there is one thing
only_some : {A : Type 0} (x y : A) (o : Option A) → o ≡ Some x → o ≡ Some y → x ≡ y
only_some x y o p q = let same : Some x ≡ Some y = sym p ∙ q in cc

only_pos : (m n : ℕ) (z : ℤ) → z ≡ pos m → z ≡ pos n → m ≡ n
only_pos m n z p q = let same : pos m ≡ pos n = sym p ∙ q in cc

Statistics-prop : (leaf : Leaf) (m : ColumnMeta) (s : Statistics) → IsProp (HasStatistics leaf m s)
Statistics-prop leaf m s p q =
    let same : p.given ≡ q.given = only_some p.given q.given m.statistics p.there q.there in
    λ i. record {
      given = same i;
      there = is_prop→PathP (λ j. m.statistics ≡ Some (same j)) (λ j. Coded-set (coded_option statistics_code) m.statistics (Some (same j))) p.there q.there i;
      nulls = is_prop→PathP (λ j. (same j).null_count ≡ Some (pos s.nulls)) (λ j. Coded-set (coded_option coded_ℤ) (same j).null_count (Some (pos s.nulls)))
          p.nulls q.nulls i;
      min = is_prop→PathP (λ j. IsBoundAt leaf.leaf_type.kind (same j).min_value s.min) (λ j. BoundAt-prop leaf.leaf_type.kind (same j).min_value s.min)
          p.min q.min i;
      max = is_prop→PathP (λ j. IsBoundAt leaf.leaf_type.kind (same j).max_value s.max) (λ j. BoundAt-prop leaf.leaf_type.kind (same j).max_value s.max)
          p.max q.max i;
    }

First-prop : (o : Option ℤ) (page start : ℕ) → IsProp (first_page o page start)
First-prop None page start = nat start page
First-prop (Some (pos d)) page start = nat start _
First-prop (Some (negsuc d)) page start = ⊥_prop

first_is_one : (o : Option ℤ) (page start other : ℕ) → first_page o page start → first_page o page other → start ≡ other
first_is_one None page start other p q = p ∙ sym q
first_is_one (Some (pos d)) page start other p q = p ∙ sym q
first_is_one (Some (negsuc d)) page start other p q = absurd p

Starts-prop : (m : ColumnMeta) (start : ℕ) → IsProp (StartsAt m start)
Starts-prop m start p q =
    let same : p.page ≡ q.page = only_pos p.page q.page m.data_page_offset p.data_page q.data_page in
    λ i. record {
      page = same i;
      data_page = is_prop→PathP (λ j. m.data_page_offset ≡ pos (same j)) (λ j. Coded-set coded_ℤ m.data_page_offset (pos (same j))) p.data_page q.data_page i;
      begins = is_prop→PathP (λ j. first_page m.dictionary_page_offset (same j) start) (λ j. First-prop m.dictionary_page_offset (same j) start) p.begins q.begins i;
    }

start_is_one : (m : ColumnMeta) (start other : ℕ) → StartsAt m start → StartsAt m other → start ≡ other
start_is_one m start other p q =
    let same : p.page ≡ q.page = only_pos p.page q.page m.data_page_offset p.data_page q.data_page in
    first_is_one m.dictionary_page_offset q.page start other (subst (λ page. first_page m.dictionary_page_offset page start) same p.begins) q.begins

OwnStatistics-prop : (s : StatisticsRecord) → IsProp (AreOwnStatistics s)
OwnStatistics-prop s = hlevel props

Own-prop : (m : ColumnMeta) → IsProp (IsOwnColumn m)
Own-prop m p q = λ i. record {
  encodings = MatchOption-prop m.encodings _ _ Unit-prop (λ x. le_prop) p.encodings q.encodings i;
  path = le_prop p.path q.path i;
  names = Π_prop (λ k. Π_prop (λ d. →_prop le_prop)) p.names q.names i;
  statistics = MatchOption-prop m.statistics _ _ Unit-prop OwnStatistics-prop p.statistics q.statistics i;
}

ChunkOf-prop : (m : ColumnMeta) (leaf : Leaf) → IsProp (IsChunkOf m leaf)
ChunkOf-prop m leaf p q = λ i. record {
  path = Coded-set (coded_list (coded_list coded_ℕ)) m.path_in_schema leaf.path p.path q.path i;
  kind = Coded-set coded_ℤ m.kind _ p.kind q.kind i;
  codec = Coded-set coded_ℤ m.codec (pos 0) p.codec q.codec i;
}

ChunkRecord-prop : (leaf : Leaf) (c : ChunkMeta) (s : Statistics) → IsProp (IsChunkRecord leaf c s)
ChunkRecord-prop leaf c s p q =
    let m = c.meta_data in
    let entries : p.entries ≡ q.entries = only_pos p.entries q.entries m.num_values p.counted q.counted in
    let start : p.start ≡ q.start = start_is_one m p.start q.start p.starts q.starts in
    let size : p.size ≡ q.size = only_pos p.size q.size (pos p.size) refl (only_some (pos p.size) (pos q.size) m.total_compressed_size p.sized q.sized) in
    λ i. record {
      here = Coded-set (coded_option (coded_list coded_ℕ)) c.file_path None p.here q.here i;
      of_leaf = ChunkOf-prop m leaf p.of_leaf q.of_leaf i;
      entries = entries i;
      counted = is_prop→PathP (λ j. m.num_values ≡ pos (entries j)) (λ j. Coded-set coded_ℤ m.num_values (pos (entries j))) p.counted q.counted i;
      within_limits = →_prop ⊥_prop p.within_limits q.within_limits i;
      start = start i;
      starts = is_prop→PathP (λ j. StartsAt m (start j)) (λ j. Starts-prop m (start j)) p.starts q.starts i;
      size = size i;
      sized = is_prop→PathP (λ j. m.total_compressed_size ≡ Some (pos (size j)))
          (λ j. Coded-set (coded_option coded_ℤ) m.total_compressed_size (Some (pos (size j)))) p.sized q.sized i;
      within_file = is_prop→PathP (λ j. size j ≤ most_of_file) (λ j. le_prop) p.within_file q.within_file i;
      statistics = Statistics-prop leaf m s p.statistics q.statistics i;
      own = Own-prop m p.own q.own i;
    }

ChunkRecords-prop : (leaves : List Leaf) (cs : List ChunkMeta) (ss : List Statistics) → IsProp (AreChunkRecords leaves cs ss)
ChunkRecords-prop [] [] [] = Unit-prop
ChunkRecords-prop [] [] (s ∷ ss) = ⊥_prop
ChunkRecords-prop [] (c ∷ cs) [] = ⊥_prop
ChunkRecords-prop [] (c ∷ cs) (s ∷ ss) = ⊥_prop
ChunkRecords-prop (leaf ∷ leaves) [] [] = ⊥_prop
ChunkRecords-prop (leaf ∷ leaves) [] (s ∷ ss) = ⊥_prop
ChunkRecords-prop (leaf ∷ leaves) (c ∷ cs) [] = ⊥_prop
ChunkRecords-prop (leaf ∷ leaves) (c ∷ cs) (s ∷ ss) = ×_prop (ChunkRecord-prop leaf c s) (ChunkRecords-prop leaves cs ss)

-- ---- groups

Differ-prop : (ns : List (List ℕ)) → IsProp (AllDiffer ns)
Differ-prop [] = Unit-prop
Differ-prop (n ∷ ns) = ×_prop (AllByRecursion-prop (λ m. n ≡ m → ⊥) (λ m. →_prop ⊥_prop) ns) (Differ-prop ns)

KeyColumns-prop : (columns : List KeyColumn) → IsProp (AreKeyColumns columns)
KeyColumns-prop columns p q = λ i. record {
  at_most_eight = le_prop p.at_most_eight q.at_most_eight i;
  named = AllByRecursion-prop (λ (c : KeyColumn). c.name ≢ []) (λ c. →_prop ⊥_prop) columns p.named q.named i;
  names_differ = Differ-prop (map (λ (c : KeyColumn). c.name) columns) p.names_differ q.names_differ i;
  places_differ = Distinct-prop (places_of columns) p.places_differ q.places_differ i;
}

Partition-prop : (columns : List KeyColumn) (key : List ValueTree) → IsProp (CanPartition columns key)
Partition-prop columns key p q = λ i. record {
  keyed = KeyColumns-prop columns p.keyed q.keyed i;
  values = Coded-set coded_bool (is_key columns key) true p.values q.values i;
  within_limits = AllByRecursion-prop (λ f. length f ≤ 255) (λ f. le_prop) (folders columns key) p.within_limits q.within_limits i;
}

repetition_back : (r : Repetition) → repetition_from (repetition_number r) ≡ r
repetition_back Required = refl
repetition_back Optional = refl
repetition_back Repeated = refl

Optional-prop : (fs : Fields) → IsProp (AreOptional fs)
Optional-prop no_fields = Unit-prop
Optional-prop (field f fs) = ×_prop (Coded-set (code_by ℕ coded_ℕ repetition_number repetition_from repetition_back) (repetition_of f) Optional) (Optional-prop fs)

Front-prop : (n : ℕ) (fs : Fields) → IsProp (IsFront n fs)
Front-prop n fs p q = λ i. record {
  some = le_prop p.some q.some i;
  there = le_prop p.there q.there i;
  optional = Optional-prop (fields_after n fs) p.optional q.optional i;
}

Group-prop : (keys : List KeyColumn) (stored : Fields) (g : Group) → IsProp (IsGroup keys stored g)
Group-prop keys stored g p q = λ i. record {
  some = le_prop p.some q.some i;
  within_limits = →_prop ⊥_prop p.within_limits q.within_limits i;
  keyed = Partition-prop keys g.key p.keyed q.keyed i;
  file = Front-prop g.width stored p.file q.file i;
  chunks = ChunkRecords-prop (leaves_of (first_fields g.width stored)) g.chunks g.known.leaves p.chunks q.chunks i;
}

-- there is at most one proof that a table with these keys, whose files have these fields, can have the groups
pub Groups-prop : (keys : List KeyColumn) (stored : Fields) (gs : List Group) → IsProp (AllByRecursion (IsGroup keys stored) gs)
Groups-prop keys stored gs = AllByRecursion-prop (IsGroup keys stored) (Group-prop keys stored) gs
