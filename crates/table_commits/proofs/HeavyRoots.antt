-- A root's record weighs no more than a root of its table may.
use Rattle.std.proofs.Common.{◌≡◌, ℕ, ◌+◌, ◌≤◌, List, [], ◌∷◌, length, map, refl, ap, sym, subst, ◌∙◌, arith}
use Rattle.std.specs.Prelude.{sum_by}
use Rattle.std.specs.List.{AllZip, AllByRecursion}
use Rattle.std.proofs.lemmas.List.Sums.{sum_by-cons, sum_by-take-le}
use Rattle.schema.specs.Values.{ValueTree}
use Rattle.schema.specs.Shape.{Fields}
use Rattle.schema.specs.Stripe.{Leaf, leaves_of}
use Rattle.schema.specs.Listed.{elements_of}
use Rattle.schema.specs.Keys.{KeyColumn, without_keys}
use Rattle.metadata.specs.Records.{ChunkMeta}
use Rattle.metadata.specs.Weight.{element_weight, key_weight, chunk_weight as record_chunk_weight, group_weight as record_group_weight}
use Rattle.statistics.specs.Bounds.{Statistics}
use Rattle.partition.specs.Folders.{part_path_of}
use Rattle.manifest.specs.Groups.{Group as FileGroup, Root}
use Rattle.schema.specs.Fronts.{first_fields}
use Rattle.manifest.specs.Records.{placed, IsChunkRecord, AreChunkRecords, IsGroup}
use Rattle.manifest.specs.Root.{stored_of}
use Rattle.manifest.specs.Laid.{group_record}
use Rattle.schema.proofs.FrontLeaves.{fronts_have_first_leaves}
use Rattle.table.specs.Table.{Group, Table}
use Rattle.table.specs.Weights.{group_weight}
use Rattle.table_commits.specs.Weighing.{IsDescribedGroup, HeavyRootsAreTooMuch}

-- ---- a chunk and a group

-- a chunk of the leaf in the file at this path
abbrev chunk_at : List ℕ → Leaf → ℕ
chunk_at path l = 512 + sum_by (λ name. length name) l.path + length path

-- a group in the file at this path, with chunks of these leaves
abbrev group_at : List ℕ → List Leaf → ℕ
group_at path leaves = 64 + sum_by (chunk_at path) leaves

chunk_weighs : (path : List ℕ) (l : Leaf) (c : ChunkMeta) (s : Statistics) → IsChunkRecord l c s → record_chunk_weight (placed path c) ≡ chunk_at path l
chunk_weighs path l c s is = ap (λ (names : List (List ℕ)). 512 + sum_by (λ name. length name) names + length path) is.of_leaf.path

chunks_weigh : (path : List ℕ) (ls : List Leaf) (cs : List ChunkMeta) (ss : List Statistics) → AreChunkRecords ls cs ss → sum_by record_chunk_weight (map (placed path) cs) ≡ sum_by (chunk_at path) ls
chunks_weigh path [] [] [] are = refl
chunks_weigh path (l ∷ ls) (c ∷ cs) (s ∷ ss) are =
    let one = chunk_weighs path l c s are.0 in
    let rest = chunks_weigh path ls cs ss are.1 in
    omega (arith, one, rest, sum_by-cons record_chunk_weight (placed path c) (map (placed path) cs), sum_by-cons (chunk_at path) l ls)
chunks_weigh path [] [] (s ∷ ss) are = absurd are
chunks_weigh path [] (c ∷ cs) ss are = absurd are
chunks_weigh path (l ∷ ls) [] ss are = absurd are
chunks_weigh path (l ∷ ls) (c ∷ cs) [] are = absurd are

-- the first fields weigh no more than all
front_weighs : (path : List ℕ) (n : ℕ) (fs : Fields) → sum_by (chunk_at path) (leaves_of (first_fields n fs)) ≤ sum_by (chunk_at path) (leaves_of fs)
front_weighs path n fs =
    let some = leaves_of (first_fields n fs) in
    subst (λ (ls : List Leaf). sum_by (chunk_at path) ls ≤ sum_by (chunk_at path) (leaves_of fs)) (sym (fronts_have_first_leaves n fs)) (sum_by-take-le (chunk_at path) (leaves_of fs) (length some))

same_group : (keys more : List KeyColumn) (schema other : Fields) (key that : List ValueTree) (number another : ℕ) → keys ≡ more → schema ≡ other → that ≡ key → another ≡ number
    → group_at (part_path_of keys key number) (leaves_of (without_keys keys schema)) ≡ group_at (part_path_of more that another) (leaves_of (without_keys more other))
same_group keys more schema other key that number another p q r s = cc

group_weighs : (root : Root) (t : Table) (file : FileGroup) (g : Group) → root.schema ≡ t.schema → root.keys ≡ t.keys → IsGroup root.keys (stored_of root) file → IsDescribedGroup file g
    → record_group_weight (group_record root.keys file) ≤ group_weight t g
group_weighs root t file g schema keys is of_table =
    let path = part_path_of root.keys file.key file.number in
    let own = chunks_weigh path (leaves_of (first_fields file.width (stored_of root))) file.chunks file.known.leaves is.chunks in
    let less = front_weighs path file.width (stored_of root) in
    let same : group_at path (leaves_of (stored_of root)) ≡ group_weight t g = same_group root.keys t.keys root.schema t.schema file.key g.key file.number g.number keys schema of_table.key of_table.number in
    omega (arith, own, less, same)

groups_weigh : (root : Root) (t : Table) → root.schema ≡ t.schema → root.keys ≡ t.keys → (files : List FileGroup) (groups : List Group) → AllByRecursion (IsGroup root.keys (stored_of root)) files → AllZip IsDescribedGroup files groups
    → sum_by record_group_weight (map (group_record root.keys) files) ≤ sum_by (group_weight t) groups
groups_weigh root t schema keys [] [] each all = omega arith
groups_weigh root t schema keys [] (g ∷ gs) each all = absurd all
groups_weigh root t schema keys (f ∷ fs) [] each all = absurd all
groups_weigh root t schema keys (f ∷ fs) (g ∷ gs) each all =
    let one = group_weighs root t f g schema keys each.0 all.0 in
    let rest = groups_weigh root t schema keys fs gs each.1 all.1 in
    omega (arith, one, rest, sum_by-cons record_group_weight (group_record root.keys f) (map (group_record root.keys) fs), sum_by-cons (group_weight t) g gs)

-- ---- the whole

keys_weigh : (keys : List KeyColumn) → sum_by key_weight (map (λ (k : KeyColumn). k.name) keys) ≡ sum_by (λ (k : KeyColumn). key_weight k.name) keys
keys_weigh [] = refl
keys_weigh (k ∷ keys) =
    sum_by-cons key_weight k.name (map (λ (l : KeyColumn). l.name) keys) ∙ ap (λ (n : ℕ). key_weight k.name + n) (keys_weigh keys) ∙ sym (sum_by-cons (λ (l : KeyColumn). key_weight l.name) k keys)

same_elements : (keys more : List KeyColumn) (schema other : Fields) → keys ≡ more → schema ≡ other → sum_by element_weight (elements_of (without_keys keys schema)) ≡ sum_by element_weight (elements_of (without_keys more other))
same_elements keys more schema other p q = cc

pub heavy_roots_are_too_much : HeavyRootsAreTooMuch
heavy_roots_are_too_much root t each is heavy =
    let elements = same_elements root.keys t.keys root.schema t.schema is.keys is.schema in
    let groups = groups_weigh root t is.schema is.keys root.groups t.groups each is.groups in
    let names = keys_weigh root.keys ∙ ap (λ (keys : List KeyColumn). sum_by (λ (k : KeyColumn). key_weight k.name) keys) is.keys in
    omega (arith, elements, groups, names, heavy)
