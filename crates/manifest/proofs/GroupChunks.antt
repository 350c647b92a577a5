-- The chunks of a group's record, one after the other.
use Rattle.std.proofs.Common.{◌≡◌, ℕ, zero, suc, ◌+◌, ◌<◌, ◌≤◌, List, [], ◌∷◌, ◌++◌, length, get_or, take, map, Option, Some, None, refl, ap, sym, ◌∙◌, subst, arith, inl, inr, ◌⊎◌}
use Rattle.std.specs.Prelude.{Contains, MatchOption}
use Rattle.std.specs.List.{slice_get}
use Rattle.std.proofs.lemmas.List.{get_or-map, length-map}
use Rattle.std.proofs.lemmas.Option.{same_Some as same_some}
use Rattle.lists.proofs.Slices.{take_next}
use Rattle.bits.specs.declared.refusal.Refusal.{Refusal}
use Rattle.bits.specs.declared.refusal.Refusal.TheVariants.{Schema, Codec, Page, Key, Limit, Memory}
use Rattle.bits.specs.Refusals.{HasCause, IsFault}
use Rattle.schema.specs.Shape.{Fields, no_fields, field, count}
use Rattle.schema.specs.Law.{IsSchema, AreValid}
use Rattle.schema.specs.Keys.{KeyColumn}
use Rattle.schema.specs.Stripe.{Leaf, leaves_of}
use Rattle.schema.proofs.Few.{count_leaves}
use Rattle.partition.specs.Folders.{part_path_of}
use Rattle.manifest.specs.Groups.{Group}
use Rattle.schema.specs.Fronts.{first_fields, IsFront, FrontsHaveFirstLeaves}
use Rattle.metadata.specs.Records.{ChunkMeta, GroupMeta}
use Rattle.statistics.specs.Bounds.{Statistics}
use Rattle.manifest.specs.Records.{placed, IsChunkRecord, AreChunkRecords, IsGroupRecord}
use Rattle.manifest.specs.KeptChunks.{unplaced}
use Rattle.manifest.specs.inner.Reading.{IsChunkFault, IsChunksFault, IsGroupFault, IsGroupsFault, IsRowsFault, FirstPath}

-- ---- refusals

pub key_fault : (e : Refusal) → HasCause (λ e. e ≡ Key) e → (e ≡ Memory → ⊥) → IsFault e
key_fault Memory c other = absurd (other refl)
key_fault e c other = subst IsFault (sym c) tt

-- what a chunk is refused for its group is
pub chunk_of_chunks : (cs : List ChunkMeta) (c : ChunkMeta) (e : Refusal) → Contains cs c → IsChunkFault c.meta_data e → IsChunksFault cs e
chunk_of_chunks cs c Schema at h = tt
chunk_of_chunks cs c Codec at h = (c, at, h)
chunk_of_chunks cs c Page at h = tt
chunk_of_chunks cs c Limit at h = (c, at, h)
chunk_of_chunks cs c Memory at h = tt
chunk_of_chunks cs c e at h = absurd h

pub chunks_of_group : (g : GroupMeta) (e : Refusal) → IsChunksFault g.columns e → IsGroupFault g e
chunks_of_group g Schema h = tt
chunks_of_group g Codec h = h
chunks_of_group g Page h = tt
chunks_of_group g Limit h = inr h
chunks_of_group g Memory h = tt
chunks_of_group g e h = absurd h

pub rows_of_group : (g : GroupMeta) (e : Refusal) → IsRowsFault g.num_rows e → IsGroupFault g e
rows_of_group g Page h = tt
rows_of_group g Limit h = inl h
rows_of_group g e h = absurd h

pub path_of_group : (g : GroupMeta) (e : Refusal) → HasCause (λ e. (e ≡ Key) ⊎ (e ≡ Page)) e → IsGroupFault g e
path_of_group g Memory h = tt
path_of_group g e (inl h) = subst (IsGroupFault g) (sym h) tt
path_of_group g e (inr h) = subst (IsGroupFault g) (sym h) tt

pub group_of_groups : (gs : List GroupMeta) (g : GroupMeta) (e : Refusal) → Contains gs g → IsGroupFault g e → IsGroupsFault gs e
group_of_groups gs g Schema at h = tt
group_of_groups gs g Codec at h = (g, at, h)
group_of_groups gs g Page at h = tt
group_of_groups gs g Key at h = tt
group_of_groups gs g Limit at h = (g, at, h)
group_of_groups gs g Memory at h = tt
group_of_groups gs g e at h = absurd h

-- ---- records at places

-- the record at a place
pub record_here : (path : List ℕ) (ls : List Leaf) (all own : List ChunkMeta) (known : List Statistics) (i : ℕ) (c : ChunkMeta) (l : Leaf)
    → all ≡ map (placed path) own → AreChunkRecords ls own known → slice_get all i ≡ Some c → slice_get ls i ≡ Some l
    → (c.file_path ≡ Some path) × ((s : Statistics) × IsChunkRecord l (unplaced c) s)
record_here path [] all own known i c l e are here leaf = cc
record_here path (m ∷ ls) all [] known i c l e are here leaf = absurd are
record_here path (m ∷ ls) all (d ∷ own) [] i c l e are here leaf = absurd are
record_here path (m ∷ ls) all (d ∷ own) (s ∷ known) zero c l e are here leaf =
    let first : placed path d ≡ c = some_is (sym (ap (λ (cs : List ChunkMeta). slice_get cs 0) e) ∙ here) in
    let same : m ≡ l = some_leaf leaf in
    let bare : d ≡ unplaced c = λ i. record { file_path = are.0.here i; file_offset = (first i).file_offset; meta_data = (first i).meta_data } in
    (sym (ap (λ (x : ChunkMeta). x.file_path) first), (s, subst (λ (x : ChunkMeta). IsChunkRecord l x s) bare (subst (λ (x : Leaf). IsChunkRecord x d s) same are.0)))
  where
    some_is : {x y : ChunkMeta} → Some x ≡ Some y → x ≡ y
    some_is h = cc

    some_leaf : {x y : Leaf} → Some x ≡ Some y → x ≡ y
    some_leaf h = cc
record_here path (m ∷ ls) all (d ∷ own) (s ∷ known) (suc i) c l e are here leaf =
    record_here path ls (map (placed path) own) own known i c l refl are.1 (sym (ap (λ (cs : List ChunkMeta). slice_get cs (suc i)) e) ∙ here) leaf

-- one more record
pub record_pushed : (ls : List Leaf) (own : List ChunkMeta) (known : List Statistics) (l : Leaf) (c : ChunkMeta) (s : Statistics)
    → AreChunkRecords ls own known → IsChunkRecord l c s → AreChunkRecords (ls ++ l ∷ []) (own ++ c ∷ []) (known ++ s ∷ [])
record_pushed [] [] [] l c s h k = (k, tt)
record_pushed [] [] (t ∷ known) l c s h k = absurd h
record_pushed [] (d ∷ own) known l c s h k = absurd h
record_pushed (m ∷ ls) [] known l c s h k = absurd h
record_pushed (m ∷ ls) (d ∷ own) [] l c s h k = absurd h
record_pushed (m ∷ ls) (d ∷ own) (t ∷ known) l c s h k = (h.0, record_pushed ls own known l c s h.1 k)

-- ---- as many chunks as leaves

pub are_many : (ls : List Leaf) (own : List ChunkMeta) (known : List Statistics) → AreChunkRecords ls own known → length ls ≡ length own
are_many [] [] [] h = refl
are_many [] [] (s ∷ known) h = absurd h
are_many [] (c ∷ own) known h = absurd h
are_many (l ∷ ls) [] known h = absurd h
are_many (l ∷ ls) (c ∷ own) [] h = absurd h
are_many (l ∷ ls) (c ∷ own) (s ∷ known) h = ap suc (are_many ls own known h.1)

pub get_taken : {A : Type 0} (xs : List A) (n i : ℕ) (x : A) → i < n → slice_get xs i ≡ Some x → slice_get (take n xs) i ≡ Some x
get_taken [] n i x lt e = cc
get_taken (y ∷ xs) zero i x lt e = absurd (omega (arith, lt))
get_taken (y ∷ xs) (suc n) zero x lt e = e
get_taken (y ∷ xs) (suc n) (suc i) x lt e = get_taken xs n i x (omega (arith, lt)) e

take_suc : {A : Type 0} (xs : List A) (i : ℕ) (x : A) → i < length xs → x ≡ get_or xs i x → take (suc i) xs ≡ take i xs ++ x ∷ []
take_suc [] i x lt e = absurd (omega (arith, lt))
take_suc {A} (y ∷ xs) zero x lt e = ap (λ (z : A). z ∷ []) (sym e)
take_suc {A} (y ∷ xs) (suc i) x lt e = ap (λ (l : List A). y ∷ l) (take_suc xs i x (omega (arith, lt)) e)

pub take_next_seen : {A B : Type 0} (f : A → B) (xs : List A) (i : ℕ) (x : A) → i < length xs → x ≡ get_or xs i x → take (i + 1) (map f xs) ≡ take i (map f xs) ++ f x ∷ []
take_next_seen f xs i x lt e = take_next (map f xs) i (f x) (omega (arith, lt, length-map xs f)) (sym (get_or-map f xs i x (f x) lt ∙ ap f (sym e)))

pub placed_back : (path : List ℕ) (c d : ChunkMeta) → c.file_path ≡ Some path → d ≡ unplaced c → placed path d ≡ c
placed_back path c d h e = ap (placed path) e ∙ (λ i. record { file_path = sym h i; file_offset = c.file_offset; meta_data = c.meta_data })

-- ---- the front that a group's file has

first_valid : (n : ℕ) (fs : Fields) → AreValid fs → AreValid (first_fields n fs)
first_valid zero fs h = tt
first_valid (suc n) no_fields h = tt
first_valid (suc n) (field f fs) h = (h.0, first_valid n fs h.1)

first_count : (n : ℕ) (fs : Fields) → n ≤ count fs → count (first_fields n fs) ≡ n
first_count zero fs h = refl
first_count (suc n) no_fields h = absurd (omega (arith, h))
first_count (suc n) (field f fs) h = ap suc (first_count n fs (omega (arith, h)))

pub some_leaves : (n : ℕ) (fs : Fields) → IsSchema fs → IsFront n fs → 1 ≤ length (leaves_of (first_fields n fs))
some_leaves n fs valid front =
    let many = count_leaves 0 (first_fields n fs) (first_valid n fs valid.1) in
    let size = first_count n fs front.there in
    let one = front.some in
    omega (arith, many, size, one)

-- the first chunk of a group names its part file
pub first_placed : (path : List ℕ) (own all : List ChunkMeta) (found : Option (List ℕ)) → all ≡ map (placed path) own → 1 ≤ length own → FirstPath all found → found ≡ Some path
first_placed path [] all found e some h = absurd (omega (arith, some))
first_placed path (c ∷ own) all found e some h = subst (λ (cs : List ChunkMeta). FirstPath cs found) e h

none_some : {A : Type 0} (o : Option A) (x : A) → o ≡ None → o ≡ Some x → ⊥
none_some o x p q = cc

-- how many chunks the record of a group has
pub group_chunks : (keys : List KeyColumn) (stored : Fields) (m : GroupMeta) (g : Group) → IsGroupRecord keys stored m g → length (leaves_of (first_fields g.width stored)) ≡ length m.columns
group_chunks keys stored m g r = are_many _ g.chunks g.known.leaves r.is.chunks ∙ sym (length-map g.chunks (placed (part_path_of keys g.key g.number))) ∙ sym (ap length r.placed_chunks)

pub no_front : (keys : List KeyColumn) (stored : Fields) (m : GroupMeta) (g : Group) (found : Option ℕ) (many : ℕ) → found ≡ None → many ≡ length m.columns
    → MatchOption found ((n : ℕ) → IsFront n stored → length (leaves_of (first_fields n stored)) ≡ many → ⊥) (λ n. IsFront n stored × (length (leaves_of (first_fields n stored)) ≡ many))
    → IsGroupRecord keys stored m g → ⊥
no_front keys stored m g None many none size never r = never g.width r.is.file (group_chunks keys stored m g r ∙ sym size)
no_front keys stored m g (Some n) many none size never r = cc

pub no_path : (keys : List KeyColumn) (stored : Fields) (m : GroupMeta) (g : Group) (found : Option (List ℕ)) → IsSchema stored → found ≡ None → FirstPath m.columns found → IsGroupRecord keys stored m g → ⊥
no_path keys stored m g found valid none first r =
    let some = some_leaves g.width stored valid r.is.file in
    let many = are_many _ g.chunks g.known.leaves r.is.chunks in
    none_some found _ none (first_placed (part_path_of keys g.key g.number) g.chunks m.columns found r.placed_chunks (omega (arith, some, many)) first)

-- a group's record is at the path that its first chunk names
pub path_is : (keys : List KeyColumn) (stored : Fields) (m : GroupMeta) (g : Group) (found : Option (List ℕ)) (path : List ℕ) → IsSchema stored → found ≡ Some path → FirstPath m.columns found → IsGroupRecord keys stored m g
    → part_path_of keys g.key g.number ≡ path
path_is keys stored m g found path valid there first r =
    let some = some_leaves g.width stored valid r.is.file in
    let many = are_many _ g.chunks g.known.leaves r.is.chunks in
    same_some _ _ (sym (first_placed (part_path_of keys g.key g.number) g.chunks m.columns found r.placed_chunks (omega (arith, some, many)) first) ∙ there)

-- its chunks, as of so many first leaves
pub chunks_are : FrontsHaveFirstLeaves → (keys : List KeyColumn) (stored : Fields) (m : GroupMeta) (g : Group) (ls : List Leaf) (n : ℕ) (path : List ℕ) → ls ≡ leaves_of stored → n ≡ length m.columns
    → part_path_of keys g.key g.number ≡ path → IsGroupRecord keys stored m g → (m.columns ≡ map (placed path) g.chunks) × AreChunkRecords (take n ls) g.chunks g.known.leaves
chunks_are fronts keys stored m g ls n path same size at r = (
  r.placed_chunks ∙ ap (λ (p : List ℕ). map (placed p) g.chunks) at,
  subst (λ (xs : List Leaf). AreChunkRecords xs g.chunks g.known.leaves)
      (fronts g.width stored ∙ ap (λ (k : ℕ). take k (leaves_of stored)) (group_chunks keys stored m g r ∙ sym size) ∙ ap (take n) (sym same)) r.is.chunks,
)

pub path_here : (path : List ℕ) (all own : List ChunkMeta) (i : ℕ) (c : ChunkMeta) → all ≡ map (placed path) own → slice_get all i ≡ Some c → c.file_path ≡ Some path
path_here path all own i c e here = by own i (sym (ap (λ (cs : List ChunkMeta). slice_get cs i) e) ∙ here)
  where
    by : (own : List ChunkMeta) (i : ℕ) → slice_get (map (placed path) own) i ≡ Some c → c.file_path ≡ Some path
    by [] i h = cc
    by (d ∷ own) zero h = sym (ap (λ (x : ChunkMeta). x.file_path) (same_some (placed path d) c h))
    by (d ∷ own) (suc i) h = by own i h
