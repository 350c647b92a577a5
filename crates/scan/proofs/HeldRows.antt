-- The chunks of a part file hold the columns of the group's rows.
use Rattle.std.proofs.Common.{◌≡◌, ◌<◌, ◌+◌, ◌-◌, ℕ, zero, suc, pos, true, false, not, List, [], ◌∷◌, ◌++◌, length, take, drop, map, Some, refl, ap, sym, subst, ◌∙◌, arith, zero-add, append_assoc, take-append-drop, ltb-true as less}
use Rattle.std.specs.Prelude.{nat_lt}
use Rattle.std.specs.List.{slice_get}
use Rattle.std.proofs.lemmas.Bool.{and_parts, not-true as not_false}
use Rattle.std.proofs.lemmas.List.Concat.{flat_map-cons}
use Rattle.schema.specs.declared.value.Repetition.{Repetition}
use Rattle.schema.specs.Values.{ValueTree, ValueTrees, group, member_at}
use Rattle.schema.specs.Shape.{Fields, repetition_of}
use Rattle.schema.specs.Fits.{RowsFit}
use Rattle.schema.specs.Stripe.{Step, Leaf, Entry, leaves_of, below, stripe, stripe_as, column}
use Rattle.schema.specs.Cutting.{is_among}
use Rattle.schema.specs.Keys.{KeyColumn, AreKeys, places_of, without_keys, AreRowsOf}
use Rattle.schema.proofs.LeafPlaces.{moved, count_gone, leaves_before, value_moved, Stays, field_stays, IsAt, leaf_is_at, leaf_stands, count_places}
use Rattle.metadata.specs.Records.{ChunkMeta}
use Rattle.statistics.specs.Bounds.{Statistics}
use Rattle.schema.specs.Fronts.{first_fields, padded}
use Rattle.byteorder.specs.Endian.{little_bytes}
use Rattle.footer.specs.File.{magic}
use Rattle.manifest.specs.Groups.{Group}
use Rattle.manifest.specs.Parts.{IsFullChunk, AreFullChunks, PartMeans}
use Rattle.row_group.specs.Chunks.{StartsAt, ChunkMeans}
use Rattle.row_group.specs.Limits.{IsChunkOver, large_chunk}
use Rattle.scan.specs.Cost.{place_of, keys_before, is_stored}
use Rattle.scan.specs.inner.Texts.{HasRange, IsText, IsHeld}
use Rattle.scan.proofs.Ranges.{same_bytes, one_start, one_size}
use Rattle.scan.proofs.StoredPlaces.{first_at, before_first, padded_at, moved_is}
use Rattle.scan.proofs.KeyValues.{gone_of, one_leaf}
use Rattle.scan.proofs.SameLeaves.{same_means, over_stays}

abbrev step : ℕ → Repetition → Step
step p r = record { place = p; repetition = r }

-- ---- columns

-- the column of a stored leaf is that of the table's leaf
pub same_column : (keys : List KeyColumn) (key : List ValueTree) (fs : Fields) (n p : ℕ) (r : Repetition) (way : List Step)
    → (let gone = is_among (places_of keys) in gone (0 + p) ≡ false → moved gone 0 p < n → (stored rows : List ValueTrees) → RowsFit (first_fields n fs) stored → AreRowsOf keys key (map (padded fs) stored) rows
    → column stored (step (moved gone 0 p) r ∷ way) ≡ column rows (step p r ∷ way))
same_column keys key fs n p r way kept lt [] [] fit h = refl
same_column keys key fs n p r way kept lt [] (row ∷ rows) fit h = absurd h
same_column keys key fs n p r way kept lt (s ∷ stored) [] fit h = absurd h
same_column keys key fs n p r way kept lt (s ∷ stored) (row ∷ rows) fit h =
    let gone = is_among (places_of keys) in
    let m = moved gone 0 p in
    let value : member_at m s ≡ member_at p row = sym (padded_at fs s m n lt fit.0) ∙ ap (member_at m) (sym h.0.besides) ∙ value_moved gone 0 p row kept in
    let first : stripe (step m r ∷ way) (group s) 0 0 0 ≡ stripe (step p r ∷ way) (group row) 0 0 0 = ap (λ (v : ValueTree). stripe_as r (stripe way) v 0 0 0) value in
    flat_map-cons (λ (x : ValueTrees). stripe (step m r ∷ way) (group x) 0 0 0) s stored
    ∙ (λ i. first i ++ same_column keys key fs n p r way kept lt stored rows fit.1 h.1 i)
    ∙ sym (flat_map-cons (λ (x : ValueTrees). stripe (step p r ∷ way) (group x) 0 0 0) row rows)

-- ---- the chunk of a leaf

pub record FullAt (front : List ℕ) (cs : List ChunkMeta) (k : ℕ) (l : Leaf) (es : List Entry) : Type 0 where
  pub chunk : ChunkMeta
  pub there : slice_get cs k ≡ Some chunk
  pub full : IsFullChunk front chunk.meta_data l es

pub full_at : (front : List ℕ) (stored : List ValueTrees) (ls : List Leaf) (cs : List ChunkMeta) (ss : List Statistics) → AreFullChunks front ls cs ss (map (λ (l : Leaf). column stored l.steps) ls)
    → (k : ℕ) (l : Leaf) → slice_get ls k ≡ Some l → FullAt front cs k l (column stored l.steps)
full_at front stored [] cs ss h k l at = absurd (cc)
full_at front stored (x ∷ ls) [] ss h k l at = absurd h
full_at front stored (x ∷ ls) (c ∷ cs) [] h k l at = absurd h
full_at front stored (x ∷ ls) (c ∷ cs) (y ∷ ss) h zero l at =
    let one : x ≡ l = cc in
    record { chunk = c; there = refl; full = subst (λ (z : Leaf). IsFullChunk front c.meta_data z (column stored z.steps)) one h.0 }
full_at front stored (x ∷ ls) (c ∷ cs) (y ∷ ss) h (suc k) l at =
    let rest = full_at front stored ls cs ss h.2 k l at in
    record { chunk = rest.chunk; there = rest.there; full = rest.full }

module _ (keys : List KeyColumn) (fs : Fields) (g : Group) (bytes : List ℕ) (rows : List ValueTrees) (are : AreKeys keys fs) (part : PartMeans keys (without_keys keys fs) g bytes rows)
    (n : ℕ) (l : Leaf) (among : slice_get (leaves_of fs) n ≡ Some l) (stored_is : is_stored (places_of keys) g.width (place_of l.steps) ≡ true) where
  abbrev others : Fields
  others = without_keys keys fs

  abbrev own_fields : Fields
  own_fields = first_fields g.width others

  at : IsAt 0 n fs l
  at = leaf_is_at 0 n fs l among

  place : place_of l.steps ≡ at.place
  place = ap (λ (x : Leaf). place_of x.steps) at.is ∙ zero-add at.place

  parts : (not (is_among (places_of keys) (place_of l.steps)) ≡ true) × (nat_lt (place_of l.steps - keys_before (places_of keys) (place_of l.steps)) g.width ≡ true)
  parts = and_parts _ _ stored_is

  kept : gone_of keys (0 + at.place) ≡ false
  kept = ap (gone_of keys) (zero-add at.place ∙ sym place) ∙ not_false _ parts.0

  abbrev m : ℕ
  m = moved (gone_of keys) 0 at.place

  before : keys_before (places_of keys) (place_of l.steps) ≡ count_gone (gone_of keys) 0 at.place
  before = ap (λ (p : ℕ). keys_before (places_of keys) p) place ∙ count_places (places_of keys) are.distinct at.place

  within : m < g.width
  within =
      let lt = less _ _ parts.1 in
      let b = before in
      let p = place in
      let s = moved_is (gone_of keys) 0 at.place in
      omega (arith, lt, b, p, s)

  stays : Stays (gone_of keys) 0 at.place fs at.of
  stays = field_stays (gone_of keys) 0 at.place fs at.of (one_leaf keys fs are) at.there kept

  abbrev k : ℕ
  k = n - keys_before (places_of keys) (place_of l.steps)

  index : leaves_before m own_fields + at.inner ≡ k
  index =
      let b = before in
      let c = stays.counted in
      let a = at.counted in
      let f = before_first g.width m others (let w = within in omega (arith, w)) in
      omega (arith, b, c, a, f)

  abbrev leaf_there : Leaf
  leaf_there = below (0 + m) at.of at.own

  stands : slice_get (leaves_of own_fields) k ≡ Some leaf_there
  stands = ap (slice_get (leaves_of own_fields)) (sym index) ∙ leaf_stands 0 m at.inner own_fields at.of at.own (first_at g.width m others at.of within stays.there) at.among

  full : FullAt part.holds.front g.chunks k leaf_there (column part.stored leaf_there.steps)
  full = full_at part.holds.front part.stored (leaves_of own_fields) g.chunks g.known.leaves part.holds.chunks k leaf_there stands

  same : column part.stored leaf_there.steps ≡ column rows l.steps
  same =
      ap (λ (p : ℕ). column part.stored (step p (repetition_of at.of) ∷ at.own.steps)) (zero-add m)
      ∙ same_column keys g.key others g.width at.place (repetition_of at.of) at.own.steps kept within part.stored rows part.holds.means.fit part.keyed
      ∙ ap (λ (p : ℕ). column rows (step p (repetition_of at.of) ∷ at.own.steps)) (sym (zero-add at.place))
      ∙ ap (λ (x : Leaf). column rows x.steps) (sym at.is)

  pub has_range : HasRange g.chunks k
  has_range = (full.full.start, full.full.size, record { chunk = full.chunk; there = full.there; starts = full.full.starts; sized = full.full.sized })

  pub is_held : (text : List ℕ) → IsText g.chunks bytes k text → IsHeld g.chunks k l text (column rows l.steps)
  is_held text t =
      let front = part.holds.front in
      let c = full.chunk in
      let size = full.full.size in
      let start = full.full.start in
      let footer = part.holds.file.footer in
      let sized_end = little_bytes 4 (length footer) in
      let behind : List ℕ = footer ++ (sized_end ++ magic) in
      let joined : bytes ≡ front ++ behind = part.holds.file.framed.joined ∙ append_assoc (front ++ footer) sized_end magic ∙ append_assoc front footer (sized_end ++ magic) in
      let one : Some t.range.chunk ≡ Some c = sym t.range.there ∙ full.there in
      let same_chunk : t.range.chunk ≡ c = cc one in
      let starts : StartsAt c.meta_data t.start = subst (λ (x : ChunkMeta). StartsAt x.meta_data t.start) same_chunk t.range.starts in
      let sized : c.meta_data.total_compressed_size ≡ Some (pos t.size) = subst (λ (x : ChunkMeta). x.meta_data.total_compressed_size ≡ Some (pos t.size)) same_chunk t.range.sized in
      let at_start : t.start ≡ start = one_start c.meta_data t.start start starts full.full.starts in
      let of_size : t.size ≡ size = one_size c.meta_data.total_compressed_size t.size size sized full.full.sized in
      let is : text ≡ take size (drop start front) =
      t.is ∙ (λ i. take (of_size i) (drop (at_start i) bytes))
      ∙ ap (λ (x : List ℕ). take size (drop start x)) joined
      ∙ same_bytes front behind start size full.full.there in
      let means : ChunkMeans c.meta_data leaf_there text (column part.stored leaf_there.steps) size = subst (λ (x : List ℕ). ChunkMeans c.meta_data leaf_there x (column part.stored leaf_there.steps) size) (sym is) full.full.fills in
      let here : ChunkMeans c.meta_data (below (0 + at.place) at.of at.own) text (column part.stored leaf_there.steps) size = same_means (0 + m) (0 + at.place) at.of at.own c.meta_data text (column part.stored leaf_there.steps) size means in
      record {
        chunk = c;
        there = full.there;
        used = size;
        means = subst (λ (es : List Entry). ChunkMeans c.meta_data l text es size) same (subst (λ (x : Leaf). ChunkMeans c.meta_data x text (column part.stored leaf_there.steps) size) (sym at.is) here);
        within_limits = λ over.
            let away : IsChunkOver c.meta_data (below (0 + at.place) at.of at.own) text = subst (λ (x : Leaf). IsChunkOver c.meta_data x text) at.is over in
            let more = over_stays (0 + at.place) (0 + m) at.of at.own c.meta_data text (drop size (drop start front)) away in
            let whole : text ++ drop size (drop start front) ≡ drop start front = ap (λ (x : List ℕ). x ++ drop size (drop start front)) is ∙ take-append-drop size (drop start front) in
            part.holds.within (large_chunk (record {
              k = k;
              chunk = c;
              leaf = leaf_there;
              of_group = subst (λ (cs : List ChunkMeta). slice_get cs k ≡ Some c) (sym part.holds.records) full.there;
              of_schema = stands;
              is = (start, full.full.starts, subst (IsChunkOver c.meta_data leaf_there) whole more);
            }));
      }
