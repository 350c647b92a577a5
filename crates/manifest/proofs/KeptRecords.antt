-- Records of chunks that are kept as bytes: what is written, and what is read again.
use Rattle.std.proofs.Common.{◌≡◌, ◌⊎◌, ⊎_elim, ℕ, ◌+◌, ◌-◌, ◌≤◌, ◌<◌, List, [], ◌∷◌, ◌++◌, length, slice_index_or, take, drop, map, refl, sym, ap, subst, ◌∙◌, arith, append_assoc}
use Rattle.std.specs.Prelude.{Some, None}
use Rattle.std.proofs.Math.Seq.{drop-append_seam}
use Rattle.std.proofs.lemmas.List.{append-nil, length-append, length-drop, drop-append-le, drop_more, take-append-le, take_all}
use Rattle.std.proofs.lemmas.List.Sums.{sum_by-cons}
use Rattle.bits.specs.declared.refusal.Refusal.{Refusal}
use Rattle.bits.specs.declared.refusal.Refusal.TheVariants.{Truncated, Thrift, Memory}
use Rattle.bits.specs.Refusals.{IsFault, HasCause}
use Rattle.bits.specs.Codec.{Appends}
use Rattle.metadata.specs.Records.{ChunkMeta}
use Rattle.metadata.specs.Begun.{AppendsChunkRest, BeginsChunk, BeginsGroup, ChunksFollow, GroupsGrow}
use Rattle.metadata.specs.ToTree.{chunk_meta_fields}
use Rattle.metadata.specs.FromTree.{chunk_meta}
use Rattle.metadata.specs.Answers.{StandsFor}
use Rattle.manifest.specs.KeptChunks.{IsRestOf, AreRestsOf, sizes_of, size_by, unplaced}
use Rattle.manifest.specs.KeptChunks.{placed}

-- what is refused for no fault is refused for memory
pub memory_left : (e : Refusal) → HasCause (λ f. (f ≡ Truncated) ⊎ (f ≡ Thrift)) e → (IsFault e → ⊥) → HasCause (λ f. ⊥) e
memory_left Memory p none = p
memory_left Truncated p none = none tt
memory_left Thrift p none = none tt
memory_left e p none = ⊎_elim (λ h. let no : ⊥ = cc in no) (λ h. let no : ⊥ = cc in no) p

-- what is appended to some bytes is appended to any others
pub appends_to : (S : List ℕ → ℕ → Type 0) (most : ℕ) (old text other : List ℕ) → Appends S most [] text → Appends S most other (other ++ text)
appends_to S most old text other p = record { text = p.text; joined = ap (λ (t : List ℕ). other ++ t) p.joined; stands = p.stands; short = p.short }

-- ---- what is written

-- the end of the last of these, or the place before them
abbrev pub last_end : ℕ → List ℕ → ℕ
last_end at [] = at
last_end at (end ∷ ends) = last_end end ends

pub last_pushed : (at : ℕ) (ends : List ℕ) (end : ℕ) → last_end at (ends ++ end ∷ []) ≡ end
last_pushed at [] end = refl
last_pushed at (e ∷ ends) end = last_pushed e ends end

-- the rests so far end where the bytes do
pub record AreWritten (bytes ends : List ℕ) (cs : List ChunkMeta) : Type 0 where
  pub rests : AreRestsOf bytes 0 ends cs
  pub whole : last_end 0 ends ≡ length bytes

pub none_written : (bytes ends : List ℕ) → bytes ≡ [] → ends ≡ [] → AreWritten bytes ends []
none_written bytes ends b e = subst (λ (t : List ℕ). AreWritten t ends []) (sym b) (subst (λ (t : List ℕ). AreWritten [] t []) (sym e) (record { rests = tt; whole = refl }))

same_slice : (bytes text : List ℕ) (at end : ℕ) → at ≤ end → end ≤ length bytes → take (end - at) (drop at (bytes ++ text)) ≡ take (end - at) (drop at bytes)
same_slice bytes text at end low high =
    ap (take (end - at)) (drop-append-le at bytes text (omega (arith, low, high))) ∙ take-append-le (end - at) (drop at bytes) text (omega (arith, low, high, length-drop at bytes))

-- the text of a rest that was written at the end of bytes
rest_at_end : (bytes new : List ℕ) (at : ℕ) (c : ChunkMeta) → at ≡ length bytes → c.file_path ≡ None → AppendsChunkRest c bytes new → IsRestOf (take (length new - at) (drop at new)) c
rest_at_end bytes new at c here none p =
    let past : drop at new ≡ p.text = (λ i. drop (here i) (p.joined i)) ∙ drop-append_seam bytes p.text in
    let size = ap length p.joined ∙ length-append bytes p.text in
    let all : take (length new - at) (drop at new) ≡ p.text = ap (take (length new - at)) past ∙ take_all (length new - at) p.text (omega (arith, here, size)) in
    record { here = none; written = record { text = p.text; joined = all; stands = p.stands; short = p.short } }

longer : (bytes new : List ℕ) (c : ChunkMeta) → AppendsChunkRest c bytes new → length bytes ≤ length new
longer bytes new c p = omega (arith, ap length p.joined, length-append bytes p.text)

rests_pushed : (bytes new : List ℕ) (at : ℕ) (ends : List ℕ) (cs : List ChunkMeta) (c : ChunkMeta) → last_end at ends ≡ length bytes → c.file_path ≡ None → AppendsChunkRest c bytes new
    → AreRestsOf bytes at ends cs → AreRestsOf new at (ends ++ length new ∷ []) (cs ++ c ∷ [])
rests_pushed bytes new at [] [] c whole none p h = (omega (arith, whole, longer bytes new c p), omega arith, rest_at_end bytes new at c whole none p, tt)
rests_pushed bytes new at [] (d ∷ cs) c whole none p h = absurd h
rests_pushed bytes new at (end ∷ ends) [] c whole none p h = absurd h
rests_pushed bytes new at (end ∷ ends) (d ∷ cs) c whole none p h = (
  h.0,
  omega (arith, h.1, longer bytes new c p),
  subst (λ (t : List ℕ). IsRestOf t d) (sym (same_slice bytes p.text at end h.0 h.1) ∙ ap (λ (t : List ℕ). take (end - at) (drop at t)) (sym p.joined)) h.2,
  rests_pushed bytes new end ends cs c whole none p h.3,
)

pub written_more : (bytes new ends : List ℕ) (cs : List ChunkMeta) (c : ChunkMeta) → c.file_path ≡ None → AppendsChunkRest c bytes new → AreWritten bytes ends cs → AreWritten new (ends ++ length new ∷ []) (cs ++ c ∷ [])
written_more bytes new ends cs c none p w = record { rests = rests_pushed bytes new 0 ends cs c w.whole none p w.rests; whole = last_pushed 0 ends (length new) }

-- the sizes do not depend on the paths
pub same_sizes : (cs : List ChunkMeta) → sizes_of (map unplaced cs) ≡ sizes_of cs
same_sizes [] = refl
same_sizes (c ∷ cs) =
    let size = λ (d : ChunkMeta). size_by d.meta_data.total_compressed_size in
    sum_by-cons size (unplaced c) (map unplaced cs) ∙ ap (λ (n : ℕ). size c + n) (same_sizes cs) ∙ sym (sum_by-cons size c cs)

-- ---- what is read

-- the first of the rests, and the others
pub record Next (bytes : List ℕ) (at end : ℕ) (ends : List ℕ) (cs : List ChunkMeta) : Type 0 where
  pub first : ChunkMeta
  pub rest : List ChunkMeta
  pub are : cs ≡ first ∷ rest
  pub low : at ≤ end
  pub high : end ≤ length bytes
  pub here : IsRestOf (take (end - at) (drop at bytes)) first
  pub left : AreRestsOf bytes end ends rest

pub next : (bytes : List ℕ) (at end : ℕ) (ends : List ℕ) (cs : List ChunkMeta) → AreRestsOf bytes at (end ∷ ends) cs → Next bytes at end ends cs
next bytes at end ends [] h = absurd h
next bytes at end ends (c ∷ cs) h = record { first = c; rest = cs; are = refl; low = h.0; high = h.1; here = h.2; left = h.3 }

-- the first of those that are left
pub taken_at : (bytes : List ℕ) (at : ℕ) (ends : List ℕ) (i : ℕ) (left : List ChunkMeta) → i < length ends → AreRestsOf bytes at (drop i ends) left → Next bytes at (slice_index_or ends i 0) (drop (i + 1) ends) left
taken_at bytes at ends i left lt h = next bytes at (slice_index_or ends i 0) (drop (i + 1) ends) left (subst (λ (es : List ℕ). AreRestsOf bytes at es left) (drop_more ends i 0 lt) h)

-- there are as many as ends
pub as_many : (bytes : List ℕ) (at : ℕ) (ends : List ℕ) (cs : List ChunkMeta) → AreRestsOf bytes at ends cs → length cs ≡ length ends
as_many bytes at [] [] h = refl
as_many bytes at [] (c ∷ cs) h = absurd h
as_many bytes at (e ∷ ends) [] h = absurd h
as_many bytes at (e ∷ ends) (c ∷ cs) h = let rest = as_many bytes e ends cs h.3 in omega (arith, rest)

pub none_left : (bytes : List ℕ) (at : ℕ) (ends : List ℕ) (cs : List ChunkMeta) → ends ≡ [] → AreRestsOf bytes at ends cs → cs ≡ []
none_left bytes at [] [] none h = refl
none_left bytes at [] (c ∷ cs) none h = absurd h
none_left bytes at (e ∷ ends) cs none h = cc

-- a rest behind a start is a record, and read as one
pub stands_behind : ChunksFollow → ((c : ChunkMeta) → chunk_meta (chunk_meta_fields c) ≡ Some c) → (start rest bytes : List ℕ) (c : ChunkMeta) → BeginsChunk [] [] start → IsRestOf rest c → bytes ≡ start ++ rest
    → StandsFor chunk_meta bytes (placed [] c) (length bytes)
stands_behind law again start rest bytes c begun is joined =
    let written = law c [] [] start (start ++ rest) begun (appends_to _ _ [] rest start is.written) in
    let text : written.text ≡ bytes = sym written.joined ∙ sym joined in
    let spelled = subst (λ (t : List ℕ). StandsFor chunk_meta t (placed [] c) (length written.text)) (append-nil written.text) (record { fields = chunk_meta_fields (placed [] c); spelled = written.stands []; record_of = again (placed [] c) }) in
    subst (λ (t : List ℕ). StandsFor chunk_meta t (placed [] c) (length t)) text spelled

-- without the path it is the record that was kept
pub without_path : (c d : ChunkMeta) → c.file_path ≡ None → d ≡ placed [] c → unplaced d ≡ c
without_path c d none same = ap unplaced same ∙ (λ i. record { file_path = sym none i; file_offset = c.file_offset; meta_data = c.meta_data })

-- a rest behind a start is the next chunk of a group
pub chunk_follows : ChunksFollow → GroupsGrow → (n : ℕ) (done : List ChunkMeta) (c : ChunkMeta) (path start rest old out mid new : List ℕ) → BeginsChunk path [] start → IsRestOf rest c → mid ≡ out ++ start → new ≡ mid ++ rest
    → BeginsGroup n (map (placed path) done) old out → BeginsGroup n (map (placed path) done ++ placed path c ∷ []) old new
chunk_follows law grow n done c path start rest old out mid new begun is first second group =
    let started : BeginsChunk path out mid = subst (λ (t : List ℕ). BeginsChunk path out t) (sym first) (appends_to _ _ [] start out begun) in
    let ended : AppendsChunkRest c mid new = subst (λ (t : List ℕ). AppendsChunkRest c mid t) (sym second) (appends_to _ _ [] rest mid is.written) in
    grow n (map (placed path) done) (placed path c) old out new group (law c path out mid new started ended)
