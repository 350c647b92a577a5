-- Records of chunks that are kept as bytes: of each what stands behind the path of its file.
use Rattle.std.specs.Prelude.{◌≡◌, ℕ, ℤ, pos, ◌≤◌, ◌-◌, List, [], ◌∷◌, ◌++◌, length, take, drop, sum_by, Option, Some, None}
use Rattle.std.proofs.Common.{refl, ap, sym, subst, ◌∙◌}
use Rattle.std.specs.Coded.{Coded-set, coded_ℕ, coded_list, coded_option, le_prop, ×_prop, Unit-prop}
use mathlib.Core.HLevel.{Σ_prop_path, ⊥_prop}
use Rattle.thrift_compact.specs.Compact.{AreFields}
use Rattle.thrift_compact.proofs.One.{one_fields, Same}
use Rattle.metadata.specs.Ids as ids
use Rattle.metadata.specs.Records.{ChunkMeta}
use Rattle.metadata.specs.ToTree.{chunk_meta_fields}
use Rattle.metadata.specs.FromTree.{chunk_meta}
use Rattle.metadata.specs.Begun.{AppendsChunkRest, chunk_rest}
use Rattle.metadata.proofs.Again.{chunk_meta_again}
use Rattle.manifest.specs.OneSpelling.{Rest-prop, four}

-- the record of a chunk as its own file has it, without a path
abbrev pub unplaced : ChunkMeta → ChunkMeta
unplaced c = record { file_path = None; file_offset = c.file_offset; meta_data = c.meta_data }

-- the record of a chunk with the path of the file that it is in
abbrev pub placed : List ℕ → ChunkMeta → ChunkMeta
placed path c = record { file_path = Some path; file_offset = c.file_offset; meta_data = c.meta_data }

-- the text is the record of a chunk that names no file: the rest of its struct behind a path
pub record IsRestOf (text : List ℕ) (c : ChunkMeta) : Type 0 where
  pub here : c.file_path ≡ None
  pub written : AppendsChunkRest c [] text

-- from the place `at` on the bytes are the rests of these records (`IsRestOf`), each of which ends where the list says
abbrev pub AreRestsOf : List ℕ → ℕ → List ℕ → List ChunkMeta → Type 0
AreRestsOf bytes at [] [] = Unit {0}
AreRestsOf bytes at (end ∷ ends) (c ∷ cs) = (at ≤ end) × (end ≤ length bytes) × IsRestOf (take (end - at) (drop at bytes)) c × AreRestsOf bytes end ends cs
AreRestsOf bytes at _ _ = ⊥

-- a size in bytes that the record of a chunk says; 0 if it says none, or a negative one
abbrev pub size_by : Option ℤ → ℕ
size_by (Some (pos n)) = n
size_by _ = 0

-- the sizes of chunks in their file, added, in bytes
abbrev pub sizes_of : List ChunkMeta → ℕ
sizes_of cs = sum_by (λ (c : ChunkMeta). size_by c.meta_data.total_compressed_size) cs

-- the bytes are the rests of records, up to these ends, whose chunks have together this size
abbrev pub HasRecords : List ℕ → List ℕ → ℕ → Type 0
HasRecords bytes ends size = (cs : List ChunkMeta) × (AreRestsOf bytes 0 ends cs × (size ≡ sizes_of cs))

-- ---- one list of records only

-- the struct of a record that names no file is the rest alone
unplaced_fields : (c : ChunkMeta) → c.file_path ≡ None → chunk_meta_fields c ≡ chunk_rest c
unplaced_fields c here = λ i. chunk_meta_fields (record { file_path = here i; file_offset = c.file_offset; meta_data = c.meta_data })

-- a text is the rest of one record only
pub one_rest : (text : List ℕ) (c d : ChunkMeta) → IsRestOf text c → IsRestOf text d → c ≡ d
unfolding Same
one_rest text c d p q =
    let there = subst (λ (t : List ℕ). AreFields (chunk_rest d) ids.chunk_file_path (t ++ []) (length t)) (sym q.written.joined ∙ p.written.joined) (q.written.stands []).1 in
    let same : chunk_rest c ≡ chunk_rest d = (one_fields (chunk_rest c) (chunk_rest d) ids.chunk_file_path (p.written.text ++ []) (length p.written.text) (length p.written.text) (p.written.stands []).1 there).0 in
    let is : Some c ≡ Some d = sym (chunk_meta_again c) ∙ ap chunk_meta (unplaced_fields c p.here ∙ same ∙ sym (unplaced_fields d q.here)) ∙ chunk_meta_again d in
    cc

-- bytes are the rests of one list of records only
pub one_list : (bytes : List ℕ) (at : ℕ) (ends : List ℕ) (cs ds : List ChunkMeta) → AreRestsOf bytes at ends cs → AreRestsOf bytes at ends ds → cs ≡ ds
one_list bytes at [] [] [] p q = refl
one_list bytes at [] [] (d ∷ ds) p q = absurd q
one_list bytes at [] (c ∷ cs) ds p q = absurd p
one_list bytes at (end ∷ ends) [] ds p q = absurd p
one_list bytes at (end ∷ ends) (c ∷ cs) [] p q = absurd q
one_list bytes at (end ∷ ends) (c ∷ cs) (d ∷ ds) p q =
    let first = one_rest (take (end - at) (drop at bytes)) c d p.2 q.2 in
    let rest = one_list bytes end ends cs ds p.3 q.3 in
    λ i. first i ∷ rest i

RestOf-prop : (text : List ℕ) (c : ChunkMeta) → IsProp (IsRestOf text c)
RestOf-prop text c p q = λ i. record {
  here = Coded-set (coded_option (coded_list coded_ℕ)) c.file_path None p.here q.here i;
  written = Rest-prop (chunk_rest c) ids.chunk_file_path text p.written q.written i;
}

RestsOf-prop : (bytes : List ℕ) (at : ℕ) (ends : List ℕ) (cs : List ChunkMeta) → IsProp (AreRestsOf bytes at ends cs)
RestsOf-prop bytes at [] [] = Unit-prop
RestsOf-prop bytes at [] (c ∷ cs) = ⊥_prop
RestsOf-prop bytes at (end ∷ ends) [] = ⊥_prop
RestsOf-prop bytes at (end ∷ ends) (c ∷ cs) = four le_prop le_prop (RestOf-prop (take (end - at) (drop at bytes)) c) (RestsOf-prop bytes end ends cs)

-- there is at most one proof of that
pub HasRecords-prop : (bytes ends : List ℕ) (size : ℕ) → IsProp (HasRecords bytes ends size)
HasRecords-prop bytes ends size = λ p q. Σ_prop_path (λ (cs : List ChunkMeta). ×_prop (RestsOf-prop bytes 0 ends cs) (Coded-set coded_ℕ size (sizes_of cs))) (one_list bytes 0 ends p.0 q.0 p.1.0 q.1.0)
