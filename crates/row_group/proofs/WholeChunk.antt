-- A whole chunk, by its pages.
use Rattle.std.proofs.Common.{◌≡◌, ℕ, ◌+◌, ◌-◌, ◌<◌, ◌≤◌, List, [], ◌∷◌, ◌++◌, map, length, take, refl, sym, ap, subst, ◌∙◌, arith}
use Rattle.std.specs.Prelude.{pos, ◌<ℤ◌}
use Rattle.std.proofs.lemmas.Int.{ints}
use Rattle.std.proofs.lemmas.List.{append-nil, length-drop, nil_from_length as empty}
use Rattle.bits.specs.Codec.{NothingStands}
use Rattle.bits.specs.Refusals.{IsFault, HasCause}
use Rattle.bits.specs.declared.refusal.Refusal.{Refusal}
use Rattle.bits.specs.declared.refusal.Refusal.TheVariants as refusal
use Rattle.schema.specs.Stripe.{Leaf, Entry}
use Rattle.metadata.specs.Records.{ColumnMeta}
use Rattle.pages.specs.Page.{Page, entries}
use Rattle.pages.specs.Chunk.{dictionary_page, all_entries}
use Rattle.pages.specs.Limits.{IsOfPages}
use Rattle.row_group.specs.Chunks.{IsChunkOf, ChunkMeans}
use Rattle.row_group.specs.Greatest.{most_entries}
use Rattle.row_group.specs.Limits.{IsChunkOver, many_entries, long_value, IsOfChunks}
use Rattle.row_group.specs.Rest.{ChunkLeft, all_pages, AreNext, HoldsRest, HasRestOver}
use Rattle.row_group.specs.inner.Pages.{Passes, PassesAll, IsRefusedAt, IsRefusedWithin}
use Rattle.row_group.proofs.NextPages.{holds_nothing}

-- the record is of this leaf, and counts n entries, which are not too many
pub record IsRecord (m : ColumnMeta) (leaf : Leaf) (n : ℕ) : Type 0 where
  pub is : IsChunkOf m leaf
  pub count : m.num_values ≡ pos n
  pub few : most_entries <ℤ m.num_values → ⊥

counted : (m : ColumnMeta) (n : ℕ) (es : List Entry) → m.num_values ≡ pos n → m.num_values ≡ pos (length es) → length es ≡ n
counted m n es a b = cc

pub rest_of_chunk : (m : ColumnMeta) (leaf : Leaf) (bytes : List ℕ) (n : ℕ) → m.num_values ≡ pos n → (es : List Entry) (used : ℕ) → ChunkMeans m leaf bytes es used → HoldsRest (all_pages leaf bytes n) es used
rest_of_chunk m leaf bytes n number es used h =
    let c = h.held in
    let size = counted m n es number h.count in
    record {
      pages = c.pages;
      are_next = record { dictionary_values = c.dictionary_values; first = dictionary_page c.dictionary_values; parts = c.parts; is_known = refl; spelled = c.spelled; in_order = c.in_order };
      joined = c.joined;
      count = size;
      until = λ k lt. let u = c.until k lt in omega (arith, u, size);
    }

pub chunk_of_rest : (m : ColumnMeta) (leaf : Leaf) (bytes : List ℕ) (n : ℕ) → IsRecord m leaf n → (es : List Entry) (used : ℕ) → HoldsRest (all_pages leaf bytes n) es used → ChunkMeans m leaf bytes es used
chunk_of_rest m leaf bytes n r es used h =
    let a = h.are_next in
    record {
      is = r.is;
      count = r.count ∙ ap pos (sym h.count);
      held = record {
        pages = h.pages;
        dictionary_values = a.dictionary_values;
        parts = a.parts;
        spelled = a.spelled;
        in_order = a.in_order ∙ ap (λ (t : List Page). t ++ map entries a.parts) a.is_known;
        joined = h.joined;
        count = refl;
        until = λ k lt. let u = h.until k lt in let size = h.count in omega (arith, u, size);
      };
    }

pub over_of_rest : (m : ColumnMeta) (leaf : Leaf) (bytes : List ℕ) (n : ℕ) → IsRecord m leaf n → HasRestOver (all_pages leaf bytes n) → IsChunkOver m leaf bytes
over_of_rest m leaf bytes n r h =
    let a = h.are_next in
    let f = h.fewer in
    let e = r.count in
    long_value r.is (record {
      dictionary = a.dictionary_values;
      before = h.before;
      parts = a.parts;
      at = h.at;
      stand = a.spelled;
      in_order = a.in_order ∙ ap (λ (t : List Page). t ++ map entries a.parts) a.is_known;
      fewer = omega (arith, ints, f, e);
      over = h.over;
    })

pub rest_of_over : (m : ColumnMeta) (leaf : Leaf) (bytes : List ℕ) (n : ℕ) → IsRecord m leaf n → IsChunkOver m leaf bytes → HasRestOver (all_pages leaf bytes n)
rest_of_over m leaf bytes n r (many_entries many) = absurd (r.few many)
rest_of_over m leaf bytes n r (long_value is h) =
    let f = h.fewer in
    let e = r.count in
    record {
      before = h.before;
      at = h.at;
      are_next = record { dictionary_values = h.dictionary; first = dictionary_page h.dictionary; parts = h.parts; is_known = refl; spelled = h.stand; in_order = h.in_order };
      fewer = omega (arith, ints, f, e);
      over = h.over;
    }

-- ---- all pages are read

-- these are the entries, and so many bytes
pub record IsWhole (s : ChunkLeft) (es : List Entry) (used : ℕ) : Type 0 where
  pub holds : HoldsRest s es used
  pub only : (all : List Entry) (u : ℕ) → HoldsRest s all u → (all ≡ es) × (u ≡ used)
  pub short : HasRestOver s → ⊥

no_bytes : (s : ChunkLeft) (es : List Entry) (u : ℕ) → s.lacking ≡ 0 → HoldsRest s es u → (es ≡ []) × (u ≡ 0)
no_bytes s es u zero h = (empty es (h.count ∙ zero), by h.pages h.are_next h.until)
  where
    by : (pages : List Page) → AreNext s pages u → ((k : ℕ) → k < length pages → length (all_entries (take k pages)) < s.lacking) → u ≡ 0
    by [] n until = n.spelled
    by (p ∷ ps) n until = absurd (let lt = until 0 (omega arith) in omega (arith, lt, zero))

pub whole : (s t : ChunkLeft) (es : List Entry) → PassesAll s t es → IsWhole s es (length s.bytes - length t.bytes)
whole s t es h =
    let p = h.0 in
    let size = ap (λ (b : List ℕ). length b) p.bytes in
    let d = length-drop p.used s.bytes in
    let w = p.within in
    let used : length s.bytes - length t.bytes ≡ p.used = omega (arith, size, d, w) in
    record {
      holds = subst (HoldsRest s es) (sym used) (subst (λ (x : List Entry). HoldsRest s x p.used) (append-nil es) (let u : p.used + 0 ≡ p.used = omega arith in subst (HoldsRest s (es ++ [])) u (p.back [] 0 (holds_nothing t h.1))));
      only = λ all u held.
          let a = p.onward all u held in
          let z = no_bytes t a.0 a.1 h.1 a.4 in
          (a.2 ∙ ap (λ (x : List Entry). es ++ x) z.0 ∙ append-nil es, let e = a.3 in let f = z.1 in omega (arith, e, f, used));
      short = λ over. let o = p.over_onward over in let f = o.fewer in let z = h.1 in omega (arith, f, z);
    }

-- ---- a refusal

of_chunks : (e : Refusal) → IsOfPages e → IsOfChunks e
of_chunks refusal.Truncated h = h
of_chunks refusal.Thrift h = h
of_chunks refusal.Schema h = tt
of_chunks refusal.Codec h = tt
of_chunks _ h = h

pub refused_which : (s : ChunkLeft) (e : Refusal) → IsRefusedWithin s e → HasCause IsOfChunks e
refused_which s refusal.Memory h = tt
refused_which s refusal.Limit h = tt
refused_which s e h = causes e (of_chunks e h.0)
  where
    causes : (e : Refusal) → IsOfChunks e → HasCause IsOfChunks e
    causes refusal.Memory h = tt
    causes _ h = h

pub refused_only : (s : ChunkLeft) (e : Refusal) → IsRefusedWithin s e → IsFault e → NothingStands (HoldsRest s)
refused_only s refusal.Memory h fault = absurd fault
refused_only s refusal.Limit h fault = absurd fault
refused_only s _ h fault = h.1

-- ---- what is refused of the pages is refused of the chunk

pub within : (s t u : ChunkLeft) (es : List Entry) (e : Refusal) → Passes s t es → IsRefusedAt t u e → IsRefusedWithin s e
within s t u es refusal.Memory p h = tt
within s t u es refusal.Limit p h = p.over_back h
within s t u es _ p h = (h.0, λ all n held. let a = p.onward all n held in h.1 a.0 a.1 a.4)

pub chunk_refused : (m : ColumnMeta) (leaf : Leaf) (bytes : List ℕ) (n : ℕ) (s : ChunkLeft) (e : Refusal) → s ≡ all_pages leaf bytes n → IsRecord m leaf n → IsRefusedWithin s e → IsFault e → NothingStands (ChunkMeans m leaf bytes)
chunk_refused m leaf bytes n s e is r h fault es used w = refused_only (all_pages leaf bytes n) e (subst (λ (t : ChunkLeft). IsRefusedWithin t e) is h) fault es used (rest_of_chunk m leaf bytes n r.count es used w)

pub chunk_over : (m : ColumnMeta) (leaf : Leaf) (bytes : List ℕ) (n : ℕ) (s : ChunkLeft) (e : Refusal) → s ≡ all_pages leaf bytes n → IsRecord m leaf n → IsRefusedWithin s e → e ≡ refusal.Limit → IsChunkOver m leaf bytes
chunk_over m leaf bytes n s e is r h limit = over_of_rest m leaf bytes n r (subst (λ (f : Refusal). IsRefusedWithin (all_pages leaf bytes n) f) limit (subst (λ (t : ChunkLeft). IsRefusedWithin t e) is h))

pub not_codec : (s : ChunkLeft) (e : Refusal) → IsRefusedWithin s e → e ≡ refusal.Codec → ⊥
not_codec s e h codec = (subst (IsRefusedWithin s) codec h).0

-- ---- and what they hold, it holds

pub chunk_whole : (m : ColumnMeta) (leaf : Leaf) (bytes : List ℕ) (n : ℕ) (s t : ChunkLeft) (es : List Entry) → s ≡ all_pages leaf bytes n → PassesAll s t es → IsWhole (all_pages leaf bytes n) es (length bytes - length t.bytes)
chunk_whole m leaf bytes n s t es is h = whole (all_pages leaf bytes n) t es (subst (λ (x : ChunkLeft). PassesAll x t es) is h)

pub passes_shorter : (leaf : Leaf) (bytes : List ℕ) (n : ℕ) (s t : ChunkLeft) (es : List Entry) → s ≡ all_pages leaf bytes n → PassesAll s t es → length t.bytes ≤ length bytes
passes_shorter leaf bytes n s t es is h =
    let p = subst (λ (x : ChunkLeft). PassesAll x t es) is h in
    let size = ap (λ (b : List ℕ). length b) p.0.bytes in
    let d = length-drop p.0.used bytes in
    omega (arith, size, d)

pub whole_alone : (m : ColumnMeta) (leaf : Leaf) (bytes : List ℕ) (n : ℕ) (es : List Entry) (u : ℕ) → IsRecord m leaf n → IsWhole (all_pages leaf bytes n) es u → (all : List Entry) (used : ℕ) → ChunkMeans m leaf bytes all used → (all ≡ es) × (used ≡ u)
whole_alone m leaf bytes n es u r w all used h = w.only all used (rest_of_chunk m leaf bytes n r.count all used h)

pub whole_short : (m : ColumnMeta) (leaf : Leaf) (bytes : List ℕ) (n : ℕ) (es : List Entry) (u : ℕ) → IsRecord m leaf n → IsWhole (all_pages leaf bytes n) es u → IsChunkOver m leaf bytes → ⊥
whole_short m leaf bytes n es u r w over = w.short (rest_of_over m leaf bytes n r over)
