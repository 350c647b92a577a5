-- What is left of a chunk holds one list of entries.
use Rattle.std.proofs.Common.{◌≡◌, ℕ, suc, ◌+◌, ◌<◌, List, [], ◌∷◌, ◌++◌, map, length, take, drop, Option, refl, sym, ap, subst, ◌∙◌, arith}
use Rattle.std.proofs.lemmas.List.{length-append}
use Rattle.bits.specs.Codec.{IsFunctional, InTurn}
use Rattle.schema.specs.Values.{ValueTree}
use Rattle.schema.specs.Stripe.{Leaf, Entry}
use Rattle.pages.specs.Page.{Page, entries, IsPage}
use Rattle.pages.specs.Chunk.{entries_of, all_entries, IsChunk}
use Rattle.row_group.specs.Rest.{Known, nothing, known, ChunkLeft, IsKnown, HoldsRest}
use Rattle.row_group.specs.Left.{ReaderLeft, ChunkStands}

abbrev pub PagesAreOne : Type 0
PagesAreOne = (leaf : Leaf) (d : Option (List ValueTree)) → IsFunctional (IsPage leaf d)

abbrev pub ChunksAreOne : Type 0
ChunksAreOne = (leaf : Leaf) (n : ℕ) → IsFunctional (λ bytes. IsChunk leaf bytes n)

-- ---- the pages are the same, where the dictionary is

-- pages that hold as many entries as are lacking, and no front of them does
pub record Fill (lacking : ℕ) (pages : List Page) : Type 0 where
  pub enough : length (all_entries pages) ≡ lacking
  pub until : (k : ℕ) → k < length pages → length (all_entries (take k pages)) < lacking

fill_more : (lacking : ℕ) (p : Page) (ps : List Page) → Fill lacking (p ∷ ps) → (rest : ℕ) × (lacking ≡ length (entries_of p) + rest) × Fill rest ps
fill_more lacking p ps f =
    let total : length (all_entries (p ∷ ps)) ≡ length (entries_of p) + length (all_entries ps) = length-append (entries_of p) (all_entries ps) in
    let e = f.enough in (
      length (all_entries ps),
      omega (arith, total, e),
      record {
        enough = refl;
        until = λ k lt.
            let below : length (all_entries (take (suc k) (p ∷ ps))) < lacking = f.until (suc k) (omega (arith, lt)) in
            let front : length (entries_of p ++ all_entries (take k ps)) ≡ length (entries_of p) + length (all_entries (take k ps)) = length-append (entries_of p) (all_entries (take k ps)) in
            omega (arith, below, front, total, e);
      },
    )

none_lacks : (lacking : ℕ) (p : Page) (ps : List Page) → Fill lacking [] → Fill lacking (p ∷ ps) → ⊥
none_lacks lacking p ps f g =
    let e = f.enough in
    let some : 0 < lacking = g.until 0 (omega arith) in
    omega (arith, e, some)

same_pages : PagesAreOne → (leaf : Leaf) (d : Option (List ValueTree)) (bytes : List ℕ) (ps qs : List Page) (lacking used taken : ℕ) → InTurn (IsPage leaf d) bytes ps used → InTurn (IsPage leaf d) bytes qs taken
    → Fill lacking ps → Fill lacking qs → ps ≡ qs
same_pages one leaf d bytes [] [] lacking used taken a b f g = refl
same_pages one leaf d bytes [] (q ∷ qs) lacking used taken a b f g = absurd (none_lacks lacking q qs f g)
same_pages one leaf d bytes (p ∷ ps) [] lacking used taken a b f g = absurd (none_lacks lacking p ps g f)
same_pages one leaf d bytes (p ∷ ps) (q ∷ qs) lacking used taken a b f g =
    let first = one leaf d bytes p q a.0 b.0 a.2 b.2 in
    let more = fill_more lacking p ps f in
    let others = fill_more lacking q qs g in
    let size : length (entries_of p) ≡ length (entries_of q) = ap (λ (t : Page). length (entries_of t)) first.0 in
    let same : others.0 ≡ more.0 = omega (arith, more.1, others.1, size) in
    let rest = same_pages one leaf d (drop a.0 bytes) ps qs more.0 a.1 b.1 a.3 (subst (λ (n : ℕ). InTurn (IsPage leaf d) (drop n bytes) qs b.1) (sym first.1) b.3) more.2 (subst (λ (n : ℕ). Fill n qs) same others.2) in
    ap (λ (t : Page). t ∷ ps) first.0 ∙ ap (λ (t : List Page). q ∷ t) rest

-- ---- the entries are

fills : (s : ChunkLeft) (es : List Entry) (used : ℕ) (h : HoldsRest s es used) → Fill s.lacking h.pages
fills s es used h = record { enough = sym (ap length h.joined) ∙ h.count; until = h.until }

one_known : PagesAreOne → (s : ChunkLeft) (c : Option (List ValueTree)) (es fs : List Entry) (used taken : ℕ) → s.known ≡ known c → HoldsRest s es used → HoldsRest s fs taken → es ≡ fs
one_known one s c es fs used taken k p q =
    let a = subst (λ (t : Known). IsKnown t p.are_next.dictionary_values p.are_next.first) k p.are_next.is_known in
    let b = subst (λ (t : Known). IsKnown t q.are_next.dictionary_values q.are_next.first) k q.are_next.is_known in
    let x = subst (λ (d : Option (List ValueTree)). InTurn (IsPage s.leaf d) s.bytes p.pages used) a.0 p.are_next.spelled in
    let y = subst (λ (d : Option (List ValueTree)). InTurn (IsPage s.leaf d) s.bytes q.pages taken) b.0 q.are_next.spelled in
    p.joined ∙ ap (λ (ps : List Page). all_entries ps) (same_pages one s.leaf c s.bytes p.pages q.pages s.lacking used taken x y (fills s es used p) (fills s fs taken q)) ∙ sym q.joined

-- with no page read
pub is_chunk : (s : ChunkLeft) (es : List Entry) (used : ℕ) → s.known ≡ nothing → HoldsRest s es used → IsChunk s.leaf s.bytes s.lacking es used
is_chunk s es used k p =
    let a : p.are_next.first ≡ _ = subst (λ (t : Known). IsKnown t p.are_next.dictionary_values p.are_next.first) k p.are_next.is_known in
    record {
      pages = p.pages;
      dictionary_values = p.are_next.dictionary_values;
      parts = p.are_next.parts;
      spelled = p.are_next.spelled;
      in_order = p.are_next.in_order ∙ ap (λ (first : List Page). first ++ map entries p.are_next.parts) a;
      joined = p.joined;
      count = p.count;
      until = p.until;
    }

pub one_rest : PagesAreOne → ChunksAreOne → (s : ChunkLeft) (es fs : List Entry) (used taken : ℕ) → HoldsRest s es used → HoldsRest s fs taken → es ≡ fs
one_rest one chunks s es fs used taken p q = by s.known refl
  where
    by : (k : Known) → s.known ≡ k → es ≡ fs
    by nothing e = (chunks s.leaf s.lacking s.bytes es fs used taken (is_chunk s es used e p) (is_chunk s fs taken e q)).0
    by (known c) e = one_known one s c es fs used taken e p q

pub one_reader : PagesAreOne → ChunksAreOne → (r : ReaderLeft) (es fs : List Entry) → ChunkStands r es → ChunkStands r fs → es ≡ fs
one_reader one chunks r es fs p q = p.joined ∙ ap (λ (t : List Entry). r.here ++ t) (one_rest one chunks r.pages p.rest q.rest p.used q.used p.held q.held) ∙ sym q.joined
