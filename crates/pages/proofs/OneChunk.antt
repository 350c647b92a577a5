-- The pages of a chunk hold one list of so many entries.
use Rattle.std.proofs.Common.{◌≡◌, ℕ, suc, ◌+◌, ◌<◌, List, [], ◌∷◌, ◌++◌, map, filter, length, take, drop, Option, Some, None, refl, sym, ap, subst, ◌∙◌, arith}
use Rattle.std.proofs.lemmas.List.{length-append}
use Rattle.bits.specs.Codec.{IsFunctional, InTurn}
use Rattle.schema.specs.Values.{ValueTree}
use Rattle.schema.specs.Stripe.{Leaf, Entry}
use Rattle.pages.specs.Page.{Page, skipped, dictionary, entries, IsPage}
use Rattle.pages.specs.Chunk.{is_read, dictionary_page, entries_of, all_entries, IsChunk}
use Rattle.pages.specs.Apart.{DictionaryIsNotRead, EntriesStandAlone}

abbrev pub PagesAreOne : Type 0
PagesAreOne = (leaf : Leaf) (d : Option (List ValueTree)) → IsFunctional (IsPage leaf d)

-- pages that hold as many entries as are lacking, and no front of them does
pub record Fill (lacking : ℕ) (pages : List Page) : Type 0 where
  pub enough : length (all_entries pages) ≡ lacking
  pub until : (k : ℕ) → k < length pages → length (all_entries (take k pages)) < lacking

fill_more : (lacking : ℕ) (p : Page) (ps : List Page) → Fill lacking (p ∷ ps) → (rest : ℕ) × (lacking ≡ length (entries_of p) + rest) × Fill rest ps
fill_more lacking p ps f =
    let total : length (all_entries (p ∷ ps)) ≡ length (entries_of p) + length (all_entries ps) = length-append (entries_of p) (all_entries ps) in
    let e = f.enough in (
      length (all_entries ps),
      omega (arith, total, e),
      record {
        enough = refl;
        until = λ k lt.
            let below : length (all_entries (take (suc k) (p ∷ ps))) < lacking = f.until (suc k) (omega (arith, lt)) in
            let front : length (entries_of p ++ all_entries (take k ps)) ≡ length (entries_of p) + length (all_entries (take k ps)) = length-append (entries_of p) (all_entries (take k ps)) in
            omega (arith, below, front, total, e);
      },
    )

some_lacking : (lacking : ℕ) (p : Page) (ps : List Page) → Fill lacking (p ∷ ps) → 0 < lacking
some_lacking lacking p ps f = f.until 0 (omega arith)

-- ---- the pages are the same, where the dictionary is

same_pages : PagesAreOne → (leaf : Leaf) (d : Option (List ValueTree)) (bytes : List ℕ) (ps qs : List Page) (lacking used taken : ℕ) → InTurn (IsPage leaf d) bytes ps used → InTurn (IsPage leaf d) bytes qs taken
    → Fill lacking ps → Fill lacking qs → (ps ≡ qs) × (used ≡ taken)
same_pages one leaf d bytes [] [] lacking used taken a b f g = (refl, a ∙ sym b)
same_pages one leaf d bytes [] (q ∷ qs) lacking used taken a b f g = absurd (let e = f.enough in let some = some_lacking lacking q qs g in omega (arith, e, some))
same_pages one leaf d bytes (p ∷ ps) [] lacking used taken a b f g = absurd (let e = g.enough in let some = some_lacking lacking p ps f in omega (arith, e, some))
same_pages one leaf d bytes (p ∷ ps) (q ∷ qs) lacking used taken a b f g =
    let first = one leaf d bytes p q a.0 b.0 a.2 b.2 in
    let more = fill_more lacking p ps f in
    let others = fill_more lacking q qs g in
    let size : length (entries_of p) ≡ length (entries_of q) = ap (λ (t : Page). length (entries_of t)) first.0 in
    let same : others.0 ≡ more.0 = omega (arith, more.1, others.1, size) in
    let rest = same_pages one leaf d (drop a.0 bytes) ps qs more.0 a.1 b.1 a.3 (subst (λ (n : ℕ). InTurn (IsPage leaf d) (drop n bytes) qs b.1) (sym first.1) b.3) more.2 (subst (λ (n : ℕ). Fill n qs) same others.2) in
    (ap (λ (t : Page). t ∷ ps) first.0 ∙ ap (λ (t : List Page). q ∷ t) rest.0, omega (arith, a.4, b.4, first.1, rest.1))

-- ---- and so is the dictionary

-- which dictionary the pages that are read begin with
abbrev InOrder : List Page → Option (List ValueTree) → List (List Entry) → Type 0
InOrder ps d parts = filter is_read ps ≡ dictionary_page d ++ map (λ es. entries es) parts

-- a dictionary page at the front is the dictionary
of_dictionary : (vs : List ValueTree) (ps : List Page) (d : Option (List ValueTree)) (parts : List (List Entry)) → InOrder (dictionary vs ∷ ps) d parts → d ≡ Some vs
of_dictionary vs ps None [] e = cc
of_dictionary vs ps None (es ∷ parts) e = cc
of_dictionary vs ps (Some ws) parts e = cc

-- where entries come first, or nothing does, there is none
of_entries : (es : List Entry) (ps : List Page) (d : Option (List ValueTree)) (parts : List (List Entry)) → InOrder (entries es ∷ ps) d parts → d ≡ None
of_entries es ps None parts e = refl
of_entries es ps (Some ws) parts e = cc

of_nothing : (d : Option (List ValueTree)) (parts : List (List Entry)) → InOrder [] d parts → d ≡ None
of_nothing None parts e = refl
of_nothing (Some ws) parts e = cc

same_dictionary : PagesAreOne → DictionaryIsNotRead → EntriesStandAlone → (leaf : Leaf) (c d : Option (List ValueTree)) (bytes : List ℕ) (ps qs : List Page) (parts others : List (List Entry)) (lacking used taken : ℕ)
    → InTurn (IsPage leaf c) bytes ps used → InTurn (IsPage leaf d) bytes qs taken → InOrder ps c parts → InOrder qs d others → Fill lacking ps → Fill lacking qs → c ≡ d
same_dictionary one unread apart leaf c d bytes [] [] parts others lacking used taken a b x y f g = of_nothing c parts x ∙ sym (of_nothing d others y)
same_dictionary one unread apart leaf c d bytes [] (q ∷ qs) parts others lacking used taken a b x y f g = absurd (let e = f.enough in let some = some_lacking lacking q qs g in omega (arith, e, some))
same_dictionary one unread apart leaf c d bytes (p ∷ ps) [] parts others lacking used taken a b x y f g = absurd (let e = g.enough in let some = some_lacking lacking p ps f in omega (arith, e, some))
same_dictionary one unread apart leaf c d bytes (skipped ∷ ps) (skipped ∷ qs) parts others lacking used taken a b x y f g =
    let at : a.0 ≡ b.0 = (one leaf d bytes skipped skipped a.0 b.0 (unread leaf c d bytes skipped a.0 tt a.2) b.2).1 in
    let more = fill_more lacking skipped ps f in
    let rest = fill_more lacking skipped qs g in
    let same : rest.0 ≡ more.0 = omega (arith, more.1, rest.1) in
    same_dictionary one unread apart leaf c d (drop a.0 bytes) ps qs parts others more.0 a.1 b.1 a.3 (subst (λ (n : ℕ). InTurn (IsPage leaf d) (drop n bytes) qs b.1) (sym at) b.3) x y more.2 (subst (λ (n : ℕ). Fill n qs) same rest.2)
same_dictionary one unread apart leaf c d bytes (skipped ∷ ps) (dictionary ws ∷ qs) parts others lacking used taken a b x y f g = absurd (let e = (one leaf d bytes skipped (dictionary ws) a.0 b.0 (unread leaf c d bytes skipped a.0 tt a.2) b.2).0 in cc)
same_dictionary one unread apart leaf c d bytes (skipped ∷ ps) (entries es ∷ qs) parts others lacking used taken a b x y f g = absurd (apart leaf d c bytes es skipped b.0 a.0 b.2 tt a.2)
same_dictionary one unread apart leaf c d bytes (dictionary vs ∷ ps) (skipped ∷ qs) parts others lacking used taken a b x y f g = absurd (let e = (one leaf d bytes (dictionary vs) skipped a.0 b.0 (unread leaf c d bytes (dictionary vs) a.0 tt a.2) b.2).0 in cc)
same_dictionary one unread apart leaf c d bytes (dictionary vs ∷ ps) (dictionary ws ∷ qs) parts others lacking used taken a b x y f g =
    let e = (one leaf d bytes (dictionary vs) (dictionary ws) a.0 b.0 (unread leaf c d bytes (dictionary vs) a.0 tt a.2) b.2).0 in
    let mine = of_dictionary vs ps c parts x in
    let other = of_dictionary ws qs d others y in
    cc
same_dictionary one unread apart leaf c d bytes (dictionary vs ∷ ps) (entries es ∷ qs) parts others lacking used taken a b x y f g = absurd (apart leaf d c bytes es (dictionary vs) b.0 a.0 b.2 tt a.2)
same_dictionary one unread apart leaf c d bytes (entries es ∷ ps) (skipped ∷ qs) parts others lacking used taken a b x y f g = absurd (apart leaf c d bytes es skipped a.0 b.0 a.2 tt b.2)
same_dictionary one unread apart leaf c d bytes (entries es ∷ ps) (dictionary ws ∷ qs) parts others lacking used taken a b x y f g = absurd (apart leaf c d bytes es (dictionary ws) a.0 b.0 a.2 tt b.2)
same_dictionary one unread apart leaf c d bytes (entries es ∷ ps) (entries fs ∷ qs) parts others lacking used taken a b x y f g = of_entries es ps c parts x ∙ sym (of_entries fs qs d others y)

-- ---- the chunk

fills : (leaf : Leaf) (bytes : List ℕ) (n : ℕ) (es : List Entry) (used : ℕ) (c : IsChunk leaf bytes n es used) → Fill n c.pages
fills leaf bytes n es used c = record { enough = sym (ap length c.joined) ∙ c.count; until = c.until }

pub one_chunk : PagesAreOne → DictionaryIsNotRead → EntriesStandAlone → (leaf : Leaf) (n : ℕ) → IsFunctional (λ bytes. IsChunk leaf bytes n)
one_chunk one unread apart leaf n bytes es fs used taken a b =
    let d = same_dictionary one unread apart leaf a.dictionary_values b.dictionary_values bytes a.pages b.pages a.parts b.parts n used taken a.spelled b.spelled a.in_order b.in_order (fills leaf bytes n es used a) (fills leaf bytes n fs taken b) in
    let same = same_pages one leaf b.dictionary_values bytes a.pages b.pages n used taken (subst (λ (o : Option (List ValueTree)). InTurn (IsPage leaf o) bytes a.pages used) d a.spelled) b.spelled (fills leaf bytes n es used a) (fills leaf bytes n fs taken b) in
    (a.joined ∙ ap (λ (ps : List Page). all_entries ps) same.0 ∙ sym b.joined, same.1)
