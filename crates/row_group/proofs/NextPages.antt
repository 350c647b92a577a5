-- The pages that are left after the next one.
use Rattle.std.proofs.Common.{◌≡◌, ℕ, zero, suc, ◌+◌, ◌<◌, ◌≤◌, List, [], ◌∷◌, ◌++◌, map, filter, length, take, drop, Option, Some, None, refl, sym, ap, subst, ◌∙◌, arith, append_assoc}
use Rattle.std.proofs.lemmas.List.{length-append, length-drop, drop-drop}
use Rattle.lists.proofs.Lists.{same_first as heads, same_rest as tails}
use Rattle.bits.specs.Codec.{InTurn, NothingStands}
use Rattle.schema.specs.Values.{ValueTree}
use Rattle.schema.specs.Stripe.{Leaf, Entry}
use Rattle.pages.specs.Page.{Page, skipped, dictionary, entries, IsPage}
use Rattle.pages.specs.Chunk.{is_read, dictionary_page, entries_of, all_entries}
use Rattle.pages.specs.Limits.{IsPageOver}
use Rattle.pages.specs.Apart.{DictionaryIsNotRead, IsOnlyPage}
use Rattle.row_group.specs.Rest.{Known, nothing, known, dictionary_of, ChunkLeft, IsKnown, AreNext, HoldsRest, HasRestOver}
use Rattle.row_group.specs.inner.Pages.{Passes, MayCome, known_after}

-- what is left after this page
abbrev pub after : ChunkLeft → Page → ℕ → ℕ → ChunkLeft
after s p used lacking = record { leaf = s.leaf; known = known_after s.known p; bytes = drop used s.bytes; lacking = lacking }

-- ---- the first of the pages stands where the dictionary is what is known of it

pub first_page : DictionaryIsNotRead → (leaf : Leaf) (k : Known) (d : Option (List ValueTree)) (first : List Page) (bytes : List ℕ) (q : Page) (qs : List Page) (parts : List (List Entry)) (u : ℕ)
    → IsKnown k d first → filter is_read (q ∷ qs) ≡ first ++ map entries parts → IsPage leaf d bytes q u → IsPage leaf (dictionary_of k) bytes q u
first_page unread leaf (known c) d first bytes q qs parts u is e h = subst (λ (o : Option (List ValueTree)). IsPage leaf o bytes q u) is.0 h
first_page unread leaf nothing d first bytes skipped qs parts u is e h = unread leaf d None bytes skipped u tt h
first_page unread leaf nothing d first bytes (dictionary vs) qs parts u is e h = unread leaf d None bytes (dictionary vs) u tt h
first_page unread leaf nothing None first bytes (entries es) qs parts u is e h = h
first_page unread leaf nothing (Some ws) first bytes (entries es) qs parts u is e h = absurd (apart (e ∙ ap (λ (t : List Page). t ++ map entries parts) is))
  where
    apart : entries es ∷ filter is_read qs ≡ dictionary ws ∷ map entries parts → ⊥
    apart e = cc

-- which page may be the first
pub may_come : (k : Known) (d : Option (List ValueTree)) (first : List Page) (q : Page) (qs : List Page) (parts : List (List Entry)) → IsKnown k d first → filter is_read (q ∷ qs) ≡ first ++ map entries parts → MayCome k q
may_come nothing d first q qs parts is e = tt
may_come (known c) d first skipped qs parts is e = tt
may_come (known c) d first (entries es) qs parts is e = tt
may_come (known c) d first (dictionary vs) qs parts is e = apart parts (e ∙ ap (λ (t : List Page). t ++ map entries parts) is.1)
  where
    apart : (parts : List (List Entry)) → dictionary vs ∷ filter is_read qs ≡ map entries parts → ⊥
    apart [] e = cc
    apart (x ∷ xs) e = cc

-- ---- the others are what is left after it

-- the dictionary, the page that it still has to have, and the parts, of the pages after the first
pub record Later (k : Known) (d : Option (List ValueTree)) (qs : List Page) : Type 0 where
  pub first : List Page
  pub parts : List (List Entry)
  pub is_known : IsKnown k d first
  pub in_order : filter is_read qs ≡ first ++ map entries parts

later : (k : Known) (d : Option (List ValueTree)) (first : List Page) (q : Page) (qs : List Page) (parts : List (List Entry)) → IsKnown k d first → filter is_read (q ∷ qs) ≡ first ++ map entries parts → Later (known_after k q) d qs
later k d first skipped qs parts is e = record { first = first; parts = parts; is_known = is; in_order = e }
later (known c) d first (dictionary vs) qs parts is e = absurd (may_come (known c) d first (dictionary vs) qs parts is e)
later nothing None first (dictionary vs) qs parts is e = absurd (apart parts (e ∙ ap (λ (t : List Page). t ++ map entries parts) is))
  where
    apart : (parts : List (List Entry)) → dictionary vs ∷ filter is_read qs ≡ map entries parts → ⊥
    apart [] e = cc
    apart (x ∷ xs) e = cc
later nothing (Some ws) first (dictionary vs) qs parts is e =
    let joined : dictionary vs ∷ filter is_read qs ≡ dictionary ws ∷ map entries parts = e ∙ ap (λ (t : List Page). t ++ map entries parts) is in
    record { first = []; parts = parts; is_known = (same (heads _ _ _ _ joined), refl); in_order = tails _ _ _ _ joined }
  where
    same : dictionary vs ≡ dictionary ws → Some ws ≡ Some vs
    same e = cc
later k d first (entries es) qs parts is e = of_known k d is refl
  where
    of_parts : (c : Option (List ValueTree)) (parts : List (List Entry)) → d ≡ c → entries es ∷ filter is_read qs ≡ map entries parts → Later (known c) d qs
    of_parts c [] same e = cc
    of_parts c (x ∷ xs) same e = record { first = []; parts = xs; is_known = (same, refl); in_order = tails _ _ _ _ e }

    apart : (ws : List ValueTree) → entries es ∷ filter is_read qs ≡ dictionary ws ∷ map entries parts → ⊥
    apart ws e = cc

    of_known : (k : Known) (o : Option (List ValueTree)) → IsKnown k o first → o ≡ d → Later (known (dictionary_of k)) d qs
    of_known (known c) o is same = of_parts c parts (sym same ∙ is.0) (e ∙ ap (λ (t : List Page). t ++ map entries parts) is.1)
    of_known nothing None is same = of_parts None parts (sym same) (e ∙ ap (λ (t : List Page). t ++ map entries parts) is)
    of_known nothing (Some ws) is same = absurd (apart ws (e ∙ ap (λ (t : List Page). t ++ map entries parts) is))

-- the page that was read stands here, and no other does
pub record IsHere (s : ChunkLeft) (p : Page) (used : ℕ) : Type 0 where
  pub stands : IsPage s.leaf (dictionary_of s.known) s.bytes p used
  pub only : IsOnlyPage s.leaf (dictionary_of s.known) s.bytes p used
  pub within : used ≤ length s.bytes
  pub few : length (entries_of p) ≤ s.lacking
  pub short : IsPageOver s.leaf s.bytes → ⊥

-- the pages that stand begin with it
pub record Begins (s : ChunkLeft) (p : Page) (used lacking : ℕ) (q : Page) (qs : List Page) (u : ℕ) : Type 0 where
  pub page : q ≡ p
  pub rest : ℕ
  pub size : u ≡ used + rest
  pub are_next : AreNext (after s p used lacking) qs rest

pub begins : DictionaryIsNotRead → (s : ChunkLeft) (p : Page) (used lacking : ℕ) (q : Page) (qs : List Page) (u : ℕ) → IsHere s p used → AreNext s (q ∷ qs) u → Begins s p used lacking q qs u
begins unread s p used lacking q qs u here n =
    let turn = n.spelled in
    let one = here.only q turn.0 (first_page unread s.leaf s.known n.dictionary_values n.first s.bytes q qs n.parts turn.0 n.is_known n.in_order turn.2) in
    let l = subst (λ (t : Page). Later (known_after s.known t) n.dictionary_values qs) one.0 (later s.known n.dictionary_values n.first q qs n.parts n.is_known n.in_order) in
    record {
      page = one.0;
      rest = turn.1;
      size = turn.4 ∙ ap (λ (k : ℕ). k + turn.1) one.1;
      are_next = record {
        dictionary_values = n.dictionary_values;
        first = l.first;
        parts = l.parts;
        is_known = l.is_known;
        spelled = subst (λ (k : ℕ). InTurn (IsPage s.leaf n.dictionary_values) (drop k s.bytes) qs turn.1) one.1 turn.3;
        in_order = l.in_order;
      };
    }

pub comes : DictionaryIsNotRead → (s : ChunkLeft) (p : Page) (used : ℕ) (q : Page) (qs : List Page) (u : ℕ) → IsHere s p used → AreNext s (q ∷ qs) u → MayCome s.known p
comes unread s p used q qs u here n =
    let turn = n.spelled in
    let one = here.only q turn.0 (first_page unread s.leaf s.known n.dictionary_values n.first s.bytes q qs n.parts turn.0 n.is_known n.in_order turn.2) in
    subst (MayCome s.known) one.0 (may_come s.known n.dictionary_values n.first q qs n.parts n.is_known n.in_order)

-- and back: the page before pages that are left after it
pub before : DictionaryIsNotRead → (s : ChunkLeft) (p : Page) (used lacking : ℕ) (qs : List Page) (rest : ℕ) → IsPage s.leaf (dictionary_of s.known) s.bytes p used → MayCome s.known p
    → AreNext (after s p used lacking) qs rest → AreNext s (p ∷ qs) (used + rest)
before unread s p used lacking qs rest h may n = by s.known p refl refl h may n.is_known
  where
    with : (first : List Page) (parts : List (List Entry)) → IsKnown s.known n.dictionary_values first → IsPage s.leaf n.dictionary_values s.bytes p used → filter is_read (p ∷ qs) ≡ first ++ map entries parts → AreNext s (p ∷ qs) (used + rest)
    with first parts is stands order = record {
      dictionary_values = n.dictionary_values;
      first = first;
      parts = parts;
      is_known = is;
      spelled = (used, rest, stands, n.spelled, refl);
      in_order = order;
    }

    by : (k : Known) (q : Page) → s.known ≡ k → p ≡ q → IsPage s.leaf (dictionary_of k) s.bytes q used → MayCome k q → IsKnown (known_after k q) n.dictionary_values n.first → AreNext s (p ∷ qs) (used + rest)
    by (known c) (dictionary vs) ek ep h may is = absurd may
    by k skipped ek ep h may is =
        with n.first n.parts (subst (λ (t : Known). IsKnown t n.dictionary_values n.first) (sym ek) is)
        (subst (λ (t : Page). IsPage s.leaf n.dictionary_values s.bytes t used) (sym ep) (unread s.leaf (dictionary_of k) n.dictionary_values s.bytes skipped used tt h))
        (ap (λ (t : Page). filter is_read (t ∷ qs)) ep ∙ n.in_order)
    by nothing (dictionary vs) ek ep h may is =
        with (dictionary vs ∷ []) n.parts (subst (λ (t : Known). IsKnown t n.dictionary_values (dictionary vs ∷ [])) (sym ek) (sym (ap dictionary_page is.0)))
        (subst (λ (t : Page). IsPage s.leaf n.dictionary_values s.bytes t used) (sym ep) (unread s.leaf None n.dictionary_values s.bytes (dictionary vs) used tt h))
        (ap (λ (t : Page). filter is_read (t ∷ qs)) ep ∙ ap (λ (t : List Page). dictionary vs ∷ t) (n.in_order ∙ ap (λ (t : List Page). t ++ map entries n.parts) is.1))
    by nothing (entries es) ek ep h may is =
        with [] (es ∷ n.parts) (subst (λ (t : Known). IsKnown t n.dictionary_values []) (sym ek) (sym (ap dictionary_page is.0)))
        (subst (λ (t : Page). IsPage s.leaf n.dictionary_values s.bytes t used) (sym ep) (subst (λ (o : Option (List ValueTree)). IsPage s.leaf o s.bytes (entries es) used) (sym is.0) h))
        (ap (λ (t : Page). filter is_read (t ∷ qs)) ep ∙ ap (λ (t : List Page). entries es ∷ t) (n.in_order ∙ ap (λ (t : List Page). t ++ map entries n.parts) is.1))
    by (known c) (entries es) ek ep h may is =
        with [] (es ∷ n.parts) (subst (λ (t : Known). IsKnown t n.dictionary_values []) (sym ek) (is.0, refl))
        (subst (λ (t : Page). IsPage s.leaf n.dictionary_values s.bytes t used) (sym ep) (subst (λ (o : Option (List ValueTree)). IsPage s.leaf o s.bytes (entries es) used) (sym is.0) h))
        (ap (λ (t : Page). filter is_read (t ∷ qs)) ep ∙ ap (λ (t : List Page). entries es ∷ t) (n.in_order ∙ ap (λ (t : List Page). t ++ map entries n.parts) is.1))

-- ---- what the pages hold, and what is over a limit

module _ (unread : DictionaryIsNotRead) (s : ChunkLeft) (p : Page) (used lacking : ℕ) (some : 0 < s.lacking) (here : IsHere s p used) (may : MayCome s.known p) (count : lacking + length (entries_of p) ≡ s.lacking) where
  onward : (all : List Entry) (u : ℕ) → HoldsRest s all u → (rest : List Entry) × (v : ℕ) × (all ≡ entries_of p ++ rest) × (u ≡ used + v) × HoldsRest (after s p used lacking) rest v
  onward all u h = by h.pages h.are_next h.joined h.until
    where
      by : (pages : List Page) → AreNext s pages u → all ≡ all_entries pages → ((k : ℕ) → k < length pages → length (all_entries (take k pages)) < s.lacking)
          → (rest : List Entry) × (v : ℕ) × (all ≡ entries_of p ++ rest) × (u ≡ used + v) × HoldsRest (after s p used lacking) rest v
      by [] n joined until = absurd (let e = ap length joined in let c = h.count in omega (arith, e, c, some))
      by (q ∷ qs) n joined until =
          let b = begins unread s p used lacking q qs u here n in
          let all_are : all ≡ entries_of p ++ all_entries qs = joined ∙ ap (λ (t : Page). entries_of t ++ all_entries qs) b.page in
          let total = length-append (entries_of p) (all_entries qs) in
          let size = ap length all_are in
          let c = h.count in (
            all_entries qs,
            b.rest,
            all_are,
            b.size,
            record {
              pages = qs;
              are_next = b.are_next;
              joined = refl;
              count = omega (arith, total, size, c, count);
              until = λ k lt.
                  let below : length (all_entries (take (suc k) (q ∷ qs))) < s.lacking = until (suc k) (omega (arith, lt)) in
                  let front : length (entries_of q ++ all_entries (take k qs)) ≡ length (entries_of q) + length (all_entries (take k qs)) = length-append (entries_of q) (all_entries (take k qs)) in
                  let same : length (entries_of q) ≡ length (entries_of p) = ap (λ (t : Page). length (entries_of t)) b.page in
                  omega (arith, below, front, same, count);
            },
          )

  back : (rest : List Entry) (v : ℕ) → HoldsRest (after s p used lacking) rest v → HoldsRest s (entries_of p ++ rest) (used + v)
  back rest v h = record {
    pages = p ∷ h.pages;
    are_next = before unread s p used lacking h.pages v here.stands may h.are_next;
    joined = ap (λ (t : List Entry). entries_of p ++ t) h.joined;
    count = let total = length-append (entries_of p) rest in let c = h.count in omega (arith, total, c, count);
    until = until;
  }
    where
      until : (k : ℕ) → k < length (p ∷ h.pages) → length (all_entries (take k (p ∷ h.pages))) < s.lacking
      until zero lt = some
      until (suc k) lt =
          let below = h.until k (omega (arith, lt)) in
          let front : length (entries_of p ++ all_entries (take k h.pages)) ≡ length (entries_of p) + length (all_entries (take k h.pages)) = length-append (entries_of p) (all_entries (take k h.pages)) in
          omega (arith, below, front, count)

  over_onward : HasRestOver s → HasRestOver (after s p used lacking)
  over_onward h = by h.before h.are_next h.fewer
    where
      by : (pages : List Page) → AreNext s pages h.at → length (all_entries pages) < s.lacking → HasRestOver (after s p used lacking)
      by [] n fewer = absurd (here.short (subst (λ (k : ℕ). IsPageOver s.leaf (drop k s.bytes)) n.spelled h.over))
      by (q ∷ qs) n fewer =
          let b = begins unread s p used lacking q qs h.at here n in
          let total = length-append (entries_of q) (all_entries qs) in
          let same : length (entries_of q) ≡ length (entries_of p) = ap (λ (t : Page). length (entries_of t)) b.page in
          record {
            before = qs;
            at = b.rest;
            are_next = b.are_next;
            fewer = omega (arith, fewer, total, same, count);
            over = subst (IsPageOver s.leaf) (ap (λ (k : ℕ). drop k s.bytes) b.size ∙ sym (drop-drop b.rest used s.bytes)) h.over;
          }

  over_back : HasRestOver (after s p used lacking) → HasRestOver s
  over_back h = record {
    before = p ∷ h.before;
    at = used + h.at;
    are_next = before unread s p used lacking h.before h.at here.stands may h.are_next;
    fewer = let total = length-append (entries_of p) (all_entries h.before) in let f = h.fewer in omega (arith, total, f, count);
    over = subst (IsPageOver s.leaf) (drop-drop h.at used s.bytes) h.over;
  }

  pub passes_page : Passes s (after s p used lacking) (entries_of p)
  passes_page = record { used = used; within = here.within; leaf = refl; bytes = refl; lacking = count; onward = onward; back = back; over_onward = over_onward; over_back = over_back }

-- nothing stands where the page may not come, or where no page stands
pub nothing_after : DictionaryIsNotRead → (s : ChunkLeft) (p : Page) (used : ℕ) → 0 < s.lacking → IsHere s p used → (MayCome s.known p → ⊥) → NothingStands (HoldsRest s)
nothing_after unread s p used some here not es u h = by h.pages h.are_next h.joined
  where
    by : (pages : List Page) → AreNext s pages u → es ≡ all_entries pages → ⊥
    by [] n joined = let e = ap length joined in let c = h.count in omega (arith, e, c, some)
    by (q ∷ qs) n joined = not (comes unread s p used q qs u here n)

pub nothing_here : DictionaryIsNotRead → (s : ChunkLeft) → 0 < s.lacking
    → ((p : Page) (used : ℕ) → IsPage s.leaf (dictionary_of s.known) s.bytes p used → length (entries_of p) ≤ s.lacking → ⊥) → NothingStands (HoldsRest s)
nothing_here unread s some none es u h = by h.pages h.are_next h.joined
  where
    by : (pages : List Page) → AreNext s pages u → es ≡ all_entries pages → ⊥
    by [] n joined = let e = ap length joined in let c = h.count in omega (arith, e, c, some)
    by (q ∷ qs) n joined =
        let turn = n.spelled in
        let e = ap length joined in
        let c = h.count in
        let total = length-append (entries_of q) (all_entries qs) in
        none q turn.0 (first_page unread s.leaf s.known n.dictionary_values n.first s.bytes q qs n.parts turn.0 n.is_known n.in_order turn.2) (omega (arith, e, c, total))

-- ---- no pages

no_pages_at : (k : Known) (s : ChunkLeft) → s.known ≡ k → AreNext s [] 0
no_pages_at nothing s e = record { dictionary_values = None; first = []; parts = []; is_known = subst (λ (t : Known). IsKnown t None []) (sym e) refl; spelled = refl; in_order = refl }
no_pages_at (known c) s e = record { dictionary_values = c; first = []; parts = []; is_known = subst (λ (t : Known). IsKnown t c []) (sym e) (refl, refl); spelled = refl; in_order = refl }

no_pages : (s : ChunkLeft) → AreNext s [] 0
no_pages s = no_pages_at s.known s refl

-- where nothing is lacking, nothing is what is left
pub holds_nothing : (s : ChunkLeft) → s.lacking ≡ 0 → HoldsRest s [] 0
holds_nothing s e = record { pages = []; are_next = no_pages s; joined = refl; count = sym e; until = λ k lt. absurd (omega (arith, lt)) }

-- a page here is over a limit
pub over_here : (s : ChunkLeft) → 0 < s.lacking → IsPageOver s.leaf s.bytes → HasRestOver s
over_here s some over = record { before = []; at = 0; are_next = no_pages s; fewer = some; over = over }

-- ---- one after the other

pub passes_none : (s : ChunkLeft) → Passes s s []
passes_none s = record {
  used = 0;
  within = omega arith;
  leaf = refl;
  bytes = refl;
  lacking = omega arith;
  onward = λ all u h. (all, u, refl, omega arith, h);
  back = λ rest v h. let e : v ≡ 0 + v = omega arith in subst (HoldsRest s rest) e h;
  over_onward = λ h. h;
  over_back = λ h. h;
}

pub passes_then : (s t u : ChunkLeft) (es fs : List Entry) → Passes s t es → Passes t u fs → Passes s u (es ++ fs)
passes_then s t u es fs p q = record {
  used = p.used + q.used;
  within = let size = ap (λ (b : List ℕ). length b) p.bytes in let d = length-drop p.used s.bytes in let a = p.within in let b = q.within in omega (arith, size, d, a, b);
  leaf = q.leaf ∙ p.leaf;
  bytes = q.bytes ∙ ap (drop q.used) p.bytes ∙ drop-drop q.used p.used s.bytes;
  lacking = let a = p.lacking in let b = q.lacking in let size = length-append es fs in omega (arith, a, b, size);
  onward = λ all n h.
      let a = p.onward all n h in
      let b = q.onward a.0 a.1 a.4 in
      (b.0, b.1, a.2 ∙ ap (λ (x : List Entry). es ++ x) b.2 ∙ sym (append_assoc es fs b.0), omega (arith, a.3, b.3), b.4);
  back = λ rest v h.
      let e : (p.used + q.used) + v ≡ p.used + (q.used + v) = omega arith in
      subst (HoldsRest s ((es ++ fs) ++ rest)) (sym e) (subst (λ (x : List Entry). HoldsRest s x (p.used + (q.used + v))) (sym (append_assoc es fs rest)) (p.back (fs ++ rest) (q.used + v) (q.back rest v h)));
  over_onward = λ h. q.over_onward (p.over_onward h);
  over_back = λ h. p.over_back (q.over_back h);
}
