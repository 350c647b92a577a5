-- One page after the other.
use Rattle.std.proofs.Common.{◌≡◌, ℕ, ◌<◌, Bool, true, false, ◌&&◌, List, [], ◌∷◌, drop, Option, Some, None, Result, Ok, Err, inl, inr, refl, sym, ap, subst, ◌∙◌}
use Rattle.std.specs.Prelude.{MatchOption, IsTrue}
use Rattle.std.specs.List.{AllByRecursion}
use Rattle.std.specs.Option.{option_map_or}
use Rattle.std.proofs.lemmas.Bool.{false≢true}
use Rattle.std.specs.Result.{IsErrAnd}
use Rattle.bits.specs.Codec.{NothingStands}
use Rattle.bits.specs.Faults.{refusal_of}
use Rattle.bits.specs.Refusals.{IsFault, HasCause}
use Rattle.bits.specs.declared.fault.Fault.{Fault}
use Rattle.bits.specs.declared.refusal.Refusal.{Refusal}
use Rattle.bits.specs.declared.refusal.Refusal.TheVariants as refusal
use Rattle.schema.specs.Values.{ValueTree}
use Rattle.schema.specs.Fits.{fits_leaf}
use Rattle.schema.specs.Stripe.{Leaf, Entry}
use Rattle.schema.specs.Law.{IsEntryOf}
use Rattle.pages.specs.declared.data_page.DataPage.{DataPage}
use Rattle.pages.specs.Page.{Page, skipped, dictionary, entries, IsPage, IsBody}
use Rattle.pages.specs.Chunk.{entries_of}
use Rattle.pages.specs.Left.{entries_left}
use Rattle.pages.specs.Limits.{IsPageOver, IsOfPages}
use Rattle.pages.specs.Apart.{DictionaryIsNotRead, IsPageOfAtMost}
use Rattle.row_group.specs.PageLeft.{value_fits, values_fit}
use Rattle.row_group.specs.Rest.{Known, dictionary_of, ChunkLeft}
use Rattle.row_group.specs.inner.Pages.{IsAccepted, AcceptedWhere, Passes, IsRefusedAt, ReadsPage, NextPage, MayCome, known_after, IsAfter, TakesPage}
use Rattle.row_group.proofs.NextPages.{after, IsHere, passes_page, nothing_after, nothing_here, over_here, passes_none, passes_then}

abbrev left_of : Leaf → Known → List ℕ → ℕ → ChunkLeft
left_of leaf k bytes lacking = record { leaf = leaf; known = k; bytes = bytes; lacking = lacking }

same_state : (s t : ChunkLeft) → s.leaf ≡ t.leaf → s.known ≡ t.known → s.bytes ≡ t.bytes → s.lacking ≡ t.lacking → s ≡ t
same_state s t a b c d =
    ap (λ (x : Leaf). left_of x s.known s.bytes s.lacking) a ∙ ap (λ (x : Known). left_of t.leaf x s.bytes s.lacking) b ∙ ap (λ (x : List ℕ). left_of t.leaf t.known x s.lacking) c ∙ ap (λ (x : ℕ). left_of t.leaf t.known t.bytes x) d

-- ---- the page is refused

pub read_refused : DictionaryIsNotRead → (s : ChunkLeft) (e : Refusal) → 0 < s.lacking → HasCause IsOfPages e → (IsFault e → NothingStands (IsPageOfAtMost s.lacking s.leaf (dictionary_of s.known) s.bytes))
    → (e ≡ refusal.Limit → IsPageOver s.leaf s.bytes) → IsRefusedAt s s e
read_refused unread s refusal.Memory some cause only limit = passes_none s
read_refused unread s refusal.Limit some cause only limit = over_here s some (limit refl)
read_refused unread s _ some cause only limit = (cause, nothing_here unread s some (λ p used h few. only tt p used (h, few)))

-- ---- a page that was accepted stands

pub accepted_stands : DictionaryIsNotRead → (s : ChunkLeft) → 0 < s.lacking → IsAccepted s → NothingStands (IsPageOfAtMost s.lacking s.leaf (dictionary_of s.known) s.bytes) → ⊥
accepted_stands unread s some accepted none = accepted.0 (nothing_here unread s some (λ p used h few. none p used (h, few)))

pub accepted_short : (s : ChunkLeft) → 0 < s.lacking → IsAccepted s → IsPageOver s.leaf s.bytes → ⊥
accepted_short s some accepted over = accepted.1 (over_here s some over)

-- what is left after it was accepted too
pub passes_accepted : (old new : ChunkLeft) (es : List Entry) → Passes old new es → IsAccepted old → IsAccepted new
passes_accepted old new es p accepted = (λ none. accepted.0 (λ all used h. let rest = p.onward all used h in none rest.0 rest.1 rest.4), λ over. accepted.1 (p.over_back over))

-- so it is after each call
pub next_accepted : (flag : Bool) (old new : ChunkLeft) (r : Result (Option DataPage) Fault) → AcceptedWhere flag old → NextPage old new r → AcceptedWhere flag new
next_accepted flag old new (Ok (Some page)) accepted n = λ on. passes_accepted old new (entries_left page) n.0 (accepted on)
next_accepted flag old new (Ok None) accepted n = λ on. passes_accepted old new [] n.0 (accepted on)
next_accepted flag old new (Err f) accepted n = λ on. by (refusal_of f) (accepted on) n
  where
    by : (e : Refusal) → IsAccepted old → IsRefusedAt old new e → IsAccepted new
    by refusal.Memory accepted n = passes_accepted old new [] n accepted
    by refusal.Limit accepted n = absurd (accepted.1 n)
    by _ accepted n = absurd (accepted.0 n.1)

-- ---- the page is taken

passes_to : DictionaryIsNotRead → (s t new : ChunkLeft) (p : Page) (used : ℕ) → 0 < s.lacking → IsHere s p used → t ≡ left_of s.leaf s.known (drop used s.bytes) s.lacking → MayCome t.known p → IsAfter t new p → Passes s new (entries_of p)
passes_to unread s t new p used some here e may is =
    let known : t.known ≡ s.known = ap (λ (x : ChunkLeft). x.known) e in
    let state : new ≡ after s p used new.lacking =
    same_state new (after s p used new.lacking) (is.leaf ∙ ap (λ (x : ChunkLeft). x.leaf) e) (is.known ∙ ap (λ (k : Known). known_after k p) known) (is.bytes ∙ ap (λ (x : ChunkLeft). x.bytes) e) refl in
    subst (λ (x : ChunkLeft). Passes s x (entries_of p)) (sym state)
    (passes_page unread s p used new.lacking some here (subst (λ (k : Known). MayCome k p) known may) (is.lacking ∙ ap (λ (x : ChunkLeft). x.lacking) e))

-- the values of a page's entries are its leaf's
values_of_leaf : (leaf : Leaf) (es : List Entry) → AllByRecursion (IsEntryOf leaf) es → values_fit leaf.leaf_type es ≡ true
values_of_leaf leaf [] h = refl
values_of_leaf leaf (e ∷ es) h = both (value_fits leaf.leaf_type e) (values_fit leaf.leaf_type es) (of_value e.value h.0.value) (values_of_leaf leaf es h.1)
  where
    both : (a b : Bool) → a ≡ true → b ≡ true → (a && b) ≡ true
    both true b p q = q
    both false b p q = absurd (false≢true p)

    of_value : (o : Option ValueTree) → MatchOption o (e.definition < leaf.greatest_definition) (λ v. (e.definition ≡ leaf.greatest_definition) × IsTrue (fits_leaf leaf.leaf_type v)) → option_map_or (fits_leaf leaf.leaf_type) o true ≡ true
    of_value None h = refl
    of_value (Some v) h = h.1

-- the entries of a page are its leaf's
pub page_of_leaf : (leaf : Leaf) (d : Option (List ValueTree)) (bytes : List ℕ) (p : Page) (used : ℕ) → IsPage leaf d bytes p used → AllByRecursion (IsEntryOf leaf) (entries_of p)
page_of_leaf leaf d bytes skipped used h = tt
page_of_leaf leaf d bytes (dictionary vs) used h = tt
page_of_leaf leaf d bytes (entries es) used h = by h.stands_for
  where
    by : IsBody leaf d h.header h.body (entries es) → AllByRecursion (IsEntryOf leaf) es
    by (inl one) = one.3.each
    by (inr two) = two.3.each

page_fits : (leaf : Leaf) (d : Option (List ValueTree)) (bytes : List ℕ) (p : Page) (used : ℕ) → IsPage leaf d bytes p used → values_fit leaf.leaf_type (entries_of p) ≡ true
page_fits leaf d bytes p used h = values_of_leaf leaf (entries_of p) (page_of_leaf leaf d bytes p used h)

pub page_taken : DictionaryIsNotRead → (s t new : ChunkLeft) (p : Page) (used : ℕ) (r : Result (Option DataPage) Fault) → 0 < s.lacking → IsHere s p used → t ≡ left_of s.leaf s.known (drop used s.bytes) s.lacking → TakesPage t new p r → ReadsPage s new r
page_taken unread s t new p used (Ok (Some given)) some here e h = (
  subst (Passes s new) (sym h.2) (passes_to unread s t new p used some here e h.0 h.1),
  h.3,
  ap (values_fit new.leaf.leaf_type) h.2 ∙ subst (λ (l : Leaf). values_fit l.leaf_type (entries_of p) ≡ true) (sym (h.1.leaf ∙ ap (λ (x : ChunkLeft). x.leaf) e)) (page_fits s.leaf (dictionary_of s.known) s.bytes p used here.stands),
)
page_taken unread s t new p used (Ok None) some here e h = (subst (Passes s new) h.2 (passes_to unread s t new p used some here e h.0 h.1), (p, used, here.stands, h.1.bytes ∙ ap (λ (x : ChunkLeft). x.bytes) e))
page_taken unread s t new p used (Err f) some here e h =
    subst (λ (g : Fault). IsRefusedAt s new (refusal_of g)) (sym h.0)
    (tt, nothing_after unread s p used some here (λ may. h.1 (subst (λ (k : Known). MayCome k p) (sym (ap (λ (x : ChunkLeft). x.known) e)) may)))

-- ---- one after the other

pub refused_later : (s t u : ChunkLeft) (e : Refusal) → Passes s t [] → IsRefusedAt t u e → IsRefusedAt s u e
refused_later s t u refusal.Memory p h = passes_then s t u [] [] p h
refused_later s t u refusal.Limit p h = p.over_back h
refused_later s t u _ p h = (h.0, λ es n held. let a = p.onward es n held in h.1 a.0 a.1 a.4)

pub next_refused : (s u : ChunkLeft) (r : Result (Option DataPage) Fault) (f : Fault) → IsErrAnd r (λ g. g ≡ f) → IsRefusedAt s u (refusal_of f) → NextPage s u r
next_refused s u (Ok x) f is h = absurd is
next_refused s u (Err g) f is h = subst (λ (x : Fault). IsRefusedAt s u (refusal_of x)) (sym is) h
