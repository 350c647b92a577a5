-- Pages whose values are copied as they are in PLAIN.
use Rattle.std.proofs.Common.{◌≡◌, ◌≢◌, ℕ, suc, ◌+◌, ◌<◌, ◌≤◌, List, [], ◌∷◌, ◌++◌, length, take, drop, refl, sym, ap, subst, ◌∙◌, arith, append_assoc}
use Rattle.std.specs.Prelude.{min}
use Rattle.std.specs.List.{Any, AllByRecursion}
use Rattle.std.proofs.lemmas.List.{append-nil, length-append, length-map, length-take, map-append, take_all, take_at, take-take, take-append-drop, drop_at}
use Rattle.lists.proofs.Lists.{all_append as all_both, any_left as any_front}
use Rattle.bits.specs.Codec.{Appends}
use Rattle.schema.specs.declared.value.Kind.{Kind}
use Rattle.schema.specs.declared.value.Kind.TheVariants.{Boolean}
use Rattle.schema.specs.Values.{ValueTree}
use Rattle.schema.specs.Stripe.{Leaf, Entry}
use Rattle.schema.specs.Law.{IsEntryOf}
use Rattle.plain.specs.Plain.{IsPlain, IsTooLong}
use Rattle.plain.specs.Flat.{flat_entry, flat_entries}
use Rattle.pages.specs.declared.encoding.Encoding.TheVariants.{Plain}
use Rattle.pages.specs.declared.page_version.PageVersion.{PageVersion}
use Rattle.pages.specs.Page.{values}
use Rattle.pages.specs.Headers.{rows_in, IsWrittenPage}
use Rattle.pages.specs.WrittenValues.{AreValuesIn}
use Rattle.pages.specs.Writing.{page_weight, AreShort, IsPageTooMuch, StandsAsPage}
use Rattle.pages.specs.PlainBytes.{FillPlain}
use Rattle.pages.proofs.WrittenPages.{all_short}
use Rattle.row_group.specs.declared.options.ChunkOptions.{ChunkOptions}
use Rattle.row_group.specs.declared.pages_in_turn.PageValues.TheVariants.{Encoded}
use Rattle.row_group.specs.Greatest.{most_bytes_before}
use Rattle.row_group.specs.Paged.{BeginsRow}
use Rattle.row_group.specs.inner.Parts.{IsFirstPage, IsPart, AppendsParts, ArePartsTooMuch}
use Rattle.row_group.specs.inner.Parts as parts_of
use Rattle.row_group.proofs.PartsPut.{PartsPut, none_put, one_put, all_put, too_heavy, page_too_much, value_part, all_in_page, any_back}

-- ---- the entries of values

pub flat_length : (vs : List ValueTree) → length (flat_entries vs) ≡ length vs
flat_length vs = length-map vs flat_entry

pub flat_values : (vs : List ValueTree) → values (flat_entries vs) ≡ vs
flat_values [] = refl
flat_values (v ∷ vs) = ap (λ (t : List ValueTree). v ∷ t) (flat_values vs)

flat_rows : (vs : List ValueTree) → rows_in (flat_entries vs) ≡ length vs
flat_rows [] = refl
flat_rows (v ∷ vs) = ap suc (flat_rows vs)

flat_begins : (vs : List ValueTree) → 0 < length vs → BeginsRow (flat_entries vs)
flat_begins [] some = absurd (omega (arith, some))
flat_begins (v ∷ vs) some = refl

flat_both : (vs ws : List ValueTree) → flat_entries (vs ++ ws) ≡ flat_entries vs ++ flat_entries ws
flat_both vs ws = map-append flat_entry vs ws

flat_after : (vs ws : List ValueTree) → drop (length vs) (flat_entries (vs ++ ws)) ≡ flat_entries ws
flat_after vs ws = ap (drop (length vs)) (flat_both vs ws) ∙ drop_at (flat_entries vs) (flat_entries ws) (length vs) (flat_length vs)

flat_first : (vs ws : List ValueTree) → take (length vs) (flat_entries (vs ++ ws)) ≡ flat_entries vs
flat_first vs ws = ap (take (length vs)) (flat_both vs ws) ∙ take_at (flat_entries vs) (flat_entries ws) (length vs) (flat_length vs)

pub flat_short : (vs : List ValueTree) → AllByRecursion (λ v. IsTooLong v → ⊥) vs → AreShort (flat_entries vs)
flat_short vs short = subst (AllByRecursion (λ v. IsTooLong v → ⊥)) (sym (flat_values vs)) short

-- each begins a row: the first page has as many as the page has rows, or all
flat_page : (size : ℕ) (taken rest : List ValueTree) → 0 < length taken → length taken ≤ size → (0 < length rest → length taken ≡ size) → IsFirstPage size (flat_entries (taken ++ rest)) (length taken)
flat_page size taken rest some few full =
    let n = length taken in
    let rows : rows_in (take n (flat_entries (taken ++ rest))) ≡ n = ap rows_in (flat_first taken rest) ∙ flat_rows taken in
    let whole : length (flat_entries (taken ++ rest)) ≡ n + length rest = flat_length (taken ++ rest) ∙ length-append taken rest in
    record {
      some = some;
      within = omega (arith, whole);
      few = omega (arith, rows, few);
      full = λ more. let left : 0 < length rest = omega (arith, whole, more) in (rows ∙ full left, subst BeginsRow (sym (flat_after taken rest)) (flat_begins rest left));
    }

-- ---- what was there stays

pub kept_more : (old mid new : List ℕ) → take (length old) mid ≡ old → take (length mid) new ≡ mid → take (length old) new ≡ old
kept_more old mid new first then =
    let less : length old ≤ length mid = omega (arith, ap length first, length-take (length old) mid) in
    sym (take-take (length old) (length mid) new less) ∙ ap (take (length old)) then ∙ first

-- ---- the loop

-- the pages of the first values are written, and these values are left
pub record Copied (leaf : Leaf) (o : ChunkOptions) (vs left : List ValueTree) (old new : List ℕ) : Type 0 where
  pub done : List ValueTree
  pub split : vs ≡ done ++ left
  pub kept : take (length old) new ≡ old
  pub short : AllByRecursion (λ v. IsTooLong v → ⊥) done
  pub put : AllByRecursion (IsEntryOf leaf) (flat_entries vs) → PartsPut leaf o (Encoded Plain) (flat_entries vs) old new (length done)

pub none_copied : (leaf : Leaf) (o : ChunkOptions) (vs : List ValueTree) (old : List ℕ) → Copied leaf o vs vs old old
none_copied leaf o vs old = record {
  done = [];
  split = refl;
  kept = take_all (length old) old (omega arith);
  short = tt;
  put = λ all. none_put leaf o (Encoded Plain) (flat_entries vs) old;
}

-- the values that are left from here on, and the page of the first of them
left_here : (vs done taken rest left : List ValueTree) → vs ≡ done ++ left → left ≡ taken ++ rest → drop (length done) (flat_entries vs) ≡ flat_entries (taken ++ rest)
left_here vs done taken rest left split joined = ap (λ (t : List ValueTree). drop (length done) (flat_entries t)) (split ∙ ap (λ (t : List ValueTree). done ++ t) joined) ∙ flat_after done (taken ++ rest)

page_here : (vs done taken rest left : List ValueTree) → vs ≡ done ++ left → left ≡ taken ++ rest → take (length taken) (drop (length done) (flat_entries vs)) ≡ flat_entries taken
page_here vs done taken rest left split joined = ap (take (length taken)) (left_here vs done taken rest left split joined) ∙ flat_first taken rest

page_of_leaf : (leaf : Leaf) (vs done taken rest left : List ValueTree) → vs ≡ done ++ left → left ≡ taken ++ rest → AllByRecursion (IsEntryOf leaf) (flat_entries vs) → AllByRecursion (IsEntryOf leaf) (flat_entries taken)
page_of_leaf leaf vs done taken rest left split joined all =
    subst (AllByRecursion (IsEntryOf leaf)) (page_here vs done taken rest left split joined) (all_in_page (IsEntryOf leaf) (flat_entries vs) (length done) (length taken) all)

-- a page more
pub one_copied : (leaf : Leaf) (o : ChunkOptions) (vs left taken rest : List ValueTree) (old mid new : List ℕ) → left ≡ taken ++ rest → 0 < length taken → length taken ≤ o.page_rows → (0 < length rest → length taken ≡ o.page_rows)
    → (Any IsTooLong taken → ⊥) → take (length mid) new ≡ mid
    → (AllByRecursion (IsEntryOf leaf) (flat_entries taken) → Appends (λ bytes. IsPart leaf o.page_version (Encoded Plain) bytes (flat_entries taken)) (page_weight (flat_entries taken)) mid new)
    → Copied leaf o vs left old mid → Copied leaf o vs rest old new
one_copied leaf o vs left taken rest old mid new joined some few full none kept written p =
    let es = flat_entries vs in
    let at = length p.done in
    let n = length taken in
    let here = left_here vs p.done taken rest left p.split joined in
    let page = page_here vs p.done taken rest left p.split joined in
    let short = all_short taken none in
    let first = subst (λ (t : List Entry). IsFirstPage o.page_rows t n) (sym here) (flat_page o.page_rows taken rest some few full) in
    record {
      done = p.done ++ taken;
      split = p.split ∙ ap (λ (t : List ValueTree). p.done ++ t) joined ∙ sym (append_assoc p.done taken rest);
      kept = kept_more old mid new p.kept kept;
      short = all_both (λ v. IsTooLong v → ⊥) p.done taken p.short short;
      put = λ all. subst (PartsPut leaf o (Encoded Plain) es old new) (sym (length-append p.done taken))
          (one_put leaf o (Encoded Plain) es old mid new at n first
          (subst (λ (t : List Entry). Appends (λ bytes. IsPart leaf o.page_version (Encoded Plain) bytes t) (page_weight t) mid new) (sym page) (written (page_of_leaf leaf vs p.done taken rest left p.split joined all)))
          (subst AreShort (sym page) (flat_short taken short)) (p.put all));
    }

-- all of them
none_left : (vs done left : List ValueTree) → vs ≡ done ++ left → length left ≤ 0 → vs ≡ done
none_left vs done [] split none = split ∙ append-nil done
none_left vs done (v ∷ left) split none = absurd (omega (arith, none))

pub all_copied : (leaf : Leaf) (o : ChunkOptions) (vs left : List ValueTree) (old new : List ℕ) → length left ≤ 0 → Copied leaf o vs left old new → AllByRecursion (IsEntryOf leaf) (flat_entries vs)
    → AppendsParts leaf o (Encoded Plain) (flat_entries vs) old new
all_copied leaf o vs left old new none p all =
    all_put leaf o (Encoded Plain) (flat_entries vs) old new (length p.done) (omega (arith, flat_length vs, ap length (none_left vs p.done left p.split none))) (p.put all)

pub copied_short : (leaf : Leaf) (o : ChunkOptions) (vs left : List ValueTree) (old new : List ℕ) → length left ≤ 0 → Copied leaf o vs left old new → AreShort (flat_entries vs)
copied_short leaf o vs left old new none p = flat_short vs (subst (AllByRecursion (λ v. IsTooLong v → ⊥)) (sym (none_left vs p.done left p.split none)) p.short)

-- ---- why values are too much

pub copied_too_heavy : (leaf : Leaf) (o : ChunkOptions) (vs left : List ValueTree) (old new : List ℕ) → 0 < o.page_rows → most_bytes_before < length new → Copied leaf o vs left old new → AllByRecursion (IsEntryOf leaf) (flat_entries vs)
    → ArePartsTooMuch (length old) o.page_rows (Encoded Plain) (flat_entries vs)
copied_too_heavy leaf o vs left old new large past p all = too_heavy leaf o (Encoded Plain) (flat_entries vs) old new (length p.done) large past (p.put all)

pub copied_too_long : (leaf : Leaf) (o : ChunkOptions) (vs left : List ValueTree) (old new : List ℕ) (before n : ℕ) → Any IsTooLong (take n left) → Copied leaf o vs left old new → ArePartsTooMuch before o.page_rows (Encoded Plain) (flat_entries vs)
copied_too_long leaf o vs left old new before n any p =
    let one = subst (Any IsTooLong) (take-append-drop n left) (any_front IsTooLong (take n left) (drop n left) any) in
    parts_of.long (subst (Any IsTooLong) (sym p.split ∙ sym (flat_values vs)) (any_back IsTooLong p.done left one))

pub copied_page_too_much : (leaf : Leaf) (o : ChunkOptions) (vs left taken rest : List ValueTree) (old new : List ℕ) (before : ℕ) → left ≡ taken ++ rest → Copied leaf o vs left old new
    → (AllByRecursion (IsEntryOf leaf) (flat_entries taken) → IsPageTooMuch (flat_entries taken)) → AllByRecursion (IsEntryOf leaf) (flat_entries vs) → ArePartsTooMuch before o.page_rows (Encoded Plain) (flat_entries vs)
copied_page_too_much leaf o vs left taken rest old new before joined p much all =
    page_too_much before o.page_rows (Encoded Plain) (flat_entries vs) (length p.done) (length taken)
    (subst IsPageTooMuch (sym (page_here vs p.done taken rest left p.split joined)) (much (page_of_leaf leaf vs p.done taken rest left p.split joined all)))

-- ---- one page

pub fills : (leaf : Leaf) (kind : Kind) (n : ℕ) (taken : List ValueTree) (text : List ℕ) → kind ≡ leaf.leaf_type.kind → kind ≢ Boolean → n ≡ length taken → IsPlain kind (length taken) text taken (length text)
    → AllByRecursion (IsEntryOf leaf) (flat_entries taken) → FillPlain leaf n taken text
fills leaf kind n taken text same whole count spelled each = record {
  counted = count;
  of_leaf = each;
  whole_bytes = λ is. whole (same ∙ is);
  spelled = subst (λ (k : Kind). IsPlain k n text taken (length text)) same (subst (λ (m : ℕ). IsPlain kind m text taken (length text)) (sym count) spelled);
}

pub copied_part : (leaf : Leaf) (version : PageVersion) (taken : List ValueTree) (old new : List ℕ) → Appends (IsWrittenPage leaf version Plain (AreValuesIn leaf.leaf_type.kind Plain taken) (flat_entries taken)) (page_weight (flat_entries taken)) old new
    → Appends (StandsAsPage leaf (flat_entries taken)) (page_weight (flat_entries taken)) old new → Appends (λ bytes. IsPart leaf version (Encoded Plain) bytes (flat_entries taken)) (page_weight (flat_entries taken)) old new
copied_part leaf version taken old new written stands =
    value_part leaf version Plain (flat_entries taken) old new
    (subst (λ (ws : List ValueTree). Appends (IsWrittenPage leaf version Plain (AreValuesIn leaf.leaf_type.kind Plain ws) (flat_entries taken)) (page_weight (flat_entries taken)) old new) (sym (flat_values taken)) written) stands

-- how many values a page takes
pub taken_few : (n size whole taken : ℕ) → n ≡ min whole size → taken ≡ min n whole → (taken ≡ n) × (taken ≤ size)
taken_few n size whole taken is count = (omega (arith, is, count), omega (arith, is, count))
