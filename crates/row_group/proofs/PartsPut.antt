-- Pages that are written one after another.
use Rattle.std.proofs.Common.{◌≡◌, ℕ, ◌+◌, ◌<◌, ◌≤◌, List, [], ◌∷◌, ◌++◌, length, take, drop, map, Option, None, Some, Result, Ok, Err, refl, sym, ap, subst, ◌∙◌, arith, append_assoc}
use Rattle.std.specs.Prelude.{All, OnErr, sum_by, slice_get}
use Rattle.std.specs.List.{Any, AllByRecursion}
use Rattle.std.proofs.lemmas.List.{append-nil, length-map, take-map, append_cancel_left, length-append, take-append-drop, take_at, drop-drop, drop_all}
use Rattle.std.proofs.lemmas.List.Sums.{sum_by_push, sum_by-append}
use Rattle.lists.proofs.Lists.{all_left as all_front, all_right as all_back, all_append as all_both, any_later, any_left as any_front}
use Rattle.bits.specs.declared.refusal.Refusal.{Refusal}
use Rattle.bits.specs.Codec.{Appends, InTurn}
use Rattle.bits.proofs.Appending.{appends_turn}
use Rattle.schema.specs.Values.{ValueTree}
use Rattle.schema.specs.Stripe.{Leaf, Entry}
use Rattle.schema.specs.declared.borrowed.EntryRef.{EntryRef}
use Rattle.schema.specs.Borrowed.{entry_ref_view}
use Rattle.plain.specs.Plain.{IsTooLong, text_size}
use Rattle.dictionary.specs.Entries.{AreEntriesAt}
use Rattle.dictionary.proofs.Lookups.{indexes_within}
use Rattle.pages.specs.declared.encoding.Encoding.{Encoding}
use Rattle.pages.specs.declared.encoding.Encoding.TheVariants.{RleDictionary}
use Rattle.pages.specs.declared.page_version.PageVersion.{PageVersion}
use Rattle.pages.specs.Page.{values, entries, IsPage}
use Rattle.pages.specs.Headers.{IsWrittenPage}
use Rattle.pages.specs.WrittenValues.{AreValuesIn, AreIndexesIn}
use Rattle.pages.specs.Writing.{page_weight, index_weight, IsPageTooMuch, long_value, heavy_page, StandsAsPage, StandsByIndexes}
use Rattle.row_group.specs.declared.pages_in_turn.PageValues.{PageValues}
use Rattle.row_group.specs.declared.pages_in_turn.PageValues.TheVariants.{Encoded, Indexed}
use Rattle.row_group.specs.declared.options.ChunkOptions.{ChunkOptions}
use Rattle.row_group.specs.Greatest.{most_bytes_before}
use Rattle.row_group.specs.Paged.{ArePagesOf}
use Rattle.row_group.specs.Spelled.{IsIndexPage}
use Rattle.row_group.specs.inner.Parts.{IsFirstPage, IsPart, part_weight, AreShortIn, AppendsParts, ArePartsTooMuch}
use Rattle.row_group.specs.inner.Parts as parts_of
use Rattle.row_group.proofs.Cuts.{goes_on, some_cut, drop_map}
use Rattle.row_group.proofs.PartWeights.{values_append, text_append}

-- ---- two forms of what is written

pub both_forms : (First Second : List ℕ → ℕ → Type 0) (most more : ℕ) (old new : List ℕ) → Appends First most old new → Appends Second more old new → Appends (λ bytes used. First bytes used × Second bytes used) most old new
both_forms First Second most more old new p q = record {
  text = p.text;
  joined = p.joined;
  stands = λ rest. (p.stands rest, subst (λ (t : List ℕ). Second (t ++ rest) (length t)) (append_cancel_left old q.text p.text (sym q.joined ∙ p.joined)) (q.stands rest));
  short = p.short;
}

-- ---- what holds of all entries holds of some of them

pub any_back : {X : Type 0} (P : X → Type 0) (xs ys : List X) → Any P ys → Any P (xs ++ ys)
any_back P [] ys any = any
any_back P (x ∷ xs) ys any = any_later P x (xs ++ ys) (any_back P xs ys any)

-- the page that begins at an index, between those before it and those after it
page_between : (es : List Entry) (at n : ℕ) → es ≡ take at es ++ (take n (drop at es) ++ drop n (drop at es))
page_between es at n = sym (take-append-drop at es) ∙ ap (λ (t : List Entry). take at es ++ t) (sym (take-append-drop n (drop at es)))

pub all_in_page : (P : Entry → Type 0) (es : List Entry) (at n : ℕ) → AllByRecursion P es → AllByRecursion P (take n (drop at es))
all_in_page P es at n all =
    let page = take n (drop at es) in
    all_front P page (drop n (drop at es)) (all_back P (take at es) (page ++ drop n (drop at es)) (subst (AllByRecursion P) (page_between es at n) all))

values_between : (before page after : List Entry) → values (before ++ (page ++ after)) ≡ values before ++ (values page ++ values after)
values_between before page after = values_append before (page ++ after) ∙ ap (λ (t : List ValueTree). values before ++ t) (values_append page after)

weight_between : (before page after : List Entry) → page_weight page ≤ page_weight (before ++ (page ++ after))
weight_between before page after =
    omega (arith, ap text_size (values_between before page after), text_append (values before) (values page ++ values after), text_append (values page) (values after), length-append before (page ++ after), length-append page after)

-- why a page is refused, so are all pages
pub page_too_much : (before size : ℕ) (vs : PageValues) (es : List Entry) (at n : ℕ) → IsPageTooMuch (take n (drop at es)) → ArePartsTooMuch before size vs es
page_too_much before size vs es at n (long_value any) =
    let page = take n (drop at es) in
    let after = drop n (drop at es) in
    let whole : values es ≡ values (take at es) ++ (values page ++ values after) = ap values (page_between es at n) ∙ values_between (take at es) page after in
    parts_of.long (subst (Any IsTooLong) (sym whole) (any_back IsTooLong (values (take at es)) (values page ++ values after) (any_front IsTooLong (values page) (values after) any)))
page_too_much before size vs es at n (heavy_page heavy) =
    let page = take n (drop at es) in
    let after = drop n (drop at es) in
    parts_of.heavy_page (omega (arith, heavy, weight_between (take at es) page after, ap page_weight (page_between es at n)))

short_both : (vs : PageValues) (xs ys : List Entry) → AreShortIn vs xs → AreShortIn vs ys → AreShortIn vs (xs ++ ys)
short_both (Encoded encoding) xs ys short rest = subst (AllByRecursion (λ v. IsTooLong v → ⊥)) (sym (values_append xs ys)) (all_both (λ v. IsTooLong v → ⊥) (values xs) (values ys) short rest)
short_both (Indexed d) xs ys short rest = tt

-- ---- the loop

-- the pages of the first entries are written, and pages of the others go on to those of all
pub record PartsPut (leaf : Leaf) (o : ChunkOptions) (vs : PageValues) (es : List Entry) (old new : List ℕ) (at : ℕ) : Type 0 where
  pub parts : List (List Entry)
  pub cut : (rest : List (List Entry)) → ArePagesOf o.page_rows (drop at es) rest → ArePagesOf o.page_rows es (parts ++ rest)
  pub written : Appends (λ bytes. InTurn (IsPart leaf o.page_version vs) bytes parts) (sum_by (part_weight vs) parts) old new
  pub short : AreShortIn vs (drop at es) → AreShortIn vs es

pub none_put : (leaf : Leaf) (o : ChunkOptions) (vs : PageValues) (es : List Entry) (old : List ℕ) → PartsPut leaf o vs es old old 0
none_put leaf o vs es old = record {
  parts = [];
  cut = λ rest p. p;
  written = record { text = []; joined = sym (append-nil old); stands = λ more. refl; short = omega arith };
  short = λ short. short;
}

pub one_put : (leaf : Leaf) (o : ChunkOptions) (vs : PageValues) (es : List Entry) (old mid new : List ℕ) (at n : ℕ) → IsFirstPage o.page_rows (drop at es) n
    → Appends (λ bytes. IsPart leaf o.page_version vs bytes (take n (drop at es))) (part_weight vs (take n (drop at es))) mid new → AreShortIn vs (take n (drop at es))
    → PartsPut leaf o vs es old mid at → PartsPut leaf o vs es old new (at + n)
one_put leaf o vs es old mid new at n first q here p =
    let page = take n (drop at es) in
    let Each = IsPart leaf o.page_version vs in
    let more = appends_turn Each p.parts page (sum_by (part_weight vs) p.parts) (part_weight vs page) old mid new p.written q in
    record {
      parts = p.parts ++ page ∷ [];
      cut = λ rest are. subst (λ (t : List (List Entry)). ArePagesOf o.page_rows es t) (sym (append_assoc p.parts (page ∷ []) rest))
          (p.cut (page ∷ rest) (goes_on o.page_rows (drop at es) n first rest (subst (λ (t : List Entry). ArePagesOf o.page_rows t rest) (sym (drop-drop n at es)) are)));
      written = subst (λ (k : ℕ). Appends (λ bytes. InTurn Each bytes (p.parts ++ page ∷ [])) k old new) (sym (sum_by_push (part_weight vs) p.parts page)) more;
      short = λ rest. p.short (subst (AreShortIn vs) (take-append-drop n (drop at es)) (short_both vs page (drop n (drop at es)) here (subst (AreShortIn vs) (sym (drop-drop n at es)) rest)));
    }

pub all_put : (leaf : Leaf) (o : ChunkOptions) (vs : PageValues) (es : List Entry) (old new : List ℕ) (at : ℕ) → length es ≤ at → PartsPut leaf o vs es old new at → AppendsParts leaf o vs es old new
all_put leaf o vs es old new at past p =
    let none : drop at es ≡ [] = drop_all at es past in
    record {
      parts = p.parts;
      paged = subst (λ (t : List (List Entry)). ArePagesOf o.page_rows es t) (append-nil p.parts) (p.cut [] (subst (λ (t : List Entry). ArePagesOf o.page_rows t []) (sym none) (record { joined = refl; each = tt })));
      written = p.written;
    }

pub all_short : (leaf : Leaf) (o : ChunkOptions) (vs : PageValues) (es : List Entry) (old new : List ℕ) (at : ℕ) → length es ≤ at → PartsPut leaf o vs es old new at → AreShortIn vs es
all_short leaf o vs es old new at past p = p.short (subst (AreShortIn vs) (sym (drop_all at es past)) (none vs))
  where
    none : (vs : PageValues) → AreShortIn vs []
    none (Encoded encoding) = tt
    none (Indexed d) = tt

-- where no more pages may begin, the pages of all entries are too heavy
pub too_heavy : (leaf : Leaf) (o : ChunkOptions) (vs : PageValues) (es : List Entry) (old new : List ℕ) (at : ℕ) → 0 < o.page_rows → most_bytes_before < length new → PartsPut leaf o vs es old new at → ArePartsTooMuch (length old) o.page_rows vs es
too_heavy leaf o vs es old new at large past p =
    let rest = some_cut o.page_rows (drop at es) large in
    parts_of.heavy_parts (p.parts ++ rest.0) (p.cut rest.0 rest.1)
    (omega (arith, past, ap length p.written.joined, length-append old p.written.text, p.written.short, sum_by-append (part_weight vs) p.parts rest.0))

-- what was there stays
pub kept_before : (leaf : Leaf) (o : ChunkOptions) (vs : PageValues) (es : List Entry) (old new : List ℕ) (at : ℕ) → PartsPut leaf o vs es old new at → take (length old) new ≡ old
kept_before leaf o vs es old new at p = ap (take (length old)) p.written.joined ∙ take_at old p.written.text (length old) refl

-- ---- indexes

-- of the indexes of some values, those after the first values' are those of the others
pub indexes_after : (es : List ValueTree) (is : List ℕ) (vs more : List ValueTree) → AreEntriesAt es is (vs ++ more) → AreEntriesAt es (drop (length vs) is) more
indexes_after es is [] more h = h
indexes_after es [] (v ∷ vs) more h = absurd cc
indexes_after es (i ∷ is) (v ∷ vs) more h = indexes_after es is vs more (tails (slice_get es i) (Some v) (map (slice_get es) is) (map (λ u. Some u) (vs ++ more)) h)
  where
    tails : {X : Type 0} (x y : X) (xs ys : List X) → x ∷ xs ≡ y ∷ ys → xs ≡ ys
    tails x y xs ys e = cc

pub indexes_first : (es : List ValueTree) (is : List ℕ) (vs more : List ValueTree) → AreEntriesAt es is (vs ++ more) → AreEntriesAt es (take (length vs) is) vs
indexes_first es is [] more h = refl
indexes_first es [] (v ∷ vs) more h = absurd cc
indexes_first es (i ∷ is) (v ∷ vs) more h = first_more (slice_get es i) (Some v) (map (slice_get es) is) (map (λ u. Some u) (vs ++ more)) h (indexes_first es is vs more)
  where
    first_more : (x y : Option ValueTree) (xs ys : List (Option ValueTree)) → x ∷ xs ≡ y ∷ ys → (xs ≡ ys → map (slice_get es) (take (length vs) is) ≡ map (λ u. Some u) vs) → x ∷ map (slice_get es) (take (length vs) is) ≡ y ∷ map (λ u. Some u) vs
    first_more x y xs ys e rest =
        let tail : xs ≡ ys = cc in
        let same = rest tail in
        cc

-- as many indexes as values, each within the dictionary
pub indexes_fit : (es : List ValueTree) (is : List ℕ) (vs : List ValueTree) (size : ℕ) → size ≡ length es → AreEntriesAt es is vs → (length is ≡ length vs) × All (λ i. i < size) is
indexes_fit es is vs size sized h = (
  sym (length-map is (slice_get es)) ∙ ap length h ∙ length-map vs (λ v. Some v),
  subst (λ (n : ℕ). All (λ i. i < n) is) (sym sized) (indexes_within es is vs h),
)

pub index_count : (es : List ValueTree) (is : List ℕ) (vs more : List ValueTree) → AreEntriesAt es is (vs ++ more) → length vs ≤ length is
index_count es is vs more h = omega (arith, sym (length-map is (slice_get es)) ∙ ap length h ∙ length-map (vs ++ more) (λ v. Some v), length-append vs more)

-- ---- one page

pub value_part : (leaf : Leaf) (version : PageVersion) (encoding : Encoding) (es : List Entry) (old new : List ℕ) → Appends (IsWrittenPage leaf version encoding (AreValuesIn leaf.leaf_type.kind encoding (values es)) es) (page_weight es) old new
    → Appends (StandsAsPage leaf es) (page_weight es) old new → Appends (λ bytes. IsPart leaf version (Encoded encoding) bytes es) (page_weight es) old new
value_part leaf version encoding es old new w s =
    let both = both_forms (IsWrittenPage leaf version encoding (AreValuesIn leaf.leaf_type.kind encoding (values es)) es) (StandsAsPage leaf es) (page_weight es) (page_weight es) old new w s in
    record { text = both.text; joined = both.joined; stands = λ more. record { written = (both.stands more).0; read = (both.stands more).1 None }; short = both.short }

pub index_part : (leaf : Leaf) (version : PageVersion) (vs : List ValueTree) (size : ℕ) (is : List ℕ) (es : List Entry) (old new : List ℕ) → size ≡ length vs → AreEntriesAt vs is (values es)
    → Appends (IsWrittenPage leaf version RleDictionary (AreIndexesIn size is) es) (index_weight (length es)) old new → Appends (StandsByIndexes leaf size is es) (index_weight (length es)) old new
    → Appends (λ bytes used. IsIndexPage leaf version vs bytes es used × IsPage leaf (Some vs) bytes (entries es) used) (index_weight (length es)) old new
index_part leaf version vs size is es old new sized stand w s =
    let both = both_forms (IsWrittenPage leaf version RleDictionary (AreIndexesIn size is) es) (StandsByIndexes leaf size is es) (index_weight (length es)) (index_weight (length es)) old new w s in
    record {
      text = both.text;
      joined = both.joined;
      stands = λ more. (
        record {
          indexes = is;
          stand = stand;
          page = subst (λ (n : ℕ). IsWrittenPage leaf version RleDictionary (AreIndexesIn n is) es (both.text ++ more) (length both.text)) sized (both.stands more).0;
        },
        (both.stands more).1 vs (sym sized) stand,
      );
      short = both.short;
    }

-- ---- borrowed entries

pub rest_shown : (es rest : List EntryRef) (at : ℕ) → rest ≡ drop at es → map entry_ref_view rest ≡ drop at (map entry_ref_view es)
rest_shown es rest at is = ap (map entry_ref_view) is ∙ sym (drop_map es at)

pub page_shown : (es rest page : List EntryRef) (at n : ℕ) → rest ≡ drop at es → page ≡ take n rest → map entry_ref_view page ≡ take n (drop at (map entry_ref_view es))
page_shown es rest page at n is front = ap (map entry_ref_view) front ∙ sym (take-map entry_ref_view n rest) ∙ ap (take n) (rest_shown es rest at is)

-- the values of a page, and those after it
pub values_from : (es : List Entry) (at n : ℕ) → values (drop at es) ≡ values (take n (drop at es)) ++ values (drop (at + n) es)
values_from es at n =
    ap values (sym (take-append-drop n (drop at es))) ∙ values_append (take n (drop at es)) (drop n (drop at es)) ∙ ap (λ (t : List Entry). values (take n (drop at es)) ++ values t) (drop-drop n at es)

-- what was there stays in a refusal
pub front_kept : {X : Type 0} (r : Result X Refusal) (P : Type 0) → P → OnErr r P
front_kept (Ok x) P p = tt
front_kept (Err e) P p = p
