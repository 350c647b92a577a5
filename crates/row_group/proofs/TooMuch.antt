-- Why the pages of a chunk are refused, and what its dictionary says of all values.
use Rattle.std.proofs.Common.{◌≡◌, ℕ, zero, suc, ◌+◌, ◌<◌, ◌≤◌, ◌++◌, List, [], ◌∷◌, length, get_or, take, Some, inl, inr, refl, sym, ap, subst, ◌∙◌, arith}
use Rattle.std.specs.Prelude.{◌↔◌, All, IsTrue, flat_map, sum_by, slice_get}
use Rattle.std.specs.List.{Any, AllByRecursion}
use Rattle.std.proofs.lemmas.Option.{slice_get_within, slice_get-get_or as got, same_Some as some_is}
use Rattle.std.proofs.lemmas.List.{length-append, take-take, take_at}
use Rattle.schema.specs.declared.value.Kind.{Kind}
use Rattle.schema.specs.declared.value.Kind.TheVariants.{Boolean, Int32, Int64, ByteArray, FixedLenByteArray}
use Rattle.schema.specs.Values.{ValueTree}
use Rattle.schema.specs.Stripe.{Leaf, Entry}
use Rattle.schema.specs.Fits.{fits_kind}
use Rattle.schema.specs.Law.{IsEntryOf}
use Rattle.plain.specs.Plain.{IsOfKind, IsTooLong}
use Rattle.dictionary.specs.Entries.{IsIndexed}
use Rattle.dictionary.proofs.Lookups.{get_from_contains, entry_of}
use Rattle.dictionary.proofs.Counting.{entry_comes}
use Rattle.pages.specs.declared.encoding.Encoding.{Encoding}
use Rattle.pages.specs.Page.{values}
use Rattle.pages.specs.Greatest.{most_of_page}
use Rattle.pages.specs.Writing.{IsEncodingFor, AreShort, IsDictionaryTooMuch, page_weight, dictionary_weight, index_weight}
use Rattle.pages.proofs.WrittenPages.{kinds_in, all_short, nulls_and_values}
use Rattle.row_group.specs.declared.options.Style.{Style}
use Rattle.row_group.specs.declared.options.Style.TheVariants as style
use Rattle.row_group.specs.declared.options.ChunkOptions.{ChunkOptions}
use Rattle.row_group.specs.declared.pages_in_turn.PageValues.{PageValues}
use Rattle.row_group.specs.declared.pages_in_turn.PageValues.TheVariants.{Encoded}
use Rattle.row_group.specs.Styles.{encoding_of, SuitsDictionary}
use Rattle.row_group.specs.Writing.{IsChunkTooMuch, long_value, heavy}
use Rattle.row_group.specs.inner.Parts.{part_weight, ArePartsTooMuch, long, heavy_page, heavy_parts}
use Rattle.row_group.proofs.Cuts.{some_cut}
use Rattle.row_group.proofs.PartWeights.{values_weigh, indexes_weigh, one_dictionary, with_dictionary, fewer_entries, shorter_entries}

-- the encoding of a style is for the type
pub encoding_fits : (s : Style) (kind : Kind) → IsEncodingFor kind (encoding_of s kind)
encoding_fits style.Plain kind = tt
encoding_fits style.Dictionary kind = tt
encoding_fits style.Delta Boolean = tt
encoding_fits style.Delta Int32 = tt
encoding_fits style.Delta Int64 = tt
encoding_fits style.Delta ByteArray = tt
encoding_fits style.Delta (FixedLenByteArray n) = tt
encoding_fits style.Lengths Boolean = tt
encoding_fits style.Lengths Int32 = tt
encoding_fits style.Lengths Int64 = tt
encoding_fits style.Lengths ByteArray = tt
encoding_fits style.Lengths (FixedLenByteArray n) = tt
encoding_fits style.Split Boolean = tt
encoding_fits style.Split Int32 = tt
encoding_fits style.Split Int64 = tt
encoding_fits style.Split ByteArray = tt
encoding_fits style.Split (FixedLenByteArray n) = tt

-- ---- too much

-- entries that are heavy make a page
some_parts : (es : List Entry) (parts : List (List Entry)) → flat_map (λ part. part) parts ≡ es → most_of_page < page_weight es → 1 ≤ length parts
some_parts es [] joined h = let none : most_of_page < page_weight [] = subst (λ (t : List Entry). most_of_page < page_weight t) (sym joined) h in absurd (omega (arith, none))
some_parts es (part ∷ parts) joined h = omega arith

pub values_much : (leaf : Leaf) (o : ChunkOptions) (before : ℕ) (encoding : Encoding) (es : List Entry) → 0 < o.page_rows → ArePartsTooMuch before o.page_rows (Encoded encoding) es → IsChunkTooMuch leaf o before es
values_much leaf o before encoding es large (long any) = long_value any
values_much leaf o before encoding es large (heavy_page h) =
    let cut = some_cut o.page_rows es large in
    heavy cut.0 cut.1 (omega (arith, h, some_parts es cut.0 cut.1.joined h))
values_much leaf o before encoding es large (heavy_parts parts cut h) = heavy parts cut (omega (arith, h, values_weigh parts es cut.joined))

pub indexes_much : (leaf : Leaf) (o : ChunkOptions) (vs : PageValues) (before mid : ℕ) (es : List Entry) (ds : List ValueTree) (is : List ℕ)
    → ((parts : List (List Entry)) → sum_by (part_weight vs) parts ≡ sum_by (λ part. index_weight (length part)) parts) → 0 < o.page_rows → SuitsDictionary o.style leaf.leaf_type.kind es → IsIndexed (values es) ds is
    → mid ≤ before + dictionary_weight ds → ArePartsTooMuch mid o.page_rows vs es → IsChunkTooMuch leaf o before es
indexes_much leaf o vs before mid es ds is weigh large has indexed near (long any) = long_value any
indexes_much leaf o vs before mid es ds is weigh large has indexed near (heavy_page h) =
    let cut = some_cut o.page_rows es large in
    heavy cut.0 cut.1 (omega (arith, h, one_dictionary o.style leaf.leaf_type.kind es has))
indexes_much leaf o vs before mid es ds is weigh large has indexed near (heavy_parts parts cut h) =
    heavy parts cut (omega (arith, h, near, weigh parts, indexes_weigh parts es cut.joined, with_dictionary o.style leaf.leaf_type.kind es ds is (length parts) has indexed))

-- ---- entries and values

is_at : {X : Type 0} (xs : List X) (i : ℕ) (x d : X) → slice_get xs i ≡ Some x → get_or xs i d ≡ x
is_at [] i x d h = absurd cc
is_at (y ∷ xs) zero x d h = some_is y x h
is_at (y ∷ xs) (suc i) x d h = is_at xs i x d h

any_at : {X : Type 0} (P : X → Type 0) (xs : List X) (i : ℕ) (x : X) → slice_get xs i ≡ Some x → P x → Any P xs
any_at P xs i x h p = (i, x, slice_get_within xs i x h, is_at xs i x x h, p)

at_any : {X : Type 0} (P : X → Type 0) (xs : List X) → (any : Any P xs) → slice_get xs any.0 ≡ Some any.1
at_any {X} P xs any = got xs any.0 any.1 any.2 ∙ ap (λ (x : X). Some x) any.3

pub dictionary_much : (leaf : Leaf) (o : ChunkOptions) (before : ℕ) (es : List Entry) (ds : List ValueTree) (is : List ℕ) → 0 < o.page_rows → SuitsDictionary o.style leaf.leaf_type.kind es → IsIndexed (values es) ds is
    → IsDictionaryTooMuch ds → IsChunkTooMuch leaf o before es
dictionary_much leaf o before es ds is large has indexed (inl any) =
    let c = get_from_contains (values es) any.1 (entry_comes (values es) ds is indexed any.0 any.1 (at_any IsTooLong ds any)) in
    long_value (any_at IsTooLong (values es) c.0 any.1 c.1 any.4)
dictionary_much leaf o before es ds is large has indexed (inr h) =
    let cut = some_cut o.page_rows es large in
    heavy cut.0 cut.1 (omega (arith, h, one_dictionary o.style leaf.leaf_type.kind es has, fewer_entries (values es) ds is indexed, shorter_entries (values es) ds is indexed, nulls_and_values es))

pub entries_short : (es : List Entry) (ds : List ValueTree) (is : List ℕ) → IsIndexed (values es) ds is → (Any IsTooLong ds → ⊥) → AreShort es
entries_short es ds is indexed none = all_short (values es) (λ any.
    let e = entry_of ds is (values es) indexed.stand any.0 any.1 (at_any IsTooLong (values es) any) in
    none (any_at IsTooLong ds e.0 any.1 e.1 any.4))

pub entries_of_kind : (leaf : Leaf) (es : List Entry) (ds : List ValueTree) (is : List ℕ) → IsIndexed (values es) ds is → ((kind : Kind) (v : ValueTree) → IsOfKind kind v ↔ IsTrue (fits_kind kind v)) → AllByRecursion (IsEntryOf leaf) es → All (IsOfKind leaf.leaf_type.kind) ds
entries_of_kind leaf es ds is indexed law all = λ k d lt.
    let v = get_or ds k d in
    let c = get_from_contains (values es) v (entry_comes (values es) ds is indexed k v (got ds k d lt)) in
    subst (IsOfKind leaf.leaf_type.kind) (is_at (values es) c.0 v v c.1) (kinds_in leaf es law all c.0 v (slice_get_within (values es) c.0 v c.1))

-- ---- what was there stays

pub front_again : (old mid new text : List ℕ) → mid ≡ old ++ text → take (length mid) new ≡ mid → take (length old) new ≡ old
front_again old mid new text joined kept =
    sym (take-take (length old) (length mid) new (omega (arith, ap length joined, length-append old text))) ∙ ap (take (length old)) (kept ∙ joined) ∙ take_at old text (length old) refl
