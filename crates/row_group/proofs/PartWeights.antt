-- What the pages of a chunk weigh, and its dictionary.
use Rattle.std.proofs.Common.{◌≡◌, ℕ, zero, suc, ◌+◌, ◌*◌, ◌<◌, ◌≤◌, ◌⊎◌, List, [], ◌∷◌, ◌++◌, length, get_or, take, Some, refl, sym, ap, subst, ◌∙◌, arith, inl, inr}
use Rattle.std.specs.Prelude.{flat_map, sum_by, slice_get}
use Rattle.std.proofs.lemmas.Bool.{cases_lt}
use Rattle.std.proofs.lemmas.List.{length-append, take_all, take-take}
use Rattle.std.proofs.lemmas.List.Elements.{filter_map-append}
use Rattle.std.proofs.lemmas.List.Sums.{sum_by-cons, sum_by_push, sum_by-take-le}
use Rattle.std.proofs.lemmas.Option.{same_Some as some_is}
use Rattle.lists.proofs.Slices.{item_there as there_is}
use Rattle.schema.specs.declared.value.Kind.{Kind}
use Rattle.schema.specs.declared.value.Kind.TheVariants.{Boolean, Int32, Int64, ByteArray, FixedLenByteArray}
use Rattle.schema.specs.Values.{ValueTree, null, boolean, integer, bytes, group, list}
use Rattle.schema.specs.Stripe.{Entry}
use Rattle.plain.specs.Plain.{text_size}
use Rattle.dictionary.specs.Entries.{IsIndexed, ComesInTurn}
use Rattle.dictionary.proofs.Lookups.{value_at}
use Rattle.pages.specs.Page.{values}
use Rattle.pages.specs.Writing.{page_weight, index_weight, dictionary_weight}
use Rattle.pages.proofs.WrittenPages.{nulls_and_values}
use Rattle.row_group.specs.declared.options.Style.{Style}
use Rattle.row_group.specs.declared.options.Style.TheVariants as style
use Rattle.row_group.specs.Styles.{SuitsDictionary}
use Rattle.row_group.specs.Paged.{most_dictionaries, chunk_weight}

-- ---- pages

pub values_append : (xs ys : List Entry) → values (xs ++ ys) ≡ values xs ++ values ys
values_append xs ys = filter_map-append (λ (e : Entry). e.value) xs ys

pub text_append : (vs ws : List ValueTree) → text_size (vs ++ ws) ≡ text_size vs + text_size ws
text_append [] ws = omega arith
text_append (null ∷ vs) ws = text_append vs ws
text_append (boolean b ∷ vs) ws = text_append vs ws
text_append (integer z ∷ vs) ws = text_append vs ws
text_append (bytes text ∷ vs) ws = omega (arith, text_append vs ws)
text_append (group fs ∷ vs) ws = text_append vs ws
text_append (list fs ∷ vs) ws = text_append vs ws

-- the pages of values weigh as much as the chunk, but for a dictionary
pub values_weigh : (parts : List (List Entry)) (es : List Entry) → flat_map (λ part. part) parts ≡ es → sum_by page_weight parts ≡ 1024 * length parts + 64 * length es + text_size (values es)
values_weigh parts es joined = subst (λ (t : List Entry). sum_by page_weight parts ≡ 1024 * length parts + 64 * length t + text_size (values t)) joined (go parts)
  where
    go : (parts : List (List Entry)) → sum_by page_weight parts ≡ 1024 * length parts + 64 * length (flat_map (λ part. part) parts) + text_size (values (flat_map (λ part. part) parts))
    go [] = refl
    go (part ∷ parts) =
        let rest = flat_map (λ (part : List Entry). part) parts in
        omega (arith, go parts, sum_by-cons page_weight part parts, length-append part rest, ap text_size (values_append part rest), text_append (values part) (values rest))

-- pages of indexes weigh less
pub indexes_weigh : (parts : List (List Entry)) (es : List Entry) → flat_map (λ part. part) parts ≡ es → sum_by (λ part. index_weight (length part)) parts ≡ 1024 * length parts + 32 * length es
indexes_weigh parts es joined = subst (λ (t : List Entry). sum_by (λ (part : List Entry). index_weight (length part)) parts ≡ 1024 * length parts + 32 * length t) joined (go parts)
  where
    go : (parts : List (List Entry)) → sum_by (λ part. index_weight (length part)) parts ≡ 1024 * length parts + 32 * length (flat_map (λ part. part) parts)
    go [] = refl
    go (part ∷ parts) = omega (arith, go parts, sum_by-cons (λ (part : List Entry). index_weight (length part)) part parts, length-append part (flat_map (λ (part : List Entry). part) parts))

-- ---- a dictionary

abbrev size_of : ValueTree → ℕ
size_of (bytes text) = length text
size_of v = 0

texts_are : (vs : List ValueTree) → text_size vs ≡ sum_by size_of vs
texts_are [] = refl
texts_are (null ∷ vs) = omega (arith, texts_are vs, sum_by-cons size_of null vs)
texts_are (boolean b ∷ vs) = omega (arith, texts_are vs, sum_by-cons size_of (boolean b) vs)
texts_are (integer z ∷ vs) = omega (arith, texts_are vs, sum_by-cons size_of (integer z) vs)
texts_are (bytes text ∷ vs) = omega (arith, texts_are vs, sum_by-cons size_of (bytes text) vs)
texts_are (group fs ∷ vs) = omega (arith, texts_are vs, sum_by-cons size_of (group fs) vs)
texts_are (list fs ∷ vs) = omega (arith, texts_are vs, sum_by-cons size_of (list fs) vs)

lengths_are : (vs : List ValueTree) → length vs ≡ sum_by (λ v. 1) vs
lengths_are [] = refl
lengths_are (v ∷ vs) = omega (arith, lengths_are vs, sum_by-cons (λ (v : ValueTree). 1) v vs)

take_one : {X : Type 0} (xs : List X) (i : ℕ) (x : X) → slice_get xs i ≡ Some x → take (suc i) xs ≡ take i xs ++ x ∷ []
take_one [] i x is = absurd cc
take_one {X} (y ∷ ys) zero x is = ap (λ (z : X). z ∷ []) (some_is y x is)
take_one {X} (y ∷ ys) (suc i) x is = ap (λ (t : List X). y ∷ t) (take_one ys i x is)

take_light : (f : ValueTree → ℕ) (vs : List ValueTree) (m n : ℕ) → m ≤ n → sum_by f (take m vs) ≤ sum_by f (take n vs)
take_light f vs m n le = subst (λ (t : List ValueTree). sum_by f t ≤ sum_by f (take n vs)) (take-take m n vs le) (sum_by-take-le f (take n vs) m)

-- the first k entries come among the first values, which have no later ones
record Reached (f : ValueTree → ℕ) (vs es : List ValueTree) (is : List ℕ) (k : ℕ) : Type 0 where
  at : ℕ
  below : (i j : ℕ) → i < at → slice_get is i ≡ Some j → j < k
  light : sum_by f (take k es) ≤ sum_by f (take at vs)

reached : (f : ValueTree → ℕ) (vs es : List ValueTree) (is : List ℕ) → IsIndexed vs es is → (k : ℕ) → k ≤ length es → Reached f vs es is k
reached f vs es is p zero le = record { at = 0; below = λ i j lt h. absurd (omega (arith, lt)); light = omega arith }
reached f vs es is p (suc k) le =
    let so_far = reached f vs es is p k (omega (arith, le)) in
    let t = p.in_order k (omega (arith, le)) in
    let e = there_is es k (omega (arith, le)) in
    let here = value_at es is vs p.stand t.0 k e.0 t.1 e.1 in
    let first = ap (sum_by f) (take_one es k e.0 e.1) ∙ sum_by_push f (take k es) e.0 in
    let second = ap (sum_by f) (take_one vs t.0 e.0 here) ∙ sum_by_push f (take t.0 vs) e.0 in
    record {
      at = suc t.0;
      below = λ i j lt h. earlier i j h (cases_lt i t.0) lt;
      light = omega (arith, first, second, so_far.light, take_light f vs so_far.at t.0 (before so_far (cases_lt t.0 so_far.at)));
    }
  where
    turn : ComesInTurn is k
    turn = p.in_order k (omega (arith, le))

    before : (r : Reached f vs es is k) → (turn.0 < r.at) ⊎ (r.at ≤ turn.0) → r.at ≤ turn.0
    before r (inl lt) = absurd (omega (arith, r.below turn.0 k lt turn.1))
    before r (inr past) = past

    earlier : (i j : ℕ) → slice_get is i ≡ Some j → (i < turn.0) ⊎ (turn.0 ≤ i) → i < suc turn.0 → j < suc k
    earlier i j h (inl lt) last = omega (arith, low is turn.0 i j lt h turn.2)
      where
        low : (is : List ℕ) (n i j : ℕ) → i < n → slice_get is i ≡ Some j → ((m d : ℕ) → m < length (take n is) → get_or (take n is) m d < k) → j < k
        low [] n i j lt h all = absurd cc
        low (x ∷ is) zero i j lt h all = absurd (omega (arith, lt))
        low (x ∷ is) (suc n) zero j lt h all = subst (λ (y : ℕ). y < k) (some_is x j h) (all 0 0 (omega arith))
        low (x ∷ is) (suc n) (suc i) j lt h all = low is n i j (omega (arith, lt)) h (λ m d small. all (suc m) d (omega (arith, small)))
    earlier i j h (inr past) last =
        let same : i ≡ turn.0 = omega (arith, past, last) in
        let e : j ≡ k = some_is j k (sym h ∙ ap (slice_get is) same ∙ turn.1) in
        omega (arith, e)

-- different values weigh no more than all of them
lighter : (f : ValueTree → ℕ) (vs es : List ValueTree) (is : List ℕ) → IsIndexed vs es is → sum_by f es ≤ sum_by f vs
lighter f vs es is p =
    let r = reached f vs es is p (length es) (omega arith) in
    let whole = ap (sum_by f) (take_all (length es) es (omega arith)) in
    omega (arith, whole, r.light, sum_by-take-le f vs r.at)

pub fewer_entries : (vs es : List ValueTree) (is : List ℕ) → IsIndexed vs es is → length es ≤ length vs
fewer_entries vs es is p = omega (arith, lengths_are es, lengths_are vs, lighter (λ v. 1) vs es is p)

pub shorter_entries : (vs es : List ValueTree) (is : List ℕ) → IsIndexed vs es is → text_size es ≤ text_size vs
shorter_entries vs es is p = omega (arith, texts_are es, texts_are vs, lighter size_of vs es is p)

-- a chunk that has a dictionary has one by its weight
pub one_dictionary : (s : Style) (kind : Kind) (es : List Entry) → SuitsDictionary s kind es → most_dictionaries s kind (values es) ≡ 1
one_dictionary s kind es has = subst (λ (t : Style). most_dictionaries t kind (values es) ≡ 1) (sym has.style) (by (values es) kind has.some has.not_boolean)
  where
    by : (vs : List ValueTree) (k : Kind) → 0 < length vs → (k ≡ Boolean → ⊥) → most_dictionaries style.Dictionary k vs ≡ 1
    by [] k some other = absurd (omega (arith, some))
    by (v ∷ vs) Boolean some other = absurd (other refl)
    by (v ∷ vs) Int32 some other = refl
    by (v ∷ vs) Int64 some other = refl
    by (v ∷ vs) ByteArray some other = refl
    by (v ∷ vs) (FixedLenByteArray n) some other = refl

-- and its bytes are at most its weight
pub with_dictionary : (s : Style) (kind : Kind) (es : List Entry) (vs : List ValueTree) (is : List ℕ) (n : ℕ) → SuitsDictionary s kind es → IsIndexed (values es) vs is
    → dictionary_weight vs + (1024 * n + 32 * length es) ≤ chunk_weight s kind n es
with_dictionary s kind es vs is n has p = omega (arith, one_dictionary s kind es has, fewer_entries (values es) vs is p, shorter_entries (values es) vs is p, nulls_and_values es)
