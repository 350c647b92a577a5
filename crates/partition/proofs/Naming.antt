-- A path names one key.
use Rattle.std.proofs.Common.{◌≡◌, ℕ, ◌<◌, ◌^◌, ℤ, pos, negsuc, true, false, List, [], ◌∷◌, ◌++◌, refl, ap, sym, subst, ◌∙◌, arith, codes, suc}
use Rattle.std.specs.Prelude.{nat_lt}
use Rattle.std.specs.List.{AllByRecursion, join_with_byte}
use Rattle.std.specs.Fmt.{signed_decimal}
use Rattle.std.proofs.lemmas.Bool.{false≢true, and_parts}
use Rattle.std.proofs.lemmas.List.{append_cancel_left, append-nil}
use Rattle.std.proofs.Common.{append_assoc}
use Rattle.std.proofs.lemmas.List.Elements.{recursion_from_All, All-from_recursion}
use Rattle.std.proofs.lemmas.Fmt.{signed_decimal_injective, IsAscii-signed}
use Rattle.std.specs.Str.{IsAscii}
use borrow.Author.Tests.{ltb-true}
use lib.Signed.{mag}
use Rattle.percent_encoding.specs.AsciiSet.{contains, should_percent_encode}
use Rattle.percent_encoding.specs.Percent.{percent_decode}
use Rattle.percent_encoding.proofs.PercentLemmas.{IsByte, IsEscapeByte, round_trip, All-percent_encode}
use Rattle.partition.specs.declared.escape.TheConstants.{ESCAPED}
use Rattle.schema.specs.declared.key.KeyKind.{KeyKind}
use Rattle.schema.specs.declared.key.KeyKind.TheVariants.{Boolean, Int32, Int64, Utf8}
use Rattle.schema.specs.Keys.{key_type}
use Rattle.schema.specs.Fits.{fits_leaf, fits_kind, are_bytes}
use Rattle.schema.specs.Values.{ValueTree, boolean, integer, bytes}
use Rattle.schema.specs.Fits.{is_within}
use Rattle.partition.specs.Folders.{escaped, value_text, folder, folders, is_filled, is_key_value, is_key, PathsNameKeys}
use Rattle.partition.proofs.Escapes.{escaped_is, escape_is}

-- ---- escaped texts

pub escapes_percent : contains ESCAPED 37 ≡ true
escapes_percent = refl

pub escaped_injective : (s t : List ℕ) → AllByRecursion IsByte s → AllByRecursion IsByte t → escaped s ≡ escaped t → s ≡ t
escaped_injective s t p q e =
    sym (round_trip ESCAPED s escapes_percent (All-from_recursion IsByte s p))
    ∙ ap percent_decode (escaped_is s ∙ e ∙ sym (escaped_is t))
    ∙ round_trip ESCAPED t escapes_percent (All-from_recursion IsByte t q)

abbrev pub NoSlash : ℕ → Type 0
NoSlash b = b ≡ 47 → ⊥

kept_no_slash : (b : ℕ) → should_percent_encode ESCAPED b ≡ false → NoSlash b
kept_no_slash b kept is = false≢true (sym kept ∙ ap (should_percent_encode ESCAPED) is ∙ escape_is 47)

escape_no_slash : (b : ℕ) → IsEscapeByte b → NoSlash b
escape_no_slash b h is = omega (arith, h)

pub escaped_no_slash : (s : List ℕ) → AllByRecursion NoSlash (escaped s)
escaped_no_slash s = subst (AllByRecursion NoSlash) (escaped_is s) (recursion_from_All NoSlash _ (All-percent_encode NoSlash ESCAPED s kept_no_slash escape_no_slash))

-- ---- the folders of a path

abbrev Ends : List ℕ → Type 0
Ends [] = Unit {0}
Ends (b ∷ bs) = b ≡ 47

pub heads : (a b : ℕ) (x y : List ℕ) → a ∷ x ≡ b ∷ y → a ≡ b
heads a b x y h = cc

pub tails : (a b : ℕ) (x y : List ℕ) → a ∷ x ≡ b ∷ y → x ≡ y
tails a b x y h = cc

front_same : (a b x y : List ℕ) → AllByRecursion NoSlash a → AllByRecursion NoSlash b → Ends x → Ends y → a ++ x ≡ b ++ y → (a ≡ b) × (x ≡ y)
front_same [] [] x y p q e f h = (refl, h)
front_same [] (b ∷ bs) [] y p q e f h = cc
front_same [] (b ∷ bs) (c ∷ x) y p q e f h = absurd (q.0 (sym (heads _ _ _ _ h) ∙ e))
front_same (a ∷ more_a) [] x [] p q e f h = cc
front_same (a ∷ more_a) [] x (c ∷ y) p q e f h = absurd (p.0 (heads _ _ _ _ h ∙ f))
front_same (a ∷ more_a) (b ∷ bs) x y p q e f h =
    let more = front_same more_a bs x y p.1 q.1 e f (tails _ _ _ _ h) in
    ((λ i. heads _ _ _ _ h i ∷ more.0 i), more.1)

-- what follows the first folder
abbrev pub rest_of : List (List ℕ) → List ℕ
rest_of [] = []
rest_of (f ∷ fs) = 47 ∷ join_with_byte 47 (f ∷ fs)

pub join_is : (f : List ℕ) (fs : List (List ℕ)) → join_with_byte 47 (f ∷ fs) ≡ f ++ rest_of fs
join_is f [] = sym (append-nil f)
join_is f (g ∷ fs) = refl

pub rest_ends : (fs : List (List ℕ)) → Ends (rest_of fs)
rest_ends [] = tt
rest_ends (f ∷ fs) = refl

rest_same : (fs gs : List (List ℕ)) → rest_of fs ≡ rest_of gs → join_with_byte 47 fs ≡ join_with_byte 47 gs
rest_same [] [] h = refl
rest_same [] (g ∷ gs) h = cc
rest_same (f ∷ fs) [] h = cc
rest_same (f ∷ fs) (g ∷ gs) h = tails _ _ _ _ h

-- ---- values

pub small32 : (z : ℤ) → is_within 2147483648 z ≡ true → mag z < 2 ^ 63
small32 (pos n) h = let s : n < 2147483648 = ltb-true n 2147483648 h in omega arith
small32 (negsuc n) h = let s : n < 2147483648 = ltb-true n 2147483648 h in omega arith

pub small64 : (z : ℤ) → is_within 9223372036854775808 z ≡ true → mag z < 2 ^ 63
small64 (pos n) h = ltb-true n 9223372036854775808 h
small64 (negsuc n) h = let s : n < 9223372036854775808 = ltb-true n 9223372036854775808 h in omega arith

-- a value of a key column, by its type
fits_of : (k : KeyKind) (v : ValueTree) → is_key_value k v ≡ true → fits_leaf (key_type k) v ≡ true
fits_of k v h = (and_parts (fits_leaf (key_type k) v) (is_filled v) h).0

pub kind_of : (k : KeyKind) (v : ValueTree) → is_key_value k v ≡ true → fits_kind (key_type k).kind v ≡ true
kind_of k v h = (and_parts (fits_kind (key_type k).kind v) _ (fits_of k v h)).0

pub text_injective : (k : KeyKind) (v w : ValueTree) → fits_kind (key_type k).kind v ≡ true → fits_kind (key_type k).kind w ≡ true → value_text v ≡ value_text w → v ≡ w
text_injective Boolean (boolean true) (boolean true) p q h = refl
text_injective Boolean (boolean false) (boolean false) p q h = refl
text_injective Boolean (boolean true) (boolean false) p q h = let e : 116 ≡ 102 = heads _ _ _ _ h in absurd (omega (arith, e))
text_injective Boolean (boolean false) (boolean true) p q h = let e : 102 ≡ 116 = heads _ _ _ _ h in absurd (omega (arith, e))
text_injective Boolean (boolean b) _ p q h = absurd (false≢true q)
text_injective Boolean _ _ p q h = absurd (false≢true p)
text_injective Int32 (integer y) (integer z) p q h = ap integer (signed_decimal_injective y z (small32 y p) (small32 z q) h)
text_injective Int32 (integer y) _ p q h = absurd (false≢true q)
text_injective Int32 _ _ p q h = absurd (false≢true p)
text_injective Int64 (integer y) (integer z) p q h = ap integer (signed_decimal_injective y z (small64 y p) (small64 z q) h)
text_injective Int64 (integer y) _ p q h = absurd (false≢true q)
text_injective Int64 _ _ p q h = absurd (false≢true p)
text_injective Utf8 (bytes s) (bytes t) p q h = ap bytes h
text_injective Utf8 (bytes s) _ p q h = absurd (false≢true q)
text_injective Utf8 _ _ p q h = absurd (false≢true p)

-- ---- the texts of key values are bytes

all_bytes : (s : List ℕ) → are_bytes s ≡ true → AllByRecursion IsByte s
all_bytes [] h = tt
all_bytes (b ∷ s) h = let parts = and_parts (nat_lt b 256) (are_bytes s) h in (ltb-true b 256 parts.0, all_bytes s parts.1)

all_ascii : (s : List ℕ) → IsAscii s → AllByRecursion IsByte s
all_ascii [] h = tt
all_ascii (b ∷ s) h = (omega (arith, h 0), all_ascii s (λ i. h (suc i)))

decimal_bytes : (z : ℤ) → mag z < 2 ^ 63 → AllByRecursion IsByte (signed_decimal z)
decimal_bytes z h = all_ascii (signed_decimal z) (IsAscii-signed z h)

pub text_bytes : (k : KeyKind) (v : ValueTree) → fits_kind (key_type k).kind v ≡ true → AllByRecursion IsByte (value_text v)
text_bytes Boolean (boolean true) p = all_bytes (codes "true") refl
text_bytes Boolean (boolean false) p = all_bytes (codes "false") refl
text_bytes Boolean _ p = absurd (false≢true p)
text_bytes Int32 (integer y) p = decimal_bytes y (small32 y p)
text_bytes Int32 _ p = absurd (false≢true p)
text_bytes Int64 (integer y) p = decimal_bytes y (small64 y p)
text_bytes Int64 _ p = absurd (false≢true p)
text_bytes Utf8 (bytes s) p = all_bytes s p
text_bytes Utf8 _ p = absurd (false≢true p)

pub paths_name_keys : PathsNameKeys
paths_name_keys [] [] [] p q h = refl
paths_name_keys [] [] (w ∷ ws) p q h = absurd (false≢true q)
paths_name_keys [] (v ∷ vs) ws p q h = absurd (false≢true p)
paths_name_keys (c ∷ cs) [] ws p q h = absurd (false≢true p)
paths_name_keys (c ∷ cs) (v ∷ vs) [] p q h = absurd (false≢true q)
paths_name_keys (c ∷ cs) (v ∷ vs) (w ∷ ws) p q h =
    let front = escaped c.name in
    let pv = and_parts (is_key_value c.kind v) (is_key cs vs) p in
    let pw = and_parts (is_key_value c.kind w) (is_key cs ws) q in
    let whole : (front ++ 61 ∷ escaped (value_text v)) ++ rest_of (folders cs vs) ≡ (front ++ 61 ∷ escaped (value_text w)) ++ rest_of (folders cs ws)
    = sym (join_is (folder c v) (folders cs vs)) ∙ h ∙ join_is (folder c w) (folders cs ws) in
    let cut : 61 ∷ (escaped (value_text v) ++ rest_of (folders cs vs)) ≡ 61 ∷ (escaped (value_text w) ++ rest_of (folders cs ws))
    = append_cancel_left front _ _ (sym (append_assoc front _ _) ∙ whole ∙ append_assoc front _ _) in
    let parts = front_same _ _ _ _ (escaped_no_slash (value_text v)) (escaped_no_slash (value_text w)) (rest_ends (folders cs vs)) (rest_ends (folders cs ws)) (tails _ _ _ _ cut) in
    let kv = kind_of c.kind v pv.0 in
    let kw = kind_of c.kind w pw.0 in
    let value : v ≡ w = text_injective c.kind v w kv kw (escaped_injective _ _ (text_bytes c.kind v kv) (text_bytes c.kind w kw) parts.0) in
    let more : vs ≡ ws = paths_name_keys cs vs ws pv.1 pw.1 (rest_same _ _ parts.1) in
    λ i. value i ∷ more i
