-- Lines of bytes that are cut behind a line feed.
use Rattle.std.proofs.Common.{◌≡◌, ◌∙◌, ◌≤◌, ◌<◌, ◌+◌, ◌-◌, ◌⊎◌, inl, inr, ℕ, zero, suc, Bool, true, false, cond, List, [], ◌∷◌, ◌++◌, map, length, take, drop, refl, sym, ap, subst, arith, append_assoc, append-nil, length-append, take_at, eqb-true, ne_eqb, add-one, length-drop, take-append-drop}
use Rattle.std.specs.Prelude.{◌==◌, if◌then◌else◌, slice_index, IsUtf8}
use Rattle.std.specs.List.{slice_split, onto_first}
use Rattle.std.specs.Str.Lines.{lines, lines_of_parts, strip_carriage_return}
use Rattle.std.proofs.lemmas.List.{take_more, take_all}
use Rattle.std.proofs.lemmas.Str.{IsUtf8-append, IsUtf8-from_ascii, IsUtf8-nil}
use Rattle.commands.specs.FileLines.{AreWholeLines}
use Rattle.commands.specs.inner.LineCuts.{HasNoFeed, IsLineLength, ended, open_ended}

-- the parts of bytes between line feeds
abbrev parts_of : List ℕ → List (List ℕ)
parts_of bytes = slice_split (λ b. b == 10) bytes

-- there is always a first part
has_first : (bytes : List ℕ) → (p : List ℕ) × (ps : List (List ℕ)) × (parts_of bytes ≡ p ∷ ps)
has_first [] = ([], [], refl)
has_first (b ∷ bytes) = by (b == 10) (parts_of bytes) (has_first bytes)
  where
    by : (is : Bool) (parts : List (List ℕ)) → (p : List ℕ) × (ps : List (List ℕ)) × (parts ≡ p ∷ ps)
        → (p : List ℕ) × (ps : List (List ℕ)) × (cond is ([] ∷ parts) (onto_first b parts) ≡ p ∷ ps)
    by true parts h = ([], parts, refl)
    by false parts h = (b ∷ h.0, h.1, ap (onto_first b) h.2)

-- bytes are split at a line feed
split_at_feed : (front more : List ℕ) → parts_of (front ++ 10 ∷ more) ≡ parts_of front ++ parts_of more
split_at_feed [] more = refl
split_at_feed (b ∷ front) more = by (b == 10) (parts_of (front ++ 10 ∷ more)) (parts_of front) (has_first front) (split_at_feed front more)
  where
    by : (is : Bool) (all parts : List (List ℕ)) → (p : List ℕ) × (ps : List (List ℕ)) × (parts ≡ p ∷ ps) → all ≡ parts ++ parts_of more
        → cond is ([] ∷ all) (onto_first b all) ≡ cond is ([] ∷ parts) (onto_first b parts) ++ parts_of more
    by true all parts h same = ap (λ (t : List (List ℕ)). [] ∷ t) same
    by false all parts h same =
        ap (onto_first b) (same ∙ ap (λ (t : List (List ℕ)). t ++ parts_of more) h.2) ∙ ap (λ (t : List (List ℕ)). onto_first b t ++ parts_of more) (sym h.2)

-- each part before the last ends where a line does
parts_joined : (ps : List (List ℕ)) (q : List ℕ) (qs : List (List ℕ)) → lines_of_parts (ps ++ q ∷ qs) ≡ map strip_carriage_return ps ++ lines_of_parts (q ∷ qs)
parts_joined [] q qs = refl
parts_joined (p ∷ []) q qs = refl
parts_joined (p ∷ (r ∷ ps)) q qs = ap (λ (t : List (List ℕ)). strip_carriage_return p ∷ t) (parts_joined (r ∷ ps) q qs)

-- lines that end with a line feed, and those after it
lines_at_feed : (front more : List ℕ) → lines (front ++ 10 ∷ more) ≡ map strip_carriage_return (parts_of front) ++ lines more
lines_at_feed front more =
    let h = has_first more in
    ap lines_of_parts (split_at_feed front more ∙ ap (λ (t : List (List ℕ)). parts_of front ++ t) h.2) ∙ parts_joined (parts_of front) h.0 h.1
    ∙ ap (λ (t : List (List ℕ)). map strip_carriage_return (parts_of front) ++ lines_of_parts t) (sym h.2)

-- the lines of whole lines and more are those of both
pub lines_of_both : (whole more : List ℕ) → AreWholeLines whole → lines (whole ++ more) ≡ lines whole ++ lines more
lines_of_both whole more (inl none) = rw none refl
lines_of_both whole more (inr ends) =
    let front = ends.0 in
    let here : lines whole ≡ map strip_carriage_return (parts_of front) = ap lines ends.1 ∙ lines_at_feed front [] ∙ append-nil (map strip_carriage_return (parts_of front)) in
    ap (λ (t : List ℕ). lines (t ++ more)) ends.1 ∙ ap lines (append_assoc front (10 ∷ []) more) ∙ lines_at_feed front more ∙ ap (λ (t : List (List ℕ)). t ++ lines more) (sym here)

-- whole lines after whole lines are whole lines
pub both_whole : (a b : List ℕ) → AreWholeLines a → AreWholeLines b → AreWholeLines (a ++ b)
both_whole a b is (inl none) = subst AreWholeLines (sym (ap (λ (t : List ℕ). a ++ t) none ∙ append-nil a)) is
both_whole a b is (inr ends) = inr (a ++ ends.0, ap (λ (t : List ℕ). a ++ t) ends.1 ∙ sym (append_assoc a ends.0 (10 ∷ [])))

-- ---- a first line

-- where a line feed stands
pub feed_at : (bytes : List ℕ) (i : ℕ) → i < length bytes → slice_index bytes i ≡ 10 → bytes ≡ take i bytes ++ 10 ∷ drop (suc i) bytes
feed_at [] i within is = absurd (omega (arith, within))
feed_at (b ∷ bytes) zero within is = ap (λ (c : ℕ). c ∷ bytes) is
feed_at (b ∷ bytes) (suc i) within is = ap (λ (t : List ℕ). b ∷ t) (feed_at bytes i (omega (arith, within)) is)

-- one byte more that is no line feed
no_feed_next : (bytes : List ℕ) (i : ℕ) → i < length bytes → HasNoFeed (take i bytes) → (slice_index bytes i == 10) ≡ false → HasNoFeed (take (suc i) bytes)
no_feed_next [] i within none is = absurd (omega (arith, within))
no_feed_next (b ∷ bytes) zero within none is = (is, tt)
no_feed_next (b ∷ bytes) (suc i) within none is = (none.0, no_feed_next bytes i (omega (arith, within)) none.1 is)

pub no_feed_more : (bytes : List ℕ) (i : ℕ) → i < length bytes → HasNoFeed (take i bytes) → (slice_index bytes i == 10) ≡ false → HasNoFeed (take (i + 1) bytes)
no_feed_more bytes i within none is = subst (λ (k : ℕ). HasNoFeed (take k bytes)) (sym (add-one i)) (no_feed_next bytes i within none is)

-- a list without length is none
nothing : (l : List ℕ) → length l ≡ 0 → l ≡ []
nothing [] none = refl
nothing (x ∷ l) none = absurd (omega (arith, none))

-- two fronts of the same bytes that are as long are the same
same_front : (bytes a b c d : List ℕ) → bytes ≡ a ++ b → bytes ≡ c ++ d → length a ≡ length c → a ≡ c
same_front bytes a b c d first second long = sym (take_at a b (length c) long) ∙ (ap (take (length c)) (sym first ∙ second) ∙ take_at c d (length c) refl)

-- bytes without a line feed are one part
only_part : (front : List ℕ) → HasNoFeed front → parts_of front ≡ front ∷ []
only_part [] none = refl
only_part (b ∷ front) none = ap (λ (is : Bool). cond is ([] ∷ parts_of front) (onto_first b (parts_of front))) none.0 ∙ ap (onto_first b) (only_part front none.1)

-- bytes without a line feed begin the first part
begins_part : (front more : List ℕ) → HasNoFeed front → (rest : List ℕ) × (ps : List (List ℕ)) × (parts_of (front ++ more) ≡ (front ++ rest) ∷ ps)
begins_part [] more none = has_first more
begins_part (b ∷ front) more none =
    let h = begins_part front more none.1 in
    (h.0, h.1, ap (λ (is : Bool). cond is ([] ∷ parts_of (front ++ more)) (onto_first b (parts_of (front ++ more)))) none.0 ∙ ap (onto_first b) h.2)

-- a last part that has bytes is a line
last_part : (b : ℕ) (part : List ℕ) → lines_of_parts ((b ∷ part) ∷ []) ≡ (b ∷ part) ∷ []
last_part b part = ap (λ (is : Bool). cond is [] ((b ∷ part) ∷ [])) (ne_eqb (length (b ∷ part)) 0 (λ none. omega (arith, none)))

-- a line and its carriage return
stripped : (line : List ℕ) → (line ≡ strip_carriage_return line) ⊎ (line ≡ strip_carriage_return line ++ 13 ∷ [])
stripped [] = inl refl
stripped (b ∷ line) = by (length (b ∷ line) - 1) (omega arith) (slice_index (b ∷ line) (length (b ∷ line) - 1) == 13) refl
  where
    by : (k : ℕ) → k ≡ length line → (is : Bool) → (slice_index (b ∷ line) k == 13) ≡ is
        → ((b ∷ line) ≡ (if is then take k (b ∷ line) else b ∷ line)) ⊎ ((b ∷ line) ≡ (if is then take k (b ∷ line) else b ∷ line) ++ 13 ∷ [])
    by k at false is = inl refl
    by k at true is =
        inr (sym (take_all (k + 1) (b ∷ line) (omega (arith, at))) ∙ (take_more (b ∷ line) k 0 (omega (arith, at)) ∙ ap (λ (c : ℕ). take k (b ∷ line) ++ c ∷ []) (eqb-true (slice_index (b ∷ line) k) 13 is)))

-- a line is at most one byte shorter than what stands before its line feed
length_stripped : (line : List ℕ) → length line ≤ length (strip_carriage_return line) + 1
length_stripped line = by (stripped line)
  where
    by : (line ≡ strip_carriage_return line) ⊎ (line ≡ strip_carriage_return line ++ 13 ∷ []) → length line ≤ length (strip_carriage_return line) + 1
    by (inl same) = omega (arith, ap length same)
    by (inr longer) = omega (arith, ap length longer, length-append (strip_carriage_return line) (13 ∷ []))

-- one ASCII byte is a text
byte_is_text : (b : ℕ) → b < 128 → IsUtf8 (b ∷ [])
byte_is_text b small = IsUtf8-from_ascii (b ∷ []) by
  where
    by : (i : ℕ) → slice_index (b ∷ []) i < 128
    by zero = small
    by (suc i) = omega arith

-- what is text without its carriage return is text with it
utf8_stripped : (line : List ℕ) → IsUtf8 (strip_carriage_return line) → IsUtf8 line
utf8_stripped line is = by (stripped line)
  where
    by : (line ≡ strip_carriage_return line) ⊎ (line ≡ strip_carriage_return line ++ 13 ∷ []) → IsUtf8 line
    by (inl same) = subst IsUtf8 (sym same) is
    by (inr longer) = subst IsUtf8 (sym longer) (IsUtf8-append (strip_carriage_return line) (13 ∷ []) is (byte_is_text 13 (omega arith)))

-- where the first line of bytes is long, the first line of these and more bytes is
pub long_first : (bytes more : List ℕ) (n k : ℕ) → IsLineLength bytes n → k + 2 < n
    → (line : List ℕ) × (after : List (List ℕ)) × (lines (bytes ++ more) ≡ line ∷ after) × (k ≤ length line)
long_first bytes more n k (ended front after none same many) long =
    let line = strip_carriage_return front in
    let is : lines (bytes ++ more) ≡ line ∷ lines (after ++ more) =
    ap (λ (t : List ℕ). lines (t ++ more)) same ∙ ap lines (append_assoc front (10 ∷ after) more) ∙ lines_at_feed front (after ++ more)
    ∙ ap (λ (t : List (List ℕ)). map strip_carriage_return t ++ lines (after ++ more)) (only_part front none) in
    (line, lines (after ++ more), is, omega (arith, many, long, length_stripped front))
long_first bytes more n k (open_ended none many) long =
    let h = begins_part bytes more none in
    by h.1 (bytes ++ h.0) (length-append bytes h.0) h.2
  where
    by : (ps : List (List ℕ)) (part : List ℕ) → length part ≡ length bytes + length (begins_part bytes more none).0 → parts_of (bytes ++ more) ≡ part ∷ ps
        → (line : List ℕ) × (after : List (List ℕ)) × (lines (bytes ++ more) ≡ line ∷ after) × (k ≤ length line)
    by [] [] as_long same = absurd (omega (arith, as_long, many, long))
    by [] (b ∷ part) as_long same = (b ∷ part, [], ap lines_of_parts same ∙ last_part b part, omega (arith, as_long, many, long))
    by (p ∷ ps) part as_long same =
        (strip_carriage_return part, lines_of_parts (p ∷ ps), ap lines_of_parts same, omega (arith, as_long, many, long, length_stripped part))

-- bytes that are no text and one line at most are a line that is no text
pub no_text_line : (bytes : List ℕ) → IsLineLength bytes (length bytes) → (IsUtf8 bytes → ⊥)
    → (line : List ℕ) × (lines bytes ≡ line ∷ []) × (IsUtf8 line → ⊥)
no_text_line bytes (ended front after none same many) lacks =
    let over : after ≡ [] = nothing after (omega (arith, many, ap length same, length-append front (10 ∷ after))) in
    let is : bytes ≡ front ++ 10 ∷ [] = same ∙ ap (λ (t : List ℕ). front ++ 10 ∷ t) over in (
      strip_carriage_return front,
      ap lines is ∙ lines_at_feed front [] ∙ ap (λ (t : List (List ℕ)). map strip_carriage_return t ++ []) (only_part front none),
      λ is_text. lacks (subst IsUtf8 (sym is) (IsUtf8-append front (10 ∷ []) (utf8_stripped front is_text) (byte_is_text 10 (omega arith)))),
    )
no_text_line [] (open_ended none many) lacks = absurd (lacks IsUtf8-nil)
no_text_line (b ∷ bytes) (open_ended none many) lacks = (b ∷ bytes, ap lines_of_parts (only_part (b ∷ bytes) none) ∙ last_part b bytes, lacks)

-- the lines of bytes are the first and those after it
pub first_and_more : (bytes line after : List ℕ) → bytes ≡ line ++ after → IsLineLength bytes (length line) → lines bytes ≡ lines line ++ lines after
first_and_more bytes line after same (ended front more none is many) =
    ap lines same ∙ lines_of_both line after (inr (front, same_front bytes line after (front ++ 10 ∷ []) more same (is ∙ sym (append_assoc front (10 ∷ []) more)) (omega (arith, many, length-append front (10 ∷ [])))))
first_and_more bytes line after same (open_ended none many) =
    let over : after ≡ [] = nothing after (omega (arith, many, ap length same, length-append line after)) in
    ap lines (same ∙ ap (λ (t : List ℕ). line ++ t) over ∙ append-nil line) ∙ sym (append-nil (lines line)) ∙ ap (λ (t : List ℕ). lines line ++ lines t) (sym over)

-- the first line of bytes is the first of itself
pub line_itself : (bytes line : List ℕ) → IsLineLength bytes (length line) → line ≡ take (length line) bytes → IsLineLength line (length line)
line_itself bytes line (ended front after none is many) same =
    let front_is : line ≡ front ++ 10 ∷ [] =
    same ∙ (ap (take (length line)) (is ∙ sym (append_assoc front (10 ∷ []) after)) ∙ take_at (front ++ 10 ∷ []) after (length line) (omega (arith, many, length-append front (10 ∷ [])))) in
    ended front [] none front_is many
line_itself bytes line (open_ended none many) same =
    let all : line ≡ bytes = same ∙ take_all (length line) bytes (omega (arith, many)) in
    open_ended (subst HasNoFeed (sym all) none) refl

-- a first line has some bytes where there are some
pub line_has_some : (bytes : List ℕ) (n : ℕ) → 0 < length bytes → IsLineLength bytes n → 0 < n
line_has_some bytes n some (ended front after none is many) = omega (arith, many)
line_has_some bytes n some (open_ended none many) = omega (arith, many, some)

-- one line more of bytes
pub lines_more : (bytes line : List ℕ) (i : ℕ) → AreWholeLines (take i bytes) → line ≡ take (length line) (drop i bytes) → take (i + length line) bytes ≡ take i bytes ++ line
    → lines (take (i + length line) bytes) ≡ lines (take i bytes) ++ lines line
lines_more bytes line i whole same more = ap lines more ∙ lines_of_both (take i bytes) line whole

-- up to the end of the next line of bytes they are whole lines, or all
pub whole_more : (bytes line : List ℕ) (i : ℕ) → i ≤ length bytes → AreWholeLines (take i bytes) → IsLineLength (drop i bytes) (length line) → line ≡ take (length line) (drop i bytes)
    → take (i + length line) bytes ≡ take i bytes ++ line → AreWholeLines (take (i + length line) bytes) ⊎ (i + length line ≡ length bytes)
whole_more bytes line i within whole (ended front after none is many) same more =
    let front_is : line ≡ front ++ 10 ∷ [] =
    same ∙ (ap (take (length line)) (is ∙ sym (append_assoc front (10 ∷ []) after)) ∙ take_at (front ++ 10 ∷ []) after (length line) (omega (arith, many, length-append front (10 ∷ [])))) in
    inl (subst AreWholeLines (sym more) (both_whole (take i bytes) line whole (inr (front, front_is))))
whole_more bytes line i within whole (open_ended none many) same more = inr (omega (arith, many, length-drop i bytes, within))

-- all lines are those so far, those of the next line, and those after it
pub lines_around : (bytes line : List ℕ) (i : ℕ) → AreWholeLines (take i bytes) → IsLineLength (drop i bytes) (length line) → line ≡ take (length line) (drop i bytes)
    → lines bytes ≡ (lines (take i bytes) ++ lines line) ++ lines (drop (length line) (drop i bytes))
lines_around bytes line i whole is same =
    let after = drop (length line) (drop i bytes) in
    let rest : drop i bytes ≡ line ++ after = sym (take-append-drop (length line) (drop i bytes)) ∙ ap (λ (t : List ℕ). t ++ after) (sym same) in
    ap lines (sym (take-append-drop i bytes)) ∙ (lines_of_both (take i bytes) (drop i bytes) whole
    ∙ (ap (λ (t : List (List ℕ)). lines (take i bytes) ++ t) (first_and_more (drop i bytes) line after rest is) ∙ sym (append_assoc (lines (take i bytes)) (lines line) (lines after))))
