-- The first of a text's lines, by where its first line feed stands.
use Rattle.std.proofs.Common.{◌≡◌, ◌∙◌, refl, sym, ap, subst, ℕ, suc, ◌+◌, ◌<◌, ◌≤◌, ◌==◌, true, false, if◌then◌else◌, List, [], ◌∷◌, ◌++◌, length, map, take, drop, arith, add-one}
use Rattle.std.proofs.Math.ListN.{get_or}
use Rattle.std.proofs.Math.Seq.{drop-cons, take-append_seam, get_or-append_seam}
use Rattle.std.specs.Borrow.{Bor}
use Rattle.std.specs.List.{All, slice_split}
use Rattle.std.specs.Str.Lines.{lines, lines_of_parts, strip_carriage_return}
use Rattle.std.proofs.lemmas.Bool.{false_from_ne_true}
use borrow.Author.Tests.{ne_eqb}
use Rattle.memchr.specs.Find.{NoneBefore, Nowhere, Passes, is_byte}
use Rattle.std.proofs.lemmas.List.{take-append-drop, take_all, length-take, get_or-take, length-map, length-append, append_assoc, append-nil, map_push}
use Rattle.std.proofs.lemmas.List.Elements.{All-from_get_or}
use Rattle.std.proofs.lemmas.List.Splits.{slice_split_none, slice_split_at, length-slice_split}

-- where no byte before an index is a line feed, none of these bytes is
pub no_feed_before : (w : List ℕ) (k : ℕ) → k ≤ length w → ((j : ℕ) → j < k → (get_or w j 0 == 10) ≡ true → ⊥) → All (λ b. (b == 10) ≡ false) (take k w)
no_feed_before w k le none =
    All-from_get_or (λ (b : ℕ). (b == 10) ≡ false) (take k w) 0
    (λ j l. let below : j < k = omega (arith, length-take k w) in subst (λ (b : ℕ). (b == 10) ≡ false) (sym (get_or-take k w j 0 below)) (false_from_ne_true _ (none j below)))

first_part : (x : List ℕ) (parts : List (List ℕ)) → 0 < length parts → lines_of_parts (x ∷ parts) ≡ strip_carriage_return x ∷ lines_of_parts parts
first_part x [] l = absurd (omega arith)
first_part x (y ∷ more) l = refl

-- the first line ends where the first line feed stands
pub first_line : (w : List ℕ) (k : ℕ) → k < length w → (get_or w k 0 == 10) ≡ true → All (λ b. (b == 10) ≡ false) (take k w) → lines w ≡ strip_carriage_return (take k w) ∷ lines (drop (k + 1) w)
first_line w k l is none =
    let p = λ (b : ℕ). b == 10 in
    let rest = drop (suc k) w in
    ap lines (sym (take-append-drop k w) ∙ ap (λ v. take k w ++ v) (drop-cons w k 0 l))
    ∙ ap lines_of_parts (slice_split_at p (take k w) (get_or w k 0) rest none is)
    ∙ first_part (take k w) (slice_split p rest) (omega (arith, length-slice_split p rest))
    ∙ ap (λ n. strip_carriage_return (take k w) ∷ lines (drop n w)) (sym (add-one k))

-- a text without a line feed is one line
pub one_line : (w : List ℕ) → 0 < length w → All (λ b. (b == 10) ≡ false) w → lines w ≡ w ∷ []
one_line w some none =
    ap lines_of_parts (slice_split_none (λ (b : ℕ). b == 10) w none)
    ∙ ap (λ t. if t then [] else w ∷ []) (ne_eqb (length w) 0 (λ z. omega arith))

-- what a search for a line feed found
pub found_feed : (s w : List ℕ) (k : ℕ) → s ≡ w → NoneBefore (Passes (is_byte 10) s) 0 (length s) k × Passes (is_byte 10) s k
    → (k < length w) × (((get_or w k 0 == 10) ≡ true) × All (λ b. (b == 10) ≡ false) (take k w))
found_feed s w k e found =
    subst (λ (t : List ℕ). (k < length t) × (((get_or t k 0 == 10) ≡ true) × All (λ b. (b == 10) ≡ false) (take k t))) e
    (found.0.high, (found.1, no_feed_before s k (omega (arith, found.0.high)) (λ j l is. found.0.before j (omega arith) l is)))

-- no line feed was found
pub found_none : (s w : List ℕ) → s ≡ w → Nowhere (Passes (is_byte 10) s) 0 (length s) → 0 < length w → lines w ≡ w ∷ []
found_none s w e none some =
    one_line w some
    (subst (λ (t : List ℕ). All (λ b. (b == 10) ≡ false) t) (take_all (length s) s (omega arith) ∙ e) (no_feed_before s (length s) (omega arith) (λ j l is. none j (omega arith) l is)))

-- ---- lines that are cut off one after another

-- the lines so far are the first of all lines
pub first_lines : (all left : List (List ℕ)) (cut : List (Bor (List ℕ))) → all ≡ map (λ t. t.now) cut ++ left → map (λ t. t.now) cut ≡ take (length cut) all
first_lines all left cut e =
    sym (ap (λ n. take n all) (sym (length-map cut (λ t. t.now))) ∙ ap (take (length (map (λ (t : Bor (List ℕ)). t.now) cut))) e ∙ take-append_seam (map (λ t. t.now) cut) left)

-- the line that is cut off next is the one after them
pub next_line : (all left rest : List (List ℕ)) (cut : List (Bor (List ℕ))) (line : Bor (List ℕ)) → all ≡ map (λ t. t.now) cut ++ left → left ≡ line.now ∷ rest
    → (length cut < length all) × (line.now ≡ get_or all (length cut) line.now)
next_line all left rest cut line e is =
    let ts = map (λ (t : Bor (List ℕ)). t.now) cut in
    let size : length ts ≡ length cut = length-map cut (λ t. t.now) in
    let joined : all ≡ ts ++ line.now ∷ rest = e ∙ ap (λ v. ts ++ v) is in (
      omega (arith, ap length joined, length-append ts (line.now ∷ rest), size),
      sym (ap (λ v. get_or v (length cut) line.now) joined ∙ ap (λ n. get_or (ts ++ line.now ∷ rest) n line.now) (sym size) ∙ get_or-append_seam ts line.now rest line.now),
    )

-- and then it is one of them
pub one_more_line : (all left rest : List (List ℕ)) (cut : List (Bor (List ℕ))) (line : Bor (List ℕ)) → all ≡ map (λ t. t.now) cut ++ left → left ≡ line.now ∷ rest
    → all ≡ map (λ t. t.now) (cut ++ line ∷ []) ++ rest
one_more_line all left rest cut line e is =
    e ∙ ap (λ v. map (λ (t : Bor (List ℕ)). t.now) cut ++ v) is ∙ sym (append_assoc (map (λ t. t.now) cut) (line.now ∷ []) rest)
    ∙ ap (λ v. v ++ rest) (sym (map_push (λ (t : Bor (List ℕ)). t.now) cut line))

-- no line is left of an empty text
pub all_lines : (all : List (List ℕ)) (text : List ℕ) (cut : List (Bor (List ℕ))) → all ≡ map (λ t. t.now) cut ++ lines text → text ≡ [] → map (λ t. t.now) cut ≡ all
all_lines all text cut e none = sym (e ∙ ap (λ v. map (λ (t : Bor (List ℕ)). t.now) cut ++ lines v) none ∙ append-nil (map (λ t. t.now) cut))
