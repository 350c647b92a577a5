-- The parts of the wanted columns make up the rows, cut.
use Rattle.std.proofs.Common.{ℕ, zero, suc, ◌≡◌, ◌+◌, ◌<◌, Bool, true, false, ◌&&◌, ◌||◌, nat_eq, List, [], ◌∷◌, ◌++◌, length, take, get_or, map, add-one, append_assoc, Some, inl, inr, refl, ap, sym, subst, ◌∙◌, arith, eqb-true}
use Rattle.std.specs.Prelude.{cond}
use Rattle.std.specs.List.{AllByRecursion, slice_get}
use Rattle.std.proofs.lemmas.Bool.{and_parts, false≢true}
use Rattle.std.proofs.lemmas.List.{append-nil}
use Rattle.schema.specs.Cutting.{is_among}
use Rattle.schema.specs.Values.{ValueTree, ValueTrees}
use Rattle.schema.specs.Stripe.{Leaf}
use Rattle.metadata.specs.Records.{ChunkMeta}
use Rattle.assemble.specs.Columns.{Columns}
use Rattle.filter.specs.Test.{Test}
use Rattle.scan.specs.declared.parts.Part.{Part}
use Rattle.scan.specs.Cost.{place_of, is_stored}
use Rattle.scan.specs.Left.{followed_by, piece_at, joined}
use Rattle.scan.specs.inner.Fills.{given, fill_of, fills_of}
use Rattle.scan.specs.inner.Parts.{AreAlike, Making, IsPartOf, ArePartsOf}
use Rattle.scan.specs.inner.Texts.{AreHeld}
use Rattle.scan.specs.inner.Uses.{uses_of, numbers_of}
use Rattle.scan.proofs.Segments.{IsRising, rising_rest, kept_at, none_kept, kept_then}

-- ---- columns that are alike

among_all : (P : ℕ → Type 0) (ps : List ℕ) → AllByRecursion P ps → (q : ℕ) → is_among ps q ≡ true → P q
among_all P [] all q h = absurd (false≢true h)
among_all P (p ∷ ps) all q h = by (nat_eq p q) refl (among_all P ps all.1 q) h
  where
    by : (b : Bool) → nat_eq p q ≡ b → (is_among ps q ≡ true → P q) → (b || is_among ps q) ≡ true → P q
    by true e rest h = subst P (eqb-true p q e) all.0
    by false e rest h = rest h

-- columns that the file has are all read
pub no_fills : (keys : List ℕ) (key : List ValueTree) (width : ℕ) (places : List ℕ) → AllByRecursion (λ p. is_stored keys width p ≡ true) places → (place at n : ℕ) → fills_of keys key width places place at n ≡ []
no_fills keys key width places all place at zero = refl
no_fills keys key width places all place at (suc n) = by (is_among places place) refl (no_fills keys key width places all (suc place) at n) (no_fills keys key width places all (suc place) (suc at) n)
  where
    by : (b : Bool) → is_among places place ≡ b → fills_of keys key width places (suc place) at n ≡ [] → fills_of keys key width places (suc place) (suc at) n ≡ []
        → cond b (fill_of keys key width place at ++ fills_of keys key width places (suc place) (suc at) n) (fills_of keys key width places (suc place) at n) ≡ []
    by false e same more = same
    by true e same more =
        ap (λ (c : Bool). cond c [] ((at, given keys key place) ∷ []) ++ fills_of keys key width places (suc place) (suc at) n) (among_all (λ p. is_stored keys width p ≡ true) places all place e) ∙ more

not_both : (s a : Bool) → (a ≡ true → s ≡ false) → (s && a) ≡ false
not_both true true h = absurd (false≢true (sym (h refl)))
not_both true false h = refl
not_both false a h = refl

-- columns that the file lacks are not read
pub no_numbers : (tests : List (List Test)) (keys : List ℕ) (width : ℕ) (places : List ℕ) → AllByRecursion (λ p. is_stored keys width p ≡ false) places → (from n : ℕ) (ls : List Leaf)
    → numbers_of false n (uses_of tests keys width places from ls) ≡ []
no_numbers tests keys width places all from n [] = refl
no_numbers tests keys width places all from n (l ∷ ls) =
    let rest = numbers_of false (suc n) (uses_of tests keys width places (suc from) ls) in
    ap (λ (c : Bool). cond c (n ∷ rest) rest)
    (not_both (is_stored keys width (place_of l.steps)) (is_among places (place_of l.steps)) (among_all (λ p. is_stored keys width p ≡ false) places all (place_of l.steps)))
    ∙ no_numbers tests keys width places all (suc from) (suc n) ls

both_still : (s a b : Bool) → (a ≡ true → b ≡ true) → (s && a) ≡ true → (s && b) ≡ true
both_still s a b more h = let parts = and_parts s a h in ap (λ (x : Bool). x && b) parts.0 ∙ more parts.1

-- what holds of the leaves of some columns holds of those of fewer
pub held_fewer : (tests : List (List Test)) (keys : List ℕ) (width : ℕ) (places here : List ℕ) → ((q : ℕ) → is_among here q ≡ true → is_among places q ≡ true) → (cs : List ChunkMeta) (n : ℕ) (ls : List Leaf) (ts ss : List (List ℕ)) (cols : Columns)
    → AreHeld false cs ls (uses_of tests keys width places n ls) ts ss cols → AreHeld false cs ls (uses_of tests keys width here n ls) ts ss cols
held_fewer tests keys width places here fewer cs n [] [] [] [] h = tt
held_fewer tests keys width places here fewer cs n [] [] [] (es ∷ cols) h = absurd h
held_fewer tests keys width places here fewer cs n [] [] (s ∷ ss) cols h = absurd h
held_fewer tests keys width places here fewer cs n [] (t ∷ ts) ss cols h = absurd h
held_fewer tests keys width places here fewer cs n (l ∷ ls) [] ss cols h = absurd h
held_fewer tests keys width places here fewer cs n (l ∷ ls) (t ∷ ts) [] cols h = absurd h
held_fewer tests keys width places here fewer cs n (l ∷ ls) (t ∷ ts) (s ∷ ss) [] h = absurd h
held_fewer tests keys width places here fewer cs n (l ∷ ls) (t ∷ ts) (s ∷ ss) (es ∷ cols) h =
    let p = place_of l.steps in (
      (λ picked. h.0 (both_still (is_stored keys width p) (is_among here p) (is_among places p) (fewer p) picked)),
      held_fewer tests keys width places here fewer cs (suc n) ls ts ss cols h.1,
    )

-- ---- one part

among_front : (ps qs : List ℕ) (x : ℕ) → is_among ps x ≡ true → is_among (ps ++ qs) x ≡ true
among_front [] qs x h = absurd (false≢true h)
among_front (p ∷ ps) qs x h = by (nat_eq p x) (among_front ps qs x) h
  where
    by : (b : Bool) → (is_among ps x ≡ true → is_among (ps ++ qs) x ≡ true) → (b || is_among ps x) ≡ true → (b || is_among (ps ++ qs) x) ≡ true
    by true rest h = refl
    by false rest h = rest h

among_back : (ps qs : List ℕ) (x : ℕ) → is_among qs x ≡ true → is_among (ps ++ qs) x ≡ true
among_back [] qs x h = h
among_back (p ∷ ps) qs x h = by (nat_eq p x) (among_back ps qs x h)
  where
    by : (b : Bool) → is_among (ps ++ qs) x ≡ true → (b || is_among (ps ++ qs) x) ≡ true
    by true rest = refl
    by false rest = rest

-- the places of each part
abbrev pub heres : (m : Making) (places : List ℕ) (parts : List Part) → ArePartsOf m places parts → List (List ℕ)
heres m places [] h = []
heres m places (p ∷ parts) h = h.0 ∷ heres m h.1 parts h.5

-- the pieces of a row
abbrev pub pieces_of : List (List ℕ) → ValueTrees → List ValueTrees
pieces_of all row = map (λ ps. kept_at ps 0 row) all

pub record PartHere (m : Making) (places : List ℕ) (p : Part) (k : ℕ) (all : List (List ℕ)) : Type 0 where
  pub here : List ℕ
  pub alike : AreAlike m.keys m.width here
  pub part : IsPartOf m here p
  pub within : (q : ℕ) → is_among here q ≡ true → is_among places q ≡ true
  pub piece : (row : ValueTrees) → piece_at k (pieces_of all row) ≡ kept_at here 0 row

pub part_here : (m : Making) (places : List ℕ) (parts : List Part) (h : ArePartsOf m places parts) (k : ℕ) (p : Part) → slice_get parts k ≡ Some p → PartHere m places p k (heres m places parts h)
part_here m places [] h k p at = absurd (cc)
part_here m places (q ∷ parts) h zero p at =
    let e : q ≡ p = cc in
    record {
      here = h.0;
      alike = h.3;
      part = subst (IsPartOf m h.0) e h.4;
      within = λ x in_here. subst (λ (ps : List ℕ). is_among ps x ≡ true) (sym h.2) (among_front h.0 h.1 x in_here);
      piece = λ row. refl;
    }
part_here m places (q ∷ parts) h (suc k) p at =
    let rest = part_here m h.1 parts h.5 k p at in
    record {
      here = rest.here;
      alike = rest.alike;
      part = rest.part;
      within = λ x in_here. subst (λ (ps : List ℕ). is_among ps x ≡ true) (sym h.2) (among_back h.0 h.1 x (rest.within x in_here));
      piece = rest.piece;
    }

-- the pieces make up the row
pub joined_all : (m : Making) (places : List ℕ) (parts : List Part) (h : ArePartsOf m places parts) → IsRising 0 places → (row : ValueTrees) → joined (length parts) (pieces_of (heres m places parts h) row) ≡ kept_at places 0 row
joined_all m places [] h rise row = sym (ap (λ (ps : List ℕ). kept_at ps 0 row) h ∙ none_kept 0 row)
joined_all m places (p ∷ parts) h rise row =
    let rises : IsRising 0 (h.0 ++ h.1) = subst (IsRising 0) h.2 rise in
    ap (followed_by (kept_at h.0 0 row)) (joined_all m h.1 parts h.5 (rising_rest 0 h.0 h.1 rises) row)
    ∙ sym (kept_then h.0 h.1 0 row rises)
    ∙ ap (λ (ps : List ℕ). kept_at ps 0 row) (sym h.2)

-- ---- parts, one after another

-- one part more
pub one_part_more : (m : Making) (here : List ℕ) (p : Part) → AreAlike m.keys m.width here → IsPartOf m here p → (done : List ℕ) (parts : List Part) → ArePartsOf m done parts → ArePartsOf m (done ++ here) (parts ++ p ∷ [])
one_part_more m here p alike part done [] h = (here, [], ap (λ (ds : List ℕ). ds ++ here) h ∙ sym (append-nil here), alike, part, refl)
one_part_more m here p alike part done (q ∷ parts) h =
    (h.0, h.1 ++ here, ap (λ (ds : List ℕ). ds ++ here) h.2 ∙ append_assoc h.0 h.1 here, h.3, h.4, one_part_more m here p alike part h.1 parts h.5)

-- ---- how many are alike

pub first_alike : (P : ℕ → Type 0) (ps : List ℕ) (p : ℕ) → 0 < length ps → p ≡ get_or ps 0 p → P p → AllByRecursion P (take 1 ps)
first_alike P [] p some is h = absurd (omega (arith, some))
first_alike P (q ∷ ps) p some is h = (subst P is h, tt)

pub one_more_alike : (P : ℕ → Type 0) (ps : List ℕ) (n p : ℕ) → n < length ps → p ≡ get_or ps n p → P p → AllByRecursion P (take n ps) → AllByRecursion P (take (n + 1) ps)
one_more_alike P ps n p lt is h all = subst (λ (k : ℕ). AllByRecursion P (take k ps)) (sym (add-one n)) (by n ps lt is all)
  where
    by : (n : ℕ) (ps : List ℕ) → n < length ps → p ≡ get_or ps n p → AllByRecursion P (take n ps) → AllByRecursion P (take (suc n) ps)
    by n [] lt is all = absurd (omega (arith, lt))
    by zero (q ∷ ps) lt is all = (subst P is h, tt)
    by (suc n) (q ∷ ps) lt is all = (all.0, by n ps (omega (arith, lt)) is all.1)

pub alike_by : (keys : List ℕ) (width : ℕ) (ps : List ℕ) (b : Bool) → AllByRecursion (λ p. is_stored keys width p ≡ b) ps → AreAlike keys width ps
alike_by keys width ps true all = inl all
alike_by keys width ps false all = inr all
