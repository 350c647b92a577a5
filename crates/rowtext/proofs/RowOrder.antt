-- The pieces of an object, by where they begin, in the order of the members' names.
use Rattle.std.proofs.Common.{◌≡◌, ℕ, zero, suc, ◌+◌, ◌-◌, Bool, true, false, true≢false, ◌==◌, List, [], ◌∷◌, ◌++◌, length, take, map, flat_map, Some, None, Ordering, Less, Equal, Greater, nat_cmp, refl, ap, ap₂, sym, ◌∙◌, arith, append_assoc, append-nil}
use Rattle.std.specs.List.{concat}
use Rattle.std.specs.Prelude.{if◌then◌else◌}
use Rattle.std.specs.Cmp.Lexicographic.{slice_cmp}
use Rattle.std.specs.List.{AllByRecursion}
use Rattle.std.specs.Ordering.{match_ordering}
use Rattle.std.proofs.Math.Seq.{take-append_seam, drop-append_seam}
use Rattle.std.proofs.lemmas.List.{length-append}
use Rattle.std.proofs.lemmas.Bool.Decides.{nat_tests}
use Rattle.std.proofs.lemmas.Map.Lookups.{exact_bytes}
use Rattle.std.proofs.lemmas.Bool.{and_parts as and_true}
use Rattle.json.specs.Print.{quoted}
use Rattle.serde_json.specs.Data.{Data, Members, no_members, member, put}
use Rattle.serde_json.specs.Data as json
use Rattle.serde_json.specs.Written.{compact_text, members_text}
use Rattle.schema.specs.Values.{ValueTrees, no_values, value}
use Rattle.schema.specs.Shape.{Field, leaf, fields, Fields, no_fields, field, name_of, count}
use Rattle.schema.specs.Fits.{fits, fits_each}
use Rattle.rowtext.specs.Json.{field_json_as, members_json_as}
use Rattle.rowtext.specs.inner.Slots.{slot_as, key_in, key_of, put_index, ordered, second, indices_of, is_counting, is_in_order, order_of}
use Rattle.rowtext.specs.inner.Kept.{nth, in_order, kept_object}
use Rattle.rowtext.specs.inner.Lines.{keyed, open_text}
use Rattle.rowtext.specs.inner.Levels.{between, first_or, piece, sorted, braced, braced_at}

-- ---- pieces, by where they begin

-- where pieces begin, the first of which begins at n
abbrev pub starts_of : ℕ → List (List ℕ) → List ℕ
starts_of n [] = []
starts_of n (p ∷ ps) = n ∷ starts_of (n + length p) ps

cut_first : (pre p rest : List ℕ) → between (pre ++ (p ++ rest)) (length pre) (length pre + length p) ≡ p
cut_first pre p rest =
    let n : (length pre + length p) - length pre ≡ length p = omega arith in
    ap₂ (λ (k : ℕ) (s : List ℕ). take k s) n (drop-append_seam pre (p ++ rest)) ∙ take-append_seam p rest

cut_at : (pre p : List ℕ) (ps : List (List ℕ)) → between (pre ++ (p ++ concat ps)) (length pre) (first_or (length (pre ++ (p ++ concat ps))) (starts_of (length pre + length p) ps)) ≡ p
cut_at pre p [] =
    let e : length (pre ++ (p ++ [])) ≡ length pre + length p = length-append pre (p ++ []) ∙ ap (λ s. length pre + length s) (append-nil p) in
    ap (between (pre ++ (p ++ [])) (length pre)) e ∙ cut_first pre p []
cut_at pre p (q ∷ qs) = cut_first pre p (q ++ concat qs)

-- what is cut out at an index is the piece
pub cut : (ps : List (List ℕ)) (pre : List ℕ) (i : ℕ) → piece (pre ++ concat ps) (starts_of (length pre) ps) i ≡ nth ps i
cut [] pre zero = refl
cut [] pre (suc i) = refl
cut (p ∷ ps) pre zero = cut_at pre p ps
cut (p ∷ ps) pre (suc i) =
    ap₂ (λ (s : List ℕ) (n : ℕ). piece s (starts_of n ps) i) (sym (append_assoc pre p (concat ps))) (sym (length-append pre p)) ∙ cut ps (pre ++ p) i

-- ---- members with their commas

keyed_before : (k : List ℕ) (d : Data) (s : List ℕ) → keyed k d ++ s ≡ 44 ∷ (quoted k ++ 58 ∷ (compact_text d ++ s))
keyed_before k d s = append_assoc (key_of k) (compact_text d) s ∙ ap (λ (r : List ℕ). 44 ∷ r) (append_assoc (quoted k) (58 ∷ []) (compact_text d ++ s))

open_ended : (ms : Members) → open_text ms ++ 125 ∷ [] ≡ members_text true ms
open_ended no_members = refl
open_ended (member k d ms) = append_assoc (keyed k d) (open_text ms) (125 ∷ []) ∙ keyed_before k d (open_text ms ++ 125 ∷ []) ∙ ap (λ (s : List ℕ). 44 ∷ (quoted k ++ 58 ∷ (compact_text d ++ s))) (open_ended ms)

-- with a brace for the first comma they are an object
pub object_braced : (ms : Members) → braced (open_text ms) ++ 125 ∷ [] ≡ compact_text (json.object ms)
object_braced no_members = refl
object_braced (member k d ms) =
    ap (λ (s : List ℕ). braced s ++ 125 ∷ []) (keyed_before k d (open_text ms)) ∙ ap (λ (s : List ℕ). 123 ∷ s) (
    append_assoc (quoted k) (58 ∷ (compact_text d ++ open_text ms)) (125 ∷ []) ∙ ap (λ (s : List ℕ). quoted k ++ 58 ∷ s) (append_assoc (compact_text d) (open_text ms) (125 ∷ []) ∙ ap (λ (s : List ℕ). compact_text d ++ s) (open_ended ms)))

-- ---- the order of names

-- the members with these names, by the indices of their values
abbrev pub shown_at : (ℕ → Data) → List (List ℕ × ℕ) → Members
shown_at at [] = no_members
shown_at at (e ∷ es) = member e.0 (at e.1) (shown_at at es)

shown_by : (at : ℕ → Data) (o : Ordering) (k : List ℕ) (i : ℕ) (e : List ℕ × ℕ) (es : List (List ℕ × ℕ)) (later : Members) → shown_at at (put_index k i es) ≡ later
    → shown_at at (match_ordering o ((k, i) ∷ e ∷ es) ((e.0, i) ∷ es) (e ∷ put_index k i es))
    ≡ match_ordering o (member k (at i) (shown_at at (e ∷ es))) (member e.0 (at i) (shown_at at es)) (member e.0 (at e.1) later)
shown_by at Less k i e es later h = refl
shown_by at Equal k i e es later h = refl
shown_by at Greater k i e es later h = ap (member e.0 (at e.1)) h

shown_put : (at : ℕ → Data) (k : List ℕ) (i : ℕ) (es : List (List ℕ × ℕ)) → shown_at at (put_index k i es) ≡ put k (at i) (shown_at at es)
shown_put at k i [] = refl
shown_put at k i (e ∷ es) = shown_by at (slice_cmp nat_cmp k e.0) k i e es _ (shown_put at k i es)

-- the text of an index has the name and the value
abbrev pub IsNamed : (ℕ → Data) → (ℕ → List ℕ) → List ℕ × ℕ → Type 0
IsNamed at text e = text e.1 ≡ keyed e.0 (at e.1)

named_by : (at : ℕ → Data) (text : ℕ → List ℕ) (o : Ordering) (k : List ℕ) (i : ℕ) (e : List ℕ × ℕ) (es : List (List ℕ × ℕ)) → slice_cmp nat_cmp k e.0 ≡ o → IsNamed at text (k, i) → AllByRecursion (IsNamed at text) (e ∷ es)
    → AllByRecursion (IsNamed at text) (put_index k i es) → AllByRecursion (IsNamed at text) (match_ordering o ((k, i) ∷ e ∷ es) ((e.0, i) ∷ es) (e ∷ put_index k i es))
named_by at text Less k i e es is here h later = (here, h)
named_by at text Equal k i e es is here h later = (here ∙ ap (λ n. keyed n (at i)) (exact_bytes k e.0 is), h.1)
named_by at text Greater k i e es is here h later = (h.0, later)

named_put : (at : ℕ → Data) (text : ℕ → List ℕ) (k : List ℕ) (i : ℕ) (es : List (List ℕ × ℕ)) → IsNamed at text (k, i) → AllByRecursion (IsNamed at text) es → AllByRecursion (IsNamed at text) (put_index k i es)
named_put at text k i [] here h = (here, tt)
named_put at text k i (e ∷ es) here h = named_by at text (slice_cmp nat_cmp k e.0) k i e es refl here h (named_put at text k i es here h.1)

pub pieces_named : (at : ℕ → Data) (text : ℕ → List ℕ) (es : List (List ℕ × ℕ)) → AllByRecursion (IsNamed at text) es → flat_map text (map second es) ≡ open_text (shown_at at es)
pieces_named at text [] h = refl
pieces_named at text (e ∷ es) h = ap₂ (λ (a b : List ℕ). a ++ b) h.0 (pieces_named at text es h.1)

-- ---- the members of a group

abbrev pub pieces_as : Bool → Fields → ValueTrees → List (List ℕ)
pieces_as texts (field f fs) (value v vs) = (key_in (slot_as texts f) ++ compact_text (field_json_as texts f v)) ∷ pieces_as texts fs vs
pieces_as texts _ _ = []

abbrev pub pieces : Fields → ValueTrees → List (List ℕ)
pieces = pieces_as false

pub flat_same : (f g : ℕ → List ℕ) → ((i : ℕ) → f i ≡ g i) → (os : List ℕ) → flat_map f os ≡ flat_map g os
flat_same f g h [] = refl
flat_same f g h (o ∷ os) = ap₂ (λ (a r : List ℕ). a ++ r) (h o) (flat_same f g h os)

module _ (texts : Bool) where
  abbrev pub data_at : Fields → ValueTrees → ℕ → Data
  data_at (field f fs) (value v vs) zero = field_json_as texts f v
  data_at (field f fs) (value v vs) (suc i) = data_at fs vs i
  data_at _ _ i = json.null

  key_named : (f : Field) → key_in (slot_as texts f) ≡ key_of (name_of f)
  key_named (leaf n r t) = refl
  key_named (fields n r a fs) = refl

  -- the names of fields, the first of which has the index i
  in_names : (i : ℕ) (fs : Fields) (vs : ValueTrees) (at : ℕ → Data) (text : ℕ → List ℕ) → fits_each fs vs ≡ true → ((j : ℕ) → at (i + j) ≡ data_at fs vs j) → ((j : ℕ) → text (i + j) ≡ nth (pieces_as texts fs vs) j)
      → (shown_at at (ordered i fs) ≡ members_json_as texts fs vs) × AllByRecursion (IsNamed at text) (ordered i fs)
  in_names i no_fields vs at text h d p = (refl, tt)
  in_names i (field f fs) no_values at text h d p = absurd (true≢false (sym h))
  in_names i (field f fs) (value v vs) at text h d p =
      let q = and_true (fits f v) (fits_each fs vs) h in
      let zero_at : i ≡ i + 0 = omega arith in
      let next : (j : ℕ) → suc i + j ≡ i + suc j = λ j. omega arith in
      let here : at i ≡ field_json_as texts f v = ap at zero_at ∙ d 0 in
      let named : text i ≡ keyed (name_of f) (at i) = ap text zero_at ∙ p 0 ∙ ap₂ (λ (k : List ℕ) (x : Data). k ++ compact_text x) (key_named f) (sym here) in
      let rest = in_names (suc i) fs vs at text q.1 (λ j. ap at (next j) ∙ d (suc j)) (λ j. ap text (next j) ∙ p (suc j)) in
      (shown_put at (name_of f) i (ordered (suc i) fs) ∙ ap₂ (put (name_of f)) here rest.0, named_put at text (name_of f) i (ordered (suc i) fs) named rest.1)

  from_first : {A : Type 0} (f : ℕ → A) (j : ℕ) → f (0 + j) ≡ f j
  from_first f j = let e : 0 + j ≡ j = omega arith in ap f e

  -- the pieces in the order of the names
  pub pieces_ordered : (fs : Fields) (vs : ValueTrees) → fits_each fs vs ≡ true → flat_map (nth (pieces_as texts fs vs)) (indices_of fs) ≡ open_text (members_json_as texts fs vs)
  pieces_ordered fs vs h =
      let r = in_names 0 fs vs (data_at fs vs) (nth (pieces_as texts fs vs)) h (from_first (data_at fs vs)) (from_first (nth (pieces_as texts fs vs))) in
      pieces_named (data_at fs vs) (nth (pieces_as texts fs vs)) (ordered 0 fs) r.1 ∙ ap open_text r.0

  count_pieces : (fs : Fields) (vs : ValueTrees) → fits_each fs vs ≡ true → length (pieces_as texts fs vs) ≡ count fs
  count_pieces no_fields vs h = refl
  count_pieces (field f fs) no_values h = absurd (true≢false (sym h))
  count_pieces (field f fs) (value v vs) h = ap suc (count_pieces fs vs (and_true (fits f v) (fits_each fs vs) h).1)

  -- where the order is that of the fields, the pieces are as they stand
  counted : (os : List ℕ) (ps : List (List ℕ)) (i : ℕ) (text : ℕ → List ℕ) → is_counting i os ≡ true → length os ≡ length ps → ((j : ℕ) → text (i + j) ≡ nth ps j) → flat_map text os ≡ concat ps
  counted [] [] i text c n p = refl
  counted [] (q ∷ qs) i text c n p = absurd (omega (arith, n))
  counted (o ∷ os) [] i text c n p = absurd (omega (arith, n))
  counted (o ∷ os) (q ∷ qs) i text c n p =
      let b = and_true (o == i) (is_counting (suc i) os) c in
      let same : o ≡ i + 0 = grind (arith, nat_tests, b.0) in
      let next : (j : ℕ) → suc i + j ≡ i + suc j = λ j. omega arith in
      ap₂ (λ (a r : List ℕ). a ++ r) (ap text same ∙ p 0) (counted os qs (suc i) text b.1 (omega (arith, n)) (λ j. ap text (next j) ∙ p (suc j)))

  -- the pieces in the order that the fields have
  pub ordered_by : (fs : Fields) (vs : ValueTrees) → fits_each fs vs ≡ true → (b : Bool) → is_in_order (indices_of fs) (count fs) ≡ b → in_order (pieces_as texts fs vs) (if b then None else Some (indices_of fs)) ≡ open_text (members_json_as texts fs vs)
  ordered_by fs vs h true is =
      let ps = pieces_as texts fs vs in
      let os = indices_of fs in
      let t = and_true (is_counting 0 os) (length os == count fs) is in
      let same : length os ≡ count fs = grind (arith, nat_tests, t.1) in
      sym (counted os ps 0 (nth ps) t.0 (same ∙ sym (count_pieces fs vs h)) (from_first (nth ps))) ∙ pieces_ordered fs vs h
  ordered_by fs vs h false is = pieces_ordered fs vs h

  -- the object that they are
  pub object_ordered : (fs : Fields) (vs : ValueTrees) → fits_each fs vs ≡ true → kept_object (pieces_as texts fs vs) (order_of fs) ≡ compact_text (json.object (members_json_as texts fs vs))
  object_ordered fs vs h = ap (λ (s : List ℕ). braced s ++ 125 ∷ []) (ordered_by fs vs h (is_in_order (indices_of fs) (count fs)) refl) ∙ object_braced (members_json_as texts fs vs)

  pub sorted_by : (fs : Fields) (vs : ValueTrees) (pre : List ℕ) → fits_each fs vs ≡ true → (b : Bool) → is_in_order (indices_of fs) (count fs) ≡ b
      → sorted (pre ++ concat (pieces_as texts fs vs)) (starts_of (length pre) (pieces_as texts fs vs)) (length pre) (if b then None else Some (indices_of fs)) ≡ pre ++ open_text (members_json_as texts fs vs)
  sorted_by fs vs pre h true is = ap (λ (s : List ℕ). pre ++ s) (ordered_by fs vs h true is)
  sorted_by fs vs pre h false is =
      let ps = pieces_as texts fs vs in
      ap₂ (λ (a r : List ℕ). a ++ r) (take-append_seam pre (concat ps)) (flat_same (piece (pre ++ concat ps) (starts_of (length pre) ps)) (nth ps) (cut ps pre) (indices_of fs) ∙ pieces_ordered fs vs h)

  -- the pieces of an object after a text, put in order and braced
  pub object_text : (fs : Fields) (vs : ValueTrees) (pre : List ℕ) → fits_each fs vs ≡ true
      → braced_at (length pre) (sorted (pre ++ concat (pieces_as texts fs vs)) (starts_of (length pre) (pieces_as texts fs vs)) (length pre) (order_of fs)) ++ 125 ∷ [] ≡ pre ++ compact_text (json.object (members_json_as texts fs vs))
  object_text fs vs pre h =
      let ms = members_json_as texts fs vs in
      let all = sorted_by fs vs pre h (is_in_order (indices_of fs) (count fs)) refl in
      ap (λ (s : List ℕ). braced_at (length pre) s ++ 125 ∷ []) all
      ∙ ap₂ (λ (a r : List ℕ). (a ++ braced r) ++ 125 ∷ []) (take-append_seam pre (open_text ms)) (drop-append_seam pre (open_text ms))
      ∙ append_assoc pre (braced (open_text ms)) (125 ∷ []) ∙ ap (λ (s : List ℕ). pre ++ s) (object_braced ms)
