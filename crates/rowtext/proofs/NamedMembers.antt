-- The members of an object that were read in the order of their names.
use Rattle.std.proofs.Common.{◌≡◌, ℕ, zero, suc, ◌+◌, ◌-◌, ◌<◌, ◌≤◌, Bool, true, false, true≢false, List, [], ◌∷◌, ◌++◌, length, take, drop, map, flat_map, get_or, Option, Some, None, refl, sym, ap, ap₂, subst, ◌∙◌, arith, append_assoc, append-nil}
use Rattle.std.specs.Prelude.{slice_range, slice_set, replicate}
use Rattle.std.specs.List.{AllByRecursion}
use Rattle.std.proofs.Math.Seq.{drop-append_seam, take-append_seam}
use Rattle.std.proofs.lemmas.List.{length-append, length-map, map-append, take-append-le, drop-append-le, take_all, take_more, length-drop}
use Rattle.std.proofs.lemmas.Grind.{flat_map-append}
use Rattle.std.proofs.lemmas.Bool.{and_from as both}
use Rattle.serde_json.specs.Written.{compact_text}
use Rattle.schema.specs.declared.field.Field.{Field as CodeField}
use Rattle.schema.specs.Fits.{fits, fits_each}
use Rattle.schema.specs.Shape.{Field, Fields, no_fields, field}
use Rattle.schema.specs.Values.{ValueTree, ValueTrees, no_values, value}
use Rattle.schema.specs.Views.{field_view, field_views}
use Rattle.assemble.specs.Sinks.{Token, tokens, tokens_each}
use Rattle.rowtext.specs.Json.{field_json, members_json}
use Rattle.rowtext.specs.declared.pieces.Piece.{Piece}
use Rattle.rowtext.specs.declared.spans.Span.{Span}
use Rattle.rowtext.specs.declared.cursor.Cursor.{Cursor}
use Rattle.rowtext.specs.inner.Kept.{nth}
use Rattle.rowtext.specs.inner.Lines.{rest_of, with_comma, open_text}
use Rattle.rowtext.specs.inner.Pieces.{token_of, tokens_of, Grows, IsRead, AreRead}
use Rattle.rowtext.specs.inner.PieceLists.{exchanged}
use Rattle.rowtext.specs.inner.Slots.{slot_of, key_in, indices_of}
use Rattle.rowtext.specs.inner.Spans.{span_tokens, IsSpan, fits_at, member_text, IsNoted, IsMemberRead}
use Rattle.rowtext.proofs.RowOrder.{pieces, flat_same, pieces_ordered}
use Rattle.rowtext.proofs.LinePieces.{grows_then}

-- ---- parts

part_kept : (ks bs : List Token) (m n : ℕ) → m ≤ n → n ≤ length ks → slice_range (ks ++ bs) m n ≡ slice_range ks m n
part_kept ks bs m n le room =
    let long : n - m ≤ length (drop m ks) = let e = length-drop m ks in omega (arith, e, le, room) in
    ap (take (n - m)) (drop-append-le m ks bs (omega (arith, le, room))) ∙ take-append-le (n - m) (drop m ks) bs long

part_last : (ks bs : List Token) → slice_range (ks ++ bs) (length ks) (length (ks ++ bs)) ≡ bs
part_last ks bs =
    let long : length bs ≤ length (ks ++ bs) - length ks = let e = length-append ks bs in omega (arith, e) in
    ap (take (length (ks ++ bs) - length ks)) (drop-append_seam ks bs) ∙ take_all (length (ks ++ bs) - length ks) bs long

mapped_take : (n : ℕ) (ps : List Piece) → map token_of (take n ps) ≡ take n (map token_of ps)
mapped_take zero ps = refl
mapped_take (suc n) [] = refl
mapped_take (suc n) (p ∷ ps) = ap (λ t. token_of p ∷ t) (mapped_take n ps)

mapped_drop : (n : ℕ) (ps : List Piece) → map token_of (drop n ps) ≡ drop n (map token_of ps)
mapped_drop zero ps = refl
mapped_drop (suc n) [] = refl
mapped_drop (suc n) (p ∷ ps) = mapped_drop n ps

part_tokens : (ps : List Piece) (s : Span) → span_tokens ps (Some s) ≡ slice_range (tokens_of ps) s.from s.to
part_tokens ps s = mapped_take (s.to - s.from) (drop s.from ps) ∙ ap (take (s.to - s.from)) (mapped_drop s.from ps)

-- ---- what is known so far

-- the value of a field fits it, and its tokens are those of its span
abbrev Holds : Field → Option Span → Option ValueTree → List Token → Type 0
Holds f None None ts = Unit {0}
Holds f (Some s) (Some v) ts = (fits f v ≡ true) × ((slice_range ts s.from s.to ≡ tokens v) × ((s.from ≤ s.to) × (s.to ≤ length ts)))
Holds f None (Some v) ts = ⊥
Holds f (Some s) None ts = ⊥

abbrev HoldEach : Fields → List (Option Span) → List (Option ValueTree) → List Token → Type 0
HoldEach no_fields [] [] ts = Unit {0}
HoldEach (field f fs) (s ∷ ss) (o ∷ os) ts = Holds f s o ts × HoldEach fs ss os ts
HoldEach _ _ _ ts = ⊥

abbrev put : ℕ → ValueTree → List (Option ValueTree) → List (Option ValueTree)
put i v [] = []
put zero v (o ∷ os) = Some v ∷ os
put (suc i) v (o ∷ os) = o ∷ put i v os

-- the text of a member that is known
abbrev text_in : Fields → List (Option ValueTree) → ℕ → List ℕ
text_in no_fields os i = []
text_in (field f fs) [] i = []
text_in (field f fs) (None ∷ os) zero = []
text_in (field f fs) (Some v ∷ os) zero = key_in (slot_of f) ++ compact_text (field_json f v)
text_in (field f fs) (o ∷ os) (suc i) = text_in fs os i

abbrev IsKnown : List (Option ValueTree) → ℕ → Type 0
IsKnown [] i = ⊥
IsKnown (None ∷ os) zero = ⊥
IsKnown (Some v ∷ os) zero = Unit {0}
IsKnown (o ∷ os) (suc i) = IsKnown os i

holds_more : (f : Field) (s : Option Span) (o : Option ValueTree) (ts us : List Token) → Holds f s o ts → Holds f s o (ts ++ us)
holds_more f None None ts us h = tt
holds_more f None (Some v) ts us h = absurd h
holds_more f (Some s) None ts us h = absurd h
holds_more f (Some s) (Some v) ts us h =
    let n = length-append ts us in
    (h.0, (part_kept ts us s.from s.to h.1.1.0 h.1.1.1 ∙ h.1.0, (h.1.1.0, omega (arith, n, h.1.1.1))))

hold_more : (fs : Fields) (ss : List (Option Span)) (os : List (Option ValueTree)) (ts us : List Token) → HoldEach fs ss os ts → HoldEach fs ss os (ts ++ us)
hold_more no_fields [] [] ts us h = tt
hold_more no_fields [] (o ∷ os) ts us h = absurd h
hold_more no_fields (s ∷ ss) os ts us h = absurd h
hold_more (field f fs) [] os ts us h = absurd h
hold_more (field f fs) (s ∷ ss) [] ts us h = absurd h
hold_more (field f fs) (s ∷ ss) (o ∷ os) ts us h = (holds_more f s o ts us h.0, hold_more fs ss os ts us h.1)

-- one more is known
module _ (v : ValueTree) (ts : List Token) (s : Span) (from : s.from ≡ length ts) (to : s.to ≡ length (ts ++ tokens v)) where
  hold_put : (fs : Fields) (ss : List (Option Span)) (os : List (Option ValueTree)) (i : ℕ) → HoldEach fs ss os ts → fits_at fs i v ≡ true → HoldEach fs (slice_set ss i (Some s)) (put i v os) (ts ++ tokens v)
  hold_put no_fields ss os i h fit = absurd (true≢false (sym fit))
  hold_put (field f fs) [] os i h fit = absurd h
  hold_put (field f fs) (r ∷ ss) [] i h fit = absurd h
  hold_put (field f fs) (r ∷ ss) (o ∷ os) zero h fit =
      let n = length-append ts (tokens v) in
      ((fit, (ap₂ (slice_range (ts ++ tokens v)) from to ∙ part_last ts (tokens v), (omega (arith, n, from, to), omega (arith, to)))), hold_more fs ss os ts (tokens v) h.1)
  hold_put (field f fs) (r ∷ ss) (o ∷ os) (suc i) h fit = (holds_more f r o ts (tokens v) h.0, hold_put fs ss os i h.1 fit)

text_put : (fs : Fields) (ss : List (Option Span)) (os : List (Option ValueTree)) (ts : List Token) (i : ℕ) (v : ValueTree) → HoldEach fs ss os ts → fits_at fs i v ≡ true → (text_in fs (put i v os) i ≡ member_text fs i v) × IsKnown (put i v os) i
text_put no_fields ss os ts i v h fit = absurd (true≢false (sym fit))
text_put (field f fs) [] os ts i v h fit = absurd h
text_put (field f fs) (r ∷ ss) [] ts i v h fit = absurd h
text_put (field f fs) (r ∷ ss) (o ∷ os) ts zero v h fit = (refl, tt)
text_put (field f fs) (r ∷ ss) (None ∷ os) ts (suc i) v h fit = text_put fs ss os ts i v h.1 fit
text_put (field f fs) (r ∷ ss) (Some w ∷ os) ts (suc i) v h fit = text_put fs ss os ts i v h.1 fit

-- and the others stay
text_kept : (fs : Fields) (ss : List (Option Span)) (os : List (Option ValueTree)) (ts : List Token) (i : ℕ) (v : ValueTree) (j : ℕ) → HoldEach fs ss os ts → get_or ss i None ≡ None → IsKnown os j
    → (text_in fs (put i v os) j ≡ text_in fs os j) × IsKnown (put i v os) j
text_kept fs ss [] ts i v j h none known = absurd known
text_kept no_fields [] (o ∷ os) ts i v j h none known = absurd h
text_kept no_fields (s ∷ ss) (o ∷ os) ts i v j h none known = absurd h
text_kept (field f fs) [] (o ∷ os) ts i v j h none known = absurd h
text_kept (field f fs) (None ∷ ss) (Some w ∷ os) ts zero v j h none known = absurd h.0
text_kept (field f fs) (Some s ∷ ss) (o ∷ os) ts zero v j h none known = absurd (cc)
text_kept (field f fs) (None ∷ ss) (None ∷ os) ts zero v zero h none known = absurd known
text_kept (field f fs) (None ∷ ss) (None ∷ os) ts zero v (suc j) h none known = (refl, known)
text_kept (field f fs) (s ∷ ss) (None ∷ os) ts (suc i) v zero h none known = absurd known
text_kept (field f fs) (s ∷ ss) (Some w ∷ os) ts (suc i) v zero h none known = (refl, tt)
text_kept (field f fs) (s ∷ ss) (None ∷ os) ts (suc i) v (suc j) h none known = text_kept fs ss os ts i v j h.1 none known
text_kept (field f fs) (s ∷ ss) (Some w ∷ os) ts (suc i) v (suc j) h none known = text_kept fs ss os ts i v j h.1 none known

texts_kept : (fs : Fields) (ss : List (Option Span)) (os : List (Option ValueTree)) (ts : List Token) (i : ℕ) (v : ValueTree) (js : List ℕ) → HoldEach fs ss os ts → get_or ss i None ≡ None → AllByRecursion (IsKnown os) js
    → (flat_map (text_in fs (put i v os)) js ≡ flat_map (text_in fs os) js) × AllByRecursion (IsKnown (put i v os)) js
texts_kept fs ss os ts i v [] h none known = (refl, tt)
texts_kept fs ss os ts i v (j ∷ js) h none known =
    let here = text_kept fs ss os ts i v j h none known.0 in
    let rest = texts_kept fs ss os ts i v js h none known.1 in
    (ap₂ (λ (a b : List ℕ). a ++ b) here.0 rest.0, (here.1, rest.1))

all_one : (P : ℕ → Type 0) (js : List ℕ) (j : ℕ) → AllByRecursion P js → P j → AllByRecursion P (js ++ j ∷ [])
all_one P [] j h p = (p, tt)
all_one P (k ∷ js) j h p = (h.0, all_one P js j h.1 p)

-- ---- the members in the order of the fields

all_one_more : (ss : List (Option Span)) (s : Option Span) → AllByRecursion IsSpan ss → IsSpan s → AllByRecursion IsSpan (ss ++ s ∷ [])
all_one_more [] s h p = (p, tt)
all_one_more (r ∷ ss) s h p = (h.0, all_one_more ss s h.1 p)

-- one member more
pub span_put : (read : List Piece) (ss : List (Option Span)) (i : ℕ) (d : Option Span) (ks ls ms : List Piece) → i < length ss → AllByRecursion IsSpan (take i ss) × Grows ks ls (flat_map (span_tokens read) (take i ss)) → IsSpan (get_or ss i d) → Grows ls ms (span_tokens read (get_or ss i d))
    → AllByRecursion IsSpan (take (i + 1) ss) × Grows ks ms (flat_map (span_tokens read) (take (i + 1) ss))
span_put read ss i d ks ls ms lt so there grown =
    let f = span_tokens read in
    let s = get_or ss i d in
    let split = take_more ss i d lt in
    let said : flat_map f (take (i + 1) ss) ≡ flat_map f (take i ss) ++ f s = ap (flat_map f) split ∙ flat_map-append f (take i ss) (s ∷ []) ∙ ap (λ x. flat_map f (take i ss) ++ x) (append-nil (f s)) in
    (subst (AllByRecursion IsSpan) (sym split) (all_one_more (take i ss) s so.0 there), grows_then ks ls ms (flat_map f (take i ss)) (f s) so.1 grown ∙ ap (λ x. tokens_of ks ++ x) (sym said))

-- ---- the loop over the members

at_field : (fs : List CodeField) (i : ℕ) (f : CodeField) (v : ValueTree) → i < length fs → f ≡ get_or fs i f → (fits_at (field_views fs) i v ≡ fits (field_view f) v) × (member_text (field_views fs) i v ≡ key_in (slot_of (field_view f)) ++ compact_text (field_json (field_view f) v))
at_field [] i f v less is = absurd (omega (arith, less))
at_field (g ∷ fs) zero f v less is = (ap (λ x. fits (field_view x) v) (sym is), ap (λ x. key_in (slot_of (field_view x)) ++ compact_text (field_json (field_view x) v)) (sym is))
at_field (g ∷ fs) (suc i) f v less is = at_field fs i f v (omega (arith, less)) is

pub member_read : (fs : List CodeField) (i : ℕ) (f : CodeField) (is_first : Bool) (old key : List ℕ) (mid new : Cursor) (ks ls : List Piece) (before after : List (Option Span)) (m n : ℕ) → i < length fs → f ≡ get_or fs i f → key ≡ key_in (slot_of (field_view f))
    → with_comma is_first old ≡ key ++ rest_of mid → IsRead (fits (field_view f)) (field_json (field_view f)) mid new ks ls → m ≡ length ks → n ≡ length ls → IsNoted before i (record { from = m; to = n }) after → IsMemberRead (field_views fs) i is_first old (rest_of new) ks ls before after
member_read fs i f is_first old key mid new ks ls before after m n less is named there read from to noted =
    let v = read.0 in
    let w = at_field fs i f v less is in
    let k = key_in (slot_of (field_view f)) in
    let t = compact_text (field_json (field_view f) v) in
    let text : with_comma is_first old ≡ member_text (field_views fs) i v ++ rest_of new = there ∙ ap₂ (λ (a b : List ℕ). a ++ b) named read.1.0.1 ∙ sym (append_assoc k t (rest_of new)) ∙ ap (λ x. x ++ rest_of new) (sym w.1) in
    (v, (w.0 ∙ read.1.0.0, (text, (read.1.1, subst (λ x. IsNoted before i (record { from = x; to = length ls }) after) from (subst (λ x. IsNoted before i (record { from = m; to = x }) after) to noted)))))

-- the members of these indices were read
abbrev pub NamesGo : Fields → List ℕ → List ℕ → Bool → List ℕ → List Piece → List (Option Span) → Type 0
NamesGo fs first js is_first rest read spans =
    (os : List (Option ValueTree)) × (HoldEach fs spans os (tokens_of read) × ((44 ∷ first ≡ flat_map (text_in fs os) js ++ with_comma is_first rest) × AllByRecursion (IsKnown os) js))

abbrev nones : List CodeField → List (Option ValueTree)
nones [] = []
nones (f ∷ fs) = None ∷ nones fs

none_hold : (fs : List CodeField) (ts : List Token) → HoldEach (field_views fs) (replicate (length fs) None) (nones fs) ts
none_hold [] ts = tt
none_hold (f ∷ fs) ts = (tt, none_hold fs ts)

pub names_begin : (fs : List CodeField) (first : List ℕ) (read : List Piece) (spans : List (Option Span)) → spans ≡ replicate (length fs) None → NamesGo (field_views fs) first [] true first read spans
names_begin fs first read spans none = (nones fs, (subst (λ ss. HoldEach (field_views fs) ss (nones fs) (tokens_of read)) (sym none) (none_hold fs (tokens_of read)), (refl, tt)))

pub names_turn : (fs : Fields) (first js : List ℕ) (j : ℕ) (is_first : Bool) (rest new : List ℕ) (ks bs : List Piece) (before after : List (Option Span)) → NamesGo fs first js is_first rest ks before → IsMemberRead fs j is_first rest new ks bs before after
    → NamesGo fs first (js ++ j ∷ []) false new bs after
names_turn fs first js j is_first rest new ks bs before after so h =
    let os = so.0 in
    let v = h.0 in
    let ts = tokens_of ks in
    let fit = h.1.0 in
    let grown : tokens_of bs ≡ ts ++ tokens v = h.1.1.1.0 in
    let noted = h.1.1.1.1 in
    let s : Span = record { from = length ks; to = length bs } in
    let from : s.from ≡ length ts = sym (length-map ks token_of) in
    let to : s.to ≡ length (ts ++ tokens v) = sym (length-map bs token_of) ∙ ap length grown in
    let held : HoldEach fs (slice_set before j (Some s)) (put j v os) (ts ++ tokens v) = hold_put v ts s from to fs before os j so.1.0 fit in
    let kept = texts_kept fs before os ts j v js so.1.0 noted.1.0 so.1.1.1 in
    let here = text_put fs before os ts j v so.1.0 fit in
    let f = text_in fs (put j v os) in
    let said : flat_map f (js ++ j ∷ []) ≡ flat_map (text_in fs os) js ++ member_text fs j v =
    flat_map-append f js (j ∷ []) ∙ ap₂ (λ (a b : List ℕ). a ++ b) kept.0 (append-nil (f j) ∙ here.0) in
    let text : 44 ∷ first ≡ flat_map f (js ++ j ∷ []) ++ new =
    so.1.1.0 ∙ ap (λ x. flat_map (text_in fs os) js ++ x) h.1.1.0 ∙ sym (append_assoc (flat_map (text_in fs os) js) (member_text fs j v) new) ∙ ap (λ x. x ++ new) (sym said) in
    (put j v os, (subst (λ ss. HoldEach fs ss (put j v os) (tokens_of bs)) (sym noted.1.1) (subst (HoldEach fs (slice_set before j (Some s)) (put j v os)) (sym grown) held), (text, all_one (IsKnown (put j v os)) js j kept.1 here.1)))

-- what all members are
abbrev Whole : Fields → List (Option Span) → List (Option ValueTree) → List Piece → ValueTrees → Type 0
Whole fs ss os read vs = (fits_each fs vs ≡ true) × ((flat_map (span_tokens read) ss ≡ tokens_each vs) × ((j : ℕ) → text_in fs os j ≡ nth (pieces fs vs) j))

text_next : (f : Field) (fs : Fields) (v : ValueTree) (vs : ValueTrees) (os : List (Option ValueTree)) → ((j : ℕ) → text_in fs os j ≡ nth (pieces fs vs) j) → (j : ℕ) → text_in (field f fs) (Some v ∷ os) j ≡ nth (pieces (field f fs) (value v vs)) j
text_next f fs v vs os h zero = refl
text_next f fs v vs os h (suc j) = h j

whole : (fs : Fields) (ss : List (Option Span)) (os : List (Option ValueTree)) (read : List Piece) → HoldEach fs ss os (tokens_of read) → AllByRecursion IsSpan ss → (vs : ValueTrees) × Whole fs ss os read vs
whole no_fields [] [] read h all = (no_values, (refl, (refl, λ j. refl)))
whole no_fields [] (o ∷ os) read h all = absurd h
whole no_fields (s ∷ ss) os read h all = absurd h
whole (field f fs) [] os read h all = absurd h
whole (field f fs) (s ∷ ss) [] read h all = absurd h
whole (field f fs) (None ∷ ss) (o ∷ os) read h all = absurd all.0
whole (field f fs) (Some s ∷ ss) (None ∷ os) read h all = absurd h.0
whole (field f fs) (Some s ∷ ss) (Some v ∷ os) read h all =
    let r = whole fs ss os read h.1 all.1 in
    (value v r.0, (both (fits f v) (fits_each fs r.0) h.0.0 r.1.0, (ap₂ (λ (a b : List Token). a ++ b) (part_tokens read s ∙ h.0.1.0) r.1.1.0, text_next f fs v r.0 os r.1.1.1)))

pub names_end : (fs : Fields) (first js rest : List ℕ) (is_first : Bool) (read : List Piece) (spans : List (Option Span)) (ks bs : List Piece) → NamesGo fs first js is_first rest read spans → is_first ≡ false → js ≡ indices_of fs → AllByRecursion IsSpan spans × Grows ks bs (flat_map (span_tokens read) spans)
    → AreRead (fits_each fs) (λ vs. open_text (members_json fs vs)) (44 ∷ first) rest ks bs
names_end fs first js rest is_first read spans ks bs so later is added =
    let os = so.0 in
    let w = whole fs spans os read so.1.0 added.0 in
    let vs = w.0 in
    let said : flat_map (text_in fs os) js ≡ open_text (members_json fs vs) = flat_same (text_in fs os) (nth (pieces fs vs)) w.1.1.1 js ∙ ap (flat_map (nth (pieces fs vs))) is ∙ pieces_ordered false fs vs w.1.0 in
    let end : with_comma is_first rest ≡ rest = ap (λ b. with_comma b rest) later in
    (vs, (w.1.0, (so.1.1.0 ∙ ap₂ (λ (a b : List ℕ). a ++ b) said end, added.1 ∙ ap (λ x. tokens_of ks ++ x) w.1.1.0)))

-- ---- two members of which the second stands first

pub longer : (ks bs : List Piece) (ts : List Token) → Grows ks bs ts → length ks ≤ length bs
longer ks bs ts grown =
    let k = length-map ks token_of in
    let b = length-map bs token_of in
    let both : length (tokens_of bs) ≡ length (tokens_of ks) + length ts = ap length grown ∙ length-append (tokens_of ks) ts in
    omega (arith, k, b, both)

module _ (p q r : List Piece) (ts us : List Token) (first : Grows p q ts) (second : Grows q r us) where
  front_kept : tokens_of (take (length p) r) ≡ tokens_of p
  front_kept =
      let n : length p ≡ length (tokens_of p) = sym (length-map p token_of) in
      let whole : tokens_of r ≡ tokens_of p ++ (ts ++ us) = second ∙ ap (λ x. x ++ us) first ∙ append_assoc (tokens_of p) ts us in
      mapped_take (length p) r ∙ ap₂ (λ (k : ℕ) (x : List Token). take k x) n whole ∙ take-append_seam (tokens_of p) (ts ++ us)

  exchange_grows : (s t : Span) → s.from ≡ length q → s.to ≡ length r → t.from ≡ length p → t.to ≡ length q → Grows p (exchanged (length p) (length q) r) (flat_map (span_tokens r) (Some s ∷ Some t ∷ []))
  exchange_grows s t sf st tf to =
      let later = drop (length q) r in
      let earlier = slice_range r (length p) (length q) in
      let long : length later ≤ length r - length q = let e = length-drop (length q) r in omega (arith, e) in
      let all : slice_range r s.from s.to ≡ later = ap₂ (slice_range r) sf st ∙ take_all (length r - length q) later long in
      let same : slice_range r t.from t.to ≡ earlier = ap₂ (slice_range r) tf to in
      let parts : tokens_of (later ++ earlier) ≡ tokens_of later ++ tokens_of earlier = map-append token_of later earlier in
      let split : tokens_of (exchanged (length p) (length q) r) ≡ tokens_of (take (length p) r) ++ tokens_of (later ++ earlier) = map-append token_of (take (length p) r) (later ++ earlier) in
      split ∙ ap₂ (λ (x y : List Token). x ++ y) front_kept (parts ∙ sym (ap₂ (λ (x y : List Token). x ++ y) (ap tokens_of all) (append-nil (tokens_of (slice_range r t.from t.to)) ∙ ap tokens_of same)))

two_read : (a b : CodeField) (first : List ℕ) (c d e f : Cursor) (p q r : List Piece) → indices_of (field_views (a ∷ b ∷ [])) ≡ 1 ∷ 0 ∷ []
    → with_comma true first ≡ key_in (slot_of (field_view b)) ++ rest_of c → IsRead (fits (field_view b)) (field_json (field_view b)) c d p q
    → with_comma false (rest_of d) ≡ key_in (slot_of (field_view a)) ++ rest_of e → IsRead (fits (field_view a)) (field_json (field_view a)) e f q r
    → AreRead (fits_each (field_views (a ∷ b ∷ []))) (λ vs. open_text (members_json (field_views (a ∷ b ∷ [])) vs)) (44 ∷ first) (rest_of f) p (exchanged (length p) (length q) r)
two_read a b first c d e f p q r order named_b read_b named_a read_a =
    let fs = a ∷ b ∷ [] in
    let views = field_views fs in
    let s : Span = record { from = length q; to = length r } in
    let t : Span = record { from = length p; to = length q } in
    let none : List (Option Span) = None ∷ None ∷ [] in
    let one : List (Option Span) = None ∷ Some t ∷ [] in
    let two : List (Option Span) = Some s ∷ Some t ∷ [] in
    let begun : NamesGo views first [] true first p none = names_begin fs first p none refl in
    let noted_b : IsNoted none 1 t one = (omega arith, (refl, refl)) in
    let noted_a : IsNoted one 0 s two = (omega arith, (refl, refl)) in
    let turn_b : IsMemberRead views 1 true first (rest_of d) p q none one = member_read fs 1 b true first (key_in (slot_of (field_view b))) c d p q none one (length p) (length q) (omega arith) refl refl named_b read_b refl refl noted_b in
    let turn_a : IsMemberRead views 0 false (rest_of d) (rest_of f) q r one two = member_read fs 0 a false (rest_of d) (key_in (slot_of (field_view a))) e f q r one two (length q) (length r) (omega arith) refl refl named_a read_a refl refl noted_a in
    let known : NamesGo views first (1 ∷ 0 ∷ []) false (rest_of f) r two =
    names_turn views first (1 ∷ []) 0 false (rest_of d) (rest_of f) q r one two (names_turn views first [] 1 true first (rest_of d) p q none one begun turn_b) turn_a in
    let grown : Grows p (exchanged (length p) (length q) r) (flat_map (span_tokens r) two) =
    exchange_grows p q r (tokens read_b.0) (tokens read_a.0) read_b.1.1 read_a.1.1 s t refl refl refl refl in
    names_end views first (1 ∷ 0 ∷ []) (rest_of f) false r two p (exchanged (length p) (length q) r) known refl (sym order) ((tt, (tt, tt)), grown)

pub two_exchanged : (fs : List CodeField) (a b : CodeField) (first k l : List ℕ) (c d e f : Cursor) (p q r o : List Piece) → fs ≡ a ∷ b ∷ [] → indices_of (field_views fs) ≡ 1 ∷ 0 ∷ [] → l ≡ key_in (slot_of (field_view b)) → k ≡ key_in (slot_of (field_view a))
    → with_comma true first ≡ l ++ rest_of c → IsRead (fits (field_view b)) (field_json (field_view b)) c d p q
    → with_comma false (rest_of d) ≡ k ++ rest_of e → IsRead (fits (field_view a)) (field_json (field_view a)) e f q r
    → o ≡ exchanged (length p) (length q) r
    → AreRead (fits_each (field_views fs)) (λ vs. open_text (members_json (field_views fs) vs)) (44 ∷ first) (rest_of f) p o
two_exchanged fs a b first k l c d e f p q r o is order right left named_b read_b named_a read_a put =
    let said = two_read a b first c d e f p q r (subst (λ xs. indices_of (field_views xs) ≡ 1 ∷ 0 ∷ []) is order) (named_b ∙ ap (λ x. x ++ rest_of c) right) read_b (named_a ∙ ap (λ x. x ++ rest_of e) left) read_a in
    subst (λ xs. AreRead (fits_each (field_views xs)) (λ vs. open_text (members_json (field_views xs) vs)) (44 ∷ first) (rest_of f) p o) (sym is) (subst (λ x. AreRead (fits_each (field_views (a ∷ b ∷ []))) (λ vs. open_text (members_json (field_views (a ∷ b ∷ [])) vs)) (44 ∷ first) (rest_of f) p x) (sym put) said)
