-- The members of an object that were read so far, while its members are read.
use Rattle.std.proofs.Common.{◌≡◌, ℕ, zero, suc, ◌+◌, ◌-◌, ◌<◌, ◌≤◌, List, [], ◌∷◌, ◌++◌, length, take, drop, get_or, Bool, true, true≢false, Option, Some, None, Ordering, Less, Equal, Greater, nat_cmp, refl, sym, ap, ap₂, subst, ◌∙◌, arith}
use Rattle.std.specs.Prelude.{slice_range, slice_set, replicate}
use Rattle.std.specs.List.{AllByRecursion}
use Rattle.std.specs.Cmp.Lexicographic.{slice_cmp}
use Rattle.std.specs.Ordering.{match_ordering}
use Rattle.std.proofs.Math.Seq.{drop-append_seam, take-add}
use Rattle.std.proofs.lemmas.Cmp.{nat_list_cmp_total, tied_itself}
use Rattle.std.proofs.lemmas.List.{length-append, take-append-le, drop-append-le, take_all, length-drop, drop-drop}
use Rattle.std.proofs.lemmas.Map.Lookups.{exact_bytes}
use Rattle.std.proofs.lemmas.Bool.{and_parts as and_true}
use Rattle.serde_json.specs.Data.{Data, Members, no_members, member, put}
use Rattle.serde_json.specs.Find.{get_member}
use Rattle.serde_json.proofs.Views.{get_member-put, get_member-put_other}
use Rattle.schema.specs.declared.value.Repetition.{Repetition}
use Rattle.schema.specs.declared.value.Repetition.TheVariants.{Required, Optional, Repeated}
use Rattle.schema.specs.declared.field.Field.{Field as CodeField}
use Rattle.schema.specs.Law.{names, AllDiffer, IsValid, AreValid}
use Rattle.schema.specs.Values.{ValueTree, null, list, ValueTrees, no_values, value}
use Rattle.schema.specs.Shape.{Field, leaf, fields, Fields, no_fields, field, name_of, repetition_of}
use Rattle.schema.specs.Views.{field_view, field_views}
use Rattle.assemble.specs.Sinks.{Token, tokens, tokens_each}
use Rattle.rowtext.specs.Reading.{value_before, read_as, without, field_read_as, members_read_as}
use Rattle.rowtext.specs.declared.spans.Span.{Span}
use Rattle.rowtext.specs.inner.Fill.{IsCalled}
use Rattle.rowtext.specs.inner.Spans.{absent_tokens, may_lack, is_there, are_there, AreJoined, read_at}
use Rattle.rowtext.proofs.JsonTexts.{IsBefore, AreInOrder}
use Rattle.rowtext.proofs.RowJson.{before_further}

-- ---- members of other names

either : (o : Ordering) (a b : Members) → (o ≡ Equal → ⊥) → match_ordering o a b a ≡ a
either Less a b h = refl
either Equal a b h = absurd (h refl)
either Greater a b h = refl

without-other : (k l : List ℕ) (d : Data) (ms : Members) → (k ≡ l → ⊥) → without k (member l d ms) ≡ member l d (without k ms)
without-other k l d ms other = either (slice_cmp nat_cmp k l) (member l d (without k ms)) ms (λ h. other (exact_bytes k l h))

without-same : (k : List ℕ) (d : Data) (ms : Members) → without k (member k d ms) ≡ ms
without-same k d ms = rw (tied_itself nat_list_cmp_total k) refl

-- a name before all others is not among them
without-before : (k : List ℕ) (ms : Members) → IsBefore k ms → without k ms ≡ ms
without-before k no_members h = refl
without-before k (member l d ms) h = rw h.0 (ap (member l d) (without-before k ms h.1))

without-put_at : (o : Ordering) (k l : List ℕ) (d e : Data) (ms : Members) → slice_cmp nat_cmp k l ≡ o → AreInOrder (member l e ms) → without k (put k d ms) ≡ without k ms
    → without k (match_ordering o (member k d (member l e ms)) (member l d ms) (member l e (put k d ms))) ≡ without k (member l e ms)
without-put_at Less k l d e ms is h later = without-same k d (member l e ms) ∙ sym (without-before k (member l e ms) (is, before_further k l ms is h.0))
without-put_at Equal k l d e ms is h later = rw is refl
without-put_at Greater k l d e ms is h later = rw is (ap (member l e) later)

-- a member that is put in is taken out again
without-put_same : (k : List ℕ) (d : Data) (ms : Members) → AreInOrder ms → without k (put k d ms) ≡ without k ms
without-put_same k d no_members h = without-same k d no_members
without-put_same k d (member l e ms) h = without-put_at (slice_cmp nat_cmp k l) k l d e ms refl h (without-put_same k d ms h.1)

put_before : (k : List ℕ) (d : Data) (ms : Members) → IsBefore k ms → put k d ms ≡ member k d ms
put_before k d no_members h = refl
put_before k d (member l e ms) h = rw h.0 refl

left_at : (o : Ordering) (k l : List ℕ) (d : Data) (ms rest : Members) → IsBefore k (member l d ms) → IsBefore k rest → IsBefore k (match_ordering o (member l d rest) ms (member l d rest))
left_at Less k l d ms rest h later = (h.0, later)
left_at Equal k l d ms rest h later = h.1
left_at Greater k l d ms rest h later = (h.0, later)

before_without : (k q : List ℕ) (ms : Members) → IsBefore k ms → IsBefore k (without q ms)
before_without k q no_members h = tt
before_without k q (member l d ms) h = left_at (slice_cmp nat_cmp q l) k l d ms (without q ms) h (before_without k q ms h.1)

order_left : (o : Ordering) (l : List ℕ) (d : Data) (ms rest : Members) → AreInOrder ms → IsBefore l rest → AreInOrder rest → AreInOrder (match_ordering o (member l d rest) ms (member l d rest))
order_left Less l d ms rest h before later = (before, later)
order_left Equal l d ms rest h before later = h
order_left Greater l d ms rest h before later = (before, later)

order_without : (q : List ℕ) (ms : Members) → AreInOrder ms → AreInOrder (without q ms)
order_without q no_members h = tt
order_without q (member l d ms) h = order_left (slice_cmp nat_cmp q l) l d ms (without q ms) h.1 (before_without l q ms h.0) (order_without q ms h.1)

past_at : (o : Ordering) (q k l : List ℕ) (d e : Data) (ms : Members) → slice_cmp nat_cmp q l ≡ o → slice_cmp nat_cmp k l ≡ Greater → without q (put k d ms) ≡ put k d (without q ms)
    → match_ordering o (member l e (without q (put k d ms))) (put k d ms) (member l e (without q (put k d ms))) ≡ put k d (match_ordering o (member l e (without q ms)) ms (member l e (without q ms)))
past_at Less q k l d e ms is further later = ap (member l e) later ∙ sym (rw further refl)
past_at Equal q k l d e ms is further later = refl
past_at Greater q k l d e ms is further later = ap (member l e) later ∙ sym (rw further refl)

without-put_other_at : (o : Ordering) (q k l : List ℕ) (d e : Data) (ms : Members) → slice_cmp nat_cmp k l ≡ o → (q ≡ k → ⊥) → AreInOrder (member l e ms) → without q (put k d ms) ≡ put k d (without q ms)
    → without q (match_ordering o (member k d (member l e ms)) (member l d ms) (member l e (put k d ms))) ≡ put k d (without q (member l e ms))
without-put_other_at Less q k l d e ms is other h later =
    without-other q k d (member l e ms) other ∙ sym (put_before k d (without q (member l e ms)) (before_without k q (member l e ms) (is, before_further k l ms is h.0)))
without-put_other_at Equal q k l d e ms is other h later =
    let apart = λ (x : q ≡ l). other (x ∙ sym (exact_bytes k l is)) in
    without-other q l d ms apart ∙ sym (ap (put k d) (without-other q l e ms apart) ∙ rw is refl)
without-put_other_at Greater q k l d e ms is other h later = past_at (slice_cmp nat_cmp q l) q k l d e ms refl is later

-- a member that is put in leaves the others
without-put_other : (q k : List ℕ) (d : Data) (ms : Members) → (q ≡ k → ⊥) → AreInOrder ms → without q (put k d ms) ≡ put k d (without q ms)
without-put_other q k d no_members other h = without-other q k d no_members other
without-put_other q k d (member l e ms) other h = without-put_other_at (slice_cmp nat_cmp k l) q k l d e ms refl other h (without-put_other q k d ms other h.1)

-- ---- fields by their index

pub valid_there : (fs : List CodeField) (i : ℕ) (f : CodeField) → i < length fs → f ≡ get_or fs i f → AreValid (field_views fs) → IsValid (field_view f)
valid_there [] i f less is valid = absurd (omega (arith, less))
valid_there (g ∷ fs) zero f less is valid = subst (λ x. IsValid (field_view x)) (sym is) valid.0
valid_there (g ∷ fs) (suc i) f less is valid = valid_there fs i f (omega (arith, less)) is valid.1

-- the field of an index, and its name
pub called_there : (fs : List CodeField) (i : ℕ) (f : CodeField) → i < length fs → f ≡ get_or fs i f → IsCalled (field_views fs) i (name_of (field_view f))
called_there [] i f less is = absurd (omega (arith, less))
called_there (g ∷ fs) zero f less is = ap (λ x. name_of (field_view x)) (sym is)
called_there (g ∷ fs) (suc i) f less is = called_there fs i f (omega (arith, less)) is

apart : (fs : Fields) (i : ℕ) (k n : List ℕ) → IsCalled fs i k → AllByRecursion (λ m. n ≡ m → ⊥) (names fs) → n ≡ k → ⊥
apart no_fields i k n h differ same = h
apart (field f fs) zero k n h differ same = differ.0 (same ∙ sym h)
apart (field f fs) (suc i) k n h differ same = apart fs i k n h differ.1 same

-- ---- parts of lists

part_kept : (ks bs : List Token) (m n : ℕ) → m ≤ n → n ≤ length ks → slice_range (ks ++ bs) m n ≡ slice_range ks m n
part_kept ks bs m n le room =
    let long : n - m ≤ length (drop m ks) = let e = length-drop m ks in omega (arith, e, le, room) in
    ap (take (n - m)) (drop-append-le m ks bs (omega (arith, le, room))) ∙ take-append-le (n - m) (drop m ks) bs long

pub part_last : (ks bs : List Token) → slice_range (ks ++ bs) (length ks) (length (ks ++ bs)) ≡ bs
part_last ks bs =
    let long : length bs ≤ length (ks ++ bs) - length ks = let e = length-append ks bs in omega (arith, e) in
    ap (take (length (ks ++ bs) - length ks)) (drop-append_seam ks bs) ∙ take_all (length (ks ++ bs) - length ks) bs long

parts_meet : (xs : List Token) (m n p : ℕ) → m ≤ n → n ≤ p → slice_range xs m n ++ slice_range xs n p ≡ slice_range xs m p
parts_meet xs m n p le more =
    let split : m + (n - m) ≡ n = omega (arith, le) in
    let whole : (n - m) + (p - n) ≡ p - m = omega (arith, le, more) in
    let later : drop n xs ≡ drop (n - m) (drop m xs) = sym (drop-drop (n - m) m xs ∙ ap (λ k. drop k xs) split) in
    ap (λ ys. take (n - m) (drop m xs) ++ take (p - n) ys) later ∙ sym (take-add (n - m) (p - n) (drop m xs)) ∙ ap (λ k. take k (drop m xs)) whole

no_part : (xs : List Token) (m n : ℕ) → m ≡ n → slice_range xs m n ≡ []
no_part xs m n is = let none : n - m ≡ 0 = omega (arith, is) in ap (λ k. take k (drop m xs)) none

-- what a sink is shown of members, by where their tokens are
abbrev part_in : Field → List Token → Option Span → List Token
part_in f ts None = absent_tokens (repetition_of f)
part_in f ts (Some s) = slice_range ts s.from s.to

abbrev pub parts_in : Fields → List Token → List (Option Span) → List Token
parts_in (field f fs) ts (s ∷ ss) = part_in f ts s ++ parts_in fs ts ss
parts_in _ ts _ = []

-- ---- what is known so far

module _ (texts : Bool) where
  -- the member is read as a value, whose tokens are those of its span
  abbrev Holds : Field → Option Data → Option Span → List Token → Type 0
  Holds f None None ts = Unit {0}
  Holds f (Some d) (Some s) ts = (v : ValueTree) × (field_read_as texts f (Some d) ≡ Some v) × (slice_range ts s.from s.to ≡ tokens v) × (s.from ≤ s.to) × (s.to ≤ length ts)
  Holds f None (Some s) ts = ⊥
  Holds f (Some d) None ts = ⊥

  -- each member is of a field
  abbrev pub HoldEach : Fields → Members → List (Option Span) → List Token → Type 0
  HoldEach no_fields ms [] ts = ms ≡ no_members
  HoldEach (field f fs) ms (s ∷ ss) ts = Holds f (get_member (name_of f) ms) s ts × HoldEach fs (without (name_of f) ms) ss ts
  HoldEach _ ms _ ts = ⊥

  holds_more : (f : Field) (o : Option Data) (s : Option Span) (ts us : List Token) → Holds f o s ts → Holds f o s (ts ++ us)
  holds_more f None None ts us h = tt
  holds_more f None (Some s) ts us h = absurd h
  holds_more f (Some d) None ts us h = absurd h
  holds_more f (Some d) (Some s) ts us h =
      let n = length-append ts us in
      (h.0, h.1, part_kept ts us s.from s.to h.3 h.4 ∙ h.2, h.3, omega (arith, n, h.4))

  hold_more : (fs : Fields) (ms : Members) (ss : List (Option Span)) (ts us : List Token) → HoldEach fs ms ss ts → HoldEach fs ms ss (ts ++ us)
  hold_more no_fields ms [] ts us h = h
  hold_more no_fields ms (s ∷ ss) ts us h = absurd h
  hold_more (field f fs) ms [] ts us h = absurd h
  hold_more (field f fs) ms (s ∷ ss) ts us h = (holds_more f (get_member (name_of f) ms) s ts us h.0, hold_more fs (without (name_of f) ms) ss ts us h.1)

  -- no member was read
  pub hold_none : (fs : List CodeField) (ts : List Token) → HoldEach (field_views fs) no_members (replicate (length fs) None) ts
  hold_none [] ts = refl
  hold_none (f ∷ fs) ts = (tt, hold_none fs ts)

  -- one more was read
  module _ (v : ValueTree) (ts : List Token) (s : Span) (from : s.from ≡ length ts) (to : s.to ≡ length (ts ++ tokens v)) where
    pub hold_put : (fs : Fields) (ms : Members) (ss : List (Option Span)) (i : ℕ) (k : List ℕ) (d : Data) → IsCalled fs i k → AllDiffer (names fs) → AreInOrder ms → read_at texts fs i d ≡ Some v
        → HoldEach fs ms ss ts → HoldEach fs (put k d ms) (slice_set ss i (Some s)) (ts ++ tokens v)
    hold_put no_fields ms ss i k d called differ order read h = absurd called
    hold_put (field f fs) ms [] i k d called differ order read h = absurd h
    hold_put (field f fs) ms (r ∷ ss) zero k d called differ order read h =
        let n = name_of f in
        let found : get_member n (put k d ms) ≡ Some d = ap (λ x. get_member x (put k d ms)) called ∙ get_member-put k d ms in
        let rest : without n (put k d ms) ≡ without n ms = ap (λ x. without x (put k d ms)) called ∙ without-put_same k d ms order ∙ ap (λ x. without x ms) (sym called) in
        let long = length-append ts (tokens v) in
        let here : Holds f (Some d) (Some s) (ts ++ tokens v) = (v, read, ap₂ (slice_range (ts ++ tokens v)) from to ∙ part_last ts (tokens v), omega (arith, long, from, to), omega (arith, to)) in (
          subst (λ o. Holds f o (Some s) (ts ++ tokens v)) (sym found) here,
          subst (λ others. HoldEach fs others ss (ts ++ tokens v)) (sym rest) (hold_more fs (without n ms) ss ts (tokens v) h.1),
        )
    hold_put (field f fs) ms (r ∷ ss) (suc i) k d called differ order read h =
        let n = name_of f in
        let other : n ≡ k → ⊥ = apart fs i k n called differ.0 in (
          subst (λ o. Holds f o r (ts ++ tokens v)) (sym (get_member-put_other n k d ms other)) (holds_more f (get_member n ms) r ts (tokens v) h.0),
          subst (λ others. HoldEach fs others (slice_set ss i (Some s)) (ts ++ tokens v)) (sym (without-put_other n k d ms other order)) (hold_put fs (without n ms) ss i k d called differ.1 (order_without n ms order) read h.1),
        )

  -- ---- all were read

  absent_one : (r : Repetition) (inside : Data → Option ValueTree) → may_lack r ≡ true → (v : ValueTree) × (read_as r inside None ≡ Some v) × (absent_tokens r ≡ tokens v)
  absent_one Required inside h = absurd (true≢false (sym h))
  absent_one Optional inside h = (null, refl, refl)
  absent_one Repeated inside h = (list no_values, refl, refl)

  hold_one : (f : Field) (o : Option Data) (s : Option Span) (ts : List Token) → is_there f s ≡ true → Holds f o s ts → (v : ValueTree) × (field_read_as texts f o ≡ Some v) × (part_in f ts s ≡ tokens v)
  hold_one (leaf n r t) None None ts there h = absent_one r _ there
  hold_one (fields n r a fs) None None ts there h = absent_one r _ there
  hold_one f None (Some s) ts there h = absurd h
  hold_one f (Some d) None ts there h = absurd h
  hold_one f (Some d) (Some s) ts there h = (h.0, h.1, h.2)

  pub hold_end : (fs : Fields) (ms : Members) (ss : List (Option Span)) (ts : List Token) → are_there fs ss ≡ true → HoldEach fs ms ss ts → (vs : ValueTrees) × (members_read_as texts fs ms ≡ Some vs) × (parts_in fs ts ss ≡ tokens_each vs)
  hold_end no_fields ms [] ts there h = (no_values, rw h refl, refl)
  hold_end no_fields ms (s ∷ ss) ts there h = absurd h
  hold_end (field f fs) ms [] ts there h = absurd h
  hold_end (field f fs) ms (s ∷ ss) ts there h =
      let b = and_true (is_there f s) (are_there fs ss) there in
      let one = hold_one f (get_member (name_of f) ms) s ts b.0 h.0 in
      let rest = hold_end fs (without (name_of f) ms) ss ts b.1 h.1 in
      (value one.0 rest.0, ap₂ value_before one.1 rest.1, ap₂ (λ (x y : List Token). x ++ y) one.2 rest.2)

  span_within : (f : Field) (o : Option Data) (s : Span) (ts : List Token) → Holds f o (Some s) ts → (s.from ≤ s.to) × (s.to ≤ length ts)
  span_within f None s ts h = absurd h
  span_within f (Some d) s ts h = (h.3, h.4)

  -- one after another in the order of the fields
  pub hold_joined : (fs : Fields) (ms : Members) (ss : List (Option Span)) (ts : List Token) (from to : ℕ) → AreJoined from ss to → HoldEach fs ms ss ts → (are_there fs ss ≡ true) × (parts_in fs ts ss ≡ slice_range ts from to) × (from ≤ to)
  hold_joined no_fields ms [] ts from to joins h = (refl, sym (no_part ts from to joins), omega (arith, joins))
  hold_joined no_fields ms (s ∷ ss) ts from to joins h = absurd h
  hold_joined (field f fs) ms [] ts from to joins h = absurd h
  hold_joined (field f fs) ms (None ∷ ss) ts from to joins h = absurd joins
  hold_joined (field f fs) ms (Some s ∷ ss) ts from to joins h =
      let rest = hold_joined fs (without (name_of f) ms) ss ts s.to to joins.1 h.1 in
      let within = span_within f (get_member (name_of f) ms) s ts h.0 in
      (rest.0, ap (λ x. slice_range ts s.from s.to ++ x) rest.1 ∙ parts_meet ts s.from s.to to within.0 rest.2 ∙ ap (λ m. slice_range ts m to) joins.0, omega (arith, within.0, rest.2, joins.0))

  pub read_there : (fs : List CodeField) (i : ℕ) (f : CodeField) (d : Data) → i < length fs → f ≡ get_or fs i f → read_at texts (field_views fs) i d ≡ field_read_as texts (field_view f) (Some d)
  read_there [] i f d less is = absurd (omega (arith, less))
  read_there (g ∷ fs) zero f d less is = ap (λ x. field_read_as texts (field_view x) (Some d)) (sym is)
  read_there (g ∷ fs) (suc i) f d less is = read_there fs i f d (omega (arith, less)) is
