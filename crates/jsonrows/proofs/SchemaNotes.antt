-- What is found in the members of a leaf and of a group is what they say.
use Rattle.std.proofs.Common.{◌≡◌, inl, inr, ℕ, ℤ, Bool, true, false, not, codes, bytes_eq, List, length, Option, Some, None, option_map, option_and_then, if◌then◌else◌, refl, sym, ap, subst, ◌∙◌}
use Rattle.std.proofs.lemmas.Slice.Eq.{bytes_eq-Decides}
use Rattle.std.proofs.lemmas.Bool.{not-true as not_true}
use Rattle.std.proofs.lemmas.Option.{same_Some as same_value}
use Rattle.lists.proofs.Options.{and_then_some as and_then_gave, map_some as map_gave, some_if as if_gave}
use Rattle.serde_json.specs.Data.{Data, string, object, Members}
use Rattle.serde_json.specs.Find.{as_str, get_member}
use Rattle.thrift_compact.specs.Tree.{Fields as Struct}
use Rattle.thrift_compact.specs.Compact.{IsThrift}
use Rattle.schema.specs.declared.value.Kind.{Kind}
use Rattle.schema.specs.declared.building.Typed.{Typed}
use Rattle.schema.specs.declared.building.Typed.TheVariants.{Stored, Floating, Int96}
use Rattle.schema.specs.Annotations.{annotation_of}
use Rattle.schema.specs.Listing.{typed}
use Rattle.rowtext.specs.Reading.{bytes_of_digits}
use Rattle.jsonrows.specs.SchemaJson.{number_of, notes, is_known, IsText, IsNote}
use Rattle.jsonrows.specs.inner.SchemaReading.{int32_of, optional, stored_kind, kind_of, is_unnamed, Note, note, other_of, named_of, note_by, note_of, HasStruct}
use Rattle.jsonrows.proofs.SchemaMembers.{none_is, is_string, int_found, int_there}

-- ---- names over a type

pub unnamed_found : (z : ℤ) (length c : Option ℤ) (s : Option Struct) → is_unnamed (kind_of (Some z) length) c s ≡ true → (k : Kind) → typed z length ≡ Some (Stored k) → is_known (annotation_of k c s) ≡ false
unnamed_found z length c s h k e = not_true (is_known (annotation_of k c s)) (subst (λ o. is_unnamed (stored_kind o) c s ≡ true) e h)

pub unnamed_there : (z : ℤ) (length c : Option ℤ) (s : Option Struct) → ((k : Kind) → typed z length ≡ Some (Stored k) → is_known (annotation_of k c s) ≡ false) → is_unnamed (kind_of (Some z) length) c s ≡ true
unnamed_there z length c s h = go (typed z length) refl
  where
    go : (o : Option Typed) → typed z length ≡ o → is_unnamed (stored_kind o) c s ≡ true
    go None e = refl
    go (Some (Stored k)) e = ap not (h k e)
    go (Some Floating) e = refl
    go (Some Int96) e = refl

-- ---- notes

pub none_kept : (l : Option Struct) → HasStruct None l → l ≡ None
none_kept None h = refl
none_kept (Some s) h = absurd h

some_kept : (bytes : List ℕ) (l : Option Struct) → HasStruct (Some bytes) l → (s : Struct) × (l ≡ Some s) × IsThrift bytes s (length bytes)
some_kept bytes None h = absurd h
some_kept bytes (Some s) h = (s, refl, h)

module _ (K : Option Kind) (ms : Members) (t : Note) (l : Option Struct) (U : Type 0) (by_number : (z : ℤ) → t.converted ≡ Some z → l ≡ None → is_unnamed K (Some z) None ≡ true → U) (by_struct : (s : Struct) → t.converted ≡ None → l ≡ Some s → U) (has : HasStruct t.logical l) where
  noted : (c : Option ℤ) (o : Option Struct) → t.converted ≡ c → l ≡ o → IsNote c o U ms → IsNote t.converted l U ms
  noted c o e d h = subst (λ x. IsNote x l U ms) (sym e) (subst (λ y. IsNote c y U ms) (sym d) h)

  no_struct : t.logical ≡ None → l ≡ None
  no_struct e = none_kept l (subst (λ x. HasStruct x l) e has)

  its_converted : (u : Note) → u ≡ t → t.converted ≡ u.converted
  its_converted u e = sym (ap (λ (x : Note). x.converted) e)

  its_logical : (u : Note) → u ≡ t → t.logical ≡ u.logical
  its_logical u e = sym (ap (λ (x : Note). x.logical) e)

  other_found : (x : Data) (C L : Option Data) → get_member (codes "note") ms ≡ Some x → IsText x (codes "other") → get_member (codes "converted") ms ≡ C → get_member (codes "logical") ms ≡ L → other_of K C L ≡ Some t → IsNote t.converted l U ms
  other_found x None None n text c d h = none_is t h
  other_found x (Some y) (Some w) n text c d h = none_is t h
  other_found x (Some y) None n text c d h =
      let p = and_then_gave (λ (z : ℤ). if is_unnamed K (Some z) None then Some (note (Some z) None) else None) (int32_of y) t h in
      let w = if_gave (is_unnamed K (Some p.0) None) (Some (note (Some p.0) None)) t p.2 in
      let is : note (Some p.0) None ≡ t = same_value (note (Some p.0) None) t w.1 in
      let converted = its_converted (note (Some p.0) None) is in
      let none = no_struct (its_logical (note (Some p.0) None) is) in
      noted (Some p.0) None converted none (inr ((x, n, text), (y, c, int_found y p.0 p.1), d, by_number p.0 converted none w.0))
  other_found x None (Some y) n text c d h =
      let p = map_gave (λ (s : List ℕ). note None (Some s)) (option_and_then bytes_of_digits (as_str y)) t h in
      let q = and_then_gave bytes_of_digits (as_str y) p.0 p.1 in
      let converted = its_converted (note None (Some p.0)) p.2 in
      let k = some_kept p.0 l (subst (λ o. HasStruct o l) (its_logical (note None (Some p.0)) p.2) has) in
      noted None (Some k.0) converted k.1 ((x, n, text), c, (y, d, (q.0, p.0, is_string y q.0 q.1, q.2, k.2)), by_struct k.0 converted k.1)

  named_found : (x : Data) (s : List ℕ) (C L : Option Data) (z : ℤ) → get_member (codes "note") ms ≡ Some x → x ≡ string s → number_of notes s ≡ Some z → get_member (codes "converted") ms ≡ C → get_member (codes "logical") ms ≡ L → named_of (Some z) C L ≡ Some t → IsNote t.converted l U ms
  named_found x s (Some y) L z n text number c d h = none_is t h
  named_found x s None (Some y) z n text number c d h = none_is t h
  named_found x s None None z n text number c d h =
      let is : note (Some z) None ≡ t = same_value (note (Some z) None) t h in
      noted (Some z) None (its_converted (note (Some z) None) is) (no_struct (its_logical (note (Some z) None) is)) (inl ((x, n, (s, text, number)), c, d))

  word_noted : (x : Data) (s : List ℕ) (C L : Option Data) → get_member (codes "note") ms ≡ Some x → x ≡ string s → get_member (codes "converted") ms ≡ C → get_member (codes "logical") ms ≡ L → note_by K (Some (Some s)) C L ≡ Some t → IsNote t.converted l U ms
  word_noted x s C L n text c d h = by (bytes_eq s (codes "other")) refl
    where
      by : (b : Bool) → bytes_eq s (codes "other") ≡ b → IsNote t.converted l U ms
      by true e = other_found x C L n (text ∙ ap string ((bytes_eq-Decides s (codes "other")).0 e)) c d (rw e at h)
      by false e =
          let p = and_then_gave (λ (z : ℤ). named_of (Some z) C L) (number_of notes s) t (rw e at h) in
          named_found x s C L p.0 n text p.1 c d p.2

  by_word : (x : Data) (w : Option (List ℕ)) (C L : Option Data) → get_member (codes "note") ms ≡ Some x → as_str x ≡ w → get_member (codes "converted") ms ≡ C → get_member (codes "logical") ms ≡ L → note_by K (option_map Some w) C L ≡ Some t → IsNote t.converted l U ms
  by_word x None C L n w c d h = none_is t h
  by_word x (Some s) C L n w c d h = word_noted x s C L n (is_string x s w) c d h

  by_members : (N C L : Option Data) → get_member (codes "note") ms ≡ N → get_member (codes "converted") ms ≡ C → get_member (codes "logical") ms ≡ L → note_by K (optional as_str N) C L ≡ Some t → IsNote t.converted l U ms
  by_members None None None n c d h =
      let is : note None None ≡ t = same_value (note None None) t h in
      noted None None (its_converted (note None None) is) (no_struct (its_logical (note None None) is)) (n, c, d)
  by_members None (Some y) L n c d h = none_is t h
  by_members None None (Some y) n c d h = none_is t h
  by_members (Some x) C L n c d h = by_word x (as_str x) C L n refl c d h

  pub note_found : note_of K (object ms) ≡ Some t → IsNote t.converted l U ms
  note_found h = by_members (get_member (codes "note") ms) (get_member (codes "converted") ms) (get_member (codes "logical") ms) refl refl refl h

note_at : (K : Option Kind) (ms : Members) (N C L : Option Data) → get_member (codes "note") ms ≡ N → get_member (codes "converted") ms ≡ C → get_member (codes "logical") ms ≡ L → note_of K (object ms) ≡ note_by K (optional as_str N) C L
note_at K ms N C L n c d =
    ap (λ x. note_by K (optional as_str x) (get_member (codes "converted") ms) (get_member (codes "logical") ms)) n
    ∙ ap (λ x. note_by K (optional as_str N) x (get_member (codes "logical") ms)) c ∙ ap (λ x. note_by K (optional as_str N) C x) d

named_there : (K : Option Kind) (s : List ℕ) (z : ℤ) → number_of notes s ≡ Some z → note_by K (Some (Some s)) None None ≡ Some (note (Some z) None)
named_there K s z h = by (bytes_eq s (codes "other")) refl
  where
    by : (b : Bool) → bytes_eq s (codes "other") ≡ b → note_by K (Some (Some s)) None None ≡ Some (note (Some z) None)
    by true e = none_is z (ap (number_of notes) (sym ((bytes_eq-Decides s (codes "other")).0 e)) ∙ h)
    by false e = rw (e, h) refl

-- what a note says is found
pub note_there : (K : Option Kind) (ms : Members) (c : Option ℤ) (l : Option Struct) (U : Type 0) → ((z : ℤ) → c ≡ Some z → U → is_unnamed K (Some z) None ≡ true) → IsNote c l U ms
    → (s : Option (List ℕ)) × (note_of K (object ms) ≡ Some (note c s)) × HasStruct s l
note_there K ms None None U f h = (None, note_at K ms None None None h.0 h.1 h.2, tt)
note_there K ms (Some z) (Some s) U f h = absurd h
note_there K ms (Some z) None U f (inl h) =
    let word = h.0.2 in
    (None, note_at K ms (Some h.0.0) None None h.0.1 h.1 h.2 ∙ ap (λ v. note_by K (optional as_str (Some v)) None None) word.1 ∙ named_there K word.0 z word.2, tt)
note_there K ms (Some z) None U f (inr h) =
    let number = int_there h.1.0 z h.1.2 in
    let found : other_of K (Some h.1.0) None ≡ Some (note (Some z) None) = rw (number, f z refl h.3) refl in
    (None, note_at K ms (Some h.0.0) (Some h.1.0) None h.0.1 h.1.1 h.2 ∙ ap (λ v. note_by K (optional as_str (Some v)) (Some h.1.0) None) h.0.2 ∙ found, tt)
note_there K ms None (Some s) U f h =
    let st = h.2.2 in
    let found : other_of K None (Some h.2.0) ≡ Some (note None (Some st.1)) = rw (st.2, st.3) refl in
    (Some st.1, note_at K ms (Some h.0.0) None (Some h.2.0) h.0.1 h.1 h.2.1 ∙ ap (λ v. note_by K (optional as_str (Some v)) None (Some h.2.0)) h.0.2 ∙ found, st.4)
