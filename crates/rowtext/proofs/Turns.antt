-- What functions read from a line, a turn at a time.
use Rattle.std.proofs.Common.{Bool, ◌≡◌, ℕ, zero, suc, ◌-◌, ◌<◌, ◌≤◌, List, [], ◌∷◌, ◌++◌, length, take, drop, map, get_or, true, ◌&&◌, Option, Some, None, option_map, inl, inr, String, Vec, Global, refl, sym, ap, ap₂, subst, ◌∙◌, arith, append_assoc, append-nil}
use Rattle.std.specs.Prelude.{slice_range, slice_set, replicate}
use Rattle.std.proofs.Math.Seq.{take-append_seam}
use Rattle.std.proofs.lemmas.List.{length-map, length-append}
use Rattle.json.specs.Token.{Token}
use Rattle.json.specs.Lex.{tokens, fresh, after_value, token, lex, punctuate, between as lexed}
use Rattle.json.specs.Json.{parse_map, items, members, value}
use Rattle.json.proofs.Grammar.{read_key-shorter}
use Rattle.serde_json.specs.Data.{Data, array, object, Items, no_items, item, Members, no_members, put}
use Rattle.serde_json.specs.Data as json
use Rattle.serde_json.specs.Read.{of_json, of_items, of_members, converted, read}
use Rattle.serde_json.specs.Written.{compact_text}
use Rattle.schema.specs.declared.value.Repetition.{Repetition}
use Rattle.schema.specs.declared.value.Repetition.TheVariants.{Required, Optional, Repeated}
use Rattle.schema.specs.declared.annotation.LeafType.{LeafType as CodeLeafType}
use Rattle.schema.specs.declared.annotation.GroupAnnotation.{GroupAnnotation}
use Rattle.schema.specs.declared.field.Field.{Field as CodeField, Leaf, Group}
use Rattle.schema.specs.Law.{names, AllDiffer, IsValid, AreValid}
use Rattle.schema.specs.Values.{ValueTree, null, group, list, ValueTrees, no_values}
use Rattle.schema.specs.Values as row
use Rattle.schema.specs.Shape.{Field, leaf, fields, Fields, no_fields, field, repetition_of}
use Rattle.schema.specs.Views.{leaf_type_view, field_view, field_views}
use Rattle.schema.proofs.Seen.{view-Leaf, view-Group}
use Rattle.leaftext.specs.declared.leaf_form.Form.{Form}
use Rattle.leaftext.specs.Forms.{form_if}
use Rattle.schema.specs.Annotations.{LeafType}
use Rattle.assemble.specs.Sinks.{Token as Shown, single, group_begins, group_ends, list_begins, list_ends, tokens as shown, tokens_each}
use Rattle.assemble.specs.inner.Building.{snoc}
use Rattle.assemble.proofs.Each.{join, join_snoc, join_none}
use Rattle.assemble.proofs.Showing.{tokens_snoc}
use Rattle.rowtext.specs.Reading.{leaf_read_by, read_as, object_read, leaf_read_as, value_before, items_read, inside_read_as, field_read_as, members_read_as}
use Rattle.rowtext.specs.declared.cursor.Cursor.{Cursor}
use Rattle.rowtext.specs.declared.pieces.Piece.{Piece}
use Rattle.rowtext.specs.declared.spans.Span.{Span}
use Rattle.rowtext.specs.inner.Fill.{IsCalled, HoldsItems, HoldsMembers}
use Rattle.rowtext.specs.inner.Lines.{rest_of, lexemes_of, tokens_at, place_of, Takes, EndsValue, IsKeyAt, IsMore, IsClosed}
use Rattle.rowtext.specs.inner.Pieces.{token_of, tokens_of, Grows, IsLeafRead, IsTaken, AreItemsTaken, AreMembersTaken}
use Rattle.rowtext.specs.inner.Spans.{absent_tokens, part_tokens, parts_tokens, is_there, are_there, AreArranged, IsNoted, IsMemberTaken}
use Rattle.rowtext.proofs.Conversion.{value_shorter, array_read, object_value, item_read, items_over, member_read, members_over, text_read}
use Rattle.rowtext.proofs.Filling.{HoldEach, hold_none, hold_put, hold_end, hold_joined, parts_in, part_last, read_there}
use Rattle.rowtext.proofs.RowJson.{order_put}
use Rattle.rowtext.proofs.JsonTexts.{AreInOrder}
use Rattle.rowtext.proofs.Lexing.{scalar_taken, scalar_read, object_closed, array_closed, object_opened, array_opened, key_there, no_end}
use Rattle.rowtext.proofs.LinePieces.{grows_then, one_more, between}
use Rattle.rowtext.proofs.Taken.{repeated-field_read}

-- ---- values

module _ (texts : Bool) where
  pub leaf_taken : (t : LeafType) (deep : ℕ) (old mid new : Cursor) (ks bs : List Piece) → IsLeafRead (form_if texts t) t old mid ks bs → EndsValue mid new → IsTaken (leaf_read_as texts t) deep old new ks bs
  leaf_taken t deep old mid new ks bs h ended = (h.0, h.1, scalar_read deep h.0 old mid new h.2 ended, h.3, h.4)

  pub leaf_inside : (f : CodeField) (n : String Global) (r : Repetition) (t : CodeLeafType) (deep : ℕ) (old new : Cursor) (ks bs : List Piece) → f ≡ Leaf n r t
      → IsTaken (leaf_read_as texts (leaf_type_view t)) deep old new ks bs → IsTaken (inside_read_as texts (field_view f)) deep old new ks bs
  leaf_inside f n r t deep old new ks bs is h = (h.0, h.1, h.2, ap (λ x. inside_read_as texts x h.0) (ap field_view is ∙ view-Leaf n r t) ∙ h.3, h.4)

  pub group_taken : (f : CodeField) (n : String Global) (r : Repetition) (a : Option GroupAnnotation) (fs : Vec CodeField Global) (xs : List CodeField) (deep : ℕ) (old mid new : Cursor) (ks bs cs ds : List Piece) (p q : Piece) → f ≡ Group n r a fs → xs ≡ fs.items
      → 0 < deep → lexemes_of old ≡ token Token.begin_object ∷ lexemes_of mid → token_of p ≡ group_begins → token_of q ≡ group_ends → bs ≡ ks ++ p ∷ [] → AreMembersTaken texts (field_views xs) (deep - 1) mid new bs cs → ds ≡ cs ++ q ∷ []
      → IsTaken (inside_read_as texts (field_view f)) deep old new ks ds
  group_taken f n r a fs xs deep old mid new ks bs cs ds p q is same some opened begins ends first h last = (
    object h.1.0,
    group h.0,
    λ place may. ap (λ x. converted of_json (value deep x)) (object_opened old mid place opened may) ∙ object_value deep (tokens_at fresh mid) (tokens_at after_value new) h.1.0 some h.1.1,
    ap (λ x. inside_read_as texts x (object h.1.0)) (ap field_view is ∙ view-Group n r a fs) ∙ ap (λ ys. option_map group (members_read_as texts (field_views ys) h.1.0)) (sym same) ∙ ap (option_map group) h.1.2,
    between ks bs cs ds p q (tokens_each h.0) first h.2 last ∙ ap₂ (λ x y. tokens_of ks ++ (x ∷ (tokens_each h.0 ++ y ∷ []))) begins ends,
  )

pub group_valid : (f : CodeField) (n : String Global) (r : Repetition) (a : Option GroupAnnotation) (fs : Vec CodeField Global) (xs : List CodeField) → f ≡ Group n r a fs → xs ≡ fs.items → IsValid (field_view f) → AllDiffer (names (field_views xs)) × AreValid (field_views xs)
group_valid f n r a fs xs is same valid =
    let here = subst IsValid (ap field_view is ∙ view-Group n r a fs) valid in
    subst (λ ys. AllDiffer (names (field_views ys)) × AreValid (field_views ys)) (sym same) (here.0.differ, here.1)

module _ (texts : Bool) where
  optional_null : (f : Field) → repetition_of f ≡ Optional → field_read_as texts f (Some json.null) ≡ Some null
  optional_null (leaf n r t) h = rw h refl
  optional_null (fields n r a fs) h = rw h refl

  pub null_taken : (f : Field) (deep : ℕ) (old mid new : Cursor) (ks bs : List Piece) (p : Piece) → repetition_of f ≡ Optional → Takes old mid (compact_text json.null) → EndsValue mid new → token_of p ≡ single null → bs ≡ ks ++ p ∷ []
      → IsTaken (λ d. field_read_as texts f (Some d)) deep old new ks bs
  null_taken f deep old mid new ks bs p r taken ended said one =
      (json.null, null, scalar_read deep json.null old mid new (scalar_taken json.null old mid tt taken) ended, optional_null f r, one_more ks bs p one ∙ ap (λ x. tokens_of ks ++ x ∷ []) said)

  pub list_taken : (f : Field) (deep : ℕ) (old mid new : Cursor) (ks bs cs ds : List Piece) (p q : Piece) → repetition_of f ≡ Repeated → 0 < deep → lexemes_of old ≡ token Token.begin_array ∷ lexemes_of mid → token_of p ≡ list_begins → token_of q ≡ list_ends
      → bs ≡ ks ++ p ∷ [] → AreItemsTaken (inside_read_as texts f) (deep - 1) mid new bs cs → ds ≡ cs ++ q ∷ [] → IsTaken (λ d. field_read_as texts f (Some d)) deep old new ks ds
  list_taken f deep old mid new ks bs cs ds p q r some opened begins ends first h last = (
    array h.1.0,
    list h.0,
    λ place may. ap (λ x. converted of_json (value deep x)) (array_opened old mid place opened may) ∙ array_read deep (tokens_at fresh mid) (tokens_at after_value new) h.1.0 some h.1.1,
    repeated-field_read texts f h.1.0 r ∙ ap (option_map list) h.1.2,
    between ks bs cs ds p q (tokens_each h.0) first h.2 last ∙ ap₂ (λ x y. tokens_of ks ++ (x ∷ (tokens_each h.0 ++ y ∷ []))) begins ends,
  )

null_none : (o : Option Form) (t : LeafType) → leaf_read_by o t json.null ≡ None
null_none None t = refl
null_none (Some form) t = refl

-- it is no array
abbrev pub IsOne : Repetition → Type 0
IsOne Required = Unit {0}
IsOne Optional = Unit {0}
IsOne Repeated = ⊥

one_inside : (r : Repetition) (inside : Data → Option ValueTree) (d : Data) (v : ValueTree) → IsOne r → inside json.null ≡ None → inside d ≡ Some v → read_as r inside (Some d) ≡ Some v
one_inside Required inside d v one none h = h
one_inside Optional inside json.null v one none h = absurd (cc)
one_inside Optional inside (json.boolean b) v one none h = h
one_inside Optional inside (json.number n) v one none h = h
one_inside Optional inside (json.string s) v one none h = h
one_inside Optional inside (json.array ds) v one none h = h
one_inside Optional inside (json.object ms) v one none h = h
one_inside Repeated inside d v one none h = absurd one

module _ (texts : Bool) where
  one_read : (f : Field) (d : Data) (v : ValueTree) → IsOne (repetition_of f) → inside_read_as texts f d ≡ Some v → field_read_as texts f (Some d) ≡ Some v
  one_read (leaf n r t) d v one h = one_inside r (leaf_read_as texts t) d v one (null_none (form_if texts t) t) h
  one_read (fields n r a fs) d v one h = one_inside r (object_read (members_read_as texts fs)) d v one refl h

  pub one_taken : (f : Field) (r : Repetition) (deep : ℕ) (old mid new : Cursor) (ks bs : List Piece) → repetition_of f ≡ r → IsOne r → rest_of mid ≡ rest_of old → IsTaken (inside_read_as texts f) deep mid new ks bs
      → IsTaken (λ d. field_read_as texts f (Some d)) deep old new ks bs
  one_taken f r deep old mid new ks bs is one same h =
      (h.0, h.1, λ p may. ap (λ s. converted of_json (value deep (punctuate p (lex lexed s)))) (sym same) ∙ h.2 p may, one_read f h.0 h.1 (subst IsOne (sym is) one) h.3, h.4)

-- ---- items

-- whatever the items that are left are read as, after the values so far it is what all items are read as
abbrev pub Remains : (Data → Option ValueTree) → ℕ → List Token → List Token → List Piece → List Piece → Type 0
Remains inside deep first ts ks bs =
    (n : ℕ) × (before : ValueTrees) × (length ts ≤ n) × Grows ks bs (tokens_each before)
    × ((ds : Items) (vs : ValueTrees) (end : List Token) → converted of_items (items (value deep) n ts) ≡ Some (ds, end) → items_read inside ds ≡ Some vs → HoldsItems (items_read inside) deep first (join before vs) end)

pub items_begin : (inside : Data → Option ValueTree) (deep : ℕ) (ts : List Token) (ks : List Piece) → Remains inside deep ts ts ks ks
items_begin inside deep ts ks = (length ts, no_values, omega arith, sym (append-nil (tokens_of ks)), λ ds vs end e h. (ds, e, h))

pub items_turn : (inside : Data → Option ValueTree) (deep : ℕ) (first : List Token) (is_first : Bool) (old mid new : Cursor) (ks bs cs : List Piece) → Remains inside deep first (tokens_at (place_of is_first) old) ks bs
    → IsMore is_first old mid → IsTaken inside deep mid new bs cs → Remains inside deep first (tokens_at after_value new) ks cs
items_turn inside deep first is_first old mid new ks bs cs so more here =
    let n = so.0 in
    let before = so.1 in
    let d = here.0 in
    let v = here.1 in
    let ts = tokens_at (place_of is_first) old in
    let r = tokens_at after_value new in
    let read : converted of_json (value deep ts) ≡ Some (d, r) = ap (λ x. converted of_json (value deep x)) more.2 ∙ here.2 more.0 more.1 in
    let less = value_shorter deep ts r d read in (
      n - 1,
      snoc before v,
      omega (arith, so.2, less),
      grows_then ks bs cs (tokens_each before) (shown v) so.3 here.4 ∙ ap (λ x. tokens_of ks ++ x) (sym (tokens_snoc before v)),
      λ ds vs end e h.
          let all = item_read (value deep) n ts r d (omega (arith, so.2, less)) (no_end deep ts r d read) read ∙ ap (parse_map (item d)) e in
          let whole : items_read inside (item d ds) ≡ Some (row.value v vs) = ap₂ value_before here.3 h in
          subst (λ x. HoldsItems (items_read inside) deep first x end) (sym (join_snoc before v vs)) (so.4 (item d ds) (row.value v vs) end all whole),
    )

pub items_end : (inside : Data → Option ValueTree) (deep : ℕ) (is_first : Bool) (start old new : Cursor) (ks bs : List Piece) → Remains inside deep (tokens_at fresh start) (tokens_at (place_of is_first) old) ks bs → IsClosed 93 old new
    → AreItemsTaken inside deep start new ks bs
items_end inside deep is_first start old new ks bs so closed =
    let ts = tokens_at (place_of is_first) old in
    let r = tokens_at after_value new in
    let held = so.4 no_items no_values r (items_over (value deep) so.0 ts r so.2 (array_closed is_first old new closed)) refl in
    (so.1, subst (λ x. HoldsItems (items_read inside) deep (tokens_at fresh start) x r) (join_none so.1) held, so.3)

-- ---- members

-- pieces were added
pub longer : (ks bs : List Piece) (us : List Shown) → Grows ks bs us → length ks ≤ length bs
longer ks bs us h =
    let a = length-map ks token_of in
    let b = length-map bs token_of in
    let all = ap length h in
    let more = length-append (tokens_of ks) us in
    omega (arith, a, b, all, more)

mapped_take : (n : ℕ) (ps : List Piece) → map token_of (take n ps) ≡ take n (map token_of ps)
mapped_take zero ps = refl
mapped_take (suc n) [] = refl
mapped_take (suc n) (p ∷ ps) = ap (λ t. token_of p ∷ t) (mapped_take n ps)

mapped_drop : (n : ℕ) (ps : List Piece) → map token_of (drop n ps) ≡ drop n (map token_of ps)
mapped_drop zero ps = refl
mapped_drop (suc n) [] = refl
mapped_drop (suc n) (p ∷ ps) = mapped_drop n ps

module _ (texts : Bool) where
  -- it is known of each member so far where its pieces are, and the members that are left are put with those so far
  abbrev pub Fills : Fields → ℕ → List Token → List Token → List Piece → List Piece → List (Option Span) → Type 0
  Fills fs deep first ts ks bs spans =
      (n : ℕ) × (ms : Members) × (us : List Shown) × (length ts ≤ n) × AreInOrder ms × HoldEach texts fs ms spans (tokens_of bs) × Grows ks bs us
      × (converted (λ js. of_members js no_members) (members (value deep) (length first) first) ≡ converted (λ js. of_members js ms) (members (value deep) n ts))

  pub members_begin : (fs : List CodeField) (deep : ℕ) (ts : List Token) (ks : List Piece) (spans : List (Option Span)) → spans ≡ replicate (length fs) None → Fills (field_views fs) deep ts ts ks ks spans
  members_begin fs deep ts ks spans none =
      (length ts, no_members, [], omega arith, tt, subst (λ ss. HoldEach texts (field_views fs) no_members ss (tokens_of ks)) (sym none) (hold_none texts fs (tokens_of ks)), sym (append-nil (tokens_of ks)), refl)

  pub members_turn : (fs : Fields) (deep : ℕ) (first : List Token) (is_first : Bool) (old mid new : Cursor) (ks bs cs : List Piece) (before after : List (Option Span)) → AllDiffer (names fs) → Fills fs deep first (tokens_at (place_of is_first) old) ks bs before
      → IsMore is_first old mid → IsMemberTaken texts fs deep mid new bs cs before after → Fills fs deep first (tokens_at after_value new) ks cs after
  members_turn fs deep first is_first old mid new ks bs cs before after differ so more h =
      let n = so.0 in
      let ms = so.1 in
      let k = h.0 in
      let i = h.1 in
      let d = h.2 in
      let v = h.3 in
      let ts = tokens_at (place_of is_first) old in
      let s = tokens_at fresh h.4 in
      let r = tokens_at after_value new in
      let key = key_there k is_first old mid h.4 more h.5 in
      let read : converted of_json (value deep s) ≡ Some (d, r) = h.7 fresh refl in
      let less = read_key-shorter ts (Some k) s key in
      let lesser = value_shorter deep s r d read in
      let here : Span = record { from = length bs; to = length cs } in
      let from : here.from ≡ length (tokens_of bs) = sym (length-map bs token_of) in
      let to : here.to ≡ length (tokens_of bs ++ shown v) = sym (length-map cs token_of) ∙ ap length h.9 in
      let held = hold_put texts v (tokens_of bs) here from to fs ms before i k d h.6 differ so.4 h.8 so.5 in (
        n - 1,
        put k d ms,
        so.2 ++ shown v,
        omega (arith, so.3, less, lesser),
        order_put k d ms so.4,
        subst (λ ss. HoldEach texts fs (put k d ms) ss (tokens_of cs)) (sym h.10.1.1) (subst (λ us. HoldEach texts fs (put k d ms) (slice_set before i (Some here)) us) (sym h.9) held),
        grows_then ks bs cs so.2 (shown v) so.6 h.9,
        so.7 ∙ member_read (value deep) ms n k ts s r d (omega (arith, so.3, less)) key read,
      )

  parts_same : (fs : Fields) (ps : List Piece) (ss : List (Option Span)) → parts_tokens fs ps ss ≡ parts_in fs (tokens_of ps) ss
  parts_same no_fields ps ss = refl
  parts_same (field f fs) ps [] = refl
  parts_same (field f fs) ps (None ∷ ss) = ap (λ x. absent_tokens (repetition_of f) ++ x) (parts_same fs ps ss)
  parts_same (field f fs) ps (Some s ∷ ss) = ap₂ (λ x y. x ++ y) (mapped_take (s.to - s.from) (drop s.from ps) ∙ ap (take (s.to - s.from)) (mapped_drop s.from ps)) (parts_same fs ps ss)

  -- the pieces that were added are those of all fields
  arranged : (fs : Fields) (ms : Members) (spans : List (Option Span)) (from : ℕ) (ks bs cs : List Piece) (us : List Shown) → HoldEach texts fs ms spans (tokens_of bs) → Grows ks bs us → from ≡ length ks → AreArranged fs spans from bs cs
      → (vs : ValueTrees) × (members_read_as texts fs ms ≡ Some vs) × Grows ks cs (tokens_each vs)
  arranged fs ms spans from ks bs cs us held grown is (inl (joins, same)) =
      let all = hold_joined texts fs ms spans (tokens_of bs) from (length bs) joins held in
      let vs = hold_end texts fs ms spans (tokens_of bs) all.0 held in
      let first : from ≡ length (tokens_of ks) = is ∙ sym (length-map ks token_of) in
      let last : length bs ≡ length (tokens_of ks ++ us) = sym (length-map bs token_of) ∙ ap length grown in
      let part : slice_range (tokens_of bs) from (length bs) ≡ us = ap (λ x. slice_range x from (length bs)) grown ∙ ap₂ (slice_range (tokens_of ks ++ us)) first last ∙ part_last (tokens_of ks) us in
      (vs.0, vs.1, ap tokens_of same ∙ grown ∙ ap (λ x. tokens_of ks ++ x) (sym part ∙ sym all.1 ∙ vs.2))
  arranged fs ms spans from ks bs cs us held grown is (inr (there, put_so)) =
      let vs = hold_end texts fs ms spans (tokens_of bs) there held in
      let first : from ≡ length (tokens_of ks) = is ∙ sym (length-map ks token_of) in
      let front : tokens_of (take from bs) ≡ tokens_of ks = mapped_take from bs ∙ ap (take from) grown ∙ ap (λ k. take k (tokens_of ks ++ us)) first ∙ take-append_seam (tokens_of ks) us in
      (vs.0, vs.1, put_so ∙ ap₂ (λ x y. x ++ y) front (parts_same fs bs spans ∙ vs.2))

  pub members_end : (fs : Fields) (deep from : ℕ) (is_first : Bool) (start old new : Cursor) (ks bs cs : List Piece) (spans : List (Option Span)) → Fills fs deep (tokens_at fresh start) (tokens_at (place_of is_first) old) ks bs spans → IsClosed 125 old new → from ≡ length ks
      → AreArranged fs spans from bs cs → AreMembersTaken texts fs deep start new ks cs
  members_end fs deep from is_first start old new ks bs cs spans so closed is put_so =
      let ts = tokens_at (place_of is_first) old in
      let r = tokens_at after_value new in
      let all = arranged fs so.1 spans from ks bs cs so.2 so.5 so.6 is put_so in
      (all.0, (so.1, so.7 ∙ members_over (value deep) so.1 so.0 ts r so.3 (object_closed is_first old new closed), all.1), all.2)

  -- one member
  pub member_taken : (fs : List CodeField) (i deep m n : ℕ) (f : CodeField) (k : List ℕ) (old mid new : Cursor) (ks bs : List Piece) (before after : List (Option Span)) → IsCalled (field_views fs) i k → IsKeyAt k old mid → i < length fs → f ≡ get_or fs i f
      → IsTaken (λ d. field_read_as texts (field_view f) (Some d)) deep mid new ks bs → m ≡ length ks → n ≡ length bs → IsNoted before i (record { from = m; to = n }) after → IsMemberTaken texts (field_views fs) deep old new ks bs before after
  member_taken fs i deep m n f k old mid new ks bs before after called key less is h from to noted =
      (k, i, h.0, h.1, mid, key, called, h.2, read_there texts fs i f h.0 less is ∙ h.3, h.4, subst (λ x. IsNoted before i (record { from = x; to = length bs }) after) from (subst (λ x. IsNoted before i (record { from = m; to = x }) after) to noted))

module _ (texts : Bool) where
  -- ---- the whole text

  pub line_read : (text : List ℕ) (fs : Fields) (ts rest end : List Token) (vs : ValueTrees) → ts ≡ tokens text → ts ≡ Token.begin_object ∷ rest → end ≡ [] → HoldsMembers (members_read_as texts fs) 126 rest vs end
      → (ms : Members) × (read text ≡ Some (object ms)) × (members_read_as texts fs ms ≡ Some vs)
  line_read text fs ts rest end vs all first none h =
      let inside = h.1 ∙ ap (λ r. Some (h.0, r)) none in
      (h.0, text_read text (object h.0) (ap (λ x. converted of_json (value 127 x)) (sym all ∙ first) ∙ object_value 127 rest [] h.0 (omega arith) inside), h.2)

-- ---- pieces put in the order of the fields

-- the part of one field more
pub part_put : (fs left : List CodeField) (f : CodeField) (later : List CodeField) (ss parts : List (Option Span)) (s : Option Span) (rest : List (Option Span)) (read ks bs cs : List Piece) → left ≡ f ∷ later → parts ≡ s ∷ rest → is_there (field_view f) s ≡ true
    → Grows bs cs (part_tokens (field_view f) read s) → (are_there (field_views left) parts ≡ are_there (field_views fs) ss)
    × (tokens_of bs ++ parts_tokens (field_views left) read parts ≡ tokens_of ks ++ parts_tokens (field_views fs) read ss)
    → (are_there (field_views later) rest ≡ are_there (field_views fs) ss)
    × (tokens_of cs ++ parts_tokens (field_views later) read rest ≡ tokens_of ks ++ parts_tokens (field_views fs) read ss)
part_put fs left f later ss parts s rest read ks bs cs split cut there grown so =
    let one : are_there (field_views left) parts ≡ are_there (field_views later) rest = ap₂ (λ (x : List CodeField) (y : List (Option Span)). are_there (field_views x) y) split cut ∙ ap (λ b. b && are_there (field_views later) rest) there in
    let part = part_tokens (field_view f) read s in
    let more = parts_tokens (field_views later) read rest in
    let both : parts_tokens (field_views left) read parts ≡ part ++ more = ap₂ (λ (x : List CodeField) (y : List (Option Span)). parts_tokens (field_views x) read y) split cut in
    (sym one ∙ so.0, ap (λ x. x ++ more) grown ∙ append_assoc (tokens_of bs) part more ∙ ap (λ x. tokens_of bs ++ x) (sym both) ∙ so.1)

-- the parts of all fields
pub parts_put : (fs left : List CodeField) (ss parts : List (Option Span)) (read ks bs : List Piece) → left ≡ [] → parts ≡ [] → (are_there (field_views left) parts ≡ are_there (field_views fs) ss)
    × (tokens_of bs ++ parts_tokens (field_views left) read parts ≡ tokens_of ks ++ parts_tokens (field_views fs) read ss)
    → (are_there (field_views fs) ss ≡ true) × Grows ks bs (parts_tokens (field_views fs) read ss)
parts_put fs left ss parts read ks bs none empty so =
    let all = ap₂ (λ (x : List CodeField) (y : List (Option Span)). are_there (field_views x) y) none empty in
    let nothing = ap₂ (λ (x : List CodeField) (y : List (Option Span)). parts_tokens (field_views x) read y) none empty in
    (sym so.0 ∙ all, sym (append-nil (tokens_of bs)) ∙ ap (λ x. tokens_of bs ++ x) (sym nothing) ∙ so.1)
