-- Rows of some of the columns, value by value, and lists of an answer.
use Rattle.std.proofs.Common.{◌≡◌, ◌≢◌, ℕ, length, ap₂, zero, suc, List, [], ◌∷◌, Bool, true, false, Option, Some, None, if◌then◌else◌, Result, Ok, Err, Vec, Global, map, drop, refl, sym, ap, ◌∙◌}
use Rattle.std.specs.Prelude.{IsUtf8, IfOk, OnOk}
use Rattle.std.specs.Str.{is_utf8}
use Rattle.std.proofs.lemmas.Str.{IsUtf8-from_is_utf8, is_utf8-from_IsUtf8}
use Rattle.std.proofs.lemmas.Bool.{false_from_ne_true as not_true}
use Rattle.bits.specs.declared.refusal.Refusal.{Refusal}
use Rattle.bits.specs.declared.refusal.Refusal.TheVariants.{RowShape, Memory}
use Rattle.bits.specs.Refusals.{HasCause}
use Rattle.serde_json.specs.Data.{Data, string, Members, put}
use Rattle.serde_json.specs.View.{view}
use Rattle.serde_json.specs.declared.value.Value.{Value as Json, Array}
use Rattle.serde_json.proofs.Views.{view-Array}
use Rattle.schema.specs.declared.field.Field.{Field as CodeField}
use Rattle.schema.specs.declared.value.Value.{Value}
use Rattle.schema.specs.declared.value.Value.TheVariants.{Bytes as BytesOf}
use Rattle.schema.specs.Values.{ValueTree, bytes, view as value_view, views}
use Rattle.schema.specs.Shape.{Field, Fields, name_of}
use Rattle.schema.specs.Fits.{fits}
use Rattle.schema.specs.Keys.{field_at}
use Rattle.schema.specs.Views.{field_view, field_views}
use Rattle.rowtext.specs.Json.{field_json_as}
use Rattle.rowtext.proofs.Forms.{view-Bytes}
use Rattle.jsonrows.specs.inner.ValueJson.{IsShownSo, IsMisfit}
use Rattle.jsonrows.specs.Answers.{one_member, put_column_as, columns_json_as, key_value_json, listed_as}

-- the field at a place of some fields
pub field_there : (fs : List CodeField) (i : ℕ) (f : CodeField) (rest : List CodeField) → drop i fs ≡ f ∷ rest → field_at i (field_views fs) ≡ Some (field_view f)
field_there [] zero f rest h = absurd (cc)
field_there [] (suc i) f rest h = absurd (cc)
field_there (g ∷ fs) zero f rest h = let same : g ≡ f = cc in ap (λ x. Some (field_view x)) same
field_there (g ∷ fs) (suc i) f rest h = field_there fs i f rest h

pub no_field_there : (fs : List CodeField) (i : ℕ) → drop i fs ≡ [] → field_at i (field_views fs) ≡ None
no_field_there [] i h = refl
no_field_there (g ∷ fs) zero h = absurd (cc)
no_field_there (g ∷ fs) (suc i) h = no_field_there fs i h

abbrev key_if : List ℕ → Bool → Result Data Refusal
key_if s b = if b then Ok (string s) else Err RowShape

module _ (texts : Bool) where
  abbrev put_if : Bool → Field → ValueTree → Members → Result Members Refusal
  put_if b f v ms = if b then Ok (put (name_of f) (field_json_as texts f v) ms) else Err RowShape

  -- a column is refused only so
  pub put_fault : (o : Option Field) (v : ValueTree) (r : Result Members Refusal) (e : Refusal) → put_column_as texts o v r ≡ Err e → Err RowShape ≡ put_column_as texts o v r
  put_fault None v r e h = refl
  put_fault (Some f) v (Err x) e h = refl
  put_fault (Some f) v (Ok ms) e h = by (fits f v) h
    where
      by : (b : Bool) → put_if b f v ms ≡ Err e → Err RowShape ≡ put_if b f v ms
      by true k = absurd (cc)
      by false k = refl

  later_fault : (o : Option Field) (v : ValueTree) → put_column_as texts o v (Err RowShape) ≡ Err RowShape
  later_fault None v = refl
  later_fault (Some f) v = refl

  pub put_refused : (fs rest : List CodeField) (i : ℕ) (f : CodeField) (w : Value) (ms : Members) (e : Refusal) → drop i fs ≡ f ∷ rest → HasCause (IsMisfit (fits (field_view f) (value_view w))) e
      → HasCause (λ x. put_column_as texts (field_at i (field_views fs)) (value_view w) (Ok ms) ≡ Err x) e
  put_refused fs rest i f w ms Memory here h = tt
  put_refused fs rest i f w ms e here h =
      ap (λ o. put_column_as texts o (value_view w) (Ok ms)) (field_there fs i f rest here) ∙ ap (λ b. put_if b (field_view f) (value_view w) ms) h.1 ∙ ap Err (sym h.0)

  pub put_done : {X : Type 0} (r : Result X Refusal) (fs rest : List CodeField) (i : ℕ) (f : CodeField) (w : Value) (old new : Members) (name : List ℕ) (d : Data) → drop i fs ≡ f ∷ rest
      → IsShownSo (fits (field_view f) (value_view w)) (field_json_as texts (field_view f) (value_view w)) d → name ≡ name_of (field_view f) → OnOk r (new ≡ put name d old)
      → OnOk r (put_column_as texts (field_at i (field_views fs)) (value_view w) (Ok old) ≡ Ok new)
  put_done (Err e) fs rest i f w old new name d here shown named h = tt
  put_done (Ok x) fs rest i f w old new name d here shown named h =
      ap (λ o. put_column_as texts o (value_view w) (Ok old)) (field_there fs i f rest here) ∙ ap (λ b. put_if b (field_view f) (value_view w) old) shown.0
      ∙ ap Ok (ap₂ (λ k x. put k x old) (sym named) (sym shown.1) ∙ sym h)

  -- what is refused of the later columns is refused of all
  pub fault_after : (fs : Fields) (i : ℕ) (places : List ℕ) (vs : List Value) → columns_json_as texts fs (drop i places) (views (drop i vs)) ≡ Err RowShape → columns_json_as texts fs places (views vs) ≡ Err RowShape
  fault_after fs zero places vs h = h
  fault_after fs (suc i) [] [] h = h
  fault_after fs (suc i) [] (v ∷ vs) h = refl
  fault_after fs (suc i) (p ∷ places) [] h = refl
  fault_after fs (suc i) (p ∷ places) (v ∷ vs) h = ap (put_column_as texts (field_at p fs) (value_view v)) (fault_after fs i places vs h) ∙ later_fault (field_at p fs) (value_view v)

  pub columns-lengths : (fs : Fields) (places : List ℕ) (vs : List Value) → length places ≢ length vs → columns_json_as texts fs places (views vs) ≡ Err RowShape
  columns-lengths fs [] [] h = absurd (h refl)
  columns-lengths fs [] (v ∷ vs) h = refl
  columns-lengths fs (p ∷ places) [] h = refl
  columns-lengths fs (p ∷ places) (v ∷ vs) h = ap (put_column_as texts (field_at p fs) (value_view v)) (columns-lengths fs places vs (λ e. h (ap suc e))) ∙ later_fault (field_at p fs) (value_view v)

  -- a column that is refused is refused for all
  pub column_fault : (fs : Fields) (places ps : List ℕ) (vs others : List Value) (i p : ℕ) (v : Value) (ms : Members) (e : Refusal) → drop i places ≡ p ∷ ps → drop i vs ≡ v ∷ others → columns_json_as texts fs ps (views others) ≡ Ok ms
      → HasCause (λ x. put_column_as texts (field_at p fs) (value_view v) (Ok ms) ≡ Err x) e → HasCause (λ x. columns_json_as texts fs places (views vs) ≡ Err x) e
  column_fault fs places ps vs others i p v ms Memory at there later h = tt
  column_fault fs places ps vs others i p v ms e at there later h =
      let o = field_at p fs in
      let shape = put_fault o (value_view v) (Ok ms) e h in
      let here : columns_json_as texts fs (drop i places) (views (drop i vs)) ≡ Err RowShape = ap₂ (λ xs ys. columns_json_as texts fs xs (views ys)) at there ∙ ap (put_column_as texts o (value_view v)) later ∙ sym shape in
      fault_after fs i places vs here ∙ shape ∙ h

-- ---- values of a key

pub key_text : (w : Value) (v : Vec ℕ Global) (s x : List ℕ) → w ≡ BytesOf v → s ≡ v.items → IsUtf8 s → x ≡ s → key_value_json (value_view w) ≡ Ok (string x)
key_text w v s x is same valid so = ap (λ u. key_value_json (value_view u)) is ∙ ap key_value_json (view-Bytes v ∙ ap bytes (sym same)) ∙ ap (key_if s) (is_utf8-from_IsUtf8 s valid) ∙ ap (λ y. Ok (string y)) (sym so)

pub key_no_text : (w : Value) (v : Vec ℕ Global) (s : List ℕ) → w ≡ BytesOf v → s ≡ v.items → (IsUtf8 s → ⊥) → key_value_json (value_view w) ≡ Err RowShape
key_no_text w v s is same invalid = ap (λ u. key_value_json (value_view u)) is ∙ ap key_value_json (view-Bytes v ∙ ap bytes (sym same)) ∙ ap (key_if s) (not_true (is_utf8 s) (λ e. invalid (IsUtf8-from_is_utf8 s e)))

pub shown_so : (r : Result Json Refusal) (q : Result Data Refusal) (d : Data) → q ≡ Ok d → IfOk r (λ j. view j ≡ d) → IfOk r (λ j. q ≡ Ok (view j))
shown_so (Ok j) q d is h = is ∙ ap Ok (sym h)
shown_so (Err e) q d is h = tt

-- ---- lists of an answer

pub listed_shown : (name : List ℕ) (made : Result (List Data) Refusal) (v : Vec Json Global) (d : Data) → made ≡ Ok (map view v.items) → d ≡ one_member name (view (Array v)) → listed_as name made ≡ Ok d
listed_shown name made v d is shown = ap (listed_as name) is ∙ ap Ok (ap (one_member name) (sym (view-Array v)) ∙ sym shown)

pub listed_fault : (name : List ℕ) (made : Result (List Data) Refusal) (e : Refusal) → HasCause (λ x. made ≡ Err x) e → HasCause (λ x. listed_as name made ≡ Err x) e
listed_fault name made Memory h = tt
listed_fault name made e h = ap (listed_as name) h
