-- Values of fields as JSON values, one by one.
use Rattle.std.proofs.Common.{◌≡◌, ℕ, zero, suc, Bool, true, false, true≢false, List, [], ◌∷◌, ◌++◌, append-nil, map, drop, Vec, Global, refl, sym, ap, ◌∙◌}
use Rattle.std.specs.Prelude.{IsUtf8}
use Rattle.std.specs.Str.{is_utf8}
use Rattle.std.proofs.lemmas.Str.{IsUtf8-from_is_utf8, is_utf8-from_IsUtf8}
use Rattle.std.proofs.lemmas.Bool.{and_right as and_false, and_left as not_both, false_from_ne_true as not_true}
use Rattle.bits.specs.declared.refusal.Refusal.{Refusal}
use Rattle.bits.specs.declared.refusal.Refusal.TheVariants.{Memory}
use Rattle.bits.specs.Refusals.{HasCause}
use Rattle.hex.specs.Hex.{encode_lower}
use Rattle.serde_json.specs.Data.{Data, item}
use Rattle.serde_json.specs.Data as json
use Rattle.serde_json.specs.View.{items_of}
use Rattle.schema.specs.declared.field.Field.{Field as CodeField}
use Rattle.schema.specs.declared.value.Value.{Value}
use Rattle.schema.specs.declared.value.Value.TheVariants.{List as ListOf}
use Rattle.schema.specs.declared.value.Repetition.TheVariants.{Repeated}
use Rattle.schema.specs.Annotations.{LeafType, is_text}
use Rattle.schema.specs.Values.{ValueTree, ValueTrees, list, view as value_view, views, each}
use Rattle.schema.specs.Views.{field_view, field_views}
use Rattle.schema.specs.Shape.{Field, leaf, fields, repetition_of}
use Rattle.schema.specs.Fits.{fits, fits_inside, fits_each}
use Rattle.rowtext.specs.Json.{bytes_json, inside_json_as, items_json, field_json_as}
use Rattle.rowtext.proofs.Forms.{view-List}
use Rattle.jsonrows.specs.inner.ValueJson.{IsMisfit}

-- ---- bytes

pub as_text : (t : LeafType) (s x : List ℕ) → is_text t.kind t.annotation ≡ true → IsUtf8 s → x ≡ s → json.string x ≡ json.string (bytes_json t s)
as_text t s x text valid same = ap json.string same ∙ rw (text, is_utf8-from_IsUtf8 s valid) refl

pub as_digits : (t : LeafType) (s x : List ℕ) → is_text t.kind t.annotation ≡ true → (IsUtf8 s → ⊥) → x ≡ encode_lower s → json.string x ≡ json.string (bytes_json t s)
as_digits t s x text invalid same = ap json.string same ∙ rw (text, not_true (is_utf8 s) (λ e. invalid (IsUtf8-from_is_utf8 s e))) refl

-- ---- lists

pub items_seen : (shown : ValueTree → Data) (ws : List Value) → items_of (map (λ w. shown (value_view w)) ws) ≡ items_json shown (views ws)
items_seen shown [] = refl
items_seen shown (w ∷ ws) = ap (item (shown (value_view w))) (items_seen shown ws)

repeated_fits : (f : Field) (vs : ValueTrees) → repetition_of f ≡ Repeated → each (fits_inside f) vs ≡ fits f (list vs)
repeated_fits (leaf n r t) vs e = rw e refl
repeated_fits (fields n r a fs) vs e = rw e refl

repeated_json : (texts : Bool) (f : Field) (vs : ValueTrees) → repetition_of f ≡ Repeated → json.array (items_json (inside_json_as texts f) vs) ≡ field_json_as texts f (list vs)
repeated_json texts (leaf n r t) vs e = rw e refl
repeated_json texts (fields n r a fs) vs e = rw e refl

-- a REPEATED value is a list of values that fit, and is shown as an array of them
pub list_fits : (f : Field) (w : Value) (vs : Vec Value Global) (xs : List Value) → repetition_of f ≡ Repeated → w ≡ ListOf vs → xs ≡ vs.items → each (fits_inside f) (views xs) ≡ fits f (value_view w)
list_fits f w vs xs r is same = ap (λ ys. each (fits_inside f) (views ys)) same ∙ repeated_fits f (views vs.items) r ∙ ap (fits f) (sym (ap value_view is ∙ view-List vs))

pub list_json : (texts : Bool) (f : Field) (w : Value) (vs : Vec Value Global) (xs : List Value) → repetition_of f ≡ Repeated → w ≡ ListOf vs → xs ≡ vs.items → json.array (items_json (inside_json_as texts f) (views xs)) ≡ field_json_as texts f (value_view w)
list_json texts f w vs xs r is same = ap (λ ys. json.array (items_json (inside_json_as texts f) (views ys))) same ∙ repeated_json texts f (views vs.items) r ∙ ap (field_json_as texts f) (sym (ap value_view is ∙ view-List vs))

-- ---- fields one by one

-- where the later values do not fit, all do not
pub misfit_after : (i : ℕ) (fs : List CodeField) (vs : List Value) → fits_each (field_views (drop i fs)) (views (drop i vs)) ≡ false → fits_each (field_views fs) (views vs) ≡ false
misfit_after zero fs vs h = h
misfit_after (suc i) [] [] h = absurd (true≢false h)
misfit_after (suc i) [] (v ∷ vs) h = refl
misfit_after (suc i) (f ∷ fs) [] h = refl
misfit_after (suc i) (f ∷ fs) (v ∷ vs) h = and_false (fits (field_view f) (value_view v)) (fits_each (field_views fs) (views vs)) (misfit_after i fs vs h)

-- a value that does not fit is refused for all
pub member_misfit : (fs rest : List CodeField) (vs others : List Value) (i : ℕ) (f : CodeField) (v : Value) (e : Refusal) → drop i fs ≡ f ∷ rest → drop i vs ≡ v ∷ others
    → HasCause (IsMisfit (fits (field_view f) (value_view v))) e → HasCause (IsMisfit (fits_each (field_views fs) (views vs))) e
member_misfit fs rest vs others i f v Memory at there h = tt
member_misfit fs rest vs others i f v e at there h = (h.0, misfit_after i fs vs (rw (at, there) (not_both (fits (field_view f) (value_view v)) (fits_each (field_views rest) (views others)) h.1)))

-- ---- items one by one

pub item_misfit : (p : ValueTree → Bool) (xs rest : List Value) (i : ℕ) (v : Value) (e : Refusal) → drop i xs ≡ v ∷ rest → each p (views (drop i xs)) ≡ each p (views xs) → HasCause (IsMisfit (p (value_view v))) e
    → HasCause (IsMisfit (each p (views xs))) e
item_misfit p xs rest i v Memory here left h = tt
item_misfit p xs rest i v e here left h = (h.0, sym left ∙ ap (λ ys. each p (views ys)) here ∙ not_both (p (value_view v)) (each p (views rest)) h.1)

pub all_fit : (p : ValueTree → Bool) (xs ys : List Value) → ys ≡ [] → each p (views ys) ≡ each p (views xs) → each p (views xs) ≡ true
all_fit p xs ys none left = sym left ∙ ap (λ zs. each p (views zs)) none

pub all_shown : (shown : ValueTree → Data) (made : List Data) (xs ys : List Value) → ys ≡ [] → made ++ map (λ w. shown (value_view w)) ys ≡ map (λ w. shown (value_view w)) xs → items_of made ≡ items_json shown (views xs)
all_shown shown made xs ys none so =
    ap items_of (sym (append-nil made) ∙ sym (ap (λ zs. made ++ map (λ w. shown (value_view w)) zs) none) ∙ so) ∙ items_seen shown xs
