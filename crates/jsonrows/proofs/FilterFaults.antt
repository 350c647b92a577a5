-- Which faults a filter's text can have.
use Rattle.std.proofs.Common.{◌≡◌, ℕ, Bool, true, false, List, [], ◌∷◌, Option, Some, None, option_map, if◌then◌else◌, Result, Ok, Err, sym, ap, subst, ◌∙◌}
use Rattle.std.specs.Prelude.{IfErr}
use Rattle.std.proofs.lemmas.Option.{same_Some as some_same}
use Rattle.bits.specs.declared.refusal.Refusal.{Refusal}
use Rattle.bits.specs.declared.refusal.Refusal.TheVariants.{RowShape, Script, Memory}
use Rattle.bits.specs.Refusals.{HasCause, RefusedOnly}
use Rattle.serde_json.specs.Data.{Data, null, boolean, number, string, array, object, Items, no_items, item}
use Rattle.serde_json.specs.Find.{as_i64}
use Rattle.serde_json.specs.Read.{read}
use Rattle.schema.specs.Annotations.{LeafType}
use Rattle.schema.specs.Values.{ValueTree}
use Rattle.schema.specs.Values as value
use Rattle.schema.specs.Stripe.{Leaf}
use Rattle.filter.specs.Terms.{Term, with_first, then_rest, each_of}
use Rattle.jsonrows.specs.Filters.{listed, ◌>>=◌, or_fault, name_of, column_of, operators, operator_named, operator_of, leaf_named, is_of_kind_as, by_kind, single_value_as, list_value, value_of_as, values_of_as, term_by_as, term_in_as, term_of_as, and_of_as, is_triple, only_and, filter_in_as, filter_of_as, IsRefusedFilterAs}
use Rattle.leaftext.specs.Forms.{form_if}
use Rattle.rowtext.specs.Reading.{leaf_read_as}

abbrev pub IsOfForm : Refusal → Type 0
IsOfForm Script = Unit {0}
IsOfForm RowShape = Unit {0}
IsOfForm _ = ⊥

-- a fault is one of these two
abbrev pub AreOfForm : {A : Type 0} → Result A Refusal → Type 0
AreOfForm r = IfErr r IsOfForm

pub then_form : {A B : Type 0} (r : Result A Refusal) (f : A → Result B Refusal) → AreOfForm r → ((a : A) → AreOfForm (f a)) → AreOfForm (r >>= f)
then_form (Ok a) f h k = k a
then_form (Err e) f h k = h

pub script_form : {A : Type 0} (o : Option A) → AreOfForm (or_fault Script o)
script_form None = tt
script_form (Some a) = tt

pub shape_form : {A : Type 0} (o : Option A) → AreOfForm (or_fault RowShape o)
shape_form None = tt
shape_form (Some a) = tt

first_form : {Y : Type 0} (y : Y) (r : Result (List Y) Refusal) → AreOfForm r → AreOfForm (with_first y r)
first_form y (Ok ys) h = tt
first_form y (Err e) h = h

rest_form : {Y : Type 0} (r : Result Y Refusal) (rs : Result (List Y) Refusal) → AreOfForm r → AreOfForm rs → AreOfForm (then_rest r rs)
rest_form (Ok y) rs h k = first_form y rs k
rest_form (Err e) rs h k = h

pub each_form : {X Y : Type 0} (f : X → Result Y Refusal) (xs : List X) → ((x : X) → AreOfForm (f x)) → AreOfForm (each_of f xs)
each_form f [] h = tt
each_form f (x ∷ xs) h = rest_form (f x) (each_of f xs) (h x) (each_form f xs h)

pub either_form : {A : Type 0} (b : Bool) (r s : Result A Refusal) → AreOfForm r → AreOfForm s → AreOfForm (if b then r else s)
either_form true r s h k = h
either_form false r s h k = k

pub name_form : (d : Data) → AreOfForm (name_of d)
name_form null = tt
name_form (boolean b) = tt
name_form (number n) = tt
name_form (string s) = tt
name_form (array ds) = tt
name_form (object ms) = tt

column_form : (d : Data) → AreOfForm (column_of d)
column_form null = tt
column_form (boolean b) = tt
column_form (number n) = tt
column_form (string s) = tt
column_form (array ds) = each_form name_of (listed ds) name_form
column_form (object ms) = tt

operator_form : (d : Data) → AreOfForm (operator_of d)
operator_form null = tt
operator_form (boolean b) = tt
operator_form (number n) = tt
operator_form (string s) = script_form (operator_named operators s)
operator_form (array ds) = tt
operator_form (object ms) = tt

kind_form : (d : Data) → AreOfForm (by_kind d)
kind_form null = tt
kind_form (boolean b) = tt
kind_form (number n) = script_form (option_map value.integer (as_i64 n))
kind_form (string s) = tt
kind_form (array ds) = tt
kind_form (object ms) = tt

module _ (texts : Bool) where
  single_form : (t : Option LeafType) (d : Data) → AreOfForm (single_value_as texts t d)
  single_form (Some t) d = either_form (is_of_kind_as (form_if texts t) t.kind d) (or_fault RowShape (leaf_read_as texts t d)) (by_kind d) (shape_form (leaf_read_as texts t d)) (kind_form d)
  single_form None d = kind_form d

list_form : (r : Result (List ValueTree) Refusal) → AreOfForm r → AreOfForm (list_value r)
list_form (Ok vs) h = tt
list_form (Err e) h = h

module _ (texts : Bool) where
  mutual
    value_form : (t : Option LeafType) (d : Data) → AreOfForm (value_of_as texts t d)
    value_form t null = single_form texts t null
    value_form t (boolean b) = single_form texts t (boolean b)
    value_form t (number n) = single_form texts t (number n)
    value_form t (string s) = single_form texts t (string s)
    value_form t (array ds) = list_form (values_of_as texts t ds) (values_form t ds)
    value_form t (object ms) = single_form texts t (object ms)

    values_form : (t : Option LeafType) (ds : Items) → AreOfForm (values_of_as texts t ds)
    values_form t no_items = tt
    values_form t (item d ds) = rest_form (value_of_as texts t d) (values_of_as texts t ds) (value_form t d) (values_form t ds)

  term_form_by : (leaves : List Leaf) (c o v : Data) → AreOfForm (term_by_as texts leaves c o v)
  term_form_by leaves c o v =
      then_form (column_of c) _ (column_form c) (λ names. then_form (operator_of o) _ (operator_form o) (λ operator. then_form (value_of_as texts (leaf_named leaves names) v) _ (value_form (leaf_named leaves names) v) (λ operand. tt)))

  term_form_in : (leaves : List Leaf) (ds : List Data) → AreOfForm (term_in_as texts leaves ds)
  term_form_in leaves [] = tt
  term_form_in leaves (c ∷ []) = tt
  term_form_in leaves (c ∷ o ∷ []) = tt
  term_form_in leaves (c ∷ o ∷ v ∷ []) = term_form_by leaves c o v
  term_form_in leaves (c ∷ o ∷ v ∷ d ∷ ds) = tt

  term_form : (leaves : List Leaf) (d : Data) → AreOfForm (term_of_as texts leaves d)
  term_form leaves null = tt
  term_form leaves (boolean b) = tt
  term_form leaves (number n) = tt
  term_form leaves (string s) = tt
  term_form leaves (array ds) = term_form_in leaves (listed ds)
  term_form leaves (object ms) = tt

  and_form : (leaves : List Leaf) (d : Data) → AreOfForm (and_of_as texts leaves d)
  and_form leaves null = tt
  and_form leaves (boolean b) = tt
  and_form leaves (number n) = tt
  and_form leaves (string s) = tt
  and_form leaves (array ds) = each_form (term_of_as texts leaves) (listed ds) (term_form leaves)
  and_form leaves (object ms) = tt

only_form : (r : Result (List Term) Refusal) → AreOfForm r → AreOfForm (only_and r)
only_form (Ok ts) h = tt
only_form (Err e) h = h

module _ (texts : Bool) where
  filter_form_in : (leaves : List Leaf) (ds : List Data) → AreOfForm (filter_in_as texts leaves ds)
  filter_form_in leaves [] = tt
  filter_form_in leaves (d ∷ ds) =
      either_form (is_triple d) (only_and (each_of (term_of_as texts leaves) (d ∷ ds))) (each_of (and_of_as texts leaves) (d ∷ ds)) (only_form (each_of (term_of_as texts leaves) (d ∷ ds)) (each_form (term_of_as texts leaves) (d ∷ ds) (term_form texts leaves)))
      (each_form (and_of_as texts leaves) (d ∷ ds) (and_form texts leaves))

  pub filter_form : (leaves : List Leaf) (d : Data) → AreOfForm (filter_of_as texts leaves d)
  filter_form leaves null = tt
  filter_form leaves (boolean b) = tt
  filter_form leaves (number n) = tt
  filter_form leaves (string s) = tt
  filter_form leaves (array ds) = filter_form_in leaves (listed ds)
  filter_form leaves (object ms) = tt

module _ (texts : Bool) where
  refused_at : (leaves : List Leaf) (text : List ℕ) (d : Data) (e : Refusal) → read text ≡ Some d → HasCause (λ x. filter_of_as texts leaves d ≡ Err x) e → IsRefusedFilterAs texts leaves text e
  refused_at leaves text d Script reads h = λ x r. ap (filter_of_as texts leaves) (some_same x d (sym r ∙ reads)) ∙ h
  refused_at leaves text d RowShape reads h = (d, reads, h)
  refused_at leaves text d Memory reads h = tt
  refused_at leaves text d e reads h = absurd (subst AreOfForm h (filter_form texts leaves d))

  -- what the JSON value is refused for, the text is refused for
  pub refused : {X : Type 0} (leaves : List Leaf) (text : List ℕ) (d : Data) (r : Result X Refusal) → read text ≡ Some d → RefusedOnly (λ x. filter_of_as texts leaves d ≡ Err x) r → IfErr r (IsRefusedFilterAs texts leaves text)
  refused leaves text d (Ok x) reads h = tt
  refused leaves text d (Err e) reads h = refused_at leaves text d e reads h
