-- A member that is taken out of an object, and the values of fields by their members.
use Rattle.std.proofs.Common.{Bool, ◌≡◌, List, [], ◌∷◌, ℕ, length, Option, Some, None, option_map, option_and_then, Vec, Global, Ordering, Less, Equal, Greater, cond, is_eq, string_bytes, nat_cmp, refl, sym, ap, ap₂, ◌∙◌, arith}
use Rattle.std.specs.Cmp.Lexicographic.{slice_cmp}
use Rattle.std.specs.Ordering.{match_ordering}
use Rattle.std.specs.BTreeMap.{is_at}
use Rattle.std.specs.Map.{lookup, remove_entry}
use Rattle.serde_json.specs.Data.{Data, Items, Members, no_members, member}
use Rattle.serde_json.specs.Data as json
use Rattle.serde_json.specs.Find.{get_member}
use Rattle.serde_json.specs.View.{view, items_view, members_view}
use Rattle.serde_json.specs.declared.value.Value.{Value, Array}
use Rattle.serde_json.proofs.Views.{Entry, view-lookup, view-Array}
use Rattle.schema.specs.declared.value.Repetition.TheVariants.{Repeated}
use Rattle.schema.specs.declared.field.Field.{Field as CodeField}
use Rattle.schema.specs.declared.value.Value.{Value as RowValue}
use Rattle.schema.specs.declared.value.Value.TheVariants.{List as ListOf}
use Rattle.schema.specs.Values.{list, no_values, views, view as value_view}
use Rattle.schema.specs.Views.{field_view, field_views}
use Rattle.schema.specs.Shape.{Field, leaf, fields, name_of, repetition_of}
use Rattle.rowtext.specs.Json.{hex_name}
use Rattle.rowtext.specs.Reading.{digits_read, if_alone, hex_read, without, value_before, items_read, inside_read_as, field_read_as, members_read_as}
use Rattle.rowtext.proofs.Forms.{view-List}

taken_or_not : (o : Ordering) (e : Entry) (es rest : List Entry) (ms : Members) → members_view rest ≡ ms
    → members_view (cond (is_eq o) es (e ∷ rest)) ≡ match_ordering o (member (string_bytes e.0) (view e.1) ms) (members_view es) (member (string_bytes e.0) (view e.1) ms)
taken_or_not Less e es rest ms is = ap (member (string_bytes e.0) (view e.1)) is
taken_or_not Equal e es rest ms is = refl
taken_or_not Greater e es rest ms is = ap (member (string_bytes e.0) (view e.1)) is

-- the entries but that of a name
pub view-remove_entry : (name : List ℕ) (es : List Entry) → members_view (remove_entry (is_at (λ k. slice_cmp nat_cmp name (string_bytes k))) es) ≡ without name (members_view es)
view-remove_entry name [] = refl
view-remove_entry name (e ∷ es) = taken_or_not (slice_cmp nat_cmp name (string_bytes e.0)) e es _ _ (view-remove_entry name es)

-- ---- the digits in an object

none_alone : (ms : Members) → if_alone None ms ≡ None
none_alone no_members = refl
none_alone (member k d ms) = refl

alone_left : (o : Option Data) (es : List Entry) → length es ≡ 0 → if_alone o (members_view es) ≡ o
alone_left o [] h = refl
alone_left o (e ∷ es) h = absurd (omega arith)

more_left : (o : Option Data) (es : List Entry) → (length es ≡ 0 → ⊥) → if_alone o (members_view es) ≡ None
more_left o [] h = absurd (h refl)
more_left o (e ∷ es) h = refl

-- an object without this member
pub hex_none : (es : List Entry) (taken : Option Value) → taken ≡ lookup (is_at (λ k. slice_cmp nat_cmp hex_name (string_bytes k))) es → taken ≡ None → None ≡ hex_read (members_view es)
hex_none es taken found none =
    let there : None ≡ get_member hex_name (members_view es) = ap (option_map view) (sym none ∙ found) ∙ view-lookup hex_name es in
    ap (option_and_then digits_read) (sym (none_alone (without hex_name (members_view es))) ∙ ap (λ o. if_alone o (without hex_name (members_view es))) there)

-- an object with other members too
pub hex_more : (es left : List Entry) → left ≡ remove_entry (is_at (λ k. slice_cmp nat_cmp hex_name (string_bytes k))) es → (length left ≡ 0 → ⊥) → None ≡ hex_read (members_view es)
hex_more es left removed more =
    let others : members_view left ≡ without hex_name (members_view es) = ap members_view removed ∙ view-remove_entry hex_name es in
    ap (option_and_then digits_read) (sym (more_left (get_member hex_name (members_view es)) left more) ∙ ap (if_alone (get_member hex_name (members_view es))) others)

-- an object with this member alone
pub hex_one : (es left : List Entry) (taken : Option Value) (v : Value) → taken ≡ lookup (is_at (λ k. slice_cmp nat_cmp hex_name (string_bytes k))) es → taken ≡ Some v
    → left ≡ remove_entry (is_at (λ k. slice_cmp nat_cmp hex_name (string_bytes k))) es → length left ≡ 0 → digits_read (view v) ≡ hex_read (members_view es)
hex_one es left taken v found some removed none =
    let there : Some (view v) ≡ get_member hex_name (members_view es) = ap (option_map view) (sym some ∙ found) ∙ view-lookup hex_name es in
    let others : members_view left ≡ without hex_name (members_view es) = ap members_view removed ∙ view-remove_entry hex_name es in
    ap (option_and_then digits_read) (sym (alone_left (Some (view v)) left none) ∙ ap₂ if_alone there others)

module _ (texts : Bool) where
  -- the first field takes the member of its name
  pub takes : (all rest : List CodeField) (f : CodeField) (name : List ℕ) (es left : List Entry) (taken : Option Value) → all ≡ f ∷ rest → name ≡ name_of (field_view f)
      → taken ≡ lookup (is_at (λ k. slice_cmp nat_cmp name (string_bytes k))) es → left ≡ remove_entry (is_at (λ k. slice_cmp nat_cmp name (string_bytes k))) es
      → members_read_as texts (field_views all) (members_view es) ≡ value_before (field_read_as texts (field_view f) (option_map view taken)) (members_read_as texts (field_views rest) (members_view left))
  takes all rest f name es left taken split named found removed =
      let ms = members_view es in
      let there : option_map view taken ≡ get_member (name_of (field_view f)) ms = ap (option_map view) found ∙ view-lookup name es ∙ ap (λ n. get_member n ms) named in
      let others : members_view left ≡ without (name_of (field_view f)) ms = ap members_view removed ∙ view-remove_entry name es ∙ ap (λ n. without n ms) named in
      ap (λ xs. members_read_as texts (field_views xs) ms) split ∙ ap₂ value_before (ap (field_read_as texts (field_view f)) (sym there)) (ap (members_read_as texts (field_views rest)) (sym others))

  -- no field is left, and no member
  pub none_left-empty : (all : List CodeField) (es : List Entry) → all ≡ [] → length es ≡ 0 → members_read_as texts (field_views all) (members_view es) ≡ Some no_values
  none_left-empty all [] none h = ap (λ xs. members_read_as texts (field_views xs) no_members) none
  none_left-empty all (e ∷ es) none h = absurd (omega arith)

  -- no field is left, and a member is
  pub none_left-more : (all : List CodeField) (es : List Entry) → all ≡ [] → (length es ≡ 0 → ⊥) → members_read_as texts (field_views all) (members_view es) ≡ None
  none_left-more all [] none h = absurd (h refl)
  none_left-more all (e ∷ es) none h = ap (λ xs. members_read_as texts (field_views xs) (members_view (e ∷ es))) none

  pub repeated-field_read : (f : Field) (ds : Items) → repetition_of f ≡ Repeated → field_read_as texts f (Some (json.array ds)) ≡ option_map list (items_read (inside_read_as texts f) ds)
  repeated-field_read (leaf n r t) ds e = rw e refl
  repeated-field_read (fields n r a fs) ds e = rw e refl

  -- a REPEATED value is the list of what the items of an array are
  pub repeated_read : (f : Field) (items : Vec Value Global) (vs : Vec RowValue Global) → repetition_of f ≡ Repeated → Some (views vs.items) ≡ items_read (inside_read_as texts f) (items_view items.items)
      → Some (value_view (ListOf vs)) ≡ field_read_as texts f (Some (view (Array items)))
  repeated_read f items vs r e = ap Some (view-List vs) ∙ ap (option_map list) e ∙ sym (repeated-field_read f (items_view items.items) r) ∙ ap (λ d. field_read_as texts f (Some d)) (sym (view-Array items))
