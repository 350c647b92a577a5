-- Which faults a call's text can have.
use Rattle.std.proofs.Common.{◌≡◌, ◌≤◌, ◌⊎◌, inl, inr, ℕ, suc, option_and_then, arith, Bool, true, false, List, ◌∷◌, codes, Option, Some, None, if◌then◌else◌, Result, Ok, Err, refl, sym, ap, subst, ◌∙◌}
use Rattle.std.specs.Prelude.{IfErr, IfOk}
use Rattle.std.proofs.lemmas.Option.{same_Some as some_same}
use Rattle.lists.proofs.Options.{and_then_some as and_then_gave}
use Rattle.bits.specs.declared.refusal.Refusal.{Refusal}
use Rattle.bits.specs.declared.refusal.Refusal.TheVariants.{RowShape, Script, Memory}
use Rattle.bits.specs.Refusals.{HasCause, RefusedOnly, IsFault}
use Rattle.serde_json.specs.Data.{Data, depth, members_depth, null, boolean, number, string, array, object}
use Rattle.serde_json.specs.Find.{as_u64, as_str, get}
use Rattle.serde_json.specs.Read.{read}
use Rattle.schema.specs.Shape.{Fields}
use Rattle.schema.specs.Elements.{Element}
use Rattle.schema.specs.Stripe.{leaves_of}
use Rattle.filter.specs.Terms.{each_of}
use Rattle.table.specs.Calls.{Call, add_column}
use Rattle.rowtext.specs.Reading.{bytes_of_digits, members_read_as}
use Rattle.jsonrows.specs.declared.call_form.Form.{Form}
use Rattle.jsonrows.specs.declared.call_form.Form.TheVariants as form
use Rattle.jsonrows.specs.Filters.{listed, ◌>>=◌, or_fault, name_of, filter_of_as}
use Rattle.jsonrows.specs.SchemaJson.{has_only, SaysColumn}
use Rattle.jsonrows.specs.Calls.{natural_of, naturals_of, row_in_as, rows_of_as, columns_of, bytes_of, members_of, forms, form_named, member_of, form_by, form_if, form_of, rows_at_as, natural_at, numbers_at, filter_at_as, columns_at, bytes_at, call_by_as, IsNewColumn, IsCallAs, IsCallTextAs, IsRefusedValueAs, IsRefusedCallAs}
use Rattle.jsonrows.proofs.SchemaMembers.{is_string, is_object}
use Rattle.jsonrows.proofs.SchemaFields.{member_depth}
use Rattle.jsonrows.proofs.FilterFaults.{AreOfForm, then_form, script_form, shape_form, each_form, name_form, filter_form}

-- ---- members

natural_form : (d : Data) → AreOfForm (natural_of d)
natural_form null = tt
natural_form (boolean b) = tt
natural_form (number n) = script_form (as_u64 n)
natural_form (string s) = tt
natural_form (array ds) = tt
natural_form (object ms) = tt

naturals_form : (d : Data) → AreOfForm (naturals_of d)
naturals_form null = tt
naturals_form (boolean b) = tt
naturals_form (number n) = tt
naturals_form (string s) = tt
naturals_form (array ds) = each_form natural_of (listed ds) natural_form
naturals_form (object ms) = tt

module _ (texts : Bool) where
  row_form : (fs : Fields) (d : Data) → AreOfForm (row_in_as texts fs d)
  row_form fs null = tt
  row_form fs (boolean b) = tt
  row_form fs (number n) = tt
  row_form fs (string s) = tt
  row_form fs (array ds) = tt
  row_form fs (object ms) = shape_form (members_read_as texts fs ms)

  rows_form : (fs : Fields) (d : Data) → AreOfForm (rows_of_as texts fs d)
  rows_form fs null = tt
  rows_form fs (boolean b) = tt
  rows_form fs (number n) = tt
  rows_form fs (string s) = tt
  rows_form fs (array ds) = each_form (row_in_as texts fs) (listed ds) (row_form fs)
  rows_form fs (object ms) = tt

columns_form : (d : Data) → AreOfForm (columns_of d)
columns_form null = tt
columns_form (boolean b) = tt
columns_form (number n) = tt
columns_form (string s) = tt
columns_form (array ds) = then_form (each_of name_of (listed ds)) _ (each_form name_of (listed ds) name_form) (λ names. tt)
columns_form (object ms) = tt

bytes_form : (d : Data) → AreOfForm (bytes_of d)
bytes_form null = tt
bytes_form (boolean b) = tt
bytes_form (number n) = tt
bytes_form (string s) = script_form (bytes_of_digits s)
bytes_form (array ds) = tt
bytes_form (object ms) = tt

member_form : {A : Type 0} (name : List ℕ) (d : Data) (f : Data → Result A Refusal) → ((x : Data) → AreOfForm (f x)) → AreOfForm (member_of name d >>= f)
member_form name d f h = then_form (member_of name d) f (script_form (get name d)) h

-- the first fault is that of the whole
pub then_fault : {A B : Type 0} (r : Result A Refusal) (f : A → Result B Refusal) (e : Refusal) → HasCause (λ x. r ≡ Err x) e → HasCause (λ x. (r >>= f) ≡ Err x) e
then_fault r f Memory h = tt
then_fault r f e h = ap (λ q. q >>= f) h

module _ (texts : Bool) where
  -- ---- calls

  made_form : (fs : Fields) (d : Data) (f : Form) → AreOfForm (call_by_as texts fs d f)
  made_form fs d form.Append = then_form (rows_at_as texts fs d) _ (member_form (codes "rows") d (rows_of_as texts fs) (rows_form texts fs)) (λ rows. tt)
  made_form fs d form.BeginAppend = tt
  made_form fs d form.Stage = then_form (natural_at (codes "job") d) _ (member_form (codes "job") d natural_of natural_form) (λ job. then_form (rows_at_as texts fs d) _ (member_form (codes "rows") d (rows_of_as texts fs) (rows_form texts fs)) (λ rows. tt))
  made_form fs d form.Commit = then_form (natural_at (codes "job") d) _ (member_form (codes "job") d natural_of natural_form) (λ job. tt)
  made_form fs d form.Abort = then_form (natural_at (codes "job") d) _ (member_form (codes "job") d natural_of natural_form) (λ job. tt)
  made_form fs d form.Remove = then_form (filter_at_as texts fs d) _ (member_form (codes "filter") d (filter_of_as texts (leaves_of fs)) (filter_form texts (leaves_of fs))) (λ terms. tt)
  made_form fs d form.RemoveGroups = then_form (numbers_at d) _ (member_form (codes "numbers") d naturals_of naturals_form) (λ numbers. tt)
  made_form fs d form.BeginRewrite = then_form (numbers_at d) _ (member_form (codes "numbers") d naturals_of naturals_form) (λ numbers. tt)
  made_form fs d form.StepRewrite = then_form (natural_at (codes "job") d) _ (member_form (codes "job") d natural_of natural_form) (λ job. tt)
  made_form fs d form.PlanRewrite = then_form (natural_at (codes "min_rows") d) _ (member_form (codes "min_rows") d natural_of natural_form) (λ least. tt)
  made_form fs d form.Query =
      then_form (filter_at_as texts fs d) _ (member_form (codes "filter") d (filter_of_as texts (leaves_of fs)) (filter_form texts (leaves_of fs))) (λ terms. then_form (columns_at d) _ (member_form (codes "columns") d columns_of columns_form) (λ columns. tt))
  made_form fs d form.Fetch = then_form (natural_at (codes "cursor") d) _ (member_form (codes "cursor") d natural_of natural_form) (λ cursor. tt)
  made_form fs d form.Close = then_form (natural_at (codes "cursor") d) _ (member_form (codes "cursor") d natural_of natural_form) (λ cursor. tt)
  made_form fs d form.Groups = tt
  made_form fs d form.Count = then_form (filter_at_as texts fs d) _ (member_form (codes "filter") d (filter_of_as texts (leaves_of fs)) (filter_form texts (leaves_of fs))) (λ terms. tt)
  made_form fs d form.Import = then_form (bytes_at d) _ (member_form (codes "bytes") d bytes_of bytes_form) (λ bytes. tt)
  made_form fs d form.AddColumn = tt
  made_form fs d form.Reopen = tt

abbrev form_chosen : Form → Bool → Result Form Refusal
form_chosen f b = if b then Ok f else Err Script

-- the form of a call is refused Script alone
abbrev OnlyScript : {A : Type 0} → Result A Refusal → Type 0
OnlyScript r = IfErr r (λ e. e ≡ Script)

or_script : {A : Type 0} (o : Option A) → OnlyScript (or_fault Script o)
or_script None = refl
or_script (Some a) = tt

then_script : {A B : Type 0} (r : Result A Refusal) (f : A → Result B Refusal) → OnlyScript r → ((a : A) → OnlyScript (f a)) → OnlyScript (r >>= f)
then_script (Ok a) f h k = k a
then_script (Err e) f h k = h

form_by_script : (d : Data) → OnlyScript (form_by d)
form_by_script null = refl
form_by_script (boolean b) = refl
form_by_script (number n) = refl
form_by_script (string s) = or_script (form_named forms s)
form_by_script (array ds) = refl
form_by_script (object ms) = refl

form_if_script : (d : Data) (f : Form) → OnlyScript (form_if d f)
form_if_script d f = by (has_only (codes "call" ∷ members_of f) d)
  where
    by : (b : Bool) → OnlyScript (if b then Ok f else Err Script)
    by true = tt
    by false = refl

form_script : (d : Data) → OnlyScript (form_of d)
form_script d = then_script (member_of (codes "call") d >>= form_by) (form_if d) (then_script (member_of (codes "call") d) form_by (or_script (get (codes "call") d)) form_by_script) (form_if_script d)

same_form : (r : Result Form Refusal) (f g : Form) → r ≡ Ok f → r ≡ Ok g → f ≡ g
same_form r f g h k = cc

ok_or_err : {A : Type 0} (a : A) (e : Refusal) → Ok a ≡ Err e → ⊥
ok_or_err a e h = absurd (cc)

-- a value of another form adds no column
no_column : (d : Data) (f : Form) → form_of d ≡ Ok f → (f ≡ form.AddColumn → ⊥) → (es : List Element) → IsNewColumn d es → ⊥
no_column d f is other es h = other (same_form (form_of d) f form.AddColumn is h.formed)

module _ (texts : Bool) where
  -- ---- of a JSON value

  -- the form is at fault
  pub form_refused : (fs : Fields) (d : Data) (e : Refusal) → form_of d ≡ Err e → IsRefusedValueAs texts fs d e
  form_refused fs d e is =
      let script : e ≡ Script = subst OnlyScript is (form_script d) in
      let so : form_of d ≡ Err Script = is ∙ ap Err script in
      subst (IsRefusedValueAs texts fs d) (sym script) (ap (λ r. r >>= call_by_as texts fs d) so, λ es h. ok_or_err form.AddColumn Script (sym h.formed ∙ so))

  -- a member is at fault
  pub call_refused : (fs : Fields) (d : Data) (f : Form) (e : Refusal) → form_of d ≡ Ok f → (f ≡ form.AddColumn → ⊥) → HasCause (λ x. call_by_as texts fs d f ≡ Err x) e → IsRefusedValueAs texts fs d e
  call_refused fs d f Script is other h = (ap (λ r. r >>= call_by_as texts fs d) is ∙ h, no_column d f is other)
  call_refused fs d f RowShape is other h = ap (λ r. r >>= call_by_as texts fs d) is ∙ h
  call_refused fs d f Memory is other h = tt
  call_refused fs d f e is other h = absurd (subst AreOfForm h (made_form texts fs d f))

  pub call_made : (fs : Fields) (d : Data) (f : Form) (call : Call) → form_of d ≡ Ok f → call_by_as texts fs d f ≡ Ok call → IsCallAs texts fs d call
  call_made fs d f call is made = inl (ap (λ r. r >>= call_by_as texts fs d) is ∙ made)

  -- the field of a new column is at fault
  pub column_refused : (fs : Fields) (d : Data) → form_of d ≡ Ok form.AddColumn → ((es : List Element) → IsNewColumn d es → ⊥) → IsRefusedValueAs texts fs d Script
  column_refused fs d is none = (ap (λ r. r >>= call_by_as texts fs d) is, none)

pub no_field : (d : Data) → get (codes "field") d ≡ None → (es : List Element) → IsNewColumn d es → ⊥
no_field d lacks es h = by (sym lacks ∙ h.there)
  where
    by : None ≡ Some h.field → ⊥
    by e = absurd (cc)

pub no_elements_said : (d field : Data) → get (codes "field") d ≡ Some field → ((es : List Element) → SaysColumn field es → ⊥) → (es : List Element) → IsNewColumn d es → ⊥
no_elements_said d field there none es h = none es (subst (λ x. SaysColumn x es) (some_same h.field field (sym h.there ∙ there)) h.say)

memory_or_script : (e : Refusal) → HasCause (λ x. x ≡ Script) e → (e ≡ Memory) ⊎ (e ≡ Script)
memory_or_script Memory h = inl refl
memory_or_script e h = inr h

module _ (texts : Bool) where
  -- why a field is no column is why the call is refused
  pub field_refused : (d field : Data) (e : Refusal) → form_of d ≡ Ok form.AddColumn → get (codes "field") d ≡ Some field → (IsFault e → (es : List Element) → SaysColumn field es → ⊥) → HasCause (λ x. x ≡ Script) e
      → (fs : Fields) → IsRefusedValueAs texts fs d e
  field_refused d field e is there none h fs =
      elim (memory_or_script e h) [
        | inl m ↦ subst (IsRefusedValueAs texts fs d) (sym m) tt
        | inr s ↦ subst (IsRefusedValueAs texts fs d) (sym s) (column_refused texts fs d is (no_elements_said d field there (subst (λ x. IsFault x → (es : List Element) → SaysColumn field es → ⊥) s none tt)))
      ]

-- the field nests no deeper than the call
pub field_depth : (d field : Data) → get (codes "field") d ≡ Some field → depth d ≤ 127 → depth field ≤ 127
field_depth d field there low =
    let p = is_object (codes "field") d field there in
    let inside : depth field ≤ members_depth p.0 = member_depth (codes "field") p.0 field (sym (ap (get (codes "field")) p.1) ∙ there) in
    let whole : suc (members_depth p.0) ≤ 127 = subst (λ x. depth x ≤ 127) p.1 low in
    omega (arith, inside, whole)

-- ---- the form of a call

call_name : (d : Data) (o : Option Data) (s : List ℕ) → get (codes "call") d ≡ o → option_and_then as_str o ≡ Some s → member_of (codes "call") d ≡ Ok (string s)
call_name d o s there text = let p = and_then_gave as_str o s text in ap (or_fault Script) (there ∙ p.1 ∙ ap Some (is_string p.0 s p.2))

form_at : (d : Data) (o : Option Data) (s : List ℕ) → get (codes "call") d ≡ o → option_and_then as_str o ≡ Some s → form_of d ≡ (or_fault Script (form_named forms s) >>= form_if d)
form_at d o s there text = ap (λ r. (r >>= form_by) >>= form_if d) (call_name d o s there text)

pub form_found : (d : Data) (o : Option Data) (s : List ℕ) (f : Form) (ns : List (List ℕ)) (b : Bool) → get (codes "call") d ≡ o → option_and_then as_str o ≡ Some s → form_named forms s ≡ Some f → ns ≡ codes "call" ∷ members_of f → b ≡ has_only ns d → b ≡ true
    → form_of d ≡ Ok f
form_found d o s f ns b there text named names only is =
    form_at d o s there text ∙ ap (λ x. or_fault Script x >>= form_if d) named ∙ ap (λ t. form_chosen f t) (ap (λ xs. has_only xs d) (sym names) ∙ sym only ∙ is)

pub form_not_named : (d : Data) (o : Option Data) (s : List ℕ) → get (codes "call") d ≡ o → option_and_then as_str o ≡ Some s → form_named forms s ≡ None → form_of d ≡ Err Script
form_not_named d o s there text named = form_at d o s there text ∙ ap (λ x. or_fault Script x >>= form_if d) named

pub form_not_only : (d : Data) (o : Option Data) (s : List ℕ) (f : Form) (ns : List (List ℕ)) (b : Bool) → get (codes "call") d ≡ o → option_and_then as_str o ≡ Some s → form_named forms s ≡ Some f → ns ≡ codes "call" ∷ members_of f → b ≡ has_only ns d → b ≡ false
    → form_of d ≡ Err Script
form_not_only d o s f ns b there text named names only is =
    form_at d o s there text ∙ ap (λ x. or_fault Script x >>= form_if d) named ∙ ap (λ t. form_chosen f t) (ap (λ xs. has_only xs d) (sym names) ∙ sym only ∙ is)

module _ (texts : Bool) where
  pub column_made : (fs : Fields) (d field : Data) (es : List Element) → form_of d ≡ Ok form.AddColumn → get (codes "field") d ≡ Some field → SaysColumn field es → IsCallAs texts fs d (add_column es)
  column_made fs d field es is there say = inr (es, record { field = field; formed = is; there = there; say = say }, refl)

  -- ---- of a text

  pub text_refused : (fs : Fields) (text : List ℕ) (d : Data) (e : Refusal) → read text ≡ Some d → IsRefusedValueAs texts fs d e → IsRefusedCallAs texts fs text e
  text_refused fs text d Script reads h = λ x r. subst (λ y. IsRefusedValueAs texts fs y Script) (some_same d x (sym reads ∙ r)) h
  text_refused fs text d RowShape reads h = (d, reads, h)
  text_refused fs text d Memory reads h = tt
  text_refused fs text d e reads h = absurd h

  pub call_text_refused : {X : Type 0} (fs : Fields) (text : List ℕ) (d : Data) (r : Result X Refusal) → read text ≡ Some d → IfErr r (IsRefusedValueAs texts fs d) → IfErr r (IsRefusedCallAs texts fs text)
  call_text_refused fs text d (Ok x) reads h = tt
  call_text_refused fs text d (Err e) reads h = text_refused fs text d e reads h

  pub call_text_made : {X : Type 0} (fs : Fields) (text : List ℕ) (d : Data) (seen : X → Call) (r : Result X Refusal) → read text ≡ Some d → IfOk r (λ x. IsCallAs texts fs d (seen x)) → IfOk r (λ x. IsCallTextAs texts fs text (seen x))
  call_text_made fs text d seen (Ok x) reads h = (d, reads, h)
  call_text_made fs text d seen (Err e) reads h = tt

  pub no_json : (fs : Fields) (text : List ℕ) (e : Refusal) → (e ≡ Memory) ⊎ ((e ≡ Script) × (read text ≡ None)) → IsRefusedCallAs texts fs text e
  no_json fs text e h = elim h [ inl m ↦ subst (IsRefusedCallAs texts fs text) (sym m) tt | inr s ↦ subst (IsRefusedCallAs texts fs text) (sym s.0) (λ d r. none (sym s.1 ∙ r)) ]
    where
      none : {A : Type 0} {d : Data} → None ≡ Some d → A
      none e = absurd (cc)

-- ---- results

pub at_schema : {X : Type 0} (texts : Bool) (fs : Fields) (P : Bool → Fields → X → Type 0) (r : Result X Refusal) → IfOk r (λ x. (b : Bool) (gs : Fields) → P b gs x) → IfOk r (P texts fs)
at_schema texts fs P (Ok x) h = h texts fs
at_schema texts fs P (Err e) h = tt

module _ (texts : Bool) where
  pub calls_made : {X : Type 0} (seen : X → Call) (fs : Fields) (d : Data) (f : Form) (r : Result X Refusal) → form_of d ≡ Ok f → IfOk r (λ x. call_by_as texts fs d f ≡ Ok (seen x)) → IfOk r (λ x. IsCallAs texts fs d (seen x))
  calls_made seen fs d f (Ok x) is h = call_made texts fs d f (seen x) is h
  calls_made seen fs d f (Err e) is h = tt

  pub calls_refused : {X : Type 0} (fs : Fields) (d : Data) (f : Form) (r : Result X Refusal) → form_of d ≡ Ok f → (f ≡ form.AddColumn → ⊥) → RefusedOnly (λ e. call_by_as texts fs d f ≡ Err e) r → IfErr r (IsRefusedValueAs texts fs d)
  calls_refused fs d f (Ok x) is other h = tt
  calls_refused fs d f (Err e) is other h = call_refused texts fs d f e is other h
