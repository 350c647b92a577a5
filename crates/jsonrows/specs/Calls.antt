-- Calls as JSON values (RFC 8259): an object with the call's name and exactly the members of its form, in any order.
use Rattle.std.specs.Prelude.{◌≡◌, ◌⊎◌, ℕ, Bool, false, bytes_eq, codes, List, [], ◌∷◌, Option, Some, None, if◌then◌else◌, Result, Ok, Err}
use Rattle.serde_json.specs.Data.{Data, null, number, string, array, object}
use Rattle.serde_json.specs.Find.{as_u64, get}
use Rattle.serde_json.specs.Read.{read}
use Rattle.bits.specs.declared.refusal.Refusal.{Refusal}
use Rattle.bits.specs.declared.refusal.Refusal.TheVariants.{RowShape, Script, Memory}
use Rattle.bits.specs.Refusals.{HasCause}
use Rattle.schema.specs.Values.{ValueTrees}
use Rattle.schema.specs.Shape.{Fields}
use Rattle.schema.specs.Stripe.{leaves_of}
use Rattle.schema.specs.Elements.{Element}
use Rattle.filter.specs.Terms.{Term, each_of}
use Rattle.table.specs.Calls.{Call, append, begin_append, stage, commit, abort, remove, remove_groups, begin_rewrite, step_rewrite, plan_rewrite, query, fetch, close, groups, count, import, add_column, reopen}
use Rattle.rowtext.specs.Reading.{bytes_of_digits, members_read_as}
use Rattle.jsonrows.specs.declared.call_form.Form.{Form}
use Rattle.jsonrows.specs.declared.call_form.Form.TheVariants as form
use Rattle.jsonrows.specs.Filters.{listed, ◌>>=◌, or_fault, name_of, filter_of_as}
use Rattle.jsonrows.specs.SchemaJson.{has_only, SaysColumn}

-- ---- what one member is

-- a whole number from 0 to 2^64 - 1; Script for all else
abbrev pub natural_of : Data → Result ℕ Refusal
natural_of (number n) = or_fault Script (as_u64 n)
natural_of _ = Err Script

-- an array of whole numbers, each from 0 to 2^64 - 1; Script for all else
abbrev pub naturals_of : Data → Result (List ℕ) Refusal
naturals_of (array ds) = each_of natural_of (listed ds)
naturals_of _ = Err Script

-- a row of the schema; Script if the value is no object, RowShape if the object is no row
abbrev pub row_in_as : Bool → Fields → Data → Result ValueTrees Refusal
row_in_as texts fs (object ms) = or_fault RowShape (members_read_as texts fs ms)
row_in_as texts fs _ = Err Script

-- an array of rows of the schema; Script if the value is no array, and the refusal of the first row that has one
abbrev pub rows_of_as : Bool → Fields → Data → Result (List ValueTrees) Refusal
rows_of_as texts fs (array ds) = each_of (row_in_as texts fs) (listed ds)
rows_of_as texts fs _ = Err Script

-- an array of the names of columns, or null for all columns; Script for all else
abbrev pub columns_of : Data → Result (Option (List (List ℕ))) Refusal
columns_of null = Ok None
columns_of (array ds) = each_of name_of (listed ds) >>= (λ names. Ok (Some names))
columns_of _ = Err Script

-- bytes by their hexadecimal digits in lower case; Script for all else
abbrev pub bytes_of : Data → Result (List ℕ) Refusal
bytes_of (string s) = or_fault Script (bytes_of_digits s)
bytes_of _ = Err Script

-- ---- calls

-- the forms by their names
abbrev pub forms : List (List ℕ × Form)
forms =
    (codes "append", form.Append) ∷ (codes "begin_append", form.BeginAppend) ∷ (codes "stage", form.Stage) ∷ (codes "commit", form.Commit) ∷ (codes "abort", form.Abort)
    ∷ (codes "remove", form.Remove) ∷ (codes "remove_groups", form.RemoveGroups) ∷ (codes "begin_rewrite", form.BeginRewrite) ∷ (codes "step_rewrite", form.StepRewrite)
    ∷ (codes "plan_rewrite", form.PlanRewrite) ∷ (codes "query", form.Query) ∷ (codes "fetch", form.Fetch) ∷ (codes "close", form.Close) ∷ (codes "groups", form.Groups)
    ∷ (codes "count", form.Count) ∷ (codes "import", form.Import) ∷ (codes "add_column", form.AddColumn) ∷ (codes "reopen", form.Reopen) ∷ []

-- the form of this name in a list of forms; none if no form has it
abbrev pub form_named : List (List ℕ × Form) → List ℕ → Option Form
form_named [] s = None
form_named (w ∷ ws) s = if bytes_eq w.0 s then Some w.1 else form_named ws s

-- the members of a form, besides the name of the call
abbrev pub members_of : Form → List (List ℕ)
members_of form.Append = codes "rows" ∷ []
members_of form.BeginAppend = []
members_of form.Stage = codes "job" ∷ codes "rows" ∷ []
members_of form.Commit = codes "job" ∷ []
members_of form.Abort = codes "job" ∷ []
members_of form.Remove = codes "filter" ∷ []
members_of form.RemoveGroups = codes "numbers" ∷ []
members_of form.BeginRewrite = codes "numbers" ∷ []
members_of form.StepRewrite = codes "job" ∷ []
members_of form.PlanRewrite = codes "min_rows" ∷ []
members_of form.Query = codes "filter" ∷ codes "columns" ∷ []
members_of form.Fetch = codes "cursor" ∷ []
members_of form.Close = codes "cursor" ∷ []
members_of form.Groups = []
members_of form.Count = codes "filter" ∷ []
members_of form.Import = codes "bytes" ∷ []
members_of form.AddColumn = codes "field" ∷ []
members_of form.Reopen = []

-- the member of this name; Script if there is none
abbrev pub member_of : List ℕ → Data → Result Data Refusal
member_of name d = or_fault Script (get name d)

-- the form whose name a JSON value is; Script if it is the name of no form
abbrev pub form_by : Data → Result Form Refusal
form_by (string s) = or_fault Script (form_named forms s)
form_by _ = Err Script

-- the form, if all members of the object are `call` and those of the form; Script if it has another one
abbrev pub form_if : Data → Form → Result Form Refusal
form_if d f = if has_only (codes "call" ∷ members_of f) d then Ok f else Err Script

-- the form of a call: the member `call` names it, and the object has no members but those of the form; Script for all else
abbrev pub form_of : Data → Result Form Refusal
form_of d = (member_of (codes "call") d >>= form_by) >>= form_if d

-- the rows of a call, from its member `rows`
abbrev pub rows_at_as : Bool → Fields → Data → Result (List ValueTrees) Refusal
rows_at_as texts fs d = member_of (codes "rows") d >>= rows_of_as texts fs

-- the number of a call at the member of this name, such as `job` or `cursor`
abbrev pub natural_at : List ℕ → Data → Result ℕ Refusal
natural_at name d = member_of name d >>= natural_of

-- the numbers of the groups of a call, from its member `numbers`
abbrev pub numbers_at : Data → Result (List ℕ) Refusal
numbers_at d = member_of (codes "numbers") d >>= naturals_of

-- the ANDs of terms of a call over the leaves of the schema, from its member `filter`
abbrev pub filter_at_as : Bool → Fields → Data → Result (List (List Term)) Refusal
filter_at_as texts fs d = member_of (codes "filter") d >>= filter_of_as texts (leaves_of fs)

-- the names of the columns of a query, from its member `columns`; none for all columns
abbrev pub columns_at : Data → Result (Option (List (List ℕ))) Refusal
columns_at d = member_of (codes "columns") d >>= columns_of

-- the bytes of the file to import, from its member `bytes`
abbrev pub bytes_at : Data → Result (List ℕ) Refusal
bytes_at d = member_of (codes "bytes") d >>= bytes_of

-- the call of a form by its members, which are read in this order; the elements of a new column are said by `IsNewColumn`
abbrev pub call_by_as : Bool → Fields → Data → Form → Result Call Refusal
call_by_as texts fs d form.Append = rows_at_as texts fs d >>= (λ rows. Ok (append rows))
call_by_as texts fs d form.BeginAppend = Ok begin_append
call_by_as texts fs d form.Stage = natural_at (codes "job") d >>= (λ job. rows_at_as texts fs d >>= (λ rows. Ok (stage job rows)))
call_by_as texts fs d form.Commit = natural_at (codes "job") d >>= (λ job. Ok (commit job))
call_by_as texts fs d form.Abort = natural_at (codes "job") d >>= (λ job. Ok (abort job))
call_by_as texts fs d form.Remove = filter_at_as texts fs d >>= (λ terms. Ok (remove terms))
call_by_as texts fs d form.RemoveGroups = numbers_at d >>= (λ numbers. Ok (remove_groups numbers))
call_by_as texts fs d form.BeginRewrite = numbers_at d >>= (λ numbers. Ok (begin_rewrite numbers))
call_by_as texts fs d form.StepRewrite = natural_at (codes "job") d >>= (λ job. Ok (step_rewrite job))
call_by_as texts fs d form.PlanRewrite = natural_at (codes "min_rows") d >>= (λ least. Ok (plan_rewrite least))
call_by_as texts fs d form.Query = filter_at_as texts fs d >>= (λ terms. columns_at d >>= (λ columns. Ok (query terms columns)))
call_by_as texts fs d form.Fetch = natural_at (codes "cursor") d >>= (λ cursor. Ok (fetch cursor))
call_by_as texts fs d form.Close = natural_at (codes "cursor") d >>= (λ cursor. Ok (close cursor))
call_by_as texts fs d form.Groups = Ok groups
call_by_as texts fs d form.Count = filter_at_as texts fs d >>= (λ terms. Ok (count terms))
call_by_as texts fs d form.Import = bytes_at d >>= (λ bytes. Ok (import bytes))
call_by_as texts fs d form.AddColumn = Err Script
call_by_as texts fs d form.Reopen = Ok reopen

-- the call that a JSON value is; the call that adds a column is not among them, and is Script here
abbrev pub call_of_as : Bool → Fields → Data → Result Call Refusal
call_of_as texts fs d = form_of d >>= call_by_as texts fs d

-- the call that adds a column of these elements
pub record IsNewColumn (d : Data) (es : List Element) : Type 0 where
  pub field : Data
  pub formed : form_of d ≡ Ok form.AddColumn
  pub there : get (codes "field") d ≡ Some field
  pub say : SaysColumn field es

-- ---- whole texts

-- a JSON value is this call
abbrev pub IsCallAs : Bool → Fields → Data → Call → Type 0
IsCallAs texts fs d call = (call_of_as texts fs d ≡ Ok call) ⊎ ((es : List Element) × IsNewColumn d es × (call ≡ add_column es))

-- a text is JSON, and its value is this call
abbrev pub IsCallTextAs : Bool → Fields → List ℕ → Call → Type 0
IsCallTextAs texts fs text call = (d : Data) × (read text ≡ Some d) × IsCallAs texts fs d call

-- a JSON value is refused so: it is no call, or its first fault is a value that its leaf cannot hold or a row that is none of the schema
abbrev pub IsRefusedValueAs : Bool → Fields → Data → Refusal → Type 0
IsRefusedValueAs texts fs d Script = (call_of_as texts fs d ≡ Err Script) × ((es : List Element) → IsNewColumn d es → ⊥)
IsRefusedValueAs texts fs d RowShape = call_of_as texts fs d ≡ Err RowShape
IsRefusedValueAs texts fs d Memory = Unit {0}
IsRefusedValueAs texts fs d _ = ⊥

-- a text is refused so: it is no JSON, or its value is refused so
abbrev pub IsRefusedCallAs : Bool → Fields → List ℕ → Refusal → Type 0
IsRefusedCallAs texts fs text Script = (d : Data) → read text ≡ Some d → IsRefusedValueAs texts fs d Script
IsRefusedCallAs texts fs text e = HasCause (λ x. (d : Data) × (read text ≡ Some d) × IsRefusedValueAs texts fs d x) e

-- ---- without texts

-- a text is JSON, and its value is this call, without texts of dates, times and decimals
abbrev pub IsCallText : Fields → List ℕ → Call → Type 0
IsCallText = IsCallTextAs false

-- a text is refused so, without texts of dates, times and decimals
abbrev pub IsRefusedCall : Fields → List ℕ → Refusal → Type 0
IsRefusedCall = IsRefusedCallAs false
