-- No number of an answer is a float, so that its text is known.
use Rattle.std.proofs.Common.{◌≡◌, ◌||◌, codes, true≢false, ℕ, ℤ, pos, negsuc, List, [], ◌∷◌, Bool, true, false, Option, Some, None, if◌then◌else◌, Result, Ok, Err, Ordering, Less, Equal, Greater, nat_cmp, map, refl, subst}
use Rattle.std.specs.Prelude.{IfOk}
use Rattle.std.specs.Str.{is_utf8}
use Rattle.std.specs.Cmp.Lexicographic.{slice_cmp}
use Rattle.std.specs.Ordering.{match_ordering}
use Rattle.serde_json.specs.Data.{Num, unsigned, negative, float, Data, Items, no_items, item, Members, no_members, member, put}
use Rattle.serde_json.specs.Data as json
use Rattle.serde_json.specs.Find.{of_integer}
use Rattle.serde_json.specs.View.{items_of}
use Rattle.serde_json.specs.Written.{has_float, items_have_float, members_have_float}
use Rattle.bits.specs.declared.refusal.Refusal.{Refusal}
use Rattle.bits.specs.declared.refusal.Refusal.TheVariants.{RowShape}
use Rattle.schema.specs.Values.{ValueTree, null, boolean, integer, bytes, group, list, ValueTrees, no_values, value}
use Rattle.schema.specs.Shape.{Field, Fields, no_fields, field, name_of}
use Rattle.schema.specs.Fits.{fits}
use Rattle.schema.specs.Keys.{field_at}
use Rattle.schema.specs.Views.{key_view, rows_view}
use Rattle.filter.specs.Terms.{then_rest, each_of}
use Rattle.table.specs.declared.answer.Answer.{Answer}
use Rattle.table.specs.declared.answer.Answer.TheVariants.{Done, Job, Cursor, Batch, End, More, Plan, Groups, Count, Accepted, Refused}
use Rattle.table.specs.declared.answer.GroupInfo.{GroupInfo}
use Rattle.rowtext.specs.Json.{field_json_as}
use Rattle.rowtext.proofs.JsonTexts.{IsExact, IsReadable, AreReadable, HaveReadable}
use Rattle.rowtext.proofs.RowJson.{row_readable_as}
use Rattle.jsonrows.specs.Filters.{◌>>=◌}
use Rattle.jsonrows.specs.Answers.{natural, naturals, one_member, put_column_as, columns_json_as, row_of_columns_as, key_value_json, group_members, group_json, listed_as, refusal_number, refusal_name, answer_json_as}

-- what was made has no float
abbrev pub IsWhole : Result Data Refusal → Type 0
IsWhole r = IfOk r (λ d. has_float d ≡ false)

abbrev pub AreWhole : Result (List Data) Refusal → Type 0
AreWhole r = IfOk r (λ ds. items_have_float (items_of ds) ≡ false)

abbrev HasWhole : Result Members Refusal → Type 0
HasWhole r = IfOk r (λ ms. members_have_float ms ≡ false)

-- ---- what can be read

exact_none : (n : Num) → IsExact n → has_float (json.number n) ≡ false
exact_none (unsigned n) h = refl
exact_none (negative z) h = refl
exact_none (float x) h = absurd h

mutual
  readable_none : (d : Data) → IsReadable d → has_float d ≡ false
  readable_none json.null h = refl
  readable_none (json.boolean b) h = refl
  readable_none (json.number n) h = exact_none n h
  readable_none (json.string s) h = refl
  readable_none (json.array ds) h = items_none ds h
  readable_none (json.object ms) h = members_none ms h.1

  items_none : (ds : Items) → AreReadable ds → items_have_float ds ≡ false
  items_none no_items h = refl
  items_none (item d ds) h = rw (readable_none d h.0) (items_none ds h.1)

  members_none : (ms : Members) → HaveReadable ms → members_have_float ms ≡ false
  members_none no_members h = refl
  members_none (member k d ms) h = rw (readable_none d h.0) (members_none ms h.1)

field_none : (texts : Bool) (f : Field) (v : ValueTree) → fits f v ≡ true → has_float (field_json_as texts f v) ≡ false
field_none texts f v h = readable_none (field_json_as texts f v) (row_readable_as texts (field f no_fields) (value v no_values) (rw h refl)).1.0

-- ---- members

put_at : (o : Ordering) (a b c : Members) → members_have_float a ≡ false → members_have_float b ≡ false → members_have_float c ≡ false → members_have_float (match_ordering o a b c) ≡ false
put_at Less a b c h k l = h
put_at Equal a b c h k l = k
put_at Greater a b c h k l = l

later_none : (d : Data) (ms : Members) → members_have_float (member [] d ms) ≡ false → members_have_float ms ≡ false
later_none d ms h = by (has_float d) h
  where
    by : (b : Bool) → (b || members_have_float ms) ≡ false → members_have_float ms ≡ false
    by true k = absurd (true≢false k)
    by false k = k

pub put_none : (k : List ℕ) (d : Data) (ms : Members) → has_float d ≡ false → members_have_float ms ≡ false → members_have_float (put k d ms) ≡ false
put_none k d no_members h g = rw h refl
put_none k d (member l e ms) h g =
    let rest = later_none e ms g in
    put_at (slice_cmp nat_cmp k l) (member k d (member l e ms)) (member l d ms) (member l e (put k d ms)) (rw h g) (rw h rest) (others (has_float e) (put_none k d ms h) g)
  where
    others : (b : Bool) → (members_have_float ms ≡ false → members_have_float (put k d ms) ≡ false) → (b || members_have_float ms) ≡ false → (b || members_have_float (put k d ms)) ≡ false
    others true more x = absurd (true≢false x)
    others false more x = more x

module _ (texts : Bool) where
  put_column_none : (o : Option Field) (v : ValueTree) (r : Result Members Refusal) → HasWhole r → HasWhole (put_column_as texts o v r)
  put_column_none None v r h = tt
  put_column_none (Some f) v (Err e) h = tt
  put_column_none (Some f) v (Ok ms) h = by (fits f v) refl
    where
      by : (b : Bool) → fits f v ≡ b → HasWhole (put_column_as texts (Some f) v (Ok ms))
      by true e = rw e (put_none (name_of f) (field_json_as texts f v) ms (field_none texts f v e) h)
      by false e = rw e tt

  columns_none : (fs : Fields) (places : List ℕ) (vs : ValueTrees) → HasWhole (columns_json_as texts fs places vs)
  columns_none fs [] no_values = refl
  columns_none fs [] (value v vs) = tt
  columns_none fs (i ∷ places) no_values = tt
  columns_none fs (i ∷ places) (value v vs) = put_column_none (field_at i fs) v (columns_json_as texts fs places vs) (columns_none fs places vs)

-- ---- lists

then_none : (r : Result Data Refusal) (rs : Result (List Data) Refusal) → IsWhole r → AreWhole rs → AreWhole (then_rest r rs)
then_none (Err e) rs h k = tt
then_none (Ok d) (Err e) h k = tt
then_none (Ok d) (Ok ds) h k = rw h k

pub each_none : {X : Type 0} (f : X → Result Data Refusal) → ((x : X) → IsWhole (f x)) → (xs : List X) → AreWhole (each_of f xs)
each_none f one [] = refl
each_none f one (x ∷ xs) = then_none (f x) (each_of f xs) (one x) (each_none f one xs)

naturals_none : (ns : List ℕ) → items_have_float (items_of (map natural ns)) ≡ false
naturals_none [] = refl
naturals_none (n ∷ ns) = naturals_none ns

-- ---- answers

one_none : (name : List ℕ) (d : Data) → has_float d ≡ false → has_float (one_member name d) ≡ false
one_none name d h = rw h refl

listed_none : (name : List ℕ) (r : Result (List Data) Refusal) → AreWhole r → IsWhole (listed_as name r)
listed_none name (Err e) h = tt
listed_none name (Ok ds) h = one_none name (json.array (items_of ds)) h

row_none : (texts : Bool) (fs : Fields) (places : List ℕ) (row : ValueTrees) → IsWhole (row_of_columns_as texts fs places row)
row_none texts fs places row = by (columns_json_as texts fs places row) (columns_none texts fs places row)
  where
    by : (r : Result Members Refusal) → HasWhole r → IsWhole (r >>= (λ ms. Ok (json.object ms)))
    by (Ok ms) h = h
    by (Err e) h = tt

pub integer_none : (z : ℤ) → has_float (json.number (of_integer z)) ≡ false
integer_none (pos n) = refl
integer_none (negsuc n) = refl

pub key_none : (v : ValueTree) → IsWhole (key_value_json v)
key_none null = tt
key_none (boolean b) = refl
key_none (integer z) = integer_none z
key_none (bytes s) = by (is_utf8 s)
  where
    by : (b : Bool) → IsWhole (if b then Ok (json.string s) else Err RowShape)
    by true = refl
    by false = tt
key_none (group vs) = tt
key_none (list vs) = tt

members_of_group : (g : GroupInfo) (key : List Data) → items_have_float (items_of key) ≡ false → members_have_float (group_members g key) ≡ false
members_of_group g key h =
    let rows = put (codes "rows") (natural g.rows) no_members in
    let number = put (codes "number") (natural g.number) rows in
    put_none (codes "bytes") (natural g.bytes) (put (codes "key") (json.array (items_of key)) number) refl
    (put_none (codes "key") (json.array (items_of key)) number h (put_none (codes "number") (natural g.number) rows refl (put_none (codes "rows") (natural g.rows) no_members refl refl)))

group_none : (g : GroupInfo) → IsWhole (group_json g)
group_none g = by (each_of key_value_json (key_view g.key)) (each_none key_value_json key_none (key_view g.key))
  where
    by : (r : Result (List Data) Refusal) → AreWhole r → IsWhole (r >>= (λ key. Ok (json.object (group_members g key))))
    by (Ok key) h = members_of_group g key h
    by (Err e) h = tt

answer_whole : (texts : Bool) (fs : Fields) (a : Answer) → IsWhole (answer_json_as texts fs a)
answer_whole texts fs (Done n) = refl
answer_whole texts fs (Job n) = refl
answer_whole texts fs (Cursor n) = refl
answer_whole texts fs (Batch b) = listed_none (codes "batch") (each_of (row_of_columns_as texts fs b.places.items) (rows_view b.rows.items)) (each_none (row_of_columns_as texts fs b.places.items) (row_none texts fs b.places.items) (rows_view b.rows.items))
answer_whole texts fs End = refl
answer_whole texts fs (More left) = refl
answer_whole texts fs (Plan ns) = one_none (codes "plan") (naturals ns.items) (naturals_none ns.items)
answer_whole texts fs (Groups gs) = listed_none (codes "groups") (each_of group_json gs.items) (each_none group_json group_none gs.items)
answer_whole texts fs (Count n) = refl
answer_whole texts fs Accepted = refl
answer_whole texts fs (Refused r) =
    let number = put (codes "refused") (natural (refusal_number r)) no_members in
    put_none (codes "name") (json.string (refusal_name r)) number refl (put_none (codes "refused") (natural (refusal_number r)) no_members refl refl)

pub answer_none : (texts : Bool) (fs : Fields) (a : Answer) (d : Data) → answer_json_as texts fs a ≡ Ok d → has_float d ≡ false
answer_none texts fs a d e = subst IsWhole e (answer_whole texts fs a)

pub group_none_of : (g : GroupInfo) (d : Data) → group_json g ≡ Ok d → has_float d ≡ false
group_none_of g d e = subst IsWhole e (group_none g)
