-- The compact text of a JSON value that can be read is read as that value.
use Rattle.std.proofs.Common.{◌≡◌, ℕ, suc, ◌<◌, ◌≤◌, ◌^◌, max, pos, negsuc, List, [], ◌++◌, Some, option_map, option_and_then, Less, Greater, nat_cmp, refl, sym, ap, ap₂, subst, ◌∙◌, arith, append-nil}
use Rattle.std.proofs.lemmas.Cmp.{nat_list_cmp_total}
use Rattle.std.specs.Cmp.Lexicographic.{slice_cmp}
use Rattle.std.specs.Ordering.{ordering_reverse}
use Rattle.json.specs.Json as json
use Rattle.json.specs.Lex.{tokens}
use Rattle.json.specs.Print.{IsNumber}
use Rattle.json.specs.Tree as tree
use Rattle.json.specs.Tree.{json_tokens}
use Rattle.json.proofs.Printed.Decimals.{IsNumber-decimal, IsNumber-signed_decimal}
use Rattle.json.proofs.Printed.Tokens.{tokens-print}
use Rattle.json.proofs.Printed.Trees.{value-json_tokens, ArePrintable-json_tokens}
use Rattle.serde_json.specs.Data.{Num, unsigned, negative, float, Data, null, boolean, number, string, array, object, Items, no_items, item, Members, no_members, member, put, depth, items_depth, members_depth}
use Rattle.serde_json.specs.Read.{number_of, of_json, of_items, of_members, max_depth, read}
use Rattle.serde_json.specs.Written.{number_text, outline, items_outline, members_outline, compact_text}
use Rattle.serde_json.proofs.Numbers.{number_of-decimal, number_of-negative}
use Rattle.serde_json.proofs.Texts.{print-outline}

-- ---- values that can be read

-- an integer of 64 bits, signed where it is negative
abbrev pub IsExact : Num → Type 0
IsExact (unsigned n) = n < 2 ^ 64
IsExact (negative (pos n)) = ⊥
IsExact (negative (negsuc n)) = n < 2 ^ 63
IsExact (float x) = ⊥

-- the name stands before those of all members
abbrev pub IsBefore : List ℕ → Members → Type 0
IsBefore k no_members = Unit {0}
IsBefore k (member l d ms) = (slice_cmp nat_cmp k l ≡ Less) × IsBefore k ms

-- the names rise
abbrev pub AreInOrder : Members → Type 0
AreInOrder no_members = Unit {0}
AreInOrder (member k d ms) = IsBefore k ms × AreInOrder ms

abbrev mutual
  pub IsReadable : Data → Type 0
  IsReadable null = Unit {0}
  IsReadable (boolean b) = Unit {0}
  IsReadable (number n) = IsExact n
  IsReadable (string s) = Unit {0}
  IsReadable (array ds) = AreReadable ds
  IsReadable (object ms) = AreInOrder ms × HaveReadable ms

  pub AreReadable : Items → Type 0
  AreReadable no_items = Unit {0}
  AreReadable (item d ds) = IsReadable d × AreReadable ds

  pub HaveReadable : Members → Type 0
  HaveReadable no_members = Unit {0}
  HaveReadable (member k d ms) = IsReadable d × HaveReadable ms

-- ---- numbers

pub number_back : (n : Num) → IsExact n → number_of (number_text n) ≡ Some n
number_back (unsigned n) h = number_of-decimal n h
number_back (negative (pos n)) h = absurd h
number_back (negative (negsuc n)) h = number_of-negative n h
number_back (float x) h = absurd h

pub number_there : (n : Num) → IsExact n → IsNumber (number_text n)
number_there (unsigned n) h = IsNumber-decimal n h
number_there (negative (pos n)) h = absurd h
number_there (negative (negsuc n)) h = IsNumber-signed_decimal (negsuc n) (omega (arith, h))
number_there (float x) h = absurd h

mutual
  has_numbers : (d : Data) → IsReadable d → tree.HasNumbers (outline d)
  has_numbers null h = tt
  has_numbers (boolean b) h = tt
  has_numbers (number n) h = number_there n h
  has_numbers (string s) h = tt
  has_numbers (array ds) h = items_have_numbers ds h
  has_numbers (object ms) h = members_have_numbers ms h.1

  items_have_numbers : (ds : Items) → AreReadable ds → tree.ItemsHaveNumbers (items_outline ds)
  items_have_numbers no_items h = tt
  items_have_numbers (item d ds) h = (has_numbers d h.0, items_have_numbers ds h.1)

  members_have_numbers : (ms : Members) → HaveReadable ms → tree.MembersHaveNumbers (members_outline ms)
  members_have_numbers no_members h = tt
  members_have_numbers (member k d ms) h = (has_numbers d h.0, members_have_numbers ms h.1)

-- ---- depth

mutual
  same_depth : (d : Data) → tree.depth (outline d) ≡ depth d
  same_depth null = refl
  same_depth (boolean b) = refl
  same_depth (number n) = refl
  same_depth (string s) = refl
  same_depth (array ds) = ap suc (same_items_depth ds)
  same_depth (object ms) = ap suc (same_members_depth ms)

  same_items_depth : (ds : Items) → tree.items_depth (items_outline ds) ≡ items_depth ds
  same_items_depth no_items = refl
  same_items_depth (item d ds) = ap₂ max (same_depth d) (same_items_depth ds)

  same_members_depth : (ms : Members) → tree.members_depth (members_outline ms) ≡ members_depth ms
  same_members_depth no_members = refl
  same_members_depth (member k d ms) = ap₂ max (same_depth d) (same_members_depth ms)

-- ---- members in order

-- the members, and then others
abbrev joined : Members → Members → Members
joined no_members others = others
joined (member k d ms) others = member k d (joined ms others)

joined-none : (ms : Members) → joined ms no_members ≡ ms
joined-none no_members = refl
joined-none (member k d ms) = ap (member k d) (joined-none ms)

joined-more : (found : Members) (k : List ℕ) (d : Data) (ms : Members) → joined (joined found (member k d no_members)) ms ≡ joined found (member k d ms)
joined-more no_members k d ms = refl
joined-more (member l e found) k d ms = ap (member l e) (joined-more found k d ms)

-- the names of all members stand before this one
abbrev AreBelow : Members → List ℕ → Type 0
AreBelow no_members k = Unit {0}
AreBelow (member l d ms) k = (slice_cmp nat_cmp l k ≡ Less) × AreBelow ms k

-- and before the first of others
abbrev Continues : Members → Members → Type 0
Continues found no_members = Unit {0}
Continues found (member k d ms) = AreBelow found k

pub turned : (k l : List ℕ) → slice_cmp nat_cmp l k ≡ Less → slice_cmp nat_cmp k l ≡ Greater
turned k l h = nat_list_cmp_total.antisymm k l ∙ ap ordering_reverse h

put_last : (k : List ℕ) (d : Data) (found : Members) → AreBelow found k → put k d found ≡ joined found (member k d no_members)
put_last k d no_members h = refl
put_last k d (member l e found) h = rw (turned k l h.0) (ap (member l e) (put_last k d found h.1))

below_pushed : (k l : List ℕ) (d : Data) (found : Members) → slice_cmp nat_cmp k l ≡ Less → AreBelow found k → AreBelow (joined found (member k d no_members)) l
below_pushed k l d no_members less h = (less, tt)
below_pushed k l d (member j e found) less h = (nat_list_cmp_total.trans j k l h.0 less, below_pushed k l d found less h.1)

continues : (k : List ℕ) (d : Data) (found ms : Members) → IsBefore k ms → AreBelow found k → Continues (joined found (member k d no_members)) ms
continues k d found no_members before h = tt
continues k d found (member l e ms) before h = below_pushed k l d found before.0 h

continues_none : (ms : Members) → Continues no_members ms
continues_none no_members = tt
continues_none (member k d ms) = tt

mutual
  value_back : (d : Data) → IsReadable d → of_json (outline d) ≡ Some d
  value_back null h = refl
  value_back (boolean b) h = refl
  value_back (number n) h = ap (option_map number) (number_back n h)
  value_back (string s) h = refl
  value_back (array ds) h = ap (option_map array) (items_back ds h)
  value_back (object ms) h = ap (option_map object) (members_back no_members ms h.0 (continues_none ms) h.1)

  items_back : (ds : Items) → AreReadable ds → of_items (items_outline ds) ≡ Some ds
  items_back no_items h = refl
  items_back (item d ds) h = ap (option_and_then (λ (x : Data). option_map (item x) (of_items (items_outline ds)))) (value_back d h.0) ∙ ap (option_map (item d)) (items_back ds h.1)

  members_back : (found ms : Members) → AreInOrder ms → Continues found ms → HaveReadable ms → of_members (members_outline ms) found ≡ Some (joined found ms)
  members_back found no_members order after h = ap Some (sym (joined-none found))
  members_back found (member k d ms) order after h =
      ap (option_and_then (λ (x : Data). of_members (members_outline ms) (put k x found))) (value_back d h.0) ∙ ap (of_members (members_outline ms)) (put_last k d found after)
      ∙ members_back (joined found (member k d no_members)) ms order.1 (continues k d found ms order.0 after) h.1 ∙ ap Some (joined-more found k d ms)

-- ---- whole texts

pub text_back : (d : Data) → IsReadable d → depth d ≤ 127 → read (compact_text d) ≡ Some d
text_back d h shallow =
    let j = outline d in
    let same : tokens (compact_text d) ≡ json_tokens j ++ [] = ap tokens (sym (print-outline d)) ∙ tokens-print (json_tokens j) (ArePrintable-json_tokens j (has_numbers d h)) ∙ sym (append-nil (json_tokens j)) in
    let nests : tree.depth j ≤ 127 = subst (λ n. n ≤ 127) (sym (same_depth d)) shallow in
    ap (λ ts. option_and_then of_json (option_and_then (λ p. json.if_last p.0 p.1) (json.value max_depth ts))) same
    ∙ ap (λ o. option_and_then of_json (option_and_then (λ p. json.if_last p.0 p.1) o)) (value-json_tokens j 127 [] nests) ∙ value_back d h
