-- Rows that are too much for a file of one group are too much for one of smaller groups.
use Rattle.std.proofs.Common.{◌≡◌, ◌≤◌, ◌+◌, ◌-◌, ◌*◌, ◌/◌, ◌⊎◌, ℕ, zero, suc, List, [], ◌∷◌, ◌++◌, map, length, take, drop, sum_by, Option, Result, Ok, Err, refl, sym, ◌∙◌, ap, subst, arith, inl, inr, ⊎_elim}
use Rattle.std.specs.Prelude.{◌<ℤ◌, pos}
use Rattle.std.specs.List.{Any}
use Rattle.std.proofs.lemmas.List.Sums.{sum_by-cons}
use Rattle.std.proofs.Math.Nat.{add-mul, mul-le-mul_right, div-mul-le_self, div-add-mod, mod-lt, div-eq_of_lt}
use Rattle.std.proofs.lemmas.Bool.{cases_lt}
use Rattle.std.proofs.lemmas.Nat.{div-mul-add}
use Rattle.std.proofs.lemmas.Grind.{flat_map-append}
use Rattle.std.proofs.lemmas.List.{take-append-drop, length-append, length-drop, nil_from_length, take_all}
use Rattle.std.proofs.lemmas.List.Elements.{filter_map-append}
use Rattle.bits.specs.declared.refusal.Refusal.{Refusal}
use Rattle.bits.specs.declared.refusal.Refusal.TheVariants.{Limit, Memory, RowShape, Key as BadKey}
use Rattle.bits.specs.Refusals.{HasCause, RefusedOnly}
use Rattle.schema.specs.declared.value.Kind.{Kind}
use Rattle.schema.specs.declared.value.Kind.TheVariants.{Boolean}
use Rattle.schema.specs.Values.{ValueTree, bytes, group, ValueTrees}
use Rattle.schema.specs.Shape.{Fields}
use Rattle.schema.specs.Stripe.{Leaf, Entry, stripe, column, leaves_of, columns}
use Rattle.plain.specs.Plain.{text_size}
use Rattle.pages.specs.Page.{values}
use Rattle.row_group.specs.declared.options.Style.{Style}
use Rattle.row_group.specs.declared.options.Style.TheVariants as style
use Rattle.row_group.specs.declared.options.ChunkOptions.{ChunkOptions}
use Rattle.row_group.specs.Greatest.{most_entries}
use Rattle.row_group.specs.Paged.{parts_of, most_dictionaries, chunk_weight, columns_weight, group_weight}
use Rattle.footer.specs.declared.options.WriteOptions.{WriteOptions}
use Rattle.footer.specs.Writing.{IsOutOfRange, empty_groups, large_groups, empty_pages, other_version, chunk_options, groups_from, groups_of, footer_weight, file_weight, HasLargeColumn, IsTooMuch, many_entries, long_value, heavy_footer, heavy_file}
use Rattle.manifest.specs.Groups.{Root}
use Rattle.manifest.specs.Root.{stored_of}
use Rattle.table.specs.Table.{Row, Key}
use Rattle.table_commits.specs.Wide.{AreFew, HasFewEntries}
use Rattle.table_state.specs.declared.standing.Core.{Core}
use Rattle.table_commits.specs.Writing.{IsUnfit, IsUnfitPart, IsPartRefusal}

-- ---- how many parts there are

enough_parts : (n size : ℕ) → 1 ≤ size → n ≤ parts_of n size * size
enough_parts n size some =
    let whole = div-add-mod (n + (size - 1)) size in
    let below = mod-lt (n + (size - 1)) {m = size} (omega (arith, some)) in
    omega (arith, whole, below, some)

no_parts : (size : ℕ) → 1 ≤ size → parts_of 0 size ≡ 0
no_parts size some = div-eq_of_lt (omega (arith, some))

parts_joined : (a b size : ℕ) → 1 ≤ size → parts_of (a + b) size ≤ parts_of a size + parts_of b size
parts_joined a b size some =
    elim (cases_lt (parts_of a size + parts_of b size) (parts_of (a + b) size)) [
      | inl more ↦
          let whole = div-mul-le_self (a + b + (size - 1)) size in
          let up = mul-le-mul_right {m = parts_of a size + parts_of b size + 1} {n = parts_of (a + b) size} size (omega (arith, more)) in
          let one = add-mul (parts_of a size + parts_of b size) 1 size in
          let two = add-mul (parts_of a size) (parts_of b size) size in
          let x = enough_parts a size some in
          let y = enough_parts b size some in
          absurd (omega (arith, whole, up, one, two, x, y, some))
      | inr few ↦ few
    ]

one_part : (n : ℕ) → 1 ≤ n → parts_of n n ≡ 1
one_part n some =
    let e : n + (n - 1) ≡ 1 * n + (n - 1) = omega (arith, some) in
    ap (λ (m : ℕ). m / n) e ∙ div-mul-add 1 n (n - 1) (omega (arith, some))

some_parts : (n size : ℕ) → 1 ≤ size → 1 ≤ n → 1 ≤ parts_of n size
some_parts n size some there =
    elim (cases_lt 0 (parts_of n size)) [
      | inl more ↦ omega (arith, more)
      | inr none ↦
          let is : parts_of n size ≡ 0 = omega (arith, none) in
          let x = enough_parts n size some in
          let z : parts_of n size * size ≡ 0 * size = ap (λ (m : ℕ). m * size) is in
          absurd (omega (arith, x, z, there))
    ]

-- ---- what values weigh

texts_joined : (xs ys : List ValueTree) → text_size (xs ++ ys) ≡ text_size xs + text_size ys
texts_joined [] ys = omega arith
texts_joined (bytes text ∷ xs) ys = omega (arith, texts_joined xs ys)
texts_joined (x ∷ xs) ys = texts_joined xs ys

dictionaries_joined : (s : Style) (kind : Kind) (xs ys : List ValueTree) → most_dictionaries s kind (xs ++ ys) ≤ most_dictionaries s kind xs + most_dictionaries s kind ys
dictionaries_joined s kind [] ys = omega arith
dictionaries_joined style.Dictionary Boolean (x ∷ xs) ys = omega arith
dictionaries_joined style.Dictionary kind (x ∷ xs) ys = omega arith
dictionaries_joined s kind (x ∷ xs) ys = omega arith

chunk_joined : (s : Style) (kind : Kind) (p q r : ℕ) (xs ys : List Entry) → r ≤ p + q → chunk_weight s kind r (xs ++ ys) ≤ chunk_weight s kind p xs + chunk_weight s kind q ys
chunk_joined s kind p q r xs ys few =
    let apart = filter_map-append (λ (e : Entry). e.value) xs ys in
    let d : most_dictionaries s kind (values (xs ++ ys)) ≤ most_dictionaries s kind (values xs) + most_dictionaries s kind (values ys)
    = subst (λ (vs : List ValueTree). most_dictionaries s kind vs ≤ most_dictionaries s kind (values xs) + most_dictionaries s kind (values ys)) (sym apart) (dictionaries_joined s kind (values xs) (values ys)) in
    let t : text_size (values (xs ++ ys)) ≡ text_size (values xs) + text_size (values ys) = ap text_size apart ∙ texts_joined (values xs) (values ys) in
    let l = length-append xs ys in
    omega (arith, few, d, t, l)

module _ (o : ChunkOptions) (some : 1 ≤ o.page_rows) where
  cols : List Leaf → List ValueTrees → List (List Entry)
  cols ls rows = map (λ (l : Leaf). column rows l.steps) ls

  weight : List Leaf → List ValueTrees → ℕ
  weight ls rows = columns_weight o (length rows) ls (map (λ (l : Leaf). column rows l.steps) ls)

  nothing : (ls : List Leaf) → columns_weight o 0 ls (map (λ (l : Leaf). column [] l.steps) ls) ≡ 0
  nothing [] = refl
  nothing (l ∷ ls) =
      let p = no_parts o.page_rows some in
      let rest = nothing ls in
      omega (arith, p, rest)

  joined : (ls : List Leaf) (xs ys : List ValueTrees) → columns_weight o (length (xs ++ ys)) ls (map (λ (l : Leaf). column (xs ++ ys) l.steps) ls)
      ≤ columns_weight o (length xs) ls (map (λ (l : Leaf). column xs l.steps) ls) + columns_weight o (length ys) ls (map (λ (l : Leaf). column ys l.steps) ls)
  joined [] xs ys = omega arith
  joined (l ∷ ls) xs ys =
      let many : parts_of (length (xs ++ ys)) o.page_rows ≤ parts_of (length xs) o.page_rows + parts_of (length ys) o.page_rows
      = subst (λ (n : ℕ). parts_of n o.page_rows ≤ parts_of (length xs) o.page_rows + parts_of (length ys) o.page_rows) (sym (length-append xs ys)) (parts_joined (length xs) (length ys) o.page_rows some) in
      let own : chunk_weight o.style l.leaf_type.kind (parts_of (length (xs ++ ys)) o.page_rows) (column (xs ++ ys) l.steps)
      ≤ chunk_weight o.style l.leaf_type.kind (parts_of (length xs) o.page_rows) (column xs l.steps) + chunk_weight o.style l.leaf_type.kind (parts_of (length ys) o.page_rows) (column ys l.steps)
      = subst (λ (es : List Entry). chunk_weight o.style l.leaf_type.kind (parts_of (length (xs ++ ys)) o.page_rows) es
      ≤ chunk_weight o.style l.leaf_type.kind (parts_of (length xs) o.page_rows) (column xs l.steps) + chunk_weight o.style l.leaf_type.kind (parts_of (length ys) o.page_rows) (column ys l.steps))
      (sym (flat_map-append (λ (row : ValueTrees). stripe l.steps (group row) 0 0 0) xs ys)) (chunk_joined o.style l.leaf_type.kind (parts_of (length xs) o.page_rows) (parts_of (length ys) o.page_rows) (parts_of (length (xs ++ ys)) o.page_rows) (column xs l.steps) (column ys l.steps) many) in
      let rest = joined ls xs ys in
      omega (arith, own, rest)

  grouped : (fs : Fields) (n size : ℕ) (rows : List ValueTrees) → length rows ≤ n * size → group_weight fs o rows ≤ sum_by (group_weight fs o) (groups_from n size rows)
  grouped fs zero size rows few =
      let none = nil_from_length rows (omega (arith, few)) in
      subst (λ (rs : List ValueTrees). group_weight fs o rs ≤ 0) (sym none) (let z = nothing (leaves_of fs) in omega (arith, z))
  grouped fs (suc n) size rows few =
      let rest = grouped fs n size (drop size rows) (omega (arith, few, length-drop size rows)) in
      let apart = joined (leaves_of fs) (take size rows) (drop size rows) in
      let whole : group_weight fs o rows ≤ group_weight fs o (take size rows) + group_weight fs o (drop size rows)
      = subst (λ (rs : List ValueTrees). group_weight fs o rs ≤ group_weight fs o (take size rows) + group_weight fs o (drop size rows)) (take-append-drop size rows) apart in
      let sum = sum_by-cons (group_weight fs o) (take size rows) (groups_from n size (drop size rows)) in
      omega (arith, whole, rest, sum)

-- ---- files

-- all rows make one group
one_group : (rows : List ValueTrees) → 1 ≤ length rows → groups_of (length rows) rows ≡ rows ∷ []
one_group rows some =
    ap (λ (n : ℕ). groups_from n (length rows) rows) (one_part (length rows) some) ∙ ap (λ (rs : List ValueTrees). rs ∷ []) (take_all (length rows) rows (omega arith))

as_many : (n size : ℕ) (rows : List ValueTrees) → length (groups_from n size rows) ≡ n
as_many zero size rows = refl
as_many (suc n) size rows = ap suc (as_many n size (drop size rows))

-- no column is large where all have few entries
none_large : (cols : List (List Entry)) → AreFew cols → Any (λ (es : List Entry). most_entries <ℤ pos (length es)) cols → ⊥
none_large [] few (k, es, within, is, large) = omega (arith, within)
none_large (c ∷ cols) few (zero, es, within, is, large) = few.0 (subst (λ (x : List Entry). most_entries <ℤ pos (length x)) (sym is) large)
none_large (c ∷ cols) few (suc k, es, within, is, large) = none_large cols few.1 (k, es, omega (arith, within), is, large)

module _ (fs : Fields) (o wide : WriteOptions) (rows : List ValueTrees) (size : wide.group_rows ≡ length rows) (few_rows : length rows ≤ 16777216) (pages : wide.page_rows ≡ o.page_rows) (version : wide.page_version ≡ o.page_version)
    (same_style : wide.style ≡ o.style) (some : 1 ≤ length rows) where
  chunks : chunk_options wide ≡ chunk_options o
  chunks =
      ap (λ (n : ℕ). chunk_options (record wide { page_rows = n })) pages
      ∙ ap (λ (n : ℕ). chunk_options (record wide { page_rows = o.page_rows; page_version = n })) version
      ∙ ap (λ (s : Style). chunk_options (record wide { page_rows = o.page_rows; page_version = o.page_version; style = s })) same_style

  groups : groups_of wide.group_rows rows ≡ rows ∷ []
  groups = ap (λ (n : ℕ). groups_of n rows) size ∙ one_group rows some

  count : length (groups_of o.group_rows rows) ≡ parts_of (length rows) o.group_rows
  count = as_many (parts_of (length rows) o.group_rows) o.group_rows rows

  only : HasLargeColumn fs (rows ∷ []) → Any (λ (es : List Entry). most_entries <ℤ pos (length es)) (columns fs rows)
  only (zero, x, within, is, large) = subst (λ (rs : List ValueTrees). Any (λ (es : List Entry). most_entries <ℤ pos (length es)) (columns fs rs)) (sym is) large
  only (suc k, x, within, is, large) = absurd (omega (arith, within))

  module _ (group_rows : 1 ≤ o.group_rows) (page_rows : 1 ≤ o.page_rows) where
    heavier_footer : footer_weight fs 1 ≤ footer_weight fs (length (groups_of o.group_rows rows))
    heavier_footer =
        let more : 1 ≤ length (groups_of o.group_rows rows) = subst (λ (n : ℕ). 1 ≤ n) (sym count) (some_parts (length rows) o.group_rows group_rows some) in
        let up = mul-le-mul_right {m = 1} {n = length (groups_of o.group_rows rows)} (64 + sum_by (λ (l : Leaf). 512 + sum_by (λ n. length n) l.path) (leaves_of fs)) more in
        omega (arith, up)

    heavier_file : file_weight fs wide (rows ∷ []) ≤ file_weight fs o (groups_of o.group_rows rows)
    heavier_file =
        let f = heavier_footer in
        let g = grouped (chunk_options o) page_rows fs (parts_of (length rows) o.group_rows) o.group_rows rows (enough_parts (length rows) o.group_rows group_rows) in
        let same : group_weight fs (chunk_options wide) rows ≡ group_weight fs (chunk_options o) rows = ap (λ (c : ChunkOptions). group_weight fs c rows) chunks in
        omega (arith, f, g, same)

    narrowed : HasFewEntries fs rows → IsTooMuch fs wide rows → IsTooMuch fs o rows
    narrowed few (many_entries large) = absurd (none_large (columns fs rows) few (only (subst (λ (gs : List (List ValueTrees)). HasLargeColumn fs gs) groups large)))
    narrowed few (long_value h) = long_value h
    narrowed few (heavy_footer h) = heavy_footer (let g = ap (λ (gs : List (List ValueTrees)). footer_weight fs (length gs)) groups in let f = heavier_footer in omega (arith, h, g, f))
    narrowed few (heavy_file h) = heavy_file (let g = ap (λ (gs : List (List ValueTrees)). file_weight fs wide gs) groups in let f = heavier_file in omega (arith, h, g, f))

  out_too : IsOutOfRange wide → IsOutOfRange o
  out_too (empty_groups e) = absurd (omega (arith, e, size, some))
  out_too (large_groups l) = absurd (omega (arith, l, size, few_rows))
  out_too (empty_pages e) = empty_pages (sym pages ∙ e)
  out_too (other_version a b) = other_version (λ e. a (version ∙ e)) (λ e. b (version ∙ e))

  pub narrow : HasFewEntries fs rows → IsOutOfRange wide ⊎ IsTooMuch fs wide rows → IsOutOfRange o ⊎ IsTooMuch fs o rows
  narrow few (inl out) = inl (out_too out)
  narrow few (inr much) =
      ⊎_elim
      (λ no_groups. inl (empty_groups no_groups))
      (λ group_rows. ⊎_elim (λ no_pages. inl (empty_pages no_pages)) (λ page_rows. inr (narrowed group_rows page_rows few much)) (none_or o.page_rows))
      (none_or o.group_rows)
    where
      none_or : (n : ℕ) → (n ≡ 0) ⊎ (1 ≤ n)
      none_or zero = inl refl
      none_or (suc n) = inr (omega arith)

-- why a file of these rows is not made by other options: by the same limits
pub unfit_whole : (root : Root) (o wide : WriteOptions) (key : Key) (rows : List Row) → (IsOutOfRange wide ⊎ IsTooMuch (stored_of root) wide rows → IsOutOfRange o ⊎ IsTooMuch (stored_of root) o rows) → (e : Refusal)
    → HasCause (IsUnfit root wide key rows) e → HasCause (IsUnfit root o key rows) e
unfit_whole root o wide key rows narrower Memory h = tt
unfit_whole root o wide key rows narrower Limit h = narrower h
unfit_whole root o wide key rows narrower RowShape h = h
unfit_whole root o wide key rows narrower BadKey h = h
unfit_whole root o wide key rows narrower e h = absurd h

-- so it is of a result
pub unfit_either : (T : Type 0) (root : Root) (o wide : WriteOptions) (key : Key) (rows : List Row) → (IsOutOfRange wide ⊎ IsTooMuch (stored_of root) wide rows → IsOutOfRange o ⊎ IsTooMuch (stored_of root) o rows) → (result : Result T Refusal)
    → RefusedOnly (IsUnfit root wide key rows) result → RefusedOnly (IsUnfit root o key rows) result
unfit_either T root o wide key rows narrower (Ok x) h = tt
unfit_either T root o wide key rows narrower (Err e) h = unfit_whole root o wide key rows narrower e h

-- memory is such a refusal
pub unfit_memory : (root : Root) (o : WriteOptions) (key : Key) (rows : List Row) (e : Refusal) → HasCause (λ _. ⊥) e → HasCause (IsUnfit root o key rows) e
unfit_memory root o key rows Memory h = tt
unfit_memory root o key rows e h = absurd h

-- where a part file is not made, it is not written
pub unwritten : {D : Type 0} (store : Core D) (job : Option ℕ) (key : Key) (rows : List Row) (e : Refusal) → HasCause (IsUnfitPart store key rows) e → HasCause (IsPartRefusal store job key rows) e
unwritten store job key rows Memory h = tt
unwritten store job key rows Limit h = h
unwritten store job key rows RowShape h = h
unwritten store job key rows BadKey h = h
unwritten store job key rows e h = absurd h
