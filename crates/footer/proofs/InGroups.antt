-- Rows in groups, and groups that are written one after the other.
use Rattle.std.proofs.Common.{◌≡◌, ◌⊎◌, inl, inr, ℕ, zero, suc, ◌+◌, ◌-◌, ◌*◌, ◌/◌, ◌<◌, ◌≤◌, List, [], ◌∷◌, ◌++◌, length, take, drop, refl, sym, ap, subst, ◌∙◌, arith, append_assoc, length-append}
use Rattle.std.specs.Prelude.{flat_map, None, sum_by}
use Rattle.std.specs.List.{AllByRecursion}
use Rattle.std.proofs.lemmas.Bool.{cases_lt}
use Rattle.std.proofs.lemmas.Int.{ints}
use Rattle.std.proofs.Math.Nat.{div-eq_of_lt, add-div_right, div-add-mod, mod-lt}
use Rattle.std.proofs.lemmas.Nat.{div-mul-add}
use Rattle.std.proofs.lemmas.List.{append-nil, length-take, length-drop, take-append-drop, nil_from_length}
use Rattle.std.proofs.lemmas.List.Sums.{sum_by-cons}
use Rattle.lists.proofs.Lists.{any_later}
use Rattle.schema.specs.Values.{ValueTrees}
use Rattle.schema.specs.Shape.{Fields}
use Rattle.schema.specs.Fits.{RowsFit}
use Rattle.schema.specs.Stripe.{Leaf, Entry, leaves_of, columns}
use Rattle.metadata.specs.Records.{GroupMeta, ChunkMeta}
use Rattle.row_group.specs.Chunks.{GroupMeans}
use Rattle.row_group.specs.Paged.{parts_of, group_weight}
use Rattle.row_group.specs.declared.options.ChunkOptions.{ChunkOptions}
use Rattle.row_group.specs.Writing.{AppendsEach, AppendsGroup, AreTaken, IsGroupTooMuch}
use Rattle.row_group.specs.Writing as group_limit
use Rattle.footer.specs.declared.options.WriteOptions.{WriteOptions}
use Rattle.footer.specs.File.{magic, AreGroups}
use Rattle.footer.specs.Writing.{chunk_options, groups_from, groups_of, HasLargeColumn, IsOutOfRange, empty_groups, large_groups, empty_pages, IsTooMuch, many_entries, long_value, heavy_file}
use Rattle.footer.specs.Own.{AppendsGroups}
use Rattle.footer.specs.Writer.{IsBegun}
use Rattle.footer.proofs.Parted.{long_within, fit_within}

-- ---- how many groups there are

no_parts : (size : ℕ) → 1 ≤ size → parts_of 0 size ≡ 0
no_parts size some = div-eq_of_lt (omega (arith, some))

-- one more than of the rows after the first group
one_part_more : (n size : ℕ) → 1 ≤ size → 0 < n → parts_of n size ≡ suc (parts_of (n - size) size)
one_part_more n size some there =
    elim (cases_lt size n) [
      | inl more ↦
          let e : n + (size - 1) ≡ (n - size + (size - 1)) + size = omega (arith, more, some) in
          let d = add-div_right (n - size + (size - 1)) {k = size} (omega (arith, some)) in
          omega (arith, ap (λ (m : ℕ). m / size) e, d)
      | inr few ↦
          let e : n + (size - 1) ≡ 1 * size + (n - 1) = omega (arith, some, there) in
          let one : parts_of n size ≡ 1 = ap (λ (m : ℕ). m / size) e ∙ div-mul-add 1 size (n - 1) (omega (arith, few, there)) in
          let none : n - size ≡ 0 = omega (arith, few) in
          omega (arith, one, ap (λ (m : ℕ). parts_of m size) none, no_parts size some)
    ]

pub no_group : (size : ℕ) (rows : List ValueTrees) → 1 ≤ size → length rows ≡ 0 → groups_of size rows ≡ []
no_group size rows some none = ap (λ (n : ℕ). groups_from n size rows) (ap (λ (m : ℕ). parts_of m size) none ∙ no_parts size some)

pub next_group : (size : ℕ) (rows : List ValueTrees) → 1 ≤ size → 0 < length rows → groups_of size rows ≡ take size rows ∷ groups_of size (drop size rows)
next_group size rows some there =
    let rest : length (drop size rows) ≡ length rows - size = omega (arith, length-drop size rows) in
    ap (λ (n : ℕ). groups_from n size rows) (one_part_more (length rows) size some there ∙ ap (λ (m : ℕ). suc (parts_of m size)) (sym rest))

-- ---- the rows of all groups are the rows

joined_from : (n size : ℕ) (rows : List ValueTrees) → length rows ≤ n * size → rows ≡ flat_map (λ g. g) (groups_from n size rows)
joined_from zero size rows few = nil_from_length rows (omega (arith, few))
joined_from (suc n) size rows few =
    let rest = joined_from n size (drop size rows) (omega (arith, few, length-drop size rows)) in
    sym (take-append-drop size rows) ∙ ap (λ (t : List ValueTrees). take size rows ++ t) rest

enough_parts : (n size : ℕ) → 1 ≤ size → n ≤ parts_of n size * size
enough_parts n size some =
    let whole = div-add-mod (n + (size - 1)) size in
    let below = mod-lt (n + (size - 1)) {m = size} (omega (arith, some)) in
    omega (arith, whole, below, some)

pub joined : (size : ℕ) (rows : List ValueTrees) → 1 ≤ size → rows ≡ flat_map (λ g. g) (groups_of size rows)
joined size rows some = joined_from (parts_of (length rows) size) size rows (enough_parts (length rows) size some)

-- ---- options that are not out of range

pub record AreInRange (o : WriteOptions) : Type 0 where
  pub some : 1 ≤ o.group_rows
  pub few : o.group_rows ≤ 16777216
  pub pages : 1 ≤ o.page_rows

pub in_range : (o : WriteOptions) → (IsOutOfRange o → ⊥) → AreInRange o
in_range o within = record { some = some (cases_lt 0 o.group_rows); few = few (cases_lt 16777216 o.group_rows); pages = pages (cases_lt 0 o.page_rows) }
  where
    some : (0 < o.group_rows) ⊎ (o.group_rows ≤ 0) → 1 ≤ o.group_rows
    some (inl h) = omega (arith, h)
    some (inr h) = absurd (within (empty_groups (omega (arith, h))))

    few : (16777216 < o.group_rows) ⊎ (o.group_rows ≤ 16777216) → o.group_rows ≤ 16777216
    few (inl h) = absurd (within (large_groups h))
    few (inr h) = h

    pages : (0 < o.page_rows) ⊎ (o.page_rows ≤ 0) → 1 ≤ o.page_rows
    pages (inl h) = omega (arith, h)
    pages (inr h) = absurd (within (empty_pages (omega (arith, h))))

-- ---- some of the groups are written, and the rows in `rest` are still to be

-- one more group is written
pub goes_on : (fs : Fields) (o : WriteOptions) (rows rest : List ValueTrees) (out new : List ℕ) (metas : List GroupMeta) (g : GroupMeta) → 1 ≤ o.group_rows → 0 < length rest
    → IsBegun fs o rows rest out metas → AppendsGroup fs (chunk_options o) out new g (take o.group_rows rest) → AreTaken fs (take o.group_rows rest)
    → IsBegun fs o rows (drop o.group_rows rest) new (metas ++ g ∷ [])
goes_on fs o rows rest out new metas g some there so p taken =
    let size = o.group_rows in
    let next = next_group size rest some there in
    let weight = group_weight fs (chunk_options o) in
    let longer : length new ≡ length out + length p.text = ap length p.joined ∙ length-append out p.text in
    record {
      before = so.before ++ take size rest;
      split = so.split ∙ ap (λ (t : List ValueTrees). so.before ++ t) (sym (take-append-drop size rest)) ∙ sym (append_assoc so.before (take size rest) (drop size rest));
      stands = λ last gs q. subst (λ (ms : List GroupMeta). AppendsGroups fs (chunk_options o) magic last ms (groups_of size rows)) (sym (append_assoc metas (g ∷ []) gs))
          (so.stands last (g ∷ gs) (subst (AppendsGroups fs (chunk_options o) out last (g ∷ gs)) (sym next) (new, p, q)));
      taken = λ more. so.taken (subst (AllByRecursion (AreTaken fs)) (sym next) (taken, more));
      weighs =
          let sum = ap (λ (gs : List (List ValueTrees)). sum_by weight gs) next ∙ sum_by-cons weight (take size rest) (groups_of size (drop size rest)) in
          let was = so.weighs in
          let short = p.short in
          omega (arith, sum, was, short, longer);
      large = λ h. so.large (subst (HasLargeColumn fs) (sym next) (any_later _ _ _ h));
    }

-- the next group is too much, and so are the rows
pub too_much : (fs : Fields) (o : WriteOptions) (rows rest : List ValueTrees) (out : List ℕ) (metas : List GroupMeta) → AreInRange o → 0 < length rest
    → IsBegun fs o rows rest out metas → IsGroupTooMuch fs (chunk_options o) (length out) (take o.group_rows rest) → IsTooMuch fs o rows
too_much fs o rows rest out metas range there so (group_limit.empty_pages h) = let some = range.pages in absurd (omega (arith, some, h))
too_much fs o rows rest out metas range there so (group_limit.many_rows h) = let few = range.few in absurd (omega (ints, arith, few, h, length-take o.group_rows rest))
too_much fs o rows rest out metas range there so (group_limit.many_entries h) =
    many_entries (so.large (subst (HasLargeColumn fs) (sym (next_group o.group_rows rest range.some there)) (0, take o.group_rows rest, omega arith, refl, h)))
too_much fs o rows rest out metas range there so (group_limit.long_value h) =
    long_value (long_within fs so.before (take o.group_rows rest) (drop o.group_rows rest) rows (so.split ∙ ap (λ (t : List ValueTrees). so.before ++ t) (sym (take-append-drop o.group_rows rest))) h)
too_much fs o rows rest out metas range there so (group_limit.heavy h) =
    let weight = group_weight fs (chunk_options o) in
    let sum = ap (λ (gs : List (List ValueTrees)). sum_by weight gs) (next_group o.group_rows rest range.some there) ∙ sum_by-cons weight (take o.group_rows rest) (groups_of o.group_rows (drop o.group_rows rest)) in
    let was = so.weighs in
    heavy_file (omega (arith, sum, was, h))

-- rows that fit have groups that fit
pub fit : (fs : Fields) (o : WriteOptions) (rows rest : List ValueTrees) (out : List ℕ) (metas : List GroupMeta) → IsBegun fs o rows rest out metas → RowsFit fs rows → RowsFit fs (take o.group_rows rest)
fit fs o rows rest out metas so h =
    fit_within fs so.before (take o.group_rows rest) (drop o.group_rows rest) rows (so.split ∙ ap (λ (t : List ValueTrees). so.before ++ t) (sym (take-append-drop o.group_rows rest))) h

-- all groups are written
pub all_written : (fs : Fields) (o : WriteOptions) (rows rest : List ValueTrees) (out : List ℕ) (metas : List GroupMeta) → 1 ≤ o.group_rows → length rest ≡ 0 → IsBegun fs o rows rest out metas
    → AppendsGroups fs (chunk_options o) magic out metas (groups_of o.group_rows rows) × AllByRecursion (AreTaken fs) (groups_of o.group_rows rows)
all_written fs o rows rest out metas some none so =
    let last = no_group o.group_rows rest some none in (
      subst (λ (ms : List GroupMeta). AppendsGroups fs (chunk_options o) magic out ms (groups_of o.group_rows rows)) (append-nil metas)
          (so.stands out [] (subst (AppendsGroups fs (chunk_options o) out out []) (sym last) refl)),
      so.taken (subst (AllByRecursion (AreTaken fs)) (sym last) tt),
    )

-- ---- what groups that are written mean

lies : (o : ChunkOptions) (leaves : List Leaf) (cols : List (List Entry)) (old new : List ℕ) (cs : List ChunkMeta) → AppendsEach o leaves cols old new cs → AllByRecursion (λ (c : ChunkMeta). c.file_path ≡ None) cs
lies o [] [] old new [] p = tt
lies o [] [] old new (c ∷ cs) p = absurd p
lies o [] (es ∷ cols) old new cs p = absurd p
lies o (leaf ∷ leaves) [] old new cs p = absurd p
lies o (leaf ∷ leaves) (es ∷ cols) old new [] p = absurd p
lies o (leaf ∷ leaves) (es ∷ cols) old new (c ∷ cs) p = (p.2.here, lies o leaves cols p.0 new cs p.3)

-- they begin as they did
pub begins : (fs : Fields) (o : ChunkOptions) (old new : List ℕ) (gs : List GroupMeta) (groups : List (List ValueTrees)) → AppendsGroups fs o old new gs groups → (text : List ℕ) × (new ≡ old ++ text)
begins fs o old new [] [] p = ([], p ∙ sym (append-nil old))
begins fs o old new [] (rows ∷ others) p = absurd p
begins fs o old new (g ∷ gs) [] p = absurd p
begins fs o old new (g ∷ gs) (rows ∷ others) p =
    let rest = begins fs o p.0 new gs others p.2 in
    (p.1.text ++ rest.0, rest.1 ∙ ap (λ (t : List ℕ). t ++ rest.0) p.1.joined ∙ append_assoc old p.1.text rest.0)

-- a group that was written has its rows, whatever follows it
abbrev pub GroupsHaveRows : Type 0
GroupsHaveRows = (fs : Fields) (o : ChunkOptions) (old new : List ℕ) (g : GroupMeta) (rows : List ValueTrees) → AppendsGroup fs o old new g rows → (more : List ℕ) → GroupMeans (new ++ more) fs g rows

-- the bytes before the footer hold the groups
pub are_groups : (fs : Fields) (o : ChunkOptions) (old new : List ℕ) (gs : List GroupMeta) (groups : List (List ValueTrees)) → GroupsHaveRows → AppendsGroups fs o old new gs groups → AreGroups new fs gs groups
are_groups fs o old new [] [] law p = tt
are_groups fs o old new [] (rows ∷ others) law p = absurd p
are_groups fs o old new (g ∷ gs) [] law p = absurd p
are_groups fs o old new (g ∷ gs) (rows ∷ others) law p =
    let rest = begins fs o p.0 new gs others p.2 in (
      lies o (leaves_of fs) (columns fs rows) old p.0 g.columns p.1.chunks,
      subst (λ (t : List ℕ). GroupMeans t fs g rows) (sym rest.1) (law fs o old p.0 g rows p.1 rest.0),
      are_groups fs o p.0 new gs others law p.2,
    )
