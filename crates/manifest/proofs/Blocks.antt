-- Groups at places of blocks.
use Rattle.std.proofs.Common.{◌≡◌, ℕ, zero, suc, ◌+◌, ◌-◌, ◌<◌, ◌≤◌, List, [], ◌∷◌, ◌++◌, length, get_or, take, drop, refl, ap, sym, subst, ◌∙◌, Some, arith, length-append}
use Rattle.std.specs.Prelude.{IfSome, Option}
use Rattle.std.proofs.lemmas.Option.{slice_get-get_or}
use Rattle.std.specs.List.{AllByRecursion, slice_get}
use Rattle.std.proofs.lemmas.List.{drop_more}
use Rattle.std.proofs.lemmas.List.Concat.{flat_map-cons}
use Rattle.std.specs.Rc.{rc_value}
use Rattle.std.specs.declared.rc.Rc.{Rc}
use Rattle.std.specs.declared.alloc.Global.{Global}
use Rattle.lists.proofs.Slices.{slice_get_left as get_front, slice_get_right as get_behind, slice_get_map as get_mapped}
use Rattle.lists.proofs.Lists.{length_map as length_mapped}
use Rattle.manifest.specs.declared.group.Group.{Group as CodeGroup}
use Rattle.manifest.specs.declared.block.Block.{Block}
use Rattle.manifest.specs.Handles.{Group, group_view, handles_view, groups_of_blocks, starts_of}
use Rattle.manifest.specs.inner.Places.{IsStartAt}

abbrev Blocks : Type 0
Blocks = List (Rc Block Global)

-- the groups from a block on are its own and those behind it
pub from_block : (bs : Blocks) (i : ℕ) (b : Rc Block Global) → i < length bs → b ≡ get_or bs i b → groups_of_blocks (drop i bs) ≡ handles_view (rc_value b).groups.items ++ groups_of_blocks (drop (i + 1) bs)
from_block bs i b h is = rw (drop_more bs i b h) (flat_map-cons (λ (c : Rc Block Global). handles_view (rc_value c).groups.items) (get_or bs i b) (drop (i + 1) bs)
    ∙ ap (λ (c : Rc Block Global). handles_view (rc_value c).groups.items ++ groups_of_blocks (drop (i + 1) bs)) (sym is))

abbrev shared : Rc CodeGroup Global → Group
shared x = group_view (rc_value x)

-- ---- where blocks start

pub starts_length : (before : ℕ) (bs : Blocks) → length (starts_of before bs) ≡ length bs
starts_length before [] = refl
starts_length before (b ∷ bs) = ap suc (starts_length (before + length (rc_value b).groups.items) bs)

-- a block that starts at most at a place, and is the last that does, has the group there
pub record HasPlace (before : ℕ) (bs : Blocks) (place n start : ℕ) : Type 0 where
  pub block : Rc Block Global
  pub is : slice_get bs n ≡ Some block
  pub later : before ≤ start
  pub within : place - start < length (rc_value block).groups.items
  pub same : slice_get (groups_of_blocks bs) (place - before) ≡ slice_get (handles_view (rc_value block).groups.items) (place - start)

joined : (b : Rc Block Global) (bs : Blocks) → length (groups_of_blocks (b ∷ bs)) ≡ length (rc_value b).groups.items + length (groups_of_blocks bs)
joined b bs =
    ap length (flat_map-cons (λ (c : Rc Block Global). handles_view (rc_value c).groups.items) b bs)
    ∙ length-append (handles_view (rc_value b).groups.items) (groups_of_blocks bs)
    ∙ ap (λ (n : ℕ). n + length (groups_of_blocks bs)) (length_mapped shared (rc_value b).groups.items)

-- where a block starts is how many groups stand before it
pub start_is : (before : ℕ) (bs : Blocks) (i : ℕ) → i < length bs → get_or (starts_of before bs) i 0 ≡ before + length (groups_of_blocks (take i bs))
start_is before [] i h = absurd (omega (arith, h))
start_is before (b ∷ bs) zero h = let e : before ≡ before + 0 = omega arith in e
start_is before (b ∷ bs) (suc i) h =
    let rest = start_is (before + length (rc_value b).groups.items) bs i (omega (arith, h)) in
    let all = joined b (take i bs) in
    omega (arith, rest, all)

-- the first block has the places below where the next one starts
in_first : (before : ℕ) (b : Rc Block Global) (bs : Blocks) (place : ℕ) → before ≤ place → IfSome (slice_get (starts_of (before + length (rc_value b).groups.items) bs) 0) (λ next. place < next)
    → place < before + length (groups_of_blocks (b ∷ bs)) → place - before < length (rc_value b).groups.items
in_first before b [] place low high within = let all = joined b [] in omega (arith, low, within, all)
in_first before b (c ∷ bs) place low high within = omega (arith, low, high)

pub has_place : (before : ℕ) (bs : Blocks) (place n start : ℕ) → slice_get (starts_of before bs) n ≡ Some start → start ≤ place
    → IfSome (slice_get (starts_of before bs) (suc n)) (λ next. place < next) → place < before + length (groups_of_blocks bs) → HasPlace before bs place n start
has_place before [] place n start is low high within = absurd (none is)
  where
    none : slice_get [] n ≡ Some start → ⊥
    none e = cc
has_place before (b ∷ bs) place zero start is low high within =
    let here : before ≡ start = by is in
    let size = length_mapped shared (rc_value b).groups.items in
    let split = flat_map-cons (λ (c : Rc Block Global). handles_view (rc_value c).groups.items) b bs in
    let own : place - before < length (rc_value b).groups.items = in_first before b bs place (omega (arith, here, low)) high within in
    let seen : place - before < length (handles_view (rc_value b).groups.items) = omega (arith, size, own) in
    record {
      block = b;
      is = refl;
      later = omega (arith, here);
      within = omega (arith, here, own);
      same = ap (λ (gs : List Group). slice_get gs (place - before)) split ∙ get_front (handles_view (rc_value b).groups.items) (groups_of_blocks bs) (place - before) seen ∙ ap (λ (m : ℕ). slice_get (handles_view (rc_value b).groups.items) (place - m)) here;
    }
  where
    by : Some before ≡ Some start → before ≡ start
    by e = cc
has_place before (b ∷ bs) place (suc n) start is low high within =
    let size = length_mapped shared (rc_value b).groups.items in
    let split = flat_map-cons (λ (c : Rc Block Global). handles_view (rc_value c).groups.items) b bs in
    let all = joined b bs in
    let rest = has_place (before + length (rc_value b).groups.items) bs place n start is low high (omega (arith, all, within)) in
    let later = rest.later in
    let past : length (handles_view (rc_value b).groups.items) ≤ place - before = omega (arith, size, later, low) in
    let behind : place - before - length (handles_view (rc_value b).groups.items) ≡ place - (before + length (rc_value b).groups.items) = omega (arith, size) in
    record {
      block = rest.block;
      is = rest.is;
      later = omega (arith, later);
      within = rest.within;
      same = ap (λ (gs : List Group). slice_get gs (place - before)) split ∙ get_behind (handles_view (rc_value b).groups.items) (groups_of_blocks bs) (place - before) past
          ∙ ap (λ (m : ℕ). slice_get (groups_of_blocks bs) m) behind ∙ rest.same;
    }

-- the block that is found has the group at the place
pub record IsFound (bs : Blocks) (place start : ℕ) (b : Rc Block Global) : Type 0 where
  pub low : start ≤ place
  pub within : place - start < length (rc_value b).groups.items
  pub same : slice_get (groups_of_blocks bs) place ≡ slice_get (handles_view (rc_value b).groups.items) (place - start)

found_here : (bs : Blocks) (place at : ℕ) (b : Rc Block Global) → place < length (groups_of_blocks bs) → IsStartAt (starts_of 0 bs) place at → b ≡ get_or bs at b → IsFound bs place (get_or (starts_of 0 bs) at 0) b
found_here bs place at b within start is =
    let all = starts_length 0 bs in
    let there = start.there in
    let first : slice_get (starts_of 0 bs) at ≡ Some (get_or (starts_of 0 bs) at 0) = slice_get-get_or (starts_of 0 bs) at 0 there in
    let low : get_or (starts_of 0 bs) at 0 ≤ place = subst (λ (o : Option ℕ). IfSome o (λ s. s ≤ place)) first start.at_most in
    let next : at + 1 ≡ suc at = omega arith in
    let high = subst (λ (n : ℕ). IfSome (slice_get (starts_of 0 bs) n) (λ s. place < s)) next start.later in
    let here = has_place 0 bs place at (get_or (starts_of 0 bs) at 0) first low high (omega (arith, within)) in
    let seen : slice_get bs at ≡ Some (get_or bs at b) = slice_get-get_or bs at b (omega (arith, all, there)) in
    let same : here.block ≡ b = one here.block (get_or bs at b) (sym here.is ∙ seen) ∙ sym is in
    let whole : place ≡ place - 0 = omega arith in
    record {
      low = low;
      within = subst (λ (x : Rc Block Global). place - get_or (starts_of 0 bs) at 0 < length (rc_value x).groups.items) same here.within;
      same = ap (λ (n : ℕ). slice_get (groups_of_blocks bs) n) whole ∙ here.same ∙ ap (λ (x : Rc Block Global). slice_get (handles_view (rc_value x).groups.items) (place - get_or (starts_of 0 bs) at 0)) same;
    }
  where
    one : (x y : Rc Block Global) → Some x ≡ Some y → x ≡ y
    one x y e = cc

pub found : (bs : Blocks) (starts : List ℕ) (place at : ℕ) (b : Rc Block Global) → starts ≡ starts_of 0 bs → place < length (groups_of_blocks bs) → IsStartAt starts place at → b ≡ get_or bs at b → IsFound bs place (get_or starts at 0) b
found bs starts place at b e within start is =
    subst (λ (xs : List ℕ). IsFound bs place (get_or xs at 0) b) (sym e) (found_here bs place at b within (subst (λ (xs : List ℕ). IsStartAt xs place at) e start) is)

-- there is a block, and the first starts at 0
pub first_start : (bs : Blocks) (starts : List ℕ) (place : ℕ) → starts ≡ starts_of 0 bs → place < length (groups_of_blocks bs) → (0 < length starts) × IfSome (slice_get starts 0) (λ start. start ≤ place)
first_start bs starts place e within = subst (λ (xs : List ℕ). (0 < length xs) × IfSome (slice_get xs 0) (λ start. start ≤ place)) (sym e) (by bs within)
  where
    by : (cs : Blocks) → place < length (groups_of_blocks cs) → (0 < length (starts_of 0 cs)) × IfSome (slice_get (starts_of 0 cs) 0) (λ start. start ≤ place)
    by [] h = absurd (omega (arith, h))
    by (c ∷ cs) h = (omega arith, omega arith)

pub group_there : (gs : List (Rc CodeGroup Global)) (i : ℕ) (g : Rc CodeGroup Global) → i < length gs → g ≡ get_or gs i g → slice_get (handles_view gs) i ≡ Some (group_view (rc_value g))
group_there gs i g h is = get_mapped shared gs i g h is

-- ---- what holds of each group

all_front : (P : Group → Type 0) (xs ys : List Group) → AllByRecursion P (xs ++ ys) → AllByRecursion P xs
all_front P [] ys h = tt
all_front P (x ∷ xs) ys h = (h.0, all_front P xs ys h.1)

all_behind : (P : Group → Type 0) (xs ys : List Group) → AllByRecursion P (xs ++ ys) → AllByRecursion P ys
all_behind P [] ys h = h
all_behind P (x ∷ xs) ys h = all_behind P xs ys h.1

all_after : (P : Group → Type 0) (bs : Blocks) (i : ℕ) → AllByRecursion P (groups_of_blocks bs) → AllByRecursion P (groups_of_blocks (drop i bs))
all_after P bs zero h = h
all_after P [] (suc i) h = tt
all_after P (b ∷ bs) (suc i) h =
    let split = flat_map-cons (λ (c : Rc Block Global). handles_view (rc_value c).groups.items) b bs in
    all_after P bs i (all_behind P (handles_view (rc_value b).groups.items) (groups_of_blocks bs) (subst (λ (gs : List Group). AllByRecursion P gs) split h))

-- holds of the groups of a block
pub all_in_block : (P : Group → Type 0) (bs : Blocks) (i : ℕ) (b : Rc Block Global) → i < length bs → b ≡ get_or bs i b → AllByRecursion P (groups_of_blocks bs) → AllByRecursion P (handles_view (rc_value b).groups.items)
all_in_block P bs i b h is all =
    all_front P (handles_view (rc_value b).groups.items) (groups_of_blocks (drop (i + 1) bs)) (subst (λ (gs : List Group). AllByRecursion P gs) (from_block bs i b h is) (all_after P bs i all))
