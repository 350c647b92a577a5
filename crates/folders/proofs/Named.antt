-- The part files of a root's groups, found by their numbers.
use Rattle.std.proofs.Common.{◌≡◌, ◌<◌, ◌^◌, ◌+◌, ℕ, zero, suc, List, [], ◌∷◌, ◌++◌, ◌≤◌, length, drop, get_or, ◌||◌, Bool, true, false, Option, Some, None, nat_eq, if◌then◌else◌, refl, sym, ◌∙◌, ap, subst, arith, eqb-true, codes, String, string_bytes}
use Rattle.std.specs.Prelude.{Contains}
use Rattle.std.specs.Option.{option_or}
use Rattle.std.specs.List.{AllByRecursion}
use Rattle.std.specs.Fmt.{decimal}
use Rattle.std.specs.Rc.{rc_value}
use Rattle.std.specs.declared.rc.Rc.{Rc}
use Rattle.std.specs.declared.alloc.Global.{Global}
use Rattle.std.proofs.lemmas.List.{append_cancel_left, append_cancel_right}
use Rattle.std.proofs.lemmas.Fmt.{decimal_injective}
use Rattle.std.proofs.lemmas.Cmp.{nat_eq_equiv}
use Rattle.lists.proofs.Slices.{drop_here, drop_past}
use Rattle.schema.specs.Cutting.{is_among}
use Rattle.schema.specs.Keys.{KeyColumn, AreDistinct}
use Rattle.disk.specs.Paths.{path_in, folder_of, IsName}
use Rattle.disk.proofs.Texts.{folder_of-path_in}
use Rattle.partition.specs.Folders.{path, part_name_of}
use Rattle.partition.proofs.Nested.{part_names_are_plain}
use Rattle.manifest.specs.declared.block.Block.{Block}
use Rattle.manifest.specs.Groups.{Group, Root, numbers_of, handles_view, groups_of_blocks}
use Rattle.folders.specs.Named.{IsIn, AreNamed, folder_in}
use Rattle.folders.specs.declared.named_parts.NamedParts.{NamedParts}
use Rattle.folders.specs.inner.Names.{folder_if, folder_for}
use Rattle.folders.proofs.Ways.{in_is, is_name}

-- the bytes of a text that is shared
abbrev pub bytes_of : Rc (String Global) Global → List ℕ
bytes_of text = string_bytes (rc_value text)

-- ---- a path has one folder and one number

number_before : (m n : ℕ) → m < 2 ^ 64 → n < 2 ^ 64 → decimal m ++ codes ".parquet" ≡ decimal n ++ codes ".parquet" → m ≡ n
number_before m n small also is = decimal_injective m n small also (append_cancel_right (decimal m) (decimal n) (codes ".parquet") is)

number_in : (folder : List ℕ) (m n : ℕ) → m < 2 ^ 64 → n < 2 ^ 64 → path_in folder (part_name_of m) ≡ path_in folder (part_name_of n) → m ≡ n
number_in [] m n small also is = number_before m n small also (append_cancel_left (codes "part.") _ _ is)
number_in (c ∷ rest) m n small also is = number_before m n small also (append_cancel_left (codes "/part.") _ _ (append_cancel_left (c ∷ rest) (47 ∷ part_name_of m) (47 ∷ part_name_of n) is))

name_is : (n : ℕ) → n < 2 ^ 64 → IsName (part_name_of n)
name_is n small = is_name (part_name_of n) (part_names_are_plain n small)

same_part : (folder other : List ℕ) (m n : ℕ) → m < 2 ^ 64 → n < 2 ^ 64 → path_in folder (part_name_of m) ≡ path_in other (part_name_of n) → (folder ≡ other) × (m ≡ n)
same_part folder other m n small also is =
    let one : folder ≡ other = sym (folder_of-path_in folder (part_name_of m) (name_is m small)) ∙ ap folder_of is ∙ folder_of-path_in other (part_name_of n) (name_is n also) in
    (one, number_in folder m n small also (is ∙ ap (λ (f : List ℕ). path_in f (part_name_of n)) (sym one)))

-- a part file is named where its folder is the one found under its number
pub named_where_found : (named : NamedParts) (folder : List ℕ) (number : ℕ) → number < 2 ^ 64 → folder_in named number ≡ Some folder → IsIn named (path_in folder (part_name_of number))
named_where_found named folder number small is = (number, folder, small, is, refl)

pub found_where_named : (named : NamedParts) (folder : List ℕ) (number : ℕ) → number < 2 ^ 64 → IsIn named (path_in folder (part_name_of number)) → folder_in named number ≡ Some folder
found_where_named named folder number small is =
    let same = same_part is.1 folder is.0 number is.2 small is.4 in
    ap (folder_in named) (sym same.1) ∙ is.3 ∙ ap Some same.0

-- ---- one more block

or_none : {A : Type 0} (o : Option A) → option_or o None ≡ o
or_none None = refl
or_none (Some a) = refl

or_assoc : {A : Type 0} (a b c : Option A) → option_or (option_or a b) c ≡ option_or a (option_or b c)
or_assoc None b c = refl
or_assoc (Some x) b c = refl

folder_for-append : (keys : List KeyColumn) (xs ys : List Group) (n : ℕ) → folder_for keys (xs ++ ys) n ≡ option_or (folder_for keys ys n) (folder_for keys xs n)
folder_for-append keys [] ys n = sym (or_none (folder_for keys ys n))
folder_for-append keys (x ∷ xs) ys n =
    ap (λ (o : Option (List ℕ)). option_or o (folder_if keys x n)) (folder_for-append keys xs ys n)
    ∙ or_assoc (folder_for keys ys n) (folder_for keys xs n) (folder_if keys x n)

module _ (keys : List KeyColumn) (n : ℕ) where
  pub block_more : (blocks : List (Rc Block Global)) (i : ℕ) (b : Rc Block Global) → i < length blocks → b ≡ get_or blocks i b → (old new : NamedParts)
      → folder_in new n ≡ option_or (folder_for keys (handles_view (rc_value b).groups.items) n) (folder_in old n)
      → option_or (folder_for keys (groups_of_blocks (drop (i + 1) blocks)) n) (folder_in new n) ≡ option_or (folder_for keys (groups_of_blocks (drop i blocks)) n) (folder_in old n)
  block_more blocks i b lt is old new grows =
      let here = handles_view (rc_value b).groups.items in
      let rest = groups_of_blocks (drop (i + 1) blocks) in
      ap (option_or (folder_for keys rest n)) grows
      ∙ sym (or_assoc (folder_for keys rest n) (folder_for keys here n) (folder_in old n))
      ∙ ap (λ (o : Option (List ℕ)). option_or o (folder_in old n)) (sym (folder_for-append keys here rest n))
      ∙ ap (λ (bs : List (Rc Block Global)). option_or (folder_for keys (groups_of_blocks bs) n) (folder_in old n)) (sym (drop_here blocks i b lt is))

  pub blocks_end : (blocks : List (Rc Block Global)) (i : ℕ) → length blocks ≤ i → (named : NamedParts) → option_or (folder_for keys (groups_of_blocks (drop i blocks)) n) (folder_in named n) ≡ folder_in named n
  blocks_end blocks i le named = ap (λ (bs : List (Rc Block Global)). option_or (folder_for keys (groups_of_blocks bs) n) (folder_in named n)) (drop_past blocks i le)

-- ---- all groups

abbrev IsOf : List KeyColumn → ℕ → List ℕ → List Group → Type 0
IsOf keys n folder gs = (g : Group) × Contains gs g × (g.number ≡ n) × (path keys g.key ≡ folder)

later : (keys : List KeyColumn) (n : ℕ) (folder : List ℕ) (h : Group) (gs : List Group) → IsOf keys n folder gs → IsOf keys n folder (h ∷ gs)
later keys n folder h gs is = (is.0, (suc is.1.0, omega (arith, is.1.1), is.1.2), is.2, is.3)

found : (keys : List KeyColumn) (n : ℕ) (folder : List ℕ) (gs : List Group) → folder_for keys gs n ≡ Some folder → IsOf keys n folder gs
found keys n folder [] is = absurd (cc)
found keys n folder (g ∷ gs) is = by (found keys n folder gs) (folder_for keys gs n) refl (nat_eq g.number n) refl is
  where
    by : (folder_for keys gs n ≡ Some folder → IsOf keys n folder gs) → (o : Option (List ℕ)) → folder_for keys gs n ≡ o → (b : Bool) → nat_eq g.number n ≡ b
        → option_or o (if b then Some (path keys g.key) else None) ≡ Some folder → IsOf keys n folder (g ∷ gs)
    by rest (Some f) at b test has = later keys n folder g gs (rest (at ∙ has))
    by rest None at true test has = (g, (0, omega arith, refl), eqb-true g.number n test, cc)
    by rest None at false test has = absurd (cc)

none_for : (keys : List KeyColumn) (n : ℕ) (gs : List Group) → is_among (numbers_of gs) n ≡ false → folder_for keys gs n ≡ None
none_for keys n [] none = refl
none_for keys n (g ∷ gs) none = by (none_for keys n gs) (nat_eq g.number n) (is_among (numbers_of gs) n) refl refl none
  where
    by : (is_among (numbers_of gs) n ≡ false → folder_for keys gs n ≡ None) → (b c : Bool) → nat_eq g.number n ≡ b → is_among (numbers_of gs) n ≡ c
        → (b || c) ≡ false → folder_for keys (g ∷ gs) n ≡ None
    by later true c test rest is = absurd (cc)
    by later false true test rest is = absurd (cc)
    by later false false test rest is = ap (λ (o : Option (List ℕ)). option_or o (folder_if keys g n)) (later rest) ∙ ap (λ (b : Bool). if b then Some (path keys g.key) else None) test

finds : (keys : List KeyColumn) (gs : List Group) → AreDistinct (numbers_of gs) → (g : Group) → Contains gs g → folder_for keys gs g.number ≡ Some (path keys g.key)
finds keys [] distinct g among = absurd (omega (arith, among.1))
finds keys (h ∷ gs) distinct g (zero, lt, same) = subst (λ (x : Group). folder_for keys (h ∷ gs) x.number ≡ Some (path keys x.key)) same
    (ap (λ (o : Option (List ℕ)). option_or o (folder_if keys h h.number)) (none_for keys h.number gs distinct.0)
    ∙ ap (λ (b : Bool). if b then Some (path keys h.key) else None) (nat_eq_equiv.refl h.number))
finds keys (h ∷ gs) distinct g (suc k, lt, same) = ap (λ (o : Option (List ℕ)). option_or o (folder_if keys h g.number)) (finds keys gs distinct.1 g (k, omega (arith, lt), same))

below_all : (next : ℕ) (gs : List Group) → AllByRecursion (λ (g : Group). g.number < next) gs → (g : Group) → Contains gs g → g.number < next
below_all next [] all g among = absurd (omega (arith, among.1))
below_all next (h ∷ gs) all g (zero, lt, same) = subst (λ (x : Group). x.number < next) same all.0
below_all next (h ∷ gs) all g (suc k, lt, same) = below_all next gs all.1 g (k, omega (arith, lt), same)

pub all_named : (root : Root) (named : NamedParts) → ((n : ℕ) → folder_in named n ≡ folder_for root.keys root.groups n) → AreDistinct (numbers_of root.groups)
    → AllByRecursion (λ (g : Group). g.number < root.next) root.groups → root.next < 2 ^ 64 → AreNamed root named
all_named root named is distinct below small q = (
  (λ has.
      let one = found root.keys has.0 has.1 root.groups (sym (is has.0) ∙ has.3) in
      (one.0, one.1, in_is (path root.keys one.0.key) (part_name_of one.0.number) ∙ ap (λ (f : List ℕ). path_in f (part_name_of one.0.number)) one.3 ∙ ap (λ (n : ℕ). path_in has.1 (part_name_of n)) one.2 ∙ has.4)),
  (λ some.
      let g = some.0 in
      let lt : g.number < root.next = below_all root.next root.groups below g some.1 in
      (g.number, path root.keys g.key, omega (arith, lt, small), is g.number ∙ finds root.keys root.groups distinct g some.1, sym (in_is (path root.keys g.key) (part_name_of g.number)) ∙ some.2)),
)
