-- No part path is on the way to another one, nor is one of the root's two names.
use Rattle.std.proofs.Common.{◌≡◌, ◌≢◌, ℕ, zero, suc, ◌<◌, ◌^◌, inl, inr, true, List, [], ◌∷◌, ◌++◌, length, take, drop, slice_index, refl, ap, sym, subst, ◌∙◌, arith, append_assoc}
use Rattle.std.specs.List.{AllByRecursion}
use Rattle.std.proofs.lemmas.Bool.{false≢true, and_parts}
use Rattle.schema.specs.Values.{ValueTree}
use Rattle.schema.specs.Keys.{KeyColumn}
use Rattle.disk.specs.Paths.{IsOnTheWay}
use Rattle.vault.specs.Views.{root_path, next_path}
use Rattle.vault.proofs.Names.{root_alone, next_alone}
use Rattle.partition.specs.Folders.{escaped, value_text, folder, folders, path, is_key, is_key_value, CanPartition, part_name_of, name_in, part_path_of}
use Rattle.partition.proofs.Naming.{NoSlash, join_is, rest_of, tails}
use Rattle.partition.proofs.Cutting.{one_cut}
use Rattle.partition.proofs.ReadingBack.{folder_no_slash}
use Rattle.partition.proofs.PartNaming.{name_no_slash, has_slash, part_paths_name_parts}
use Rattle.partition.proofs.Roots.{part_paths_are_not_roots}
use Rattle.table_state.specs.Paths.{IsOffRoots, PathsAreApart, PathsAreApartBothWays}

-- ---- a path and a folder on the way to it

-- a text, parted at one of its bytes
parted_at : (text : List ℕ) (i b : ℕ) → i < length text → slice_index text i ≡ b → text ≡ take i text ++ b ∷ drop (suc i) text
parted_at [] i b h is = absurd (omega (arith, h))
parted_at (c ∷ text) zero b h is = ap (λ (d : ℕ). d ∷ text) is
parted_at (c ∷ text) (suc i) b h is = ap (λ (rest : List ℕ). c ∷ rest) (parted_at text i b (omega (arith, h)) is)

-- after a folder on the way to a path follow a slash and the rest
goes_on : (above text : List ℕ) → IsOnTheWay above text → (rest : List ℕ) × (text ≡ above ++ 47 ∷ rest)
goes_on above text on =
    (drop (suc on.0) text, parted_at text on.0 47 on.1 on.2 ∙ ap (λ (front : List ℕ). front ++ 47 ∷ drop (suc on.0) text) (sym on.3))

-- ---- part paths

-- a name under folders, one in another
abbrev under : List (List ℕ) → List ℕ → List ℕ
under [] name = name
under (f ∷ fs) name = f ++ 47 ∷ under fs name

under_is : (fs : List (List ℕ)) (name : List ℕ) → rest_of fs ++ 47 ∷ name ≡ 47 ∷ under fs name
under_is [] name = refl
under_is (f ∷ fs) name =
    ap (λ (text : List ℕ). 47 ∷ (text ++ 47 ∷ name)) (join_is f fs) ∙ ap (λ (text : List ℕ). 47 ∷ text) (append_assoc f (rest_of fs) (47 ∷ name) ∙ ap (λ (text : List ℕ). f ++ text) (under_is fs name))

-- a folder's text is not empty
named_in : (a x r name : List ℕ) → name_in ((a ++ 61 ∷ x) ++ r) name ≡ ((a ++ 61 ∷ x) ++ r) ++ 47 ∷ name
named_in [] x r name = refl
named_in (b ∷ a) x r name = refl

path_under : (columns : List KeyColumn) (key : List ValueTree) (name : List ℕ) → name_in (path columns key) name ≡ under (folders columns key) name
path_under [] key name = refl
path_under (c ∷ cs) [] name = refl
path_under (c ∷ cs) (v ∷ vs) name =
    let after = rest_of (folders cs vs) in
    ap (λ (p : List ℕ). name_in p name) (join_is (folder c v) (folders cs vs))
    ∙ named_in (escaped c.name) (escaped (value_text v)) after name
    ∙ append_assoc (folder c v) after (47 ∷ name)
    ∙ ap (λ (text : List ℕ). folder c v ++ text) (under_is (folders cs vs) name)

-- under as many folders no name's path goes on from another one's
not_under : (columns : List KeyColumn) (key other : List ValueTree) (name another rest : List ℕ) → is_key columns key ≡ true → is_key columns other ≡ true → AllByRecursion NoSlash another
    → under (folders columns other) another ≢ under (folders columns key) name ++ 47 ∷ rest
not_under [] key other name another rest p q free = λ h. has_slash name rest (subst (AllByRecursion NoSlash) h free)
not_under (c ∷ cs) [] other name another rest p q free = absurd (false≢true p)
not_under (c ∷ cs) (v ∷ vs) [] name another rest p q free = absurd (false≢true q)
not_under (c ∷ cs) (v ∷ vs) (w ∷ ws) name another rest p q free = λ h.
    let one = under (folders cs vs) name in
    let two = under (folders cs ws) another in
    let whole : folder c w ++ 47 ∷ two ≡ folder c v ++ 47 ∷ (one ++ 47 ∷ rest) = h ∙ append_assoc (folder c v) (47 ∷ one) (47 ∷ rest) in
    let same = one_cut 47 (folder c w) (folder c v) (47 ∷ two) (47 ∷ (one ++ 47 ∷ rest)) (folder_no_slash c w) (folder_no_slash c v) refl refl whole in
    let keyed = (and_parts (is_key_value c.kind v) (is_key cs vs) p).1 in
    let also = (and_parts (is_key_value c.kind w) (is_key cs ws) q).1 in
    not_under cs vs ws name another rest keyed also free (tails _ _ _ _ same.1)

pub part_ways : (columns : List KeyColumn) (key other : List ValueTree) (number another : ℕ) → CanPartition columns key → CanPartition columns other → number < 2 ^ 64 → another < 2 ^ 64
    → IsOnTheWay (part_path_of columns key number) (part_path_of columns other another) → ⊥
part_ways columns key other number another can also small less on =
    let name = part_name_of number in
    let found = goes_on (part_path_of columns key number) (part_path_of columns other another) on in
    let whole : under (folders columns other) (part_name_of another) ≡ under (folders columns key) name ++ 47 ∷ found.0
    = sym (path_under columns other (part_name_of another)) ∙ found.1 ∙ ap (λ (text : List ℕ). text ++ 47 ∷ found.0) (path_under columns key name) in
    not_under columns key other name (part_name_of another) found.0 can.values also.values (name_no_slash another less) whole

-- ---- the root's two names

pub off_roots : (columns : List KeyColumn) (key : List ValueTree) (number : ℕ) → CanPartition columns key → number < 2 ^ 64 → IsOffRoots (part_path_of columns key number)
off_roots columns key number can small =
    let of_root = part_paths_are_not_roots columns key number root_path small (inl refl) in
    let of_next = part_paths_are_not_roots columns key number next_path small (inr refl) in
    record {
      not_root = of_root.0;
      not_next = of_next.0;
      root_way = λ on. let found = goes_on root_path (part_path_of columns key number) on in of_root.2 found.0 found.1;
      next_way = λ on. let found = goes_on next_path (part_path_of columns key number) on in of_next.2 found.0 found.1;
    }

-- ---- the whole

pub paths_are_apart : PathsAreApart
paths_are_apart = record { name_parts = part_paths_name_parts; off_roots = off_roots; ways = part_ways }

pub paths_are_apart_both_ways : PathsAreApartBothWays
paths_are_apart_both_ways = record {
  parts = λ columns key other number another can also small less. record { below = part_ways columns key other number another can also small less; above = part_ways columns other key another number also can less small };
  root = λ columns key number can small. record { below = (off_roots columns key number can small).root_way; above = root_alone (part_path_of columns key number) };
  next = λ columns key number can small. record { below = (off_roots columns key number can small).next_way; above = next_alone (part_path_of columns key number) };
  roots = record { below = next_alone root_path; above = root_alone next_path };
}
