-- The path of a part file is no root's.
use Rattle.std.proofs.Common.{◌≡◌, ◌≢◌, ℕ, true, not, inl, inr, List, [], ◌∷◌, ◌++◌, refl, ap, sym, subst, ◌∙◌, arith, codes, append_assoc, eq-eqb}
use Rattle.std.specs.Prelude.{nat_eq}
use Rattle.std.specs.List.{AllByRecursion, list_all}
use Rattle.std.proofs.lemmas.Bool.{false≢true, and_parts}
use Rattle.schema.specs.Values.{ValueTree}
use Rattle.schema.specs.Keys.{KeyColumn}
use Rattle.partition.specs.Folders.{escaped, value_text, folder, folders, path, part_name_of, name_in, part_path_of, IsRoot, PartPathsAreNotRoots}
use Rattle.partition.specs.inner.Reading.{Begins, HasNo}
use Rattle.partition.proofs.Naming.{join_is, rest_of}
use Rattle.partition.proofs.Cutting.{one_cut}
use Rattle.partition.proofs.ReadingBack.{folder_no_slash}
use Rattle.partition.proofs.PartNaming.{name_no_slash, has_slash}

no_such : (s : ℕ) (xs : List ℕ) → list_all (λ b. not (nat_eq b s)) xs ≡ true → AllByRecursion (HasNo s) xs
no_such s [] h = tt
no_such s (b ∷ xs) h =
    let parts = and_parts (not (nat_eq b s)) (list_all (λ b. not (nat_eq b s)) xs) h in
    ((λ e. false≢true (sym (ap not (eq-eqb b s e)) ∙ parts.0)), no_such s xs parts.1)

root_no : (s : ℕ) (root : List ℕ) → list_all (λ b. not (nat_eq b s)) (codes "_metadata") ≡ true → list_all (λ b. not (nat_eq b s)) (codes "_metadata.new") ≡ true → IsRoot root → AllByRecursion (HasNo s) root
root_no s root p q (inl e) = subst (AllByRecursion (HasNo s)) (sym e) (no_such s (codes "_metadata") p)
root_no s root p q (inr e) = subst (AllByRecursion (HasNo s)) (sym e) (no_such s (codes "_metadata.new") q)

first_of_both : (a b : ℕ) (x y : List ℕ) → a ∷ x ≡ b ∷ y → a ≡ b
first_of_both a b x y h = cc

name_is_no_root : (n : ℕ) (root : List ℕ) → IsRoot root → part_name_of n ≢ root
name_is_no_root n root (inl e) = λ h. let f : 112 ≡ 95 = first_of_both _ _ _ _ (h ∙ e) in absurd (omega (arith, f))
name_is_no_root n root (inr e) = λ h. let f : 112 ≡ 95 = first_of_both _ _ _ _ (h ∙ e) in absurd (omega (arith, f))

is_no_root : (p : List ℕ) (n : ℕ) (root : List ℕ) → IsRoot root → AllByRecursion (HasNo 47) root → name_in p (part_name_of n) ≢ root
is_no_root [] n root is free = name_is_no_root n root is
is_no_root (b ∷ p) n root is free = λ h. has_slash (b ∷ p) (part_name_of n) (subst (AllByRecursion (HasNo 47)) (sym h) free)

-- a root is in no folder
not_above : (part root rest : List ℕ) → AllByRecursion (HasNo 47) root → root ≢ part ++ 47 ∷ rest
not_above part root rest free = λ h. has_slash part rest (subst (AllByRecursion (HasNo 47)) h free)

has_equals : (a x : List ℕ) → AllByRecursion (HasNo 61) (a ++ 61 ∷ x) → ⊥
has_equals [] x h = h.0 refl
has_equals (b ∷ a) x h = has_equals a x h.1

named_in : (a x r name : List ℕ) → name_in ((a ++ 61 ∷ x) ++ r) name ≡ ((a ++ 61 ∷ x) ++ r) ++ 47 ∷ name
named_in [] x r name = refl
named_in (b ∷ a) x r name = refl

rest_begins : (fs : List (List ℕ)) (name : List ℕ) → Begins 47 (rest_of fs ++ 47 ∷ name)
rest_begins [] name = refl
rest_begins (f ∷ fs) name = refl

-- no root is a folder on the way
not_below : (columns : List KeyColumn) (key : List ValueTree) (name root rest : List ℕ) → AllByRecursion (HasNo 47) name → AllByRecursion (HasNo 47) root → AllByRecursion (HasNo 61) root → name_in (path columns key) name ≢ root ++ 47 ∷ rest
not_below [] key name root rest p q r = λ h. has_slash root rest (subst (AllByRecursion (HasNo 47)) h p)
not_below (c ∷ cs) [] name root rest p q r = λ h. has_slash root rest (subst (AllByRecursion (HasNo 47)) h p)
not_below (c ∷ cs) (v ∷ vs) name root rest p q r = λ h.
    let after = rest_of (folders cs vs) in
    let whole : folder c v ++ (after ++ 47 ∷ name) ≡ root ++ 47 ∷ rest
    = sym (append_assoc (folder c v) after (47 ∷ name)) ∙ sym (named_in (escaped c.name) (escaped (value_text v)) after name) ∙ ap (λ (p : List ℕ). name_in p name) (sym (join_is (folder c v) (folders cs vs))) ∙ h in
    let same = one_cut 47 (folder c v) root (after ++ 47 ∷ name) (47 ∷ rest) (folder_no_slash c v) q (rest_begins (folders cs vs) name) refl whole in
    has_equals (escaped c.name) (escaped (value_text v)) (subst (AllByRecursion (HasNo 61)) (sym same.0) r)

pub part_paths_are_not_roots : PartPathsAreNotRoots
part_paths_are_not_roots columns key number root small is =
    let free = root_no 47 root refl refl is in
    (is_no_root (path columns key) number root is free, (λ rest. not_above (part_path_of columns key number) root rest free), (λ rest. not_below columns key (part_name_of number) root rest (name_no_slash number small) free (root_no 61 root refl refl is)))
