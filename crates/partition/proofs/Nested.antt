-- How the folders of a key nest.
use Rattle.std.proofs.Common.{◌≡◌, ◌≢◌, ◌<◌, ◌≤◌, ◌&&◌, ◌||◌, ℕ, zero, suc, true, false, List, [], ◌∷◌, ◌++◌, length, take, map, get_or, refl, sym, ◌∙◌, ap, subst, arith, append_assoc}
use Rattle.std.specs.Prelude.{nat_eq}
use Rattle.std.specs.List.{AllByRecursion, join_with_byte}
use Rattle.std.proofs.Math.Seq.{take-suc}
use Rattle.std.proofs.lemmas.Bool.{and_parts, false≢true, or_parts as or_false}
use Rattle.lists.proofs.Slices.{all_take as all_taken, map_take as map_taken}
use Rattle.schema.specs.Law.{AllDiffer}
use Rattle.schema.specs.Values.{ValueTree}
use Rattle.schema.specs.Keys.{KeyColumn, places_of, AreDistinct}
use Rattle.schema.specs.Cutting.{is_among}
use Rattle.partition.specs.Folders.{escaped, value_text, folder, folders, path, is_key, is_key_value, AreKeyColumns, name_in}
use Rattle.partition.specs.Nesting.{IsPlainName, path_to, folder_at, FewerCanPartition, FoldersNest, PartNamesArePlain}
use Rattle.partition.proofs.Naming.{join_is, rest_of}
use Rattle.partition.proofs.PartNaming.{name_no_slash}
use Rattle.partition.proofs.ReadingBack.{folder_no_slash}

-- ---- fewer columns

differ_taken : (d : ℕ) (ns : List (List ℕ)) → AllDiffer ns → AllDiffer (take d ns)
differ_taken zero ns all = tt
differ_taken (suc d) [] all = tt
differ_taken (suc d) (n ∷ ns) all = (all_taken (λ m. n ≡ m → ⊥) d ns all.0, differ_taken d ns all.1)

among_taken : (d : ℕ) (ns : List ℕ) (n : ℕ) → is_among ns n ≡ false → is_among (take d ns) n ≡ false
among_taken zero ns n none = refl
among_taken (suc d) [] n none = refl
among_taken (suc d) (m ∷ ns) n none =
    let parts = or_false (nat_eq m n) (is_among ns n) none in
    ap (λ b. b || is_among (take d ns) n) parts.0 ∙ among_taken d ns n parts.1

distinct_taken : (d : ℕ) (ns : List ℕ) → AreDistinct ns → AreDistinct (take d ns)
distinct_taken zero ns all = tt
distinct_taken (suc d) [] all = tt
distinct_taken (suc d) (n ∷ ns) all = (among_taken d ns n all.0, distinct_taken d ns all.1)

short_taken : {X : Type 0} (d k : ℕ) (xs : List X) → length xs ≤ k → length (take d xs) ≤ k
short_taken zero k xs few = omega arith
short_taken (suc d) k [] few = few
short_taken (suc d) zero (x ∷ xs) few = absurd (omega (arith, few))
short_taken (suc d) (suc k) (x ∷ xs) few = omega (arith, short_taken d k xs (omega (arith, few)))

columns_taken : (d : ℕ) (columns : List KeyColumn) → AreKeyColumns columns → AreKeyColumns (take d columns)
columns_taken d columns are = record {
  at_most_eight = short_taken d 8 columns are.at_most_eight;
  named = all_taken (λ (c : KeyColumn). c.name ≢ []) d columns are.named;
  names_differ = subst AllDiffer (sym (map_taken (λ (c : KeyColumn). c.name) d columns)) (differ_taken d (map (λ (c : KeyColumn). c.name) columns) are.names_differ);
  places_differ = subst AreDistinct (sym (map_taken (λ (c : KeyColumn). c.at) d columns)) (distinct_taken d (places_of columns) are.places_differ);
}

values_taken : (d : ℕ) (columns : List KeyColumn) (key : List ValueTree) → is_key columns key ≡ true → is_key (take d columns) (take d key) ≡ true
values_taken zero columns key is = refl
values_taken (suc d) [] [] is = refl
values_taken (suc d) [] (v ∷ key) is = absurd (false≢true is)
values_taken (suc d) (c ∷ columns) [] is = absurd (false≢true is)
values_taken (suc d) (c ∷ columns) (v ∷ key) is =
    let parts = and_parts (is_key_value c.kind v) (is_key columns key) is in
    ap (λ b. b && is_key (take d columns) (take d key)) parts.0 ∙ values_taken d columns key parts.1

folders_taken : (d : ℕ) (columns : List KeyColumn) (key : List ValueTree) → folders (take d columns) (take d key) ≡ take d (folders columns key)
folders_taken zero columns key = refl
folders_taken (suc d) [] [] = refl
folders_taken (suc d) [] (v ∷ key) = refl
folders_taken (suc d) (c ∷ columns) [] = refl
folders_taken (suc d) (c ∷ columns) (v ∷ key) = ap (λ fs. folder c v ∷ fs) (folders_taken d columns key)

pub fewer_can_partition : FewerCanPartition
fewer_can_partition d columns key can = record {
  keyed = columns_taken d columns can.keyed;
  values = values_taken d columns key can.values;
  within_limits = subst (AllByRecursion (λ f. length f ≤ 255)) (sym (folders_taken d columns key)) (all_taken (λ f. length f ≤ 255) d (folders columns key) can.within_limits);
}

-- ---- one folder further

some_before : (f x : List ℕ) (b : ℕ) → f ++ b ∷ x ≢ []
some_before [] x b e = cc
some_before (a ∷ f) x b e = cc

folder_is_name : (c : KeyColumn) (v : ValueTree) → IsPlainName (folder c v)
folder_is_name c v = record { some = some_before (escaped c.name) (escaped (value_text v)) 61; plain = folder_no_slash c v }

pub part_names_are_plain : PartNamesArePlain
part_names_are_plain number small = record { some = λ e. cc; plain = name_no_slash number small }

are_names : (columns : List KeyColumn) (key : List ValueTree) → AllByRecursion IsPlainName (folders columns key)
are_names [] [] = tt
are_names [] (v ∷ key) = tt
are_names (c ∷ columns) [] = tt
are_names (c ∷ columns) (v ∷ key) = (folder_is_name c v, are_names columns key)

count_folders : (columns : List KeyColumn) (key : List ValueTree) → is_key columns key ≡ true → length (folders columns key) ≡ length columns
count_folders [] [] is = refl
count_folders [] (v ∷ key) is = absurd (false≢true is)
count_folders (c ∷ columns) [] is = absurd (false≢true is)
count_folders (c ∷ columns) (v ∷ key) is = ap suc (count_folders columns key (and_parts (is_key_value c.kind v) (is_key columns key) is).1)

count_values : (columns : List KeyColumn) (key : List ValueTree) → is_key columns key ≡ true → length key ≡ length columns
count_values [] [] is = refl
count_values [] (v ∷ key) is = absurd (false≢true is)
count_values (c ∷ columns) [] is = absurd (false≢true is)
count_values (c ∷ columns) (v ∷ key) is = ap suc (count_values columns key (and_parts (is_key_value c.kind v) (is_key columns key) is).1)

in_some : (y f : List ℕ) → y ≢ [] → name_in y f ≡ y ++ 47 ∷ f
in_some [] f some = absurd (some refl)
in_some (b ∷ y) f some = refl

join_some : (g : List ℕ) (fs : List (List ℕ)) → IsPlainName g → join_with_byte 47 (g ∷ fs) ≢ []
join_some [] fs is = absurd (is.some refl)
join_some (b ∷ g) fs is = λ e. let whole : b ∷ (g ++ rest_of fs) ≡ [] = sym (join_is (b ∷ g) fs) ∙ e in cc

join_more : (fs : List (List ℕ)) (f : List ℕ) → AllByRecursion IsPlainName fs → join_with_byte 47 (fs ++ f ∷ []) ≡ name_in (join_with_byte 47 fs) f
join_more [] f all = refl
join_more (g ∷ []) f all = sym (in_some g f all.0.some)
join_more (g ∷ h ∷ fs) f all =
    let inner = join_with_byte 47 (h ∷ fs) in
    ap (λ (y : List ℕ). g ++ 47 ∷ y) (join_more (h ∷ fs) f all.1 ∙ in_some inner f (join_some h fs all.1.0))
    ∙ sym (append_assoc g (47 ∷ inner) (47 ∷ f))
    ∙ sym (in_some (g ++ 47 ∷ inner) f (some_before g inner 47))

at_index : {X : Type 0} (P : X → Type 0) (xs : List X) (i : ℕ) (d : X) → i < length xs → AllByRecursion P xs → P (get_or xs i d)
at_index P [] i d lt all = absurd (omega (arith, lt))
at_index P (x ∷ xs) zero d lt all = all.0
at_index P (x ∷ xs) (suc i) d lt all = at_index P xs i d (omega (arith, lt)) all.1

take_whole : {X : Type 0} (xs : List X) (n : ℕ) → n ≡ length xs → take n xs ≡ xs
take_whole [] zero is = refl
take_whole [] (suc n) is = refl
take_whole (x ∷ xs) zero is = absurd (omega (arith, is))
take_whole (x ∷ xs) (suc n) is = ap (λ ys. x ∷ ys) (take_whole xs n (omega (arith, is)))

module _ (columns : List KeyColumn) (key : List ValueTree) (is : is_key columns key ≡ true) where
  next_is_name : (d : ℕ) → d < length columns → IsPlainName (folder_at columns key d)
  next_is_name d lt = at_index IsPlainName (folders columns key) d [] (omega (arith, count_folders columns key is, lt)) (are_names columns key)

  path_more : (d : ℕ) → d < length columns → path_to columns key (suc d) ≡ name_in (path_to columns key d) (folder_at columns key d)
  path_more d lt =
      let fs = folders columns key in
      let within : d < length fs = omega (arith, count_folders columns key is, lt) in
      ap (join_with_byte 47) (folders_taken (suc d) columns key ∙ take-suc fs d [] within)
      ∙ join_more (take d fs) (folder_at columns key d) (all_taken IsPlainName d fs (are_names columns key))
      ∙ ap (λ (p : List (List ℕ)). name_in (join_with_byte 47 p) (folder_at columns key d)) (sym (folders_taken d columns key))

  path_whole : path_to columns key (length columns) ≡ path columns key
  path_whole =
      ap (λ (cs : List KeyColumn). path cs (take (length columns) key)) (take_whole columns (length columns) refl)
      ∙ ap (path columns) (take_whole key (length columns) (sym (count_values columns key is)))

pub folders_nest : FoldersNest
folders_nest columns key is = record { whole = path_whole columns key is; names = next_is_name columns key is; nest = path_more columns key is }
