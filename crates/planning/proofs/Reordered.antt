-- Table order holds where new groups of a run's key stand in its place.
use Rattle.std.proofs.Common.{◌≡◌, ◌≢◌, ℕ, Bool, true, List, [], ◌∷◌, ◌++◌, refl, sym, subst}
use Rattle.std.specs.List.{AllByRecursion}
use Rattle.schema.specs.Keys.{AreDistinct}
use Rattle.schema.specs.Values.{ValueTree}
use Rattle.table.specs.Table.{Row}
use Rattle.manifest.specs.Groups.{Group}
use Rattle.planning.specs.Told.{numbers_of}
use Rattle.planning.specs.Replaced.{Run, changes_of, replaced}
use Rattle.planning.specs.Rewritten.{RunsStand, RewrittenAreInOrder}
use Rattle.planning.proofs.Ordered.{le, IsInOrder, from_table_order, to_table_order}
use Rattle.planning.proofs.Kept.{key_in, Above, all_above, starts, before_others, above_all}
use Rattle.planning.proofs.Rewriting.{numbers_append, distinct_later, none_come, no_change, parts_of}

-- ---- two parts

above_first : (k : List ValueTree) (xs ys : List Group) → Above k (xs ++ ys) → Above k xs
above_first k [] ys a = tt
above_first k (x ∷ xs) ys a = (a.0, above_first k xs ys a.1)

above_later : (k : List ValueTree) (xs ys : List Group) → Above k (xs ++ ys) → Above k ys
above_later k [] ys a = a
above_later k (x ∷ xs) ys a = above_later k xs ys a.1

above_both : (k : List ValueTree) (xs ys : List Group) → Above k xs → Above k ys → Above k (xs ++ ys)
above_both k [] ys a b = b
above_both k (x ∷ xs) ys a b = (a.0, above_both k xs ys a.1 b)

order_later : (xs ys : List Group) → IsInOrder key_in (xs ++ ys) → IsInOrder key_in ys
order_later [] ys o = o
order_later (x ∷ xs) ys o = order_later xs ys o.1

keys_first : (k : List ValueTree) (xs ys : List Group) → AllByRecursion (λ (g : Group). g.key ≡ k) (xs ++ ys) → AllByRecursion (λ (g : Group). g.key ≡ k) xs
keys_first k [] ys a = tt
keys_first k (x ∷ xs) ys a = (a.0, keys_first k xs ys a.1)

keys_later : (k : List ValueTree) (xs ys : List Group) → AllByRecursion (λ (g : Group). g.key ≡ k) (xs ++ ys) → AllByRecursion (λ (g : Group). g.key ≡ k) ys
keys_later k [] ys a = a
keys_later k (x ∷ xs) ys a = keys_later k xs ys a.1

-- others stand behind the same ones, that are above each key that those were above
behind_same : (before xs ys : List Group) → IsInOrder key_in (before ++ xs) → IsInOrder key_in ys → ((k : List ValueTree) → Above k xs → Above k ys) → IsInOrder key_in (before ++ ys)
behind_same [] xs ys o p f = p
behind_same (b ∷ before) xs ys o p f =
    let a = all_above b (before ++ xs) o in
    (starts b.key (before ++ ys) (above_both b.key before ys (above_first b.key before xs a) (f b.key (above_later b.key before xs a))), behind_same before xs ys o.1 p f)

-- ---- a run

-- a key that the sources are above is at most theirs
at_most : (j k : List ValueTree) (sources : List Group) → sources ≢ [] → AllByRecursion (λ (g : Group). g.key ≡ k) sources → Above j sources → le j k ≡ true
at_most j k [] n s a = absurd (n refl)
at_most j k (g ∷ gs) n s a = subst (λ i. le j i ≡ true) s.0 a.0

above_run : (k : List ValueTree) (sources after : List Group) → sources ≢ [] → AllByRecursion (λ (g : Group). g.key ≡ k) sources → IsInOrder key_in (sources ++ after) → Above k after
above_run k [] after n s o = absurd (n refl)
above_run k (g ∷ gs) after n s o = subst (λ i. Above i after) s.0 (above_later g.key gs after (all_above g (gs ++ after) o))

record Keeps (old new : List Group) : Type 0 where
  pub order : IsInOrder key_in old → IsInOrder key_in new
  pub above : (k : List ValueTree) → Above k old → Above k new

one_run : (before sources after come later : List Group) (k : List ValueTree) → sources ≢ [] → AllByRecursion (λ (g : Group). g.key ≡ k) (sources ++ come) → Keeps after later → Keeps (before ++ (sources ++ after)) (before ++ (come ++ later))
one_run before sources after come later k n s h = record {
  order = λ o. let p = order_later before (sources ++ after) o in behind_same before (sources ++ after) (come ++ later) o
      (before_others k come later (keys_later k sources come s) (h.above k (above_run k sources after n (keys_first k sources come s) p)) (h.order (order_later sources after p))) run_above;
  above = λ j a. above_both j before (come ++ later) (above_first j before (sources ++ after) a) (run_above j (above_later j before (sources ++ after) a));
}
  where
    run_above : (j : List ValueTree) → Above j (sources ++ after) → Above j (come ++ later)
    run_above j a = above_all j k (at_most j k sources n (keys_first k sources come s) (above_first j sources after a)) come later (keys_later k sources come s) (h.above j (above_later j sources after a))

tail_distinct : (xs ys zs : List Group) → AreDistinct (numbers_of (xs ++ (ys ++ zs))) → AreDistinct (numbers_of zs)
tail_distinct xs ys zs e = distinct_later (numbers_of ys) (numbers_of zs) (subst AreDistinct (numbers_append ys zs) (distinct_later (numbers_of xs) (numbers_of (ys ++ zs)) (subst AreDistinct (numbers_append xs (ys ++ zs)) e)))

all_runs : (rows_of : Group → List Row) (size : ℕ) (had : ℕ → Bool) (rs : List Run) (old : List Group) → AreDistinct (numbers_of old) → RunsStand rows_of size had rs old → Keeps old (replaced (changes_of rs) old)
all_runs rows_of size had [] old d h = subst (λ gs. Keeps old gs) (sym (none_come [] old (no_change old))) (record { order = λ o. o; above = λ k a. a })
all_runs rows_of size had (r ∷ rs) old d h =
    let distinct = subst (λ gs. AreDistinct (numbers_of gs)) h.3 d in
    let later = all_runs rows_of size had rs h.2 (tail_distinct h.0 h.1 h.2 distinct) h.5 in
    subst (λ gs. Keeps gs (replaced (changes_of (r ∷ rs)) gs)) (sym h.3)
    (subst (λ gs. Keeps (h.0 ++ (h.1 ++ h.2)) gs) (sym (parts_of rows_of size had r rs h.0 h.1 h.2 distinct h.4 h.5))
    (one_run h.0 h.1 h.2 r.come (replaced (changes_of rs) h.2) h.4.key h.4.some h.4.same_key later))

pub rewritten_are_in_order : RewrittenAreInOrder
rewritten_are_in_order rows_of size had rs old d h o = to_table_order key_in (replaced (changes_of rs) old) ((all_runs rows_of size had rs old d h).order (from_table_order key_in old o))
