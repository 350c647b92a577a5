-- What holds of each old group and of each that comes holds of each group after the edits.
use Rattle.std.proofs.Common.{◌≡◌, ℕ, Bool, true, false, List, [], ◌∷◌, ◌++◌, map, Option, Some, None, nat_eq, subst}
use Rattle.std.specs.Prelude.{if◌then◌else◌}
use Rattle.std.specs.List.{AllByRecursion}
use Rattle.std.specs.Ordering.{is_le}
use Rattle.lists.proofs.Lists.{all_append}
use Rattle.partition.specs.Order.{key_cmp}
use Rattle.table.specs.InOrder.{put_in_order, in_order}
use Rattle.manifest.specs.Groups.{Group}
use Rattle.planning.specs.Replaced.{Change, Run, gone, changes_for, changes_of, come_for, or_itself, replaced, without}
use Rattle.planning.specs.Numbered.{brought, brought_by}
use Rattle.planning.proofs.Gone.{gone_are_gone}

module _ (P : Group → Type 0) where
  abbrev Each : List Group → Type 0
  Each gs = AllByRecursion P gs

  put_each : (x : Group) (gs : List Group) → P x → Each gs → Each (put_in_order (λ (g : Group). g.key) x gs)
  put_each x [] h a = (h, tt)
  put_each x (g ∷ gs) h a = by (is_le (key_cmp x.key g.key)) (put_each x gs h a.1)
    where
      by : (b : Bool) → Each (put_in_order (λ (y : Group). y.key) x gs) → Each (if b then x ∷ g ∷ gs else g ∷ put_in_order (λ (y : Group). y.key) x gs)
      by true r = (h, a)
      by false r = (a.0, r)

  order_each : (gs : List Group) → Each gs → Each (in_order (λ (g : Group). g.key) gs)
  order_each [] a = tt
  order_each (g ∷ gs) a = put_each g (in_order (λ (y : Group). y.key) gs) a.0 (order_each gs a.1)

  pub each_placed : (old new : List Group) → Each old → Each new → Each (in_order (λ (g : Group). g.key) (old ++ new))
  each_placed old new a b = order_each (old ++ new) (all_append P old new a b)

  -- ---- what comes

  pub each_first : (gs hs : List Group) → Each (gs ++ hs) → Each gs
  each_first [] hs a = tt
  each_first (g ∷ gs) hs a = (a.0, each_first gs hs a.1)

  pub each_later : (gs hs : List Group) → Each (gs ++ hs) → Each hs
  each_later [] hs a = a
  each_later (g ∷ gs) hs a = each_later gs hs a.1

  come_each : (cs : List Change) (g : Group) (n : ℕ) → P g → Each (brought cs) → Each (or_itself g (come_for cs n))
  come_each [] g n h a = (h, tt)
  come_each (c ∷ cs) g n h a = by (nat_eq c.number n) (come_each cs g n h (each_later c.come (brought cs) a))
    where
      by : (b : Bool) → Each (or_itself g (come_for cs n)) → Each (or_itself g (if b then Some c.come else come_for cs n))
      by true r = each_first c.come (brought cs) a
      by false r = r

  pub each_replaced : (cs : List Change) (gs : List Group) → Each gs → Each (brought cs) → Each (replaced cs gs)
  each_replaced cs [] a b = tt
  each_replaced cs (g ∷ gs) a b = all_append P (or_itself g (come_for cs g.number)) (replaced cs gs) (come_each cs g g.number a.0 b) (each_replaced cs gs a.1 b)

  none_come : (ns : List ℕ) → Each (brought (map gone ns))
  none_come [] = tt
  none_come (n ∷ ns) = none_come ns

  pub each_left : (ns : List ℕ) (gs : List Group) → Each gs → Each (without ns gs)
  each_left ns gs a = subst Each (gone_are_gone ns gs) (each_replaced (map gone ns) gs a (none_come ns))

  pub each_brought : (cs ds : List Change) → Each (brought cs) → Each (brought ds) → Each (brought (cs ++ ds))
  each_brought [] ds a b = b
  each_brought (c ∷ cs) ds a b = all_append P c.come (brought (cs ++ ds)) (each_first c.come (brought cs) a) (each_brought cs ds (each_later c.come (brought cs) a) b)

  for_each : (ns : List ℕ) (come : List Group) → Each come → Each (brought (changes_for ns come))
  for_each [] come a = tt
  for_each (n ∷ ns) come a = all_append P come (brought (map gone ns)) a (none_come ns)

  runs_each : (rs : List Run) → Each (brought_by rs) → Each (brought (changes_of rs))
  runs_each [] a = tt
  runs_each (r ∷ rs) a = each_brought (changes_for r.sources r.come) (changes_of rs) (for_each r.sources r.come (each_first r.come (brought_by rs) a)) (runs_each rs (each_later r.come (brought_by rs) a))

  pub each_rewritten : (rs : List Run) (gs : List Group) → Each gs → Each (brought_by rs) → Each (replaced (changes_of rs) gs)
  each_rewritten rs gs a b = each_replaced (changes_of rs) gs a (runs_each rs b)
