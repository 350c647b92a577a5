-- What the bytes of a root can describe, once their record is read.
use Rattle.std.proofs.Common.{◌≡◌, ℕ, zero, suc, ◌+◌, ◌<◌, ◌≤◌, ◌^◌, ◌⊎◌, inl, inr, Bool, true, false, max, List, [], ◌∷◌, ◌++◌, length, map, replicate, Some, refl, sym, ◌∙◌, subst, arith}
use Rattle.std.specs.Prelude.{cond}
use Rattle.std.specs.List.{AllByRecursion}
use Rattle.bits.specs.declared.refusal.Refusal.{Refusal}
use Rattle.bits.specs.declared.refusal.Refusal.TheVariants.{Schema, Codec, Float, Int96, Page, Limit, Key, NoTable, Memory}
use Rattle.bits.specs.Refusals.{HasCause, IsFault}
use Rattle.schema.specs.Shape.{Field, leaf, fields, Fields, no_fields, field}
use Rattle.schema.specs.Stripe.{Leaf, leaves, leaves_from, leaves_of, below}
use Rattle.schema.specs.Elements.{Element}
use Rattle.schema.specs.Law.{IsSchema, IsValid, AreValid, IsWithinLimits}
use Rattle.schema.specs.Listing.{IsSchemaOf, IsTooLarge, ListsMeanOneSchema}
use Rattle.schema.specs.Faults.{HasFault}
use Rattle.schema.specs.Reading.{tall, tallest}
use Rattle.schema.specs.Keys.{KeyColumn, AreKeys, IsTableOver, without_keys, fields_besides}
use Rattle.schema.proofs.Few.{sizes, count_leaves}
use Rattle.schema.proofs.Limits.{not_too_large}
use Rattle.metadata.specs.Records.{FileMeta, GroupMeta, type_order}
use Rattle.footer.specs.File.{IsFile}
use Rattle.footer.specs.Faults.{HasFooterFault}
use Rattle.manifest.specs.Groups.{Group, Root}
use Rattle.manifest.specs.Records.{IsGroup, AreGroupRecords}
use Rattle.manifest.specs.Root.{HasPairs, RootMeans, stored_of}
use Rattle.manifest.specs.Faults.{HasRootFault, large_schema, large_table, large_group}
use Rattle.manifest.specs.Laws.{GroupsAreOne}
use Rattle.manifest.specs.inner.Reading.{IsGroupsFault}
use Rattle.schema.specs.inner.Keyed.{has_key}
use Rattle.manifest.proofs.OneRoot.{same_keys, same_next}
use Rattle.manifest.proofs.GroupLists.{one_list}
use Rattle.schema.proofs.TableLeaves.{table_leaves}

-- ---- how deep the fields nest

-- the ways to these leaves are so short
abbrev AreNear : ℕ → List Leaf → Type 0
AreNear n ls = AllByRecursion (λ (l : Leaf). length l.steps ≤ n) ls

near_both : (n : ℕ) (xs ys : List Leaf) → AreNear n (xs ++ ys) → AreNear n xs × AreNear n ys
near_both n [] ys h = (tt, h)
near_both n (x ∷ xs) ys h = let p = near_both n xs ys h.1 in ((h.0, p.0), p.1)

near_joined : (n : ℕ) (xs ys : List Leaf) → AreNear n xs → AreNear n ys → AreNear n (xs ++ ys)
near_joined n [] ys p q = q
near_joined n (x ∷ xs) ys p q = (p.0, near_joined n xs ys p.1 q)

near_more : (n k : ℕ) (xs : List Leaf) → n ≤ k → AreNear n xs → AreNear k xs
near_more n k [] h p = tt
near_more n k (x ∷ xs) h p = (let q = p.0 in omega (arith, h, q), near_more n k xs h p.1)

near_below : (n i : ℕ) (f : Field) (ls : List Leaf) → AreNear (suc n) (map (below i f) ls) → AreNear n ls
near_below n i f [] h = tt
near_below n i f (l ∷ ls) h = (let k = h.0 in omega (arith, k), near_below n i f ls h.1)

near_above : (n i : ℕ) (f : Field) (ls : List Leaf) → AreNear n ls → AreNear (suc n) (map (below i f) ls)
near_above n i f [] h = tt
near_above n i f (l ∷ ls) h = (let k = h.0 in omega (arith, k), near_above n i f ls h.1)

far : (i : ℕ) (f : Field) (ls : List Leaf) → 1 ≤ length ls → AreNear 0 (map (below i f) ls) → ⊥
far i f [] some h = omega (arith, some)
far i f (l ∷ ls) some h = let k = h.0 in omega (arith, k)

some_leaf : (f : Field) → IsValid f → 1 ≤ length (leaves f)
some_leaf f h = let k = count_leaves 0 (field f no_fields) (h, tt) in let s = sizes 0 f no_fields in omega (arith, k, s)

mutual
  tall_within : (n : ℕ) (f : Field) → IsValid f → AreNear n (leaves f) → tall f ≤ suc n
  tall_within n (leaf name r t) valid near = omega arith
  tall_within n (fields name r a fs) valid near = let k = tallest_within n 0 fs valid.1 near in omega (arith, k)

  tallest_within : (n i : ℕ) (fs : Fields) → AreValid fs → AreNear n (leaves_from i fs) → tallest fs ≤ n
  tallest_within n i no_fields valid near = omega arith
  tallest_within zero i (field f fs) valid near = absurd (far i f (leaves f) (some_leaf f valid.0) (near_both 0 (map (below i f) (leaves f)) (leaves_from (suc i) fs) near).0)
  tallest_within (suc n) i (field f fs) valid near =
      let p = near_both (suc n) (map (below i f) (leaves f)) (leaves_from (suc i) fs) near in
      let a = tall_within n f valid.0 (near_below n i f (leaves f) p.0) in
      let b = tallest_within (suc n) (suc i) fs valid.1 p.1 in
      omega (arith, a, b)

mutual
  near_at : (n : ℕ) (f : Field) → tall f ≤ suc n → AreNear n (leaves f)
  near_at n (leaf name r t) h = (omega arith, tt)
  near_at n (fields name r a fs) h = near_each n 0 fs (omega (arith, h))

  near_each : (n i : ℕ) (fs : Fields) → tallest fs ≤ n → AreNear n (leaves_from i fs)
  near_each n i no_fields h = tt
  near_each zero i (field f fs) h = absurd (none f (omega (arith, h)))
    where
      none : (g : Field) → tall g ≤ 0 → ⊥
      none (leaf name r t) low = omega (arith, low)
      none (fields name r a gs) low = omega (arith, low)
  near_each (suc n) i (field f fs) h =
      near_joined (suc n) (map (below i f) (leaves f)) (leaves_from (suc i) fs) (near_above n i f (leaves f) (near_at n f (omega (arith, h)))) (near_each (suc n) (suc i) fs (omega (arith, h)))

besides_short : (gone : ℕ → Bool) (i : ℕ) (fs : Fields) → tallest (fields_besides gone i fs) ≤ tallest fs
besides_short gone i no_fields = omega arith
besides_short gone i (field f fs) = by (gone i) (besides_short gone (suc i) fs)
  where
    by : (b : Bool) → tallest (fields_besides gone (suc i) fs) ≤ tallest fs
        → tallest (cond b (fields_besides gone (suc i) fs) (field f (fields_besides gone (suc i) fs))) ≤ max (tall f) (tallest fs)
    by true h = omega (arith, h)
    by false h = omega (arith, h)

-- the fields of the files are no deeper than the table's
stored_low : (keys : List KeyColumn) (fs : Fields) → IsSchema fs → IsWithinLimits fs → tallest (without_keys keys fs) ≤ 32
stored_low keys fs valid within =
    let all = tallest_within 32 0 fs valid.1 within.depth in
    let low = besides_short (has_key keys) 0 fs in
    omega (arith, all, low)

stored_within : (keys : List KeyColumn) (fs : Fields) → IsSchema fs → IsWithinLimits fs → AreKeys keys fs → IsWithinLimits (without_keys keys fs)
stored_within keys fs valid within are =
    let all = table_leaves keys fs are in
    let few = within.leaves in
    record { leaves = omega (arith, all, few); depth = near_each 32 0 (without_keys keys fs) (stored_low keys fs valid within) }

-- ---- what is described

few_numbers : (gs : List Group) (next : ℕ) → next < 2 ^ 64 → AllByRecursion (λ (g : Group). g.number < next) gs → AllByRecursion (λ (g : Group). suc g.number < 2 ^ 64) gs
few_numbers [] next fits below = tt
few_numbers (g ∷ gs) next fits below = (let h = below.0 in omega (arith, h, fits), few_numbers gs next fits below.1)

module _ (bytes : List ℕ) (m : FileMeta) (alone : (front : List ℕ) (other : FileMeta) → IsFile bytes front other → other ≡ m) (root : Root) (r : RootMeans bytes root) where
  meta_is : r.meta ≡ m
  meta_is = alone r.front r.meta r.file

  pub schema_here : IsSchemaOf m.schema (stored_of root)
  schema_here = subst (λ (x : FileMeta). IsSchemaOf x.schema (stored_of root)) meta_is r.schema

  pub short_schema : IsTooLarge m.schema → ⊥
  short_schema = not_too_large m.schema (stored_of root) schema_here (stored_low root.keys root.schema r.described.schema r.described.within) (stored_within root.keys root.schema r.described.schema r.described.within r.described.keys)

  pub pairs_here : HasPairs m root.keys root.next
  pairs_here = subst (λ (x : FileMeta). HasPairs x root.keys root.next) meta_is r.pairs

  pub next_is : (keys : List KeyColumn) (next : ℕ) → HasPairs m keys next → root.next ≡ next
  next_is keys next p = same_next m root.keys keys root.next next pairs_here p

  module _ (lists : ListsMeanOneSchema) (stored : Fields) (s : IsSchemaOf m.schema stored) where
    stored_is : stored_of root ≡ stored
    stored_is = lists m.schema (stored_of root) stored schema_here s

    pub orders_over : m.column_orders ≡ Some (replicate (length (leaves_of stored)) type_order)
    orders_over = subst (λ (fs : Fields). m.column_orders ≡ Some (replicate (length (leaves_of fs)) type_order)) stored_is
        (subst (λ (x : FileMeta). x.column_orders ≡ Some (replicate (length (leaves_of (stored_of root))) type_order)) meta_is r.orders)

    module _ (keys : List KeyColumn) (next : ℕ) (p : HasPairs m keys next) where
      keys_are : root.keys ≡ keys
      keys_are = same_keys m root.keys keys root.next next pairs_here p

      pub table_over : IsTableOver keys stored root.schema
      table_over = subst (λ (ks : List KeyColumn). IsTableOver ks stored root.schema) keys_are
          (record { schema = r.described.schema; within = r.described.within; keyed = r.described.keys; besides = stored_is })

      pub records_over : AreGroupRecords keys stored m.row_groups root.groups
      records_over = subst (λ (fs : Fields). AreGroupRecords keys fs m.row_groups root.groups) stored_is
          (subst (λ (ks : List KeyColumn). AreGroupRecords ks (stored_of root) m.row_groups root.groups) keys_are
          (subst (λ (x : FileMeta). AreGroupRecords root.keys (stored_of root) x.row_groups root.groups) meta_is r.groups))

      pub few_of_root : AllByRecursion (λ (g : Group). suc g.number < 2 ^ 64) root.groups
      few_of_root = few_numbers root.groups root.next r.described.fits r.described.below

      pub groups_are : GroupsAreOne → (gs : List Group) → AllByRecursion (λ (g : Group). suc g.number < 2 ^ 64) gs → AreGroupRecords keys stored m.row_groups gs → root.groups ≡ gs
      groups_are one gs few are = one_list one keys stored s.valid m.row_groups root.groups gs few_of_root few records_over are

-- ---- refusals

pub footer_only : (bytes : List ℕ) (e : Refusal) → (IsFault e → (front : List ℕ) (meta : FileMeta) → IsFile bytes front meta → ⊥) → HasFooterFault bytes e → (e ≡ Memory → ⊥) → (root : Root) → RootMeans bytes root → ⊥
footer_only bytes Limit only why other root r = r.short why
footer_only bytes Memory only why other root r = other refl
footer_only bytes e only why other root r = only tt r.front r.meta r.file

pub schema_only : (es : List Element) (e : Refusal) → (IsFault e → (fs : Fields) → IsSchemaOf es fs → ⊥) → HasFault es e → (e ≡ Memory → ⊥) → (fs : Fields) → IsSchemaOf es fs → (IsTooLarge es → ⊥) → ⊥
schema_only es Limit only why other fs s short = short why
schema_only es Memory only why other fs s short = other refl
schema_only es e only why other fs s short = only tt fs s

pub memory_only : (e : Refusal) → HasCause (λ _. ⊥) e → (e ≡ Memory → ⊥) → ⊥
memory_only Memory why other = other refl
memory_only e why other = why

module _ (bytes front : List ℕ) (m : FileMeta) (file : IsFile bytes front m) where
  pub schema_which : (e : Refusal) → HasFault m.schema e → HasCause (HasRootFault bytes) e
  schema_which Schema why = tt
  schema_which (Float path) why = record { front = front; meta = m; file = file; is = why }
  schema_which (Int96 path) why = record { front = front; meta = m; file = file; is = why }
  schema_which Limit why = large_schema (record { front = front; meta = m; file = file; is = why })
  schema_which Memory why = tt
  schema_which e why = absurd why

  pub keys_which : (e : Refusal) → HasCause (λ (x : Refusal). x ≡ NoTable) e → ((e ≡ Memory → ⊥) → (keys : List KeyColumn) (next : ℕ) → HasPairs m keys next → ⊥) → HasCause (HasRootFault bytes) e
  keys_which Memory why only = tt
  keys_which e why only = subst (HasCause (HasRootFault bytes)) (sym why) (record { front = front; meta = m; file = file; is = only (λ h. let k : NoTable ≡ Memory = sym why ∙ h in cc) })

  pub table_which : (stored : Fields) (keys : List KeyColumn) (next size : ℕ) → IsSchemaOf m.schema stored → HasPairs m keys next → size ≡ length keys → (e : Refusal)
      → HasCause (λ (x : Refusal). (x ≡ Key) ⊎ ((x ≡ Limit) × (1024 < length (leaves_of stored) + size))) e → HasCause (HasRootFault bytes) e
  table_which stored keys next size s p sized Memory why = tt
  table_which stored keys next size s p sized e (inl h) = subst (HasCause (HasRootFault bytes)) (sym h) tt
  table_which stored keys next size s p sized e (inr h) = subst (HasCause (HasRootFault bytes)) (sym h.0)
      (large_table (record { front = front; meta = m; file = file; is = record { stored = stored; keys = keys; next = next; schema = s; pairs = p; over = subst (λ (k : ℕ). 1024 < length (leaves_of stored) + k) sized h.1 } }))

  pub groups_which : (e : Refusal) → IsGroupsFault m.row_groups e → HasCause (HasRootFault bytes) e
  groups_which Schema why = tt
  groups_which Codec why = record { front = front; meta = m; file = file; is = why }
  groups_which Page why = tt
  groups_which Key why = tt
  groups_which Limit why = large_group (record { front = front; meta = m; file = file; is = why })
  groups_which Memory why = tt
  groups_which e why = absurd why

-- ---- what was read is described

pub each_described : (keys : List KeyColumn) (stored : Fields) (ms : List GroupMeta) (gs : List Group) → AreGroupRecords keys stored ms gs → AllByRecursion (IsGroup keys stored) gs
each_described keys stored [] [] are = tt
each_described keys stored [] (g ∷ gs) are = absurd are
each_described keys stored (m ∷ ms) [] are = absurd are
each_described keys stored (m ∷ ms) (g ∷ gs) are = (are.0.is, each_described keys stored ms gs are.1)

pub memory_cause : (Cause : Refusal → Type 0) (e : Refusal) → HasCause (λ _. ⊥) e → HasCause Cause e
memory_cause Cause Memory why = tt
memory_cause Cause e why = absurd why
