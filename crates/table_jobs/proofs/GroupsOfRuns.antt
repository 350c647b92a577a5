-- Rows of one key that a job writes, group by group.
use Rattle.std.proofs.Common.{◌≡◌, ◌≤◌, ◌+◌, ◌*◌, ◌⊎◌, ℕ, zero, suc, Bool, true, false, nat_lt, nat_le, List, [], ◌∷◌, ◌++◌, map, length, take, drop, Some, Result, Ok, Err, refl, sym, ◌∙◌, ap, subst, arith, ⊎_elim, append_assoc}
use Rattle.std.specs.Prelude.{if◌then◌else◌, ◌==◌, OnOk}
use Rattle.std.specs.List.{AllByRecursion}
use Rattle.std.proofs.Common.{eq-eqb}
use Rattle.std.proofs.lemmas.Bool.{and_from, lt-ltb, le-leb}
use Rattle.std.proofs.lemmas.List.{append-nil, take-append-drop, drop-drop}
use Rattle.bits.specs.declared.refusal.Refusal.{Refusal}
use Rattle.bits.specs.declared.refusal.Refusal.TheVariants.{Limit, Device, Memory, NoJob, RowShape, Key as BadKey}
use Rattle.bits.specs.Refusals.{HasCause, RefusedOnly}
use Rattle.schema.specs.Shape.{Fields}
use Rattle.schema.specs.Fits.{RowsFit}
use Rattle.schema.specs.Keys.{KeyColumn, AreKeys, IsRowOf, AreRowsOf, row_without_keys, without_keys}
use Rattle.disk.specs.State.{State as DiskState}
use Rattle.vault.specs.Calls.{HasFailed}
use Rattle.footer.specs.Writing.{IsOutOfRange, IsTooMuch}
use Rattle.footer.specs.declared.options.WriteOptions.{WriteOptions}
use Rattle.partition.specs.Folders.{CanPartition}
use Rattle.partition.specs.Order.{is_same_key}
use Rattle.manifest.specs.Groups.{Group as FileGroup, root_of}
use Rattle.manifest.specs.Root.{stored_of}
use Rattle.table.specs.Table.{Row, Key, Group, rows, IsGroupIn, IsRowIn}
use Rattle.table.specs.Commits.{are_full, has_at_most}
use Rattle.table.specs.State.{State}
use Rattle.table.specs.Limits.{IsFileTooMuch, IsPart}
use Rattle.table_state.specs.declared.standing.Core.{Core}
use Rattle.table_commits.specs.Writing.{IsPartRefusal}
use Rattle.table_commits.specs.Acting.{WroteTo}
use Rattle.table_commits.specs.Filling.{HasWritten, HasSize, Adds, written_group, Goes}
use Rattle.table_jobs.specs.Rewritten.{WhyHalted, IsHalted, AddsOne, HasAdded, HasAddedOne, Parts}
use Rattle.lists.proofs.Lists.{all_append}
use Rattle.table_commits.proofs.RowsFillGroups.{size_some, keys_are}
use Rattle.table_commits.proofs.WaitingRows.{rows_append}
use Rattle.table_commits.proofs.RowsWithoutKeys.{is_row_of, stored_fit}

-- ---- rows of one key

pub rows_of : (keys : List KeyColumn) (fs : Fields) (key : Key) → AreKeys keys fs → (given : List Row) → AllByRecursion (IsRowIn fs keys key) given → AreRowsOf keys key (map (row_without_keys keys) given) given
rows_of keys fs key k [] h = tt
rows_of keys fs key k (r ∷ rs) h = (subst (λ (x : Key). IsRowOf keys x (row_without_keys keys r) r) h.0.keyed (is_row_of keys fs r k h.0.fits), rows_of keys fs key k rs h.1)

pub goes_on : (a b c : List FileGroup) → Goes a b → Goes b c → Goes a c
goes_on a b c one two = (one.0 ++ two.0, two.1 ∙ ap (λ (gs : List FileGroup). gs ++ two.0) one.1 ∙ append_assoc a one.0 two.0)

pub goes_then : (result : Result (Unit {0}) Refusal) (a b c : List FileGroup) → Goes a b → OnOk result (Goes b c) → OnOk result (Goes a c)
goes_then (Ok x) a b c one two = goes_on a b c one two
goes_then (Err e) a b c one two = tt

pub goes_nowhere : (a : List FileGroup) → Goes a a
goes_nowhere a = ([], sym (append-nil a))

-- ---- one group

module _ {D : Type 0} (state : D → DiskState) (start mid : Core D) (s : State) (n : ℕ) (files : List FileGroup) (groups : List Group) (has : HasWritten state start mid s (Some n) files groups) where
  -- out of memory here
  pub poor_here : (Part : List Row → Type 0) (most : ℕ) → mid.next_group ≤ most → IsHalted state start mid s Part most Memory
  poor_here Part most low = record { wrote = has.wrote; no_more = low; why = tt }

  -- the table's files have these columns
  pub same_fields : stored_of (root_of mid.manifest) ≡ without_keys s.table.keys s.table.schema
  same_fields = ap (λ (ks : List KeyColumn). without_keys ks (root_of mid.manifest).schema) has.wrote.shows.keys ∙ ap (λ (fs : Fields). without_keys s.table.keys fs) has.wrote.shows.schema

  module _ (key : Key) (given : List Row) (can : CanPartition s.table.keys key) (are_in : AllByRecursion (IsRowIn s.table.schema s.table.keys key) given) where
    pub are_rows : (k : Key) (stored : List Row) → k ≡ key → stored ≡ map (row_without_keys s.table.keys) given → AreRowsOf s.table.keys k stored given
    are_rows k stored ek es = subst (λ (x : Key). AreRowsOf s.table.keys x stored given) (sym ek)
        (subst (λ (xs : List Row). AreRowsOf s.table.keys key xs given) (sym es) (rows_of s.table.keys s.table.schema key (keys_are state start mid s (Some n) files groups has) given are_in))

    -- its file is not written
    pub not_written : (new : Core D) (k : Key) (stored : List Row) (e : Refusal) → k ≡ key → stored ≡ map (row_without_keys s.table.keys) given → HasCause (IsPartRefusal mid (Some n) k stored) e
        → WroteTo state start new s new.next_group → new.next_group ≤ mid.next_group + 1 → (e ≡ Device → HasFailed (state start.vault.disk) (state new.vault.disk)) → IsHalted state start new s (λ part. part ≡ given) (mid.next_group + 1) e
    not_written new k stored e ek es cause wrote rises failed = record { wrote = wrote; no_more = rises; why = why e cause failed }
      where
        too_much : IsOutOfRange mid.options ⊎ IsTooMuch (stored_of (root_of mid.manifest)) mid.options stored → IsFileTooMuch s given
        too_much h = ⊎_elim (λ out. absurd (has.wrote.shows.in_range out))
            (λ much. subst (λ (o : WriteOptions). IsTooMuch (without_keys s.table.keys s.table.schema) o (map (row_without_keys s.table.keys) given)) has.wrote.shows.options
            (subst (λ (xs : List Row). IsTooMuch (without_keys s.table.keys s.table.schema) mid.options xs) es (subst (λ (fs : Fields). IsTooMuch fs mid.options stored) same_fields much)))
            h

        fit : RowsFit (stored_of (root_of mid.manifest)) stored
        fit = subst (λ (fs : Fields). RowsFit fs stored) (sym same_fields) (subst (λ (xs : List Row). RowsFit (without_keys s.table.keys s.table.schema) xs) (sym es) (stored_fit s.table.keys s.table.schema key given are_in))

        can_so : CanPartition (root_of mid.manifest).keys k
        can_so = subst (λ (ks : List KeyColumn). CanPartition ks k) (sym has.wrote.shows.keys) (subst (λ (x : Key). CanPartition s.table.keys x) (sym ek) can)

        why : (f : Refusal) → HasCause (IsPartRefusal mid (Some n) k stored) f → (f ≡ Device → HasFailed (state start.vault.disk) (state new.vault.disk)) → WhyHalted state start new s (λ part. part ≡ given) f
        why Device c d = d refl
        why Limit c d = (given, refl, too_much c)
        why Memory c d = tt
        why NoJob c d = let h : true ≡ false = sym has.job_open ∙ c in cc
        why RowShape c d = absurd (c fit)
        why BadKey c d = absurd (c can_so)
        why f c d = absurd c

    pub added_so : (new : Core D) (more : List FileGroup) (k : Key) (stored : List Row) → k ≡ key → stored ≡ map (row_without_keys s.table.keys) given → (result : Result (Unit {0}) Refusal) → Adds state start mid new s (Some n) more groups (written_group mid.next_group k given) result
        → RefusedOnly (IsPartRefusal mid (Some n) k stored) result → OnOk result (Goes files more) → AddsOne state start new s (Some n) files more groups mid.next_group key given result
    added_so new more k stored ek es (Ok x) adds which goes = record {
      written = subst (λ (y : Key). HasWritten state start new s (Some n) more (groups ++ written_group mid.next_group y given ∷ [])) ek adds.0;
      goes = goes;
      no_more = adds.1;
    }
    added_so new more k stored ek es (Err e) adds which goes = not_written new k stored e ek es which adds.0 adds.1 adds.2

-- ---- so many of some rows

take_some : {A : Type 0} (n : ℕ) (xs : List A) → 1 ≤ n → 1 ≤ length xs → 1 ≤ length (take n xs)
take_some zero xs a b = absurd (omega (arith, a))
take_some (suc n) [] a b = absurd (omega (arith, b))
take_some (suc n) (x ∷ xs) a b = omega arith

take_most : {A : Type 0} (n : ℕ) (xs : List A) → length (take n xs) ≤ n
take_most zero xs = omega arith
take_most (suc n) [] = omega arith
take_most (suc n) (x ∷ xs) = let l = take_most n xs in omega (arith, l)

take_and_drop : {A : Type 0} (n : ℕ) (xs : List A) → length (take n xs) + length (drop n xs) ≡ length xs
take_and_drop zero xs = omega arith
take_and_drop (suc n) [] = refl
take_and_drop (suc n) (x ∷ xs) = let l = take_and_drop n xs in omega (arith, l)

take_whole_so : {A : Type 0} (n : ℕ) (xs : List A) → 1 ≤ length (drop n xs) → length (take n xs) ≡ n
take_whole_so zero xs h = refl
take_whole_so (suc n) [] h = absurd (omega (arith, h))
take_whole_so (suc n) (x ∷ xs) h = ap suc (take_whole_so n xs h)

-- ---- group by group

-- full groups, and a last one with some rows
pub full_end : (size : ℕ) → 1 ≤ size → (gs : List Group) (g : Group) → AllByRecursion (HasSize size) gs → 1 ≤ length g.rows → length g.rows ≤ size → are_full size (gs ++ g ∷ []) ≡ true
full_end size some gs g full least most = by gs full
  where
    at_most : (h : Group) → 1 ≤ length h.rows → length h.rows ≤ size → has_at_most size h ≡ true
    at_most h low high = and_from (nat_lt 0 (length h.rows)) (nat_le (length h.rows) size) (lt-ltb 0 (length h.rows) (omega (arith, low))) (le-leb (length h.rows) size high)

    either : (b : Bool) (h : Group) → length h.rows ≡ size → (if b then length h.rows == size else has_at_most size h) ≡ true
    either true h e = eq-eqb (length h.rows) size e
    either false h e = at_most h (omega (arith, e, some)) (omega (arith, e))

    by : (hs : List Group) → AllByRecursion (HasSize size) hs → are_full size (hs ++ g ∷ []) ≡ true
    by [] h = at_most g least most
    by (x ∷ []) h = and_from _ (has_at_most size g) (either (is_same_key x.key g.key) x h.0) (at_most g least most)
    by (x ∷ y ∷ ys) h = and_from _ (are_full size ((y ∷ ys) ++ g ∷ [])) (either (is_same_key x.key y.key) x h.0) (by (y ∷ ys) h.1)

module _ {D : Type 0} (state : D → DiskState) (start : Core D) (s : State) (n : ℕ) (was : List FileGroup) (groups : List Group) (key : Key) (given : List Row) (most : ℕ) where
  pub no_parts : (mid : Core D) → HasWritten state start mid s (Some n) was groups → mid.next_group + length given ≤ most → Parts state start mid s n was was groups key given most 0 given
  no_parts mid has low = record {
    added = [];
    written = subst (λ (gs : List Group). HasWritten state start mid s (Some n) was gs) (sym (append-nil groups)) has;
    goes = goes_nowhere was;
    left_is = (let e : 0 ≡ 0 * s.options.group_rows = grind arith in ap (λ (k : ℕ). drop k given) e);
    hold = refl;
    keyed = tt;
    each = tt;
    full = refl;
    sized = λ some. tt;
    no_more = low;
  }

  -- nothing is left
  pub all_parts : (mid : Core D) (files : List FileGroup) (i : ℕ) (left : List Row) → Parts state start mid s n was files groups key given most i left → left ≡ [] → HasAdded state start mid s (Some n) was files groups key given most
  all_parts mid files i left p none = record {
    added = p.added;
    written = p.written;
    holds = record { hold = sym (append-nil (rows p.added)) ∙ ap (λ (rs : List Row). rows p.added ++ rs) (sym none) ∙ p.hold; keyed = p.keyed; each = p.each; full = p.full };
    goes = p.goes;
    no_more = let l = p.no_more in omega (arith, l);
  }

  module _ (mid : Core D) (files : List FileGroup) (i : ℕ) (left : List Row) (p : Parts state start mid s n was files groups key given most i left) (some : 1 ≤ length left) where
    abbrev size : ℕ
    size = s.options.group_rows

    at_least : 1 ≤ size
    at_least = size_some state start mid s (Some n) files (groups ++ p.added) p.written

    -- the next part
    pub part_some : 1 ≤ length (take size left)
    part_some = take_some size left at_least some

    pub is_part : IsPart size given (take size left)
    is_part = (i, ap (take size) p.left_is, λ none. let e = ap (λ (rs : List Row). length rs) none in let l = part_some in absurd (omega (arith, e, l)))

    next_left : drop size left ≡ drop ((i + 1) * size) given
    next_left = ap (drop size) p.left_is ∙ drop-drop size (i * size) given ∙ ap (λ (k : ℕ). drop k given) (times i size)
      where
        times : (a b : ℕ) → a * b + b ≡ (a + 1) * b
        times a b = grind arith

    -- it is not written
    pub part_stops : (new : Core D) (e : Refusal) → IsHalted state start new s (λ part. part ≡ take size left) (mid.next_group + 1) e → IsHalted state start new s (IsPart size given) most e
    part_stops new e h = record { wrote = h.wrote; no_more = (let a = h.no_more in let b = p.no_more in omega (arith, a, b, some)); why = why e h.why }
      where
        why : (f : Refusal) → WhyHalted state start new s (λ part. part ≡ take size left) f → WhyHalted state start new s (IsPart size given) f
        why Device w = w
        why Limit w = (w.0, subst (λ (part : List Row). IsPart size given part) (sym w.1) is_part, w.2)
        why Memory w = tt
        why f w = absurd w

    -- it is
    module _ (are_in : AllByRecursion (IsRowIn s.table.schema s.table.keys key) (take size left)) (can : CanPartition s.table.keys key) where
      pub part_more : (new : Core D) (more : List FileGroup) → HasAddedOne state start new s (Some n) files more (groups ++ p.added) mid.next_group key (take size left) → Parts state start new s n was more groups key given most (i + 1) (drop size left)
      part_more new more one =
          let g = written_group mid.next_group key (take size left) in
          let sum = take_and_drop size left in
          let most_here = take_most size left in
          record {
            added = p.added ++ g ∷ [];
            written = subst (λ (gs : List Group). HasWritten state start new s (Some n) more gs) (append_assoc groups p.added (g ∷ [])) one.written;
            goes = goes_on was files more p.goes one.goes;
            left_is = next_left;
            hold = ap (λ (rs : List Row). rs ++ drop size left) (rows_append p.added (g ∷ []) ∙ ap (λ (rs : List Row). rows p.added ++ rs) (append-nil (take size left)))
                ∙ append_assoc (rows p.added) (take size left) (drop size left) ∙ ap (λ (rs : List Row). rows p.added ++ rs) (take-append-drop size left) ∙ p.hold;
            keyed = all_append (λ (x : Group). x.key ≡ key) p.added (g ∷ []) p.keyed (refl, tt);
            each = all_append (IsGroupIn s.table.schema s.table.keys) p.added (g ∷ []) p.each (record { some = part_some; keyed = can; rows_in = are_in }, tt);
            full = full_end size at_least p.added g (p.sized some) part_some most_here;
            sized = λ again. all_append (HasSize size) p.added (g ∷ []) (p.sized some) (take_whole_so size left again, tt);
            no_more = let a = p.no_more in let b = one.no_more in let c = part_some in omega (arith, sum, a, b, c);
          }
