-- Rows of a run that are under way: some are written, some wait, and the others are still to come.
use Rattle.std.proofs.Common.{◌≡◌, ◌≤◌, ◌+◌, ℕ, zero, suc, false, List, [], ◌∷◌, ◌++◌, map, length, take, drop, Option, Some, Result, Ok, Err, refl, sym, ◌∙◌, ap, subst, arith, append_assoc}
use Rattle.std.specs.Prelude.{◌==◌, IsTrue}
use Rattle.std.specs.List.{AllByRecursion}
use Rattle.std.proofs.lemmas.List.{append-nil, length-append, length-map, map-append, nil_from_length, take_all, drop_all, drop-append-le}
use Rattle.lists.proofs.Lists.{all_left, all_right}
use Rattle.lists.proofs.Slices.{take_front}
use Rattle.bits.specs.declared.refusal.Refusal.{Refusal}
use Rattle.bits.specs.declared.refusal.Refusal.TheVariants.{Memory}
use Rattle.bits.specs.Refusals.{HasCause}
use Rattle.schema.specs.Fits.{fits_each}
use Rattle.schema.specs.Shape.{Fields}
use Rattle.schema.specs.Keys.{row_without_keys, without_keys}
use Rattle.schema.specs.Views.{key_view}
use Rattle.disk.specs.State.{State as DiskState}
use Rattle.vault.specs.declared.vault.Vault.{Vault}
use Rattle.vault.specs.Calls.{LeavesAll}
use Rattle.partition.specs.Folders.{CanPartition}
use Rattle.shred.specs.declared.row_buffer.RowBuffer.{RowBuffer}
use Rattle.shred.specs.Buffer.{schema_of, holds}
use Rattle.gather.specs.declared.key_buffer.KeyBuffer.{KeyBuffer}
use Rattle.gather.specs.KeyBuffers.{HoldsRows}
use Rattle.manifest.specs.Groups.{Group as FileGroup}
use Rattle.scan.specs.Faults.{IsDevice}
use Rattle.table.specs.Table.{Row, Key, Group, rows, IsRowIn}
use Rattle.table.specs.State.{State}
use Rattle.table.specs.Limits.{IsPart}
use Rattle.table_state.specs.declared.standing.Core.{Core}
use Rattle.table_commits.specs.Filling.{HasWritten}
use Rattle.table_reads.specs.Reading.{OnlyReads}
use Rattle.table_state.specs.declared.jobs.OpenJob.{OpenJob}
use Rattle.table_state.specs.Lookups.{job_at}
use Rattle.table_jobs.specs.Rewritten.{IsHalted, AreSources, AddsAll, AddsOne, HasAdded, HasAddedOne, Parts, Task, AreUnderWay, StaysUnderWay}
use Rattle.table_commits.proofs.RowsFillGroups.{size_some}
use Rattle.table_jobs.proofs.GroupsOfRuns.{no_parts, all_parts, part_more, part_stops}
use Rattle.table_jobs.proofs.SourcesRead.{NextSource, next_source, read_on, read_stops}
use Rattle.table_commits.proofs.RowsWithoutKeys.{stored_fit}

pub not_empty : (k : ℕ) → (k == 0) ≡ false → 1 ≤ k
not_empty zero e = absurd (cc)
not_empty (suc k) e = omega arith

module _ {D : Type 0} (state : D → DiskState) (start : Core D) (s : State) (n : ℕ) (task : Task) where
  abbrev Stops : Core D → Refusal → Type 0
  Stops new e = IsHalted state start new s (IsPart s.options.group_rows task.given) task.most e

  -- nothing is written yet, and nothing waits
  pub begun : (mid : Core D) (waiting : KeyBuffer) → HasWritten state start mid s (Some n) task.was task.groups → mid.next_group + length task.given ≤ task.most → CanPartition s.table.keys task.key → AllByRecursion (IsRowIn s.table.schema s.table.keys task.key) task.given
      → key_view waiting.key ≡ task.key → HoldsRows (without_keys s.table.keys s.table.schema) [] waiting → AreUnderWay state start mid s n task task.was waiting task.given 1
  begun mid waiting has low can rows_in key_is none = record {
    held = [];
    count = 0;
    parts = no_parts state start s n task.was task.groups task.key task.given task.most mid has low;
    can = can;
    rows_in = rows_in;
    key_is = key_is;
    buffer = none;
    few = let a = size_some state start mid s (Some n) task.was task.groups has in omega (arith, a);
  }

  module _ (mid : Core D) (files : List FileGroup) (waiting : KeyBuffer) (left : List Row) (room : ℕ) (u : AreUnderWay state start mid s n task files waiting left room) where
    -- out of memory here
    pub poor_way : Stops mid Memory
    poor_way = record { wrote = u.parts.written.wrote; no_more = (let a = u.parts.no_more in omega (arith, a)); why = tt }

    pub low_way : mid.next_group ≤ task.most
    low_way = let a = u.parts.no_more in omega (arith, a)

    abbrev groups_now : List Group
    groups_now = task.groups ++ u.parts.added

    -- so many rows wait
    pub many_wait : (count : ℕ) → ((given : List Row) → holds waiting.rows given → count ≡ length given) → count ≡ length u.held
    many_wait count counted = counted (map (row_without_keys s.table.keys) u.held) u.buffer.held ∙ length-map u.held (row_without_keys s.table.keys)

    -- they wait on
    pub room_left : (more : ℕ) → length u.held + more ≤ s.options.group_rows → AreUnderWay state start mid s n task files waiting left more
    room_left more few = record { held = u.held; count = u.count; parts = u.parts; can = u.can; rows_in = u.rows_in; key_is = u.key_is; buffer = u.buffer; few = few }

    -- the disk is read
    module _ (is_open : s.closed ≡ false) (vault : Vault D) (leaves : LeavesAll (state mid.vault.disk) (state vault.disk)) (later : (state mid.vault.disk).failures ≤ (state vault.disk).failures) where
      pub read_way : AreUnderWay state start (record mid { vault = vault }) s n task files waiting left room
      read_way = record {
        held = u.held;
        count = u.count;
        parts = record {
          added = u.parts.added;
          written = read_on state start mid s n files groups_now is_open u.parts.written vault leaves later;
          goes = u.parts.goes;
          left_is = u.parts.left_is;
          hold = u.parts.hold;
          keyed = u.parts.keyed;
          each = u.parts.each;
          full = u.parts.full;
          sized = u.parts.sized;
          no_more = u.parts.no_more;
        };
        can = u.can;
        rows_in = u.rows_in;
        key_is = u.key_is;
        buffer = u.buffer;
        few = u.few;
      }

      pub way_unread : (T : Type 0) (e : Refusal) → HasCause IsDevice e → OnlyReads {T = T} (state mid.vault.disk) (state vault.disk) (Err e) → Stops (record mid { vault = vault }) e
      way_unread T e only effect = read_stops state start mid s n files groups_now is_open u.parts.written vault leaves later (IsPart s.options.group_rows task.given) task.most low_way T e only effect

    -- the rows that wait, and then those that are left
    waiting_in : AllByRecursion (IsRowIn s.table.schema s.table.keys task.key) (u.held ++ left)
    waiting_in = all_right (IsRowIn s.table.schema s.table.keys task.key) (rows u.parts.added) (u.held ++ left) (subst (λ (xs : List Row). AllByRecursion (IsRowIn s.table.schema s.table.keys task.key) xs) (sym u.parts.hold) u.rows_in)

    pub held_in : AllByRecursion (IsRowIn s.table.schema s.table.keys task.key) u.held
    held_in = all_left (IsRowIn s.table.schema s.table.keys task.key) u.held left waiting_in

    pub left_in : AllByRecursion (IsRowIn s.table.schema s.table.keys task.key) left
    left_in = all_right (IsRowIn s.table.schema s.table.keys task.key) u.held left waiting_in

    -- they are as many as a group has, and are written
    module _ (full : s.options.group_rows ≡ length u.held) (some : 1 ≤ length u.held) where
      abbrev size : ℕ
      size = s.options.group_rows

      front : take size (u.held ++ left) ≡ u.held
      front = take_front size u.held left (sym full)

      behind : drop size (u.held ++ left) ≡ left
      behind = drop-append-le size u.held left (omega (arith, full)) ∙ ap (λ (xs : List Row). xs ++ left) (drop_all size u.held (omega (arith, full)))

      some_left : 1 ≤ length (u.held ++ left)
      some_left = let l = length-append u.held left in omega (arith, l, some)

      pub full_stops : (new : Core D) (e : Refusal) → IsHalted state start new s (λ part. part ≡ u.held) (mid.next_group + 1) e → Stops new e
      full_stops new e h = part_stops state start s n task.was task.groups task.key task.given task.most mid files u.count (u.held ++ left) u.parts some_left new e
          (subst (λ (xs : List Row). IsHalted state start new s (λ part. part ≡ xs) (mid.next_group + 1) e) (sym front) h)

      pub full_written : (new : Core D) (more : List FileGroup) (fresh : KeyBuffer) → HasAddedOne state start new s (Some n) files more groups_now mid.next_group task.key u.held → key_view fresh.key ≡ task.key
          → HoldsRows (without_keys s.table.keys s.table.schema) [] fresh → AreUnderWay state start new s n task more fresh left 1
      full_written new more fresh one key_is none =
          let in_part = subst (λ (xs : List Row). AllByRecursion (IsRowIn s.table.schema s.table.keys task.key) xs) (sym front) held_in in
          let wrote = subst (λ (xs : List Row). HasAddedOne state start new s (Some n) files more groups_now mid.next_group task.key xs) (sym front) one in
          let parts = part_more state start s n task.was task.groups task.key task.given task.most mid files u.count (u.held ++ left) u.parts some_left in_part u.can new more wrote in
          record {
            held = [];
            count = u.count + 1;
            parts = subst (λ (xs : List Row). Parts state start new s n task.was more task.groups task.key task.given task.most (u.count + 1) xs) behind parts;
            can = u.can;
            rows_in = u.rows_in;
            key_is = key_is;
            buffer = none;
            few = omega (arith, full, some);
          }

      pub full_goes : (new : Core D) (more : List FileGroup) (fresh : KeyBuffer) → key_view fresh.key ≡ task.key → HoldsRows (without_keys s.table.keys s.table.schema) [] fresh
          → (result : Result (Unit {0}) Refusal) → AddsOne state start new s (Some n) files more groups_now mid.next_group task.key u.held result → StaysUnderWay state start new s n task more fresh left 1 result
      full_goes new more fresh key_is none (Ok x) one = full_written new more fresh one key_is none
      full_goes new more fresh key_is none (Err e) one = full_stops new e one

  -- the next row waits too
  module _ (mid : Core D) (files : List FileGroup) (waiting : KeyBuffer) (row : Row) (left : List Row) (u : AreUnderWay state start mid s n task files waiting (row ∷ left) 1) where
    abbrev cut : Row → Row
    cut = row_without_keys s.table.keys

    pub row_fits : IsTrue (fits_each (schema_of waiting.rows) (cut row))
    row_fits = subst (λ (fs : Fields). IsTrue (fits_each fs (cut row))) (sym u.buffer.schema)
        (stored_fit s.table.keys s.table.schema task.key (row ∷ []) ((left_in mid files waiting (row ∷ left) 1 u).0, tt)).0

    pub row_waits : (fresh : RowBuffer) → schema_of fresh ≡ schema_of waiting.rows → ((taken : List Row) → holds waiting.rows taken → holds fresh (taken ++ cut row ∷ [])) → AreUnderWay state start mid s n task files (record waiting { rows = fresh }) left 0
    row_waits fresh same more = record {
      held = u.held ++ row ∷ [];
      count = u.count;
      parts = subst (λ (xs : List Row). Parts state start mid s n task.was files task.groups task.key task.given task.most u.count xs) (sym (append_assoc u.held (row ∷ []) left)) u.parts;
      can = u.can;
      rows_in = u.rows_in;
      key_is = u.key_is;
      buffer = record {
        schema = same ∙ u.buffer.schema;
        held = subst (λ (xs : List Row). holds fresh xs) (sym (map-append cut u.held (row ∷ []))) (more (map cut u.held) u.buffer.held);
      };
      few = let a = length-append u.held (row ∷ []) in let b = u.few in omega (arith, a, b);
    }

  -- nothing is left to come
  module _ (mid : Core D) (files : List FileGroup) (waiting : KeyBuffer) (u : AreUnderWay state start mid s n task files waiting [] 1) where
    abbrev all_now : List Group
    all_now = task.groups ++ u.parts.added

    plain : u.held ++ [] ≡ u.held
    plain = append-nil u.held

    few : length u.held ≤ s.options.group_rows
    few = let a = u.few in omega (arith, a)

    pub none_more : length u.held ≡ 0 → HasAdded state start mid s (Some n) task.was files task.groups task.key task.given task.most
    none_more none = all_parts state start s n task.was task.groups task.key task.given task.most mid files u.count (u.held ++ []) u.parts (plain ∙ nil_from_length u.held none)

    module _ (some : 1 ≤ length u.held) where
      some_more : 1 ≤ length (u.held ++ [])
      some_more = let l = length-append u.held [] in omega (arith, l, some)

      last_front : take s.options.group_rows (u.held ++ []) ≡ u.held
      last_front = ap (take s.options.group_rows) plain ∙ take_all s.options.group_rows u.held few

      pub last_stops : (new : Core D) (e : Refusal) → IsHalted state start new s (λ part. part ≡ u.held) (mid.next_group + 1) e → Stops new e
      last_stops new e h = part_stops state start s n task.was task.groups task.key task.given task.most mid files u.count (u.held ++ []) u.parts some_more new e
          (subst (λ (xs : List Row). IsHalted state start new s (λ part. part ≡ xs) (mid.next_group + 1) e) (sym last_front) h)

      pub last_written : (new : Core D) (more : List FileGroup) → HasAddedOne state start new s (Some n) files more all_now mid.next_group task.key u.held → HasAdded state start new s (Some n) task.was more task.groups task.key task.given task.most
      last_written new more one =
          let in_part = subst (λ (xs : List Row). AllByRecursion (IsRowIn s.table.schema s.table.keys task.key) xs) (sym last_front) (held_in mid files waiting [] 1 u) in
          let wrote = subst (λ (xs : List Row). HasAddedOne state start new s (Some n) files more all_now mid.next_group task.key xs) (sym last_front) one in
          let parts = part_more state start s n task.was task.groups task.key task.given task.most mid files u.count (u.held ++ []) u.parts some_more in_part u.can new more wrote in
          all_parts state start s n task.was task.groups task.key task.given task.most new more (u.count + 1) (drop s.options.group_rows (u.held ++ [])) parts
          (ap (drop s.options.group_rows) plain ∙ drop_all s.options.group_rows u.held few)

      pub last_goes : (new : Core D) (more : List FileGroup) (result : Result (Unit {0}) Refusal) → AddsOne state start new s (Some n) files more all_now mid.next_group task.key u.held result
          → AddsAll state start new s (Some n) task.was more task.groups task.key task.given task.most result
      last_goes new more (Ok x) one = last_written new more one
      last_goes new more (Err e) one = last_stops new e one

-- ---- the sources that are left

-- the rows of a run, behind these groups
abbrev pub run_task : List FileGroup → List Group → Key → List Group → ℕ → Task
run_task was groups key run number = record { was = was; groups = groups; key = key; given = rows run; most = number + length (rows run) }

module _ {D : Type 0} (state : D → DiskState) (start : Core D) (s : State) (n : ℕ) (task : Task) where
  -- the rows of these sources are still to come
  pub record SourcesLeft (mid : Core D) (files : List FileGroup) (waiting : KeyBuffer) (place : ℕ) (fs : List FileGroup) : Type 0 where
    pub left : List Group
    pub are : AreSources (state start.vault.disk) s (job_at n start.jobs.items) place fs left
    pub way : AreUnderWay state start mid s n task files waiting (rows left) 1

  pub none_to_come : (mid : Core D) (files : List FileGroup) (waiting : KeyBuffer) (place : ℕ) → (l : SourcesLeft mid files waiting place []) → AreUnderWay state start mid s n task files waiting [] 1
  none_to_come mid files waiting place l = by l.left l.are l.way
    where
      by : (left : List Group) → AreSources (state start.vault.disk) s (job_at n start.jobs.items) place [] left → AreUnderWay state start mid s n task files waiting (rows left) 1 → AreUnderWay state start mid s n task files waiting [] 1
      by [] z way = way
      by (g ∷ gs) z way = absurd z

  module _ (mid : Core D) (files : List FileGroup) (waiting : KeyBuffer) (place : ℕ) (f : FileGroup) (fs : List FileGroup) (l : SourcesLeft mid files waiting place (f ∷ fs)) where
    pub next : NextSource (state start.vault.disk) s (job_at n start.jobs.items) place f fs l.left
    next = next_source (state start.vault.disk) s (job_at n start.jobs.items) place f fs l.left l.are

    -- the rows of the first, and then those of the others
    pub next_way : AreUnderWay state start mid s n task files waiting (next.g.rows ++ rows next.gs) 1
    next_way = subst (λ (gs : List Group). AreUnderWay state start mid s n task files waiting (rows gs) 1) next.is l.way

    pub then_others : (new : Core D) (more : List FileGroup) (fresh : KeyBuffer) (behind : ℕ) → behind ≡ place + 1 → AreUnderWay state start new s n task more fresh (rows next.gs) 1 → SourcesLeft new more fresh behind fs
    then_others new more fresh behind step way = record {
      left = next.gs;
      are = subst (λ (k : ℕ). AreSources (state start.vault.disk) s (job_at n start.jobs.items) k fs next.gs) (omega (arith, step)) next.others;
      way = way;
    }

-- a run has a source
pub some_source : (disk : DiskState) (s : State) (job : Option OpenJob) (place : ℕ) (fs : List FileGroup) (run : List Group) → AreSources disk s job place fs run → 1 ≤ length (rows run) → fs ≡ [] → ⊥
some_source disk s job place [] [] z some none = absurd (omega (arith, some))
some_source disk s job place [] (g ∷ gs) z some none = z
some_source disk s job place (f ∷ fs) run z some none = cc

-- its first source has its key
pub first_key : (disk : DiskState) (s : State) (job : Option OpenJob) (place : ℕ) (f : FileGroup) (fs : List FileGroup) (run : List Group) (key : Key) → AreSources disk s job place (f ∷ fs) run → AllByRecursion (λ (g : Group). g.key ≡ key) run → f.key ≡ key
first_key disk s job place f fs [] key z keyed = absurd z
first_key disk s job place f fs (g ∷ gs) key z keyed = sym z.0.stored.key ∙ keyed.0

-- the first of the rows that stand
pub record First (f : Row → Row) (given : List Row) (first : Row) (rest : List Row) : Type 0 where
  pub row : Row
  pub others : List Row
  pub is : given ≡ row ∷ others
  pub first_is : first ≡ f row
  pub rest_is : rest ≡ map f others

pub first_of : (f : Row → Row) (given : List Row) (first : Row) (rest : List Row) → map f given ≡ first ∷ rest → First f given first rest
first_of f [] first rest e = absurd (cc)
first_of f (row ∷ others) first rest e = record { row = row; others = others; is = refl; first_is = (let h : f row ≡ first = cc in sym h); rest_is = (let h : map f others ≡ rest = cc in sym h) }

pub none_of : (f : Row → Row) (given : List Row) → map f given ≡ [] → given ≡ []
none_of f [] e = refl
none_of f (row ∷ others) e = absurd (cc)
