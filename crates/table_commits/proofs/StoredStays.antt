-- What is stored stays stored, over a call that spares it.
use Rattle.std.proofs.Common.{◌≡◌, ◌≤◌, ◌<◌, ◌^◌, ℕ, zero, suc, Bool, true, false, not, ◌&&◌, List, [], ◌∷◌, map, Some, refl, sym, ◌∙◌, ap, subst, arith}
use Rattle.std.specs.Prelude.{Contains}
use Rattle.std.specs.List.{AllZip, AllByRecursion, list_all}
use Rattle.schema.specs.Shape.{Fields}
use Rattle.schema.specs.Cutting.{is_among as is_number_among}
use Rattle.schema.specs.Keys.{KeyColumn}
use Rattle.disk.specs.State.{State as DiskState}
use Rattle.partition.specs.Folders.{CanPartition, part_path_of}
use Rattle.manifest.specs.Groups.{Group as FileGroup, root_of, handles_view}
use Rattle.snapshots.specs.State.{State as Versions, Pins, file_of, is_among, names, is_needed, open_at}
use Rattle.partition.specs.Splitting.{KeyRows, key_rows_view}
use Rattle.table.specs.Table.{Row, Group, numbers}
use Rattle.table.specs.Cursors.{Cursor}
use Rattle.table.specs.State.{Job, appending, rewriting, sources}
use Rattle.table_state.specs.declared.jobs.OpenJob.{OpenJob}
use Rattle.table_state.specs.declared.jobs.OpenCursor.{OpenCursor}
use Rattle.table_state.specs.declared.jobs.Work.{Work}
use Rattle.table_state.specs.declared.jobs.Work.TheVariants.{Append, Rewrite}
use Rattle.planning.specs.declared.change.Sources.{Sources}
use Rattle.table_state.specs.Paths.{IsPartBelow, IsOlder, PathsAreApart}
use Rattle.table_state.specs.Spares.{Spares}
use Rattle.table_state.specs.Stands.{IsStored, AreStored, AreWritten, AreWaiting, ShowsRun, ShowsWork, ShowsJob, ShowsCursor}
use Rattle.table_commits.specs.Writing.{HoldsMore, HoldMore}
use Rattle.table_commits.proofs.SparedDisks.{kept_on, part_older}
use Rattle.table_commits.proofs.FilesInUse.{cursor_in_use, written_in_use, sources_in_use}

-- a file that a table with these keys can have, under a number below the count
abbrev pub IsFileBelow : List KeyColumn → ℕ → FileGroup → Type 0
IsFileBelow keys count f = CanPartition keys f.key × (f.number < count)

pub part_below : (keys : List KeyColumn) (count : ℕ) (f : FileGroup) → IsFileBelow keys count f → IsPartBelow keys count (part_path_of keys f.key f.number)
part_below keys count f low = record { key = f.key; number = f.number; can = low.0; below = low.1; is = refl }

pub file_older : (keys : List KeyColumn) → PathsAreApart → (count : ℕ) → count ≤ 2 ^ 64 → (f : FileGroup) → IsFileBelow keys count f → IsOlder keys count (part_path_of keys f.key f.number)
file_older keys apart count small f low = part_older keys apart count small (part_path_of keys f.key f.number) (part_below keys count f low)

pub stored_below : (disk : DiskState) (keys : List KeyColumn) (schema : Fields) (count : ℕ) (file : FileGroup) (g : Group) → IsStored disk keys schema count file g → IsFileBelow keys count file
stored_below disk keys schema count file g is = (is.can, is.below)

-- the file of a group that is stored is one
module _ (disk : DiskState) (keys : List KeyColumn) (schema : Fields) (count : ℕ) where
  pub stored_there : (files : List FileGroup) (groups : List Group) → AreStored disk keys schema count files groups → (f : FileGroup) → Contains files f → IsFileBelow keys count f
  stored_there [] [] z f c = absurd (omega (arith, c.1))
  stored_there [] (g ∷ gs) z f c = absurd z
  stored_there (x ∷ xs) [] z f c = absurd z
  stored_there (x ∷ xs) (g ∷ gs) z f (zero, l, is) = subst (λ (y : FileGroup). IsFileBelow keys count y) is (z.0.can, z.0.below)
  stored_there (x ∷ xs) (g ∷ gs) z f (suc k, l, is) = stored_there xs gs z.1 f (k, omega (arith, l), is)

-- From the one disk to the other, while the counter does not fall. The paths of the files that are held are needed.
module _ (keys : List KeyColumn) (count more : ℕ) (grows : count ≤ more) (Held : FileGroup → Type 0) (Needed : List ℕ → Type 0)
    (covers : (f : FileGroup) → IsFileBelow keys count f → Held f → Needed (part_path_of keys f.key f.number)) (old new : DiskState) (spared : Spares keys Needed old new) where
  is_stored_on : (schema : Fields) (file : FileGroup) (g : Group) → Held file → IsStored old keys schema count file g → IsStored new keys schema more file g
  is_stored_on schema file g held is = record {
    number = is.number;
    key = is.key;
    can = is.can;
    below = let l = is.below in omega (arith, l, grows);
    bytes = is.bytes;
    kept = kept_on keys Needed old new spared (part_path_of keys file.key file.number) is.bytes (covers file (stored_below old keys schema count file g is) held) is.kept;
    means = is.means;
  }

  pub stored_on : (schema : Fields) (files : List FileGroup) (groups : List Group) → AllByRecursion Held files → AreStored old keys schema count files groups → AreStored new keys schema more files groups
  stored_on schema [] [] held z = tt
  stored_on schema (f ∷ fs) (g ∷ gs) held z = (is_stored_on schema f g held.0 z.0, stored_on schema fs gs held.1 z.1)
  stored_on schema [] (g ∷ gs) held z = absurd z
  stored_on schema (f ∷ fs) [] held z = absurd z

-- where all files below the count are needed
abbrev pub Any : FileGroup → Type 0
Any f = Unit {0}

pub all_any : (files : List FileGroup) → AllByRecursion Any files
all_any [] = tt
all_any (f ∷ fs) = (tt, all_any fs)

-- The same of what is open, whose files are in use.
abbrev pub InUse : Versions → FileGroup → Type 0
InUse versions g = is_needed versions (file_of g) ≡ true

module _ (keys : List KeyColumn) (count more : ℕ) (grows : count ≤ more) (a b : Versions) (Needed : List ℕ → Type 0)
    (covers : (f : FileGroup) → IsFileBelow keys count f → InUse a f → Needed (part_path_of keys f.key f.number)) (old new : DiskState) (spared : Spares keys Needed old new) where
  -- what is open is looked up in the versions by its number
  pub cursors_on : b.cursors ≡ a.cursors → (shown : List OpenCursor) (cs : List (ℕ × Cursor)) → AllZip (ShowsCursor old a.cursors keys count) shown cs → AllZip (ShowsCursor new b.cursors keys more) shown cs
  cursors_on e [] [] z = tt
  cursors_on e (x ∷ xs) (c ∷ cs) z = (
    record {
      number = z.0.number;
      pinned = ap (open_at x.number) e ∙ z.0.pinned;
      keyed = z.0.keyed;
      made = z.0.made;
      groups = z.0.groups;
      stored = stored_on keys count more grows (InUse a) Needed covers old new spared (root_of x.table).schema (root_of x.table).groups z.0.groups (cursor_in_use a x.number (root_of x.table).groups z.0.pinned) z.0.stored;
      batches = z.0.batches;
      ended = z.0.ended;
      over = z.0.over;
    },
    cursors_on e xs cs z.1,
  )
  cursors_on e [] (c ∷ cs) z = absurd z
  cursors_on e (x ∷ xs) [] z = absurd z

-- The same of jobs, while no number that they wrote comes to be had.
module _ (keys : List KeyColumn) (schema : Fields) (count more size : ℕ) (grows : count ≤ more) (had later : ℕ → Bool) (keeps : (n : ℕ) → n < count → had n ≡ false → later n ≡ false)
    (a b : Versions) (Needed : List ℕ → Type 0) (covers : (f : FileGroup) → IsFileBelow keys count f → InUse a f → Needed (part_path_of keys f.key f.number))
    (old new : DiskState) (spared : Spares keys Needed old new) where
  not_false : (b : Bool) → not b ≡ true → b ≡ false
  not_false true e = absurd (cc)
  not_false false e = refl

  both : (a b : Bool) → (a && b) ≡ true → (a ≡ true) × (b ≡ true)
  both true b e = (refl, e)
  both false b e = absurd (cc)

  joined : (a b : Bool) → a ≡ true → b ≡ true → (a && b) ≡ true
  joined true true e f = refl
  joined true false e f = absurd (cc)
  joined false b e f = absurd (cc)

  fresh_on : (files : List FileGroup) (groups : List Group) → AreStored old keys schema count files groups → list_all (λ g. not (had g.number)) groups ≡ true → list_all (λ (g : Group). not (later g.number)) groups ≡ true
  fresh_on [] [] z e = refl
  fresh_on (f ∷ fs) (g ∷ gs) z e =
      let parts = both (not (had g.number)) (list_all (λ (h : Group). not (had h.number)) gs) e in
      let low : g.number < count = let l = z.0.below in let n = z.0.number in omega (arith, l, n) in
      joined (not (later g.number)) (list_all (λ (h : Group). not (later h.number)) gs) (ap not (keeps g.number low (not_false (had g.number) parts.0))) (fresh_on fs gs z.1 parts.1)
  fresh_on [] (g ∷ gs) z e = absurd z
  fresh_on (f ∷ fs) [] z e = absurd z

  written_held : (pins up : Pins) → HoldsMore pins up → (files : List FileGroup) → AllByRecursion (λ (g : FileGroup). is_among pins.files (file_of g) ≡ true) files → AllByRecursion (λ (g : FileGroup). is_among up.files (file_of g) ≡ true) files
  written_held pins up m [] h = tt
  written_held pins up m (f ∷ fs) h = (m.files (file_of f) h.0, written_held pins up m fs h.1)

  sources_held : (pins up : Pins) → HoldsMore pins up → (files : List FileGroup) → AllByRecursion (λ (g : FileGroup). names pins.version (file_of g) ≡ true) files → AllByRecursion (λ (g : FileGroup). names up.version (file_of g) ≡ true) files
  sources_held pins up m [] h = tt
  sources_held pins up m (f ∷ fs) h = (ap (λ (v : List FileGroup). names v (file_of f)) m.version ∙ h.0, sources_held pins up m fs h.1)

  written_on : (n : ℕ) (pins up : Pins) → open_at n a.jobs ≡ Some pins → HoldsMore pins up → (files : List FileGroup) (groups : List Group) → AreWritten old keys schema count size had pins files groups → AreWritten new keys schema more size later up files groups
  written_on n pins up e m files groups are = record {
    stored = stored_on keys count more grows (InUse a) Needed covers old new spared schema files groups (written_in_use a n pins e files are.held) are.stored;
    described = are.described;
    held = written_held pins up m files are.held;
    full = are.full;
    fresh = fresh_on files groups are.stored are.fresh;
  }

  run_on : (n : ℕ) (pins up : Pins) → open_at n a.jobs ≡ Some pins → HoldsMore pins up → (shown : Sources) (run : List Group) → ShowsRun old keys schema count size had pins shown run → ShowsRun new keys schema more size later up shown run
  run_on n pins up e m shown run is = record {
    sources = stored_on keys count more grows (InUse a) Needed covers old new spared schema (handles_view shown.groups.items) run (sources_in_use a n pins e (handles_view shown.groups.items) is.held) is.sources;
    described = is.described;
    held = sources_held pins up m (handles_view shown.groups.items) is.held;
    key = is.key;
    keyed = is.keyed;
  }

  runs_on : (n : ℕ) (pins up : Pins) → open_at n a.jobs ≡ Some pins → HoldsMore pins up → (shown : List Sources) (runs : List (List Group)) → AllZip (ShowsRun old keys schema count size had pins) shown runs → AllZip (ShowsRun new keys schema more size later up) shown runs
  runs_on n pins up e m [] [] z = tt
  runs_on n pins up e m (x ∷ xs) (r ∷ rs) z = (run_on n pins up e m x r z.0, runs_on n pins up e m xs rs z.1)
  runs_on n pins up e m [] (r ∷ rs) z = absurd z
  runs_on n pins up e m (x ∷ xs) [] z = absurd z

  waiting_on : (shown : List KeyRows) (given : List (List Row)) → AllZip (AreWaiting old keys schema count size had) shown given → AllZip (AreWaiting new keys schema more size later) shown given
  waiting_on [] [] z = tt
  waiting_on (x ∷ xs) (r ∷ rs) z = (record { can = z.0.can; are = z.0.are; fit = z.0.fit; some = z.0.some; few = z.0.few }, waiting_on xs rs z.1)
  waiting_on [] (r ∷ rs) z = absurd z
  waiting_on (x ∷ xs) [] z = absurd z

  work_on : (n : ℕ) (pins up : Pins) → open_at n a.jobs ≡ Some pins → HoldsMore pins up → (shown : Work) (j : Job) → ShowsWork old keys schema count size had pins shown j → ShowsWork new keys schema more size later up shown j
  work_on n pins up e m (Append shown) (appending staged) is = record {
    groups = is.groups;
    are_written = written_on n pins up e m (handles_view shown.written.items) is.groups is.are_written;
    waiting = is.waiting;
    are_waiting = waiting_on (map key_rows_view shown.waiting.items) is.waiting is.are_waiting;
    rising = is.rising;
    free = m.sources ∙ is.free;
    all = is.all;
  }
  work_on n pins up e m (Rewrite shown) (rewriting runs unread) is = record {
    each = runs_on n pins up e m shown.runs.items runs is.each;
    as_many = is.as_many;
    read = is.read;
    left = is.left;
    pinned = subst (λ (ns : List ℕ). AllByRecursion (λ k. is_number_among (numbers (sources runs)) k ≡ true) ns) (sym m.sources) is.pinned;
  }
  work_on n pins up e m (Append shown) (rewriting runs unread) is = absurd is
  work_on n pins up e m (Rewrite shown) (appending staged) is = absurd is

  -- what is open is looked up in the versions by its number
  pub jobs_on : HoldMore a.jobs b.jobs → (shown : List OpenJob) (js : List (ℕ × Job)) → AllZip (ShowsJob old keys schema count size had a.jobs) shown js → AllZip (ShowsJob new keys schema more size later b.jobs) shown js
  jobs_on e [] [] z = tt
  jobs_on e (x ∷ xs) (j ∷ js) z =
      let up = e x.number z.0.pins z.0.pinned in
      (record { number = z.0.number; pins = up.0; pinned = up.1; work = work_on x.number z.0.pins up.0 z.0.pinned up.2 x.work j.1 z.0.work }, jobs_on e xs js z.1)
  jobs_on e [] (j ∷ js) z = absurd z
  jobs_on e (x ∷ xs) [] z = absurd z

-- ---- what is held

pub holds_same : (pins : Pins) → HoldsMore pins pins
holds_same pins = record { version = refl; sources = refl; files = λ f h. h }

pub hold_same : (a b : List (ℕ × Pins)) → b ≡ a → HoldMore a b
hold_same a b e n pins is = (pins, ap (open_at n) e ∙ is, holds_same pins)

pub hold_on : (a b c : List (ℕ × Pins)) → HoldMore a b → HoldMore b c → HoldMore a c
hold_on a b c one two n pins is =
    let x = one n pins is in
    let y = two n x.0 x.1 in
    (y.0, y.1, record { version = y.2.version ∙ x.2.version; sources = y.2.sources ∙ x.2.sources; files = λ f h. y.2.files f (x.2.files f h) })
