-- Which part files the disk reads, and that the store tracks them.
use Rattle.std.proofs.Common.{◌≡◌, ◌≢◌, ◌≤◌, ◌<◌, ◌^◌, ℕ, zero, suc, Bool, true, false, ◌||◌, List, [], ◌∷◌, Option, Some, refl, sym, ◌∙◌, ap, subst, arith}
use Rattle.std.specs.Prelude.{None, Contains}
use Rattle.std.specs.List.{list_any}
use Rattle.std.proofs.lemmas.Bool.{or_left as left, or_right as right}
use Rattle.schema.specs.Shape.{Fields}
use Rattle.schema.specs.Keys.{KeyColumn}
use Rattle.disk.specs.State.{State as DiskState, content, held}
use Rattle.disk.specs.declared.binding.Binding.{Binding}
use Rattle.disk.specs.declared.binding.Binding.TheVariants.{Nothing, Folder, File as FileAt}
use Rattle.vault.specs.Views.{Same, AllBut, Swaps, ReadsAs, IsGone, IsNoFile}
use Rattle.vault.specs.Calls.{LeavesAll}
use Rattle.partition.specs.Folders.{CanPartition, part_path_of}
use Rattle.manifest.specs.declared.description.Manifest.{Manifest}
use Rattle.manifest.specs.Groups.{Group as FileGroup, Root, root_of}
use Rattle.recovery.specs.Opening.{IsClean}
use Rattle.snapshots.specs.declared.state.Snapshots.{Snapshots}
use Rattle.snapshots.specs.State.{State as Versions, File, file_of, is_same, is_needed, names, is_pinned, staged, committed, after}
use Rattle.snapshots.specs.Views.{state_of}
use Rattle.table.specs.Table.{Group, Key}
use Rattle.table_state.specs.Paths.{PathsAreApart}
use Rattle.table_state.specs.declared.standing.Core.{Core}
use Rattle.table_state.specs.Stands.{AreStored, AreTracked, IsTracked}
use Rattle.table_commits.specs.Cleaning.{ReadsNoMore}
use Rattle.table_commits.proofs.FilesInUse.{same_itself}
use Rattle.table_commits.proofs.StoredStays.{stored_there}

-- ---- what is read

pub same_reads : (old new : DiskState) → ReadsAs Same old new → ReadsNoMore old new
same_reads old new same path bytes reads = sym (same path) ∙ reads

some_none : (a : Option (List ℕ)) (bytes : List ℕ) → a ≡ Some bytes → a ≡ None → ⊥
some_none a bytes e f = let c : Some bytes ≡ None = sym e ∙ f in cc

-- the one path that may have changed has nothing
pub gone_reads : (path : List ℕ) (old new : DiskState) → ReadsAs (AllBut path) old new → IsNoFile new path → ReadsNoMore old new
gone_reads path old new but gone q bytes reads =
    sym (but q (λ e. some_none (content new.seen q) bytes reads (ap (content new.seen) e ∙ gone))) ∙ reads

pub no_file : (disk : DiskState) (path : List ℕ) → IsGone disk path → IsNoFile disk path
no_file disk path gone = ap (held disk.seen) gone

pub reads_on : (a b c : DiskState) → ReadsNoMore a b → ReadsNoMore b c → ReadsNoMore a c
reads_on a b c one two path bytes reads = one path bytes (two path bytes reads)

pub reads_here : (disk : DiskState) → ReadsNoMore disk disk
reads_here disk path bytes reads = reads

-- where no file is read, none comes
pub none_still : (old new : DiskState) (path : List ℕ) → ReadsNoMore old new → IsNoFile old path → IsNoFile new path
none_still old new path fewer none = by (content new.seen path) (fewer path)
  where
    by : (a : Option (List ℕ)) → ((bytes : List ℕ) → a ≡ Some bytes → content old.seen path ≡ Some bytes) → a ≡ None
    by None come = refl
    by (Some bytes) come = absurd (some_none (content old.seen path) bytes (come bytes refl) none)

-- a file that is read stands there
file_there : (disk : DiskState) (path bytes : List ℕ) → content disk.seen path ≡ Some bytes → (node : ℕ) × (disk.seen.names path ≡ FileAt node)
file_there disk path bytes reads = by (disk.seen.names path) refl reads
  where
    by : (b : Binding) → disk.seen.names path ≡ b → held disk.seen b ≡ Some bytes → (node : ℕ) × (disk.seen.names path ≡ FileAt node)
    by Nothing e h = absurd (cc)
    by Folder e h = absurd (cc)
    by (FileAt node) e h = (node, e)

-- ---- what is tracked stays tracked

module _ (keys : List KeyColumn) (v w : Versions) (more : (f : File) → v.files f ≡ true → w.files f ≡ true) where
  pub tracked_on : (old new : DiskState) → ReadsNoMore old new → AreTracked old keys v → AreTracked new keys w
  tracked_on old new fewer are key number can fits bytes reads = more (record { number = number; key = key }) (are key number can fits bytes (fewer (part_path_of keys key number) bytes reads))

  -- the root was swapped
  pub tracked_after_swap : PathsAreApart → (root : List ℕ) (old new : DiskState) → ReadsAs (Swaps root) old new → AreTracked old keys v → AreTracked new keys w
  tracked_after_swap apart root old new swaps are key number can fits bytes reads =
      let off = apart.off_roots keys key number can fits in
      more (record { number = number; key = key }) (are key number can fits bytes (sym (swaps.others (part_path_of keys key number) off.not_root off.not_next) ∙ reads))

pub tracked_as : (disk : DiskState) (keys : List KeyColumn) (v w : Versions) → w.files ≡ v.files → AreTracked disk keys v → AreTracked disk keys w
tracked_as disk keys v w same are key number can fits bytes reads = ap (λ (files : File → Bool). files (record { number = number; key = key })) same ∙ are key number can fits bytes reads

-- a call that only reads
pub tracked_read : {D : Type 0} (store : Core D) (old new : DiskState) → LeavesAll old new → IsTracked old store → IsTracked new store
tracked_read store old new left is clean =
    tracked_on (root_of store.manifest).keys (state_of store.snapshots) (state_of store.snapshots) (λ f there. there) old new (same_reads old new left.seen) (is clean)

-- the root was swapped for that of a version of the table, whose files are tracked besides
pub tracked_committed : {D : Type 0} (store : Core D) (manifest : Manifest) (w : Versions) (job : Option ℕ) → w ≡ after (state_of store.snapshots) (committed (root_of manifest).groups job)
    → (root_of manifest).keys ≡ (root_of store.manifest).keys → PathsAreApart → (root : List ℕ) (old new : DiskState) → ReadsAs (Swaps root) old new
    → AreTracked old (root_of store.manifest).keys (state_of store.snapshots) → AreTracked new (root_of manifest).keys w
tracked_committed store manifest w job steps kept apart root old new swaps are =
    subst (λ (ks : List KeyColumn). AreTracked new ks w) (sym kept)
    (tracked_after_swap (root_of store.manifest).keys (state_of store.snapshots) w
    (λ f there. ap (λ (v : Versions). v.files f) steps ∙ right (names (root_of manifest).groups f) ((state_of store.snapshots).files f) there) apart root old new swaps are)

-- only a file that was staged may have come
module _ (keys : List KeyColumn) (v : Versions) (apart : PathsAreApart) (key : Key) (number : ℕ) (can : CanPartition keys key) (fits : number < 2 ^ 64) where
  abbrev put : File
  put = record { number = number; key = key }

  another : (k : Key) (n : ℕ) → CanPartition keys k → n < 2 ^ 64 → is_same put (record { number = n; key = k }) ≡ false → part_path_of keys k n ≢ part_path_of keys key number
  another k n able small other e =
      let same = apart.name_parts keys k key n number able.values can.values small fits e in
      let one : record { number = n; key = k } ≡ put = cc (same.0, same.1) in
      let c : true ≡ false = sym (same_itself put) ∙ ap (λ (f : File). is_same put f) (sym one) ∙ other in
      cc

  pub tracked_after_put : (w : Versions) (job : Option ℕ) → w ≡ after v (staged job put) → (old new : DiskState) → ReadsAs (AllBut (part_path_of keys key number)) old new → AreTracked old keys v → AreTracked new keys w
  tracked_after_put w job steps old new but are k n able small bytes reads = ap (λ (x : Versions). x.files (record { number = n; key = k })) steps ∙ by (is_same put (record { number = n; key = k })) refl
    where
      by : (b : Bool) → is_same put (record { number = n; key = k }) ≡ b → (b || v.files (record { number = n; key = k })) ≡ true
      by true e = refl
      by false e = are k n able small bytes (sym (but (part_path_of keys k n) (another k n able small e)) ∙ reads)

-- ---- a clean dataset

-- a version names the file of each of its groups
pub names_each : (files : List FileGroup) (g : FileGroup) → Contains files g → names files (file_of g) ≡ true
names_each [] g c = absurd (let l = c.1 in omega (arith, l))
names_each (x ∷ xs) g (zero, l, is) = left (is_same (file_of x) (file_of g)) (names xs (file_of g)) (ap (λ (y : FileGroup). is_same (file_of x) (file_of y)) (sym is) ∙ same_itself (file_of x))
names_each (x ∷ xs) g (suc k, l, is) = right (is_same (file_of x) (file_of g)) (names xs (file_of g)) (names_each xs g (k, omega (arith, l), is))

-- the root names each part file that is read
pub clean_names : (root : Root) (disk : DiskState) (stored : DiskState) (schema : Fields) (count : ℕ) (groups : List Group) → PathsAreApart → count ≤ 2 ^ 64 → AreStored stored root.keys schema count root.groups groups → IsClean root disk
    → (key : Key) (number : ℕ) → CanPartition root.keys key → number < 2 ^ 64 → (bytes : List ℕ) → content disk.seen (part_path_of root.keys key number) ≡ Some bytes → names root.groups (record { number = number; key = key }) ≡ true
clean_names root disk stored schema count groups apart small are clean key number can fits bytes reads =
    let at = file_there disk (part_path_of root.keys key number) bytes reads in
    let named = clean.parts (part_path_of root.keys key number) (key, number, can, fits, refl) at.0 at.1 in
    let able = stored_there stored root.keys schema count root.groups groups are named.0 named.1 in
    let same = apart.name_parts root.keys named.0.key key named.0.number number able.0.values can.values (let l = able.1 in omega (arith, l, small)) fits named.2 in
    let file : file_of named.0 ≡ record { number = number; key = key } = cc (same.0, same.1) in
    subst (λ (f : File). names root.groups f ≡ true) file (names_each root.groups named.0 named.1)

-- the files of the current version are tracked, and needed
pub current_tracked : (snapshots : Snapshots) (f : File) → names (state_of snapshots).current f ≡ true → (state_of snapshots).files f ≡ true
current_tracked snapshots f named = left (names (state_of snapshots).current f) _ named

pub current_needed : (v : Versions) (f : File) → names v.current f ≡ true → is_needed v f ≡ true
current_needed v f named = left (names v.current f) (list_any (λ c. names c.1 f) v.cursors || list_any (λ j. is_pinned f j.1) v.jobs) named
