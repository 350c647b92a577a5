-- A store that keeps what is replaced; and where the files that it writes stand.
use Rattle.std.proofs.Common.{◌≡◌, ℕ, true, false, List, refl, sym, ap, subst, arith}
use Rattle.std.specs.Prelude.{Contains}
use Rattle.schema.specs.Keys.{KeyColumn}
use Rattle.disk.specs.State.{State as DiskState}
use Rattle.partition.specs.Folders.{CanPartition, part_path_of}
use Rattle.manifest.specs.Groups.{Group as FileGroup, root_of}
use Rattle.manifest.specs.Table.{path_of_group}
use Rattle.table.specs.Table.{Key}
use Rattle.table.specs.State.{State}
use Rattle.table.proofs.Counters.{counters_cover}
use Rattle.table_state.specs.declared.standing.Core.{Core}
use Rattle.table_state.specs.Paths.{IsPartPath, IsPartBelow}
use Rattle.table_state.specs.Stands.{Shows, ShowsOpen, Stands}
use Rattle.table_commits.specs.Keeping.{IsFreePath, NewFilesAreFree}
use Rattle.table_commits.proofs.StateCarriedOver.{shown}
use Rattle.table_commits.proofs.SparedDisks.{part_older, older_not_part}
use Rattle.table_commits.proofs.StoredStays.{stored_there}

-- what a store stands for does not depend on what it keeps
module _ {D : Type 0} (state : D → DiskState) (store : Core D) (s : State) where
  abbrev keeping : Core D
  keeping = record store { keeps = true }

  shows_open : ShowsOpen (state store.vault.disk) store s → ShowsOpen (state store.vault.disk) keeping s
  shows_open o = record {
    sure = o.sure;
    root = o.root;
    root_kept = o.root_kept;
    means = o.means;
    next = o.next;
    current = o.current;
    version = o.version;
    jobs = o.jobs;
    cursors = o.cursors;
    tracks_jobs = o.tracks_jobs;
    tracks_cursors = o.tracks_cursors;
    numbered_jobs = o.numbered_jobs;
    numbered_cursors = o.numbered_cursors;
    parted = o.parted;
    files = o.files;
    tracked = o.tracked;
  }

  shows_keeping : Shows state store s → Shows state keeping s
  shows_keeping h = record {
    valid = h.valid;
    apart = h.apart;
    one_root = h.one_root;
    options = h.options;
    in_range = h.in_range;
    schema = h.schema;
    keys = h.keys;
    next_job = h.next_job;
    next_cursor = h.next_cursor;
    next_group = h.next_group;
    counted = h.counted;
    closed = h.closed;
    room = h.room;
    sound = h.sound;
    shown = λ is_open. shows_open (h.shown is_open);
  }

  pub stands_keeping : Stands state store s → Stands state keeping s
  stands_keeping h = record { reached = h.reached; shows = shows_keeping h.shows }

-- ---- new files

module _ {D : Type 0} (state : D → DiskState) (store : Core D) (s : State) (stands : Stands state store s) (is_open : s.closed ≡ false) (key : Key) (can : CanPartition s.table.keys key) where
  abbrev keys : List KeyColumn
  keys = s.table.keys

  abbrev path : List ℕ
  path = part_path_of keys key s.next_group

  part : IsPartPath keys path
  part = record { key = key; number = s.next_group; can = can; fits = stands.shows.counted; is = refl }

  low_is_other : (q : List ℕ) → IsPartBelow keys s.next_group q → q ≡ path → ⊥
  unfolding part
  low_is_other q low = older_not_part keys stands.shows.apart s.next_group path part (let same : part.number ≡ s.next_group = refl in omega (arith, same)) q
      (part_older keys stands.shows.apart s.next_group (let l = stands.shows.counted in omega (arith, l)) q low)

  named_is_other : (g : FileGroup) → Contains (root_of store.manifest).groups g → path_of_group (root_of store.manifest) g ≡ path → ⊥
  named_is_other g c e =
      let low = stored_there (state store.vault.disk) keys s.table.schema s.next_group (root_of store.manifest).groups s.table.groups (shown state store s stands.shows is_open).version g c in
      low_is_other (path_of_group (root_of store.manifest) g)
      (record { key = g.key; number = g.number; can = low.0; below = low.1; is = ap (λ (ks : List KeyColumn). part_path_of ks g.key g.number) stands.shows.keys }) e

  free_here : IsFreePath store s path
  free_here = record {
    root = (stands.shows.apart.off_roots keys key s.next_group can stands.shows.counted).not_root;
    next = (stands.shows.apart.off_roots keys key s.next_group can stands.shows.counted).not_next;
    named = named_is_other;
    had = λ k n able had. low_is_other (part_path_of keys k n) (record { key = k; number = n; can = able; below = (counters_cover s stands.reached).had n had; is = refl });
    written = λ f able there. low_is_other (part_path_of keys f.key f.number)
        (record { key = f.key; number = f.number; can = able; below = (shown state store s stands.shows is_open).files f there; is = refl });
  }

  pub free_next : IsFreePath store s (part_path_of keys key store.next_group)
  free_next = subst (λ (n : ℕ). IsFreePath store s (part_path_of keys key n)) (sym stands.shows.next_group) free_here

pub new_files_are_free : {D : Type 0} (state : D → DiskState) → NewFilesAreFree state
new_files_are_free state store s stands is_open key can = free_next state store s stands is_open key can
