-- A store's disk can be opened again, and what an opening finds there.
use Rattle.std.proofs.Common.{◌≡◌, List, sym, ◌∙◌, ap, subst, ⊎_elim}
use Rattle.footer.specs.declared.options.WriteOptions.{WriteOptions}
use Rattle.schema.specs.Keys.{KeyColumn}
use Rattle.disk.specs.State.{Image, State as DiskState, content}
use Rattle.vault.specs.Ways.{IsClearIn}
use Rattle.manifest.specs.Table.{TableOf}
use Rattle.manifest.specs.Laws.{TablesAreOne}
use Rattle.table.specs.Table.{Table}
use Rattle.table.specs.State.{opened}
use Rattle.table.specs.Stops.{MayHold}
use Rattle.table_state.specs.declared.standing.Core.{Core}
use Rattle.table_state.specs.OnDisk.{HoldsTable}
use Rattle.table_state.specs.Spares.{HasRoom}
use Rattle.table_state.specs.Stands.{Stands}
use Rattle.table_openings.specs.Opening.{IsOpened}
use Rattle.store.specs.Restarting.{StartsFrom, StoresCanBeOpened, ImagesCanBeOpened, CrashesAreReopened, StoresAreReopened}
use Rattle.table_openings.proofs.TablesInDoubt.{keys_in_doubt}
use Rattle.store.proofs.PrefixLaws.{runs_leave_the_prefix}

pub stores_can_be_opened : {D : Type 0} (state : D → DiskState) → TablesAreOne → StoresCanBeOpened state
stores_can_be_opened state one_table store s stands = record {
  sound = stands.shows.sound.sound;
  room = λ c t may held.
      let h = stands.shows.sound.tables c may in
      let same : t ≡ h.table = one_table (content c) t h.table held h.held.files in
      let keys : t.keys ≡ h.table.keys = ap (λ (x : Table). x.keys) same in
      let own : h.table.keys ≡ s.table.keys = ⊎_elim (λ is. ap (λ (x : Table). x.keys) is) (λ doubt. keys_in_doubt s stands.reached h.table doubt) h.allowed in
      subst (λ (ks : List KeyColumn). HasRoom ks (state store.vault.disk)) (sym (keys ∙ own)) stands.shows.room;
}

pub images_can_be_opened : (disk : DiskState) → TablesAreOne → ImagesCanBeOpened disk
images_can_be_opened disk one_table c t alone held = record {
  sound = record {
    tables = λ d may. (t, subst (λ (x : Image). TableOf (content x) t) (sym (alone d may)) held.files);
    parts = λ d e at_d at_e path named. ap (λ (x : Image). content x path) (alone e at_e ∙ sym (alone d at_d));
    rooted = λ d e node at_d at_e there. ap (λ (x : Image). x.bytes node) (alone e at_e ∙ sym (alone d at_d));
  };
  room = λ d u may files.
      let same : u ≡ t = one_table (content c) u t (subst (λ (x : Image). TableOf (content x) u) (alone d may) files) held.files in
      subst (λ (x : Table). HasRoom x.keys disk) (sym same) (λ path place e at_e. subst (λ (x : Image). IsClearIn x path) (sym (alone e at_e)) (held.room path place));
}

-- ---- what is found

-- an opening on a disk that starts from an image finds the table of the image
finds : {D : Type 0} (state : D → DiskState) (disk : DiskState) → TablesAreOne → (c : Image) (t : Table) → StartsFrom disk c → HoldsTable c t
    → (o : WriteOptions) (store : Core D) → IsOpened state disk o store → Stands state store (opened o t)
finds state disk one_table c t alone held o store h =
    let same : h.table ≡ t = one_table (content c) h.table t (subst (λ (x : Image). TableOf (content x) h.table) (alone h.image h.left) h.held.files) held.files in
    subst (λ (u : Table). Stands state store (opened o u)) same h.stands

pub crashes_are_reopened : {D : Type 0} (state : D → DiskState) (disk : DiskState) → TablesAreOne → CrashesAreReopened state disk
crashes_are_reopened state disk one_table old new s calls answers stands run m image from to at alone =
    let l = runs_leave_the_prefix state old new s calls answers stands run m image from to at in
    record {
      left = l.0;
      commits = l.1;
      can = images_can_be_opened disk one_table image l.0.table alone l.0.held;
      found = finds state disk one_table image l.0.table alone l.0.held;
    }

pub stores_are_reopened : {D : Type 0} (state : D → DiskState) → TablesAreOne → StoresAreReopened state
stores_are_reopened state one_table old new s o stands h =
    let had = stands.shows.sound.tables h.image h.left in
    let same : had.table ≡ h.table = one_table (content h.image) had.table h.table had.held.files h.held.files in
    (h.table, subst (λ (t : Table). MayHold s t) same had.allowed, h.stands)
