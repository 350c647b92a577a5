-- Where a disk stands after a new table was put, or was to be.
use Rattle.std.proofs.Common.{◌≡◌, ◌≢◌, ◌⊎◌, ◌≤◌, ℕ, List, Some, None, Result, Ok, Err, refl, sym, ◌∙◌, ap, subst, arith, inl, inr, ⊎_elim}
use Rattle.std.specs.Prelude.{IfErr}
use Rattle.bits.specs.declared.refusal.Refusal.{Refusal}
use Rattle.bits.specs.declared.refusal.Refusal.TheVariants.{Limit, Exists, Device, InDoubt, Memory}
use Rattle.bits.specs.Refusals.{HasCause, RefusedOnly}
use Rattle.schema.specs.Shape.{Fields}
use Rattle.schema.specs.Keys.{KeyColumn}
use Rattle.disk.specs.State.{Image, State as DiskState, content, may_leave}
use Rattle.vault.specs.Views.{LeavesAfter, AllBut, WasKept, root_path, next_path}
use Rattle.vault.specs.Ways.{IsClearIn}
use Rattle.vault.specs.Calls.{HasFailed, LeavesAll, SwapsRoot}
use Rattle.vault.proofs.Moments.{le_or}
use Rattle.vault.proofs.Names.{root_not_next}
use Rattle.footer.specs.declared.options.WriteOptions.{WriteOptions}
use Rattle.manifest.specs.Groups.{Root, root_of}
use Rattle.manifest.specs.Root.{RootMeans, IsDescription}
use Rattle.manifest.specs.Table.{IsTableOf}
use Rattle.snapshots.specs.State.{start}
use Rattle.snapshots.specs.Views.{state_of}
use Rattle.table.specs.Table.{Table, empty_table}
use Rattle.table_openings.specs.declared.creating.First.{First}
use Rattle.table_state.specs.Paths.{PathsAreApart}
use Rattle.table_state.specs.OnDisk.{HoldsTable}
use Rattle.table_state.specs.Promises.{WasNextKept}
use Rattle.table_state.specs.Spares.{IsPlace, HasRoom}
use Rattle.table_openings.specs.Opening.{HasNoRoot, LeavesNoneOr}
use Rattle.table_openings.specs.Creating.{first_root, IsFirst, IsNotNew, IsNotPut, IsNotFirst}
use Rattle.table_commits.proofs.StateCarriedOver.{past_of, past_on}
use Rattle.table_commits.proofs.SparedDisks.{off_place}
use Rattle.table_commits.proofs.NextRootsKept.{next_kept_since}

pub is_first : (schema : Fields) (keys : List KeyColumn) (first : First) → root_of first.manifest ≡ first_root schema keys → IsDescription (root_of first.manifest)
    → RootMeans first.root.items (root_of first.manifest) → state_of first.versions ≡ start (root_of first.manifest).groups → IsFirst schema keys first
is_first schema keys first made described means versions = record {
  described = subst (λ (r : Root). IsDescription r) made described;
  manifest = made;
  means = subst (λ (r : Root). RootMeans first.root.items r) made means;
  versions = versions ∙ ap (λ (r : Root). start r.groups) made;
}

-- ---- the swap

module _ (schema : Fields) (keys : List KeyColumn) (first : First) (is : IsFirst schema keys first) where
  pub is_table : (c : Image) → content c root_path ≡ Some first.root.items → IsTableOf (content c) (first_root schema keys) (empty_table schema keys)
  is_table c there = record {
    described = record { bytes = first.root.items; there = there; means = is.means };
    schema = refl;
    keys = refl;
    next = refl;
    parts = tt;
  }

  holds_first : (c : Image) → content c root_path ≡ Some first.root.items → ((path : List ℕ) → IsPlace keys path → IsClearIn c path) → HoldsTable c (empty_table schema keys)
  holds_first c there clear = record { files = (first_root schema keys, is_table c there); room = clear }

  pub versions_are : state_of first.versions ≡ start (root_of first.manifest).groups
  versions_are = is.versions ∙ ap (λ (r : Root). start r.groups) (sym is.manifest)

  module _ (old new : DiskState) (result : Result (Unit {0}) Refusal) (swaps : SwapsRoot first.root.items old new result) where
    pub swap_leaves : PathsAreApart → HasRoom keys old → HasNoRoot old → LeavesNoneOr (empty_table schema keys) old new
    swap_leaves apart room none = record {
      past = past_of old new swaps.moments;
      each = λ m c lo hi at.
          let was = swaps.moments.each m c lo hi at in
          ⊎_elim (λ same. inl (same ∙ none was.0 was.1)) (λ put. inr (holds_first c put (λ path place. swaps.clear path (off_place keys apart path place) (room path place) m c lo hi at))) was.2.either;
      room = λ m c lo hi at path place. swaps.clear path (off_place keys apart path place) (room path place) m c lo hi at;
    }

    pub swap_refused : (e : Refusal) → result ≡ Err e → HasNoRoot old → e ≢ InDoubt → HasNoRoot new
    swap_refused e at none other c may =
        let unchanged = subst (λ (r : Result (Unit {0}) Refusal). IfErr r (λ f. f ≢ InDoubt → LeavesAfter (AllBut next_path) old new)) at swaps.unchanged in
        let was = (unchanged other).each new.moment c (unchanged other).later (omega arith) may in
        was.2 root_path root_not_next ∙ none was.0 was.1

    pub swap_room : PathsAreApart → HasRoom keys old → HasRoom keys new
    swap_room apart room path place c may = swaps.clear path (off_place keys apart path place) (room path place) new.moment c swaps.moments.later (omega arith) may

    pub swap_cause : (e : Refusal) → result ≡ Err e → HasRoom keys old → (e ≡ Device) ⊎ (e ≡ InDoubt) → HasFailed old new
    swap_cause e at room why =
        let cause = subst (λ (r : Result (Unit {0}) Refusal). RefusedOnly (λ _. HasFailed old new) r) at (swaps.cause (record { root = room root_path (inl refl); next = room next_path (inr (inl refl)) })) in
        ⊎_elim (λ is. subst (λ (f : Refusal). HasCause (λ _. HasFailed old new) f) is cause) (λ is. subst (λ (f : Refusal). HasCause (λ _. HasFailed old new) f) is cause) why

    -- in doubt only after the first root was whole beside its place
    pub swap_doubted : (e : Refusal) → result ≡ Err e → e ≡ InDoubt → WasNextKept old new
    swap_doubted e at doubt =
        let kept = subst (λ (r : Result (Unit {0}) Refusal). IfErr r (λ f. f ≡ InDoubt → WasKept next_path first.root.items old new)) at swaps.in_doubt in
        (first.root.items, kept doubt)

-- what a swap may be refused for
pub swap_refusal : (t : Table) (e : Refusal) → HasCause (λ f. (f ≡ Device) ⊎ (f ≡ InDoubt)) e → IsNotPut t e
swap_refusal t Device h = tt
swap_refusal t InDoubt h = tt
swap_refusal t Memory h = tt
swap_refusal t e h = absurd (⊎_elim (λ is. cc) (λ is. cc) h)

pub limit_refusal : (t : Table) (e : Refusal) → HasCause (λ f. f ≡ Limit) e → (e ≡ Limit → IsNotPut t Limit) → IsNotPut t e
limit_refusal t Limit h over = over refl
limit_refusal t Memory h over = tt
limit_refusal t e h over = absurd (cc)

-- ---- a disk that is as it was

pub unmoved : (t : Table) (disk : DiskState) → HasRoom t.keys disk → HasNoRoot disk → LeavesNoneOr t disk disk
unmoved t disk room none = record {
  past = record { later = omega arith; history = λ m c l left. left; keeps = λ m c l left. left };
  each = λ m c lo hi at. inl (none c (now m c lo hi at));
  room = λ m c lo hi at path place. room path place c (now m c lo hi at);
}
  where
    now : (m : ℕ) (c : Image) → disk.moment ≤ m → m ≤ disk.moment → disk.images m c → may_leave disk c
    now m c lo hi at = let same : m ≡ disk.moment = omega (arith, lo, hi) in subst (λ (k : ℕ). disk.images k c) same at

-- ---- a disk that is only read before

module _ (old mid : DiskState) (left : LeavesAll old mid) where
  pub none_on : HasNoRoot old → HasNoRoot mid
  none_on none c may = let was = left.moments.each mid.moment c left.moments.later (omega arith) may in was.2 root_path ∙ none was.0 was.1

  pub read_leaves : (t : Table) → HasRoom t.keys old → HasNoRoot old → LeavesNoneOr t old mid
  read_leaves t room none = record {
    past = past_of old mid left.moments;
    each = λ m c lo hi at. let was = left.moments.each m c lo hi at in inl (was.2 root_path ∙ none was.0 was.1);
    room = λ m c lo hi at path place. left.clear path (room path place) m c lo hi at;
  }

  pub read_room : (keys : List KeyColumn) → HasRoom keys old → HasRoom keys mid
  read_room keys room path place c may = left.clear path (room path place) mid.moment c left.moments.later (omega arith) may

  module _ (new : DiskState) where
    pub leaves_on : (t : Table) → HasRoom t.keys old → HasNoRoot old → LeavesNoneOr t mid new → LeavesNoneOr t old new
    leaves_on t room none then = record {
      past = past_on old mid new (past_of old mid left.moments) then.past;
      each = λ m c lo hi at. ⊎_elim
          (λ early. (read_leaves t room none).each m c lo early (then.past.history m c early at))
          (λ late. then.each m c (omega (arith, late)) hi at)
          (le_or mid.moment m);
      room = λ m c lo hi at path place. ⊎_elim
          (λ early. (read_leaves t room none).room m c lo early (then.past.history m c early at) path place)
          (λ late. then.room m c (omega (arith, late)) hi at path place)
          (le_or mid.moment m);
    }

    pub cause_on : (r : Result First Refusal) → mid.failures ≡ old.failures → IfErr r (λ e. (e ≡ Device) ⊎ (e ≡ InDoubt) → HasFailed mid new) → IfErr r (λ e. (e ≡ Device) ⊎ (e ≡ InDoubt) → HasFailed old new)
    cause_on (Ok x) told h = tt
    cause_on (Err e) told h = λ why. ⊎_elim (λ l. inl (omega (arith, l, told))) (λ l. inr (omega (arith, l, told))) (h why)

    pub doubt_on : (r : Result First Refusal) → IfErr r (λ e. e ≡ InDoubt → WasNextKept mid new) → IfErr r (λ e. e ≡ InDoubt → WasNextKept old new)
    doubt_on (Ok x) h = tt
    doubt_on (Err e) h = λ is. next_kept_since old mid new left.moments.later (h is)

-- why a new table is not put
pub not_new : (o : WriteOptions) (t : Table) (disk : DiskState) (e : Refusal) → IsNotNew o disk e → IsNotFirst o t disk e
not_new o t disk Exists h = h
not_new o t disk Limit h = (h.0, inl h.1)
not_new o t disk Device h = tt
not_new o t disk Memory h = tt
not_new o t disk e h = absurd h

not_put : (o : WriteOptions) (t : Table) (disk : DiskState) (e : Refusal) → content disk.seen root_path ≡ None → IsNotPut t e → IsNotFirst o t disk e
not_put o t disk Limit none h = (none, inr h)
not_put o t disk Device none h = tt
not_put o t disk InDoubt none h = none
not_put o t disk Memory none h = tt
not_put o t disk e none h = absurd h

pub not_first : (o : WriteOptions) (t : Table) (disk : DiskState) (r : Result First Refusal) → content disk.seen root_path ≡ None → IfErr r (IsNotPut t) → IfErr r (IsNotFirst o t disk)
not_first o t disk (Ok x) none h = tt
not_first o t disk (Err e) none h = not_put o t disk e none h
