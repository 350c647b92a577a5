-- A new table: its key columns, and the store on it.
use Rattle.std.proofs.Common.{◌≡◌, ℕ, false, List, refl, sym, ◌∙◌, ap, subst, arith}
use Rattle.std.specs.Prelude.{Contains}
use Rattle.std.proofs.lemmas.Bool.{false≢true}
use Rattle.bits.specs.declared.refusal.Refusal.{Refusal}
use Rattle.bits.specs.declared.refusal.Refusal.TheVariants.{Limit, Exists, Device, InDoubt, Memory}
use Rattle.schema.specs.Shape.{Fields}
use Rattle.schema.specs.Law.{IsSchema}
use Rattle.schema.specs.Keys.{KeyColumn}
use Rattle.disk.specs.State.{Image, State as DiskState, content, may_leave}
use Rattle.vault.specs.declared.vault.Vault.{Vault}
use Rattle.vault.specs.Views.{IsKept}
use Rattle.vault.specs.Calls.{HasFailed}
use Rattle.footer.specs.declared.options.WriteOptions.{WriteOptions}
use Rattle.footer.specs.Writing.{IsOutOfRange}
use Rattle.partition.proofs.KeyColumns.{one_list}
use Rattle.manifest.specs.declared.description.Manifest.{Manifest}
use Rattle.manifest.specs.Groups.{Group as FileGroup, Root, root_of}
use Rattle.manifest.specs.Table.{IsTableOf, path_of_group}
use Rattle.manifest.specs.Laws.{RootsMeanOneTable, RowsOfPartsFit}
use Rattle.recovery.specs.Sound.{IsSound}
use Rattle.table.specs.Table.{Table, empty_table}
use Rattle.table.specs.State.{opened}
use Rattle.table_state.specs.declared.standing.Core.{Core}
use Rattle.table_openings.specs.declared.creating.First.{First}
use Rattle.table_state.specs.Paths.{PathsAreApart}
use Rattle.table_state.specs.Promises.{WasNextKept}
use Rattle.table_state.specs.Spares.{HasRoom}
use Rattle.table_state.specs.Stands.{IsReady, Stands}
use Rattle.table_state.specs.Starting.{IsStarted}
use Rattle.table_openings.specs.Opening.{AreNamedKeys, LeavesNoneOr, IsNotCreated}
use Rattle.table_openings.specs.Creating.{first_root, IsFirstOn, IsNotFirst}
use Rattle.table_commits.proofs.SoundDisks.{sound_for}
use Rattle.table_openings.proofs.StartedStores as started
use Rattle.table_openings.proofs.AfterCreations.{is_table}

-- names are those of one list of key columns
pub same_keys : (schema : Fields) (names : List (List ℕ)) → IsSchema schema → (one other : List KeyColumn) → AreNamedKeys schema names one → AreNamedKeys schema names other → one ≡ other
same_keys schema names valid one other are also = one_list schema one other valid.0.differ are.keys_are.there also.keys_are.there (are.named ∙ sym also.named)

-- why a new table is not made
not_created : (schema : Fields) (names : List (List ℕ)) (o : WriteOptions) (disk : DiskState) (keys : List KeyColumn) → AreNamedKeys schema names keys → (e : Refusal) → IsNotFirst o (empty_table schema keys) disk e → IsNotCreated schema names o disk e
not_created schema names o disk keys named Exists h = ((keys, named), h)
not_created schema names o disk keys named Limit h = (keys, named, h.0, h.1)
not_created schema names o disk keys named Device h = (keys, named)
not_created schema names o disk keys named InDoubt h = ((keys, named), h)
not_created schema names o disk keys named Memory h = tt
not_created schema names o disk keys named e h = absurd h

-- ---- the same of other disks

module _ {D : Type 0} (state : D → DiskState) (a b c d : D) (from : a ≡ b) (to : c ≡ d) where
  pub leaves_moved : (t u : Table) → t ≡ u → LeavesNoneOr t (state a) (state c) → LeavesNoneOr u (state b) (state d)
  leaves_moved t u same left =
      subst (λ (x : D). LeavesNoneOr u (state x) (state d)) from (subst (λ (x : D). LeavesNoneOr u (state a) (state x)) to (subst (λ (x : Table). LeavesNoneOr x (state a) (state c)) same left))

  pub failed_moved : HasFailed (state a) (state c) → HasFailed (state b) (state d)
  failed_moved failed = subst (λ (x : D). HasFailed (state x) (state d)) from (subst (λ (x : D). HasFailed (state a) (state x)) to failed)

  pub doubt_moved : WasNextKept (state a) (state c) → WasNextKept (state b) (state d)
  doubt_moved kept = subst (λ (x : D). WasNextKept (state x) (state d)) from (subst (λ (x : D). WasNextKept (state a) (state x)) to kept)

  pub not_created_at : (schema : Fields) (names : List (List ℕ)) (o : WriteOptions) (keys : List KeyColumn) → AreNamedKeys schema names keys → (e : Refusal) → IsNotFirst o (empty_table schema keys) (state a) e → IsNotCreated schema names o (state b) e
  not_created_at schema names o keys named e h = subst (λ (x : D). IsNotCreated schema names o (state x) e) from (not_created schema names o (state a) keys named e h)

-- ---- the store

module _ {D : Type 0} (state : D → DiskState) (store : Core D) (o : WriteOptions) (is : IsStarted o store) (schema : Fields) (keys : List KeyColumn) (first : First)
    (on : IsFirstOn schema keys first (state store.vault.disk)) (made : root_of store.manifest ≡ first_root schema keys) where
  abbrev disk : DiskState
  disk = state store.vault.disk

  abbrev table : Table
  table = empty_table schema keys

  each : (c : Image) → may_leave disk c → IsTableOf (content c) (root_of store.manifest) table
  each c may = subst (λ (r : Root). IsTableOf (content c) r table) (sym made) (is_table schema keys first on.is c (on.kept c may))

  no_parts : (g : FileGroup) → Contains (root_of store.manifest).groups g → (b : List ℕ) × IsKept disk (path_of_group (root_of store.manifest) g) b
  no_parts g among = let at = subst (λ (r : Root). Contains r.groups g) made among in let l = at.1 in absurd (omega (arith, l))

  ready : IsReady disk 0 (first_root schema keys) first.root.items table
  ready = record { means = on.is.means; schema = refl; keys = refl; next = refl; stored = tt }

  sound : HasRoom keys disk → RootsMeanOneTable → IsSound disk
  sound room one = (sound_for disk 0 (first_root schema keys) first.root.items table ready room one on.rooted on.kept (λ (t : Table). Unit {0}) tt).sound

  pub new_stands : PathsAreApart → RootsMeanOneTable → RowsOfPartsFit → (IsOutOfRange o → ⊥) → HasRoom keys disk → may_leave disk disk.seen → store.clean ≡ false → Stands state store (opened o table)
  new_stands apart one fit in_range room seen_may unclean =
      started.stands state store o is table each first.root.items on.kept no_parts seen_may fit apart one in_range (sound room one) room (λ clean. absurd (false≢true (sym unclean ∙ clean)))

-- of a store that was made of a vault and a new table
pub stands_so : {D : Type 0} (state : D → DiskState) (store : Core D) (o : WriteOptions) (vault : Vault D) (first : First) → store.vault ≡ vault → store.manifest ≡ first.manifest → IsStarted o store
    → (schema : Fields) (keys other : List KeyColumn) → keys ≡ other → IsFirstOn schema keys first (state vault.disk) → PathsAreApart → RootsMeanOneTable → RowsOfPartsFit → (IsOutOfRange o → ⊥) → HasRoom keys (state vault.disk)
    → may_leave (state store.vault.disk) (state store.vault.disk).seen → store.clean ≡ false → Stands state store (opened o (empty_table schema other))
stands_so {D} state store o vault first at_vault at_manifest is schema keys other same on apart one fit in_range room seen_may unclean =
    subst (λ (ks : List KeyColumn). Stands state store (opened o (empty_table schema ks))) same
    (new_stands state store o is schema keys first
    (subst (λ (v : Vault D). IsFirstOn schema keys first (state v.disk)) (sym at_vault) on)
    (ap (λ (m : Manifest). root_of m) at_manifest ∙ on.is.manifest)
    apart one fit in_range
    (subst (λ (v : Vault D). HasRoom keys (state v.disk)) (sym at_vault) room)
    seen_may unclean)
