-- What making a table makes of a disk, by what the store's call makes of it after a look.
use Rattle.std.proofs.Common.{◌≡◌, ◌≢◌, ◌≤◌, ◌⊎◌, ⊎_elim, inl, inr, ◌↔◌, ℕ, List, None, Result, Ok, Err, OnOk, IfOk, IfErr, refl, sym, subst, ◌∙◌, arith}
use Rattle.std.specs.Prelude.{⊤}
use Rattle.std.proofs.lemmas.Result.{on_ok_weaker}
use Rattle.lists.proofs.Booleans.{iff_through as both}
use Rattle.bits.specs.declared.refusal.Refusal.{Refusal}
use Rattle.bits.specs.declared.refusal.Refusal.TheVariants.{Limit, Key, Exists, Device, InDoubt, Memory}
use Rattle.schema.specs.Shape.{Fields}
use Rattle.schema.specs.Keys.{KeyColumn}
use Rattle.disk.specs.State.{Image, State as DiskState, content}
use Rattle.vault.specs.Views.{Same, root_path}
use Rattle.vault.specs.Calls.{HasFailed, LeavesAll}
use Rattle.vault.proofs.Moments.{le_or, clear_after}
use Rattle.footer.specs.declared.options.WriteOptions.{WriteOptions}
use Rattle.recovery.proofs.Sweeping.{reads_on}
use Rattle.table_state.specs.Spares.{HasRoom}
use Rattle.table.specs.Table.{Table, empty_table}
use Rattle.table.specs.State.{opened}
use Rattle.table_state.specs.declared.standing.Core.{Core}
use Rattle.table_state.specs.Stands.{Stands}
use Rattle.table_openings.specs.Opening.{disk_of, AreNamedKeys, HasNoRoot, LeavesNoneOr, IsCreatable, IsNotCreated}
use Rattle.commands.specs.Creating.{OnlyLooks, CreatesOn, MakesTable, created_so, only_looked}

-- ---- looks

pub looks_on : (old mid new : DiskState) → OnlyLooks old mid → OnlyLooks mid new → OnlyLooks old new
looks_on old mid new first second = record {
  unchanged = λ honest. reads_on old mid new (first.unchanged honest) (second.unchanged (first.honest.0 honest));
  counts = omega (arith, first.counts, second.counts);
  honest = both first.honest second.honest;
}

-- ---- what is asked of the disk before a look

err_weaker : {T : Type 0} {P Q : Refusal → Type 0} (result : Result T Refusal) → ((e : Refusal) → P e → Q e) → IfErr result P → IfErr result Q
err_weaker (Ok x) so holds = tt
err_weaker (Err e) so holds = so e holds

module _ (s t : DiskState) (all : LeavesAll s t) where
  room_on : (keys : List KeyColumn) → HasRoom keys s → HasRoom keys t
  room_on keys room path place = clear_after Same s t path all.moments (all.clear path (room path place))

  none_at : HasNoRoot s → (m : ℕ) (c : Image) → s.moment ≤ m → m ≤ t.moment → t.images m c → content c root_path ≡ None
  none_at none m c from until may =
      let was = all.moments.each m c from until may in
      was.2 root_path ∙ none was.0 was.1

  none_on : HasNoRoot s → HasNoRoot t
  none_on none c may = none_at none t.moment c all.moments.later (omega arith) may

  leaves_on : (table : Table) (u : DiskState) → HasRoom table.keys s → HasNoRoot s → LeavesNoneOr table t u → LeavesNoneOr table s u
  leaves_on table u room none more = record {
    past = record {
      later = omega (arith, all.moments.later, more.past.later);
      history = λ m c before had. all.moments.history m c before (more.past.history m c (omega (arith, all.moments.later, before)) had);
      keeps = λ m c before had. more.past.keeps m c (omega (arith, all.moments.later, before)) (all.moments.keeps m c before had);
    };
    each = λ m c from until had. ⊎_elim
        (λ before. inl (none_at none m c from before (more.past.history m c before had)))
        (λ after. more.each m c (omega (arith, after)) until had)
        (le_or t.moment m);
    room = λ m c from until had path place. ⊎_elim
        (λ before. all.clear path (room path place) m c from before (more.past.history m c before had))
        (λ after. more.room m c (omega (arith, after)) until had path place)
        (le_or t.moment m);
  }

  not_created_before : (schema : Fields) (names : List (List ℕ)) (o : WriteOptions) (e : Refusal) → IsNotCreated schema names o t e → IsNotCreated schema names o s e
  not_created_before schema names o Key why = why
  not_created_before schema names o Exists why = (why.0, λ none. why.1 (all.seen root_path ∙ none))
  not_created_before schema names o Limit why = (why.0, why.1, sym (all.seen root_path) ∙ why.2, why.3)
  not_created_before schema names o Device why = why
  not_created_before schema names o InDoubt why = (why.0, sym (all.seen root_path) ∙ why.1)
  not_created_before schema names o Memory why = why
  not_created_before schema names o e why = why

failed_before : (s t u : DiskState) → HasFailed t u → s.failures ≤ t.failures → t.failures ≤ u.failures → HasFailed s u
failed_before s t u (inl grew) first second = inl (omega (arith, first, grew))
failed_before s t u (inr full) first second = ⊎_elim
    (λ same. inr (omega (arith, same, full)))
    (λ grew. inl (omega (arith, grew, second)))
    (le_or s.failures t.failures)

-- a table that is made after a look is made
pub after_look : {D : Type 0} (state : D → DiskState) (o : WriteOptions) (schema : Fields) (names : List (List ℕ)) (old mid new : D) (result : Result ⊤ Refusal)
    → OnlyLooks (state old) (state mid) → CreatesOn state o schema names mid new result → CreatesOn state o schema names old new result
after_look state o schema names old mid new result look c =
    let s = state old in
    let t = state mid in
    let u = state new in
    record {
      created = λ honest keys named room. c.created (look.honest.0 honest) keys named (room_on s t (look.unchanged honest) keys room);
      moments = λ honest keys named room none. leaves_on s t (look.unchanged honest) _ u room none
          (c.moments (look.honest.0 honest) keys named (room_on s t (look.unchanged honest) keys room) (none_on s t (look.unchanged honest) none));
      refused = λ honest none. c.refused (look.honest.0 honest) (none_on s t (look.unchanged honest) none);
      room = λ honest keys named room. c.room (look.honest.0 honest) keys named (room_on s t (look.unchanged honest) keys room);
      asked = λ honest. on_ok_weaker result (λ a. record { keyed = a.keyed; absent = sym ((look.unchanged honest).seen root_path) ∙ a.absent; in_range = a.in_range }) (c.asked (look.honest.0 honest));
      which = λ honest. err_weaker result (not_created_before s t (look.unchanged honest) schema names o) (c.which (look.honest.0 honest));
      unchanged = λ honest there. reads_on s t u (look.unchanged honest)
          (c.unchanged (look.honest.0 honest) (λ none. there (sym ((look.unchanged honest).seen root_path) ∙ none)));
      cause = λ honest keys named room. err_weaker result (λ e so failed. failed_before s t u (so failed) look.counts c.counts)
          (c.cause (look.honest.0 honest) keys named (room_on s t (look.unchanged honest) keys room));
      counts = omega (arith, look.counts, c.counts);
      honest = both look.honest c.honest;
    }

-- ---- the store's call

-- what the store's call promises, in one place
pub record StoreCreates {D : Type 0} (state : D → DiskState) (o : WriteOptions) (schema : Fields) (names : List (List ℕ)) (old : D) (result : Result (Core D) (D × Refusal))
    : Type 0 where
  pub created : (state old).honest → (keys : List KeyColumn) → AreNamedKeys schema names keys → HasRoom keys (state old)
      → IfOk result (λ store. Stands state store (opened o (empty_table schema keys)))
  pub moments : (state old).honest → (keys : List KeyColumn) → AreNamedKeys schema names keys → HasRoom keys (state old) → HasNoRoot (state old)
      → LeavesNoneOr (empty_table schema keys) (state old) (state (disk_of result))
  pub refused : (state old).honest → HasNoRoot (state old) → IfErr result (λ e. e.1 ≢ InDoubt → HasNoRoot (state e.0))
  pub room : (state old).honest → (keys : List KeyColumn) → AreNamedKeys schema names keys → HasRoom keys (state old) → HasRoom keys (state (disk_of result))
  pub asked : (state old).honest → OnOk result (IsCreatable schema names o (state old))
  pub which : (state old).honest → IfErr result (λ e. IsNotCreated schema names o (state old) e.1)
  pub unchanged : (state old).honest → content (state old).seen root_path ≢ None → LeavesAll (state old) (state (disk_of result))
  pub cause : (state old).honest → (keys : List KeyColumn) → AreNamedKeys schema names keys → HasRoom keys (state old)
      → IfErr result (λ e. (e.1 ≡ Device) ⊎ (e.1 ≡ InDoubt) → HasFailed (state old) (state e.0))
  pub counts : (state old).failures ≤ (state (disk_of result)).failures
  pub honest : (state old).honest ↔ (state (disk_of result)).honest

module _ {D : Type 0} (state : D → DiskState) (o : WriteOptions) (schema : Fields) (names : List (List ℕ)) (old : D) where
  of_ok : (store : Core D) → StoreCreates state o schema names old (Ok store) → CreatesOn state o schema names old store.vault.disk (Ok tt)
  of_ok store calls = record {
    created = λ honest keys named room. (store, refl, calls.created honest keys named room);
    moments = calls.moments;
    refused = λ honest none. tt;
    room = calls.room;
    asked = calls.asked;
    which = λ honest. tt;
    unchanged = calls.unchanged;
    cause = λ honest keys named room. tt;
    counts = calls.counts;
    honest = calls.honest;
  }

  -- it made the table, and the store's disk is taken
  pub store_made : (store : Core D) (new : D) → new ≡ store.vault.disk → StoreCreates state o schema names old (Ok store) → CreatesOn state o schema names old new (Ok tt)
  store_made store new is calls = subst (λ (d : D). CreatesOn state o schema names old d (Ok tt)) (sym is) (of_ok store calls)

  -- it was refused
  pub store_refused : (new : D) (e : Refusal) → StoreCreates state o schema names old (Err (new, e)) → CreatesOn state o schema names old new (Err e)
  store_refused new e calls = record {
    created = λ honest keys named room. tt;
    moments = calls.moments;
    refused = calls.refused;
    room = calls.room;
    asked = λ honest. tt;
    which = calls.which;
    unchanged = calls.unchanged;
    cause = calls.cause;
    counts = calls.counts;
    honest = calls.honest;
  }

-- ---- a disk

module _ {D : Type 0} (state : D → DiskState) (o : WriteOptions) (schema : Fields) (names : List (List ℕ)) (disk begun mid taken : D) (is_begun : begun ≡ disk) (is_taken : taken ≡ mid)
    (look : OnlyLooks (state begun) (state mid)) where
  looked : OnlyLooks (state disk) (state taken)
  looked = subst (λ (d : D). OnlyLooks (state d) (state taken)) is_begun (subst (λ (d : D). OnlyLooks (state begun) (state d)) (sym is_taken) look)

  -- the table is made of a schema that is this one
  pub made_after : (own : Fields) (new : D) (result : Result ⊤ Refusal) → own ≡ schema → CreatesOn state o own names taken new result → MakesTable state o schema names disk new result
  made_after own new result same creates =
      created_so (after_look state o schema names disk taken new result looked (subst (λ (fs : Fields). CreatesOn state o fs names taken new result) same creates))

  pub not_made_after : (e : Refusal) → MakesTable state o schema names disk taken (Err e)
  not_made_after e = only_looked e looked refl
