-- An import: what its file is refused for, and that its end is that of an append of the file's rows.
use Rattle.std.proofs.Common.{◌≡◌, ◌≤◌, ◌<◌, ℕ, Bool, true, false, not, nat_lt, List, [], ◌∷◌, None, Some, Ok, Err, Result, refl, sym, ◌∙◌, ap, subst, arith, inl, inr, ◌⊎◌}
use Rattle.std.specs.Prelude.{Option, flat_map, IsTrue}
use Rattle.std.proofs.lemmas.Bool.{ltb-true, lt-ltb}
use Rattle.lists.proofs.Lists.{all_append}
use Rattle.bits.specs.declared.refusal.Refusal.{Refusal}
use Rattle.bits.specs.declared.refusal.Refusal.TheVariants.{Closed, Full, RowShape, Key, Schema, Limit, Memory, Device, InDoubt}
use Rattle.bits.specs.Refusals.{IsFault}
use Rattle.schema.specs.Values.{ValueTrees}
use Rattle.schema.specs.Shape.{Fields}
use Rattle.schema.specs.Keys.{key_of_row}
use Rattle.schema.specs.Fits.{fits_each, RowsFit}
use Rattle.metadata.specs.Records.{GroupMeta}
use Rattle.footer.specs.File.{AreGroups, FileMeans}
use Rattle.footer.specs.Faults.{HasFault}
use Rattle.disk.specs.State.{State as DiskState}
use Rattle.table.specs.Table.{Row, Table}
use Rattle.table.specs.State.{State}
use Rattle.table.specs.Faults.{first, unless}
use Rattle.table.specs.Deciding.{has_folders}
use Rattle.table.specs.Checks.{fault, rows_fault, keys_fault, key_fault, can_count}
use Rattle.table.specs.Calls.{append, import, done, refused}
use Rattle.table.specs.Leading.{Imports, Rises, Leads}
use Rattle.table.specs.Limits.{IsOver, file, group, schema, root}
use Rattle.table.specs.Refusing.{Happens, IsRefused, IsForeign, Stays, is_failure, checked, stale, foreign, unfit, over, no_memory, failed, in_doubt}
use Rattle.table.specs.Views.{answered}
use Rattle.table.proofs.Steady.{stays}
use Rattle.table_state.specs.declared.standing.Core.{Core}
use Rattle.table_state.specs.Stands.{Stands}
use Rattle.table_state.specs.Promises.{ActsFrom}
use Rattle.table_commits.specs.Gathering.{IsNotRead}
use Rattle.table_commits.proofs.UnchangedRefusals.{changes_nothing}
use Rattle.table_changes.proofs.AppendChecks.{fine}

-- ---- the rows of a file fit its schema

groups_fit : (front : List ℕ) (fs : Fields) (gs : List GroupMeta) (groups : List (List ValueTrees)) → AreGroups front fs gs groups → RowsFit fs (flat_map (λ (g : List ValueTrees). g) groups)
groups_fit front fs [] [] h = tt
groups_fit front fs (g ∷ gs) (rows ∷ others) h = all_append (λ (row : ValueTrees). IsTrue (fits_each fs row)) rows (flat_map (λ (x : List ValueTrees). x) others) h.1.fit (groups_fit front fs gs others h.2)
groups_fit front fs [] (rows ∷ others) h = absurd h
groups_fit front fs (g ∷ gs) [] h = absurd h

pub file_fits : (bytes : List ℕ) (fs : Fields) (rows : List ValueTrees) → FileMeans bytes fs rows → RowsFit fs rows
file_fits bytes fs rows m = subst (λ (rs : List ValueTrees). RowsFit fs rs) (sym m.held.joined) (groups_fit m.front fs m.meta.row_groups m.held.groups m.held.each)

-- so their first fault is one of a key
pub keys_alone : (t : Table) (given : List Row) → RowsFit t.schema given → rows_fault t given ≡ keys_fault t given
keys_alone t [] h = refl
keys_alone t (row ∷ given) h =
    ap (λ (b : Bool). first (unless b RowShape ∷ key_fault t row ∷ rows_fault t given ∷ [])) h.0
    ∙ ap (λ (o : Option Refusal). first (None ∷ key_fault t row ∷ o ∷ [])) (keys_alone t given h.1)

no_shape : (t : Table) (given : List Row) → keys_fault t given ≡ Some RowShape → ⊥
no_shape t [] h = absurd (cc)
no_shape t (row ∷ given) h = by (has_folders t.keys (key_of_row t.keys row)) (keys_fault t given) h (no_shape t given)
  where
    by : (b : Bool) (o : Option Refusal) → first (unless b Key ∷ o ∷ []) ≡ Some RowShape → (o ≡ Some RowShape → ⊥) → ⊥
    by true None i r = absurd (cc)
    by true (Some e) i r = r i
    by false o i r = absurd (cc)

-- ---- what an append of the rows does, the import does

module _ (s : State) (bytes : List ℕ) (given : List Row) (means : Imports s bytes given) (keys : keys_fault s.table given ≡ None) (is_open : s.closed ≡ false) (fine : fault s (append given) ≡ None) where
  unrefused : fault s (import bytes) ≡ None
  unrefused = by (not s.closed) (can_count s.next_group) (rows_fault s.table given) fine
    where
      by : (a b : Bool) (o : Option Refusal) → first (unless a Closed ∷ unless b Full ∷ o ∷ []) ≡ None → first (unless a Closed ∷ unless b Full ∷ []) ≡ None
      by true true o f = refl
      by true false o f = absurd (cc)
      by false b o f = absurd (cc)

  rises_too : (counter : ℕ) → Rises s (append given) counter → Rises s (import bytes) counter
  rises_too counter r = record { most = r.most; work = inl (given, means, r.work); no_less = r.no_less; no_more = r.no_more }

  stays_too : (new : State) → Stays s (append given) new → Stays s (import bytes) new
  stays_too new h = record { counter = h.counter; rises = rises_too h.counter h.rises; is = h.is }

  leads_too : (n : ℕ) (t : Table) (counter : ℕ) → Leads s (append given) n t counter → Leads s (import bytes) n t counter
  leads_too n t counter l = record { made = l.made; asked = (given, means, keys, l.asked); step = l.step; rises = rises_too counter l.rises; covers = l.covers }

  over_too : IsOver s (append given) → IsOver s (import bytes)
  over_too (file other e too_long) = absurd (cc)
  over_too (group part may much) = group part (given, means, may) much
  over_too (schema elements e large) = absurd (cc)
  over_too (root n t counter leads new much) = root n t counter (leads_too n t counter leads) new much

  refused_too : (e : Refusal) (new : State) → IsRefused s (append given) e new → IsRefused s (import bytes) e new
  refused_too e new (checked is other same) = let c : None ≡ Some e = sym fine ∙ is in absurd (cc)
  refused_too e new (stale is which gone) = let c = sym fine ∙ is in absurd (cc)
  refused_too e new (foreign other is passed why same) = absurd (cc)
  refused_too e new (unfit elements is passed why same) = absurd (cc)
  refused_too e new (over is may much same) = over is is_open (over_too much) (stays_too new same)
  refused_too e new (no_memory is on needs same) = no_memory is on refl (stays_too new same)
  refused_too e new (failed is on needs same) = failed is on refl (stays_too new same)
  refused_too e new (in_doubt is passed d) = in_doubt is unrefused (record { n = d.n; table = d.table; counter = d.counter; leads = leads_too d.n d.table d.counter d.leads; other = d.other; becomes = d.becomes })

  happens_too : (r : Result ℕ Refusal) (after : State) → Happens s (append given) (answered {T = ℕ} (λ x. done x) r) after → Happens s (import bytes) (answered {T = ℕ} (λ x. done x) r) after
  happens_too (Ok n) after h =
      let d = h.1 in
      (unrefused, record { n = d.n; table = d.table; counter = d.counter; leads = leads_too d.n d.table d.counter d.leads; answers = d.answers; becomes = d.becomes })
  happens_too (Err e) after h = refused_too e after h

  pub acts_too : {D : Type 0} (state : D → DiskState) (old new : Core D) (r : Result ℕ Refusal) → ActsFrom state old new (append given) (answered {T = ℕ} (λ x. done x) r) s → ActsFrom state old new (import bytes) (answered {T = ℕ} (λ x. done x) r) s
  acts_too state old new r a = record { after = a.after; happens = happens_too r a.after a.happens; survives = a.survives; stands = a.stands; past = a.past; doubt = a.doubt; kept = a.kept }

-- ---- refusals before anything is written

-- no refusal of a file tells of a failed disk
pub no_failure : (bytes : List ℕ) (e : Refusal) → HasFault bytes e → is_failure (refused e) ≡ true → ⊥
no_failure bytes Device w h = w
no_failure bytes InDoubt w h = w
no_failure bytes e w h = absurd (cc)

-- nor does a file that is not read
pub none_fails : (fs : Fields) (bytes : List ℕ) (e : Refusal) → IsNotRead fs bytes e → is_failure (refused e) ≡ true → ⊥
none_fails fs bytes e (inl why) tells = no_failure bytes e why.0 tells
none_fails fs bytes e (inr (inl why)) tells = let c : is_failure (refused Schema) ≡ true = subst (λ (f : Refusal). is_failure (refused f) ≡ true) why.0 tells in absurd (cc)
none_fails fs bytes e (inr (inr memory)) tells = let c : is_failure (refused Memory) ≡ true = subst (λ (f : Refusal). is_failure (refused f) ≡ true) memory tells in absurd (cc)

module _ {D : Type 0} (state : D → DiskState) (store : Core D) (s : State) (stands : Stands state store s) (is_open : s.closed ≡ false) (bytes : List ℕ) where
  fault_at : (b : Bool) → can_count s.next_group ≡ b → fault s (import bytes) ≡ first (None ∷ unless b Full ∷ [])
  fault_at b e = ap (λ (c : Bool). first (unless (not c) Closed ∷ unless (can_count s.next_group) Full ∷ [])) is_open
      ∙ ap (λ (c : Bool). first (None ∷ unless c Full ∷ [])) e

  pub is_full : 9223372036854775808 ≤ s.next_group → ActsFrom state store store (import bytes) (refused Full) s
  is_full high = changes_nothing state store (import bytes) (refused Full) s stands (checked (fault_at false (by (nat_lt s.next_group 9223372036854775808) refl)) (λ b. cc) (stays s (import bytes) refl))
    where
      by : (b : Bool) → nat_lt s.next_group 9223372036854775808 ≡ b → nat_lt s.next_group 9223372036854775808 ≡ false
      by true e = let low = ltb-true s.next_group 9223372036854775808 e in absurd (omega (arith, low, high))
      by false e = e

  -- memory ran out
  pub no_room : ActsFrom state store store (import bytes) (refused Memory) s
  no_room = changes_nothing state store (import bytes) (refused Memory) s stands (no_memory refl (ap not is_open) refl (stays s (import bytes) refl))

  module _ (low : s.next_group < 9223372036854775808) where
    passed : fault s (import bytes) ≡ None
    passed = fault_at true (lt-ltb s.next_group 9223372036854775808 low)

    pub is_foreign : (e : Refusal) → IsForeign s bytes e → ActsFrom state store store (import bytes) (refused e) s
    is_foreign e why = changes_nothing state store (import bytes) (refused e) s stands (foreign bytes refl passed why (stays s (import bytes) refl))

    -- the file is refused
    pub not_read : (e : Refusal) → HasFault bytes e → (IsFault e → (fs : Fields) (rows : List ValueTrees) → FileMeans bytes fs rows → ⊥) → ActsFrom state store store (import bytes) (refused e) s
    not_read Limit w none = changes_nothing state store (import bytes) (refused Limit) s stands (over refl is_open (file bytes refl w) (stays s (import bytes) refl))
    not_read Memory w none = no_room
    not_read Schema w none = is_foreign Schema (λ given m. none tt s.table.schema given m)
    not_read Key w none = absurd w
    not_read e w none = is_foreign e (w, none tt)

    -- the file is refused, or is of another table
    pub none_read : (e : Refusal) → IsNotRead s.table.schema bytes e → ActsFrom state store store (import bytes) (refused e) s
    none_read e (inl why) = not_read e why.0 why.1
    none_read e (inr (inl why)) = subst (λ (f : Refusal). ActsFrom state store store (import bytes) (refused f) s) (sym why.0) (is_foreign Schema why.1)
    none_read e (inr (inr memory)) = subst (λ (f : Refusal). ActsFrom state store store (import bytes) (refused f) s) (sym memory) no_room

    -- the first row with a fault has a key that names no folder
    pub row_refused : (given : List Row) → Imports s bytes given → (e : Refusal) → (e ≡ RowShape) ⊎ (e ≡ Key) → rows_fault s.table given ≡ Some e → ActsFrom state store store (import bytes) (refused e) s
    row_refused given m e which is = by e which (sym (keys_alone s.table given (file_fits bytes s.table.schema given m)) ∙ is)
      where
        by : (f : Refusal) → (f ≡ RowShape) ⊎ (f ≡ Key) → keys_fault s.table given ≡ Some f → ActsFrom state store store (import bytes) (refused f) s
        by f (inl shape) at = absurd (no_shape s.table given (at ∙ ap (λ (r : Refusal). Some r) shape))
        by f (inr key) at = subst (λ (r : Refusal). ActsFrom state store store (import bytes) (refused r) s) (sym key) (is_foreign Key (given, m, at ∙ ap (λ (r : Refusal). Some r) key))

    -- an append of its rows is an import
    pub as_append : (given : List Row) → Imports s bytes given → rows_fault s.table given ≡ None → (new : Core D) (r : Result ℕ Refusal)
        → ActsFrom state store new (append given) (answered {T = ℕ} (λ x. done x) r) s → ActsFrom state store new (import bytes) (answered {T = ℕ} (λ x. done x) r) s
    as_append given m none new r a = acts_too s bytes given m (sym (keys_alone s.table given (file_fits bytes s.table.schema given m)) ∙ none) is_open (fine state store s stands is_open given low none) state store new r a
