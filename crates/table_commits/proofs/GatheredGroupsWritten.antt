-- Gathered groups are written: from one group that is filled to the next, and then the rest.
use Rattle.std.proofs.Common.{◌≡◌, ◌≢◌, ◌≤◌, ◌+◌, ◌⊎◌, ℕ, suc, Bool, true, false, List, [], ◌∷◌, ◌++◌, length, Option, refl, sym, ◌∙◌, ap, subst, arith, inl, inr, ⊎_elim, append_assoc}
use Rattle.std.specs.Prelude.{nat_lt, IsTrue}
use Rattle.std.specs.List.{AllByRecursion}
use Rattle.std.proofs.lemmas.Bool.{ltb-true, ltb-false}
use Rattle.std.proofs.lemmas.List.{append-nil}
use Rattle.lists.proofs.Lists.{all_right as rest_of_all}
use Rattle.bits.specs.declared.refusal.Refusal.{Refusal}
use Rattle.bits.specs.declared.refusal.Refusal.TheVariants.{Device}
use Rattle.bits.specs.Refusals.{HasCause}
use Rattle.schema.specs.Shape.{Fields}
use Rattle.schema.specs.Fits.{fits_each}
use Rattle.schema.specs.Keys.{AreRowsOf, key_of_row, row_without_keys}
use Rattle.disk.specs.State.{State as DiskState}
use Rattle.vault.specs.Calls.{HasFailed}
use Rattle.partition.specs.Folders.{CanPartition}
use Rattle.partition.specs.Order.{is_same_key}
use Rattle.partition.specs.Splitting.{KeyRows}
use Rattle.partition.proofs.SameKeys.{key_same}
use Rattle.gather.specs.declared.key_buffer.KeyBuffer.{KeyBuffer}
use Rattle.gather.specs.KeyBuffers.{HoldsGroup, Hold}
use Rattle.gather.specs.Groups.{filled_by, filled_after, full_groups, AreRests}
use Rattle.manifest.specs.Groups.{Group as FileGroup}
use Rattle.table.specs.Table.{Row, Key, Group, rows}
use Rattle.table.specs.State.{State}
use Rattle.table_state.specs.declared.standing.Core.{Core}
use Rattle.table_state.specs.Buffers.{keys_in, IsRising, buffer}
use Rattle.table_commits.specs.Acting.{WroteTo}
use Rattle.table_commits.specs.Writing.{IsPartRefusal}
use Rattle.table_commits.specs.Filling.{AreBuffers, IsFew, Filled, IsFilled, AreFine, IsStopped, IsWhole, IsAny, HasWritten, written_group}
use Rattle.table_commits.proofs.RowsFillGroups.{begins, size_some, keys_are, waits_more, written_more, stops, stopped_before, stopped_anywhere}
use Rattle.table_commits.proofs.RowsThatFillNoGroup.{Added, add, Follows, follows_none, follows_waiting, follows_filled, fills_none, fills_one, same_rests}
use Rattle.table_commits.proofs.RowsOfOneKey.{IsLoaded}
use Rattle.table_commits.proofs.OneRowMore.{loaded, one_longer}
use Rattle.table_commits.proofs.RestsByKey.{rest_of, rest_more, all_written}
use Rattle.table_commits.proofs.WaitingRows.{same_key_lists, told, same_length}

-- what waits is some rows for each key
pub waits_some : (size : ℕ) (s : State) (ws vs : List KeyRows) → AreBuffers s.table.schema s.table.keys ws vs → AllByRecursion (IsFew size) vs → AllByRecursion (λ (w : KeyRows). w.rows ≢ []) ws
waits_some size s [] [] z few = tt
waits_some size s (w ∷ ws) (v ∷ vs) z few =
    ((λ none. let many = same_length s.table.keys w.key w.rows v.rows z.0.are in let nothing = ap length none in let some = few.0.0 in absurd (omega (arith, many, nothing, some))), waits_some size s ws vs z.1 few.1)
waits_some size s [] (v ∷ vs) z few = absurd z
waits_some size s (w ∷ ws) [] z few = absurd z

module _ {D : Type 0} (state : D → DiskState) (start mid : Core D) (s : State) (job : Option ℕ) (files : List FileGroup) (given : List Row) where
  -- These rows came, of which full groups are written, and the others wait; the groups that are left are those that later
  -- rows fill, and then these.
  pub record IsOnTheWay (rests left : List KeyRows) : Type 0 where
    pub waiting : List KeyRows
    pub done : List Row
    pub later : List Row
    pub are : done ++ later ≡ given
    pub filled : Filled state start mid s job files [] waiting done
    pub follows : Follows s.table.keys s.options.group_rows done waiting
    pub left_are : left ≡ filled_after s.table.keys s.options.group_rows done later ++ rests

  -- all rows came, of which full groups are written and some of the rest; the others are left
  abbrev pub IsAtTheRest : List KeyRows → Type 0
  IsAtTheRest left = (parts : List Group) × Filled state start mid s job files parts left given

  -- all rows came, of which the full groups are written, and the others wait; these groups are left
  pub record IsThrough (rests left : List KeyRows) : Type 0 where
    pub waiting : List KeyRows
    pub filled : Filled state start mid s job files [] waiting given
    pub follows : Follows s.table.keys s.options.group_rows given waiting
    pub left_are : left ≡ rests

  -- of the groups that are left the first is full, and the last of its rows is the next one to come
  pub record IsAtAFull (rests left : List KeyRows) : Type 0 where
    pub waiting : List KeyRows
    pub done : List Row
    pub row : Row
    pub later : List Row
    pub are : (done ++ row ∷ []) ++ later ≡ given
    pub filled : Filled state start mid s job files [] waiting done
    pub key : Key
    pub before : List KeyRows
    pub held : List Row
    pub after : List KeyRows
    pub loaded : IsLoaded s mid.next_group (rows (filled.fulls ++ [])) key before held after (done ++ row ∷ [])
    pub full : s.options.group_rows ≤ length held
    pub follows : Follows s.table.keys s.options.group_rows (done ++ row ∷ []) (before ++ after)
    pub left_are : left ≡ buffer key held ∷ filled_after s.table.keys s.options.group_rows (done ++ row ∷ []) later ++ rests

  -- the full group that is at the front has as many rows as a group
  pub is_whole : (rests left : List KeyRows) (h : IsAtAFull rests left) → IsWhole s h.loaded.mine
  is_whole rests left h =
      let same = same_length s.table.keys h.key h.held h.loaded.mine h.loaded.mine_are.are in
      let full = h.full in
      let most = h.loaded.most in
      omega (arith, full, same, most)

  -- the groups are at a state where nothing was written
  pub at_first : (rests groups : List KeyRows) → HasWritten state start mid s job files [] → mid.next_group ≡ s.next_group → groups ≡ full_groups s.table.keys s.options.group_rows given ++ rests → IsOnTheWay rests groups
  at_first rests groups has same are = record {
    waiting = [];
    done = [];
    later = given;
    are = refl;
    filled = begins state start mid s job files has same;
    follows = follows_none s.table.keys s.options.group_rows;
    left_are = are;
  }

  -- a row more waits
  record WaitsMore (done : List Row) (row : Row) : Type 0 where
    pub waiting : List KeyRows
    pub filled : Filled state start mid s job files [] waiting (done ++ row ∷ [])
    pub follows : Follows s.table.keys s.options.group_rows (done ++ row ∷ []) waiting
    pub none : filled_by s.table.keys s.options.group_rows done row ≡ []

  -- a row more fills a group
  record FillsOne (written done : List Row) (row : Row) : Type 0 where
    pub before : List KeyRows
    pub held : List Row
    pub after : List KeyRows
    pub loaded : IsLoaded s mid.next_group written (key_of_row s.table.keys row) before held after (done ++ row ∷ [])
    pub full : s.options.group_rows ≤ length held
    pub follows : Follows s.table.keys s.options.group_rows (done ++ row ∷ []) (before ++ after)
    pub one : filled_by s.table.keys s.options.group_rows done row ≡ buffer (key_of_row s.table.keys row) held ∷ []

  more_with : (waiting : List KeyRows) (done : List Row) (row : Row) → AreFine s (row ∷ []) → (f : Filled state start mid s job files [] waiting done) → Follows s.table.keys s.options.group_rows done waiting → IsRising (keys_in waiting)
      → Added (key_of_row s.table.keys row) (row_without_keys s.table.keys row) waiting → WaitsMore done row ⊎ FillsOne (rows (f.fulls ++ [])) done row
  more_with waiting done row fine f follows rising a = by (nat_lt (suc (length a.is.held)) s.options.group_rows) refl
    where
      load : IsLoaded s mid.next_group (rows (f.fulls ++ [])) (key_of_row s.table.keys row) a.is.before (a.is.held ++ row_without_keys s.table.keys row ∷ []) a.is.after (done ++ row ∷ [])
      load = loaded s mid.next_group (rows (f.fulls ++ [])) done row (keys_are state start mid s job files (f.fulls ++ []) f.written) fine (size_some state start mid s job files (f.fulls ++ []) f.written)
          waiting a.new f.whole a.at f.waits f.few f.rising f.all f.room a.is

      same : is_same_key (key_of_row s.table.keys row) (key_of_row s.table.keys row) ≡ true
      same = key_same s.table.keys (key_of_row s.table.keys row) fine.0.1.values

      long : length (a.is.held ++ row_without_keys s.table.keys row ∷ []) ≡ suc (length a.is.held)
      long = one_longer a.is.held (row_without_keys s.table.keys row)

      by : (b : Bool) → nat_lt (suc (length a.is.held)) s.options.group_rows ≡ b → WaitsMore done row ⊎ FillsOne (rows (f.fulls ++ [])) done row
      by true few = inl record {
        waiting = a.new;
        filled = subst (λ (ws : List KeyRows). Filled state start mid s job files [] ws (done ++ row ∷ [])) (sym a.is.becomes)
            (waits_more state start mid s job files (done ++ row ∷ []) (key_of_row s.table.keys row) a.is.before (a.is.held ++ row_without_keys s.table.keys row ∷ []) a.is.after waiting done f load
            (let below = ltb-true (suc (length a.is.held)) s.options.group_rows few in let many = long in omega (arith, below, many)));
        follows = follows_waiting s.table.keys s.options.group_rows done row same waiting a.new a.at follows rising a.is few;
        none = fills_none s.table.keys s.options.group_rows done row same waiting a.new a.at follows rising a.is few;
      }
      by false full = inr record {
        before = a.is.before;
        held = a.is.held ++ row_without_keys s.table.keys row ∷ [];
        after = a.is.after;
        loaded = load;
        full = let above = ltb-false (suc (length a.is.held)) s.options.group_rows full in let many = long in omega (arith, above, many);
        follows = follows_filled s.table.keys s.options.group_rows done row same waiting a.new a.at follows rising a.is full;
        one = fills_one s.table.keys s.options.group_rows done row same waiting a.new a.at follows rising a.is full;
      }

  one_more : (waiting : List KeyRows) (done : List Row) (row : Row) → AreFine s (row ∷ []) → (f : Filled state start mid s job files [] waiting done) → Follows s.table.keys s.options.group_rows done waiting
      → WaitsMore done row ⊎ FillsOne (rows (f.fulls ++ [])) done row
  one_more waiting done row fine f follows =
      let rising : IsRising (keys_in waiting) = subst (λ (ks : List Key). IsRising ks) (same_key_lists s.table.schema s.table.keys waiting f.whole f.waits) f.rising in
      more_with waiting done row fine f follows rising
      (add (key_of_row s.table.keys row) (row_without_keys s.table.keys row) waiting (told s.table.schema s.table.keys (key_of_row s.table.keys row) waiting f.whole fine.0.1 f.waits) rising)

  -- rows come till one fills a group
  module _ (rests left : List KeyRows) where
    advance : (later : List Row) → AreFine s later → (waiting : List KeyRows) (done : List Row) → done ++ later ≡ given → Filled state start mid s job files [] waiting done → Follows s.table.keys s.options.group_rows done waiting
        → left ≡ filled_after s.table.keys s.options.group_rows done later ++ rests → IsThrough rests left ⊎ IsAtAFull rests left
    advance [] fine waiting done are f follows left_are =
        let all : done ≡ given = sym (append-nil done) ∙ are in
        inl record {
          waiting = waiting;
          filled = subst (λ (rs : List Row). Filled state start mid s job files [] waiting rs) all f;
          follows = subst (λ (rs : List Row). Follows s.table.keys s.options.group_rows rs waiting) all follows;
          left_are = left_are;
        }
    advance (row ∷ later) fine waiting done are f follows left_are =
        let next : (done ++ row ∷ []) ++ later ≡ given = append_assoc done (row ∷ []) later ∙ are in
        ⊎_elim
        (λ (w : WaitsMore done row).
        advance later fine.1 w.waiting (done ++ row ∷ []) next w.filled w.follows
        (left_are ∙ ap (λ (gs : List KeyRows). (gs ++ filled_after s.table.keys s.options.group_rows (done ++ row ∷ []) later) ++ rests) w.none))
        (λ (w : FillsOne (rows (f.fulls ++ [])) done row). inr record {
          waiting = waiting;
          done = done;
          row = row;
          later = later;
          are = next;
          filled = f;
          key = key_of_row s.table.keys row;
          before = w.before;
          held = w.held;
          after = w.after;
          loaded = w.loaded;
          full = w.full;
          follows = w.follows;
          left_are = left_are ∙ ap (λ (gs : List KeyRows). (gs ++ filled_after s.table.keys s.options.group_rows (done ++ row ∷ []) later) ++ rests) w.one;
        })
        (one_more waiting done row (fine.0, tt) f follows)

    pub goes_on : AreFine s given → IsOnTheWay rests left → IsThrough rests left ⊎ IsAtAFull rests left
    goes_on fine h =
        advance h.later
        (rest_of_all (λ (row : Row). IsTrue (fits_each s.table.schema row) × CanPartition s.table.keys (key_of_row s.table.keys row)) h.done h.later (subst (λ (rs : List Row). AreFine s rs) (sym h.are) fine))
        h.waiting h.done h.are h.filled h.follows h.left_are

  -- what fills no group waits
  pub rest_waits : (rests found left : List KeyRows) → AreRests s.table.keys s.options.group_rows given found → IsThrough rests left → Filled state start mid s job files [] found given
  rest_waits rests found left found_are t =
      let f = t.filled in
      let rising : IsRising (keys_in t.waiting) = subst (λ (ks : List Key). IsRising ks) (same_key_lists s.table.schema s.table.keys t.waiting f.whole f.waits) f.rising in
      let same : t.waiting ≡ found = same_rests s.table.keys s.options.group_rows given t.waiting found t.follows found_are rising (waits_some s.options.group_rows s t.waiting f.whole f.waits f.few) in
      subst (λ (ws : List KeyRows). Filled state start mid s job files [] ws given) same f

  pub ready : (rests left : List KeyRows) → AreRests s.table.keys s.options.group_rows given rests → AreFine s given → IsAtTheRest left ⊎ IsOnTheWay rests left → IsAtTheRest left ⊎ IsAtAFull rests left
  ready rests left rests_are fine at =
      ⊎_elim (λ (h : IsAtTheRest left). inl h)
      (λ (h : IsOnTheWay rests left).
      ⊎_elim (λ (t : IsThrough rests left). inl ([], subst (λ (ws : List KeyRows). Filled state start mid s job files [] ws given) (sym t.left_are) (rest_waits rests rests left rests_are t)))
      (λ (a : IsAtAFull rests left). inr a) (goes_on rests left fine h))
      at

-- ---- the next group

-- what stands when the next of the groups that are left is written, and when it is not
pub record IsNext {D : Type 0} (state : D → DiskState) (start mid : Core D) (s : State) (job : Option ℕ) (files : List FileGroup) (given : List Row) (Part : List Row → Type 0) (Then : Core D → List FileGroup → Type 0) (g : KeyRows) : Type 0 where
  pub groups : List Group
  pub mine : List Row
  pub has : HasWritten state start mid s job files groups
  pub are : AreRowsOf s.table.keys g.key g.rows mine
  pub written : (new : Core D) (more : List FileGroup) → HasWritten state start new s job more (groups ++ written_group mid.next_group g.key mine ∷ []) → new.next_group ≤ mid.next_group + 1 → Then new more
  pub refused : (new : Core D) (e : Refusal) → HasCause (IsPartRefusal mid job g.key g.rows) e → WroteTo state start new s new.next_group → new.next_group ≤ mid.next_group + 1
      → (e ≡ Device → HasFailed (state start.vault.disk) (state new.vault.disk)) → IsStopped state start new s Part given e

module _ {D : Type 0} (state : D → DiskState) (start mid : Core D) (s : State) (job : Option ℕ) (files : List FileGroup) (given : List Row) (g : KeyRows) (rests left : List KeyRows) where
  -- a full group, and then those that are left
  abbrev pub IsNextFull : Type 0
  IsNextFull = IsNext state start mid s job files given (IsWhole s) (λ new more. IsOnTheWay state start new s job more given rests left) g

  -- any group, and then those that are left
  abbrev pub IsNextAny : Type 0
  IsNextAny = IsNext state start mid s job files given IsAny (λ new more. IsAtTheRest state start new s job more given left ⊎ IsOnTheWay state start new s job more given rests left) g

  next_rest : IsAtTheRest state start mid s job files given (g ∷ left) → IsNextAny
  next_rest h =
      let f = h.1 in
      let r = rest_of state start mid s job files h.0 given g left f in
      record {
        groups = f.fulls ++ h.0;
        mine = r.loaded.mine;
        has = f.written;
        are = r.loaded.mine_are.are;
        written = λ new more has rises. inl (h.0 ++ written_group mid.next_group g.key r.loaded.mine ∷ [], rest_more state start mid s job files h.0 given new more g left f r has rises);
        refused = λ new e cause wrote rises failed. stops state start mid s job files given g.key [] g.rows left new IsAny f.fulls h.0 e f.written r.loaded f.each f.full r.others tt cause wrote rises failed;
      }

  next_full : IsAtAFull state start mid s job files given rests (g ∷ left) → IsNextFull
  next_full h =
      let f = h.filled in
      let l = h.loaded in
      let is : g ≡ buffer h.key h.held = let e = h.left_are in cc in
      let later : left ≡ filled_after s.table.keys s.options.group_rows (h.done ++ h.row ∷ []) h.later ++ rests = let e = h.left_are in cc in
      record {
        groups = f.fulls ++ [];
        mine = l.mine;
        has = f.written;
        are = subst (λ (b : KeyRows). AreRowsOf s.table.keys b.key b.rows l.mine) (sym is) l.mine_are.are;
        written = λ new more has rises. record {
          waiting = h.before ++ h.after;
          done = h.done ++ h.row ∷ [];
          later = h.later;
          are = h.are;
          filled = written_more state start mid s job files (h.done ++ h.row ∷ []) h.key h.before h.held h.after new more h.waiting h.done f l h.full
              (subst (λ (b : KeyRows). HasWritten state start new s job more ((f.fulls ++ []) ++ written_group mid.next_group b.key l.mine ∷ [])) is has) rises;
          follows = h.follows;
          left_are = later;
        };
        refused = λ new e cause wrote rises failed.
            subst (λ (rs : List Row). IsStopped state start new s (IsWhole s) rs e) h.are
            (stopped_before state start new s (h.done ++ h.row ∷ []) h.later e
            (stops state start mid s job files (h.done ++ h.row ∷ []) h.key h.before h.held h.after new (IsWhole s) f.fulls [] e f.written l f.each f.full tt (is_whole state start mid s job files given rests (g ∷ left) h)
            (subst (λ (b : KeyRows). HasCause (IsPartRefusal mid job b.key b.rows) e) is cause) wrote rises failed));
      }

  any_too : IsNextFull → IsNextAny
  any_too n = record {
    groups = n.groups;
    mine = n.mine;
    has = n.has;
    are = n.are;
    written = λ new more has rises. inr (n.written new more has rises);
    refused = λ new e cause wrote rises failed. stopped_anywhere state start new s given e (n.refused new e cause wrote rises failed);
  }

  pub next_of : AreRests s.table.keys s.options.group_rows given rests → AreFine s given → IsAtTheRest state start mid s job files given (g ∷ left) ⊎ IsOnTheWay state start mid s job files given rests (g ∷ left) → IsNextAny
  next_of rests_are fine at =
      ⊎_elim next_rest (λ (h : IsAtAFull state start mid s job files given rests (g ∷ left)). any_too (next_full h)) (ready state start mid s job files given rests (g ∷ left) rests_are fine at)

-- where the full groups alone are left, the next one is full
pub next_of_full : {D : Type 0} (state : D → DiskState) (start mid : Core D) (s : State) (job : Option ℕ) (files : List FileGroup) (given : List Row) (g : KeyRows) (left : List KeyRows) → AreFine s given
    → IsOnTheWay state start mid s job files given [] (g ∷ left) → IsNextFull state start mid s job files given g [] left
next_of_full state start mid s job files given g left fine way =
    ⊎_elim (λ (t : IsThrough state start mid s job files given [] (g ∷ left)). absurd (let e = t.left_are in cc))
    (λ (h : IsAtAFull state start mid s job files given [] (g ∷ left)). next_full state start mid s job files given g [] left h) (goes_on state start mid s job files given [] (g ∷ left) fine way)

-- where no group is left all rows are written
pub none_left : {D : Type 0} (state : D → DiskState) (start mid : Core D) (s : State) (job : Option ℕ) (files : List FileGroup) (given : List Row) (rests : List KeyRows) → AreRests s.table.keys s.options.group_rows given rests → AreFine s given
    → IsAtTheRest state start mid s job files given [] ⊎ IsOnTheWay state start mid s job files given rests [] → IsFilled state start mid s job files given
none_left state start mid s job files given rests rests_are fine at =
    ⊎_elim (λ (h : IsAtTheRest state start mid s job files given []). all_written state start mid s job files h.0 given h.1)
    (λ (h : IsAtAFull state start mid s job files given rests []). absurd (let e = h.left_are in cc)) (ready state start mid s job files given rests [] rests_are fine at)

-- where no full group is left all are written, and the rest waits
pub no_full_left : {D : Type 0} (state : D → DiskState) (start mid : Core D) (s : State) (job : Option ℕ) (files : List FileGroup) (given : List Row) → AreFine s given → IsOnTheWay state start mid s job files given [] []
    → (rests : List KeyRows) → AreRests s.table.keys s.options.group_rows given rests → Filled state start mid s job files [] rests given
no_full_left state start mid s job files given fine way rests rests_are =
    ⊎_elim (λ (t : IsThrough state start mid s job files given [] []). rest_waits state start mid s job files given [] rests [] rests_are t)
    (λ (h : IsAtAFull state start mid s job files given [] []). absurd (let e = h.left_are in cc)) (goes_on state start mid s job files given [] [] fine way)

-- ---- the buffers that hold them

-- the first of the buffers holds the first of the groups
pub record IsHeldNext (fs : Fields) (b : KeyBuffer) (bs : List KeyBuffer) (groups : List KeyRows) : Type 0 where
  pub group : KeyRows
  pub later : List KeyRows
  pub is : groups ≡ group ∷ later
  pub here : HoldsGroup fs b group
  pub others : Hold fs bs later

pub held_next : (fs : Fields) (b : KeyBuffer) (bs : List KeyBuffer) (groups : List KeyRows) → Hold fs (b ∷ bs) groups → IsHeldNext fs b bs groups
held_next fs b bs [] h = absurd h
held_next fs b bs (g ∷ gs) h = record { group = g; later = gs; is = refl; here = h.0; others = h.1 }

pub none_held : (fs : Fields) (groups : List KeyRows) → Hold fs [] groups → groups ≡ []
none_held fs [] h = refl
none_held fs (g ∷ gs) h = absurd h
