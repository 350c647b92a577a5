-- How rows fill groups, from file to file.
use Rattle.std.proofs.Common.{◌≡◌, ◌≤◌, ◌<◌, ◌+◌, ◌*◌, ◌⊎◌, ℕ, suc, true, false, List, [], ◌∷◌, ◌++◌, map, length, take, drop, Option, refl, sym, ◌∙◌, ap, subst, arith, ⊎_elim, append_assoc}
use Rattle.std.specs.Prelude.{zero}
use Rattle.std.specs.List.{AllByRecursion}
use Rattle.std.proofs.lemmas.List.{append-nil, length-append}
use Rattle.lists.proofs.Lists.{all_append}
use Rattle.bits.specs.declared.refusal.Refusal.{Refusal}
use Rattle.bits.specs.declared.refusal.Refusal.TheVariants.{Limit, Device, Memory, NoJob, RowShape, Key as BadKey}
use Rattle.bits.specs.Refusals.{HasCause}
use Rattle.schema.specs.Shape.{Fields}
use Rattle.schema.specs.Fits.{RowsFit}
use Rattle.schema.specs.Keys.{KeyColumn, AreKeys, AreRowsOf, key_of_row, row_without_keys, without_keys}
use Rattle.disk.specs.State.{State as DiskState}
use Rattle.vault.specs.Calls.{HasFailed}
use Rattle.footer.specs.Writing.{IsOutOfRange, IsTooMuch, empty_groups}
use Rattle.footer.specs.declared.options.WriteOptions.{WriteOptions}
use Rattle.partition.specs.Folders.{CanPartition}
use Rattle.partition.specs.Splitting.{KeyRows}
use Rattle.manifest.specs.Groups.{Group as FileGroup, root_of}
use Rattle.manifest.specs.Root.{stored_of}
use Rattle.table.specs.Table.{Row, Key, Group, rows, IsGroupIn}
use Rattle.table.specs.InOrder.{in_order}
use Rattle.table.specs.State.{State}
use Rattle.table.specs.Limits.{IsFileTooMuch}
use Rattle.table_state.specs.declared.standing.Core.{Core}
use Rattle.table_commits.specs.Writing.{IsPartRefusal}
use Rattle.table_commits.specs.Acting.{WroteTo}
use Rattle.table_state.specs.Buffers.{buffer}
use Rattle.table_commits.specs.Filling.{HasWritten, written_group, IsBuffer, rows_waiting, IsFew, HasSize, Filled, WhyStopped, IsStopped, IsWhole, IsAny}
use Rattle.table_commits.proofs.KeyOrder.{lt, part_of, part_append, to_front, same_behind}
use Rattle.table_commits.proofs.GroupsByKey.{part_stays}
use Rattle.table_commits.proofs.RowsWithoutKeys.{stored_rows, stored_fit}
use Rattle.table_commits.proofs.WaitingRows.{rows_append, waiting_append, rising_with, joined, keyed_rows, below_waits}
use Rattle.table_commits.proofs.RowsOfOneKey.{IsLoaded, new_group_of}

-- ---- from file to file

-- a group that is rows of one key
pub group_in : (s : State) (n : ℕ) (k : Key) (held mine : List Row) → IsBuffer s.table.schema s.table.keys (buffer k held) (buffer k mine) → 1 ≤ length mine → IsGroupIn s.table.schema s.table.keys (written_group n k mine)
group_in s n k held mine b some = record { some = some; keyed = b.can; rows_in = b.rows_in }

pub some_rows_fit : (options : WriteOptions) → (IsOutOfRange options → ⊥) → 1 ≤ options.group_rows
some_rows_fit options fits = by options.group_rows refl
  where
    by : (n : ℕ) → options.group_rows ≡ n → 1 ≤ n
    by zero e = absurd (fits (empty_groups e))
    by (suc n) e = omega arith

module _ {D : Type 0} (state : D → DiskState) (start mid : Core D) (s : State) (job : Option ℕ) (files : List FileGroup) where
  pub size_some : (groups : List Group) → HasWritten state start mid s job files groups → 1 ≤ s.options.group_rows
  size_some groups has = subst (λ (o : WriteOptions). 1 ≤ o.group_rows) has.wrote.shows.options (some_rows_fit mid.options has.wrote.shows.in_range)

  pub keys_are : (groups : List Group) → HasWritten state start mid s job files groups → AreKeys s.table.keys s.table.schema
  keys_are groups has = has.wrote.shows.valid.keys

  -- nothing is given yet
  pub begins : HasWritten state start mid s job files [] → mid.next_group ≡ s.next_group → Filled state start mid s job files [] [] []
  begins has same = record {
    fulls = [];
    whole = [];
    written = has;
    each = tt;
    full = tt;
    up_to = tt;
    waits = tt;
    few = tt;
    rising = tt;
    all = refl;
    room = omega (arith, same);
  }

  module _ (given : List Row) (k : Key) (before : List KeyRows) (held : List Row) (after : List KeyRows) where
    same_length : (ks : List KeyColumn) (key : Key) (xs ys : List Row) → AreRowsOf ks key xs ys → length xs ≡ length ys
    same_length ks key [] [] h = refl
    same_length ks key (x ∷ xs) (y ∷ ys) h = ap suc (same_length ks key xs ys h.1)
    same_length ks key [] (y ∷ ys) h = absurd h
    same_length ks key (x ∷ xs) [] h = absurd h

    flat_length : (lows highs : List KeyRows) (mine : List Row) → length (rows_waiting lows ++ (mine ++ rows_waiting highs)) ≡ length (rows_waiting lows) + (length mine + length (rows_waiting highs))
    flat_length lows highs mine =
        let b = length-append (rows_waiting lows) (mine ++ rows_waiting highs) in
        let c = length-append mine (rows_waiting highs) in
        omega (arith, b, c)

    -- a row more waits
    pub waits_more : (waiting : List KeyRows) (earlier : List Row) (f : Filled state start mid s job files [] waiting earlier) → IsLoaded s mid.next_group (rows (f.fulls ++ [])) k before held after given
        → length held < s.options.group_rows → Filled state start mid s job files [] (before ++ buffer k held ∷ after) given
    waits_more waiting earlier f l few =
        let keys = s.table.keys in
        let schema = s.table.schema in
        let own = buffer k l.mine in
        let flat : rows_waiting (l.lows ++ own ∷ l.highs) ≡ rows_waiting l.lows ++ (l.mine ++ rows_waiting l.highs) = waiting_append l.lows (own ∷ l.highs) in
        let same = same_length keys k held l.mine l.mine_are.are in
        let a = ap length flat in
        let b = flat_length l.lows l.highs l.mine in
        record {
          fulls = f.fulls;
          whole = l.lows ++ own ∷ l.highs;
          written = f.written;
          each = f.each;
          full = f.full;
          up_to = tt;
          waits = joined schema keys before (buffer k held ∷ after) l.lows (own ∷ l.highs) l.low_are (l.mine_are, l.high_are);
          few = all_append (IsFew s.options.group_rows) l.lows (own ∷ l.highs) l.few_low ((l.some, omega (arith, same, few)), l.few_high);
          rising = rising_with l.lows l.highs own l.below l.above l.rising;
          all = ap (λ (ws : List Row). in_order (key_of_row keys) (rows (f.fulls ++ []) ++ ws)) flat ∙ l.all;
          room = let r = l.room in omega (arith, a, b, r);
        }

    -- the key's group is full, and is written
    pub written_more : (new : Core D) (more : List FileGroup) (waiting : List KeyRows) (earlier : List Row) (f : Filled state start mid s job files [] waiting earlier) (l : IsLoaded s mid.next_group (rows (f.fulls ++ [])) k before held after given)
        → s.options.group_rows ≤ length held → HasWritten state start new s job more ((f.fulls ++ []) ++ written_group mid.next_group k l.mine ∷ []) → new.next_group ≤ mid.next_group + 1
        → Filled state start new s job more [] (before ++ after) given
    written_more new more waiting earlier f l full has rises =
        let keys = s.table.keys in
        let schema = s.table.schema in
        let key = key_of_row keys in
        let g = written_group mid.next_group k l.mine in
        let same = same_length keys k held l.mine l.mine_are.are in
        let plain : f.fulls ++ [] ≡ f.fulls = append-nil f.fulls in
        let grown : (f.fulls ++ []) ++ g ∷ [] ≡ (f.fulls ++ g ∷ []) ++ [] = ap (λ (gs : List Group). gs ++ g ∷ []) plain ∙ sym (append-nil (f.fulls ++ g ∷ [])) in
        let rows_are : rows ((f.fulls ++ g ∷ []) ++ []) ≡ rows (f.fulls ++ []) ++ l.mine
        = ap rows (sym grown) ∙ rows_append (f.fulls ++ []) (g ∷ []) ∙ ap (λ (ws : List Row). rows (f.fulls ++ []) ++ ws) (append-nil l.mine) in
        let moved : in_order key (rows (f.fulls ++ []) ++ (l.mine ++ (rows_waiting l.lows ++ rows_waiting l.highs))) ≡ in_order key (rows (f.fulls ++ []) ++ (rows_waiting l.lows ++ (l.mine ++ rows_waiting l.highs)))
        = same_behind key (rows (f.fulls ++ [])) (l.mine ++ (rows_waiting l.lows ++ rows_waiting l.highs)) (rows_waiting l.lows ++ (l.mine ++ rows_waiting l.highs))
        (sym (to_front key k (rows_waiting l.lows) l.mine (rows_waiting l.highs) (below_waits schema keys k before l.lows l.low_are l.below) (keyed_rows schema keys k l.mine l.mine_are.rows_in))) in
        let flat = waiting_append l.lows l.highs in
        let a = ap length flat in
        let b = length-append (rows_waiting l.lows) (rows_waiting l.highs) in
        record {
          fulls = f.fulls ++ g ∷ [];
          whole = l.lows ++ l.highs;
          written = subst (λ (gs : List Group). HasWritten state start new s job more gs) grown has;
          each = subst (λ (gs : List Group). AllByRecursion (IsGroupIn schema keys) gs) grown (all_append (IsGroupIn schema keys) (f.fulls ++ []) (g ∷ []) f.each (group_in s mid.next_group k held l.mine l.mine_are l.some, tt));
          full = all_append (HasSize s.options.group_rows) f.fulls (g ∷ []) f.full (let m = l.most in omega (arith, same, m, full), tt);
          up_to = tt;
          waits = joined schema keys before after l.lows l.highs l.low_are l.high_are;
          few = all_append (IsFew s.options.group_rows) l.lows l.highs l.few_low l.few_high;
          rising = l.rising;
          all = ap (λ (ws : List Row). in_order key (ws ++ rows_waiting (l.lows ++ l.highs))) rows_are
              ∙ ap (λ (ws : List Row). in_order key ((rows (f.fulls ++ []) ++ l.mine) ++ ws)) flat
              ∙ ap (in_order key) (append_assoc (rows (f.fulls ++ [])) l.mine (rows_waiting l.lows ++ rows_waiting l.highs))
              ∙ moved ∙ l.all;
          room = let r = l.room in let m = l.some in omega (arith, a, b, r, m, rises);
        }

    -- its file is not written
    pub stops : (new : Core D) (Part : List Row → Type 0) (fulls rests : List Group) (e : Refusal) → HasWritten state start mid s job files (fulls ++ rests) → (l : IsLoaded s mid.next_group (rows (fulls ++ rests)) k before held after given)
        → AllByRecursion (IsGroupIn s.table.schema s.table.keys) (fulls ++ rests) → AllByRecursion (HasSize s.options.group_rows) fulls → AllByRecursion (λ (g : Group). lt g.key k ≡ true) rests → Part l.mine
        → HasCause (IsPartRefusal mid job k held) e → WroteTo state start new s new.next_group → new.next_group ≤ mid.next_group + 1 → (e ≡ Device → HasFailed (state start.vault.disk) (state new.vault.disk))
        → IsStopped state start new s Part given e
    stops new Part fulls rests e has l each full others part cause wrote rises failed = record {
      wrote = wrote;
      no_more = let r = l.room in let m = l.some in omega (arith, r, m, rises);
      why = why e cause failed;
    }
      where
        same_fields : stored_of (root_of mid.manifest) ≡ without_keys s.table.keys s.table.schema
        same_fields = ap (λ (ks : List KeyColumn). without_keys ks (root_of mid.manifest).schema) has.wrote.shows.keys ∙ ap (λ (fs : Fields). without_keys s.table.keys fs) has.wrote.shows.schema

        held_is : held ≡ map (row_without_keys s.table.keys) l.mine
        held_is = stored_rows s.table.keys k held l.mine l.mine_are.are

        too_much : IsOutOfRange mid.options ⊎ IsTooMuch (stored_of (root_of mid.manifest)) mid.options held → IsFileTooMuch s l.mine
        too_much h = ⊎_elim (λ out. absurd (has.wrote.shows.in_range out))
            (λ much. subst (λ (o : WriteOptions). IsTooMuch (without_keys s.table.keys s.table.schema) o (map (row_without_keys s.table.keys) l.mine)) has.wrote.shows.options
            (subst (λ (xs : List Row). IsTooMuch (without_keys s.table.keys s.table.schema) mid.options xs) held_is (subst (λ (fs : Fields). IsTooMuch fs mid.options held) same_fields much)))
            h

        fit : RowsFit (stored_of (root_of mid.manifest)) held
        fit = subst (λ (fs : Fields). RowsFit fs held) (sym same_fields) (subst (λ (xs : List Row). RowsFit (without_keys s.table.keys s.table.schema) xs) (sym held_is) (stored_fit s.table.keys s.table.schema k l.mine l.mine_are.rows_in))

        can : CanPartition (root_of mid.manifest).keys k
        can = subst (λ (ks : List KeyColumn). CanPartition ks k) (sym has.wrote.shows.keys) l.mine_are.can

        why : (f : Refusal) → HasCause (IsPartRefusal mid job k held) f → (f ≡ Device → HasFailed (state start.vault.disk) (state new.vault.disk)) → WhyStopped state start new s Part given f
        why Device c d = d refl
        why Limit c d = (l.mine, part, new_group_of s mid.next_group fulls rests k before held after given l each full others, too_much c)
        why Memory c d = tt
        why NoJob c d = let h : true ≡ false = sym has.job_open ∙ c in cc
        why RowShape c d = absurd (c fit)
        why BadKey c d = absurd (c can)
        why f c d = absurd c

-- ---- more is given

pub more_given : {D : Type 0} (state : D → DiskState) (start new : Core D) (s : State) (given more : List Row) (e : Refusal) → WhyStopped state start new s (IsWhole s) given e → WhyStopped state start new s (IsWhole s) (given ++ more) e
more_given state start new s given more Device h = h
more_given state start new s given more Limit h =
    let key = key_of_row s.table.keys in
    let size = s.options.group_rows in
    let k = h.2.0 in
    let i = h.2.1.0 in
    let long : length (take size (drop (i * size) (part_of key k given))) ≡ size = ap length (sym h.2.1.1) ∙ h.1 in
    let same = part_stays size (i * size) (part_of key k given) (part_of key k more) long in
    (h.0, h.1, (k, (i, h.2.1.1 ∙ sym same ∙ ap (λ (ws : List Row). take size (drop (i * size) ws)) (sym (part_append key k given more)), h.2.1.2)), h.3)
more_given state start new s given more Memory h = tt
more_given state start new s given more e h = absurd h

pub stopped_before : {D : Type 0} (state : D → DiskState) (start new : Core D) (s : State) (given more : List Row) (e : Refusal) → IsStopped state start new s (IsWhole s) given e → IsStopped state start new s (IsWhole s) (given ++ more) e
stopped_before state start new s given more e h = record {
  wrote = h.wrote;
  no_more = let n = h.no_more in let l = length-append given more in omega (arith, n, l);
  why = more_given state start new s given more e h.why;
}

pub any_part : {D : Type 0} (state : D → DiskState) (start new : Core D) (s : State) (given : List Row) (e : Refusal) → WhyStopped state start new s (IsWhole s) given e → WhyStopped state start new s IsAny given e
any_part state start new s given Device h = h
any_part state start new s given Limit h = (h.0, tt, h.2, h.3)
any_part state start new s given Memory h = tt
any_part state start new s given e h = absurd h

pub stopped_anywhere : {D : Type 0} (state : D → DiskState) (start new : Core D) (s : State) (given : List Row) (e : Refusal) → IsStopped state start new s (IsWhole s) given e → IsStopped state start new s IsAny given e
stopped_anywhere state start new s given e h = record { wrote = h.wrote; no_more = h.no_more; why = any_part state start new s given e h.why }
