-- The rest of the rows, key by key.
use Rattle.std.proofs.Common.{◌≡◌, ◌≤◌, ◌+◌, ℕ, true, List, [], ◌∷◌, ◌++◌, length, Option, refl, sym, ◌∙◌, ap, subst, arith, append_assoc}
use Rattle.std.specs.List.{AllByRecursion}
use Rattle.std.proofs.lemmas.List.{append-nil, length-append}
use Rattle.lists.proofs.Lists.{all_append, all_right as rest_of_all}
use Rattle.schema.specs.Keys.{key_of_row}
use Rattle.disk.specs.State.{State as DiskState}
use Rattle.partition.specs.Folders.{CanPartition}
use Rattle.partition.specs.Splitting.{KeyRows}
use Rattle.manifest.specs.Groups.{Group as FileGroup}
use Rattle.table.specs.Table.{Row, Key, Group, rows, IsGroupIn, IsRowIn}
use Rattle.table.specs.InOrder.{in_order}
use Rattle.table.specs.State.{State}
use Rattle.table_state.specs.declared.standing.Core.{Core}
use Rattle.table_state.specs.Buffers.{keys_in, IsRising}
use Rattle.table_commits.specs.Filling.{HasWritten, written_group, AreBuffers, rows_waiting, IsFew, HasUpTo, group_keys, Filled, IsFilled}
use Rattle.table_commits.proofs.KeyOrder.{lt}
use Rattle.table_commits.proofs.GroupsByKey.{all_full}
use Rattle.table_commits.proofs.WaitingRows.{rows_append, from_keys}
use Rattle.table_commits.proofs.RowsOfOneKey.{IsLoaded}
use Rattle.table_commits.proofs.RowsFillGroups.{group_in, size_some}

-- ---- the rest

pub rising_later : (ks ls : List Key) → IsRising (ks ++ ls) → IsRising ls
rising_later [] ls o = o
rising_later (k ∷ ks) ls o = rising_later ks ls o.1

pub rising_before : (gs : List Group) (k : Key) (ls : List Key) → IsRising (group_keys gs ++ k ∷ ls) → AllByRecursion (λ (g : Group). lt g.key k ≡ true) gs
rising_before [] k ls o = tt
rising_before (g ∷ gs) k ls o = ((rest_of_all (λ (j : Key). lt g.key j ≡ true) (group_keys gs) (k ∷ ls) o.0).0, rising_before gs k ls o.1)

pub keys_shift : (gs : List Group) (g : Group) (ls : List Key) → group_keys (gs ++ g ∷ []) ++ ls ≡ group_keys gs ++ g.key ∷ ls
keys_shift [] g ls = refl
keys_shift (h ∷ gs) g ls = ap (λ (ks : List Key). h.key ∷ ks) (keys_shift gs g ls)

-- the rows that come first wait behind nothing
pub record IsRest (s : State) (count : ℕ) (written : List Row) (rests : List Group) (w : KeyRows) (ws : List KeyRows) (given : List Row) : Type 0 where
  pub loaded : IsLoaded s count written w.key [] w.rows ws given
  pub none : loaded.lows ≡ []
  pub others : AllByRecursion (λ (g : Group). lt g.key w.key ≡ true) rests
  pub rising : IsRising (group_keys rests ++ w.key ∷ keys_in loaded.highs)

module _ {D : Type 0} (state : D → DiskState) (start mid : Core D) (s : State) (job : Option ℕ) (files : List FileGroup) (rests : List Group) (given : List Row) where
  pub rest_of : (w : KeyRows) (ws : List KeyRows) (f : Filled state start mid s job files rests (w ∷ ws) given) → IsRest s mid.next_group (rows (f.fulls ++ rests)) rests w ws given
  rest_of w ws f = by f.whole f.waits f.few f.rising f.all f.room
    where
      by : (vs : List KeyRows) → AreBuffers s.table.schema s.table.keys (w ∷ ws) vs → AllByRecursion (IsFew s.options.group_rows) vs → IsRising (group_keys rests ++ keys_in vs)
          → in_order (key_of_row s.table.keys) (rows (f.fulls ++ rests) ++ rows_waiting vs) ≡ in_order (key_of_row s.table.keys) given → mid.next_group + length (rows_waiting vs) ≤ s.next_group + length given
          → IsRest s mid.next_group (rows (f.fulls ++ rests)) rests w ws given
      by [] z few rising all room = absurd z
      by (v ∷ vs) z few rising all room =
          let same = z.0.key_is in
          let ups = subst (λ (k : Key). IsRising (group_keys rests ++ k ∷ keys_in vs)) same rising in
          let later = rising_later (group_keys rests) (w.key ∷ keys_in vs) ups in
          let long = length-append v.rows (rows_waiting vs) in
          record {
            loaded = record {
              lows = [];
              mine = v.rows;
              highs = vs;
              low_are = tt;
              mine_are = record {
                key_is = refl;
                can = subst (λ (k : Key). CanPartition s.table.keys k) same z.0.can;
                are = z.0.are;
                rows_in = subst (λ (k : Key). AllByRecursion (IsRowIn s.table.schema s.table.keys k) v.rows) same z.0.rows_in;
              };
              high_are = z.1;
              below = tt;
              above = from_keys (λ (k : Key). lt w.key k ≡ true) vs later.0;
              rising = later.1;
              few_low = tt;
              few_high = few.1;
              some = few.0.0;
              most = let a = few.0.1 in omega (arith, a);
              all = all;
              room = omega (arith, long, room);
            };
            none = refl;
            others = rising_before rests w.key (keys_in vs) ups;
            rising = ups;
          }

  pub rest_more : (new : Core D) (more : List FileGroup) (w : KeyRows) (ws : List KeyRows) (f : Filled state start mid s job files rests (w ∷ ws) given) (r : IsRest s mid.next_group (rows (f.fulls ++ rests)) rests w ws given)
      → HasWritten state start new s job more ((f.fulls ++ rests) ++ written_group mid.next_group w.key r.loaded.mine ∷ []) → new.next_group ≤ mid.next_group + 1
      → Filled state start new s job more (rests ++ written_group mid.next_group w.key r.loaded.mine ∷ []) ws given
  rest_more new more w ws f r has rises =
      let l = r.loaded in
      let keys = s.table.keys in
      let schema = s.table.schema in
      let key = key_of_row keys in
      let g = written_group mid.next_group w.key l.mine in
      let grown : (f.fulls ++ rests) ++ g ∷ [] ≡ f.fulls ++ (rests ++ g ∷ []) = append_assoc f.fulls rests (g ∷ []) in
      let rows_are : rows (f.fulls ++ (rests ++ g ∷ [])) ≡ rows (f.fulls ++ rests) ++ l.mine
      = ap rows (sym grown) ∙ rows_append (f.fulls ++ rests) (g ∷ []) ∙ ap (λ (ws : List Row). rows (f.fulls ++ rests) ++ ws) (append-nil l.mine) in
      record {
        fulls = f.fulls;
        whole = l.highs;
        written = subst (λ (gs : List Group). HasWritten state start new s job more gs) grown has;
        each = subst (λ (gs : List Group). AllByRecursion (IsGroupIn schema keys) gs) grown (all_append (IsGroupIn schema keys) (f.fulls ++ rests) (g ∷ []) f.each (group_in s mid.next_group w.key w.rows l.mine l.mine_are l.some, tt));
        full = f.full;
        up_to = all_append (HasUpTo s.options.group_rows) rests (g ∷ []) f.up_to ((l.some, l.most), tt);
        waits = l.high_are;
        few = l.few_high;
        rising = subst (λ (ks : List Key). IsRising ks) (sym (keys_shift rests g (keys_in l.highs))) r.rising;
        all = ap (λ (ws : List Row). in_order key (ws ++ rows_waiting l.highs)) rows_are ∙ ap (in_order key) (append_assoc (rows (f.fulls ++ rests)) l.mine (rows_waiting l.highs))
            ∙ ap (λ (lows : List KeyRows). in_order key (rows (f.fulls ++ rests) ++ (rows_waiting lows ++ (l.mine ++ rows_waiting l.highs)))) (sym r.none) ∙ l.all;
        room = let a = l.room in let m = l.some in omega (arith, a, m, rises);
      }

  pub all_written : Filled state start mid s job files rests [] given → IsFilled state start mid s job files given
  all_written f = by f.whole f.waits f.rising f.all f.room
    where
      by : (vs : List KeyRows) → AreBuffers s.table.schema s.table.keys [] vs → IsRising (group_keys rests ++ keys_in vs)
          → in_order (key_of_row s.table.keys) (rows (f.fulls ++ rests) ++ rows_waiting vs) ≡ in_order (key_of_row s.table.keys) given → mid.next_group + length (rows_waiting vs) ≤ s.next_group + length given
          → IsFilled state start mid s job files given
      by [] z rising all room = record {
        groups = f.fulls ++ rests;
        written = f.written;
        each = f.each;
        hold = ap (in_order (key_of_row s.table.keys)) (sym (append-nil (rows (f.fulls ++ rests)))) ∙ all;
        full = all_full s.options.group_rows (size_some state start mid s job files (f.fulls ++ rests) f.written) f.fulls rests f.full (subst (λ (ks : List Key). IsRising ks) (append-nil (group_keys rests)) rising) f.up_to;
        fulls = f.fulls;
        rests = rests;
        parts = refl;
        sized = f.full;
        up_to = f.up_to;
        rising = subst (λ (ks : List Key). IsRising ks) (append-nil (group_keys rests)) rising;
        no_more = omega (arith, room);
      }
      by (v ∷ vs) z rising all room = absurd z
