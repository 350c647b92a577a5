-- The sources of a rewrite, file by file, and the one that is read next.
use Rattle.std.proofs.Common.{◌≡◌, ◌≤◌, ℕ, zero, suc, Bool, List, [], ◌∷◌, ◌++◌, map, length, take, drop, Some, None, refl, sym, ◌∙◌, ap, subst, arith}
use Rattle.std.specs.Prelude.{is_some}
use Rattle.std.specs.List.{AllByRecursion, AllZip, slice_get}
use Rattle.std.specs.declared.vec.Vec.{Vec}
use Rattle.std.specs.declared.alloc.Global.{Global}
use Rattle.std.proofs.lemmas.List.{length-append}
use Rattle.lists.proofs.Lists.{all_append}
use Rattle.schema.specs.declared.row.Row.{Row as CodeRow}
use Rattle.schema.specs.Shape.{Fields}
use Rattle.schema.specs.Views.{rows_view}
use Rattle.schema.specs.Fronts.{padded}
use Rattle.schema.specs.Keys.{KeyColumn, AreKeys, without_keys}
use Rattle.disk.specs.State.{State as DiskState}
use Rattle.manifest.specs.Groups.{Group as FileGroup, Root, handles_view}
use Rattle.manifest.specs.Records.{IsGroup}
use Rattle.planning.specs.declared.change.Sources.{Sources}
use Rattle.snapshots.specs.State.{Pins}
use Rattle.table.specs.Table.{Row, Group, numbers}
use Rattle.table.specs.State.{sources}
use Rattle.table.specs.History.{TakesOne, is_left}
use Rattle.table_state.specs.declared.jobs.Rewriting.{Rewriting}
use Rattle.table_reads.specs.Counting.{IsHeld}
use Rattle.table_state.specs.Stands.{IsStored, AreStored, AreReadOf, ShowsRun, ShowsRewrite}
use Rattle.table_reads.specs.Stepping.{sources_in, source_in}
use Rattle.table_commits.proofs.AppendCommits.{stored_append}
use Rattle.table_reads.proofs.AfterEvents.{zip_more}
use Rattle.table_reads.proofs.WholeRows.{stored_fit, padded_same}

module _ (disk : DiskState) (keys : List KeyColumn) (schema : Fields) (count : ℕ) where
  -- the file at a place, and the group that is stored in it
  pub record AtPlace (p : ℕ) (f : FileGroup) (gs : List Group) : Type 0 where
    pub g : Group
    pub stored : IsStored disk keys schema count f g
    pub described : IsGroup keys (without_keys keys schema) f
    pub from : drop p gs ≡ g ∷ drop (suc p) gs
    pub upto : take (suc p) gs ≡ take p gs ++ g ∷ []
    pub low : suc p ≤ length gs

  at_place : (fs : List FileGroup) (gs : List Group) → AreStored disk keys schema count fs gs → AllByRecursion (IsGroup keys (without_keys keys schema)) fs → (p : ℕ) (f : FileGroup) → slice_get fs p ≡ Some f → AtPlace p f gs
  at_place [] gs z d p f e = absurd (cc)
  at_place (x ∷ fs) [] z d p f e = absurd z
  at_place (x ∷ fs) (g ∷ gs) z d zero f e =
      let same : x ≡ f = cc in
      record {
        g = g;
        stored = subst (λ (y : FileGroup). IsStored disk keys schema count y g) same z.0;
        described = subst (λ (y : FileGroup). IsGroup keys (without_keys keys schema) y) same d.0;
        from = refl;
        upto = refl;
        low = omega arith;
      }
  at_place (x ∷ fs) (g ∷ gs) z d (suc p) f e =
      let r = at_place fs gs z.1 d.1 p f e in
      record { g = r.g; stored = r.stored; described = r.described; from = r.from; upto = ap (λ (xs : List Group). g ∷ xs) r.upto; low = let l = r.low in omega (arith, l) }

  left_told : (fs : List FileGroup) (gs : List Group) → AreStored disk keys schema count fs gs → (p : ℕ) → is_left (numbers (drop p gs)) ≡ is_some (slice_get fs p)
  left_told [] [] z zero = refl
  left_told [] [] z (suc p) = refl
  left_told (f ∷ fs) (g ∷ gs) z zero = refl
  left_told (f ∷ fs) (g ∷ gs) z (suc p) = left_told fs gs z.1 p
  left_told [] (g ∷ gs) z p = absurd z
  left_told (f ∷ fs) [] z p = absurd z

  none_left : (fs : List FileGroup) (gs : List Group) → AreStored disk keys schema count fs gs → (p : ℕ) → slice_get fs p ≡ None → numbers (drop p gs) ≡ []
  none_left [] [] z zero e = refl
  none_left [] [] z (suc p) e = refl
  none_left (f ∷ fs) (g ∷ gs) z zero e = absurd (cc)
  none_left (f ∷ fs) (g ∷ gs) z (suc p) e = none_left fs gs z.1 p e
  none_left [] (g ∷ gs) z p e = absurd z
  none_left (f ∷ fs) [] z p e = absurd z

  module _ (size : ℕ) (had : ℕ → Bool) (pins : Pins) where
    pub all_stored : (shown : List Sources) (runs : List (List Group)) → AllZip (ShowsRun disk keys schema count size had pins) shown runs → AreStored disk keys schema count (sources_in shown) (sources runs)
    all_stored [] [] z = tt
    all_stored (x ∷ xs) (r ∷ rs) z = stored_append disk keys schema count (handles_view x.groups.items) (sources_in xs) r (sources rs) z.0.sources (all_stored xs rs z.1)
    all_stored [] (r ∷ rs) z = absurd z
    all_stored (x ∷ xs) [] z = absurd z

    pub all_described : (shown : List Sources) (runs : List (List Group)) → AllZip (ShowsRun disk keys schema count size had pins) shown runs → AllByRecursion (IsGroup keys (without_keys keys schema)) (sources_in shown)
    all_described [] [] z = tt
    all_described (x ∷ xs) (r ∷ rs) z = all_append (IsGroup keys (without_keys keys schema)) (handles_view x.groups.items) (sources_in xs) z.0.described (all_described xs rs z.1)
    all_described [] (r ∷ rs) z = absurd z
    all_described (x ∷ xs) [] z = absurd z

    -- ---- the next source of a rewrite

    module _ (r : Rewriting) (runs : List (List Group)) (unread : List ℕ) (is : ShowsRewrite disk keys schema count size had pins r runs unread) where
      abbrev pub place : ℕ
      place = length r.read.items

      stored : AreStored disk keys schema count (sources_in r.runs.items) (sources runs)
      stored = all_stored r.runs.items runs is.each

      pub next_there : (f : FileGroup) → source_in r.runs.items place ≡ Some f → AtPlace place f (sources runs)
      next_there f e = at_place (sources_in r.runs.items) (sources runs) stored (all_described r.runs.items runs is.each) place f e

      pub nothing_left : source_in r.runs.items place ≡ None → unread ≡ []
      nothing_left e = is.left ∙ none_left (sources_in r.runs.items) (sources runs) stored place e

      -- the same rewrite, whose lists lie elsewhere
      pub same_shown : (q : Rewriting) → q.runs ≡ r.runs → q.read.items ≡ r.read.items → ShowsRewrite disk keys schema count size had pins q runs unread
      same_shown q one two = record {
        each = subst (λ (v : Vec Sources Global). AllZip (ShowsRun disk keys schema count size had pins) v.items runs) (sym one) is.each;
        as_many = subst (λ (xs : List (Vec CodeRow Global)). length xs ≤ length (sources runs)) (sym two) is.as_many;
        read = subst (λ (xs : List (Vec CodeRow Global)). AllZip (AreReadOf disk keys schema count size had) xs (take (length xs) (sources runs))) (sym two) is.read;
        left = subst (λ (xs : List (Vec CodeRow Global)). unread ≡ numbers (drop (length xs) (sources runs))) (sym two) is.left;
        pinned = is.pinned;
      }

      -- ---- one source more is read

      module _ (f : FileGroup) (there : AtPlace place f (sources runs)) (are_keys : AreKeys keys schema) (rows : Vec CodeRow Global) (rows_are : rows_view rows.items ≡ there.g.rows) (q : Rewriting) (one : q.runs ≡ r.runs) (two : q.read.items ≡ r.read.items ++ rows ∷ []) where
        abbrev pub rest : List ℕ
        rest = numbers (drop (suc place) (sources runs))

        more : length (r.read.items ++ rows ∷ []) ≡ suc place
        more = let l = length-append r.read.items (rows ∷ []) in omega (arith, l)

        is_read : AreReadOf disk keys schema count size had rows there.g
        is_read = ap (λ (rs : List Row). map (padded schema) rs) rows_are ∙ padded_same schema there.g.rows (stored_fit disk keys schema count f there.g are_keys there.described there.stored)

        all_read : AllZip (AreReadOf disk keys schema count size had) (r.read.items ++ rows ∷ []) (take (suc place) (sources runs))
        all_read = subst (λ (gs : List Group). AllZip (AreReadOf disk keys schema count size had) (r.read.items ++ rows ∷ []) gs) (sym there.upto)
            (zip_more (AreReadOf disk keys schema count size had) r.read.items (take place (sources runs)) rows there.g is.read is_read)

        pub read_more : ShowsRewrite disk keys schema count size had pins q runs rest
        read_more = record {
          each = subst (λ (v : Vec Sources Global). AllZip (ShowsRun disk keys schema count size had pins) v.items runs) (sym one) is.each;
          as_many = subst (λ (xs : List (Vec CodeRow Global)). length xs ≤ length (sources runs)) (sym two) (subst (λ (m : ℕ). m ≤ length (sources runs)) (sym more) there.low);
          read = subst (λ (xs : List (Vec CodeRow Global)). AllZip (AreReadOf disk keys schema count size had) xs (take (length xs) (sources runs))) (sym two)
              (subst (λ (m : ℕ). AllZip (AreReadOf disk keys schema count size had) (r.read.items ++ rows ∷ []) (take m (sources runs))) (sym more) all_read);
          left = subst (λ (xs : List (Vec CodeRow Global)). rest ≡ numbers (drop (length xs) (sources runs))) (sym two) (ap (λ (m : ℕ). numbers (drop m (sources runs))) (sym more));
          pinned = is.pinned;
        }

        pub takes_one : TakesOne unread rest
        takes_one = subst (λ (ns : List ℕ). TakesOne ns rest) (sym (is.left ∙ ap numbers there.from)) ([], there.g.number, rest, refl, refl)

        -- whether there is a further one
        pub more_left : is_left rest ≡ is_some (source_in q.runs.items (length q.read.items))
        more_left = left_told (sources_in r.runs.items) (sources runs) stored (suc place)
            ∙ ap (λ (m : ℕ). is_some (source_in r.runs.items m)) (sym (ap length two ∙ more)) ∙ ap (λ (v : Vec Sources Global). is_some (source_in v.items (length q.read.items))) (sym one)

-- the group is held, with no filter
pub held_alone : (disk : DiskState) (root : Root) (count : ℕ) (f : FileGroup) (g : Group) → AreKeys root.keys root.schema → IsStored disk root.keys root.schema count f g → IsGroup root.keys (without_keys root.keys root.schema) f → IsHeld disk [] root f g
held_alone disk root count f g keyed stored described = record { over = ([], refl); keyed = keyed; count = count; stored = (stored, tt); described = (described, tt) }
