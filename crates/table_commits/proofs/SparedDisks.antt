-- What a call spares, from disk to disk.
use Rattle.std.proofs.Common.{◌≡◌, ◌≤◌, ◌<◌, ◌^◌, ℕ, List, refl, sym, ◌∙◌, subst, arith, ⊎_elim}
use Rattle.std.specs.Prelude.{Result}
use Rattle.bits.specs.declared.refusal.Refusal.{Refusal}
use Rattle.schema.specs.Keys.{KeyColumn}
use Rattle.disk.specs.Paths.{IsOnTheWay}
use Rattle.disk.specs.State.{State as DiskState}
use Rattle.vault.specs.Views.{Same, AllBut, LeavesAfter, IsKept, IsRooted, root_path, next_path}
use Rattle.vault.specs.Ways.{AreApart, IsOffTheRoots}
use Rattle.vault.specs.Calls.{LeavesAll, Puts, SwapsRoot, Forgets}
use Rattle.vault.proofs.Moments.{joins, widens, rooted_joins, clear_joins, stays_rooted_here, stays_clear_here}
use Rattle.vault.proofs.Names.{root_alone, next_alone, root_not_next}
use Rattle.partition.specs.Folders.{part_path_of}
use Rattle.table_state.specs.Paths.{IsPartPath, IsPartBelow, IsOlder, IsOffRoots, PathsAreApart}
use Rattle.table_state.specs.Spares.{Agrees, IsPlace, Spares, HasRoom}

module _ (keys : List KeyColumn) (Needed : List ℕ → Type 0) where
  pub spares_on : (old mid new : DiskState) → Spares keys Needed old mid → Spares keys Needed mid new → Spares keys Needed old new
  spares_on old mid new one two = record {
    moments = joins (Agrees Needed) (Agrees Needed) (Agrees Needed) old mid new (λ u v w a b path need. b path need ∙ a path need) (λ u v a. a) one.moments two.moments;
    seen = λ path need other. two.seen path need other ∙ one.seen path need other;
    rooted = λ r. rooted_joins (Agrees Needed) (Agrees Needed) old mid new one.moments two.moments (one.rooted r) two.rooted;
    clear = λ path place way. clear_joins (Agrees Needed) (Agrees Needed) old mid new path one.moments two.moments (one.clear path place way) (two.clear path place);
  }

  pub spares_here : (disk : DiskState) → Spares keys Needed disk disk
  spares_here disk = record {
    moments = record {
      later = omega arith;
      history = λ m c le at. at;
      keeps = λ m c le at. at;
      each = λ m c lo hi at.
          let is : m ≡ disk.moment = omega (arith, lo, hi) in
          (c, subst (λ (k : ℕ). disk.images k c) is at, λ path need. refl);
    };
    seen = λ path need other. refl;
    rooted = stays_rooted_here disk;
    clear = λ path place. stays_clear_here disk path;
  }

  module _ (old new : DiskState) (spared : Spares keys Needed old new) where
    pub kept_on : (path bytes : List ℕ) → Needed path → IsKept old path bytes → IsKept new path bytes
    kept_on path bytes need kept c may =
        let was = spared.moments.each new.moment c spared.moments.later (omega arith) may in
        was.2 path need ∙ kept was.0 was.1

    pub rooted_on : IsRooted old → IsRooted new
    rooted_on rooted = spared.rooted rooted new.moment spared.moments.later (omega arith)

    pub room_on : HasRoom keys old → HasRoom keys new
    room_on room path place c may = spared.clear path place (room path place) new.moment c spared.moments.later (omega arith) may

-- less is asked for
pub spares_less : (keys : List KeyColumn) (Needed Less : List ℕ → Type 0) → ((path : List ℕ) → Less path → Needed path) → (old new : DiskState) → Spares keys Needed old new → Spares keys Less old new
spares_less keys Needed Less fewer old new spared = record {
  moments = widens (Agrees Needed) (Agrees Less) old new (λ u v a path need. a path (fewer path need)) spared.moments;
  seen = λ path need other. spared.seen path (fewer path need) other;
  rooted = spared.rooted;
  clear = spared.clear;
}

-- ---- calls of the vault

-- the root's two names, and the way to them
abbrev pub off_root : IsOffTheRoots root_path
off_root = record { root = root_alone root_path; next = root_alone next_path }

abbrev pub off_next : IsOffTheRoots next_path
off_next = record { root = next_alone root_path; next = next_alone next_path }

module _ (keys : List KeyColumn) (apart : PathsAreApart) where
  off_part : (path : List ℕ) → IsPartPath keys path → IsOffRoots path
  off_part path part = subst (λ (q : List ℕ). IsOffRoots q) (sym part.is) (apart.off_roots keys part.key part.number part.can part.fits)

  pub part_ways : (path q : List ℕ) → IsPartPath keys path → IsPartPath keys q → IsOnTheWay path q → ⊥
  part_ways path q p r on =
      apart.ways keys p.key r.key p.number r.number p.can r.can p.fits r.fits
      (subst (λ (x : List ℕ). IsOnTheWay x (part_path_of keys r.key r.number)) p.is (subst (λ (x : List ℕ). IsOnTheWay path x) r.is on))

  pub apart_from_place : (path q : List ℕ) → IsPartPath keys path → IsPlace keys q → AreApart path q
  apart_from_place path q part place = ⊎_elim
      (λ root. subst (λ (x : List ℕ). AreApart path x) (sym root) (record { below = root_alone path; above = (off_part path part).root_way }))
      (λ rest. ⊎_elim
      (λ next. subst (λ (x : List ℕ). AreApart path x) (sym next) (record { below = next_alone path; above = (off_part path part).next_way }))
      (λ other. record { below = part_ways path q part other; above = part_ways q path other part })
      rest)
      place

  pub off_place : (q : List ℕ) → IsPlace keys q → IsOffTheRoots q
  off_place q place = ⊎_elim
      (λ root. subst (λ (x : List ℕ). IsOffTheRoots x) (sym root) off_root)
      (λ rest. ⊎_elim
      (λ next. subst (λ (x : List ℕ). IsOffTheRoots x) (sym next) off_next)
      (λ part. let off = off_part q part in record { root = off.root_way; next = off.next_way })
      rest)
      place

  -- a file is put at a path that is not needed
  pub put_spares : {T : Type 0} (Needed : List ℕ → Type 0) (path bytes : List ℕ) (old new : DiskState) (result : Result T Refusal) → IsPartPath keys path
      → ((q : List ℕ) → Needed q → q ≡ path → ⊥) → Puts path bytes old new result → Spares keys Needed old new
  put_spares Needed path bytes old new result part free puts = record {
    moments = widens (AllBut path) (Agrees Needed) old new (λ u v a q need. a q (free q need)) puts.moments;
    seen = λ q need other. puts.seen q (free q need);
    rooted = puts.rooted;
    clear = λ q place. puts.clear q (apart_from_place path q part place);
  }

  -- a path is let go that is not needed
  pub forget_spares : {T : Type 0} (Needed : List ℕ → Type 0) (path : List ℕ) (old new : DiskState) (result : Result T Refusal) → ((q : List ℕ) → Needed q → q ≡ path → ⊥)
      → Forgets path old new result → Spares keys Needed old new
  forget_spares Needed path old new result free forgets = record {
    moments = widens (AllBut path) (Agrees Needed) old new (λ u v a q need. a q (free q need)) forgets.moments;
    seen = λ q need other. forgets.seen q (free q need);
    rooted = forgets.rooted;
    clear = λ q place. forgets.clear q;
  }

  -- a call that only reads
  pub read_spares : (Needed : List ℕ → Type 0) (old new : DiskState) → LeavesAll old new → Spares keys Needed old new
  read_spares Needed old new left = record {
    moments = widens Same (Agrees Needed) old new (λ u v a q need. a q) left.moments;
    seen = λ q need other. left.seen q;
    rooted = left.rooted;
    clear = λ q place. left.clear q;
  }

  -- a swap that did not come to the rename
  pub swap_spares : {T : Type 0} (Needed : List ℕ → Type 0) (root : List ℕ) (old new : DiskState) (result : Result T Refusal) → ((q : List ℕ) → Needed q → q ≡ next_path → ⊥)
      → SwapsRoot root old new result → LeavesAfter (AllBut next_path) old new → Spares keys Needed old new
  swap_spares Needed root old new result free swaps left = record {
    moments = widens (AllBut next_path) (Agrees Needed) old new (λ u v a q need. a q (free q need)) left;
    seen = λ q need other. swaps.seen.others q other (free q need);
    rooted = swaps.rooted;
    clear = λ q place. swaps.clear q (off_place q place);
  }

  -- ---- older paths

  -- the root's path is one
  pub root_older : (count : ℕ) → IsOlder keys count root_path
  root_older count = record { not_next = root_not_next; not_later = λ part. absurd ((off_part root_path part).not_root refl) }

  -- so is that of a part file of a number below
  pub part_older : (count : ℕ) → count ≤ 2 ^ 64 → (q : List ℕ) → IsPartBelow keys count q → IsOlder keys count q
  part_older count small q low =
      let fits : low.number < 2 ^ 64 = let l = low.below in omega (arith, l, small) in
      record {
        not_next = λ is. (apart.off_roots keys low.key low.number low.can fits).not_next (sym low.is ∙ is);
        not_later = λ part.
            let same = apart.name_parts keys low.key part.key low.number part.number low.can.values part.can.values fits part.fits (sym low.is ∙ part.is) in
            let l = low.below in let e = same.1 in omega (arith, l, e);
      }

  -- what is older is none of a number that is not below
  pub older_not_part : (count : ℕ) (path : List ℕ) (part : IsPartPath keys path) → count ≤ part.number → (q : List ℕ) → IsOlder keys count q → q ≡ path → ⊥
  older_not_part count path part most q older is =
      let l = older.not_later (record { key = part.key; number = part.number; can = part.can; fits = part.fits; is = is ∙ part.is }) in
      absurd (omega (arith, l, most))

-- what is older than a number is older than a greater one
pub older_still : (keys : List KeyColumn) (count more : ℕ) → count ≤ more → (path : List ℕ) → IsOlder keys count path → IsOlder keys more path
older_still keys count more grows path older = record { not_next = older.not_next; not_later = λ part. let l = older.not_later part in omega (arith, l, grows) }
