-- What the steps of writing a file make of the disk.
use Rattle.std.proofs.Common.{◌≡◌, ◌≢◌, ◌⊎◌, ℕ, List, [], ◌++◌, length, Some, ⊎_elim, refl, sym, ◌∙◌, ap, subst, arith, Result, Ok, Err}
use Rattle.std.specs.Prelude.{IfErr, IsErrOf}
use Rattle.std.proofs.lemmas.Result.{on_ok_weaker, IfOk-at_ok}
use Rattle.std.proofs.lemmas.List.{length-take-le}
use Rattle.disk.proofs.Texts.{folder-on_the_way, further-on_the_way}
use Rattle.disk.specs.Paths.{folder_of, IsOnTheWay}
use Rattle.disk.specs.State.{Image, State, IsLawful, held, may_leave}
use Rattle.disk.specs.declared.binding.Binding.TheVariants.{Nothing, Folder, File}
use Rattle.disk.specs.declared.fault.Fault.{Fault}
use Rattle.disk.specs.declared.fault.Fault.TheVariants.{Absent, Exists, Failed}
use Rattle.disk.specs.Calls.{Passes, Binds, Tears, IsStill, Takes, Removed, FolderMade, Created, Appended, Synced, FolderSynced}
use Rattle.vault.specs.Views.{LeavesAfter, Same, AllBut, root_path}
use Rattle.vault.specs.Ways.{IsOpenWay, LeavesClear, LeavesWays}
use Rattle.vault.specs.inner.Files.{Spares, LeavesBelow, NoNewFiles, IsHoused, FailsOnly, Cleared, FoldersMade, Written, MadeFirm, Placed}
use Rattle.vault.proofs.Moments.{rooted_joins, stays_rooted_here, clear_joins, stays_clear_here, one_call, joins, widens, nothing_yet, stays_may, still_on, same_same, same_twice}
use Rattle.vault.proofs.Steps.{binds_spares, tears_spares, stays_spares, spares_on, clear_spared, clear_on, stays_clear, binds_nothing_clear, binds_file_clear, binds_folder_clear, tears_clear, folder_same, rooted_on, folder_is_no_file, nothing_is_no_folder, nothing_is_no_file}
use Rattle.vault.proofs.Answering.{fails_only, never, failed_only, fails_by_failure}

-- A name that is taken away.

takes_no_files : (path : List ℕ) (old new : State) → Passes (Binds path Nothing) old new → NoNewFiles old new
takes_no_files path old new time c may q n is =
    let was = time.follows c may in
    (was.0, was.1, ⊎_elim (λ same. sym same ∙ is) (λ m. absurd (nothing_is_no_file n (sym m.1 ∙ is))) (was.2.names q))

takes_clear : (path : List ℕ) (old new : State) → Passes (Binds path Nothing) old new → LeavesWays old new
takes_clear path old new time q = clear_on (Binds path Nothing) old new q time (binds_nothing_clear path q)

pub cleared : {T : Type 0} (path : List ℕ) (old new : State) (r : Result T Fault) → path ≢ root_path → (IsErrOf r Absent → ⊥) → Removed path old new r → Cleared path old new r
cleared path old new r not_root there removed = record {
  spares = binds_spares path Nothing old new not_root removed.takes.passes removed.takes.seen;
  clear = takes_clear path old new removed.takes.passes;
  files = takes_no_files path old new removed.takes.passes;
  fails = λ no_folder. fails_only r there (λ e. no_folder (removed.exists e));
  gone = on_ok_weaker r (λ done. done.2) removed.done;
  others = λ q ne. ⊎_elim (λ same. same) (λ m. absurd (ne m.0)) (removed.takes.seen.names q);
}

pub cleared_already : {S : Type 0} (path : List ℕ) (old new : State) (r : Result S Fault) → path ≢ root_path → IsErrOf r Absent → Removed path old new r → Cleared {T = Unit {0}} path old new (Ok tt)
cleared_already path old new r not_root is removed = record {
  spares = binds_spares path Nothing old new not_root removed.takes.passes removed.takes.seen;
  clear = takes_clear path old new removed.takes.passes;
  files = takes_no_files path old new removed.takes.passes;
  fails = λ _. tt;
  gone = ⊎_elim (λ same. same ∙ removed.absent is) (λ m. m.1) (removed.takes.seen.names path);
  others = λ q ne. ⊎_elim (λ same. same) (λ m. absurd (ne m.0)) (removed.takes.seen.names q);
}

-- Folders.

pub folders_none : (path : List ℕ) (state : State) → IsLawful state → state.honest → folder_of path ≡ [] → FoldersMade {T = Unit {0}} path state state (Ok tt)
folders_none path state lawful honest top = record {
  moments = nothing_yet Same state same_same;
  seen = same_same _;
  rooted = stays_rooted_here state;
  clear = λ q off. stays_clear_here state q;
  files = λ c may q n is. (c, may, is);
  fails = tt;
  housed = ap state.seen.names top ∙ (lawful.whole honest state.moment state.seen (lawful.seen_may_stay honest)).top;
  others = λ q off. refl;
}

pub open_above : (path folder : List ℕ) (state : State) → folder ≡ folder_of path → IsOpenWay state path → IsOpenWay state folder
open_above path folder state is clear c may f on n = clear c may f (further-on_the_way f path (subst (λ (g : List ℕ). IsOnTheWay f g) is on)) n

-- the folders on the way to a folder of this path
pub folders_refused : (path folder : List ℕ) (old new : State) (e : Fault) → folder ≡ folder_of path → FoldersMade {T = Unit {0}} folder old new (Err e) → FoldersMade {T = Unit {0}} path old new (Err e)
folders_refused path folder old new e is made = record {
  moments = made.moments;
  seen = made.seen;
  rooted = made.rooted;
  clear = λ q off. made.clear q (λ on. off (further_on path folder q is on));
  files = made.files;
  fails = made.fails;
  housed = tt;
  others = λ q off. made.others q (λ on. off (further_on path folder q is on));
}
  where
    further_on : (path folder q : List ℕ) → folder ≡ folder_of path → IsOnTheWay q folder → IsOnTheWay q path
    further_on path folder q is on = further-on_the_way q path (subst (λ (f : List ℕ). IsOnTheWay q f) is on)

module _ (path folder : List ℕ) (old mid new : State) (r : Result (Unit {0}) Fault) (lawful : IsLawful mid) (honest : mid.honest)
    (is : folder ≡ folder_of path) (some : folder ≢ []) (clear : IsOpenWay old path)
    (made : FoldersMade {T = Unit {0}} folder old mid (Ok tt)) (one : FolderMade folder mid new r) where
  on : IsOnTheWay folder path
  on = let P : List ℕ → Type 0 = λ f. IsOnTheWay f path in subst P (sym is) (folder-on_the_way path (λ e. some (is ∙ e)))

  further : (q : List ℕ) → IsOnTheWay q folder → IsOnTheWay q path
  further q o = further-on_the_way q path (subst (λ (f : List ℕ). IsOnTheWay q f) is o)

  no_file : (d : Image) → may_leave mid d → (n : ℕ) → d.names folder ≢ File n
  no_file d may n named = let was = made.files d may folder n named in clear was.0 was.1 folder on n was.2

  reads : may_leave mid mid.seen
  reads = lawful.seen_may_stay honest

  call : LeavesAfter Same mid new
  call = one_call Same (Binds folder Folder) mid new same_same (λ d c may bound. folder_same folder d c (no_file d may) bound) one.takes.passes

  on_if : (q : List ℕ) → q ≡ folder → IsOnTheWay q path
  on_if q e = let P : List ℕ → Type 0 = λ f. IsOnTheWay f path in subst P (sym e) on

  pub folders_more : FoldersMade path old new r
  folders_more = record {
    moments = joins Same Same Same old mid new same_twice (λ u v same. same) made.moments call;
    seen = same_twice _ _ _ made.seen (folder_same folder mid.seen new.seen (no_file mid.seen reads) one.takes.seen);
    clear = λ q off had. clear_joins Same Same old mid new q made.moments call (made.clear q (λ o. off (further q o)) had)
        (clear_on (Binds folder Folder) mid new q one.takes.passes (binds_folder_clear folder q (λ e. off (on_if q e))));
    rooted = λ rooted. rooted_joins Same Same old mid new made.moments call (made.rooted rooted) (rooted_on (Binds folder Folder) mid new one.takes.passes
        (λ d c may bound n named. ⊎_elim (λ same. sym same ∙ named) (λ m. absurd (folder_is_no_file n (sym m.1 ∙ named))) (bound.names root_path))
        (λ b d c n may_b named may_d bound. bound.nodes n));
    files = λ c may q n named.
        let was = one.takes.passes.follows c may in
        made.files was.0 was.1 q n (⊎_elim (λ same. sym same ∙ named) (λ m. absurd (folder_is_no_file n (sym m.1 ∙ named))) (was.2.names q));
    fails = fails_only r (λ e. one.absent e made.housed) (λ e. let there = one.exists e in no_file mid.seen reads there.0 there.1);
    housed = on_ok_weaker r (λ done. ap new.seen.names (sym is) ∙ done) one.done;
    others = λ q off. ⊎_elim
        (λ same. same)
        (λ m. absurd (off (on_if q m.0)))
        (one.takes.seen.names q) ∙ made.others q (λ o. off (further q o));
  }

-- A file of its own node.

file_one : (m n : ℕ) → File m ≡ File n → m ≡ n
file_one m n e = cc

module _ (path bytes : List ℕ) (s0 s1 : State) (r1 : Result (Unit {0}) Fault) (not_root : path ≢ root_path)
    (lawful0 : IsLawful s0) (honest0 : s0.honest) (gone : s0.seen.names path ≡ Nothing) (housed : IsHoused s0 path) (created : Created path s0 s1 r1) where
  begun : Spares path s0 s1
  begun = binds_spares path (File created.node) s0 s1 not_root created.takes.passes created.takes.seen

  begun_clear : LeavesBelow path s0 s1
  begun_clear q off = clear_on (Binds path (File created.node)) s0 s1 q created.takes.passes (binds_file_clear path q created.node off)

  pub create_fails : FailsOnly r1
  create_fails = fails_only r1 (λ e. created.absent e housed) (λ e. created.exists e gone)

  pub create_refused : (e : Fault) → FailsOnly {T = Unit {0}} (Err e) → Written {T = Unit {0}} path bytes s0 s1 (Err e)
  create_refused e fails = record { spares = begun; clear = begun_clear; fails = fails; written = tt }

  module _ (s2 : State) (r2 : Result (Unit {0}) Fault) (lawful1 : IsLawful s1) (honest1 : s1.honest) (named : s1.seen.names path ≡ File created.node)
      (appended : Appended path bytes s1 s2 r2) where
    torn : Takes (Tears created.node (length (s1.seen.bytes created.node)) (length bytes)) s1 s2 r2
    torn = appended.takes created.node named

    alone : (d : Image) → may_leave s1 d → (q : List ℕ) → q ≢ path → d.names q ≢ File created.node
    alone d may q ne is =
        let was = created.takes.passes.follows d may in
        ⊎_elim (λ same. created.fresh.unnamed was.0 was.1 q (sym same ∙ is)) (λ m. ne m.0) (was.2.names q)

    filling : Spares path s1 s2
    filling = tears_spares path created.node _ _ s1 s2 not_root alone (lawful1.seen_may_stay honest1) torn.passes torn.seen

    filled : Spares path s0 s2
    filled = spares_on path s0 s1 s2 begun filling

    filled_clear : LeavesBelow path s0 s2
    filled_clear q off had = clear_spared path s0 s1 s2 begun filling q (begun_clear q off had)
        (clear_on (Tears created.node (length (s1.seen.bytes created.node)) (length bytes)) s1 s2 q torn.passes (tears_clear created.node _ _ q))

    pub append_refused : (e : Fault) → r2 ≡ Err e → IfErr r2 (λ f. f ≢ Exists) → Written {T = Unit {0}} path bytes s0 s2 (Err e)
    append_refused e is which = record {
      spares = filled;
      clear = filled_clear;
      fails = let P : Result (Unit {0}) Fault → Type 0 = λ r. FailsOnly r in subst P is (fails_only r2 (λ a. appended.absent a created.node named) (never r2 Exists which));
      written = tt;
    }

    module _ (s3 : State) (r3 : Result (Unit {0}) Fault) (ok : r2 ≡ Ok tt) (which : IfErr r3 (λ f. f ≢ Exists)) (synced : Synced path s2 s3 r3) where
      still_named : s2.seen.names path ≡ File created.node
      still_named = torn.seen.names path ∙ named

      housed1 : s1.seen.names (folder_of path) ≡ Folder
      housed1 = ⊎_elim (λ same. same ∙ housed) (λ m. absurd (nothing_is_no_folder (sym gone ∙ ap s0.seen.names (sym m.0) ∙ housed))) (created.takes.seen.names (folder_of path))

      empty : s1.seen.bytes created.node ≡ []
      empty = created.takes.seen.nodes created.node ∙ created.fresh.empty s0.seen (lawful0.seen_may_stay honest0)

      full : s2.seen.bytes created.node ≡ bytes
      full =
          let done = IfOk-at_ok (λ _. (n : ℕ) × (s1.seen.names path ≡ File n) × (s2.seen.bytes n ≡ s1.seen.bytes n ++ bytes)) ok appended.done in
          let one : done.0 ≡ created.node = file_one done.0 created.node (sym done.1 ∙ named) in
          ap s2.seen.bytes (sym one) ∙ done.2 ∙ ap (λ (n : ℕ). s1.seen.bytes n ++ bytes) one ∙ ap (λ (l : List ℕ). l ++ bytes) empty

      pub written_file : Written path bytes s0 s3 r3
      written_file = record {
        spares = spares_on path s0 s2 s3 filled (stays_spares path s2 s3 synced.takes.passes synced.takes.seen);
        clear = λ q off had. clear_spared path s0 s2 s3 filled (stays_spares path s2 s3 synced.takes.passes synced.takes.seen) q (filled_clear q off had)
            (stays_clear s2 s3 synced.takes.passes q);
        fails = fails_only r3 (λ a. synced.absent a created.node still_named) (never r3 Exists which);
        written = on_ok_weaker r3 (λ done.
            let one : done.0 ≡ created.node = file_one done.0 created.node (sym done.1 ∙ still_named) in
            let sure = λ (is : s2.doubted done.0). created.fresh.sure (subst s0.doubted one (created.sure done.0 (appended.sure done.0 is))) in (
              record {
                node = created.node;
                seen = ap (λ (i : Image). i.names path) synced.takes.seen ∙ still_named;
                holds = λ c may. ap c.bytes (sym one) ∙ done.2 sure c may ∙ ap s2.seen.bytes one ∙ full;
              },
              ap (λ (i : Image). i.names (folder_of path)) synced.takes.seen ∙ torn.seen.names (folder_of path) ∙ housed1,
            )) synced.done;
      }

-- Names made firm upwards.

synced_still : {T : Type 0} (folder : List ℕ) (old new : State) (r : Result T Fault) → FolderSynced folder old new r → IsStill old new
synced_still folder old new r synced = record { passes = synced.takes.passes; seen = synced.takes.seen; sure = synced.sure }

module _ (path folder : List ℕ) (s0 s1 : State) (r1 : Result (Unit {0}) Fault) (is : folder ≡ folder_of path) (housed : IsHoused s0 path)
    (which : IfErr r1 (λ e. (e ≡ Absent) ⊎ (e ≡ Failed))) (synced : FolderSynced folder s0 s1 r1) where
  there : s0.seen.names folder ≡ Folder
  there = ap s0.seen.names is ∙ housed

  step : IsStill s0 s1
  step = synced_still folder s0 s1 r1 synced

  pub firm_refused : (e : Fault) → r1 ≡ Err e → MadeFirm {T = Unit {0}} path s0 s1 (Err e)
  firm_refused e err = record {
    still = step;
    fails = let P : Result (Unit {0}) Fault → Type 0 = λ r. FailsOnly r in subst P err (fails_by_failure r1 (failed_only r1 which (λ a. synced.absent a there)));
    firm = tt;
  }

  module _ (ok : r1 ≡ Ok tt) where
    firm_there : (c : Image) → may_leave s1 c → c.names folder ≡ Folder → c.names path ≡ s0.seen.names path
    firm_there c may at = (IfOk-at_ok (λ _. (s0.seen.names folder ≡ Folder) × ((c : Image) → may_leave s1 c → c.names folder ≡ Folder → (q : List ℕ) → folder_of q ≡ folder → c.names q ≡ s0.seen.names q)) ok synced.done).1 c may at path (sym is)

    pub firm_top : IsLawful s1 → s1.honest → folder ≡ [] → MadeFirm {T = Unit {0}} path s0 s1 (Ok tt)
    firm_top lawful honest top = record {
      still = step;
      fails = tt;
      firm = λ c may. firm_there c may (ap c.names top ∙ (lawful.whole honest s1.moment c may).top);
    }

    pub firm_housed : IsLawful s1 → s1.honest → IsHoused s1 folder
    firm_housed lawful honest =
        let at : s1.seen.names folder ≡ Folder = ap (λ (i : Image). i.names folder) step.seen ∙ there in
        (lawful.whole honest s1.moment s1.seen (lawful.seen_may_stay honest)).below folder (λ none. nothing_is_no_folder (sym none ∙ at))

    pub firm_more : (s2 : State) (r2 : Result (Unit {0}) Fault) → MadeFirm folder s1 s2 r2 → MadeFirm path s0 s2 r2
    firm_more s2 r2 above = record {
      still = still_on s0 s1 s2 step above.still;
      fails = above.fails;
      firm = on_ok_weaker r2 (λ firm c may.
          firm_there c (stays_may s1 s2 above.still.passes c may) (firm c may ∙ ap (λ (i : Image). i.names folder) step.seen ∙ there)) above.firm;
    }

-- The whole.

stays_open : (path : List ℕ) (old new : State) → NoNewFiles old new → IsOpenWay old path → IsOpenWay new path
stays_open path old new files way c may f on n is = let was = files c may f n is in way was.0 was.1 f on n was.2

pub not_on_its_way : (path : List ℕ) → IsOnTheWay path path → ⊥
not_on_its_way path on =
    let long : length path ≡ on.0 = ap length on.3 ∙ length-take-le on.0 path (omega (arith, on.1)) in
    omega (arith, long, on.1)

folders_spare : (path : List ℕ) (old new : State) (r : Result (Unit {0}) Fault) → FoldersMade path old new r → Spares path old new
folders_spare path old new r made = record {
  moments = widens Same (AllBut path) old new (λ u v same q ne. same q) made.moments;
  seen = λ q ne. made.seen q;
  rooted = made.rooted;
}

pub clear_refused : (path bytes : List ℕ) (s0 s1 : State) (e : Fault) → Cleared {T = Unit {0}} path s0 s1 (Err e) → Placed {T = Unit {0}} path bytes s0 s1 (Err e)
clear_refused path bytes s0 s1 e cleared = record { spares = cleared.spares; clear = λ q apart. cleared.clear q; fails = cleared.fails; written = tt; kept = tt }

module _ (path bytes : List ℕ) (s0 s1 : State) (cleared : Cleared {T = Unit {0}} path s0 s1 (Ok tt)) where
  pub still_open : IsOpenWay s0 path → IsOpenWay s1 path
  still_open = stays_open path s0 s1 cleared.files

  made_spares : (s2 : State) (r : Result (Unit {0}) Fault) → FoldersMade path s1 s2 r → Spares path s0 s2
  made_spares s2 r made = spares_on path s0 s1 s2 cleared.spares (folders_spare path s1 s2 r made)

  made_clear : (s2 : State) (r : Result (Unit {0}) Fault) → FoldersMade path s1 s2 r → LeavesClear path s0 s2
  made_clear s2 r made q apart had = clear_spared path s0 s1 s2 cleared.spares (folders_spare path s1 s2 r made) q (cleared.clear q had) (made.clear q apart.above)

  pub make_refused : (s2 : State) (e : Fault) → FoldersMade {T = Unit {0}} path s1 s2 (Err e) → Placed {T = Unit {0}} path bytes s0 s2 (Err e)
  make_refused s2 e made = record { spares = made_spares s2 (Err e) made; clear = made_clear s2 (Err e) made; fails = λ _. made.fails; written = tt; kept = tt }

  module _ (s2 : State) (made : FoldersMade {T = Unit {0}} path s1 s2 (Ok tt)) where
    pub still_gone : s2.seen.names path ≡ Nothing
    still_gone = made.others path (not_on_its_way path) ∙ cleared.gone

    so_far : Spares path s0 s2
    so_far = made_spares s2 (Ok tt) made

    module _ (s3 : State) (r3 : Result (Unit {0}) Fault) (written : Written {T = Unit {0}} path bytes s2 s3 r3) where
      put_spares : Spares path s0 s3
      put_spares = spares_on path s0 s2 s3 so_far written.spares

      put_clear : LeavesClear path s0 s3
      put_clear q apart had = clear_spared path s0 s2 s3 so_far written.spares q (made_clear s2 (Ok tt) made q apart had) (written.clear q apart.below)

    pub write_refused : (s3 : State) (e : Fault) → Written {T = Unit {0}} path bytes s2 s3 (Err e) → Placed {T = Unit {0}} path bytes s0 s3 (Err e)
    write_refused s3 e written = record { spares = put_spares s3 (Err e) written; clear = put_clear s3 (Err e) written; fails = λ _. written.fails; written = tt; kept = tt }

    pub placed_file : (s3 s4 : State) (r : Result (Unit {0}) Fault) → Written {T = Unit {0}} path bytes s2 s3 (Ok tt) → MadeFirm path s3 s4 r → Placed path bytes s0 s4 r
    placed_file s3 s4 r written firm =
        let file = written.written.0 in
        let firmed : Spares path s3 s4 = stays_spares path s3 s4 firm.still.passes firm.still.seen in
        record {
          spares = spares_on path s0 s3 s4 (put_spares s3 (Ok tt) written) firmed;
          clear = λ q apart had. clear_spared path s0 s3 s4 (put_spares s3 (Ok tt) written) firmed q (put_clear s3 (Ok tt) written q apart had) (stays_clear s3 s4 firm.still.passes q);
          fails = λ _. firm.fails;
          written = on_ok_weaker r (λ named. record {
            node = file.node;
            seen = ap (λ (i : Image). i.names path) firm.still.seen ∙ file.seen;
            holds = λ c may. file.holds c (stays_may s3 s4 firm.still.passes c may);
          }) firm.firm;
          kept = on_ok_weaker r (λ named c may.
              ap (held c) (named c may ∙ file.seen) ∙ ap Some (file.holds c (stays_may s3 s4 firm.still.passes c may))) firm.firm;
        }
