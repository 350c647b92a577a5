-- What the rules of a disk say of a record that stays or goes on.
use Rattle.std.proofs.Common.{◌≡◌, ◌≢◌, ◌⊎◌, ◌<◌, ◌≤◌, inl, inr, ⊎_elim, ℕ, List, [], ◌∷◌, ◌++◌, length, take, true, false, IsTrue, refl, sym, ◌∙◌, ap, subst, arith, Result, Ok, Err, Some, None, OnOk, OnErr, IfErr, IsErrOf, is_ok, is_err}
use Rattle.std.proofs.lemmas.Result.{on_ok_weaker}
use Rattle.std.proofs.lemmas.Bool.{false≢true as not_true}
use Rattle.disk.specs.declared.binding.Binding.{Binding}
use Rattle.disk.specs.declared.binding.Binding.TheVariants.{Nothing, Folder, File}
use Rattle.disk.specs.Paths.{folder_of}
use Rattle.disk.specs.State.{Image, State, IsFresh, may_leave, held, content}
use Rattle.disk.specs.Calls.{Passes, Stays, Binds, Tears, Moves, IsStill, NoDoubt, IsRefusal, Takes, Created, FolderMade, Appended, Synced, FolderSynced, IsMovable, Renamed, Removed, IsNoFile}
use Rattle.disk.specs.declared.fault.Fault.{Fault}
use Rattle.disk.specs.declared.fault.Fault.TheVariants.{Absent, Exists, Failed, Memory}
use Rattle.mem_disk.specs.declared.call.Call.{Call}
use Rattle.mem_disk.specs.declared.fuse.Done.{Done}
use Rattle.mem_disk.specs.declared.fuse.Done.TheVariants as extent
use Rattle.mem_disk.specs.declared.fuse.Trip.{Trip}
use Rattle.mem_disk.specs.declared.fuse.Trip.TheVariants.{Fails}
use Rattle.mem_disk.specs.Loose.{Loose, empty, bound, appended, node_synced, node_doubted, folder_synced, replayed, image_of, MayName, MayLeave, IsSound, GoesOn}
use Rattle.mem_disk.specs.Failing.{taken, HasDone}
use Rattle.mem_disk.specs.States.{state_with, AlsoFailed, IsAnswer}
use Rattle.mem_disk.proofs.Choices.{at_same, at_other, at_other_node, equal_or_not, file_is_something, file_is_no_folder, folder_is_something, file_node}
use Rattle.mem_disk.proofs.Bindings.{bound_from, bound_reads, bound_sound, bound_leaves, folder_from, folder_firm}
use Rattle.mem_disk.proofs.Writes.{appended_from, appended_reads, appended_bytes, synced_from, synced_firm, doubted_from}
use Rattle.mem_disk.proofs.Passing.{passes_by, passes_on, passes_still, is_still, leaves_now, now_after}
use Rattle.mem_disk.specs.Laws.{now_leaves}

-- ---- answers

pub either_way : {T : Type 0} (P : Result T Fault → Type 0) (done result : Result T Fault) → AlsoFailed P done → IsAnswer done result → P result
either_way P done result both (inl e) = subst P (sym e) both.0
either_way P done result both (inr e) = subst P (sym e) both.1

on_any : {T : Type 0} {Q : Type 0} (result : Result T Fault) → Q → OnOk result Q
on_any (Ok x) q = q
on_any (Err e) q = tt

on_err : {T : Type 0} (Q : Type 0) (result : Result T Fault) (e : Fault) → result ≡ Err e → OnOk result Q
on_err {T} Q result e is = subst (λ (x : Result T Fault). OnOk x Q) (sym is) tt

if_any : {T : Type 0} {Q : Type 0} (result : Result T Fault) → Q → IfErr result (λ e. IsRefusal e → Q)
if_any (Ok x) q = tt
if_any (Err e) q = λ _. q

if_failed : {T : Type 0} (Q : Type 0) (result : Result T Fault) → IfErr result (λ e. e ≡ Failed) → IfErr result (λ e. IsRefusal e → Q)
if_failed Q (Ok x) is = tt
if_failed Q (Err e) is = λ refusal. absurd (subst IsRefusal is refusal)

pub is_failed : {T : Type 0} (result : Result T Fault) → IfErr result (λ e. e ≡ Failed) → (e : Fault) → IsErrOf result e → e ≡ Failed
is_failed (Ok x) is e of = let h : Ok x ≡ Err e = of in cc
is_failed (Err x) is e of = let h : Err x ≡ Err e = of in cc

same_err : {T : Type 0} (result : Result T Fault) (d e : Fault) → result ≡ Err d → result ≡ Err e → d ≡ e
same_err result d e one other = let h : Err d ≡ Err e = sym one ∙ other in cc

pub not_exists : Failed ≡ Exists → ⊥
not_exists e = cc

pub not_absent : Failed ≡ Absent → ⊥
not_absent e = cc

pub memory_absent : Memory ≡ Absent → ⊥
memory_absent e = cc

no_exists : {T : Type 0} (result : Result T Fault) → IfErr result (λ e. e ≡ Failed) → IsErrOf result Exists → ⊥
no_exists result is of = not_exists (sym (is_failed result is Exists of))

no_absent : {T : Type 0} (result : Result T Fault) → IfErr result (λ e. e ≡ Failed) → IsErrOf result Absent → ⊥
no_absent result is of = not_absent (sym (is_failed result is Absent of))

-- ---- fresh nodes

pub fresh_at : (calls : List Call) (count f r n : ℕ) → IsSound (replayed empty calls) count → count ≤ n → IsFresh (state_with calls f r) n
fresh_at calls count f r n sound ge = record {
  unnamed = λ c may path is.
      let now = leaves_now calls f r c may in
      let there = now.whole.below path (file_is_something (c.names path) n is) in
      let less : n < count = sound.named path n (subst (λ (b : Binding). MayName (replayed empty calls) path b) is (now.named path there)) in
      omega (arith, less, ge);
  empty = λ c may.
      let now = leaves_now calls f r c may in
      let long = (now.holds n).no_longer in
      let none = ap length (sound.empty n ge) in
      no_bytes (c.bytes n) (omega (arith, long, none));
  sure = λ d. not_true (subst IsTrue (sound.sure n ge) d);
}
  where
    no_bytes : (xs : List ℕ) → length xs ≡ 0 → xs ≡ []
    no_bytes [] e = refl
    no_bytes (x ∷ xs) e = absurd (omega (arith, e))

binds_self : (p : List ℕ) (to : Binding) (d c : Image) → c ≡ d → Binds p to d c
binds_self p to d c e = record { names = λ q. inl (ap (λ (x : Image). x.names q) e); nodes = λ n. ap (λ (x : Image). x.bytes n) e }

tears_self : (node at count : ℕ) (d c : Image) → c ≡ d → Tears node at count d c
tears_self node at count d c e =
    let same : c.bytes node ≡ d.bytes node = ap (λ (x : Image). x.bytes node) e in
    let long = ap length same in
    record {
      names = λ q. ap (λ (x : Image). x.names q) e;
      nodes = λ n _. ap (λ (x : Image). x.bytes n) e;
      sectors = ap (take _) same;
      no_shorter = omega (arith, long);
      no_longer = omega (arith, long);
      untouched = λ _. same;
    }

moves_self : (source target : List ℕ) (to : Binding) (d c : Image) → c ≡ d → Moves source target to d c
moves_self source target to d c e = record { names = λ q. inl (ap (λ (x : Image). x.names q) e); nodes = λ n. ap (λ (x : Image). x.bytes n) e }

module _ (old new : List Call) (f g r s : ℕ) where
  abbrev was : State
  was = state_with old f r

  abbrev now : State
  now = state_with new g s

  abbrev l : Loose
  l = replayed empty old

  -- a sync that is refused changes nothing
  pub synced_still : {T : Type 0} (result : Result T Fault) (e : Fault) → result ≡ Err e → e ≢ Absent → IsStill was now → (path : List ℕ) → Synced path was now result
  synced_still result e is there stays path = record {
    takes = record { passes = stays.passes; seen = stays.seen; refused = if_any result stays };
    doubt = λ n d. inl (stays.sure n d);
    sure = on_err _ result e is;
    done = on_err _ result e is;
    unmoved = λ _. stays;
    absent = λ x. absurd (there (same_err result e Absent is x));
  }

  -- ---- a record that stays

  module _ (same : new ≡ old) where
    seen_still : now.seen ≡ was.seen
    seen_still = ap (λ (x : List Call). image_of (replayed empty x)) same

    still : IsStill was now
    still = is_still old new f g r s same

    takes_still : {T : Type 0} (Step : Image → Image → Type 0) → ((d c : Image) → c ≡ d → Step d c) → (result : Result T Fault) → Takes Step was now result
    takes_still Step self result = record {
      passes = passes_still Step old new f g r s same (λ d. self d d refl);
      seen = self was.seen now.seen seen_still;
      refused = if_any result still;
    }

    module _ {T : Type 0} (result : Result T Fault) (e : Fault) (is : result ≡ Err e) where
      pub created_stays : (count : ℕ) → IsSound l count → (path : List ℕ) → (e ≡ Exists → l.names path ≢ Nothing) → (e ≡ Absent → l.names (folder_of path) ≢ Folder) → Created path was now result
      created_stays count sound path exists absent = record {
        node = count;
        fresh = fresh_at old count f r count sound (omega arith);
        takes = takes_still (Binds path (File count)) (binds_self path (File count)) result;
        sure = still.sure;
        done = on_err _ result e is;
        unmoved = λ _. still;
        homeless = λ _. still;
        exists = λ x. exists (same_err result e Exists is x);
        absent = λ x. absent (same_err result e Absent is x);
      }

      pub appended_stays : (path bytes : List ℕ) → (e ≡ Absent → IsNoFile was path) → Appended path bytes was now result
      appended_stays path bytes absent = record {
        takes = λ n _. takes_still _ (tears_self n (length (l.bytes n)) (length bytes)) result;
        sure = still.sure;
        done = on_err _ result e is;
        unmoved = λ _. still;
        absent = λ x. absent (same_err result e Absent is x);
      }

      pub folder_stays : (folder : List ℕ) → (e ≡ Absent → l.names folder ≢ Folder) → FolderSynced folder was now result
      folder_stays folder absent = record {
        takes = takes_still Stays (λ d c x. x) result;
        sure = still.sure;
        done = on_err _ result e is;
        absent = λ x. absent (same_err result e Absent is x);
      }

      pub synced_stays : (path : List ℕ) → (e ≡ Absent → IsNoFile was path) → Synced path was now result
      synced_stays path absent = record {
        takes = takes_still Stays (λ d c x. x) result;
        doubt = λ n d. inl (still.sure n d);
        sure = on_err _ result e is;
        done = on_err _ result e is;
        unmoved = λ _. still;
        absent = λ x. absent (same_err result e Absent is x);
      }

      pub renamed_stays : (source target : List ℕ) → (e ≡ Absent → l.names source ≡ Nothing) → (e ≡ Exists → (l.names source ≢ Nothing) × (IsMovable (image_of l) source target → ⊥)) → Renamed source target was now result
      renamed_stays source target absent exists = record {
        takes = takes_still _ (moves_self source target (l.names source)) result;
        sure = still.sure;
        done = on_err _ result e is;
        unmoved = λ _. still;
        absent = λ x. absent (same_err result e Absent is x);
        exists = λ x. exists (same_err result e Exists is x);
      }

      pub removed_stays : (path : List ℕ) → (e ≡ Absent → l.names path ≡ Nothing) → (e ≡ Exists → l.names path ≡ Folder) → Removed path was now result
      removed_stays path absent exists = record {
        takes = takes_still _ (binds_self path Nothing) result;
        sure = still.sure;
        done = on_err _ result e is;
        unmoved = λ _. still;
        absent = λ x. absent (same_err result e Absent is x);
        exists = λ x. exists (same_err result e Exists is x);
      }

    -- a folder that is there already
    pub folder_made_stays : {T : Type 0} (result : Result T Fault) (path : List ℕ) → OnOk result (l.names path ≡ Folder) → (IsErrOf result Exists → (n : ℕ) × (l.names path ≡ File n)) → (IsErrOf result Absent → l.names (folder_of path) ≢ Folder) → FolderMade path was now result
    folder_made_stays result path done exists absent = record {
      takes = takes_still (Binds path Folder) (binds_self path Folder) result;
      sure = still.sure;
      done = on_ok_weaker result (λ is. ap (λ (x : Image). x.names path) seen_still ∙ is) done;
      unmoved = λ _. still;
      homeless = λ _. still;
      exists = exists;
      absent = absent;
    }

  -- ---- a path that is bound

  module _ {T : Type 0} (result : Result T Fault) (failed : IfErr result (λ e. e ≡ Failed)) where
    takes_by : (Step : Image → Image → Type 0) → Passes Step was now → Step was.seen now.seen → Takes Step was now result
    takes_by Step passes seen = record { passes = passes; seen = seen; refused = if_failed _ result failed }

    module _ (count : ℕ) (sound : IsSound l count) (path : List ℕ) (to : Binding) (goes : GoesOn old new (bound l path to)) where
      new_is : replayed empty new ≡ bound l path to
      new_is = now_after old new goes.call goes.more ∙ goes.made

      bound_passes : l.names path ≢ Folder → l.names (folder_of path) ≡ Folder → (to ≡ Folder → l.names path ≡ Nothing) → Passes (Binds path to) was now
      bound_passes no_folder home over = passes_by (Binds path to) old new f g r s goes.call goes.more
          (λ c may. bound_from l count sound path to no_folder home over c (subst (λ (x : Loose). MayLeave x c) goes.made may))

      bound_takes : l.names path ≢ Folder → l.names (folder_of path) ≡ Folder → (to ≡ Folder → l.names path ≡ Nothing) → Takes (Binds path to) was now result
      bound_takes no_folder home over = takes_by (Binds path to) (bound_passes no_folder home over)
          (subst (λ (x : Loose). Binds path to (image_of l) (image_of x)) (sym new_is) (bound_reads l path to))

      bound_sure : NoDoubt was now
      bound_sure n = subst (λ (x : Loose). IsTrue (x.doubted n) → IsTrue (l.doubted n)) (sym new_is) (λ d. d)

      bound_now : now.seen.names path ≡ to
      bound_now = ap (λ (x : Loose). x.names path) new_is ∙ at_same path path to (l.names path) refl

    pub created_bound : (count : ℕ) (sound : IsSound l count) (path : List ℕ) (n : ℕ) → count ≤ n → GoesOn old new (bound l path (File n)) → l.names path ≡ Nothing → l.names (folder_of path) ≡ Folder → Created path was now result
    created_bound count sound path n ge goes gone home = record {
      node = n;
      fresh = fresh_at old count f r n sound ge;
      takes = bound_takes count sound path (File n) goes (λ e. folder_is_something (l.names path) e gone) home (λ e. absurd (let h : File n ≡ Folder = e in cc));
      sure = bound_sure count sound path (File n) goes;
      done = on_any result (bound_now count sound path (File n) goes);
      unmoved = λ some. absurd (some gone);
      homeless = λ away. absurd (away home);
      exists = λ x. absurd (no_exists result failed x);
      absent = λ x. absurd (no_absent result failed x);
    }

    pub folder_made_bound : (count : ℕ) (sound : IsSound l count) (path : List ℕ) → GoesOn old new (bound l path Folder) → l.names path ≡ Nothing → l.names (folder_of path) ≡ Folder → FolderMade path was now result
    folder_made_bound count sound path goes gone home = record {
      takes = bound_takes count sound path Folder goes (λ e. folder_is_something (l.names path) e gone) home (λ _. gone);
      sure = bound_sure count sound path Folder goes;
      done = on_any result (bound_now count sound path Folder goes);
      unmoved = λ some. absurd (some gone);
      homeless = λ away. absurd (away home);
      exists = λ x. absurd (no_exists result failed x);
      absent = λ x. absurd (no_absent result failed x);
    }

    pub removed_bound : (count : ℕ) (sound : IsSound l count) (path : List ℕ) (n : ℕ) → GoesOn old new (bound l path Nothing) → l.names path ≡ File n → Removed path was now result
    removed_bound count sound path n goes file = record {
      takes = bound_takes count sound path Nothing goes (file_is_no_folder (l.names path) n file) (sound.whole.below path (file_is_something (l.names path) n file)) (λ e. absurd (let h : Nothing ≡ Folder = e in cc));
      sure = bound_sure count sound path Nothing goes;
      done = on_any result (n, file, bound_now count sound path Nothing goes);
      unmoved = λ none. absurd (none n file);
      absent = λ x. absurd (no_absent result failed x);
      exists = λ x. absurd (no_exists result failed x);
    }

    -- ---- bytes that are written, files and folders that are synced

    pub appended_more : (count : ℕ) (sound : IsSound l count) (path bytes more : List ℕ) (n : ℕ) → GoesOn old new (appended l n more) → l.names path ≡ File n → length more ≤ length bytes → OnOk result (more ≡ bytes) → Appended path bytes was now result
    appended_more count sound path bytes more n goes file most ok =
        let is : replayed empty new ≡ appended l n more = now_after old new goes.call goes.more ∙ goes.made in
        let takes : Takes (Tears n (length (l.bytes n)) (length bytes)) was now result =
        takes_by (Tears n (length (l.bytes n)) (length bytes))
        (passes_by (Tears n (length (l.bytes n)) (length bytes)) old new f g r s goes.call goes.more (λ c may. appended_from l n more (length bytes) most count sound c (subst (λ (x : Loose). MayLeave x c) goes.made may)))
        (subst (λ (x : Loose). Tears n (length (l.bytes n)) (length bytes) (image_of l) (image_of x)) (sym is) (appended_reads l n more (length bytes) most)) in
        record {
          takes = λ m also. let same : n ≡ m = file_node n m (sym file ∙ also) in subst (λ (k : ℕ). Takes (Tears k (length (l.bytes k)) (length bytes)) was now result) same takes;
          sure = λ m. subst (λ (x : Loose). IsTrue (x.doubted m) → IsTrue (l.doubted m)) (sym is) (λ d. d);
          done = on_ok_weaker result (λ e. (n, file, ap (λ (x : Loose). x.bytes n) is ∙ appended_bytes l n more ∙ ap (λ (xs : List ℕ). l.bytes n ++ xs) e)) ok;
          unmoved = λ none. absurd (none n file);
          absent = λ x. absurd (no_absent result failed x);
        }

    pub folder_done : (folder : List ℕ) → GoesOn old new (folder_synced l folder) → l.names folder ≡ Folder → FolderSynced folder was now result
    folder_done folder goes there =
        let is : replayed empty new ≡ folder_synced l folder = now_after old new goes.call goes.more ∙ goes.made in
        let left : (c : Image) → may_leave now c → MayLeave (folder_synced l folder) c = λ c may. subst (λ (x : Loose). MayLeave x c) is (leaves_now new g s c may) in
        record {
          takes = takes_by Stays
              (passes_by Stays old new f g r s goes.call goes.more (λ c may. (c, folder_from l folder c (subst (λ (x : Loose). MayLeave x c) goes.made may), refl)))
              (ap image_of is);
          sure = λ m. subst (λ (x : Loose). IsTrue (x.doubted m) → IsTrue (l.doubted m)) (sym is) (λ d. d);
          done = on_any result (there, λ c may here q in_it. folder_firm l folder c (left c may) here q in_it);
          absent = λ x. absurd (no_absent result failed x);
        }

    -- a file whose sync has failed before
    pub synced_again : (path : List ℕ) (n : ℕ) → new ≡ old → l.names path ≡ File n → l.doubted n ≡ true → Synced path was now result
    synced_again path n same file doubt =
        let stays = still same in
        record {
          takes = takes_still same Stays (λ d c x. x) result;
          doubt = λ m d. inl (stays.sure m d);
          sure = on_any result stays.sure;
          done = on_any result (n, file, λ sure. absurd (sure (subst IsTrue (sym doubt) refl)));
          unmoved = λ none. absurd (none n file);
          absent = λ x. absurd (no_absent result failed x);
        }

    pub synced_done : (count : ℕ) (sound : IsSound l count) (path : List ℕ) (n : ℕ) → GoesOn old new (node_synced l n) → l.names path ≡ File n → Synced path was now result
    synced_done count sound path n goes file =
        let is : replayed empty new ≡ node_synced l n = now_after old new goes.call goes.more ∙ goes.made in
        let same : NoDoubt was now = λ m. subst (λ (x : Loose). IsTrue (x.doubted m) → IsTrue (l.doubted m)) (sym is) (λ d. d) in
        record {
          takes = takes_by Stays
              (passes_by Stays old new f g r s goes.call goes.more (λ c may. (c, synced_from l n count sound c (subst (λ (x : Loose). MayLeave x c) goes.made may), refl)))
              (ap image_of is);
          doubt = λ m d. inl (same m d);
          sure = on_any result same;
          done = on_any result (n, file, λ _ c may. synced_firm l n c (subst (λ (x : Loose). MayLeave x c) is (leaves_now new g s c may)));
          unmoved = λ none. absurd (none n file);
          absent = λ x. absurd (no_absent result failed x);
        }

    doubted_passes : (n : ℕ) → GoesOn old new (node_doubted l n) → Passes Stays was now
    doubted_passes n goes = passes_by Stays old new f g r s goes.call goes.more (λ c may. (c, doubted_from l n c (subst (λ (x : Loose). MayLeave x c) goes.made may), refl))

    -- a sync that fails
    synced_fails : (path : List ℕ) (n : ℕ) → Passes Stays was now → was.seen ≡ now.seen → ((m : ℕ) → m ≢ n → now.doubted m → was.doubted m) → l.names path ≡ File n → result ≡ Err Failed → Synced path was now result
    synced_fails path n passes seen others file is = record {
      takes = takes_by Stays passes (sym seen);
      doubt = λ m d. ⊎_elim (λ e. inr (ap l.names refl ∙ file ∙ ap File (sym e.0))) (λ ne. inl (others m ne.0 d)) (equal_or_not m n);
      sure = on_err _ result Failed is;
      done = on_err _ result Failed is;
      unmoved = λ none. absurd (none n file);
      absent = λ x. absurd (no_absent result failed x);
    }

-- a failed sync that has done nothing
pub sync_nothing : {T : Type 0} (old new : List Call) (f g r s : ℕ) (result : Result T Fault) (path : List ℕ) (n : ℕ) → GoesOn old new (node_doubted (replayed empty old) n) → (replayed empty old).names path ≡ File n → result ≡ Err Failed → Synced path (state_with old f r) (state_with new g s) result
sync_nothing old new f g r s result path n goes file is =
    let l = replayed empty old in
    let now : replayed empty new ≡ node_doubted l n = now_after old new goes.call goes.more ∙ goes.made in
    let failed : IfErr result (λ e. e ≡ Failed) = subst (λ (x : Result _ Fault). IfErr x (λ e. e ≡ Failed)) (sym is) refl in
    synced_fails old new f g r s result failed path n
    (doubted_passes old new f g r s result failed n goes)
    (sym (ap image_of now))
    (λ m ne d. subst IsTrue (at_other_node m n true (l.doubted m) ne) (subst (λ (x : Loose). IsTrue (x.doubted m)) now d))
    file is

-- bytes that have become firm are no change
pub firm_still : (old new : List Call) (f g r s count : ℕ) → IsSound (replayed empty old) count → (n : ℕ) → GoesOn old new (node_synced (replayed empty old) n) → IsStill (state_with old f r) (state_with new g s)
firm_still old new f g r s count sound n goes =
    let l = replayed empty old in
    let now : replayed empty new ≡ node_synced l n = now_after old new goes.call goes.more ∙ goes.made in
    record {
      passes = passes_by Stays old new f g r s goes.call goes.more (λ c may. (c, synced_from l n count sound c (subst (λ (x : Loose). MayLeave x c) goes.made may), refl));
      seen = ap image_of now;
      sure = λ m. subst (λ (x : Loose). IsTrue (x.doubted m) → IsTrue (l.doubted m)) (sym now) (λ d. d);
    }

-- a failed sync that has done all
pub sync_whole : {T : Type 0} (old mid new : List Call) (f g r s : ℕ) (result : Result T Fault) (count : ℕ) → IsSound (replayed empty old) count → (path : List ℕ) (n : ℕ) → GoesOn old mid (node_synced (replayed empty old) n) → GoesOn mid new (node_doubted (replayed empty mid) n) → (replayed empty old).names path ≡ File n → result ≡ Err Failed → Synced path (state_with old f r) (state_with new g s) result
sync_whole old mid new f g r s result count sound path n one two file is =
    let between : replayed empty mid ≡ node_synced (replayed empty old) n = now_after old mid one.call one.more ∙ one.made in
    let now : replayed empty new ≡ node_doubted (replayed empty mid) n = now_after mid new two.call two.more ∙ two.made in
    let failed : IfErr result (λ e. e ≡ Failed) = subst (λ (x : Result _ Fault). IfErr x (λ e. e ≡ Failed)) (sym is) refl in
    synced_fails old new f g r s result failed path n
    (passes_on Stays Stays Stays old mid new f g r s
    (firm_still old mid f f r r count sound n one).passes
    (doubted_passes mid new f g r s result failed n two)
    (λ c may. inl (now_leaves old f r c (synced_from (replayed empty old) n count sound c (subst (λ (x : Loose). MayLeave x c) between (leaves_now mid f r c may)))))
    (λ d e c a b. b ∙ a))
    (sym (ap image_of now ∙ ap image_of between))
    (λ m ne d. subst (λ (x : Loose). IsTrue (x.doubted m)) between (subst IsTrue (at_other_node m n true ((replayed empty mid).doubted m) ne) (subst (λ (x : Loose). IsTrue (x.doubted m)) now d)))
    file is

binds_twice : (source target : List ℕ) (to : Binding) (d e c : Image) → Binds target to d e → Binds source Nothing e c → Moves source target to d c
binds_twice source target to d e c one two = record {
  names = λ q. ⊎_elim
      (λ same. ⊎_elim (λ before. inl (same ∙ before)) (λ is. inr (inl (is.0, same ∙ is.1))) (one.names q))
      (λ gone. inr (inr gone))
      (two.names q);
  nodes = λ n. two.nodes n ∙ one.nodes n;
}

module _ {T : Type 0} (old : List Call) (f g r s : ℕ) (result : Result T Fault) (failed : IfErr result (λ e. e ≡ Failed)) (count : ℕ) (sound : IsSound (replayed empty old) count) (source target : List ℕ) (movable : IsMovable (image_of (replayed empty old)) source target) where
  abbrev start : Loose
  start = replayed empty old

  home : start.names (folder_of target) ≡ Folder
  home = ap start.names movable.beside ∙ sound.whole.below source (file_is_something (start.names source) movable.node movable.file)

  no_over : File movable.node ≡ Folder → start.names target ≡ Nothing
  no_over e = absurd cc

  target_takes : (new : List Call) (g s : ℕ) → GoesOn old new (bound start target (File movable.node)) → Passes (Binds target (File movable.node)) (state_with old f r) (state_with new g s)
  target_takes new g s goes = bound_passes old new f g r s result failed count sound target (File movable.node) goes movable.onto home no_over

  -- the target's name alone
  pub renamed_part : (new : List Call) → GoesOn old new (bound start target (File movable.node)) → result ≡ Err Failed → Renamed source target (state_with old f r) (state_with new g s) result
  renamed_part new goes is =
      let reads : replayed empty new ≡ bound start target (File movable.node) = new_is old new f g r s result failed count sound target (File movable.node) goes in
      let wide : (d c : Image) → Binds target (File movable.node) d c → Moves source target (start.names source) d c = λ d c b.
      record { names = λ q. ⊎_elim (λ same. inl same) (λ to. inr (inl (to.0, to.1 ∙ sym movable.file))) (b.names q); nodes = b.nodes } in
      let passes = passes_by (Moves source target (start.names source)) old new f g r s goes.call goes.more
      (λ c may. let was = bound_from start count sound target (File movable.node) movable.onto home no_over c (subst (λ (x : Loose). MayLeave x c) goes.made may) in (was.0, was.1, wide was.0 c was.2)) in
      record {
        takes = takes_by old new f g r s result failed (Moves source target (start.names source)) passes
            (wide _ _ (subst (λ (x : Loose). Binds target (File movable.node) (image_of start) (image_of x)) (sym reads) (bound_reads start target (File movable.node))));
        sure = bound_sure old new f g r s result failed count sound target (File movable.node) goes;
        done = on_err _ result Failed is;
        unmoved = λ un. absurd (un movable);
        absent = λ x. absurd (no_absent result failed x);
        exists = λ x. absurd (no_exists result failed x);
      }

  pub renamed_whole : (mid new : List Call) → GoesOn old mid (bound start target (File movable.node)) → GoesOn mid new (bound (replayed empty mid) source Nothing) → Renamed source target (state_with old f r) (state_with new g s) result
  renamed_whole mid new one two =
      let to = File movable.node in
      let between : replayed empty mid ≡ bound start target to = new_is old mid f f r r result failed count sound target to one in
      let now : replayed empty new ≡ bound (replayed empty mid) source Nothing = new_is mid new f g r s result failed count (mid_sound mid one) source Nothing two in
      let source_mid : (replayed empty mid).names source ≡ File movable.node = mid_source mid one in
      let source_home : (replayed empty mid).names (folder_of source) ≡ Folder = (mid_sound mid one).whole.below source (file_is_something ((replayed empty mid).names source) movable.node source_mid) in
      let step : (d e c : Image) → Binds target to d e → Binds source Nothing e c → Moves source target (start.names source) d c = λ d e c a b. subst (λ (x : Binding). Moves source target x d c) (sym movable.file) (binds_twice source target to d e c a b) in
      let passes : Passes (Moves source target (start.names source)) (state_with old f r) (state_with new g s) =
      passes_on (Binds target to) (Binds source Nothing) (Moves source target (start.names source)) old mid new f g r s
      (bound_passes old mid f f r r result failed count sound target to one movable.onto home no_over)
      (bound_passes mid new f g r s result failed count (mid_sound mid one) source Nothing two (file_is_no_folder ((replayed empty mid).names source) movable.node source_mid) source_home (λ e. absurd (let h : Nothing ≡ Folder = e in cc)))
      (λ c may. inr (now_leaves new g s c (subst (λ (x : Loose). MayLeave x c) (sym now) (bound_leaves (replayed empty mid) source Nothing c (leaves_now mid f r c may)))))
      step in
      let first : Binds target to (image_of start) (image_of (replayed empty mid)) = subst (λ (x : Loose). Binds target to (image_of start) (image_of x)) (sym between) (bound_reads start target to) in
      let second : Binds source Nothing (image_of (replayed empty mid)) (image_of (replayed empty new)) = subst (λ (x : Loose). Binds source Nothing (image_of (replayed empty mid)) (image_of x)) (sym now) (bound_reads (replayed empty mid) source Nothing) in
      record {
        takes = takes_by old new f g r s result failed (Moves source target (start.names source)) passes (step _ _ _ first second);
        sure = λ n d. bound_sure old mid f f r r result failed count sound target to one n (bound_sure mid new f g r s result failed count (mid_sound mid one) source Nothing two n d);
        done = on_any result (
          movable,
          ap (λ (x : Loose). x.names target) now ∙ at_other target source Nothing ((replayed empty mid).names target) movable.apart ∙ ap (λ (x : Loose). x.names target) between ∙ at_same target target to (start.names target) refl ∙ sym movable.file,
          ap (λ (x : Loose). x.names source) now ∙ at_same source source Nothing ((replayed empty mid).names source) refl,
        );
        unmoved = λ un. absurd (un movable);
        absent = λ x. absurd (no_absent result failed x);
        exists = λ x. absurd (no_exists result failed x);
      }
    where
      mid_sound : (mid : List Call) → GoesOn old mid (bound start target (File movable.node)) → IsSound (replayed empty mid) count
      mid_sound mid one = subst (λ (x : Loose). IsSound x count) (sym (new_is old mid f f r r result failed count sound target (File movable.node) one))
          (bound_sound start count sound target (File movable.node) movable.onto home count (omega arith) (λ n e. subst (λ (k : ℕ). k < count) (file_node movable.node n e) (sound.named source movable.node (inl (sym movable.file)))))

      mid_source : (mid : List Call) → GoesOn old mid (bound start target (File movable.node)) → (replayed empty mid).names source ≡ File movable.node
      mid_source mid one = ap (λ (x : Loose). x.names source) (new_is old mid f f r r result failed count sound target (File movable.node) one)
          ∙ at_other source target (File movable.node) (start.names source) (λ e. movable.apart (sym e)) ∙ movable.file

-- ---- what a call's result says

pub ok_of : {A E P : Type 0} (res : Result A E) → is_ok res ≡ true → OnOk res P → P
ok_of (Ok x) is p = p
ok_of (Err e) is p = absurd (not_true is)

pub err_of : {A E P : Type 0} (res : Result A E) → is_err res ≡ true → OnErr res P → P
err_of (Err e) is p = p
err_of (Ok x) is p = absurd (not_true is)

pub ok_of_not : {A E P : Type 0} (res : Result A E) → is_err res ≡ false → OnOk res P → P
ok_of_not (Ok x) is p = p
ok_of_not (Err e) is p = absurd (not_true (sym is))

pub file_within : (l : Loose) (count : ℕ) → IsSound l count → (path : List ℕ) (n : ℕ) → l.names path ≡ File n → n < count
file_within l count sound path n is = sound.named path n (inl (sym is))

-- the record as it stood before another part of the call
pub goes_from : (make : Loose → Loose) (old mid new : List Call) → mid ≡ old → GoesOn mid new (make (replayed empty mid)) → GoesOn old new (make (replayed empty old))
goes_from make old mid new same goes = subst (λ (x : List Call). GoesOn x new (make (replayed empty x))) same goes

-- by what an answer says, and by what a refusal says
pub either : {A E P Q R : Type 0} (res : Result A E) → OnOk res P → OnErr res Q → (P → R) → (Q → R) → R
either (Ok x) p q ok err = ok p
either (Err e) p q ok err = err q

-- a record that stays as it was once it had gone on
pub stays_at : (old mid new : List Call) (l : Loose) → new ≡ mid → GoesOn old mid l → GoesOn old new l
stays_at old mid new l same goes = subst (λ (x : List Call). GoesOn old x l) (sym same) goes

-- what a record that goes on says then
pub goes_to : (old new : List Call) (l : Loose) → GoesOn old new l → replayed empty new ≡ l
goes_to old new l goes = now_after old new goes.call goes.more ∙ goes.made

-- another name stays as it was
pub later_name : (old mid : List Call) (path : List ℕ) (to : Binding) → GoesOn old mid (bound (replayed empty old) path to) → (q : List ℕ) → q ≢ path → (replayed empty mid).names q ≡ (replayed empty old).names q
later_name old mid path to goes q ne = ap (λ (x : Loose). x.names q) (now_after old mid goes.call goes.more ∙ goes.made) ∙ at_other q path to ((replayed empty old).names q) ne

-- ---- what is read

pub no_file : (b : Binding) → ((n : ℕ) → b ≡ File n → ⊥) → (image : Image) → held image b ≡ None
no_file Nothing none image = refl
no_file Folder none image = refl
no_file (File n) none image = absurd (none n refl)

-- nothing changes in a record that stays
pub reads_still : (calls : List Call) (f g r s : ℕ) → IsStill (state_with calls f r) (state_with calls g s)
reads_still calls f g r s = is_still calls calls f g r s refl

pub file_content : (calls : List Call) (f r : ℕ) (path : List ℕ) (n : ℕ) → (replayed empty calls).names path ≡ File n → content (state_with calls f r).seen path ≡ Some ((replayed empty calls).bytes n)
file_content calls f r path n file = ap (held (image_of (replayed empty calls))) file

is_the_err : {T : Type 0} → Result T Fault → Fault → Fault
is_the_err (Ok x) d = d
is_the_err (Err e) d = e

pub ok_is_no_err : {T : Type 0} (x : T) (e : Fault) → let result : Result T Fault = Ok x in result ≡ Err e → ⊥
ok_is_no_err {T} x e is = let P : Result T Fault → Type 0 = elim [ Ok y ↦ Unit {0} | Err y ↦ ⊥ ] in subst P is tt

pub err_is : {T : Type 0} (d e : Fault) → let result : Result T Fault = Err d in result ≡ Err e → d ≡ e
unfolding is_the_err
err_is {T} d e is = ap (λ (r : Result T Fault). is_the_err r d) is

-- ---- what a failed call has done

pub taken_whole : (step : Loose → Loose) (done : Done) (l : Loose) → (done ≡ extent.Whole) ⊎ (done ≡ extent.Part) → taken step done l ≡ step l
taken_whole step done l (inl is) = ap (λ (d : Done). taken step d l) is
taken_whole step done l (inr is) = ap (λ (d : Done). taken step d l) is

pub some_pick : (trip : Trip) (done : Done) → (trip ≡ Fails extent.Nothing → ⊥) → trip ≡ Fails done → (done ≡ extent.Whole) ⊎ (done ≡ extent.Part)
some_pick trip extent.Nothing none is = absurd (none is)
some_pick trip extent.Whole none is = inl refl
some_pick trip extent.Part none is = inr refl

-- a record that has gone on by a step which is taken whole
pub goes_whole : {Short : Type 0} (step : Loose → Loose) (trip : Trip) (old new : List Call) → (trip ≡ Fails extent.Nothing → ⊥) → GoesOn old new (step (replayed empty old)) → HasDone (taken step) trip old new Short
goes_whole step trip old new none goes done is = inl (goes_to old new _ goes ∙ sym (taken_whole step done (replayed empty old) (some_pick trip done none is)))

same_pick : (trip : Trip) (one other : Done) → trip ≡ Fails one → trip ≡ Fails other → one ≡ other
same_pick trip one other is also = let h : Fails one ≡ Fails other = sym is ∙ also in cc

whole_pick : (trip : Trip) (done : Done) → (trip ≡ Fails extent.Nothing → ⊥) → (trip ≡ Fails extent.Part → ⊥) → trip ≡ Fails done → done ≡ extent.Whole
whole_pick trip done none part is = ⊎_elim (λ e. e) (λ e. absurd (part (is ∙ ap Fails e))) (some_pick trip done none is)

-- a record that has gone on by all of a step that has parts, or by a part of it
pub goes_in_all : {Short : Type 0} (step : Done → Loose → Loose) (trip : Trip) (old new : List Call) → (trip ≡ Fails extent.Nothing → ⊥) → (trip ≡ Fails extent.Part → ⊥) → replayed empty new ≡ step extent.Whole (replayed empty old) → HasDone step trip old new Short
goes_in_all step trip old new none part goes done is = inl (goes ∙ ap (λ (d : Done). step d (replayed empty old)) (sym (whole_pick trip done none part is)))

pub goes_in_part : {Short : Type 0} (step : Done → Loose → Loose) (trip : Trip) (old new : List Call) → trip ≡ Fails extent.Part → replayed empty new ≡ step extent.Part (replayed empty old) → HasDone step trip old new Short
goes_in_part step trip old new part goes done is = inl (goes ∙ ap (λ (d : Done). step d (replayed empty old)) (same_pick trip extent.Part done part is))
