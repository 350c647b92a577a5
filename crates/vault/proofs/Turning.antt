-- The rename of the next root to the root, and the whole swap.
use Rattle.std.proofs.Common.{◌≡◌, ◌≢◌, ◌⊎◌, ℕ, List, [], Some, ⊎_elim, inl, inr, refl, sym, ◌∙◌, ap, arith, subst, Result, Ok, Err}
use Rattle.std.specs.Prelude.{IfErr}
use Rattle.std.proofs.lemmas.Result.{on_ok_weaker, IfOk-at_ok}
use Rattle.disk.specs.Paths.{IsOnTheWay}
use Rattle.disk.specs.State.{Image, State, IsLawful, held, content, may_leave}
use Rattle.disk.specs.declared.binding.Binding.TheVariants.{Nothing, File}
use Rattle.disk.specs.declared.fault.Fault.{Fault}
use Rattle.disk.specs.declared.fault.Fault.TheVariants.{Absent, Failed, Memory}
use Rattle.disk.specs.Calls.{Passes, Moves, IsStill, Renamed, FolderSynced, IsMovable}
use Rattle.vault.specs.Views.{Same, View, LeavesAfter, AllBut, Swaps, ReadsAs, IsKept, WasKept, IsRooted, StaysRooted, IsSettled, root_path, next_path, IsNoFolder}
use Rattle.vault.specs.Ways.{IsClearWay, StaysClear, LeavesClear, IsOffTheRoots}
use Rattle.vault.specs.inner.Files.{IsWritten, IsHoused, Turned, Spares, LeavesBelow}
use Rattle.vault.proofs.Moments.{came, rooted_joins, clear_joins, clear_after, one_call, joins, stays_leaves, stays_may, swaps_same}
use Rattle.vault.proofs.Steps.{content_along, clear_on, clear_by_names, stays_rooted, stays_clear, stays_reads, folder_is_no_file, nothing_is_no_folder, nothing_is_no_file}
use Rattle.vault.proofs.Answering.{failed_only, failed_left}
use Rattle.vault.proofs.Names.{root_not_next, root_in_top, root_alone, next_alone}

one_node : (m n : ℕ) → File m ≡ File n → m ≡ n
one_node m n e = cc

swaps_on : (root : List ℕ) (u v w : View) → Swaps root u v → Same v w → Swaps root u w
swaps_on root u v w swaps same = record {
  either = ⊎_elim (λ before. inl (same root_path ∙ before)) (λ fresh. inr (same root_path ∙ fresh)) swaps.either;
  others = λ q r n. same q ∙ swaps.others q r n;
}

module _ (root : List ℕ) (s0 s1 : State) (r1 : Result (Unit {0}) Fault) (lawful0 : IsLawful s0) (honest0 : s0.honest)
    (file : IsWritten s0 next_path root) (renamed : Renamed next_path root_path s0 s1 r1) where
  moves : Passes (Moves next_path root_path (s0.seen.names next_path)) s0 s1
  moves = renamed.takes.passes

  swapped : (d c : Image) → may_leave s0 d → Moves next_path root_path (s0.seen.names next_path) d c → Swaps root (content d) (content c)
  swapped d c may moved = record {
    either = ⊎_elim
        (λ same. inl (content_along c d root_path same (λ n is. moved.nodes n)))
        (λ changed. ⊎_elim
        (λ done. inr (ap (held c) (done.1 ∙ file.seen) ∙ ap Some (moved.nodes file.node ∙ file.holds d may)))
        (λ gone. absurd (root_not_next gone.0)) changed)
        (moved.names root_path);
    others = λ q r n. content_along c d q
        (⊎_elim (λ same. same) (λ changed. ⊎_elim (λ t. absurd (r t.0)) (λ s. absurd (n s.0)) changed) (moved.names q))
        (λ m is. moved.nodes m);
  }

  moments : LeavesAfter (Swaps root) s0 s1
  moments = one_call (Swaps root) (Moves next_path root_path (s0.seen.names next_path)) s0 s1 (swaps_same root) swapped moves

  reads : ReadsAs (Swaps root) s0 s1
  reads = swapped s0.seen s1.seen (lawful0.seen_may_stay honest0) renamed.takes.seen

  -- the bytes of the new root's node, in each image
  filled : (c : Image) → may_leave s1 c → c.bytes file.node ≡ root
  filled c may = let was = moves.follows c may in was.2.nodes file.node ∙ file.holds was.0 was.1

  named_by : (d c : Image) (n : ℕ) → Moves next_path root_path (s0.seen.names next_path) d c → c.names root_path ≡ File n → (d.names root_path ≡ File n) ⊎ (n ≡ file.node)
  named_by d c n moved is = ⊎_elim
      (λ same. inl (sym same ∙ is))
      (λ changed. ⊎_elim
      (λ done. inr (one_node n file.node (sym is ∙ done.1 ∙ file.seen)))
      (λ gone. absurd (root_not_next gone.0)) changed)
      (moved.names root_path)

  rooted : IsRooted s0 → StaysRooted s0 s1
  rooted old m lo hi c e n at_c at_e is =
      let Step : Image → Image → Type 0 = Moves next_path root_path (s0.seen.names next_path) in
      let one = came Step s0 s1 moves m lo hi c at_c in
      let two = came Step s0 s1 moves m lo hi e at_e in
      let same_bytes = λ (d x : Image) (from : (x ≡ d) ⊎ Step d x) (k : ℕ). ⊎_elim (λ same. ap (λ (i : Image). i.bytes k) same) (λ moved. moved.nodes k) from in
      let full = λ (d x : Image) (may : may_leave s0 d) (from : (x ≡ d) ⊎ Step d x). same_bytes d x from file.node ∙ file.holds d may in
      ⊎_elim
      (λ before. same_bytes two.0 e two.2 n ∙ old one.0 two.0 n one.1 two.1 before ∙ sym (same_bytes one.0 c one.2 n))
      (λ fresh. ap e.bytes fresh ∙ full two.0 e two.1 two.2 ∙ sym (full one.0 c one.1 one.2) ∙ ap c.bytes (sym fresh))
      (⊎_elim (λ same. inl (ap (λ (i : Image). i.names root_path) (sym same) ∙ is)) (λ moved. named_by one.0 c n moved is) one.2)

  -- a file comes to stand at the root's path, and nothing else comes to stand anywhere
  clear : LeavesBelow root_path s0 s1
  clear q off = clear_on (Moves next_path root_path (s0.seen.names next_path)) s0 s1 q moves
      (λ d c moved. clear_by_names d c q (λ f. ⊎_elim
      (λ same. inl same)
      (λ changed. inr (⊎_elim
      (λ t. (
        (λ is. folder_is_no_file file.node (sym is ∙ t.1 ∙ file.seen)),
        (λ on n is. off (let P : List ℕ → Type 0 = λ g. IsOnTheWay g q in subst P t.0 on)),
      ))
      (λ s. ((λ is. nothing_is_no_folder (sym s.1 ∙ is)), (λ on n is. nothing_is_no_file n (sym s.1 ∙ is))))
      changed))
      (moved.names f)))

  movable : IsNoFolder s0 root_path → IsMovable s0.seen next_path root_path
  movable no_folder = record { node = file.node; file = file.seen; onto = no_folder; beside = refl; apart = root_not_next }

  pub turn_refused : (e : Fault) → r1 ≡ Err e → IfErr r1 (λ f. f ≢ Memory) → Turned {T = Unit {0}} root s0 s1 (Err e)
  turn_refused e is which = record {
    moments = moments;
    seen = reads;
    rooted = rooted;
    clear = clear;
    failed = λ no_folder.
        let P : Result (Unit {0}) Fault → Type 0 = λ r. IfErr r (λ f. f ≡ Failed) in
        subst P is (failed_left r1 which (λ a. nothing_is_no_file file.node (sym (renamed.absent a) ∙ file.seen)) (λ x. (renamed.exists x).1 (movable no_folder)));
    done = tt;
    gone = tt;
  }

  module _ (s2 : State) (r2 : Result (Unit {0}) Fault) (ok : r1 ≡ Ok tt) (lawful1 : IsLawful s1) (honest1 : s1.honest) (lawful2 : IsLawful s2) (honest2 : s2.honest)
      (which : IfErr r2 (λ f. (f ≡ Absent) ⊎ (f ≡ Failed))) (synced : FolderSynced [] s1 s2 r2) where
    now : s1.seen.names root_path ≡ File file.node
    now = (IfOk-at_ok (λ _. IsMovable s0.seen next_path root_path × (s1.seen.names root_path ≡ s0.seen.names next_path) × (s1.seen.names next_path ≡ Nothing)) ok renamed.done).1 ∙ file.seen

    next_gone : s1.seen.names next_path ≡ Nothing
    next_gone = (IfOk-at_ok (λ _. IsMovable s0.seen next_path root_path × (s1.seen.names root_path ≡ s0.seen.names next_path) × (s1.seen.names next_path ≡ Nothing)) ok renamed.done).2

    still_filled : (c : Image) → may_leave s2 c → c.bytes file.node ≡ root
    still_filled c may = filled c (stays_may s1 s2 synced.takes.passes c may)

    stilled : LeavesAfter Same s1 s2
    stilled = stays_leaves Same s1 s2 (λ u q. refl) synced.takes.passes

    pub turned : Turned root s0 s2 r2
    turned = record {
      moments = joins (Swaps root) Same (Swaps root) s0 s1 s2 (swaps_on root) (λ u v swaps. swaps) moments stilled;
      seen = swaps_on root _ _ _ reads (stays_reads Same s1 s2 (λ u q. refl) synced.takes.seen);
      rooted = λ old. rooted_joins (Swaps root) Same s0 s1 s2 moments stilled (rooted old) (stays_rooted s1 s2 synced.takes.passes);
      clear = λ q off had. clear_joins (Swaps root) Same s0 s1 s2 q moments stilled (clear q off had) (stays_clear s1 s2 synced.takes.passes q);
      failed = λ _. failed_only r2 which (λ a. synced.absent a (lawful1.whole honest1 s1.moment s1.seen (lawful1.seen_may_stay honest1)).top);
      done = on_ok_weaker r2 (λ done.
          let named = λ (c : Image) (may : may_leave s2 c). done.1 c may (lawful2.whole honest2 s2.moment c may).top root_path root_in_top ∙ now in (
            (λ c may. ap (held c) (named c may) ∙ ap Some (still_filled c may)),
            (λ c e n may_c may_e is.
                let one : n ≡ file.node = one_node n file.node (sym is ∙ named c may_c) in
                ap e.bytes one ∙ still_filled e may_e ∙ sym (still_filled c may_c) ∙ ap c.bytes (sym one)),
          )) synced.done;
      gone = on_ok_weaker r2 (λ _. ap (λ (i : Image). i.names next_path) synced.takes.seen ∙ next_gone) synced.done;
    }

-- a file beside the root, and then a swap
pub beside_swaps : (root : List ℕ) (u v : View) → AllBut next_path u v → Swaps root u v
beside_swaps root u v but = record { either = inl (but root_path root_not_next); others = λ q r n. but q n }

pub then_swaps : (root : List ℕ) (u v w : View) → AllBut next_path u v → Swaps root v w → Swaps root u w
then_swaps root u v w but swaps = record {
  either = ⊎_elim (λ same. inl (same ∙ but root_path root_not_next)) (λ fresh. inr fresh) swaps.either;
  others = λ q r n. swaps.others q r n ∙ but q n;
}

-- the whole swap, after the next root is placed
module _ (root : List ℕ) (s0 s1 s2 : State) (r : Result (Unit {0}) Fault) (placed : Spares next_path s0 s1) (clear : LeavesClear next_path s0 s1) (turned : Turned root s1 s2 r) where
  pub swap_moments : LeavesAfter (Swaps root) s0 s2
  swap_moments = joins (AllBut next_path) (Swaps root) (Swaps root) s0 s1 s2 (then_swaps root) (beside_swaps root) placed.moments turned.moments

  pub swap_rooted : IsRooted s0 → StaysRooted s0 s2
  swap_rooted rooted = rooted_joins (AllBut next_path) (Swaps root) s0 s1 s2 placed.moments turned.moments (placed.rooted rooted) turned.rooted

  pub swap_seen : ReadsAs (Swaps root) s0 s2
  swap_seen = then_swaps root _ _ _ placed.seen turned.seen

  pub swap_clear : (q : List ℕ) → IsOffTheRoots q → IsClearWay s0 q → StaysClear s0 s2 q
  swap_clear q off had = clear_joins (AllBut next_path) (Swaps root) s0 s1 s2 q placed.moments turned.moments
      (clear q (record { below = off.next; above = next_alone q }) had) (turned.clear q off.root)

  -- no folder comes to stand at the root's path
  pub swap_no_folder : IsLawful s1 → s1.honest → IsClearWay s0 root_path → IsNoFolder s1 root_path
  swap_no_folder lawful honest had =
      (clear_after (AllBut next_path) s0 s1 root_path placed.moments (clear root_path (record { below = root_alone next_path; above = next_alone root_path }) had)
      s1.seen (lawful.seen_may_stay honest)).no_folder

  pub swap_was_kept : IsLawful s1 → s1.honest → IsKept s1 next_path root → WasKept next_path root s0 s2
  swap_was_kept lawful honest kept = record {
    moment = s1.moment;
    from = placed.moments.later;
    until = turned.moments.later;
    possible = (s1.seen, turned.moments.keeps s1.moment s1.seen (omega arith) (lawful.seen_may_stay honest));
    each = λ c at. kept c (turned.moments.history s1.moment c (omega arith) at);
  }

-- the root after its folder's sync
pub root_housed : (state : State) → IsLawful state → state.honest → IsHoused state root_path
root_housed state lawful honest = (lawful.whole honest state.moment state.seen (lawful.seen_may_stay honest)).top

pub settles : (old new : State) → IsLawful old → old.honest → IsStill old new → IsRooted old → ((c : Image) → may_leave new c → c.names root_path ≡ old.seen.names root_path) → IsSettled new
settles old new lawful honest still rooted firm c may =
    let was = stays_may old new still.passes c may in
    content_along c old.seen root_path (firm c may) (λ n is. rooted old.seen c n (lawful.seen_may_stay honest) was is)
    ∙ ap (λ (i : Image). content i root_path) (sym still.seen)
