-- What each step of the disk leaves of all that it does not name.
use Rattle.std.proofs.Common.{◌≡◌, ◌≢◌, ◌⊎◌, ℕ, List, Some, None, ⊎_elim, inl, inr, refl, sym, ◌∙◌, ap, subst}
use Rattle.disk.specs.Paths.{IsOnTheWay}
use Rattle.disk.specs.State.{Image, State, held, content, may_leave}
use Rattle.disk.specs.declared.binding.Binding.{Binding}
use Rattle.disk.specs.declared.binding.Binding.TheVariants.{Nothing, Folder, File}
use Rattle.disk.specs.Calls.{Passes, Stays, Binds, Tears, IsStill}
use Rattle.vault.specs.Views.{View, Same, AllBut, ReadsAs, IsRooted, StaysRooted, root_path}
use Rattle.vault.specs.Ways.{IsClearIn, IsClearWay, StaysClear, LeavesWays}
use Rattle.vault.specs.Calls.{LeavesAll}
use Rattle.vault.specs.inner.Files.{Spares}
use Rattle.vault.proofs.Moments.{came, rooted_joins, clear_joins, one_call, joins, stays_leaves, all_but_same, all_but_twice, same_same}

held_same : (c d : Image) (b : Binding) → ((n : ℕ) → b ≡ File n → c.bytes n ≡ d.bytes n) → held c b ≡ held d b
held_same c d Nothing same = refl
held_same c d Folder same = refl
held_same c d (File n) same = ap Some (same n refl)

-- the same name and the same bytes of its node
pub content_along : (c d : Image) (q : List ℕ) → c.names q ≡ d.names q → ((n : ℕ) → d.names q ≡ File n → c.bytes n ≡ d.bytes n) → content c q ≡ content d q
content_along c d q names nodes = ap (held c) names ∙ held_same c d (d.names q) nodes

no_file_none : (i : Image) (b : Binding) → ((n : ℕ) → b ≢ File n) → held i b ≡ None
no_file_none i Nothing other = refl
no_file_none i Folder other = refl
no_file_none i (File n) other = absurd (other n refl)

pub binds_but : (path : List ℕ) (to : Binding) (d c : Image) → Binds path to d c → AllBut path (content d) (content c)
binds_but path to d c bound q ne = content_along c d q (⊎_elim (λ same. same) (λ m. absurd (ne m.0)) (bound.names q)) (λ n is. bound.nodes n)

pub tears_but : (path : List ℕ) (node at count : ℕ) (d c : Image) → ((q : List ℕ) → q ≢ path → d.names q ≢ File node) → Tears node at count d c → AllBut path (content d) (content c)
tears_but path node at count d c alone torn q ne = content_along c d q (torn.names q) (λ n is. torn.nodes n (λ same. alone q ne (is ∙ ap File same)))

-- a folder in the place of no file changes no bytes
pub folder_same : (folder : List ℕ) (d c : Image) → ((n : ℕ) → d.names folder ≢ File n) → Binds folder Folder d c → Same (content d) (content c)
folder_same folder d c no_file bound q = ⊎_elim
    (λ same. content_along c d q same (λ n is. bound.nodes n))
    (λ made. ap (held c) made.1 ∙ sym (no_file_none d (d.names q) (λ n is. no_file n (ap d.names (sym made.0) ∙ is))))
    (bound.names q)

-- a step that gives the root no other file, and leaves its bytes
pub rooted_on : (Step : Image → Image → Type 0) (old new : State) → Passes Step old new
    → ((d c : Image) → may_leave old d → Step d c → (n : ℕ) → c.names root_path ≡ File n → d.names root_path ≡ File n)
    → ((b d c : Image) (n : ℕ) → may_leave old b → b.names root_path ≡ File n → may_leave old d → Step d c → c.bytes n ≡ d.bytes n)
    → IsRooted old → StaysRooted old new
rooted_on Step old new time names nodes rooted m lo hi c e n at_c at_e named =
    let one = came Step old new time m lo hi c at_c in
    let two = came Step old new time m lo hi e at_e in
    let was : one.0.names root_path ≡ File n = ⊎_elim
    (λ same. ap (λ (i : Image). i.names root_path) (sym same) ∙ named)
    (λ step. names one.0 c one.1 step n named) one.2 in
    let moved = λ (d x : Image) (may : may_leave old d) (from : (x ≡ d) ⊎ Step d x). ⊎_elim
    (λ same. ap (λ (i : Image). i.bytes n) same)
    (λ step. nodes one.0 d x n one.1 was may step) from in
    moved two.0 e two.1 two.2 ∙ rooted one.0 two.0 n one.1 two.1 was ∙ sym (moved one.0 c one.1 one.2)

-- a step that leaves a clear way clear
pub clear_on : (Step : Image → Image → Type 0) (old new : State) (q : List ℕ) → Passes Step old new
    → ((d c : Image) → Step d c → IsClearIn d q → IsClearIn c q)
    → IsClearWay old q → StaysClear old new q
clear_on Step old new q time step had m c lo hi at =
    let was = came Step old new time m lo hi c at in
    ⊎_elim
    (λ same. let P : Image → Type 0 = λ i. IsClearIn i q in subst P (sym same) (had was.0 was.1))
    (λ from. step was.0 c from (had was.0 was.1))
    was.2

pub folder_is_no_file : (n : ℕ) → Folder ≢ File n
folder_is_no_file n e = cc

pub nothing_is_no_folder : Nothing ≢ Folder
nothing_is_no_folder e = cc

pub nothing_is_no_file : (n : ℕ) → Nothing ≢ File n
nothing_is_no_file n e = cc

-- Where a name that changes is one of a file, and not on the way to this path, the way stays clear.
pub clear_by_names : (d c : Image) (q : List ℕ)
    → ((f : List ℕ) → (c.names f ≡ d.names f) ⊎ ((c.names f ≢ Folder) × ((IsOnTheWay f q) → (n : ℕ) → c.names f ≢ File n)))
    → IsClearIn d q → IsClearIn c q
clear_by_names d c q names had = record {
  open_way = λ f on n is. ⊎_elim (λ same. had.open_way f on n (sym same ∙ is)) (λ other. other.1 on n is) (names f);
  no_folder = λ is. ⊎_elim (λ same. had.no_folder (sym same ∙ is)) (λ other. other.0 is) (names q);
}

pub binds_nothing_clear : (path q : List ℕ) (d c : Image) → Binds path Nothing d c → IsClearIn d q → IsClearIn c q
binds_nothing_clear path q d c bound = clear_by_names d c q (λ f. ⊎_elim
    (λ same. inl same)
    (λ m. inr ((λ is. nothing_is_no_folder (sym m.1 ∙ is)), (λ on n is. nothing_is_no_file n (sym m.1 ∙ is))))
    (bound.names f))

pub binds_file_clear : (path q : List ℕ) (node : ℕ) → (IsOnTheWay path q → ⊥) → (d c : Image) → Binds path (File node) d c → IsClearIn d q → IsClearIn c q
binds_file_clear path q node off d c bound = clear_by_names d c q (λ f. ⊎_elim
    (λ same. inl same)
    (λ m. inr (
      (λ is. folder_is_no_file node (sym is ∙ m.1)),
      (λ on n is. off (let P : List ℕ → Type 0 = λ g. IsOnTheWay g q in subst P m.0 on)),
    ))
    (bound.names f))

-- a folder that is made is no file, and not at this path
pub binds_folder_clear : (folder q : List ℕ) → q ≢ folder → (d c : Image) → Binds folder Folder d c → IsClearIn d q → IsClearIn c q
binds_folder_clear folder q ne d c bound had = record {
  open_way = λ f on n is. ⊎_elim (λ same. had.open_way f on n (sym same ∙ is)) (λ m. folder_is_no_file n (sym m.1 ∙ is)) (bound.names f);
  no_folder = λ is. ⊎_elim (λ same. had.no_folder (sym same ∙ is)) (λ m. ne m.0) (bound.names q);
}

pub tears_clear : (node at count : ℕ) (q : List ℕ) (d c : Image) → Tears node at count d c → IsClearIn d q → IsClearIn c q
tears_clear node at count q d c torn = clear_by_names d c q (λ f. inl (torn.names f))

pub stays_rooted : (old new : State) → Passes Stays old new → IsRooted old → StaysRooted old new
stays_rooted old new time = rooted_on Stays old new time
    (λ d c may is n named. ap (λ (i : Image). i.names root_path) (sym is) ∙ named)
    (λ b d c n may_b named may_d is. ap (λ (i : Image). i.bytes n) is)

pub stays_clear : (old new : State) → Passes Stays old new → LeavesWays old new
stays_clear old new time q = clear_on Stays old new q time (λ d c is. clear_by_names d c q (λ f. inl (ap (λ (i : Image). i.names f) is)))

pub stays_reads : (S : View → View → Type 0) (old new : State) → ((u : View) → S u u) → new.seen ≡ old.seen → ReadsAs S old new
stays_reads S old new same is = let P : Image → Type 0 = λ i. S (content old.seen) (content i) in subst P (sym is) (same (content old.seen))

pub stays_spares : (path : List ℕ) (old new : State) → Passes Stays old new → new.seen ≡ old.seen → Spares path old new
stays_spares path old new time seen = record {
  moments = stays_leaves (AllBut path) old new (all_but_same path) time;
  seen = stays_reads (AllBut path) old new (all_but_same path) seen;
  rooted = stays_rooted old new time;
}

pub spares_on : (path : List ℕ) (old mid new : State) → Spares path old mid → Spares path mid new → Spares path old new
spares_on path old mid new first second = record {
  moments = joins (AllBut path) (AllBut path) (AllBut path) old mid new (all_but_twice path) (λ u v same. same) first.moments second.moments;
  seen = all_but_twice path _ _ _ first.seen second.seen;
  rooted = λ r. rooted_joins (AllBut path) (AllBut path) old mid new first.moments second.moments (first.rooted r) second.rooted;
}

-- ways over one call at a path after another
pub clear_spared : (path : List ℕ) (old mid new : State) → Spares path old mid → Spares path mid new → (q : List ℕ) → StaysClear old mid q → (IsClearWay mid q → StaysClear mid new q) → StaysClear old new q
clear_spared path old mid new first second q = clear_joins (AllBut path) (AllBut path) old mid new q first.moments second.moments

-- a name that stands for something else
pub binds_spares : (path : List ℕ) (to : Binding) (old new : State) → path ≢ root_path → Passes (Binds path to) old new → Binds path to old.seen new.seen → Spares path old new
binds_spares path to old new not_root time seen = record {
  moments = one_call (AllBut path) (Binds path to) old new (all_but_same path) (λ d c may bound. binds_but path to d c bound) time;
  seen = binds_but path to old.seen new.seen seen;
  rooted = rooted_on (Binds path to) old new time
      (λ d c may bound n is. ⊎_elim (λ same. sym same ∙ is) (λ m. absurd (not_root (sym m.0))) (bound.names root_path))
      (λ b d c n may_b named may_d bound. bound.nodes n);
}

-- bytes behind a node that this path alone names
pub tears_spares : (path : List ℕ) (node at count : ℕ) (old new : State) → path ≢ root_path
    → ((d : Image) → may_leave old d → (q : List ℕ) → q ≢ path → d.names q ≢ File node)
    → may_leave old old.seen → Passes (Tears node at count) old new → Tears node at count old.seen new.seen → Spares path old new
tears_spares path node at count old new not_root alone reads time seen = record {
  moments = one_call (AllBut path) (Tears node at count) old new (all_but_same path)
      (λ d c may torn. tears_but path node at count d c (alone d may) torn) time;
  seen = tears_but path node at count old.seen new.seen (alone old.seen reads) seen;
  rooted = rooted_on (Tears node at count) old new time
      (λ d c may torn n is. sym (torn.names root_path) ∙ is)
      (λ b d c n may_b named may_d torn. torn.nodes n (λ same. alone b may_b root_path (λ e. not_root (sym e)) (named ∙ ap File same)));
}

pub reads_only : (old new : State) → IsStill old new → LeavesAll old new
reads_only old new still = record {
  moments = stays_leaves Same old new same_same still.passes;
  rooted = stays_rooted old new still.passes;
  clear = stays_clear old new still.passes;
  names = λ q. ap (λ (i : Image). i.names q) still.seen;
  seen = stays_reads Same old new same_same still.seen;
}
