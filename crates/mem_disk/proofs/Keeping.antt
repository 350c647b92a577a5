-- The names and nodes that are kept go on with the record.
use Rattle.std.proofs.Common.{◌≡◌, ◌≢◌, ◌<◌, ◌≤◌, ⊎_elim, ℕ, zero, suc, ◌+◌, List, [], ◌∷◌, ◌++◌, length, take, set, get_or, Bool, true, false, if◌then◌else◌, ◌==◌, bytes_eq, string_bytes, refl, sym, ◌∙◌, ap, subst, arith, length-append, length-set}
use Rattle.std.proofs.lemmas.List.{take_at}
use Rattle.disk.specs.declared.binding.Binding.{Binding}
use Rattle.disk.specs.declared.binding.Binding.TheVariants.{Folder, File}
use Rattle.disk.specs.Paths.{folder_of}
use Rattle.mem_disk.specs.declared.name.Name.{Name}
use Rattle.mem_disk.specs.declared.node.Node.{Node}
use Rattle.mem_disk.specs.declared.call.Call.{Call}
use Rattle.mem_disk.specs.Tables.{name_in, had_in, of_node, Rebinds, SaysTheSame, Settles, Settled, FindsNone, AreApart}
use Rattle.mem_disk.specs.Loose.{Loose, Shows, Keeps, IsSound, empty, replayed, after, bound, appended, node_synced, node_doubted, folder_synced}
use Rattle.mem_disk.proofs.Choices.{same_or_not, at_same, at_other}
use Rattle.mem_disk.proofs.Tables.{node_push, node_if, node_same, node_at}
use Rattle.mem_disk.proofs.Bindings.{bound_sound, folder_sound}
use Rattle.mem_disk.proofs.Writes.{appended_sound, synced_sound, doubted_sound}
use Rattle.mem_disk.proofs.Passing.{now_after}

pub keeps_on : (names : List Name) (nodes : List Node) (old new : List Call) (call : Call) → new ≡ old ++ call ∷ [] → Shows names nodes (after (replayed empty old) call) → IsSound (after (replayed empty old) call) (length nodes) → Keeps names nodes new
keeps_on names nodes old new call is shows sound = record {
  shows = subst (λ (l : Loose). Shows names nodes l) (sym (now_after old new call is)) shows;
  sound = subst (λ (l : Loose). IsSound l (length nodes)) (sym (now_after old new call is)) sound;
}

pub keeps_same : (names other : List Name) (nodes : List Node) (old new : List Call) → new ≡ old → SaysTheSame names other → Keeps names nodes old → Keeps other nodes new
keeps_same names other nodes old new is same kept = subst (λ (x : List Call). Keeps other nodes x) (sym is) (record {
  shows = record {
    names = λ q. kept.shows.names q ∙ sym (same.names q);
    had = λ q. kept.shows.had q ∙ sym (same.had q);
    bytes = kept.shows.bytes;
    synced = kept.shows.synced;
    doubted = kept.shows.doubted;
  };
  sound = kept.sound;
})

module _ (names : List Name) (nodes : List Node) (old : List Call) (kept : Keeps names nodes old) where
  abbrev l : Loose
  l = replayed empty old

  pub keeps_bound : (other : List Name) (new : List Call) (call : Call) (p : List ℕ) (to : Binding) → new ≡ old ++ call ∷ [] → after l call ≡ bound l p to → Rebinds p to names other → l.names p ≢ Folder → l.names (folder_of p) ≡ Folder → ((n : ℕ) → to ≡ File n → n < length nodes) → Keeps other nodes new
  keeps_bound other new call p to is made re no_folder home node = keeps_on other nodes old new call is
      (subst (λ (x : Loose). Shows other nodes x) (sym made) (record {
        names = λ q. ap (λ (b : Binding). if bytes_eq q p then to else b) (kept.shows.names q) ∙ sym (re.names q);
        had = λ q. ap (λ (xs : List Binding). if bytes_eq q p then xs ++ l.names q ∷ [] else xs) (kept.shows.had q)
            ∙ ap (λ (b : Binding). if bytes_eq q p then had_in names q ++ b ∷ [] else had_in names q) (kept.shows.names q) ∙ sym (re.had q);
        bytes = kept.shows.bytes;
        synced = kept.shows.synced;
        doubted = kept.shows.doubted;
      }))
      (subst (λ (x : Loose). IsSound x (length nodes)) (sym made) (bound_sound l (length nodes) kept.sound p to no_folder home (length nodes) (omega arith) node))

  pub keeps_settled : (other : List Name) (new : List Call) (call : Call) (folder : List ℕ) → new ≡ old ++ call ∷ [] → after l call ≡ folder_synced l folder → Settles folder names other → Keeps other nodes new
  keeps_settled other new call folder is made settles = keeps_on other nodes old new call is
      (subst (λ (x : Loose). Shows other nodes x) (sym made) (record {
        names = λ q. kept.shows.names q ∙ sym (settles.names q);
        had = λ q. ap (λ (xs : List Binding). if bytes_eq (folder_of q) folder then [] else xs) (kept.shows.had q) ∙ sym (settles.had q);
        bytes = kept.shows.bytes;
        synced = kept.shows.synced;
        doubted = kept.shows.doubted;
      }))
      (subst (λ (x : Loose). IsSound x (length nodes)) (sym made) (folder_sound l folder (length nodes) kept.sound))

  -- a node that is new, or not
  pub keeps_node : (t : Bool) (more : List Node) (v : Node) → more ≡ (if t then nodes ++ v ∷ [] else nodes) → v.bytes.items ≡ [] → v.synced ≡ 0 → v.doubted ≡ false → Keeps names more old
  keeps_node true more v is bytes synced doubted = subst (λ (xs : List Node). Keeps names xs old) (sym is) (record {
    shows = record {
      names = kept.shows.names;
      had = kept.shows.had;
      bytes = λ n. kept.shows.bytes n ∙ sym (node_push (λ (x : Node). x.bytes.items) [] nodes v bytes n);
      synced = λ n. kept.shows.synced n ∙ sym (node_push (λ (x : Node). x.synced) 0 nodes v synced n);
      doubted = λ n. kept.shows.doubted n ∙ sym (node_push (λ (x : Node). x.doubted) false nodes v doubted n);
    };
    sound =
        let long : length (nodes ++ v ∷ []) ≡ length nodes + 1 = length-append nodes (v ∷ []) in
        let s = kept.sound in
        record {
          whole = s.whole;
          grounded = s.grounded;
          synced = s.synced;
          named = λ q n m. let lt = s.named q n m in omega (arith, lt, long);
          empty = λ n ge. s.empty n (omega (arith, ge, long));
          sure = λ n ge. s.sure n (omega (arith, ge, long));
        };
  })
  keeps_node false more v is bytes synced doubted = subst (λ (xs : List Node). Keeps names xs old) (sym is) kept

  module _ (n : ℕ) (v d : Node) (lt : n < length nodes) where
    abbrev others : List Node
    others = set nodes n v

    as_many : (x : Loose) → IsSound x (length nodes) → IsSound x (length others)
    as_many x s = subst (λ (k : ℕ). IsSound x k) (sym (length-set nodes n v)) s

    -- the node's parts stay
    pub keeps_unwritten : v.bytes.items ≡ (get_or nodes n d).bytes.items → v.synced ≡ (get_or nodes n d).synced → v.doubted ≡ (get_or nodes n d).doubted → (new : List Call) → new ≡ old → Keeps names others new
    keeps_unwritten bytes synced doubted new is = subst (λ (x : List Call). Keeps names others x) (sym is) (record {
      shows = record {
        names = kept.shows.names;
        had = kept.shows.had;
        bytes = λ m. kept.shows.bytes m ∙ sym (node_same (λ (x : Node). x.bytes.items) [] nodes n v d lt bytes m);
        synced = λ m. kept.shows.synced m ∙ sym (node_same (λ (x : Node). x.synced) 0 nodes n v d lt synced m);
        doubted = λ m. kept.shows.doubted m ∙ sym (node_same (λ (x : Node). x.doubted) false nodes n v d lt doubted m);
      };
      sound = as_many l kept.sound;
    })

    pub keeps_appended : (new : List Call) (call : Call) (more : List ℕ) → new ≡ old ++ call ∷ [] → after l call ≡ appended l n more → v.bytes.items ≡ (get_or nodes n d).bytes.items ++ more → v.synced ≡ (get_or nodes n d).synced → v.doubted ≡ (get_or nodes n d).doubted → Keeps names others new
    keeps_appended new call more is made bytes synced doubted = keeps_on names others old new call is
        (subst (λ (x : Loose). Shows names others x) (sym made) (record {
          names = kept.shows.names;
          had = kept.shows.had;
          bytes = λ m. ap (λ (xs : List ℕ). if m == n then xs ++ more else xs) (kept.shows.bytes m)
              ∙ sym (node_if (λ (x : Node). x.bytes.items) [] nodes n v (λ k. of_node (λ (x : Node). x.bytes.items) [] nodes k ++ more) lt
              (bytes ∙ ap (λ (xs : List ℕ). xs ++ more) (sym (node_at (λ (x : Node). x.bytes.items) [] nodes n d lt))) m);
          synced = λ m. kept.shows.synced m ∙ sym (node_same (λ (x : Node). x.synced) 0 nodes n v d lt synced m);
          doubted = λ m. kept.shows.doubted m ∙ sym (node_same (λ (x : Node). x.doubted) false nodes n v d lt doubted m);
        }))
        (as_many (after l call) (subst (λ (x : Loose). IsSound x (length nodes)) (sym made) (appended_sound l n more (length nodes) lt kept.sound)))

    pub keeps_synced : (new : List Call) (call : Call) → new ≡ old ++ call ∷ [] → after l call ≡ node_synced l n → v.bytes.items ≡ (get_or nodes n d).bytes.items → v.synced ≡ length (get_or nodes n d).bytes.items → v.doubted ≡ (get_or nodes n d).doubted → Keeps names others new
    keeps_synced new call is made bytes synced doubted = keeps_on names others old new call is
        (subst (λ (x : Loose). Shows names others x) (sym made) (record {
          names = kept.shows.names;
          had = kept.shows.had;
          bytes = λ m. kept.shows.bytes m ∙ sym (node_same (λ (x : Node). x.bytes.items) [] nodes n v d lt bytes m);
          synced = λ m. ap (λ (k : ℕ). if m == n then length (l.bytes m) else k) (kept.shows.synced m)
              ∙ ap (λ (xs : List ℕ). if m == n then length xs else of_node (λ (x : Node). x.synced) 0 nodes m) (kept.shows.bytes m)
              ∙ sym (node_if (λ (x : Node). x.synced) 0 nodes n v (λ k. length (of_node (λ (x : Node). x.bytes.items) [] nodes k)) lt
              (synced ∙ ap (λ (xs : List ℕ). length xs) (sym (node_at (λ (x : Node). x.bytes.items) [] nodes n d lt))) m);
          doubted = λ m. kept.shows.doubted m ∙ sym (node_same (λ (x : Node). x.doubted) false nodes n v d lt doubted m);
        }))
        (as_many (after l call) (subst (λ (x : Loose). IsSound x (length nodes)) (sym made) (synced_sound l n (length nodes) kept.sound)))

    pub keeps_doubted : (new : List Call) (call : Call) → new ≡ old ++ call ∷ [] → after l call ≡ node_doubted l n → v.bytes.items ≡ (get_or nodes n d).bytes.items → v.synced ≡ (get_or nodes n d).synced → v.doubted ≡ true → Keeps names others new
    keeps_doubted new call is made bytes synced doubted = keeps_on names others old new call is
        (subst (λ (x : Loose). Shows names others x) (sym made) (record {
          names = kept.shows.names;
          had = kept.shows.had;
          bytes = λ m. kept.shows.bytes m ∙ sym (node_same (λ (x : Node). x.bytes.items) [] nodes n v d lt bytes m);
          synced = λ m. kept.shows.synced m ∙ sym (node_same (λ (x : Node). x.synced) 0 nodes n v d lt synced m);
          doubted = λ m. ap (λ (t : Bool). if m == n then true else t) (kept.shows.doubted m)
              ∙ sym (node_if (λ (x : Node). x.doubted) false nodes n v (λ k. true) lt doubted m);
        }))
        (as_many (after l call) (subst (λ (x : Loose). IsSound x (length nodes)) (sym made) (doubted_sound l n (length nodes) lt kept.sound)))

-- ---- a folder's names, one after the other

abbrev pub SettledTo : List ℕ → ℕ → List Name → List Name → Type 0
SettledTo folder zero olds news = news ≡ olds
SettledTo folder (suc i) [] news = news ≡ []
SettledTo folder (suc i) (o ∷ olds) [] = ⊥
SettledTo folder (suc i) (o ∷ olds) (n ∷ news) = Settled folder o n × SettledTo folder i olds news

pub settled_more : (folder : List ℕ) (i : ℕ) (olds news : List Name) (d e : Name) → i < length news → SettledTo folder i olds news → Settled folder (get_or news i d) e → SettledTo folder (suc i) olds (set news i e)
settled_more folder zero [] news d e lt to is = absurd (let long = ap length to in omega (arith, long, lt))
settled_more folder zero (o ∷ olds) [] d e lt to is = absurd (omega (arith, lt))
settled_more folder zero (o ∷ olds) (n ∷ news) d e lt to is =
    let head : n ≡ o = cc in
    let rest : news ≡ olds = cc in
    (subst (λ (x : Name). Settled folder x e) head is, rest)
settled_more folder (suc i) [] news d e lt to is = absurd (let long = ap length to in omega (arith, long, lt))
settled_more folder (suc i) (o ∷ olds) [] d e lt to is = absurd to
settled_more folder (suc i) (o ∷ olds) (n ∷ news) d e lt to is = (to.0, settled_more folder i olds news d e (omega (arith, lt)) to.1 is)

pub settled_long : (folder : List ℕ) (i : ℕ) (olds news : List Name) → SettledTo folder i olds news → length news ≡ length olds
settled_long folder zero olds news to = ap length to
settled_long folder (suc i) [] news to = ap length to
settled_long folder (suc i) (o ∷ olds) [] to = absurd to
settled_long folder (suc i) (o ∷ olds) (n ∷ news) to = let same = settled_long folder i olds news to.1 in omega (arith, same)

either : (t : Bool) → let none : List Binding = [] in none ≡ (if t then none else none)
either true = refl
either false = refl

none_settled : (folder : List ℕ) (i : ℕ) (olds news : List Name) (q : List ℕ) → SettledTo folder i olds news → FindsNone olds q → FindsNone news q
none_settled folder zero olds news q to none = subst (λ (xs : List Name). FindsNone xs q) (sym to) none
none_settled folder (suc i) [] news q to none = subst (λ (xs : List Name). FindsNone xs q) (sym to) tt
none_settled folder (suc i) (o ∷ olds) [] q to none = tt
none_settled folder (suc i) (o ∷ olds) (n ∷ news) q to none = ((λ e. none.0 (sym to.0.path ∙ e)), none_settled folder i olds news q to.1 none.1)

pub apart_settled : (folder : List ℕ) (i : ℕ) (olds news : List Name) → SettledTo folder i olds news → AreApart olds → AreApart news
apart_settled folder zero olds news to apart = subst AreApart (sym to) apart
apart_settled folder (suc i) [] news to apart = subst AreApart (sym to) tt
apart_settled folder (suc i) (o ∷ olds) [] to apart = tt
apart_settled folder (suc i) (o ∷ olds) (n ∷ news) to apart = (subst (FindsNone news) (sym to.0.path) (none_settled folder i olds news (string_bytes o.path) to.1 apart.0), apart_settled folder i olds news to.1 apart.1)

settles_none : (folder : List ℕ) → Settles folder [] []
settles_none folder = record { names = λ q. refl; had = λ q. either (bytes_eq (folder_of q) folder) }

settles_next : (folder : List ℕ) (o n : Name) (olds news : List Name) → Settled folder o n → Settles folder olds news → Settles folder (o ∷ olds) (n ∷ news)
settles_next folder o n olds news one rest = record {
  names = λ q. ap (λ (p : List ℕ). if bytes_eq q p then n.now else name_in news q) one.path
      ∙ ap (λ (b : Binding). if bytes_eq q (string_bytes o.path) then b else name_in news q) one.now
      ∙ ap (λ (b : Binding). if bytes_eq q (string_bytes o.path) then o.now else b) (rest.names q);
  had = λ q. ap (λ (p : List ℕ). if bytes_eq q p then n.had.items else had_in news q) one.path ∙ ⊎_elim
      (λ yes. at_same q (string_bytes o.path) n.had.items (had_in news q) yes.0 ∙ one.had
      ∙ ap (λ (p : List ℕ). if bytes_eq (folder_of p) folder then [] else o.had.items) (sym yes.0)
      ∙ ap (λ (xs : List Binding). if bytes_eq (folder_of q) folder then [] else xs) (sym (at_same q (string_bytes o.path) o.had.items (had_in olds q) yes.0)))
      (λ away. at_other q (string_bytes o.path) n.had.items (had_in news q) away.0 ∙ rest.had q
      ∙ ap (λ (xs : List Binding). if bytes_eq (folder_of q) folder then [] else xs) (sym (at_other q (string_bytes o.path) o.had.items (had_in olds q) away.0)))
      (same_or_not q (string_bytes o.path));
}

pub settled_all : (folder : List ℕ) (i : ℕ) (olds news : List Name) → length olds ≤ i → SettledTo folder i olds news → Settles folder olds news
settled_all folder zero [] [] le to = settles_none folder
settled_all folder zero [] (n ∷ news) le to = absurd (let long = ap length to in omega (arith, long))
settled_all folder zero (o ∷ olds) news le to = absurd (omega (arith, le))
settled_all folder (suc i) [] [] le to = settles_none folder
settled_all folder (suc i) [] (n ∷ news) le to = absurd (let long = ap length to in omega (arith, long))
settled_all folder (suc i) (o ∷ olds) [] le to = absurd to
settled_all folder (suc i) (o ∷ olds) (n ∷ news) le to = settles_next folder o n olds news to.0 (settled_all folder i olds news (omega (arith, le)) to.1)

-- what was pushed is popped
pub popped : (old pushed back : List Call) (call : Call) (k : ℕ) → pushed ≡ old ++ call ∷ [] → back ≡ take k pushed → k ≡ length old → back ≡ old
popped old pushed back call k is rest long = rest ∙ ap (take k) is ∙ take_at old (call ∷ []) k (sym long)
