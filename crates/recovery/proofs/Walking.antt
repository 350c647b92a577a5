-- A walk through the key folders, entry by entry.
use Rattle.std.proofs.Common.{◌≡◌, ◌≢◌, ◌<◌, ◌≤◌, ◌+◌, ℕ, suc, List, [], length, take, get_or, true, Some, String, string_bytes, refl, sym, ◌∙◌, ap, subst, arith, inl, inr, ⊎_elim}
use Rattle.std.specs.Prelude.{Result, Ok, Err, OnOk, is_ok}
use Rattle.std.specs.List.{slice_get}
use Rattle.std.specs.declared.alloc.Global.{Global}
use Rattle.std.proofs.lemmas.Bool.{cases_lt, false≢true}
use Rattle.std.proofs.lemmas.Option.{slice_get-get_or, slice_get_within, same_Some}
use Rattle.lists.proofs.Slices.{map_take as map_taken}
use Rattle.lists.proofs.Lists.{length_map as count_map}
use Rattle.bits.specs.declared.refusal.Refusal.{Refusal}
use Rattle.schema.specs.Keys.{KeyColumn}
use Rattle.disk.specs.Paths.{path_in}
use Rattle.disk.specs.State.{Image, State, IsLawful}
use Rattle.disk.specs.Calls.{AreNamesIn, IsListedAs}
use Rattle.disk.specs.declared.binding.Entry.{Entry}
use Rattle.disk.specs.declared.binding.Binding.{Binding}
use Rattle.disk.specs.declared.binding.Binding.TheVariants.{Nothing, File}
use Rattle.disk.specs.declared.binding.Kind.TheVariants as kind
use Rattle.vault.specs.Views.{IsNoRoot, next_path}
use Rattle.vault.specs.Calls.{Forgets, LeavesAll}
use Rattle.partition.specs.Folders.{path, part_name_of, IsRoot, PartPathsAreNotRoots}
use Rattle.partition.specs.Nesting.{path_to}
use Rattle.partition.proofs.Nested.{fewer_can_partition, folders_nest}
use Rattle.manifest.specs.Groups.{Root}
use Rattle.schema.specs.Keys.{key_columns_view, key_column_view}
use Rattle.schema.specs.declared.key.KeyColumn.{KeyColumn as CodeKeyColumn}
use Rattle.folders.specs.declared.named_parts.NamedParts.{NamedParts}
use Rattle.folders.specs.Named.{IsNamed, IsIn, AreNamed}
use Rattle.folders.specs.Entries.{IsKeyFolder, path_at, IsPartEntry, IsNoneBelow, IsStrayFile}
use Rattle.recovery.specs.Opening.{IsPartPath, IsLitter, IsClean}
use Rattle.recovery.specs.inner.Sweeps.{HasNoNewFile, IsSwept, LeavesSwept, IsLitterAt, LeavesFile, LeavesBelow}
use Rattle.folders.proofs.Ways.{found_below, found_file, in_is}
use Rattle.recovery.proofs.Sweeping.{no_new_gone, no_new_on, no_new_read}

-- ---- a part file that the root does not name

no_file : (b : Binding) (node : ℕ) → b ≡ File node → b ≢ Nothing
no_file b node is_file is_nothing = cc

part_path : (root : Root) (folder : List ℕ) (entry : Entry) → IsKeyFolder root.keys folder → IsPartEntry entry → IsPartPath root (path_at folder entry)
part_path root folder entry key part = (
  key.0,
  part.0,
  key.1,
  part.1,
  ap (λ (f : List ℕ). path_in f (string_bytes entry.name)) (sym key.2) ∙ ap (path_in (path root.keys key.0)) part.2 ∙ sym (in_is (path root.keys key.0) (part_name_of part.0)),
)

-- what is not among the paths that the root names is litter
pub stray_is_litter : (root : Root) (named : NamedParts) → AreNamed root named → (folder : List ℕ) (entry : Entry) (stray : String Global)
    → IsStrayFile (IsIn named) folder entry (string_bytes stray) → IsLitterAt root folder entry stray
stray_is_litter root named are folder entry stray is = (is.0, is.1, λ by_root. is.2 ((are (path_at folder entry)).1 by_root))

module _ (root : Root) (folder : List ℕ) (entry : Entry) (key : IsKeyFolder root.keys folder) (litter : String Global) (is : IsLitterAt root folder entry litter) where
  pub litter_is_part : IsPartPath root (string_bytes litter)
  litter_is_part = subst (IsPartPath root) (sym is.0) (part_path root folder entry key is.1)

  pub is_litter : IsLitter root (string_bytes litter)
  is_litter = inr (litter_is_part, (λ named. is.2 (subst (IsNamed root) is.0 named)))

  pub litter_is_no_root : PartPathsAreNotRoots → IsNoRoot (string_bytes litter)
  litter_is_no_root law =
      let part = litter_is_part in
      let off = λ (r : List ℕ) (is_root : IsRoot r). (law root.keys part.0 part.1 r part.3 is_root).0 in (
        (λ e. off _ (inl refl) (sym part.4 ∙ e)),
        (λ e. off _ (inr refl) (sym part.4 ∙ e)),
      )

  -- it is gone
  pub litter_gone : (old new : State) (x : Unit {0}) → Forgets (string_bytes litter) old new (Ok x) → LeavesFile root folder entry old new
  litter_gone old new x forget = record {
    files = no_new_gone (string_bytes litter) old new x forget;
    named = λ part node at. absurd (no_file (new.seen.names (string_bytes litter)) node (ap new.seen.names is.0 ∙ at) forget.gone);
  }

-- ---- entry after entry

-- the n-th entry is this one
module _ {X : Type 0} (P : X → Type 0) (entries : List X) (n : ℕ) (entry : X) (within : n < length entries) (here : entry ≡ get_or entries n entry) where
  pub one_more : ((k : ℕ) (e : X) → k < n → slice_get entries k ≡ Some e → P e) → P entry → (k : ℕ) (e : X) → k < n + 1 → slice_get entries k ≡ Some e → P e
  one_more before now k e lt at = ⊎_elim
      (λ less. before k e less at)
      (λ le.
      let is : k ≡ n = omega (arith, lt, le) in
      let same : e ≡ entry = same_Some e entry (sym at ∙ ap (slice_get entries) is ∙ slice_get-get_or entries n entry within ∙ ap Some (sym here)) in
      subst P (sym same) now)
      (cases_lt k n)

pub none_yet : {X : Type 0} (P : X → Type 0) (entries : List X) → (k : ℕ) (e : X) → k < 0 → slice_get entries k ≡ Some e → P e
none_yet P entries k e lt at = absurd (omega (arith, lt))

-- the root names what is read at the path of an entry
abbrev pub IsFileNamed : Root → List ℕ → State → Entry → Type 0
IsFileNamed root folder state entry = IsPartEntry entry → (node : ℕ) → state.seen.names (path_at folder entry) ≡ File node → IsNamed root (path_at folder entry)

-- so it is below an entry
abbrev pub IsBelowSwept : Root → ℕ → List ℕ → State → Entry → Type 0
IsBelowSwept root depth folder state entry = entry.kind ≡ kind.Folder → IsSwept root depth (path_at folder entry) state

-- the first n entries are dealt with
pub record SoFar (P : State → Entry → Type 0) (entries : List Entry) (n : ℕ) (old now : State) : Type 0 where
  pub files : HasNoNewFile old now
  pub each : (k : ℕ) (e : Entry) → k < n → slice_get entries k ≡ Some e → P now e

pub nothing_so_far : (P : State → Entry → Type 0) (entries : List Entry) (s : State) → SoFar P entries 0 s s
nothing_so_far P entries s = record { files = λ q node is. is; each = none_yet (P s) entries }

-- where nothing new came since
abbrev pub Lasts : (State → Entry → Type 0) → State → State → Type 0
Lasts P mid new = (e : Entry) → P mid e → P new e

pub more_so_far : (P : State → Entry → Type 0) (entries : List Entry) (n : ℕ) (entry : Entry) → n < length entries → entry ≡ get_or entries n entry
    → (old mid new : State) → Lasts P mid new → SoFar P entries n old mid → HasNoNewFile mid new → P new entry → SoFar P entries (n + 1) old new
more_so_far P entries n entry within here old mid new lasts before files now = record {
  files = λ q node is. before.files q node (files q node is);
  each = one_more (P new) entries n entry within here (λ k e lt at. lasts e (before.each k e lt at)) now;
}

pub file_lasts : (root : Root) (folder : List ℕ) (mid new : State) → HasNoNewFile mid new → Lasts (IsFileNamed root folder) mid new
file_lasts root folder mid new files e named part node at = named part node (files (path_at folder e) node at)

pub below_lasts : (root : Root) (depth : ℕ) (folder : List ℕ) (mid new : State) → HasNoNewFile mid new → Lasts (IsBelowSwept root depth folder) mid new
below_lasts root depth folder mid new files e swept is_folder key number node can small on at = swept is_folder key number node can small on (files _ node at)

-- ---- whole folders

names_in : (i j : Image) (folder : List ℕ) (entries : List Entry) → ((q : List ℕ) → j.names q ≡ i.names q) → AreNamesIn i folder entries → AreNamesIn j folder entries
names_in i j folder entries same listed = record {
  each = λ k e at. let was = listed.each k e at in let P : Binding → Type 0 = λ b. IsListedAs b e.kind in (was.0, subst P (sym (same _)) was.1);
  every = λ name is some. listed.every name is (λ none. some (same _ ∙ none));
  once = listed.once;
}

module _ (root : Root) (folder : List ℕ) (entries : List Entry) (old new : State) (lawful : IsLawful old) (honest : old.honest) (listed : AreNamesIn old.seen folder entries) where
  within : (n : ℕ) → length entries ≤ n → (k : ℕ) (e : Entry) → slice_get entries k ≡ Some e → k < n
  within n all k e at = let lt : k < length entries = slice_get_within entries k e at in omega (arith, lt, all)

  pub files_swept : (n : ℕ) → length entries ≤ n → SoFar (IsFileNamed root folder) entries n old new → LeavesSwept root (length root.keys) folder old new
  files_swept n all so_far = record {
    files = so_far.files;
    parts = λ key number node can small on at.
        let whole = lawful.whole honest old.moment old.seen (lawful.seen_may_stay honest) in
        let end : path root.keys key ≡ folder = sym (folders_nest root.keys key can.values).whole ∙ on in
        let found = found_file root.keys key can.values old.seen whole number small node (so_far.files _ node at) folder entries end listed in
        subst (IsNamed root) (sym found.5) (so_far.each found.0 found.1 (within n all found.0 found.1 found.2) found.2 (number, small, found.4, found.3) node (ap new.seen.names (sym found.5) ∙ at));
  }

  pub below_swept : (depth n : ℕ) → depth < length root.keys → length entries ≤ n → SoFar (IsBelowSwept root (depth + 1) folder) entries n old new → LeavesSwept root depth folder old new
  below_swept depth n deep all so_far = record {
    files = so_far.files;
    parts = λ key number node can small on at.
        let whole = lawful.whole honest old.moment old.seen (lawful.seen_may_stay honest) in
        let found = found_below root.keys key can.values old.seen whole number small node (so_far.files _ node at) folder entries depth deep on listed in
        let next : depth + 1 ≡ suc depth = omega arith in
        so_far.each found.0 found.1 (within n all found.0 found.1 found.2) found.2 found.3 key number node can small (ap (path_to root.keys key) next ∙ found.4) at;
  }

-- ---- after a listing

pub swept_after : (root : Root) (depth : ℕ) (folder : List ℕ) (s0 s1 s2 : State) → LeavesAll s0 s1 → LeavesSwept root depth folder s1 s2 → LeavesSwept root depth folder s0 s2
swept_after root depth folder s0 s1 s2 all swept = record { files = no_new_on s0 s1 s2 (no_new_read s0 s1 all) swept.files; parts = swept.parts }

pub listed_after : (s0 s1 : State) (folder : List ℕ) (entries now : List Entry) → LeavesAll s0 s1 → now ≡ entries → AreNamesIn s0.seen folder entries → AreNamesIn s1.seen folder now
listed_after s0 s1 folder entries now all same listed = names_in s0.seen s1.seen folder now all.names (subst (AreNamesIn s0.seen folder) (sym same) listed)

pub count_columns : (ks : List CodeKeyColumn) (columns : List KeyColumn) → key_columns_view ks ≡ columns → length ks ≡ length columns
count_columns ks columns is = sym (count_map key_column_view ks) ∙ ap length is

pub columns_front : (n : ℕ) (ks front : List CodeKeyColumn) (columns : List KeyColumn) → front ≡ take n ks → key_columns_view ks ≡ columns → key_columns_view front ≡ take n columns
columns_front n ks front columns cut is = ap key_columns_view cut ∙ map_taken key_column_view n ks ∙ ap (take n) is

-- no key has this folder
pub none_swept : (root : Root) (depth : ℕ) (folder : List ℕ) (entry : Entry) (s : State) → IsNoneBelow (take depth root.keys) folder entry → LeavesBelow root depth folder entry s s
none_swept root depth folder entry s none = record {
  files = λ q node is. is;
  parts = λ is_folder key number node can small on at. absurd (none is_folder (take depth key, fewer_can_partition depth root.keys key can, on));
}

pub holds_at_ok : {T : Type 0} (P : Type 0) (r : Result T Refusal) → is_ok r ≡ true → OnOk r P → P
holds_at_ok P (Ok x) is holds = holds
holds_at_ok P (Err e) is holds = absurd (false≢true is)

pub cleaned : (root : Root) (s0 s1 s2 : State) (r : Result (Unit {0}) Refusal) → LeavesSwept root 0 [] s0 s1 → Forgets next_path s1 s2 r → is_ok r ≡ true → IsClean root s2
cleaned root s0 s1 s2 (Ok x) swept forget is = record {
  next = forget.gone;
  parts = λ q part node at. subst (IsNamed root) (sym part.4)
      (swept.parts part.0 part.1 node part.2 part.3 refl (no_new_gone next_path s1 s2 x forget _ node (ap s2.seen.names (sym part.4) ∙ at)));
}
cleaned root s0 s1 s2 (Err e) swept forget is = absurd (false≢true is)
