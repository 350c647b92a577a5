-- A walk through the key folders, entry by entry.
use Rattle.std.proofs.Common.{◌≡◌, ◌≢◌, ◌<◌, ◌≤◌, ◌^◌, ◌+◌, ◌⊎◌, ℕ, suc, List, [], ◌∷◌, ◌++◌, length, take, get_or, Some, String, string_bytes, refl, sym, ◌∙◌, ap, subst, arith, inl, inr, ⊎_elim}
use Rattle.std.specs.Prelude.{Result, Ok, Err, OnOk, Contains}
use Rattle.std.specs.List.{slice_get}
use Rattle.std.proofs.lemmas.Bool.{cases_lt}
use Rattle.std.proofs.lemmas.Option.{slice_get-get_or, slice_get_within, same_Some}
use Rattle.std.proofs.lemmas.List.Elements.{Contains-append_left, Contains-push, Contains-push_cases}
use Rattle.lists.proofs.Slices.{map_take as map_taken}
use Rattle.bits.specs.declared.refusal.Refusal.{Refusal}
use Rattle.schema.specs.Values.{ValueTree}
use Rattle.schema.specs.Keys.{KeyColumn}
use Rattle.disk.specs.Paths.{path_in}
use Rattle.disk.specs.State.{Image, IsWhole}
use Rattle.disk.specs.Calls.{AreNamesIn, IsListedAs}
use Rattle.disk.specs.declared.binding.Entry.{Entry}
use Rattle.disk.specs.declared.binding.Binding.{Binding}
use Rattle.disk.specs.declared.binding.Binding.TheVariants.{Nothing, Folder, File}
use Rattle.disk.specs.declared.binding.Kind.{Kind}
use Rattle.disk.specs.declared.binding.Kind.TheVariants as kind
use Rattle.partition.specs.Folders.{CanPartition, path, part_name_of, part_path_of}
use Rattle.partition.specs.Nesting.{path_to}
use Rattle.partition.proofs.Nested.{fewer_can_partition, folders_nest}
use Rattle.schema.specs.Keys.{key_columns_view, key_column_view}
use Rattle.schema.specs.declared.key.KeyColumn.{KeyColumn as CodeKeyColumn}
use Rattle.upkeep.specs.Strays.{IsPartPath, IsStray, AreStrays}
use Rattle.folders.specs.Entries.{IsKeyFolder, path_at, IsPartEntry, IsStrayFile, IsNoStrayFile, IsNoneBelow}
use Rattle.upkeep.specs.inner.Walk.{Adds, FindsFile, FindsFiles, IsFound, Finds, FindsBelow}
use Rattle.folders.proofs.Ways.{found_below, found_file, in_is}

-- ---- more paths

pub adds_none : (Is : List ℕ → Type 0) (paths : List (List ℕ)) → Adds Is paths paths
adds_none Is paths = record { keeps = λ q in_old. in_old; only = λ q in_new. inl in_new }

pub adds_wider : (Is Has : List ℕ → Type 0) (old new : List (List ℕ)) → ((q : List ℕ) → Is q → Has q) → Adds Is old new → Adds Has old new
adds_wider Is Has old new wider adds = record {
  keeps = adds.keeps;
  only = λ q in_new. ⊎_elim (λ before. inl before) (λ is. inr (wider q is)) (adds.only q in_new);
}

pub adds_then : (Is : List ℕ → Type 0) (old mid new : List (List ℕ)) → Adds Is old mid → Adds Is mid new → Adds Is old new
adds_then Is old mid new first second = record {
  keeps = λ q in_old. second.keeps q (first.keeps q in_old);
  only = λ q in_new. ⊎_elim (λ before. first.only q before) (λ is. inr is) (second.only q in_new);
}

-- ---- a file

module _ (Named : List ℕ → Type 0) (folder : List ℕ) (entry : Entry) where
  pub one_found : (old new : List (List ℕ)) (stray : List ℕ) → IsStrayFile Named folder entry stray → new ≡ old ++ stray ∷ [] → FindsFile Named folder entry old new
  one_found old new stray is grown = record {
    adds = record {
      keeps = λ q in_old. subst (λ (ps : List (List ℕ)). Contains ps q) (sym grown) (Contains-append_left old (stray ∷ []) q in_old);
      only = λ q in_new. ⊎_elim (λ before. inl before) (λ same. inr (subst (IsStrayFile Named folder entry) same is)) (Contains-push_cases old stray q (subst (λ (ps : List (List ℕ)). Contains ps q) grown in_new));
    };
    found = λ part unnamed. subst (λ (q : List ℕ). Contains new q) is.0 (subst (λ (ps : List (List ℕ)). Contains ps stray) (sym grown) (Contains-push old stray));
  }

  pub none_found : (paths : List (List ℕ)) → IsNoStrayFile Named folder entry → FindsFile Named folder entry paths paths
  none_found paths none = record {
    adds = adds_none (IsStrayFile Named folder entry) paths;
    found = λ part unnamed. absurd (unnamed (none part));
  }

-- ---- entry after entry

module _ {X : Type 0} (P : X → Type 0) (entries : List X) (n : ℕ) (entry : X) (within : n < length entries) (here : entry ≡ get_or entries n entry) where
  pub one_more : ((k : ℕ) (e : X) → k < n → slice_get entries k ≡ Some e → P e) → P entry → (k : ℕ) (e : X) → k < n + 1 → slice_get entries k ≡ Some e → P e
  one_more before now k e lt at = ⊎_elim
      (λ less. before k e less at)
      (λ le.
      let is : k ≡ n = omega (arith, lt, le) in
      let same : e ≡ entry = same_Some e entry (sym at ∙ ap (slice_get entries) is ∙ slice_get-get_or entries n entry within ∙ ap Some (sym here)) in
      subst P (sym same) now)
      (cases_lt k n)

pub within_all : (entries : List Entry) (n : ℕ) → length entries ≤ n → (k : ℕ) (e : Entry) → slice_get entries k ≡ Some e → k < n
within_all entries n all k e at = let lt : k < length entries = slice_get_within entries k e at in omega (arith, lt, all)

-- the files of the first n entries
pub record FilesSoFar (Named : List ℕ → Type 0) (folder : List ℕ) (entries : List Entry) (n : ℕ) (old now : List (List ℕ)) : Type 0 where
  pub adds : Adds (λ q. (i : ℕ) × (entry : Entry) × (slice_get entries i ≡ Some entry) × IsStrayFile Named folder entry q) old now
  pub each : (k : ℕ) (e : Entry) → k < n → slice_get entries k ≡ Some e → IsPartEntry e → (Named (path_at folder e) → ⊥) → Contains now (path_at folder e)

pub no_files : (Named : List ℕ → Type 0) (folder : List ℕ) (entries : List Entry) (paths : List (List ℕ)) → FilesSoFar Named folder entries 0 paths paths
no_files Named folder entries paths = record {
  adds = adds_none (λ q. (i : ℕ) × (entry : Entry) × (slice_get entries i ≡ Some entry) × IsStrayFile Named folder entry q) paths;
  each = λ k e lt at part unnamed. absurd (omega (arith, lt));
}

pub more_files : (Named : List ℕ → Type 0) (folder : List ℕ) (entries : List Entry) (n : ℕ) (entry : Entry) → n < length entries → entry ≡ get_or entries n entry
    → (old mid new : List (List ℕ)) → FilesSoFar Named folder entries n old mid → FindsFile Named folder entry mid new → FilesSoFar Named folder entries (n + 1) old new
more_files Named folder entries n entry within here old mid new before one =
    let Is : List ℕ → Type 0 = λ q. (i : ℕ) × (e : Entry) × (slice_get entries i ≡ Some e) × IsStrayFile Named folder e q in
    let at : slice_get entries n ≡ Some entry = slice_get-get_or entries n entry within ∙ ap Some (sym here) in
    record {
      adds = adds_then Is old mid new before.adds (adds_wider (IsStrayFile Named folder entry) Is mid new (λ q is. (n, entry, at, is)) one.adds);
      each = one_more (λ (e : Entry). IsPartEntry e → (Named (path_at folder e) → ⊥) → Contains new (path_at folder e)) entries n entry within here
          (λ k e lt there part unnamed. one.adds.keeps (path_at folder e) (before.each k e lt there part unnamed)) one.found;
    }

pub all_files : (Named : List ℕ → Type 0) (folder : List ℕ) (entries : List Entry) (n : ℕ) (old new : List (List ℕ)) → length entries ≤ n → FilesSoFar Named folder entries n old new → FindsFiles Named folder entries old new
all_files Named folder entries n old new all so_far = record {
  adds = so_far.adds;
  found = λ i e at. so_far.each i e (within_all entries n all i e at) at;
}

-- ---- strays

is_file : (b : Binding) → IsListedAs b kind.File → (n : ℕ) × (b ≡ File n)
is_file Nothing listed = absurd listed
is_file Folder listed = absurd (cc listed)
is_file (File n) listed = (n, refl)

part_path : (keys : List KeyColumn) (folder : List ℕ) (entry : Entry) → IsKeyFolder keys folder → IsPartEntry entry → IsPartPath keys (path_at folder entry)
part_path keys folder entry key part = (
  key.0,
  part.0,
  key.1,
  part.1,
  ap (λ (f : List ℕ). path_in f (string_bytes entry.name)) (sym key.2) ∙ ap (path_in (path keys key.0)) part.2 ∙ sym (in_is (path keys key.0) (part_name_of part.0)),
)

module _ (keys : List KeyColumn) (Named : List ℕ → Type 0) where
  -- the names that are read are the same
  module _ (i j : Image) (same : (q : List ℕ) → j.names q ≡ i.names q) where
    stray_before : (q : List ℕ) → IsStray j keys Named q → IsStray i keys Named q
    stray_before q is = record { node = is.node; file = sym (same q) ∙ is.file; part = is.part; unnamed = is.unnamed }

    found_before : (depth : ℕ) (folder : List ℕ) (paths : List (List ℕ)) → IsFound keys Named depth folder j paths → IsFound keys Named depth folder i paths
    found_before depth folder paths found key number node can small on at unnamed = found key number node can small on (same _ ∙ at) unnamed

    pub finds_before : (depth : ℕ) (folder : List ℕ) (old new : List (List ℕ)) → Finds keys Named depth folder j old new → Finds keys Named depth folder i old new
    finds_before depth folder old new finds = record {
      adds = adds_wider (IsStray j keys Named) (IsStray i keys Named) old new stray_before finds.adds;
      found = found_before depth folder new finds.found;
    }

    pub below_before : (depth : ℕ) (folder : List ℕ) (entry : Entry) (old new : List (List ℕ)) → FindsBelow keys Named depth folder entry j old new → FindsBelow keys Named depth folder entry i old new
    below_before depth folder entry old new finds = record {
      adds = adds_wider (IsStray j keys Named) (IsStray i keys Named) old new stray_before finds.adds;
      found = λ is_folder. found_before depth (path_at folder entry) new (finds.found is_folder);
    }

  -- a key folder
  pub files_are : (image : Image) → IsWhole image → (folder : List ℕ) (entries : List Entry) → AreNamesIn image folder entries → IsKeyFolder keys folder → (old new : List (List ℕ))
      → FindsFiles Named folder entries old new → Finds keys Named (length keys) folder image old new
  files_are image whole folder entries listed is_key old new finds = record {
    adds = adds_wider (λ q. (i : ℕ) × (entry : Entry) × (slice_get entries i ≡ Some entry) × IsStrayFile Named folder entry q) (IsStray image keys Named) old new
        (λ q is.
        let e = is.1 in
        let part = is.3.1 in
        let K : Kind → Type 0 = λ k. IsListedAs (image.names (path_at folder e)) k in
        let file = is_file (image.names (path_at folder e)) (subst K part.3 (listed.each is.0 e is.2).1) in
        record {
          node = file.0;
          file = ap image.names is.3.0 ∙ file.1;
          part = subst (IsPartPath keys) (sym is.3.0) (part_path keys folder e is_key part);
          unnamed = λ named. is.3.2 (subst Named is.3.0 named);
        }) finds.adds;
    found = λ key number node can small on at unnamed.
        let end : path keys key ≡ folder = sym (folders_nest keys key can.values).whole ∙ on in
        let found = found_file keys key can.values image whole number small node at folder entries end listed in
        subst (λ (q : List ℕ). Contains new q) (sym found.5) (finds.found found.0 found.1 found.2 (number, small, found.4, found.3) (λ named. unnamed (subst Named (sym found.5) named)));
  }

  -- the first n entries of a folder above
  pub record SoFar (depth : ℕ) (folder : List ℕ) (entries : List Entry) (n : ℕ) (image : Image) (old now : List (List ℕ)) : Type 0 where
    pub adds : Adds (IsStray image keys Named) old now
    pub each : (k : ℕ) (e : Entry) → k < n → slice_get entries k ≡ Some e → e.kind ≡ kind.Folder → IsFound keys Named depth (path_at folder e) image now

  pub nothing_so_far : (depth : ℕ) (folder : List ℕ) (entries : List Entry) (image : Image) (paths : List (List ℕ)) → SoFar depth folder entries 0 image paths paths
  nothing_so_far depth folder entries image paths = record {
    adds = adds_none (IsStray image keys Named) paths;
    each = λ k e lt at is_folder. absurd (omega (arith, lt));
  }

  found_later : (depth : ℕ) (folder : List ℕ) (image : Image) (mid new : List (List ℕ)) → ((q : List ℕ) → Contains mid q → Contains new q) → IsFound keys Named depth folder image mid → IsFound keys Named depth folder image new
  found_later depth folder image mid new keeps found key number node can small on at unnamed = keeps _ (found key number node can small on at unnamed)

  pub more_so_far : (depth : ℕ) (folder : List ℕ) (entries : List Entry) (n : ℕ) (entry : Entry) → n < length entries → entry ≡ get_or entries n entry → (image : Image) (old mid new : List (List ℕ))
      → SoFar depth folder entries n image old mid → FindsBelow keys Named depth folder entry image mid new → SoFar depth folder entries (n + 1) image old new
  more_so_far depth folder entries n entry within here image old mid new before one = record {
    adds = adds_then (IsStray image keys Named) old mid new before.adds one.adds;
    each = one_more (λ (e : Entry). e.kind ≡ kind.Folder → IsFound keys Named depth (path_at folder e) image new) entries n entry within here
        (λ k e lt at is_folder. found_later depth (path_at folder e) image mid new one.adds.keeps (before.each k e lt at is_folder)) one.found;
  }

  pub below_are : (image : Image) → IsWhole image → (depth : ℕ) (folder : List ℕ) (entries : List Entry) (n : ℕ) → depth < length keys → length entries ≤ n → AreNamesIn image folder entries → (old new : List (List ℕ))
      → SoFar (depth + 1) folder entries n image old new → Finds keys Named depth folder image old new
  below_are image whole depth folder entries n deep all listed old new so_far = record {
    adds = so_far.adds;
    found = λ key number node can small on at unnamed.
        let found = found_below keys key can.values image whole number small node at folder entries depth deep on listed in
        let next : depth + 1 ≡ suc depth = omega arith in
        so_far.each found.0 found.1 (within_all entries n all found.0 found.1 found.2) found.2 found.3 key number node can small (ap (path_to keys key) next ∙ found.4) at unnamed;
  }

  -- no key has this folder
  pub none_below : (depth : ℕ) (folder : List ℕ) (entry : Entry) (image : Image) (paths : List (List ℕ)) → IsNoneBelow (take depth keys) folder entry → FindsBelow keys Named depth folder entry image paths paths
  none_below depth folder entry image paths none = record {
    adds = adds_none (IsStray image keys Named) paths;
    found = λ is_folder key number node can small on at unnamed. absurd (none is_folder (take depth key, fewer_can_partition depth keys key can, on));
  }

  pub folder_below : (depth : ℕ) (folder : List ℕ) (entry : Entry) (image : Image) (old new : List (List ℕ)) (below : List ℕ) → below ≡ path_at folder entry → Finds keys Named depth below image old new → FindsBelow keys Named depth folder entry image old new
  folder_below depth folder entry image old new below is finds = record {
    adds = finds.adds;
    found = λ is_folder. subst (λ (f : List ℕ). IsFound keys Named depth f image new) is finds.found;
  }

  pub all_strays : (image : Image) (found : List (List ℕ)) → Finds keys Named 0 [] image [] found → AreStrays image keys Named found
  all_strays image found finds q = (
    (λ among. ⊎_elim (λ before. absurd (omega (arith, before.1))) (λ is. is) (finds.adds.only q among)),
    (λ is.
        let part = is.part in
        let e = part.4 in
        subst (λ (p : List ℕ). Contains found p) (sym e) (finds.found part.0 part.1 is.node part.2 part.3 refl (ap image.names (sym e) ∙ is.file) (λ named. is.unnamed (subst Named (sym e) named)))),
  )

pub columns_front : (n : ℕ) (ks front : List CodeKeyColumn) → front ≡ take n ks → key_columns_view front ≡ take n (key_columns_view ks)
columns_front n ks front cut = ap key_columns_view cut ∙ map_taken key_column_view n ks

pub names_in : (i j : Image) (folder : List ℕ) (entries now : List Entry) → ((q : List ℕ) → j.names q ≡ i.names q) → now ≡ entries → AreNamesIn i folder entries → AreNamesIn j folder now
names_in i j folder entries now same is listed = subst (AreNamesIn j folder) (sym is) (record {
  each = λ k e at. let was = listed.each k e at in let P : Binding → Type 0 = λ b. IsListedAs b e.kind in (was.0, subst P (sym (same _)) was.1);
  every = λ name named some. listed.every name named (λ none. some (same _ ∙ none));
  once = listed.once;
})
