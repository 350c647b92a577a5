-- The folders on the way to a part file, one key column after another, as the disk names them.
use Rattle.std.proofs.Common.{◌≡◌, ◌≢◌, ◌<◌, ◌≤◌, ◌^◌, ◌+◌, ◌-◌, ℕ, zero, suc, true, List, [], ◌∷◌, length, get_or, string_bytes, Some, refl, sym, ◌∙◌, ap, subst, arith}
use Rattle.std.specs.List.{AllByRecursion, slice_get}
use Rattle.schema.specs.Values.{ValueTree}
use Rattle.schema.specs.Keys.{KeyColumn}
use Rattle.disk.specs.Paths.{slash, path_in, IsName}
use Rattle.disk.specs.State.{Image, IsWhole}
use Rattle.disk.specs.Calls.{AreNamesIn, IsListedAs}
use Rattle.disk.specs.declared.binding.Entry.{Entry}
use Rattle.disk.specs.declared.binding.Kind.TheVariants as kind
use Rattle.disk.specs.declared.binding.Binding.{Binding}
use Rattle.disk.specs.declared.binding.Binding.TheVariants.{Nothing, Folder, File}
use Rattle.disk.proofs.Texts.{folder_of-path_in}
use Rattle.partition.specs.Folders.{path, is_key, name_in, part_name_of, part_path_of}
use Rattle.partition.specs.Nesting.{IsPlainName, path_to, folder_at}
use Rattle.partition.proofs.Nested.{folders_nest, part_names_are_plain}

-- one definition, in two crates
pub in_is : (folder name : List ℕ) → name_in folder name ≡ path_in folder name
in_is [] name = refl
in_is (b ∷ rest) name = refl

plain_at : (name : List ℕ) → AllByRecursion (λ b. b ≢ 47) name → (i : ℕ) → i < length name → get_or name i 0 ≢ slash
plain_at [] all i lt = absurd (omega (arith, lt))
plain_at (b ∷ name) all zero lt = all.0
plain_at (b ∷ name) all (suc i) lt = plain_at name all.1 i (omega (arith, lt))

pub is_name : (name : List ℕ) → IsPlainName name → IsName name
is_name name is = record { some = is.some; plain = plain_at name is.plain }

module _ (columns : List KeyColumn) (key : List ValueTree) (is : is_key columns key ≡ true) where
  next_is_name : (d : ℕ) → d < length columns → IsName (folder_at columns key d)
  next_is_name d lt = is_name (folder_at columns key d) ((folders_nest columns key is).names d lt)

  path_more : (d : ℕ) → d < length columns → path_to columns key (suc d) ≡ path_in (path_to columns key d) (folder_at columns key d)
  path_more d lt = (folders_nest columns key is).nest d lt ∙ in_is (path_to columns key d) (folder_at columns key d)

  -- below an absent folder is nothing
  module _ (image : Image) (whole : IsWhole image) where
    above : (folder name : List ℕ) → IsName name → image.names (path_in folder name) ≢ Nothing → image.names folder ≡ Folder
    above folder name named some = ap image.names (sym (folder_of-path_in folder name named)) ∙ whole.below (path_in folder name) some

    no_folder_is_nothing : (b : Binding) → b ≡ Folder → b ≢ Nothing
    no_folder_is_nothing b is_folder is_nothing = cc

    no_file_is_nothing : (b : Binding) (node : ℕ) → b ≡ File node → b ≢ Nothing
    no_file_is_nothing b node is_file is_nothing = cc

    there : image.names (path columns key) ≡ Folder → (k d : ℕ) → d + k ≡ length columns → image.names (path_to columns key d) ≡ Folder
    there last zero d e =
        let end : d ≡ length columns = omega (arith, e) in
        ap (λ (n : ℕ). image.names (path_to columns key n)) end ∙ ap image.names (folders_nest columns key is).whole ∙ last
    there last (suc k) d e =
        let lt : d < length columns = omega (arith, e) in
        above (path_to columns key d) (folder_at columns key d) (next_is_name d lt)
        (no_folder_is_nothing _ (ap image.names (sym (path_more d lt)) ∙ there last k (suc d) (omega (arith, e))))

    module _ (number : ℕ) (small : number < 2 ^ 64) (node : ℕ) (there_is : image.names (part_path_of columns key number) ≡ File node) where
      part_in : image.names (path_in (path columns key) (part_name_of number)) ≡ File node
      part_in = ap image.names (sym (in_is (path columns key) (part_name_of number))) ∙ there_is

      pub path_is_there : (d : ℕ) → d ≤ length columns → image.names (path_to columns key d) ≡ Folder
      path_is_there d le = there (above (path columns key) (part_name_of number) (is_name (part_name_of number) (part_names_are_plain number small)) (no_file_is_nothing _ node part_in)) (length columns - d) d (omega (arith, le))

      -- a folder that is listed has the next one, on the way to each part file that is read
      pub found_below : (folder : List ℕ) (entries : List Entry) (d : ℕ) → d < length columns → path_to columns key d ≡ folder → AreNamesIn image folder entries
          → (j : ℕ) × (e : Entry) × (slice_get entries j ≡ Some e) × (e.kind ≡ kind.Folder) × (path_to columns key (suc d) ≡ path_in folder (string_bytes e.name))
      found_below folder entries d lt at listed =
          let name = folder_at columns key d in
          let next : path_to columns key (suc d) ≡ path_in folder name = path_more d lt ∙ ap (λ (f : List ℕ). path_in f name) at in
          let is_folder : image.names (path_in folder name) ≡ Folder = ap image.names (sym next) ∙ path_is_there (suc d) (omega (arith, lt)) in
          let found = listed.every name (next_is_name d lt) (no_folder_is_nothing _ is_folder) in
          let same : path_in folder name ≡ path_in folder (string_bytes found.1.name) = ap (path_in folder) (sym found.3) in
          let P : Binding → Type 0 = λ b. IsListedAs b found.1.kind in
          (found.0, found.1, found.2, subst P (ap image.names (sym same) ∙ is_folder) (listed.each found.0 found.1 found.2).1, next ∙ same)

      -- a key folder that is listed has its part files
      pub found_file : (folder : List ℕ) (entries : List Entry) → path columns key ≡ folder → AreNamesIn image folder entries
          → (j : ℕ) × (e : Entry) × (slice_get entries j ≡ Some e) × (e.kind ≡ kind.File) × (string_bytes e.name ≡ part_name_of number) × (part_path_of columns key number ≡ path_in folder (string_bytes e.name))
      found_file folder entries at listed =
          let name = part_name_of number in
          let whole_path : part_path_of columns key number ≡ path_in folder name = in_is (path columns key) name ∙ ap (λ (f : List ℕ). path_in f name) at in
          let is_file : image.names (path_in folder name) ≡ File node = ap image.names (sym whole_path) ∙ there_is in
          let found = listed.every name (is_name (part_name_of number) (part_names_are_plain number small)) (no_file_is_nothing _ node is_file) in
          let same : path_in folder name ≡ path_in folder (string_bytes found.1.name) = ap (path_in folder) (sym found.3) in
          let P : Binding → Type 0 = λ b. IsListedAs b found.1.kind in
          (found.0, found.1, found.2, subst P (ap image.names (sym same) ∙ is_file) (listed.each found.0 found.1 found.2).1, found.3, whole_path ∙ same)
