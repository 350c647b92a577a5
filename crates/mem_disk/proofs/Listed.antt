-- What is listed of a folder.
use Rattle.std.proofs.Common.{◌≡◌, ◌≢◌, ◌<◌, ◌≤◌, inl, inr, ⊎_elim, ℕ, zero, suc, List, [], ◌∷◌, ◌++◌, length, drop, get_or, string_bytes, slice_get, Option, MatchOption, None, Some, Bor, refl, sym, ◌∙◌, ap, subst, arith}
use Rattle.lists.proofs.Slices.{drop_front}
use Rattle.disk.specs.Paths.{slash, path_in, IsName}
use Rattle.disk.specs.State.{Image}
use Rattle.disk.specs.Calls.{IsListedAs, AreNamesIn}
use Rattle.disk.specs.declared.binding.Binding.{Binding}
use Rattle.disk.specs.declared.binding.Binding.TheVariants.{Nothing}
use Rattle.disk.specs.declared.binding.Entry.{Entry}
use Rattle.mem_disk.specs.declared.name.Name.{Name}
use Rattle.mem_disk.specs.Tables.{at_first, name_in, FindsNone, AreApart}
use Rattle.mem_disk.specs.Listings.{IsEntryOf, IsUnlisted, AreListed}
use Rattle.mem_disk.proofs.Choices.{same_or_not, at_same, at_other}

pub behind_it : (folder name : List ℕ) → folder ≢ [] → path_in folder name ≡ folder ++ slash ∷ name
behind_it [] name some = absurd (some refl)
behind_it (b ∷ folder) name some = refl

pub one_name : (folder a b : List ℕ) → path_in folder a ≡ path_in folder b → a ≡ b
one_name [] a b e = e
one_name (x ∷ folder) a b e =
    let cut : slash ∷ a ≡ slash ∷ b = sym (drop_front (x ∷ folder) (slash ∷ a)) ∙ ap (drop (length (x ∷ folder))) e ∙ drop_front (x ∷ folder) (slash ∷ b) in
    ap (drop 1) cut

-- what a front that is asked for in vain says of a folder's names, and what a slash behind it says
pub other_front : (folder path : List ℕ) (r : Option (Bor (List ℕ))) → r ≡ None → folder ≢ [] → ((rest : List ℕ) → path ≢ folder ++ rest) → MatchOption r ((name : List ℕ) → path ≢ path_in folder name) (λ name. path ≡ path_in folder name.now)
other_front folder path None is some ne = λ name e. ne (slash ∷ name) (e ∙ behind_it folder name some)
other_front folder path (Some x) is some ne = absurd (let no : Some x ≡ None = is in cc)

pub behind_slash : (folder path local : List ℕ) (r : Option (Bor (List ℕ))) → folder ≢ [] → path ≡ folder ++ local → MatchOption r ((rest : List ℕ) → local ≢ slash ∷ rest) (λ x. local ≡ slash ∷ x.now)
    → MatchOption r ((name : List ℕ) → path ≢ path_in folder name) (λ name. path ≡ path_in folder name.now)
behind_slash folder path local None some is lacks = λ name e. lacks name (sym (drop_front folder local) ∙ ap (drop (length folder)) (sym is ∙ e ∙ behind_it folder name some) ∙ drop_front folder (slash ∷ name))
behind_slash folder path local (Some x) some is at = is ∙ ap (λ (xs : List ℕ). folder ++ xs) at ∙ sym (behind_it folder x.now some)

not_top : (folder name : List ℕ) → IsName name → at_first (path_in folder name) ≡ Nothing
not_top [] [] is = absurd (is.some refl)
not_top [] (b ∷ name) is = refl
not_top (b ∷ folder) name is = refl

module _ (folder : List ℕ) where
  abbrev at : Entry → List ℕ
  at entry = path_in folder (string_bytes entry.name)

  abbrev So : List Name → Entry → Type 0
  So names entry = IsName (string_bytes entry.name) × IsListedAs (name_in names (at entry)) entry.kind × (FindsNone names (at entry) → ⊥)

  later : (x : Name) (names : List Name) → AreApart (x ∷ names) → (entry : Entry) → So names entry → So (x ∷ names) entry
  later x names apart entry so =
      let ne : at entry ≢ string_bytes x.path = λ e. so.2 (subst (FindsNone names) (sym e) apart.0) in
      (so.0, subst (λ (b : Binding). IsListedAs b entry.kind) (sym (at_other (at entry) (string_bytes x.path) x.now (name_in names (at entry)) ne)) so.1, λ none. so.2 none.1)

  here : (x : Name) (names : List Name) (entry : Entry) → IsEntryOf folder x entry → So (x ∷ names) entry
  here x names entry is = (is.name, subst (λ (b : Binding). IsListedAs b entry.kind) (sym (at_same (at entry) (string_bytes x.path) x.now (name_in names (at entry)) (sym is.path))) is.kind, λ none. none.0 is.path)

  placed : (x : Name) (names : List Name) → AreApart (x ∷ names) → (e : Entry) (rest : List Entry) → IsEntryOf folder x e → ((i : ℕ) (entry : Entry) → slice_get rest i ≡ Some entry → So names entry)
      → (i : ℕ) (entry : Entry) → slice_get (e ∷ rest) i ≡ Some entry → So (x ∷ names) entry
  placed x names apart e rest is more zero entry found = let same : e ≡ entry = cc in here x names entry (subst (IsEntryOf folder x) same is)
  placed x names apart e rest is more (suc i) entry found = later x names apart entry (more i entry found)

  -- an entry is a name of the list, and says what it stands for
  each_so : (names : List Name) (es : List Entry) → AreApart names → AreListed folder names es → (i : ℕ) (entry : Entry) → slice_get es i ≡ Some entry → So names entry
  each_so [] es apart listed i entry found = absurd (let h : slice_get [] i ≡ Some entry = subst (λ (xs : List Entry). slice_get xs i ≡ Some entry) listed found in cc)
  each_so (x ∷ names) es apart (inl skip) i entry found = later x names apart entry (each_so names es apart.1 skip.1 i entry found)
  each_so (x ∷ names) es apart (inr takes) i entry found = placed x names apart takes.0 takes.1 takes.3 (each_so names takes.1 apart.1 takes.4) i entry (subst (λ (xs : List Entry). slice_get xs i ≡ Some entry) takes.2 found)

  abbrev Stands : List Entry → List ℕ → Type 0
  Stands es name = (i : ℕ) × (entry : Entry) × (slice_get es i ≡ Some entry) × (string_bytes entry.name ≡ name)

  -- each name that stands for something has an entry
  every_so : (names : List Name) (es : List Entry) → AreListed folder names es → (name : List ℕ) → IsName name → name_in names (path_in folder name) ≢ Nothing → Stands es name
  every_so [] es listed name is some = absurd (some (not_top folder name is))
  every_so (x ∷ names) es (inl skip) name is some =
      let q = path_in folder name in
      ⊎_elim
      (λ yes. absurd (⊎_elim
      (λ gone. some (at_same q (string_bytes x.path) x.now (name_in names q) yes.0 ∙ gone))
      (λ away. away name is (sym yes.0))
      skip.0))
      (λ other. every_so names es skip.1 name is (λ e. some (at_other q (string_bytes x.path) x.now (name_in names q) other.0 ∙ e)))
      (same_or_not q (string_bytes x.path))
  every_so (x ∷ names) es (inr takes) name is some =
      let q = path_in folder name in
      ⊎_elim
      (λ yes. (0, takes.0, ap (λ (xs : List Entry). slice_get xs 0) takes.2, sym (one_name folder name (string_bytes takes.0.name) (yes.0 ∙ takes.3.path))))
      (λ other.
      let rest = every_so names takes.1 takes.4 name is (λ e. some (at_other q (string_bytes x.path) x.now (name_in names q) other.0 ∙ e)) in
      (suc rest.0, rest.1, ap (λ (xs : List Entry). slice_get xs (suc rest.0)) takes.2 ∙ rest.2, rest.3))
      (same_or_not q (string_bytes x.path))

  -- two entries of one name are one
  once_so : (names : List Name) (es : List Entry) → AreApart names → AreListed folder names es → (i j : ℕ) (one other : Entry) → slice_get es i ≡ Some one → slice_get es j ≡ Some other → string_bytes one.name ≡ string_bytes other.name → i ≡ j
  once_so [] es apart listed i j one other a b same = absurd (let h : slice_get [] i ≡ Some one = subst (λ (xs : List Entry). slice_get xs i ≡ Some one) listed a in cc)
  once_so (x ∷ names) es apart (inl skip) i j one other a b same = once_so names es apart.1 skip.1 i j one other a b same
  once_so (x ∷ names) es apart (inr takes) zero zero one other a b same = refl
  once_so (x ∷ names) es apart (inr takes) zero (suc j) one other a b same =
      let first : slice_get (takes.0 ∷ takes.1) zero ≡ Some one = subst (λ (xs : List Entry). slice_get xs zero ≡ Some one) takes.2 a in
      let second : slice_get takes.1 j ≡ Some other = subst (λ (xs : List Entry). slice_get xs (suc j) ≡ Some other) takes.2 b in
      let head : takes.0 ≡ one = cc in
      let path : at other ≡ string_bytes x.path = ap (path_in folder) (sym same) ∙ ap (λ (y : Entry). at y) (sym head) ∙ sym takes.3.path in
      absurd ((each_so names takes.1 apart.1 takes.4 j other second).2 (subst (FindsNone names) (sym path) apart.0))
  once_so (x ∷ names) es apart (inr takes) (suc i) zero one other a b same =
      let first : slice_get (takes.0 ∷ takes.1) zero ≡ Some other = subst (λ (xs : List Entry). slice_get xs zero ≡ Some other) takes.2 b in
      let second : slice_get takes.1 i ≡ Some one = subst (λ (xs : List Entry). slice_get xs (suc i) ≡ Some one) takes.2 a in
      let head : takes.0 ≡ other = cc in
      let path : at one ≡ string_bytes x.path = ap (path_in folder) same ∙ ap (λ (y : Entry). at y) (sym head) ∙ sym takes.3.path in
      absurd ((each_so names takes.1 apart.1 takes.4 i one second).2 (subst (FindsNone names) (sym path) apart.0))
  once_so (x ∷ names) es apart (inr takes) (suc i) (suc j) one other a b same =
      ap suc (once_so names takes.1 apart.1 takes.4 i j one other
      (subst (λ (xs : List Entry). slice_get xs (suc i) ≡ Some one) takes.2 a)
      (subst (λ (xs : List Entry). slice_get xs (suc j) ≡ Some other) takes.2 b) same)

  pub names_in : (image : Image) (names : List Name) (es : List Entry) → ((q : List ℕ) → image.names q ≡ name_in names q) → AreApart names → AreListed folder names es → AreNamesIn image folder es
  names_in image names es says apart listed = record {
    each = λ i entry found. let so = each_so names es apart listed i entry found in (so.0, subst (λ (b : Binding). IsListedAs b entry.kind) (sym (says (at entry))) so.1);
    every = λ name is some. every_so names es listed name is (λ e. some (says (path_in folder name) ∙ e));
    once = once_so names es apart listed;
  }

-- ---- one name after the other

pub listed_next : (folder : List ℕ) (names : List Name) (i : ℕ) (d : Name) (rest : List Entry) → i < length names → IsUnlisted folder (get_or names i d) → AreListed folder (drop (suc i) names) rest → AreListed folder (drop i names) rest
listed_next folder [] i d rest lt un listed = absurd (omega (arith, lt))
listed_next folder (x ∷ names) zero d rest lt un listed = inl (un, listed)
listed_next folder (x ∷ names) (suc i) d rest lt un listed = listed_next folder names i d rest (omega (arith, lt)) un listed

pub listed_with : (folder : List ℕ) (names : List Name) (i : ℕ) (d : Name) (e : Entry) (rest : List Entry) → i < length names → IsEntryOf folder (get_or names i d) e → AreListed folder (drop (suc i) names) rest → AreListed folder (drop i names) (e ∷ rest)
listed_with folder [] i d e rest lt is listed = absurd (omega (arith, lt))
listed_with folder (x ∷ names) zero d e rest lt is listed = inr (e, rest, refl, is, listed)
listed_with folder (x ∷ names) (suc i) d e rest lt is listed = listed_with folder names i d e rest (omega (arith, lt)) is listed

pub listed_end : (folder : List ℕ) (names : List Name) (i : ℕ) → length names ≤ i → AreListed folder (drop i names) []
listed_end folder [] zero le = refl
listed_end folder [] (suc i) le = refl
listed_end folder (x ∷ names) zero le = absurd (omega (arith, le))
listed_end folder (x ∷ names) (suc i) le = listed_end folder names i (omega (arith, le))
