-- A rewrite that is opened: its runs, of which nothing is read yet.
use Rattle.std.proofs.Common.{◌≡◌, ℕ, Bool, true, false, ◌&&◌, ◌||◌, nat_eq, if◌then◌else◌, List, [], ◌∷◌, refl, sym, ◌∙◌, ap, subst}
use Rattle.std.specs.List.{AllZip, AllByRecursion, list_all}
use Rattle.std.proofs.lemmas.Bool.{and_parts, eqb-true}
use Rattle.schema.specs.Shape.{Fields}
use Rattle.schema.specs.Cutting.{is_among}
use Rattle.schema.specs.Keys.{KeyColumn, without_keys}
use Rattle.partition.specs.Order.{is_same_key}
use Rattle.disk.specs.State.{State as DiskState}
use Rattle.manifest.specs.Groups.{Group as FileGroup, handles_view}
use Rattle.manifest.specs.Records.{IsGroup}
use Rattle.planning.specs.Runs.{runs_in as file_runs, sources_view}
use Rattle.snapshots.specs.State.{Pins, file_of, names}
use Rattle.table.specs.Table.{Key, Group, numbers}
use Rattle.table.specs.Plans.{put_before_runs, is_joined, first_of}
use Rattle.table.specs.State.{sources}
use Rattle.table.specs.History.{runs_in}
use Rattle.planning.specs.declared.change.Sources.{Sources}
use Rattle.table_state.specs.Stands.{IsStored, AreStored, ShowsRun}
use Rattle.partition.proofs.SameKeys.{same_key}
use Rattle.table_commits.proofs.DistinctNumbers.{among_first, among_later}

-- ---- runs of two lists that go side by side

module _ (disk : DiskState) (keys : List KeyColumn) (schema : Fields) (count : ℕ) (ns : List ℕ) where
  abbrev Runs : List (List FileGroup) → List (List Group) → Type 0
  Runs fs gs = AllZip (AreStored disk keys schema count) fs gs

  put_so : (f : FileGroup) (g : Group) → IsStored disk keys schema count f g → (b : Bool) (fs : List (List FileGroup)) (gs : List (List Group)) → Runs fs gs → Runs (put_before_runs f b fs) (put_before_runs g b gs)
  put_so f g is true [] [] z = ((is, tt), tt)
  put_so f g is true (x ∷ fs) (y ∷ gs) z = ((is, z.0), z.1)
  put_so f g is true [] (y ∷ gs) z = absurd z
  put_so f g is true (x ∷ fs) [] z = absurd z
  put_so f g is false fs gs z = ((is, tt), z)

  joined_so : (f : FileGroup) (g : Group) → IsStored disk keys schema count f g → (fs : List FileGroup) (gs : List Group) → AreStored disk keys schema count fs gs
      → is_joined (λ (x : FileGroup). x.number) (λ (x : FileGroup). x.key) ns f (first_of fs) ≡ is_joined (λ (x : Group). x.number) (λ (x : Group). x.key) ns g (first_of gs)
  joined_so f g is [] [] z = refl
  joined_so f g is (x ∷ fs) (y ∷ gs) z =
      ap (λ (n : ℕ). is_among ns n && is_same_key f.key x.key) (sym z.0.number) ∙ ap (λ (k : Key). is_among ns y.number && is_same_key k x.key) (sym is.key) ∙ ap (λ (k : Key). is_among ns y.number && is_same_key g.key k) (sym z.0.key)
  joined_so f g is [] (y ∷ gs) z = absurd z
  joined_so f g is (x ∷ fs) [] z = absurd z

  pub runs_stored : (fs : List FileGroup) (gs : List Group) → AreStored disk keys schema count fs gs → Runs (file_runs ns fs) (runs_in ns gs)
  runs_stored [] [] z = tt
  runs_stored (f ∷ fs) (g ∷ gs) z =
      subst (λ (n : ℕ). Runs (file_runs ns (f ∷ fs)) (if is_among ns n then put_before_runs g (is_joined (λ (x : Group). x.number) (λ (x : Group). x.key) ns g (first_of gs)) (runs_in ns gs) else runs_in ns gs)) (sym z.0.number)
      (subst (λ (c : Bool). Runs (file_runs ns (f ∷ fs)) (if is_among ns f.number then put_before_runs g c (runs_in ns gs) else runs_in ns gs)) (joined_so f g z.0 fs gs z.1)
      (by (is_among ns f.number) (is_joined (λ (x : FileGroup). x.number) (λ (x : FileGroup). x.key) ns f (first_of fs)) (runs_stored fs gs z.1)))
    where
      by : (b c : Bool) → Runs (file_runs ns fs) (runs_in ns gs) → Runs (if b then put_before_runs f c (file_runs ns fs) else file_runs ns fs) (if b then put_before_runs g c (runs_in ns gs) else runs_in ns gs)
      by true c r = put_so f g z.0 c (file_runs ns fs) (runs_in ns gs) r
      by false c r = r
  runs_stored [] (g ∷ gs) z = absurd z
  runs_stored (f ∷ fs) [] z = absurd z

-- what holds of all holds in each run
module _ (P : FileGroup → Type 0) (ns : List ℕ) where
  abbrev Each : List (List FileGroup) → Type 0
  Each runs = AllByRecursion (λ (run : List FileGroup). AllByRecursion P run) runs

  put_each : (f : FileGroup) → P f → (b : Bool) (runs : List (List FileGroup)) → Each runs → Each (put_before_runs f b runs)
  put_each f p true [] h = ((p, tt), tt)
  put_each f p true (run ∷ runs) h = ((p, h.0), h.1)
  put_each f p false runs h = ((p, tt), h)

  pub each_run : (fs : List FileGroup) → AllByRecursion P fs → Each (file_runs ns fs)
  each_run [] h = tt
  each_run (f ∷ fs) h = by (is_among ns f.number) (is_joined (λ (x : FileGroup). x.number) (λ (x : FileGroup). x.key) ns f (first_of fs)) (each_run fs h.1)
    where
      by : (b c : Bool) → Each (file_runs ns fs) → Each (if b then put_before_runs f c (file_runs ns fs) else file_runs ns fs)
      by true c r = put_each f h.0 c (file_runs ns fs) r
      by false c r = r

-- ---- the groups of a run have one key

abbrev pub key_of_run : List Group → Key
key_of_run [] = []
key_of_run (g ∷ gs) = g.key

abbrev pub HasOneKey : List Group → Type 0
HasOneKey run = AllByRecursion (λ (g : Group). g.key ≡ key_of_run run) run

abbrev first_run : List (List Group) → List Group
first_run [] = []
first_run (run ∷ runs) = run

same_as : (j k : Key) → j ≡ k → (xs : List Group) → AllByRecursion (λ (x : Group). x.key ≡ j) xs → AllByRecursion (λ (x : Group). x.key ≡ k) xs
same_as j k e [] a = tt
same_as j k e (x ∷ xs) a = (a.0 ∙ e, same_as j k e xs a.1)

put_keyed : (g : Group) (b : Bool) (runs : List (List Group)) → AllByRecursion HasOneKey runs → (b ≡ true → key_of_run (first_run runs) ≡ g.key) → AllByRecursion HasOneKey (put_before_runs g b runs)
put_keyed g true (run ∷ runs) h k = ((refl, same_as (key_of_run run) g.key (k refl) run h.0), h.1)
put_keyed g true [] h k = ((refl, tt), tt)
put_keyed g false runs h k = ((refl, tt), h)

put_first : (g : Group) (b : Bool) (runs : List (List Group)) → key_of_run (first_run (put_before_runs g b runs)) ≡ g.key
put_first g true (run ∷ runs) = refl
put_first g true [] = refl
put_first g false runs = refl

-- a source begins the first run
abbrev BeginsWith : List ℕ → List Group → Type 0
BeginsWith ns [] = Unit {0}
BeginsWith ns (g ∷ gs) = is_among ns g.number ≡ true → key_of_run (first_run (runs_in ns (g ∷ gs))) ≡ g.key

abbrev joins : List ℕ → Group → List Group → Bool
joins ns g gs = is_joined (λ (x : Group). x.number) (λ (x : Group). x.key) ns g (first_of gs)

joined_key : (ns : List ℕ) (g : Group) (gs : List Group) → BeginsWith ns gs → joins ns g gs ≡ true → key_of_run (first_run (runs_in ns gs)) ≡ g.key
joined_key ns g [] b e = absurd (cc)
joined_key ns g (h ∷ gs) b e =
    let p = and_parts (is_among ns h.number) (is_same_key g.key h.key) e in
    b p.0 ∙ sym (same_key g.key h.key p.1)

keyed_runs : (ns : List ℕ) (gs : List Group) → AllByRecursion HasOneKey (runs_in ns gs) × BeginsWith ns gs
keyed_runs ns [] = (tt, tt)
keyed_runs ns (g ∷ gs) = by (is_among ns g.number) refl (keyed_runs ns gs)
  where
    by : (b : Bool) → is_among ns g.number ≡ b → AllByRecursion HasOneKey (runs_in ns gs) × BeginsWith ns gs
        → AllByRecursion HasOneKey (if b then put_before_runs g (joins ns g gs) (runs_in ns gs) else runs_in ns gs) × (b ≡ true → key_of_run (first_run (if b then put_before_runs g (joins ns g gs) (runs_in ns gs) else runs_in ns gs)) ≡ g.key)
    by true e r = (put_keyed g (joins ns g gs) (runs_in ns gs) r.0 (joined_key ns g gs r.1), λ t. put_first g (joins ns g gs) (runs_in ns gs))
    by false e r = (r.0, λ t. cc)

pub one_key_each : (ns : List ℕ) (gs : List Group) → AllByRecursion HasOneKey (runs_in ns gs)
one_key_each ns gs = (keyed_runs ns gs).0

-- ---- the sources are all groups of these numbers

put_sources : (g : Group) (b : Bool) (runs : List (List Group)) → sources (put_before_runs g b runs) ≡ g ∷ sources runs
put_sources g true (run ∷ runs) = refl
put_sources g true [] = refl
put_sources g false runs = refl

source_there : (ns : List ℕ) (gs : List Group) (n : ℕ) → is_among ns n ≡ true → is_among (numbers gs) n ≡ true → is_among (numbers (sources (runs_in ns gs))) n ≡ true
source_there ns [] n of h = absurd (cc)
source_there ns (g ∷ gs) n of h = by (is_among ns g.number) refl (nat_eq g.number n) refl h (source_there ns gs n of)
  where
    by : (b : Bool) → is_among ns g.number ≡ b → (c : Bool) → nat_eq g.number n ≡ c → (c || is_among (numbers gs) n) ≡ true → (is_among (numbers gs) n ≡ true → is_among (numbers (sources (runs_in ns gs))) n ≡ true)
        → is_among (numbers (sources (if b then put_before_runs g (joins ns g gs) (runs_in ns gs) else runs_in ns gs))) n ≡ true
    by true e true f i r = ap (λ (xs : List Group). is_among (numbers xs) n) (put_sources g (joins ns g gs) (runs_in ns gs)) ∙ ap (λ (c : Bool). c || is_among (numbers (sources (runs_in ns gs))) n) f
    by true e false f i r = ap (λ (xs : List Group). is_among (numbers xs) n) (put_sources g (joins ns g gs) (runs_in ns gs)) ∙ among_later g.number (numbers (sources (runs_in ns gs))) n (r i)
    by false e true f i r = let c : true ≡ false = sym of ∙ (ap (λ (m : ℕ). is_among ns m) (sym (eqb-true g.number n f)) ∙ e) in cc
    by false e false f i r = r i

all_there : (ns gs_numbers found ms : List ℕ) → ((n : ℕ) → is_among ns n ≡ true → is_among gs_numbers n ≡ true → is_among found n ≡ true) → ((n : ℕ) → is_among ms n ≡ true → is_among ns n ≡ true) → list_all (is_among gs_numbers) ms ≡ true
    → AllByRecursion (λ n. is_among found n ≡ true) ms
all_there ns gs found [] there within all = tt
all_there ns gs found (m ∷ ms) there within all =
    let p = and_parts (is_among gs m) (list_all (is_among gs) ms) all in
    (there m (within m (among_first m ms)) p.0, all_there ns gs found ms there (λ n h. within n (among_later m ms n h)) p.1)

pub sources_there : (ns : List ℕ) (gs : List Group) → list_all (is_among (numbers gs)) ns ≡ true → AllByRecursion (λ n. is_among (numbers (sources (runs_in ns gs))) n ≡ true) ns
sources_there ns gs all = all_there ns (numbers gs) (numbers (sources (runs_in ns gs))) ns (source_there ns gs) (λ n h. h) all

-- ---- runs of which nothing is read

module _ (disk : DiskState) (keys : List KeyColumn) (schema : Fields) (count size : ℕ) (had : ℕ → Bool) (pins : Pins) where
  begun_so : (w : Sources) (fs : List FileGroup) (run : List Group) → handles_view w.groups.items ≡ fs → AreStored disk keys schema count fs run → AllByRecursion (IsGroup keys (without_keys keys schema)) fs → AllByRecursion (λ (f : FileGroup). names pins.version (file_of f) ≡ true) fs
      → HasOneKey run → ShowsRun disk keys schema count size had pins w run
  begun_so w fs run told are of held one_key = record {
    sources = subst (λ (gs : List FileGroup). AreStored disk keys schema count gs run) (sym told) are;
    described = subst (λ (gs : List FileGroup). AllByRecursion (IsGroup keys (without_keys keys schema)) gs) (sym told) of;
    held = subst (λ (gs : List FileGroup). AllByRecursion (λ (f : FileGroup). names pins.version (file_of f) ≡ true) gs) (sym told) held;
    key = key_of_run run;
    keyed = one_key;
  }

  heads : {A : Type 0} (x y : A) (xs ys : List A) → x ∷ xs ≡ y ∷ ys → (x ≡ y) × (xs ≡ ys)
  heads x y xs ys e = (cc, cc)

  pub all_begun : (ws : List Sources) (fs : List (List FileGroup)) (runs : List (List Group)) → sources_view ws ≡ fs → AllZip (AreStored disk keys schema count) fs runs
      → AllByRecursion (λ (run : List FileGroup). AllByRecursion (IsGroup keys (without_keys keys schema)) run) fs → AllByRecursion (λ (run : List FileGroup). AllByRecursion (λ (f : FileGroup). names pins.version (file_of f) ≡ true) run) fs
      → AllByRecursion HasOneKey runs → AllZip (ShowsRun disk keys schema count size had pins) ws runs
  all_begun [] [] [] e z o h k = tt
  all_begun (w ∷ ws) (f ∷ fs) (run ∷ runs) e z o h k =
      let parts = heads (handles_view w.groups.items) f (sources_view ws) fs e in
      (begun_so w f run parts.0 z.0 o.0 h.0 k.0, all_begun ws fs runs parts.1 z.1 o.1 h.1 k.1)
  all_begun [] (f ∷ fs) runs e z o h k = absurd (cc)
  all_begun (w ∷ ws) [] runs e z o h k = absurd (cc)
  all_begun (w ∷ ws) (f ∷ fs) [] e z o h k = absurd z
  all_begun [] [] (run ∷ runs) e z o h k = absurd z
