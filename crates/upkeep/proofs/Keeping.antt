-- What is kept in mind while a table is checked.
use Rattle.std.proofs.Common.{◌≡◌, ◌<◌, ◌+◌, ◌↔◌, ℕ, zero, suc, List, [], ◌∷◌, length, take, drop, Some, refl, sym, ap, subst, ◌∙◌, arith, ⊎_elim}
use Rattle.std.specs.Prelude.{Option, Result, Ok, Err, IfOk, IfErr}
use Rattle.bits.specs.declared.refusal.Refusal.{Refusal}
use Rattle.bits.specs.declared.refusal.Refusal.TheVariants.{Device, Memory}
use Rattle.bits.specs.Refusals.{HasCause, RefusedOnly}
use Rattle.manifest.specs.declared.description.Manifest.{Manifest}
use Rattle.manifest.specs.Faults.{HasRootFault}
use Rattle.upkeep.specs.Reading.{IsNotDescribed}
use Rattle.std.specs.List.{slice_get}
use Rattle.std.proofs.lemmas.Bool.{cases_lt}
use Rattle.std.proofs.lemmas.Option.{slice_get-get_or}
use Rattle.schema.specs.Keys.{KeyColumn}
use Rattle.disk.specs.State.{Image, State, content}
use Rattle.vault.specs.Calls.{HasFailed, IsDeviceFailure, LeavesAll}
use Rattle.manifest.specs.Groups.{Group, Root, root_of}
use Rattle.manifest.specs.Root.{stored_of, RootMeans}
use Rattle.manifest.specs.Table.{path_of_group}
use Rattle.upkeep.specs.Strays.{AreStrays}
use Rattle.folders.specs.Named.{IsNamed}
use Rattle.upkeep.specs.Intact.{HoldsRows, IsHeldIn, AreHeld, AreLeftovers, IsIntact}

pub strays_are : (image : Image) (ks keys : List KeyColumn) (P Q : List ℕ → Type 0) (paths : List (List ℕ)) → ks ≡ keys → ((q : List ℕ) → P q ↔ Q q) → AreStrays image ks P paths → AreStrays image keys Q paths
strays_are image ks keys P Q paths same both are = subst (λ (cs : List KeyColumn). AreStrays image cs Q paths) same (λ path. (
  (λ among. let is = (are path).0 among in record { node = is.node; file = is.file; part = is.part; unnamed = λ named. is.unnamed ((both path).1 named) }),
  (λ is. (are path).1 (record { node = is.node; file = is.file; part = is.part; unnamed = λ named. is.unnamed ((both path).0 named) })),
))

pub held_before : (old new : State) (root : Root) (g : Group) → LeavesAll old new → IsHeldIn new.seen root g → IsHeldIn old.seen root g
held_before old new root g all held = (held.0, sym (all.seen (path_of_group root g)) ∙ held.1, held.2)

pub held_in : (image : Image) (root : Root) (g : Group) (path bytes : List ℕ) → path ≡ path_of_group root g → content image path ≡ Some bytes → HoldsRows (stored_of root) g bytes → IsHeldIn image root g
held_in image root g path bytes at there holds = (bytes, ap (content image) (sym at) ∙ there, holds)

pub more_held : (P : Group → Type 0) (groups : List Group) (i : ℕ) → ((k : ℕ) (g : Group) → k < i → slice_get groups k ≡ Some g → P g) → ((g : Group) → slice_get groups i ≡ Some g → P g)
    → (k : ℕ) (g : Group) → k < i + 1 → slice_get groups k ≡ Some g → P g
more_held P groups i before now k g lt at = ⊎_elim
    (λ less. before k g less at)
    (λ le. let is : k ≡ i = omega (arith, lt, le) in now g (ap (slice_get groups) (sym is) ∙ at))
    (cases_lt k i)

pub are_held : (image : Image) (root : Root) → ((k : ℕ) (g : Group) → slice_get root.groups k ≡ Some g → IsHeldIn image root g) → AreHeld image root
are_held image root held = λ g among. held among.0 g (slice_get-get_or root.groups among.0 g among.1 ∙ ap Some among.2)

-- the files that were there before calls that only read
pub leftovers_before : (old mid : State) (root : Root) (paths : List (List ℕ)) → LeavesAll old mid → AreLeftovers mid.seen root paths → AreLeftovers old.seen root paths
leftovers_before old mid root paths all are = λ path. (
  (λ among. let is = (are path).0 among in record { node = is.node; file = sym (all.names path) ∙ is.file; part = is.part; unnamed = is.unnamed }),
  (λ is. (are path).1 (record { node = is.node; file = all.names path ∙ is.file; part = is.part; unnamed = is.unnamed })),
)

pub is_intact : (old mid : State) (root : Root) → LeavesAll old mid → ((k : ℕ) (g : Group) → slice_get root.groups k ≡ Some g → IsHeldIn old.seen root g) → AreStrays mid.seen root.keys (IsNamed root) [] → IsIntact old.seen root
is_intact old mid root all held none = record {
  each = are_held old.seen root held;
  alone = λ path is.
      let there = (none path).1 (record { node = is.node; file = all.names path ∙ is.file; part = is.part; unnamed = is.unnamed }) in
      omega (arith, there.1);
}

pub described_by : (r : Result Manifest Refusal) (o : Option (List ℕ)) (bytes : List ℕ) → o ≡ Some bytes → IfOk r (λ m. RootMeans bytes (root_of m)) → IfOk r (λ m. (b : List ℕ) × (o ≡ Some b) × RootMeans b (root_of m))
described_by (Ok m) o bytes there means = (bytes, there, means)
described_by (Err e) o bytes there means = tt

not_described_for : (bytes : List ℕ) (e : Refusal) → HasCause (HasRootFault bytes) e → ((e ≡ Memory → ⊥) → (root : Root) → RootMeans bytes root → ⊥) → IsNotDescribed (Some bytes) e
not_described_for bytes Device cause none = tt
not_described_for bytes Memory cause none = tt
not_described_for bytes _ cause none = (cause, none (λ is. cc))

-- the root that is read is refused
pub not_described : {T : Type 0} (r : Result T Refusal) (o : Option (List ℕ)) (bytes : List ℕ) → o ≡ Some bytes → RefusedOnly (HasRootFault bytes) r
    → IfErr r (λ e. (e ≡ Memory → ⊥) → (root : Root) → RootMeans bytes root → ⊥) → IfErr r (IsNotDescribed o)
not_described (Ok x) o bytes there which only = tt
not_described (Err e) o bytes there which only = subst (λ (p : Option (List ℕ)). IsNotDescribed p e) (sym there) (not_described_for bytes e which only)

-- the whole of a file
take_short : (xs : List ℕ) (n : ℕ) → length (take n xs) < n → take n xs ≡ xs
take_short [] zero lt = refl
take_short [] (suc n) lt = refl
take_short (x ∷ xs) zero lt = absurd (omega (arith, lt))
take_short (x ∷ xs) (suc n) lt = ap (λ ys. x ∷ ys) (take_short xs n (omega (arith, lt)))

pub whole_read : (whole read : List ℕ) (most : ℕ) → read ≡ take most (drop 0 whole) → length read < most → read ≡ whole
whole_read whole read most is short = is ∙ take_short whole most (let P : ℕ → Type 0 = λ k. k < most in subst P (ap length is) short)

-- a disk that could not be read has failed
pub device_failed : (old new : State) (e : Refusal) → HasCause (IsDeviceFailure old new) e → e ≡ Device → HasFailed old new
device_failed old new e cause same = (subst (λ (f : Refusal). HasCause (IsDeviceFailure old new) f) same cause).1

-- no bytes are refused so
pub never_of_bytes : {T : Type 0} (P : Type 0) (bytes : List ℕ) (result : Result T Refusal) → RefusedOnly (HasRootFault bytes) result → IfErr result (λ e. e ≡ Device → P)
never_of_bytes P bytes (Ok x) which = tt
never_of_bytes P bytes (Err e) which = λ same. absurd (subst (λ (f : Refusal). HasCause (HasRootFault bytes) f) same which)
