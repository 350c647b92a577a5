-- What a real folder is asked for, and what its errors mean.
use Rattle.std.specs.Prelude.{◌≡◌, ◌≢◌, ◌⊎◌, ◌==◌, ◌||◌, ◌&&◌, ℕ, List, [], ◌∷◌, All, codes, Bool, false, Result, Ok, Err, IsErrAnd}
use Rattle.std.specs.List.{slice_split, list_any, starts_with, ends_with}
use Rattle.std.specs.Str.{bytes_eq}
use Rattle.disk.specs.Paths.{slash, path_in}
use Rattle.disk.specs.State.{State, IsLawful}
use Rattle.disk.specs.declared.binding.Binding.TheVariants.{Nothing}
use Rattle.disk.specs.declared.cause.Cause.{Cause}
use Rattle.disk.specs.declared.fault.Fault.{Fault}
use Rattle.disk.specs.declared.fault.Fault.TheVariants.{Absent, Failed, Memory}
use Rattle.std.specs.declared.io.ErrorKind.{ErrorKind}
use Rattle.std.specs.declared.io.ErrorKind.TheVariants.{NotFound, OutOfMemory}

-- a part of a path that names something in its folder, and neither the folder itself nor the one above it
pub record IsPlain (part : List ℕ) : Type 0 where
  pub some : part ≢ []
  pub no_self : part ≢ codes "."
  pub no_above : part ≢ codes ".."

-- a path that does not leave its folder: the folder itself, or plain parts with a slash between them
abbrev pub IsProper : List ℕ → Type 0
IsProper path = (path ≡ []) ⊎ All IsPlain (slice_split (λ b. b == slash) path)

-- the host's folder for a dataset: the empty string is the folder that the program runs in
abbrev pub folder_or_dot : List ℕ → List ℕ
folder_or_dot [] = codes "."
folder_or_dot (b ∷ path) = b ∷ path

-- where a path of the dataset stands on the host, whose folder for it is `root`
abbrev pub host_path : List ℕ → List ℕ → List ℕ
host_path root [] = root
host_path root (b ∷ path) = path_in root (b ∷ path)

-- which fault an error of an input or output call is; the system's own lack of memory comes in the midst of a call
-- and is a failure
abbrev pub fault_of : ErrorKind → Bool → Fault
fault_of NotFound from_system = Absent
fault_of OutOfMemory false = Memory
fault_of _ _ = Failed

-- the call is not done, for this fault
abbrev pub FailsWith : {T : Type 0} → Result T Cause → Fault → Type 0
FailsWith result fault = IsErrAnd result (λ c. c.fault ≡ fault)

-- what was done, or the fault only
abbrev pub fault_alone : {T : Type 0} → Result T Cause → Result T Fault
fault_alone (Ok done) = Ok done
fault_alone (Err c) = Err c.fault

-- a name that a dataset could have given: of its root, of the next root, of a key folder (`name=value`) or of a part file
abbrev pub is_dataset_name : List ℕ → Bool
is_dataset_name name = bytes_eq name (codes "_metadata") || (bytes_eq name (codes "_metadata.new") || (list_any (λ b. b == 61) name
    || (starts_with (λ a b. a == b) name (codes "part.") && ends_with (λ a b. a == b) name (codes ".parquet"))))

-- what is claimed of a real folder: its counters, and nothing else
abbrev pub host_state : ℕ → ℕ → State
host_state failed counted = record {
  seen = record { names = λ _. Nothing; bytes = λ _. [] };
  moment = 0;
  images = λ _ _. ⊥;
  doubted = λ _. ⊥;
  failures = failed;
  reads = counted;
  honest = ⊥;
}

-- the state that is claimed of a real folder is lawful, since it is not honest
pub host_lawful : (failed counted : ℕ) → IsLawful (host_state failed counted)
host_lawful failed counted = record { seen_may_stay = λ no. absurd no; whole = λ no. absurd no }
